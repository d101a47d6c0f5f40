-- ---- members of JSON objects
pub mod EachMember
pub mod SortedMembers
pub mod TakenMembers
pub mod WholeNumbers
-- ---- values whose texts are those that were read
pub mod InRange
pub mod CopiedValues
pub mod OrderedMembers
-- ---- what is read: facts, reports, numeric tables
pub mod ReadFacts
pub mod FactList
pub mod FactsInText
pub mod ReportsByParts
pub mod TableLines
-- ---- what is written, and read back
pub mod Fronts
pub mod GivenEntries
pub mod WrittenPieces
pub mod ReadBackValues
pub mod WrittenFacts
pub mod WrittenReports
pub mod ReadBackInstances
-- ---- setting the declared value
pub mod Utf8Texts
pub mod RisingMembers
pub mod SetInfos
pub mod SetMembers
