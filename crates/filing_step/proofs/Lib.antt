pub mod OrderedParts
