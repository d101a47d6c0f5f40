-- What is written (xBRL-JSON 1.0): compact JSON, with the members of an object in byte order of their names.
use Rattle.std.specs.Prelude.{Bool, true, false, ℤ, List, [], ◌∷◌, ◌++◌, codes, Option, None, Some}
use Rattle.std.specs.Fmt.{signed_decimal}
use Rattle.json.specs.Print.{quoted}
use Rattle.serde_json.specs.Written.{comma_if}
use Rattle.filing_model.specs.Common.Text.{Text}
use Rattle.filing_model.specs.Oim.Dimensions.{Dims}
use Rattle.filing_model.specs.Oim.Facts.{RawFact, Fact, FactValue, Nil, Written, Number}
use Rattle.filing_model.specs.Oim.Reports.{Report}

-- the texts of the items, with a comma before each but the first. Where later is true one stands before the first too
abbrev pub listed : {A : Type 0} → Bool → (A → Text) → List A → Text
listed later text [] = []
listed later text (x ∷ xs) = comma_if later ++ (text x ++ listed true text xs)

-- a member of an object
abbrev pub member_text : Text → Text → Text
member_text name value = quoted name ++ 58 ∷ value

-- a text or null
abbrev pub nullable_text : Option Text → Text
nullable_text None = codes "null"
nullable_text (Some text) = quoted text

abbrev pub dims_text : Dims → Text
dims_text dims = codes "{" ++ (listed false (λ d. member_text d.0 (nullable_text d.1)) dims ++ codes "}")

-- the member `decimals`, if any, with the comma after it
abbrev pub decimals_text : Option ℤ → Text
decimals_text None = []
decimals_text (Some d) = codes "\"decimals\":" ++ (signed_decimal d ++ codes ",")

-- the member `links`, if any, with the comma before it
abbrev pub links_text : Option Text → Text
links_text None = []
links_text (Some links) = codes ",\"links\":" ++ links

unfoldable pub raw_fact_text : RawFact → Text
raw_fact_text raw =
    codes "{" ++ (decimals_text raw.decimals
    ++ (codes "\"dimensions\":" ++ (dims_text raw.dims
    ++ (links_text raw.links
    ++ (codes ",\"value\":" ++ (nullable_text raw.value ++ codes "}"))))))

-- a number's text as it was read
abbrev pub text_of : FactValue → Option Text
text_of Nil = None
text_of (Written text) = Some text
text_of (Number text n decimals) = Some text

-- only a number that is not exact has decimals
abbrev pub decimals_in : FactValue → Option ℤ
decimals_in Nil = None
decimals_in (Written text) = None
decimals_in (Number text n decimals) = decimals

-- the raw fact that is written for a fact
abbrev pub raw_of : Fact → RawFact
raw_of fact =
    record { dims = fact.dims; value = text_of fact.value; decimals = decimals_in fact.value; links = fact.links }

abbrev pub fact_text : Fact → Text
fact_text fact = raw_fact_text (raw_of fact)

unfoldable pub report_text : Report → Text
report_text report =
    codes "{\"documentInfo\":" ++ (report.info
    ++ (codes ",\"facts\":{" ++ (listed false (λ e. member_text e.0 (fact_text e.1)) report.facts.entries
    ++ codes "}}")))
