-- The pieces of which the text of a fact is made.
use Rattle.std.specs.Prelude.{ℤ, codes, Option, ◌++◌}
use Rattle.filing_model.specs.Common.Text.{Text}
use Rattle.filing_model.specs.Oim.Dimensions.{Dims}
use Rattle.filing_model.specs.Reading.Writing.{decimals_text, dims_text, links_text}

-- what stands in the text of a fact before its value
unfoldable pub before_value : Option ℤ → Dims → Option Text → Text
before_value decimals dims links =
    codes "{" ++ (decimals_text decimals
    ++ (codes "\"dimensions\":" ++ (dims_text dims
    ++ (links_text links ++ codes ",\"value\":"))))
