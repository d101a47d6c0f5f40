-- What stands around the digits that count: white space around a numeral, zeros at its outer ends.
use Rattle.std.specs.Prelude.{ℕ, Bool}
use Rattle.filing_model.specs.Oim.Numerals.{is_blank, is_zero}
use Rattle.oim_value.specs.declared.decimal.Padding.{Padding}
use Rattle.oim_value.specs.declared.decimal.Padding.TheVariants.{Blanks, Zeros}

abbrev pub is_padding : Padding → ℕ → Bool
is_padding Blanks byte = is_blank byte
is_padding Zeros byte = is_zero byte
