-- Proof that what is read by the definition is what the grammar says, by the laws of numerals.
use Rattle.std.proofs.Common.{◌≡◌, ℤ, Result, ap, sym, ◌∙◌}
use Rattle.filing_model.specs.Common.Text.{Text}
use Rattle.filing_model.specs.Oim.Numerals.{number_of}
use Rattle.filing_model.specs.declared.faults.NumberFault.{NumberFault}
use Rattle.filing_model.proofs.Oim.Numerals.{short_spellings_have_their_number, long_spellings_are_too_large, only_spellings_are_numbers}
use Rattle.oim_value.specs.Reading.{IsReadAsSpelled}

pub read_as_spelled : (text : Text) (result : Result ℤ NumberFault) → result ≡ number_of text → IsReadAsSpelled text result
read_as_spelled text result e = record {
  short = λ s good short is. let law = short_spellings_have_their_number s good short in (law.0, e ∙ ap number_of (sym is) ∙ law.1, law.2);
  long = λ s good long is. e ∙ ap number_of (sym is) ∙ long_spellings_are_too_large s good long;
  only = λ number. only_spellings_are_numbers text (λ refused. number (e ∙ refused));
}
