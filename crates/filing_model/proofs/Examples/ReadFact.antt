-- Worked examples of what is read of a fact object.
use Rattle.std.specs.Prelude.{◌≡◌, ℤ, negsuc, [], ◌∷◌, codes, Option, None, Some, Result, Ok, Err, ok_or, refl}
use Rattle.filing_model.specs.Common.Text.{Text}
use Rattle.filing_model.specs.Common.Try.{◌>>=◌}
use Rattle.filing_model.specs.Reading.JsonText.{json_of}
use Rattle.filing_model.specs.Reading.ReadFact.{raw_fact_of}
use Rattle.filing_model.specs.Oim.Facts.{RawFact}
use Rattle.filing_model.specs.declared.faults.Trouble.{Trouble}
use Rattle.filing_model.specs.declared.faults.Trouble.TheVariants.{WrongShape, NotWhole}
use Rattle.filing_model.proofs.OnLiterals.{filing_on_literals}

-- the raw fact of a JSON text
abbrev read_raw : Text → Result RawFact Trouble
read_raw text = do
  d ← ok_or (json_of text) WrongShape
  raw_fact_of d

-- a fact of this concept with these decimals
abbrev pub raw : Text → Option Text → Option ℤ → RawFact
raw name value decimals = record { dims = (codes "concept", Some name) ∷ []; value = value; decimals = decimals; links = None }

pub all_members : read_raw (codes
    "{\"value\": \"1000\", \"links\": {\"b\": [], \"a\": 1}, \"decimals\": -3, \"dimensions\": {\"unit\": \"u\", \"concept\": \"ex:Assets\"}, \"x\": 1.5}")
    ≡ Ok (record {
      dims = (codes "concept", Some (codes "ex:Assets")) ∷ (codes "unit", Some (codes "u"))
          ∷ [];
      value = Some (codes "1000");
      decimals = Some (negsuc 2);
      links = Some (codes "{\"a\":1,\"b\":[]}");
    })
unfolding filing_on_literals
all_members = refl

-- the kind of `decimals` is looked at before `links`, and the dimensions last
pub decimals_before_links : read_raw (codes "{\"value\":\"1\",\"decimals\":1.0,\"links\":null,\"dimensions\":{}}") ≡ Err NotWhole
unfolding filing_on_literals
decimals_before_links = refl
