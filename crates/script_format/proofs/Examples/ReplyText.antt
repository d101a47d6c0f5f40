-- Worked examples of the lines of replies.
use Rattle.std.specs.Prelude.{◌≡◌, true, [], ◌∷◌, codes, None, Some, refl}
use Rattle.filing_model.specs.Oim.Dimensions.{Dims}
use Rattle.filing_model.specs.Sessions.Calls.{Exactly}
use Rattle.filing_model.specs.Oim.Facts.{Written}
use Rattle.filing_model.specs.Sessions.Things as thing
use Rattle.filing_model.specs.Reading.ReadReport as report
use Rattle.filing_model.specs.Sessions.Replies.{Found, Cell, Page, Disallowed, Conflict}
use Rattle.filing_model.specs.declared.duplicates.Class.TheVariants as class
use Rattle.filing_model.specs.declared.faults.FactFault.TheVariants.{UnboundPrefix}
use Rattle.filing_model.specs.declared.faults.Trouble.TheVariants.{Fit}
use Rattle.filing_model.proofs.OnLiterals.{filing_on_literals}
use Rattle.script_format.specs.ReplyText.{reply_text, bad_report_text}

abbrev assets : Dims
assets = (codes "concept", Some (codes "ex:Assets")) ∷ (codes "ex:d", None) ∷ []

pub a_text_with_links : reply_text (Found (record { dims = assets; value = Written (codes "a \"b\"\n"); links = Some (codes "{\"a\":1}") }))
    ≡ codes "[\"fact\",{\"dimensions\":{\"concept\":\"ex:Assets\",\"ex:d\":null},\"links\":{\"a\":1},\"value\":\"a \\\"b\\\"\\n\"}]"
unfolding filing_on_literals
a_text_with_links = refl

pub a_cell : reply_text (Cell class.Consistent (codes "f1" ∷ codes "f\"2" ∷ [])) ≡ codes "[\"cell\",\"consistent\",[\"f1\",\"f\\\"2\"]]"
unfolding filing_on_literals
a_cell = refl

pub a_page_with_more : reply_text (Page (codes "f1" ∷ codes "f2" ∷ codes "f3" ∷ []) true) ≡ codes "[\"page\",[\"f1\",\"f2\",\"f3\"],true]"
unfolding filing_on_literals
a_page_with_more = refl

pub a_range_of_one_period : reply_text (Conflict 4 (thing.Range (codes "acme")
    (record { concept = codes "ex:Assets"; period = Exactly (codes "2024"); after = Some (codes "f1") }) None))
    ≡ codes "[\"conflict\",4,[\"range\",\"acme\",\"ex:Assets\",\"2024\",\"f1\",null]]"
unfolding filing_on_literals
a_range_of_one_period = refl

pub a_disallowed_cell : reply_text (Disallowed (codes "acme") class.Inconsistent (codes "f1" ∷ codes "f2" ∷ []))
    ≡ codes "[\"disallowed\",\"acme\",\"inconsistent\",[\"f1\",\"f2\"]]"
unfolding filing_on_literals
a_disallowed_cell = refl

-- ---- what takes no step

pub a_fact_of_a_report : bad_report_text (report.BadFact (codes "f1") (Fit UnboundPrefix)) ≡ codes "[\"bad-report\",\"bad-fact\",\"f1\",\"unbound-prefix\"]"
unfolding filing_on_literals
a_fact_of_a_report = refl
