use Rattle.std.proofs.Common.{◌≡◌, ℕ, ◌+◌, ◌<◌, Bool, true, List, ◌++◌, length, drop, get_or, codes, Option, String, string_bytes, refl, rules}
use lib.Utf8.{encode}
use Rattle.std.specs.declared.alloc.Global.{Global}
use Rattle.serde_json.specs.Written.{comma_if}
use Rattle.filing_model.specs.Common.Text.{Text}
use Rattle.filing_model.specs.Reading.Writing.{listed, member_text, nullable_text}
use Rattle.oim_fact.specs.Dims.{dims_view}
use Rattle.oim_fact.specs.Texts.{text_view}
use Rattle.oim_report.specs.Appended.{IsFrontAppended}
use Rattle.oim_report.proofs.Fronts.{on_err, front_before, front_behind, front_underway, underway_first, underway_next, listed_next}
use Rattle.oim_report.proofs.fact_text.push_pairs.Goals as goal

abbrev Pair : Type 0
Pair = String Global × Option (String Global)

abbrev pair_text : Pair → Text
pair_text pair = member_text (string_bytes pair.0) (nullable_text (text_view pair.1))

abbrev texts : Bool → List Pair → Text
texts later pairs = listed later (λ d. member_text d.0 (nullable_text d.1)) (dims_view pairs)

next : (later : Bool) (pairs : List Pair) (i : ℕ) (pair : Pair) → i < length pairs → pair ≡ get_or pairs i pair
    → texts later (drop i pairs) ≡ comma_if later ++ (pair_text pair ++ texts true (drop (i + 1) pairs))
next later pairs i pair below is =
    listed_next later (λ d. member_text d.0 (nullable_text d.1)) (λ p. (string_bytes p.0, text_view p.1)) pairs i pair below is

pub loop-name-init : goal.loop-name-init
loop-name-init c = underway_first _ _

pub loop-name-preserved : goal.loop-name-preserved
loop-name-preserved c =
    let left = next c.loop-name.later c.args.pairs.now c.loop-name.name-index _ c.loop-name-test.true c.loop-name-item.is in
    let dim : string_bytes c.push_dim.new.out ≡ string_bytes c.push_comma.new.out ++ pair_text c.loop-name-item.result = search rules in
    underway_next _ (underway_next (comma_if c.loop-name.later) c.loop-name.invariant left c.in_ok-push_comma.ensures.text) refl dim

pub returns-in_err-push_comma-clause-front : goal.returns-in_err-push_comma-clause-front
unfolding encode
returns-in_err-push_comma-clause-front c =
    let left = next c.loop-name.later c.args.pairs.now c.loop-name.name-index _ c.loop-name-test.true c.loop-name-item.is in
    on_err c.from_residual-in_err-push_comma.result
    (front_behind (codes "{") c.in_ok-push.ensures.bytes
    (front_before (codes "}") (front_underway _ c.loop-name.invariant left c.in_err-push_comma.ensures.front)))

pub returns-in_err-push_dim-clause-front : goal.returns-in_err-push_dim-clause-front
unfolding encode
returns-in_err-push_dim-clause-front c =
    let left = next c.loop-name.later c.args.pairs.now c.loop-name.name-index _ c.loop-name-test.true c.loop-name-item.is in
    let dim : IsFrontAppended (string_bytes c.push_comma.new.out) (string_bytes c.push_dim.new.out)
    (pair_text c.loop-name-item.result) = search rules in
    let comma = underway_next (comma_if c.loop-name.later) c.loop-name.invariant left c.in_ok-push_comma.ensures.text in
    on_err c.from_residual-in_err-push_dim.result
    (front_behind (codes "{") c.in_ok-push.ensures.bytes (front_before (codes "}") (front_underway _ comma refl dim)))
