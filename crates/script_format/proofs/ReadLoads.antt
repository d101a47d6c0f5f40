-- A load as its line was read is one of the value.
use Rattle.std.proofs.Common.{◌≡◌, ◌∙◌, ap, sym, refl, Bool, true, false, cond, not, ◌&&◌, ◌||◌, codes, Option, None, Some, is_some, unwrap_or}
use Rattle.std.proofs.Common.{option_map, option_and_then, true≢false}
use Rattle.json.specs.Json as read
use Rattle.json.specs.Find as found
use Rattle.serde_json.specs.Data.{Data, null, object, Members, no_members}
use Rattle.serde_json.specs.Find.{at, as_str, as_object}
use Rattle.serde_json.specs.Read.{of_json, of_members}
use Rattle.filing_model.specs.Common.Text.{Text, text_eq}
use Rattle.oim_report.proofs.InRange.{at_of, place_in, text_at_of, the_value}
use Rattle.script_format.specs.Loads.{is_report, load_parts}
use Rattle.script_format.specs.declared.line.Verb.TheVariants as verb
use Rattle.script_format.specs.ScriptLines.{◌>>=◌, Load, ends_at, line_of, line_of_verb, line_of_word, report_part_at, text_at}

three : (a b c : Bool) → (a && b && c) ≡ true → (a ≡ true) × (b ≡ true) × (c ≡ true)
three true true true h = (refl, refl, refl)
three true true false h = absurd (true≢false (sym h))
three true false c h = absurd (true≢false (sym h))
three false b c h = absurd (true≢false (sym h))

none_there : (o : Option read.Json) → not (is_some o) ≡ true → o ≡ None
none_there None h = refl
none_there (Some j) h = absurd (true≢false (sym h))

passed : {A : Type 0} (b : Bool) (x y : A) → cond b (Some x) None ≡ Some y → (b ≡ true) × (x ≡ y)
passed true x y h = (refl, ap (λ o. unwrap_or o x) h)
passed false x y h = absurd (cc)

-- what a load as it was read consists of
pub record Parts (w n : Option Text) (r e : Option read.Json) (name : Text) (report : read.Json) : Type 0 where
  pub word : Text
  pub begins : w ≡ Some word
  pub loads : text_eq word (codes "load") ≡ true
  pub named : n ≡ Some name
  pub third : r ≡ Some report
  pub kind : is_report report ≡ true
  pub ends : e ≡ None

abbrev chosen : Text → Text → read.Json → Option read.Json → Option (Text × read.Json)
chosen word name report e = cond (text_eq word (codes "load") && is_report report && not (is_some e)) (Some (name, report)) None

parts_by : (w n : Option Text) (r e : Option read.Json) (name : Text) (report : read.Json)
    → (w >>= λ word. n >>= λ name. r >>= λ report. chosen word name report e) ≡ Some (name, report) → Parts w n r e name report
parts_by None n r e name report h = absurd (cc)
parts_by (Some word) None r e name report h = absurd (cc)
parts_by (Some word) (Some m) None e name report h = absurd (cc)
parts_by (Some word) (Some m) (Some part) e name report h =
    let both = passed (text_eq word (codes "load") && is_report part && not (is_some e)) (m, part) (name, report) h in
    let all = three _ _ _ both.0 in
    let same : part ≡ report = ap (λ p. p.1) both.1 in
    record {
      word = word;
      begins = refl;
      loads = all.0;
      named = ap (λ p. Some p.0) both.1;
      third = ap (λ p. Some p) same;
      kind = ap is_report (sym same) ∙ all.1;
      ends = none_there e all.2;
    }

kind_of_object : (o : Option Members) (r : Data) → option_map object o ≡ Some r → (is_some (as_object r) || is_some (as_str r)) ≡ true
kind_of_object None r h = absurd (cc)
kind_of_object (Some ms) r h = ap (λ o. is_some (as_object (unwrap_or o r)) || is_some (as_str (unwrap_or o r))) (sym h)

kind_of : (m : read.Json) (r : Data) → is_report m ≡ true → of_json m ≡ Some r → (is_some (as_object r) || is_some (as_str r)) ≡ true
kind_of read.null r is h = absurd (true≢false (sym is))
kind_of (read.boolean b) r is h = absurd (true≢false (sym is))
kind_of (read.number s) r is h = absurd (true≢false (sym is))
kind_of (read.string s) r is h = ap (λ o. is_some (as_object (unwrap_or o r)) || is_some (as_str (unwrap_or o r))) (sym h)
kind_of (read.array js) r is h = absurd (true≢false (sym is))
kind_of (read.object ms) r is h = kind_of_object (of_members ms no_members) r h

picked : {A : Type 0} (b : Bool) (x y : A) → b ≡ true → cond b x y ≡ x
picked b x y h = ap (λ b. cond b x y) h

loads_by : (d : Data) (word name : Text) (r : Data) → text_at 0 d ≡ Some word → text_eq word (codes "load") ≡ true → text_at 1 d ≡ Some name
    → report_part_at 2 d ≡ Some r → at 3 d ≡ None → line_of d ≡ Some (Load name r)
unfolding line_of
loads_by d word name r begins loads named third ends =
    ap (λ o. o >>= λ word. line_of_word word d) begins
    ∙ ap (λ o. o >>= λ v. line_of_verb v d) (picked (text_eq word (codes "load")) (Some verb.Load) _ loads)
    ∙ ap (λ o. o >>= λ name. report_part_at 2 d >>= λ report. ends_at 3 d >>= λ ended. Some (Load name report)) named
    ∙ ap (λ o. o >>= λ report. ends_at 3 d >>= λ ended. Some (Load name report)) third
    ∙ ap (λ o. cond (is_some o) None (Some tt) >>= λ ended. Some (Load name r)) ends

-- the line of a load as it was read is a load of its report
pub load_is : (j : read.Json) (d : Data) (name : Text) (report : read.Json) → of_json j ≡ Some d → load_parts j ≡ Some (name, report)
    → (is_some (of_json report) ≡ true) × (line_of d ≡ Some (Load name (unwrap_or (of_json report) null)))
load_is j d name report is h =
    let parts = parts_by (option_and_then found.as_str (found.at 0 j)) (option_and_then found.as_str (found.at 1 j))
    (found.at 2 j) (found.at 3 j) name report h in
    let inside = place_in 2 j report (ap is_some is) parts.third in
    let r = unwrap_or (of_json report) null in
    let third : at 2 d ≡ Some r = at_of 2 j d is ∙ ap (option_and_then of_json) parts.third ∙ the_value (of_json report) inside in (
      inside,
      loads_by d parts.word name r (text_at_of 0 j d parts.word is parts.begins) parts.loads (text_at_of 1 j d name is parts.named)
          (ap (λ o. o >>= λ part. cond (is_some (as_object part) || is_some (as_str part)) (Some part) None) third
          ∙ ap (λ b. cond b (Some r) None) (kind_of report r parts.kind (the_value (of_json report) inside)))
          (at_of 3 j d is ∙ ap (option_and_then of_json) parts.ends),
    )
