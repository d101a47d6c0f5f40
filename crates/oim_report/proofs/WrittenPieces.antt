-- Lemmas on the pieces of a text.
use Rattle.std.proofs.Common.{◌≡◌, OnOk, Result, Ok, Err, is_ok, List, ℕ, [], ◌∷◌, ◌++◌, codes, Option, append_assoc, ◌∙◌, sym, ap, subst, ℤ}
use Rattle.std.specs.Bool.{if◌then◌else◌}
use Rattle.filing_model.specs.Common.Text.{Text}
use Rattle.filing_model.specs.Oim.Dimensions.{Dims}
use Rattle.filing_model.specs.Reading.Writing.{decimals_in, decimals_text, dims_text, links_text, nullable_text, text_of, raw_fact_text, fact_text}
use Rattle.oim_fact.specs.declared.fact.FactValue.{FactValue}
use Rattle.oim_fact.specs.Facts.{value_view}
use Rattle.oim_report.specs.Appended.{IsFrontAppended}
use Rattle.oim_report.specs.Pieces.{before_value}
use Rattle.oim_report.proofs.Fronts.{front_before, front_behind}

-- what holds after the last piece was appended, from what the text then is
pub once_appended : {A E Q : Type 0} (r : Result A E) (new old piece : Text)
    → new ≡ if◌then◌else◌ (is_ok r) (old ++ piece) old → (new ≡ old ++ piece → Q) → OnOk r Q
once_appended (Ok x) new old piece h f = f h
once_appended (Err e) new old piece h f = tt

-- six pieces appended one after another
pub six_pieces : (t u v w x y z a b c d e f : Text) → u ≡ t ++ a → v ≡ u ++ b → w ≡ v ++ c → x ≡ w ++ d → y ≡ x ++ e
    → z ≡ y ++ f → z ≡ t ++ (a ++ (b ++ (c ++ (d ++ (e ++ f)))))
six_pieces t u v w x y z a b c d e f u_is v_is w_is x_is y_is z_is =
    z_is ∙ ap (λ s. s ++ f) (y_is ∙ ap (λ s. s ++ e)
    (x_is ∙ ap (λ s. s ++ d) (w_is ∙ ap (λ s. s ++ c) (v_is ∙ ap (λ s. s ++ b) u_is)))) ∙ simp append_assoc

-- five of them
pub five_pieces : (t u v w x y a b c d e : Text) → u ≡ t ++ a → v ≡ u ++ b → w ≡ v ++ c → x ≡ w ++ d → y ≡ x ++ e
    → y ≡ t ++ (a ++ (b ++ (c ++ (d ++ e))))
five_pieces t u v w x y a b c d e u_is v_is w_is x_is y_is =
    y_is ∙ ap (λ s. s ++ e) (x_is ∙ ap (λ s. s ++ d) (w_is ∙ ap (λ s. s ++ c) (v_is ∙ ap (λ s. s ++ b) u_is))) ∙ simp append_assoc

with_value : (before a b c d e f value close : Text)
    → ((before ++ (a ++ (b ++ (c ++ (d ++ (e ++ f)))))) ++ value) ++ close ≡ before ++ (a ++ (b ++ (c ++ (d ++ (e ++ (f ++ (value ++ close)))))))
with_value before a b c d e f value close = simp append_assoc

pub raw_written : (before : Text) (dims : Dims) (value : Option Text) (decimals : Option ℤ) (links : Option Text)
    → ((before ++ before_value decimals dims links) ++ nullable_text value) ++ codes "}" ≡ before
    ++ raw_fact_text (record { dims = dims; value = value; decimals = decimals; links = links })
unfolding before_value raw_fact_text
raw_written before dims value decimals links =
    with_value before (codes "{") (decimals_text decimals) (codes "\"dimensions\":") (dims_text dims) (links_text links)
    (codes ",\"value\":") (nullable_text value) (codes "}")

pub fact_written : (before : Text) (dims : Dims) (value : FactValue) (links : Option Text)
    → ((before ++ before_value (decimals_in (value_view value)) dims links)
    ++ nullable_text (text_of (value_view value))) ++ codes "}" ≡ before
    ++ fact_text (record { dims = dims; value = value_view value; links = links })
fact_written before dims value links = raw_written before dims (text_of (value_view value)) (decimals_in (value_view value)) links

-- ---- a front of the text of a raw fact: it ends before its value, in it, or with all of it

text_in_pieces : (dims : Dims) (value : Option Text) (decimals : Option ℤ) (links : Option Text)
    → before_value decimals dims links ++ (nullable_text value ++ codes "}")
    ≡ raw_fact_text (record { dims = dims; value = value; decimals = decimals; links = links })
text_in_pieces dims value decimals links =
    sym (append_assoc (before_value decimals dims links) (nullable_text value) (codes "}"))
    ∙ raw_written [] dims value decimals links

pub front_before_value : {old new : Text} (dims : Dims) (value : Option Text) (decimals : Option ℤ) (links : Option Text)
    → IsFrontAppended old new (before_value decimals dims links)
    → IsFrontAppended old new (raw_fact_text (record { dims = dims; value = value; decimals = decimals; links = links }))
front_before_value {old = old} {new = new} dims value decimals links front =
    subst (IsFrontAppended old new) (text_in_pieces dims value decimals links) (front_before _ front)

pub front_in_value : {old mid new : Text} (dims : Dims) (value : Option Text) (decimals : Option ℤ) (links : Option Text)
    → mid ≡ old ++ before_value decimals dims links → IsFrontAppended mid new (nullable_text value)
    → IsFrontAppended old new (raw_fact_text (record { dims = dims; value = value; decimals = decimals; links = links }))
front_in_value {old = old} {new = new} dims value decimals links head front =
    subst (IsFrontAppended old new) (text_in_pieces dims value decimals links)
    (front_behind (before_value decimals dims links) head (front_before _ front))

pub front_after_value : {old mid end new : Text} (dims : Dims) (value : Option Text) (decimals : Option ℤ) (links : Option Text)
    → mid ≡ old ++ before_value decimals dims links → end ≡ mid ++ nullable_text value
    → IsFrontAppended end new (codes "}")
    → IsFrontAppended old new (raw_fact_text (record { dims = dims; value = value; decimals = decimals; links = links }))
front_after_value {old = old} {new = new} dims value decimals links head was front =
    subst (IsFrontAppended old new) (text_in_pieces dims value decimals links)
    (front_behind (before_value decimals dims links) head (front_behind (nullable_text value) was front))
