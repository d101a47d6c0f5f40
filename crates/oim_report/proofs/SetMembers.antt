-- The members in which a declared value is set, as values that a program holds.
use Rattle.std.proofs.Common.{◌≡◌, ◌∙◌, ap, rules, codes, String, string_bytes, BTreeMap, Global}
use Rattle.serde_json.specs.Data.{string, object, Members, put}
use Rattle.serde_json.specs.View.{view, members_view}
use Rattle.serde_json.specs.declared.value.Value.{Value, Object, the_lemmas}
use Rattle.serde_json.specs.declared.value.Value as value
use Rattle.serde_json.proofs.Views.{view-Object}
use Rattle.filing_model.specs.Reading.ReadReport.{allowed_word}
use Rattle.filing_model.specs.Reading.DeclaredValue.{features_in, declaring}
use Rattle.filing_model.specs.declared.duplicates.Allowed.{Allowed}

view-String : (text : String Global) → view (value.String text) ≡ string (string_bytes text)
view-String text = search (rules, the_lemmas)

pub members_set : (ms set fs : Members) (features : BTreeMap (String Global) Value) (word : String Global) (allowed : Allowed)
    → fs ≡ features_in ms → string_bytes word ≡ allowed_word allowed
    → members_view features.entries ≡ put (codes "xbrl:allowedDuplicates") (view (value.String word)) fs
    → set ≡ put (codes "features") (view (Object features)) ms
    → set ≡ declaring ms allowed
members_set ms set fs features word allowed fs_is word_is features_are set_is =
    set_is
    ∙ ap (λ d. put (codes "features") d ms)
    (view-Object features
    ∙ ap object (features_are
    ∙ (λ i. put (codes "xbrl:allowedDuplicates") ((view-String word ∙ ap string word_is) i) (fs_is i))))
