-- A list that grows by an item, and by a block that is cut off.
use Rattle.std.proofs.Common.{◌≡◌, ◌∙◌, ap, sym, List, [], ◌∷◌, ◌++◌, append_assoc}
use Rattle.std.specs.List.{flat_map}
use Rattle.sorted_pages.proofs.Flats.{flat_map-append, flat_map-push}

pub cuts_one : {X E : Type 0} (v : X → List E) (above new : List E) (block rest after : List X) (item : X)
    → new ≡ above ++ flat_map v block → block ++ after ≡ rest ++ item ∷ [] → new ++ flat_map v after ≡ (above ++ flat_map v rest) ++ v item
cuts_one v above new block rest after item n e =
    ap (λ es. es ++ flat_map v after) n ∙ append_assoc above (flat_map v block) (flat_map v after)
    ∙ ap (λ es. above ++ es) (sym (flat_map-append v block after) ∙ ap (flat_map v) e ∙ flat_map-push v rest item)
    ∙ sym (append_assoc above (flat_map v rest) (v item))
