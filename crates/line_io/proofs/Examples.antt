-- The definitions at small texts: two lines and a part, white space alone, and replies put together.
use Rattle.std.proofs.Common.{◌≡◌, refl, [], ◌∷◌}
use Rattle.line_io.specs.Lines.{last_part, lines_of, lines_text, spoken, whole_lines}

pub with_a_part : lines_of (97 ∷ 10 ∷ 10 ∷ 98 ∷ []) ≡ (97 ∷ []) ∷ [] ∷ (98 ∷ []) ∷ []
unfolding lines_of whole_lines last_part
with_a_part = refl

pub without_the_part : whole_lines (97 ∷ 10 ∷ 10 ∷ 98 ∷ []) ≡ (97 ∷ []) ∷ [] ∷ []
unfolding whole_lines
without_the_part = refl

pub ended : lines_of (97 ∷ 10 ∷ []) ≡ (97 ∷ []) ∷ []
unfolding lines_of whole_lines last_part
ended = refl

pub empty : lines_of [] ≡ []
unfolding lines_of whole_lines last_part
empty = refl

pub without_blanks : spoken ((97 ∷ []) ∷ [] ∷ (32 ∷ 9 ∷ 13 ∷ []) ∷ (12 ∷ []) ∷ []) ≡ (97 ∷ []) ∷ (12 ∷ []) ∷ []
unfolding spoken
without_blanks = refl

pub each_ended : lines_text ((97 ∷ []) ∷ [] ∷ []) ≡ 97 ∷ 10 ∷ 10 ∷ []
unfolding lines_text
each_ended = refl
