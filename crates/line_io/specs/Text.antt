-- Texts.
use Rattle.std.specs.Prelude.{ℕ, List}

-- a text is its bytes
abbrev pub Text : Type 0
Text = List ℕ
