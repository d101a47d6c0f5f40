-- How deep a JSON text nests.
use Rattle.std.specs.Prelude.{◌≡◌, ◌≤◌, ℕ, IsUtf8}
use Rattle.json.specs.Lex as lex
use Rattle.json.specs.Json.{Json}
use Rattle.json.specs.Tree.{json_tokens, depth}
use Rattle.filing_model.specs.Common.Text.{Text}

-- the text is UTF-8, and a JSON value whose tokens are those of the text nests its arrays and objects no deeper than
-- this.
-- That there is such a value is not said: a text that is no JSON nests within each number.
pub record NestsWithin (most : ℕ) (text : Text) : Type 0 where
  pub utf8 : IsUtf8 text
  pub shallow : (json : Json) → lex.tokens text ≡ json_tokens json → depth json ≤ most
