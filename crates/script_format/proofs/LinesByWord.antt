-- What holds of each line that is no load and asks nothing, holds of a line by its word.
use Rattle.std.proofs.Common.{◌≡◌, refl, Option, Some, None, option_and_then}
use Rattle.serde_json.specs.Data.{Data}
use Rattle.filing_model.specs.Common.Text.{Text}
use Rattle.filing_model.specs.declared.kind.Kind.{Kind}
use Rattle.script_format.specs.ScriptLines.{◌>>=◌, Line, Open, Commit, Close, Export}
use Rattle.script_format.specs.ScriptLines.{kind_of_word, text_at, ends_at, load_of, open_of, commit_of, close_of, export_of}
use Rattle.script_format.specs.ScriptLines.{asking_line, line_of_verb, line_of_word}
use Rattle.script_format.specs.Verbs.{verb_of_word}
use Rattle.script_format.specs.declared.line.Verb.{Verb}
use Rattle.script_format.specs.declared.line.Verb.TheVariants as verb

-- it holds where there is no line, and of these
pub record HoldsOfOthers (P : Option Line → Type 0) : Type 0 where
  pub none : P None
  pub opens : (session : Text) (kind : Kind) → P (Some (Open session kind))
  pub commit : (session : Text) → P (Some (Commit session))
  pub close : (session : Text) → P (Some (Close session))
  pub export : (name : Text) → P (Some (Export name))

module _ (P : Option Line → Type 0) (others : HoldsOfOthers P) where
  pub then : {A : Type 0} (first : Option A) (second : A → Option Line) → ((x : A) → P (second x)) → P (first >>= second)
  then None second h = others.none
  then (Some x) second h = h x

  of_open : (d : Data) → P (open_of d)
  of_open d =
      then (text_at 1 d) _ (λ session. then (option_and_then kind_of_word (text_at 2 d)) _ (λ kind.
      then (ends_at 3 d) _ (λ ended. others.opens session kind)))

  of_commit : (d : Data) → P (commit_of d)
  of_commit d = then (text_at 1 d) _ (λ session. then (ends_at 2 d) _ (λ ended. others.commit session))

  of_close : (d : Data) → P (close_of d)
  of_close d = then (text_at 1 d) _ (λ session. then (ends_at 2 d) _ (λ ended. others.close session))

  of_export : (d : Data) → P (export_of d)
  of_export d = then (text_at 1 d) _ (λ name. then (ends_at 2 d) _ (λ ended. others.export name))

  of_verb : (d : Data) (v : Verb) → P (load_of d) → P (asking_line v d) → P (line_of_verb v d)
  of_verb d verb.Load load asking = load
  of_verb d verb.Open load asking = of_open d
  of_verb d verb.Commit load asking = of_commit d
  of_verb d verb.Close load asking = of_close d
  of_verb d verb.Export load asking = of_export d
  of_verb d verb.Get load asking = asking
  of_verb d verb.Cell load asking = asking
  of_verb d verb.Page load asking = asking
  of_verb d verb.Add load asking = asking
  of_verb d verb.Remove load asking = asking
  of_verb d verb.Declared load asking = asking
  of_verb d verb.Declare load asking = asking

  by_verb : (d : Data) (word : Text) (o : Option Verb) → verb_of_word word ≡ o → P (load_of d)
      → ((v : Verb) → verb_of_word word ≡ Some v → P (asking_line v d)) → P (o >>= λ v. line_of_verb v d)
  by_verb d word None is load asking = others.none
  by_verb d word (Some v) is load asking = of_verb d v load (asking v is)

  pub of_word : (d : Data) (word : Text) → P (load_of d) → ((v : Verb) → verb_of_word word ≡ Some v → P (asking_line v d))
      → P (line_of_word word d)
  of_word d word load asking = by_verb d word (verb_of_word word) refl load asking
