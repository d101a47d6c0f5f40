-- What a text is once something was to be appended to it, also where memory was wanted on the way.
use Rattle.std.specs.Prelude.{◌≡◌, ◌++◌, String, string_bytes}
use Rattle.std.specs.declared.alloc.Global.{Global}
use Rattle.filing_model.specs.Common.Text.{Text}

-- a front of the piece was appended: nothing, all of it, or what stands between
pub record IsFrontAppended (old new piece : Text) : Type 0 where
  pub front : Text
  pub rest : Text
  pub appended : new ≡ old ++ front
  pub parts : piece ≡ front ++ rest

-- it was appended to a string
abbrev pub IsFrontPushed : String Global → String Global → Text → Type 0
IsFrontPushed old new piece = IsFrontAppended (string_bytes old) (string_bytes new) piece
