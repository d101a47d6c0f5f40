-- The words by which lines begin. The project's own.
use Rattle.std.specs.Prelude.{Option, None, Some, codes, if◌then◌else◌}
use Rattle.filing_model.specs.Common.Text.{Text, text_eq}
use Rattle.script_format.specs.declared.line.Verb.{Verb}
use Rattle.script_format.specs.declared.line.Verb.TheVariants as verb

abbrev pub verb_word : Verb → Text
verb_word verb.Load = codes "load"
verb_word verb.Open = codes "open"
verb_word verb.Commit = codes "commit"
verb_word verb.Close = codes "close"
verb_word verb.Export = codes "export"
verb_word verb.Get = codes "get"
verb_word verb.Cell = codes "cell"
verb_word verb.Page = codes "page"
verb_word verb.Add = codes "add"
verb_word verb.Remove = codes "remove"
verb_word verb.Declared = codes "declared"
verb_word verb.Declare = codes "declare"

-- of those that ask something of a session
abbrev pub asking_verb_of_word : Text → Option Verb
asking_verb_of_word word =
    if text_eq word (codes "get") then Some verb.Get
    else if text_eq word (codes "cell") then Some verb.Cell
    else if text_eq word (codes "page") then Some verb.Page
    else if text_eq word (codes "add") then Some verb.Add
    else if text_eq word (codes "remove") then Some verb.Remove
    else if text_eq word (codes "declared") then Some verb.Declared
    else if text_eq word (codes "declare") then Some verb.Declare
    else None

abbrev pub verb_of_word : Text → Option Verb
verb_of_word word =
    if text_eq word (codes "load") then Some verb.Load
    else if text_eq word (codes "open") then Some verb.Open
    else if text_eq word (codes "commit") then Some verb.Commit
    else if text_eq word (codes "close") then Some verb.Close
    else if text_eq word (codes "export") then Some verb.Export
    else asking_verb_of_word word
