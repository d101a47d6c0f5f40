-- What the examples share: a report, facts of one concept, and a history that is played step by step.
use Rattle.std.proofs.Common.{ℕ, List, [], ◌∷◌, map, reverse, Option, Some, None}
use Rattle.std.specs.Prelude.{codes}
use Rattle.filing_model.specs.Common.Text.{Text}
use Rattle.filing_model.specs.Common.TextMap.{TextMap, empty, insert}
use Rattle.filing_model.specs.Oim.Dimensions.{Dims}
use Rattle.filing_model.specs.Oim.Facts.{Fact, RawFact, Written, Names}
use Rattle.filing_model.specs.Oim.Reports.{Report}
use Rattle.filing_model.specs.Sessions.Calls.{PeriodFilter, Without, PageQuery, Limit, Get, Cell, Page, Add, Remove, Declared, Declare}
use Rattle.filing_model.specs.Sessions.Replies.{Reply}
use Rattle.filing_model.specs.Histories.History.{Step, Load, Open, Ask, Commit, Close, History}
use Rattle.filing_model.specs.Histories.Lawful.{after_step}
use Rattle.filing_model.specs.declared.duplicates.Allowed.{Allowed}
use Rattle.filing_model.specs.declared.kind.Kind.TheVariants.{Review, Amend}

-- ---- reports and facts

abbrev pub names : Names
names = record { prefixes = insert empty (codes "ex") (codes "http://e.org/t"); table = (codes "http://e.org/t", codes "Assets") ∷ [] }

abbrev pub report_with : Allowed → TextMap Fact → Report
report_with allowed facts = record { info = []; names = names; allowed = allowed; facts = facts }

abbrev pub of_concept : Text → Dims
of_concept concept = (codes "concept", Some concept) ∷ []

abbrev pub raw_of : Text → Text → RawFact
raw_of concept value = record { dims = of_concept concept; value = Some value; decimals = None; links = None }

abbrev pub fact_of : Text → Text → Fact
fact_of concept value = record { dims = of_concept concept; value = Written value; links = None }

abbrev pub raw : Text → RawFact
raw value = raw_of (codes "ex:Name") value

abbrev pub fact : Text → Fact
fact value = fact_of (codes "ex:Name") value

-- the same with a period
abbrev pub dated : Text → Text → Fact
dated value period = record (fact value) { dims = (codes "concept", Some (codes "ex:Name")) ∷ (codes "period", Some period) ∷ [] }

abbrev pub facts_from : List (Text × Fact) → TextMap Fact
facts_from [] = empty
facts_from (e ∷ es) = insert (facts_from es) e.0 e.1

abbrev pub holding : Allowed → List (Text × Fact) → Report
holding allowed facts = report_with allowed (facts_from facts)

-- ---- steps, each with the session that takes it

abbrev pub Line : Type 0
Line = Option ℕ × Step

abbrev pub load : Text → Report → Line
load name r = (None, Load name r)

abbrev pub amend : Line
amend = (None, Open Amend)

abbrev pub review : Line
review = (None, Open Review)

abbrev pub gets : ℕ → Text → Text → Line
gets s name id = (Some s, Ask (Get name id))

abbrev pub looks : ℕ → Text → Text → Line
looks s name concept = (Some s, Ask (Cell name (of_concept concept)))

-- a page query of the one concept
abbrev pub query : PeriodFilter → Option Text → PageQuery
query period after = record { concept = codes "ex:Name"; period = period; after = after }

abbrev pub two : Limit
two = record { number = 2; within = tt }

abbrev pub ten : Limit
ten = record { number = 10; within = tt }

-- a page of facts without a period
abbrev pub pages : ℕ → Text → Option Text → Limit → Line
pages s name after limit = (Some s, Ask (Page name (query Without after) limit))

abbrev pub adds : ℕ → Text → Text → RawFact → Line
adds s name id fact = (Some s, Ask (Add name id fact))

abbrev pub removes : ℕ → Text → Text → Line
removes s name id = (Some s, Ask (Remove name id))

abbrev pub asks_value : ℕ → Text → Line
asks_value s name = (Some s, Ask (Declared name))

abbrev pub declares : ℕ → Text → Allowed → Line
declares s name value = (Some s, Ask (Declare name value))

abbrev pub commits : ℕ → Line
commits s = (Some s, Commit)

abbrev pub closes : ℕ → Line
closes s = (Some s, Close)

-- ---- the history of the lines, each with its one next reply

abbrev pub played_on : History → List Line → History
played_on h [] = h
played_on h (l ∷ ls) = played_on (after_step h l.0 l.1) ls

abbrev pub played : List Line → History
played lines = played_on [] lines

-- the replies in order
abbrev pub told : List Line → List Reply
told lines = reverse (map (λ e. e.reply) (played lines))

-- the history with another reply to its newest step
abbrev pub with_last_reply : Reply → History → History
with_last_reply r [] = []
with_last_reply r (e ∷ older) = record e { reply = r } ∷ older
