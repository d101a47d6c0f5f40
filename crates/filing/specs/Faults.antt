-- How the program ends.
use Rattle.std.specs.Prelude.{◌≡◌, ℕ, Bool, true, List, [], ◌∷◌, ◌++◌, Result, Ok, Err, IsUtf8}
use Rattle.filing_model.specs.Oim.Facts.{Table}
use Rattle.filing_model.specs.Oim.Tables.{read_table_of}
use Rattle.filing_model.specs.declared.faults.TableFault.{TableFault}
use Rattle.filing_model.specs.declared.faults.TableFault.TheVariants as table
use Rattle.line_io.specs.declared.fault.ScriptFault.{ScriptFault}
use Rattle.line_io.specs.declared.fault.ScriptFault.TheVariants as script
use Rattle.filing_threads.specs.declared.fault.ThreadsFault.{ThreadsFault}
use Rattle.filing_threads.specs.declared.fault.ThreadsFault.TheVariants as threads
use Rattle.journal_file.specs.declared.fault.FileFault.{FileFault}
use Rattle.journal_file.specs.declared.fault.FileFault.TheVariants as file
use Rattle.filing_args.specs.declared.fault.WordsFault.{WordsFault}
use Rattle.filing_args.specs.declared.fault.WordsFault.TheVariants as words
use Rattle.filing.specs.declared.fault.Fault.{Fault}
use Rattle.filing.specs.declared.fault.Fault.TheVariants.{Words, TooManyScripts, Read, Write, TableLine, TableNotText}
use Rattle.filing.specs.declared.fault.Fault.TheVariants.{HistoryLine, JournalInUse, JournalLine, JournalEntry, NotAJournal, OtherTable, TooDeep, NoMemory}
use Rattle.filing.specs.declared.files.misplaced.Misplaced.{Misplaced}
use Rattle.filing.specs.declared.files.misplaced.Misplaced.TheVariants as misplaced

-- words that were refused were told as such
abbrev pub words_fault_of : WordsFault → Fault
words_fault_of words.Refused = Words
words_fault_of words.Write = Write
words_fault_of words.NoMemory = NoMemory

-- a script without an end is one that could not be read
abbrev pub fault_of : ScriptFault → Fault
fault_of script.Read = Read
fault_of script.Write = Write
fault_of script.Endless = Read
fault_of (script.NoMemory line) = NoMemory

-- a reviewer without a place is told as want of memory
abbrev pub threads_fault_of : ThreadsFault → Fault
threads_fault_of threads.Write = Write
threads_fault_of threads.NoMemory = NoMemory
threads_fault_of threads.NoPlace = NoMemory

-- of a script with a journal: a line whose entry would nest too deep is told as such, though no step was taken as for want of memory
abbrev pub journaled_fault_of : Bool → ScriptFault → Fault
journaled_fault_of true (script.NoMemory line) = TooDeep line
journaled_fault_of deep fault = fault_of fault

-- what a run with a journal ends with: this status, or its fault
abbrev pub journaled_status : ℕ → Bool → Result (Unit {0}) ScriptFault → Result ℕ Fault
journaled_status status deep (Ok x) = Ok status
journaled_status status deep (Err fault) = Err (journaled_fault_of deep fault)

-- a journal's file that cannot be opened is one that could not be written
abbrev pub file_fault_of : FileFault → Fault
file_fault_of file.Busy = JournalInUse
file_fault_of file.NoMemory = NoMemory
file_fault_of (file.Io error) = Write
file_fault_of file.NotAFile = Write

-- a history that can be kept nowhere is one that could not be written
abbrev pub misplaced_fault_of : Misplaced → Fault
misplaced_fault_of misplaced.NoMemory = NoMemory
misplaced_fault_of other = Write

-- a bad line of a numeric table keeps its number
abbrev pub table_fault_of : TableFault → Fault
table_fault_of (table.BadLine number) = TableLine number
table_fault_of table.NoMemory = NoMemory

-- what a file's bytes are as a numeric table: all of them are UTF-8, else no bad line is told
abbrev pub IsTableOf : List ℕ → Result Table Fault → Type 0
IsTableOf bytes (Ok t) = IsUtf8 bytes × (read_table_of bytes ≡ Ok t)
IsTableOf bytes (Err (TableLine number)) = IsUtf8 bytes × (read_table_of bytes ≡ Err (table.BadLine number))
IsTableOf bytes (Err TableNotText) = ¬ IsUtf8 bytes
IsTableOf bytes (Err NoMemory) = Unit {0}
IsTableOf bytes (Err Words) = ⊥
IsTableOf bytes (Err TooManyScripts) = ⊥
IsTableOf bytes (Err Read) = ⊥
IsTableOf bytes (Err Write) = ⊥
IsTableOf bytes (Err (HistoryLine number)) = ⊥
IsTableOf bytes (Err JournalInUse) = ⊥
IsTableOf bytes (Err (JournalLine number)) = ⊥
IsTableOf bytes (Err (JournalEntry number)) = ⊥
IsTableOf bytes (Err NotAJournal) = ⊥
IsTableOf bytes (Err OtherTable) = ⊥
IsTableOf bytes (Err (TooDeep number)) = ⊥

-- the lines of a table that is one stand after those of others, with a line feed after them; or the table has this fault
abbrev pub AddsTable : List ℕ → List ℕ → List ℕ → Result (Unit {0}) Fault → Type 0
AddsTable bytes before after (Ok x) = (after ≡ before ++ (bytes ++ (10 ∷ []))) × ((t : Table) × IsTableOf bytes (Ok t))
AddsTable bytes before after (Err fault) = IsTableOf bytes (Err fault)

-- 1 after a read or write fault, 2 where the words, the number of scripts or the numeric table were wrong,
-- 3 where memory ran out, 4 where a history or a journal departs
abbrev pub status_of : Fault → ℕ
status_of Read = 1
status_of Write = 1
status_of Words = 2
status_of TooManyScripts = 2
status_of (TableLine number) = 2
status_of TableNotText = 2
status_of JournalInUse = 1
status_of (TooDeep number) = 1
status_of NoMemory = 3
status_of (HistoryLine number) = 4
status_of (JournalLine number) = 4
status_of (JournalEntry number) = 4
status_of NotAJournal = 4
status_of OtherTable = 2

-- the status that the program ends with: that of what it did, or that of its fault
abbrev pub status_after : Result ℕ Fault → ℕ
status_after (Ok status) = status
status_after (Err fault) = status_of fault
