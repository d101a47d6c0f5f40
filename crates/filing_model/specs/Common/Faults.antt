-- The faults that code may answer, apart from those of the definitions: want of memory comes in place of any, and says nothing of what was read.
use Rattle.std.specs.Prelude.{Option, None, Some}
use Rattle.filing_model.specs.declared.faults.DimFault.{DimFault}
use Rattle.filing_model.specs.declared.faults.DimFault.TheVariants as dim
use Rattle.filing_model.specs.declared.faults.NamesFault.{NamesFault}
use Rattle.filing_model.specs.declared.faults.NamesFault.TheVariants as names
use Rattle.filing_model.specs.declared.faults.TableFault.{TableFault}
use Rattle.filing_model.specs.declared.faults.TableFault.TheVariants as table
use Rattle.filing_model.specs.declared.faults.Trouble.{Trouble}
use Rattle.filing_model.specs.declared.faults.Trouble.TheVariants as trouble

-- the fault, or none where memory is wanted
abbrev pub dim_fault : DimFault → Option DimFault
dim_fault dim.NoMemory = None
dim_fault fault = Some fault

abbrev pub names_fault : NamesFault → Option NamesFault
names_fault names.NoMemory = None
names_fault fault = Some fault

abbrev pub table_fault : TableFault → Option TableFault
table_fault table.NoMemory = None
table_fault fault = Some fault

abbrev pub fact_trouble : Trouble → Option Trouble
fact_trouble trouble.NoMemory = None
fact_trouble fault = Some fault
