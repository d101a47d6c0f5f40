-- How an office ends. The project's own.
use Rattle.std.specs.Prelude.{◌≡◌}
use Rattle.std.specs.declared.alloc.Global.{Global}
use Rattle.std.specs.declared.vec.Vec.{Vec}
use Rattle.core.specs.declared.ledger.Ledger.{Ghosts}
use Rattle.filing_office.specs.Tallies.{Tally}
use Rattle.filing_office.specs.declared.fault.FinishFault.{FinishFault}
use Rattle.filing_office.specs.declared.fault.FinishFault.TheVariants.{DeskMissing}

-- the desks come back as they were handed in
abbrev pub gives_back : {L M : Type 0} {l : Ghosts L} {m : Ghosts M} → FinishFault L M l m → Vec Tally Global → Type 0
gives_back (DeskMissing office desks) handed = desks ≡ handed
