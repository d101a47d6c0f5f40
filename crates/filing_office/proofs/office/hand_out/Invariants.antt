use Rattle.std.proofs.Common.{◌≡◌, ◌+◌, All, vec_len}
use Rattle.filing_office.specs.Tallies.{nothing_taken}
use Rattle.filing_office.proofs.office.hand_out.Given as goal

abbrev pub invariant-loop : goal.invariant-loop
invariant-loop g l =
    (vec_len l.shares ≡ l.counter) × All (λ d. d ≡ nothing_taken) l.shares.items
    × (l.steps.parts + l.counter ≡ l.desks) × (l.steps.amount ≡ 0)
    × (l.receipts.parts + l.counter ≡ l.desks) × (l.receipts.amount ≡ 0)
