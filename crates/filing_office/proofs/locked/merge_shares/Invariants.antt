use Rattle.std.proofs.Common.{◌≡◌, ◌+◌, vec_len, sum, map}
use Rattle.filing_office.proofs.locked.merge_shares.Given as goal

-- what is put together and what is left are what there was
abbrev pub invariant-loop-desk : goal.invariant-loop-desk
invariant-loop-desk g l =
    (l.steps.parts + vec_len l.desks ≡ l.fn.steps.parts + vec_len l.fn.desks)
    × (l.steps.amount + sum (map (λ d. d.steps) l.desks.items) ≡ l.fn.steps.amount + sum (map (λ d. d.steps) l.fn.desks.items))
    × (l.receipts.parts + vec_len l.desks ≡ l.fn.receipts.parts + vec_len l.fn.desks)
    × (l.receipts.amount + sum (map (λ d. d.receipts) l.desks.items) ≡ l.fn.receipts.amount + sum (map (λ d. d.receipts) l.fn.desks.items))

abbrev pub decreases-loop-desk : goal.decreases-loop-desk
decreases-loop-desk g l = goal.left-loop-desk g l
