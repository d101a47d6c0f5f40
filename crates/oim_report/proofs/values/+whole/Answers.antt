use Rattle.oim_report.proofs.SortedMembers.{sorted_members}
use Rattle.oim_report.proofs.WholeNumbers.{all_writable}
use Rattle.oim_report.proofs.values.+whole.Goals as goal

pub are_members_whole-returns-clause-writable : goal.are_members_whole-returns-clause-writable
are_members_whole-returns-clause-writable t c = λ _. (
  sorted_members c.args.members.now.entries c.into_iter-name-iterator.ensures.into_iter_gives.5,
  all_writable _ _ c.in-None.ensures.steps.0 c.loop-name.invariant,
)
