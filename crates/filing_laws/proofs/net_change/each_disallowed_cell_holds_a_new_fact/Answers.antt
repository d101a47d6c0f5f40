use Rattle.filing_laws.proofs.net_change.each_disallowed_cell_holds_a_new_fact.Goals as goal
use Rattle.filing_laws.proofs.Updating.NewFacts.{each_disallowed_cell_holds_a_new_fact, each_disallowed_cell_of_a_copy_holds_a_new_fact}

pub returns-clause-changes : goal.returns-clause-changes
returns-clause-changes c = each_disallowed_cell_holds_a_new_fact

pub returns-clause-copies : goal.returns-clause-copies
returns-clause-copies c = each_disallowed_cell_of_a_copy_holds_a_new_fact
