use Rattle.std.proofs.Common.{◌∙◌, ap, sym, subst, Some}
use Rattle.filing_office.specs.Runs.{RunState, NamedDeskState, IsLearnt}
use Rattle.filing_office.proofs.Learning.{all_known, learns, prefix_length, still_learnt}
use Rattle.filing_office.proofs.named_desk.NamedDesk.learn.Goals as goal

pub returns-clause-learns : goal.returns-clause-learns
returns-clause-learns g c =
    let seen = c.in-Some.reviewer in
    let now = c.learn_all.new.reviewer in
    let told = c.args.told.now in
    let t : RunState = record { tally = c.self.inside.desk; seen = Some now; names = c.self.inside.names } in
    let known = subst (λ (u : NamedDeskState). IsLearnt u told) (sym c.self.view_is) c.requires.learnt in
    learns c.args.self.now.state t told seen now (sym (ap (λ (u : NamedDeskState). u.state.seen) c.self.view_is) ∙ c.in-Some.is)
    (ap (λ (u : NamedDeskState). record u.state { seen = Some now }) c.self.view_is) c.learn_all.ensures.goes_on _
    (all_known c.self.inside.learnt c.self.inside.reviewer seen now told c.learn_all.result c.in-Some.is c.learn_all.ensures.goes_on known.receipts
    c.if-is_err.ensures.negation c.learn_all.ensures.learnt)

pub returns-then-is_err-clause-learns : goal.returns-then-is_err-clause-learns
returns-then-is_err-clause-learns g c =
    let seen = c.in-Some.reviewer in
    let now = c.learn_all.new.reviewer in
    let t : RunState = record { tally = c.self.inside.desk; seen = Some now; names = c.self.inside.names } in
    learns c.args.self.now.state t c.args.told.now seen now (sym (ap (λ (u : NamedDeskState). u.state.seen) c.self.view_is) ∙ c.in-Some.is)
    (ap (λ (u : NamedDeskState). record u.state { seen = Some now }) c.self.view_is) c.learn_all.ensures.goes_on _ tt

pub returns-then-is_err-clause-err : goal.returns-then-is_err-clause-err
returns-then-is_err-clause-err g c =
    let seen = c.in-Some.reviewer in
    let now = c.learn_all.new.reviewer in
    let told = c.args.told.now in
    let known = subst (λ (u : NamedDeskState). IsLearnt u told) (sym c.self.view_is) c.requires.learnt in
    record {
      few = known.few;
      receipts = still_learnt c.self.inside.learnt c.self.inside.reviewer seen now told c.in-Some.is (prefix_length seen now c.learn_all.ensures.goes_on) known.receipts;
    }
