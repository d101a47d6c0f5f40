use Rattle.std.proofs.Common.{◌∙◌, ap, sym, subst, length, Some, arith}
use Rattle.std.specs.Prelude.{All}
use Rattle.std.proofs.lemmas.List.{take_all}
use Rattle.filing_office.specs.Runs.{NamedDeskState, IsLearnt, IsWithin}
use Rattle.filing_office.proofs.Learning.{reviewed_from, stopped_from, still_learnt, all_known, all_within_more, prefix_length, grows}
use Rattle.filing_office.proofs.named_desk.NamedDesk.review.Goals as goal

pub returns-clause-opened : goal.returns-clause-opened
returns-clause-opened g c =
    let seen = c.in-Some.reviewer in
    let learned = c.learn_all.new.reviewer in
    let now = c.open.new.self in
    let t : NamedDeskState = record { state = record { tally = c.self.inside.desk; seen = Some now; names = c.self.inside.names }; learnt = length c.args.told.now } in
    let known = subst (λ (u : NamedDeskState). IsLearnt u c.args.told.now) (sym c.self.view_is) c.requires.learnt in
    reviewed_from c.args.self.now t c.args.told.now seen learned now (sym (ap (λ (u : NamedDeskState). u.state.seen) c.self.view_is) ∙ c.in-Some.is)
    (ap (λ (u : NamedDeskState). record u.state { seen = Some now }) c.self.view_is) c.learn_all.ensures.goes_on
    c.open.result
    (all_known c.self.inside.learnt c.self.inside.reviewer seen learned c.args.told.now c.learn_all.result
    c.in-Some.is c.learn_all.ensures.goes_on known.receipts c.if-is_err.ensures.negation
    c.learn_all.ensures.learnt)
    c.open.ensures.newest c.open.ensures.chain c.open.ensures.goes_on c.open.ensures.err

pub returns-clause-learnt : goal.returns-clause-learnt
returns-clause-learnt g c =
    let seen = c.in-Some.reviewer in
    let learned = c.learn_all.new.reviewer in
    let now = c.open.new.self in
    let told = c.args.told.now in
    let known = subst (λ (u : NamedDeskState). IsLearnt u told) (sym c.self.view_is) c.requires.learnt in
    let all = all_known c.self.inside.learnt c.self.inside.reviewer seen learned told c.learn_all.result c.in-Some.is
    c.learn_all.ensures.goes_on known.receipts c.if-is_err.ensures.negation c.learn_all.ensures.learnt in
    record {
      few = omega arith;
      receipts =
          subst (λ os. All (IsWithin (length now)) os) (sym (take_all (length told) told (omega arith)))
          (all_within_more (length learned) (length now) told (grows c.open.result learned now c.open.ensures.goes_on c.open.ensures.err) all);
    }

pub returns-then-is_err-clause-opened : goal.returns-then-is_err-clause-opened
returns-then-is_err-clause-opened g c =
    let seen = c.in-Some.reviewer in
    let now = c.learn_all.new.reviewer in
    let t : NamedDeskState = record { state = record { tally = c.self.inside.desk; seen = Some now; names = c.self.inside.names }; learnt = c.self.inside.learnt } in
    stopped_from c.args.self.now t seen now (sym (ap (λ (u : NamedDeskState). u.state.seen) c.self.view_is) ∙ c.in-Some.is)
    (ap (λ (u : NamedDeskState). record u.state { seen = Some now }) c.self.view_is) c.learn_all.ensures.goes_on

pub returns-then-is_err-clause-learnt : goal.returns-then-is_err-clause-learnt
returns-then-is_err-clause-learnt g c =
    let seen = c.in-Some.reviewer in
    let now = c.learn_all.new.reviewer in
    let told = c.args.told.now in
    let known = subst (λ (u : NamedDeskState). IsLearnt u told) (sym c.self.view_is) c.requires.learnt in
    record {
      few = known.few;
      receipts = still_learnt c.self.inside.learnt c.self.inside.reviewer seen now told c.in-Some.is (prefix_length seen now c.learn_all.ensures.goes_on) known.receipts;
    }
