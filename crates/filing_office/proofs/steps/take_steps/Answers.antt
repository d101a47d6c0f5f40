use Rattle.std.proofs.Common.{◌≡◌, ◌∙◌, ap, sym, subst, arith, [], ◌∷◌, length, true, false, Vec, Global}
use Rattle.filing_office.specs.Runs.{NamedDeskState, RanAfter, IsLearnt, is_no_memory}
use Rattle.filing_office.proofs.RunsOn.{RunsOn, begins, goes_on, stops, ends, not_from_true, not_from_false, no_items}
use Rattle.filing_office.proofs.steps.take_steps.Goals as goal
use Rattle.filing_office.proofs.steps.take_steps.Goals.{in-None, in-Some+then-not-take_one}

pub loop-k-init : goal.loop-k-init
loop-k-init g c =
    let start = c.args.named_desk.now.state in
    let before = c.args.outcomes.now.items in
    let all = c.args.steps.items in
    let same : c.into_iter-k-iterator.result.iter.rest.items ≡ all =
    ap (λ e. e.iter.rest.items) c.into_iter-k-iterator.ensures.into_iter_gives
    ∙ ap (λ i. i.rest.items) c.enumerate-k-items.ensures.source
    ∙ c.into_iter.ensures.rest in (
      subst (λ xs. RunsOn start start before all xs before) (sym same) (begins start all before),
      c.requires.learnt,
      omega (arith, ap length same, c.args.steps.ok.0, c.requires.room),
    )

pub loop-k-preserved : goal.loop-k-preserved
loop-k-preserved g c =
    let start = c.args.named_desk.now.state in
    let now = c.loop-k.named_desk.state in
    let mid = c.take_one.new.named_desk.state in
    let before = c.args.outcomes.now.items in
    let all = c.args.steps.items in
    let rest = c.next.new.self.iter.rest.items in
    let told = c.loop-k.outcomes.items in
    let went = c.take_one.ensures.goes in
    let run : RunsOn start now before all (c.in-Some.step ∷ rest) told =
    subst (λ xs. RunsOn start now before all xs told) c.in-Some.ensures.steps.0.0 c.loop-k.invariant.0 in
    let more : is_no_memory went.0 ≡ false = not_from_true (is_no_memory went.0) (sym went.3 ∙ c.if-not-take_one.false) in (
      subst (λ os. RunsOn start mid before all rest os) (sym went.2)
          (goes_on start now mid before all rest c.in-Some.step told went.0 run went.1 more),
      c.take_one.ensures.learnt,
      omega (arith, c.loop-k.invariant.2, ap length c.in-Some.ensures.steps.0.0, c.take_one.ensures.len, c.take_one.ensures.room),
    )

pub returns-clause-ran : goal.returns-clause-ran
returns-clause-ran g c =
    let start = c.args.named_desk.now.state in
    let now = c.loop-k.named_desk.state in
    let before = c.args.outcomes.now.items in
    let all = c.args.steps.items in
    let told = c.loop-k.outcomes.items in
    let left = c.loop-k.k-iterator.iter.rest in
    elim c.match-next.branch [
      | in-None w ↦
          let empty : left.items ≡ [] = no_items left.items (sym w.in-None.ensures.steps.0.0 ∙ left.ok.0) in
          let done : RanAfter start now before all told =
          ends start now before all told (subst (λ xs. RunsOn start now before all xs told) empty c.loop-k.invariant.0) in
          subst (λ (u : NamedDeskState). RanAfter start u.state before all c.match-next.outcomes.items) (sym w.named_desk-is)
          (subst (λ os. RanAfter start now before all os) (sym (ap (λ (v : Vec _ Global). v.items) w.outcomes-is)) done)
      | in-Some+then-not-take_one w ↦
          let mid = w.take_one.new.named_desk.state in
          let rest = c.next.new.self.iter.rest.items in
          let went = w.take_one.ensures.goes in
          let run : RunsOn start now before all (w.in-Some.step ∷ rest) told =
          subst (λ xs. RunsOn start now before all xs told) w.in-Some.ensures.steps.0.0 c.loop-k.invariant.0 in
          let last : is_no_memory went.0 ≡ true = not_from_false (is_no_memory went.0) (sym went.3 ∙ w.if-not-take_one.true) in
          subst (λ (u : NamedDeskState). RanAfter start u.state before all c.match-next.outcomes.items) (sym w.named_desk-is)
          (subst (λ os. RanAfter start mid before all os) (sym (ap (λ (v : Vec _ Global). v.items) w.outcomes-is ∙ went.2))
          (stops start now mid before all rest w.in-Some.step told went.0 run went.1 last))
    ]

pub returns-clause-learnt : goal.returns-clause-learnt
returns-clause-learnt g c =
    elim c.match-next.branch [
      | in-None w ↦
          subst (λ (u : NamedDeskState). IsLearnt u c.match-next.outcomes.items) (sym w.named_desk-is)
          (subst (λ os. IsLearnt c.loop-k.named_desk os) (sym (ap (λ (v : Vec _ Global). v.items) w.outcomes-is)) c.loop-k.invariant.1)
      | in-Some+then-not-take_one w ↦
          subst (λ (u : NamedDeskState). IsLearnt u c.match-next.outcomes.items) (sym w.named_desk-is)
          (subst (λ os. IsLearnt w.take_one.new.named_desk os) (sym (ap (λ (v : Vec _ Global). v.items) w.outcomes-is)) w.take_one.ensures.learnt)
    ]
