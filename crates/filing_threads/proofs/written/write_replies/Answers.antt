use Rattle.std.proofs.Common.{◌≡◌, ◌∙◌, ap, sym, subst, Bool, ◌&&◌, ◌∷◌, string_bytes}
use Rattle.line_io.specs.Devices.{Took, TookPart}
use Rattle.filing_threads.specs.Writing.{is_last, is_fed}
use Rattle.filing_threads.proofs.WrittenReplies.{IsWrittenTo, and_false, and_true, fed_so, one_written, one_failed}
use Rattle.filing_threads.proofs.written.write_replies.Goals as goal
use Rattle.filing_threads.proofs.written.write_replies.Goals.{in-Whole, in-StepStarved}

pub loop-replies-preserved : goal.loop-replies-preserved
loop-replies-preserved g c =
    let all = c.args.all_replies.items in
    let rest = c.next.new.self.rest.items in
    let whole = c.loop-replies.whole in
    let replies = c.in_ok-text.field-0 in
    let start = g.W.Sink.state c.args.output.now in
    let now = g.W.Sink.state c.loop-replies.output in
    let next = g.W.Sink.state c.write_all.new.sink in
    let is : IsWrittenTo all (_ ∷ rest) whole start now =
    subst (λ xs. IsWrittenTo all xs whole start now) (c.in-Some.ensures.steps.0 ∙ ap (λ r. r ∷ rest) c.in_ok-text.was) c.loop-replies.invariant in
    let text : c.as_bytes.result.now ≡ string_bytes replies.text = c.as_bytes.ensures.value in
    elim c.match-ending.branch [
      | in-Whole w ↦
          let fed = fed_so replies.ending w.in-Whole.is in
          subst (λ (b : Bool). IsWrittenTo all rest b start next)
          (ap (λ (b : Bool). whole && b) fed.1 ∙ and_true whole ∙ sym w.whole-is)
          (one_written all rest whole start now next replies is fed.0 (subst (λ t. Took now next t 0) text c.in-Ok.ensures))
      | in-StepStarved w ↦
          subst (λ (b : Bool). IsWrittenTo all rest b start next)
          (ap (λ e. whole && is_fed e) w.in-StepStarved.is ∙ and_false whole ∙ sym w.whole-is)
          (one_written all rest whole start now next replies is (ap is_last w.in-StepStarved.is) (subst (λ t. Took now next t 0) text c.in-Ok.ensures))
    ]

pub returns-in_default : goal.returns-in_default
returns-in_default g c =
    let all = c.args.all_replies.items in
    let rest = c.next.new.self.rest.items in
    let whole = c.loop-replies.whole in
    let replies = c.in_ok-text.field-0 in
    let start = g.W.Sink.state c.args.output.now in
    let now = g.W.Sink.state c.loop-replies.output in
    let next = g.W.Sink.state c.write_all.new.sink in
    let is = subst (λ xs. IsWrittenTo all xs whole start now) (c.in-Some.ensures.steps.0 ∙ ap (λ r. r ∷ rest) c.in_ok-text.was) c.loop-replies.invariant in
    let text : c.as_bytes.result.now ≡ string_bytes replies.text = c.as_bytes.ensures.value in
    one_failed all rest whole start now next replies is (subst (λ t. TookPart now next t) text c.in_default.ensures)
