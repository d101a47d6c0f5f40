use Rattle.std.proofs.Common.{◌+◌, Bool, drop, subst, string_bytes}
use Rattle.std.proofs.lemmas.List.{drop_all}
use Rattle.std.specs.Slice.Iter.{iter_rest}
use Rattle.filing_threads.specs.Telling.{NextReply}
use Rattle.filing_threads.proofs.ToldReplies.{IsToldTo, one_told, no_more_text, lines_from, all_text}
use Rattle.filing_threads.proofs.replies.push_replies.Goals as goal

pub loop-at_once-preserved : goal.loop-at_once-preserved
loop-at_once-preserved g c =
    let start = string_bytes c.args.text.now in
    let told = c.args.told.now in
    let os = c.args.outcomes.now in
    let at = c.loop-at_once.at_once-index in
    let line = c.at_once-item.result in
    let before = iter_rest c.loop-at_once.outcomes_left in
    let left = iter_rest c.push_next.new.outcomes in
    let text = string_bytes c.loop-at_once.text in
    let text' = string_bytes c.push_next.new.text in
    let is = subst (λ xs. IsToldTo start told xs os before text)
    (lines_from told at line c.loop-at_once-test.true c.at_once-item.is) c.loop-at_once.invariant in
    let next = subst (λ (there : Bool). NextReply line before left there text text') c.if-not-branch.false c.in_ok-push_next.ensures in
    rw c.in_ok-push_str.ensures.bytes
    (one_told start told line (drop (at + 1) told) os before left text text' is next)

pub returns-then-not-branch-clause-text : goal.returns-then-not-branch-clause-text
returns-then-not-branch-clause-text g c =
    let start = string_bytes c.args.text.now in
    let told = c.args.told.now in
    let os = c.args.outcomes.now in
    let at = c.loop-at_once.at_once-index in
    let line = c.at_once-item.result in
    let before = iter_rest c.loop-at_once.outcomes_left in
    let left = iter_rest c.push_next.new.outcomes in
    let text = string_bytes c.loop-at_once.text in
    let text' = string_bytes c.push_next.new.text in
    let is = subst (λ xs. IsToldTo start told xs os before text)
    (lines_from told at line c.loop-at_once-test.true c.at_once-item.is) c.loop-at_once.invariant in
    let next = subst (λ (there : Bool). NextReply line before left there text text') c.if-not-branch.true c.in_ok-push_next.ensures in
    no_more_text start told line (drop (at + 1) told) os before left text text' is next

pub returns-clause-text : goal.returns-clause-text
returns-clause-text g c =
    let told = c.args.told.now in
    let at = c.loop-at_once.at_once-index in
    all_text (string_bytes c.args.text.now) told (drop at told) c.args.outcomes.now (iter_rest c.loop-at_once.outcomes_left)
    (string_bytes c.loop-at_once.text) (drop_all at told c.loop-at_once-test.false) c.loop-at_once.invariant
