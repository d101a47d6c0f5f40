use Rattle.std.proofs.Common.{◌∙◌, ap, refl}
use Rattle.filing_facts.specs.Hashes.{fed_with, fed_dims, fed_text, fed_value}
use Rattle.filing_facts.proofs.FedDims.{fed_one_more}
use Rattle.filing_facts.proofs.hashes.hash_of_pairs.Goals as goal

pub loop-name-init : goal.loop-name-init
unfolding fed_dims
loop-name-init c = refl

pub loop-name-preserved : goal.loop-name-preserved
loop-name-preserved c =
    fed_one_more c.new-state.result c.args.pairs.now c.loop-name.name-index c.loop-name-item.result c.feed_text.new.state c.feed_value.new.state
    c.loop-name-test.true c.loop-name-item.is
    (c.feed_text.ensures ∙ (λ i. fed_with (c.loop-name.invariant i) (fed_text (c.deref.ensures i))))
    (c.feed_value.ensures ∙ ap (λ v. fed_with c.feed_text.new.state (fed_value v)) c.as_deref.ensures.value)
