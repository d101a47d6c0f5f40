use Rattle.text_map.proofs.ComparedHeads.{same_in_head}
use Rattle.text_map.proofs.named_value.order_in_head.Goals as goal

pub returns-then-stand_in_heads : goal.returns-then-stand_in_heads
returns-then-stand_in_heads c =
    let (long, few) = c.stand_in_heads.ensures c.if-stand_in_heads.true in
    same_in_head c.args.name.now c.args.other.now (λ i. (c.type_inv.name i).fits) (λ i. (c.type_inv.other i).fits)
    c.requires long few
