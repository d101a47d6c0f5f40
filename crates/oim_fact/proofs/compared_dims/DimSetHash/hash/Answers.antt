use Rattle.std.proofs.Common.{◌∙◌, ap}
use Rattle.std.specs.List.{fold}
use Rattle.filing_model.specs.Oim.Dimensions.{dims_hash}
use Rattle.oim_fact.proofs.ComparedDims.{hashed}
use Rattle.oim_fact.proofs.compared_dims.DimSetHash.hash.Goals as goal

pub returns : goal.returns
returns g c =
    c.hash.ensures
    ∙ ap (λ fed. fold g.H.Hasher.write c.args.state.now fed) (hashed c.pairs.result.now)
    ∙ ap (λ ds. fold g.H.Hasher.write c.args.state.now (dims_hash ds)) c.pairs.ensures.list
