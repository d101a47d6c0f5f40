-- The pairs were sorted, which changes neither the set nor its first fault.
use Rattle.std.proofs.Common.{◌∙◌, ap, sym, subst, Ok}
use Rattle.filing_model.specs.Oim.Dimensions.{dims_of}
use Rattle.oim_fact.specs.Texts.{names_in, NoneFalls}
use Rattle.oim_fact.specs.Dims.{dims_view}
use Rattle.oim_fact.proofs.SortedDims.{NoneFalls-dims, dims_of-moved, given, refused}
use Rattle.oim_fact.proofs.dims.DimSet.of.Goals as goal

pub first_fault-requires : goal.first_fault-requires
first_fault-requires c =
    subst (λ ps. NoneFalls (names_in (dims_view ps))) (sym c.deref.ensures.value)
    (NoneFalls-dims c.sort_unstable.new.self.items c.sort_unstable.ensures.sorted)

pub returns-in-Some : goal.returns-in-Some
returns-in-Some c =
    refused c.first_fault.result c.in-Some.fault _ _ c.first_fault.ensures c.in-Some.is
    ∙ ap (λ ps. dims_of (dims_view ps)) c.deref.ensures.value
    ∙ dims_of-moved c.args.pairs.items _ c.sort_unstable.ensures.permutation

pub returns-in-None : goal.returns-in-None
returns-in-None c =
    ap (λ ps. Ok (dims_view ps)) (sym c.deref.ensures.value)
    ∙ given c.first_fault.result _ _ c.first_fault.ensures c.in-None.is
    ∙ ap (λ ps. dims_of (dims_view ps)) c.deref.ensures.value
    ∙ dims_of-moved c.args.pairs.items _ c.sort_unstable.ensures.permutation
