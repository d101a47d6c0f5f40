use Rattle.std.proofs.Common.{◌∙◌, ap, map, sym}
use Rattle.std.specs.Prelude.{option_map}
use Rattle.filing_step.specs.Steps.{thing_of}
use Rattle.filing_session.specs.States.{with_thing}
use Rattle.filing_session.proofs.ThingsEntered.{entered}
use Rattle.filing_session.proofs.session.enter.Goals as goal

pub returns-in-Ok : goal.returns-in-Ok
returns-in-Ok c =
    ap (map thing_of) c.in-Ok.ensures.keys
    ∙ entered c.args.reads.now.keys c.in-Some.thing
    ∙ sym (ap (λ o. with_thing (map thing_of c.args.reads.now.keys) (option_map thing_of o)) c.in-Some.is)
