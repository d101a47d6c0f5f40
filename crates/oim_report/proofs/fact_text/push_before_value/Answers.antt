use Rattle.std.proofs.Common.{codes, string_bytes}
use lib.Utf8.{encode}
use Rattle.filing_model.specs.Reading.Writing.{decimals_text, dims_text, links_text}
use Rattle.oim_fact.specs.Texts.{text_view}
use Rattle.oim_report.specs.Pieces.{before_value}
use Rattle.oim_report.proofs.Fronts.{on_err, front_before, front_behind, front_pushed}
use Rattle.oim_report.proofs.WrittenPieces.{once_appended, six_pieces}
use Rattle.oim_report.proofs.fact_text.push_before_value.Goals as goal

pub returns-clause-text : goal.returns-clause-text
unfolding before_value encode
returns-clause-text c =
    let decimals = decimals_text c.args.decimals.now in
    let dims = dims_text c.args.dims.now in
    let links = links_text (text_view c.args.links.now) in
    once_appended c.push_str-2.result _ (string_bytes c.push_links.new.out) (codes ",\"value\":")
    c.push_str-2.ensures.bytes
    (λ last.
    six_pieces (string_bytes c.args.out.now) _ _ _ _ _ _
    (codes "{") decimals (codes "\"dimensions\":") dims links (codes ",\"value\":")
    c.in_ok-push.ensures.bytes c.in_ok-push_decimals.ensures.text c.in_ok-push_str.ensures.bytes
    c.in_ok-push_dims.ensures.text c.in_ok-push_links.ensures.text last)

pub returns-in_err-push_decimals-clause-front : goal.returns-in_err-push_decimals-clause-front
unfolding before_value encode
returns-in_err-push_decimals-clause-front c =
    on_err c.from_residual-in_err-push_decimals.result
    (front_behind (codes "{") c.in_ok-push.ensures.bytes (front_before _ c.in_err-push_decimals.ensures.front))

pub returns-in_err-push_str-clause-front : goal.returns-in_err-push_str-clause-front
unfolding before_value encode
returns-in_err-push_str-clause-front c =
    let name = front_pushed c.push_str.result (codes "\"dimensions\":") c.push_str.ensures.bytes in
    on_err c.from_residual-in_err-push_str.result
    (front_behind (codes "{") c.in_ok-push.ensures.bytes
    (front_behind (decimals_text c.args.decimals.now) c.in_ok-push_decimals.ensures.text (front_before _ name)))

pub returns-in_err-push_dims-clause-front : goal.returns-in_err-push_dims-clause-front
unfolding before_value encode
returns-in_err-push_dims-clause-front c =
    on_err c.from_residual-in_err-push_dims.result
    (front_behind (codes "{") c.in_ok-push.ensures.bytes
    (front_behind (decimals_text c.args.decimals.now) c.in_ok-push_decimals.ensures.text
    (front_behind (codes "\"dimensions\":") c.in_ok-push_str.ensures.bytes
    (front_before _ c.in_err-push_dims.ensures.front))))

pub returns-in_err-push_links-clause-front : goal.returns-in_err-push_links-clause-front
unfolding before_value encode
returns-in_err-push_links-clause-front c =
    on_err c.from_residual-in_err-push_links.result
    (front_behind (codes "{") c.in_ok-push.ensures.bytes
    (front_behind (decimals_text c.args.decimals.now) c.in_ok-push_decimals.ensures.text
    (front_behind (codes "\"dimensions\":") c.in_ok-push_str.ensures.bytes
    (front_behind (dims_text c.args.dims.now) c.in_ok-push_dims.ensures.text
    (front_before _ c.in_err-push_links.ensures.front)))))

pub returns-clause-front : goal.returns-clause-front
unfolding before_value encode
returns-clause-front c =
    let name = front_pushed c.push_str-2.result (codes ",\"value\":") c.push_str-2.ensures.bytes in
    on_err c.push_str-2.result
    (front_behind (codes "{") c.in_ok-push.ensures.bytes
    (front_behind (decimals_text c.args.decimals.now) c.in_ok-push_decimals.ensures.text
    (front_behind (codes "\"dimensions\":") c.in_ok-push_str.ensures.bytes
    (front_behind (dims_text c.args.dims.now) c.in_ok-push_dims.ensures.text
    (front_behind (links_text (text_view c.args.links.now)) c.in_ok-push_links.ensures.text name)))))
