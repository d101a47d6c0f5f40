use Rattle.std.proofs.Common.{◌≡◌, ◌∙◌, ap, sym, length, map}
use Rattle.std.proofs.lemmas.List.{length-map}
use Rattle.std.specs.List.{filter_map}
use Rattle.session_pictures.specs.Columns.{column_of, columns}
use Rattle.session_pictures.specs.Picture.{label_of, rows_of, shown}
use Rattle.session_pictures.specs.Told.{told_in}
use Rattle.session_pictures.proofs.picture.picture_of_sessions.Goals as goal

pub returns : goal.returns
returns c =
    let ts = map told_in c.args.sessions.now in
    let are : map told_in c.shown-some.result.now ≡ shown c.args.first ts = c.shown-some.ensures.shown in
    let many : length c.shown-some.result.now ≡ length (shown c.args.first ts) = sym (length-map c.shown-some.result.now told_in) ∙ ap length are in
    let versions : c.in_ok-versions.versions.items ≡ columns (shown c.args.first ts) = c.in_ok-versions.ensures ∙ ap columns are in
    let along : c.deref.result.now ≡ columns (shown c.args.first ts) = c.deref.ensures.value ∙ versions in record {
      first_is = c.max-2.ensures;
      all_is = sym (length-map c.args.sessions.now told_in);
      versions_are = versions;
      rows_are = c.in_ok-rows.ensures ∙ (λ i. rows_of (c.max.ensures i) (many i) (along i) (c.max.ensures i) (are i));
      labels_are = c.in_ok-labels.ensures ∙ ap (map label_of) are;
      loads_are = c.in_ok-loads.ensures ∙ ap (λ cs. filter_map (column_of cs) c.args.loaded.now) (c.deref-2.ensures.value ∙ versions);
    }
