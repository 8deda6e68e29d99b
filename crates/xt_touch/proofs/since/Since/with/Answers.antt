use Rattle.std.proofs.Common.{[], ◌∷◌, ◌++◌, map, ap, ◌∙◌}
use Rattle.std.proofs.lemmas.List.{map-append}
use Rattle.xt_touch.specs.View.{marked_by}
use Rattle.xt_touch.proofs.since.Since.with.Goals as goal

pub returns : goal.returns
returns c =
    ap (map (λ marks. marked_by marks.value)) c.in_ok-push.ensures.items
    ∙ map-append (λ marks. marked_by marks.value) c.in_ok-since.since.changes.items (c.in_ok-new.field-0 ∷ [])
    ∙ (λ i. c.in_ok-since.ensures i ++ marked_by (c.in_ok-new.ensures.ok i) ∷ [])
