use Rattle.std.proofs.Common.{nat_lt, sym, ap, ◌∙◌}
use Rattle.std.proofs.lemmas.List.{length-map}
use Rattle.xt_touch.specs.View.{marked_by, most_remembered}
use Rattle.xt_touch.proofs.since.Since.has_room.Goals as goal

pub returns : goal.returns
returns c =
    let changes = c.args.self.now.changes in
    (λ i. nat_lt (c.len.ensures i) (c.most_remembered.ensures i))
    ∙ ap (λ n. nat_lt n most_remembered) (changes.ok.0 ∙ sym (length-map changes.items (λ marks. marked_by marks.value)))
