use Rattle.std.proofs.Common.{◌≡◌, ◌∙◌, [], sym, ap}
use Rattle.std.proofs.lemmas.List.{nil_from_length}
use Rattle.xt_content.specs.Kind.{parted}
use Rattle.xt_content.specs.View.{added, children_in, parts_in}
use Rattle.xt_content.proofs.Parting.{added_nothing}
use Rattle.xt_content.proofs.child.parted.Goals as goal

pub returns : goal.returns
returns c =
    let end : c.loop-child.child-iterator.rest.items ≡ [] = nil_from_length _ (sym c.loop-child.child-iterator.rest.ok.0 ∙ (c.in-None.ensures {u = tt}).steps.0) in
    sym (added_nothing (parts_in c.loop-child.parts))
    ∙ ap (λ rest. added (parts_in c.loop-child.parts) (parted (children_in rest))) (sym end)
    ∙ c.loop-child.invariant
