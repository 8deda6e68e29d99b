use Rattle.std.proofs.Common.{◌∙◌, sym, ap}
use Rattle.std.proofs.lemmas.Result.{on_ok_weaker}
use Rattle.spec_result.specs.Shape.{with_attributes}
use Rattle.xt_result.specs.View.{opening_of}
use Rattle.xt_result.proofs.Openings.{one_there, none_there}
use Rattle.xt_result.proofs.declare.push_at.Goals as goal

pub returns-in-None : goal.returns-in-None
returns-in-None c =
    ap (λ xs. with_attributes xs (opening_of c.args.opening.now))
    (sym (none_there c.attributes.inside.by_name.entries _ c.args.index c.attributes.view_is (sym (c.in-None.ensures {u = tt}).entry)))

pub returns-in-Some : goal.returns-in-Some
returns-in-Some c =
    on_ok_weaker c.push_attribute.result
    (λ (e : _). e
    ∙ ap (λ xs. with_attributes xs (opening_of c.args.opening.now))
    (sym (one_there c.attributes.inside.by_name.entries _ c.args.index _ c.attributes.view_is (sym (c.in-Some.ensures {u = tt}).entry))))
    c.push_attribute.ensures
