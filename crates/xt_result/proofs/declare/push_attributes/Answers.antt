use Rattle.std.proofs.Common.{◌∙◌, ◌+◌, sym, ap, arith, drop}
use Rattle.std.proofs.lemmas.List.{at_drop_all}
use Rattle.spec_result.specs.Shape.{with_attributes}
use Rattle.xt_result.specs.View.{opening_of}
use Rattle.xt_result.proofs.Openings.{one_attribute, mapped_length}
use Rattle.xt_result.proofs.declare.push_attributes.Goals as goal

pub loop-index-preserved : goal.loop-index-preserved
loop-index-preserved c =
    let list = c.args.attributes.now in
    ap (with_attributes (drop (c.loop-index.index + 1) list)) c.in_ok-push_at.ensures
    ∙ one_attribute list c.loop-index.index (opening_of c.loop-index.opening) ∙ c.loop-index.invariant

pub returns : goal.returns
returns c =
    let list = c.args.attributes.now in
    let all = mapped_length c.attributes.inside.by_name.entries list c.attributes.view_is in
    sym (at_drop_all (λ xs. with_attributes xs (opening_of c.loop-index.opening)) list c.loop-index.index
    (omega (arith, c.loop-index-test.false, c.len-index-end.ensures.len, all)))
    ∙ c.loop-index.invariant
