use Rattle.std.proofs.Common.{[], subst, suc, length, map, Option}
use Rattle.spec_stylesheet.specs.Instruction.{bindings}
use Rattle.spec_run.specs.Content.{called, passed}
use Rattle.xt_syntax.specs.PartView.{site_of}
use Rattle.xt_syntax.specs.InstrView.{binding_of}
use Rattle.spec_node.specs.declared.node_ref.NodeRef.{NodeRef}
use Rattle.xt_frames.specs.View.{here_of, after_body}
use Rattle.xt_frames.specs.Left.{left_in, Does}
use Rattle.xt_frames.proofs.Lefts.{if_ok}
use Rattle.xt_instructions.proofs.control.call.Goals as goal

pub returns-in-None : goal.returns-in-None
returns-in-None c =
    let e = rw (c.as_slice.ensures.value, c.deref.ensures) at c.in-None.ensures in
    let r = c.args.run.now in
    let b = c.args.body in
    let bs = bindings (map binding_of c.args.bindings.now.value.items) in
    if_ok c.nothing.result c.nothing.ensures (λ next h ask.
    let P : Option NodeRef → Type 0 = λ o. Does ask (called (site_of c.args.site.now) (here_of b.here) (λ k. passed bs (here_of b.here) [] k) o (after_body b (left_in r))) (suc (length r.frames.items)) r c.nothing.new.run next in
    subst P e (h ask))

pub returns-in-Some : goal.returns-in-Some
returns-in-Some c =
    let e = rw (c.as_slice.ensures.value, c.deref.ensures) at c.in-Some.ensures in
    let r = c.args.run.now in
    let b = c.args.body in
    let bs = bindings (map binding_of c.args.bindings.now.value.items) in
    if_ok c.call_element.result c.call_element.ensures (λ next h ask.
    let P : Option NodeRef → Type 0 = λ o. Does ask (called (site_of c.args.site.now) (here_of b.here) (λ k. passed bs (here_of b.here) [] k) o (after_body b (left_in r))) (suc (length r.frames.items)) r c.call_element.new.run next in
    subst P e (h ask))
