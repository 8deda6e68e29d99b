use Rattle.std.proofs.Common.{◌≡◌, IfOk, ap, length, subst, sym, ◌∙◌, arith, map, ◌+◌}
use Rattle.spec_stylesheet.specs.Instruction.{instrs}
use Rattle.spec_run.specs.Plan.{Plan}
use Rattle.xt_syntax.specs.PartView.{site_of}
use Rattle.xt_syntax.specs.InstrView.{instr_of}
use Rattle.spec_node.specs.declared.node_ref.NodeRef.{NodeRef}
use Rattle.xt_frames.specs.declared.frame.Frame.TheVariants as frames
use Rattle.xt_frames.specs.View.{here_of, inside}
use Rattle.xt_frames.specs.Left.{left_in, Performs}
use Rattle.xt_frames.proofs.Lefts.{if_ok}
use Rattle.xt_frames.proofs.Performs.{does_more}
use Rattle.spec_run.specs.Plan.{Put}
use Rattle.spec_run.specs.Content.{asked, attribute_aliased}
use Rattle.spec_transform.specs.Expansion.{expanded}
use Rattle.xt_syntax.specs.PartView.{avt_of, literal_attribute_of}
use Rattle.xt_frames.specs.View.{attributes_left_of, left_frame}
use Rattle.xt_instructions.proofs.Left.{attributes_from, attribute_none, attribute_next}
use Rattle.xt_instructions.proofs.attributes.next_attribute.Goals as goal

pub returns-then-attributes-list-clause-does : goal.returns-then-attributes-list-clause-does
returns-then-attributes-list-clause-does g c =
    let truth = (g.W.World.state c.args.world.now).truth in
    let old = c.args.run.now in
    let a = c.args.attributes in
    let s = site_of c.args.site.now in
    let is = instrs (map instr_of c.args.content.now.value.items) in
    let after = inside s.place is (here_of a.here) (left_in old) in
    let e = ap length c.as_slice-list.ensures.value in
    let P : Plan NodeRef → Type 0 = λ p. IfOk c.go_into.result (λ next. Performs truth (frames.Attributes a) p old c.go_into.new.run next) in
    subst P (sym (attribute_none c.args.tag.now.attributes.items a.next s (here_of a.here) after (omega (arith, e))))
    (if_ok c.go_into.result c.go_into.ensures (λ next h. does_more truth _ (frames.Attributes a) old c.go_into.new.run next (rw c.in-Ok.ensures at h truth)))

pub returns-clause-does : goal.returns-clause-does
returns-clause-does g c =
    let truth = (g.W.World.state c.args.world.now).truth in
    let old = c.args.run.now in
    let a = c.args.attributes in
    let s = site_of c.args.site.now in
    let is = instrs (map instr_of c.args.content.now.value.items) in
    let after = inside s.place is (here_of a.here) (left_in old) in
    let e = ap length c.as_slice-list.ensures.value in
    let x = c.index-list-attributes.result in
    let f = frames.Attributes (record { content = a.content; number = a.number; next = a.next + 1; here = a.here }) in
    let P : Plan NodeRef → Type 0 = λ p. IfOk c.put_attribute.result (λ next. Performs truth (frames.Attributes a) p old c.put_attribute.new.run next) in
    let one = attribute_next c.args.tag.now.attributes.items a.next x s (here_of a.here) after (omega (arith, e)) (rw c.as_slice-list.ensures.value at c.index-list-attributes.is) in
    let two : attributes_from c.args.tag.now.attributes.items (a.next + 1) s (here_of a.here) after ≡ left_frame f (left_in old) = ap (λ o. attributes_left_of (here_of a.here) (a.next + 1) o (left_in old)) (sym c.requires) in
    subst P (sym (one ∙ ap (λ l. asked s (here_of a.here) (expanded (avt_of x.value)) (λ t. Put (attribute_aliased (here_of a.here).aliases (literal_attribute_of x) t) l)) two)) c.put_attribute.ensures.does
