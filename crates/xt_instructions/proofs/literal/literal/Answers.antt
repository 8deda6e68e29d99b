use Rattle.std.proofs.Common.{◌≡◌, ℕ, List, Option, Vec, Global, suc, length, ap, ◌∙◌, map, subst}
use Rattle.std.specs.Prelude.{slice_get}
use Rattle.spec_stylesheet.specs.Instruction.{Instr}
use Rattle.spec_run.specs.Plan.{Plan, Wrapping, Begin, Wrap}
use Rattle.spec_run.specs.Content.{Here, element_aliased, sets_used}
use Rattle.xt_syntax.specs.declared.instr.Instr as code
use Rattle.xt_syntax.specs.InstrView.{instr_of}
use Rattle.xt_syntax.specs.PartView.{place_of, literal_tag_of}
use Rattle.spec_node.specs.declared.node_ref.NodeRef.{NodeRef}
use Rattle.xt_engine.specs.View.{wrapping_of}
use Rattle.xt_frames.specs.declared.run.Next.TheVariants.{Went}
use Rattle.xt_frames.specs.declared.frame.Frame.TheVariants as frames
use Rattle.xt_frames.specs.View.{here_of, left_frame, after_body, attributes_left_of}
use Rattle.xt_frames.specs.Left.{left_in, Does}
use Rattle.xt_instructions.proofs.Used.{after_begun}
use Rattle.xt_instructions.proofs.literal.literal.Goals as goal

pub returns : goal.returns
returns c ask =
    let r = c.args.run.now in
    let b = c.args.body in
    let p = place_of c.args.site.now.place in
    let names = c.args.tag.now.sets.items in
    let a = c.in_ok-attributes.attributes in
    let is_all = c.in_ok-attributes.ensures in
    let stands : slice_get (map instr_of a.content.value.items) a.number ≡ _ =
    ap (λ (v : Vec code.Instr Global). slice_get (map instr_of v.items) a.number) is_all.content ∙ ap (λ n. slice_get (map instr_of b.content.value.items) n) is_all.number ∙ c.requires.stands in
    let end : wrapping_of c.in_ok-end.end ≡ element_aliased (here_of b.here).aliases (literal_tag_of c.args.tag.now) = rw (c.as_slice.ensures.value, c.deref-2.ensures, c.deref.ensures) at c.in_ok-end.ensures in
    let F : Here NodeRef → ℕ → Option Instr → Wrapping → Plan NodeRef = λ h n i w. Begin (sets_used p h names (attributes_left_of h n i (Wrap w (after_body b (left_in r))))) in
    let e : F (here_of a.here) a.next (slice_get (map instr_of a.content.value.items) a.number) (wrapping_of c.in_ok-end.end) ≡ _ = λ i. F (is_all.here i) (is_all.next i) (stands i) (end i) in
    let P : Plan NodeRef → Type 0 = λ q. Does ask q (suc (length r.frames.items)) r c.put_attributes.new.run Went in
    subst P e (after_begun ask (λ q. sets_used p (here_of a.here) names (left_frame (frames.Attributes a) q)) c.in_ok-end.end b r c.begin.new.run c.put_attributes.new.run c.in_ok-begin.ensures c.in_ok-put_attributes.ensures)
