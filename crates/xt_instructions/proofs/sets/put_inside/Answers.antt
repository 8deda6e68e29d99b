use Rattle.std.proofs.Common.{◌≡◌, ◌∙◌, Vec, Global, drop, map, ap, subst}
use Rattle.std.specs.List.{flat_map}
use Rattle.spec_stylesheet.specs.Place.{Place}
use Rattle.spec_stylesheet.specs.Instruction.{instrs}
use Rattle.spec_run.specs.Plan.{Plan}
use Rattle.spec_run.specs.Content.{elements_named, sets_used}
use Rattle.xt_syntax.specs.declared.instr.Instr.{Instr}
use Rattle.xt_syntax.specs.InstrView.{instr_of}
use Rattle.xt_syntax.specs.PartView.{place_of}
use Rattle.spec_node.specs.declared.node_ref.NodeRef.{NodeRef}
use Rattle.xt_frames.specs.declared.frame.Frame.TheVariants as frames
use Rattle.xt_frames.specs.declared.standing.Standing.{Standing}
use Rattle.xt_frames.specs.View.{here_of, inside}
use Rattle.xt_instructions.specs.Over.{Precedes}
use Rattle.xt_instructions.proofs.Used.{sets_before}
use Rattle.xt_instructions.proofs.sets.put_inside.Goals as goal

pub returns : goal.returns
returns c =
    let by = place_of c.args.site.now.place in
    let h = here_of c.args.here in
    let names = c.args.names.now in
    let inner = c.in_ok-inner.inner in
    let is_inner = c.in_ok-inner.ensures in
    let same = ap here_of is_inner.here in
    let used = c.in_ok-used.used in
    let is_used = c.in_ok-used.ensures in
    let elements : drop used.next used.elements.items ≡ flat_map (elements_named h.sets) names =
    ap (λ n. drop n used.elements.items) is_used.next ∙ is_used.elements ∙ ap (λ (s : Standing). flat_map (elements_named (here_of s).sets) names) is_inner.here in
    let over = sets_before (frames.Inside inner) used by h names c.args.run.now c.push.new.run c.push_sets.new.run c.in_ok-push.ensures c.in_ok-push_sets.ensures is_used.place (is_used.here ∙ same) elements in
    let F : Place → Vec Instr Global → Standing → Plan NodeRef → Plan NodeRef = λ q is s p. sets_used by h names (inside q (instrs (map instr_of is.items)) (here_of s) p) in
    let P : (Plan NodeRef → Plan NodeRef) → Type 0 = λ first. Precedes first 2 c.args.run.now c.push_sets.new.run in
    subst P (λ i. F (is_inner.place i) (is_inner.content i) (is_inner.here i)) over
