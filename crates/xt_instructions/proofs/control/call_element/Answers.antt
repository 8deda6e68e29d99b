use Rattle.std.proofs.Common.{◌≡◌, ℕ, [], None, Vec, Global, subst, suc, length, map, if◌then◌else◌, refl}
use Rattle.spec_stylesheet.specs.Place.{Place}
use Rattle.spec_stylesheet.specs.Instruction.{bindings}
use Rattle.spec_meaning.specs.Stream.{Ended}
use Rattle.spec_run.specs.Plan.{Enter, Plan, Put, Ruling, UnitOf, SameRule, RuleIs}
use Rattle.spec_run.specs.Content.{Here, passed}
use Rattle.xt_syntax.specs.declared.instr.Binding.{Binding}
use Rattle.xt_syntax.specs.PartView.{place_of}
use Rattle.xt_syntax.specs.InstrView.{binding_of}
use Rattle.spec_node.specs.declared.node_ref.NodeRef.{NodeRef}
use Rattle.xt_frames.specs.View.{here_of, after_body}
use Rattle.xt_frames.specs.Left.{left_in, Does}
use Rattle.xt_frames.proofs.Lefts.{if_ok}
use Rattle.xt_instructions.proofs.Into.{behind_body}
use Rattle.xt_instructions.proofs.control.call_element.Goals as goal

pub returns : goal.returns
returns c =
    let r = c.args.run.now in
    let b = c.args.body in
    let h = c.in_ok-here.here in
    if_ok c.pass.result c.pass.ensures (λ next does ask.
    let F : Vec Binding Global → Here NodeRef → Ruling → Place → ℕ → Plan NodeRef → Plan NodeRef =
    λ bs here ruling p depth after. Put Ended (passed (bindings (map binding_of bs.items)) here [] (λ parameters. Enter (record { target = UnitOf c.args.element; node = here.node; parameters = parameters; position = here.position; size = here.size; ruling = ruling; by = p }) depth after)) in
    let after = after_body b (left_in r) in
    let same = c.in_ok-here.ensures.here in
    let rules : Here NodeRef → Ruling = λ x. if x.ruled then SameRule else RuleIs None in
    let whole = behind_body ask (F c.in_ok-bindings.bindings.value (here_of h) (rules (here_of h)) (place_of c.in_ok-by.by) h.depth) r c.put_rest.new.run c.pass.new.run b _ next refl c.in_ok-here.ensures.pushed (rw c.ruling_at.ensures at does ask) in
    let e : F c.in_ok-bindings.bindings.value (here_of h) (rules (here_of h)) (place_of c.in_ok-by.by) h.depth after ≡ F c.args.bindings.now.value (here_of b.here) (rules (here_of b.here)) (place_of c.args.site.now.place) b.here.depth after =
    λ i. F (c.in_ok-bindings.ensures i) (same i) (rules (same i)) (c.in_ok-by.ensures i) (c.in_ok-here.ensures.depth i) after in
    let P : Plan NodeRef → Type 0 = λ p. Does ask p (suc (length r.frames.items)) r c.pass.new.run next in
    subst P e whole)
