use Rattle.std.proofs.Common.{◌≡◌, ℕ, List, [], Vec, Global, subst, length, suc, map, refl}
use Rattle.spec_stylesheet.specs.Instruction.{bindings}
use Rattle.spec_meaning.specs.Context.{Bound}
use Rattle.spec_meaning.specs.Stream.{Ended}
use Rattle.spec_run.specs.Plan.{Plan, Put}
use Rattle.spec_run.specs.Content.{Here, passed, items_entered, sorted, template_called}
use Rattle.xt_syntax.specs.declared.instr.Binding.{Binding}
use Rattle.xt_syntax.specs.PartView.{place_of, sort_key_of}
use Rattle.xt_syntax.specs.InstrView.{binding_of}
use Rattle.spec_node.specs.declared.node_ref.NodeRef.{NodeRef}
use Rattle.xt_frames.specs.View.{here_of, after_body, passed_to}
use Rattle.xt_frames.specs.Left.{left_in, Does}
use Rattle.xt_frames.proofs.Lefts.{if_ok}
use Rattle.xt_instructions.proofs.Into.{behind_body}
use Rattle.xt_instructions.proofs.control.items_of.Goals as goal

pub returns : goal.returns
returns c =
    let r = c.args.run.now in
    let b = c.args.body in
    let after = after_body b (left_in r) in
    let here = c.in_ok-here.here in
    let keys = map sort_key_of c.args.keys.now.value.items in
    let to = c.in_ok-to.to in
    let entered : List (Bound NodeRef) → Here NodeRef → ℕ → List NodeRef → Plan NodeRef =
    λ ps h depth ns. items_entered (place_of c.args.site.now.place) (template_called c.args.name.now h.templates) ps depth ns after in
    let F : Vec Binding Global → Here NodeRef → (List (Bound NodeRef) → Plan NodeRef) → Plan NodeRef = λ bs h k. Put Ended (passed (bindings (map binding_of bs.items)) h [] k) in
    let e : F c.in_ok-bindings.bindings.value (here_of here) (λ ps. passed_to to ps after) ≡ F c.args.bindings.now.value (here_of b.here) (λ ps. sorted keys (here_of here) c.args.nodes.items (entered ps (here_of here) here.depth)) =
    λ i. F (c.in_ok-bindings.ensures i) (c.in_ok-here.ensures.here i) (λ ps. c.in_ok-to.ensures ps after i) in
    let f : F c.args.bindings.now.value (here_of b.here) (λ ps. sorted keys (here_of here) c.args.nodes.items (entered ps (here_of here) here.depth)) ≡ F c.args.bindings.now.value (here_of b.here) (λ ps. sorted keys (here_of b.here) c.args.nodes.items (entered ps (here_of b.here) b.here.depth)) =
    λ i. F c.args.bindings.now.value (here_of b.here) (λ ps. sorted keys (c.in_ok-here.ensures.here i) c.args.nodes.items (entered ps (c.in_ok-here.ensures.here i) (c.in_ok-here.ensures.depth i))) in
    if_ok c.pass.result c.pass.ensures (λ next h ask.
    let does = behind_body ask (λ q. F c.in_ok-bindings.bindings.value (here_of here) (λ ps. passed_to to ps q)) r c.put_rest.new.run c.pass.new.run b _ next refl c.in_ok-here.ensures.pushed (h ask) in
    let P : Plan NodeRef → Type 0 = λ p. Does ask p (suc (length r.frames.items)) r c.pass.new.run next in
    subst P f (subst P e does))
