use Rattle.std.proofs.Common.{Global, sym, ap, ◌∙◌, arith}
use Rattle.std.specs.declared.rc.Rc.{Rc}
use Rattle.spec_run.specs.Plan.{Plan}
use Rattle.spec_run.specs.Content.{Here, unit_planned, declared_planned, here_in}
use Rattle.xt_syntax.specs.PartView.{place_of}
use Rattle.xt_syntax.specs.SheetView.{declared_of}
use Rattle.xt_syntax.specs.declared.unit.Unit.{Unit}
use Rattle.spec_node.specs.Naming.{same_ref}
use Rattle.spec_node.specs.declared.node_ref.NodeRef.{NodeRef}
use Rattle.xt_questions.specs.declared.answer.ResolvedUnit.{ResolvedUnit}
use Rattle.xt_questions.specs.View.{answer_of, bindings_of, resolved_of}
use Rattle.xt_frames.specs.View.{here_of}
use Rattle.xt_frames.proofs.Lefts.{if_ok}
use Rattle.xt_runner.proofs.Passed.{does_as}
use Rattle.xt_runner.proofs.Starts.{nothing_does, no_unit}
use Rattle.xt_runner.proofs.start.begin_answered.Goals as goal

pub returns-in_default-clause-does : goal.returns-in_default-clause-does
returns-in_default-clause-does g c =
    nothing_does (g.W.World.state c.args.world.now).truth _ 3 c.args.run.now (omega arith) (no_unit c.args.node (bindings_of c.args.parameters) c.args.answer c.in_default.not-Resolved) c.requires

pub begin_declared-requires-clause-stands : goal.begin_declared-requires-clause-stands
begin_declared-requires-clause-stands g c =
    ap (λ (u : Rc ResolvedUnit Global). declared_of u.value.unit.value.declared) c.first_of-here.ensures.unit
    ∙ ap (λ (u : ResolvedUnit). declared_of u.unit.value.declared) c.in_ok-share_unit-in-Resolved.ensures
    ∙ sym (ap (λ (u : Unit). declared_of u.declared) c.deref-in-Resolved.ensures ∙ ap (λ (u : ResolvedUnit). declared_of u.unit.value.declared) c.deref.ensures)

pub returns-in_ok-share_unit-in-Resolved-clause-does : goal.returns-in_ok-share_unit-in-Resolved-clause-does
returns-in_ok-share_unit-in-Resolved-clause-does g c =
    let node = c.args.node in
    let given = bindings_of c.args.parameters in
    let F : Unit → Here NodeRef → Plan NodeRef = λ u h. declared_planned (place_of u.site.place) (declared_of u.declared) given h in
    let whole = ap (λ a. unit_planned same_ref node given (answer_of a)) c.in-Resolved.is in
    let stands = c.first_of-here.ensures.here ∙ ap (λ u. here_in same_ref node (resolved_of u)) c.in_ok-share_unit-in-Resolved.ensures in
    let unit = c.deref-in-Resolved.ensures ∙ ap (λ (u : ResolvedUnit). u.unit.value) c.deref.ensures in
    let same = ap (λ u. F u (here_of c.first_of-here.result)) unit ∙ ap (F c.in-Resolved.unit.value.unit.value) stands in
    if_ok c.begin_declared.result c.begin_declared.ensures.does (λ next h. does_as (same ∙ sym whole) h)
