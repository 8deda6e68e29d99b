use Rattle.std.proofs.Common.{◌≡◌, ◌<◌, ◌∙◌, arith, length, map, sym, ap}
use Rattle.std.proofs.lemmas.Bool.Decides.{nat_tests}
use Rattle.spec_stylesheet.specs.Instruction.{instrs}
use Rattle.spec_meaning.specs.Value as value
use Rattle.spec_run.specs.Plan.{End, Yield}
use Rattle.spec_run.specs.Content.{planned}
use Rattle.xt_syntax.specs.declared.instr.Binding.{out-Binding}
use Rattle.xt_syntax.specs.InstrView.{instr_of}
use Rattle.xt_frames.specs.declared.frame.Body.{Body}
use Rattle.xt_frames.specs.declared.frame.Frame.TheVariants as frames
use Rattle.xt_frames.specs.View.{here_of}
use Rattle.xt_frames.proofs.Lefts.{if_ok}
use Rattle.xt_frames.proofs.Frames.{performs_steps}
use Rattle.xt_runner.proofs.Globals.{own_select, own_empty, own_content, gives, begun_steps}
use Rattle.xt_runner.proofs.parameters.go_on_own.Goals as goal

pub returns-in-Some-clause-does : goal.returns-in-Some-clause-does
returns-in-Some-clause-does g c =
    if_ok c.evaluate.result c.evaluate.ensures.does (λ next h.
    performs_steps _ (frames.Global c.args.here) _ c.args.run.now c.evaluate.new.run next (c.requires ∙ own_select c.args.binding.now _ (here_of c.args.here) c.in-Some.is) h)

pub returns-then-is_empty-clause-does : goal.returns-then-is_empty-clause-does
returns-then-is_empty-clause-does g c =
    let x = c.args.binding.now in
    let content = (out-Binding x).content in
    let none : length content.value.items ≡ 0 = grind (arith, nat_tests, content.value.ok.0, c.is_empty.ensures, c.deref.ensures, c.if-is_empty.true) in
    gives _ _ _ c.args.run.now _ (c.requires ∙ own_empty x (here_of c.args.here) c.in-None.is none ∙ ap (λ t. Yield (value.Text t)) (sym c.new.ensures))

pub returns-in_ok-share_content-in-None-clause-does : goal.returns-in_ok-share_content-in-None-clause-does
returns-in_ok-share_content-in-None-clause-does g c =
    let x = c.args.binding.now in
    let content = (out-Binding x).content in
    let h = here_of c.args.here in
    let some : 0 < length content.value.items = grind (arith, nat_tests, content.value.ok.0, c.is_empty.ensures, c.deref.ensures, c.if-is_empty.false) in
    let body : Body = record { content = c.in_ok-share_content-in-None.field-0; next = 0; here = c.args.here } in
    let e = c.requires ∙ own_content x h c.in-None.is some ∙ ap (λ v. planned (instrs (map instr_of v.items)) h End) (sym c.in_ok-share_content-in-None.ensures) in
    if_ok c.go_on_body.result c.go_on_body.ensures.does (λ next s.
    begun_steps _ (frames.Body body) _ c.args.run.now c.leave_nothing.new.run c.go_on_body.new.run next c.leave_nothing.ensures.begun c.leave_nothing.ensures.none e s)
