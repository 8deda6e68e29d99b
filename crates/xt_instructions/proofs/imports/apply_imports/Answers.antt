use Rattle.std.proofs.Common.{None, Some}
use Rattle.spec_stylesheet.specs.Instruction.{ApplyImports}
use Rattle.spec_run.specs.Content.{imports_applied, planned_without}
use Rattle.xt_syntax.specs.PartView.{site_of}
use Rattle.xt_questions.specs.View.{current_of}
use Rattle.xt_frames.specs.View.{here_of, after_body}
use Rattle.xt_frames.specs.Left.{left_in}
use Rattle.xt_frames.proofs.Lefts.{if_ok}
use Rattle.xt_instructions.proofs.Ruled.{once_known}
use Rattle.xt_instructions.proofs.imports.apply_imports.Goals as goal

pub returns-in-None-clause-does : goal.returns-in-None-clause-does
returns-in-None-clause-does g c =
    let truth = (g.W.World.state c.args.world.now).truth in
    let old = c.args.run.now in
    let mid = c.current_rule.new.run in
    let b = c.args.body in
    let s = site_of c.args.site.now in
    let h = here_of b.here in
    let passes = rw c.in-None.is at c.in-Ok.ensures.passes truth (after_body b (left_in old)) in
    if_ok c.refuse.result c.refuse.ensures (λ next does.
    once_known truth (λ after. planned_without s h ApplyImports after) (λ after. imports_applied s h None after) b old mid mid next passes c.current_rule.ensures.still (does truth h (after_body b (left_in mid)) _ mid))

pub returns-in-Some-clause-does : goal.returns-in-Some-clause-does
returns-in-Some-clause-does g c =
    let truth = (g.W.World.state c.args.world.now).truth in
    let old = c.args.run.now in
    let mid = c.current_rule.new.run in
    let b = c.args.body in
    let s = site_of c.args.site.now in
    let h = here_of b.here in
    let passes = rw c.in-Some.is at c.in-Ok.ensures.passes truth (after_body b (left_in old)) in
    if_ok c.apply_imported.result c.apply_imported.ensures.does (λ next does.
    once_known truth (λ after. planned_without s h ApplyImports after) (λ after. imports_applied s h (Some (current_of c.in-Some.rule)) after) b old mid c.apply_imported.new.run next passes c.current_rule.ensures.still does)
