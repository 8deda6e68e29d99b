use Rattle.std.proofs.Common.{IfOk, subst, sym, ap, ◌∙◌}
use Rattle.spec_stylesheet.specs.Instruction as made
use Rattle.spec_run.specs.Content.{planned_control}
use Rattle.xt_syntax.specs.PartView.{site_of}
use Rattle.xt_syntax.specs.InstrView.{control_of}
use Rattle.xt_frames.specs.declared.frame.Frame.TheVariants as frames
use Rattle.xt_frames.specs.View.{here_of, after_body}
use Rattle.xt_frames.specs.Left.{left_in, Performs}
use Rattle.xt_frames.proofs.Lefts.{if_ok}
use Rattle.xt_frames.proofs.Performs.{does_performs}
use Rattle.xt_instructions.proofs.Views.{view-ForEach, view-ForItems, view-If, view-Choose, view-ApplyTemplates, view-CallTemplate}
use Rattle.xt_instructions.proofs.control.control.Goals as goal

pub returns-in-ForEach-clause-does : goal.returns-in-ForEach-clause-does
returns-in-ForEach-clause-does g c =
    let truth = (g.W.World.state c.args.world.now).truth in
    let old = c.args.run.now in
    let b = c.args.body in
    let P : made.Control → Type 0 = λ x. IfOk c.for_each.result (λ next. Performs truth (frames.Body b) (planned_control (site_of c.args.site.now) x (here_of b.here) (after_body b (left_in old))) old c.for_each.new.run next) in
    subst P (sym (ap control_of c.in-ForEach.is ∙ view-ForEach _ _ _)) c.for_each.ensures.does

pub returns-in-ForItems-clause-does : goal.returns-in-ForItems-clause-does
returns-in-ForItems-clause-does g c =
    let truth = (g.W.World.state c.args.world.now).truth in
    let old = c.args.run.now in
    let b = c.args.body in
    let P : made.Control → Type 0 = λ x. IfOk c.for_items.result (λ next. Performs truth (frames.Body b) (planned_control (site_of c.args.site.now) x (here_of b.here) (after_body b (left_in old))) old c.for_items.new.run next) in
    subst P (sym (ap control_of c.in-ForItems.is ∙ view-ForItems _ _ _ _)) c.for_items.ensures.does

pub returns-in-If-clause-does : goal.returns-in-If-clause-does
returns-in-If-clause-does g c =
    let truth = (g.W.World.state c.args.world.now).truth in
    let old = c.args.run.now in
    let b = c.args.body in
    let P : made.Control → Type 0 = λ x. IfOk c.when.result (λ next. Performs truth (frames.Body b) (planned_control (site_of c.args.site.now) x (here_of b.here) (after_body b (left_in old))) old c.when.new.run next) in
    subst P (sym (ap control_of c.in-If.is ∙ view-If _ _)) c.when.ensures.does

pub returns-in-Choose-clause-does : goal.returns-in-Choose-clause-does
returns-in-Choose-clause-does g c =
    let truth = (g.W.World.state c.args.world.now).truth in
    let old = c.args.run.now in
    let b = c.args.body in
    let P : made.Control → Type 0 = λ x. IfOk c.choose.result (λ next. Performs truth (frames.Body b) (planned_control (site_of c.args.site.now) x (here_of b.here) (after_body b (left_in old))) old c.choose.new.run next) in
    subst P (sym (ap control_of c.in-Choose.is ∙ view-Choose _)) c.choose.ensures.does

pub returns-in-ApplyTemplates-clause-does : goal.returns-in-ApplyTemplates-clause-does
returns-in-ApplyTemplates-clause-does g c =
    let truth = (g.W.World.state c.args.world.now).truth in
    let old = c.args.run.now in
    let b = c.args.body in
    let P : made.Control → Type 0 = λ x. IfOk c.apply.result (λ next. Performs truth (frames.Body b) (planned_control (site_of c.args.site.now) x (here_of b.here) (after_body b (left_in old))) old c.apply.new.run next) in
    subst P (sym (ap control_of c.in-ApplyTemplates.is ∙ view-ApplyTemplates _ _)) c.apply.ensures.does

pub returns-in-CallTemplate-clause-does : goal.returns-in-CallTemplate-clause-does
returns-in-CallTemplate-clause-does g c =
    let truth = (g.W.World.state c.args.world.now).truth in
    let old = c.args.run.now in
    let b = c.args.body in
    let P : made.Control → Type 0 = λ x. IfOk c.call.result (λ next. Performs truth (frames.Body b) (planned_control (site_of c.args.site.now) x (here_of b.here) (after_body b (left_in old))) old c.call.new.run next) in
    subst P (sym (ap control_of c.in-CallTemplate.is ∙ view-CallTemplate _ _)) (if_ok c.call.result c.call.ensures (λ next h. does_performs truth _ (frames.Body b) old c.call.new.run next (h truth)))
