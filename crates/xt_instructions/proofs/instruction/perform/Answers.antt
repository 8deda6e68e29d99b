use Rattle.std.proofs.Common.{IfOk, Some, subst, sym, ap, ◌∙◌}
use Rattle.spec_stylesheet.specs.Instruction as made
use Rattle.spec_run.specs.Content.{plan}
use Rattle.xt_syntax.specs.PartView.{site_of}
use Rattle.xt_syntax.specs.InstrView.{form_of}
use Rattle.xt_syntax.specs.declared.instr.Instr.{out-Instr}
use Rattle.xt_frames.specs.declared.frame.Frame.TheVariants as frames
use Rattle.xt_frames.specs.View.{here_of, following}
use Rattle.xt_frames.specs.Left.{left_in, Performs}
use Rattle.xt_instructions.proofs.Views.{view-Instr, view-WithoutContent, view-WithContent, view-Control}
use Rattle.xt_instructions.proofs.instruction.perform.Goals as goal

pub returns-in-WithoutContent-clause-does : goal.returns-in-WithoutContent-clause-does
returns-in-WithoutContent-clause-does g c =
    let truth = (g.W.World.state c.args.world.now).truth in
    let old = c.args.run.now in
    let b = c.args.body in
    let i = c.args.instr.now in
    let at : made.Form → made.Instr = λ f. record { site = site_of (out-Instr i).site; form = f } in
    let e = view-Instr i ∙ ap (λ f. at (form_of f)) c.in-WithoutContent.is ∙ ap at (view-WithoutContent c.in-WithoutContent.what) in
    let P : made.Instr → Type 0 = λ x. IfOk c.without_content.result (λ next. Performs truth (frames.Body b) (plan x.site x.form (here_of b.here) (following b (left_in old))) old c.without_content.new.run next) in
    subst P (sym e) c.without_content.ensures.does

pub returns-in-WithContent-clause-does : goal.returns-in-WithContent-clause-does
returns-in-WithContent-clause-does g c =
    let truth = (g.W.World.state c.args.world.now).truth in
    let old = c.args.run.now in
    let b = c.args.body in
    let i = c.args.instr.now in
    let at : made.Form → made.Instr = λ f. record { site = site_of (out-Instr i).site; form = f } in
    let e = view-Instr i ∙ ap (λ f. at (form_of f)) c.in-WithContent.is ∙ ap at (view-WithContent c.in-WithContent.what c.in-WithContent.content) in
    let P : made.Instr → Type 0 = λ x. IfOk c.with_content.result (λ next. Performs truth (frames.Body b) (plan x.site x.form (here_of b.here) (following b (left_in old))) old c.with_content.new.run next) in
    subst P (sym e) c.with_content.ensures.does

pub returns-in-Control-clause-does : goal.returns-in-Control-clause-does
returns-in-Control-clause-does g c =
    let truth = (g.W.World.state c.args.world.now).truth in
    let old = c.args.run.now in
    let b = c.args.body in
    let i = c.args.instr.now in
    let at : made.Form → made.Instr = λ f. record { site = site_of (out-Instr i).site; form = f } in
    let e = view-Instr i ∙ ap (λ f. at (form_of f)) c.in-Control.is ∙ ap at (view-Control c.in-Control.what) in
    let P : made.Instr → Type 0 = λ x. IfOk c.control.result (λ next. Performs truth (frames.Body b) (plan x.site x.form (here_of b.here) (following b (left_in old))) old c.control.new.run next) in
    subst P (sym e) c.control.ensures.does

pub with_content-requires-clause-stands : goal.with_content-requires-clause-stands
with_content-requires-clause-stands g c =
    let i = c.args.instr.now in
    let at : made.Form → made.Instr = λ f. record { site = site_of (out-Instr i).site; form = f } in
    let e = view-Instr i ∙ ap (λ f. at (form_of f)) c.in-WithContent.is ∙ ap at (view-WithContent c.in-WithContent.what c.in-WithContent.content) in
    c.requires.stands ∙ ap (λ x. Some x) e
