use Rattle.std.proofs.Common.{IfOk, Some, map, subst, sym, ap, ◌∙◌}
use Rattle.spec_stylesheet.specs.Instruction as made
use Rattle.spec_stylesheet.specs.Instruction.{instrs}
use Rattle.xt_syntax.specs.PartView.{site_of, with_content_of}
use Rattle.xt_syntax.specs.InstrView.{form_of, instr_of}
use Rattle.xt_syntax.specs.declared.instr.Instr.{out-Instr}
use Rattle.xt_frames.specs.declared.frame.Frame.TheVariants as frames
use Rattle.xt_frames.specs.View.{here_of, attributes_left}
use Rattle.xt_frames.specs.Left.{left_in, Performs}
use Rattle.xt_instructions.proofs.Left.{none_performed, no_literal}
use Rattle.xt_instructions.proofs.Views.{view-Instr, view-WithoutContent, view-WithContent, view-Control}
use Rattle.xt_instructions.proofs.attributes.go_on_with.Goals as goal

pub returns-in-Literal-clause-does : goal.returns-in-Literal-clause-does
returns-in-Literal-clause-does g c =
    let truth = (g.W.World.state c.args.world.now).truth in
    let old = c.args.run.now in
    let a = c.args.attributes in
    let i = c.args.instr.now in
    let is = instrs (map instr_of c.in-WithContent.content.value.items) in
    let at : made.Form → made.Instr = λ f. record { site = site_of (out-Instr i).site; form = f } in
    let e = view-Instr i ∙ ap (λ f. at (form_of f)) c.in-WithContent.is ∙ ap at (view-WithContent c.in-WithContent.what c.in-WithContent.content) ∙ ap (λ w. at (made.with_content (with_content_of w) is)) c.in-Literal.is in
    let P : made.Instr → Type 0 = λ x. IfOk c.next_attribute.result (λ next. Performs truth (frames.Attributes a) (attributes_left (here_of a.here) a.next x.site x.form (left_in old)) old c.next_attribute.new.run next) in
    subst P (sym e) c.next_attribute.ensures.does

pub next_attribute-requires : goal.next_attribute-requires
next_attribute-requires g c =
    let i = c.args.instr.now in
    let is = instrs (map instr_of c.in-WithContent.content.value.items) in
    let at : made.Form → made.Instr = λ f. record { site = site_of (out-Instr i).site; form = f } in
    let e = view-Instr i ∙ ap (λ f. at (form_of f)) c.in-WithContent.is ∙ ap at (view-WithContent c.in-WithContent.what c.in-WithContent.content) ∙ ap (λ w. at (made.with_content (with_content_of w) is)) c.in-Literal.is in
    c.requires ∙ ap (λ x. Some x) e

pub returns-in_default-clause-does : goal.returns-in_default-clause-does
returns-in_default-clause-does g c =
    let truth = (g.W.World.state c.args.world.now).truth in
    let old = c.args.run.now in
    let a = c.args.attributes in
    let i = c.args.instr.now in
    let is = instrs (map instr_of c.in-WithContent.content.value.items) in
    let at : made.Form → made.Instr = λ f. record { site = site_of (out-Instr i).site; form = f } in
    let e = view-Instr i ∙ ap (λ f. at (form_of f)) c.in-WithContent.is ∙ ap at (view-WithContent c.in-WithContent.what c.in-WithContent.content) in
    none_performed truth (frames.Attributes a) _ old
    (no_literal c.in-WithContent.what (here_of a.here) a.next (site_of (out-Instr i).site) is (left_in old) (λ tag e. c.in_default.not-Literal tag e)
    ∙ ap (λ x. attributes_left (here_of a.here) a.next x.site x.form (left_in old)) (sym e))

pub returns-in-WithoutContent-clause-does : goal.returns-in-WithoutContent-clause-does
returns-in-WithoutContent-clause-does g c =
    let truth = (g.W.World.state c.args.world.now).truth in
    let old = c.args.run.now in
    let a = c.args.attributes in
    let i = c.args.instr.now in
    let at : made.Form → made.Instr = λ f. record { site = site_of (out-Instr i).site; form = f } in
    let e = view-Instr i ∙ ap (λ f. at (form_of f)) c.in-WithoutContent.is ∙ ap at (view-WithoutContent c.in-WithoutContent.field-0) in
    none_performed truth (frames.Attributes a) _ old (ap (λ x. attributes_left (here_of a.here) a.next x.site x.form (left_in old)) (sym e))

pub returns-in-Control-clause-does : goal.returns-in-Control-clause-does
returns-in-Control-clause-does g c =
    let truth = (g.W.World.state c.args.world.now).truth in
    let old = c.args.run.now in
    let a = c.args.attributes in
    let i = c.args.instr.now in
    let at : made.Form → made.Instr = λ f. record { site = site_of (out-Instr i).site; form = f } in
    let e = view-Instr i ∙ ap (λ f. at (form_of f)) c.in-Control.is ∙ ap at (view-Control c.in-Control.field-0) in
    none_performed truth (frames.Attributes a) _ old (ap (λ x. attributes_left (here_of a.here) a.next x.site x.form (left_in old)) (sym e))
