-- The trees that the instructions of the program stand for.
use Rattle.std.specs.Prelude.{map}
use Rattle.std.specs.Option.{option_map}
use Rattle.spec_stylesheet.specs.Instruction as tree
use Rattle.xt_syntax.specs.View.{expr_of}
use Rattle.xt_syntax.specs.PartView.{site_of, sort_key_of, without_content_of, with_content_of}
use Rattle.xt_syntax.specs.declared.instr.Selection.{Selection}
use Rattle.xt_syntax.specs.declared.instr.Instr.{Instr, Instr-F, fold-Instr}
use Rattle.xt_syntax.specs.declared.instr.Form.{Form, Form-F, fold-Form}
use Rattle.xt_syntax.specs.declared.instr.Control.{Control, Control-F, fold-Control}
use Rattle.xt_syntax.specs.declared.instr.Branch.{Branch, Branch-F, fold-Branch}
use Rattle.xt_syntax.specs.declared.instr.Binding.{Binding, Binding-F, fold-Binding}

abbrev pub selection_of : Selection → tree.Selection
selection_of s = record { select = expr_of s.select; mode = s.mode; keys = map sort_key_of s.keys.value.items }

-- one level, with what is below it seen already
abbrev pub instr_step : Instr-F tree.Control tree.Form tree.Binding tree.Branch tree.Instr → tree.Instr
instr_step i = record { site = site_of i.site; form = i.form }

abbrev pub form_step : Form-F tree.Control tree.Form tree.Binding tree.Branch tree.Instr → tree.Form
form_step (Form-F.WithoutContent i) = tree.without_content (without_content_of i)
form_step (Form-F.WithContent i is) = tree.with_content (with_content_of i) (tree.instrs is.value.items)
form_step (Form-F.Control c) = tree.control c

abbrev pub control_step : Control-F tree.Control tree.Form tree.Binding tree.Branch tree.Instr → tree.Control
control_step (Control-F.ForEach e keys is) = tree.for_each (expr_of e) (map sort_key_of keys.value.items) (tree.instrs is.value.items)
control_step (Control-F.ForItems e keys name bs) = tree.for_items (expr_of e) (map sort_key_of keys.value.items) name (tree.bindings bs.value.items)
control_step (Control-F.If e is) = tree.conditional (expr_of e) (tree.instrs is.value.items)
control_step (Control-F.Choose bs) = tree.choose (tree.branches bs.value.items)
control_step (Control-F.ApplyTemplates s bs) = tree.apply_templates (selection_of s) (tree.bindings bs.value.items)
control_step (Control-F.CallTemplate name bs) = tree.call_template name (tree.bindings bs.value.items)

abbrev pub branch_step : Branch-F tree.Control tree.Form tree.Binding tree.Branch tree.Instr → tree.Branch
branch_step b = record { site = site_of b.site; test = option_map expr_of b.test; content = tree.instrs b.content.value.items }

abbrev pub binding_step : Binding-F tree.Control tree.Form tree.Binding tree.Branch tree.Instr → tree.Binding
binding_step b = record { site = site_of b.site; name = b.name; select = option_map expr_of b.select; content = tree.instrs b.content.value.items }

abbrev pub instr_of : Instr → tree.Instr
instr_of = fold-Instr tree.Control tree.Form tree.Binding tree.Branch tree.Instr control_step form_step binding_step branch_step instr_step

abbrev pub form_of : Form → tree.Form
form_of = fold-Form tree.Control tree.Form tree.Binding tree.Branch tree.Instr control_step form_step binding_step branch_step instr_step

abbrev pub control_of : Control → tree.Control
control_of = fold-Control tree.Control tree.Form tree.Binding tree.Branch tree.Instr control_step form_step binding_step branch_step instr_step

abbrev pub branch_of : Branch → tree.Branch
branch_of = fold-Branch tree.Control tree.Form tree.Binding tree.Branch tree.Instr control_step form_step binding_step branch_step instr_step

abbrev pub binding_of : Binding → tree.Binding
binding_of = fold-Binding tree.Control tree.Form tree.Binding tree.Branch tree.Instr control_step form_step binding_step branch_step instr_step
