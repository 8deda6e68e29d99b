-- What the trees of the program stand for, level by level.
use Rattle.std.proofs.Common.{◌≡◌, Option, Vec, Global, map, rules}
use Rattle.std.specs.Option.{option_map}
use Rattle.std.specs.declared.rc.Rc.{Rc}
use Rattle.spec_document.specs.Name.{Expanded}
use Rattle.spec_stylesheet.specs.Instruction as tree
use Rattle.xt_syntax.specs.View.{expr_of}
use Rattle.xt_syntax.specs.PartView.{site_of, sort_key_of, without_content_of, with_content_of}
use Rattle.xt_syntax.specs.InstrView.{binding_of, branch_of, control_of, form_of, instr_of, selection_of}
use Rattle.xt_syntax.specs.declared.expr.Expr.{Expr}
use Rattle.xt_syntax.specs.declared.instr.Binding.{Binding, roll-Binding}
use Rattle.xt_syntax.specs.declared.instr.Branch.{Branch, roll-Branch}
use Rattle.xt_syntax.specs.declared.instr.Control.{Control, ForEach, If, Choose, ApplyTemplates, CallTemplate, the_lemmas}
use Rattle.xt_syntax.specs.declared.instr.Form.{Form, WithoutContent, WithContent}
use Rattle.xt_syntax.specs.declared.instr.Form as form
use Rattle.xt_syntax.specs.declared.instr.Instr.{Instr, roll-Instr}
use Rattle.xt_syntax.specs.declared.instr.Selection.{Selection}
use Rattle.xt_syntax.specs.declared.site.Site.{Site}
use Rattle.xt_syntax.specs.declared.sort_key.SortKey.{SortKey}
use Rattle.xt_syntax.specs.declared.with_content.WithContent as with
use Rattle.xt_syntax.specs.declared.without_content.WithoutContent as without

abbrev Shared : Type 0 → Type 0
Shared T = Rc (Vec T Global) Global

pub view-Instr : (s : Site) (f : Form) → instr_of (roll-Instr (record { site = s; form = f })) ≡ record { site = site_of s; form = form_of f }
view-Instr s f = search (rules, the_lemmas)

pub view-WithoutContent : (w : without.WithoutContent) → form_of (WithoutContent w) ≡ tree.without_content (without_content_of w)
view-WithoutContent w = search (rules, the_lemmas)

pub view-WithContent : (w : with.WithContent) (is : Shared Instr) → form_of (WithContent w is) ≡ tree.with_content (with_content_of w) (tree.instrs (map instr_of is.value.items))
view-WithContent w is = search (rules, the_lemmas)

pub view-Control : (c : Control) → form_of (form.Control c) ≡ tree.control (control_of c)
view-Control c = search (rules, the_lemmas)

pub view-ForEach : (e : Expr) (keys : Shared SortKey) (is : Shared Instr)
    → control_of (ForEach e keys is) ≡ tree.for_each (expr_of e) (map sort_key_of keys.value.items) (tree.instrs (map instr_of is.value.items))
view-ForEach e keys is = search (rules, the_lemmas)

pub view-If : (e : Expr) (is : Shared Instr) → control_of (If e is) ≡ tree.conditional (expr_of e) (tree.instrs (map instr_of is.value.items))
view-If e is = search (rules, the_lemmas)

pub view-Choose : (bs : Shared Branch) → control_of (Choose bs) ≡ tree.choose (tree.branches (map branch_of bs.value.items))
view-Choose bs = search (rules, the_lemmas)

pub view-ApplyTemplates : (s : Selection) (bs : Shared Binding) → control_of (ApplyTemplates s bs) ≡ tree.apply_templates (selection_of s) (tree.bindings (map binding_of bs.value.items))
view-ApplyTemplates s bs = search (rules, the_lemmas)

pub view-CallTemplate : (name : Expanded) (bs : Shared Binding) → control_of (CallTemplate name bs) ≡ tree.call_template name (tree.bindings (map binding_of bs.value.items))
view-CallTemplate name bs = search (rules, the_lemmas)

pub view-Binding : (s : Site) (name : Expanded) (e : Option Expr) (is : Shared Instr)
    → binding_of (roll-Binding (record { site = s; name = name; select = e; content = is }))
    ≡ record { site = site_of s; name = name; select = option_map expr_of e; content = tree.instrs (map instr_of is.value.items) }
view-Binding s name e is = search (rules, the_lemmas)

pub view-Branch : (s : Site) (e : Option Expr) (is : Shared Instr)
    → branch_of (roll-Branch (record { site = s; test = e; content = is })) ≡ record { site = site_of s; test = option_map expr_of e; content = tree.instrs (map instr_of is.value.items) }
view-Branch s e is = search (rules, the_lemmas)
