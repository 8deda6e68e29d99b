-- What the trees of instructions stand for, level by level.
use Rattle.std.proofs.Common.{◌≡◌, Option, Vec, Global, map, rules, ap, sym, ◌∙◌}
use Rattle.std.specs.Option.{option_map}
use Rattle.std.specs.declared.rc.Rc.{Rc}
use Rattle.spec_document.specs.Name.{Expanded}
use Rattle.spec_stylesheet.specs.Place.{Site}
use Rattle.spec_stylesheet.specs.Instruction as tree
use Rattle.xt_syntax.specs.View.{expr_of}
use Rattle.xt_syntax.specs.PartView.{place_of, site_of, sort_key_of, without_content_of, with_content_of}
use Rattle.xt_syntax.specs.InstrView.{binding_of, branch_of, control_of, form_of, instr_of, selection_of}
use Rattle.xt_syntax.specs.declared.expr.Expr.{Expr}
use Rattle.xt_syntax.specs.declared.instr.Binding.{Binding}
use Rattle.xt_syntax.specs.declared.instr.Branch.{Branch, out-Branch}
use Rattle.xt_syntax.specs.declared.instr.Control.{Control, ForEach, ForItems, If, Choose, ApplyTemplates, CallTemplate, the_lemmas}
use Rattle.xt_syntax.specs.declared.instr.Form.{Form, WithoutContent, WithContent}
use Rattle.xt_syntax.specs.declared.instr.Form as form
use Rattle.xt_syntax.specs.declared.instr.Instr.{Instr, out-Instr}
use Rattle.xt_syntax.specs.declared.instr.Selection.{Selection}
use Rattle.xt_syntax.specs.declared.sort_key.SortKey.{SortKey}
use Rattle.xt_syntax.specs.declared.with_content.WithContent as with
use Rattle.xt_syntax.specs.declared.without_content.WithoutContent as without

pub view-Instr : (i : Instr) → instr_of i ≡ record { site = site_of (out-Instr i).site; form = form_of (out-Instr i).form }
view-Instr i = search (rules, the_lemmas)

pub view-WithoutContent : (w : without.WithoutContent) → form_of (WithoutContent w) ≡ tree.without_content (without_content_of w)
view-WithoutContent w = search (rules, the_lemmas)

pub view-WithContent : (w : with.WithContent) (is : Rc (Vec Instr Global) Global) → form_of (WithContent w is) ≡ tree.with_content (with_content_of w) (tree.instrs (map instr_of is.value.items))
view-WithContent w is = search (rules, the_lemmas)

pub view-Control : (c : Control) → form_of (form.Control c) ≡ tree.control (control_of c)
view-Control c = search (rules, the_lemmas)

pub view-ForEach : (e : Expr) (keys : Rc (Vec SortKey Global) Global) (is : Rc (Vec Instr Global) Global)
    → control_of (ForEach e keys is) ≡ tree.for_each (expr_of e) (map sort_key_of keys.value.items) (tree.instrs (map instr_of is.value.items))
view-ForEach e keys is = search (rules, the_lemmas)

pub view-ForItems : (e : Expr) (keys : Rc (Vec SortKey Global) Global) (name : Expanded) (bs : Rc (Vec Binding Global) Global)
    → control_of (ForItems e keys name bs) ≡ tree.for_items (expr_of e) (map sort_key_of keys.value.items) name (tree.bindings (map binding_of bs.value.items))
view-ForItems e keys name bs = search (rules, the_lemmas)

pub view-If : (e : Expr) (is : Rc (Vec Instr Global) Global) → control_of (If e is) ≡ tree.conditional (expr_of e) (tree.instrs (map instr_of is.value.items))
view-If e is = search (rules, the_lemmas)

pub view-Choose : (bs : Rc (Vec Branch Global) Global) → control_of (Choose bs) ≡ tree.choose (tree.branches (map branch_of bs.value.items))
view-Choose bs = search (rules, the_lemmas)

pub view-ApplyTemplates : (s : Selection) (bs : Rc (Vec Binding Global) Global) → control_of (ApplyTemplates s bs) ≡ tree.apply_templates (selection_of s) (tree.bindings (map binding_of bs.value.items))
view-ApplyTemplates s bs = search (rules, the_lemmas)

pub view-CallTemplate : (name : Expanded) (bs : Rc (Vec Binding Global) Global) → control_of (CallTemplate name bs) ≡ tree.call_template name (tree.bindings (map binding_of bs.value.items))
view-CallTemplate name bs = search (rules, the_lemmas)

-- where a branch stands, and its content
abbrev pub site_in : Branch → Site
site_in b = site_of (out-Branch b).site

abbrev pub content_in : Branch → tree.Instrs
content_in b = tree.instrs (map instr_of (out-Branch b).content.value.items)

pub view-Branch : (b : Branch) → branch_of b ≡ record { site = site_of (out-Branch b).site; test = option_map expr_of (out-Branch b).test; content = tree.instrs (map instr_of (out-Branch b).content.value.items) }
view-Branch b = search (rules, the_lemmas)

pub branch_is : (b : Branch) (t : Option Expr) → (out-Branch b).test ≡ t → branch_of b ≡ record { site = site_in b; test = option_map expr_of t; content = content_in b }
branch_is b t e = view-Branch b ∙ ap (λ u. record { site = site_in b; test = option_map expr_of u; content = content_in b }) e

pub place_in : (b : Branch) → place_of (out-Branch b).site.place ≡ (branch_of b).site.place
place_in b = ap (λ (x : tree.Branch). x.site.place) (sym (view-Branch b))
