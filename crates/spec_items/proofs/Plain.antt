-- What the test of units says: no content in them stands apart already, and they call no template by a reserved name.
use Rattle.std.proofs.Common.{◌≡◌, List, [], ◌∷◌, ◌++◌, Bool, true, false, refl, ap, ◌∙◌}
use Rattle.std.specs.Prelude.{◌&&◌, ◌||◌, not}
use Rattle.std.specs.List.{list_all, list_any}
use Rattle.std.proofs.lemmas.List.Folds.{list_all-append}
use Rattle.spec_document.specs.Name.{Expanded, same_name}
use Rattle.spec_stylesheet.specs.Instruction as made
use Rattle.spec_stylesheet.specs.Instruction.{Form, without_content, with_content, control, Control, for_each, for_items, conditional, choose}
use Rattle.spec_stylesheet.specs.Instruction.{apply_templates, call_template, Instrs, no_instrs, instr, Branches, no_branches, branch, no_bindings, binding}
use Rattle.spec_stylesheet.specs.Sheet as sheet
use Rattle.spec_run.specs.World.{called_in, called_by, called_under, called_in_branches, called_in_bindings, called_in_unit}
use Rattle.spec_items.specs.Liftable.{is_reserved, is_plain, is_plain_form, is_plain_control, are_plain_branches, are_plain_bindings, is_plain_declared}
use Rattle.spec_items.proofs.Variables.{both_true, name_is}
use Rattle.spec_items.proofs.Walks.{Whole, WholeForm, WholeControl, WholeBranches, WholeBindings, WholeDeclared}

-- ---- no content stands apart already
mutual
  whole_in : (is : Instrs) → is_plain is ≡ true → Whole is
  whole_in no_instrs h = tt
  whole_in (instr site form is) h =
      let e = both_true (is_plain_form form) (is_plain is) h in (whole_form form e.0, whole_in is e.1)

  whole_form : (form : Form) → is_plain_form form ≡ true → WholeForm form
  whole_form (without_content what) h = tt
  whole_form (with_content what is) h = whole_in is h
  whole_form (control c) h = whole_control c h

  whole_control : (c : Control) → is_plain_control c ≡ true → WholeControl c
  whole_control (for_each e keys is) h = whole_in is h
  whole_control (for_items e keys name bs) h = absurd (cc)
  whole_control (conditional e is) h = whole_in is h
  whole_control (choose bs) h = whole_branches bs h
  whole_control (apply_templates s bs) h = whole_bindings bs h
  whole_control (call_template name bs) h = whole_bindings bs (both_true (not (is_reserved name)) (are_plain_bindings bs) h).1

  whole_branches : (bs : Branches) → are_plain_branches bs ≡ true → WholeBranches bs
  whole_branches no_branches h = tt
  whole_branches (branch site test is more) h =
      let e = both_true (is_plain is) (are_plain_branches more) h in (whole_in is e.0, whole_branches more e.1)

  whole_bindings : (bs : made.Bindings) → are_plain_bindings bs ≡ true → WholeBindings bs
  whole_bindings no_bindings h = tt
  whole_bindings (binding site name select is more) h =
      let e = both_true (is_plain is) (are_plain_bindings more) h in (whole_in is e.0, whole_bindings more e.1)

pub whole_declared : (d : sheet.Declared) → is_plain_declared d ≡ true → WholeDeclared d
whole_declared (sheet.ATemplate t) h =
    let e = both_true (are_plain_bindings t.parameters) (is_plain t.content) h in (whole_bindings t.parameters e.0, whole_in t.content e.1)
whole_declared (sheet.AGlobal g) h = whole_in g.binding.content h
whole_declared (sheet.ASet a) h = whole_in a.attributes h
whole_declared (sheet.AKey k) h = tt

-- ---- no name that is called is reserved
abbrev is_free : Expanded → Bool
is_free name = not (is_reserved name)

both_free : (xs ys : List Expanded) → list_all is_free xs ≡ true → list_all is_free ys ≡ true → list_all is_free (xs ++ ys) ≡ true
both_free xs ys h g = list_all-append is_free xs ys ∙ λ i. h i && g i

mutual
  free_in_content : (is : Instrs) → is_plain is ≡ true → list_all is_free (called_in is) ≡ true
  free_in_content no_instrs h = refl
  free_in_content (instr site form is) h =
      let e = both_true (is_plain_form form) (is_plain is) h in
      both_free (called_by form) (called_in is) (free_in_form form e.0) (free_in_content is e.1)

  free_in_form : (form : Form) → is_plain_form form ≡ true → list_all is_free (called_by form) ≡ true
  free_in_form (without_content what) h = refl
  free_in_form (with_content what is) h = free_in_content is h
  free_in_form (control c) h = free_in_control c h

  free_in_control : (c : Control) → is_plain_control c ≡ true → list_all is_free (called_under c) ≡ true
  free_in_control (for_each e keys is) h = free_in_content is h
  free_in_control (for_items e keys name bs) h = absurd (cc)
  free_in_control (conditional e is) h = free_in_content is h
  free_in_control (choose bs) h = free_in_branches bs h
  free_in_control (apply_templates s bs) h = free_in_bindings bs h
  free_in_control (call_template name bs) h =
      let e = both_true (is_free name) (are_plain_bindings bs) h in
      both_free (name ∷ []) (called_in_bindings bs) (λ i. e.0 i && true) (free_in_bindings bs e.1)

  free_in_branches : (bs : Branches) → are_plain_branches bs ≡ true → list_all is_free (called_in_branches bs) ≡ true
  free_in_branches no_branches h = refl
  free_in_branches (branch site test is more) h =
      let e = both_true (is_plain is) (are_plain_branches more) h in
      both_free (called_in is) (called_in_branches more) (free_in_content is e.0) (free_in_branches more e.1)

  free_in_bindings : (bs : made.Bindings) → are_plain_bindings bs ≡ true → list_all is_free (called_in_bindings bs) ≡ true
  free_in_bindings no_bindings h = refl
  free_in_bindings (binding site name select is more) h =
      let e = both_true (is_plain is) (are_plain_bindings more) h in
      both_free (called_in is) (called_in_bindings more) (free_in_content is e.0) (free_in_bindings more e.1)

free_in_declared : (d : sheet.Declared) → is_plain_declared d ≡ true → list_all is_free (called_in_unit d) ≡ true
free_in_declared (sheet.ATemplate t) h =
    let e = both_true (are_plain_bindings t.parameters) (is_plain t.content) h in
    both_free (called_in_bindings t.parameters) (called_in t.content) (free_in_bindings t.parameters e.0) (free_in_content t.content e.1)
free_in_declared (sheet.AGlobal g) h = free_in_content g.binding.content h
free_in_declared (sheet.ASet a) h = free_in_content a.attributes h
free_in_declared (sheet.AKey k) h = refl

not_true : (b : Bool) → not b ≡ true → b ≡ false
not_true true h = absurd (cc)
not_true false h = refl

one_free : (names : List Expanded) → list_all is_free names ≡ true → (name : Expanded) → list_any (same_name name) names ≡ true → is_reserved name ≡ false
one_free [] h name m = absurd (cc)
one_free (n ∷ names) h name m =
    let e = both_true (is_free n) (list_all is_free names) h in go (same_name name n) refl e.0 (one_free names e.1 name) m
  where
    go : (b : Bool) → same_name name n ≡ b → is_free n ≡ true → (list_any (same_name name) names ≡ true → is_reserved name ≡ false)
        → (b || list_any (same_name name) names) ≡ true → is_reserved name ≡ false
    go true s f later m = ap is_reserved (name_is name n s) ∙ not_true (is_reserved n) f
    go false s f later m = later m

-- of each name that stands in a unit
pub calls_no_item : (d : sheet.Declared) → is_plain_declared d ≡ true → (name : Expanded) → list_any (same_name name) (called_in_unit d) ≡ true
    → is_reserved name ≡ false
calls_no_item d h = one_free (called_in_unit d) (free_in_declared d h)
