-- Where no xsl:for-each stands in a content, what is left of it is itself, and it has no templates.
use Rattle.std.proofs.Common.{◌≡◌, ℕ, false, List, [], ◌++◌, append-nil, Result, Ok, Err, refl, ap, sym, ◌∙◌}
use Rattle.std.specs.Prelude.{OnOk}
use Rattle.std.proofs.lemmas.Bool.{or_parts, true≢false}
use Rattle.spec_document.specs.Name.{Expanded}
use Rattle.spec_stylesheet.specs.Place.{Site}
use Rattle.spec_stylesheet.specs.Instruction.{Form, without_content, with_content, control, Control, for_each, for_items, conditional, choose, apply_templates, call_template, Instrs, no_instrs, instr, Branches, no_branches, branch, Bindings, no_bindings, binding}
use Rattle.spec_items.specs.Lifted.{left_in, left_by, left_under, left_in_branches, left_passed, scope_after, items_in, items_by, items_under, items_in_branches, items_in_passed}
use Rattle.xt_lift.specs.Loops.{has_loop, has_loop_by, has_loop_under, has_loop_in_branches, has_loop_passed}

mutual
  pub same_content : (scope : List Expanded) (is : Instrs) → has_loop is ≡ false → left_in scope is ≡ is
  same_content scope no_instrs h = refl
  same_content scope (instr site form is) h =
      let parts = or_parts (has_loop_by form) (has_loop is) h in
      let first = same_form scope site form parts.0 in
      let more = same_content (scope_after scope form) is parts.1 in
      λ i. instr site (first i) (more i)

  same_form : (scope : List Expanded) (site : Site) (form : Form) → has_loop_by form ≡ false → left_by scope site form ≡ form
  same_form scope site (without_content what) h = refl
  same_form scope site (with_content what is) h = ap (λ left. with_content what left) (same_content scope is h)
  same_form scope site (control c) h = ap (λ left. control left) (same_control scope site c h)

  same_control : (scope : List Expanded) (site : Site) (c : Control) → has_loop_under c ≡ false → left_under scope site c ≡ c
  same_control scope site (for_each e keys is) h = absurd (true≢false h)
  same_control scope site (for_items e keys name bs) h = ap (λ left. for_items e keys name left) (same_passed scope bs h)
  same_control scope site (conditional e is) h = ap (λ left. conditional e left) (same_content scope is h)
  same_control scope site (choose bs) h = ap (λ left. choose left) (same_branches scope bs h)
  same_control scope site (apply_templates s bs) h = ap (λ left. apply_templates s left) (same_passed scope bs h)
  same_control scope site (call_template name bs) h = ap (λ left. call_template name left) (same_passed scope bs h)

  same_branches : (scope : List Expanded) (bs : Branches) → has_loop_in_branches bs ≡ false → left_in_branches scope bs ≡ bs
  same_branches scope no_branches h = refl
  same_branches scope (branch site test is more) h =
      let parts = or_parts (has_loop is) (has_loop_in_branches more) h in
      let own = same_content scope is parts.0 in
      let others = same_branches scope more parts.1 in
      λ i. branch site test (own i) (others i)

  same_passed : (scope : List Expanded) (bs : Bindings) → has_loop_passed bs ≡ false → left_passed scope bs ≡ bs
  same_passed scope no_bindings h = refl
  same_passed scope (binding site name select is more) h =
      let parts = or_parts (has_loop is) (has_loop_passed more) h in
      let own = same_content scope is parts.0 in
      let others = same_passed scope more parts.1 in
      λ i. binding site name select (own i) (others i)

mutual
  pub none_in : (p : ℕ) (scope : List Expanded) (is : Instrs) → has_loop is ≡ false → items_in p scope is ≡ []
  none_in p scope no_instrs h = refl
  none_in p scope (instr site form is) h =
      let parts = or_parts (has_loop_by form) (has_loop is) h in
      let first = none_by p scope site form parts.0 in
      let more = none_in p (scope_after scope form) is parts.1 in
      λ i. first i ++ more i

  none_by : (p : ℕ) (scope : List Expanded) (site : Site) (form : Form) → has_loop_by form ≡ false → items_by p scope site form ≡ []
  none_by p scope site (without_content what) h = refl
  none_by p scope site (with_content what is) h = none_in p scope is h
  none_by p scope site (control c) h = none_under p scope site c h

  none_under : (p : ℕ) (scope : List Expanded) (site : Site) (c : Control) → has_loop_under c ≡ false → items_under p scope site c ≡ []
  none_under p scope site (for_each e keys is) h = absurd (true≢false h)
  none_under p scope site (for_items e keys name bs) h = none_passed p scope bs h
  none_under p scope site (conditional e is) h = none_in p scope is h
  none_under p scope site (choose bs) h = none_in_branches p scope bs h
  none_under p scope site (apply_templates s bs) h = none_passed p scope bs h
  none_under p scope site (call_template name bs) h = none_passed p scope bs h

  none_in_branches : (p : ℕ) (scope : List Expanded) (bs : Branches) → has_loop_in_branches bs ≡ false → items_in_branches p scope bs ≡ []
  none_in_branches p scope no_branches h = refl
  none_in_branches p scope (branch site test is more) h =
      let parts = or_parts (has_loop is) (has_loop_in_branches more) h in
      let own = none_in p scope is parts.0 in
      let others = none_in_branches p scope more parts.1 in
      λ i. own i ++ others i

  none_passed : (p : ℕ) (scope : List Expanded) (bs : Bindings) → has_loop_passed bs ≡ false → items_in_passed p scope bs ≡ []
  none_passed p scope no_bindings h = refl
  none_passed p scope (binding site name select is more) h =
      let parts = or_parts (has_loop is) (has_loop_passed more) h in
      let own = none_in p scope is parts.0 in
      let others = none_passed p scope more parts.1 in
      λ i. own i ++ others i

-- ---- What is shared adds nothing

pub none_added : {X : Type 0} (xs ys : List X) → ys ≡ [] → xs ≡ xs ++ ys
none_added xs ys e = sym (append-nil xs) ∙ ap (λ zs. xs ++ zs) (sym e)

pub on_any : {T E P : Type 0} (r : Result T E) → P → OnOk r P
on_any (Ok x) p = p
on_any (Err e) p = tt
