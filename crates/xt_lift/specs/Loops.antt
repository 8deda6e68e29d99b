-- Whether an xsl:for-each stands in a content.
use Rattle.std.specs.Prelude.{Bool, true, false, ◌||◌}
use Rattle.spec_stylesheet.specs.Instruction.{Form, without_content, with_content, control, Control, for_each, for_items, conditional, choose, apply_templates, call_template, Instrs, no_instrs, instr, Branches, no_branches, branch, Bindings, no_bindings, binding}

abbrev mutual
  pub has_loop : Instrs → Bool
  has_loop no_instrs = false
  has_loop (instr site form is) = has_loop_by form || has_loop is

  pub has_loop_by : Form → Bool
  has_loop_by (without_content what) = false
  has_loop_by (with_content what is) = has_loop is
  has_loop_by (control c) = has_loop_under c

  pub has_loop_under : Control → Bool
  has_loop_under (for_each e keys is) = true
  has_loop_under (for_items e keys name bs) = has_loop_passed bs
  has_loop_under (conditional e is) = has_loop is
  has_loop_under (choose bs) = has_loop_in_branches bs
  has_loop_under (apply_templates s bs) = has_loop_passed bs
  has_loop_under (call_template name bs) = has_loop_passed bs

  pub has_loop_in_branches : Branches → Bool
  has_loop_in_branches no_branches = false
  has_loop_in_branches (branch site test is more) = has_loop is || has_loop_in_branches more

  pub has_loop_passed : Bindings → Bool
  has_loop_passed no_bindings = false
  has_loop_passed (binding site name select is more) = has_loop is || has_loop_passed more
