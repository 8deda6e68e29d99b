-- When the contents of a stylesheet may be lifted. Any other stylesheet is run as it is. That what a document can write is always such a one is meant, and proved nowhere.
use Rattle.std.specs.Prelude.{Bool, true, false, not, ◌&&◌, ◌==◌, nat_lt, List, [], ◌∷◌, length, None, Some, if◌then◌else◌}
use Rattle.std.specs.List.{list_all, list_any}
use Rattle.spec_document.specs.Name.{Expanded}
use Rattle.spec_stylesheet.specs.Instruction.{Form, without_content, with_content, control, Control, for_each, for_items, conditional, choose, apply_templates, call_template, Instrs, no_instrs, instr, Branches, no_branches, branch, Bindings, no_bindings, binding}
use Rattle.spec_stylesheet.specs.Sheet as sheet
use Rattle.spec_stylesheet.specs.Sheet.{Sheet}
use Rattle.spec_run.specs.World.{is_template}
use Rattle.spec_items.specs.Lifted.{stands_in, items, lifted}

-- ---- What no document can write

-- a name as templates of contents have
abbrev pub is_reserved : Expanded → Bool
is_reserved name = elim name.uri [ [] ↦ false | c ∷ more ↦ c == 0 ]

-- nothing in a content is lifted already, nor does it call the template of a content
abbrev mutual
  pub is_plain : Instrs → Bool
  is_plain no_instrs = true
  is_plain (instr site form is) = is_plain_form form && is_plain is

  pub is_plain_form : Form → Bool
  is_plain_form (without_content what) = true
  is_plain_form (with_content what is) = is_plain is
  is_plain_form (control c) = is_plain_control c

  pub is_plain_control : Control → Bool
  is_plain_control (for_each e keys is) = is_plain is
  is_plain_control (for_items e keys name bs) = false
  is_plain_control (conditional e is) = is_plain is
  is_plain_control (choose bs) = are_plain_branches bs
  is_plain_control (apply_templates s bs) = are_plain_bindings bs
  is_plain_control (call_template name bs) = not (is_reserved name) && are_plain_bindings bs

  pub are_plain_branches : Branches → Bool
  are_plain_branches no_branches = true
  are_plain_branches (branch site test is more) = is_plain is && are_plain_branches more

  pub are_plain_bindings : Bindings → Bool
  are_plain_bindings no_bindings = true
  are_plain_bindings (binding site name select is more) = is_plain is && are_plain_bindings more

abbrev pub is_plain_declared : sheet.Declared → Bool
is_plain_declared (sheet.ATemplate t) = are_plain_bindings t.parameters && is_plain t.content
is_plain_declared (sheet.AGlobal g) = is_plain g.binding.content
is_plain_declared (sheet.ASet s) = is_plain s.attributes
is_plain_declared (sheet.AKey k) = true

-- ---- Units that are told apart

-- both are templates of one name
abbrev pub have_one_name : sheet.Declared → sheet.Declared → Bool
have_one_name (sheet.ATemplate t) other = elim t.name [ None ↦ false | Some name ↦ is_template name other ]
have_one_name _ other = false

-- no unit has the name of one after it
abbrev pub have_own_names : List sheet.Unit → Bool
have_own_names [] = true
have_own_names (u ∷ us) = not (list_any (λ later. have_one_name u.declared later.declared) us) && have_own_names us

-- ---- Stylesheets

-- nothing in a unit is lifted already; each rule has its unit; and the templates of the contents stand where no unit stands, and differ in their
-- names
abbrev pub is_liftable : Sheet → Bool
is_liftable s =
    list_all (λ u. is_plain_declared u.declared) s.units
    && list_all (λ rule. nat_lt rule.unit (length s.units)) s.rules.rules
    && not (list_any (λ item. stands_in item.site.place s.units) (items s.units))
    && have_own_names (items s.units)

-- the stylesheet with its contents lifted, where they may be
abbrev pub with_items : Sheet → Sheet
with_items s = if is_liftable s then lifted s else s
