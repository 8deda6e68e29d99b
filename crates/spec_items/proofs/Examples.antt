-- Worked examples of stylesheets whose contents were lifted: both sides are computed.
use Rattle.std.proofs.Common.{◌≡◌, ℕ, List, [], ◌∷◌, None, Some, true, refl}
use Rattle.std.specs.Prelude.{codes}
use Rattle.std.specs.Fmt.{digits}
use Rattle.spec_document.specs.Name.{Expanded}
use Rattle.spec_document.specs.Scope.{root_scope}
use Rattle.spec_expression.specs.Syntax.{variable, here}
use Rattle.spec_stylesheet.specs.Place.{Site}
use Rattle.spec_stylesheet.specs.Instruction as made
use Rattle.spec_stylesheet.specs.Instruction.{Form, without_content, with_content, control, for_each, for_items, call_template, Instrs, no_instrs, instr, Bindings, no_bindings, binding}
use Rattle.spec_items.specs.Mentioned.{free_in}
use Rattle.spec_stylesheet.specs.Sheet as sheet
use Rattle.spec_stylesheet.specs.Sheet.{Sheet}
use Rattle.spec_items.specs.Lifted.{path_text, item_name, left_in, items_in, item_unit, left_unit}
use Rattle.spec_items.specs.Liftable.{is_liftable, with_items}

abbrev named : List ℕ → Expanded
named local = record { uri = []; local = local }

abbrev at : List ℕ → Site
at path = record { place = record { module_name = Some (codes "main"); path = path }; scope = root_scope }

-- <xsl:for-each select="."><xsl:value-of select="."/></xsl:for-each>
abbrev plain : Instrs
plain = instr (at (1 ∷ 1 ∷ 1 ∷ [])) (without_content (made.ValueOf here)) no_instrs

abbrev loop : Instrs
loop = instr (at (1 ∷ 1 ∷ [])) (control (for_each here [] plain)) no_instrs

abbrev name : Expanded
name = record { uri = 0 ∷ codes "main"; local = path_text (1 ∷ 1 ∷ []) }

pub name_in_digits : item_name (at (10 ∷ 2 ∷ [])).place ≡ record { uri = 0 ∷ codes "main"; local = codes "/10/2" }
unfolding digits
name_in_digits = refl

-- a content without variables stands apart as it is
pub one_loop : left_in [] loop ≡ instr (at (1 ∷ 1 ∷ [])) (control (for_items here [] name no_bindings)) no_instrs
one_loop = refl

pub one_item : items_in 1 [] loop ≡ item_unit 1 (at (1 ∷ 1 ∷ [])) [] plain ∷ []
one_item = refl

-- of the variables in scope, those are passed that the content mentions: <xsl:value-of select="$v"/>
abbrev mentions : Instrs
mentions = instr (at (1 ∷ 1 ∷ 1 ∷ [])) (without_content (made.ValueOf (variable (named (codes "v"))))) no_instrs

abbrev scope : List Expanded
scope = named (codes "w") ∷ named (codes "v") ∷ []

pub free : free_in scope mentions ≡ named (codes "v") ∷ []
free = refl

-- a global is no local variable
pub no_global : free_in (named (codes "w") ∷ []) mentions ≡ []
no_global = refl

pub passing : left_in scope (instr (at (1 ∷ 1 ∷ [])) (control (for_each here [] mentions)) no_instrs)
    ≡ instr (at (1 ∷ 1 ∷ []))
    (control (for_items here [] name (binding (at (1 ∷ 1 ∷ [])) (named (codes "v")) (Some (variable (named (codes "v")))) no_instrs no_bindings)))
    no_instrs
passing = refl

-- a loop in another: the outer content is left with the inner loop, whose content is a template of its own and has the same free variable
abbrev nested : Instrs
nested = instr (at (1 ∷ [])) (control (for_each here [] (instr (at (1 ∷ 1 ∷ [])) (control (for_each here [] mentions)) no_instrs))) no_instrs

pub two_items : items_in 1 scope nested
    ≡ item_unit 1 (at (1 ∷ [])) (named (codes "v") ∷ []) (instr (at (1 ∷ 1 ∷ [])) (control (for_each here [] mentions)) no_instrs)
    ∷ item_unit 1 (at (1 ∷ 1 ∷ [])) (named (codes "v") ∷ []) mentions ∷ []
two_items = refl

-- ---- Whole stylesheets: <xsl:template match="/"> at 1, with these contents, whose module may stand in the stylesheet twice
abbrev unit_of : Instrs → sheet.Unit
unit_of is = record { site = at (1 ∷ []); precedence = 1; declared = sheet.ATemplate (record { name = None; parameters = no_bindings; content = is }) }

abbrev of_units : List sheet.Unit → Sheet
of_units units = record { units = units; rules = record { rules = [] }; space_rules = record { rules = [] }; method = None; aliases = [] }

pub once : with_items (of_units (unit_of loop ∷ [])) ≡ of_units (left_unit (unit_of loop) ∷ item_unit 1 (at (1 ∷ 1 ∷ [])) [] plain ∷ [])
once = refl

-- of a unit that stands there twice the contents are lifted once
pub twice : with_items (of_units (unit_of loop ∷ unit_of loop ∷ []))
    ≡ of_units (left_unit (unit_of loop) ∷ left_unit (unit_of loop) ∷ item_unit 1 (at (1 ∷ 1 ∷ [])) [] plain ∷ [])
twice = refl

-- a call of a reserved name stands in no document, and such a stylesheet is left as it is
abbrev calls : Instrs
calls = instr (at (1 ∷ 1 ∷ [])) (control (call_template name no_bindings)) loop

pub left_alone : with_items (of_units (unit_of calls ∷ [])) ≡ of_units (unit_of calls ∷ [])
left_alone = refl

abbrev nested_in : Instrs
nested_in = instr (at (1 ∷ 1 ∷ 1 ∷ [])) (control (for_each here [] plain)) no_instrs

abbrev loop_at_ten : Instrs
loop_at_ten = instr (at (1 ∷ 10 ∷ [])) (control (for_each here [] plain)) no_instrs

-- loops in loops and beside each other differ in their names
pub told_apart : is_liftable (of_units (unit_of (instr (at (1 ∷ 1 ∷ [])) (control (for_each here [] nested_in)) loop_at_ten) ∷ [])) ≡ true
unfolding digits
told_apart = refl
