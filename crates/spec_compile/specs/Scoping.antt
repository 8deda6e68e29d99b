-- Faults between the elements of a stylesheet: variables that are not in scope (S17), local ones that shadow local ones (S18), two globals or
-- two named templates of one name and precedence (S19, S20), templates that are not there (S21), and attribute sets that are not there or use
-- themselves (S22) (XSLT 1.0, sections 6, 7.1.4, 11.4 and 11.5). A binding is in scope for its following siblings and what is below them, a
-- global everywhere.
use Rattle.std.specs.Prelude.{ℕ, zero, suc, Bool, not, ◌&&◌, ◌||◌, ◌==◌, List, [], ◌∷◌, ◌++◌, length, map, Option, None, Some, if◌then◌else◌}
use Rattle.std.specs.List.{list_any, flat_map}
use Rattle.spec_document.specs.Name.{Expanded, same_name}
use Rattle.spec_expression.specs.declared.code.StaticCode.{StaticCode}
use Rattle.spec_expression.specs.declared.code.StaticCode.TheVariants as code
use Rattle.spec_stylesheet.specs.Place.{Place, Site}
use Rattle.spec_stylesheet.specs.Sheet.{AttributeSet}
use Rattle.spec_compile.specs.Content.{Uses, Outline, Nothing, AnElement}
use Rattle.spec_compile.specs.Unit.{Declaration, ATemplate, AGlobal, ASet, TopLevel}

-- a top-level element with the precedence of its stylesheet, and the least precedence of what that imports
pub record Ranked : Type 0 where
  pub precedence : ℕ
  pub imported : ℕ
  pub top_level : TopLevel

pub record Violation : Type 0 where
  pub code : StaticCode
  pub place : Place

abbrev pub at : StaticCode → Site → Violation
at c site = record { code = c; place = site.place }

abbrev pub if_so : Bool → StaticCode → Site → List Violation
if_so b c site = if b then at c site ∷ [] else []

abbrev pub is_named : List Expanded → Expanded → Bool
is_named names name = list_any (same_name name) names

-- ---- What is declared at the top

abbrev pub in_list : Option Expanded → List Expanded
in_list None = []
in_list (Some name) = name ∷ []

abbrev pub global_name : Declaration → List Expanded
global_name (AGlobal g) = g.binding.name ∷ []
global_name _ = []

abbrev pub template_name : Declaration → List Expanded
template_name (ATemplate t pattern priority mode) = in_list t.name
template_name _ = []

abbrev pub set_in : Declaration → List AttributeSet
set_in (ASet s) = s ∷ []
set_in _ = []

pub record Tops : Type 0 where
  pub globals : List Expanded
  pub templates : List Expanded
  pub sets : List AttributeSet

abbrev pub tops_of : List Ranked → Tops
tops_of rs = record {
  globals = flat_map (λ r. global_name r.top_level.declaration) rs;
  templates = flat_map (λ r. template_name r.top_level.declaration) rs;
  sets = flat_map (λ r. set_in r.top_level.declaration) rs;
}

-- ---- What an element names, by the local variables in scope at it

abbrev pub is_variable : Tops → List Expanded → Expanded → Bool
is_variable tops locals name = is_named locals name || is_named tops.globals name

abbrev pub is_set : Tops → Expanded → Bool
is_set tops name = is_named (map (λ s. s.name) tops.sets) name

abbrev pub use_violations : Tops → List Expanded → Site → Uses → List Violation
use_violations tops locals site uses =
    flat_map (λ name. if_so (not (is_variable tops locals name)) code.NoVariable site) uses.variables
    ++ flat_map (λ name. if_so (not (is_named tops.templates name)) code.NoTemplate site) uses.templates
    ++ flat_map (λ name. if_so (not (is_set tops name)) code.BadAttributeSet site) uses.sets

-- elements below a top-level one
abbrev pub outline_violations : Tops → List Expanded → Outline → List Violation
outline_violations tops locals Nothing = []
outline_violations tops locals (AnElement site uses binds children siblings) =
    use_violations tops locals site uses ++ flat_map (λ name. if_so (is_named locals name) code.ShadowedVariable site) (in_list binds)
    ++ outline_violations tops locals children ++ outline_violations tops (in_list binds ++ locals) siblings

-- ---- Attribute sets that use themselves: all declarations of a name are one set

abbrev pub used_by : List AttributeSet → Expanded → List Expanded
used_by sets name = flat_map (λ s. if same_name s.name name then s.sets else []) sets

-- the names that are reached from these in at most so many steps
abbrev pub reached : List AttributeSet → ℕ → List Expanded → List Expanded
reached sets zero names = names
reached sets (suc more) names = names ++ reached sets more (flat_map (used_by sets) names)

abbrev pub uses_itself : List AttributeSet → AttributeSet → Bool
uses_itself sets s = is_named (reached sets (length sets) s.sets) s.name

-- ---- Top-level elements, in stylesheet order

-- a name that an earlier one of the same precedence declares too
abbrev pub has_earlier : (Declaration → List Expanded) → List Ranked → ℕ → Expanded → Bool
has_earlier names_of before precedence name = list_any (λ r. (r.precedence == precedence) && is_named (names_of r.top_level.declaration) name) before

abbrev pub doubled : (Declaration → List Expanded) → StaticCode → List Ranked → Ranked → List Violation
doubled names_of c before r =
    flat_map (λ name. if_so (has_earlier names_of before r.precedence name) c r.top_level.site) (names_of r.top_level.declaration)

abbrev pub top_level_violations : Tops → TopLevel → List Violation
top_level_violations tops t =
    use_violations tops [] t.site t.uses ++ flat_map (λ s. if_so (uses_itself tops.sets s) code.BadAttributeSet t.site) (set_in t.declaration)
    ++ outline_violations tops [] t.outline

abbrev pub violations_from : Tops → List Ranked → List Ranked → List Violation
violations_from tops before [] = []
violations_from tops before (r ∷ rs) =
    doubled global_name code.DoubleGlobal before r ++ doubled template_name code.DoubleTemplate before r ++ top_level_violations tops r.top_level
    ++ violations_from tops (before ++ r ∷ []) rs

abbrev pub violations_of : List Ranked → List Violation
violations_of rs = violations_from (tops_of rs) [] rs
