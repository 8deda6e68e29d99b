-- What the parts of a stylesheet declare and violate, by the names that the program holds.
use Rattle.std.specs.Prelude.{List, [], ◌++◌, map, not, ◌||◌}
use Rattle.std.specs.List.{flat_map}
use Rattle.spec_document.specs.Name.{Expanded}
use Rattle.spec_expression.specs.declared.code.StaticCode.TheVariants as code
use Rattle.spec_stylesheet.specs.Place.{Site}
use Rattle.spec_compile.specs.Content.{Uses, Outline, Nothing, AnElement}
use Rattle.spec_compile.specs.Scoping.{Violation, if_so, in_list, is_named, set_in}
use Rattle.spec_compile.specs.Unit.{Declaration}
use Rattle.xt_content.specs.View.{Element}
use Rattle.xt_top_level.specs.View.{declaration_in}
use Rattle.xt_scoping.specs.declared.known.Known.{Known}
use Rattle.xt_scoping.specs.declared.violation.Ranked.{Ranked}
use Rattle.xt_scoping.specs.Distinct.{with_names}

abbrev pub declared_in : List Ranked → List Declaration
declared_in rs = map (λ r. declaration_in r.top_level.declaration) rs

abbrev pub set_name : Declaration → List Expanded
set_name d = map (λ s. s.name) (set_in d)

abbrev pub uses_at : Known → List Expanded → Site → Uses → List Violation
uses_at known locals site uses =
    flat_map (λ name. if_so (not (is_named locals name || is_named known.globals name)) code.NoVariable site) uses.variables
    ++ flat_map (λ name. if_so (not (is_named known.templates name)) code.NoTemplate site) uses.templates
    ++ flat_map (λ name. if_so (not (is_named known.sets name)) code.BadAttributeSet site) uses.sets

abbrev pub outline_at : Known → List Expanded → Outline → List Violation
outline_at known locals Nothing = []
outline_at known locals (AnElement site uses binds children siblings) =
    uses_at known locals site uses ++ flat_map (λ name. if_so (is_named locals name) code.ShadowedVariable site) (in_list binds)
    ++ outline_at known locals children ++ outline_at known (with_names locals (in_list binds)) siblings

-- an element without its siblings
abbrev pub element_at : Known → List Expanded → Element → List Violation
element_at known locals e =
    uses_at known locals e.site e.uses ++ flat_map (λ name. if_so (is_named locals name) code.ShadowedVariable e.site) (in_list e.binds)
    ++ outline_at known locals e.below
