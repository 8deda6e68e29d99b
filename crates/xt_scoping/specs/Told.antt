-- What is declared at the top, as the program holds it.
use Rattle.std.specs.Prelude.{◌≡◌, List, [], ◌++◌, length, map}
use Rattle.std.specs.List.{flat_map}
use Rattle.spec_document.specs.Name.{Expanded}
use Rattle.spec_expression.specs.declared.code.StaticCode.TheVariants as code
use Rattle.spec_stylesheet.specs.Place.{Site}
use Rattle.spec_stylesheet.specs.Sheet.{AttributeSet}
use Rattle.spec_compile.specs.Scoping as spec
use Rattle.spec_compile.specs.Scoping.{Violation, global_name, if_so, is_named, set_in, template_name, used_by}
use Rattle.spec_compile.specs.Unit.{TopLevel}
use Rattle.xt_scoping.specs.declared.doubles.Earlier.{Earlier}
use Rattle.xt_scoping.specs.declared.tops.Tops.{Tops}
use Rattle.xt_scoping.specs.Precedences.{is_declared}
use Rattle.xt_scoping.specs.Reach.{reached_by, used_in}
use Rattle.xt_scoping.specs.Steps.{outline_at, uses_at}

pub record IsTold (tops : Tops) (told : spec.Tops) : Type 0 where
  pub globals : (n : Expanded) → is_named tops.known.globals n ≡ is_named told.globals n
  pub templates : (n : Expanded) → is_named tops.known.templates n ≡ is_named told.templates n
  pub sets : (n : Expanded) → is_named tops.known.sets n ≡ is_named (map (λ s. s.name) told.sets) n
  pub used : (n : Expanded) → used_in tops.graph n ≡ used_by told.sets n
  pub rounds : tops.rounds ≡ length told.sets

abbrev pub itself_at : Tops → Site → AttributeSet → List Violation
itself_at tops site s = if_so (is_named (reached_by (used_in tops.graph) tops.rounds s.sets) s.name) code.BadAttributeSet site

-- at an element at the top and below it, where these are in scope
abbrev pub top_with : Tops → List Expanded → TopLevel → List Violation
top_with tops locals t =
    uses_at tops.known locals t.site t.uses ++ flat_map (itself_at tops t.site) (set_in t.declaration) ++ outline_at tops.known locals t.outline

abbrev pub top_at : Tops → TopLevel → List Violation
top_at tops t = top_with tops [] t

abbrev pub doubles_at : Earlier → spec.Ranked → List Violation
doubles_at earlier r =
    flat_map (λ name. if_so (is_declared earlier.globals r.precedence name) code.DoubleGlobal r.top_level.site) (global_name r.top_level.declaration)
    ++ flat_map (λ name. if_so (is_declared earlier.templates r.precedence name) code.DoubleTemplate r.top_level.site) (template_name r.top_level.declaration)
