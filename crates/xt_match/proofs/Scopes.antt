-- The namespaces in scope at the template of a rule.
use Rattle.std.proofs.Common.{◌≡◌, ℕ, ◌<◌, ◌≤◌, length, List, Option, None, Some, map, refl, ap, ◌∙◌}
use Rattle.std.specs.Option.{option_map}
use Rattle.std.specs.Prelude.{slice_get, get_or}
use Rattle.std.proofs.lemmas.Option.{slice_get-map, slice_get_read, slice_get_past}
use Rattle.spec_document.specs.Scope.{Scope, root_scope}
use Rattle.spec_stylesheet.specs.Sheet as sheet
use Rattle.spec_transform.specs.Choice.{scope_for}
use Rattle.xt_match.specs.Context.{unit_in, units_in}
use Rattle.std.specs.declared.rc.Rc.{Rc}
use Rattle.std.specs.Global.{Global}
use Rattle.xt_questions.specs.declared.answer.ResolvedUnit.{ResolvedUnit}

abbrev scope_in : Option sheet.Unit → Scope
scope_in o = elim o [ None ↦ root_scope | Some unit ↦ unit.site.scope ]

pub scope_found : (us : List (Rc ResolvedUnit Global)) (rule : sheet.Rule) (u : Rc ResolvedUnit Global) → rule.unit < length us → u ≡ get_or us rule.unit u
    → scope_for (units_in us) rule ≡ (unit_in u).site.scope
scope_found us rule u fits is =
    ap scope_in (slice_get-map unit_in us rule.unit ∙ ap (λ o. option_map unit_in o) (slice_get_read us (length us) rule.unit u refl fits is))

pub scope_missing : (us : List (Rc ResolvedUnit Global)) (rule : sheet.Rule) → length us ≤ rule.unit → scope_for (units_in us) rule ≡ root_scope
scope_missing us rule past = ap scope_in (slice_get-map unit_in us rule.unit ∙ ap (λ o. option_map unit_in o) (slice_get_past us rule.unit past))
