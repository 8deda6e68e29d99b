use Rattle.std.proofs.Common.{List, map, ap, sym, ◌∙◌}
use Rattle.spec_compile.specs.Scoping as plain
use Rattle.spec_compile.specs.Sheet as spec
use Rattle.xt_scoping.specs.View.{ranked_in, violation_in}
use Rattle.xt_scoping.specs.declared.violation.Ranked.{Ranked}
use Rattle.xt_scoping.specs.declared.violation.Violation.{Violation}
use Rattle.xt_compile.specs.View.{refusals_in}
use Rattle.xt_compile.proofs.Whole.{checked_err}
use Rattle.xt_compile.proofs.compiled.checked.Goals as goal

pub returns-in-Some : goal.returns-in-Some
returns-in-Some c =
    let names = c.args.names.now in
    let all = ap (λ (rs : List Ranked). plain.violations_of (map ranked_in rs)) c.as_slice.ensures.value in
    let first = sym (c.in_ok-refusal.ensures ∙ ap (λ (vs : List Violation). spec.first_violation names (map violation_in vs)) c.as_slice-2.ensures.value
    ∙ ap (spec.first_violation names) (c.in_ok-violations.ensures ∙ all)) ∙ ap refusals_in c.in-Some.is in
    record { so = checked_err names (map ranked_in c.args.ranked.items) _ first }
