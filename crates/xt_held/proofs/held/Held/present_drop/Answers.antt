use Rattle.std.proofs.Common.{None, Option, refl, subst, sym, ◌≡◌, true}
use Rattle.spec_cost.specs.Numbers as numbers
use Rattle.xt_import.specs.View.{modules_in}
use Rattle.xt_world.specs.ParameterView.{parameters_of}
use Rattle.xt_held.specs.OutcomeView.{outcome_of}
use Rattle.xt_held.specs.RunView.{AnswersAsSome, LastHolds}
use Rattle.xt_held.specs.View.{before_by, documents_of, left_by, numbers_of}
use Rattle.xt_held.specs.StylesheetView.{AreCompiled, without_one}
use Rattle.xt_held.specs.declared.held.Held.{Held}
use Rattle.xt_held.specs.declared.stylesheet.Compiled.{Compiled}
use Rattle.xt_held.proofs.Dropped.{ready_so}
use Rattle.xt_held.proofs.Keeping.{kept_so}
use Rattle.xt_held.proofs.Making.{none_open}
use Rattle.xt_held.proofs.Marked.{answers_as_some, known_of}
use Rattle.xt_held.specs.Complete.{KeepsWhere}
use Rattle.xt_held.specs.Cost.{CostsRun}
use Rattle.std.specs.Option.{option_copied}
use Rattle.spec_structure.specs.Modules.{Modules}
use Rattle.spec_run.specs.Documents.{without_module}
use Rattle.spec_cost.specs.Marking.{and_marks}
use Rattle.xt_held.specs.Marked.{known_in}
use Rattle.xt_held.specs.View.{is_edited_by}
use Rattle.xt_held.proofs.Asking.{or_is_true, with_style}
use Rattle.xt_held.proofs.Dropping.{same_modules}
use Rattle.xt_held.proofs.held.Held.present_drop.Goals as goal

pub returns-in_err-compiled-clause-kept : goal.returns-in_err-compiled-clause-kept
returns-in_err-compiled-clause-kept c =
    kept_so c.args.self.now _ (record { modules = c.compiled_without.ensures.kept; source = refl; compiled = refl; parameters = refl; made = refl; outcome = refl; counts = refl; last = refl; batch = refl })

pub returns-in_default-clause-kept : goal.returns-in_default-clause-kept
returns-in_default-clause-kept c =
    kept_so c.args.self.now _ (record { modules = c.in_ok-compiled.ensures.kept; source = refl; compiled = refl; parameters = refl; made = refl; outcome = refl; counts = refl; last = refl; batch = refl })

pub returns-clause-kept : goal.returns-clause-kept
returns-clause-kept c =
    kept_so c.args.self.now _ (record { modules = c.in_ok-compiled.ensures.kept; source = refl; compiled = refl; parameters = refl; made = refl; outcome = refl; counts = refl; last = refl; batch = refl })

pub outcome_with_modules-requires-clause-known : goal.outcome_with_modules-requires-clause-known
outcome_with_modules-requires-clause-known c =
    let known = known_of c.args.self.now c.requires.current in record { last = known.last }

pub outcome_with_modules-requires-clause-answers : goal.outcome_with_modules-requires-clause-answers
outcome_with_modules-requires-clause-answers c =
    let modules = without_one c.args.name.now (modules_in c.args.self.now.modules.entries) in
    subst (λ (o : Option Compiled). AnswersAsSome o) (sym c.as_ref.ensures.value)
    (answers_as_some modules c.in_ok-compiled.compiled c.in_ok-compiled.ensures.compiled)

pub returns-clause-ok : goal.returns-clause-ok
returns-clause-ok c =
    let held = c.args.self.now in
    let name = c.args.name.now in
    let compiled = c.in_ok-compiled.compiled in
    let came = c.in-Ok.came in
    let modules = without_one name (modules_in held.modules.entries) in
    let are = subst (λ (o : Option Compiled). AreCompiled modules o) (sym c.as_ref.ensures.value) c.in_ok-compiled.ensures.compiled in
    let holds = subst (λ (o : Option Compiled). LastHolds (outcome_of came.outcome) o (parameters_of held.parameters) held.source
    (left_by came (before_by o held.compiled held.last.before) held.last)) c.as_ref.ensures.value c.in-Ok.ensures.last in
    let cost = subst (λ (o : Option Compiled). CostsRun o (parameters_of held.parameters) held.source held.last.kept.records came.counts)
    c.as_ref.ensures.value c.in-Ok.ensures.cost in
    let keeps = subst (λ (o : Option Compiled). KeepsWhere o (parameters_of held.parameters) held.source came.kept) c.as_ref.ensures.value
    c.in-Ok.ensures.keeps in
    ready_so held _ (record { modules = c.in_ok-compiled.ensures.kept; source = refl; compiled = refl; parameters = refl; made = refl; outcome = refl; counts = refl; last = refl; batch = refl })
    (none_open held.batch (documents_of held) c.requires.alone) name c.in_ok-dropped.dropped c.in_ok-dropped.ensures compiled came held.next refl c.in_ok-compiled.ensures.compiled
    c.in_ok-compiled.ensures.called (c.in-Ok.ensures.outcome modules are)
    c.in-Ok.ensures.fits holds cost keeps c.requires.current

pub returns-clause-brings : goal.returns-clause-brings
returns-clause-brings c =
    let new : Held = record c.args.self.now { modules = c.compiled_without.new.modules } in
    record { numbers = λ i. numbers.with_module (c.in_ok-dropped.ensures i) None (numbers_of new); kind = refl }

pub returns-clause-tells : goal.returns-clause-tells
returns-clause-tells c =
    let held = c.args.self.now in
    let new : Held = record held { modules = c.compiled_without.new.modules } in
    let given = without_one c.args.name.now (modules_in held.modules.entries) in
    let modules = (without_module c.in_ok-dropped.dropped (documents_of new)).modules in
    let same : given ≡ modules
    = λ i. without_one (sym c.in_ok-dropped.ensures i)
    (sym (same_modules held.modules.entries c.compiled_without.new.modules.entries c.in_ok-compiled.ensures.kept) i) in
    let are = subst (λ (ms : Modules). AreCompiled ms (option_copied c.as_ref.result)) same
    (subst (λ (o : Option Compiled). AreCompiled given o) (sym c.as_ref.ensures.value) c.in_ok-compiled.ensures.compiled) in
    record {
      tells = λ told is.
          let styled = c.in-Ok.ensures.asks told is modules are in
          record {
            all = and_marks told styled.0;
            by = with_style (is_edited_by held.batch) true modules (known_in held) told styled.0 (or_is_true (is_edited_by held.batch)) styled.1;
            asked = styled.2;
          };
    }
