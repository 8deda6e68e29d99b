use Rattle.std.proofs.Common.{◌≡◌, List, ℕ, Option, Some, refl, ap, sym, subst, string_bytes, ◌∙◌, true}
use Rattle.std.specs.Option.{option_copied, option_map}
use Rattle.std.specs.Str.{chars}
use Rattle.std.specs.declared.alloc.Global.{Global}
use Rattle.std.specs.declared.string.String.{String}
use Rattle.spec_document.specs.Forest.{Document}
use Rattle.spec_cost.specs.Numbers as numbers
use Rattle.spec_cost.specs.Numbers.{NumberedModules}
use Rattle.spec_run.specs.Documents.{main_name, with_module}
use Rattle.spec_run.specs.Outcome.{Comes}
use Rattle.spec_structure.specs.Modules.{Modules}
use Rattle.xt_edit.specs.View.{AreBelow}
use Rattle.xt_import.specs.View.{modules_in, plain_of}
use Rattle.xt_world.specs.ParameterView.{parameters_of}
use Rattle.xt_held.specs.Called.{AreCalled, numbered_modules}
use Rattle.xt_held.specs.OutcomeView.{outcome_of}
use Rattle.xt_held.specs.RunView.{AnswersAsSome, LastHolds}
use Rattle.xt_held.specs.StylesheetView.{AreCompiled, with_one}
use Rattle.xt_held.specs.View.{AreAllBelow, before_by, documents_of, is_edited_by, left_by, made_of, numbers_of, with_edit}
use Rattle.xt_held.specs.declared.stylesheet.Compiled.{Compiled}
use Rattle.xt_held.specs.declared.held.Held.{Held}
use Rattle.xt_held.specs.declared.ready.Change.TheVariants as changes
use Rattle.xt_held.specs.declared.ready.Recompiled.TheVariants.{Now}
use Rattle.xt_held.proofs.Keeping.{all_raised, kept_modules}
use Rattle.xt_held.proofs.Making.{mapped_edit, none_open, told_from, told_ready}
use Rattle.xt_held.proofs.Paying.{module_changes}
use Rattle.xt_held.proofs.Marked.{answers_as_some, known_of}
use Rattle.xt_held.specs.Complete.{KeepsWhere}
use Rattle.xt_held.specs.Cost.{CostsRun}
use Rattle.spec_cost.specs.Marking.{and_marks}
use Rattle.xt_held.specs.Marked.{known_in}
use Rattle.xt_held.specs.View.{is_edited_by}
use Rattle.xt_held.proofs.Asking.{or_is_true, with_style}
use Rattle.xt_held.proofs.held.Held.present_module.Goals as goal

pub outcome_with_modules-requires-clause-known : goal.outcome_with_modules-requires-clause-known
outcome_with_modules-requires-clause-known c =
    let known = known_of c.args.self.now c.requires.current in record { last = known.last }

pub outcome_with_modules-requires-clause-answers : goal.outcome_with_modules-requires-clause-answers
outcome_with_modules-requires-clause-answers c =
    let compiled = c.in_ok-tried.tried.compiled in
    let modules = with_one c.args.name.now (plain_of c.args.document) (modules_in c.args.self.now.modules.entries) in
    subst (λ (o : Option Compiled). AnswersAsSome o) (sym c.as_ref.ensures.value) (answers_as_some modules compiled c.in_ok-tried.ensures.compiled)

pub returns-clause-ok : goal.returns-clause-ok
returns-clause-ok c =
    let held = c.args.self.now in
    let document = c.in_ok-tried.tried.document in
    let compiled = c.in_ok-tried.tried.compiled in
    let key = chars (string_bytes c.in-Ok.key) in
    let name : key ≡ c.args.name.now = ap chars c.in-Ok.ensures.ok ∙ c.as_str.ensures.characters in
    let same : document ≡ c.args.document = c.in_ok-tried.ensures.document in
    let entries : c.reserve.new.self.entries ≡ held.modules.entries = c.in-Ok-reserve.ensures.entries ∙ c.in_ok-tried.ensures.kept in
    let modules = with_one key (plain_of document) (modules_in c.reserve.new.self.entries) in
    let is : with_one c.args.name.now (plain_of c.args.document) (modules_in held.modules.entries) ≡ modules
    = sym (λ i. with_one (name i) (plain_of (same i)) (modules_in (entries i))) in
    let are : AreCompiled modules compiled = subst (λ (ms : Modules). AreCompiled ms compiled) is c.in_ok-tried.ensures.compiled in
    let given = numbers.with_one c.args.name.now (Some c.args.document) (numbered_modules held.modules.entries) in
    let numbered : given ≡ numbers.with_one key (Some document) (numbered_modules c.reserve.new.self.entries)
    = sym (λ i. numbers.with_one (name i) (Some (same i)) (numbered_modules (entries i))) in
    let called : AreCalled modules given compiled = subst (λ (ms : Modules). AreCalled ms given compiled) is c.in_ok-tried.ensures.called in
    let came = c.in-Ok-outcome_with_modules in
    let of_reference : AreCompiled modules (option_copied c.as_ref.result) = subst (λ (o : Option Compiled). AreCompiled modules o) (sym c.as_ref.ensures.value) are in
    let comes : Comes modules (parameters_of held.parameters) (modules main_name) (option_map plain_of held.source) (outcome_of came.came.outcome)
    = came.ensures.outcome modules of_reference in
    let new : Held = record held { modules = c.reserve.new.self } in
    let alone = none_open held.batch (documents_of held) c.requires.alone in
    let change = changes.Module c.in-Ok.key document (Now compiled) in
    record {
      documents = λ i. with_module (name i) (plain_of (same i)) (documents_of new);
      made = refl;
      pending = mapped_edit held.batch _ (documents_of new);
      from = told_from new change c.args.next came.came
          (record {
            outcome = comes;
            closed = ap (option_map with_edit) alone;
            fits = came.ensures.fits;
            compiled = are;
            last = subst (λ (o : Option Compiled). LastHolds (outcome_of came.came.outcome) o (parameters_of held.parameters) held.source
                (left_by came.came (before_by o held.compiled held.last.before) held.last)) c.as_ref.ensures.value came.ensures.last;
            cost = subst (λ (o : Option Compiled). CostsRun o (parameters_of held.parameters) held.source held.last.kept.records came.came.counts)
                c.as_ref.ensures.value came.ensures.cost;
            keeps = subst (λ (o : Option Compiled). KeepsWhere o (parameters_of held.parameters) held.source came.came.kept) c.as_ref.ensures.value
                came.ensures.keeps;
            same = module_changes (told_ready change c.args.next came.came) new (is_edited_by held.batch);
            called = λ e. subst (λ (ns : NumberedModules). AreCalled modules ns compiled) numbered called;
          }) c.in-Ok-reserve.ensures.ok
          (subst (λ (es : List (String Global × Document ℕ)). AreAllBelow c.args.next.number held.source es) (sym entries)
          (all_raised (made_of held) c.args.next.number held c.requires.grows c.requires.current.below))
          (subst (λ (d : Document ℕ). AreBelow c.args.next.number d) (sym same) c.requires.below);
    }

pub returns-clause-brings : goal.returns-clause-brings
returns-clause-brings c =
    let new : Held = record c.args.self.now { modules = c.reserve.new.self } in
    let name : chars (string_bytes c.in-Ok.key) ≡ c.args.name.now = ap chars c.in-Ok.ensures.ok ∙ c.as_str.ensures.characters in
    record { numbers = λ i. numbers.with_module (name i) (Some (c.in_ok-tried.ensures.document i)) (numbers_of new); kind = refl }

pub returns-clause-kept : goal.returns-clause-kept
returns-clause-kept c = kept_modules c.args.self.now _ (c.in-Ok-reserve.ensures.entries ∙ c.in_ok-tried.ensures.kept) refl

pub returns-in_default-reserve-clause-kept : goal.returns-in_default-reserve-clause-kept
returns-in_default-reserve-clause-kept c = kept_modules c.args.self.now _ (c.reserve.ensures.entries ∙ c.in_ok-tried.ensures.kept) refl

pub returns-in_default-outcome_with_modules-clause-kept : goal.returns-in_default-outcome_with_modules-clause-kept
returns-in_default-outcome_with_modules-clause-kept c = kept_modules c.args.self.now _ c.in_ok-tried.ensures.kept refl

pub returns-clause-tells : goal.returns-clause-tells
returns-clause-tells c =
    let held = c.args.self.now in
    let document = c.in_ok-tried.tried.document in
    let key = chars (string_bytes c.in-Ok.key) in
    let name : key ≡ c.args.name.now = ap chars c.in-Ok.ensures.ok ∙ c.as_str.ensures.characters in
    let same : document ≡ c.args.document = c.in_ok-tried.ensures.document in
    let entries : c.reserve.new.self.entries ≡ held.modules.entries = c.in-Ok-reserve.ensures.entries ∙ c.in_ok-tried.ensures.kept in
    let modules = with_one key (plain_of document) (modules_in c.reserve.new.self.entries) in
    let is_so : with_one c.args.name.now (plain_of c.args.document) (modules_in held.modules.entries) ≡ modules
    = sym (λ i. with_one (name i) (plain_of (same i)) (modules_in (entries i))) in
    let are = subst (λ (o : Option Compiled). AreCompiled modules o) (sym c.as_ref.ensures.value)
    (subst (λ (ms : Modules). AreCompiled ms c.in_ok-tried.tried.compiled) is_so c.in_ok-tried.ensures.compiled) in
    record {
      tells = λ told is.
          let styled = c.in-Ok-outcome_with_modules.ensures.asks told is modules are in
          record {
            all = and_marks told styled.0;
            by = with_style (is_edited_by held.batch) true modules (known_in held) told styled.0 (or_is_true (is_edited_by held.batch)) styled.1;
            asked = styled.2;
          };
    }
