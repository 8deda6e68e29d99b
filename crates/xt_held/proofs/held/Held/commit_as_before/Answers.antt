use Rattle.std.proofs.Common.{ℕ, Option, ap, refl, subst, sym, ◌∙◌, List}
use Rattle.std.specs.Option.{option_map}
use Rattle.spec_document.specs.Forest.{Document, Plain}
use Rattle.spec_run.specs.Documents.{main_name}
use Rattle.spec_run.specs.Outcome.{Comes}
use Rattle.xt_import.specs.View.{plain_of}
use Rattle.xt_world.specs.ParameterView.{parameters_of}
use Rattle.xt_held.specs.OutcomeView.{outcome_of}
use Rattle.xt_held.specs.RunView.{LastHolds, LastServes}
use Rattle.xt_held.specs.View.{documents_of, is_edited_by, left_by}
use Rattle.xt_held.specs.declared.ready.Change.TheVariants as changes
use Rattle.xt_held.specs.declared.ready.Recompiled.TheVariants.{AsBefore}
use Rattle.xt_held.proofs.Keeping.{serves_since}
use Rattle.xt_held.proofs.Keys.{map-copied}
use Rattle.xt_held.proofs.Making.{not_edited, told_from}
use Rattle.xt_held.proofs.Paying.{unedited_modules}
use Rattle.xt_held.specs.Complete.{KeepsWhere}
use Rattle.xt_held.specs.Cost.{CostsRun}
use Rattle.spec_touch.specs.Marks.{WorldChange}
use Rattle.xt_held.specs.Marked.{AreToldBy, known_in}
use Rattle.xt_held.proofs.Asking.{as_told}
use Rattle.xt_held.proofs.held.Held.commit_as_before.Goals as goal

pub outcome_after-requires : goal.outcome_after-requires
outcome_after-requires c =
    let held = c.args.self.now in
    let given = parameters_of held.parameters in
    let since = c.in_ok-since.since in
    subst (λ (source : Option (Document ℕ)). LastServes held.compiled given source (record held.last { since = since })) (sym c.as_ref.ensures.value)
    (serves_since held.compiled given held.source held.last since c.in_ok-since.ensures c.requires.current.serves)

pub returns-clause-ok : goal.returns-clause-ok
returns-clause-ok c =
    let held = c.args.self.now in
    let given = parameters_of held.parameters in
    let modules = (documents_of held).modules in
    let came = c.in_ok-came in
    let source = map-copied plain_of c.as_ref.result ∙ ap (option_map plain_of) c.as_ref.ensures.value in
    record {
      is_open = c.requires.is_open;
      present = refl;
      pending = refl;
      made = refl;
      from = told_from held (changes.Committed AsBefore) held.next came.came
          (record {
            outcome = subst (λ (s : Option Plain). Comes modules given (modules main_name) s (outcome_of came.came.outcome)) source
                (came.ensures.outcome modules c.requires.compiled);
            closed = refl;
            fits = came.ensures.fits;
            compiled = c.requires.compiled;
            last = subst (λ (s : Option (Document ℕ)). LastHolds (outcome_of came.came.outcome) held.compiled given s
                (left_by came.came held.last.before held.last)) c.as_ref.ensures.value came.ensures.last;
            cost = subst (λ (s : Option (Document ℕ)). CostsRun held.compiled given s held.last.kept.records came.came.counts)
                c.as_ref.ensures.value came.ensures.cost;
            keeps = subst (λ (s : Option (Document ℕ)). KeepsWhere held.compiled given s came.came.kept) c.as_ref.ensures.value came.ensures.keeps;
            same = λ e. record { modules = unedited_modules held c.requires.current e; compiled = refl };
            called = λ e. absurd (not_edited (is_edited_by held.batch) c.requires.unedited e);
          }) tt c.requires.current.below tt;
      told = refl;
    }

pub returns-clause-tells : goal.returns-clause-tells
returns-clause-tells c =
    let held = c.args.self.now in
    record {
      tells = λ told is.
          record {
            all = told;
            by = as_told (is_edited_by held.batch) (documents_of held).modules (known_in held) told c.requires.unedited;
            asked = c.in_ok-came.ensures.asks told
                (subst (λ (changes : List WorldChange). AreToldBy held.last.kept.records told changes) (sym c.in_ok-since.ensures) is);
          };
    }
