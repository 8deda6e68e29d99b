-- What is held where a value of a parameter was tried, and what is ready then.
use Rattle.std.proofs.Common.{◌≡◌, ℕ, true, List, None, string_bytes, arith, refl, sym, subst}
use Rattle.std.specs.Option.{is_some}
use Rattle.std.specs.Str.{chars}
use Rattle.std.specs.declared.alloc.Global.{Global}
use Rattle.std.specs.declared.string.String.{String}
use Rattle.spec_run.specs.Documents as spec
use Rattle.spec_run.specs.Documents.{main_name, with_parameter}
use Rattle.spec_run.specs.Outcome.{Comes}
use Rattle.xt_touch.specs.declared.since.Since.{Since}
use Rattle.xt_world.specs.ParameterView.{HasRoomForOne, parameters_of, with_value}
use Rattle.xt_world.specs.declared.parameters.Parameters.{Parameters}
use Rattle.xt_held.specs.Complete.{KeepsWhere}
use Rattle.xt_held.specs.Cost.{CostsRun}
use Rattle.xt_held.specs.OutcomeView.{Fits, outcome_of}
use Rattle.xt_held.specs.RunView.{LastHolds, LastServes}
use Rattle.xt_held.specs.StylesheetView.{AreCompiled}
use Rattle.xt_held.specs.View.{HasBelow, IsCurrent, IsKept, IsReady, left_by, documents_of, made_of, pending_of}
use Rattle.xt_held.specs.declared.held.Held.{Held}
use Rattle.xt_held.specs.declared.outcome.Came.{Came}
use Rattle.xt_held.specs.declared.ready.Change.TheVariants as changes
use Rattle.xt_held.proofs.Dropping.{same_entries}
use Rattle.xt_held.proofs.Keeping.{IsReordered, kept_so as reordered_kept}
use Rattle.xt_held.proofs.Making.{mapped_twice, none_edited, open_batch, pending_from, pending_ready, told_from, told_ready}
use Rattle.xt_held.proofs.Paying.{present_modules}

abbrev pub with_those : Held → Parameters → Held
with_those held parameters = record held { parameters = parameters }

reordered : (held : Held) (parameters : Parameters) → parameters_of parameters ≡ parameters_of held.parameters → IsReordered held (with_those held parameters)
reordered held parameters same = record {
  modules = same_entries held.modules.entries held.modules.entries refl;
  source = refl;
  compiled = refl;
  parameters = same;
  made = refl;
  outcome = refl;
  counts = refl;
  last = refl;
  batch = refl;
}

pub kept_so : (held : Held) (parameters : Parameters) → parameters_of parameters ≡ parameters_of held.parameters
    → IsKept held (with_those held parameters)
kept_so held parameters same = reordered_kept held (with_those held parameters) (reordered held parameters same)

module _ (held : Held) (parameters : Parameters) (name value : List ℕ) (key : String Global) (kept : List ℕ)
    (same : parameters_of parameters ≡ parameters_of held.parameters) (named : chars (string_bytes key) ≡ name) (valued : kept ≡ value) where
  given : with_value name value (parameters_of held.parameters) ≡ with_value (chars (string_bytes key)) kept (parameters_of parameters)
  given = sym (λ i. with_value (named i) (valued i) (same i))

  documents : with_parameter (chars (string_bytes key)) kept (documents_of (with_those held parameters))
      ≡ with_parameter name value (documents_of (with_those held parameters))
  documents = λ i. with_parameter (named i) (valued i) (documents_of (with_those held parameters))

  pub ready_so : held.batch ≡ None → (came : Came)
      → AreCompiled (documents_of held).modules held.compiled → HasBelow (made_of held) held
      → Comes (documents_of held).modules (with_value name value (parameters_of held.parameters)) ((documents_of held).modules main_name)
      (documents_of held).source (outcome_of came.outcome)
      → Fits came
      → LastHolds (outcome_of came.outcome) held.compiled (with_value name value (parameters_of held.parameters)) held.source
      (left_by came held.last.before held.last)
      → CostsRun held.compiled (with_value name value (parameters_of held.parameters)) held.source held.last.kept.records came.counts
      → KeepsWhere held.compiled (with_value name value (parameters_of held.parameters)) held.source came.kept
      → HasRoomForOne parameters
      → IsReady (with_parameter name value) (made_of held) (with_those held parameters) (told_ready (changes.Parameter key kept) held.next came)
  ready_so alone came compiled below comes fits holds cost keeps room =
      let old = documents_of held in
      record {
        documents = documents;
        made = refl;
        pending = mapped_twice held.batch (with_parameter (chars (string_bytes key)) kept (documents_of (with_those held parameters)))
            (documents_of (with_those held parameters));
        from = told_from (with_those held parameters) (changes.Parameter key kept) held.next came
            (record {
              outcome = subst (λ (values : spec.Parameters). Comes old.modules values (old.modules main_name) old.source (outcome_of came.outcome)) given comes;
              closed = alone;
              fits = fits;
              compiled = compiled;
              last = subst (λ (values : spec.Parameters). LastHolds (outcome_of came.outcome) held.compiled values held.source
                  (left_by came held.last.before held.last)) given holds;
              cost = subst (λ (values : spec.Parameters). CostsRun held.compiled values held.source held.last.kept.records came.counts) given cost;
              keeps = subst (λ (values : spec.Parameters). KeepsWhere held.compiled values held.source came.kept) given keeps;
              same = λ e. record { modules = present_modules (with_those held parameters) alone; compiled = refl };
              called = λ e. absurd (none_edited held.batch alone e);
            }) room below tt;
      }

  -- while a batch is open
  pub pending_so : is_some (pending_of held) ≡ true → (since : Since) → IsCurrent held
      → LastServes held.compiled (with_value name value (parameters_of held.parameters)) held.source (record held.last { since = since })
      → HasRoomForOne parameters
      → IsReady (with_parameter name value) (made_of held) (with_those held parameters) (pending_ready (changes.Parameter key kept) held.next since)
  pending_so one since now serves room =
      let kept_now = (kept_so held parameters same).current now in
      record {
        documents = documents;
        made = refl;
        pending = mapped_twice held.batch (with_parameter (chars (string_bytes key)) kept (documents_of (with_those held parameters)))
            (documents_of (with_those held parameters));
        from = pending_from (with_those held parameters) (changes.Parameter key kept) held.next since
            (record {
              current = kept_now;
              is_open = open_batch held.batch (documents_of held) one;
              grows = omega arith;
              compiled = refl;
              before = refl;
              serves = subst (λ (values : spec.Parameters). LastServes held.compiled values held.source (record held.last { since = since })) given serves;
            }) room now.below tt;
      }
