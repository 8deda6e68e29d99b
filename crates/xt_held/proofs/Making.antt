-- Changes that were made ready, and what is held once they are adopted.
use Rattle.std.proofs.Common.{◌≡◌, ℕ, ◌≤◌, Bool, true, false, Option, None, Some, refl, sym, ap, subst, ◌∙◌}
use Rattle.std.specs.Prelude.{IfSome, ◌||◌}
use Rattle.std.specs.Option.{is_some, option_map, unwrap_or}
use Rattle.spec_node.specs.declared.node_ref.NodeId.{NodeId}
use Rattle.spec_run.specs.Documents.{Documents}
use Rattle.spec_run.specs.Outcome.{IsOutcome}
use Rattle.xt_touch.specs.declared.since.Since.{Since}
use Rattle.xt_world.specs.ParameterView.{parameters_of}
use Rattle.xt_held.specs.Called.{numbered_modules}
use Rattle.xt_held.specs.OutcomeView.{outcome_of}
use Rattle.xt_held.specs.StylesheetView.{AreCompiled}
use Rattle.xt_held.specs.View.{Basis, HasBelow, HasRoom, IsBatchOf, IsBelow, IsComing, IsCurrent, IsMadeFrom, IsPending, IsTold, IsToldOf, StaysTold, changed_by, documents_in, documents_of, edited_basis, is_edited_by, last_in, left_after, made_of, next_basis, next_batch, next_before, next_compiled, next_documents, next_last, next_made, next_numbers, next_outcome, next_pending, next_present, next_source, outcome_after, outcome_in, pending_of, present_basis, present_by, present_of, next_counts, counts_by, counts_in, told_by, with_coming, with_edit}
use Rattle.xt_held.specs.declared.batch.Batch.{Batch}
use Rattle.xt_held.specs.declared.held.Held.{Held}
use Rattle.xt_held.specs.declared.last_run.LastRun.{LastRun}
use Rattle.xt_held.specs.declared.outcome.Came.{Came}
use Rattle.xt_held.specs.declared.outcome.Outcome.{Outcome}
use Rattle.xt_held.specs.declared.ready.Change.{Change}
use Rattle.xt_held.specs.declared.ready.Change.TheVariants as changes
use Rattle.xt_held.specs.declared.ready.Coming.{Coming}
use Rattle.xt_held.specs.declared.ready.Coming.TheVariants.{Told, Pending}
use Rattle.xt_held.specs.declared.ready.Ready.{Ready}
use Rattle.xt_held.specs.declared.stylesheet.Compiled.{Compiled}
use Rattle.xt_held.proofs.Keeping.{current_by, raised_all, same_free, same_serves, same_told, told_on}

abbrev pub told_ready : Change → NodeId → Came → Ready
told_ready change next came = record { change = change; next = next; coming = Told came }

abbrev pub pending_ready : Change → NodeId → Since → Ready
pending_ready change next since = record { change = change; next = next; coming = Pending since }

-- ---- Whether a batch is open

pub none_open : (batch : Option Batch) (documents : Documents) → is_some (option_map (λ (b : Batch). documents) batch) ≡ false → batch ≡ None
none_open None documents h = refl
none_open (Some batch) documents h = absurd (cc)

pub open_batch : (batch : Option Batch) (documents : Documents) → is_some (option_map (λ (b : Batch). documents) batch) ≡ true → is_some batch ≡ true
open_batch None documents h = absurd (cc)
open_batch (Some batch) documents h = refl

pub open_edited : (batch : Option Batch) (documents : Documents) → is_some (option_map (λ (b : Batch). documents) batch) ≡ true
    → is_some (option_map with_edit batch) ≡ true
open_edited None documents h = absurd (cc)
open_edited (Some batch) documents h = refl

-- the documents that are pending then, where one is open now
pub mapped_twice : (batch : Option Batch) (next documents : Documents)
    → option_map (λ (b : Batch). next) batch ≡ option_map (λ (d : Documents). next) (option_map (λ (b : Batch). documents) batch)
mapped_twice None next documents = refl
mapped_twice (Some batch) next documents = refl

pub mapped_edit : (batch : Option Batch) (next documents : Documents)
    → option_map (λ (b : Batch). next) (option_map with_edit batch) ≡ option_map (λ (d : Documents). next) (option_map (λ (b : Batch). documents) batch)
mapped_edit None next documents = refl
mapped_edit (Some batch) next documents = refl

-- where none is open, no module was edited in one
pub none_edited : (batch : Option Batch) → batch ≡ None → (is_edited_by batch || false) ≡ true → ⊥
none_edited None alone e = absurd (cc)
none_edited (Some batch) alone e = absurd (cc)

-- nor in one in which none was
pub not_edited : (b : Bool) → b ≡ false → (b || false) ≡ true → ⊥
not_edited true none e = absurd (cc)
not_edited false none e = absurd (cc)

some_mapped : (batch : Option Batch) (next : Documents) → is_some batch ≡ true → option_map (λ (b : Batch). next) batch ≡ Some next
some_mapped None next h = absurd (cc)
some_mapped (Some batch) next h = refl

-- what is open after a change was open before
open_before : (change : Change) (batch : Option Batch) (documents : Documents) → is_some (next_batch change batch) ≡ true
    → is_some (option_map (λ (b : Batch). documents) batch) ≡ true
open_before (changes.Committed compiled) batch documents h = absurd (cc)
open_before change (Some batch) documents h = refl
open_before (changes.Source document) None documents h = absurd (cc)
open_before (changes.Module name document compiled) None documents h = absurd (cc)
open_before (changes.Dropped name compiled) None documents h = absurd (cc)
open_before (changes.Parameter name value) None documents h = absurd (cc)

-- where none is open, what changes speak of is present
pub compiled_alone : (held : Held) → held.batch ≡ None → AreCompiled (present_of held).modules held.compiled
    → AreCompiled (documents_of held).modules held.compiled
compiled_alone held alone are =
    subst (λ (batch : Option Batch). AreCompiled (present_by batch (edited_basis held)).documents.modules held.compiled) alone are

-- ---- What is present while a batch stays open

same_batch : (batch : Batch) (was is : Basis) → is.last.kept ≡ was.last.kept → is.last.before ≡ was.last.before
    → present_by (Some batch) is ≡ present_by (Some batch) was
same_batch batch was is kept before =
    λ i. record {
      documents = documents_in batch;
      source = batch.source;
      modules = numbered_modules batch.modules.entries;
      last = record { kept = kept i; since = batch.since; before = before i };
    }

-- what a change in a batch leaves of what is present: all
pub present_stays : (change : Change) (batch : Option Batch) (was is : Basis) → is_some (next_batch change batch) ≡ true
    → is.last.kept ≡ was.last.kept → is.last.before ≡ was.last.before → present_by (next_batch change batch) is ≡ present_by batch was
present_stays (changes.Committed compiled) batch was is h kept before = absurd (cc)
present_stays (changes.Source document) (Some batch) was is h kept before = same_batch batch was is kept before
present_stays (changes.Module name document compiled) (Some batch) was is h kept before = same_batch batch was is kept before
present_stays (changes.Dropped name compiled) (Some batch) was is h kept before = same_batch batch was is kept before
present_stays (changes.Parameter name value) (Some batch) was is h kept before = same_batch batch was is kept before
present_stays (changes.Source document) None was is h kept before = absurd (cc)
present_stays (changes.Module name document compiled) None was is h kept before = absurd (cc)
present_stays (changes.Dropped name compiled) None was is h kept before = absurd (cc)
present_stays (changes.Parameter name value) None was is h kept before = absurd (cc)

-- what is known of a batch after a change in it
raised_batch : (first next : ℕ) (documents : Documents) (batch : Batch) → first ≤ next → IsBatchOf first documents.modules batch
    → IsBatchOf next documents.modules batch
raised_batch first next documents batch le h =
    record { below = raised_all first next batch.source batch.modules.entries le h.below; same = h.same }

edited_batch : (first next : ℕ) (old new : Documents) (batch : Batch) → first ≤ next → IsBatchOf first old.modules batch
    → IsBatchOf next new.modules (with_edit batch)
edited_batch first next old new batch le h =
    record { below = raised_all first next batch.source batch.modules.entries le h.below; same = λ e. absurd (cc) }

pub batch_stays : (change : Change) (batch : Option Batch) (first next : ℕ) (documents : Documents) → first ≤ next
    → IfSome batch (IsBatchOf first documents.modules) → IfSome (next_batch change batch) (IsBatchOf next (changed_by change documents).modules)
batch_stays (changes.Committed compiled) batch first next documents le h = tt
batch_stays (changes.Source document) None first next documents le h = tt
batch_stays (changes.Module name document compiled) None first next documents le h = tt
batch_stays (changes.Dropped name compiled) None first next documents le h = tt
batch_stays (changes.Parameter name value) None first next documents le h = tt
batch_stays (changes.Source document) (Some batch) first next documents le h = raised_batch first next documents batch le h
batch_stays (changes.Parameter name value) (Some batch) first next documents le h = raised_batch first next documents batch le h
batch_stays (changes.Module name document compiled) (Some batch) first next documents le h =
    edited_batch first next documents (changed_by (changes.Module name document compiled) documents) batch le h
batch_stays (changes.Dropped name compiled) (Some batch) first next documents le h =
    edited_batch first next documents (changed_by (changes.Dropped name compiled) documents) batch le h

-- ---- What is made ready

module _ (held : Held) (change : Change) (next : NodeId) where
  told_of_so : (came : Came) → IsTold came (told_ready change next came) held
      → IsToldOf (Some (outcome_of came.outcome)) (told_ready change next came) held
  told_of_so came h =
      let ready = told_ready change next came in
      let same : next_present ready held ≡ next_documents ready held = ap (λ (batch : Option Batch). (present_by batch (next_basis ready held)).documents) h.closed in (
        subst (λ (ds : Documents). IsOutcome ds (outcome_of came.outcome)) (sym same) h.outcome,
        ap (option_map (λ (batch : Batch). next_documents ready held)) h.closed,
        same,
      )

  pub told_from : (came : Came) → IsTold came (told_ready change next came) held → HasRoom change held → HasBelow next.number held
      → IsBelow next.number change → IsMadeFrom held (told_ready change next came)
  told_from came h room others below = record { outcome = told_of_so came h; comes = h; room = room; others = others; below = below }

  pub stays : (since : Since) → IsPending (pending_ready change next since) held
      → present_by (next_batch change held.batch) (next_basis (pending_ready change next since) held) ≡ present_basis held
  stays since h = present_stays change held.batch (edited_basis held) (next_basis (pending_ready change next since) held) h.is_open refl h.before

  pending_of_so : (since : Since) → IsPending (pending_ready change next since) held → IsToldOf None (pending_ready change next since) held
  pending_of_so since h =
      let ready = pending_ready change next since in (
        open_before change held.batch (documents_of held) h.is_open,
        ap (λ (basis : Basis). basis.documents) (stays since h),
        some_mapped (next_batch change held.batch) (next_documents ready held) h.is_open,
      )

  pub pending_from : (since : Since) → IsPending (pending_ready change next since) held → HasRoom change held → HasBelow next.number held
      → IsBelow next.number change → IsMadeFrom held (pending_ready change next since)
  pending_from since h room others below = record { outcome = pending_of_so since h; comes = h; room = room; others = others; below = below }

-- ---- What is adopted

pub record IsAdopted (ready : Ready) (old new : Held) : Type 0 where
  pub documents : documents_of new ≡ next_documents ready old
  pub source : new.source ≡ next_source ready.change old
  pub modules : numbered_modules new.modules.entries ≡ (next_numbers ready.change old).modules
  pub compiled : new.compiled ≡ next_compiled ready.change old
  pub last : last_in new ≡ next_last ready old
  pub batch : new.batch ≡ next_batch ready.change old.batch
  pub made : made_of new ≡ next_made ready
  pub outcome : outcome_in new ≡ next_outcome ready old
  pub counts : counts_in new ≡ next_counts ready old
  pub below : HasBelow (made_of new) new

-- what is taken over of an outcome
pub outcome_so : (coming : Coming) (outcome : Outcome) → outcome_of (outcome_after coming outcome) ≡ unwrap_or (told_by coming) (outcome_of outcome)
outcome_so (Told came) outcome = refl
outcome_so (Pending since) outcome = refl

-- what is told of what a change puts in its place
pub record IsPut (change : Change) (old new : Held) : Type 0 where
  pub documents : documents_of new ≡ changed_by change (documents_of old)
  pub compiled : new.compiled ≡ next_compiled change old
  pub source : new.source ≡ next_source change old
  pub modules : numbered_modules new.modules.entries ≡ (next_numbers change old).modules
  pub last : last_in new ≡ record (last_in old) { before = next_before change old }
  pub batch : new.batch ≡ next_batch change old.batch
  pub told : StaysTold old new
  pub below : (first : ℕ) → HasBelow first old → IsBelow first change → HasBelow first new

left_again : (coming : Coming) (before other : Option Compiled) (last : LastRun)
    → left_after coming before (record last { before = other }) ≡ left_after coming before last
left_again (Told came) before other last = refl
left_again (Pending since) before other last = refl

pub adopted_so : (ready : Ready) (old put new : Held) → new ≡ with_coming ready.coming (record put { next = ready.next }) → IsPut ready.change old put
    → HasBelow (next_made ready) old → IsBelow (next_made ready) ready.change → IsAdopted ready old new
adopted_so ready old put new taken is others below =
    let before = next_before ready.change old in
    record {
      documents = ap documents_of taken ∙ is.documents;
      source = ap (λ (held : Held). held.source) taken ∙ is.source;
      modules = ap (λ (held : Held). numbered_modules held.modules.entries) taken ∙ is.modules;
      compiled = ap (λ (held : Held). held.compiled) taken ∙ is.compiled;
      last = ap last_in taken ∙ ap (λ (last : LastRun). left_after ready.coming last.before last) is.last ∙ left_again ready.coming before before old.last;
      batch = ap (λ (held : Held). held.batch) taken ∙ is.batch;
      made = ap made_of taken;
      outcome = ap outcome_in taken ∙ outcome_so ready.coming put.outcome ∙ ap (unwrap_or (told_by ready.coming)) is.told.outcome;
      counts = ap counts_in taken ∙ ap (counts_by ready.coming) is.told.counts;
      below = subst (λ (held : Held). HasBelow (made_of held) held) (sym taken) (is.below (next_made ready) others below);
    }

module _ (change : Change) (next : NodeId) (old new : Held) where
  basis_so : (ready : Ready) → IsAdopted ready old new → edited_basis new ≡ next_basis ready old
  basis_so ready h = λ i. record { documents = h.documents i; source = h.source i; modules = h.modules i; last = h.last i }

  pub present_so : (ready : Ready) → IsAdopted ready old new → present_basis new ≡ present_by (next_batch ready.change old.batch) (next_basis ready old)
  present_so ready h = λ i. present_by (h.batch i) (basis_so ready h i)

  told_current : (came : Came) → IsAdopted (told_ready change next came) old new → IsTold came (told_ready change next came) old → IsCurrent new
  told_current came h told =
      let ready = told_ready change next came in
      let closed : new.batch ≡ None = h.batch ∙ told.closed in
      let basis : present_basis new ≡ next_basis ready old
      = present_so ready h ∙ ap (λ (batch : Option Batch). present_by batch (next_basis ready old)) told.closed in
      current_by new
      (same_told (outcome_of came.outcome) (outcome_in new) (next_compiled change old) new.compiled (next_basis ready old) (present_basis new) h.outcome h.compiled
      basis (record { outcome = told.outcome; compiled = told.compiled; last = told.last }))
      h.below
      (same_serves new.compiled (next_compiled change old) (parameters_of new.parameters) (next_documents ready old).parameters new.source (next_source change old)
      new.last (next_last ready old) h.compiled (ap (λ (ds : Documents). ds.parameters) h.documents) h.source h.last told.last.serves)
      (subst (λ (batch : Option Batch). IfSome batch (IsBatchOf (made_of new) (documents_of new).modules)) (sym closed) tt)
      (same_free (outcome_of came.outcome) (outcome_in new) came.counts (counts_in new) h.outcome h.counts told.fits.counts)

  pending_current : (since : Since) → IsAdopted (pending_ready change next since) old new → IsPending (pending_ready change next since) old → IsCurrent new
  pending_current since h is =
      let ready = pending_ready change next since in
      let basis : present_basis new ≡ present_basis old = present_so ready h ∙ stays old change next since is in
      let compiled : new.compiled ≡ old.compiled = h.compiled ∙ is.compiled in
      current_by new
      (same_told (outcome_in old) (outcome_in new) old.compiled new.compiled (present_basis old) (present_basis new) h.outcome compiled basis
      (told_on old is.current))
      h.below
      (same_serves new.compiled old.compiled (parameters_of new.parameters) (next_documents ready old).parameters new.source (next_source change old)
      new.last (next_last ready old) compiled (ap (λ (ds : Documents). ds.parameters) h.documents) h.source h.last is.serves)
      (subst (λ (batch : Option Batch). IfSome batch (IsBatchOf (made_of new) (documents_of new).modules)) (sym h.batch)
      (subst (λ (first : ℕ). IfSome (next_batch change old.batch) (IsBatchOf first (documents_of new).modules)) (sym h.made)
      (subst (λ (ds : Documents). IfSome (next_batch change old.batch) (IsBatchOf next.number ds.modules)) (sym h.documents)
      (batch_stays change old.batch (made_of old) next.number (documents_of old) is.grows is.current.batch))))
      (same_free (outcome_in old) (outcome_in new) (counts_in old) (counts_in new) h.outcome h.counts is.current.free)

  current_so : (coming : Coming) → IsAdopted (record { change = change; next = next; coming = coming }) old new
      → IsComing coming (record { change = change; next = next; coming = coming }) old → IsCurrent new
  current_so (Told came) h told = told_current came h told
  current_so (Pending since) h is = pending_current since h is

pub adopted_current : (ready : Ready) (old new : Held) → IsAdopted ready old new → IsMadeFrom old ready → IsCurrent new
adopted_current ready old new h from = current_so ready.change ready.next old new ready.coming h from.comes

pub adopted_present : (ready : Ready) (old new : Held) → IsAdopted ready old new → present_of new ≡ next_present ready old
adopted_present ready old new h = ap (λ (basis : Basis). basis.documents) (present_so ready.change ready.next old new ready h)

pub adopted_pending : (ready : Ready) (old new : Held) → IsAdopted ready old new → pending_of new ≡ next_pending ready old
adopted_pending ready old new h = λ i. option_map (λ (batch : Batch). h.documents i) (h.batch i)
