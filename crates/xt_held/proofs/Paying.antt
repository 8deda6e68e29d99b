-- What is held stands for the same past, or for the one that is paid for.
use Rattle.std.proofs.Common.{◌≡◌, ◌≤◌, ℕ, Bool, true, false, List, [], map, Option, None, Some, Result, Ok, Err, refl, sym, ap, subst, ◌∙◌}
use Rattle.std.specs.Prelude.{◌||◌, IfOk, IfSome}
use Rattle.std.specs.Option.{is_some, option_copied, unwrap_or}
use Rattle.spec_document.specs.Forest.{Document, Plain}
use Rattle.spec_edit.specs.Edit as edits
use Rattle.spec_document.specs.Fault.{Fault}
use Rattle.spec_stylesheet.specs.Place.{Place}
use Rattle.spec_stylesheet.specs.Sheet as plain
use Rattle.spec_structure.specs.Modules.{Modules}
use Rattle.spec_compile.specs.Sheet as compile
use Rattle.spec_compile.specs.Sheet.{IsSheet}
use Rattle.spec_run.specs.Documents.{Documents, Parameters, main_name}
use Rattle.spec_run.specs.Meaning.{Setting, run_of}
use Rattle.spec_run.specs.Plan.{Refused as Refusal}
use Rattle.spec_run.specs.Trail.{Kept as Trail}
use Rattle.spec_seen.specs.Seen.{seen}
use Rattle.spec_items.specs.Liftable.{with_items}
use Rattle.spec_cost.specs.Naming.{IsNamed}
use Rattle.spec_cost.specs.Numbers.{NumberedDocuments, NumberedModules, edited_if, no_numbers, with_module, with_nodes}
use Rattle.spec_cost.specs.Past.{Past, nothing_past}
use Rattle.spec_cost.specs.Paying.{CostsOn, IsCost, IsFree, KeepsBy, MarksBy, MarksFor, Pays, setting_called, with_pending}
use Rattle.spec_cost.specs.Marking.{Known, KnowsOf, Mark, and_marks, marked_among}
use Rattle.spec_node.specs.declared.node_ref.NodeId.{NodeId}
use Rattle.spec_node.specs.declared.node_ref.NodeRef.{NodeRef}
use Rattle.spec_node.specs.Naming.{same_ref}
use Rattle.xt_syntax.specs.SheetView.{space_rules_of}
use Rattle.xt_syntax.specs.declared.space_rules.SpaceRules.{SpaceRules}
use Rattle.xt_compile.specs.View.{refusal_in}
use Rattle.xt_edit.specs.View.{Edits}
use Rattle.xt_edit.specs.declared.edit.Edited.{Edited}
use Rattle.xt_edit.specs.declared.fault.EditFault.{EditFault}
use Rattle.spec_touch.specs.Marks.{WorldChange}
use Rattle.xt_record.specs.declared.pool.Pool.{Pool}
use Rattle.xt_touch.specs.View.{since_of}
use Rattle.xt_touch.specs.declared.since.Since.{Since}
use Rattle.xt_world.specs.Numbered.{ref_to}
use Rattle.xt_world.specs.declared.stylesheet.Stylesheet as world
use Rattle.xt_driver.specs.Counted.{kept_at}
use Rattle.xt_held.specs.Complete.{KeepsFor, KeepsWhere}
use Rattle.xt_held.specs.Cost.{Costs, CostsRun, kept_among, setting_on, setting_seen}
use Rattle.xt_held.specs.Marked.{AreToldBy, IsLeastOf, Tells, known_of, left_of, records_after}
use Rattle.xt_held.specs.RunView.{last_known}
use Rattle.xt_held.specs.OutcomeView.{no_counts}
use Rattle.xt_held.specs.Called.{AreCalled, IsCalled, IsCalledIn, numbered_modules}
use Rattle.xt_held.specs.PastView.{Brings, IsPast, PaysFor, edited_as, given_as, is_edited_by, is_of_module, numbers_of}
use Rattle.xt_held.specs.StylesheetView.{AreCompiledBy}
use Rattle.xt_held.specs.View.{Basis, IsComing, IsCurrent, IsBatchOf, IsKept, IsMadeFrom, IsPending, IsTold, ModulesStay, documents_of, edited_basis, made_of, next_basis, next_batch, next_before, next_compiled, next_documents, next_numbers, next_present, next_source, numbered_document, present_basis, present_by, present_of}
use Rattle.xt_held.specs.declared.batch.Batch.{Batch}
use Rattle.xt_held.specs.declared.counts.Counts.{Counts}
use Rattle.xt_held.specs.declared.held.Held.{Held}
use Rattle.xt_held.specs.declared.last_run.Kept.{Kept}
use Rattle.xt_held.specs.declared.last_run.LastRun.{LastRun}
use Rattle.xt_held.specs.declared.name.DocName.{DocName}
use Rattle.xt_held.specs.declared.name.DocName.TheVariants as names
use Rattle.xt_held.specs.declared.outcome.Came.{Came}
use Rattle.xt_held.specs.declared.ready.Change.{Change}
use Rattle.xt_held.specs.declared.ready.Change.TheVariants as changes
use Rattle.xt_held.specs.declared.ready.Coming.{Coming}
use Rattle.xt_held.specs.declared.ready.Coming.TheVariants.{Told, Pending}
use Rattle.xt_held.specs.declared.ready.Ready.{Ready}
use Rattle.xt_held.specs.declared.stylesheet.Compiled.{Compiled}
use Rattle.xt_held.specs.declared.stylesheet.Compiled.TheVariants.{Stylesheet, Refused}
use denote.Ref.{Bor}
use Rattle.xt_held.proofs.Batches.{IsCopyOf, copied_documents, opened, was_present}
use Rattle.xt_held.proofs.Asking.{nothing_told}
use Rattle.xt_held.proofs.Knowing.{known_after}
use Rattle.xt_held.proofs.Making.{IsAdopted, pending_ready, present_so, stays, told_ready}

-- ---- The same past

-- what a basis rests on, with the numbers of its nodes
abbrev basis_numbers : Basis → NumberedDocuments
basis_numbers basis = record { source = basis.source; modules = basis.modules }

same_called : (called : Place → NodeRef) (modules others : Modules) (compiled other : Option Compiled) → others ≡ modules → other ≡ compiled
    → IsCalledIn called modules compiled → IsCalledIn called others other
same_called called modules others compiled other m c h =
    subst (λ (ms : Modules). IsCalledIn called ms other) (sym m) (subst (λ (o : Option Compiled). IsCalledIn called modules o) (sym c) h)

-- at the start
pub first_past : (called : Place → NodeRef) (held : Held) → held.source ≡ None → held.modules.entries ≡ [] → held.compiled ≡ None → held.batch ≡ None
    → held.last.kept.records.records.items ≡ [] → since_of held.last.since ≡ [] → held.last.before ≡ None → held.counts.ran ≡ 0 → held.counts.asked ≡ 0
    → IsPast (nothing_past called) held
first_past called held source modules compiled batch records since known ran asked = record {
  present = sym (ap (λ (b : Option Batch). basis_numbers (present_by b (edited_basis held))) batch ∙ no_documents_yet source modules);
  edited = sym (no_documents_yet source modules);
  is_edited = sym (ap is_edited_by batch);
  called = subst (λ (o : Option Compiled). IsCalledIn called (present_of held).modules o) (sym compiled) tt;
  records = sym (ap (map kept_at) records);
  marks = subst (λ (b : Option Batch). AreToldBy (present_by b (edited_basis held)).last.kept.records []
      (since_of (present_by b (edited_basis held)).last.since)) (sym batch) none_told;
  edited_marks = none_told;
  known = sym (ap known_of (λ i. last_known (compiled i) (known i)));
  ran = sym ran;
  asked = sym asked;
}
  where
    no_documents_yet : held.source ≡ None → held.modules.entries ≡ [] → numbers_of held ≡ no_numbers
    no_documents_yet s m = λ i. record { source = s i; modules = numbered_modules (m i) }

    none_told : AreToldBy held.last.kept.records [] (since_of held.last.since)
    none_told = subst (λ (changes : List WorldChange). AreToldBy held.last.kept.records [] changes) (sym since) (nothing_told held.last.kept.records)

-- ---- The modules stay

or_true : (b : Bool) → (b || true) ≡ false → ⊥
or_true true e = absurd (cc)
or_true false e = absurd (cc)

or_false : (b : Bool) → (b || false) ≡ b
or_false true = refl
or_false false = refl

-- what is no change of a module leaves them, where no batch is open in which one was changed
unedited : (held : Held) (batch : Option Batch) → IfSome batch (IsBatchOf (made_of held) (documents_of held).modules) → is_edited_by batch ≡ false
    → (documents_of held).modules ≡ (present_by batch (edited_basis held)).documents.modules
unedited held None h e = refl
unedited held (Some batch) h e = h.same e

pub unedited_modules : (held : Held) → IsCurrent held → (is_edited_by held.batch || false) ≡ false → (documents_of held).modules ≡ (present_of held).modules
unedited_modules held now e = unedited held held.batch now.batch (sym (or_false (is_edited_by held.batch)) ∙ e)

-- where none is open
pub present_modules : (held : Held) → held.batch ≡ None → (documents_of held).modules ≡ (present_of held).modules
present_modules held alone = sym (ap (λ (batch : Option Batch). (present_by batch (edited_basis held)).documents.modules) alone)

-- a change of a module does not
pub module_changes : (ready : Ready) (held : Held) (b : Bool) → (b || true) ≡ false → ModulesStay ready held
module_changes ready held b e = absurd (or_true b e)

-- nor does the end of a batch in which one was changed
pub batch_changes : (ready : Ready) (held : Held) (b other : Bool) → b ≡ true → (b || other) ≡ false → ModulesStay ready held
batch_changes ready held true other is e = absurd (cc)
batch_changes ready held false other is e = absurd (cc)

-- ---- What a run has cost

keeps_by : (s : Setting NodeRef) (refusal : Option Refusal) (kept : Kept) (new : Option Kept) → KeepsFor refusal s new
    → KeepsBy refusal s (kept_among kept.records) (kept_among (unwrap_or new kept).records)
keeps_by s None kept None h = absurd h
keeps_by s None kept (Some left) h = h
keeps_by s (Some why) kept None h = refl
keeps_by s (Some why) kept (Some left) h = absurd h

marks_by : (s : Setting NodeRef) (refusal : Option Refusal) (marks : List Mark) (new : Option Kept) → KeepsFor refusal s new
    → MarksBy refusal marks (left_of new marks)
marks_by s None marks None h = absurd h
marks_by s None marks (Some left) h = refl
marks_by s (Some why) marks None h = refl
marks_by s (Some why) marks (Some left) h = absurd h

-- no more questions of the records were asked again than these marks, and no less where there is a result
abbrev AsksOf : Kept → Option Kept → List Mark → Counts → Type 0
AsksOf kept new marks counts = (counts.asked ≤ marked_among marks (kept_among kept.records)) × IfSome new (λ left. IsLeastOf marks kept.records counts)

least_by : (P : Type 0) (s : Setting NodeRef) (refusal : Option Refusal) (new : Option Kept) → KeepsFor refusal s new → IfSome new (λ left. P)
    → refusal ≡ None → P
least_by P s None None h least e = absurd h
least_by P s None (Some left) h least e = least
least_by P s (Some why) new h least e = absurd (cc)

cost_so : (s : Setting NodeRef) (kept : Kept) (new : Option Kept) (counts : Counts) (marks : List Mark) → Costs s kept.records counts
    → AsksOf kept new marks counts → KeepsFor (run_of s).refusal s new
    → IsCost s (kept_among kept.records) marks counts.ran counts.asked (kept_among (unwrap_or new kept).records) (left_of new marks)
cost_so s kept new counts marks cost asked keeps = record {
  list = cost.list;
  counted = cost.counted;
  told = cost.ran;
  again = asked.0;
  least = least_by (IsLeastOf marks kept.records counts) s (run_of s).refusal new keeps asked.1;
  keeps = keeps_by s (run_of s).refusal kept new keeps;
  leaves = marks_by s (run_of s).refusal marks new keeps;
}

-- nothing was run
free_so : (kept : Kept) (new : Option Kept) (counts : Counts) (marks : List Mark) → counts ≡ no_counts → new ≡ None
    → IsFree (kept_among kept.records) marks counts.ran counts.asked (kept_among (unwrap_or new kept).records) (left_of new marks)
free_so kept new counts marks none nothing = record {
  told = ap (λ (c : Counts). c.ran) none;
  again = ap (λ (c : Counts). c.asked) none;
  keeps = ap (λ (o : Option Kept). kept_among (unwrap_or o kept).records) nothing;
  leaves = ap (λ (o : Option Kept). left_of o marks) nothing;
}

-- the run by what its elements are called
called_so : (called : Place → NodeRef) (sheet : plain.Sheet) (held : world.Stylesheet) (rules : SpaceRules) (parameters : Parameters) (source : Document ℕ)
    → IsCalled called sheet held → space_rules_of rules ≡ sheet.space_rules
    → setting_seen held rules parameters source ≡ setting_called called sheet parameters (seen sheet.space_rules.rules source)
called_so called sheet held rules parameters source is same =
    let sight = seen sheet.space_rules.rules source in
    ap (λ (space : plain.SpaceRules). setting_on held parameters (seen space.rules source)) same
    ∙ (λ i. record { ask = λ q. is.truth parameters sight q i; same = same_ref; root = ref_to sight.root; globals = is.globals i })

costs_so : (called : Place → NodeRef) (modules : Modules) (parameters : Parameters) (main : Option Plain) (source : Option (Document ℕ))
    (compiled : Option Compiled) → AreCompiledBy modules main compiled → IsCalledIn called modules compiled
    → (kept : Kept) (new : Option Kept) (counts : Counts) (marks : List Mark) → CostsRun compiled parameters source kept.records counts
    → AsksOf kept new marks counts → KeepsWhere compiled parameters source new
    → CostsOn called modules parameters main source (kept_among kept.records) marks counts.ran counts.asked (kept_among (unwrap_or new kept).records)
    (left_of new marks)
costs_so called modules parameters None source None are is kept new counts marks cost asked keeps = free_so kept new counts marks cost keeps
costs_so called modules parameters None source (Some compiled) are is kept new counts marks cost asked keeps = absurd are
costs_so called modules parameters (Some main) source None are is kept new counts marks cost asked keeps = absurd are
costs_so called modules parameters (Some main) None (Some (Refused why)) are is kept new counts marks cost asked keeps =
    free_so kept new counts marks cost keeps
costs_so called modules parameters (Some main) None (Some (Stylesheet held rules method)) are is kept new counts marks cost asked keeps =
    free_so kept new counts marks cost keeps
costs_so called modules parameters (Some main) (Some source) (Some (Refused why)) are is kept new counts marks cost asked keeps = (
  Err (refusal_in why),
  subst (λ (r : Result plain.Sheet compile.Refusal). IsSheet modules main_name r) are.holds are.is,
  free_so kept new counts marks cost keeps,
)
costs_so called modules parameters (Some main) (Some source) (Some (Stylesheet held rules method)) are is kept new counts marks cost asked keeps = (
  Ok is.0,
  is.1,
  subst (λ (s : Setting NodeRef). IsCost s (kept_among kept.records) marks counts.ran counts.asked (kept_among (unwrap_or new kept).records)
      (left_of new marks))
      (called_so called (with_items is.0) held rules parameters source is.2 is.3)
      (cost_so (setting_seen held rules parameters source) kept new counts marks cost asked keeps),
)

-- ---- What elements are called

-- as before where the modules stay, and else by the numbers that they have then
record Chosen (is_changed : Bool) (before : Place → NodeRef) (modules : Modules) (numbered : NumberedModules) (compiled : Option Compiled) : Type 0 where
  pub called : Place → NodeRef
  pub same : is_changed ≡ false → called ≡ before
  pub named : is_changed ≡ true → IsNamed called modules numbered
  pub is : IsCalledIn called modules compiled

choose : (is_changed : Bool) (before : Place → NodeRef) (modules : Modules) (numbered : NumberedModules) (compiled : Option Compiled)
    → (is_changed ≡ true → AreCalled modules numbered compiled) → (is_changed ≡ false → IsCalledIn before modules compiled)
    → Chosen is_changed before modules numbered compiled
choose false before modules numbered compiled change stay = record { called = before; same = λ e. refl; named = λ e. absurd (cc); is = stay refl }
choose true before modules numbered compiled change stay =
    let found = change refl in record { called = found.0; same = λ e. absurd (cc); named = λ e. found.2; is = found.1 }

-- ---- What is adopted

edited_in : (change : Change) (batch : Option Batch) → is_some (next_batch change batch) ≡ true
    → (is_edited_by batch || is_of_module change) ≡ is_edited_by (next_batch change batch)
edited_in (changes.Source document) batch h = or_false (is_edited_by batch)
edited_in (changes.Parameter name value) batch h = or_false (is_edited_by batch)
edited_in (changes.Committed compiled) batch h = absurd (cc)
edited_in (changes.Module name document compiled) None h = absurd (cc)
edited_in (changes.Module name document compiled) (Some batch) h = changed batch.is_edited
  where
    changed : (b : Bool) → (b || true) ≡ true
    changed true = refl
    changed false = refl
edited_in (changes.Dropped name compiled) None h = absurd (cc)
edited_in (changes.Dropped name compiled) (Some batch) h = changed batch.is_edited
  where
    changed : (b : Bool) → (b || true) ≡ true
    changed true = refl
    changed false = refl

-- the records that will be kept
records_left : (new : Option Kept) (kept : Kept) → records_after new kept.records ≡ (unwrap_or new kept).records
records_left None kept = refl
records_left (Some left) kept = refl

-- the numbered documents that will be held
numbers_are : {ready : Ready} {old new : Held} → IsAdopted ready old new → numbers_of new ≡ next_numbers ready.change old
numbers_are h = λ i. record { source = h.source i; modules = h.modules i }

module _ (change : Change) (next : NodeId) (old new : Held) (marks : List Mark) (before : Past) (is : IsPast before old) where
  pending_past : (since : Since) → IsAdopted (pending_ready change next since) old new → IsPending (pending_ready change next since) old
      → Tells marks old (pending_ready change next since) → IsPast (with_pending (next_numbers change old) (is_of_module change) marks before) new
  pending_past since h pending tells =
      let basis : present_basis new ≡ present_basis old
      = present_so change next old new (pending_ready change next since) h ∙ stays old change next since pending in
      record {
        present = is.present ∙ sym (ap basis_numbers basis);
        edited = sym (numbers_are h);
        is_edited = ap (λ (b : Bool). b || is_of_module change) is.is_edited ∙ edited_in change old.batch pending.is_open ∙ sym (ap is_edited_by h.batch);
        called = same_called before.called (present_of old).modules (present_of new).modules old.compiled new.compiled
            (ap (λ (basis : Basis). basis.documents.modules) basis) (h.compiled ∙ pending.compiled) is.called;
        records = is.records ∙ sym (ap (λ (last : LastRun). kept_among last.kept.records) h.last);
        marks = subst (λ (basis : Basis). AreToldBy basis.last.kept.records before.marks (since_of basis.last.since)) (sym basis) is.marks;
        edited_marks = subst (λ (last : LastRun). AreToldBy last.kept.records (and_marks before.edited_marks marks) (since_of last.since)) (sym h.last)
            (tells.tells before.edited_marks is.edited_marks);
        known = is.known ∙ sym (ap known_of (λ i. last_known ((h.compiled ∙ pending.compiled) i)
            ((ap (λ (last : LastRun). last.before) h.last ∙ pending.before) i)));
        ran = is.ran ∙ sym (ap (λ (counts : Counts). counts.ran) h.counts);
        asked = is.asked ∙ sym (ap (λ (counts : Counts). counts.asked) h.counts);
      }

  told_past : (came : Came) → IsAdopted (told_ready change next came) old new → IsTold came (told_ready change next came) old
      → Tells marks old (told_ready change next came)
      → (after : Past) × Pays (next_present (told_ready change next came) old) (next_numbers change old) (is_of_module change) marks before after × IsPast after new
  told_past came h told tells =
      let ready = told_ready change next came in
      let documents = next_documents ready old in
      let compiled = next_compiled change old in
      let left = unwrap_or came.kept old.last.kept in
      let stay : (before.is_edited || is_of_module change) ≡ false → IsCalledIn before.called documents.modules compiled
      = λ e. (
      let same = told.same (ap (λ (b : Bool). b || is_of_module change) (sym is.is_edited) ∙ e) in
      same_called before.called (present_of old).modules documents.modules old.compiled compiled same.modules same.compiled is.called) in
      let changed : (before.is_edited || is_of_module change) ≡ true → AreCalled documents.modules (next_numbers change old).modules compiled
      = λ e. told.called (ap (λ (b : Bool). b || is_of_module change) (sym is.is_edited) ∙ e) in
      let chosen = choose (before.is_edited || is_of_module change) before.called documents.modules (next_numbers change old).modules compiled changed stay in
      let asks = tells.tells before.edited_marks is.edited_marks in
      let told_left : AreToldBy left.records (left_of came.kept asks.all) (since_of came.since)
      = subst (λ (records : Pool). AreToldBy records (left_of came.kept asks.all) (since_of came.since)) (records_left came.kept old.last.kept)
      asks.asked.left in
      let known = known_of (last_known compiled (next_before change old)) in
      let after : Past = record {
        present = next_numbers change old;
        edited = next_numbers change old;
        is_edited = false;
        called = chosen.called;
        records = kept_among left.records;
        marks = left_of came.kept asks.all;
        edited_marks = left_of came.kept asks.all;
        known = known;
        ran = came.counts.ran;
        asked = came.counts.asked;
      } in
      let basis : present_basis new ≡ next_basis ready old
      = present_so change next old new ready h ∙ ap (λ (batch : Option Batch). present_by batch (next_basis ready old)) told.closed in
      let present : documents ≡ next_present ready old
      = sym (ap (λ (batch : Option Batch). (present_by batch (next_basis ready old)).documents) told.closed) in
      let costs = costs_so chosen.called documents.modules documents.parameters (documents.modules main_name) (next_source change old) compiled
      told.compiled.so chosen.is old.last.kept came.kept came.counts asks.all told.cost (asks.asked.again, asks.asked.least) told.keeps in
      let CostsOf : Documents → List (Trail NodeRef) → Type 0
      = λ ds records. CostsOn chosen.called ds.modules ds.parameters (ds.modules main_name) (next_source change old) records asks.all came.counts.ran
      came.counts.asked (kept_among left.records) (left_of came.kept asks.all) in
      let ToldOf : Documents → Bool → Known → Type 0
      = λ ds b known. MarksFor (b || is_of_module change) ds.modules known (and_marks before.edited_marks marks) asks.all in (
        after,
        record {
          present = refl;
          edited = refl;
          closed = refl;
          called = chosen.same;
          named = λ e. subst (λ (ds : Documents). IsNamed chosen.called ds.modules (next_numbers change old).modules) present (chosen.named e);
          all = asks.all;
          told = subst (λ (ds : Documents). ToldOf ds before.is_edited before.known) present
              (subst (λ (b : Bool). ToldOf documents b before.known) (sym is.is_edited)
              (subst (λ (known : Known). ToldOf documents (is_edited_by old.batch) known) (sym is.known) asks.by));
          costs = subst (λ (ds : Documents). CostsOf ds before.records) present
              (subst (λ (records : List (Trail NodeRef)). CostsOf documents records) (sym is.records) costs);
          same = refl;
          known = subst (λ (ds : Documents). KnowsOf ds.modules (ds.modules main_name) before.known known) present
              (subst (λ (was : Known). KnowsOf documents.modules (documents.modules main_name) was known) (sym is.known)
              (known_after change old documents.modules told.compiled.so));
        },
        record {
          present = sym (ap basis_numbers basis);
          edited = sym (numbers_are h);
          is_edited = sym (ap is_edited_by (h.batch ∙ told.closed));
          called = same_called chosen.called documents.modules (present_of new).modules compiled new.compiled
              (ap (λ (basis : Basis). basis.documents.modules) basis) h.compiled chosen.is;
          records = sym (ap (λ (last : LastRun). kept_among last.kept.records) h.last);
          marks = subst (λ (basis : Basis). AreToldBy basis.last.kept.records (left_of came.kept asks.all) (since_of basis.last.since)) (sym basis) told_left;
          edited_marks = subst (λ (last : LastRun). AreToldBy last.kept.records (left_of came.kept asks.all) (since_of last.since)) (sym h.last) told_left;
          known = sym (ap known_of (λ i. last_known (h.compiled i) (ap (λ (last : LastRun). last.before) h.last i)));
          ran = sym (ap (λ (counts : Counts). counts.ran) h.counts);
          asked = sym (ap (λ (counts : Counts). counts.asked) h.counts);
        },
      )

  past_so : (coming : Coming) → IsAdopted (record { change = change; next = next; coming = coming }) old new
      → IsComing coming (record { change = change; next = next; coming = coming }) old
      → Tells marks old (record { change = change; next = next; coming = coming })
      → (after : Past) × PaysFor marks (record { change = change; next = next; coming = coming }) old before after × IsPast after new
  past_so (Told came) h told tells = told_past came h told tells
  past_so (Pending since) h pending tells =
      (with_pending (next_numbers change old) (is_of_module change) marks before, refl, pending_past since h pending tells)

pub adopted_past : (ready : Ready) (old new : Held) → IsAdopted ready old new → IsMadeFrom old ready → (marks : List Mark) → Tells marks old ready
    → (before : Past) → IsPast before old → (after : Past) × PaysFor marks ready old before after × IsPast after new
adopted_past ready old new h from marks tells before is = past_so ready.change ready.next old new marks before is ready.coming h from.comes tells

-- ---- A batch that is opened

-- the copy has the numbers of what is held
copied_numbers : (held : Held) (batch : Batch) → IsCopyOf held batch
    → numbers_of held ≡ record { source = batch.source; modules = numbered_modules batch.modules.entries }
copied_numbers held batch h = λ i. record { source = sym h.source i; modules = λ name. sym (h.modules.so name) i }

pub opened_past : (held : Held) (batch : Batch) → held.batch ≡ None → IsCopyOf held batch → (past : Past) → IsPast past held
    → IsPast past (opened batch held)
opened_past held batch none h past is = record {
  present = is.present ∙ ap basis_numbers (was_present held batch none h) ∙ copied_numbers held batch h;
  edited = is.edited;
  is_edited = is.is_edited ∙ ap is_edited_by none ∙ sym h.edited;
  called = same_called past.called (present_of held).modules (present_of (opened batch held)).modules held.compiled held.compiled
      (ap (λ (ds : Documents). ds.modules)
      (copied_documents held batch none h ∙ sym (ap (λ (basis : Basis). basis.documents) (was_present held batch none h)))) refl is.called;
  records = is.records;
  marks = subst (λ (changes : List WorldChange). AreToldBy held.last.kept.records past.marks changes) (sym h.since)
      (subst (λ (basis : Basis). AreToldBy basis.last.kept.records past.marks (since_of basis.last.since)) (was_present held batch none h) is.marks);
  edited_marks = is.edited_marks;
  known = is.known;
  ran = is.ran;
  asked = is.asked;
}

-- ---- Documents with their numbers

numbered_so : (name : DocName) (held : Held) (make : Document ℕ → Result (edits.Edited ℕ) Fault) (old new : Document ℕ) (edited : edits.Edited ℕ)
    → numbered_document name held ≡ Some old → make old ≡ Ok edited → new ≡ record { root = old.root; nodes = edited.nodes }
    → given_as name new (numbers_of held) ≡ edited_as name make (numbers_of held)
numbered_so name held make old new edited there made is = by name there
  where
    made_so : Some new ≡ edited_if make (Some old)
    made_so = ap Some is ∙ sym (ap (λ (r : Result (edits.Edited ℕ) Fault). Some (with_nodes r old)) made)

    by : (name : DocName) → numbered_document name held ≡ Some old → given_as name new (numbers_of held) ≡ edited_as name make (numbers_of held)
    by names.Source there =
        let is_so : Some new ≡ edited_if make held.source = made_so ∙ sym (ap (edited_if make) there) in
        λ i. record { source = is_so i; modules = numbered_modules held.modules.entries }
    by (names.Module name) there =
        let is_so : Some new ≡ edited_if make (numbered_modules held.modules.entries name.now) = made_so ∙ sym (ap (edited_if make) there) in
        λ i. with_module name.now (is_so i) (numbers_of held)

-- what an edit or a move makes of the document that was found
pub is_numbered : (first : ℕ) (name : DocName) (held : Held) (found : Option (Bor (Document ℕ))) (old : Bor (Document ℕ))
    → option_copied found ≡ numbered_document name held → found ≡ Some old → (make : Document ℕ → Result (edits.Edited ℕ) Fault)
    → (result : Result Edited EditFault) → Edits old.now first result (make old.now)
    → IfOk result (λ edited. given_as name edited.document (numbers_of held) ≡ edited_as name make (numbers_of held))
is_numbered first name held found old copied is make (Err why) h = tt
is_numbered first name held found old copied is make (Ok edited) h =
    numbered_so name held make old.now edited.document h.0 (sym copied ∙ ap option_copied is) h.1 h.2

-- it is as it is edited
pub brings_edited : (name : DocName) (document : Document ℕ) (make : ℕ → Document ℕ → Result (edits.Edited ℕ) Fault) (is_changed : Bool)
    {old new : Held} → IsKept old new → given_as name document (numbers_of old) ≡ edited_as name (make (made_of old)) (numbers_of old)
    → (ready : Ready) → Brings (given_as name document (numbers_of new)) is_changed new ready
    → Brings (edited_as name (make (made_of new)) (numbers_of new)) is_changed new ready
brings_edited name document make is_changed {old = old} {new = new} h is ready brings =
    let held : numbers_of new ≡ numbers_of old = λ i. record { source = h.source i; modules = h.modules i } in
    let same : given_as name document (numbers_of new) ≡ edited_as name (make (made_of new)) (numbers_of new)
    = ap (given_as name document) held ∙ is ∙ sym (λ i. edited_as name (make (h.made i)) (held i)) in
    subst (λ (numbered : NumberedDocuments). Brings numbered is_changed new ready) same brings
