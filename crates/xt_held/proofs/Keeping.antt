-- What is held is current, or as it was, by what is told of it.
use Rattle.std.proofs.Common.{◌≡◌, ℕ, ◌≤◌, Bool, true, false, cond, List, Option, None, Some, bytes_eq, string_bytes, refl, sym, ap, subst, ◌∙◌}
use Rattle.std.specs.Prelude.{IfSome}
use Rattle.std.specs.Map.{lookup}
use Rattle.std.specs.Option.{option_copied, option_map}
use Rattle.std.specs.Str.{chars}
use Rattle.std.specs.String.{string_eq}
use Rattle.std.specs.declared.alloc.Global.{Global}
use Rattle.std.specs.declared.string.String.{String}
use Rattle.indexmap.specs.IndexMap.{insert_entry}
use Rattle.spec_document.specs.Forest.{Document}
use Rattle.spec_run.specs.Documents.{Documents, Parameters}
use Rattle.spec_run.specs.Outcome as spec
use Rattle.spec_run.specs.Outcome.{IsOutcome}
use Rattle.spec_touch.specs.Marks.{WorldChange}
use Rattle.xt_edit.specs.View.{AreBelow}
use Rattle.xt_import.specs.View.{is_name, plain_of}
use Rattle.xt_world.specs.ParameterView.{parameters_of}
use Rattle.xt_world.proofs.Keys.{lookup-insert}
use Rattle.xt_touch.specs.View.{since_of}
use Rattle.xt_touch.specs.declared.since.Since.{Since}
use Rattle.xt_held.specs.Called.{numbered_modules}
use Rattle.xt_held.specs.declared.counts.Counts.{Counts}
use Rattle.xt_held.specs.OutcomeView.{IsFreeFor}
use Rattle.xt_held.specs.RunView.{KeptSpared, LastHolds, LastServes, last_known}
use Rattle.xt_held.specs.StylesheetView.{AreCompiled}
use Rattle.xt_held.specs.Tried.{AreSame}
use Rattle.xt_held.specs.View.{AreAllBelow, Basis, HasBelow, IsBatchOf, IsCurrent, IsKept, document_named, documents_of, edited_basis, is_edited_by, last_in, made_of, numbered_document, outcome_in, pending_of, present_basis, present_by, counts_in}
use Rattle.xt_held.specs.declared.batch.Batch.{Batch}
use Rattle.xt_held.specs.declared.held.Held.{Held}
use Rattle.xt_held.specs.declared.last_run.LastRun.{LastRun}
use Rattle.xt_held.specs.declared.name.DocName.{DocName}
use Rattle.xt_held.specs.declared.name.DocName.TheVariants as names
use Rattle.xt_held.specs.declared.stylesheet.Compiled.{Compiled}
use Rattle.xt_held.proofs.Below.{raised}
use Rattle.xt_held.proofs.Dropping.{same_below, same_entries, same_modules, same_numbered}
use Rattle.xt_held.proofs.Keys.{map-copied}
use denote.Ref.{Bor}

-- ---- What is known of what the last run left, of what is the same

pub same_serves : (compiled kept : Option Compiled) (parameters given : Parameters) (source document : Option (Document ℕ)) (last pool : LastRun)
    → compiled ≡ kept → parameters ≡ given → source ≡ document → last ≡ pool → LastServes kept given document pool
    → LastServes compiled parameters source last
same_serves compiled kept parameters given source document last pool k p s l h =
    subst (λ (x : Option Compiled). LastServes x parameters source last) (sym k)
    (subst (λ (x : Parameters). LastServes kept x source last) (sym p)
    (subst (λ (x : Option (Document ℕ)). LastServes kept given x last) (sym s)
    (subst (λ (x : LastRun). LastServes kept given document x) (sym l) h)))

pub same_last : (outcome now : spec.Outcome) (compiled kept : Option Compiled) (parameters given : Parameters) (source document : Option (Document ℕ)) (last pool : LastRun)
    → outcome ≡ now → compiled ≡ kept → parameters ≡ given → source ≡ document → last ≡ pool → LastHolds now kept given document pool
    → LastHolds outcome compiled parameters source last
same_last outcome now compiled kept parameters given source document last pool o k p s l h =
    subst (λ (x : spec.Outcome). LastHolds x compiled parameters source last) (sym o)
    (subst (λ (x : Option Compiled). LastHolds now x parameters source last) (sym k)
    (subst (λ (x : Parameters). LastHolds now kept x source last) (sym p)
    (subst (λ (x : Option (Document ℕ)). LastHolds now kept given x last) (sym s)
    (subst (λ (x : LastRun). LastHolds now kept given document x) (sym l) h))))

-- the changes are told apart by what they are alone
pub serves_since : (compiled : Option Compiled) (parameters : Parameters) (source : Option (Document ℕ)) (last : LastRun) (since : Since)
    → since_of since ≡ since_of last.since → LastServes compiled parameters source last → LastServes compiled parameters source (record last { since = since })
serves_since compiled parameters source last since e h = record {
  spared = subst (λ (changes : List WorldChange). KeptSpared (last_known compiled last.before) parameters source last.kept changes) (sym e) h.spared;
  answers = h.answers;
  faultless = h.faultless;
}

pub holds_since : (outcome : spec.Outcome) (compiled : Option Compiled) (parameters : Parameters) (source : Option (Document ℕ)) (last : LastRun) (since : Since)
    → since_of since ≡ since_of last.since → LastHolds outcome compiled parameters source last
    → LastHolds outcome compiled parameters source (record last { since = since })
holds_since outcome compiled parameters source last since e h =
    record { done = h.done; serves = serves_since compiled parameters source last since e h.serves }

-- ---- What is current

-- this is told of this basis
pub record IsToldOn (told : spec.Outcome) (known : Option Compiled) (basis : Basis) : Type 0 where
  pub outcome : IsOutcome basis.documents told
  pub compiled : AreCompiled basis.documents.modules known
  pub last : LastHolds told known basis.documents.parameters basis.source basis.last

pub told_on : (held : Held) → IsCurrent held → IsToldOn (outcome_in held) held.compiled (present_basis held)
told_on held h = record { outcome = h.outcome; compiled = h.compiled; last = h.last }

pub same_told : (outcome now : spec.Outcome) (compiled kept : Option Compiled) (basis other : Basis) → now ≡ outcome → kept ≡ compiled → other ≡ basis
    → IsToldOn outcome compiled basis → IsToldOn now kept other
same_told outcome now compiled kept basis other o k b h =
    subst (λ (x : spec.Outcome). IsToldOn x kept other) (sym o)
    (subst (λ (x : Option Compiled). IsToldOn outcome x other) (sym k) (subst (λ (x : Basis). IsToldOn outcome compiled x) (sym b) h))

-- what is told of what is present, and what is known of what is pending
pub current_by : (held : Held) → IsToldOn (outcome_in held) held.compiled (present_basis held) → HasBelow (made_of held) held
    → LastServes held.compiled (parameters_of held.parameters) held.source held.last
    → IfSome held.batch (IsBatchOf (made_of held) (documents_of held).modules) → IsFreeFor (outcome_in held) (counts_in held) → IsCurrent held
current_by held told below serves batch free =
    record { outcome = told.outcome; compiled = told.compiled; below = below; last = told.last; serves = serves; batch = batch; free = free }

-- what is told and what it took are the same
pub same_free : (outcome now : spec.Outcome) (counts took : Counts) → now ≡ outcome → took ≡ counts → IsFreeFor outcome counts → IsFreeFor now took
same_free outcome now counts took o s h =
    subst (λ (x : spec.Outcome). IsFreeFor x took) (sym o) (subst (λ (x : Counts). IsFreeFor outcome x) (sym s) h)

-- ---- What is kept

-- all is the same but the order of the modules, and the values of parameters are the same
pub record IsReordered (old new : Held) : Type 0 where
  pub modules : AreSame old.modules.entries new.modules.entries
  pub source : new.source ≡ old.source
  pub compiled : new.compiled ≡ old.compiled
  pub parameters : parameters_of new.parameters ≡ parameters_of old.parameters
  pub made : made_of new ≡ made_of old
  pub outcome : outcome_in new ≡ outcome_in old
  pub counts : counts_in new ≡ counts_in old
  pub last : last_in new ≡ last_in old
  pub batch : new.batch ≡ old.batch

module _ (old new : Held) (h : IsReordered old new) where
  pub same_documents : documents_of new ≡ documents_of old
  same_documents =
      let modules = same_modules old.modules.entries new.modules.entries h.modules in
      λ i. record { source = option_map plain_of (h.source i); modules = modules i; parameters = h.parameters i }

  pub same_numbers : numbered_modules new.modules.entries ≡ numbered_modules old.modules.entries
  same_numbers = same_numbered old.modules.entries new.modules.entries h.modules

  same_edited : edited_basis new ≡ edited_basis old
  same_edited = λ i. record { documents = same_documents i; source = h.source i; modules = same_numbers i; last = h.last i }

  same_present : present_basis new ≡ present_basis old
  same_present = λ i. present_by (h.batch i) (same_edited i)

  same_pending : pending_of new ≡ pending_of old
  same_pending = λ i. option_map (λ (batch : Batch). same_documents i) (h.batch i)

  pub still_below : HasBelow (made_of old) old → HasBelow (made_of new) new
  still_below below =
      subst (λ (first : ℕ). AreAllBelow first new.source new.modules.entries) (sym h.made)
      (subst (λ (source : Option (Document ℕ)). AreAllBelow (made_of old) source new.modules.entries) (sym h.source)
      (same_below (made_of old) old.source old.modules.entries new.modules.entries h.modules below))

  still_batch : IfSome old.batch (IsBatchOf (made_of old) (documents_of old).modules) → IfSome new.batch (IsBatchOf (made_of new) (documents_of new).modules)
  still_batch is =
      subst (λ (batch : Option Batch). IfSome batch (IsBatchOf (made_of new) (documents_of new).modules)) (sym h.batch)
      (subst (λ (first : ℕ). IfSome old.batch (IsBatchOf first (documents_of new).modules)) (sym h.made)
      (subst (λ (documents : Documents). IfSome old.batch (IsBatchOf (made_of old) documents.modules)) (sym same_documents) is))

  still_current : IsCurrent old → IsCurrent new
  still_current now =
      current_by new
      (same_told (outcome_in old) (outcome_in new) old.compiled new.compiled (present_basis old) (present_basis new) h.outcome h.compiled same_present
      (told_on old now))
      (still_below now.below)
      (same_serves new.compiled old.compiled (parameters_of new.parameters) (parameters_of old.parameters) new.source old.source new.last old.last h.compiled
      h.parameters h.source h.last now.serves) (still_batch now.batch)
      (same_free (outcome_in old) (outcome_in new) (counts_in old) (counts_in new) h.outcome h.counts now.free)

  pub kept_so : IsKept old new
  kept_so = record {
    documents = same_documents;
    present = ap (λ (basis : Basis). basis.documents) same_present;
    pending = same_pending;
    made = h.made;
    outcome = h.outcome;
    counts = h.counts;
    last = h.last;
    source = h.source;
    modules = same_numbers;
    basis = same_present;
    compiled = h.compiled;
    is_edited = ap is_edited_by h.batch;
    current = still_current;
  }

-- where only modules were tried, which are as before
pub kept_modules : (old new : Held) → new.modules.entries ≡ old.modules.entries → new ≡ record old { modules = new.modules } → IsKept old new
kept_modules old new entries same = kept_so old new (record {
  modules = same_entries old.modules.entries new.modules.entries entries;
  source = ap (λ (held : Held). held.source) same;
  compiled = ap (λ (held : Held). held.compiled) same;
  parameters = ap (λ (held : Held). parameters_of held.parameters) same;
  made = ap made_of same;
  outcome = ap outcome_in same;
  counts = ap counts_in same;
  last = ap last_in same;
  batch = ap (λ (held : Held). held.batch) same;
})

-- ---- Numbers below one that no node has

raised_one : (first next : ℕ) → first ≤ next → (o : Option (Document ℕ)) → IfSome o (AreBelow first) → IfSome o (AreBelow next)
raised_one first next h None below = tt
raised_one first next h (Some document) below = raised first next document h below

pub raised_all : (first next : ℕ) (source : Option (Document ℕ)) (entries : List (String Global × Document ℕ)) → first ≤ next
    → AreAllBelow first source entries → AreAllBelow next source entries
raised_all first next source entries h below = record {
  source = raised_one first next h source below.source;
  modules = λ name. raised_one first next h (lookup (is_name name) entries) (below.modules name);
}

pub all_raised : (first next : ℕ) (held : Held) → first ≤ next → HasBelow first held → HasBelow next held
all_raised first next held h below = raised_all first next held.source held.modules.entries h below

pub inserted_below : (first : ℕ) (key : String Global) (document : Document ℕ) (source : Option (Document ℕ)) (es : List (String Global × Document ℕ))
    → AreAllBelow first source es → AreBelow first document → AreAllBelow first source (insert_entry string_eq es key document)
inserted_below first key document source es below it = record {
  source = below.source;
  modules = λ name. subst (λ (o : Option (Document ℕ)). IfSome o (AreBelow first)) (sym (lookup-insert name key document es))
      (by (bytes_eq name (chars (string_bytes key))) (lookup (is_name name) es) (below.modules name));
}
  where
    by : (b : Bool) (o : Option (Document ℕ)) → IfSome o (AreBelow first) → IfSome (cond b (Some document) o) (AreBelow first)
    by true o h = it
    by false o h = h

-- ---- The document of a name, with its numbers and without

plain_named : (name : DocName) (held : Held) → option_map plain_of (numbered_document name held) ≡ document_named name (documents_of held)
plain_named names.Source held = refl
plain_named (names.Module name) held = refl

pub named_so : (name : DocName) (held : Held) (found : Option (Bor (Document ℕ))) → option_copied found ≡ numbered_document name held
    → option_map (λ d. plain_of d.now) found ≡ document_named name (documents_of held)
named_so name held found e = map-copied plain_of found ∙ ap (option_map plain_of) e ∙ plain_named name held
