-- What is held once a batch is opened, committed or abandoned.
use Rattle.std.proofs.Common.{◌≡◌, ℕ, ◌+◌, ◌≤◌, false, cond, List, [], ◌∷◌, drop, length, Option, None, Some, bytes_eq, string_bytes, refl, sym, ap, subst, ◌∙◌}
use Rattle.std.specs.Prelude.{IfSome, slice_get}
use Rattle.std.specs.Map.{lookup}
use Rattle.std.specs.Option.{is_some, option_map}
use Rattle.std.specs.Str.{chars}
use Rattle.std.specs.String.{string_eq}
use Rattle.std.specs.declared.alloc.Global.{Global}
use Rattle.std.specs.declared.string.String.{String}
use Rattle.std.proofs.lemmas.List.{at_drop_more, drop_all}
use Rattle.std.proofs.lemmas.Option.{get_or_from_slice_get, slice_get_within}
use Rattle.indexmap.specs.IndexMap.{insert_entry}
use Rattle.spec_document.specs.Forest.{Document}
use Rattle.spec_run.specs.Documents.{Documents}
use Rattle.spec_structure.specs.Modules.{Modules}
use Rattle.xt_import.specs.View.{is_name, plain_of}
use Rattle.xt_touch.specs.View.{since_of}
use Rattle.xt_world.specs.ParameterView.{parameters_of}
use Rattle.xt_world.proofs.Keys.{lookup-insert}
use Rattle.xt_held.specs.Called.{numbered_modules}
use Rattle.xt_held.specs.StylesheetView.{AreCompiled}
use Rattle.xt_held.specs.Tried.{AreSame}
use Rattle.xt_held.specs.View.{AreAllBelow, Basis, IsAbandoned, IsBatchOf, IsBegun, IsCurrent, documents_in, documents_of, edited_basis, gone_back, made_of, outcome_in, present_basis, present_by}
use Rattle.xt_held.specs.declared.batch.Batch.{Batch}
use Rattle.xt_held.specs.declared.held.Held.{Held}
use Rattle.xt_held.proofs.Dropping.{same_below, same_modules, same_numbered}
use Rattle.xt_held.proofs.Keeping.{IsToldOn, current_by, holds_since, same_told, told_on}

-- ---- Modules that are copied

abbrev Entries : Type 0
Entries = List (String Global × Document ℕ)

pub none_copied : (es copy : Entries) (n : ℕ) → length es ≤ n → copy ≡ [] → AreSame (drop n es) copy
none_copied es copy n le none = record {
  so = λ name. ap (lookup (is_name name)) (none ∙ sym (drop_all n es le));
}

-- one more in front of what was copied
pub copied_more : (others copy : Entries) (name key : String Global) (document kept : Document ℕ) → string_bytes key ≡ string_bytes name → kept ≡ document
    → AreSame others copy → AreSame ((name, document) ∷ others) (insert_entry string_eq copy key kept)
copied_more others copy name key document kept named same h = record {
  so = λ other. lookup-insert other key kept copy ∙ (λ i. cond (bytes_eq other (chars (named i))) (Some (same i)) (h.so other i));
}

-- what is copied from this index on, by what is from the next one on
pub copied_next : (es copy : Entries) (i : ℕ) (name : String Global) (document : Document ℕ) → slice_get es i ≡ Some (name, document)
    → AreSame ((name, document) ∷ drop (i + 1) es) copy → AreSame (drop i es) copy
copied_next es copy i name document at h =
    let e : String Global × Document ℕ = (name, document) in
    let next : drop i es ≡ e ∷ drop (i + 1) es = at_drop_more (λ (fs : Entries). fs) es i e (slice_get_within es i e at)
    ∙ ap (λ (first : String Global × Document ℕ). first ∷ drop (i + 1) es) (get_or_from_slice_get es i e e at) in
    subst (λ (fs : Entries). AreSame fs copy) (sym next) h

-- ---- A batch that is opened

-- what it goes back to is what is held
pub record IsCopyOf (held : Held) (batch : Batch) : Type 0 where
  pub source : batch.source ≡ held.source
  pub modules : AreSame held.modules.entries batch.modules.entries
  pub parameters : parameters_of batch.parameters ≡ parameters_of held.parameters
  pub since : since_of batch.since ≡ since_of held.last.since
  pub edited : batch.is_edited ≡ false

abbrev pub opened : Batch → Held → Held
opened batch held = record held { batch = Some batch }

module _ (held : Held) (batch : Batch) (none : held.batch ≡ None) (h : IsCopyOf held batch) where
  pub copied_documents : documents_in batch ≡ documents_of held
  copied_documents =
      let modules = same_modules held.modules.entries batch.modules.entries h.modules in
      λ i. record { source = option_map plain_of (h.source i); modules = modules i; parameters = h.parameters i }

  pub copied_numbers : numbered_modules batch.modules.entries ≡ numbered_modules held.modules.entries
  copied_numbers = same_numbered held.modules.entries batch.modules.entries h.modules

  pub was_present : present_basis held ≡ edited_basis held
  was_present = ap (λ (b : Option Batch). present_by b (edited_basis held)) none

  pub begun : IsBegun held (opened batch held)
  begun = record {
    was = ap (λ (b : Option Batch). option_map (λ (b : Batch). documents_of held) b) none;
    pending = refl;
    present = copied_documents ∙ sym (ap (λ (basis : Basis). basis.documents) was_present);
    documents = refl;
    made = refl;
    outcome = refl;
    counts = refl;
  }

  copied_told : IsCurrent held → IsToldOn (outcome_in held) held.compiled (present_basis (opened batch held))
  copied_told now =
      let is = same_told (outcome_in held) (outcome_in held) held.compiled held.compiled (present_basis held) (edited_basis held) refl refl (sym was_present)
      (told_on held now) in
      let last = record held.last { since = batch.since } in
      same_told (outcome_in held) (outcome_in held) held.compiled held.compiled (record (edited_basis held) { last = last })
      (present_basis (opened batch held)) refl refl
      (λ i. record { documents = copied_documents i; source = h.source i; modules = copied_numbers i; last = last })
      (record {
        outcome = is.outcome;
        compiled = is.compiled;
        last = holds_since (outcome_in held) held.compiled (parameters_of held.parameters) held.source held.last batch.since h.since is.last;
      })

  copied_below : AreAllBelow (made_of held) held.source held.modules.entries → AreAllBelow (made_of held) batch.source batch.modules.entries
  copied_below below =
      same_below (made_of held) batch.source held.modules.entries batch.modules.entries h.modules
      (subst (λ (source : Option (Document ℕ)). AreAllBelow (made_of held) source held.modules.entries) (sym h.source) below)

  pub opened_current : IsCurrent held → IsCurrent (opened batch held)
  opened_current now =
      current_by (opened batch held) (copied_told now) now.below now.serves
      (record { below = copied_below now.below; same = λ e. sym (ap (λ (ds : Documents). ds.modules) copied_documents) }) now.free

-- ---- A batch that is open

-- what is held where it is abandoned
abbrev pub left_behind : Batch → Held → Held
left_behind batch held = record (gone_back batch held) { batch = None }

module _ (held : Held) (batch : Batch) (some : held.batch ≡ Some batch) (now : IsCurrent held) where
  known_batch : IsBatchOf (made_of held) (documents_of held).modules batch
  known_batch = subst (λ (b : Option Batch). IfSome b (IsBatchOf (made_of held) (documents_of held).modules)) some now.batch

  is_present : present_basis held ≡ present_by (Some batch) (edited_basis held)
  is_present = ap (λ (b : Option Batch). present_by b (edited_basis held)) some

  told_present : IsToldOn (outcome_in held) held.compiled (present_by (Some batch) (edited_basis held))
  told_present =
      same_told (outcome_in held) (outcome_in held) held.compiled held.compiled (present_basis held) (present_by (Some batch) (edited_basis held)) refl refl
      (sym is_present) (told_on held now)

  -- where no module was edited in it, the modules are what they were
  pub unedited_compiled : batch.is_edited ≡ false → AreCompiled (documents_of held).modules held.compiled
  unedited_compiled e =
      subst (λ (modules : Modules). AreCompiled modules held.compiled) (sym (known_batch.same e)) told_present.compiled

  -- where it is abandoned
  pub abandoned : IsAbandoned held (left_behind batch held)
  abandoned = record {
    is_open = ap (λ (b : Option Batch). is_some (option_map (λ (b : Batch). documents_of held) b)) some;
    documents = sym (ap (λ (basis : Basis). basis.documents) is_present);
    present = sym (ap (λ (basis : Basis). basis.documents) is_present);
    pending = refl;
    made = refl;
    outcome = refl;
    counts = refl;
  }

  pub abandoned_current : IsCurrent (left_behind batch held)
  abandoned_current = current_by (left_behind batch held) told_present known_batch.below told_present.last.serves tt now.free
