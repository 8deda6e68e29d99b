-- Which rules for white space are known of after a change, and what is told of a document by its name.
use Rattle.std.proofs.Common.{◌≡◌, ℕ, List, [], ◌∷◌, Option, None, Some, Result, Ok, Err, refl, sym, ap, subst, ◌∙◌}
use Rattle.std.specs.Prelude.{IfOk}
use Rattle.spec_document.specs.Fault.{Fault}
use Rattle.spec_document.specs.Forest.{Document, Plain}
use Rattle.spec_edit.specs.Edit as edits
use Rattle.spec_stylesheet.specs.Sheet as plain
use Rattle.spec_structure.specs.Modules.{Modules}
use Rattle.spec_compile.specs.Sheet as compile
use Rattle.spec_compile.specs.Sheet.{IsSheet}
use Rattle.spec_run.specs.Documents.{main_name}
use Rattle.spec_cost.specs.Marking.{Known, KnowsOf, Mark, and_marks, marks_between}
use Rattle.spec_cost.specs.Numbers.{NumberedDocuments}
use Rattle.xt_compile.specs.View.{refusal_in}
use Rattle.spec_touch.specs.Marks.{WorldChange, Anything}
use Rattle.xt_text.specs.declared.memory.Memory.{Memory}
use Rattle.xt_record.specs.declared.pool.Pool.{Pool}
use Rattle.xt_touch.specs.View.{since_of}
use Rattle.xt_touch.specs.declared.since.Since.{Since}
use Rattle.xt_held.specs.Marked.{AreToldBy, Tells, document_marks, known_in, known_of, marks_as, source_marks}
use Rattle.xt_held.specs.PastView.{edited_as, given_as, numbers_of}
use Rattle.xt_held.specs.RunView.{last_known}
use Rattle.xt_held.specs.StylesheetView.{AreCompiledBy}
use Rattle.xt_held.specs.View.{IsKept, before_by, before_with, compiled_by, made_of, next_before, next_compiled}
use Rattle.xt_held.specs.declared.held.Held.{Held}
use Rattle.xt_held.specs.declared.name.DocName.{DocName}
use Rattle.xt_held.specs.declared.name.DocName.TheVariants as names
use Rattle.xt_held.specs.declared.origin.Origin.{Origin}
use Rattle.xt_held.specs.declared.origin.Origin.TheVariants.{Given, Edited, Moved}
use Rattle.xt_held.specs.declared.ready.Change.{Change}
use Rattle.xt_held.specs.declared.ready.Change.TheVariants as changes
use Rattle.xt_held.specs.declared.ready.Ready.{Ready}
use Rattle.xt_held.specs.declared.ready.Recompiled.{Recompiled}
use Rattle.xt_held.specs.declared.ready.Recompiled.TheVariants.{AsBefore, Now}
use Rattle.xt_held.specs.declared.stylesheet.Compiled.{Compiled}
use Rattle.xt_held.specs.declared.stylesheet.Compiled.TheVariants.{Stylesheet, Refused}
use Rattle.xt_held.proofs.Told.{anything_told, rules_with_items}

-- ---- Rules for white space

-- this holds where it can not be run
abbrev IfNone : Option Compiled → Type 0 → Type 0
IfNone None P = P
IfNone (Some (Refused why)) P = P
IfNone (Some (Stylesheet held rules method)) P = Unit {0}

knows : (modules : Modules) (main : Option Plain) (compiled before : Option Compiled) (known : Known) → AreCompiledBy modules main compiled
    → IfNone compiled (known_of before ≡ known) → KnowsOf modules main known (known_of (last_known compiled before))
knows modules None None before known are is = is
knows modules None (Some compiled) before known are is = absurd are
knows modules (Some main) None before known are is = absurd are
knows modules (Some main) (Some (Refused why)) before known are is = (
  Err (refusal_in why),
  subst (λ (r : Result plain.Sheet compile.Refusal). IsSheet modules main_name r) are.holds are.is,
  is,
)
knows modules (Some main) (Some (Stylesheet held rules method)) before known are is =
    let sheet = are.holds.0 in (
      Ok sheet,
      subst (λ (r : Result plain.Sheet compile.Refusal). IsSheet modules main_name r) are.holds.1 are.is,
      ap (λ (space : plain.SpaceRules). Some space.rules) (are.holds.3 ∙ rules_with_items sheet),
    )

-- what was known stays where the new modules are none
stays : (compiled before : Option Compiled) → IfNone compiled (known_of before ≡ known_of (last_known compiled before))
stays None before = refl
stays (Some (Refused why)) before = refl
stays (Some (Stylesheet held rules method)) before = tt

comes : (compiled was before : Option Compiled) → IfNone compiled (known_of (before_by compiled was before) ≡ known_of (last_known was before))
comes None was before = refl
comes (Some (Refused why)) was before = refl
comes (Some (Stylesheet held rules method)) was before = tt

recompiled : (r : Recompiled) (was before : Option Compiled)
    → IfNone (compiled_by r was) (known_of (before_with r was before) ≡ known_of (last_known was before))
recompiled AsBefore was before = stays was before
recompiled (Now compiled) was before = comes compiled was before

changed : (change : Change) (held : Held) → IfNone (next_compiled change held) (known_of (next_before change held) ≡ known_in held)
changed (changes.Source document) held = stays held.compiled held.last.before
changed (changes.Module name document compiled) held = recompiled compiled held.compiled held.last.before
changed (changes.Dropped name compiled) held = recompiled compiled held.compiled held.last.before
changed (changes.Parameter name value) held = stays held.compiled held.last.before
changed (changes.Committed compiled) held = recompiled compiled held.compiled held.last.before

pub known_after : (change : Change) (held : Held) (modules : Modules) → AreCompiledBy modules (modules main_name) (next_compiled change held)
    → KnowsOf modules (modules main_name) (known_in held) (known_of (last_known (next_compiled change held) (next_before change held)))
known_after change held modules are =
    knows modules (modules main_name) (next_compiled change held) (next_before change held) (known_in held) are (changed change held)

-- ---- What is told of a source

pub none_told : (records : Pool) (known : Known) (origin : Origin) (before : Option (Document ℕ)) → before ≡ None → (document : Document ℕ) (told : List Mark)
    (changes : List WorldChange) → changes ≡ Anything ∷ [] → AreToldBy records (and_marks told (source_marks known origin before document)) changes
none_told records known origin before none document told changes is =
    subst (λ (b : Option (Document ℕ)). AreToldBy records (and_marks told (source_marks known origin b document)) changes) (sym none) (by origin)
  where
    by : (origin : Origin) → AreToldBy records (and_marks told (source_marks known origin None document)) changes
    by Given = anything_told records told changes is
    by (Edited edit) = anything_told records told changes is
    by (Moved path other) = anything_told records told changes is

pub given_told : (records : Pool) (known : Known) (origin : Origin) → origin ≡ Given → (before : Option (Document ℕ)) (document : Document ℕ) (told : List Mark)
    (changes : List WorldChange) → changes ≡ Anything ∷ [] → AreToldBy records (and_marks told (source_marks known origin before document)) changes
given_told records known origin given before document told changes is =
    subst (λ (o : Origin). AreToldBy records (and_marks told (source_marks known o before document)) changes) (sym given)
    (anything_told records told changes is)

-- with what is known of, how it was made, and what it was
pub source_told : (records : Pool) {known other : Known} {origin of : Origin} {before : Option (Document ℕ)} {old : Document ℕ} → other ≡ known → origin ≡ of
    → before ≡ Some old → (document : Document ℕ) (told : List Mark) (r : Result Since Memory)
    → IfOk r (λ since. AreToldBy records (and_marks told (source_marks other of (Some old) document)) (since_of since))
    → IfOk r (λ since. AreToldBy records (and_marks told (source_marks known origin before document)) (since_of since))
source_told records known origin before document told r is =
    subst (λ (marks : List Mark). IfOk r (λ since. AreToldBy records (and_marks told marks) (since_of since)))
    (λ i. source_marks (known i) (sym origin i) (sym before i) document) is

-- ---- What is told of a document

module _ (mark : Document ℕ → Document ℕ → Mark) (document : Document ℕ) where
  source_so : (known : Known) (origin : Origin) (make : Document ℕ → Result (edits.Edited ℕ) Fault)
      → ((old : Document ℕ) → source_marks known origin (Some old) document ≡ mark old document ∷ []) → (before : Option (Document ℕ))
      → Some document ≡ (edited_as names.Source make (record { source = before; modules = λ name. None })).source
      → source_marks known origin before document ≡ marks_between mark before (Some document)
  source_so known origin make is None made = absurd (cc)
  source_so known origin make is (Some old) made = is old

  pub document_told : (name : DocName) (origin : Origin) (held : Held) (make : Document ℕ → Result (edits.Edited ℕ) Fault)
      → ((old : Document ℕ) → source_marks (known_in held) origin (Some old) document ≡ mark old document ∷ [])
      → given_as name document (numbers_of held) ≡ edited_as name make (numbers_of held)
      → document_marks name origin held document ≡ marks_as name mark (numbers_of held) (edited_as name make (numbers_of held))
  document_told names.Source origin held make is made =
      let source : Some document ≡ (edited_as names.Source make (numbers_of held)).source = ap (λ (ns : NumberedDocuments). ns.source) made in
      source_so (known_in held) origin make is held.source source ∙ ap (marks_between mark held.source) source
  document_told (names.Module name) origin held make is made = refl

-- what is told of a document is told of what an edit or a move made of it
pub tells_edited : (name : DocName) (origin : Origin) (document : Document ℕ) (mark : Known → Document ℕ → Document ℕ → Mark)
    (make : ℕ → Document ℕ → Result (edits.Edited ℕ) Fault) {old new : Held} → IsKept old new
    → ((known : Known) (was : Document ℕ) → source_marks known origin (Some was) document ≡ mark known was document ∷ [])
    → given_as name document (numbers_of old) ≡ edited_as name (make (made_of old)) (numbers_of old) → (ready : Ready)
    → Tells (document_marks name origin new document) new ready
    → Tells (marks_as name (mark (known_in new)) (numbers_of new) (edited_as name (make (made_of new)) (numbers_of new))) new ready
tells_edited name origin document mark make {old = old} {new = new} h told is ready tells =
    let held : numbers_of new ≡ numbers_of old = λ i. record { source = h.source i; modules = h.modules i } in
    let same : given_as name document (numbers_of new) ≡ edited_as name (make (made_of new)) (numbers_of new)
    = ap (given_as name document) held ∙ is ∙ sym (λ i. edited_as name (make (h.made i)) (held i)) in
    subst (λ (marks : List Mark). Tells marks new ready)
    (document_told (mark (known_in new)) document name origin new (make (made_of new)) (told (known_in new)) same) tells
