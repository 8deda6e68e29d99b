-- Each document that a session holds is without faults, as events make it, and of XML Chars.
use Rattle.std.proofs.Common.{◌≡◌, ◌≤◌, ◌<◌, arith, ℕ, ◌+◌, Bool, true, false, cond, ◌||◌, List, [], ◌∷◌, length, Option, None, Some, refl, sym}
use Rattle.std.proofs.Common.{ap, ◌∙◌, subst}
use Rattle.std.proofs.Common.{inl, inr}
use Rattle.std.specs.Prelude.{Result, Ok, Err, IsTrue, nat_eq, nat_lt, bytes_eq}
use Rattle.std.specs.Option.{unwrap_or}
use Rattle.std.specs.List.{list_all, list_any, IsDistinct}
use Rattle.std.proofs.lemmas.Bool.{and_parts, eqb-true, ltb-true}
use Rattle.std.proofs.lemmas.Map.Steps.{length-le_from_distinct_below}
use Rattle.spec_document.specs.Scope.{root_scope}
use Rattle.spec_document.specs.Forest.{Forest, Document, Plain, plain, size, labels, written, IsNormal}
use Rattle.spec_document.specs.Fault.{Fault, answer_of}
use Rattle.spec_document.specs.Numbering.{number_limit}
use Rattle.spec_document.specs.Document.{document_of}
use Rattle.spec_document.proofs.Written.{plain_itself}
use Rattle.spec_edit.specs.Edit.{Edit, Edited, edited_nodes, edited_plain, edited_or_missing, edited_document, unread_lines, without_labels}
use Rattle.spec_edit.specs.Edit as edits
use Rattle.spec_edit.specs.Valid.{IsValid}
use Rattle.spec_edit.proofs.Beginning.{begins}
use Rattle.spec_edit.proofs.Faultless.{edit_valid, fine-of, fine-to, fine-plain}
use Rattle.spec_edit.proofs.Labels.{plain_edit, plain-elements, plain-numbered}
use Rattle.spec_edit.proofs.Normal.{edit_normal, plain-normal}
use Rattle.spec_edit.proofs.Numbers.{edit_numbers, once-distinct, distinct-once, below-from, below-to, length-labels, size-plain, size-numbered}
use Rattle.spec_move.specs.Move.{moved_nodes, moved_plain, moved_document}
use Rattle.spec_move.proofs.Faultless.{moved_valid}
use Rattle.spec_move.proofs.Normal.{moved_normal}
use Rattle.spec_move.proofs.Numbers.{move_numbers}
use Rattle.spec_move.proofs.Plainly.{plain_move}
use Rattle.spec_run.specs.Documents.{Documents, without_module, with_parameter, parameter_fault}
use Rattle.spec_session.specs.Command.{Command}
use Rattle.spec_session.specs.Request.{DocumentName, SourceName, ModuleName, Request, SetSource, SetModule, DropModule, Insert, Delete, SetText}
use Rattle.spec_session.specs.Request.{SetAttribute}
use Rattle.spec_session.specs.Request.{RemoveAttribute, Rename, Move, SetParameter, Show, Write, Messages, Dump, Statistics, Begin, Commit, Abandon}
use Rattle.spec_session.specs.Request.{request_of}
use Rattle.spec_session.specs.Reply.{Reply}
use Rattle.spec_session.specs.Machine.{State, initial, edited_documents, named_among, document_named, Answer, Refuses, Changes, Pends, Drops}
use Rattle.spec_session.specs.Machine.{ShowsResult, WritesResult, ShowsMessages, ShowsDocument, TellsCounts}
use Rattle.spec_session.specs.Machine.{accepted, accepted_by, kept_by, dropped_by, given_by, with_document, edited_by, edited_in, begun, committed}
use Rattle.spec_session.specs.Machine.{abandoned, shows, answer_to, answer_by}
use Rattle.spec_session.specs.Machine.{answer_of as answer_in}
use Rattle.spec_session.specs.Machine.{Gives, Step, Run}
use Rattle.spec_afresh.specs.Afresh.{IsHeldIn, body_of, document_from, given_as}
use Rattle.spec_afresh.specs.Characters.{HasChars}
use Rattle.spec_afresh.proofs.Characters.{chars-plain}
use Rattle.spec_afresh.proofs.Editing.{edit-chars}
use Rattle.spec_afresh.proofs.Moving.{move-chars}
use Rattle.spec_afresh.proofs.Reading.{document-chars}
use Rattle.spec_afresh.proofs.Writable.{AreWritable, forest-writable}
use Rattle.spec_afresh.proofs.Writing.{lines-make, plain-without}

-- what is known of a document with numbers, where so many nodes were made
pub record IsWell (made : ℕ) (document : Document ℕ) : Type 0 where
  pub valid : IsValid document.nodes
  pub normal : IsNormal document.nodes
  pub chars : HasChars document.nodes
  pub once : IsDistinct nat_eq (document.root ∷ labels document.nodes)
  pub below : IsTrue (list_all (λ n. nat_lt n made) (document.root ∷ labels document.nodes))

-- a plain document that comes from one
pub record IsHeld (made : ℕ) (tree : Plain) : Type 0 where
  pub document : Document ℕ
  pub is : plain document.nodes ≡ tree
  pub well : IsWell made document

-- each of these documents comes from one
pub record AreAllHeld (made : ℕ) (documents : Documents) : Type 0 where
  pub each : (name : DocumentName) (tree : Plain) → named_among documents name ≡ Some tree → IsHeld made tree

abbrev pub ArePendingHeld : ℕ → Option Documents → Type 0
ArePendingHeld made None = Unit {0}
ArePendingHeld made (Some documents) = AreAllHeld made documents

pub record AreHeld (state : State) : Type 0 where
  pub present : AreAllHeld state.made state.documents
  pub pending : ArePendingHeld state.made state.pending
  pub limit : state.made ≤ number_limit

-- ---- With more nodes made

all-later : (ns : List ℕ) (made more : ℕ) → made ≤ more → list_all (λ n. nat_lt n made) ns ≡ true → list_all (λ n. nat_lt n more) ns ≡ true
all-later ns made more from h = below-to more ns (record { at = λ n k. (below-from made ns h).at n (omega arith) })

held-later : (made more : ℕ) (tree : Plain) → made ≤ more → IsHeld made tree → IsHeld more tree
held-later made more tree from h =
    let w = h.well in
    let ns = h.document.root ∷ labels h.document.nodes in
    record {
      document = h.document;
      is = h.is;
      well = record { valid = w.valid; normal = w.normal; chars = w.chars; once = w.once; below = all-later ns made more from w.below };
    }

all-held-later : (made more : ℕ) (documents : Documents) → made ≤ more → AreAllHeld made documents → AreAllHeld more documents
all-held-later made more documents from h = record { each = λ name tree e. held-later made more tree from (h.each name tree e) }

-- ---- How many nodes there may be

among-below : (made q : ℕ) (ns : List ℕ) → list_all (λ n. nat_lt n made) ns ≡ true → list_any (nat_eq q) ns ≡ true → q < made
among-below made q [] h e = absurd (cc)
among-below made q (n ∷ ns) h e =
    let parts = and_parts (nat_lt n made) (list_all (λ m. nat_lt m made) ns) h in
    by (nat_eq q n) refl (ltb-true n made parts.0) (among-below made q ns parts.1) e
  where
    by : (b : Bool) → nat_eq q n ≡ b → n < made → (list_any (nat_eq q) ns ≡ true → q < made) → (b || list_any (nat_eq q) ns) ≡ true → q < made
    by true is own more e = let same : q ≡ n = eqb-true q n is in omega arith
    by false is own more e = more e

pub held-size : (made : ℕ) (tree : Plain) → IsHeld made tree → 1 + size tree ≤ made
held-size made tree h =
    let ns = labels h.document.nodes in
    let few : length (h.document.root ∷ ns) ≤ made =
    length-le_from_distinct_below (h.document.root ∷ ns) made h.well.once (λ q e. among-below made q (h.document.root ∷ ns) h.well.below e) in
    let many : length ns ≡ size tree = length-labels h.document.nodes ∙ sym (size-plain h.document.nodes) ∙ ap size h.is in
    omega arith

-- ---- One document put in place of another

put-held : (before made : ℕ) (old : Documents) (name : DocumentName) (tree : Plain) → AreAllHeld before old → before ≤ made → IsHeld made tree
    → AreAllHeld made (with_document name tree old)
put-held before made old name tree h from own = record { each = each name }
  where
    some : (t : Plain) → Some tree ≡ Some t → IsHeld made t
    some t e = subst (IsHeld made) (ap (λ o. elim o [ Some z ↦ z | None ↦ tree ]) e) own

    earlier : (n : DocumentName) (t : Plain) → named_among old n ≡ Some t → IsHeld made t
    earlier n t e = held-later before made t from (h.each n t e)

    either : (b : Bool) (other : Option Plain) (t : Plain) → (other ≡ Some t → IsHeld made t) → cond b (Some tree) other ≡ Some t → IsHeld made t
    either true other t more e = some t e
    either false other t more e = more e

    each : (put n : DocumentName) (t : Plain) → named_among (with_document put tree old) n ≡ Some t → IsHeld made t
    each SourceName SourceName t e = some t e
    each SourceName (ModuleName m) t e = earlier (ModuleName m) t e
    each (ModuleName p) SourceName t e = earlier SourceName t e
    each (ModuleName p) (ModuleName m) t e = either (bytes_eq m p) (old.modules m) t (earlier (ModuleName m) t) e

without-held : (made : ℕ) (old : Documents) (name : List ℕ) → AreAllHeld made old → AreAllHeld made (without_module name old)
without-held made old name h = record { each = each }
  where
    either : (b : Bool) (other : Option Plain) (t : Plain) → (other ≡ Some t → IsHeld made t) → cond b None other ≡ Some t → IsHeld made t
    either true other t more e = absurd (cc)
    either false other t more e = more e

    each : (n : DocumentName) (t : Plain) → named_among (without_module name old) n ≡ Some t → IsHeld made t
    each SourceName t e = h.each SourceName t e
    each (ModuleName m) t e = either (bytes_eq m name) (old.modules m) t (h.each (ModuleName m) t) e

with-parameter-held : (made : ℕ) (old : Documents) (name value : List ℕ) → AreAllHeld made old → AreAllHeld made (with_parameter name value old)
with-parameter-held made old name value h = record { each = each }
  where
    each : (n : DocumentName) (t : Plain) → named_among (with_parameter name value old) n ≡ Some t → IsHeld made t
    each SourceName t e = h.each SourceName t e
    each (ModuleName m) t e = h.each (ModuleName m) t e

-- ---- What a change makes of a document

-- a change that keeps what is known
abbrev pub KeepsWell : ℕ → Document ℕ → Result (Edited ℕ) Fault → Type 0
KeepsWell made document r =
    (new : Edited ℕ) → r ≡ Ok new
    → IsWell (made + new.made) (record { root = document.root; nodes = new.nodes }) × (made + new.made ≤ number_limit)

-- what is answered, where it is a document
abbrev pub IfHeld : ℕ → Result (Edited (Unit {0})) Fault → Type 0
IfHeld made (Err fault) = Unit {0}
IfHeld made (Ok new) = IsHeld (made + new.made) new.nodes × (made + new.made ≤ number_limit)

pub changed-held : (made : ℕ) (document : Document ℕ) (r : Result (Edited ℕ) Fault) → KeepsWell made document r → IfHeld made (without_labels r)
changed-held made document (Err fault) keeps = tt
changed-held made document (Ok new) keeps =
    let now = keeps new refl in
    (record { document = record { root = document.root; nodes = new.nodes }; is = refl; well = now.0 }, now.1)

edit-keeps : (made : ℕ) (edit : Edit) (document : Document ℕ) → made ≤ number_limit → IsWell made document
    → KeepsWell made document (edited_nodes made edit document)
edit-keeps made edit document limit w new e =
    let numbers = edit_numbers made edit document new e (once-distinct _ w.once) (below-from made _ w.below) in (
      record {
        valid = edit_valid made edit document new e w.valid;
        normal = edit_normal made edit document new e w.normal;
        chars = edit-chars made edit document new e w.chars;
        once = distinct-once _ numbers.once;
        below = below-to _ _ numbers.below;
      },
      numbers.limit limit,
    )

edit-held : (made : ℕ) (edit : Edit) (tree : Plain) → made ≤ number_limit → IsHeld made tree → IfHeld made (edited_plain made edit tree)
edit-held made edit tree limit h =
    subst (IfHeld made) (plain_edit made edit h.document ∙ ap (edited_plain made edit) h.is)
    (changed-held made h.document (edited_nodes made edit h.document) (edit-keeps made edit h.document limit h.well))

move-keeps : (made : ℕ) (path other : List ℕ) (document : Document ℕ) → made ≤ number_limit → IsWell made document
    → KeepsWell made document (moved_nodes made path other document)
move-keeps made path other document limit w new e =
    let numbers = move_numbers made path other document new e (once-distinct _ w.once) (below-from made _ w.below) in (
      record {
        valid = moved_valid made path other document new e w.normal w.valid;
        normal = moved_normal made path other document new e w.normal;
        chars = move-chars made path other document new e w.chars;
        once = distinct-once _ numbers.once;
        below = below-to _ _ numbers.below;
      },
      numbers.limit limit,
    )

move-held : (made : ℕ) (path other : List ℕ) (tree : Plain) → made ≤ number_limit → IsHeld made tree → IfHeld made (moved_plain made path other tree)
move-held made path other tree limit h =
    subst (IfHeld made) (plain_move made path other h.document ∙ ap (moved_plain made path other) h.is)
    (changed-held made h.document (moved_nodes made path other h.document) (move-keeps made path other h.document limit h.well))

-- ---- Answers

-- what is held afterwards, where it changes
abbrev IfChanged : Answer → Type 0
IfChanged (Refuses number) = Unit {0}
IfChanged (Changes new) = AreHeld new
IfChanged (Pends new) = AreHeld new
IfChanged (Drops new) = AreHeld new
IfChanged ShowsResult = Unit {0}
IfChanged WritesResult = Unit {0}
IfChanged ShowsMessages = Unit {0}
IfChanged (ShowsDocument tree) = Unit {0}
IfChanged TellsCounts = Unit {0}

-- those that a change speaks of
edited-all : (made : ℕ) (o : Option Documents) (documents : Documents) → AreAllHeld made documents → ArePendingHeld made o
    → AreAllHeld made (unwrap_or o documents)
edited-all made None documents h pending = h
edited-all made (Some documents) present h pending = pending

module _ (old : State) (held : AreHeld old) where
  current : AreAllHeld old.made (edited_documents old)
  current = edited-all old.made old.pending old.documents held.present held.pending

  taken-by : (o : Option Documents) (documents : Documents) (made : ℕ) → old.made ≤ made → made ≤ number_limit → AreAllHeld made documents
      → IfChanged (accepted_by o old documents made)
  taken-by None documents made from limit h = record { present = h; pending = tt; limit = limit }
  taken-by (Some pending) documents made from limit h =
      record { present = all-held-later old.made made old.documents from held.present; pending = h; limit = limit }

  taken : (documents : Documents) (made : ℕ) → old.made ≤ made → made ≤ number_limit → AreAllHeld made documents → IfChanged (accepted old documents made)
  taken documents made from limit h = taken-by old.pending documents made from limit h

  read-held : (name : DocumentName) (body : List (List ℕ)) (r : Result (Document ℕ) Fault) → document_of root_scope old.made body ≡ r
      → IfChanged (kept_by (with_document name) old r)
  read-held name body (Err fault) e = tt
  read-held name body (Ok document) e =
      let b = begins old.made body document e in
      let made = old.made + 1 + size document.nodes in
      taken _ made (omega arith) b.limit (put-held old.made made (edited_documents old) name (plain document.nodes) current (omega arith) (record {
        document = document;
        is = refl;
        well = record {
          valid = b.valid;
          normal = b.normal;
          chars = document-chars root_scope old.made body document e;
          once = distinct-once _ b.once;
          below = below-to _ _ b.below;
        };
      }))

  dropped-held : (name : List ℕ) (o : Option Plain) → IfChanged (dropped_by name old o)
  dropped-held name None = tt
  dropped-held name (Some tree) = taken _ old.made (omega arith) held.limit (without-held old.made (edited_documents old) name current)

  given-held : (name value : List ℕ) (o : Option ℕ) → IfChanged (given_by name value old o)
  given-held name value (Some number) = tt
  given-held name value None =
      taken _ old.made (omega arith) held.limit (with-parameter-held old.made (edited_documents old) name value current)

  pub edited-held : (name : DocumentName) (r : Result (Edited (Unit {0})) Fault) → IfHeld old.made r → IfChanged (edited_by old name r)
  edited-held name (Err fault) h = tt
  edited-held name (Ok new) h =
      taken _ (old.made + new.made) (omega arith) h.1
      (put-held old.made (old.made + new.made) (edited_documents old) name new.nodes current (omega arith) h.0)

  -- what is answered of the document of this name, where there is one
  found-held : (edit : Edit) (name : DocumentName) (o : Option Plain) → document_named old name ≡ o
      → IfHeld old.made (edited_or_missing old.made edit o)
  found-held edit name None e = tt
  found-held edit name (Some tree) e = edit-held old.made edit tree held.limit (current.each name tree e)

  unread-held : (faults : List Fault) (r : Result (Edited (Unit {0})) Fault) → IfHeld old.made r → IfHeld old.made (answer_of faults r)
  unread-held [] r h = h
  unread-held (fault ∷ faults) r h = tt

  edit-changed : (name : DocumentName) (edit : Edit) → IfChanged (edited_in old name edit)
  edit-changed name edit =
      edited-held name (edited_document old.made edit (document_named old name))
      (unread-held (unread_lines edit) (edited_or_missing old.made edit (document_named old name))
      (found-held edit name (document_named old name) refl))

  moved-held : (path other : List ℕ) (name : DocumentName) (o : Option Plain) → document_named old name ≡ o
      → IfHeld old.made (moved_document old.made path other o)
  moved-held path other name None e = tt
  moved-held path other name (Some tree) e = move-held old.made path other tree held.limit (current.each name tree e)

  begun-held : (o : Option Documents) → IfChanged (begun old o)
  begun-held None = record { present = held.present; pending = held.present; limit = held.limit }
  begun-held (Some pending) = tt

  committed-held : (o : Option Documents) → ArePendingHeld old.made o → IfChanged (committed old o)
  committed-held None h = tt
  committed-held (Some pending) h = record { present = h; pending = tt; limit = held.limit }

  abandoned-held : (o : Option Documents) → IfChanged (abandoned old o)
  abandoned-held None = tt
  abandoned-held (Some pending) = record { present = held.present; pending = tt; limit = held.limit }

  shown-held : (o : Option Plain) → IfChanged (shows o)
  shown-held None = tt
  shown-held (Some tree) = tt

  request-held : (request : Request) → IfChanged (answer_to old request)
  request-held (SetSource body) = read-held SourceName body (document_of root_scope old.made body) refl
  request-held (SetModule name body) = read-held (ModuleName name) body (document_of root_scope old.made body) refl
  request-held (DropModule name) = dropped-held name ((edited_documents old).modules name)
  request-held (SetParameter name value) = given-held name value (parameter_fault name value)
  request-held Show = tt
  request-held Write = tt
  request-held Messages = tt
  request-held (Dump document) = shown-held (document_named old document)
  request-held (Insert document path body) = edit-changed document (edits.Insert path body)
  request-held (Delete document path) = edit-changed document (edits.Delete path)
  request-held (SetText document path value) = edit-changed document (edits.SetText path value)
  request-held (SetAttribute document path name value) = edit-changed document (edits.SetAttribute path name value)
  request-held (RemoveAttribute document path name) = edit-changed document (edits.RemoveAttribute path name)
  request-held (Rename document path name) = edit-changed document (edits.Rename path name)
  request-held (Move document path other) =
      edited-held document (moved_document old.made path other (document_named old document))
      (moved-held path other document (document_named old document) refl)
  request-held Statistics = tt
  request-held Begin = begun-held old.pending
  request-held Commit = committed-held old.pending held.pending
  request-held Abandon = abandoned-held old.pending

  answer-held : (r : Result Request ℕ) → IfChanged (answer_by old r)
  answer-held (Err number) = tt
  answer-held (Ok request) = request-held request

  same-held : (new : State) → new ≡ old → AreHeld new
  same-held new e = subst AreHeld (sym e) held

  gives-held : (answer : Answer) → IfChanged answer → (reply : Reply) (new : State) → Gives old answer reply new → AreHeld new
  gives-held (Refuses number) h reply new g = same-held new g.1
  gives-held (Changes next) h reply new g = subst AreHeld (sym g.1) h
  gives-held (Pends next) h reply new g = subst AreHeld (sym g.1) h
  gives-held (Drops next) h reply new g = subst AreHeld (sym g.1) h
  gives-held ShowsResult h reply new g = same-held new g.1
  gives-held WritesResult h reply new g = same-held new g.1
  gives-held ShowsMessages h reply new g = same-held new g.1
  gives-held (ShowsDocument tree) h reply new g = same-held new g.1
  gives-held TellsCounts h reply new g = same-held new g.1

  step-held : (command : Command) (reply : Reply) (new : State) → Step old command reply new → AreHeld new
  step-held command reply new (inl g) = gives-held (answer_in old command) (answer-held (request_of command)) reply new g
  step-held command reply new (inr g) = same-held new g.1

-- ---- Runs

run-held : (old : State) → AreHeld old → (commands : List Command) (replies : List Reply) (new : State) → Run old commands replies new → AreHeld new
run-held old held [] [] new r = subst AreHeld (sym r) held
run-held old held [] (reply ∷ replies) new r = absurd r
run-held old held (command ∷ commands) [] new r = absurd r
run-held old held (command ∷ commands) (reply ∷ replies) new r =
    run-held r.0 (step-held old held command reply r.0 r.1) commands replies new r.2

none-held : AreHeld initial
none-held = record { present = record { each = each }; pending = tt; limit = omega arith }
  where
    each : (name : DocumentName) (tree : Plain) → named_among initial.documents name ≡ Some tree → IsHeld 0 tree
    each SourceName tree e = absurd (cc)
    each (ModuleName m) tree e = absurd (cc)

-- a document that is held, present or pending
among-pending : (made : ℕ) (o : Option Documents) → ArePendingHeld made o → (documents : Documents) → o ≡ Some documents → AreAllHeld made documents
among-pending made o h documents e = subst (ArePendingHeld made) e h

state-held : (state : State) → AreHeld state → (name : DocumentName) (tree : Plain) → IsHeldIn state name tree → IsHeld state.made tree
state-held state h name tree (inl e) = h.present.each name tree e
state-held state h name tree (inr e) = (among-pending state.made state.pending h.pending e.0 e.1).each name tree e.2

come-held : (commands : List Command) (replies : List Reply) (state : State) → Run initial commands replies state
    → (name : DocumentName) (tree : Plain) → IsHeldIn state name tree → IsHeld state.made tree
come-held commands replies state r name tree e = state-held state (run-held initial none-held commands replies state r) name tree e

-- ---- What is held is made again

plain-valid : (f : Forest ℕ) → IsValid f → IsValid (plain f)
plain-valid f v =
    record {
      unfaulted = fine-to root_scope 1 (plain f) (fine-plain root_scope 1 f (fine-of root_scope 1 f v.unfaulted));
      one_element = plain-elements f ∙ v.one_element;
      no_text = sym (plain-without f) ∙ ap plain v.no_text;
    }

held-again : (made : ℕ) (tree : Plain) → IsHeld made tree → (first : ℕ) → first + 1 + size tree ≤ number_limit
    → document_of root_scope first (body_of tree) ≡ Ok (document_from first tree)
held-again made tree h first room =
    lines-make first tree (subst IsValid h.is (plain-valid h.document.nodes h.well.valid))
    (subst IsNormal h.is (plain-normal h.document.nodes h.well.normal))
    (subst HasChars h.is (chars-plain h.document.nodes h.well.chars)) room

pub held-afresh : (commands : List Command) (replies : List Reply) (state : State) → Run initial commands replies state
    → (name : DocumentName) (tree : Plain) → IsHeldIn state name tree → (first : ℕ) → first + 1 + size tree ≤ number_limit
    → document_of root_scope first (body_of tree) ≡ Ok (document_from first tree)
held-afresh commands replies state r name tree e =
    held-again state.made tree (come-held commands replies state r name tree e)

pub held-room : (commands : List Command) (replies : List Reply) (state : State) → Run initial commands replies state
    → (name : DocumentName) (tree : Plain) → IsHeldIn state name tree → 1 + size tree ≤ number_limit
held-room commands replies state r name tree e =
    let held = run-held initial none-held commands replies state r in
    let limit = held.limit in
    let few = held-size state.made tree (state-held state held name tree e) in
    omega arith

-- the events that are written for it
pub held-writable : (commands : List Command) (replies : List Reply) (state : State) → Run initial commands replies state
    → (name : DocumentName) (tree : Plain) → IsHeldIn state name tree → AreWritable (written tree)
held-writable commands replies state r name tree e =
    let h = come-held commands replies state r name tree e in
    let w = h.well in
    let valid = plain-valid h.document.nodes w.valid in
    subst (λ t. AreWritable (written t)) h.is
    (forest-writable root_scope 1 (plain h.document.nodes) (fine-of root_scope 1 (plain h.document.nodes) valid.unfaulted)
    (chars-plain h.document.nodes w.chars))

-- what is answered where a document is given that is numbered so
kept-again : (old : State) (name : DocumentName) (tree : Plain) (r : Result (Document ℕ) Fault) → r ≡ Ok (document_from old.made tree)
    → kept_by (with_document name) old r ≡ accepted old (with_document name tree (edited_documents old)) (old.made + 1 + size tree)
kept-again old name tree r e =
    ap (kept_by (with_document name) old) e
    ∙ λ i. accepted old (with_document name ((plain-numbered (old.made + 1) tree ∙ plain_itself tree) i) (edited_documents old))
    (old.made + 1 + size-numbered (old.made + 1) tree i)

given-again : (old : State) (name : DocumentName) (tree : Plain) → document_of root_scope old.made (body_of tree) ≡ Ok (document_from old.made tree)
    → answer_to old (given_as name (body_of tree)) ≡ accepted old (with_document name tree (edited_documents old)) (old.made + 1 + size tree)
given-again old SourceName tree e = kept-again old SourceName tree (document_of root_scope old.made (body_of tree)) e
given-again old (ModuleName name) tree e = kept-again old (ModuleName name) tree (document_of root_scope old.made (body_of tree)) e

pub held-given : (commands : List Command) (replies : List Reply) (state : State) → Run initial commands replies state
    → (name : DocumentName) (tree : Plain) → IsHeldIn state name tree
    → (old : State) (other : DocumentName) → old.made + 1 + size tree ≤ number_limit
    → answer_to old (given_as other (body_of tree)) ≡ accepted old (with_document other tree (edited_documents old)) (old.made + 1 + size tree)
held-given commands replies state r name tree e old other room =
    given-again old other tree (held-afresh commands replies state r name tree e old.made room)
