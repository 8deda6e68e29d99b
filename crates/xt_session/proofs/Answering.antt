-- The replies that the machine gives, by what the parts of an answer come to, and what is made of the past with them.
use Rattle.std.proofs.Common.{◌≡◌, ℕ, ◌+◌, Bool, ◌||◌, true, false, List, [], Option, None, Some, Ok, Err, refl, sym, ◌∙◌, ap, subst, inl, inr}
use Rattle.std.specs.Prelude.{Result, IfOk, OnErr}
use Rattle.std.specs.Option.{is_some, option_map, unwrap_or}
use Rattle.std.specs.Str.{encode_utf8_all}
use Rattle.spec_document.specs.Fault.{Fault}
use Rattle.spec_document.specs.Forest.{Plain, Document, size}
use Rattle.spec_edit.specs.Edit as edits
use Rattle.spec_edit.specs.Edit.{Edit, Edited, edited_document, edited_nodes}
use Rattle.spec_expression.specs.declared.code.Code.{Code}
use Rattle.spec_expression.specs.declared.code.Code.TheVariants.{Static, Dynamic}
use Rattle.spec_run.specs.Documents.{Documents, parameter_fault, with_parameter, without_module}
use Rattle.spec_run.specs.Outcome.{Outcome, Done, Failed, IsOutcome}
use Rattle.spec_cost.specs.Marking.{Mark, edit_marks}
use Rattle.spec_cost.specs.Numbers.{NumberedDocuments}
use Rattle.spec_cost.specs.Past.{Past}
use Rattle.spec_cost.specs.Paying.{Pays, with_pending, without_pending}
use Rattle.spec_session.specs.Command.{Command}
use Rattle.spec_session.specs.Costs.{Goes, GoesBy, GoesOf, edited_as, is_module, is_of_module, marks_as, marks_of, numbered_after}
use Rattle.spec_session.specs.Machine.{State, Answer, Changes, Pends, Refuses}
use Rattle.spec_session.specs.Machine.{IsFreeAt, IsFreeFor, TellsNumbers, accepted, accepted_by, begun, committed, abandoned, edited_documents, kept_by}
use Rattle.spec_session.specs.Machine.{document_named, named_among, with_document, edited_by}
use Rattle.spec_session.specs.Machine.{shows, dropped_by, given_by, change_reply, result_reply, written_reply, messages_reply, answer_by, answer_to, Gives, Step}
use Rattle.spec_session.specs.Request.{DocumentName, Request, Abandon, Begin, Commit, DropModule, Dump, Messages, SetParameter, Show, Statistics, Write, request_of}
use Rattle.spec_session.specs.Reply.{Reply, Counted, OkPending, OkDropped, No, reply_text}
use Rattle.xt_base.specs.Code.{edit_number}
use Rattle.xt_import.specs.View.{plain_of}
use Rattle.xt_wire.specs.View.{Reads, code_of_fault}
use Rattle.xt_wire.specs.declared.fault.WireFault.{WireFault}
use Rattle.xt_wire.specs.declared.fault.WireFault.TheVariants as variant
use Rattle.xt_held.specs.Marked as view_marks
use Rattle.xt_held.specs.Marked.{Tells, known_in}
use Rattle.xt_held.specs.OutcomeView as view
use Rattle.xt_held.specs.PastView as view_past
use Rattle.xt_held.specs.PastView.{Brings, IsPast, PaysBy, PaysFor, numbers_of}
use Rattle.xt_held.specs.View as repair
use Rattle.xt_held.specs.View.{IsAbandoned, IsBegun, IsCommit, IsKept, IsReady, IsToldOf, counts_in, documents_of, edited_basis, made_of, next_documents, next_made, next_pending, next_numbers, next_present, pending_of, present_by, present_of, told_of}
use Rattle.xt_held.specs.declared.batch.Batch.{Batch}
use Rattle.xt_held.specs.declared.counts.Counts.{Counts}
use Rattle.xt_held.specs.declared.held.Held.{Held}
use Rattle.xt_held.specs.declared.name.DocName.{DocName}
use Rattle.xt_held.specs.declared.name.DocName.TheVariants as names
use Rattle.xt_held.specs.declared.ready.Ready.{Ready}
use Rattle.xt_session.specs.State.{adopted, answer_told, name_in, next_state, reply_told, request_by, state_of}
use Rattle.xt_session.specs.Turn.{BecomesBy, GivesReply, GivesText, RepliesTo, Stays}

-- what holds of the value of an `Ok`
pub if_ok_map : {T E : Type 0} (P Q : T → Type 0) (r : Result T E) → ((x : T) → P x → Q x) → IfOk r P → IfOk r Q
if_ok_map P Q (Ok x) f h = f x h
if_ok_map P Q (Err e) f h = tt

-- ---- What stays as it is

pub stays_itself : (held : Held) → Stays held held
stays_itself held = record { state = refl; past = λ before past. past }

-- where nothing that is told of what is held has changed, the state is the same
pub stays_kept : {old new : Held} → IsKept old new → ((before : Past) → IsPast before old → IsPast before new) → Stays old new
stays_kept kept past =
    record { state = λ i. record { documents = kept.present i; made = kept.made i; pending = kept.pending i }; past = past }

stays_both : {first second third : Held} → Stays first second → Stays second third → Stays first third
stays_both a b = record { state = b.state ∙ a.state; past = λ before past. b.past before (a.past before past) }

-- what stays at an `Err`, from further back
pub on_err_then : {T E : Type 0} (r : Result T E) {first second : Held} (third : Held) → Stays first second → OnErr r (Stays second third)
    → OnErr r (Stays first third)
on_err_then (Ok x) third a b = tt
on_err_then (Err x) third a b = stays_both a b

-- ---- Replies to what changes nothing

-- to a request that is refused, after what changed nothing
pub replies_refusal : {old new : Held} (request : Request) (number : ℕ) {text : List ℕ} → Stays old new → answer_to (state_of new) request ≡ Refuses number
    → text ≡ reply_text (No number) → RepliesTo old request text new
replies_refusal {old = old} {new = new} request number stays is e = record {
  reply = No number;
  gives = subst (λ (answer : Answer). Gives (state_of old) answer (No number) (state_of new)) (sym answer_is) (refl, stays.state);
  goes = λ before past. (
    before,
    subst (λ (answer : Answer). GoesBy (state_of old) request answer (No number) before before) (sym answer_is) refl,
    stays.past before past,
  );
  text_is = e;
}
  where
    answer_is : answer_to (state_of old) request ≡ Refuses number
    answer_is = ap (λ (s : State). answer_to s request) (sym stays.state) ∙ is

-- to a request for the result, or for the messages
pub replies_result : (held : Held) (outcome : Outcome) (reply : Reply) {text : List ℕ} → IsOutcome (present_of held) outcome
    → reply ≡ result_reply outcome → text ≡ reply_text reply → RepliesTo held Show text held
replies_result held outcome reply stands is e =
    record { reply = reply; gives = ((outcome, stands, is), refl); goes = λ before past. (before, refl, past); text_is = e }

pub replies_written : (held : Held) (outcome : Outcome) (reply : Reply) {text : List ℕ} → IsOutcome (present_of held) outcome
    → reply ≡ written_reply outcome → text ≡ reply_text reply → RepliesTo held Write text held
replies_written held outcome reply stands is e =
    record { reply = reply; gives = ((outcome, stands, is), refl); goes = λ before past. (before, refl, past); text_is = e }

pub replies_messages : (held : Held) (outcome : Outcome) (reply : Reply) {text : List ℕ} → IsOutcome (present_of held) outcome
    → reply ≡ messages_reply outcome → text ≡ reply_text reply → RepliesTo held Messages text held
replies_messages held outcome reply stands is e =
    record { reply = reply; gives = ((outcome, stands, is), refl); goes = λ before past. (before, refl, past); text_is = e }

-- to a request for what the last change has cost: it is what the past tells
pub replies_counts : (held : Held) (outcome : Outcome) (counts : Counts) (reply : Reply) {text : List ℕ} → IsOutcome (present_of held) outcome
    → TellsNumbers outcome reply → counts ≡ counts_in held → reply ≡ Counted counts.ran counts.asked counts.did → text ≡ reply_text reply
    → RepliesTo held Statistics text held
replies_counts held outcome counts reply stands tells same is e = record {
  reply = reply;
  gives = ((outcome, stands, tells), refl);
  goes = λ before past. (
    before,
    (refl, (counts.did, is ∙ (λ i. Counted (ran past i) (asked past i) counts.did))),
    past,
  );
  text_is = e;
}
  where
    ran : {before : Past} → IsPast before held → counts.ran ≡ before.ran
    ran past = ap (λ (c : Counts). c.ran) same ∙ sym past.ran

    asked : {before : Past} → IsPast before held → counts.asked ≡ before.asked
    asked past = ap (λ (c : Counts). c.asked) same ∙ sym past.asked

-- to a request for a document that is not held
pub replies_missing : (held : Held) (name : DocumentName) {text : List ℕ} → None ≡ document_named (state_of held) name → text ≡ reply_text (No 5)
    → RepliesTo held (Dump name) text held
replies_missing held name none e = replies_refusal (Dump name) 5 (stays_itself held) (ap shows (sym none)) e

-- ---- What is told of a result

-- what took nothing has three zeros
free_at : (code : Code) (counts : Counts) → view.IsFreeAt code counts → IsFreeAt code counts.ran counts.asked counts.did
free_at (Static code) counts h = (ap (λ (c : Counts). c.ran) h, ap (λ (c : Counts). c.asked) h, ap (λ (c : Counts). c.did) h)
free_at (Dynamic code) counts h = tt

pub free_for : (outcome : Outcome) (counts : Counts) → view.IsFreeFor outcome counts → IsFreeFor outcome counts.ran counts.asked counts.did
free_for (Done result method messages) counts h = tt
free_for (Failed why messages) counts h = free_at why.code counts h

-- ---- What changes speak of, and what is adopted

-- what a change brings by the first number that is free, where that number is given otherwise
pub brings_from : (numbered : ℕ → NumberedDocuments) (is_of_module : Bool) (held : Held) (ready : Ready) (first other : ℕ) → first ≡ other
    → Brings (numbered first) is_of_module held ready → Brings (numbered other) is_of_module held ready
brings_from numbered is_of_module held ready first other same h =
    subst (λ (n : ℕ). Brings (numbered n) is_of_module held ready) same h

documents_by : (held : Held) (batch : Option Batch)
    → documents_of held ≡ unwrap_or (option_map (λ (b : Batch). documents_of held) batch) (present_by batch (edited_basis held)).documents
documents_by held None = refl
documents_by held (Some batch) = refl

-- what paths and changes speak of where it is held is what they speak of in its state
pub edited_same : (held : Held) → documents_of held ≡ edited_documents (state_of held)
edited_same held = documents_by held held.batch

not_open : (pending : Option Documents) → pending ≡ None → is_some pending ≡ true → ⊥
not_open pending none opened = let no : false ≡ true = sym (ap is_some none) ∙ opened in cc

-- it is a change of what is present, or in a batch of what is pending
accepted_told : (held : Held) (ready : Ready) (told : Option Outcome) (pending : Option Documents) (documents : Documents) (made : ℕ) → IsToldOf told ready held
    → pending_of held ≡ pending → next_documents ready held ≡ documents → next_made ready ≡ made
    → next_pending ready held ≡ option_map (λ (d : Documents). next_documents ready held) pending
    → answer_told told (next_state ready held) ≡ accepted_by pending (state_of held) documents made
accepted_told held ready (Some outcome) None documents made stands was is count next =
    λ i. Changes (record { documents = (stands.2 ∙ is) i; made = count i; pending = stands.1 i })
accepted_told held ready (Some outcome) (Some pending) documents made stands was is count next =
    let none : None ≡ Some (next_documents ready held) = sym stands.1 ∙ next in absurd (cc)
accepted_told held ready None None documents made stands was is count next = absurd (not_open (pending_of held) was stands.0)
accepted_told held ready None (Some pending) documents made stands was is count next =
    λ i. Pends (record { documents = stands.1 i; made = count i; pending = (stands.2 ∙ ap Some is) i })

pub accepted_so : {change : Documents → Documents} {made : ℕ} {held : Held} {ready : Ready} → IsReady change made held ready
    → adopted ready held ≡ accepted (state_of held) (change (edited_documents (state_of held))) made
accepted_so {change = change} {made = made} {held = held} {ready = ready} is =
    accepted_told held ready (told_of ready) (pending_of held) (change (edited_documents (state_of held))) made is.from.outcome refl
    (is.documents ∙ ap change (edited_same held)) is.made is.pending

-- ---- Replies to what is adopted

-- the reply, by what is told of it
pub gives_told : (held : Held) (ready : Ready) (told : Option Outcome) (text : List ℕ) {new : State} → IsToldOf told ready held → new ≡ next_state ready held
    → text ≡ reply_text (reply_told told) → GivesText (state_of held) (answer_told told (next_state ready held)) text new
gives_told held ready (Some outcome) text stands same e =
    record { reply = change_reply outcome; gives = ((outcome, stands.0, refl), same); text_is = e }
gives_told held ready None text stands same e = record { reply = OkPending; gives = (refl, same); text_is = e }

-- what a request tells of what changed, where it makes of the numbered documents what it does
abbrev pub told_by : Request → Held → List Mark
told_by request held = marks_of (known_in held) request (numbers_of held) (numbered_after (made_of held) request (numbers_of held))

-- what that makes of the past, where it brings what the request makes of the numbered documents
goes_told : (held : Held) (ready : Ready) (told : Option Outcome) (request : Request) (reply : Reply) (before after : Past) → IsPast before held
    → Brings (numbered_after (made_of held) request (numbers_of held)) (is_of_module request) held ready
    → PaysBy told (told_by request held) ready held before after
    → GoesBy (state_of held) request (answer_told told (next_state ready held)) reply before after
goes_told held ready told request reply before after past brings = by told
  where
    numbers : next_numbers ready.change held ≡ numbered_after (made_of held) request before.edited
    numbers = brings.numbers ∙ ap (numbered_after (made_of held) request) (sym past.edited)

    marks : told_by request held ≡ marks_of before.known request before.edited (numbered_after (made_of held) request before.edited)
    marks = sym (λ i. marks_of (past.known i) request (past.edited i) (numbered_after (made_of held) request (past.edited i)))

    by : (told : Option Outcome) → PaysBy told (told_by request held) ready held before after
        → GoesBy (state_of held) request (answer_told told (next_state ready held)) reply before after
    by (Some outcome) pays =
        subst (λ (ms : List Mark). Pays (next_present ready held) (numbered_after (made_of held) request before.edited) (is_of_module request) ms before after)
        marks
        (subst (λ (numbered : NumberedDocuments). Pays (next_present ready held) numbered (is_of_module request) (told_by request held) before after) numbers
        (subst (λ (b : Bool). Pays (next_present ready held) (next_numbers ready.change held) b (told_by request held) before after) brings.kind pays))
    by None pays = pays ∙ λ i. with_pending (numbers i) (brings.kind i) (marks i) before

-- to a request whose answer is what is adopted, after what changed nothing
replies_adopted : {old held new : Held} {ready : Ready} (request : Request) {text : List ℕ} → Stays old held
    → adopted ready held ≡ answer_to (state_of held) request
    → Brings (numbered_after (made_of held) request (numbers_of held)) (is_of_module request) held ready
    → GivesText (state_of held) (adopted ready held) text (state_of new) → BecomesBy (PaysFor (told_by request held) ready held) held new
    → RepliesTo old request text new
replies_adopted {old = old} {held = held} {new = new} {ready = ready} request stays is brings gives pays = record {
  reply = gives.reply;
  gives = subst (λ (s : State). Gives s (answer_to s request) gives.reply (state_of new)) stays.state
      (subst (λ (answer : Answer). Gives (state_of held) answer gives.reply (state_of new)) is gives.gives);
  goes = λ before past.
      let now = stays.past before past in
      let paid = pays before now in
      let by_told = goes_told held ready (told_of ready) request gives.reply before paid.0 now brings paid.1 in (
        paid.0,
        subst (λ (s : State). GoesBy s request (answer_to s request) gives.reply before paid.0) stays.state
            (subst (λ (answer : Answer). GoesBy (state_of held) request answer gives.reply before paid.0) is by_told),
        paid.2,
      );
  text_is = gives.text_is;
}

-- where that is told of it, and what is adopted is paid for by whatever is
pub replies_if_adopted : {E : Type 0} {old held : Held} {ready : Ready} (new : Held) (request : Request) (r : Result (List ℕ) E) → Stays old held
    → adopted ready held ≡ answer_to (state_of held) request
    → Brings (numbered_after (made_of held) request (numbers_of held)) (is_of_module request) held ready → Tells (told_by request held) held ready
    → IfOk r (λ text. GivesText (state_of held) (adopted ready held) text (state_of new))
    → ((marks : List Mark) → Tells marks held ready → IfOk r (λ text. BecomesBy (PaysFor marks ready held) held new))
    → IfOk r (λ text. RepliesTo old request text new)
replies_if_adopted {held = held} new request (Ok text) stays is brings tells gives pays =
    replies_adopted request stays is brings gives (pays (told_by request held) tells)
replies_if_adopted new request (Err e) stays is brings tells gives pays = tt

-- ---- Batches

-- one is opened, after what changed nothing of the past, or one is open
pub replies_begun : {old new : Held} {text : List ℕ} → IsBegun old new → ((before : Past) → IsPast before old → IsPast before new)
    → text ≡ reply_text OkPending → RepliesTo old Begin text new
replies_begun {old = old} {new = new} is past e = record {
  reply = OkPending;
  gives = subst (λ (o : Option Documents). Gives (state_of old) (begun (state_of old) o) OkPending (state_of new)) (sym is.was)
      (refl, λ i. record { documents = is.present i; made = is.made i; pending = next i });
  goes = λ before now. (
    before,
    subst (λ (o : Option Documents). GoesBy (state_of old) Begin (begun (state_of old) o) OkPending before before) (sym is.was) (pending_same before),
    past before now,
  );
  text_is = e;
}
  where
    present : documents_of old ≡ present_of old
    present = edited_same old ∙ ap (λ (pending : Option Documents). unwrap_or pending (present_of old)) is.was

    next : pending_of new ≡ Some (present_of old)
    next = is.pending ∙ ap Some present

    or_false : (b : Bool) → b ≡ b || false
    or_false true = refl
    or_false false = refl

    pending_same : (before : Past) → before ≡ with_pending before.edited false [] before
    pending_same before = λ i. record before { is_edited = or_false before.is_edited i }

begun_open : (old : State) (pending : Option Documents) → is_some pending ≡ true → begun old pending ≡ Refuses 16
begun_open old None h = absurd (cc)
begun_open old (Some pending) h = refl

pub replies_not_begun : {old new : Held} (number : ℕ) {text : List ℕ} → number ≡ 16 → is_some (pending_of old) ≡ true → IsKept old new
    → ((before : Past) → IsPast before old → IsPast before new) → text ≡ reply_text (No number) → RepliesTo old Begin text new
replies_not_begun {old = old} {new = new} number sixteen opened kept past e =
    replies_refusal Begin number (stays_kept kept past)
    (begun_open (state_of new) (pending_of new) (ap is_some kept.pending ∙ opened) ∙ ap Refuses (sym sixteen)) e

-- what is pending is made present, or there is nothing
committed_told : (held : Held) (ready : Ready) (told : Option Outcome) (batch : Option Batch) → is_some told ≡ true
    → is_some (option_map (λ (b : Batch). documents_of held) batch) ≡ true → next_present ready held ≡ documents_of held → next_made ready ≡ made_of held
    → next_pending ready held ≡ None
    → answer_told told (next_state ready held) ≡ committed (state_of held) (option_map (λ (b : Batch). documents_of held) batch)
committed_told held ready None batch told opened present made pending = absurd (cc)
committed_told held ready (Some outcome) None told opened present made pending = absurd (cc)
committed_told held ready (Some outcome) (Some batch) told opened present made pending =
    λ i. Changes (record { documents = present i; made = made i; pending = pending i })

pub commits_so : {held : Held} {ready : Ready} → IsCommit held ready → adopted ready held ≡ answer_to (state_of held) Commit
commits_so {held = held} {ready = ready} is =
    committed_told held ready (told_of ready) held.batch is.told is.is_open is.present is.made is.pending

pub replies_not_committed : (held : Held) (number : ℕ) {text : List ℕ} → number ≡ 17 → pending_of held ≡ None → text ≡ reply_text (No number)
    → RepliesTo held Commit text held
replies_not_committed held number seventeen none e =
    replies_refusal Commit number (stays_itself held) (ap (committed (state_of held)) none ∙ ap Refuses (sym seventeen)) e

-- it is dropped, or there is nothing
pub replies_abandoned : {old new : Held} {text : List ℕ} → IsAbandoned old new
    → ((before : Past) → IsPast before old → IsPast (without_pending before) new) → text ≡ reply_text OkDropped → RepliesTo old Abandon text new
replies_abandoned {old = old} {new = new} is past e = record {
  reply = OkDropped;
  gives = gives (pending_of old) is.is_open;
  goes = λ before now. (without_pending before, goes before (pending_of old) is.is_open, past before now);
  text_is = e;
}
  where
    gives : (pending : Option Documents) → is_some pending ≡ true → Gives (state_of old) (abandoned (state_of old) pending) OkDropped (state_of new)
    gives None h = absurd (cc)
    gives (Some pending) h = (refl, λ i. record { documents = is.present i; made = is.made i; pending = is.pending i })

    goes : (before : Past) (pending : Option Documents) → is_some pending ≡ true
        → GoesBy (state_of old) Abandon (abandoned (state_of old) pending) OkDropped before (without_pending before)
    goes before None h = absurd (cc)
    goes before (Some pending) h = refl

pub replies_not_abandoned : {old new : Held} (number : ℕ) {text : List ℕ} → number ≡ 17 → pending_of old ≡ None → IsKept old new
    → ((before : Past) → IsPast before old → IsPast before new) → text ≡ reply_text (No number) → RepliesTo old Abandon text new
replies_not_abandoned {old = old} {new = new} number seventeen none kept past e =
    replies_refusal Abandon number (stays_kept kept past)
    (ap (abandoned (state_of new)) (kept.pending ∙ none) ∙ ap Refuses (sym seventeen)) e

-- ---- Changes of documents and of parameters

-- of a body: the document that was built is kept
pub kept_so : (make : Plain → Documents → Documents) (built : Result (Document ℕ) Fault) (document : Document ℕ) {held : Held} {ready : Ready}
    → built ≡ Ok document → IsReady (make (plain_of document)) (made_of held + 1 + size document.nodes) held ready
    → adopted ready held ≡ kept_by make (state_of held) built
kept_so make built document {held = held} e is = accepted_so is ∙ ap (kept_by make (state_of held)) (sym e)

-- of an edit, or of a move: the document of this name, whatever it is called where it is held, is held as it is edited
named_same : (name : DocName) (documents : Documents) → repair.document_named name documents ≡ named_among documents (name_in name)
named_same names.Source documents = refl
named_same (names.Module name) documents = refl

with_same : (name : DocName) → repair.with_document name ≡ with_document (name_in name)
with_same names.Source = refl
with_same (names.Module name) = refl

-- the document of this name, by what it is called where it is held
pub document_same : (held : Held) (name : DocName) (asked : DocumentName) → name_in name ≡ asked
    → repair.document_named name (documents_of held) ≡ document_named (state_of held) asked
document_same held name asked same =
    named_same name (documents_of held) ∙ (λ i. named_among (edited_same held i) (same i))

-- what an edit of a document, so many nodes were made before, is answered; of the document that is held
abbrev pub Edits : Type 0
Edits = (made : ℕ) → Option Plain → Result (Edited (Unit {0})) Fault

abbrev pub edited_so : Edits → State → DocumentName → Answer
edited_so change old asked = edited_by old asked (change old.made (document_named old asked))

pub edits_so : (name : DocName) (change : Edits) (asked : DocumentName) (edited : Edited (Unit {0})) {held : Held} {ready : Ready} → name_in name ≡ asked
    → change (made_of held) (repair.document_named name (documents_of held)) ≡ Ok edited
    → IsReady (repair.with_document name edited.nodes) (made_of held + edited.made) held ready → adopted ready held ≡ edited_so change (state_of held) asked
edits_so name change asked edited {held = held} same e is =
    let old : State = state_of held in
    accepted_so is
    ∙ (λ i. accepted old ((with_same name ∙ ap with_document same) i edited.nodes (edited_documents old)) (old.made + edited.made))
    ∙ ap (edited_by old asked) (sym (ap (change old.made) (sym (document_same held name asked same)) ∙ e))

pub edits_not : (held : Held) (name : DocName) (change : Edits) (asked : DocumentName) (fault : Fault) → name_in name ≡ asked
    → change (made_of held) (repair.document_named name (documents_of held)) ≡ Err fault → edited_so change (state_of held) asked ≡ Refuses fault.number
edits_not held name change asked fault same e =
    let old : State = state_of held in
    ap (edited_by old asked) (ap (change old.made) (sym (document_same held name asked same)) ∙ e)

-- by the request of an edit
pub edit_asked : (old : State) (asked : DocumentName) (edit : Edit)
    → edited_so (λ made. edited_document made edit) old asked ≡ answer_to old (request_by asked edit)
edit_asked old asked (edits.Insert path body) = refl
edit_asked old asked (edits.Delete path) = refl
edit_asked old asked (edits.SetText path value) = refl
edit_asked old asked (edits.SetAttribute path name value) = refl
edit_asked old asked (edits.RemoveAttribute path name) = refl
edit_asked old asked (edits.Rename path name) = refl

-- what an edit brings, or a move
pub brings_edited : (name : DocName) (change : Document ℕ → Result (Edited ℕ) Fault) (asked : DocumentName) {held : Held} {ready : Ready}
    → name_in name ≡ asked → Brings (view_past.edited_as name change (numbers_of held)) (view_past.is_module name) held ready
    → Brings (edited_as asked change (numbers_of held)) (is_module asked) held ready
brings_edited name change asked {held = held} same brings = record {
  numbers = brings.numbers ∙ numbers name ∙ ap (λ (n : DocumentName). edited_as n change (numbers_of held)) same;
  kind = brings.kind ∙ kind name ∙ ap is_module same;
}
  where
    numbers : (name : DocName) → view_past.edited_as name change (numbers_of held) ≡ edited_as (name_in name) change (numbers_of held)
    numbers names.Source = refl
    numbers (names.Module name) = refl

    kind : (name : DocName) → view_past.is_module name ≡ is_module (name_in name)
    kind names.Source = refl
    kind (names.Module name) = refl

pub brings_asked : (edit : Edit) (asked : DocumentName) {held : Held} {ready : Ready}
    → Brings (edited_as asked (edited_nodes (made_of held) edit) (numbers_of held)) (is_module asked) held ready
    → Brings (numbered_after (made_of held) (request_by asked edit) (numbers_of held)) (is_of_module (request_by asked edit)) held ready
brings_asked (edits.Insert path body) asked brings = brings
brings_asked (edits.Delete path) asked brings = brings
brings_asked (edits.SetText path value) asked brings = brings
brings_asked (edits.SetAttribute path name value) asked brings = brings
brings_asked (edits.RemoveAttribute path name) asked brings = brings
brings_asked (edits.Rename path name) asked brings = brings

-- what is told of an edit, or of a move
pub tells_edited : (name : DocName) (change : Document ℕ → Result (Edited ℕ) Fault) (mark : Document ℕ → Document ℕ → Mark) (asked : DocumentName)
    {held : Held} {ready : Ready} → name_in name ≡ asked
    → Tells (view_marks.marks_as name mark (numbers_of held) (view_past.edited_as name change (numbers_of held))) held ready
    → Tells (marks_as asked mark (numbers_of held) (edited_as asked change (numbers_of held))) held ready
tells_edited name change mark asked {held = held} {ready = ready} same tells =
    subst (λ (ms : List Mark). Tells ms held ready)
    (marks name ∙ ap (λ (n : DocumentName). marks_as n mark (numbers_of held) (edited_as n change (numbers_of held))) same) tells
  where
    marks : (name : DocName) → view_marks.marks_as name mark (numbers_of held) (view_past.edited_as name change (numbers_of held))
        ≡ marks_as (name_in name) mark (numbers_of held) (edited_as (name_in name) change (numbers_of held))
    marks names.Source = refl
    marks (names.Module name) = refl

pub tells_asked : (edit : Edit) (asked : DocumentName) {held : Held} {ready : Ready}
    → Tells (marks_as asked (edit_marks (known_in held) edit) (numbers_of held) (edited_as asked (edited_nodes (made_of held) edit) (numbers_of held))) held ready
    → Tells (told_by (request_by asked edit) held) held ready
tells_asked (edits.Insert path body) asked tells = tells
tells_asked (edits.Delete path) asked tells = tells
tells_asked (edits.SetText path value) asked tells = tells
tells_asked (edits.SetAttribute path name value) asked tells = tells
tells_asked (edits.RemoveAttribute path name) asked tells = tells
tells_asked (edits.Rename path name) asked tells = tells

-- of a parameter: it has the value
pub given_so : (name value : List ℕ) {held : Held} {ready : Ready} → parameter_fault name value ≡ None
    → IsReady (with_parameter name value) (made_of held) held ready → adopted ready held ≡ answer_to (state_of held) (SetParameter name value)
given_so name value {held = held} none is = accepted_so is ∙ ap (given_by name value (state_of held)) (sym none)

-- of a module that is to be dropped: it is there no more, or there is none
pub dropped_so : (name : List ℕ) (tree : Plain) {held : Held} {ready : Ready} → (documents_of held).modules name ≡ Some tree
    → IsReady (without_module name) (made_of held) held ready → adopted ready held ≡ answer_to (state_of held) (DropModule name)
dropped_so name tree {held = held} some is =
    let there : (edited_documents (state_of held)).modules name ≡ Some tree = ap (λ (d : Documents). d.modules name) (sym (edited_same held)) ∙ some in
    accepted_so is ∙ ap (dropped_by name (state_of held)) (sym there)

pub not_dropped : (name : List ℕ) (held : Held) → (documents_of held).modules name ≡ None → answer_to (state_of held) (DropModule name) ≡ Refuses 5
not_dropped name held none = ap (dropped_by name (state_of held)) (ap (λ (d : Documents). d.modules name) (sym (edited_same held)) ∙ none)

-- ---- A command

-- by its line and the lines of its body
pub command_is : (command : Command) (line : List ℕ) (body : List (List ℕ)) → line ≡ command.line → body ≡ command.body
    → record { line = line; body = body } ≡ command
command_is command line body e h = λ i. record { line = e i; body = h i }

-- the reply to it, where its line asks something, and where it asks nothing
pub gives_asked : (old new : Held) (command : Command) (request : Request) (text : List ℕ)
    → request_of command ≡ Ok request → RepliesTo old request text new → GivesReply old command (encode_utf8_all text) new
gives_asked old new command request text e replies = record {
  reply = replies.reply;
  step = inl (subst (λ (r : Result Request ℕ). Gives (state_of old) (answer_by (state_of old) r) replies.reply (state_of new)) (sym e) replies.gives);
  goes = λ before past.
      let gone = replies.goes before past in (
        gone.0,
        inl (subst (λ (r : Result Request ℕ). GoesOf (state_of old) r (answer_by (state_of old) r) replies.reply before gone.0) (sym e) gone.1),
        gone.2,
      );
  bytes_are = ap encode_utf8_all replies.text_is;
}

pub gives_unread : (old : Held) (command : Command) (fault : WireFault) (text : List ℕ)
    → Reads (Err fault) (request_of command) → text ≡ reply_text (No (edit_number (code_of_fault fault)))
    → GivesReply old command (encode_utf8_all text) old
gives_unread old command fault text reads is = record {
  reply = No (edit_number (code_of_fault fault));
  step = step fault reads;
  goes = λ before past. (before, goes before fault reads, past);
  bytes_are = ap encode_utf8_all is;
}
  where
    refused : (number : ℕ) → request_of command ≡ Err number → Step (state_of old) command (No number) (state_of old)
    refused number e = inl (subst (λ (r : Result Request ℕ). Gives (state_of old) (answer_by (state_of old) r) (No number) (state_of old)) (sym e) (refl, refl))

    step : (f : WireFault) → Reads (Err f) (request_of command) → Step (state_of old) command (No (edit_number (code_of_fault f))) (state_of old)
    step variant.Memory h = inr (refl, refl)
    step variant.NotUtf8 h = refused 2 h
    step variant.UnknownCommand h = refused 3 h
    step variant.BadArguments h = refused 4 h

    nothing : (before : Past) (number : ℕ) → request_of command ≡ Err number → Goes (state_of old) command (No number) before before
    nothing before number e =
        inl (subst (λ (r : Result Request ℕ). GoesOf (state_of old) r (answer_by (state_of old) r) (No number) before before) (sym e) refl)

    goes : (before : Past) (f : WireFault) → Reads (Err f) (request_of command) → Goes (state_of old) command (No (edit_number (code_of_fault f))) before before
    goes before variant.Memory h = inr (refl, refl)
    goes before variant.NotUtf8 h = nothing before 2 h
    goes before variant.UnknownCommand h = nothing before 3 h
    goes before variant.BadArguments h = nothing before 4 h
