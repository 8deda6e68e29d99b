-- Worked examples of what a call that serves a session has done. The check computes both sides of each fact.
use Rattle.std.specs.Prelude.{ℕ, ◌≡◌, refl, true, List, [], ◌∷◌, Some, codes}
use Rattle.std.proofs.Common.{length, sym, ◌∙◌, ap, arith, lit<, append-nil, inl}
use Rattle.std.specs.Str.{chars, is_utf8}
use Rattle.std.specs.Fmt.{digits}
use lib.Utf8.{encode}
use Rattle.spec_lines.specs.Lines.{ended_lines}
use Rattle.spec_session.specs.declared.kinds.Ending.TheVariants.{Finished, Quit, Unfinished}
use Rattle.spec_session.specs.Command.{session_of, status_of}
use Rattle.spec_session.specs.Reply.{OkPending, OkDropped, Refused, Counted, No}
use Rattle.spec_run.specs.Documents.{no_documents}
use Rattle.spec_run.specs.Outcome.{Failed, no_main}
use Rattle.spec_stylesheet.specs.Place.{Place}
use Rattle.spec_node.specs.declared.node_ref.NodeRef.{NodeRef}
use Rattle.spec_node.specs.declared.node_ref.Part.TheVariants as part
use Rattle.spec_cost.specs.Past.{Past, nothing_past}
use Rattle.spec_session.specs.Machine.{State, TellsNumbers, initial}
use Rattle.spec_session.specs.Served.{AreReplies, IsServed, IsCutShort, Serves}

-- where the source goes on after the bytes that may be taken, the status is 5, but for a session that `quit` has ended
pub status_goes_on : status_of true Finished ≡ 5
status_goes_on = refl

pub status_goes_on_inside_a_body : status_of true Unfinished ≡ 5
status_goes_on_inside_a_body = refl

pub status_after_quit : status_of true Quit ≡ 0
status_after_quit = refl

-- what is remembered at the start, where nothing is called by any name yet
abbrev called_so : Place → NodeRef
called_so place = record { node = record { number = 0 }; part = part.Itself }

abbrev at_first : Past
at_first = nothing_past called_so

-- the machine's reply to `show` at the start
abbrev shown_at_start : List ℕ
shown_at_start = codes "refused S01 -\n"

show_is_answered : AreReplies (session_of (codes "show" ∷ [])).commands shown_at_start
unfolding chars is_utf8 encode digits
show_is_answered = record {
  replies = Refused no_main ∷ [];
  state = initial;
  run = (initial, inl ((Failed no_main [], refl, refl), refl), refl);
  called = called_so;
  past = at_first;
  pays = (initial, at_first, inl ((Failed no_main [], refl, refl), refl), inl refl, (refl, refl));
  bytes = refl;
}

-- the counts at the start, where nothing was run
zeros_are_told : TellsNumbers (Failed no_main []) (Counted 0 0 0)
zeros_are_told = record {
  ran = 0;
  asked = 0;
  did = 0;
  ran_fits = lit< tt;
  asked_fits = lit< tt;
  did_fits = lit< tt;
  free = (refl, refl, refl);
  is = refl;
}

counts_are_answered : AreReplies (session_of (codes "stats" ∷ [])).commands (codes "ran 0 asked 0 did 0\n")
unfolding chars is_utf8 encode digits
counts_are_answered = record {
  replies = Counted 0 0 0 ∷ [];
  state = initial;
  run = (initial, inl ((Failed no_main [], refl, zeros_are_told), refl), refl);
  called = called_so;
  past = at_first;
  pays = (initial, at_first, inl ((Failed no_main [], refl, zeros_are_told), refl), inl (refl, (0, refl)), (refl, refl));
  bytes = refl;
}

pub counts_answered : IsServed 100 (codes "stats\n") 0 (codes "ran 0 asked 0 did 0\n")
counts_answered = record { answered = counts_are_answered; ends = refl }

-- a batch of no change is opened and dropped, and then there is none
abbrev open_at_start : State
open_at_start = record { documents = no_documents; made = 0; pending = Some no_documents }

batch_is_answered : AreReplies (session_of (codes "begin" ∷ codes "abandon" ∷ codes "commit" ∷ [])).commands (codes "ok pending\nok dropped\nno 17\n")
unfolding chars is_utf8 encode digits
batch_is_answered = record {
  replies = OkPending ∷ OkDropped ∷ No 17 ∷ [];
  state = initial;
  run = (open_at_start, inl (refl, refl), (initial, inl (refl, refl), (initial, inl (refl, refl), refl)));
  called = called_so;
  past = at_first;
  pays = (
    open_at_start,
    at_first,
    inl (refl, refl),
    inl refl,
    (initial, at_first, inl (refl, refl), inl refl, (initial, at_first, inl (refl, refl), inl refl, (refl, refl))),
  );
  bytes = refl;
}

pub batch_answered : IsServed 100 (codes "begin\nabandon\ncommit\n") 0 (codes "ok pending\nok dropped\nno 17\n")
batch_answered = record { answered = batch_is_answered; ends = refl }

-- a batch is open where the session ends: its status is that of any other
open_batch_is_answered : AreReplies (session_of (codes "begin" ∷ [])).commands (codes "ok pending\n")
unfolding chars is_utf8 encode digits
open_batch_is_answered = record {
  replies = OkPending ∷ [];
  state = open_at_start;
  run = (open_at_start, inl (refl, refl), refl);
  called = called_so;
  past = at_first;
  pays = (open_at_start, at_first, inl (refl, refl), inl refl, (refl, refl));
  bytes = refl;
}

pub ends_in_a_batch : IsServed 100 (codes "begin\nquit\n") 0 (codes "ok pending\n")
ends_in_a_batch = record { answered = open_batch_is_answered; ends = refl }

-- a reply to each command up to `quit`
pub answered_up_to_quit : IsServed 100 (codes "show\r\n\nquit\nshow\n") 0 shown_at_start
answered_up_to_quit = record { answered = show_is_answered; ends = refl }

-- the last line may lack its LF
pub answered_up_to_the_end : IsServed 4 (codes "show") 0 shown_at_start
answered_up_to_the_end = record { answered = show_is_answered; ends = refl }

-- the input ends inside a body
pub ends_inside_a_body : IsServed 100 (codes "show\nsource\n(a\n") 4 shown_at_start
ends_inside_a_body = record { answered = show_is_answered; ends = refl }

-- `quit` is not whole within four bytes, and is within five
nothing_is_answered : AreReplies [] []
nothing_is_answered =
    record { replies = []; state = initial; run = refl; called = called_so; past = at_first; pays = (refl, refl); bytes = refl }

pub over_the_limit : IsServed 4 (codes "quit\n") 5 []
over_the_limit = record { answered = nothing_is_answered; ends = refl }

pub at_the_limit : IsServed 5 (codes "quit\n") 0 []
at_the_limit = record { answered = nothing_is_answered; ends = refl }

-- a fault of the source in the line after `show`
pub cut_in_a_line : IsCutShort 7 (codes "show\nqui") (codes "i") shown_at_start
cut_in_a_line = record { taken = codes "show\nqu"; all = refl; few = omega arith; answered = show_is_answered; goes_on = λ quit. cc }

-- none comes after the byte past the limit: no command that it would end is answered
pub not_cut_past_the_limit : (text : List ℕ) → IsCutShort 4 (codes "show\n") [] text → ⊥
not_cut_past_the_limit text cut =
    let few = cut.few in
    let all = ap length cut.all ∙ ap length (append-nil cut.taken) in
    absurd (omega (arith, few, all))

-- none comes after `quit`: nothing is read then
pub not_cut_after_quit : (text : List ℕ) → IsCutShort 100 (codes "quit\n") [] text → ⊥
not_cut_after_quit text cut =
    cut.goes_on (ap (λ (bytes : List ℕ). (session_of (ended_lines bytes)).ending) (sym (append-nil cut.taken) ∙ sym cut.all))

-- a whole call
pub served_call : Serves 100 (Some (codes "show\nquit\n")) (Some []) (Some (codes "> ")) (Some (codes "> refused S01 -\n")) 0
served_call = record {
  served = λ is. (shown_at_start, record { answered = show_is_answered; ends = refl }, refl);
  cut_short = λ is. absurd (omega arith);
  prefix = λ is. absurd (omega arith);
  nothing = λ is. absurd (omega arith);
  takes = record { taken = codes "show\nquit\n"; all = refl; few = omega arith };
  no_other = omega arith;
}
