-- How a session goes on, and what has been done when it ends.
use Rattle.std.proofs.Common.{◌≡◌, ℕ, ◌+◌, ◌≤◌, Bool, false, List, [], ◌∷◌, ◌++◌, length, take, drop, Option, None, Some, refl}
use Rattle.std.proofs.Common.{sym, ◌∙◌, ap, subst, arith}
use Rattle.std.proofs.Common.{append_assoc, append-nil, length-append}
use Rattle.std.specs.Prelude.{nat_lt, IfSome, IsSomeAnd}
use Rattle.std.specs.List.{flat_map}
use Rattle.std.specs.Option.{option_map}
use Rattle.std.proofs.lemmas.List.Concat.{flat_map-append}
use Rattle.std.proofs.lemmas.List.{take-append-drop}
use Rattle.spec_lines.specs.Lines.{lines_within, ended_lines, Reader, ahead, allowance, HasNoNewline, TakesUpTo}
use Rattle.spec_lines.proofs.Reading.{ended_lines-none}
use Rattle.spec_session.specs.Command.{Command, Session, session_of, after, status_of}
use Rattle.spec_session.specs.Reply.{Reply, reply_bytes}
use Rattle.spec_node.specs.declared.node_ref.NodeRef.{NodeRef}
use Rattle.spec_node.specs.declared.node_ref.Part.TheVariants as part
use Rattle.spec_stylesheet.specs.Place.{Place}
use Rattle.spec_cost.specs.Past.{Past, nothing_past}
use Rattle.spec_session.specs.Costs.{Goes, PaysAlong}
use Rattle.spec_session.specs.Machine.{State, initial, Step, Run}
use Rattle.spec_session.specs.Served.{AreReplies, IsServed, IsCutShort, IsPrefixOfReplies, TakesAtMost, session_within}
use Rattle.xt_session.specs.Progress.{BeginsWithLines, GivesLines, IsDone, IsCut}
use Rattle.xt_held.specs.PastView.{IsPast}
use Rattle.xt_held.specs.declared.held.Held.{Held}
use Rattle.xt_session.specs.State.{state_of}
use Rattle.xt_session.specs.Turn.{IsAnswered}
use Rattle.xt_session.proofs.Giving.{then_given, none_given, kept_by_itself, takes_nothing, takes_then}
use Rattle.xt_session.proofs.Taking.{EndsWith}

-- commands in front of a session
abbrev pub in_front : List Command → Session → Session
in_front commands session = record { commands = commands ++ session.commands; ending = session.ending }

-- a reader at the start
abbrev pub reader_at_start : ℕ → Reader
reader_at_start limit = record { kept = []; room = limit; at_end = false }

-- how far a session of these bytes has come: the commands so far, whose replies are this text, and the past of what is held
pub record HasCome (limit : ℕ) (bytes : List ℕ) (reader : Reader) (left : Option (List ℕ)) (held : Held) (text : List ℕ) : Type 0 where
  pub lines : List (List ℕ)
  pub commands : List Command
  pub replies : List Reply
  pub given : GivesLines (reader_at_start limit) (Some bytes) lines reader left
  pub are : (rest : List (List ℕ)) → session_of (lines ++ rest) ≡ in_front commands (session_of rest)
  pub run : Run initial commands replies (state_of held)
  pub called : Place → NodeRef
  pub past : Past
  pub pays : PaysAlong initial (nothing_past called) commands replies (state_of held) past
  pub is_past : IsPast past held
  pub bytes_are : text ≡ flat_map reply_bytes replies
  pub takes : TakesUpTo 0 (reader_at_start limit) (Some bytes) reader left

run_more : (a : State) (commands : List Command) (replies : List Reply) (b : State) (command : Command) (reply : Reply) (c : State)
    → Run a commands replies b → Step b command reply c → Run a (commands ++ command ∷ []) (replies ++ reply ∷ []) c
run_more a [] [] b command reply c run step = (c, subst (λ (d : State). Step d command reply c) run step, refl)
run_more a [] (r ∷ rs) b command reply c run step = absurd run
run_more a (x ∷ xs) [] b command reply c run step = absurd run
run_more a (x ∷ xs) (r ∷ rs) b command reply c run step = (run.0, run.1, run_more run.0 xs rs b command reply c run.2 step)

pays_more : (a : State) (p : Past) (commands : List Command) (replies : List Reply) (b : State) (q : Past) (command : Command) (reply : Reply) (c : State)
    (r : Past) → PaysAlong a p commands replies b q → Step b command reply c → Goes b command reply q r
    → PaysAlong a p (commands ++ command ∷ []) (replies ++ reply ∷ []) c r
pays_more a p [] [] b q command reply c r pays step goes = (
  c,
  r,
  subst (λ (d : State). Step d command reply c) pays.0 step,
  subst (λ (d : State). Goes d command reply p r) pays.0 (subst (λ (o : Past). Goes b command reply o r) pays.1 goes),
  (refl, refl),
)
pays_more a p [] (x ∷ xs) b q command reply c r pays step goes = absurd pays
pays_more a p (x ∷ xs) [] b q command reply c r pays step goes = absurd pays
pays_more a p (x ∷ xs) (y ∷ ys) b q command reply c r pays step goes =
    (pays.0, pays.1, pays.2, pays.3, pays_more pays.0 pays.1 xs ys b q command reply c r pays.4 step goes)

-- what nothing is called at the start; nothing is there that could be
no_name : Place → NodeRef
no_name place = record { node = record { number = 0 }; part = part.Itself }

pub come_at_start : (limit : ℕ) (bytes : List ℕ) (held : Held) → state_of held ≡ initial
    → ((called : Place → NodeRef) → IsPast (nothing_past called) held) → HasCome limit bytes (reader_at_start limit) (Some bytes) held []
come_at_start limit bytes held is past = record {
  lines = [];
  commands = [];
  replies = [];
  given = none_given (kept_by_itself (reader_at_start limit) (Some bytes));
  are = λ rest. refl;
  run = is;
  called = no_name;
  past = nothing_past no_name;
  pays = (is, refl);
  is_past = past no_name;
  bytes_are = refl;
  takes = takes_nothing (reader_at_start limit) (Some bytes);
}

in_front-after : (commands : List Command) (command : Command) (s : Session)
    → in_front commands (after command s) ≡ in_front (commands ++ command ∷ []) s
in_front-after commands command s =
    ap (λ (cs : List Command). record { commands = cs; ending = s.ending }) (sym (append_assoc commands (command ∷ []) s.commands))

more_bytes : (replies : List Reply) (reply : Reply) (text more : List ℕ) → text ≡ flat_map reply_bytes replies → more ≡ reply_bytes reply
    → text ++ more ≡ flat_map reply_bytes (replies ++ reply ∷ [])
more_bytes replies reply text more e h =
    ap (λ (t : List ℕ). t ++ more) e ∙ ap (λ (t : List ℕ). flat_map reply_bytes replies ++ t) (h ∙ sym (append-nil (reply_bytes reply)))
    ∙ sym (flat_map-append reply_bytes replies (reply ∷ []))

-- one more command, with its reply
pub come_on : {limit : ℕ} {bytes : List ℕ} {a b : Reader} {p q : Option (List ℕ)} {held next : Held} {text more : List ℕ}
    → HasCome limit bytes a p held text → IsAnswered a p held more b q next → HasCome limit bytes b q next (text ++ more)
come_on {held = held} {next = next} come answered = record {
  lines = come.lines ++ answered.given.lines;
  commands = come.commands ++ answered.command ∷ [];
  replies = come.replies ++ answered.gives.reply ∷ [];
  given = then_given come.given answered.given.given;
  are = λ rest.
      ap session_of (append_assoc come.lines answered.given.lines rest) ∙ come.are (answered.given.lines ++ rest)
      ∙ ap (in_front come.commands) (answered.given.is rest) ∙ in_front-after come.commands answered.command (session_of rest);
  run = run_more initial come.commands come.replies (state_of held) answered.command answered.gives.reply (state_of next) come.run answered.gives.step;
  called = come.called;
  past = gone.0;
  pays = pays_more initial (nothing_past come.called) come.commands come.replies (state_of held) come.past answered.command answered.gives.reply
      (state_of next) gone.0 come.pays answered.gives.step gone.1;
  is_past = gone.2;
  bytes_are = more_bytes come.replies answered.gives.reply _ _ come.bytes_are answered.gives.bytes_are;
  takes = takes_then come.takes answered.given.takes;
}
  where
    gone : (after : Past) × Goes (state_of held) answered.command answered.gives.reply come.past after × IsPast after next
    gone = answered.gives.goes come.past come.is_past

-- the lines within the limit, where those so far and those ahead are known
abbrev IsRest : ℕ → List ℕ → List (List ℕ) → Reader → List ℕ → Type 0
IsRest limit bytes lines reader rest =
    (lines_within limit bytes ≡ lines ++ lines_within (allowance reader) rest) × (nat_lt limit (length bytes) ≡ nat_lt (allowance reader) (length rest))

all_lines : (limit : ℕ) (bytes : List ℕ) (lines : List (List ℕ)) (b : Reader) (q : Option (List ℕ))
    → GivesLines (reader_at_start limit) (Some bytes) lines b q
    → IsSomeAnd (ahead b q) (IsRest limit bytes lines b)
all_lines limit bytes lines b q given = go (ahead b q) given.told
  where
    zero : allowance (reader_at_start limit) ≡ limit
    zero = omega arith

    go : (o : Option (List ℕ))
        → IsSomeAnd o (λ rest. (lines_within (allowance (reader_at_start limit)) bytes ≡ lines ++ lines_within (allowance b) rest)
        × (nat_lt (allowance (reader_at_start limit)) (length bytes) ≡ nat_lt (allowance b) (length rest))
        × (b.at_end ≡ false → BeginsWithLines bytes lines rest))
        → IsSomeAnd o (IsRest limit bytes lines b)
    go None e = absurd e
    go (Some rest) e = (ap (λ (n : ℕ). lines_within n bytes) (sym zero) ∙ e.0, ap (λ (n : ℕ). nat_lt n (length bytes)) (sym zero) ∙ e.1)

-- where no command comes after those so far, their replies are all
all_replies : {limit : ℕ} {bytes : List ℕ} {a : Reader} {p : Option (List ℕ)} {held : Held} {text : List ℕ}
    (come : HasCome limit bytes a p held text) (session last : Session)
    → session ≡ in_front come.commands last → last.commands ≡ [] → AreReplies session.commands text
all_replies {held = held} come session last all none = record {
  replies = come.replies;
  state = state_of held;
  run = subst (λ (cs : List Command). Run initial cs come.replies (state_of held)) commands come.run;
  called = come.called;
  past = come.past;
  pays = subst (λ (cs : List Command). PaysAlong initial (nothing_past come.called) cs come.replies (state_of held) come.past) commands come.pays;
  bytes = come.bytes_are;
}
  where
    commands : come.commands ≡ session.commands
    commands = sym (ap (λ (s : Session). s.commands) all ∙ ap (λ (cs : List Command). come.commands ++ cs) none ∙ append-nil come.commands)

-- no command is left, and the status says how the lines end
pub come_served : {limit : ℕ} {bytes : List ℕ} {a c : Reader} {p r : Option (List ℕ)} {held : Held} {text : List ℕ} {status : ℕ}
    → HasCome limit bytes a p held text → IsDone session_of a p status c r → IsServed limit bytes status text
come_served {limit = limit} {bytes = bytes} {text = text} {status = status} come done =
    go (ahead done.reader done.between) (all_lines limit bytes (come.lines ++ done.lines) done.reader done.between (then_given come.given done.given))
    done.end
  where
    go : (o : Option (List ℕ)) → IsSomeAnd o (IsRest limit bytes (come.lines ++ done.lines) done.reader)
        → IfSome o (EndsWith session_of done.lines done.reader status)
        → IsServed limit bytes status text
    go None e d = absurd e
    go (Some rest) e d =
        let last : List (List ℕ) = done.lines ++ lines_within (allowance done.reader) rest in
        let all : session_within limit bytes ≡ in_front come.commands (session_of last) =
        ap session_of (e.0 ∙ append_assoc come.lines done.lines _) ∙ come.are last in
        record {
          answered = all_replies come (session_within limit bytes) (session_of last) all d.0;
          ends = d.1 ∙ ap (λ (b : Bool). status_of b (session_of last).ending) (sym e.1)
              ∙ ap (λ (s : Session). status_of (nat_lt limit (length bytes)) s.ending) (sym all);
        }

ahead-asking : (b : Reader) (q : Option (List ℕ)) → b.at_end ≡ false → ahead b q ≡ option_map (λ (l : List ℕ). b.kept ++ l) q
ahead-asking b q e = rw e refl

-- the source failed: the whole commands among the bytes taken are answered, and `quit` has not ended them
pub come_cut : {limit : ℕ} {bytes : List ℕ} {a c : Reader} {p r : Option (List ℕ)} {held : Held} {text : List ℕ}
    → HasCome limit bytes a p held text → IsCut session_of a p c r → IsSomeAnd r (λ rest. IsCutShort limit bytes rest text)
come_cut {limit = limit} {bytes = bytes} {c = c} {r = r} {text = text} come cut =
    go cut.between r (subst (λ (o : Option (List ℕ)). IsSomeAnd o (BeginsWithLines bytes lines)) (ahead-asking cut.reader cut.between cut.asked) begins)
    cut.open_line (takes_then come.takes cut.takes).bytes
  where
    lines : List (List ℕ)
    lines = come.lines ++ cut.lines

    given : GivesLines (reader_at_start limit) (Some bytes) lines cut.reader cut.between
    given = then_given come.given cut.given

    only : (o : Option (List ℕ))
        → IsSomeAnd o (λ rest. (lines_within (allowance (reader_at_start limit)) bytes ≡ lines ++ lines_within (allowance cut.reader) rest)
        × (nat_lt (allowance (reader_at_start limit)) (length bytes) ≡ nat_lt (allowance cut.reader) (length rest))
        × (cut.reader.at_end ≡ false → BeginsWithLines bytes lines rest))
        → IsSomeAnd o (BeginsWithLines bytes lines)
    only None e = absurd e
    only (Some rest) e = e.2 cut.asked

    begins : IsSomeAnd (ahead cut.reader cut.between) (BeginsWithLines bytes lines)
    begins = only (ahead cut.reader cut.between) given.told

    -- what was taken from the source at most, with this rest left
    Few : List ℕ → Type 0
    Few rest = (taken : List ℕ) × (bytes ≡ taken ++ rest) × (length taken + c.room ≤ limit + 0)

    no_more : (rest all_taken : List ℕ) → bytes ≡ all_taken ++ rest → Few rest → length all_taken ≤ limit
    no_more rest all_taken all few =
        let same = sym (length-append all_taken rest) ∙ ap length (sym all ∙ few.1) ∙ length-append few.0 rest in
        let count = few.2 in
        omega (arith, same, count)

    short : (rest taken : List ℕ) → BeginsWithLines bytes lines (cut.reader.kept ++ (taken ++ rest)) → HasNoNewline (cut.reader.kept ++ taken)
        → Few rest → IsCutShort limit bytes rest text
    short rest taken h open_line few =
        let opened : List ℕ = cut.reader.kept ++ taken in
        let all_taken : List ℕ = h.front ++ opened in
        let lines_are : ended_lines all_taken ≡ lines =
        h.lines_are opened ∙ ap (λ (l : List (List ℕ)). lines ++ l) (ended_lines-none opened open_line) ∙ append-nil lines in
        let all : session_of (ended_lines all_taken) ≡ in_front come.commands (session_of cut.lines) = ap session_of lines_are ∙ come.are cut.lines in
        let all_is : bytes ≡ all_taken ++ rest =
        h.cut ∙ ap (λ (l : List ℕ). h.front ++ l) (sym (append_assoc cut.reader.kept taken rest)) ∙ sym (append_assoc h.front opened rest) in
        record {
          taken = all_taken;
          all = all_is;
          few = no_more rest all_taken all_is few;
          answered = all_replies come (session_of (ended_lines all_taken)) (session_of cut.lines) all cut.none;
          goes_on = λ quit. cut.goes_on (sym (ap (λ (s : Session). s.ending) all) ∙ quit);
        }

    go : (o q : Option (List ℕ)) → IsSomeAnd (option_map (λ (l : List ℕ). cut.reader.kept ++ l) o) (BeginsWithLines bytes lines)
        → IfSome o (λ bytes. IsSomeAnd q (λ rest. (taken : List ℕ) × (bytes ≡ taken ++ rest) × HasNoNewline (cut.reader.kept ++ taken)))
        → IsSomeAnd q Few → IsSomeAnd q (λ rest. IsCutShort limit bytes rest text)
    go None q h e few = absurd h
    go (Some x) None h e few = absurd e
    go (Some x) (Some rest) h e few =
        short rest e.0 (subst (λ (l : List ℕ). BeginsWithLines bytes lines (cut.reader.kept ++ l)) e.1 h) e.2 few

-- the sink failed in the reply to the next command: what is written is a prefix of the replies
pub come_prefix : {limit : ℕ} {bytes : List ℕ} {a b : Reader} {p q : Option (List ℕ)} {held next : Held} {text more : List ℕ} (count : ℕ)
    → HasCome limit bytes a p held text → IsAnswered a p held more b q next → IsPrefixOfReplies limit bytes (text ++ take count more)
come_prefix {limit = limit} {bytes = bytes} {b = b} {q = q} {next = next} {text = text} {more = more} count come answered =
    go (ahead b q) (all_lines limit bytes on.lines b q on.given)
  where
    on : HasCome limit bytes b q next (text ++ more)
    on = come_on come answered

    go : (o : Option (List ℕ)) → IsSomeAnd o (IsRest limit bytes on.lines b) → IsPrefixOfReplies limit bytes (text ++ take count more)
    go None e = absurd e
    go (Some rest) e = record {
      commands = on.commands;
      more = (session_of (lines_within (allowance b) rest)).commands;
      first = ap (λ (s : Session). s.commands) (ap session_of e.0 ∙ on.are (lines_within (allowance b) rest));
      unwritten = drop count more;
      answered = record {
        replies = on.replies;
        state = state_of next;
        run = on.run;
        called = on.called;
        past = on.past;
        pays = on.pays;
        bytes = append_assoc text _ _ ∙ ap (λ (t : List ℕ). text ++ t) (take-append-drop count more) ∙ on.bytes_are;
      };
    }

-- the bytes taken in all
pub come_takes : {limit extra : ℕ} {bytes : List ℕ} {a c : Reader} {p r : Option (List ℕ)} {held : Held} {text : List ℕ}
    → HasCome limit bytes a p held text → TakesUpTo extra a p c r → extra ≤ 1 → IsSomeAnd r (λ rest. TakesAtMost limit bytes rest)
come_takes {limit = limit} {extra = extra} {bytes = bytes} {c = c} {r = r} come takes few = go r (takes_then come.takes takes).bytes
  where
    go : (o : Option (List ℕ)) → IsSomeAnd o (λ rest. (taken : List ℕ) × (bytes ≡ taken ++ rest) × (length taken + c.room ≤ limit + extra))
        → IsSomeAnd o (λ rest. TakesAtMost limit bytes rest)
    go None e = absurd e
    go (Some rest) e = let count = e.2 in record { taken = e.0; all = e.1; few = omega arith }
