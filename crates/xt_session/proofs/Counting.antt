-- How the replies of a demonstration are counted, and that these are the counts of a run of the machine.
use Rattle.std.proofs.Common.{◌≡◌, ℕ, zero, suc, ◌+◌, ◌*◌, ◌≤◌, List, [], ◌∷◌, ◌++◌, length, refl, sym, ◌∙◌, ap, subst, arith, append_assoc, append-nil, length-append}
use Rattle.std.specs.Prelude.{cond, codes, decimal}
use Rattle.std.specs.List.{flat_map}
use Rattle.std.proofs.lemmas.List.Concat.{flat_map-append}
use Rattle.std.proofs.lemmas.List.Sums.{sum_by-append}
use Rattle.spec_session.specs.Command.{Command}
use Rattle.spec_session.specs.Reply.{Reply, reply_bytes, with_newline}
use Rattle.spec_session.specs.Machine.{State, initial, Run}
use Rattle.spec_session.specs.Served.{Demonstrates}
use Rattle.spec_session.specs.Generated.{Place, behind, begins_with, changes, first_place, generated, replies_with, show_command}
use Rattle.xt_held.specs.declared.held.Held.{Held}
use Rattle.xt_session.specs.declared.counts.Counts.{Counts}
use Rattle.xt_session.specs.Counting.{Counted, HasAnswered, Turns, one_more}
use Rattle.xt_session.specs.State.{state_of}
use Rattle.xt_session.specs.Turn.{GivesReply}

-- how far the session of a size has come: the replies so far are counted, and these commands are left
pub record HasCounted (size : ℕ) (left : List Command) (state : State) (counts : Counts) : Type 0 where
  pub replies : List Reply
  pub run : (more : List Reply) (end : State) → Run state left more end → Run initial (generated size) (replies ++ more) end
  pub accepted : counts.accepted ≡ replies_with (codes "ok ") replies
  pub refused : counts.refused ≡ replies_with (codes "no ") replies
  pub bytes : counts.bytes ≡ length (flat_map reply_bytes replies)
  pub few : counts.all + length left ≤ 10003

-- the text that tells these counts is the summary
pub demonstrates : (size : ℕ) (counts : Counts) (text : List ℕ) → HasAnswered size counts
    → text ≡ with_newline (codes "demo " ++ decimal size ++ codes " ok " ++ decimal counts.accepted ++ codes " no " ++ decimal counts.refused
    ++ codes " bytes " ++ decimal counts.bytes) → Demonstrates size text
demonstrates size counts text h is = record {
  replies = h.replies;
  state = h.state;
  run = h.run;
  is_summary = is ∙ (λ i. with_newline (codes "demo " ++ decimal size ++ codes " ok " ++ decimal (h.accepted i)
      ++ codes " no " ++ decimal (h.refused i) ++ codes " bytes " ++ decimal (h.bytes i)));
}

-- ---- The number of commands

length_changes : (count : ℕ) (place : Place) → length (changes count place) ≡ count
length_changes zero place = refl
length_changes (suc count) place = ap suc (length_changes count (behind place))

few_commands : (size : ℕ) → size ≤ 1000 → length (generated size) ≤ 10003
few_commands size most =
    let all : length (changes (10 * size) (first_place size) ++ show_command ∷ []) ≡ 10 * size + 1 =
    length-append (changes (10 * size) (first_place size)) (show_command ∷ []) ∙ ap (λ (n : ℕ). n + 1) (length_changes (10 * size) (first_place size)) in
    omega (arith, all)

-- ---- One reply more

with_more : (word : List ℕ) (replies : List Reply) (reply : Reply)
    → one_more (begins_with word (reply_bytes reply)) (replies_with word replies) ≡ replies_with word (replies ++ reply ∷ [])
with_more word replies reply =
    let test = begins_with word (reply_bytes reply) in
    let one : cond test 1 0 ≡ 0 + cond test 1 0 = omega arith in
    ap (λ (n : ℕ). replies_with word replies + n) one ∙ sym (sum_by-append (λ r. cond (begins_with word (reply_bytes r)) 1 0) replies (reply ∷ []))

bytes_with_more : (replies : List Reply) (reply : Reply)
    → length (flat_map reply_bytes replies) + length (reply_bytes reply) ≡ length (flat_map reply_bytes (replies ++ reply ∷ []))
bytes_with_more replies reply =
    sym (ap length (flat_map-append reply_bytes replies (reply ∷ []))
    ∙ length-append (flat_map reply_bytes replies) (reply_bytes reply ++ [])
    ∙ ap (λ (bytes : List ℕ). length (flat_map reply_bytes replies) + length bytes) (append-nil (reply_bytes reply)))

-- a reply of these bytes is counted as the machine's
pub turned : {old new : Held} {before now : Counts} {command : Command} {bytes : List ℕ} → GivesReply old command bytes new → Counted before bytes now
    → Turns (state_of old) before command (state_of new) now
turned {before = before} {now = now} gives counted = record {
  reply = gives.reply;
  step = gives.step;
  counted = subst (λ (bytes : List ℕ). Counted before bytes now) gives.bytes_are counted;
}

pub counted_at_start : (size : ℕ) (state : State) (counts : Counts) → size ≤ 1000 → state ≡ initial
    → counts ≡ record { all = 0; accepted = 0; refused = 0; bytes = 0 } → HasCounted size (generated size) state counts
counted_at_start size state counts most at_start none = record {
  replies = [];
  run = λ more end run. subst (λ (s : State). Run s (generated size) more end) at_start run;
  accepted = ap (λ (c : Counts). c.accepted) none;
  refused = ap (λ (c : Counts). c.refused) none;
  bytes = ap (λ (c : Counts). c.bytes) none;
  few = let zero_all : counts.all ≡ 0 = ap (λ (c : Counts). c.all) none in let few = few_commands size most in omega (arith, zero_all, few);
}

pub counted_on : {size : ℕ} {left rest : List Command} {state next : State} {before now : Counts} {command : Command} → HasCounted size left state before
    → left ≡ command ∷ rest → Turns state before command next now → HasCounted size rest next now
counted_on {size = size} {left = left} {rest = rest} {state = state} {next = next} {before = before} {now = now} {command = command} so_far first turns = record {
  replies = so_far.replies ++ turns.reply ∷ [];
  run = λ more end run.
      subst (λ (replies : List Reply). Run initial (generated size) replies end) (sym (append_assoc so_far.replies (turns.reply ∷ []) more))
      (so_far.run (turns.reply ∷ more) end (subst (λ (commands : List Command). Run state commands (turns.reply ∷ more) end) (sym first) (next, turns.step, run)));
  accepted = turns.counted.accepted ∙ ap (one_more (begins_with (codes "ok ") (reply_bytes turns.reply))) so_far.accepted
      ∙ with_more (codes "ok ") so_far.replies turns.reply;
  refused = turns.counted.refused ∙ ap (one_more (begins_with (codes "no ") (reply_bytes turns.reply))) so_far.refused
      ∙ with_more (codes "no ") so_far.replies turns.reply;
  bytes = turns.counted.bytes ∙ ap (λ (n : ℕ). n + length (reply_bytes turns.reply)) so_far.bytes ∙ bytes_with_more so_far.replies turns.reply;
  few = let one : length left ≡ suc (length rest) = ap length first in
      let all = turns.counted.all in let few = so_far.few in omega (arith, one, all, few);
}

-- no command is left
pub all_counted : {size : ℕ} {left : List Command} {state : State} {counts : Counts} → HasCounted size left state counts → left ≡ [] → HasAnswered size counts
all_counted {size = size} {left = left} {state = state} so_far none = record {
  replies = so_far.replies;
  state = state;
  run = subst (λ (replies : List Reply). Run initial (generated size) replies state) (append-nil so_far.replies)
      (so_far.run [] state (subst (λ (commands : List Command). Run state commands [] state) (sym none) refl));
  accepted = so_far.accepted;
  refused = so_far.refused;
  bytes = so_far.bytes;
}
