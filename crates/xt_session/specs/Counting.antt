-- Replies that are counted.
use Rattle.std.specs.Prelude.{ℕ, ◌≡◌, ◌+◌, ◌*◌, ◌≤◌, Bool, List, length, cond, codes}
use Rattle.std.specs.List.{flat_map}
use Rattle.spec_session.specs.Reply.{Reply, reply_bytes}
use Rattle.spec_session.specs.Command.{Command}
use Rattle.spec_session.specs.Machine.{State, initial, Run, Step}
use Rattle.spec_session.specs.Generated.{begins_with, generated, replies_with}
use Rattle.xt_session.specs.declared.counts.Counts.{Counts}

-- one more where the test holds
abbrev pub one_more : Bool → ℕ → ℕ
one_more test count = count + cond test 1 0

-- a reply of these bytes is counted
pub record Counted (old : Counts) (reply : List ℕ) (new : Counts) : Type 0 where
  pub accepted : new.accepted ≡ one_more (begins_with (codes "ok ") reply) old.accepted
  pub refused : new.refused ≡ one_more (begins_with (codes "no ") reply) old.refused
  pub bytes : new.bytes ≡ old.bytes + length reply
  pub all : new.all ≡ old.all + 1

-- the counts stay small: each reply is in memory
pub record IsSmall (counts : Counts) : Type 0 where
  pub accepted : counts.accepted ≤ counts.all
  pub refused : counts.refused ≤ counts.all
  pub bytes : counts.bytes ≤ counts.all * 18446744073709551616

-- the machine may give a reply to the command, which is counted
pub record Turns (old : State) (before : Counts) (command : Command) (new : State) (now : Counts) : Type 0 where
  pub reply : Reply
  pub step : Step old command reply new
  pub counted : Counted before (reply_bytes reply) now

-- the commands of the session of this size are answered, and these are the counts of the replies
pub record HasAnswered (size : ℕ) (counts : Counts) : Type 0 where
  pub replies : List Reply
  pub state : State
  pub run : Run initial (generated size) replies state
  pub accepted : counts.accepted ≡ replies_with (codes "ok ") replies
  pub refused : counts.refused ≡ replies_with (codes "no ") replies
  pub bytes : counts.bytes ≡ length (flat_map reply_bytes replies)
