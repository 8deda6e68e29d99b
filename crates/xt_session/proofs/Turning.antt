-- One turn of a session, by the reply that was written.
use Rattle.std.proofs.Common.{◌≡◌, ℕ, List, Option, refl, inr}
use Rattle.std.specs.Prelude.{codes}
use Rattle.std.specs.Fmt.{digits}
use lib.Utf8.{encode}
use Rattle.spec_lines.specs.Lines.{Reader}
use Rattle.spec_session.specs.Command.{Command}
use Rattle.spec_session.specs.Reply.{No, reply_bytes}
use Rattle.xt_held.specs.declared.held.Held.{Held}
use Rattle.xt_session.specs.declared.session.Turn.{Turn}
use Rattle.xt_session.specs.declared.session.Turn.TheVariants.{Answered, Stopped, ReadFailed, WriteFailed}
use Rattle.xt_session.specs.Turn.{IsAnswered, GivesReply, Stays, Turns, Writes}

-- the bytes of the reply for want of memory
no_memory_bytes : codes "no 1\n" ≡ reply_bytes (No 1)
unfolding encode digits
no_memory_bytes = refl

-- want of memory is always a step, and changes nothing
pub gives_no_memory : {old new : Held} (command : Command) → Stays old new → GivesReply old command (codes "no 1\n") new
gives_no_memory command stays = record {
  reply = No 1;
  step = inr (refl, stays.state);
  goes = λ before past. (before, inr (refl, refl), stays.past before past);
  bytes_are = no_memory_bytes;
}

-- a turn in which a command was answered, by what came of the writing
pub turned : {old new : Reader} {before left : Option (List ℕ)} {held next : Held} {bytes : List ℕ} (written now : Option (List ℕ)) (turn : Turn)
    → IsAnswered old before held bytes new left next → Writes bytes written turn now → Turns old before held written turn new left next now
turned {bytes = bytes} written now Answered answered writes = (bytes, answered, writes)
turned {bytes = bytes} written now (Stopped status) answered writes = absurd writes
turned {bytes = bytes} written now ReadFailed answered writes = absurd writes
turned {bytes = bytes} written now WriteFailed answered writes = (bytes, answered, writes)
