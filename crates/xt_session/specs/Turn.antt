-- One turn of a session: a command is taken and answered.
use Rattle.std.specs.Prelude.{ℕ, ◌≡◌, List, Option, take}
use Rattle.spec_lines.specs.Lines.{Reader}
use Rattle.spec_lines.specs.Outside.{HasRisen, Appends}
use Rattle.spec_cost.specs.Past.{Past}
use Rattle.spec_session.specs.Command.{Command, session_of}
use Rattle.spec_session.specs.Request.{Request}
use Rattle.spec_session.specs.Machine.{State, Answer, Gives, Step, answer_to}
use Rattle.spec_session.specs.Costs.{Goes, GoesBy}
use Rattle.spec_session.specs.Reply.{Reply, reply_bytes, reply_text}
use Rattle.xt_held.specs.PastView.{IsPast}
use Rattle.xt_held.specs.declared.held.Held.{Held}
use Rattle.xt_session.specs.declared.session.Turn.{Turn}
use Rattle.xt_session.specs.declared.session.Turn.TheVariants.{Answered, Stopped, ReadFailed, WriteFailed}
use Rattle.xt_session.specs.Progress.{GivesCommand, IsDone, IsCut}
use Rattle.xt_session.specs.State.{state_of}

-- whatever past what was held was, what is held now is one that this makes of it
abbrev pub BecomesBy : (Past → Past → Type 0) → Held → Held → Type 0
BecomesBy Makes old new = (before : Past) → IsPast before old → (after : Past) × Makes before after × IsPast after new

-- the state is as before, and whatever past what was held was, what is held now is it too
pub record Stays (old new : Held) : Type 0 where
  pub state : state_of new ≡ state_of old
  pub past : (before : Past) → IsPast before old → IsPast before new

-- from old, the machine gives a reply of this text at this answer, and goes on to new
pub record GivesText (old : State) (answer : Answer) (text : List ℕ) (new : State) : Type 0 where
  pub reply : Reply
  pub gives : Gives old answer reply new
  pub text_is : text ≡ reply_text reply

-- from what was held, the machine gives a reply of this text to the request, and goes on to what is held now; and that becomes of the past what the
-- request, with this very reply, makes of it
pub record RepliesTo (old : Held) (request : Request) (text : List ℕ) (new : Held) : Type 0 where
  pub reply : Reply
  pub gives : Gives (state_of old) (answer_to (state_of old) request) reply (state_of new)
  pub goes : BecomesBy (GoesBy (state_of old) request (answer_to (state_of old) request) reply) old new
  pub text_is : text ≡ reply_text reply

-- from what was held, the machine may give a reply of these bytes to the command, and goes on to what is held now; and that becomes of the past what the
-- command, with this very reply, makes of it
pub record GivesReply (old : Held) (command : Command) (bytes : List ℕ) (new : Held) : Type 0 where
  pub reply : Reply
  pub step : Step (state_of old) command reply (state_of new)
  pub goes : BecomesBy (Goes (state_of old) command reply) old new
  pub bytes_are : bytes ≡ reply_bytes reply

-- a command was taken, and the machine may give a reply of these bytes to it
pub record IsAnswered (old : Reader) (before : Option (List ℕ)) (held : Held) (bytes : List ℕ) (new : Reader) (left : Option (List ℕ))
    (next : Held) : Type 0 where
  pub command : Command
  pub given : GivesCommand session_of old before command new left
  pub gives : GivesReply held command bytes next

-- the bytes of a reply were written, or a front of them
abbrev pub Writes : List ℕ → Option (List ℕ) → Turn → Option (List ℕ) → Type 0
Writes bytes written Answered now = Appends written now bytes
Writes bytes written (Stopped status) now = ⊥
Writes bytes written ReadFailed now = ⊥
Writes bytes written WriteFailed now = (count : ℕ) × Appends written now (take count bytes)

-- what one turn has done, with source, what is held, and sink
abbrev pub Turns : Reader → Option (List ℕ) → Held → Option (List ℕ) → Turn → Reader → Option (List ℕ) → Held → Option (List ℕ)
    → Type 0
Turns old before held written Answered new left next now =
    (bytes : List ℕ) × IsAnswered old before held bytes new left next × Writes bytes written Answered now
Turns old before held written (Stopped status) new left next now = IsDone session_of old before status new left × (now ≡ written)
Turns old before held written ReadFailed new left next now = IsCut session_of old before new left × (now ≡ written)
Turns old before held written WriteFailed new left next now =
    (bytes : List ℕ) × IsAnswered old before held bytes new left next × Writes bytes written WriteFailed now

-- a fault of the source, of the sink, has its cause, and at any other answer there was none
abbrev pub HasInputCause : ℕ → ℕ → Turn → Type 0
HasInputCause before now Answered = now ≡ before
HasInputCause before now (Stopped status) = now ≡ before
HasInputCause before now ReadFailed = HasRisen before now
HasInputCause before now WriteFailed = now ≡ before

abbrev pub HasOutputCause : ℕ → ℕ → Turn → Type 0
HasOutputCause before now Answered = now ≡ before
HasOutputCause before now (Stopped status) = now ≡ before
HasOutputCause before now ReadFailed = now ≡ before
HasOutputCause before now WriteFailed = HasRisen before now
