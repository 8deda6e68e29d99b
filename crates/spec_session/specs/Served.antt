-- What a call that serves a session has done, by the status that it answers, and what a demonstration writes.
use Rattle.std.specs.Prelude.{ℕ, ◌≡◌, ◌≢◌, ◌≤◌, ◌+◌, ◌⊎◌, List, ◌++◌, length, nat_lt}
use Rattle.std.specs.Prelude.{Option, IfSome, IsSomeAnd}
use Rattle.std.specs.List.{flat_map}
use Rattle.spec_lines.specs.Lines.{lines_within, ended_lines}
use Rattle.spec_session.specs.declared.kinds.Ending.TheVariants.{Quit}
use Rattle.spec_session.specs.Command.{Command, Session, session_of, status_of}
use Rattle.spec_session.specs.Reply.{Reply, reply_bytes}
use Rattle.spec_lines.specs.Outside.{Appends}
use Rattle.spec_node.specs.declared.node_ref.NodeRef.{NodeRef}
use Rattle.spec_stylesheet.specs.Place.{Place}
use Rattle.spec_cost.specs.Past.{Past, nothing_past}
use Rattle.spec_session.specs.Machine.{State, initial, Run}
use Rattle.spec_session.specs.Costs.{PaysAlong}
use Rattle.spec_session.specs.Generated.{generated, summary}

-- The text is the bytes of the replies of a run of the machine over the commands, and nothing else. What `stats` tells is what changes cost, where at
-- the start nothing is kept, whatever the elements of a stylesheet are called
pub record AreReplies (commands : List Command) (text : List ℕ) : Type 0 where
  pub replies : List Reply
  pub state : State
  pub run : Run initial commands replies state
  pub called : Place → NodeRef
  pub past : Past
  pub pays : PaysAlong initial (nothing_past called) commands replies state past
  pub bytes : text ≡ flat_map reply_bytes replies

-- the session that bytes are, of which `limit` may be taken
abbrev pub session_within : ℕ → List ℕ → Session
session_within limit bytes = session_of (lines_within limit bytes)

-- a call that met no fault: all whole commands are answered, and the status says how they end
pub record IsServed (limit : ℕ) (bytes : List ℕ) (status : ℕ) (text : List ℕ) : Type 0 where
  pub answered : AreReplies (session_within limit bytes).commands text
  pub ends : status ≡ status_of (nat_lt limit (length bytes)) (session_within limit bytes).ending

-- a call that a fault of the source ended: the whole commands among the bytes taken are answered, which are no more than the limit, and `quit`
-- has not ended them, since nothing is read after it
pub record IsCutShort (limit : ℕ) (bytes left : List ℕ) (text : List ℕ) : Type 0 where
  pub taken : List ℕ
  pub all : bytes ≡ taken ++ left
  pub few : length taken ≤ limit
  pub answered : AreReplies (session_of (ended_lines taken)).commands text
  pub goes_on : (session_of (ended_lines taken)).ending ≢ Quit

-- a call that a fault of the sink ended: what is written is a prefix of the replies to the first of the commands
pub record IsPrefixOfReplies (limit : ℕ) (bytes : List ℕ) (text : List ℕ) : Type 0 where
  pub commands : List Command
  pub more : List Command
  pub first : (session_within limit bytes).commands ≡ commands ++ more
  pub unwritten : List ℕ
  pub answered : AreReplies commands (text ++ unwritten)

-- no more is taken than the limit and one byte, which shows whether the source goes on
pub record TakesAtMost (limit : ℕ) (bytes left : List ℕ) : Type 0 where
  pub taken : List ℕ
  pub all : bytes ≡ taken ++ left
  pub few : length taken ≤ limit + 1

-- The headline. What a call that serves a session has done, where source and sink tell their bytes, by its status: 0, 4
-- and 5 without a fault, 1 and 2 at a fault of the source or of the sink, 3 for want of memory at the start.
pub record Serves (limit : ℕ) (before left : Option (List ℕ)) (written now : Option (List ℕ)) (status : ℕ) : Type 0 where
  pub served : (status ≡ 0) ⊎ ((status ≡ 4) ⊎ (status ≡ 5))
      → IfSome before (λ bytes. (text : List ℕ) × IsServed limit bytes status text × Appends written now text)
  pub cut_short : status ≡ 1
      → IfSome before (λ bytes. IsSomeAnd left (λ rest. (text : List ℕ) × IsCutShort limit bytes rest text × Appends written now text))
  pub prefix : status ≡ 2 → IfSome before (λ bytes. (text : List ℕ) × IsPrefixOfReplies limit bytes text × Appends written now text)
  pub nothing : status ≡ 3 → (left ≡ before) × (now ≡ written)
  pub takes : IfSome before (λ bytes. IsSomeAnd left (λ rest. TakesAtMost limit bytes rest))
  pub no_other : status ≤ 5

-- how many bytes a session of the program may have
abbrev pub session_limit : ℕ
session_limit = 281474976710656

-- The text is the summary of the replies of a run of the machine over the commands of the generated session of this size
pub record Demonstrates (n : ℕ) (text : List ℕ) : Type 0 where
  pub replies : List Reply
  pub state : State
  pub run : Run initial (generated n) replies state
  pub is_summary : text ≡ summary n replies
