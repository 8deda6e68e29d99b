-- What stands before a hole of a stream.
use Rattle.std.specs.Prelude.{ℕ, zero, suc, ◌-◌, nat_lt, if◌then◌else◌}
use Rattle.spec_meaning.specs.Stream.{Stream, Ended, Element, Nameless, Attribute, Namespace, Text, Comment, Instruction, Message, Hole, holes}
use Rattle.spec_run.specs.Plan.{aside_of}

abbrev pub first_hole : ℕ → Stream → Stream
first_hole zero rest = Hole Ended
first_hole (suc j) rest = Hole rest

-- what stands before the hole of this number, counted from 0, and the hole. Of what is around it messages alone count, as where a refusal
-- cuts it short
abbrev pub cut : ℕ → Stream → Stream
cut j Ended = Ended
cut j (Element name uri namespaces content rest) = if nat_lt j (holes content) then aside_of (cut j content) else Element name uri namespaces content (cut (j - holes content) rest)
cut j (Nameless content rest) = if nat_lt j (holes content) then aside_of (cut j content) else Nameless content (cut (j - holes content) rest)
cut j (Attribute name uri content rest) = if nat_lt j (holes content) then aside_of (cut j content) else Attribute name uri content (cut (j - holes content) rest)
cut j (Namespace prefix uri rest) = Namespace prefix uri (cut j rest)
cut j (Text text rest) = Text text (cut j rest)
cut j (Comment content rest) = if nat_lt j (holes content) then aside_of (cut j content) else Comment content (cut (j - holes content) rest)
cut j (Instruction target content rest) = if nat_lt j (holes content) then aside_of (cut j content) else Instruction target content (cut (j - holes content) rest)
cut j (Message content rest) = if nat_lt j (holes content) then aside_of (cut j content) else Message content (cut (j - holes content) rest)
cut j (Hole rest) = first_hole j (cut (j - 1) rest)
