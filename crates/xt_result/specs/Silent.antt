-- Streams in which there is no message.
use Rattle.std.specs.Prelude.{ℕ, List, [], ◌∷◌, ◌++◌}
use Rattle.spec_meaning.specs.Stream.{Stream}
use Rattle.spec_result.specs.Recovery.{messages_of}

-- the messages of all of these
abbrev pub all_messages : List Stream → List (List ℕ)
all_messages [] = []
all_messages (s ∷ ss) = messages_of s ++ all_messages ss
