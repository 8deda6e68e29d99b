-- How many parts there are, and what is in a stream that is to be left out.
use Rattle.std.specs.Prelude.{ℕ, zero, suc, Bool, true, false, ◌||◌, List, [], ◌∷◌, drop}
use Rattle.spec_meaning.specs.Stream.{Stream, Ended, Element, Nameless, Attribute, Namespace, Text, Comment, Instruction, Message, Hole, first_of}

-- so many of the parts: nothing for those that are not there
abbrev pub as_many : ℕ → List Stream → List Stream
as_many zero parts = []
as_many (suc n) parts = first_of parts ∷ as_many n (drop 1 parts)

-- anywhere
abbrev pub has_message : Stream → Bool
has_message Ended = false
has_message (Element name uri namespaces content rest) = has_message content || has_message rest
has_message (Nameless content rest) = has_message content || has_message rest
has_message (Attribute name uri content rest) = has_message content || has_message rest
has_message (Namespace prefix uri rest) = has_message rest
has_message (Text text rest) = has_message rest
has_message (Comment content rest) = has_message content || has_message rest
has_message (Instruction target content rest) = has_message content || has_message rest
has_message (Message content rest) = true
has_message (Hole rest) = has_message rest

-- an attribute or a namespace node that is in nothing else, or in an element without a good name that is so
abbrev pub has_attribute : Stream → Bool
has_attribute Ended = false
has_attribute (Element name uri namespaces content rest) = has_attribute rest
has_attribute (Nameless content rest) = has_attribute content || has_attribute rest
has_attribute (Attribute name uri content rest) = true
has_attribute (Namespace prefix uri rest) = true
has_attribute (Text text rest) = has_attribute rest
has_attribute (Comment content rest) = has_attribute rest
has_attribute (Instruction target content rest) = has_attribute rest
has_attribute (Message content rest) = has_attribute rest
has_attribute (Hole rest) = has_attribute rest
