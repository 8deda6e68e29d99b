-- Streams: what instructions write, in its order. Where a stream has holes, others are to stand.
use Rattle.std.specs.Prelude.{ℕ, ◌+◌, List, [], ◌∷◌, ◌++◌, drop}

pub data Stream : Type 0 where
  Ended : Stream
  -- an element with its name as written and the URI of that name, and the namespace nodes that are copied to it, each as prefix and URI
  Element : (name uri : List ℕ) → (namespaces : List (List ℕ × List ℕ)) → (content rest : Stream) → Stream
  -- what was to stand in an element whose name is no good: the content alone is written, without the attributes that it begins with
  Nameless : (content rest : Stream) → Stream
  -- what stands in an attribute, a comment, a processing instruction or a message makes its text
  Attribute : (name uri : List ℕ) → (content rest : Stream) → Stream
  Namespace : (prefix uri : List ℕ) → (rest : Stream) → Stream
  Text : (text : List ℕ) → (rest : Stream) → Stream
  Comment : (content rest : Stream) → Stream
  Instruction : (target : List ℕ) → (content rest : Stream) → Stream
  Message : (content rest : Stream) → Stream
  Hole : (rest : Stream) → Stream

-- a stream, and another after it
abbrev pub followed : Stream → Stream → Stream
followed Ended others = others
followed (Element name uri namespaces content rest) others = Element name uri namespaces content (followed rest others)
followed (Nameless content rest) others = Nameless content (followed rest others)
followed (Attribute name uri content rest) others = Attribute name uri content (followed rest others)
followed (Namespace prefix uri rest) others = Namespace prefix uri (followed rest others)
followed (Text text rest) others = Text text (followed rest others)
followed (Comment content rest) others = Comment content (followed rest others)
followed (Instruction target content rest) others = Instruction target content (followed rest others)
followed (Message content rest) others = Message content (followed rest others)
followed (Hole rest) others = Hole (followed rest others)

abbrev pub all_followed : List Stream → Stream
all_followed [] = Ended
all_followed (stream ∷ streams) = followed stream (all_followed streams)

-- how many holes a stream has
abbrev pub holes : Stream → ℕ
holes Ended = 0
holes (Element name uri namespaces content rest) = holes content + holes rest
holes (Nameless content rest) = holes content + holes rest
holes (Attribute name uri content rest) = holes content + holes rest
holes (Namespace prefix uri rest) = holes rest
holes (Text text rest) = holes rest
holes (Comment content rest) = holes content + holes rest
holes (Instruction target content rest) = holes content + holes rest
holes (Message content rest) = holes content + holes rest
holes (Hole rest) = 1 + holes rest

abbrev pub first_of : List Stream → Stream
first_of [] = Ended
first_of (part ∷ parts) = part

-- the stream with the parts in place of its holes, in order
abbrev pub filled : Stream → List Stream → Stream
filled Ended parts = Ended
filled (Element name uri namespaces content rest) parts = Element name uri namespaces (filled content parts) (filled rest (drop (holes content) parts))
filled (Nameless content rest) parts = Nameless (filled content parts) (filled rest (drop (holes content) parts))
filled (Attribute name uri content rest) parts = Attribute name uri (filled content parts) (filled rest (drop (holes content) parts))
filled (Namespace prefix uri rest) parts = Namespace prefix uri (filled rest parts)
filled (Text text rest) parts = Text text (filled rest parts)
filled (Comment content rest) parts = Comment (filled content parts) (filled rest (drop (holes content) parts))
filled (Instruction target content rest) parts = Instruction target (filled content parts) (filled rest (drop (holes content) parts))
filled (Message content rest) parts = Message (filled content parts) (filled rest (drop (holes content) parts))
filled (Hole rest) parts = followed (first_of parts) (filled rest (drop 1 parts))

-- the string-value of the root of a fragment: the texts in elements and beside them
abbrev pub texts_of : Stream → List ℕ
texts_of Ended = []
texts_of (Element name uri namespaces content rest) = texts_of content ++ texts_of rest
texts_of (Nameless content rest) = texts_of content ++ texts_of rest
texts_of (Attribute name uri content rest) = texts_of rest
texts_of (Namespace prefix uri rest) = texts_of rest
texts_of (Text text rest) = text ++ texts_of rest
texts_of (Comment content rest) = texts_of rest
texts_of (Instruction target content rest) = texts_of rest
texts_of (Message content rest) = texts_of rest
texts_of (Hole rest) = texts_of rest
