-- Streams as flat lists.
use Rattle.std.specs.Prelude.{ℕ, List, [], ◌∷◌, ◌++◌}
use Rattle.spec_meaning.specs.Stream as stream
use Rattle.spec_meaning.specs.Stream.{Stream}

-- what an item begins with, or the end of its content
pub data Piece : Type 0 where
  Element : (name uri : List ℕ) → (namespaces : List (List ℕ × List ℕ)) → Piece
  Nameless : Piece
  Attribute : (name uri : List ℕ) → Piece
  Namespace : (prefix uri : List ℕ) → Piece
  Text : (text : List ℕ) → Piece
  Comment : Piece
  Instruction : (target : List ℕ) → Piece
  Message : Piece
  Hole : Piece
  End : Piece

abbrev pub pieces_of : Stream → List Piece
pieces_of stream.Ended = []
pieces_of (stream.Element name uri namespaces content rest) = Element name uri namespaces ∷ pieces_of content ++ End ∷ pieces_of rest
pieces_of (stream.Nameless content rest) = Nameless ∷ pieces_of content ++ End ∷ pieces_of rest
pieces_of (stream.Attribute name uri content rest) = Attribute name uri ∷ pieces_of content ++ End ∷ pieces_of rest
pieces_of (stream.Namespace prefix uri rest) = Namespace prefix uri ∷ pieces_of rest
pieces_of (stream.Text text rest) = Text text ∷ pieces_of rest
pieces_of (stream.Comment content rest) = Comment ∷ pieces_of content ++ End ∷ pieces_of rest
pieces_of (stream.Instruction target content rest) = Instruction target ∷ pieces_of content ++ End ∷ pieces_of rest
pieces_of (stream.Message content rest) = Message ∷ pieces_of content ++ End ∷ pieces_of rest
pieces_of (stream.Hole rest) = Hole ∷ pieces_of rest
