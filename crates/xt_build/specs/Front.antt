-- What stands at the front of events: the attributes of a start before them, the data that makes one text, and the pieces
-- that the first event stands for.
use Rattle.std.specs.Prelude.{ℕ, ◌+◌, List, [], ◌∷◌, ◌++◌, map}
use Rattle.spec_document.specs.declared.event.Event.{Event}
use Rattle.spec_document.specs.declared.event.Event.TheVariants.{Start, Attribute, Data, Instruction as InstructionEvent, End, Comment as CommentEvent}
use Rattle.spec_document.specs.Forest.{Written, Element, Text, Comment, Instruction}
use Rattle.spec_document.specs.Balance.{alone}
use Rattle.xt_build.specs.Piece.{Piece, Begins, Ends}

-- the attributes, each with its line
abbrev pub attributes_first : List (ℕ × Event (List ℕ)) → List (ℕ × Written)
attributes_first [] = []
attributes_first ((line, Attribute name value) ∷ events) = (line, record { name = name; value = value }) ∷ attributes_first events
attributes_first ((line, Start name) ∷ events) = []
attributes_first ((line, Data text) ∷ events) = []
attributes_first ((line, InstructionEvent target text) ∷ events) = []
attributes_first ((line, End name) ∷ events) = []
attributes_first ((line, CommentEvent text) ∷ events) = []

-- how many events are data
abbrev pub data_first : List (ℕ × Event (List ℕ)) → ℕ
data_first [] = 0
data_first ((line, Data text) ∷ events) = 1 + data_first events
data_first ((line, Attribute name value) ∷ events) = 0
data_first ((line, Start name) ∷ events) = 0
data_first ((line, InstructionEvent target text) ∷ events) = 0
data_first ((line, End name) ∷ events) = 0
data_first ((line, CommentEvent text) ∷ events) = 0

-- a text, and the line of the first data in it that is not empty
abbrev pub with_data : ℕ → List ℕ → ℕ × List ℕ → ℕ × List ℕ
with_data line [] behind = behind
with_data line (c ∷ cs) behind = (line, (c ∷ cs) ++ behind.1)

abbrev pub text_first : List (ℕ × Event (List ℕ)) → ℕ × List ℕ
text_first [] = (0, [])
text_first ((line, Data text) ∷ events) = with_data line text (text_first events)
text_first ((line, Attribute name value) ∷ events) = (0, [])
text_first ((line, Start name) ∷ events) = (0, [])
text_first ((line, InstructionEvent target text) ∷ events) = (0, [])
text_first ((line, End name) ∷ events) = (0, [])
text_first ((line, CommentEvent text) ∷ events) = (0, [])

-- no piece where the text is empty
abbrev pub text_pieces : ℕ × List ℕ → List Piece
text_pieces (line, []) = []
text_pieces (line, c ∷ cs) = Begins (alone line) (Text (c ∷ cs)) ∷ []

abbrev pub pieces_first : List (ℕ × Event (List ℕ)) → List Piece
pieces_first [] = []
pieces_first ((line, Start name) ∷ events) =
    Begins (record { first = line; attributes = map (λ a. a.0) (attributes_first events) })
    (Element name (map (λ a. a.1) (attributes_first events))) ∷ []
pieces_first ((line, Attribute name value) ∷ events) = []
pieces_first ((line, Data text) ∷ events) = text_pieces (text_first ((line, Data text) ∷ events))
pieces_first ((line, InstructionEvent target text) ∷ events) = Begins (alone line) (Instruction target text) ∷ []
pieces_first ((line, End name) ∷ events) = Ends ∷ []
pieces_first ((line, CommentEvent text) ∷ events) = Begins (alone line) (Comment text) ∷ []

-- how many events those pieces are of. An attribute belongs to the piece of its start
abbrev pub events_first : List (ℕ × Event (List ℕ)) → ℕ
events_first [] = 0
events_first ((line, Data text) ∷ events) = data_first ((line, Data text) ∷ events)
events_first ((line, Start name) ∷ events) = 1
events_first ((line, Attribute name value) ∷ events) = 1
events_first ((line, InstructionEvent target text) ∷ events) = 1
events_first ((line, End name) ∷ events) = 1
events_first ((line, CommentEvent text) ∷ events) = 1
