-- Documents as forests: the nodes below a root, or any siblings with what is below them.
use Rattle.std.specs.Prelude.{ℕ, ◌+◌, ◌-◌, ◌==◌, ◌≡◌, ◌≢◌, List, [], ◌∷◌, ◌++◌, map, max, Option, None, Some, if◌then◌else◌}
use Rattle.spec_document.specs.declared.event.Event.{Event}
use Rattle.spec_document.specs.declared.event.Event.TheVariants.{Start, Attribute, Data, Instruction as InstructionEvent, End, Comment as CommentEvent}
use Rattle.spec_document.specs.Pyx.{Line, event_of, line_of}

-- an attribute or a namespace declaration, as written
pub record Written : Type 0 where
  pub name : List ℕ
  pub value : List ℕ

-- what a node is, but for what is below it
pub data Content : Type 0 where
  Element : (name : List ℕ) → (attributes : List Written) → Content
  Text : (text : List ℕ) → Content
  Comment : (text : List ℕ) → Content
  Instruction : (target : List ℕ) → (text : List ℕ) → Content

-- siblings in their order, with what is below them. Each node has a label; where labels are not asked, `Plain`
pub data Forest (L : Type 0) : Type 0 where
  Empty : Forest L
  Node : (label : L) → (content : Content) → (children : Forest L) → (siblings : Forest L) → Forest L

abbrev pub Plain : Type 0
Plain = Forest (Unit {0})

-- the labels forgotten
abbrev pub plain : {L : Type 0} → Forest L → Plain
plain Empty = Empty
plain (Node label content children siblings) = Node tt content (plain children) (plain siblings)

-- data in front of siblings: empty data makes no text, and adjacent data one text, which has the label of the first
abbrev pub joined : {L : Type 0} → L → List ℕ → Forest L → Forest L
joined label [] siblings = siblings
joined label (c ∷ cs) (Node next (Text text) children siblings) = Node label (Text ((c ∷ cs) ++ text)) children siblings
joined label (c ∷ cs) siblings = Node label (Text (c ∷ cs)) Empty siblings

abbrev pub with_text : List ℕ → Plain → Plain
with_text text siblings = joined tt text siblings

abbrev pub attribute_event : Written → Event (List ℕ)
attribute_event a = Attribute a.name a.value

-- the events are those of this forest: balanced, the attributes of an element directly behind its start
pub data IsForestOf : List (Event (List ℕ)) → Plain → Type 0 where
  is_empty : IsForestOf [] Empty
  is_element : {events inner rest : List (Event (List ℕ))} {children siblings : Plain} → (name : List ℕ) → (attributes : List Written)
      → events ≡ Start name ∷ map attribute_event attributes ++ inner ++ End name ∷ rest → IsForestOf inner children → IsForestOf rest siblings
      → IsForestOf events (Node tt (Element name attributes) children siblings)
  is_text : {rest : List (Event (List ℕ))} {siblings forest : Plain} → (characters : List ℕ) → IsForestOf rest siblings
      → forest ≡ with_text characters siblings → IsForestOf (Data characters ∷ rest) forest
  is_comment : {rest : List (Event (List ℕ))} {siblings : Plain} → (characters : List ℕ) → IsForestOf rest siblings
      → IsForestOf (CommentEvent characters ∷ rest) (Node tt (Comment characters) Empty siblings)
  is_instruction : {rest : List (Event (List ℕ))} {siblings : Plain} → (target characters : List ℕ) → IsForestOf rest siblings
      → IsForestOf (InstructionEvent target characters ∷ rest) (Node tt (Instruction target characters) Empty siblings)

-- one more in front, where both are there
abbrev pub in_front : {X : Type 0} → Option X → Option (List X) → Option (List X)
in_front (Some x) (Some xs) = Some (x ∷ xs)
in_front (Some x) None = None
in_front None xs = None

-- the events of lines, where each line that is not empty has one; empty lines are skipped
abbrev pub events_of : List Line → Option (List (Event (List ℕ)))
events_of [] = Some []
events_of ([] ∷ lines) = events_of lines
events_of ((c ∷ cs) ∷ lines) = in_front (event_of (c ∷ cs)) (events_of lines)

-- the events that are written for a forest
abbrev pub written : {L : Type 0} → Forest L → List (Event (List ℕ))
written Empty = []
written (Node label (Element name attributes) children siblings) =
    Start name ∷ map attribute_event attributes ++ written children ++ End name ∷ written siblings
written (Node label (Text text) children siblings) = Data text ∷ written siblings
written (Node label (Comment text) children siblings) = CommentEvent text ∷ written siblings
written (Node label (Instruction target text) children siblings) = InstructionEvent target text ∷ written siblings

-- the lines that are written for a forest
abbrev pub lines_of : {L : Type 0} → Forest L → List Line
lines_of forest = map line_of (written forest)

-- only elements have something below them, no text is empty, and no two texts stand side by side: as a forest that events are
abbrev pub IsNoText : {L : Type 0} → Forest L → Type 0
IsNoText Empty = Unit {0}
IsNoText (Node label (Text text) children siblings) = ⊥
IsNoText (Node label (Element name attributes) children siblings) = Unit {0}
IsNoText (Node label (Comment text) children siblings) = Unit {0}
IsNoText (Node label (Instruction target text) children siblings) = Unit {0}

abbrev pub IsNormal : {L : Type 0} → Forest L → Type 0
IsNormal Empty = Unit {0}
IsNormal (Node label (Element name attributes) children siblings) = IsNormal children × IsNormal siblings
IsNormal (Node label (Text text) children siblings) = (children ≡ Empty) × (text ≢ []) × IsNoText siblings × IsNormal siblings
IsNormal (Node label (Comment text) children siblings) = (children ≡ Empty) × IsNormal siblings
IsNormal (Node label (Instruction target text) children siblings) = (children ≡ Empty) × IsNormal siblings

-- siblings, and others after them
abbrev pub followed : {L : Type 0} → Forest L → Forest L → Forest L
followed Empty others = others
followed (Node label content children siblings) others = Node label content children (followed siblings others)

-- one node with what is below it
pub record Tree (L : Type 0) : Type 0 where
  pub label : L
  pub content : Content
  pub children : Forest L

-- the tree at this position among siblings, from 1
abbrev pub tree_at : {L : Type 0} → Forest L → ℕ → Option (Tree L)
tree_at Empty position = None
tree_at (Node label content children siblings) position =
    if position == 1 then Some (record { label = label; content = content; children = children }) else tree_at siblings (position - 1)

-- how many levels the forest has
abbrev pub height : {L : Type 0} → Forest L → ℕ
height Empty = 0
height (Node label content children siblings) = max (1 + height children) (height siblings)

-- how many nodes the forest has
abbrev pub size : {L : Type 0} → Forest L → ℕ
size Empty = 0
size (Node label content children siblings) = 1 + size children + size siblings

-- the labels in document order
abbrev pub labels : {L : Type 0} → Forest L → List L
labels Empty = []
labels (Node label content children siblings) = label ∷ labels children ++ labels siblings

-- the same forest, its nodes numbered from n on in document order
abbrev pub numbered : {L : Type 0} → ℕ → Forest L → Forest ℕ
numbered n Empty = Empty
numbered n (Node label content children siblings) = Node n content (numbered (n + 1) children) (numbered (n + 1 + size children) siblings)

-- the text of the forest: its texts in document order, joined
abbrev pub text_of : Content → List ℕ
text_of (Element name attributes) = []
text_of (Text text) = text
text_of (Comment text) = []
text_of (Instruction target text) = []

abbrev pub texts_in : {L : Type 0} → Forest L → List ℕ
texts_in Empty = []
texts_in (Node label content children siblings) = text_of content ++ texts_in children ++ texts_in siblings

-- a document: its root, and what is below it
pub record Document (L : Type 0) : Type 0 where
  pub root : L
  pub nodes : Forest L
