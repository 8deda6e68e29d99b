-- What is true of two documents of which a change leads from the first to the second.
--     Leads          all but the children or the attributes of one node is the same, and of the children that stay each has its subtree
--     AreLooseBelow  which children of a node are no elements
--     IsFreeIn       where of the children that stay only some may be others: all but these are elements
--     seen_change    the same change as it is seen, where texts of white space are stripped
use Rattle.std.specs.Prelude.{Option, None, Some, ℕ, ◌≡◌, Bool, true, false, List, [], ◌∷◌, IsTrue}
use Rattle.std.specs.List.{list_all, filter}
use Rattle.spec_document.specs.Forest.{Written, Content, Element, Text, Comment, Instruction, Forest, Empty, Node}
use Rattle.spec_document.specs.Forest.{Document, labels}
use Rattle.spec_document.specs.Scope.{Scope}
use Rattle.spec_document.specs.Place.{Found, node_at, scope_at}
use Rattle.spec_document.specs.Declaration.{is_declaration}
use Rattle.spec_structure.specs.Inside.{value_of, space_name}
use Rattle.spec_edit.specs.Edit.{Edit}
use Rattle.spec_edit.specs.Judged.{path_of}
use Rattle.spec_change.specs.Change.{Change, changes_attributes, is_among, without, sibling_labels}

-- another text in a text, a comment or a processing instruction
pub data Rewrites : Content → Content → Type 0 where
  text_rewritten : {old new : List ℕ} → Rewrites (Text old) (Text new)
  comment_rewritten : {old new : List ℕ} → Rewrites (Comment old) (Comment new)
  instruction_rewritten : {target old new : List ℕ} → Rewrites (Instruction target old) (Instruction target new)

-- siblings before and after: those that stay, in their order, each with what is below it, and between them others that go or come with all that is
-- below them. Some that stay may have another text
pub data Parts (gone brought : List ℕ) : (old new : Forest ℕ) → Type 0 where
  at_end : Parts gone brought Empty Empty
  stays : {label : ℕ} {content : Content} {children old new : Forest ℕ} → Parts gone brought old new
      → Parts gone brought (Node label content children old) (Node label content children new)
  rewritten : {label : ℕ} {content other : Content} {children old new : Forest ℕ} → Rewrites content other → Parts gone brought old new
      → Parts gone brought (Node label content children old) (Node label other children new)
  goes : {label : ℕ} {content : Content} {children old new : Forest ℕ} → IsTrue (list_all (is_among gone) (label ∷ labels children))
      → Parts gone brought old new → Parts gone brought (Node label content children old) new
  comes : {label : ℕ} {content : Content} {children old new : Forest ℕ} → IsTrue (list_all (is_among brought) (label ∷ labels children))
      → Parts gone brought old new → Parts gone brought old (Node label content children new)

-- each of these siblings is told among the numbers
abbrev pub AreTold : List ℕ → Forest ℕ → Type 0
AreTold numbers siblings = IsTrue (list_all (is_among numbers) (sibling_labels siblings))

-- the node of this number has these children before and after
pub record ChildrenChange (change : Change) (number : ℕ) (old new : Forest ℕ) : Type 0 where
  pub of_children : change.of_attributes ≡ false
  pub node : change.node ≡ number
  pub before : AreTold change.before old
  pub after : AreTold change.after new
  pub parts : Parts change.gone change.brought old new

-- the element of this number has these attributes and declarations before and after, its declarations being the same, and these children
pub record AttributesChange (change : Change) (number : ℕ) (old new : List Written) (children : Forest ℕ) : Type 0 where
  pub of_attributes : change.of_attributes ≡ true
  pub node : change.node ≡ number
  pub before : AreTold change.before children
  pub declarations : filter is_declaration new ≡ filter is_declaration old

-- siblings of which one is the node of the change, or has it below it. The numbers are those of the nodes above it, from one of these siblings on
pub data ChangesIn (change : Change) : (above : List ℕ) → (old new : Forest ℕ) → Type 0 where
  children : {label : ℕ} {content : Content} {old new siblings : Forest ℕ} → ChildrenChange change label old new
      → ChangesIn change [] (Node label content old siblings) (Node label content new siblings)
  attributes : {label : ℕ} {name : List ℕ} {old new : List Written} {below siblings : Forest ℕ}
      → AttributesChange change label old new below
      → ChangesIn change [] (Node label (Element name old) below siblings) (Node label (Element name new) below siblings)
  inside : {label : ℕ} {content : Content} {above : List ℕ} {old new siblings : Forest ℕ} → ChangesIn change above old new
      → ChangesIn change (label ∷ above) (Node label content old siblings) (Node label content new siblings)
  further : {label : ℕ} {content : Content} {above : List ℕ} {below old new : Forest ℕ} → ChangesIn change above old new
      → ChangesIn change above (Node label content below old) (Node label content below new)

pub data Leads (change : Change) (old new : Document ℕ) : Type 0 where
  at_root : new.root ≡ old.root → change.above ≡ [] → ChildrenChange change old.root old.nodes new.nodes → Leads change old new
  below_root : {above : List ℕ} → new.root ≡ old.root → change.above ≡ old.root ∷ above
      → ChangesIn change above old.nodes new.nodes → Leads change old new

-- ---- Children that may be others

-- an element stays as it is
abbrev pub is_element : Content → Bool
is_element (Element name written) = true
is_element (Text text) = false
is_element (Comment text) = false
is_element (Instruction target text) = false

-- each of these siblings that is no element is one of those
abbrev pub AreLoose : (loose : List ℕ) → Forest ℕ → Type 0
AreLoose loose Empty = Unit {0}
AreLoose loose (Node label content below siblings) = (is_element content ≡ false → is_among loose label ≡ true) × AreLoose loose siblings

-- so of the children of the node of the change
abbrev pub AreFree : {change : Change} {above : List ℕ} {old new : Forest ℕ} → (loose : List ℕ) → ChangesIn change above old new → Type 0
AreFree loose (children {new = new} c) = AreLoose loose new
AreFree loose (attributes c) = Unit {0}
AreFree loose (inside c) = AreFree loose c
AreFree loose (further c) = AreFree loose c

abbrev pub IsFreeIn : {change : Change} {old new : Document ℕ} → (loose : List ℕ) → Leads change old new → Type 0
IsFreeIn {new = new} loose (at_root same above c) = AreLoose loose new.nodes
IsFreeIn loose (below_root same above c) = AreFree loose c

-- so of the children of the node of this number, wherever it stands
abbrev pub AreLooseIn : (loose : List ℕ) (number : ℕ) → Forest ℕ → Type 0
AreLooseIn loose number Empty = Unit {0}
AreLooseIn loose number (Node label content below siblings) =
    (number ≡ label → AreLoose loose below) × AreLooseIn loose number below × AreLooseIn loose number siblings

abbrev pub AreLooseBelow : (loose : List ℕ) (number : ℕ) → Document ℕ → Type 0
AreLooseBelow loose number document = (number ≡ document.root → AreLoose loose document.nodes) × AreLooseIn loose number document.nodes

-- a change between two documents as they are seen: of the children those that are seen, and a text goes or comes too where it is seen before or after
-- alone
abbrev pub seen_change : Change → (old new : Document ℕ) → Change
seen_change change old new = record {
  of_attributes = change.of_attributes;
  node = change.node;
  above = change.above;
  before = filter (is_among (labels old.nodes)) change.before;
  after = filter (is_among (labels new.nodes)) change.after;
  gone = without (labels new.nodes) (labels old.nodes);
  brought = without (labels old.nodes) (labels new.nodes);
}

-- ---- What xml:space says at a node itself, where it is an element that has such an attribute

abbrev pub space_in : Option Content → Scope → Option (List ℕ)
space_in None scope = None
space_in (Some (Element name written)) scope = value_of scope space_name written
space_in (Some (Text text)) scope = None
space_in (Some (Comment text)) scope = None
space_in (Some (Instruction target text)) scope = None

abbrev pub space_said : Found ℕ → Option (List ℕ)
space_said node = space_in node.content (scope_at node)

-- where attributes of an element change, xml:space says there what it said
abbrev pub KeepsSpace : Edit → (old new : Document ℕ) → Type 0
KeepsSpace edit old new =
    changes_attributes edit ≡ true → (x y : Found ℕ) → node_at old (path_of edit) ≡ Some x → node_at new
    (path_of edit) ≡ Some y → space_said y ≡ space_said x
