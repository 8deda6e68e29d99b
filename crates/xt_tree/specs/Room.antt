-- The room for keys at a place in a document, and what they make of the keys of all.
use Rattle.std.specs.Prelude.{ℕ, ◌≡◌, ◌⊎◌, ◌-◌, ◌<◌, ◌≤◌, ◌==◌, Bool, true, false, not, is_some, ◌&&◌, List, [], ◌∷◌, Option, None, Some, if◌then◌else◌}
use Rattle.spec_document.specs.Forest.{Content, Element, Text, Comment, Instruction, Forest, Empty, Node, size}
use Rattle.spec_document.specs.Numbering.{number_limit}
use Rattle.spec_edit.specs.Splice.{first_siblings, later_siblings}
use Rattle.xt_tree.specs.declared.names.Called.{Called}
use Rattle.xt_tree.specs.Keys.{AreApart, Rises, has_number, key_limit, last_key}

-- the key of the first sibling; this one where there is none
abbrev pub first_key : (ℕ → ℕ) → ℕ → Forest ℕ → ℕ
first_key key high Empty = high
first_key key high (Node label content children siblings) = key label

-- between two keys
pub record Between : Type 0 where
  pub low : ℕ
  pub high : ℕ

abbrev pub between : ℕ → ℕ → Between
between low high = record { low = low; high = high }

-- the room below the sibling at this position
abbrev pub room_below : (ℕ → ℕ) → (ℕ → Forest ℕ → ℕ → Option Between) → ℕ → Forest ℕ → ℕ → Option Between
room_below key room position Empty high = None
room_below key room position (Node label content children siblings) high =
    if position == 1 then room (key label) children (first_key key high siblings) else room_below key room (position - 1) siblings high

-- the last key before the children from one index up to another of the node at these positions, and the first behind them, where the siblings
-- stand between two keys
abbrev pub room_of : (ℕ → ℕ) → (from to : ℕ) → List ℕ → ℕ → Forest ℕ → ℕ → Option Between
room_of key from to [] low siblings high =
    Some (between (last_key key low (first_siblings from siblings)) (first_key key high (later_siblings to siblings)))
room_of key from to (position ∷ positions) low siblings high = room_below key (room_of key from to positions) position siblings high

-- the keys of a document's nodes
pub record AreKeyed (key : ℕ → ℕ) (nodes : Forest ℕ) : Type 0 where
  pub rises : Rises key 0 nodes
  pub limit : last_key key 0 nodes < key_limit

-- whatever keys new nodes get between these two, the keys of all rise
pub record IsRoom (key : ℕ → ℕ) (low high : ℕ) (new all : Forest ℕ) : Type 0 where
  pub apart : AreApart new
  pub few : size new < number_limit
  pub some : low < high
  pub limit : high ≤ key_limit
  pub keyed : (own : ℕ → ℕ) → ((number : ℕ) → has_number number new ≡ false → own number ≡ key number) → Rises own low new → last_key own low new < high
      → AreKeyed own all

-- ---- Names and scopes that are kept

-- whether a node with this content has no name, and no scope is kept of it, wherever it stands
abbrev pub is_nameless : Content → Bool
is_nameless (Element name attributes) = false
is_nameless (Text text) = true
is_nameless (Comment text) = true
is_nameless (Instruction target text) = false

-- whether that is what is kept
abbrev pub is_nothing : Called → Bool
is_nothing called = not (is_some called.name) && not (is_some called.scope)

-- whether what is kept for the number of a node with this content is right wherever the node stands
abbrev pub suits : Content → Option Called → Bool
suits content None = true
suits content (Some called) = is_nameless content && is_nothing called

abbrev pub all_suit : (ℕ → Option Called) → Forest ℕ → Bool
all_suit kept Empty = true
all_suit kept (Node label content children siblings) = suits content (kept label) && all_suit kept children && all_suit kept siblings

-- nothing is kept, or the same as before, where all of these nodes suit that
abbrev pub AreBeside : (before now : ℕ → Option Called) → Forest ℕ → Type 0
AreBeside before now nodes =
    ((number : ℕ) → now number ≡ None) ⊎ (((number : ℕ) → now number ≡ before number) × (all_suit before nodes ≡ true))
