-- Keys by which nodes are found: each number leads to one key, and the keys of a document's nodes rise in document order.
use Rattle.std.specs.Prelude.{ℕ, ◌≡◌, true, ◌+◌, ◌*◌, ◌-◌, ◌^◌, ◌<◌, Bool, false, ◌||◌, List, map, Option, None, Some, ◌==◌}
use Rattle.std.specs.declared.rc.Rc.{Rc}
use Rattle.std.specs.declared.alloc.Global.{Global}
use Rattle.spec_document.specs.Forest.{Forest, Empty, Node}
use Rattle.xt_tree.specs.declared.node.Node.{Node as Held}
use Rattle.xt_tree.specs.declared.table.Table.{Table}
use Rattle.xt_tree.specs.Lookup.{lookup}
use Rattle.xt_tree.specs.View.{tree_of}

-- the distance of the keys of two nodes that follow one another in a document as it is read
abbrev pub gap : ℕ
gap = 2 ^ 63

-- the key of a number without an entry
abbrev pub own_key : ℕ → ℕ
own_key number = (number + 1) * gap

-- the key of a number: its entry, where there is one
abbrev pub entry_or : Option ℕ → ℕ → ℕ
entry_or None number = own_key number
entry_or (Some key) number = key

abbrev pub key_by : Table → ℕ → ℕ
key_by table number = entry_or (lookup table number) number

-- above all keys
abbrev pub key_limit : ℕ
key_limit = 2 ^ 128 - 1

-- the last key in document order; this one where there is none
abbrev pub last_key : (ℕ → ℕ) → ℕ → Forest ℕ → ℕ
last_key key low Empty = low
last_key key low (Node label content children siblings) = last_key key (last_key key (key label) children) siblings

-- the keys rise in document order, and the first is above this
abbrev pub Rises : (ℕ → ℕ) → ℕ → Forest ℕ → Type 0
Rises key low Empty = Unit {0}
Rises key low (Node label content children siblings) =
    (low < key label) × Rises key (key label) children × Rises key (last_key key (key label) children) siblings

-- whether a node has this number
abbrev pub has_number : ℕ → Forest ℕ → Bool
has_number number Empty = false
has_number number (Node label content children siblings) = (label == number) || (has_number number children || has_number number siblings)

-- no number stands twice
abbrev pub AreApart : Forest ℕ → Type 0
AreApart Empty = Unit {0}
AreApart (Node label content children siblings) =
    (has_number label children ≡ false) × (has_number label siblings ≡ false)
    × ((number : ℕ) → has_number number children ≡ true → has_number number siblings ≡ false) × AreApart children × AreApart siblings

-- the keys of siblings
abbrev pub keys_of : (ℕ → ℕ) → List (Rc Held Global) → List ℕ
keys_of key siblings = map (λ c. key (tree_of c.value).number) siblings
