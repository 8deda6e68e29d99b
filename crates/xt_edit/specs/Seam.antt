-- Where siblings meet others that are put between them.
use Rattle.std.specs.Prelude.{ℕ, ◌-◌, ◌==◌, Bool, true, false, [], ◌∷◌, Option, None, Some, if◌then◌else◌}
use denote.Ref.{Bor}
use Rattle.std.specs.declared.alloc.Global.{Global}
use Rattle.std.specs.declared.rc.Rc.{Rc}
use Rattle.std.specs.Option.{option_map}
use Rattle.spec_document.specs.Forest.{Content, Element, Text, Comment, Instruction, Forest, Empty, Node}
use Rattle.spec_edit.specs.Splice.{first_siblings, later_siblings, met}
use Rattle.xt_tree.specs.declared.node.Node.{Node as Code}
use Rattle.xt_tree.specs.View.{forest_of}

-- others in place of the siblings from the index `from` up to, but not including, `to`; texts that become neighbours are one
abbrev pub put_in : (from to : ℕ) → (others siblings : Forest ℕ) → Forest ℕ
put_in from to others siblings = met (first_siblings from siblings) (met others (later_siblings to siblings))

abbrev pub is_text : Content → Bool
is_text (Element name attributes) = false
is_text (Text text) = true
is_text (Comment text) = false
is_text (Instruction target text) = false

-- the first sibling alone, where it is a text
abbrev pub text_first : Forest ℕ → Option (Forest ℕ)
text_first Empty = None
text_first (Node label content children siblings) = if is_text content then Some (Node label content children Empty) else None

-- a node that is shared as siblings of its own
abbrev pub alone : Option (Bor (Rc Code Global)) → Option (Forest ℕ)
alone node = option_map (λ n. forest_of (n.now ∷ [])) node

-- the sibling at this index, and the one before it, alone, where it is a text
abbrev pub text_at : ℕ → Forest ℕ → Option (Forest ℕ)
text_at index siblings = text_first (later_siblings index siblings)

abbrev pub text_before : ℕ → Forest ℕ → Option (Forest ℕ)
text_before index siblings = if index == 0 then None else text_at (index - 1) siblings

abbrev pub one_of : Option (Forest ℕ) → ℕ
one_of None = 0
one_of (Some text) = 1

-- these nodes between those texts
abbrev pub begun : Option (Forest ℕ) → Forest ℕ
begun None = Empty
begun (Some text) = text

abbrev pub between : Option (Forest ℕ) → Forest ℕ → Option (Forest ℕ) → Forest ℕ
between before nodes after = met (met (begun before) nodes) (begun after)
