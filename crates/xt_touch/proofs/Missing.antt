-- What a document has and lacks, gathered node by node.
use Rattle.std.proofs.Common.{◌≡◌, ℕ, ◌+◌, ◌<◌, Bool, true, false, List, [], ◌∷◌, ◌++◌, length, get_or, drop, Option, None, Some, is_some, refl, sym, ap, ◌∙◌, append_assoc}
use Rattle.std.specs.Prelude.{◌||◌, ◌==◌, if◌then◌else◌}
use Rattle.std.specs.List.{filter}
use Rattle.std.specs.Option.{option_map, option_or}
use Rattle.std.proofs.lemmas.List.{at_drop_more}
use Rattle.std.proofs.lemmas.List.Elements.{filter-append}
use Rattle.spec_document.specs.Forest.{Forest, Empty, Node, labels}
use Rattle.spec_change.specs.Change.{is_among}
use Rattle.spec_node.specs.declared.node_ref.NodeId.{NodeId}
use Rattle.xt_edit.specs.Telling.{numbers_in}
use Rattle.xt_tree.specs.View.{Tree, first_tree}
use Rattle.xt_touch.proofs.Members.{among_append}

-- ---- Whether a node is there

either_found : (a b : Option Tree) → is_some (option_or a b) ≡ (is_some a || is_some b)
either_found None b = refl
either_found (Some x) b = refl

pub found-among : (n : ℕ) (f : Forest ℕ) → is_some (first_tree n f) ≡ is_among (labels f) n
found-among n Empty = refl
found-among n (Node l c f g) =
    elim (l == n) as (λ b. is_some (if b then Some (record { number = l; content = c; children = f }) else option_or (first_tree n f) (first_tree n g))
    ≡ (b || is_among (labels f ++ labels g) n)) [
      | true ↦ refl
      | false ↦ either_found (first_tree n f) (first_tree n g) ∙ (λ i. found-among n f i || found-among n g i)
          ∙ sym (among_append (labels f) (labels g) n)
    ]

mapped-some : {X Y : Type 0} (f : X → Y) (o : Option X) → is_some o ≡ is_some (option_map f o)
mapped-some f None = refl
mapped-some f (Some x) = refl

pub found_there : {X : Type 0} (f : X → Tree) (o : Option X) (n : ℕ) (siblings : Forest ℕ) → option_map f o ≡ first_tree n siblings
    → is_some o ≡ is_among (labels siblings) n
found_there f o n siblings h = mapped-some f o ∙ ap is_some h ∙ found-among n siblings

-- ---- Those that pass a test, one after another

more_taken : (test : ℕ → Bool) (ns rest was now : List ℕ) → now ≡ was ++ filter test ns → now ++ filter test rest ≡ was ++ filter test (ns ++ rest)
more_taken test ns rest was now h =
    ap (λ list. list ++ filter test rest) h ∙ append_assoc was (filter test ns) (filter test rest)
    ∙ ap (λ list. was ++ list) (sym (filter-append test ns rest))

-- a turn over nodes
pub taken_turn : (test : ℕ → Bool) (nodes : List NodeId) (i : ℕ) (d : NodeId) (was now all : List ℕ) → i < length nodes
    → now ≡ was ++ filter test ((get_or nodes i d).number ∷ []) → was ++ filter test (numbers_in (drop i nodes)) ≡ all
    → now ++ filter test (numbers_in (drop (i + 1) nodes)) ≡ all
taken_turn test nodes i d was now all h taken before =
    more_taken test ((get_or nodes i d).number ∷ []) (numbers_in (drop (i + 1) nodes)) was now taken
    ∙ sym (at_drop_more (λ ns. was ++ filter test (numbers_in ns)) nodes i d h) ∙ before
