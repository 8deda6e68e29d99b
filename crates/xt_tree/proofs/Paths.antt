-- What positions lead to, level by level.
use Rattle.std.proofs.Common.{◌≡◌, ℕ, List, [], ◌∷◌, ◌++◌, Option, Some, None, refl, sym, ap, ◌∙◌, inr, Bor}
use Rattle.std.specs.Option.{option_map, option_and_then}
use Rattle.spec_document.specs.Forest as spec
use Rattle.spec_document.specs.Place.{Found, child_at, node_from, node_at, root_of}
use Rattle.xt_tree.specs.declared.node.Node.{Node}
use Rattle.xt_tree.specs.Edit.{IsNodeAt}
use Rattle.xt_tree.specs.View.{Tree, tree_of, tree_at, children_from}
use Rattle.xt_tree.proofs.Distinct.{some_same}
use Rattle.xt_tree.proofs.Ways.{found_tree, child_at-tree_at}

children_below : (ps : List ℕ) (above : List spec.Content) (o : Option Tree)
    → ((node : Found ℕ) → option_map (λ n. n.children) (node_from ps node) ≡ children_from ps node.children)
    → option_map (λ n. n.children) (option_and_then (node_from ps) (option_map (found_tree above) o))
    ≡ option_and_then (λ tree. children_from ps tree.children) o
children_below ps above None below = refl
children_below ps above (Some t) below = below (found_tree above t)

pub children-node_from : (ps : List ℕ) (node : Found ℕ) → option_map (λ n. n.children) (node_from ps node) ≡ children_from ps node.children
children-node_from [] node = refl
children-node_from (p ∷ ps) node =
    ap (λ o. option_map (λ n. n.children) (option_and_then (node_from ps) o)) (child_at-tree_at node.above node.children p)
    ∙ children_below ps node.above (tree_at node.children p) (λ n. children-node_from ps n)

pub children-node_at : (document : spec.Document ℕ) (ps : List ℕ)
    → option_map (λ n. n.children) (node_at document ps) ≡ children_from ps document.nodes
children-node_at document ps = children-node_from ps (root_of document)

-- one step down, and none
pub children_down : (p : ℕ) (ps : List ℕ) (f : spec.Forest ℕ) (t : Tree) → Some t ≡ tree_at f p → children_from (p ∷ ps) f ≡ children_from ps t.children
children_down p ps f t at = ap (option_and_then (λ tree. children_from ps tree.children)) (sym at)

pub children_nowhere : (p : ℕ) (ps : List ℕ) (f : spec.Forest ℕ) → None ≡ tree_at f p → children_from (p ∷ ps) f ≡ None
children_nowhere p ps f at = ap (option_and_then (λ tree. children_from ps tree.children)) (sym at)

-- ---- The last step of a way

abbrev step : ℕ → Found ℕ → Option (Found ℕ)
step p node = child_at node.above node.children p

some_of : {A : Type 0} (o : Option A) → option_and_then (λ x. Some x) o ≡ o
some_of None = refl
some_of (Some x) = refl

through : (ps : List ℕ) (p : ℕ) (o : Option (Found ℕ))
    → ((node : Found ℕ) → node_from (ps ++ p ∷ []) node ≡ option_and_then (step p) (node_from ps node))
    → option_and_then (node_from (ps ++ p ∷ [])) o ≡ option_and_then (step p) (option_and_then (node_from ps) o)
through ps p None h = refl
through ps p (Some node) h = h node

last_step : (ps : List ℕ) (p : ℕ) (node : Found ℕ) → node_from (ps ++ p ∷ []) node ≡ option_and_then (step p) (node_from ps node)
last_step [] p node = some_of (child_at node.above node.children p)
last_step (q ∷ ps) p node = through ps p (child_at node.above node.children q) (λ n. last_step ps p n)

arrived : (document : spec.Document ℕ) (path : List ℕ) (above : List spec.Content) (r : Option (Bor Node)) (f : spec.Forest ℕ) (p : ℕ)
    → option_map (λ n. tree_of n.now) r ≡ tree_at f p → node_at document path ≡ child_at above f p
    → IsNodeAt document path (option_map (λ n. n.now) r)
arrived document path above None f p e at = inr (at ∙ child_at-tree_at above f p ∙ ap (option_map (found_tree above)) (sym e))
arrived document path above (Some n) f p e at = (
  found_tree above (tree_of n.now),
  at ∙ child_at-tree_at above f p ∙ ap (option_map (found_tree above)) (sym e),
  record { number = refl; content = refl; children = refl },
)

reached : (document : spec.Document ℕ) (path ps : List ℕ) (p : ℕ) (f : spec.Forest ℕ) (r : Option (Bor Node)) (o : Option (Found ℕ))
    → node_at document path ≡ option_and_then (step p) o → Some f ≡ option_map (λ n. n.children) o → option_map (λ n. tree_of n.now) r ≡ tree_at f p
    → IsNodeAt document path (option_map (λ n. n.now) r)
reached document path ps p f r None at parent e = absurd (cc)
reached document path ps p f r (Some node) at parent e =
    arrived document path node.above r node.children p (e ∙ ap (λ g. tree_at g p) (some_same f node.children parent)) at

-- the sibling at the last position
pub is_node_at : (document : spec.Document ℕ) (path ps : List ℕ) (p : ℕ) (f : spec.Forest ℕ) (r : Option (Bor Node)) → path ≡ ps ++ p ∷ []
    → Some f ≡ option_map (λ n. n.children) (node_at document ps) → option_map (λ n. tree_of n.now) r ≡ tree_at f p
    → IsNodeAt document path (option_map (λ n. n.now) r)
is_node_at document path ps p f r is parent e =
    reached document path ps p f r (node_at document ps) (ap (node_at document) is ∙ last_step ps p (root_of document)) parent e

nowhere : (o : Option (Found ℕ)) (p : ℕ) → None ≡ option_map (λ n. n.children) o → option_and_then (step p) o ≡ None
nowhere None p e = refl
nowhere (Some node) p e = absurd (cc)

-- where there is no parent
pub is_no_node : (document : spec.Document ℕ) (path ps : List ℕ) (p : ℕ) → path ≡ ps ++ p ∷ []
    → None ≡ option_map (λ n. n.children) (node_at document ps) → node_at document path ≡ None
is_no_node document path ps p is none =
    ap (node_at document) is ∙ last_step ps p (root_of document) ∙ nowhere (node_at document ps) p none
