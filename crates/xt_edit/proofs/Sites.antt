-- The last step of a path, and the node that it leads to.
use Rattle.std.proofs.Common.{◌≡◌, ◌≤◌, ℕ, ◌+◌, ◌-◌, ◌==◌, true, false, cond, List, [], ◌∷◌, ◌++◌, length, refl, ap, sym, subst, ◌∙◌, arith, Option, None, Some}
use Rattle.std.proofs.lemmas.Bool.{eqb-true}
use Rattle.std.specs.Option.{option_and_then, unwrap_or, ForSome}
use Rattle.std.specs.Prelude.{Result}
use Rattle.spec_document.specs.Fault.{Fault}
use Rattle.spec_document.specs.Forest.{Content, Forest, Empty, Node as Tree, Document}
use Rattle.spec_document.specs.Place.{Found, root_of, found_in, child_at, node_from, node_at}
use Rattle.spec_edit.specs.Edit.{Edited, at_spot, by_node, refused}
use Rattle.spec_edit.specs.Splice.{Spot, spot_from, spot_of, sibling_count}
use Rattle.xt_edit.specs.Site.{IsAt, IsThere, found_below, found_there, outer_of}
use Rattle.xt_tree.specs.declared.node.Node.{Node}
use Rattle.xt_tree.specs.Edit.{IsFound, IsNodeAt}
use Rattle.xt_tree.specs.View.{tree_of}

spot_from-last : (first : ℕ) (above : List ℕ) (position : ℕ) → spot_from first (above ++ position ∷ []) ≡ record { above = first ∷ above; position = position }
spot_from-last first [] position = refl
spot_from-last first (next ∷ above) position =
    ap (λ (below : Spot). record { above = first ∷ below.above; position = below.position }) (spot_from-last next above position)

pub spot_of-last : (above : List ℕ) (position : ℕ) → spot_of (above ++ position ∷ []) ≡ Some (record { above = above; position = position })
spot_of-last [] position = refl
spot_of-last (first ∷ above) position = ap (λ spot. Some spot) (spot_from-last first above position)

some_is : {A : Type 0} (x y : A) → Some x ≡ Some y → x ≡ y
some_is x y e = ap (λ o. elim o [ Some z ↦ z | None ↦ x ]) e

path_from-spot : (first : ℕ) (path : List ℕ) → first ∷ path ≡ (spot_from first path).above ++ (spot_from first path).position ∷ []
path_from-spot first [] = refl
path_from-spot first (next ∷ path) = ap (λ p. first ∷ p) (path_from-spot next path)

pub path_of-spot : (path : List ℕ) (spot : Spot) → spot_of path ≡ Some spot → path ≡ spot.above ++ spot.position ∷ []
path_of-spot [] spot e = absurd (cc)
path_of-spot (first ∷ path) spot e = path_from-spot first path ∙ ap (λ (s : Spot). s.above ++ s.position ∷ []) (some_is (spot_from first path) spot e)

further : (xs ys : List ℕ) → ((node : Found ℕ) → node_from (xs ++ ys) node ≡ option_and_then (node_from ys) (node_from xs node)) → (o : Option (Found ℕ))
    → option_and_then (node_from (xs ++ ys)) o ≡ option_and_then (node_from ys) (option_and_then (node_from xs) o)
further xs ys same None = refl
further xs ys same (Some child) = same child

node_from-append : (xs ys : List ℕ) (node : Found ℕ) → node_from (xs ++ ys) node ≡ option_and_then (node_from ys) (node_from xs node)
node_from-append [] ys node = refl
node_from-append (x ∷ xs) ys node = further xs ys (node_from-append xs ys) (child_at node.above node.children x)

option_same : {A : Type 0} (o : Option A) → option_and_then (λ x. Some x) o ≡ o
option_same None = refl
option_same (Some x) = refl

-- a child has what stands above it
pub record IsBelow (above : List Content) (found : Found ℕ) : Type 0 where
  pub content : Content
  pub is : found ≡ found_in above found.label content found.children

child-below : (above : List Content) (f : Forest ℕ) (p : ℕ) (found : Found ℕ) → child_at above f p ≡ Some found → IsBelow above found
child-below above Empty p found e = absurd (cc)
child-below above (Tree label content children siblings) p found e =
    elim (p == 1) as (λ b. cond b (Some (found_in above label content children)) (child_at above siblings (p - 1)) ≡ Some found → IsBelow above found) [
      | true ↦ λ h. let is = some_is (found_in above label content children) found h in record {
        content = content;
        is = sym is ∙ (λ i. found_in above (is i).label content (is i).children);
      }
      | false ↦ λ h. child-below above siblings (p - 1) found h
    ] e

depth_of-child : (xs : List ℕ) (node : Found ℕ) (o : Option (Found ℕ)) (found : Found ℕ)
    → ((child : Found ℕ) → o ≡ Some child → length child.above ≡ length node.above + 1)
    → ((child : Found ℕ) → node_from xs child ≡ Some found → length found.above ≡ length child.above + length xs)
    → option_and_then (node_from xs) o ≡ Some found → length found.above ≡ length node.above + (1 + length xs)
depth_of-child xs node None found here below e = absurd (cc)
depth_of-child xs node (Some child) found here below e = let h = here child refl in let b = below child e in omega (arith, h, b)

pub depth_of-from : (xs : List ℕ) (node found : Found ℕ) → node_from xs node ≡ Some found → length found.above ≡ length node.above + length xs
depth_of-from [] node found e = let is = ap (λ (n : Found ℕ). length n.above) (some_is node found e) in omega (arith, is)
depth_of-from (x ∷ xs) node found e =
    let all = depth_of-child xs node (child_at node.above node.children x) found
    (λ child h.
    let is = ap (λ (n : Found ℕ). length n.above) (child-below node.above node.children x child h).is in
    omega (arith, is))
    (λ child. depth_of-from xs child found) e in
    omega (arith, all)

is_found_below : (outer found : Found ℕ) (node : Node) → IsFound node found → IsBelow outer.above found → found ≡ found_below outer node
is_found_below outer found node is below =
    let content : (tree_of node).content ≡ below.content =
    some_is (tree_of node).content below.content (is.content ∙ ap (λ (n : Found ℕ). n.content) below.is) in
    below.is ∙ (λ i. found_in outer.above (sym is.number i) (sym content i) (sym is.children i))

-- said of a parent that is given
abbrev IsBelowIt : Document ℕ → Spot → Node → Found ℕ → Type 0
IsBelowIt document spot node outer =
    (node_at document spot.above ≡ Some outer)
    × (child_at outer.above outer.children spot.position ≡ Some (found_below outer node))
    × (length outer.above ≡ length spot.above)

there_by : (document : Document ℕ) (spot : Spot) (node : Node) → IsBelowIt document spot node (outer_of document spot) → IsThere document spot node
there_by document spot node h = record { parent = h.0; child = h.1; depth = h.2 }

below-parent : (document : Document ℕ) (above : List ℕ) (position : ℕ) (node : Node) (found : Found ℕ) → IsFound node found
    → node_at document (above ++ position ∷ []) ≡ Some found
    → (o : Option (Found ℕ)) → node_at document above ≡ o → option_and_then (node_from (position ∷ [])) o ≡ Some found
    → IsAt document (above ++ position ∷ []) (record { above = above; position = position }) node
below-parent document above position node found is at None e h = absurd (cc)
below-parent document above position node found is at (Some outer) e h =
    let spot : Spot = record { above = above; position = position } in
    let child : child_at outer.above outer.children position ≡ Some found =
    sym (option_same (child_at outer.above outer.children position)) ∙ h in
    let same = is_found_below outer found node is (child-below outer.above outer.children position found child) in
    let own : outer_of document spot ≡ outer = ap (λ o. unwrap_or o (root_of document)) e in
    record {
      there = there_by document spot node (subst (IsBelowIt document spot node) (sym own)
          (e, child ∙ ap (λ f. Some f) same, depth_of-from above (root_of document) outer e ∙ omega arith));
      spot_is = spot_of-last above position;
      found = at ∙ ap (λ f. Some f) same ∙ ap (λ u. Some (found_below u node)) (sym own);
    }

-- what is found at a path is the child of its parent at the last step
pub is_at : (document : Document ℕ) (path : List ℕ) (spot : Spot) (node : Node) → Some spot ≡ spot_of path → IsNodeAt document path (Some node)
    → IsAt document path spot node
is_at document path spot node e h =
    let is = path_of-spot path spot (sym e) in
    let at : node_at document (spot.above ++ spot.position ∷ []) ≡ Some h.0 = ap (node_at document) (sym is) ∙ h.1 in
    subst (λ p. IsAt document p spot node) (sym is)
    (below-parent document spot.above spot.position node h.0 h.2 at (node_at document spot.above) refl
    (sym (node_from-append spot.above (spot.position ∷ []) (root_of document)) ∙ at))

-- ---- What stands at a spot

pub child-from : (above : List Content) (f : Forest ℕ) (p : ℕ) (found : Found ℕ) → child_at above f p ≡ Some found → (1 ≤ p) × (p ≤ sibling_count f)
child-from above Empty p found e = absurd (cc)
child-from above (Tree label content children siblings) p found e =
    elim (p == 1) as (λ b. (p == 1) ≡ b → cond b (Some (found_in above label content children)) (child_at above siblings (p - 1)) ≡ Some found
    → (1 ≤ p) × (p ≤ 1 + sibling_count siblings)) [
      | true ↦ λ one _. let is : p ≡ 1 = eqb-true p 1 one in (omega arith, omega arith)
      | false ↦ λ _ h. let rest = child-from above siblings (p - 1) found h in (omega (arith, rest.0), omega (arith, rest.1))
    ] refl e

pub position-from : (document : Document ℕ) (spot : Spot) (node : Node) → IsThere document spot node → 1 ≤ spot.position
position-from document spot node t =
    (child-from (outer_of document spot).above (outer_of document spot).children spot.position (found_there document spot node) t.child).0

pub position-within : (document : Document ℕ) (spot : Spot) (node : Node) → IsThere document spot node
    → ForSome (node_at document spot.above) (λ n. spot.position - 1 ≤ sibling_count n.children)
position-within document spot node t outer e =
    let is : outer_of document spot ≡ outer = ap (λ o. unwrap_or o (root_of document)) e in
    let within =
    (child-from (outer_of document spot).above (outer_of document spot).children spot.position (found_there document spot node) t.child).1 in
    let same = ap (λ (n : Found ℕ). sibling_count n.children) is in
    omega (arith, within, same)

-- the edit of the node at a path is the change of the node there
pub at_site : (document : Document ℕ) (path : List ℕ) (spot : Spot) (node : Node) (change : Spot → Found ℕ → Content → Result (Edited ℕ) Fault)
    → IsAt document path spot node
    → at_spot path (λ s. by_node (change s) (node_at document path)) ≡ change spot (found_there document spot node) (tree_of node).content
at_site document path spot node change h =
    ap (λ o. elim o [ None ↦ refused 7 | Some s ↦ by_node (change s) (node_at document path) ]) h.spot_is ∙ ap (by_node (change spot)) h.found
