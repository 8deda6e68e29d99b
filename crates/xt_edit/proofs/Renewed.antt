-- Nodes with another content: what is answered of them, and that there is room for their numbers.
use Rattle.std.proofs.Common.{◌≡◌, ◌≤◌, ℕ, ◌+◌, ◌-◌, ◌==◌, true, false, cond, List, [], ◌∷◌, ◌++◌, map, refl, ap, sym, subst, ◌∙◌, arith, Option, None, Some}
use Rattle.std.specs.Option.{option_map, option_and_then}
use Rattle.std.specs.Prelude.{Result, Ok, Err}
use Rattle.spec_document.specs.Fault.{Fault, least, answer_of}
use Rattle.spec_document.specs.Forest.{Content, Plain, Forest, Empty, Node as Tree, Document, labels, numbered, plain, size, tree_at}
use Rattle.spec_document.specs.NodeFaults.{node_faults}
use Rattle.spec_document.specs.Numbering.{number_limit, number_faults}
use Rattle.spec_document.specs.Place.{Found, found_in, child_at}
use Rattle.spec_edit.specs.Edit.{Edited, depth_of, renewed, scope_around, tree_faults, tree_with, without_lines}
use Rattle.spec_edit.specs.Splice.{Spot, children_changed, replaced}
use Rattle.spec_edit.proofs.Numbers.{lines_limit, size-plain, size-without}
use Rattle.spec_edit.proofs.Shapes.{append_none}
use Rattle.xt_edit.specs.Site.{IsThere, found_there, outer_of}
use Rattle.xt_tree.specs.Edit.{KeepsNames, content_below}
use Rattle.xt_tree.specs.declared.node.Node.{Node}
use Rattle.xt_tree.specs.View.{tree_of}

-- ---- Answers

abbrev answer_by : {A : Type 0} → Option Fault → Result A Fault → Result A Fault
answer_by found otherwise = elim found [ None ↦ otherwise | Some fault ↦ Err fault ]

pub unfaulted : {A : Type 0} (faults : List Fault) (otherwise : Result A Fault) → None ≡ least faults → answer_of faults otherwise ≡ otherwise
unfaulted faults otherwise e = ap (λ o. answer_by o otherwise) (sym e)

pub faulted : {A : Type 0} (faults : List Fault) (otherwise : Result A Fault) (fault : Fault) → Some fault ≡ least faults
    → answer_of faults otherwise ≡ Err fault
faulted faults otherwise fault e = ap (λ o. answer_by o otherwise) (sym e)

-- ---- Numbers

pub no_least : (faults : List Fault) → None ≡ least faults → faults ≡ []
no_least [] e = refl
no_least (fault ∷ faults) e = absurd (cc)

-- where nothing is at fault, there is a number for each node
pub room : (faults : List Fault) (first : ℕ) (tree : Plain) → 1 ≤ size tree
    → None ≡ least (faults ++ number_faults first (map (λ l. l.first) (labels (without_lines tree)))) → first + size tree ≤ number_limit
room faults first tree some e =
    let none = append_none faults (number_faults first (map (λ l. l.first) (labels (without_lines tree)))) (no_least _ e) in
    let same = size-without tree in
    let limit = lines_limit first (without_lines tree) none.1 (omega (arith, same)) in
    omega (arith, same, limit)

-- ---- Names

pub some_is : {A : Type 0} (x y : A) → Some x ≡ Some y → x ≡ y
some_is x y e = ap (λ o. elim o [ Some z ↦ z | None ↦ x ]) e

content-at : (above : List Content) (f : Forest ℕ) (p : ℕ) (found : Found ℕ) → child_at above f p ≡ Some found
    → option_map (λ tree. tree.content) (tree_at f p) ≡ found.content
content-at above Empty p found e = absurd (cc)
content-at above (Tree label content children siblings) p found e =
    elim (p == 1) as (λ b. cond b (Some (found_in above label content children)) (child_at above siblings (p - 1)) ≡ Some found
    → option_map (λ tree. tree.content) (cond b (Some (record { label = label; content = content; children = children })) (tree_at siblings (p - 1)))
    ≡ found.content) [
      | true ↦ λ h. ap (λ n. n.content) (some_is (found_in above label content children) found h)
      | false ↦ λ h. content-at above siblings (p - 1) found h
    ] e

pub content-there : (document : Document ℕ) (spot : Spot) (node : Node) → IsThere document spot node
    → content_below document spot.above spot.position ≡ Some (tree_of node).content
content-there document spot node t =
    ap (option_and_then (λ n. option_map (λ tree. tree.content) (tree_at n.children spot.position))) t.parent
    ∙ content-at (outer_of document spot).above (outer_of document spot).children spot.position (found_there document spot node) t.child

-- the names of the node there stay
pub keeps-there : (document : Document ℕ) (spot : Spot) (node : Node) (new old : Content) → IsThere document spot node
    → KeepsNames (tree_of node).content new → content_below document spot.above spot.position ≡ Some old → KeepsNames old new
keeps-there document spot node new old t keeps e =
    subst (λ o. KeepsNames o new) (some_is (tree_of node).content old (sym (content-there document spot node t) ∙ e)) keeps

-- ---- What is made anew there

abbrev pub anew_there : ℕ → Document ℕ → Spot → Found ℕ → Content → Edited ℕ
anew_there first document spot there content =
    let tree = tree_with content there in
    record {
      nodes = children_changed (replaced (spot.position - 1) spot.position (numbered first tree)) spot.above document.nodes;
      made = size tree;
    }

pub renewed-is : (first : ℕ) (document : Document ℕ) (spot : Spot) (there : Found ℕ) (content : Content)
    → None ≡ least (tree_faults first there (tree_with content there))
    → renewed (λ nodes. nodes) first spot document there content ≡ Ok (anew_there first document spot there content)
renewed-is first document spot there content e =
    unfaulted (tree_faults first there (tree_with content there)) (Ok (anew_there first document spot there content)) e

-- the node itself takes one number
pub room-below : (first : ℕ) (there : Found ℕ) (content : Content) → None ≡ least (tree_faults first there (tree_with content there))
    → first + 1 + size there.children ≤ number_limit
room-below first there content e =
    let enough = room (node_faults (scope_around there) (depth_of there) (without_lines (tree_with content there))) first (tree_with content there)
    (omega arith) e in
    let same = size-plain there.children in
    omega (arith, enough, same)

pub made-there : (first : ℕ) (document : Document ℕ) (spot : Spot) (there : Found ℕ) (content : Content)
    → (anew_there first document spot there content).made ≡ 1 + size there.children
made-there first document spot there content = let same = size-plain there.children in omega (arith, same)

-- what is put in place of the node is what is made anew there
pub nodes-there : (first : ℕ) (document : Document ℕ) (spot : Spot) (there : Found ℕ) (content : Content) (children nodes : Forest ℕ) (to : ℕ)
    → to ≡ spot.position → children ≡ there.children → nodes ≡ numbered first (Tree tt content (plain children) Empty)
    → children_changed (replaced (spot.position - 1) to nodes) spot.above document.nodes ≡ (anew_there first document spot there content).nodes
nodes-there first document spot there content children nodes to at below made =
    let same : nodes ≡ numbered first (tree_with content there) = made ∙ ap (λ f. numbered first (Tree tt content (plain f) Empty)) below in
    λ i. children_changed (replaced (spot.position - 1) (at i) (same i)) spot.above document.nodes
