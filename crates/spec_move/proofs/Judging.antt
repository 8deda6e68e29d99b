-- What is judged of a node that is moved is what the whole document would be judged by.
use Rattle.std.proofs.Common.{◌≡◌, ◌≤◌, ◌<◌, arith, ℕ, ◌+◌, ◌-◌, ◌==◌, Bool, true, false, not, cond, List, [], ◌∷◌, ◌++◌, Option, None, Some, refl}
use Rattle.std.proofs.Common.{sym, ap, ◌∙◌, subst, map, length, drop, append_assoc, append-nil, lt-ltb}
use Rattle.std.specs.Prelude.{Result, Err, ◌↔◌, ◌&&◌, IsTrue, nat_lt, slice_index, is_none}
use Rattle.std.specs.FinMap.{entries}
use Rattle.std.specs.Option.{option_and_then}
use Rattle.std.proofs.lemmas.Slice.Eq.{bytes_eq-Decides}
use Rattle.std.proofs.lemmas.Bool.{ltb-true, ltb-false}
use Rattle.spec_document.specs.declared.parent.Parent.{Parent}
use Rattle.spec_document.specs.declared.parent.Parent.TheVariants as parents
use Rattle.std.specs.List.{list_all}
use Rattle.spec_document.specs.Character.{is_space}
use Rattle.spec_document.specs.Scope.{Scope, root_scope}
use Rattle.spec_document.specs.Forest.{Content, Element, Text, Comment, Instruction, Forest, Empty, Node, Document, labels, height, followed, IsNormal}
use Rattle.spec_document.specs.Declaration.{within, scope_of}
use Rattle.spec_document.specs.Place.{Found, root_of, child_at, node_at, scope_at}
use Rattle.spec_document.specs.Fault.{Fault, fault_if, answer_of, least}
use Rattle.spec_document.specs.NodeFaults.{content_faults, node_faults, greatest_depth, is_wrong_element, attribute_faults}
use Rattle.spec_document.specs.Numbering.{number_faults}
use Rattle.spec_document.specs.Top.{top_faults, kept, without_texts, elements_at_top, element_faults, text_faults}
use Rattle.spec_document.specs.Balance.{alone}
use Rattle.spec_document.specs.Document.{elements_beside}
use Rattle.spec_edit.specs.Splice.{Spot, spot_of, spot_from, first_siblings, later_siblings, children_changed, text_before, last_before, met, inserted}
use Rattle.spec_edit.specs.Edit.{Edited, refused, by_content, by_node, without_lines, element_count, parent_by, is_position, depth_of}
use Rattle.spec_edit.specs.Depth.{ElementsFit}
use Rattle.spec_edit.specs.Valid.{IsValid}
use Rattle.spec_edit.proofs.Around.{Around, Here, Below, filled, above_in, content_in, some_same, first-later}
use Rattle.spec_edit.proofs.Shapes.{same_nodes, answered, parent_in, parent_same}
use Rattle.spec_edit.proofs.Depths.{steps, levels-steps, unfaulted-fit, parent-at}
use Rattle.spec_edit.proofs.Normal.{IsAbove, normal-parts, normal-met, normal-in, normal-behind}
use Rattle.spec_edit.proofs.Faultless.{AreFine, fine-to, fine-parts, fine-in, elements-followed, elements-met, elements-top}
use Rattle.spec_edit.proofs.Judging.{IsJudged, judged_err}
use Rattle.spec_move.specs.Move.{is_path, goes_through, origin_faults, position_faults, parent_faults, target_faults, preserves, same_truth, same_entries}
use Rattle.spec_move.specs.Move.{keeps_labels, height_faults, move_faults, rearranged, carried, placed, with_placed, tree_of}
use Rattle.spec_move.specs.Move.{moved_below, moved_between, moved_from, moved_at, moved_there, moved_nodes}
use Rattle.spec_move.specs.Judged.{faults_moving}
use Rattle.spec_move.proofs.Around.{path-spot}
use Rattle.spec_move.proofs.Moving.{Place, place, tree, Carrying, carrying-by, above-by, within as moves-within}
use Rattle.spec_move.proofs.Normal.{left-normal, parts_of}
use Rattle.spec_move.proofs.Tops.{IsTop, AreNoTexts, no-texts-parts, elements-lines, top-below}
use Rattle.spec_move.proofs.Faultless.{IsFaultless, faultless-of, left-faultless, root-parent, faultless}
use Rattle.spec_move.proofs.Least.{merged, least-append, Stands, at_front, stands-first, stands-second, merged-again}

-- ---- Faults of siblings and others after them

faults-followed : {L : Type 0} (scope : Scope) (d : ℕ) (f g : Forest L)
    → node_faults scope d (without_lines (followed f g)) ≡ node_faults scope d (without_lines f) ++ node_faults scope d (without_lines g)
faults-followed scope d Empty g = refl
faults-followed scope d (Node l c f s) g =
    let own = content_faults (within c scope) d (alone 0) c ++ node_faults (within c scope) (d + 1) (without_lines f) in
    ap (λ xs. own ++ xs) (faults-followed scope d s g)
    ∙ sym (append_assoc own (node_faults scope d (without_lines s)) (node_faults scope d (without_lines g)))

faults-text : {L : Type 0} (scope : Scope) (d : ℕ) (l : L) (text : List ℕ) (f g : Forest L) → IsNormal g
    → node_faults scope d (without_lines (text_before l text f g)) ≡ node_faults scope (d + 1) (without_lines f) ++ node_faults scope d (without_lines g)
faults-text scope d l text f Empty n = refl
faults-text scope d l text f (Node k (Element m a) r s) n = refl
faults-text scope d l text f (Node k (Comment t) r s) n = refl
faults-text scope d l text f (Node k (Instruction m t) r s) n = refl
faults-text scope d l text f (Node k (Text t) r s) n =
    ap (λ h. node_faults scope (d + 1) (without_lines f) ++ (node_faults scope (d + 1) (without_lines h) ++ node_faults scope d (without_lines s))) (sym n.0)

faults-last : {L : Type 0} (scope : Scope) (d : ℕ) (l : L) (c : Content) (f g : Forest L) → IsNormal g
    → node_faults scope d (without_lines (last_before l c f g))
    ≡ (content_faults (within c scope) d (alone 0) c ++ node_faults (within c scope) (d + 1) (without_lines f)) ++ node_faults scope d (without_lines g)
faults-last scope d l (Element m a) f g n = refl
faults-last scope d l (Text t) f g n = faults-text scope d l t f g n
faults-last scope d l (Comment t) f g n = refl
faults-last scope d l (Instruction m t) f g n = refl

faults-met : {L : Type 0} (scope : Scope) (d : ℕ) (f g : Forest L) → IsNormal g
    → node_faults scope d (without_lines (met f g)) ≡ node_faults scope d (without_lines f) ++ node_faults scope d (without_lines g)
faults-met scope d Empty g n = refl
faults-met scope d (Node l c f Empty) g n =
    let own = content_faults (within c scope) d (alone 0) c ++ node_faults (within c scope) (d + 1) (without_lines f) in
    faults-last scope d l c f g n ∙ ap (λ xs. xs ++ node_faults scope d (without_lines g)) (sym (append-nil own))
faults-met scope d (Node l c f (Node k e r s)) g n =
    let own = content_faults (within c scope) d (alone 0) c ++ node_faults (within c scope) (d + 1) (without_lines f) in
    ap (λ xs. own ++ xs) (faults-met scope d (Node k e r s) g n)
    ∙ sym (append_assoc own (node_faults scope d (without_lines (Node k e r s))) (node_faults scope d (without_lines g)))

-- one node among others that have none
faults-one : {L : Type 0} (scope : Scope) (d : ℕ) (before : Forest L) (l : L) (c : Content) (f after : Forest L) → AreFine scope d before
    → AreFine scope d after → node_faults scope d (without_lines (followed before (Node l c f after)))
    ≡ content_faults (within c scope) d (alone 0) c ++ node_faults (within c scope) (d + 1) (without_lines f)
faults-one scope d before l c f after h k =
    let own = content_faults (within c scope) d (alone 0) c ++ node_faults (within c scope) (d + 1) (without_lines f) in
    faults-followed scope d before (Node l c f after) ∙ (λ i. fine-to scope d before h i ++ (own ++ fine-to scope d after k i)) ∙ append-nil own

-- siblings in place of others, where there was no fault around
faults-filled : {L : Type 0} (above : List Content) (d : ℕ) (around : Around L) (f g : Forest L) → AreFine (scope_of root_scope above) d (filled around f)
    → node_faults (scope_of root_scope above) d (without_lines (filled around g))
    ≡ node_faults (scope_of root_scope (above_in above around)) (d + steps around) (without_lines g)
faults-filled above d Here f g h =
    let same : d ≡ d + 0 = omega arith in ap (λ n. node_faults (scope_of root_scope above) n (without_lines g)) same
faults-filled above d (Below before l c inner after) f g h =
    let scope = scope_of root_scope above in
    let parts = fine-parts scope d before (Node l c (filled inner f) after) h in
    let same : d + 1 + steps inner ≡ d + (1 + steps inner) = omega arith in
    let below = faults-filled (c ∷ above) (d + 1) inner f g parts.1.1 in
    faults-one scope d before l c (filled inner g) after parts.0 parts.1.2
    ∙ (λ i. parts.1.0 i ++ node_faults (within c scope) (d + 1) (without_lines (filled inner g))) ∙ below
    ∙ ap (λ n. node_faults (scope_of root_scope (above_in (c ∷ above) inner)) n (without_lines g)) same

-- siblings put in where there was no fault
faults-inserted : {L : Type 0} (around : Around L) (n : ℕ) (f nodes : Forest L) → AreFine root_scope 1 (filled around f) → IsNormal f → IsNormal nodes
    → node_faults root_scope 1 (without_lines (filled around (inserted n nodes f)))
    ≡ node_faults (scope_of root_scope (above_in [] around)) (1 + steps around) (without_lines nodes)
faults-inserted around n f nodes fine normal own =
    let scope = scope_of root_scope (above_in [] around) in
    let d = 1 + steps around in
    let before = first_siblings n f in
    let after = later_siblings n f in
    let whole = sym (first-later n f) in
    let parts = fine-parts scope d before after (subst (AreFine scope d) whole (fine-in [] 1 around f fine)) in
    let later = normal-parts before after (subst IsNormal whole normal) in
    faults-filled [] 1 around f (inserted n nodes f) fine
    ∙ faults-met scope d before (met nodes after) (normal-met nodes after own later.1)
    ∙ (λ i. fine-to scope d before parts.0 i ++ faults-met scope d nodes after later.1 i)
    ∙ ap (λ xs. node_faults scope d (without_lines nodes) ++ xs) (fine-to scope d after parts.1)
    ∙ append-nil (node_faults scope d (without_lines nodes))

-- ---- A tree that is too high has an element that is too deep

abbrev pub too_deep : Fault
too_deep = record { number = 11; line = 0 }

deep-element : (scope : Scope) (d : ℕ) (name : List ℕ) (attributes : List _) → greatest_depth < d
    → Stands too_deep (content_faults scope d (alone 0) (Element name attributes))
deep-element scope d name attributes deep =
    let wrong = fault_if (is_wrong_element scope name) 10 0 in
    let rest = attribute_faults scope [] (alone 0).attributes attributes in
    let there = subst (λ b. Stands too_deep (fault_if b 11 0)) (sym (lt-ltb greatest_depth d deep)) (at_front []) in
    stands-first too_deep (wrong ++ fault_if (nat_lt greatest_depth d) 11 0) rest
    (stands-second too_deep wrong (fault_if (nat_lt greatest_depth d) 11 0) there)

-- a node whose children reach too far down
deep-node : {L : Type 0} (scope : Scope) (d : ℕ) (l : L) (c : Content) (f s : Forest L) → IsNormal (Node l c f s) → d ≤ greatest_depth + 1
    → greatest_depth + 2 < d + (1 + height f)
    → (IsNormal f → d + 1 ≤ greatest_depth + 1 → greatest_depth + 2 < (d + 1) + height f
    → Stands too_deep (node_faults (within c scope) (d + 1) (without_lines f)))
    → Stands too_deep (content_faults (within c scope) d (alone 0) c ++ node_faults (within c scope) (d + 1) (without_lines f))
deep-node scope d l (Element m a) f s n level deep go =
    let inside = within (Element m a) scope in
    let own = content_faults inside d (alone 0) (Element m a) in
    let below = node_faults inside (d + 1) (without_lines f) in
    elim (nat_lt greatest_depth d) as (λ b. nat_lt greatest_depth d ≡ b → Stands too_deep (own ++ below)) [
      | true ↦ λ e. stands-first too_deep own below (deep-element inside d m a (ltb-true greatest_depth d e))
      | false ↦ λ e. let most = ltb-false greatest_depth d e in stands-second too_deep own below (go n.0 (omega arith) (omega arith))
    ] refl
deep-node scope d l (Text t) f s n level deep go = absurd (let none = ap height n.0 in omega arith)
deep-node scope d l (Comment t) f s n level deep go = absurd (let none = ap height n.0 in omega arith)
deep-node scope d l (Instruction m t) f s n level deep go = absurd (let none = ap height n.0 in omega arith)

deep-tree : {L : Type 0} (scope : Scope) (d : ℕ) (f : Forest L) → IsNormal f → d ≤ greatest_depth + 1 → greatest_depth + 2 < d + height f
    → Stands too_deep (node_faults scope d (without_lines f))
deep-tree scope d Empty n level deep = absurd (omega arith)
deep-tree scope d (Node l c f s) n level deep =
    let own = content_faults (within c scope) d (alone 0) c ++ node_faults (within c scope) (d + 1) (without_lines f) in
    let rest = node_faults scope d (without_lines s) in
    elim (nat_lt (greatest_depth + 2) (d + height s)) as (λ b. nat_lt (greatest_depth + 2) (d + height s) ≡ b → Stands too_deep (own ++ rest)) [
      | true ↦ λ e. stands-second too_deep own rest
          (deep-tree scope d s (normal-behind l c f s n) level (ltb-true (greatest_depth + 2) (d + height s) e))
      | false ↦ λ e.
          let most = ltb-false (greatest_depth + 2) (d + height s) e in
          stands-first too_deep own rest (deep-node scope d l c f s n level (omega arith) (deep-tree (within c scope) (d + 1) f))
    ] refl

-- so what is said of heights is said of elements
height-judged : {L : Type 0} (scope : Scope) (next : Found L) (f : Forest L) (before after : List Fault) → IsNormal f → depth_of next ≤ greatest_depth
    → least (((before ++ node_faults scope (depth_of next + 1) (without_lines f)) ++ height_faults next f) ++ after)
    ≡ least ((before ++ node_faults scope (depth_of next + 1) (without_lines f)) ++ after)
height-judged scope next f before after n level = by (nat_lt (greatest_depth + 1) (depth_of next + height f)) refl
  where
    nodes : List Fault
    nodes = node_faults scope (depth_of next + 1) (without_lines f)

    deeper : nat_lt (greatest_depth + 1) (depth_of next + height f) ≡ true → Stands too_deep (before ++ nodes)
    deeper e =
        let less = ltb-true (greatest_depth + 1) (depth_of next + height f) e in
        stands-second too_deep before nodes (deep-tree scope (depth_of next + 1) f n (omega arith) (omega arith))

    by : (b : Bool) → nat_lt (greatest_depth + 1) (depth_of next + height f) ≡ b
        → least (((before ++ nodes) ++ fault_if b 11 0) ++ after) ≡ least ((before ++ nodes) ++ after)
    by true e =
        least-append ((before ++ nodes) ++ too_deep ∷ []) after
        ∙ ap (λ o. merged o (least after)) (least-append (before ++ nodes) (too_deep ∷ []) ∙ merged-again too_deep (before ++ nodes) (deeper e))
        ∙ sym (least-append (before ++ nodes) after)
    by false e = ap (λ xs. least (xs ++ after)) (append-nil (before ++ nodes))

-- ---- At the top

elements-texts : {L : Type 0} (f : Forest L) → element_count (without_texts f) ≡ element_count f
elements-texts Empty = refl
elements-texts (Node l (Element m a) f s) = let rest = elements-texts s in omega arith
elements-texts (Node l (Text t) f s) = let rest = elements-texts s in omega arith
elements-texts (Node l (Comment t) f s) = let rest = elements-texts s in omega arith
elements-texts (Node l (Instruction m t) f s) = let rest = elements-texts s in omega arith

-- how many elements stand there
top-count : {L : Type 0} (f : Forest L) → length (elements_at_top (without_lines f)) ≡ element_count f
top-count f = sym (elements-top (without_lines f)) ∙ elements-lines f ∙ elements-texts f

-- at no line
first-line : {L : Type 0} (f : Forest L) → slice_index (elements_at_top (without_lines f)) 0 ≡ 0
first-line Empty = refl
first-line (Node l (Element m a) f s) = refl
first-line (Node l (Text t) f s) = first-line s
first-line (Node l (Comment t) f s) = first-line s
first-line (Node l (Instruction m t) f s) = first-line s

second-line : {L : Type 0} (f : Forest L) → slice_index (drop 1 (elements_at_top (without_lines f))) 0 ≡ 0
second-line Empty = refl
second-line (Node l (Element m a) f s) = first-line s
second-line (Node l (Text t) f s) = second-line s
second-line (Node l (Comment t) f s) = second-line s
second-line (Node l (Instruction m t) f s) = second-line s

no-text-faults : {L : Type 0} (f : Forest L) → AreNoTexts f → text_faults (without_lines f) ≡ []
no-text-faults Empty h = refl
no-text-faults (Node l (Element m a) f s) h = no-text-faults s h
no-text-faults (Node l (Text t) f s) h = absurd h
no-text-faults (Node l (Comment t) f s) h = no-text-faults s h
no-text-faults (Node l (Instruction m t) f s) h = no-text-faults s h

-- behind others that have no text
texts-behind : {L : Type 0} (f g : Forest L) → AreNoTexts f → text_faults (without_lines (met f g)) ≡ text_faults (without_lines g)
texts-behind Empty g h = refl
texts-behind (Node l (Element m a) f Empty) g h = refl
texts-behind (Node l (Text t) f s) g h = absurd h
texts-behind (Node l (Comment t) f Empty) g h = refl
texts-behind (Node l (Instruction m t) f Empty) g h = refl
texts-behind (Node l (Element m a) f (Node k d r s)) g h = texts-behind (Node k d r s) g h
texts-behind (Node l (Comment t) f (Node k d r s)) g h = texts-behind (Node k d r s) g h
texts-behind (Node l (Instruction m t) f (Node k d r s)) g h = texts-behind (Node k d r s) g h

-- before others that have no text
texts-ahead : {L : Type 0} (f g : Forest L) → AreNoTexts g → text_faults (without_lines (met f g)) ≡ text_faults (without_lines f)
texts-ahead Empty g h = no-text-faults g h
texts-ahead (Node l (Element m a) f Empty) g h = no-text-faults g h
texts-ahead (Node l (Comment t) f Empty) g h = no-text-faults g h
texts-ahead (Node l (Instruction m t) f Empty) g h = no-text-faults g h
texts-ahead (Node l (Text t) f Empty) Empty h = refl
texts-ahead (Node l (Text t) f Empty) (Node k (Element m a) r s) h = ap (λ xs. fault_if (not (list_all is_space t)) 9 0 ++ xs) (no-text-faults s h)
texts-ahead (Node l (Text t) f Empty) (Node k (Text u) r s) h = absurd h
texts-ahead (Node l (Text t) f Empty) (Node k (Comment u) r s) h = ap (λ xs. fault_if (not (list_all is_space t)) 9 0 ++ xs) (no-text-faults s h)
texts-ahead (Node l (Text t) f Empty) (Node k (Instruction m u) r s) h = ap (λ xs. fault_if (not (list_all is_space t)) 9 0 ++ xs) (no-text-faults s h)
texts-ahead (Node l (Element m a) f (Node k d r s)) g h = texts-ahead (Node k d r s) g h
texts-ahead (Node l (Text t) f (Node k d r s)) g h = ap (λ xs. fault_if (not (list_all is_space t)) 9 0 ++ xs) (texts-ahead (Node k d r s) g h)
texts-ahead (Node l (Comment t) f (Node k d r s)) g h = texts-ahead (Node k d r s) g h
texts-ahead (Node l (Instruction m t) f (Node k d r s)) g h = texts-ahead (Node k d r s) g h

both-none : {A : Type 0} (xs ys : List A) → xs ≡ [] → ys ≡ [] → xs ++ ys ≡ []
both-none xs ys e h = (λ i. e i ++ ys) ∙ h

top-none : {L : Type 0} (f : Forest L) → IsTop f → top_faults (Some 0) (without_lines f) ≡ []
top-none f t =
    let lines = elements_at_top (without_lines f) in
    let line = slice_index (drop (1 - 0) lines) 0 in
    let one : 0 + length lines ≡ 1 = let count = top-count f in let is = t.one in omega arith in
    both-none (element_faults 0 lines) (text_faults (without_lines f)) (ap (λ n. fault_if (not (n == 1)) 9 line) one) (no-text-faults f t.no_texts)

-- among the siblings at the top, one of which is an element
top-among : {L : Type 0} (n : ℕ) (nodes f : Forest L) → IsTop f
    → top_faults (Some 0) (without_lines (inserted n nodes f)) ≡ top_faults (Some 1) (without_lines nodes)
top-among n nodes f t =
    let before = first_siblings n f in
    let after = later_siblings n f in
    let whole = inserted n nodes f in
    let parts = no-texts-parts before after (subst AreNoTexts (sym (first-later n f)) t.no_texts) in
    let all : element_count f ≡ element_count before + element_count after =
    ap element_count (sym (first-later n f)) ∙ elements-followed before after in
    let outer = elements-met before (met nodes after) in
    let inner = elements-met nodes after in
    let one = t.one in
    let now = top-count whole in
    let own = top-count nodes in
    let count : 0 + length (elements_at_top (without_lines whole)) ≡ 1 + length (elements_at_top (without_lines nodes)) = omega arith in
    let texts : text_faults (without_lines whole) ≡ text_faults (without_lines nodes) =
    texts-behind before (met nodes after) parts.0 ∙ texts-ahead nodes after parts.1 in
    λ i. fault_if (not (count i == 1)) 9 ((second-line whole ∙ sym (first-line nodes)) i) ++ texts i

some-in : (c : Content) (around : Around ℕ) → content_in (Some c) around ≡ None → ⊥
some-in c Here e = cc
some-in c (Below before l d inner after) e = some-in d inner e

beside-none : (next : Found ℕ) (parent : Parent) (o : Option Content) → parent_by o next ≡ Some parent → (o ≡ None → ⊥) → elements_beside parent ≡ None
beside-none next parent None e some = absurd (some refl)
beside-none next parent (Some (Element m a)) e some = ap elements_beside (sym (some_same (parents.Element (depth_of next)) parent e))
beside-none next parent (Some (Text t)) e some = absurd (cc)
beside-none next parent (Some (Comment t)) e some = absurd (cc)
beside-none next parent (Some (Instruction m t)) e some = absurd (cc)

top-judged : (into : Around ℕ) (n : ℕ) (nodes siblings : Forest ℕ) (next : Found ℕ) (parent : Parent) → parent_by next.content next ≡ Some parent
    → next.content ≡ content_in None into → (next.content ≡ None → element_count next.children ≡ 1) → IsTop (filled into siblings)
    → top_faults (Some 0) (without_lines (filled into (inserted n nodes siblings))) ≡ top_faults (elements_beside parent) (without_lines nodes)
top-judged Here n nodes siblings next parent stands own one t =
    top-among n nodes siblings t ∙ ap (λ k. top_faults (Some k) (without_lines nodes)) (sym (one own))
    ∙ ap (λ p. top_faults (elements_beside p) (without_lines nodes)) (root-parent next parent stands own)
top-judged (Below front k d inner behind) n nodes siblings next parent stands own one t =
    top-none (filled (Below front k d inner behind) (inserted n nodes siblings))
    (top-below front k d (filled inner siblings) (filled inner (inserted n nodes siblings)) behind t)
    ∙ ap (λ o. top_faults o (without_lines nodes)) (sym (beside-none next parent next.content stands (λ e. some-in d inner (sym own ∙ e))))

-- ---- How deep the new parent stands

fit-lines : {L : Type 0} (d : ℕ) (f : Forest L) → ElementsFit d (without_lines f) → ElementsFit d f
fit-lines d Empty h = tt
fit-lines d (Node l c f s) h = (h.0, fit-lines (d + 1) f h.1, fit-lines d s h.2)

module _ (first : ℕ) (document : Document ℕ) (from to : Spot) (old node next : Found ℕ) (at : Place document from old node)
    (c : Carrying document from to old node next at) (parent : Parent) (stands : parent_by next.content next ≡ Some parent)
    (valid : IsValid document.nodes) (normal : IsNormal document.nodes) where
  left : IsFaultless (filled c.into c.siblings)
  left = left-faultless document from to old node next at c (above-by next parent stands) normal (faultless-of document.nodes valid)

  level : depth_of next ≡ steps c.into
  level = ap length c.above ∙ levels-steps c.into

  fits : steps c.into ≤ greatest_depth
  fits =
      let there = (λ i. parent_in (sym c.own i) (length (sym c.above i)) (element_count next.children)) ∙ parent_same next.content next ∙ stands in
      let p = parent-at c.into c.siblings (element_count next.children) parent there
      (fit-lines 1 (filled c.into c.siblings) (unfaulted-fit root_scope 1 (without_lines (filled c.into c.siblings))
      (fine-to root_scope 1 (filled c.into c.siblings) left.fine))) in
      let depth = p.depth in
      let most = p.most in
      omega arith

  abbrev numbers : List Fault
  numbers =
      cond (keeps_labels old next) []
      (number_faults first (map (λ l. l.first) (labels (kept (elements_beside parent) (without_lines (tree at))))))

  nodes-judged : node_faults root_scope 1 (without_lines (carried from to old (tree at) document))
      ≡ node_faults (scope_at next) (depth_of next + 1) (without_lines (tree at))
  nodes-judged =
      let above : IsAbove (content_in None c.into) = subst IsAbove c.own (above-by next parent stands) in
      let siblings = normal-in None c.into c.siblings above (left-normal document from to old node next at c normal) in
      let depth = level in
      let same : 1 + steps c.into ≡ depth_of next + 1 = omega arith in
      ap (λ f. node_faults root_scope 1 (without_lines f)) (c.carried_is (tree at))
      ∙ faults-inserted c.into (to.position - 1) c.siblings (tree at) left.fine siblings (parts_of document from old node at normal).alone
      ∙ (λ i. node_faults (scope_of root_scope (sym c.above i)) (same i) (without_lines (tree at)))

  tops-judged : top_faults (Some 0) (without_lines (carried from to old (tree at) document))
      ≡ top_faults (elements_beside parent) (without_lines (tree at))
  tops-judged =
      ap (λ f. top_faults (Some 0) (without_lines f)) (c.carried_is (tree at))
      ∙ top-judged c.into (to.position - 1) (tree at) c.siblings next parent stands c.own (λ e. ap element_count (c.top e) ∙ valid.one_element) left.top

  pub between-judged : least (move_faults (keeps_labels old next) first (elements_beside parent) next (tree at))
      ≡ least ((top_faults (Some 0) (without_lines (carried from to old (tree at) document))
      ++ node_faults root_scope 1 (without_lines (carried from to old (tree at) document))) ++ numbers)
  between-judged =
      let depth = level in
      let most = fits in
      height-judged (scope_at next) next (tree at) (top_faults (elements_beside parent) (without_lines (tree at))) numbers
      (parts_of document from old node at normal).alone (omega arith)
      ∙ (λ i. least ((sym tops-judged i ++ sym nodes-judged i) ++ numbers))

-- ---- The answer

same-itself : (entries : List (List ℕ × List ℕ)) → same_entries entries entries ≡ true
same-itself [] = refl
same-itself (a ∷ more) =
    let prefix = (bytes_eq-Decides a.0 a.0).1 refl in
    let uri = (bytes_eq-Decides a.1 a.1).1 refl in
    λ i. (prefix i && uri i) && same-itself more i

keeps-itself : (x : Found ℕ) → keeps_labels x x ≡ true
keeps-itself x = λ i. same-itself (entries (scope_at x)) i && truth (preserves x.above) i
  where
    truth : (b : Bool) → same_truth b b ≡ true
    truth true = refl
    truth false = refl

answer-by : (xs ys : List Fault) (r : Result (Edited ℕ) Fault) → least xs ≡ least ys → answer_of xs r ≡ answer_of ys r
answer-by xs ys r e = ap (λ o. elim o as (λ _. Result (Edited ℕ) Fault) [ None ↦ r | Some fault ↦ Err fault ]) e

module _ (first : ℕ) (p q : ℕ) (ps qs : List ℕ) (document : Document ℕ) (old node next : Found ℕ) (content : Content) (parent : Parent)
    (valid : IsValid document.nodes) (normal : IsNormal document.nodes) (at : node_at document (p ∷ ps) ≡ Some node) (is : node.content ≡ Some content)
    (there : node_at document (spot_from p ps).above ≡ Some old) (way : node_at document (spot_from q qs).above ≡ Some next)
    (stands : parent_by next.content next ≡ Some parent) (position : IsTrue (is_position (spot_from q qs).position next.children))
    (through : goes_through (spot_from q qs).above (p ∷ ps) ≡ false) where
  abbrev from : Spot
  from = spot_from p ps

  abbrev to : Spot
  to = spot_from q qs

  abbrev here : Result (Edited ℕ) Fault
  here = moved_at same_nodes first (p ∷ ps) from to document (tree_of node content)

  abbrev still : Edited ℕ
  still = record { nodes = document.nodes; made = 0 }

  child : child_at old.above old.children from.position ≡ Some node
  child = sym (ap (option_and_then (λ y. child_at y.above y.children from.position)) there) ∙ sym (path-spot p ps (root_of document)) ∙ at

  below : Place document from old node
  below = place document from old node there child

  same-tree : tree_of node content ≡ tree below
  same-tree =
      let contents : content ≡ below.content = some_same content below.content (sym is ∙ ap (λ n. n.content) below.is) in
      λ i. Node ((below.is i).label) (contents i) ((below.is i).children) Empty

  -- the paths are such as a move has
  answer : moved_nodes first (p ∷ ps) (q ∷ qs) document ≡ cond (is_path (p ∷ ps) (q ∷ qs)) (answered still) here
  answer =
      let there : Result (Edited ℕ) Fault = moved_there same_nodes first (p ∷ ps) (q ∷ qs) document in
      let change : Found ℕ → Content → Result (Edited ℕ) Fault = λ n c. moved_at same_nodes first (p ∷ ps) from to document (tree_of n c) in
      let origin : origin_faults document (p ∷ ps) ≡ [] = ap (λ o. fault_if (is_none o) 6 0) at in
      let target : target_faults document (Some to) ≡ [] =
      ap (parent_faults to) way ∙ ap (position_faults to next) stands ∙ ap (λ b. fault_if (not b) 6 0) position in
      (λ i. answer_of (origin i ++ target i) (cond (is_path (p ∷ ps) (q ∷ qs)) (answered still) there))
      ∙ ap (cond (is_path (p ∷ ps) (q ∷ qs)) (answered still)) (ap (by_node change) at ∙ ap (by_content change node) is)

  -- ---- Within one parent

  abbrev among : Forest ℕ
  among = children_changed (rearranged (from.position - 1) (to.position - 1) (tree below)) from.above document.nodes

  none-within : is_path from.above to.above ≡ true → faults_moving first from to old next (tree below) parent document ≡ []
  none-within e =
      let new : Edited ℕ = record { nodes = among; made = 0 } in
      let f = faultless first document new (moves-within first document new normal from to old node below refl) normal (faultless-of document.nodes valid) in
      let paths = (bytes_eq-Decides from.above to.above).0 e in
      let same : old ≡ next = some_same old next (sym there ∙ ap (node_at document) paths ∙ way) in
      let keeps : keeps_labels old next ≡ true = ap (λ x. keeps_labels old x) (sym same) ∙ keeps-itself old in
      let numbers = number_faults first (map (λ l. l.first) (labels (kept (elements_beside parent) (without_lines (tree below))))) in
      (λ i. (top_faults (Some 0) (without_lines (cond (e i) among (carried from to old (tree below) document)))
      ++ node_faults root_scope 1 (without_lines (cond (e i) among (carried from to old (tree below) document)))) ++ cond (keeps i) [] numbers)
      ∙ (λ i. (top-none among f.top i ++ fine-to root_scope 1 among f.fine i) ++ [])

  within-judged : is_path from.above to.above ≡ true
      → IsJudged (moved_nodes first (p ∷ ps) (q ∷ qs) document) (faults_moving first from to old next (tree below) parent document)
  within-judged e = by (is_path (p ∷ ps) (q ∷ qs)) refl
    where
      none : faults_moving first from to old next (tree below) parent document ≡ []
      none = none-within e

      new : Edited ℕ
      new = record {
        nodes = children_changed (rearranged (from.position - 1) (to.position - 1) (tree_of node content)) from.above document.nodes;
        made = 0;
      }

      by : (b : Bool) → is_path (p ∷ ps) (q ∷ qs) ≡ b
          → IsJudged (moved_nodes first (p ∷ ps) (q ∷ qs) document) (faults_moving first from to old next (tree below) parent document)
      by true same =
          record {
            new = still;
            is = answer ∙ ap (λ b. cond b (answered still) here) same ∙ ap (λ faults. answer_of faults (answered still)) (sym none);
          }
      by false apart =
          let other = moved_from same_nodes first (p ∷ ps) from to document (tree_of node content) (node_at document from.above) (node_at document to.above) in
          record {
            new = new;
            is = answer ∙ ap (λ b. cond b (answered still) here) apart ∙ ap (λ b. cond b (answered new) other) e
                ∙ ap (λ faults. answer_of faults (answered new)) (sym none);
          }

  -- ---- To another parent

  different : is_path from.above to.above ≡ false → is_path (p ∷ ps) (q ∷ qs) ≡ false
  different apart = by (is_path (p ∷ ps) (q ∷ qs)) refl
    where
      above-of : List ℕ → List ℕ
      above-of [] = []
      above-of (n ∷ ns) = (spot_from n ns).above

      by : (b : Bool) → is_path (p ∷ ps) (q ∷ qs) ≡ b → is_path (p ∷ ps) (q ∷ qs) ≡ false
      by true e =
          let paths : p ∷ ps ≡ q ∷ qs = (bytes_eq-Decides (p ∷ ps) (q ∷ qs)).0 e in
          let above : from.above ≡ to.above = ap above-of paths in
          let no : true ≡ false = sym ((bytes_eq-Decides from.above to.above).1 above) ∙ apart in absurd (cc)
      by false e = e

  other-judged : is_path from.above to.above ≡ false
      → IsJudged (moved_nodes first (p ∷ ps) (q ∷ qs) document) (faults_moving first from to old next (tree below) parent document)
  other-judged apart =
      let c = carrying-by document p ps to old node next there child way below normal (above-by next parent stands) apart through in
      let keeps = keeps_labels old next in
      let beside = elements_beside parent in
      let t = tree below in
      let made = with_placed from to old document (placed same_nodes keeps first (kept beside t)) in
      let along = moved_between same_nodes first (p ∷ ps) from to document old next t in
      let numbers = cond keeps [] (number_faults first (map (λ l. l.first) (labels (kept beside (without_lines t))))) in
      let whole : Forest ℕ → List Fault = λ f. (top_faults (Some 0) (without_lines f) ++ node_faults root_scope 1 (without_lines f)) ++ numbers in
      record {
        new = made;
        is = answer ∙ ap (λ b. cond b (answered still) here) (different apart)
            ∙ ap (moved_at same_nodes first (p ∷ ps) from to document) same-tree
            ∙ ap (λ b. cond b (answered (record { nodes = among; made = 0 }))
            (moved_from same_nodes first (p ∷ ps) from to document t (node_at document from.above) (node_at document to.above))) apart
            ∙ (λ i. moved_from same_nodes first (p ∷ ps) from to document t (there i) (way i))
            ∙ ap along stands
            ∙ ap (λ b. cond b (refused 15) (moved_below same_nodes first from to document old next t parent)) through
            ∙ answer-by (move_faults keeps first beside next t) (whole (carried from to old t document)) (answered made)
            (between-judged first document from to old node next below c parent stands valid normal)
            ∙ ap (λ b. answer_of (whole (cond b among (carried from to old t document))) (answered made)) (sym apart);
      }

  pub judged-there : IsJudged (moved_nodes first (p ∷ ps) (q ∷ qs) document) (faults_moving first from to old next (tree_of node content) parent document)
  judged-there =
      subst (λ t. IsJudged (moved_nodes first (p ∷ ps) (q ∷ qs) document) (faults_moving first from to old next t parent document)) (sym same-tree)
      (by (is_path from.above to.above) refl)
    where
      by : (b : Bool) → is_path from.above to.above ≡ b
          → IsJudged (moved_nodes first (p ∷ ps) (q ∷ qs) document) (faults_moving first from to old next (tree below) parent document)
      by true e = within-judged e
      by false e = other-judged e

pub move_judged : (first : ℕ) (path other : List ℕ) (document : Document ℕ) (from to : Spot) (old node new : Found ℕ) (content : Content)
    (parent : Parent) (fault : Fault)
    → IsValid document.nodes → IsNormal document.nodes → spot_of path ≡ Some from → spot_of other ≡ Some to
    → node_at document path ≡ Some node → node.content ≡ Some content
    → node_at document from.above ≡ Some old → node_at document to.above ≡ Some new
    → parent_by new.content new ≡ Some parent → IsTrue (is_position to.position new.children) → goes_through to.above path ≡ false
    → (moved_nodes first path other document ≡ Err fault)
    ↔ (least (faults_moving first from to old new (tree_of node content) parent document) ≡ Some fault)
move_judged first [] other document from to old node new content parent fault valid normal spot goal at is there way stands position through = absurd (cc)
move_judged first (p ∷ ps) [] document from to old node new content parent fault valid normal spot goal at is there way stands position through =
    absurd (cc)
move_judged first (p ∷ ps) (q ∷ qs) document from to old node new content parent fault valid normal spot goal at is there way stands position through =
    let origin = some_same (spot_from p ps) from spot in
    let target = some_same (spot_from q qs) to goal in
    judged_err (moved_nodes first (p ∷ ps) (q ∷ qs) document) (faults_moving first from to old new (tree_of node content) parent document) fault
    (subst (λ s. IsJudged (moved_nodes first (p ∷ ps) (q ∷ qs) document) (faults_moving first s to old new (tree_of node content) parent document)) origin
    (subst (λ s. IsJudged (moved_nodes first (p ∷ ps) (q ∷ qs) document)
    (faults_moving first (spot_from p ps) s old new (tree_of node content) parent document)) target
    (judged-there first p q ps qs document old node new content parent valid normal at is
    (ap (λ s. node_at document s.above) origin ∙ there) (ap (λ s. node_at document s.above) target ∙ way) stands
    (ap (λ s. is_position s.position new.children) target ∙ position) (ap (λ s. goes_through s.above (p ∷ ps)) target ∙ through))))
