-- What is judged of siblings that are put in, or of a node that goes, is what the whole document would be judged by.
use Rattle.std.proofs.Common.{◌≡◌, ◌≢◌, arith, ℕ, suc, ◌+◌, ◌-◌, ◌==◌, Bool, true, false, cond, List, [], ◌∷◌, ◌++◌, Option, None, Some, refl}
use Rattle.std.proofs.Common.{sym, ap, ◌∙◌, subst, map, length, append_assoc, append-nil}
use Rattle.std.specs.Prelude.{Result, Ok, Err, ◌↔◌, ◌&&◌, IsTrue}
use Rattle.spec_document.specs.declared.parent.Parent.{Parent}
use Rattle.spec_document.specs.Scope.{Scope, root_scope}
use Rattle.spec_document.specs.Forest.{Content, Element, Text, Comment, Instruction, Forest, Empty, Node, Document, plain, labels, size, numbered, followed}
use Rattle.spec_document.specs.Forest.{IsNormal}
use Rattle.spec_document.specs.Declaration.{within, scope_of}
use Rattle.spec_document.specs.Place.{Found, root_of, node_at, scope_at}
use Rattle.spec_document.specs.Fault.{Fault, answer_of, least}
use Rattle.spec_document.specs.NodeFaults.{content_faults, node_faults}
use Rattle.spec_document.specs.Numbering.{number_faults}
use Rattle.spec_document.specs.Top.{top_faults, kept, without_texts}
use Rattle.spec_document.specs.Body.{events_at, line_faults}
use Rattle.spec_document.specs.Balance.{LineNumbers, forest_of, unbalanced_line}
use Rattle.spec_document.specs.Document.{nodes_of, nodes_by, elements_beside, depth_of}
use Rattle.spec_edit.specs.Splice.{Spot, spot_of, spot_from, first_siblings, later_siblings, children_changed, text_before, last_before, met, inserted, deleted}
use Rattle.spec_edit.specs.Edit.{Insert, Delete, Edited, edited_nodes, without_lines, is_element, element_count, parent_by, is_position}
use Rattle.spec_edit.specs.Edit.{inserts, inserted_below, inserted_in, deletes, refused, by_node, by_content}
use Rattle.spec_edit.specs.Valid.{IsValid}
use Rattle.spec_edit.specs.Judged.{faults_inserting}
use Rattle.spec_edit.proofs.Around.{Around, Here, Below, filled, above_in, around_without, without-filled, IsBelow, below, site}
use Rattle.spec_edit.proofs.Around.{first-later, some_same}
use Rattle.spec_edit.proofs.Shapes.{levels_in, parent_same, append_none, same_nodes, answered}
use Rattle.spec_edit.proofs.Depths.{steps, levels-steps, none-above}
use Rattle.spec_edit.proofs.Normal.{normal-alike, normal-parts, normal-in, normal-met, IsAbove, parent-above, read-normal, kept-normal}
use Rattle.spec_edit.proofs.Faultless.{one_of, elements-followed, elements-met, parent-depth}
use Rattle.spec_edit.proofs.Judging.{IsJudged, judged_err}
use Rattle.spec_edit.proofs.Numbers.{unlike}

-- ---- Faults at their lines

pub lines-followed : (scope : Scope) (d : ℕ) (f g : Forest LineNumbers) → node_faults scope d (followed f g) ≡ node_faults scope d f ++ node_faults scope d g
lines-followed scope d Empty g = refl
lines-followed scope d (Node l c f s) g =
    let own = content_faults (within c scope) d l c ++ node_faults (within c scope) (d + 1) f in
    ap (λ xs. own ++ xs) (lines-followed scope d s g) ∙ sym (append_assoc own (node_faults scope d s) (node_faults scope d g))

lines-text : (scope : Scope) (d : ℕ) (l : LineNumbers) (text : List ℕ) (f g : Forest LineNumbers) → IsNormal g
    → node_faults scope d (text_before l text f g) ≡ node_faults scope (d + 1) f ++ node_faults scope d g
lines-text scope d l text f Empty n = refl
lines-text scope d l text f (Node k (Element m a) r s) n = refl
lines-text scope d l text f (Node k (Comment t) r s) n = refl
lines-text scope d l text f (Node k (Instruction m t) r s) n = refl
lines-text scope d l text f (Node k (Text t) r s) n =
    ap (λ h. node_faults scope (d + 1) f ++ (node_faults scope (d + 1) h ++ node_faults scope d s)) (sym n.0)

lines-last : (scope : Scope) (d : ℕ) (l : LineNumbers) (c : Content) (f g : Forest LineNumbers) → IsNormal g
    → node_faults scope d (last_before l c f g) ≡ (content_faults (within c scope) d l c ++ node_faults (within c scope) (d + 1) f) ++ node_faults scope d g
lines-last scope d l (Element m a) f g n = refl
lines-last scope d l (Text t) f g n = lines-text scope d l t f g n
lines-last scope d l (Comment t) f g n = refl
lines-last scope d l (Instruction m t) f g n = refl

lines-met : (scope : Scope) (d : ℕ) (f g : Forest LineNumbers) → IsNormal g → node_faults scope d (met f g) ≡ node_faults scope d f ++ node_faults scope d g
lines-met scope d Empty g n = refl
lines-met scope d (Node l c f Empty) g n =
    let own = content_faults (within c scope) d l c ++ node_faults (within c scope) (d + 1) f in
    lines-last scope d l c f g n ∙ ap (λ xs. xs ++ node_faults scope d g) (sym (append-nil own))
lines-met scope d (Node l c f (Node k e r s)) g n =
    let own = content_faults (within c scope) d l c ++ node_faults (within c scope) (d + 1) f in
    ap (λ xs. own ++ xs) (lines-met scope d (Node k e r s) g n)
    ∙ sym (append_assoc own (node_faults scope d (Node k e r s)) (node_faults scope d g))

-- texts have no faults
lines-without : (scope : Scope) (d : ℕ) (f : Forest LineNumbers) → IsNormal f → node_faults scope d (without_texts f) ≡ node_faults scope d f
lines-without scope d Empty n = refl
lines-without scope d (Node l (Element m a) f s) n =
    let c = Element m a in
    ap (λ xs. (content_faults (within c scope) d l c ++ node_faults (within c scope) (d + 1) f) ++ xs) (lines-without scope d s n.1)
lines-without scope d (Node l (Text t) f s) n =
    lines-without scope d s n.3 ∙ ap (λ h. node_faults scope (d + 1) h ++ node_faults scope d s) (sym n.0)
lines-without scope d (Node l (Comment t) f s) n = ap (λ xs. node_faults scope (d + 1) f ++ xs) (lines-without scope d s n.1)
lines-without scope d (Node l (Instruction m t) f s) n =
    let c = Instruction m t in
    ap (λ xs. (content_faults (within c scope) d l c ++ node_faults (within c scope) (d + 1) f) ++ xs) (lines-without scope d s n.1)

lines-kept : (scope : Scope) (d : ℕ) (others : Option ℕ) (f : Forest LineNumbers) → IsNormal f → node_faults scope d (kept others f) ≡ node_faults scope d f
lines-kept scope d None f n = refl
lines-kept scope d (Some k) f n = lines-without scope d f n

-- siblings in place of others, where there was no fault around
lines-filled : (above : List Content) (d : ℕ) (around : Around LineNumbers) (f g : Forest LineNumbers)
    → node_faults (scope_of root_scope above) d (filled around f) ≡ []
    → node_faults (scope_of root_scope above) d (filled around g) ≡ node_faults (scope_of root_scope (above_in above around)) (d + steps around) g
lines-filled above d Here f g h = let same : d ≡ d + 0 = omega arith in ap (λ n. node_faults (scope_of root_scope above) n g) same
lines-filled above d (Below before l c inner after) f g h =
    let scope = scope_of root_scope above in
    let own = content_faults (within c scope) d l c in
    let was = node_faults (within c scope) (d + 1) (filled inner f) in
    let now = node_faults (within c scope) (d + 1) (filled inner g) in
    let all = append_none (node_faults scope d before) (own ++ was ++ node_faults scope d after)
    (sym (lines-followed scope d before (Node l c (filled inner f) after)) ∙ h) in
    let outer = append_none (own ++ was) (node_faults scope d after) all.1 in
    let inside = append_none own was outer.0 in
    let same : d + 1 + steps inner ≡ d + (1 + steps inner) = omega arith in
    lines-followed scope d before (Node l c (filled inner g) after)
    ∙ (λ i. all.0 i ++ (inside.0 i ++ now ++ outer.1 i)) ∙ append-nil now
    ∙ lines-filled (c ∷ above) (d + 1) inner f g inside.1
    ∙ ap (λ n. node_faults (scope_of root_scope (above_in (c ∷ above) inner)) n g) same

above-without : {L : Type 0} (above : List Content) (around : Around L) → above_in above (around_without around) ≡ above_in above around
above-without above Here = refl
above-without above (Below before l c inner after) = above-without (c ∷ above) inner

steps-without : {L : Type 0} (around : Around L) → steps (around_without around) ≡ steps around
steps-without Here = refl
steps-without (Below before l c inner after) = ap (λ n. 1 + n) (steps-without inner)

plain-without : {L : Type 0} (f : Forest L) → plain (without_lines f) ≡ plain f
plain-without Empty = refl
plain-without (Node l c f s) = λ i. Node tt c (plain-without f i) (plain-without s i)

-- siblings put in where there was no fault
inserted-lines : (around : Around LineNumbers) (n : ℕ) (f nodes : Forest LineNumbers) → node_faults root_scope 1 (filled around f) ≡ []
    → IsNormal f → IsNormal nodes → IsNormal (met nodes (later_siblings n f))
    → node_faults root_scope 1 (filled around (inserted n nodes f)) ≡ node_faults (scope_of root_scope (above_in [] around)) (1 + steps around) nodes
inserted-lines around n f nodes fine normal own both =
    let scope = scope_of root_scope (above_in [] around) in
    let d = 1 + steps around in
    let before = first_siblings n f in
    let after = later_siblings n f in
    let parts = append_none (node_faults scope d before) (node_faults scope d after)
    (sym (lines-followed scope d before after) ∙ ap (node_faults scope d) (first-later n f) ∙ sym (lines-filled [] 1 around f f fine) ∙ fine) in
    let later = normal-parts before after (subst IsNormal (sym (first-later n f)) normal) in
    lines-filled [] 1 around f (inserted n nodes f) fine
    ∙ lines-met scope d before (met nodes after) both
    ∙ (λ i. parts.0 i ++ lines-met scope d nodes after later.1 i)
    ∙ ap (λ xs. node_faults scope d nodes ++ xs) parts.1 ∙ append-nil (node_faults scope d nodes)

-- ---- Insertions

inserts-answer : (first : ℕ) (document : Document ℕ) (spot : Spot) (nodes : Forest ℕ) (faults : List Fault) (read : Result (Forest ℕ) Fault)
    → read ≡ answer_of faults (Ok nodes)
    → inserts same_nodes spot document read ≡ answer_of faults (inserts same_nodes spot document (Ok nodes))
inserts-answer first document spot nodes faults read e = ap (inserts same_nodes spot document) e ∙ by (least faults)
  where
    by : (o : Option Fault) → inserts same_nodes spot document (elim o as (λ _. Result (Forest ℕ) Fault) [ None ↦ Ok nodes | Some fault ↦ Err fault ])
        ≡ elim o as (λ _. Result (Edited ℕ) Fault) [ None ↦ inserts same_nodes spot document (Ok nodes) | Some fault ↦ Err fault ]
    by None = refl
    by (Some fault) = refl

read-answer : (scope : Scope) (first : ℕ) (parent : Parent) (body : List (List ℕ)) (siblings : Forest LineNumbers) → line_faults body ≡ []
    → forest_of (events_at body) ≡ Some siblings
    → nodes_of scope first parent body ≡ nodes_by scope first parent siblings
read-answer scope first parent body siblings lines balanced =
    let make : Option (Forest LineNumbers) → Result (Forest ℕ) Fault = λ o. elim o as (λ _. Result (Forest ℕ) Fault) [
      | None ↦ Err (record { number = 9; line = unbalanced_line None [] (events_at body) })
      | Some forest ↦ nodes_by scope first parent forest
    ] in
    ap (λ faults. answer_of faults (make (forest_of (events_at body)))) lines ∙ ap make balanced

module _ (first : ℕ) (body : List (List ℕ)) (document : Document ℕ) (spot : Spot) (x : Found ℕ) (parent : Parent) (siblings : Forest LineNumbers)
    (valid : IsValid document.nodes) (normal : IsNormal document.nodes) (b : IsBelow (root_of document) spot.above x)
    (stands : parent_by x.content x ≡ Some parent) (place : IsTrue (is_position spot.position x.children))
    (lines : line_faults body ≡ []) (balanced : forest_of (events_at body) ≡ Some siblings) where
  abbrev new : Forest LineNumbers
  new = kept (elements_beside parent) siblings

  abbrev old : Forest LineNumbers
  old = without_lines x.children

  siblings-normal : IsNormal siblings
  siblings-normal = read-normal (events_at body) siblings balanced

  new-normal : IsNormal new
  new-normal = kept-normal (elements_beside parent) siblings siblings-normal

  old-normal : IsNormal old
  old-normal =
      let there = parent_same x.content x ∙ stands in
      let above = subst IsAbove b.content (parent-above x.content (length x.above) (element_count x.children) parent there) in
      normal-alike x.children old (sym (plain-without x.children))
      (normal-in None b.around x.children above (subst IsNormal b.whole normal))

  old-fine : node_faults root_scope 1 (filled (around_without b.around) old) ≡ []
  old-fine = ap (node_faults root_scope 1) (sym (ap without_lines b.whole ∙ without-filled b.around x.children)) ∙ valid.unfaulted

  level : 1 + steps (around_without b.around) ≡ depth_of parent + 1
  level =
      let same = steps-without b.around in
      let levels : length x.above ≡ steps b.around = ap length b.above ∙ levels-steps b.around in
      let depth = parent-depth x.content (length x.above) (element_count x.children) parent (parent_same x.content x ∙ stands)
      (λ e. levels ∙ none-above b.around (sym b.content ∙ e)) in
      omega arith

  scopes : scope_of root_scope (above_in [] (around_without b.around)) ≡ scope_at x
  scopes = ap (scope_of root_scope) (above-without [] b.around ∙ sym b.above)

  whole-faults : node_faults root_scope 1 (children_changed (inserted (spot.position - 1) new) spot.above (without_lines document.nodes))
      ≡ node_faults (scope_at x) (depth_of parent + 1) siblings
  whole-faults =
      let n = spot.position - 1 in
      let after = later_siblings n old in
      let parts = normal-parts (first_siblings n old) after (subst IsNormal (sym (first-later n old)) old-normal) in
      ap (node_faults root_scope 1) (b.lines (inserted n new))
      ∙ inserted-lines (around_without b.around) n old new old-fine old-normal new-normal (normal-met new after new-normal parts.1)
      ∙ (λ i. node_faults (scopes i) (level i) new)
      ∙ lines-kept (scope_at x) (depth_of parent + 1) (elements_beside parent) siblings siblings-normal

  judged-insertion : (path : List ℕ) → spot_of path ≡ Some spot → node_at document spot.above ≡ Some x
      → IsJudged (edited_nodes first (Insert path body) document) (faults_inserting first spot parent siblings document)
  judged-insertion path at e =
      let read = nodes_of (scope_at x) first parent body in
      let nodes = numbered first new in
      let others = elements_beside parent in
      let numbers = number_faults first (map (λ l. l.first) (labels new)) in
      let faults = top_faults others siblings ++ node_faults (scope_at x) (depth_of parent + 1) siblings ++ numbers in
      let made : Edited ℕ = record { nodes = children_changed (inserted (spot.position - 1) nodes) spot.above document.nodes; made = size nodes } in
      let change : Spot → Result (Edited ℕ) Fault = λ spot. inserted_in same_nodes first spot body document (node_at document spot.above) in
      record {
        new = made;
        is = ap (λ o. elim o as (λ _. Result (Edited ℕ) Fault) [ None ↦ refused 7 | Some spot ↦ change spot ]) at
            ∙ ap (inserted_in same_nodes first spot body document) e
            ∙ ap (inserted_below same_nodes first spot body document x) stands
            ∙ ap (λ c. cond c (inserts same_nodes spot document read) (refused 6)) place
            ∙ inserts-answer first document spot nodes faults read (read-answer (scope_at x) first parent body siblings lines balanced)
            ∙ ap (λ xs. answer_of (top_faults others siblings ++ xs ++ numbers) (answered made)) (sym whole-faults);
      }

pub insertion_judged : (first : ℕ) (path : List ℕ) (body : List (List ℕ)) (document : Document ℕ) (spot : Spot) (node : Found ℕ) (parent : Parent)
    (siblings : Forest LineNumbers) (fault : Fault)
    → IsValid document.nodes → IsNormal document.nodes → spot_of path ≡ Some spot → node_at document spot.above ≡ Some node
    → parent_by node.content node ≡ Some parent → IsTrue (is_position spot.position node.children)
    → line_faults body ≡ [] → forest_of (events_at body) ≡ Some siblings
    → (edited_nodes first (Insert path body) document ≡ Err fault) ↔ (least (faults_inserting first spot parent siblings document) ≡ Some fault)
insertion_judged first path body document spot node parent siblings fault valid normal at e stands place lines balanced =
    judged_err (edited_nodes first (Insert path body) document) (faults_inserting first spot parent siblings document) fault
    (judged-insertion first body document spot node parent siblings valid normal (below spot.above (root_of document) node e) stands place lines balanced
    path at e)

-- ---- Deletions

record Decides (around : Around ℕ) (c : Content) (after : Forest ℕ) : Type 0 where
  pub removes : Bool
  pub is : ((suc (levels_in around) == 1) && is_element c) ≡ removes
  pub left : removes ≡ true → element_count after ≢ 1
  pub whole : removes ≡ false → element_count after ≡ 1

decided : (around : Around ℕ) (before : Forest ℕ) (l : ℕ) (c : Content) (f after : Forest ℕ)
    → element_count (filled around (followed before (Node l c f after))) ≡ 1 → Decides around c (filled around (met before after))
decided Here before l c f after one =
    let was = elements-followed before (Node l c f after) in
    let now = elements-met before after in
    record {
      removes = is_element c;
      is = refl;
      left = λ e same. let own : one_of c ≡ 1 = ap (λ b. cond b 1 0) e in omega arith;
      whole = λ e. let own : one_of c ≡ 0 = ap (λ b. cond b 1 0) e in omega arith;
    }
decided (Below front k d inner behind) before l c f after one =
    let around = Below front k d inner behind in
    let levels = levels-steps around in
    let was = elements-followed front (Node k d (filled inner (followed before (Node l c f after))) behind) in
    let now = elements-followed front (Node k d (filled inner (met before after)) behind) in
    record {
      removes = false;
      is = ap (λ b. b && is_element c) (unlike (suc (levels_in around)) 1 (λ same. omega arith));
      left = λ e. absurd (cc);
      whole = λ e. omega arith;
    }

refused_same : (n : ℕ) (fault : Fault) → refused {L = ℕ} n ≡ Err fault → fault ≡ record { number = n; line = 0 }
refused_same n fault e = sym (ap (λ r. elim r [ Err f ↦ f | Ok _ ↦ fault ]) e)

deletion-answer : (b : Bool) (made : Edited ℕ) (count : ℕ) (fault : Fault) → (b ≡ true → count ≢ 1) → (b ≡ false → count ≡ 1)
    → (cond b (refused 9) (answered made) ≡ Err fault) ↔ ((count ≢ 1) × (fault ≡ record { number = 9; line = 0 }))
deletion-answer true made count fault left whole = (λ e. (left refl, refused_same 9 fault e), λ h. ap Err (sym h.1))
deletion-answer false made count fault left whole = (λ e. absurd (cc), λ h. absurd (h.0 (whole refl)))

judged-deletion : (first p : ℕ) (ps : List ℕ) (document : Document ℕ) (x : Found ℕ) (fault : Fault) → IsValid document.nodes
    → node_at document (p ∷ ps) ≡ Some x
    → (edited_nodes first (Delete (p ∷ ps)) document ≡ Err fault)
    ↔ ((element_count (children_changed (deleted ((spot_from p ps).position - 1)) (spot_from p ps).above document.nodes) ≢ 1)
    × (fault ≡ record { number = 9; line = 0 }))
judged-deletion first p ps document x fault valid e =
    let spot = spot_from p ps in
    let s = site document p ps x e in
    let nodes = children_changed (deleted (spot.position - 1)) spot.above document.nodes in
    let made : Edited ℕ = record { nodes = nodes; made = 0 } in
    let d = decided s.around s.before s.label s.content s.children s.after (ap element_count (sym s.whole) ∙ valid.one_element) in
    let change : Found ℕ → Content → Result (Edited ℕ) Fault = deletes spot document in
    let answer : edited_nodes first (Delete (p ∷ ps)) document ≡ cond d.removes (refused 9) (answered made) =
    ap (by_node change) e ∙ ap (λ y. by_content change y y.content) s.is ∙ ap (λ b. cond b (refused 9) (answered made)) d.is in
    let count : element_count (filled s.around (met s.before s.after)) ≡ element_count nodes = ap element_count (sym s.deleted_is) in
    let both = deletion-answer d.removes made (element_count nodes) fault (λ r same. d.left r (count ∙ same)) (λ r. sym count ∙ d.whole r) in
    (λ h. both.0 (sym answer ∙ h), λ h. answer ∙ both.1 h)

pub deletion_judged : (first : ℕ) (path : List ℕ) (document : Document ℕ) (spot : Spot) (node : Found ℕ) (fault : Fault)
    → IsValid document.nodes → spot_of path ≡ Some spot → node_at document path ≡ Some node
    → (edited_nodes first (Delete path) document ≡ Err fault)
    ↔ ((element_count (children_changed (deleted (spot.position - 1)) spot.above document.nodes) ≢ 1) × (fault ≡ record { number = 9; line = 0 }))
deletion_judged first [] document spot node fault valid at e = absurd (cc)
deletion_judged first (p ∷ ps) document spot node fault valid at e =
    subst (λ sp. (edited_nodes first (Delete (p ∷ ps)) document ≡ Err fault)
    ↔ ((element_count (children_changed (deleted (sp.position - 1)) sp.above document.nodes) ≢ 1) × (fault ≡ record { number = 9; line = 0 })))
    (some_same (spot_from p ps) spot at) (judged-deletion first p ps document node fault valid e)
