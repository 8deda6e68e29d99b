-- What is judged at the node alone is what the whole document would be judged by.
use Rattle.std.proofs.Common.{◌≡◌, arith, ℕ, suc, ◌+◌, ◌-◌, Bool, true, false, cond, List, [], ◌∷◌, ◌++◌, Option, None, Some, refl}
use Rattle.std.proofs.Common.{sym, ap, ◌∙◌, subst, map, append_assoc, append-nil}
use Rattle.std.specs.Prelude.{Result, Ok, Err, ◌↔◌}
use Rattle.std.specs.List.{list_all, list_any}
use Rattle.spec_document.specs.Character.{is_char}
use Rattle.spec_document.specs.Scope.{Scope, root_scope}
use Rattle.spec_document.specs.Forest.{Written, Content, Element, Text, Comment, Instruction, Forest, Empty, Node, Document}
use Rattle.spec_document.specs.Forest.{plain, labels, size, numbered, followed}
use Rattle.spec_document.specs.Declaration.{within, scope_of}
use Rattle.spec_document.specs.Place.{Found, found_in, node_at}
use Rattle.spec_document.specs.Fault.{Fault, answer_of, least}
use Rattle.spec_document.specs.NodeFaults.{content_faults, node_faults}
use Rattle.spec_document.specs.Numbering.{number_faults}
use Rattle.spec_document.specs.Balance.{alone}
use Rattle.spec_edit.specs.Splice.{Spot, spot_of, spot_from, replaced, children_changed}
use Rattle.spec_edit.specs.Edit.{Edit, Insert, Delete, SetText, SetAttribute, RemoveAttribute, Rename, Edited, edited_nodes, without_lines, by_content, by_node}
use Rattle.spec_edit.specs.Edit.{tree_with, tree_faults, renewed, with_content, with_element, makes_anew, is_named, with_attribute, without_attribute}
use Rattle.spec_edit.specs.Edit.{attributes_changed, attribute_set, attribute_removed, renamed, refused, depth_of}
use Rattle.spec_edit.specs.Valid.{IsValid}
use Rattle.spec_edit.specs.Judged.{path_of, content_by, faults_with}
use Rattle.spec_edit.proofs.Around.{Around, Here, Below, filled, above_in, IsSite, site, some_same}
use Rattle.spec_edit.proofs.Shapes.{scope_in, levels_in, AreSet, is_set, is_removed, same_nodes, answered}
use Rattle.spec_edit.proofs.Depths.{steps, levels-steps}
use Rattle.spec_edit.proofs.Faultless.{AreFine, fine-of, fine-to, fine-in, fine-parts, same-scope}

-- ---- Faults of siblings and others after them, and of a forest around siblings

faults-followed : {L : Type 0} (scope : Scope) (d : ℕ) (f g : Forest L)
    → node_faults scope d (without_lines (followed f g)) ≡ node_faults scope d (without_lines f) ++ node_faults scope d (without_lines g)
faults-followed scope d Empty g = refl
faults-followed scope d (Node l c f s) g =
    let own = content_faults (within c scope) d (alone 0) c ++ node_faults (within c scope) (d + 1) (without_lines f) in
    ap (λ xs. own ++ xs) (faults-followed scope d s g)
    ∙ sym (append_assoc own (node_faults scope d (without_lines s)) (node_faults scope d (without_lines g)))

-- one node among others that have none
faults-one : {L : Type 0} (scope : Scope) (d : ℕ) (before : Forest L) (l : L) (c : Content) (f after : Forest L) → AreFine scope d before
    → AreFine scope d after → node_faults scope d (without_lines (followed before (Node l c f after)))
    ≡ content_faults (within c scope) d (alone 0) c ++ node_faults (within c scope) (d + 1) (without_lines f)
faults-one scope d before l c f after h k =
    let own = content_faults (within c scope) d (alone 0) c ++ node_faults (within c scope) (d + 1) (without_lines f) in
    faults-followed scope d before (Node l c f after) ∙ (λ i. fine-to scope d before h i ++ (own ++ fine-to scope d after k i)) ∙ append-nil own

faults-filled : {L : Type 0} (above : List Content) (d : ℕ) (around : Around L) (f g : Forest L) → AreFine (scope_of root_scope above) d (filled around f)
    → node_faults (scope_of root_scope above) d (without_lines (filled around g))
    ≡ node_faults (scope_of root_scope (above_in above around)) (d + steps around) (without_lines g)
faults-filled above d Here f g h =
    let same : d ≡ d + 0 = omega arith in ap (λ n. node_faults (scope_of root_scope above) n (without_lines g)) same
faults-filled above d (Below before l c inner after) f g h =
    let scope = scope_of root_scope above in
    let parts = fine-parts scope d before (Node l c (filled inner f) after) h in
    let same : d + 1 + steps inner ≡ d + (1 + steps inner) = omega arith in
    let below = faults-filled (c ∷ above) (d + 1) inner f g parts.1.1 in
    faults-one scope d before l c (filled inner g) after parts.0 parts.1.2
    ∙ (λ i. parts.1.0 i ++ node_faults (within c scope) (d + 1) (without_lines (filled inner g))) ∙ below
    ∙ ap (λ n. node_faults (scope_of root_scope (above_in (c ∷ above) inner)) n (without_lines g)) same

without-plain : {L : Type 0} (f : Forest L) → without_lines (plain f) ≡ without_lines f
without-plain Empty = refl
without-plain (Node l c f s) = λ i. Node (alone 0) c (without-plain f i) (without-plain s i)

-- ---- Answers

answer_err : {A : Type 0} (faults : List Fault) (x : A) (fault : Fault) → (answer_of faults (Ok x) ≡ Err fault) ↔ (least faults ≡ Some fault)
answer_err [] x fault = (λ e. absurd (cc), λ e. absurd (cc))
answer_err {A} (f ∷ fs) x fault = (λ e. ap (fault_of (least (f ∷ fs))) e, λ e. ap (elim_of x) e)
  where
    fault_of : Option Fault → Result A Fault → Option Fault
    fault_of other (Err g) = Some g
    fault_of other (Ok y) = other

    elim_of : A → Option Fault → Result A Fault
    elim_of y None = Ok y
    elim_of y (Some g) = Err g

-- the answer is judged by these faults
pub record IsJudged (answer : Result (Edited ℕ) Fault) (faults : List Fault) : Type 0 where
  pub new : Edited ℕ
  pub is : answer ≡ answer_of faults (Ok new)

pub judged_err : (answer : Result (Edited ℕ) Fault) (faults : List Fault) (fault : Fault) → IsJudged answer faults
    → (answer ≡ Err fault) ↔ (least faults ≡ Some fault)
judged_err answer faults fault j =
    let both = answer_err faults j.new fault in (λ e. both.0 (sym j.is ∙ e), λ e. j.is ∙ both.1 e)

module _ (first : ℕ) (document : Document ℕ) (fine : AreFine root_scope 1 document.nodes) where
  abbrev here : {spot : Spot} {x : Found ℕ} → IsSite document spot x → Found ℕ
  here s = found_in (above_in [] s.around) s.label s.content s.children

  abbrev whole_faults : Spot → Content → List Fault
  whole_faults spot content = node_faults root_scope 1 (without_lines (with_content spot document content).nodes)

  -- the faults of the whole document are those of the node and what is below it
  whole-is : (spot : Spot) (x : Found ℕ) (s : IsSite document spot x) (content : Content)
      → whole_faults spot content
      ≡ content_faults (within content (scope_in s.around)) (suc (levels_in s.around)) (alone 0) content
      ++ node_faults (within content (scope_in s.around)) (suc (levels_in s.around) + 1) (without_lines s.children)
  whole-is spot x s content =
      let scope = scope_in s.around in
      let d = 1 + steps s.around in
      let node = followed s.before (Node s.label s.content s.children s.after) in
      let other = followed s.before (Node s.label content s.children s.after) in
      let filled-fine = subst (AreFine root_scope 1) s.whole fine in
      let parts = fine-parts scope d s.before (Node s.label s.content s.children s.after) (fine-in [] 1 s.around node filled-fine) in
      let levels = levels-steps s.around in
      let same : d ≡ suc (levels_in s.around) = omega arith in
      ap (λ f. node_faults root_scope 1 (without_lines f)) (s.content_is content)
      ∙ faults-filled [] 1 s.around node other filled-fine
      ∙ faults-one scope d s.before s.label content s.children s.after parts.0 parts.1.2
      ∙ ap (λ n. content_faults (within content scope) n (alone 0) content ++ node_faults (within content scope) (n + 1) (without_lines s.children)) same

  tree-is : (spot : Spot) (x : Found ℕ) (s : IsSite document spot x) (content : Content)
      → tree_faults first (here s) (tree_with content (here s))
      ≡ whole_faults spot content ++ number_faults first (map (λ l. l.first) (labels (without_lines (tree_with content (here s)))))
  tree-is spot x s content =
      let scope = scope_in s.around in
      let n = suc (levels_in s.around) in
      let own = content_faults (within content scope) n (alone 0) content in
      let numbers = number_faults first (map (λ l. l.first) (labels (without_lines (tree_with content (here s))))) in
      ap (λ xs. xs ++ numbers) (append-nil (own ++ node_faults (within content scope) (n + 1) (without_lines (plain s.children)))
      ∙ ap (λ f. own ++ node_faults (within content scope) (n + 1) f) (without-plain s.children) ∙ sym (whole-is spot x s content))

  element-is : (spot : Spot) (x : Found ℕ) (s : IsSite document spot x) (own name : List ℕ) (old more : List Written) → s.content ≡ Element own old
      → makes_anew name ≡ false → AreSet name old more
      → content_faults (within (Element own more) (scope_in s.around)) (depth_of (here s)) (alone 0) (Element own more)
      ≡ whole_faults spot (Element own more) ++ []
  element-is spot x s own name old more is apart set =
      let scope = scope_in s.around in
      let n = suc (levels_in s.around) in
      let d = 1 + steps s.around in
      let content = Element own more in
      let node = followed s.before (Node s.label s.content s.children s.after) in
      let filled-fine = subst (AreFine root_scope 1) s.whole fine in
      let parts = fine-parts scope d s.before (Node s.label s.content s.children s.after) (fine-in [] 1 s.around node filled-fine) in
      let levels = levels-steps s.around in
      let same : d + 1 ≡ n + 1 = omega arith in
      let scopes : within s.content scope ≡ within content scope = ap (λ c. within c scope) is ∙ sym (same-scope own name old more scope apart set) in
      let none : node_faults (within content scope) (n + 1) (without_lines s.children) ≡ [] =
      fine-to (within content scope) (n + 1) s.children (subst (λ m. AreFine (within content scope) m s.children) same
      (subst (λ sc. AreFine sc (d + 1) s.children) scopes parts.1.1)) in
      let faults = content_faults (within content scope) n (alone 0) content in
      sym (append-nil faults) ∙ ap (λ xs. faults ++ xs) (sym none) ∙ sym (whole-is spot x s content)
      ∙ sym (append-nil (whole_faults spot content))

  -- ---- Each edit

  renewed-judged : (spot : Spot) (x : Found ℕ) (s : IsSite document spot x) (content : Content)
      → IsJudged (renewed same_nodes first spot document (here s) content)
      (whole_faults spot content ++ number_faults first (map (λ l. l.first) (labels (without_lines (tree_with content (here s))))))
  renewed-judged spot x s content =
      let tree = tree_with content (here s) in
      let new : Edited ℕ = record {
        nodes = children_changed (replaced (spot.position - 1) spot.position (numbered first tree)) spot.above document.nodes;
        made = size tree;
      } in
      record { new = new; is = ap (λ faults. answer_of faults (answered new)) (tree-is spot x s content) }

  attributes-judged : (spot : Spot) (x : Found ℕ) (s : IsSite document spot x) (own name : List ℕ) (old more : List Written)
      → s.content ≡ Element own old → AreSet name old more → (b : Bool) → makes_anew name ≡ b
      → IsJudged (cond b (renewed same_nodes first spot document (here s) (Element own more)) (with_element spot document (here s) (Element own more)))
      (whole_faults spot (Element own more)
      ++ cond b (number_faults first (map (λ l. l.first) (labels (without_lines (tree_with (Element own more) (here s)))))) [])
  attributes-judged spot x s own name old more is set true e = renewed-judged spot x s (Element own more)
  attributes-judged spot x s own name old more is set false e =
      let new = with_content spot document (Element own more) in
      record { new = new; is = ap (λ faults. answer_of faults (answered new)) (element-is spot x s own name old more is e set) }

  judged_as : (answer other : Result (Edited ℕ) Fault) (faults : List Fault) → answer ≡ other → IsJudged other faults → IsJudged answer faults
  judged_as answer other faults e j = record { new = j.new; is = e ∙ j.is }

  some_if : (b : Bool) (c d : Content) → cond b (Some c) None ≡ Some d → (b ≡ true) × (c ≡ d)
  some_if true c d e = (refl, some_same c d e)
  some_if false c d e = absurd (cc)

  set-judged : (spot : Spot) (x : Found ℕ) (s : IsSite document spot x) (path name value : List ℕ) (old new : Content) → s.content ≡ old
      → content_by (SetAttribute path name value) old ≡ Some new
      → IsJudged (attribute_set same_nodes first spot document name value (here s) old)
      (faults_with first (SetAttribute path name value) spot document (here s) new)
  set-judged spot x s path name value (Element own attributes) new is e =
      let more = with_attribute name value attributes in
      let i = some_if (list_all is_char value) (Element own more) new e in
      judged_as _ (attributes_changed same_nodes first spot document (here s) name (Element own more)) _
      (ap (λ b. cond b (attributes_changed same_nodes first spot document (here s) name (Element own more)) (refused 8)) i.0)
      (subst (λ c. IsJudged (attributes_changed same_nodes first spot document (here s) name (Element own more))
      (faults_with first (SetAttribute path name value) spot document (here s) c)) i.1
      (attributes-judged spot x s own name attributes more is (is_set value) (makes_anew name) refl))
  set-judged spot x s path name value (Text text) new is e = absurd (cc)
  set-judged spot x s path name value (Comment text) new is e = absurd (cc)
  set-judged spot x s path name value (Instruction target text) new is e = absurd (cc)

  removed-judged : (spot : Spot) (x : Found ℕ) (s : IsSite document spot x) (path name : List ℕ) (old new : Content) → s.content ≡ old
      → content_by (RemoveAttribute path name) old ≡ Some new
      → IsJudged (attribute_removed same_nodes first spot document name (here s) old) (faults_with first (RemoveAttribute path name) spot document (here s) new)
  removed-judged spot x s path name (Element own attributes) new is e =
      let more = without_attribute name attributes in
      let i = some_if (list_any (is_named name) attributes) (Element own more) new e in
      judged_as _ (attributes_changed same_nodes first spot document (here s) name (Element own more)) _
      (ap (λ b. cond b (attributes_changed same_nodes first spot document (here s) name (Element own more)) (refused 6)) i.0)
      (subst (λ c. IsJudged (attributes_changed same_nodes first spot document (here s) name (Element own more))
      (faults_with first (RemoveAttribute path name) spot document (here s) c)) i.1
      (attributes-judged spot x s own name attributes more is (is_removed i.0) (makes_anew name) refl))
  removed-judged spot x s path name (Text text) new is e = absurd (cc)
  removed-judged spot x s path name (Comment text) new is e = absurd (cc)
  removed-judged spot x s path name (Instruction target text) new is e = absurd (cc)

  renamed-judged : (spot : Spot) (x : Found ℕ) (s : IsSite document spot x) (path name : List ℕ) (old new : Content)
      → content_by (Rename path name) old ≡ Some new
      → IsJudged (renamed same_nodes first spot document name (here s) old) (faults_with first (Rename path name) spot document (here s) new)
  renamed-judged spot x s path name (Element own attributes) new e =
      subst (λ c. IsJudged (renewed same_nodes first spot document (here s) (Element name attributes))
      (faults_with first (Rename path name) spot document (here s) c)) (some_same (Element name attributes) new e)
      (renewed-judged spot x s (Element name attributes))
  renamed-judged spot x s path name (Text text) new e = absurd (cc)
  renamed-judged spot x s path name (Comment text) new e = absurd (cc)
  renamed-judged spot x s path name (Instruction target text) new e =
      subst (λ c. IsJudged (renewed same_nodes first spot document (here s) (Instruction name text))
      (faults_with first (Rename path name) spot document (here s) c)) (some_same (Instruction name text) new e)
      (renewed-judged spot x s (Instruction name text))

  -- ---- At a path

  -- what is found there, with this content
  at-site : (change : Found ℕ → Content → Result (Edited ℕ) Fault) (p : ℕ) (ps : List ℕ) (x : Found ℕ) (old : Content) (s : IsSite document (spot_from p ps) x)
      → node_at document (p ∷ ps) ≡ Some x → s.content ≡ old
      → by_node change (node_at document (p ∷ ps)) ≡ change (here s) old
  at-site change p ps x old s e is = ap (by_node change) e ∙ ap (λ y. by_content change y y.content) s.is ∙ ap (change (here s)) is

  old-content : (spot : Spot) (x : Found ℕ) (s : IsSite document spot x) (old : Content) → x.content ≡ Some old → s.content ≡ old
  old-content spot x s old e = some_same s.content old (sym (ap (λ y. y.content) s.is) ∙ e)

  as-found : (edit : Edit) (spot : Spot) (x : Found ℕ) (s : IsSite document spot x) (new : Content) (answer : Result (Edited ℕ) Fault)
      → IsJudged answer (faults_with first edit spot document (here s) new) → IsJudged answer (faults_with first edit spot document x new)
  as-found edit spot x s new answer j = subst (λ y. IsJudged answer (faults_with first edit spot document y new)) (sym s.is) j

  pub judged : (edit : Edit) (spot : Spot) (x : Found ℕ) (old new : Content) → spot_of (path_of edit) ≡ Some spot → node_at document (path_of edit) ≡ Some x
      → x.content ≡ Some old → content_by edit old ≡ Some new
      → IsJudged (edited_nodes first edit document) (faults_with first edit spot document x new)
  judged (Insert path body) spot x old new at e is h = absurd (cc)
  judged (Delete path) spot x old new at e is h = absurd (cc)
  judged (SetText path value) spot x old new at e is h = absurd (cc)
  judged (SetAttribute [] name value) spot x old new at e is h = absurd (cc)
  judged (SetAttribute (p ∷ ps) name value) spot x old new at e is h =
      let edit = SetAttribute (p ∷ ps) name value in
      let there = spot_from p ps in
      let s = site document p ps x e in
      let was = old-content there x s old is in
      subst (λ sp. IsJudged (edited_nodes first edit document) (faults_with first edit sp document x new)) (some_same there spot at)
      (as-found edit there x s new (edited_nodes first edit document)
      (judged_as (edited_nodes first edit document) (attribute_set same_nodes first there document name value (here s) old) _
      (at-site (attribute_set same_nodes first there document name value) p ps x old s e was)
      (set-judged there x s (p ∷ ps) name value old new was h)))
  judged (RemoveAttribute [] name) spot x old new at e is h = absurd (cc)
  judged (RemoveAttribute (p ∷ ps) name) spot x old new at e is h =
      let edit = RemoveAttribute (p ∷ ps) name in
      let there = spot_from p ps in
      let s = site document p ps x e in
      let was = old-content there x s old is in
      subst (λ sp. IsJudged (edited_nodes first edit document) (faults_with first edit sp document x new)) (some_same there spot at)
      (as-found edit there x s new (edited_nodes first edit document)
      (judged_as (edited_nodes first edit document) (attribute_removed same_nodes first there document name (here s) old) _
      (at-site (attribute_removed same_nodes first there document name) p ps x old s e was)
      (removed-judged there x s (p ∷ ps) name old new was h)))
  judged (Rename [] name) spot x old new at e is h = absurd (cc)
  judged (Rename (p ∷ ps) name) spot x old new at e is h =
      let edit = Rename (p ∷ ps) name in
      let there = spot_from p ps in
      let s = site document p ps x e in
      let was = old-content there x s old is in
      subst (λ sp. IsJudged (edited_nodes first edit document) (faults_with first edit sp document x new)) (some_same there spot at)
      (as-found edit there x s new (edited_nodes first edit document)
      (judged_as (edited_nodes first edit document) (renamed same_nodes first there document name (here s) old) _
      (at-site (renamed same_nodes first there document name) p ps x old s e was)
      (renamed-judged there x s (p ∷ ps) name old new h)))

pub judged_whole : (first : ℕ) (edit : Edit) (document : Document ℕ) (spot : Spot) (node : Found ℕ) (old new : Content) (fault : Fault)
    → IsValid document.nodes → spot_of (path_of edit) ≡ Some spot → node_at document (path_of edit) ≡ Some node → node.content ≡ Some old
    → content_by edit old ≡ Some new
    → (edited_nodes first edit document ≡ Err fault) ↔ (least (faults_with first edit spot document node new) ≡ Some fault)
judged_whole first edit document spot node old new fault v at e is h =
    judged_err (edited_nodes first edit document) (faults_with first edit spot document node new) fault
    (judged first document (fine-of root_scope 1 document.nodes v.unfaulted) edit spot node old new at e is h)
