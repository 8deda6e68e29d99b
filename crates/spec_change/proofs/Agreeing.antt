-- Two edits of one document that answer make the same but for numbers.
use Rattle.std.proofs.Common.{◌≡◌, ℕ, ◌+◌, ◌-◌, ◌==◌, Bool, true, false, cond, List, [], ◌∷◌, Option, None, Some, refl, sym, ap, ◌∙◌}
use Rattle.std.specs.Prelude.{Result, Ok, Err}
use Rattle.std.specs.List.{list_all, list_any}
use Rattle.spec_document.specs.declared.parent.Parent.{Parent}
use Rattle.spec_document.specs.Character.{is_char}
use Rattle.spec_document.specs.Scope.{Scope}
use Rattle.spec_document.specs.Forest.{Content, Element, Text, Comment, Instruction, Plain, Forest, Document, plain, size, numbered}
use Rattle.spec_document.specs.Place.{Found, node_at, scope_at}
use Rattle.spec_document.specs.Fault.{Fault}
use Rattle.spec_document.specs.Top.{kept}
use Rattle.spec_document.specs.Document.{nodes_of, elements_beside}
use Rattle.spec_edit.specs.Splice.{Spot, spot_from, replaced, children_changed, inserted}
use Rattle.spec_edit.specs.Edit.{Edit, Insert, Delete, SetText, SetAttribute, RemoveAttribute, Rename, Edited, without_labels}
use Rattle.spec_edit.specs.Edit.{tree_with, tree_faults, renewed, with_element, inserts, is_position, inserted_below, inserted_in, parent_by, deletes, text_set}
use Rattle.spec_edit.specs.Edit.{makes_anew, is_named, with_attribute, without_attribute, attributes_changed, attribute_set, attribute_removed, renamed}
use Rattle.spec_edit.specs.Edit.{by_content, by_node, at_spot, edited, edited_nodes, edited_plain}
use Rattle.spec_edit.proofs.Around.{some_same}
use Rattle.spec_edit.proofs.Labels.{plain-numbered, plain_edit}
use Rattle.spec_edit.proofs.Numbers.{size-plain, read_nodes}
use Rattle.spec_edit.proofs.Shapes.{ok_same, answer_ok, if_ok}

abbrev Answer : Type 0
Answer = Result (Edited (Unit {0})) Fault

-- where neither is a refusal, both are one
abbrev Agree : Answer → Answer → Type 0
Agree r s = (x y : Edited (Unit {0})) → r ≡ Ok x → s ≡ Ok y → x ≡ y

itself : (r : Answer) → Agree r r
itself r x y d e = ok_same x y (sym d ∙ e)

agree-if : (b : Bool) (r s : Answer) (number : ℕ) → Agree r s
    → Agree (cond b r (Err (record { number = number; line = 0 }))) (cond b s (Err (record { number = number; line = 0 })))
agree-if true r s number h = h
agree-if false r s number h = λ x y d e. absurd (cc)

agree-either : (b : Bool) (r s t u : Answer) → Agree r s → Agree t u → Agree (cond b r t) (cond b s u)
agree-either true r s t u h k = h
agree-either false r s t u h k = k

module _ (m n : ℕ) (document : Document (Unit {0})) where
  agree-renewed : (spot : Spot) (node : Found (Unit {0})) (content : Content)
      → Agree (renewed plain m spot document node content) (renewed plain n spot document node content)
  agree-renewed spot node content x y d e =
      let tree : Plain = tree_with content node in
      let made : Plain → Edited (Unit {0}) = λ t. record {
        nodes = children_changed (replaced (spot.position - 1) spot.position t) spot.above document.nodes;
        made = size tree;
      } in
      let a = answer_ok (tree_faults m node tree) (Ok (made (plain (numbered m tree)))) x d in
      let b = answer_ok (tree_faults n node tree) (Ok (made (plain (numbered n tree)))) y e in
      sym (ok_same (made (plain (numbered m tree))) x a.1) ∙ ap made (plain-numbered m tree ∙ sym (plain-numbered n tree))
      ∙ ok_same (made (plain (numbered n tree))) y b.1

  -- ---- Insert

  agree-read : (scope : Scope) (parent : Parent) (body : List (List ℕ)) (spot : Spot) (r s : Result (Forest ℕ) Fault)
      → nodes_of scope m parent body ≡ r → nodes_of scope n parent body ≡ s → Agree (inserts plain spot document r) (inserts plain spot document s)
  agree-read scope parent body spot (Err fault) s d e x y h k = absurd (cc)
  agree-read scope parent body spot (Ok f) (Err fault) d e x y h k = absurd (cc)
  agree-read scope parent body spot (Ok f) (Ok g) d e x y h k =
      let a = read_nodes scope m parent body f d in
      let b = read_nodes scope n parent body g e in
      let others = elements_beside parent in
      let trees : plain f ≡ plain g =
      ap plain (sym a.nodes_are) ∙ plain-numbered m (kept others a.forest)
      ∙ ap (λ z. plain (kept others z)) (some_same a.forest b.forest (sym a.balanced ∙ b.balanced))
      ∙ sym (plain-numbered n (kept others b.forest)) ∙ ap plain b.nodes_are in
      let sizes : size f ≡ size g = sym (size-plain f) ∙ ap (λ (t : Plain). size t) trees ∙ size-plain g in
      let made : Plain → ℕ → Edited (Unit {0}) = λ t count. record {
        nodes = children_changed (inserted (spot.position - 1) t) spot.above document.nodes;
        made = count;
      } in
      sym (ok_same (made (plain f) (size f)) x h) ∙ (λ i. made (trees i) (sizes i)) ∙ ok_same (made (plain g) (size g)) y k

  agree-below : (spot : Spot) (body : List (List ℕ)) (node : Found (Unit {0})) (parent : Option Parent)
      → Agree (inserted_below plain m spot body document node parent) (inserted_below plain n spot body document node parent)
  agree-below spot body node None = λ x y h k. absurd (cc)
  agree-below spot body node (Some parent) =
      let read : ℕ → Result (Forest ℕ) Fault = λ first. nodes_of (scope_at node) first parent body in
      agree-if (is_position spot.position node.children) (inserts plain spot document (read m)) (inserts plain spot document (read n)) 6
      (agree-read (scope_at node) parent body spot (read m) (read n) refl refl)

  agree-in : (spot : Spot) (body : List (List ℕ)) (found : Option (Found (Unit {0})))
      → Agree (inserted_in plain m spot body document found) (inserted_in plain n spot body document found)
  agree-in spot body None = λ x y h k. absurd (cc)
  agree-in spot body (Some node) = agree-below spot body node (parent_by node.content node)

  -- ---- Attributes and names

  agree-attributes : (spot : Spot) (node : Found (Unit {0})) (name : List ℕ) (content : Content)
      → Agree (attributes_changed plain m spot document node name content) (attributes_changed plain n spot document node name content)
  agree-attributes spot node name content =
      let stays : Answer = with_element spot document node content in
      agree-either (makes_anew name) (renewed plain m spot document node content) (renewed plain n spot document node content) stays stays
      (agree-renewed spot node content) (itself stays)

  agree-set : (spot : Spot) (name value : List ℕ) (node : Found (Unit {0})) (content : Content)
      → Agree (attribute_set plain m spot document name value node content) (attribute_set plain n spot document name value node content)
  agree-set spot name value node (Element own attributes) =
      let content = Element own (with_attribute name value attributes) in
      agree-if (list_all is_char value) (attributes_changed plain m spot document node name content) (attributes_changed plain n spot document node name content) 8
      (agree-attributes spot node name content)
  agree-set spot name value node (Text text) = λ x y h k. absurd (cc)
  agree-set spot name value node (Comment text) = λ x y h k. absurd (cc)
  agree-set spot name value node (Instruction target text) = λ x y h k. absurd (cc)

  agree-removed : (spot : Spot) (name : List ℕ) (node : Found (Unit {0})) (content : Content)
      → Agree (attribute_removed plain m spot document name node content) (attribute_removed plain n spot document name node content)
  agree-removed spot name node (Element own attributes) =
      let content = Element own (without_attribute name attributes) in
      agree-if (list_any (is_named name) attributes) (attributes_changed plain m spot document node name content)
      (attributes_changed plain n spot document node name content) 6 (agree-attributes spot node name content)
  agree-removed spot name node (Text text) = λ x y h k. absurd (cc)
  agree-removed spot name node (Comment text) = λ x y h k. absurd (cc)
  agree-removed spot name node (Instruction target text) = λ x y h k. absurd (cc)

  agree-renamed : (spot : Spot) (name : List ℕ) (node : Found (Unit {0})) (content : Content)
      → Agree (renamed plain m spot document name node content) (renamed plain n spot document name node content)
  agree-renamed spot name node (Element own attributes) = agree-renewed spot node (Element name attributes)
  agree-renamed spot name node (Text text) = λ x y h k. absurd (cc)
  agree-renamed spot name node (Comment text) = λ x y h k. absurd (cc)
  agree-renamed spot name node (Instruction target text) = agree-renewed spot node (Instruction name text)

  -- ---- Edits

  agree-content : (c d : Found (Unit {0}) → Content → Answer) → ((node : Found (Unit {0})) (content : Content) → Agree (c node content) (d node content))
      → (node : Found (Unit {0})) (content : Option Content) → Agree (by_content c node content) (by_content d node content)
  agree-content c d h node None = λ x y a b. absurd (cc)
  agree-content c d h node (Some content) = h node content

  agree-node : (c d : Found (Unit {0}) → Content → Answer) → ((node : Found (Unit {0})) (content : Content) → Agree (c node content) (d node content))
      → (found : Option (Found (Unit {0}))) → Agree (by_node c found) (by_node d found)
  agree-node c d h None = λ x y a b. absurd (cc)
  agree-node c d h (Some node) = agree-content c d h node node.content

  agree-spot : (c d : Spot → Answer) → ((spot : Spot) → Agree (c spot) (d spot)) → (path : List ℕ) → Agree (at_spot path c) (at_spot path d)
  agree-spot c d h [] = λ x y a b. absurd (cc)
  agree-spot c d h (p ∷ ps) = h (spot_from p ps)

  agree : (edit : Edit) → Agree (edited plain m edit document) (edited plain n edit document)
  agree (Insert path body) =
      let change : ℕ → Spot → Answer = λ first spot. inserted_in plain first spot body document (node_at document spot.above) in
      agree-spot (change m) (change n) (λ spot. agree-in spot body (node_at document spot.above)) path
  agree (Delete path) = itself (edited plain m (Delete path) document)
  agree (SetText path value) = itself (edited plain m (SetText path value) document)
  agree (SetAttribute path name value) =
      let change : ℕ → Spot → Answer = λ first spot. by_node (attribute_set plain first spot document name value) (node_at document path) in
      agree-spot (change m) (change n) (λ spot. agree-node (attribute_set plain m spot document name value) (attribute_set plain n spot document name value)
      (agree-set spot name value) (node_at document path)) path
  agree (RemoveAttribute path name) =
      let change : ℕ → Spot → Answer = λ first spot. by_node (attribute_removed plain first spot document name) (node_at document path) in
      agree-spot (change m) (change n) (λ spot. agree-node (attribute_removed plain m spot document name) (attribute_removed plain n spot document name)
      (agree-removed spot name) (node_at document path)) path
  agree (Rename path name) =
      let change : ℕ → Spot → Answer = λ first spot. by_node (renamed plain first spot document name) (node_at document path) in
      agree-spot (change m) (change n) (λ spot. agree-node (renamed plain m spot document name) (renamed plain n spot document name)
      (agree-renamed spot name) (node_at document path)) path

-- of a document whose nodes are numbered: the same is made, the numbers apart
pub made-alike : (m n : ℕ) (edit : Edit) (document : Document ℕ) (one other : Edited ℕ) → edited_nodes m edit document ≡ Ok one
    → edited_nodes n edit document ≡ Ok other → (plain one.nodes ≡ plain other.nodes) × (one.made ≡ other.made)
made-alike m n edit document one other d e =
    let same = agree m n (record { root = tt; nodes = plain document.nodes }) edit
    (record { nodes = plain one.nodes; made = one.made }) (record { nodes = plain other.nodes; made = other.made })
    (sym (plain_edit m edit document) ∙ ap without_labels d) (sym (plain_edit n edit document) ∙ ap without_labels e) in
    (ap (λ z. z.nodes) same, ap (λ z. z.made) same)

-- and from one number on the same document
pub made-same : (first : ℕ) (edit : Edit) (document : Document ℕ) (one other : Edited ℕ) → edited_nodes first edit document ≡ Ok one
    → edited_nodes first edit document ≡ Ok other → one ≡ other
made-same first edit document one other d e = ok_same one other (sym d ∙ e)
