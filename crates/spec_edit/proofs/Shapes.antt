-- What an edit makes where it is not refused: what is changed, and what around it stays.
use Rattle.std.proofs.Common.{◌≡◌, ℕ, ◌+◌, ◌-◌, ◌==◌, Bool, true, false, cond, List, [], ◌∷◌, ◌++◌, Option, None, Some}
use Rattle.std.proofs.Common.{if◌then◌else◌, refl, sym, ap, ◌∙◌, length, map, add-one}
use Rattle.std.specs.Prelude.{Result, Ok, Err, ◌&&◌}
use Rattle.std.specs.List.{list_all, list_any}
use Rattle.spec_document.specs.declared.parent.Parent.{Parent}
use Rattle.spec_document.specs.declared.parent.Parent.TheVariants as parents
use Rattle.spec_document.specs.Scope.{Scope, root_scope}
use Rattle.spec_document.specs.Character.{is_char}
use Rattle.spec_document.specs.Forest.{Written, Content, Element, Text, Comment, Instruction, Plain, Forest, Empty, Node}
use Rattle.spec_document.specs.Forest.{Document, plain, size, labels, numbered, followed}
use Rattle.spec_document.specs.Declaration.{within, scope_of}
use Rattle.spec_document.specs.Place.{Found, root_of, found_in, node_at, scope_at}
use Rattle.spec_document.specs.Fault.{Fault, answer_of}
use Rattle.spec_document.specs.NodeFaults.{content_faults, node_faults}
use Rattle.spec_document.specs.Numbering.{number_faults}
use Rattle.spec_document.specs.Balance.{alone}
use Rattle.spec_document.specs.Document.{nodes_of}
use Rattle.spec_edit.specs.Splice.{Spot, spot_from, first_siblings, later_siblings, replaced, children_changed, met, inserted, deleted}
use Rattle.spec_edit.specs.Edit.{Edit, Insert, Delete, SetText, SetAttribute, RemoveAttribute, Rename, Edited, without_lines}
use Rattle.spec_edit.specs.Edit.{depth_of, tree_faults, renewed, with_content, with_element, is_element, element_count}
use Rattle.spec_edit.specs.Edit.{parent_by, inserts, is_position, inserted_below, inserted_in, is_document_element, deletes, with_text, text_set}
use Rattle.spec_edit.specs.Edit.{makes_anew, is_named, with_attribute, without_attribute, attributes_changed, attribute_set, attribute_removed, renamed}
use Rattle.spec_edit.specs.Edit.{by_content, by_node, edited_nodes}
use Rattle.spec_edit.specs.Judged.{path_of}
use Rattle.spec_edit.proofs.Around.{Around, filled, above_in, content_in, IsSite, site, IsBelow, below, first-later}

-- the scope and the depth of what stands there
abbrev pub scope_in : {L : Type 0} → Around L → Scope
scope_in around = scope_of root_scope (above_in [] around)

abbrev pub levels_in : {L : Type 0} → Around L → ℕ
levels_in around = length (above_in [] around)

-- what siblings there stand below
abbrev pub parent_in : Option Content → (levels elements : ℕ) → Option Parent
parent_in None levels elements = Some (parents.Root elements)
parent_in (Some content) levels elements = if is_element content then Some (parents.Element levels) else None

pub record Insertion (first : ℕ) (document : Document ℕ) (new : Edited ℕ) : Type 0 where
  pub around : Around ℕ
  pub before : Forest ℕ
  pub nodes : Forest ℕ
  pub after : Forest ℕ
  pub parent : Parent
  pub body : List (List ℕ)
  pub whole : document.nodes ≡ filled around (followed before after)
  pub stands : parent_in (content_in None around) (levels_in around) (element_count (followed before after)) ≡ Some parent
  pub read : nodes_of (scope_in around) first parent body ≡ Ok nodes
  pub nodes_are : new.nodes ≡ filled around (met before (met nodes after))
  pub made_are : new.made ≡ size nodes

pub record Deletion (document : Document ℕ) (new : Edited ℕ) : Type 0 where
  pub around : Around ℕ
  pub before : Forest ℕ
  pub label : ℕ
  pub content : Content
  pub children : Forest ℕ
  pub after : Forest ℕ
  pub whole : document.nodes ≡ filled around (followed before (Node label content children after))
  pub stays : ((levels_in around + 1 == 1) && is_element content) ≡ false
  pub nodes_are : new.nodes ≡ filled around (met before after)
  pub made_are : new.made ≡ 0

-- attributes with one of this name set or removed
pub data AreSet (name : List ℕ) (old : List Written) : List Written → Type 0 where
  is_set : (value : List ℕ) → AreSet name old (with_attribute name value old)
  is_removed : list_any (is_named name) old ≡ true → AreSet name old (without_attribute name old)

-- what a node has in place of its content, where it stays
pub data Changes (scope : Scope) (depth : ℕ) : Content → Content → Type 0 where
  text_changes : (text : List ℕ) → (c : ℕ) → (cs : List ℕ) → Changes scope depth (Text text) (Text (c ∷ cs))
  comment_changes : (text value : List ℕ) → Changes scope depth (Comment text) (Comment value)
  instruction_changes : (target text value : List ℕ) → Changes scope depth (Instruction target text) (Instruction target value)
  element_changes : (own name : List ℕ) → (old new : List Written) → makes_anew name ≡ false → AreSet name old new
      → content_faults (within (Element own new) scope) depth (alone 0) (Element own new) ≡ [] → Changes scope depth (Element own old) (Element own new)

pub record Change (path : List ℕ) (document : Document ℕ) (new : Edited ℕ) : Type 0 where
  pub found : Found ℕ
  pub at : node_at document path ≡ Some found
  pub around : Around ℕ
  pub before : Forest ℕ
  pub label : ℕ
  pub label_is : found.label ≡ label
  pub old_content : Content
  pub content : Content
  pub children : Forest ℕ
  pub after : Forest ℕ
  pub whole : document.nodes ≡ filled around (followed before (Node label old_content children after))
  pub changes : Changes (scope_in around) (levels_in around + 1) old_content content
  pub nodes_are : new.nodes ≡ filled around (followed before (Node label content children after))
  pub made_are : new.made ≡ 0

-- what a node has in place of its content, where it is made anew
pub data Renews : Content → Content → Type 0 where
  element_renews : (own other : List ℕ) → (old new : List Written) → Renews (Element own old) (Element other new)
  instruction_renews : (target other text : List ℕ) → Renews (Instruction target text) (Instruction other text)

abbrev pub anew : {L : Type 0} → Content → Forest L → Plain
anew content children = Node tt content (plain children) Empty

pub record Renewal (first : ℕ) (document : Document ℕ) (new : Edited ℕ) : Type 0 where
  pub around : Around ℕ
  pub before : Forest ℕ
  pub label : ℕ
  pub old_content : Content
  pub content : Content
  pub children : Forest ℕ
  pub after : Forest ℕ
  pub whole : document.nodes ≡ filled around (followed before (Node label old_content children after))
  pub renews : Renews old_content content
  pub unfaulted : node_faults (scope_in around) (levels_in around + 1) (without_lines (anew content children)) ≡ []
  pub limited : number_faults first (map (λ l. l.first) (labels (without_lines (anew content children)))) ≡ []
  pub nodes_are : new.nodes ≡ filled around (followed before (Node first content (numbered (first + 1) (plain children)) after))
  pub made_are : new.made ≡ size (anew content children)

pub data Shape (first : ℕ) (path : List ℕ) (document : Document ℕ) (new : Edited ℕ) : Type 0 where
  is_insertion : Insertion first document new → Shape first path document new
  is_deletion : Deletion document new → Shape first path document new
  is_change : Change path document new → Shape first path document new
  is_renewal : Renewal first document new → Shape first path document new

-- ---- Answers that are no refusals

abbrev pub answered : {A : Type 0} → A → Result A Fault
answered x = Ok x

pub ok_same : {A : Type 0} (x y : A) → answered x ≡ answered y → x ≡ y
ok_same x y e = ap (λ r. elim r [ Ok z ↦ z | Err _ ↦ x ]) e

pub answer_ok : {A : Type 0} (faults : List Fault) (r : Result A Fault) (x : A) → answer_of faults r ≡ Ok x → (faults ≡ []) × (r ≡ Ok x)
answer_ok [] r x e = (refl, e)
answer_ok (f ∷ fs) r x e = absurd (cc)

pub if_ok : {A : Type 0} (b : Bool) (r : Result A Fault) (n : ℕ) (x : A) → cond b r (Err (record { number = n; line = 0 })) ≡ Ok x
    → (b ≡ true) × (r ≡ Ok x)
if_ok true r n x e = (refl, e)
if_ok false r n x e = absurd (cc)

unless_ok : {A : Type 0} (b : Bool) (r : Result A Fault) (n : ℕ) (x : A) → cond b (Err (record { number = n; line = 0 })) r ≡ Ok x
    → (b ≡ false) × (r ≡ Ok x)
unless_ok true r n x e = absurd (cc)
unless_ok false r n x e = (refl, e)

pub append_none : {A : Type 0} (xs ys : List A) → xs ++ ys ≡ [] → (xs ≡ []) × (ys ≡ [])
append_none [] ys e = (refl, e)
append_none (x ∷ xs) ys e = absurd (cc)

pub parent_same : (content : Option Content) (x : Found ℕ) → parent_in content (length x.above) (element_count x.children) ≡ parent_by content x
parent_same None x = refl
parent_same (Some content) x = refl

abbrev pub same_nodes : Forest ℕ → Forest ℕ
same_nodes nodes = nodes

module _ (first : ℕ) (path : List ℕ) (document : Document ℕ) (new : Edited ℕ) where
  -- ---- Insert

  insertion : (spot : Spot) (body : List (List ℕ)) (x : Found ℕ) (b : IsBelow (root_of document) spot.above x) (parent : Parent)
      → parent_by x.content x ≡ Some parent
      → (read : Result (Forest ℕ) Fault) → nodes_of (scope_at x) first parent body ≡ read → inserts same_nodes spot document read ≡ Ok new
      → Shape first path document new
  insertion spot body x b parent stands (Err fault) e h = absurd (cc)
  insertion spot body x b parent stands (Ok nodes) e h =
      let n = spot.position - 1 in
      let before = first_siblings n x.children in
      let after = later_siblings n x.children in
      let is = ok_same (record { nodes = children_changed (inserted n nodes) spot.above document.nodes; made = size nodes }) new h in
      is_insertion (record {
        around = b.around;
        before = before;
        nodes = nodes;
        after = after;
        parent = parent;
        body = body;
        whole = b.whole ∙ ap (filled b.around) (sym (first-later n x.children));
        stands = (λ i. parent_in (sym b.content i) (length (sym b.above i)) (element_count (first-later n x.children i)))
            ∙ parent_same x.content x ∙ stands;
        read = ap (λ above. nodes_of (scope_of root_scope above) first parent body) (sym b.above) ∙ e;
        nodes_are = sym (ap (λ d. d.nodes) is) ∙ b.changed (inserted n nodes);
        made_are = sym (ap (λ d. d.made) is);
      })

  insertion-below : (spot : Spot) (body : List (List ℕ)) (x : Found ℕ) → IsBelow (root_of document) spot.above x → (parent : Option Parent)
      → parent_by x.content x ≡ parent
      → inserted_below same_nodes first spot body document x parent ≡ Ok new → Shape first path document new
  insertion-below spot body x b None e h = absurd (cc)
  insertion-below spot body x b (Some parent) e h =
      let read = nodes_of (scope_at x) first parent body in
      let i = if_ok (is_position spot.position x.children) (inserts same_nodes spot document read) 6 new h in
      insertion spot body x b parent e read refl i.1

  insertion-in : (spot : Spot) (body : List (List ℕ)) (o : Option (Found ℕ)) → node_at document spot.above ≡ o
      → inserted_in same_nodes first spot body document o ≡ Ok new → Shape first path document new
  insertion-in spot body None e h = absurd (cc)
  insertion-in spot body (Some x) e h = insertion-below spot body x (below spot.above (root_of document) x e) (parent_by x.content x) refl h

  -- ---- At a node that is not the root

  at_content : (change : Found ℕ → Content → Result (Edited ℕ) Fault) (x : Found ℕ) (above : List Content) (l : ℕ) (c : Content) (f : Forest ℕ)
      → x ≡ found_in above l c f → by_content change x x.content ≡ Ok new → change (found_in above l c f) c ≡ Ok new
  at_content change x above l c f is h = ap (λ y. by_content change y y.content) (sym is) ∙ h

  at_node : (change : Found ℕ → Content → Result (Edited ℕ) Fault) (p : ℕ) (ps : List ℕ)
      → p ∷ ps ≡ path
      → ((x : Found ℕ) (s : IsSite document (spot_from p ps) x) → node_at document path ≡ Some x
      → change (found_in (above_in [] s.around) s.label s.content s.children) s.content ≡ Ok new → Shape first path document new)
      → (o : Option (Found ℕ)) → node_at document (p ∷ ps) ≡ o → by_node change o ≡ Ok new → Shape first path document new
  at_node change p ps same go None e h = absurd (cc)
  at_node change p ps same go (Some x) e h =
      let s = site document p ps x e in
      go x s (ap (node_at document) (sym same) ∙ e) (at_content change x (above_in [] s.around) s.label s.content s.children s.is h)

  abbrev here : {spot : Spot} {x : Found ℕ} → IsSite document spot x → Found ℕ
  here s = found_in (above_in [] s.around) s.label s.content s.children

  -- ---- What is made anew

  renewal : (spot : Spot) (x : Found ℕ) (s : IsSite document spot x) (old content : Content) → s.content ≡ old → Renews old content
      → renewed same_nodes first spot document (here s) content ≡ Ok new → Shape first path document new
  renewal spot x s old content was r h =
      let tree = anew content s.children in
      let a = answer_ok (tree_faults first (here s) tree) (Ok (record {
        nodes = children_changed (replaced (spot.position - 1) spot.position (numbered first tree)) spot.above document.nodes;
        made = size tree;
      })) new h in
      let is = ok_same _ new a.1 in
      let faults = append_none (node_faults (scope_in s.around) (levels_in s.around + 1) (without_lines tree))
      (number_faults first (map (λ l. l.first) (labels (without_lines tree))))
      (ap (λ n. node_faults (scope_in s.around) n (without_lines tree) ++ number_faults first (map (λ l. l.first) (labels (without_lines tree))))
      (add-one (levels_in s.around)) ∙ a.0) in
      is_renewal (record {
        around = s.around;
        before = s.before;
        label = s.label;
        old_content = old;
        content = content;
        children = s.children;
        after = s.after;
        whole = s.whole ∙ ap (λ c. filled s.around (followed s.before (Node s.label c s.children s.after))) was;
        renews = r;
        unfaulted = faults.0;
        limited = faults.1;
        nodes_are = sym (ap (λ d. d.nodes) is) ∙ s.replaced_is (numbered first tree);
        made_are = sym (ap (λ d. d.made) is);
      })

  -- ---- What stays

  with_new : (spot : Spot) (x : Found ℕ) (s : IsSite document spot x) (at : node_at document path ≡ Some x) (old content : Content) → s.content ≡ old
      → Changes (scope_in s.around) (levels_in s.around + 1) old content → answered (with_content spot document content) ≡ Ok new
      → Shape first path document new
  with_new spot x s at old content was c h =
      let is = ok_same (with_content spot document content) new h in
      is_change (record {
        found = x;
        at = at;
        label_is = ap (λ y. y.label) s.is;
        around = s.around;
        before = s.before;
        label = s.label;
        old_content = old;
        content = content;
        children = s.children;
        after = s.after;
        whole = s.whole ∙ ap (λ c. filled s.around (followed s.before (Node s.label c s.children s.after))) was;
        changes = c;
        nodes_are = sym (ap (λ d. d.nodes) is) ∙ s.content_is content;
        made_are = sym (ap (λ d. d.made) is);
      })

  without : (spot : Spot) (x : Found ℕ) (s : IsSite document spot x) → ((levels_in s.around + 1 == 1) && is_element s.content) ≡ false
      → answered (record { nodes = children_changed (deleted (spot.position - 1)) spot.above document.nodes; made = 0 }) ≡ Ok new
      → Shape first path document new
  without spot x s stays h =
      let is = ok_same (record { nodes = children_changed (deleted (spot.position - 1)) spot.above document.nodes; made = 0 }) new h in
      is_deletion (record {
        around = s.around;
        before = s.before;
        label = s.label;
        content = s.content;
        children = s.children;
        after = s.after;
        whole = s.whole;
        stays = stays;
        nodes_are = sym (ap (λ d. d.nodes) is) ∙ s.deleted_is;
        made_are = sym (ap (λ d. d.made) is);
      })

  and_no : (b : Bool) → (b && false) ≡ false
  and_no true = refl
  and_no false = refl

  no_element : (spot : Spot) (x : Found ℕ) (s : IsSite document spot x) (text : List ℕ) → s.content ≡ Text text
      → ((levels_in s.around + 1 == 1) && is_element s.content) ≡ false
  no_element spot x s text is =
      ap (λ c. (levels_in s.around + 1 == 1) && is_element c) is ∙ and_no (levels_in s.around + 1 == 1)

  text-shape : (spot : Spot) (x : Found ℕ) (s : IsSite document spot x) (at : node_at document path ≡ Some x) (text value : List ℕ) → s.content ≡ Text text
      → answered (with_text spot document value) ≡ Ok new → Shape first path document new
  text-shape spot x s at text [] is h = without spot x s (no_element spot x s text is) h
  text-shape spot x s at text (c ∷ cs) is h = with_new spot x s at (Text text) (Text (c ∷ cs)) is (text_changes text c cs) h

  set-shape : (spot : Spot) (x : Found ℕ) (s : IsSite document spot x) (at : node_at document path ≡ Some x) (value : List ℕ) (content : Content)
      → s.content ≡ content
      → text_set spot document value content ≡ Ok new → Shape first path document new
  set-shape spot x s at value (Element name attributes) is h = absurd (cc)
  set-shape spot x s at value (Text text) is h =
      let i = if_ok (list_all is_char value) (Ok (with_text spot document value)) 8 new h in text-shape spot x s at text value is i.1
  set-shape spot x s at value (Comment text) is h =
      let i = if_ok (list_all is_char value) (Ok (with_content spot document (Comment value))) 8 new h in
      with_new spot x s at (Comment text) (Comment value) is (comment_changes text value) i.1
  set-shape spot x s at value (Instruction target text) is h =
      let i = if_ok (list_all is_char value) (Ok (with_content spot document (Instruction target value))) 8 new h in
      with_new spot x s at (Instruction target text) (Instruction target value) is (instruction_changes target text value) i.1

  -- ---- Attributes

  attributes-shape : (spot : Spot) (x : Found ℕ) (s : IsSite document spot x) (at : node_at document path ≡ Some x)
      (own name : List ℕ) (old more : List Written)
      → s.content ≡ Element own old → AreSet name old more
      → (b : Bool) → makes_anew name ≡ b
      → cond b (renewed same_nodes first spot document (here s) (Element own more)) (with_element spot document (here s) (Element own more)) ≡ Ok new
      → Shape first path document new
  attributes-shape spot x s at own name old more is set true e h =
      renewal spot x s (Element own old) (Element own more) is (element_renews own own old more) h
  attributes-shape spot x s at own name old more is set false e h =
      let content = Element own more in
      let a = answer_ok (content_faults (within content (scope_in s.around)) (depth_of (here s)) (alone 0) content)
      (Ok (with_content spot document content)) new h in
      with_new spot x s at (Element own old) content is (element_changes own name old more e set
      (ap (λ n. content_faults (within content (scope_in s.around)) n (alone 0) content) (add-one (levels_in s.around)) ∙ a.0)) a.1

  attribute-shape : (spot : Spot) (name value : List ℕ) (x : Found ℕ) (s : IsSite document spot x) (at : node_at document path ≡ Some x)
      (content : Content) → s.content ≡ content
      → attribute_set same_nodes first spot document name value (here s) content ≡ Ok new → Shape first path document new
  attribute-shape spot name value x s at (Element own attributes) is h =
      let more = with_attribute name value attributes in
      let i = if_ok (list_all is_char value) (attributes_changed same_nodes first spot document (here s) name (Element own more)) 8 new h in
      attributes-shape spot x s at own name attributes more is (is_set value) (makes_anew name) refl i.1
  attribute-shape spot name value x s at (Text text) is h = absurd (cc)
  attribute-shape spot name value x s at (Comment text) is h = absurd (cc)
  attribute-shape spot name value x s at (Instruction target text) is h = absurd (cc)

  removed-shape : (spot : Spot) (name : List ℕ) (x : Found ℕ) (s : IsSite document spot x) (at : node_at document path ≡ Some x) (content : Content)
      → s.content ≡ content
      → attribute_removed same_nodes first spot document name (here s) content ≡ Ok new → Shape first path document new
  removed-shape spot name x s at (Element own attributes) is h =
      let more = without_attribute name attributes in
      let i = if_ok (list_any (is_named name) attributes) (attributes_changed same_nodes first spot document (here s) name (Element own more)) 6 new h in
      attributes-shape spot x s at own name attributes more is (is_removed i.0) (makes_anew name) refl i.1
  removed-shape spot name x s at (Text text) is h = absurd (cc)
  removed-shape spot name x s at (Comment text) is h = absurd (cc)
  removed-shape spot name x s at (Instruction target text) is h = absurd (cc)

  renamed-shape : (spot : Spot) (name : List ℕ) (x : Found ℕ) (s : IsSite document spot x) (content : Content) → s.content ≡ content
      → renamed same_nodes first spot document name (here s) content ≡ Ok new → Shape first path document new
  renamed-shape spot name x s (Element own attributes) is h =
      renewal spot x s (Element own attributes) (Element name attributes) is (element_renews own name attributes attributes) h
  renamed-shape spot name x s (Text text) is h = absurd (cc)
  renamed-shape spot name x s (Comment text) is h = absurd (cc)
  renamed-shape spot name x s (Instruction target text) is h =
      renewal spot x s (Instruction target text) (Instruction name text) is (instruction_renews target name text) h

  deletes-shape : (spot : Spot) (x : Found ℕ) (s : IsSite document spot x) → deletes spot document (here s) s.content ≡ Ok new
      → Shape first path document new
  deletes-shape spot x s h =
      let i = unless_ok (is_document_element (here s) s.content)
      (Ok (record { nodes = children_changed (deleted (spot.position - 1)) spot.above document.nodes; made = 0 })) 9 new h in
      without spot x s (ap (λ n. (n == 1) && is_element s.content) (add-one (levels_in s.around)) ∙ i.0) i.1

pub shape : (first : ℕ) (document : Document ℕ) (new : Edited ℕ) (edit : Edit) → edited_nodes first edit document ≡ Ok new
    → Shape first (path_of edit) document new
shape first document new (Insert [] body) h = absurd (cc)
shape first document new (Insert (p ∷ ps) body) h =
    let spot = spot_from p ps in insertion-in first (p ∷ ps) document new spot body (node_at document spot.above) refl h
shape first document new (Delete []) h = absurd (cc)
shape first document new (Delete (p ∷ ps)) h =
    let spot = spot_from p ps in
    at_node first (p ∷ ps) document new (deletes spot document) p ps refl
    (λ x s at. deletes-shape first (p ∷ ps) document new spot x s) (node_at document (p ∷ ps)) refl h
shape first document new (SetText [] value) h = absurd (cc)
shape first document new (SetText (p ∷ ps) value) h =
    let spot = spot_from p ps in
    at_node first (p ∷ ps) document new (λ node. text_set spot document value) p ps refl
    (λ x s at. set-shape first (p ∷ ps) document new spot x s at value s.content refl) (node_at document (p ∷ ps)) refl h
shape first document new (SetAttribute [] name value) h = absurd (cc)
shape first document new (SetAttribute (p ∷ ps) name value) h =
    let spot = spot_from p ps in
    at_node first (p ∷ ps) document new (attribute_set same_nodes first spot document name value) p ps refl
    (λ x s at. attribute-shape first (p ∷ ps) document new spot name value x s at s.content refl) (node_at document (p ∷ ps)) refl h
shape first document new (RemoveAttribute [] name) h = absurd (cc)
shape first document new (RemoveAttribute (p ∷ ps) name) h =
    let spot = spot_from p ps in
    at_node first (p ∷ ps) document new (attribute_removed same_nodes first spot document name) p ps refl
    (λ x s at. removed-shape first (p ∷ ps) document new spot name x s at s.content refl) (node_at document (p ∷ ps)) refl h
shape first document new (Rename [] name) h = absurd (cc)
shape first document new (Rename (p ∷ ps) name) h =
    let spot = spot_from p ps in
    at_node first (p ∷ ps) document new (renamed same_nodes first spot document name) p ps refl
    (λ x s at. renamed-shape first (p ∷ ps) document new spot name x s s.content refl) (node_at document (p ∷ ps)) refl h
