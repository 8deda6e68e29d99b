-- Nodes keep their numbers, except where they are deleted or made anew, and texts where they meet.
use Rattle.std.proofs.Common.{◌≡◌, ◌≤◌, arith, ℕ, ◌+◌, ◌-◌, ◌==◌, Bool, true, false, not, cond, List, [], ◌∷◌, Option, None, Some, refl, sym, ap, subst, ◌∙◌}
use Rattle.std.proofs.Common.{inl, inr, eq-eqb}
use Rattle.std.specs.Prelude.{Result, Ok, Err}
use Rattle.std.specs.List.{list_all, list_any}
use Rattle.spec_document.specs.declared.kind.Kind.TheVariants as kind
use Rattle.spec_document.specs.declared.parent.Parent.{Parent}
use Rattle.spec_document.specs.Character.{is_char}
use Rattle.spec_document.specs.Forest.{Written, Content, Element, Text, Comment, Instruction, Forest, Empty, Node, Document, size, labels, numbered, followed, IsNormal}
use Rattle.spec_document.specs.Declaration.{within}
use Rattle.spec_document.specs.Place.{Found, root_of, found_in, node_at, scope_at, kind_by}
use Rattle.spec_document.specs.Fault.{Fault}
use Rattle.spec_document.specs.NodeFaults.{content_faults}
use Rattle.spec_document.specs.Balance.{alone}
use Rattle.spec_document.specs.Document.{nodes_of}
use Rattle.spec_edit.specs.Splice.{Spot, spot_from, first_siblings, later_siblings, replaced, children_changed, text_before, last_before, met, inserted, deleted}
use Rattle.spec_edit.specs.Edit.{Edit, Insert, Delete, SetText, SetAttribute, RemoveAttribute, Rename, Edited, edited_nodes}
use Rattle.spec_edit.specs.Edit.{depth_of, tree_with, tree_faults, renewed, scope_around, with_content, with_element, with_text}
use Rattle.spec_edit.specs.Edit.{parent_by, inserts, is_position, inserted_below, inserted_in, is_document_element, deletes, text_set}
use Rattle.spec_edit.specs.Edit.{makes_anew, is_named, with_attribute, without_attribute, attributes_changed, attribute_set, attribute_removed, renamed}
use Rattle.spec_edit.specs.Edit.{by_content, by_node}
use Rattle.spec_edit.proofs.Around.{Around, Here, Below, filled, above_in, IsSite, site, below, first-later, some_same}
use Rattle.spec_edit.proofs.Keeping.{StandsIn, at_path}
use Rattle.spec_edit.proofs.Numbers.{one_if, occurs, occurs-labels, stands, among-none}
use Rattle.spec_edit.proofs.Shapes.{answered, ok_same, answer_ok, if_ok, same_nodes}
use Rattle.spec_change.specs.Change.{is_among}
use Rattle.spec_change.specs.Taken.{numbers_from, taken, texts_may_go}
use Rattle.spec_change.proofs.Gone.{some-among}

-- ---- How many numbers of nodes pass a test, of all nodes or of those that are no texts

abbrev counted : Bool → (ℕ → Bool) → Forest ℕ → ℕ
counted all p Empty = 0
counted all p (Node label (Element name attributes) children siblings) = one_if (p label) + counted all p children + counted all p siblings
counted all p (Node label (Text text) children siblings) = cond all (one_if (p label) + counted all p children) 0 + counted all p siblings
counted all p (Node label (Comment text) children siblings) = one_if (p label) + counted all p children + counted all p siblings
counted all p (Node label (Instruction target text) children siblings) = one_if (p label) + counted all p children + counted all p siblings

cond-most : (all : Bool) (m n : ℕ) → m ≤ n → cond all m 0 ≤ n
cond-most true m n h = h
cond-most false m n h = omega arith

cond-more : (all : Bool) (l m n more : ℕ) → m ≤ n + more → cond all (l + m) 0 ≤ cond all (l + n) 0 + more
cond-more true l m n more h = omega arith
cond-more false l m n more h = omega arith

counted-most : (all : Bool) (p : ℕ → Bool) (f : Forest ℕ) → counted all p f ≤ stands p f
counted-most all p Empty = omega arith
counted-most all p (Node l (Element n a) f s) = let below = counted-most all p f in let behind = counted-most all p s in omega arith
counted-most all p (Node l (Text t) f s) =
    let below = counted-most all p f in
    let behind = counted-most all p s in
    let own = cond-most all (one_if (p l) + counted all p f) (one_if (p l) + stands p f) (omega arith) in
    omega arith
counted-most all p (Node l (Comment t) f s) = let below = counted-most all p f in let behind = counted-most all p s in omega arith
counted-most all p (Node l (Instruction n t) f s) = let below = counted-most all p f in let behind = counted-most all p s in omega arith

counted-followed : (all : Bool) (p : ℕ → Bool) (f g : Forest ℕ) → counted all p (followed f g) ≡ counted all p f + counted all p g
counted-followed all p Empty g = omega arith
counted-followed all p (Node l (Element n a) f s) g = let rest = counted-followed all p s g in omega arith
counted-followed all p (Node l (Text t) f s) g = let rest = counted-followed all p s g in omega arith
counted-followed all p (Node l (Comment t) f s) g = let rest = counted-followed all p s g in omega arith
counted-followed all p (Node l (Instruction n t) f s) g = let rest = counted-followed all p s g in omega arith

counted-node : (all : Bool) (p : ℕ → Bool) (l : ℕ) (c : Content) (f s : Forest ℕ)
    → counted all p (Node l c f s) ≡ counted all p (Node l c f Empty) + counted all p s
counted-node all p l c f s = counted-followed all p (Node l c f Empty) s

-- a text that meets another takes no other number away
counted-text : (p : ℕ → Bool) (l : ℕ) (text : List ℕ) (children others : Forest ℕ)
    → counted false p (text_before l text children others) ≡ counted false p others
counted-text p l text children Empty = omega arith
counted-text p l text children (Node k (Element n a) f s) = omega arith
counted-text p l text children (Node k (Text t) f s) = omega arith
counted-text p l text children (Node k (Comment t) f s) = omega arith
counted-text p l text children (Node k (Instruction n t) f s) = omega arith

counted-last : (p : ℕ → Bool) (l : ℕ) (c : Content) (children others : Forest ℕ)
    → counted false p (last_before l c children others) ≡ counted false p (Node l c children Empty) + counted false p others
counted-last p l (Element n a) children others = omega arith
counted-last p l (Text t) children others = let same = counted-text p l t children others in omega arith
counted-last p l (Comment t) children others = omega arith
counted-last p l (Instruction n t) children others = omega arith

counted-met : (p : ℕ → Bool) (f g : Forest ℕ) → counted false p (met f g) ≡ counted false p f + counted false p g
counted-met p Empty g = omega arith
counted-met p (Node l c f Empty) g = counted-last p l c f g
counted-met p (Node l c f (Node k d h s)) g =
    let rest = counted-met p (Node k d h s) g in
    let new = counted-node false p l c f (met (Node k d h s) g) in
    let old = counted-node false p l c f (Node k d h s) in
    omega arith

-- what is around stays
counted-filled : (all : Bool) (p : ℕ → Bool) (more : ℕ) (around : Around ℕ) (f g : Forest ℕ) → counted all p f ≤ counted all p g + more
    → counted all p (filled around f) ≤ counted all p (filled around g) + more
counted-filled all p more Here f g h = h
counted-filled all p more (Below before l c inner after) f g h =
    let below = counted-filled all p more inner f g h in
    let old = counted-followed all p before (Node l c (filled inner f) after) in
    let new = counted-followed all p before (Node l c (filled inner g) after) in
    let one = by c below in
    omega arith
  where
    by : (d : Content) → counted all p (filled inner f) ≤ counted all p (filled inner g) + more
        → counted all p (Node l d (filled inner f) after) ≤ counted all p (Node l d (filled inner g) after) + more
    by (Element n a) below = omega arith
    by (Text t) below =
        let own = cond-more all (one_if (p l)) (counted all p (filled inner f)) (counted all p (filled inner g)) more below in omega arith
    by (Comment t) below = omega arith
    by (Instruction n t) below = omega arith

-- ---- What an edit spares

-- each number that counts is there again, or among those that are taken
record Spares (all : Bool) (gone : List ℕ) (old new : Forest ℕ) : Type 0 where
  at : (p : ℕ → Bool) → counted all p old ≤ counted all p new + occurs p gone

around-spares : (all : Bool) (gone : List ℕ) (around : Around ℕ) (f g old new : Forest ℕ) → old ≡ filled around f → new ≡ filled around g
    → ((p : ℕ → Bool) → counted all p f ≤ counted all p g + occurs p gone) → Spares all gone old new
around-spares all gone around f g old new was is h = record {
  at = λ p. (
      let inner = counted-filled all p (occurs p gone) around f g (h p) in
      let before = ap (counted all p) was in
      let after = ap (counted all p) is in
      omega arith
      );
}

-- contents of one kind
data AreLike : Content → Content → Type 0 where
  elements : (n m : List ℕ) → (a b : List Written) → AreLike (Element n a) (Element m b)
  texts : (t u : List ℕ) → AreLike (Text t) (Text u)
  comments : (t u : List ℕ) → AreLike (Comment t) (Comment u)
  instructions : (n m t u : List ℕ) → AreLike (Instruction n t) (Instruction m u)

counted-like : (all : Bool) (p : ℕ → Bool) (l : ℕ) (c d : Content) (f s : Forest ℕ) → AreLike c d → counted all p (Node l c f s) ≡ counted all p (Node l d f s)
counted-like all p l _ _ f s (elements n m a b) = refl
counted-like all p l _ _ f s (texts t u) = refl
counted-like all p l _ _ f s (comments t u) = refl
counted-like all p l _ _ f s (instructions n m t u) = refl

unless_ok : {A : Type 0} (b : Bool) (r : Result A Fault) (n : ℕ) (x : A) → cond b (Err (record { number = n; line = 0 })) r ≡ Ok x → r ≡ Ok x
unless_ok true r n x e = absurd (cc)
unless_ok false r n x e = e

module _ (first : ℕ) (document : Document ℕ) (new : Edited ℕ) where
  -- ---- Insert

  insertion-spares : (spot : Spot) (x : Found ℕ) → node_at document spot.above ≡ Some x → (r : Result (Forest ℕ) Fault)
      → inserts same_nodes spot document r ≡ Ok new → Spares false [] document.nodes new.nodes
  insertion-spares spot x at (Err fault) h = absurd (cc)
  insertion-spares spot x at (Ok nodes) h =
      let b = below spot.above (root_of document) x at in
      let k = spot.position - 1 in
      let before = first_siblings k x.children in
      let after = later_siblings k x.children in
      let is = ok_same (record { nodes = children_changed (inserted k nodes) spot.above document.nodes; made = size nodes }) new h in
      around-spares false [] b.around (followed before after) (met before (met nodes after)) document.nodes new.nodes
      (b.whole ∙ ap (filled b.around) (sym (first-later k x.children))) (sym (ap (λ d. d.nodes) is) ∙ b.changed (inserted k nodes))
      (λ p. (
      let old = counted-followed false p before after in
      let outer = counted-met p before (met nodes after) in
      let inner = counted-met p nodes after in
      omega arith
      ))

  below-spares : (spot : Spot) (body : List (List ℕ)) (x : Found ℕ) → node_at document spot.above ≡ Some x → (parent : Option Parent)
      → inserted_below same_nodes first spot body document x parent ≡ Ok new → Spares false [] document.nodes new.nodes
  below-spares spot body x at None h = absurd (cc)
  below-spares spot body x at (Some parent) h =
      let read = nodes_of (scope_at x) first parent body in
      let i = if_ok (is_position spot.position x.children) (inserts same_nodes spot document read) 6 new h in
      insertion-spares spot x at read i.1

  inserted-spares : (spot : Spot) (body : List (List ℕ)) (o : Option (Found ℕ)) → node_at document spot.above ≡ o
      → inserted_in same_nodes first spot body document o ≡ Ok new → Spares false [] document.nodes new.nodes
  inserted-spares spot body None e h = absurd (cc)
  inserted-spares spot body (Some x) e h = below-spares spot body x e (parent_by x.content x) h

  -- ---- At a node that is not the root

  abbrev here : {spot : Spot} {x : Found ℕ} → IsSite document spot x → Found ℕ
  here s = found_in (above_in [] s.around) s.label s.content s.children

  -- the node, and what is made of it
  record Reaches (change : Found ℕ → Content → Result (Edited ℕ) Fault) (p : ℕ) (ps : List ℕ) : Type 0 where
    x : Found ℕ
    at : node_at document (p ∷ ps) ≡ Some x
    place : IsSite document (spot_from p ps) x
    changed : change (here place) place.content ≡ Ok new

  reaches : (change : Found ℕ → Content → Result (Edited ℕ) Fault) (p : ℕ) (ps : List ℕ) (o : Option (Found ℕ)) → node_at document (p ∷ ps) ≡ o
      → by_node change o ≡ Ok new → Reaches change p ps
  reaches change p ps None e h = absurd (cc)
  reaches change p ps (Some x) e h =
      let s = site document p ps x e in
      record { x = x; at = e; place = s; changed = ap (λ y. by_content change y y.content) (sym s.is) ∙ h }

  -- the numbers of the node and of all below it
  own-numbers : (p : ℕ) (ps : List ℕ) (x : Found ℕ) → node_at document (p ∷ ps) ≡ Some x → (s : IsSite document (spot_from p ps) x) → (test : ℕ → Bool)
      → occurs test (numbers_from (node_at document (p ∷ ps))) ≡ stands test (Node s.label s.content s.children Empty)
  own-numbers p ps x at s test =
      let is = ap (λ o. occurs test (numbers_from o)) at ∙ ap (λ y. occurs test (y.label ∷ labels y.children)) s.is in
      let below = occurs-labels test s.children in
      omega arith

  -- the node is taken out, or others stand in its place
  taken-spares : (all : Bool) (p : ℕ) (ps : List ℕ) (x : Found ℕ) → node_at document (p ∷ ps) ≡ Some x → (s : IsSite document (spot_from p ps) x) → (g : Forest ℕ)
      → new.nodes ≡ filled s.around g → ((test : ℕ → Bool) → counted all test s.before + counted all test s.after ≤ counted all test g)
      → Spares all (numbers_from (node_at document (p ∷ ps))) document.nodes new.nodes
  taken-spares all p ps x at s g is h =
      around-spares all _ s.around (followed s.before (Node s.label s.content s.children s.after)) g document.nodes new.nodes s.whole is
      (λ test. (
      let own = own-numbers p ps x at s test in
      let most = counted-most all test (Node s.label s.content s.children Empty) in
      let node = counted-node all test s.label s.content s.children s.after in
      let old = counted-followed all test s.before (Node s.label s.content s.children s.after) in
      let stay = h test in
      omega arith
      ))

  deletion-spares : (p : ℕ) (ps : List ℕ) (r : Reaches (deletes (spot_from p ps) document) p ps)
      → Spares false (numbers_from (node_at document (p ∷ ps))) document.nodes new.nodes
  deletion-spares p ps r =
      let spot = spot_from p ps in
      let s = r.place in
      let u = unless_ok (is_document_element (here s) s.content)
      (Ok (record { nodes = children_changed (deleted (spot.position - 1)) spot.above document.nodes; made = 0 })) 9 new r.changed in
      let is = ok_same (record { nodes = children_changed (deleted (spot.position - 1)) spot.above document.nodes; made = 0 }) new u in
      taken-spares false p ps r.x r.at s (met s.before s.after) (sym (ap (λ d. d.nodes) is) ∙ s.deleted_is)
      (λ test. (let both = counted-met test s.before s.after in omega arith))

  renewal-spares : (all : Bool) (p : ℕ) (ps : List ℕ) (x : Found ℕ) → node_at document (p ∷ ps) ≡ Some x → (s : IsSite document (spot_from p ps) x) → (content : Content)
      → renewed same_nodes first (spot_from p ps) document (here s) content ≡ Ok new
      → Spares all (numbers_from (node_at document (p ∷ ps))) document.nodes new.nodes
  renewal-spares all p ps x at s content h =
      let spot = spot_from p ps in
      let tree = tree_with content (here s) in
      let a = answer_ok (tree_faults first (here s) tree) (Ok (record {
        nodes = children_changed (replaced (spot.position - 1) spot.position (numbered first tree)) spot.above document.nodes;
        made = size tree;
      })) new h in
      let is = ok_same _ new a.1 in
      taken-spares all p ps x at s (followed s.before (followed (numbered first tree) s.after)) (sym (ap (λ d. d.nodes) is) ∙ s.replaced_is (numbered first tree))
      (λ test. (
      let outer = counted-followed all test s.before (followed (numbered first tree) s.after) in
      let inner = counted-followed all test (numbered first tree) s.after in
      omega arith
      ))

  -- ---- Where the node stays

  content-spares : (all : Bool) (p : ℕ) (ps : List ℕ) (x : Found ℕ) (s : IsSite document (spot_from p ps) x) (old content : Content) → s.content ≡ old → AreLike old content
      → answered (with_content (spot_from p ps) document content) ≡ Ok new → Spares all [] document.nodes new.nodes
  content-spares all p ps x s old content was like h =
      let is = ok_same (with_content (spot_from p ps) document content) new h in
      around-spares all [] s.around (followed s.before (Node s.label old s.children s.after)) (followed s.before (Node s.label content s.children s.after))
      document.nodes new.nodes (s.whole ∙ ap (λ c. filled s.around (followed s.before (Node s.label c s.children s.after))) was)
      (sym (ap (λ d. d.nodes) is) ∙ s.content_is content)
      (λ test. (
      let node = counted-like all test s.label old content s.children s.after like in
      let before = counted-followed all test s.before (Node s.label old s.children s.after) in
      let after = counted-followed all test s.before (Node s.label content s.children s.after) in
      omega arith
      ))

  text-spares : (p : ℕ) (ps : List ℕ) (x : Found ℕ) (s : IsSite document (spot_from p ps) x) (text value : List ℕ) → s.content ≡ Text text
      → answered (with_text (spot_from p ps) document value) ≡ Ok new → Spares (not (texts_may_go (SetText (p ∷ ps) value))) [] document.nodes new.nodes
  text-spares p ps x s text [] was h =
      let spot = spot_from p ps in
      let is = ok_same (record { nodes = children_changed (deleted (spot.position - 1)) spot.above document.nodes; made = 0 }) new h in
      around-spares false [] s.around (followed s.before (Node s.label (Text text) s.children s.after)) (met s.before s.after) document.nodes new.nodes
      (s.whole ∙ ap (λ c. filled s.around (followed s.before (Node s.label c s.children s.after))) was) (sym (ap (λ d. d.nodes) is) ∙ s.deleted_is)
      (λ test. (
      let before = counted-followed false test s.before (Node s.label (Text text) s.children s.after) in
      let after = counted-met test s.before s.after in
      omega arith
      ))
  text-spares p ps x s text (c ∷ cs) was h = content-spares true p ps x s (Text text) (Text (c ∷ cs)) was (texts text (c ∷ cs)) h

  set-spares : (p : ℕ) (ps : List ℕ) (x : Found ℕ) (s : IsSite document (spot_from p ps) x) (value : List ℕ) (content : Content) → s.content ≡ content
      → text_set (spot_from p ps) document value content ≡ Ok new → Spares (not (texts_may_go (SetText (p ∷ ps) value))) [] document.nodes new.nodes
  set-spares p ps x s value (Element name attributes) was h = absurd (cc)
  set-spares p ps x s value (Text text) was h =
      let r = if_ok (list_all is_char value) (Ok (with_text (spot_from p ps) document value)) 8 new h in text-spares p ps x s text value was r.1
  set-spares p ps x s value (Comment text) was h =
      let r = if_ok (list_all is_char value) (Ok (with_content (spot_from p ps) document (Comment value))) 8 new h in
      content-spares (not (texts_may_go (SetText (p ∷ ps) value))) p ps x s (Comment text) (Comment value) was (comments text value) r.1
  set-spares p ps x s value (Instruction target text) was h =
      let r = if_ok (list_all is_char value) (Ok (with_content (spot_from p ps) document (Instruction target value))) 8 new h in
      content-spares (not (texts_may_go (SetText (p ∷ ps) value))) p ps x s (Instruction target text) (Instruction target value) was (instructions target target text value) r.1

  -- ---- Attributes and names

  attributes-spare : (p : ℕ) (ps : List ℕ) (x : Found ℕ) → node_at document (p ∷ ps) ≡ Some x → (s : IsSite document (spot_from p ps) x)
      → (own : List ℕ) (old more : List Written) → s.content ≡ Element own old → (b : Bool)
      → cond b (renewed same_nodes first (spot_from p ps) document (here s) (Element own more)) (with_element (spot_from p ps) document (here s) (Element own more)) ≡ Ok new
      → Spares true (cond b (numbers_from (node_at document (p ∷ ps))) []) document.nodes new.nodes
  attributes-spare p ps x at s own old more was true h = renewal-spares true p ps x at s (Element own more) h
  attributes-spare p ps x at s own old more was false h =
      let content = Element own more in
      let a = answer_ok (content_faults (within content (scope_around (here s))) (depth_of (here s)) (alone 0) content)
      (Ok (with_content (spot_from p ps) document content)) new h in
      content-spares true p ps x s (Element own old) content was (elements own own old more) a.1

  attribute-spares : (p : ℕ) (ps : List ℕ) (name value : List ℕ) (x : Found ℕ) → node_at document (p ∷ ps) ≡ Some x → (s : IsSite document (spot_from p ps) x)
      → (content : Content) → s.content ≡ content → attribute_set same_nodes first (spot_from p ps) document name value (here s) content ≡ Ok new
      → Spares true (cond (makes_anew name) (numbers_from (node_at document (p ∷ ps))) []) document.nodes new.nodes
  attribute-spares p ps name value x at s (Element own attributes) was h =
      let more = with_attribute name value attributes in
      let r = if_ok (list_all is_char value) (attributes_changed same_nodes first (spot_from p ps) document (here s) name (Element own more)) 8 new h in
      attributes-spare p ps x at s own attributes more was (makes_anew name) r.1
  attribute-spares p ps name value x at s (Text text) was h = absurd (cc)
  attribute-spares p ps name value x at s (Comment text) was h = absurd (cc)
  attribute-spares p ps name value x at s (Instruction target text) was h = absurd (cc)

  removal-spares : (p : ℕ) (ps : List ℕ) (name : List ℕ) (x : Found ℕ) → node_at document (p ∷ ps) ≡ Some x → (s : IsSite document (spot_from p ps) x)
      → (content : Content) → s.content ≡ content → attribute_removed same_nodes first (spot_from p ps) document name (here s) content ≡ Ok new
      → Spares true (cond (makes_anew name) (numbers_from (node_at document (p ∷ ps))) []) document.nodes new.nodes
  removal-spares p ps name x at s (Element own attributes) was h =
      let more = without_attribute name attributes in
      let r = if_ok (list_any (is_named name) attributes) (attributes_changed same_nodes first (spot_from p ps) document (here s) name (Element own more)) 6 new h in
      attributes-spare p ps x at s own attributes more was (makes_anew name) r.1
  removal-spares p ps name x at s (Text text) was h = absurd (cc)
  removal-spares p ps name x at s (Comment text) was h = absurd (cc)
  removal-spares p ps name x at s (Instruction target text) was h = absurd (cc)

  name-spares : (p : ℕ) (ps : List ℕ) (name : List ℕ) (x : Found ℕ) → node_at document (p ∷ ps) ≡ Some x → (s : IsSite document (spot_from p ps) x)
      → (content : Content) → renamed same_nodes first (spot_from p ps) document name (here s) content ≡ Ok new
      → Spares true (numbers_from (node_at document (p ∷ ps))) document.nodes new.nodes
  name-spares p ps name x at s (Element own attributes) h = renewal-spares true p ps x at s (Element name attributes) h
  name-spares p ps name x at s (Text text) h = absurd (cc)
  name-spares p ps name x at s (Comment text) h = absurd (cc)
  name-spares p ps name x at s (Instruction target text) h = renewal-spares true p ps x at s (Instruction name text) h

spares : (first : ℕ) (edit : Edit) (document : Document ℕ) (new : Edited ℕ) → edited_nodes first edit document ≡ Ok new
    → Spares (not (texts_may_go edit)) (taken edit document) document.nodes new.nodes
spares first (Insert [] body) document new h = absurd (cc)
spares first (Insert (p ∷ ps) body) document new h =
    let spot = spot_from p ps in inserted-spares first document new spot body (node_at document spot.above) refl h
spares first (Delete []) document new h = absurd (cc)
spares first (Delete (p ∷ ps)) document new h =
    deletion-spares first document new p ps (reaches first document new (deletes (spot_from p ps) document) p ps (node_at document (p ∷ ps)) refl h)
spares first (SetText [] value) document new h = absurd (cc)
spares first (SetText (p ∷ ps) value) document new h =
    let r = reaches first document new (λ node. text_set (spot_from p ps) document value) p ps (node_at document (p ∷ ps)) refl h in
    set-spares first document new p ps r.x r.place value r.place.content refl r.changed
spares first (SetAttribute [] name value) document new h = absurd (cc)
spares first (SetAttribute (p ∷ ps) name value) document new h =
    let r = reaches first document new (attribute_set same_nodes first (spot_from p ps) document name value) p ps (node_at document (p ∷ ps)) refl h in
    attribute-spares first document new p ps name value r.x r.at r.place r.place.content refl r.changed
spares first (RemoveAttribute [] name) document new h = absurd (cc)
spares first (RemoveAttribute (p ∷ ps) name) document new h =
    let r = reaches first document new (attribute_removed same_nodes first (spot_from p ps) document name) p ps (node_at document (p ∷ ps)) refl h in
    removal-spares first document new p ps name r.x r.at r.place r.place.content refl r.changed
spares first (Rename [] name) document new h = absurd (cc)
spares first (Rename (p ∷ ps) name) document new h =
    let r = reaches first document new (renamed same_nodes first (spot_from p ps) document name) p ps (node_at document (p ∷ ps)) refl h in
    name-spares first document new p ps name r.x r.at r.place r.place.content r.changed

-- ---- Nodes of normal documents

-- a node that counts has nothing but such nodes above it, since texts have nothing below them
counted-here : (all : Bool) (above : List Content) (f : Forest ℕ) (x : Found ℕ) → IsNormal f → (kind_by x.content ≡ kind.Text → all ≡ true)
    → StandsIn above f x → 1 ≤ counted all (λ m. m == x.label) f
counted-here all above Empty x normal counts h = absurd h
counted-here all above (Node l (Element n a) f s) x normal counts (inl e) =
    let own : one_if (l == x.label) ≡ 1 = ap one_if (eq-eqb l x.label (sym (ap (λ y. y.label) e))) in omega arith
counted-here all above (Node l (Element n a) f s) x normal counts (inr (inl h)) =
    let below = counted-here all (Element n a ∷ above) f x normal.0 counts h in omega arith
counted-here all above (Node l (Element n a) f s) x normal counts (inr (inr h)) =
    let behind = counted-here all above s x normal.1 counts h in omega arith
counted-here all above (Node l (Text t) f s) x normal counts (inl e) =
    let test : ℕ → Bool = λ m. m == x.label in
    let own : one_if (l == x.label) ≡ 1 = ap one_if (eq-eqb l x.label (sym (ap (λ y. y.label) e))) in
    let whole : cond all (one_if (l == x.label) + counted all test f) 0 ≡ one_if (l == x.label) + counted all test f =
    ap (λ b. cond b (one_if (l == x.label) + counted all test f) 0) (counts (ap (λ y. kind_by y.content) e)) in
    omega arith
counted-here all above (Node l (Text t) f s) x normal counts (inr (inl h)) =
    absurd (let none : StandsIn (Text t ∷ above) Empty x = subst (λ g. StandsIn (Text t ∷ above) g x) normal.0 h in none)
counted-here all above (Node l (Text t) f s) x normal counts (inr (inr h)) = let behind = counted-here all above s x normal.3 counts h in omega arith
counted-here all above (Node l (Comment t) f s) x normal counts (inl e) =
    let own : one_if (l == x.label) ≡ 1 = ap one_if (eq-eqb l x.label (sym (ap (λ y. y.label) e))) in omega arith
counted-here all above (Node l (Comment t) f s) x normal counts (inr (inl h)) =
    absurd (let none : StandsIn (Comment t ∷ above) Empty x = subst (λ g. StandsIn (Comment t ∷ above) g x) normal.0 h in none)
counted-here all above (Node l (Comment t) f s) x normal counts (inr (inr h)) = let behind = counted-here all above s x normal.1 counts h in omega arith
counted-here all above (Node l (Instruction n t) f s) x normal counts (inl e) =
    let own : one_if (l == x.label) ≡ 1 = ap one_if (eq-eqb l x.label (sym (ap (λ y. y.label) e))) in omega arith
counted-here all above (Node l (Instruction n t) f s) x normal counts (inr (inl h)) =
    absurd (let none : StandsIn (Instruction n t ∷ above) Empty x = subst (λ g. StandsIn (Instruction n t ∷ above) g x) normal.0 h in none)
counted-here all above (Node l (Instruction n t) f s) x normal counts (inr (inr h)) =
    let behind = counted-here all above s x normal.1 counts h in omega arith

pub number-stays : (first : ℕ) (edit : Edit) (document : Document ℕ) (new : Edited ℕ) → edited_nodes first edit document ≡ Ok new → IsNormal document.nodes
    → (path : List ℕ) (x : Found ℕ) → node_at document path ≡ Some x → is_among (taken edit document) x.label ≡ false
    → (kind_by x.content ≡ kind.Text → texts_may_go edit ≡ false) → is_among (document.root ∷ labels new.nodes) x.label ≡ true
number-stays first edit document new e normal [] x at spared stays =
    let is = some_same (root_of document) x at in
    let own : one_if (document.root == x.label) ≡ 1 = ap one_if (eq-eqb document.root x.label (ap (λ y. y.label) is)) in
    some-among x.label (document.root ∷ labels new.nodes) (omega arith)
number-stays first edit document new e normal (p ∷ ps) x at spared stays =
    let all = not (texts_may_go edit) in
    let test : ℕ → Bool = λ m. m == x.label in
    let there = counted-here all [] document.nodes x normal (λ text. ap not (stays text)) (at_path document p ps x at) in
    let none = among-none x.label (taken edit document) spared in
    let spared_all = spares first edit document new e in
    let stay = spared_all.at test in
    let most = counted-most all test new.nodes in
    let whole = occurs-labels test new.nodes in
    some-among x.label (document.root ∷ labels new.nodes) (omega arith)
