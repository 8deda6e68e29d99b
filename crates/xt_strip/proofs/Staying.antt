-- A node that stays where it is, with another content: what is seen below it stays too, where its declarations and xml:space do.
use Rattle.std.proofs.Common.{◌≡◌, ℕ, zero, suc, ◌+◌, ◌-◌, ◌==◌, Bool, true, false, cond, List, [], ◌∷◌, ◌++◌, Option, Some, None, arith, refl, sym, ap, ◌∙◌, subst}
use Rattle.std.specs.Prelude.{Result, Ok, IsTrue, nat_lt, ◌&&◌}
use Rattle.std.specs.List.{list_all, list_any}
use Rattle.std.specs.Option.{option_and_then, option_map}
use Rattle.std.proofs.lemmas.Bool.{and_parts, ltb-true}
use Rattle.spec_document.specs.Forest.{Written, Content, Element, Text, Comment, Instruction, Forest, Empty, Node, Document, followed, labels, numbered, plain, size}
use Rattle.spec_document.specs.Balance.{alone}
use Rattle.spec_document.specs.Character.{is_char}
use Rattle.spec_document.specs.Declaration.{within}
use Rattle.spec_document.specs.Fault.{Fault}
use Rattle.spec_document.specs.NodeFaults.{content_faults}
use Rattle.spec_document.specs.Place.{Found, child_at, found_in, node_at, node_from, root_of}
use Rattle.spec_change.specs.Change.{IsEdit}
use Rattle.spec_edit.specs.Edit.{Edit, Insert, Delete, SetText, SetAttribute, RemoveAttribute, Rename, Edited, attribute_removed, attribute_set}
use Rattle.spec_edit.specs.Edit.{attributes_changed, by_content, by_node, depth_of, edited_nodes, is_named, makes_anew, renewed, scope_around}
use Rattle.spec_edit.specs.Edit.{tree_faults, tree_with, with_attribute, with_content, with_element, without_attribute}
use Rattle.spec_edit.specs.Judged.{path_of}
use Rattle.spec_edit.proofs.Around.{some_same}
use Rattle.spec_edit.proofs.Shapes.{answer_ok, answered, if_ok, ok_same}
use Rattle.spec_edit.specs.Splice.{Spot, spot_from, spot_of, children_changed, content_replaced, first_siblings, later_siblings, replaced}
use Rattle.spec_seen.specs.Seen.{Around, around_in, seen_among}
use Rattle.spec_stylesheet.specs.Sheet.{SpaceRule}
use Rattle.xt_strip.specs.Along.{IsKept, IsSameInside, children_in, shown_count}
use Rattle.xt_strip.specs.Edited.{sets_attribute}
use Rattle.xt_strip.proofs.Places.{children_then}
use Rattle.xt_strip.proofs.Sharing.{first-next, later-next, later-none, seen-first, seen-followed, seen-later, unlike}

abbrev content_head : Content → Forest ℕ → Forest ℕ
content_head new Empty = Empty
content_head new (Node l c f s) = Node l new f s

content-next : (new : Content) (n l : ℕ) (c : Content) (f s : Forest ℕ)
    → content_replaced (1 + n + 1) new (Node l c f s) ≡ Node l c f (content_replaced (n + 1) new s)
content-next new n l c f s =
    let back : 1 + n + 1 - 1 ≡ n + 1 = omega arith in
    ap (λ b. cond b (Node l new f s) (Node l c f (content_replaced (1 + n + 1 - 1) new s))) (unlike (1 + n + 1) 1 (λ e. omega arith))
    ∙ ap (λ m. Node l c f (content_replaced m new s)) back

content-there : (new : Content) (index : ℕ) (f : Forest ℕ) (l : ℕ) (c : Content) (below rest : Forest ℕ)
    → later_siblings index f ≡ Node l c below rest → content_replaced (index + 1) new f ≡ followed (first_siblings index f) (Node l new below rest)
content-there new zero Empty l c below rest e = absurd (cc)
content-there new (suc n) Empty l c below rest e = absurd (cc)
content-there new zero (Node k d i s) l c below rest e = ap (content_head new) e
content-there new (suc n) (Node k d i s) l c below rest e =
    let is : suc n ≡ 1 + n = omega arith in
    ap (λ m. content_replaced (m + 1) new (Node k d i s)) is ∙ content-next new n k d i s
    ∙ ap (Node k d i) (content-there new n s l c below rest (sym (later-next n k d i s) ∙ ap (λ m. later_siblings m (Node k d i s)) (sym is) ∙ e))
    ∙ ap (λ x. followed x (Node l new below rest)) (sym (first-next n k d i s))
    ∙ ap (λ m. followed (first_siblings m (Node k d i s)) (Node l new below rest)) (sym is)

-- what is seen of siblings of which an element has another content, inside which all is as it was
pub stays_seen : (rules : List SpaceRule) (around was_inside inside : Around) (index position k : ℕ) (f s : Forest ℕ)
    (l : ℕ) (c : Content) (was rest : Forest ℕ) (m : ℕ) (d : Content) (below behind result : Forest ℕ) (new : Content)
    (name own : List ℕ) (old attributes : List Written)
    → position ≡ index + 1 → later_siblings index f ≡ Node l c was rest → k ≡ shown_count around (first_siblings index f)
    → s ≡ seen_among rules around f → later_siblings k s ≡ Node m d below behind → c ≡ Element name old → new ≡ Element own attributes
    → was_inside ≡ around_in rules around name old → inside ≡ around_in rules around own attributes → was_inside ≡ inside
    → result ≡ followed (first_siblings k s) (Node m new below behind)
    → result ≡ seen_among rules around (content_replaced position new f)
stays_seen rules around was_inside inside index position k f s l c was rest m d below behind result new name own old attributes p at count is shown old_is new_is before after same made =
    let see = seen_among rules around in
    let front : first_siblings k s ≡ see (first_siblings index f) = (λ i. first_siblings (count i) (is i)) ∙ seen-first rules around index f in
    let back : later_siblings k s ≡ see (later_siblings index f) = (λ i. later_siblings (count i) (is i)) ∙ seen-later rules around index f in
    let node : Node m d below behind ≡ see (Node l (Element name old) was rest) =
    sym shown ∙ back ∙ ap see at ∙ ap (λ x. see (Node l x was rest)) old_is in
    let inner : around_in rules around name old ≡ around_in rules around own attributes = sym before ∙ same ∙ after in
    let now : Node m new below behind ≡ see (Node l new was rest) =
    ap (content_head new) node
    ∙ ap (λ x. Node l x (seen_among rules (around_in rules around name old) was) (see rest)) new_is
    ∙ ap (λ a. Node l (Element own attributes) (seen_among rules a was) (see rest)) inner
    ∙ ap (λ x. see (Node l x was rest)) (sym new_is) in
    made ∙ (λ i. followed (front i) (now i))
    ∙ sym (seen-followed rules around (first_siblings index f) (Node l new was rest))
    ∙ ap see (sym (content-there new index f l c was rest at)) ∙ ap (λ q. see (content_replaced q new f)) (sym p)

-- ---- Attributes that are set or removed

-- the element stays with another content, or it is made anew
data AttributeMade (first index : ℕ) (above : List ℕ) (document : Document ℕ) (new : Edited ℕ) : Type 0 where
  stays : (c : Content) → new.nodes ≡ children_changed (content_replaced (index + 1) c) above document.nodes → AttributeMade first index above document new
  renews : (c : Content) → (children : Forest ℕ) → new.nodes ≡ children_changed (replaced index (index + 1) (Node first c children Empty)) above document.nodes
      → AttributeMade first index above document new

module _ (first : ℕ) (document : Document ℕ) (new : Edited ℕ) (spot : Spot) (index : ℕ) (position : spot.position ≡ index + 1) where
  abbrev Made : Type 0
  Made = AttributeMade first index spot.above document new

  nodes : (f : Forest ℕ) (made : ℕ) → answered (record { nodes = f; made = made }) ≡ Ok new → new.nodes ≡ f
  nodes f made h = sym (ap (λ d. d.nodes) (ok_same (record { nodes = f; made = made }) new h))

  before : spot.position - 1 ≡ index
  before = omega arith

  made-by : (x : Found ℕ) (content : Content) (b : Bool)
      → cond b (renewed (λ nodes. nodes) first spot document x content) (with_element spot document x content) ≡ Ok new → Made
  made-by x content true h =
      let tree = tree_with content x in
      let others = numbered first tree in
      let a = answer_ok (tree_faults first x tree) (Ok (record {
        nodes = children_changed (replaced (spot.position - 1) spot.position others) spot.above document.nodes;
        made = size tree;
      })) new h in
      renews content (numbered (first + 1) (plain x.children))
      (nodes (children_changed (replaced (spot.position - 1) spot.position others) spot.above document.nodes) (size tree) a.1
      ∙ (λ i. children_changed (replaced (before i) (position i) others) spot.above document.nodes))
  made-by x content false h =
      let a = answer_ok (content_faults (within content (scope_around x)) (depth_of x) (alone 0) content) (Ok (with_content spot document content)) new h in
      stays content (nodes (children_changed (content_replaced spot.position content) spot.above document.nodes) 0 a.1
      ∙ ap (λ n. children_changed (content_replaced n content) spot.above document.nodes) position)

  set-made : (name value : List ℕ) (x : Found ℕ) (content : Content)
      → attribute_set (λ nodes. nodes) first spot document name value x content ≡ Ok new → Made
  set-made name value x (Element own attributes) h =
      let content = Element own (with_attribute name value attributes) in
      made-by x content (makes_anew name)
      (if_ok (list_all is_char value) (attributes_changed (λ nodes. nodes) first spot document x name content) 8 new h).1
  set-made name value x (Text text) h = absurd (cc)
  set-made name value x (Comment text) h = absurd (cc)
  set-made name value x (Instruction target text) h = absurd (cc)

  removed-made : (name : List ℕ) (x : Found ℕ) (content : Content)
      → attribute_removed (λ nodes. nodes) first spot document name x content ≡ Ok new → Made
  removed-made name x (Element own attributes) h =
      let content = Element own (without_attribute name attributes) in
      made-by x content (makes_anew name)
      (if_ok (list_any (is_named name) attributes) (attributes_changed (λ nodes. nodes) first spot document x name content) 6 new h).1
  removed-made name x (Text text) h = absurd (cc)
  removed-made name x (Comment text) h = absurd (cc)
  removed-made name x (Instruction target text) h = absurd (cc)

  by-content : (change : Found ℕ → Content → Result (Edited ℕ) Fault) → ((x : Found ℕ) (c : Content) → change x c ≡ Ok new → Made)
      → (x : Found ℕ) (o : Option Content) → by_content change x o ≡ Ok new → Made
  by-content change go x None h = absurd (cc)
  by-content change go x (Some c) h = go x c h

  by-node : (change : Found ℕ → Content → Result (Edited ℕ) Fault) → ((x : Found ℕ) (c : Content) → change x c ≡ Ok new → Made)
      → (o : Option (Found ℕ)) → by_node change o ≡ Ok new → Made
  by-node change go None h = absurd (cc)
  by-node change go (Some x) h = by-content change go x x.content h

attribute-made : (first : ℕ) (edit : Edit) (document : Document ℕ) (new : Edited ℕ) (p : ℕ) (ps : List ℕ) (index : ℕ)
    → path_of edit ≡ p ∷ ps → (spot_from p ps).position ≡ index + 1 → sets_attribute edit ≡ true → edited_nodes first edit document ≡ Ok new
    → AttributeMade first index (spot_from p ps).above document new
attribute-made first (Insert path body) document new p ps index e position t h = absurd (cc)
attribute-made first (Delete path) document new p ps index e position t h = absurd (cc)
attribute-made first (SetText path value) document new p ps index e position t h = absurd (cc)
attribute-made first (SetAttribute path name value) document new p ps index e position t h =
    let spot = spot_from p ps in
    by-node first document new spot index position (attribute_set (λ nodes. nodes) first spot document name value)
    (λ x c d. set-made first document new spot index position name value x c d)
    (node_at document (p ∷ ps)) (subst (λ q. edited_nodes first (SetAttribute q name value) document ≡ Ok new) e h)
attribute-made first (RemoveAttribute path name) document new p ps index e position t h =
    let spot = spot_from p ps in
    by-node first document new spot index position (attribute_removed (λ nodes. nodes) first spot document name)
    (λ x c d. removed-made first document new spot index position name x c d)
    (node_at document (p ∷ ps)) (subst (λ q. edited_nodes first (RemoveAttribute q name) document ≡ Ok new) e h)
attribute-made first (Rename path name) document new p ps index e position t h = absurd (cc)

-- ---- Numbers below the first new one

abbrev Below : ℕ → Forest ℕ → Type 0
Below first f = IsTrue (list_all (λ n. nat_lt n first) (labels f))

all-parts : (p : ℕ → Bool) (xs ys : List ℕ) → list_all p (xs ++ ys) ≡ true → (list_all p xs ≡ true) × (list_all p ys ≡ true)
all-parts p [] ys h = (refl, h)
all-parts p (x ∷ xs) ys h =
    let a = and_parts (p x) (list_all p (xs ++ ys)) h in
    let rest = all-parts p xs ys a.1 in
    (and_both (p x) (list_all p xs) a.0 rest.0, rest.1)
  where
    and_both : (a b : Bool) → a ≡ true → b ≡ true → (a && b) ≡ true
    and_both true b h k = k
    and_both false b h k = h

later-below : (first n : ℕ) (f : Forest ℕ) → Below first f → Below first (later_siblings n f)
later-below first n Empty h = h
later-below first n (Node l c f s) h =
    elim (n == 0) as (λ b. Below first (cond b (Node l c f s) (later_siblings (n - 1) s))) [
      | true ↦ h
      | false ↦ later-below first (n - 1) s
          (all-parts (λ m. nat_lt m first) (labels f) (labels s) (and_parts (nat_lt l first) (list_all (λ m. nat_lt m first) (labels f ++ labels s)) h).1).1
    ]

child-below : (first : ℕ) (above : List Content) (f : Forest ℕ) (p : ℕ) (x : Found ℕ) → Below first f → child_at above f p ≡ Some x → Below first x.children
child-below first above Empty p x h e = absurd (cc)
child-below first above (Node l c f s) p x h e =
    let parts = all-parts (λ m. nat_lt m first) (labels f) (labels s)
    (and_parts (nat_lt l first) (list_all (λ m. nat_lt m first) (labels f ++ labels s)) h).1 in
    elim (p == 1) as (λ b. cond b (Some (found_in above l c f)) (child_at above s (p - 1)) ≡ Some x → Below first x.children) [
      | true ↦ λ k. subst (λ (y : Found ℕ). Below first y.children) (some_same (found_in above l c f) x k) parts.0
      | false ↦ λ k. child-below first above s (p - 1) x parts.1 k
    ] e

below-step : (first : ℕ) (ps : List ℕ) (y : Found ℕ) → ((z : Found ℕ) → Below first z.children → node_from ps z ≡ Some y → Below first y.children)
    → (o : Option (Found ℕ)) → ((z : Found ℕ) → o ≡ Some z → Below first z.children) → option_and_then (node_from ps) o ≡ Some y → Below first y.children
below-step first ps y go None low e = absurd (cc)
below-step first ps y go (Some z) low e = go z (low z refl) e

node-below : (first : ℕ) (ps : List ℕ) (x y : Found ℕ) → Below first x.children → node_from ps x ≡ Some y → Below first y.children
node-below first [] x y h e = subst (λ (z : Found ℕ). Below first z.children) (some_same x y e) h
node-below first (p ∷ ps) x y h e =
    below-step first ps y (λ z low k. node-below first ps z y low k) (child_at x.above x.children p)
    (λ z at. child-below first x.above x.children p z h at) e

siblings-below : (first : ℕ) (path : List ℕ) (document : Document ℕ) (s : Forest ℕ) → Below first document.nodes → Some s ≡ children_in document path
    → Below first s
siblings-below first path document s h there = by (node_at document path) refl there
  where
    by : (o : Option (Found ℕ)) → node_at document path ≡ o → Some s ≡ option_map (λ node. node.children) o → Below first s
    by None at e = absurd (cc)
    by (Some x) at e =
        subst (λ f. Below first f) (sym (some_same s x.children e)) (node-below first path (root_of document) x h at)

-- ---- A node that has its number stays

abbrev label_head : ℕ → Forest ℕ → ℕ
label_head other Empty = other
label_head other (Node l c f s) = l

abbrev content_of_head : Content → Forest ℕ → Content
content_of_head other Empty = other
content_of_head other (Node l c f s) = c

later-content : (new : Content) (index : ℕ) (f : Forest ℕ) → later_siblings index (content_replaced (index + 1) new f) ≡ content_head new (later_siblings index f)
later-content new index Empty = refl
later-content new zero (Node l c f s) = refl
later-content new (suc n) (Node l c f s) =
    let is : suc n ≡ 1 + n = omega arith in
    (λ i. later_siblings (is i) (content_replaced (is i + 1) new (Node l c f s)))
    ∙ ap (later_siblings (1 + n)) (content-next new n l c f s) ∙ later-next n l c f (content_replaced (n + 1) new s)
    ∙ later-content new n s
    ∙ ap (content_head new) (sym (later-next n l c f s) ∙ ap (λ m. later_siblings m (Node l c f s)) (sym is))

at_front : (n : ℕ) (f back : Forest ℕ) (l : ℕ) (c : Content) (below rest : Forest ℕ) → later_siblings n f ≡ Node l c below rest
    → later_siblings n (followed (first_siblings n f) back) ≡ back
at_front zero Empty back l c below rest e = absurd (cc)
at_front (suc n) Empty back l c below rest e = absurd (cc)
at_front zero (Node k d g s) back l c below rest e = later-none back
at_front (suc n) (Node k d g s) back l c below rest e =
    let is : suc n ≡ 1 + n = omega arith in
    let whole : Forest ℕ = Node k d g s in
    ap (λ m. later_siblings m (followed (first_siblings m whole) back)) is
    ∙ ap (λ x. later_siblings (1 + n) (followed x back)) (first-next n k d g s)
    ∙ later-next n k d g (followed (first_siblings n s) back)
    ∙ at_front n s back l c below rest (sym (later-next n k d g s) ∙ ap (λ m. later_siblings m whole) (sym is) ∙ e)

content_by : (first : ℕ) (old new : Document ℕ) (edited : Edited ℕ) (above : List ℕ) (index : ℕ) (s t : Forest ℕ) (l : ℕ) (d c : Content)
    (was now rest behind : Forest ℕ) → new ≡ record { root = old.root; nodes = edited.nodes } → Below first old.nodes
    → Some s ≡ children_in old above → Some t ≡ children_in new above → later_siblings index s ≡ Node l d was rest → later_siblings index t ≡ Node l c now behind
    → AttributeMade first index above old edited
    → new ≡ record { root = old.root; nodes = children_changed (content_replaced (index + 1) c) above old.nodes }
content_by first old new edited above index s t l d c was now rest behind is low there then_there here now_here (stays own nodes) =
    let stands = is ∙ ap (λ f. record { root = old.root; nodes = f }) nodes in
    let then_is = children_then (content_replaced (index + 1) own) old new above s t stands there then_there in
    let same : c ≡ own = ap (content_of_head c)
    (sym now_here ∙ ap (later_siblings index) then_is ∙ later-content own index s ∙ ap (content_head own) here) in
    stands ∙ ap (λ x. record { root = old.root; nodes = children_changed (content_replaced (index + 1) x) above old.nodes }) (sym same)
content_by first old new edited above index s t l d c was now rest behind is low there then_there here now_here (renews own children nodes) =
    let change = replaced index (index + 1) (Node first own children Empty) in
    let stands = is ∙ ap (λ f. record { root = old.root; nodes = f }) nodes in
    let then_is = children_then change old new above s t stands there then_there in
    let same : l ≡ first = ap (label_head l)
    (sym now_here ∙ ap (later_siblings index) then_is
    ∙ at_front index s (followed (Node first own children Empty) (later_siblings (index + 1) s)) l d was rest here) in
    let lower : nat_lt l first ≡ true = (and_parts (nat_lt l first) (list_all (λ m. nat_lt m first) (labels was ++ labels rest))
    (subst (λ f. Below first f) here (later-below first index s (siblings-below first above old s low there)))).0 in
    absurd (let less = ltb-true l first lower in omega arith)

pub content_stays : (edit : Edit) (old new : Document ℕ) (above : List ℕ) (position index : ℕ) (s t : Forest ℕ) (l : ℕ) (d c : Content)
    (was now rest behind : Forest ℕ) → IsEdit edit old new → sets_attribute edit ≡ true
    → spot_of (path_of edit) ≡ Some (record { above = above; position = position }) → position ≡ index + 1
    → Some s ≡ children_in old above → Some t ≡ children_in new above → later_siblings index s ≡ Node l d was rest → later_siblings index t ≡ Node l c now behind
    → new ≡ record { root = old.root; nodes = children_changed (content_replaced position c) above old.nodes }
content_stays edit old new above position index s t l d c was now rest behind is sets at p there then_there here now_here =
    content_by is.first old new is.edited above index s t l d c was now rest behind is.new_is low there then_there here now_here
    (by (path_of edit) refl at)
    ∙ ap (λ n. record { root = old.root; nodes = children_changed (content_replaced n c) above old.nodes }) (sym p)
  where
    low : Below is.first old.nodes
    low = (and_parts (nat_lt old.root is.first) (list_all (λ m. nat_lt m is.first) (labels old.nodes)) is.below).1

    by : (q : List ℕ) → path_of edit ≡ q → spot_of q ≡ Some (record { above = above; position = position }) → AttributeMade is.first index above old is.edited
    by [] e k = absurd (cc)
    by (q ∷ qs) e k =
        let same : spot_from q qs ≡ record { above = above; position = position } = some_same (spot_from q qs) (record { above = above; position = position }) k in
        subst (λ (x : Spot). AttributeMade is.first index x.above old is.edited) same
        (attribute-made is.first edit old is.edited q qs index e (ap (λ (x : Spot). x.position) same ∙ p) sets is.edited_is)

-- the same of a node that was found to have its number
pub kept_stays : (edit : Edit) (old new : Document ℕ) (above : List ℕ) (position : ℕ) (s t : Forest ℕ) (content : Content)
    → IsEdit edit old new → sets_attribute edit ≡ true → spot_of (path_of edit) ≡ Some (record { above = above; position = position })
    → Some s ≡ children_in old above → Some t ≡ children_in new above → IsKept position s t content
    → new ≡ record { root = old.root; nodes = children_changed (content_replaced position content) above old.nodes }
kept_stays edit old new above position s t content is sets at there then_there k =
    content_stays edit old new above position k.index s t k.label k.own content k.was k.now k.rest k.behind is sets at k.position_is there then_there k.old_is k.new_is

-- and of what is seen of it
pub seen_stays : (rules : List SpaceRule) (around : Around) (index position k : ℕ) (f s : Forest ℕ) (l : ℕ) (c : Content) (was rest : Forest ℕ)
    (m : ℕ) (d : Content) (below behind result : Forest ℕ) (new : Content)
    → position ≡ index + 1 → later_siblings index f ≡ Node l c was rest → k ≡ shown_count around (first_siblings index f)
    → s ≡ seen_among rules around f → later_siblings k s ≡ Node m d below behind → IsSameInside rules around c new
    → result ≡ followed (first_siblings k s) (Node m new below behind)
    → result ≡ seen_among rules around (content_replaced position new f)
seen_stays rules around index position k f s l c was rest m d below behind result new p at count is shown i made =
    stays_seen rules around (around_in rules around i.name i.attributes) (around_in rules around i.own i.others) index position k f s l c was rest m d
    below behind result new i.name i.own i.attributes i.others p at count is shown i.old_is i.new_is refl refl i.same made
