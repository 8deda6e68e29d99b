-- Each edit that is accepted leads from the document before to the one after.
use Rattle.std.proofs.Common.{◌≡◌, arith, ℕ, ◌+◌, ◌-◌, ◌==◌, Bool, true, false, not, cond, List, [], ◌∷◌, ◌++◌}
use Rattle.std.proofs.Common.{Option, None, Some}
use Rattle.std.proofs.Common.{refl, sym, ap, ◌∙◌, subst, map}
use Rattle.std.specs.Prelude.{Result, Ok, Err, bytes_eq, codes}
use Rattle.std.specs.List.{list_all, list_any, filter}
use Rattle.std.specs.Option.{option_map, option_and_then}
use Rattle.std.proofs.lemmas.Slice.Eq.{bytes_eq-Decides}
use Rattle.spec_document.specs.declared.parent.Parent.{Parent}
use Rattle.spec_document.specs.declared.usage.AttributeUse.TheVariants.{Declares, Names, NoName}
use Rattle.spec_document.specs.Character.{is_char}
use Rattle.spec_document.specs.Forest.{Written, Content, Element, Text, Comment, Instruction, Forest, Empty, Node}
use Rattle.spec_document.specs.Forest.{Document, labels, numbered, size, followed}
use Rattle.spec_document.specs.Declaration.{PlainUse, use_of, is_declaration, within, declared_all, scope_of}
use Rattle.spec_document.specs.Place.{Found, root_of, found_in, child_at, node_from, node_at, scope_at}
use Rattle.spec_document.specs.Scope.{root_scope}
use Rattle.spec_document.specs.Fault.{Fault}
use Rattle.spec_document.specs.NodeFaults.{content_faults}
use Rattle.spec_document.specs.Balance.{alone}
use Rattle.spec_document.specs.Document.{nodes_of}
use Rattle.spec_edit.specs.Splice.{Spot, spot_from, first_siblings, later_siblings, replaced, content_replaced}
use Rattle.spec_edit.specs.Splice.{below_changed, children_changed}
use Rattle.spec_edit.specs.Splice.{met, inserted, deleted}
use Rattle.spec_edit.specs.Edit.{Edit, Insert, Delete, SetText, SetAttribute, RemoveAttribute, Rename, Edited}
use Rattle.spec_edit.specs.Edit.{depth_of, tree_with, tree_faults, renewed, scope_around, with_content, with_element}
use Rattle.spec_edit.specs.Edit.{parent_by, inserts, is_position, inserted_below, inserted_in, is_document_element}
use Rattle.spec_edit.specs.Edit.{deletes, with_text, text_set}
use Rattle.spec_edit.specs.Edit.{makes_anew, is_named, set_in, with_attribute, without_attribute, attributes_changed}
use Rattle.spec_edit.specs.Edit.{attribute_set, attribute_removed, renamed}
use Rattle.spec_edit.specs.Edit.{by_content, by_node, edited_nodes}
use Rattle.spec_change.specs.Change.{Change, sibling_labels, changes_attributes, changed_path, passed, passed_below}
use Rattle.spec_change.specs.Change.{change_between, change_at, change_of}
use Rattle.spec_edit.proofs.Around.{below, IsChild, child, some_same, first-later}
use Rattle.spec_edit.proofs.Shapes.{AreSet, is_set, is_removed, answered, ok_same, answer_ok, if_ok, same_nodes}
use Rattle.spec_edit.proofs.Numbers.{occurs-labels, stands, stands_around, stands-filled, numbered-again}
use Rattle.spec_edit.proofs.Numbers.{added-earlier, read_nodes, read_numbers}
use Rattle.spec_edit.proofs.Numbers.{AreOnce, AreBelow}
use Rattle.spec_change.proofs.Changing.{with_children, found-changed, changes}
use Rattle.spec_touch.specs.Leads.{Rewrites, text_rewritten, comment_rewritten, instruction_rewritten, ChildrenChange}
use Rattle.spec_touch.specs.Leads.{AttributesChange}
use Rattle.spec_touch.specs.Leads.{ChangesIn, children, attributes, inside, further, Leads, at_root, below_root}
use Rattle.spec_touch.proofs.Scopes.{same-declarations}
use Rattle.spec_touch.proofs.Parting.{IsUnder, Split, split_rewritten, split_goes, unsplit, met-split, followed-split}
use Rattle.spec_touch.proofs.Parting.{come-split, come-followed, parts-of, told-itself, Holds, child-holds}
use Rattle.spec_touch.proofs.Parting.{parent-holds}

unless_ok : {A : Type 0} (b : Bool) (r : Result A Fault) (n : ℕ) (x : A) → cond b (Err (record { number = n; line = 0 })) r ≡ Ok x
    → (b ≡ false) × (r ≡ Ok x)
unless_ok true r n x e = absurd (cc)
unless_ok false r n x e = (refl, e)

and-some : {A : Type 0} (o : Option A) → option_and_then Some o ≡ o
and-some None = refl
and-some (Some x) = refl

then-steps : {L : Type 0} (p q : ℕ) (qs : List ℕ) → ((y : Found L) → node_from (q ∷ qs) y
    ≡ option_and_then (λ x. child_at x.above x.children (spot_from q qs).position) (node_from (spot_from q qs).above y))
    → (o : Option (Found L)) → option_and_then (node_from (q ∷ qs)) o
    ≡ option_and_then (λ x. child_at x.above x.children (spot_from q qs).position) (option_and_then (node_from (spot_from q qs).above) o)
then-steps p q qs same None = refl
then-steps p q qs same (Some y) = same y

path-spot : {L : Type 0} (p : ℕ) (ps : List ℕ) (node : Found L)
    → node_from (p ∷ ps) node ≡ option_and_then (λ x. child_at x.above x.children (spot_from p ps).position)
    (node_from (spot_from p ps).above node)
path-spot p [] node = and-some (child_at node.above node.children p)
path-spot p (q ∷ qs) node = then-steps p q qs (path-spot q qs) (child_at node.above node.children p)

child-content : (above : List Content) (new : Content) (p : ℕ) (f : Forest ℕ)
    → child_at above (content_replaced p new f) p ≡ option_map (λ y. found_in above y.label new y.children) (child_at above f p)
child-content above new p Empty = refl
child-content above new p (Node l c f s) =
    let here : Option (Found ℕ) = Some (found_in above l c f) in
    let there = child_at above s (p - 1) in
    elim (p == 1) as (λ b. (p == 1) ≡ b
    → child_at above (cond b (Node l new f s) (Node l c f (content_replaced (p - 1) new s))) p
    ≡ option_map (λ y. found_in above y.label new y.children) (cond b here there)) [
      | true ↦ λ e i. cond (e i) (Some (found_in above l new f)) there
      | false ↦ λ e. (λ i. cond (e i) here (child_at above (content_replaced (p - 1) new s) (p - 1))) ∙ child-content above new (p - 1) s
    ] refl

-- ---- The way to the node of the change

module _ (change : Change) (x : Found ℕ) where
  children-in : (g : Forest ℕ → Forest ℕ) → ChildrenChange change x.label x.children (g x.children)
      → (p : ℕ) (ps : List ℕ) (above : List Content) (f : Forest ℕ) → option_and_then (node_from ps) (child_at above f p) ≡ Some x
      → ChangesIn change (passed_below (passed ps) (child_at above f p)) f (below_changed (children_changed g ps) p f)
  children-in g d p ps above Empty e = absurd (cc)
  children-in g d p [] above (Node l c f s) e =
      elim (p == 1) as (λ b. option_and_then (node_from []) (cond b (Some (found_in above l c f)) (child_at above s (p - 1))) ≡ Some x
      → ChangesIn change (passed_below (passed []) (cond b (Some (found_in above l c f)) (child_at above s (p - 1)))) (Node l c f s)
      (cond b (Node l c (g f) s) (Node l c f (below_changed (children_changed g []) (p - 1) s)))) [
        | true ↦ λ h. children (subst (λ y. ChildrenChange change y.label y.children (g y.children))
            (sym (some_same (found_in above l c f) x h)) d)
        | false ↦ λ h. further (children-in g d (p - 1) [] above s h)
      ] e
  children-in g d p (q ∷ qs) above (Node l c f s) e =
      elim (p == 1) as (λ b. option_and_then (node_from (q ∷ qs)) (cond b (Some (found_in above l c f)) (child_at above s (p - 1))) ≡ Some x
      → ChangesIn change (passed_below (passed (q ∷ qs)) (cond b (Some (found_in above l c f)) (child_at above s (p - 1)))) (Node l c f s)
      (cond b (Node l c (children_changed g (q ∷ qs) f) s) (Node l c f (below_changed (children_changed g (q ∷ qs)) (p - 1) s)))) [
        | true ↦ λ h. inside (children-in g d q qs (c ∷ above) f h)
        | false ↦ λ h. further (children-in g d (p - 1) (q ∷ qs) above s h)
      ] e

  element-in : (name : List ℕ) (old new : List Written) → x.content ≡ Some (Element name old)
      → AttributesChange change x.label old new x.children
      → (above : List Content) (l : ℕ) (c : Content) (f s : Forest ℕ) → found_in above l c f ≡ x
      → ChangesIn change [] (Node l c f s) (Node l (Element name new) f s)
  element-in name old new content d above l c f s e =
      let is : c ≡ Element name old = some_same c (Element name old) (ap (λ y. y.content) e ∙ content) in
      subst (λ k. ChangesIn change [] (Node l k f s) (Node l (Element name new) f s)) (sym is)
      (attributes (subst (λ y. AttributesChange change y.label old new y.children) (sym e) d))

  attributes-in : (name : List ℕ) (old new : List Written) → x.content ≡ Some (Element name old)
      → AttributesChange change x.label old new x.children
      → (p : ℕ) (ps : List ℕ) (above : List Content) (f : Forest ℕ) → option_and_then (node_from ps) (child_at above f p) ≡ Some x
      → ChangesIn change (passed_below (passed ps) (child_at above f p)) f
      (children_changed (content_replaced (spot_from p ps).position (Element name new)) (spot_from p ps).above f)
  attributes-in name old new content d p [] above Empty e = absurd (cc)
  attributes-in name old new content d p (q ∷ qs) above Empty e = absurd (cc)
  attributes-in name old new content d p [] above (Node l c f s) e =
      elim (p == 1) as (λ b. option_and_then (node_from []) (cond b (Some (found_in above l c f)) (child_at above s (p - 1))) ≡ Some x
      → ChangesIn change (passed_below (passed []) (cond b (Some (found_in above l c f)) (child_at above s (p - 1)))) (Node l c f s)
      (cond b (Node l (Element name new) f s) (Node l c f (content_replaced (p - 1) (Element name new) s)))) [
        | true ↦ λ h. element-in name old new content d above l c f s (some_same (found_in above l c f) x h)
        | false ↦ λ h. further (attributes-in name old new content d (p - 1) [] above s h)
      ] e
  attributes-in name old new content d p (q ∷ qs) above (Node l c f s) e =
      let below = children_changed (content_replaced (spot_from q qs).position (Element name new)) (spot_from q qs).above in
      elim (p == 1) as (λ b. option_and_then (node_from (q ∷ qs)) (cond b (Some (found_in above l c f)) (child_at above s (p - 1))) ≡ Some x
      → ChangesIn change (passed_below (passed (q ∷ qs)) (cond b (Some (found_in above l c f)) (child_at above s (p - 1)))) (Node l c f s)
      (cond b (Node l c (below f) s) (Node l c f (below_changed below (p - 1) s)))) [
        | true ↦ λ h. inside (attributes-in name old new content d q qs (c ∷ above) f h)
        | false ↦ λ h. further (attributes-in name old new content d (p - 1) (q ∷ qs) above s h)
      ] e

-- ---- Attributes that declare nothing

named-same : (name : List ℕ) (a : Written) → is_named name a ≡ true → a.name ≡ name
named-same name a e = (bytes_eq-Decides a.name name).0 e

declares-not : (name : List ℕ) (a : Written) → a.name ≡ name → makes_anew name ≡ false → is_declaration a ≡ false
declares-not name a same apart = ap (λ n. declares (use_of n)) same ∙ by (use_of name) refl
  where
    declares : PlainUse → Bool
    declares u = elim u [ Declares prefix ↦ true | Names read ↦ false | NoName ↦ false ]

    space : PlainUse → Bool
    space u = elim u [ Declares prefix ↦ true | Names read ↦ bytes_eq name (codes "xml:space") | NoName ↦ false ]

    by : (u : PlainUse) → use_of name ≡ u → declares (use_of name) ≡ false
    by (Declares prefix) e = absurd (let f : true ≡ false = sym (ap space e) ∙ apart in cc)
    by (Names read) e = ap declares e
    by NoName e = ap declares e

-- one in front that declares as another does
front-same : (a b : Written) (old new : List Written) → is_declaration a ≡ false → is_declaration b ≡ false
    → filter is_declaration new ≡ filter is_declaration old → filter is_declaration (a ∷ new) ≡ filter is_declaration (b ∷ old)
front-same a b old new e f h =
    (λ i. cond (e i) (a ∷ filter is_declaration new) (filter is_declaration new)) ∙ h
    ∙ sym (λ i. cond (f i) (b ∷ filter is_declaration old) (filter is_declaration old))

kept-front : (a : Written) (old new : List Written) → filter is_declaration new ≡ filter is_declaration old
    → filter is_declaration (a ∷ new) ≡ filter is_declaration (a ∷ old)
kept-front a old new h = λ i. cond (is_declaration a) (a ∷ h i) (h i)

module _ (name : List ℕ) (apart : makes_anew name ≡ false) where
  set-same : (value : List ℕ) (old : List Written) → filter is_declaration (map (set_in name value) old) ≡ filter is_declaration old
  set-same value [] = refl
  set-same value (a ∷ old) = by (is_named name a) refl (set-same value old)
    where
      new : List Written
      new = map (set_in name value) old

      by : (b : Bool) → is_named name a ≡ b → filter is_declaration new ≡ filter is_declaration old
          → filter is_declaration (cond b (record { name = name; value = value }) a ∷ new) ≡ filter is_declaration (a ∷ old)
      by true e h =
          front-same (record { name = name; value = value }) a old new (declares-not name (record { name = name; value = value }) refl apart)
          (declares-not name a (named-same name a e) apart) h
      by false e h = kept-front a old new h

  added-same : (value : List ℕ) (old : List Written)
      → filter is_declaration (old ++ record { name = name; value = value } ∷ []) ≡ filter is_declaration old
  added-same value [] =
      λ i. cond (declares-not name (record { name = name; value = value }) refl apart i) (record { name = name; value = value } ∷ []) []
  added-same value (a ∷ old) = kept-front a old (old ++ record { name = name; value = value } ∷ []) (added-same value old)

  with-same : (value : List ℕ) (old : List Written) → filter is_declaration (with_attribute name value old) ≡ filter is_declaration old
  with-same value old = by (list_any (is_named name) old)
    where
      by : (b : Bool) → filter is_declaration (cond b (map (set_in name value) old) (old ++ record { name = name; value = value } ∷ []))
          ≡ filter is_declaration old
      by true = set-same value old
      by false = added-same value old

  without-same : (old : List Written) → filter is_declaration (without_attribute name old) ≡ filter is_declaration old
  without-same [] = refl
  without-same (a ∷ old) = by (is_named name a) refl (without-same old)
    where
      rest : List Written
      rest = without_attribute name old

      by : (b : Bool) → is_named name a ≡ b → filter is_declaration rest ≡ filter is_declaration old
          → filter is_declaration (cond (not b) (a ∷ rest) rest) ≡ filter is_declaration (a ∷ old)
      by true e h =
          let others = filter is_declaration old in
          h ∙ sym (λ i. cond (declares-not name a (named-same name a e) apart i) (a ∷ others) others)
      by false e h = kept-front a old rest h

-- ---- What an edit makes of a document

pub data Led (first : ℕ) (document : Document ℕ) (new : Edited ℕ) : Bool → List ℕ → Type 0 where
  children_led : {path : List ℕ} (was : Found ℕ) → node_at document path ≡ Some was → Holds was → (g : Forest ℕ → Forest ℕ)
      → new.nodes ≡ children_changed g path document.nodes → Split (IsUnder first) was.children (g was.children) → Led first document new false path
  attributes_led : {p : ℕ} {ps : List ℕ} (was : Found ℕ) → node_at document (p ∷ ps) ≡ Some was → (name : List ℕ) (old more : List Written)
      → was.content ≡ Some (Element name old) → (named : List ℕ) → makes_anew named ≡ false → AreSet named old more
      → filter is_declaration more ≡ filter is_declaration old
      → new.nodes ≡ children_changed (content_replaced (spot_from p ps).position (Element name more)) (spot_from p ps).above document.nodes
      → (now : Found ℕ) → node_at (record { root = document.root; nodes = new.nodes }) (p ∷ ps) ≡ Some now
      → now.content ≡ Some (Element name more)
      → scope_at was ≡ scope_at now → Led first document new true (p ∷ ps)

abbrev way_by : Bool → ℕ → List ℕ → List ℕ
way_by true p ps = (spot_from p ps).above
way_by false p ps = p ∷ ps

split-is : {first : ℕ} {old new was now : Forest ℕ} → old ≡ was → new ≡ now → Split (IsUnder first) was now → Split (IsUnder first) old new
split-is {first} {old = old} {new = new} {was = was} {now = now} e f s =
    subst (λ g. Split (IsUnder first) g new) (sym e) (subst (λ g. Split (IsUnder first) was g) (sym f) s)

module _ (first : ℕ) (document : Document ℕ) (new : Edited ℕ) where
  led : (path : List ℕ) (y : Found ℕ) → node_at document path ≡ Some y → Holds y → (g : Forest ℕ → Forest ℕ) (made : ℕ)
      → answered (record { nodes = children_changed g path document.nodes; made = made }) ≡ Ok new → Split (IsUnder first) y.children (g y.children)
      → Led first document new false path
  led path y at holds g made h s =
      children_led y at holds g (sym (ap (λ d. d.nodes) (ok_same (record { nodes = children_changed g path document.nodes; made = made }) new h))) s

  -- ---- Insert

  insertion : (spot : Spot) (body : List (List ℕ)) (x : Found ℕ) (at : node_at document spot.above ≡ Some x) (parent : Parent)
      → parent_by x.content x ≡ Some parent → (read : Result (Forest ℕ) Fault)
      → nodes_of (scope_at x) first parent body ≡ read → inserts same_nodes spot document read ≡ Ok new
      → Led first document new false spot.above
  insertion spot body x at parent stands (Err fault) e h = absurd (cc)
  insertion spot body x at parent stands (Ok nodes) e h =
      let n = spot.position - 1 in
      let numbers = read_numbers (scope_at x) first parent body nodes (read_nodes (scope_at x) first parent body nodes e) in
      led spot.above x at (parent-holds x.content x parent refl stands) (inserted n nodes) (size nodes) h
      (split-is (sym (first-later n x.children)) refl (met-split (first_siblings n x.children)
      (come-split nodes (later_siblings n x.children) (λ k low. added-earlier k first nodes numbers.0 low))))

  insertion-below : (spot : Spot) (body : List (List ℕ)) (x : Found ℕ) → node_at document spot.above ≡ Some x → (parent : Option Parent)
      → parent_by x.content x ≡ parent → inserted_below same_nodes first spot body document x parent ≡ Ok new
      → Led first document new false spot.above
  insertion-below spot body x at None stands h = absurd (cc)
  insertion-below spot body x at (Some parent) stands h =
      let read = nodes_of (scope_at x) first parent body in
      let i = if_ok (is_position spot.position x.children) (inserts same_nodes spot document read) 6 new h in
      insertion spot body x at parent stands read refl i.1

  insertion-in : (spot : Spot) (body : List (List ℕ)) (o : Option (Found ℕ)) → node_at document spot.above ≡ o
      → inserted_in same_nodes first spot body document o ≡ Ok new → Led first document new false spot.above
  insertion-in spot body None at h = absurd (cc)
  insertion-in spot body (Some x) at h = insertion-below spot body x at (parent_by x.content x) refl h

  -- ---- Of a node

  abbrev IsHere : Spot → (y x : Found ℕ) → Type 0
  IsHere spot y x = IsChild y.above y.children spot.position x

  -- the node as it is found
  abbrev here : (spot : Spot) (y x : Found ℕ) → IsHere spot y x → Found ℕ
  here spot y x i = found_in y.above i.label i.content i.children

  deletion : (spot : Spot) (y x : Found ℕ) → node_at document spot.above ≡ Some y → IsHere spot y x
      → answered (record { nodes = children_changed (deleted (spot.position - 1)) spot.above document.nodes; made = 0 }) ≡ Ok new
      → Led first document new false spot.above
  deletion spot y x at i h =
      let p = spot.position in
      let from = i.from in
      let next : p - 1 + 1 ≡ p = omega arith in
      let is : deleted (p - 1) y.children ≡ met i.before i.after =
      ap (λ n. met (first_siblings (p - 1) y.children) (later_siblings n y.children)) next ∙ (λ j. met (i.first j) (i.later j)) in
      led spot.above y at (child-holds y spot.position x i) (deleted (p - 1)) 0 h
      (split-is i.whole is (met-split i.before (split_goes (unsplit (IsUnder first) i.after))))

  content_kept : (spot : Spot) (y x : Found ℕ) → node_at document spot.above ≡ Some y → (i : IsHere spot y x)
      → (old content : Content) → i.content ≡ old
      → Rewrites old content → answered (with_content spot document content) ≡ Ok new → Led first document new false spot.above
  content_kept spot y x at i old content is w h =
      led spot.above y at (child-holds y spot.position x i) (content_replaced spot.position content) 0 h
      (split-is (i.whole ∙ ap (λ c. followed i.before (Node i.label c i.children i.after)) is) (i.content_is content)
      (followed-split i.before (split_rewritten w (unsplit (IsUnder first) i.after))))

  renewal : (spot : Spot) (y x : Found ℕ) → node_at document spot.above ≡ Some y → (i : IsHere spot y x) → (content : Content)
      → renewed same_nodes first spot document (here spot y x i) content ≡ Ok new → Led first document new false spot.above
  renewal spot y x at i content h =
      let p = spot.position in
      let tree = tree_with content (here spot y x i) in
      let others = numbered first tree in
      let a = answer_ok (tree_faults first (here spot y x i) tree) (Ok (record {
        nodes = children_changed (replaced (p - 1) p others) spot.above document.nodes;
        made = size tree;
      })) new h in
      let now : replaced (p - 1) p others y.children ≡ followed i.before (followed others i.after) =
      λ j. followed (i.first j) (followed others (i.later j)) in
      led spot.above y at (child-holds y spot.position x i) (replaced (p - 1) p others) (size tree) a.1
      (split-is i.whole now (followed-split i.before (split_goes (come-followed others i.after
      (λ k low. added-earlier k first others (numbered-again first first tree) low)))))

  -- attributes of the node itself
  attributes-are : (p : ℕ) (ps : List ℕ) (y x : Found ℕ) → node_at document (spot_from p ps).above ≡ Some y
      → child_at y.above y.children (spot_from p ps).position ≡ Some x → (i : IsHere (spot_from p ps) y x)
      → (name : List ℕ) (old more : List Written)
      → i.content ≡ Element name old → (named : List ℕ) → makes_anew named ≡ false → AreSet named old more
      → filter is_declaration more ≡ filter is_declaration old
      → answered (with_content (spot_from p ps) document (Element name more)) ≡ Ok new → Led first document new true (p ∷ ps)
  attributes-are p ps y x at found i name old more is named apart set same h =
      let spot = spot_from p ps in
      let content = Element name more in
      let change = content_replaced spot.position content in
      let nodes : new.nodes ≡ children_changed change spot.above document.nodes =
      sym (ap (λ d. d.nodes) (ok_same (with_content spot document content) new h)) in
      let after : Document ℕ = record { root = document.root; nodes = new.nodes } in
      let outer : node_at after spot.above ≡ Some (with_children y (change y.children)) =
      ap (λ f. node_at (record { root = document.root; nodes = f }) spot.above) nodes ∙ found-changed change spot.above (root_of document) y at in
      let scope : scope_at x ≡ declared_all old (scope_of root_scope y.above) =
      ap (λ z. scope_at z) i.is ∙ ap (λ c. within c (scope_of root_scope y.above)) is in
      attributes_led x (path-spot p ps (root_of document) ∙ ap (option_and_then
      (λ z. child_at z.above z.children spot.position)) at ∙ found)
      name old more (ap (λ z. z.content) i.is ∙ ap Some is) named apart set same nodes (found_in y.above x.label content x.children)
      (path-spot p ps (root_of after) ∙ ap (option_and_then (λ z. child_at z.above z.children spot.position)) outer
      ∙ child-content y.above content spot.position y.children ∙ ap (option_map
      (λ z. found_in y.above z.label content z.children)) found) refl
      (scope ∙ same-declarations old more same (scope_of root_scope y.above))

  -- ---- At a node that is not the root

  at_content : (change : Found ℕ → Content → Result (Edited ℕ) Fault) (x : Found ℕ) (above : List Content) (l : ℕ) (c : Content)
      (f : Forest ℕ)
      → x ≡ found_in above l c f → by_content change x x.content ≡ Ok new → change (found_in above l c f) c ≡ Ok new
  at_content change x above l c f is h = ap (λ y. by_content change y y.content) (sym is) ∙ h

  -- the parent, the node, and what is made of it
  record Reaches (change : Found ℕ → Content → Result (Edited ℕ) Fault) (spot : Spot) : Type 0 where
    y : Found ℕ
    x : Found ℕ
    at : node_at document spot.above ≡ Some y
    found : child_at y.above y.children spot.position ≡ Some x
    child : IsHere spot y x
    changed : change (here spot y x child) child.content ≡ Ok new

  reaches-child : (change : Found ℕ → Content → Result (Edited ℕ) Fault) (spot : Spot) (y : Found ℕ) → node_at document spot.above ≡ Some y
      → (o : Option (Found ℕ)) → child_at y.above y.children spot.position ≡ o → by_node change o ≡ Ok new → Reaches change spot
  reaches-child change spot y at None e h = absurd (cc)
  reaches-child change spot y at (Some x) e h =
      let i = child y.above y.children spot.position x e in
      record { y = y; x = x; at = at; found = e; child = i; changed = at_content change x y.above i.label i.content i.children i.is h }

  reaches-below : (change : Found ℕ → Content → Result (Edited ℕ) Fault) (spot : Spot) (o : Option (Found ℕ))
      → node_at document spot.above ≡ o
      → by_node change (option_and_then (λ y. child_at y.above y.children spot.position) o) ≡ Ok new → Reaches change spot
  reaches-below change spot None e h = absurd (cc)
  reaches-below change spot (Some y) e h = reaches-child change spot y e (child_at y.above y.children spot.position) refl h

  reaches : (change : Found ℕ → Content → Result (Edited ℕ) Fault) (p : ℕ) (ps : List ℕ)
      → by_node change (node_at document (p ∷ ps)) ≡ Ok new
      → Reaches change (spot_from p ps)
  reaches change p ps h =
      let spot = spot_from p ps in
      reaches-below change spot (node_at document spot.above) refl (ap (by_node change) (sym (path-spot p ps (root_of document))) ∙ h)

  -- ---- Each edit

  deletes-led : (spot : Spot) (y x : Found ℕ) → node_at document spot.above ≡ Some y → (i : IsHere spot y x)
      → deletes spot document (here spot y x i) i.content ≡ Ok new → Led first document new false spot.above
  deletes-led spot y x at i h =
      let u = unless_ok (is_document_element (here spot y x i) i.content)
      (Ok (record { nodes = children_changed (deleted (spot.position - 1)) spot.above document.nodes; made = 0 })) 9 new h in
      deletion spot y x at i u.1

  text-led : (spot : Spot) (y x : Found ℕ) → node_at document spot.above ≡ Some y → (i : IsHere spot y x)
      → (text value : List ℕ) → i.content ≡ Text text
      → answered (with_text spot document value) ≡ Ok new → Led first document new false spot.above
  text-led spot y x at i text [] is h = deletion spot y x at i h
  text-led spot y x at i text (c ∷ cs) is h = content_kept spot y x at i (Text text) (Text (c ∷ cs)) is text_rewritten h

  set-led : (spot : Spot) (y x : Found ℕ) → node_at document spot.above ≡ Some y → (i : IsHere spot y x)
      → (value : List ℕ) (content : Content)
      → i.content ≡ content → text_set spot document value content ≡ Ok new → Led first document new false spot.above
  set-led spot y x at i value (Element name w) is h = absurd (cc)
  set-led spot y x at i value (Text text) is h =
      let r = if_ok (list_all is_char value) (Ok (with_text spot document value)) 8 new h in text-led spot y x at i text value is r.1
  set-led spot y x at i value (Comment text) is h =
      let r = if_ok (list_all is_char value) (Ok (with_content spot document (Comment value))) 8 new h in
      content_kept spot y x at i (Comment text) (Comment value) is comment_rewritten r.1
  set-led spot y x at i value (Instruction target text) is h =
      let r = if_ok (list_all is_char value) (Ok (with_content spot document (Instruction target value))) 8 new h in
      content_kept spot y x at i (Instruction target text) (Instruction target value) is instruction_rewritten r.1

  renamed-led : (spot : Spot) (y x : Found ℕ) → node_at document spot.above ≡ Some y → (i : IsHere spot y x)
      → (name : List ℕ) (content : Content)
      → renamed same_nodes first spot document name (here spot y x i) content ≡ Ok new → Led first document new false spot.above
  renamed-led spot y x at i name (Element own w) h = renewal spot y x at i (Element name w) h
  renamed-led spot y x at i name (Text text) h = absurd (cc)
  renamed-led spot y x at i name (Comment text) h = absurd (cc)
  renamed-led spot y x at i name (Instruction target text) h = renewal spot y x at i (Instruction name text) h

  module _ (p : ℕ) (ps : List ℕ) (y x : Found ℕ) (at : node_at document (spot_from p ps).above ≡ Some y)
      (found : child_at y.above y.children (spot_from p ps).position ≡ Some x) (i : IsHere (spot_from p ps) y x) where
    attributes-led : (name : List ℕ) (old more : List Written) → i.content ≡ Element name old → (named : List ℕ)
        → AreSet named old more → (b : Bool) → makes_anew named ≡ b
        → (b ≡ false → filter is_declaration more ≡ filter is_declaration old)
        → cond b (renewed same_nodes first (spot_from p ps) document (here (spot_from p ps) y x i) (Element name more))
        (with_element (spot_from p ps) document (here (spot_from p ps) y x i) (Element name more)) ≡ Ok new
        → Led first document new (not b) (way_by b p ps)
    attributes-led name old more is named set true anew same h = renewal (spot_from p ps) y x at i (Element name more) h
    attributes-led name old more is named set false anew same h =
        let node = here (spot_from p ps) y x i in
        let content = Element name more in
        let faults = content_faults (within content (scope_around node)) (depth_of node) (alone 0) content in
        let a = answer_ok faults (Ok (with_content (spot_from p ps) document content)) new h in
        attributes-are p ps y x at found i name old more is named anew set (same refl) a.1

    set-attribute-led : (name value : List ℕ) (content : Content) → i.content ≡ content
        → attribute_set same_nodes first (spot_from p ps) document name value (here (spot_from p ps) y x i) content ≡ Ok new
        → Led first document new (not (makes_anew name)) (way_by (makes_anew name) p ps)
    set-attribute-led name value (Element own old) is h =
        let more = with_attribute name value old in
        let r = if_ok (list_all is_char value)
        (attributes_changed same_nodes first (spot_from p ps) document (here (spot_from p ps) y x i) name (Element own more)) 8 new h in
        attributes-led own old more is name (is_set value) (makes_anew name) refl (λ e. with-same name e value old) r.1
    set-attribute-led name value (Text text) is h = absurd (cc)
    set-attribute-led name value (Comment text) is h = absurd (cc)
    set-attribute-led name value (Instruction target text) is h = absurd (cc)

    remove-attribute-led : (name : List ℕ) (content : Content) → i.content ≡ content
        → attribute_removed same_nodes first (spot_from p ps) document name (here (spot_from p ps) y x i) content ≡ Ok new
        → Led first document new (not (makes_anew name)) (way_by (makes_anew name) p ps)
    remove-attribute-led name (Element own old) is h =
        let more = without_attribute name old in
        let r = if_ok (list_any (is_named name) old)
        (attributes_changed same_nodes first (spot_from p ps) document (here (spot_from p ps) y x i) name (Element own more)) 6 new h in
        attributes-led own old more is name (is_removed r.0) (makes_anew name) refl (λ e. without-same name e old) r.1
    remove-attribute-led name (Text text) is h = absurd (cc)
    remove-attribute-led name (Comment text) is h = absurd (cc)
    remove-attribute-led name (Instruction target text) is h = absurd (cc)

pub record IsLed (first : ℕ) (edit : Edit) (document : Document ℕ) (new : Edited ℕ) : Type 0 where
  pub path : List ℕ
  pub path_is : changed_path edit ≡ Some path
  pub is_led : Led first document new (changes_attributes edit) path

way-is : (b : Bool) (p : ℕ) (ps : List ℕ) → cond (not b) (Some (p ∷ ps)) (Some (spot_from p ps).above) ≡ Some (way_by b p ps)
way-is true p ps = refl
way-is false p ps = refl

pub edit-led : (first : ℕ) (edit : Edit) (document : Document ℕ) (new : Edited ℕ)
    → edited_nodes first edit document ≡ Ok new → IsLed first edit document new
edit-led first (Insert [] body) document new h = absurd (cc)
edit-led first (Insert (p ∷ ps) body) document new h =
    let spot = spot_from p ps in
    record { path = spot.above; path_is = refl; is_led = insertion-in first document new spot body (node_at document spot.above) refl h }
edit-led first (Delete []) document new h = absurd (cc)
edit-led first (Delete (p ∷ ps)) document new h =
    let spot = spot_from p ps in
    let r = reaches first document new (deletes spot document) p ps h in
    record { path = spot.above; path_is = refl; is_led = deletes-led first document new spot r.y r.x r.at r.child r.changed }
edit-led first (SetText [] value) document new h = absurd (cc)
edit-led first (SetText (p ∷ ps) value) document new h =
    let spot = spot_from p ps in
    let r = reaches first document new (λ node. text_set spot document value) p ps h in
    record { path = spot.above; path_is = refl; is_led = set-led first document new spot r.y r.x r.at r.child value r.child.content refl r.changed }
edit-led first (SetAttribute [] name value) document new h = absurd (cc)
edit-led first (SetAttribute (p ∷ ps) name value) document new h =
    let spot = spot_from p ps in
    let r = reaches first document new (attribute_set same_nodes first spot document name value) p ps h in
    record {
      path = way_by (makes_anew name) p ps;
      path_is = way-is (makes_anew name) p ps;
      is_led = set-attribute-led first document new p ps r.y r.x r.at r.found r.child name value r.child.content refl r.changed;
    }
edit-led first (RemoveAttribute [] name) document new h = absurd (cc)
edit-led first (RemoveAttribute (p ∷ ps) name) document new h =
    let spot = spot_from p ps in
    let r = reaches first document new (attribute_removed same_nodes first spot document name) p ps h in
    record {
      path = way_by (makes_anew name) p ps;
      path_is = way-is (makes_anew name) p ps;
      is_led = remove-attribute-led first document new p ps r.y r.x r.at r.found r.child name r.child.content refl r.changed;
    }
edit-led first (Rename [] name) document new h = absurd (cc)
edit-led first (Rename (p ∷ ps) name) document new h =
    let spot = spot_from p ps in
    let r = reaches first document new (renamed same_nodes first spot document name) p ps h in
    record { path = spot.above; path_is = refl; is_led = renamed-led first document new spot r.y r.x r.at r.child name r.child.content r.changed }

-- ---- The change, and that it leads

abbrev pub after_edit : Document ℕ → Edited ℕ → Document ℕ
after_edit document new = record { root = document.root; nodes = new.nodes }

pub change-is : (edit : Edit) (document after : Document ℕ) (b : Bool) (path : List ℕ) (was now : Found ℕ) → changes_attributes edit ≡ b
    → changed_path edit ≡ Some path → node_at document path ≡ Some was → node_at after path ≡ Some now
    → change_of edit document after ≡ Some (change_between b (passed path (root_of document)) was now)
change-is edit document after b path was now be pe at there =
    (λ i. option_and_then (change_at (be i) document after) (pe i))
    ∙ (λ i. option_and_then (λ w. option_map (change_between b (passed path (root_of document)) w) (node_at after path)) (at i))
    ∙ ap (option_map (change_between b (passed path (root_of document)) was)) there

pub record LeadsBy (edit : Edit) (document after : Document ℕ) : Type 0 where
  pub change : Change
  pub change_is : change_of edit document after ≡ Some change
  pub leads : Leads change document after

pub children-lead : (change : Change) (document : Document ℕ) (new : Edited ℕ) (path : List ℕ) (was : Found ℕ) (g : Forest ℕ → Forest ℕ)
    → change.above ≡ passed path (root_of document) → node_at document path ≡ Some was → new.nodes ≡ children_changed g path document.nodes
    → ChildrenChange change was.label was.children (g was.children) → Leads change document (after_edit document new)
children-lead change document new [] was g above at nodes d =
    let here : ChildrenChange change document.root document.nodes (g document.nodes) =
    subst (λ y. ChildrenChange change y.label y.children (g y.children)) (sym (some_same (root_of document) was at)) d in
    at_root refl above (subst (λ f. ChildrenChange change document.root document.nodes f) (sym nodes) here)
children-lead change document new (p ∷ ps) was g above at nodes d =
    below_root refl above (subst (λ f. ChangesIn change (passed_below (passed ps)
    (child_at [] document.nodes p)) document.nodes f) (sym nodes)
    (children-in change was g d p ps [] document.nodes at))

pub edit-leads : (first : ℕ) (edit : Edit) (document : Document ℕ) (new : Edited ℕ) → edited_nodes first edit document ≡ Ok new
    → AreOnce (document.root ∷ labels document.nodes) → AreBelow first (document.root ∷ labels document.nodes)
    → LeadsBy edit document (after_edit document new)
edit-leads first edit document new e once low =
    let c = edit-led first edit document new e in by (changes_attributes edit) refl c.path c.path_is c.is_led
  where
    after : Document ℕ
    after = after_edit document new

    by : (b : Bool) → changes_attributes edit ≡ b → (path : List ℕ) → changed_path edit ≡ Some path → Led first document new b path
        → LeadsBy edit document after
    by false be path pe (children_led was at holds g nodes split) =
        let now = with_children was (g was.children) in
        let there : node_at after path ≡ Some now =
        ap (λ f. node_at (record { root = document.root; nodes = f }) path) nodes ∙ found-changed g path (root_of document) was at in
        let change = change_between false (passed path (root_of document)) was now in
        let b = below path (root_of document) was at in
        let counted : (k : ℕ) → stands (λ m. m == k) document.nodes ≡ stands_around (λ m. m == k) b.around + stands
        (λ m. m == k) was.children =
        λ k. ap (stands (λ m. m == k)) b.whole ∙ stands-filled (λ m. m == k) b.around was.children in
        record {
          change = change;
          change_is = change-is edit document after false path was now be pe at there;
          leads = children-lead change document new path was g refl at nodes (record {
            of_children = refl;
            node = refl;
            before = told-itself (sibling_labels was.children);
            after = told-itself (sibling_labels (g was.children));
            parts = parts-of first was.children (g was.children) split
                (λ k. (let most = once.at k in let all = counted k in let sum = occurs-labels (λ m. m == k) document.nodes in omega arith))
                (λ k high. (let none = low.at k high in let all = counted k in let sum = occurs-labels (λ m. m == k) document.nodes in omega arith));
          });
        }
    by true be _ pe (attributes_led {p = p} {ps = ps} was at name old more content named apart set same nodes found found_there has scope) =
        let c = changes first edit document new e in
        let way : p ∷ ps ≡ c.path = some_same (p ∷ ps) c.path (sym pe ∙ c.path_is) in
        let now = c.changed.now in
        let there : node_at after (p ∷ ps) ≡ Some now = ap (node_at after) way ∙ c.changed.now_at in
        let change = change_between true (passed (p ∷ ps) (root_of document)) was now in
        record {
          change = change;
          change_is = change-is edit document after true (p ∷ ps) was now be pe at there;
          leads = below_root refl refl (subst (λ f. ChangesIn change (passed_below (passed ps)
              (child_at [] document.nodes p)) document.nodes f) (sym nodes)
              (attributes-in change was name old more content (record {
                of_attributes = refl;
                node = refl;
                before = told-itself (sibling_labels was.children);
                declarations = same;
              })
              p ps [] document.nodes at));
        }
