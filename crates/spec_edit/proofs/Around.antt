-- A forest as some siblings in it and what is around them.
use Rattle.std.proofs.Common.{◌≡◌, ◌≤◌, arith, ℕ, ◌+◌, ◌-◌, ◌==◌, true, false, cond, List, [], ◌∷◌, Option, None, Some}
use Rattle.std.proofs.Common.{refl, sym, ap, ◌∙◌, subst}
use Rattle.std.specs.Option.{option_and_then}
use Rattle.std.proofs.lemmas.Bool.{eqb-true}
use Rattle.spec_document.specs.Forest.{Content, Forest, Empty, Node, Document, followed}
use Rattle.spec_document.specs.Place.{Found, root_of, found_in, child_at, node_from, node_at}
use Rattle.spec_document.specs.Balance.{LineNumbers, alone}
use Rattle.spec_edit.specs.Edit.{without_lines}
use Rattle.spec_edit.specs.Splice.{Spot, spot_from, first_siblings, later_siblings, replaced, content_replaced, below_changed, children_changed}
use Rattle.spec_edit.specs.Splice.{met, deleted}

-- what is around siblings, from the top on
pub data Around (L : Type 0) : Type 0 where
  Here : Around L
  Below : (before : Forest L) → (label : L) → (content : Content) → (inner : Around L) → (after : Forest L) → Around L

abbrev pub filled : {L : Type 0} → Around L → Forest L → Forest L
filled Here siblings = siblings
filled (Below before label content inner after) siblings = followed before (Node label content (filled inner siblings) after)

-- the contents above the siblings, where these stand above all of it
abbrev pub above_in : {L : Type 0} → List Content → Around L → List Content
above_in above Here = above
above_in above (Below before label content inner after) = above_in (content ∷ above) inner

-- the content of the node directly above the siblings
abbrev pub content_in : {L : Type 0} → Option Content → Around L → Option Content
content_in own Here = own
content_in own (Below before label content inner after) = content_in (Some content) inner

-- the same with no lines of a body
abbrev pub around_without : {L : Type 0} → Around L → Around LineNumbers
around_without Here = Here
around_without (Below before label content inner after) =
    Below (without_lines before) (alone 0) content (around_without inner) (without_lines after)

without-followed : {L : Type 0} (f g : Forest L) → without_lines (followed f g) ≡ followed (without_lines f) (without_lines g)
without-followed Empty g = refl
without-followed (Node l c f s) g = ap (Node (alone 0) c (without_lines f)) (without-followed s g)

pub without-filled : {L : Type 0} (around : Around L) (f : Forest L) → without_lines (filled around f) ≡ filled (around_without around) (without_lines f)
without-filled Here f = refl
without-filled (Below before l c inner after) f =
    without-followed before (Node l c (filled inner f) after)
    ∙ ap (λ g. followed (without_lines before) (Node (alone 0) c g (without_lines after))) (without-filled inner f)

-- ---- One of some siblings

pub record IsChild {L : Type 0} (above : List Content) (f : Forest L) (p : ℕ) (x : Found L) : Type 0 where
  pub before : Forest L
  pub label : L
  pub content : Content
  pub children : Forest L
  pub after : Forest L
  pub is : x ≡ found_in above label content children
  pub whole : f ≡ followed before (Node label content children after)
  pub from : 1 ≤ p
  pub first : first_siblings (p - 1) f ≡ before
  pub later : later_siblings p f ≡ after
  pub below : (change : Forest L → Forest L) → below_changed change p f ≡ followed before (Node label content (change children) after)
  pub content_is : (new : Content) → content_replaced p new f ≡ followed before (Node label new children after)
  pub lines : (change : Forest LineNumbers → Forest LineNumbers) → below_changed change p (without_lines f)
      ≡ followed (without_lines before) (Node (alone 0) content (change (without_lines children)) (without_lines after))

pub later-none : {L : Type 0} (f : Forest L) → later_siblings 0 f ≡ f
later-none Empty = refl
later-none (Node l c f s) = refl

pub some_same : {A : Type 0} (x y : A) → Some x ≡ Some y → x ≡ y
some_same x y e = ap (λ o. elim o [ Some z ↦ z | None ↦ x ]) e

first-child : {L : Type 0} (above : List Content) (l : L) (c : Content) (f s : Forest L) (p : ℕ) (x : Found L) → 1 ≡ p → found_in above l c f ≡ x
    → IsChild above (Node l c f s) p x
first-child above l c f s p x one e =
    subst (λ q. IsChild above (Node l c f s) q x) one (record {
      before = Empty;
      label = l;
      content = c;
      children = f;
      after = s;
      is = sym e;
      whole = refl;
      from = omega arith;
      first = refl;
      later = later-none s;
      below = λ change. refl;
      content_is = λ new. refl;
      lines = λ change. refl;
    })

pub not_zero : (n : ℕ) → 1 ≤ n → (n == 0) ≡ false
not_zero n h =
    elim (n == 0) as (λ b. (n == 0) ≡ b → b ≡ false) [
      | true ↦ λ e. absurd (let is : n ≡ 0 = eqb-true n 0 e in omega arith)
      | false ↦ λ _. refl
    ] refl

later-child : {L : Type 0} (above : List Content) (l : L) (c : Content) (f s : Forest L) (p : ℕ) (x : Found L) → (p == 1) ≡ false
    → IsChild above s (p - 1) x → IsChild above (Node l c f s) p x
later-child {L} above l c f s p x other i =
    let from : 1 ≤ p = omega (arith, i.from) in
    let some : (p == 0) ≡ false = not_zero p from in
    let more : (p - 1 == 0) ≡ false = not_zero (p - 1) i.from in
    record {
      before = Node l c f i.before;
      label = i.label;
      content = i.content;
      children = i.children;
      after = i.after;
      is = i.is;
      whole = ap (Node l c f) i.whole;
      from = from;
      first = (λ j. cond (more j) Empty (Node l c f (first_siblings (p - 1 - 1) s))) ∙ ap (Node l c f) i.first;
      later = (λ j. cond (some j) (Node l c f s) (later_siblings (p - 1) s)) ∙ i.later;
      below = λ change. (λ j. cond (other j) (Node l c (change f) s) (Node l c f (below_changed change (p - 1) s))) ∙ ap (Node l c f) (i.below change);
      content_is = λ new. (λ j. cond (other j) (Node l new f s) (Node l c f (content_replaced (p - 1) new s))) ∙ ap (Node l c f) (i.content_is new);
      lines = λ change.
          (λ j. cond (other j) (Node (alone 0) c (change (without_lines f)) (without_lines s))
          (Node (alone 0) c (without_lines f) (below_changed change (p - 1) (without_lines s))))
          ∙ ap (Node (alone 0) c (without_lines f)) (i.lines change);
    }

pub child : {L : Type 0} (above : List Content) (f : Forest L) (p : ℕ) (x : Found L) → child_at above f p ≡ Some x → IsChild above f p x
child above Empty p x e = absurd (cc)
child above (Node l c f s) p x e =
    elim (p == 1) as (λ b. (p == 1) ≡ b → cond b (Some (found_in above l c f)) (child_at above s (p - 1)) ≡ Some x → IsChild above (Node l c f s) p x) [
      | true ↦ λ is e. first-child above l c f s p x (sym (eqb-true p 1 is)) (some_same (found_in above l c f) x e)
      | false ↦ λ other e. later-child above l c f s p x other (child above s (p - 1) x e)
    ] refl e

-- ---- The siblings at some positions

pub record IsBelow {L : Type 0} (node : Found L) (ps : List ℕ) (x : Found L) : Type 0 where
  pub around : Around L
  pub whole : node.children ≡ filled around x.children
  pub above : x.above ≡ above_in node.above around
  pub content : x.content ≡ content_in node.content around
  pub changed : (change : Forest L → Forest L) → children_changed change ps node.children ≡ filled around (change x.children)
  pub lines : (change : Forest LineNumbers → Forest LineNumbers)
      → children_changed change ps (without_lines node.children) ≡ filled (around_without around) (change (without_lines x.children))

below-child : {L : Type 0} (node : Found L) (p : ℕ) (ps : List ℕ) (y x : Found L) → IsChild node.above node.children p y → IsBelow y ps x
    → IsBelow node (p ∷ ps) x
below-child node p ps y x i b =
    let is = i.is in
    let children : y.children ≡ i.children = ap (λ n. n.children) i.is in
    record {
      around = Below i.before i.label i.content b.around i.after;
      whole = i.whole ∙ ap (λ g. followed i.before (Node i.label i.content g i.after)) (sym children ∙ b.whole);
      above = b.above ∙ ap (λ n. above_in n.above b.around) i.is;
      content = b.content ∙ ap (λ n. content_in n.content b.around) i.is;
      changed = λ change. i.below (children_changed change ps)
          ∙ ap (λ g. followed i.before (Node i.label i.content g i.after)) (ap (children_changed change ps) (sym children) ∙ b.changed change);
      lines = λ change. i.lines (children_changed change ps)
          ∙ ap (λ g. followed (without_lines i.before) (Node (alone 0) i.content g (without_lines i.after)))
          (ap (λ g. children_changed change ps (without_lines g)) (sym children) ∙ b.lines change);
    }

below-steps : {L : Type 0} (node : Found L) (p : ℕ) (ps : List ℕ) (x : Found L) → ((y : Found L) → node_from ps y ≡ Some x → IsBelow y ps x)
    → (o : Option (Found L)) → child_at node.above node.children p ≡ o → option_and_then (node_from ps) o ≡ Some x → IsBelow node (p ∷ ps) x
below-steps node p ps x go None e h = absurd (cc)
below-steps node p ps x go (Some y) e h = below-child node p ps y x (child node.above node.children p y e) (go y h)

pub below : {L : Type 0} (ps : List ℕ) (node x : Found L) → node_from ps node ≡ Some x → IsBelow node ps x
below [] node x e =
    let is = some_same node x e in
    subst (IsBelow node []) is (record { around = Here; whole = refl; above = refl; content = refl; changed = λ change. refl; lines = λ change. refl })
below (p ∷ ps) node x e = below-steps node p ps x (λ y h. below ps y x h) (child_at node.above node.children p) refl e

-- ---- The node at a path, below its parent

and-some : {A : Type 0} (o : Option A) → option_and_then Some o ≡ o
and-some None = refl
and-some (Some x) = refl

then-steps : {L : Type 0} (p q : ℕ) (qs : List ℕ) → ((y : Found L) → node_from (q ∷ qs) y
    ≡ option_and_then (λ x. child_at x.above x.children (spot_from q qs).position) (node_from (spot_from q qs).above y))
    → (o : Option (Found L)) → option_and_then (node_from (q ∷ qs)) o
    ≡ option_and_then (λ x. child_at x.above x.children (spot_from q qs).position) (option_and_then (node_from (spot_from q qs).above) o)
then-steps p q qs same None = refl
then-steps p q qs same (Some y) = same y

path-spot : {L : Type 0} (p : ℕ) (ps : List ℕ) (node : Found L)
    → node_from (p ∷ ps) node ≡ option_and_then (λ x. child_at x.above x.children (spot_from p ps).position) (node_from (spot_from p ps).above node)
path-spot p [] node = and-some (child_at node.above node.children p)
path-spot p (q ∷ qs) node = then-steps p q qs (path-spot q qs) (child_at node.above node.children p)

-- where a node stands that is not the root, and what changes at its place make
pub record IsSite {L : Type 0} (document : Document L) (spot : Spot) (x : Found L) : Type 0 where
  pub around : Around L
  pub before : Forest L
  pub label : L
  pub content : Content
  pub children : Forest L
  pub after : Forest L
  pub is : x ≡ found_in (above_in [] around) label content children
  pub whole : document.nodes ≡ filled around (followed before (Node label content children after))
  pub replaced_is : (others : Forest L)
      → children_changed (replaced (spot.position - 1) spot.position others) spot.above document.nodes ≡ filled around (followed before (followed others after))
  pub deleted_is : children_changed (deleted (spot.position - 1)) spot.above document.nodes ≡ filled around (met before after)
  pub content_is : (new : Content)
      → children_changed (content_replaced spot.position new) spot.above document.nodes ≡ filled around (followed before (Node label new children after))

site-of : {L : Type 0} (document : Document L) (spot : Spot) (y x : Found L) → IsBelow (root_of document) spot.above y
    → IsChild y.above y.children spot.position x → IsSite document spot x
site-of document spot y x b i =
    let from = i.from in
    let next : spot.position - 1 + 1 ≡ spot.position = omega arith in
    record {
      around = b.around;
      before = i.before;
      label = i.label;
      content = i.content;
      children = i.children;
      after = i.after;
      is = i.is ∙ ap (λ above. found_in above i.label i.content i.children) b.above;
      whole = b.whole ∙ ap (filled b.around) i.whole;
      replaced_is = λ others. b.changed (replaced (spot.position - 1) spot.position others)
          ∙ ap (filled b.around) (λ j. followed (i.first j) (followed others (i.later j)));
      deleted_is = b.changed (deleted (spot.position - 1))
          ∙ ap (filled b.around) (ap (λ n. met (first_siblings (spot.position - 1) y.children) (later_siblings n y.children)) next
          ∙ (λ j. met (i.first j) (i.later j)));
      content_is = λ new. b.changed (content_replaced spot.position new) ∙ ap (filled b.around) (i.content_is new);
    }

site-steps : {L : Type 0} (document : Document L) (spot : Spot) (x : Found L) (o : Option (Found L)) → node_at document spot.above ≡ o
    → option_and_then (λ y. child_at y.above y.children spot.position) o ≡ Some x → IsSite document spot x
site-steps document spot x None e h = absurd (cc)
site-steps document spot x (Some y) e h =
    site-of document spot y x (below spot.above (root_of document) y e) (child y.above y.children spot.position x h)

pub site : {L : Type 0} (document : Document L) (p : ℕ) (ps : List ℕ) (x : Found L) → node_at document (p ∷ ps) ≡ Some x
    → IsSite document (spot_from p ps) x
site document p ps x e =
    site-steps document (spot_from p ps) x (node_at document (spot_from p ps).above) refl (sym (path-spot p ps (root_of document)) ∙ e)

-- ---- Siblings before and from an index

pub first-later : {L : Type 0} (n : ℕ) (f : Forest L) → followed (first_siblings n f) (later_siblings n f) ≡ f
first-later n Empty = refl
first-later n (Node l c f s) =
    elim (n == 0) as (λ b. followed (cond b Empty (Node l c f (first_siblings (n - 1) s))) (cond b (Node l c f s) (later_siblings (n - 1) s)) ≡ Node l c f s) [
      | true ↦ refl
      | false ↦ ap (Node l c f) (first-later (n - 1) s)
    ]
