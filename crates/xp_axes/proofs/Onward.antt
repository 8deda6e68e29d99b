-- What an axis takes at each level of the way to its node.
use Rattle.std.proofs.Common.{◌≡◌, ◌≤◌, ◌<◌, ℕ, ◌+◌, ◌-◌, Bool, true, false, zero, suc, List, [], ◌∷◌}
use Rattle.std.proofs.Common.{◌++◌, Option, None, Some, refl, sym, ap, ◌∙◌, subst, arith}
use Rattle.std.specs.Prelude.{map}
use Rattle.std.specs.Option.{option_and_then}
use Rattle.std.specs.Ordering.{ordering_reverse}
use Rattle.std.specs.declared.cmp.Ordering.TheVariants.{Less, Equal, Greater}
use Rattle.spec_document.specs.declared.axis.Axis.{Axis}
use Rattle.spec_document.specs.declared.axis.Axis.TheVariants as axis
use Rattle.spec_document.specs.Forest.{Content, Forest, Empty, Node}
use Rattle.spec_document.specs.Place.{Ending, Found, child_at, node_from}
use Rattle.spec_document.specs.Order.{Way, ToNamespace, ToAttribute, ToChild, way_cmp, end_of, own_entries, entries_in}
use Rattle.spec_document.specs.Axis.{is_on}
use Rattle.spec_document.proofs.Ways.{way_total}
use Rattle.spec_document.proofs.Listed.{less-number, way_self}
use Rattle.xt_tree.specs.View.{itself}
use Rattle.spec_node.specs.declared.node_ref.NodeRef.{NodeRef}
use Rattle.spec_node.specs.declared.node_ref.Part.{Part}
use Rattle.xp_axes.specs.Along.{if_taken, around, before, after, is_above, is_end, is_no_part, along}
use Rattle.xp_axes.proofs.Picked.{both, within, listing, picked, picked_append, own_only, around_is}

abbrev pub is_nil : List Way → Bool
is_nil [] = true
is_nil (a ∷ p) = false

less_way : (m n : ℕ) → m < n → way_cmp (ToChild m) (ToChild n) ≡ Less
less_way m n h = less-number m n h

greater_way : (m n : ℕ) → m < n → way_cmp (ToChild n) (ToChild m) ≡ Greater
greater_way m n h = way_total.antisymm (ToChild n) (ToChild m) ∙ ap ordering_reverse (less-number m n h)

-- siblings before the node on the way
before_is : (x : Axis) (m n : ℕ) (p q : List Way) → n < m → is_on x (ToChild m ∷ p) (ToChild n ∷ q) ≡ within (before x (is_nil p)) q
before_is x m n p q h = go x p q
  where
    l : way_cmp (ToChild n) (ToChild m) ≡ Less
    l = less_way n m h

    g : way_cmp (ToChild m) (ToChild n) ≡ Greater
    g = greater_way n m h

    go : (x : Axis) (p q : List Way) → is_on x (ToChild m ∷ p) (ToChild n ∷ q) ≡ within (before x (is_nil p)) q
    go axis.Itself p q = rw g refl
    go axis.Child p q = rw g refl
    go axis.Attribute p q = rw g refl
    go axis.Namespace p q = rw g refl
    go axis.Parent p q = rw l refl
    go axis.Descendant p q = rw g refl
    go axis.DescendantOrSelf p q = rw g refl
    go axis.Ancestor p q = rw l refl
    go axis.AncestorOrSelf p q = rw l refl
    go axis.Following p q = rw g refl
    go axis.Preceding p q = rw l refl
    go axis.FollowingSibling [] [] = rw g refl
    go axis.FollowingSibling [] (d ∷ q) = refl
    go axis.FollowingSibling (b ∷ p) [] = refl
    go axis.FollowingSibling (b ∷ p) (d ∷ q) = rw g refl
    go axis.PrecedingSibling [] [] = rw l refl
    go axis.PrecedingSibling [] (d ∷ q) = refl
    go axis.PrecedingSibling (b ∷ p) [] = refl
    go axis.PrecedingSibling (b ∷ p) (d ∷ q) = rw l refl

-- after it
after_is : (x : Axis) (m n : ℕ) (p q : List Way) → m < n → is_on x (ToChild m ∷ p) (ToChild n ∷ q) ≡ within (after x (is_nil p)) q
after_is x m n p q h = go x p q
  where
    l : way_cmp (ToChild m) (ToChild n) ≡ Less
    l = less_way m n h

    g : way_cmp (ToChild n) (ToChild m) ≡ Greater
    g = greater_way m n h

    go : (x : Axis) (p q : List Way) → is_on x (ToChild m ∷ p) (ToChild n ∷ q) ≡ within (after x (is_nil p)) q
    go axis.Itself p q = rw l refl
    go axis.Child p q = rw l refl
    go axis.Attribute p q = rw l refl
    go axis.Namespace p q = rw l refl
    go axis.Parent p q = rw g refl
    go axis.Descendant p q = rw l refl
    go axis.DescendantOrSelf p q = rw l refl
    go axis.Ancestor p q = rw g refl
    go axis.AncestorOrSelf p q = rw g refl
    go axis.Following p q = rw l refl
    go axis.Preceding p q = rw g refl
    go axis.FollowingSibling [] [] = rw l refl
    go axis.FollowingSibling [] (d ∷ q) = refl
    go axis.FollowingSibling (b ∷ p) [] = refl
    go axis.FollowingSibling (b ∷ p) (d ∷ q) = rw l refl
    go axis.PrecedingSibling [] [] = rw g refl
    go axis.PrecedingSibling [] (d ∷ q) = refl
    go axis.PrecedingSibling (b ∷ p) [] = refl
    go axis.PrecedingSibling (b ∷ p) (d ∷ q) = rw g refl

-- the node on the way
here_is : (x : Axis) (m : ℕ) (p q : List Way) → is_on x (ToChild m ∷ p) (ToChild m ∷ q) ≡ is_on x p q
here_is x m p q = go x p q
  where
    s : way_cmp (ToChild m) (ToChild m) ≡ Equal
    s = way_self (ToChild m)

    go : (x : Axis) (p q : List Way) → is_on x (ToChild m ∷ p) (ToChild m ∷ q) ≡ is_on x p q
    go axis.Itself p q = rw s refl
    go axis.Child p q = rw s refl
    go axis.Attribute p q = rw s refl
    go axis.Namespace p q = rw s refl
    go axis.Parent p q = rw s refl
    go axis.Descendant p q = rw s refl
    go axis.DescendantOrSelf p q = rw s refl
    go axis.Ancestor p q = rw s refl
    go axis.AncestorOrSelf p q = rw s refl
    go axis.Following p q = rw s refl
    go axis.Preceding p q = rw s refl
    go axis.FollowingSibling [] [] = rw s refl
    go axis.FollowingSibling [] (d ∷ q) = refl
    go axis.FollowingSibling (ToChild b ∷ []) [] = refl
    go axis.FollowingSibling (ToChild b ∷ c ∷ p) [] = refl
    go axis.FollowingSibling (ToAttribute b ∷ []) [] = refl
    go axis.FollowingSibling (ToAttribute b ∷ c ∷ p) [] = refl
    go axis.FollowingSibling (ToNamespace b ∷ []) [] = refl
    go axis.FollowingSibling (ToNamespace b ∷ c ∷ p) [] = refl
    go axis.FollowingSibling (b ∷ p) (d ∷ q) = rw s refl
    go axis.PrecedingSibling [] [] = rw s refl
    go axis.PrecedingSibling [] (ToChild d ∷ []) = refl
    go axis.PrecedingSibling [] (ToChild d ∷ c ∷ q) = refl
    go axis.PrecedingSibling [] (ToAttribute d ∷ []) = refl
    go axis.PrecedingSibling [] (ToAttribute d ∷ c ∷ q) = refl
    go axis.PrecedingSibling [] (ToNamespace d ∷ []) = refl
    go axis.PrecedingSibling [] (ToNamespace d ∷ c ∷ q) = refl
    go axis.PrecedingSibling (b ∷ p) [] = refl
    go axis.PrecedingSibling (b ∷ p) (d ∷ q) = rw s refl

-- the parent of the node on the way, its attributes and its namespace nodes
above_is : (x : Axis) (m : ℕ) (p : List Way) → is_on x (ToChild m ∷ p) [] ≡ is_above x (is_nil p)
above_is axis.Itself m p = refl
above_is axis.Child m p = refl
above_is axis.Attribute m p = refl
above_is axis.Namespace m p = refl
above_is axis.Parent m [] = refl
above_is axis.Parent m (b ∷ p) = refl
above_is axis.Descendant m p = refl
above_is axis.DescendantOrSelf m p = refl
above_is axis.Ancestor m p = refl
above_is axis.AncestorOrSelf m p = refl
above_is axis.Following m p = refl
above_is axis.Preceding m p = refl
above_is axis.FollowingSibling m [] = refl
above_is axis.FollowingSibling m (b ∷ p) = refl
above_is axis.PrecedingSibling m p = refl

no_attribute : (x : Axis) (m : ℕ) (p : List Way) (n : ℕ) → is_on x (ToChild m ∷ p) (ToAttribute n ∷ []) ≡ false
no_attribute axis.Itself m p n = refl
no_attribute axis.Child m p n = refl
no_attribute axis.Attribute m p n = refl
no_attribute axis.Namespace m p n = refl
no_attribute axis.Parent m p n = refl
no_attribute axis.Descendant m p n = refl
no_attribute axis.DescendantOrSelf m p n = refl
no_attribute axis.Ancestor m p n = refl
no_attribute axis.AncestorOrSelf m p n = refl
no_attribute axis.Following m p n = refl
no_attribute axis.Preceding m p n = refl
no_attribute axis.FollowingSibling m [] n = refl
no_attribute axis.FollowingSibling m (b ∷ p) n = refl
no_attribute axis.PrecedingSibling m p n = refl

no_namespace : (x : Axis) (m : ℕ) (p : List Way) (n : List ℕ) → is_on x (ToChild m ∷ p) (ToNamespace n ∷ []) ≡ false
no_namespace axis.Itself m p n = refl
no_namespace axis.Child m p n = refl
no_namespace axis.Attribute m p n = refl
no_namespace axis.Namespace m p n = refl
no_namespace axis.Parent m p n = refl
no_namespace axis.Descendant m p n = refl
no_namespace axis.DescendantOrSelf m p n = refl
no_namespace axis.Ancestor m p n = refl
no_namespace axis.AncestorOrSelf m p n = refl
no_namespace axis.Following m p n = refl
no_namespace axis.Preceding m p n = refl
no_namespace axis.FollowingSibling m [] n = refl
no_namespace axis.FollowingSibling m (b ∷ p) n = refl
no_namespace axis.PrecedingSibling m p n = refl

pub some_same : {A : Type 0} (x y : A) → Some x ≡ Some y → x ≡ y
some_same x y e = ap (λ o. elim o [ Some z ↦ z | None ↦ x ]) e

-- positions count from 1
pub positive : (above : List Content) (f : Forest ℕ) (n : ℕ) (x : Found ℕ) → child_at above f n ≡ Some x → 1 ≤ n
positive above f zero x e = absurd (none f e)
  where
    none : (f : Forest ℕ) → child_at above f 0 ≡ Some x → ⊥
    none Empty e = cc
    none (Node l c f g) e = none g e
positive above f (suc n) x e = omega arith

way_from : List ℕ → Ending → List Way
way_from ns e = map ToChild ns ++ end_of e

end_is : (e : Ending) (t : Part) → is_nil (end_of e) ≡ is_no_part t → (ns : List ℕ) → is_nil (map ToChild ns ++ end_of e) ≡ is_end t ns
end_is e t h [] = h
end_is e t h (n ∷ ns) = refl

stepped : (x : Axis) (e : Ending) (t : Part) (at_end : ℕ → Forest ℕ → List NodeRef) → is_nil (end_of e) ≡ is_no_part t
    → (n : ℕ) (ns : List ℕ) (node child : Found ℕ) → child_at node.above node.children n ≡ Some child
    → picked (is_on x (map ToChild ns ++ end_of e)) (listing child) ≡ along x t at_end ns child.label child.children
    → picked (is_on x (map ToChild (n ∷ ns) ++ end_of e)) (listing node) ≡ along x t at_end (n ∷ ns) node.label node.children
stepped x e t at_end nil n ns node child at below =
    let w = map ToChild ns ++ end_of e in
    let p = is_on x (ToChild n ∷ w) in
    let last = end_is e t nil ns in
    let one = positive node.above node.children n child at in
    let index : n ≡ 1 + (n - 1) = omega arith in
    let again : n - 1 + 1 ≡ n = omega arith in
    picked_append p (own_entries [] node) (entries_in node.above [] 1 node.children)
    ∙ both _ (if_taken (is_above x (is_end t ns)) (itself node.label)) _
    (around (along x t at_end ns) (before x (is_end t ns)) (after x (is_end t ns)) (n - 1) node.children)
    (own_only p node (no_namespace x n w) (no_attribute x n w) ∙ ap (λ b. if_taken b (itself node.label)) (above_is x n w ∙ ap (is_above x) last))
    (around_is p (is_on x w) (before x (is_end t ns)) (after x (is_end t ns)) n (along x t at_end ns) child
    (λ m q h. before_is x n m w q h ∙ ap (λ b. within (before x b) q) last)
    (here_is x n w)
    (λ m q h. after_is x n m w q h ∙ ap (λ b. within (after x b) q) last)
    below node.above 1 (n - 1) node.children index (ap (child_at node.above node.children) again ∙ at))

onward : (x : Axis) (e : Ending) (t : Part) (at_end : ℕ → Forest ℕ → List NodeRef) → is_nil (end_of e) ≡ is_no_part t
    → (target : Found ℕ) (n : ℕ) (ns : List ℕ) (node : Found ℕ) (o : Option (Found ℕ)) → child_at node.above node.children n ≡ o
    → ((child : Found ℕ) → node_from ns child ≡ Some target
    → picked (is_on x (map ToChild ns ++ end_of e)) (listing child) ≡ along x t at_end ns child.label child.children)
    → option_and_then (node_from ns) o ≡ Some target
    → picked (is_on x (map ToChild (n ∷ ns) ++ end_of e)) (listing node) ≡ along x t at_end (n ∷ ns) node.label node.children
onward x e t at_end nil target n ns node None at below h = absurd (cc)
onward x e t at_end nil target n ns node (Some child) at below h = stepped x e t at_end nil n ns node child at (below child h)

-- what stands on an axis, level by level down to the target
pub led : (x : Axis) (e : Ending) (t : Part) (at_end : ℕ → Forest ℕ → List NodeRef) → is_nil (end_of e) ≡ is_no_part t
    → (target : Found ℕ) → picked (is_on x (end_of e)) (listing target) ≡ at_end target.label target.children
    → (ns : List ℕ) (node : Found ℕ) → node_from ns node ≡ Some target
    → picked (is_on x (map ToChild ns ++ end_of e)) (listing node) ≡ along x t at_end ns node.label node.children
led x e t at_end nil target own [] node is =
    let same = some_same node target is in
    subst (λ (y : Found ℕ). picked (is_on x (end_of e)) (listing y) ≡ at_end y.label y.children) (sym same) own
led x e t at_end nil target own (n ∷ ns) node is =
    onward x e t at_end nil target n ns node (child_at node.above node.children n) refl (λ child h. led x e t at_end nil target own ns child h) is
