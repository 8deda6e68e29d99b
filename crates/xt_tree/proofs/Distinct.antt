-- Where numbers are distinct, the number of a node leads to that node.
use Rattle.std.proofs.Common.{◌≡◌, ◌≢◌, arith, ℕ, ◌-◌, Bool, true, false, cond, not, List, [], ◌∷◌, ◌++◌, ◌==◌, Option, Some}
use Rattle.std.proofs.Common.{None, refl, sym, ap, ◌∙◌, subst, eq-eqb}
use Rattle.std.specs.Prelude.{◌&&◌, ◌||◌, nat_lt}
use Rattle.std.specs.Option.{option_map, option_and_then, option_or}
use Rattle.std.specs.List.{list_any, list_all}
use Rattle.spec_document.specs.Numbering.{number_limit}
use Rattle.std.proofs.lemmas.Bool.{eqb-true, and_parts}
use Rattle.std.proofs.lemmas.List.Folds.{list_any-append}
use Rattle.spec_document.specs.Forest as spec
use Rattle.spec_document.specs.Place.{Found, found_in, TreeNode, child_at, node_from, node_at, root_of, first_in}
use Rattle.xt_tree.specs.Numbers.{are_distinct, IsNumbered}
use Rattle.xt_tree.specs.View.{numbered_node, itself, item_of, IsWayTo}

abbrev pub is_among : ℕ → List ℕ → Bool
is_among n ns = list_any (λ m. m == n) ns

pub or_left : (a b : Bool) → a ≡ true → (a || b) ≡ true
or_left true b h = refl
or_left false b h = absurd (cc)

pub or_right : (a b : Bool) → b ≡ true → (a || b) ≡ true
or_right true b h = refl
or_right false b h = h

pub or_neither : (a b : Bool) → (a || b) ≡ false → (a ≡ false) × (b ≡ false)
or_neither true b h = absurd (cc)
or_neither false b h = (refl, h)

pub not_false : (a : Bool) → not a ≡ true → a ≡ false
not_false true h = absurd (cc)
not_false false h = refl

pub apart : (b : Bool) → b ≡ true → b ≡ false → ⊥
apart true h k = cc
apart false h k = cc

-- one that is not there is not found
pub not_found : (n : ℕ) (f : spec.Forest ℕ) (above : List spec.Content) → is_among n (spec.labels f) ≡ false → first_in (λ l. l == n) above f ≡ None
not_found n spec.Empty above h = refl
not_found n (spec.Node l c f g) above h =
    let own = or_neither (l == n) (is_among n (spec.labels f ++ spec.labels g)) h in
    let both = or_neither (is_among n (spec.labels f)) (is_among n (spec.labels g))
    (sym (list_any-append (λ m. m == n) (spec.labels f) (spec.labels g)) ∙ own.1) in
    ap (λ b. cond b (Some (found_in above l c f)) (option_or (first_in (λ l. l == n) (c ∷ above) f) (first_in (λ l. l == n) above g))) own.0
    ∙ ap (λ o. option_or o (first_in (λ l. l == n) above g)) (not_found n f (c ∷ above) both.0) ∙ not_found n g above both.1

-- of two lists together that are distinct, each is, and what is in the second is not in the first
pub distinct_parts : (xs ys : List ℕ) → are_distinct (xs ++ ys) ≡ true → (are_distinct xs ≡ true) × (are_distinct ys ≡ true)
distinct_parts [] ys h = (refl, h)
distinct_parts (x ∷ xs) ys h =
    let parts = and_parts (not (is_among x (xs ++ ys))) (are_distinct (xs ++ ys)) h in
    let more = distinct_parts xs ys parts.1 in
    let own = or_neither (is_among x xs) (is_among x ys) (sym (list_any-append (λ m. m == x) xs ys) ∙ not_false _ parts.0) in
    (ap (λ b. not b && are_distinct xs) own.0 ∙ more.0, more.1)

pub not_before : (xs ys : List ℕ) (n : ℕ) → are_distinct (xs ++ ys) ≡ true → is_among n ys ≡ true → is_among n xs ≡ false
not_before [] ys n h k = refl
not_before (x ∷ xs) ys n h k =
    let parts = and_parts (not (is_among x (xs ++ ys))) (are_distinct (xs ++ ys)) h in
    let own = or_neither (is_among x xs) (is_among x ys) (sym (list_any-append (λ m. m == x) xs ys) ∙ not_false _ parts.0) in
    elim (x == n) as (λ b. (x == n) ≡ b → (b || is_among n xs) ≡ false) [
      | true ↦ λ e. absurd (apart (is_among n ys) k (ap (λ m. is_among m ys) (sym (eqb-true x n e)) ∙ own.1))
      | false ↦ λ _. not_before xs ys n parts.1 k
    ] refl

pub head_apart : (l n : ℕ) (rest : List ℕ) → is_among l rest ≡ false → is_among n rest ≡ true → (l == n) ≡ false
head_apart l n rest h k =
    elim (l == n) as (λ b. (l == n) ≡ b → b ≡ false) [
      | true ↦ λ e. absurd (apart (is_among n rest) k (ap (λ m. is_among m rest) (sym (eqb-true l n e)) ∙ h))
      | false ↦ λ _. refl
    ] refl

pub some_same : {A : Type 0} (x y : A) → Some x ≡ Some y → x ≡ y
some_same x y e = ap (λ o. elim o [ Some z ↦ z | None ↦ x ]) e

pub record IsFirst (f : spec.Forest ℕ) (above : List spec.Content) (x : Found ℕ) : Type 0 where
  pub among : is_among x.label (spec.labels f) ≡ true
  pub first : first_in (λ l. l == x.label) above f ≡ Some x

own_first : (l : ℕ) (c : spec.Content) (f g : spec.Forest ℕ) (above : List spec.Content) → IsFirst (spec.Node l c f g) above (found_in above l c f)
own_first l c f g above =
    let same : (l == l) ≡ true = eq-eqb l l refl in
    record {
      among = or_left (l == l) _ same;
      first = ap (λ b. cond b (Some (found_in above l c f)) (option_or (first_in (λ k. k == l) (c ∷ above) f) (first_in (λ k. k == l) above g))) same;
    }

below_first : (l : ℕ) (c : spec.Content) (f g : spec.Forest ℕ) (above : List spec.Content) (x : Found ℕ)
    → are_distinct (l ∷ spec.labels f ++ spec.labels g) ≡ true
    → IsFirst f (c ∷ above) x → IsFirst (spec.Node l c f g) above x
below_first l c f g above x h i =
    let parts = and_parts (not (is_among l (spec.labels f ++ spec.labels g))) (are_distinct (spec.labels f ++ spec.labels g)) h in
    let there = list_any-append (λ m. m == x.label) (spec.labels f) (spec.labels g) ∙ or_left (is_among x.label (spec.labels f)) _ i.among in
    let other = head_apart l x.label (spec.labels f ++ spec.labels g) (not_false _ parts.0) there in
    record {
      among = or_right (l == x.label) _ there;
      first = ap (λ b. cond b (Some (found_in above l c f))
          (option_or (first_in (λ k. k == x.label) (c ∷ above) f) (first_in (λ k. k == x.label) above g))) other
          ∙ ap (λ o. option_or o (first_in (λ k. k == x.label) above g)) i.first;
    }

behind_first : (l : ℕ) (c : spec.Content) (f g : spec.Forest ℕ) (above : List spec.Content) (x : Found ℕ)
    → are_distinct (l ∷ spec.labels f ++ spec.labels g) ≡ true
    → IsFirst g above x → IsFirst (spec.Node l c f g) above x
behind_first l c f g above x h i =
    let parts = and_parts (not (is_among l (spec.labels f ++ spec.labels g))) (are_distinct (spec.labels f ++ spec.labels g)) h in
    let there = list_any-append (λ m. m == x.label) (spec.labels f) (spec.labels g) ∙ or_right (is_among x.label (spec.labels f)) _ i.among in
    let other = head_apart l x.label (spec.labels f ++ spec.labels g) (not_false _ parts.0) there in
    let none = not_found x.label f (c ∷ above) (not_before (spec.labels f) (spec.labels g) x.label parts.1 i.among) in
    record {
      among = or_right (l == x.label) _ there;
      first = ap (λ b. cond b (Some (found_in above l c f))
          (option_or (first_in (λ k. k == x.label) (c ∷ above) f) (first_in (λ k. k == x.label) above g))) other
          ∙ ap (λ o. option_or o (first_in (λ k. k == x.label) above g)) none ∙ i.first;
    }

-- from a node: it, or one below it
first_from : (l : ℕ) (c : spec.Content) (f g : spec.Forest ℕ) (above : List spec.Content) (ps : List ℕ) (x : Found ℕ)
    → are_distinct (l ∷ spec.labels f ++ spec.labels g) ≡ true
    → ((q : ℕ) (qs : List ℕ) → option_and_then (node_from qs) (child_at (c ∷ above) f q) ≡ Some x → IsFirst f (c ∷ above) x)
    → node_from ps (found_in above l c f) ≡ Some x → IsFirst (spec.Node l c f g) above x
first_from l c f g above [] x h below e = subst (λ y. IsFirst (spec.Node l c f g) above y) (some_same (found_in above l c f) x e) (own_first l c f g above)
first_from l c f g above (q ∷ qs) x h below e = below_first l c f g above x h (below q qs e)

pub found_first : (f : spec.Forest ℕ) (above : List spec.Content) (p : ℕ) (ps : List ℕ) (x : Found ℕ) → are_distinct (spec.labels f) ≡ true
    → option_and_then (node_from ps) (child_at above f p) ≡ Some x → IsFirst f above x
found_first spec.Empty above p ps x h e = absurd (cc)
found_first (spec.Node l c f g) above p ps x h e =
    let parts = and_parts (not (is_among l (spec.labels f ++ spec.labels g))) (are_distinct (spec.labels f ++ spec.labels g)) h in
    let both = distinct_parts (spec.labels f) (spec.labels g) parts.1 in
    elim (p == 1) as (λ b. option_and_then (node_from ps) (cond b (Some (found_in above l c f)) (child_at above g (p - 1))) ≡ Some x
    → IsFirst (spec.Node l c f g) above x) [
      | true ↦ λ e. first_from l c f g above ps x h (λ q qs e. found_first f (c ∷ above) q qs x both.0 e) e
      | false ↦ λ e. behind_first l c f g above x h (found_first g above (p - 1) ps x both.1 e)
    ] e

-- in a document
pub numbered_at : (document : spec.Document ℕ) (ps : List ℕ) (x : Found ℕ) → are_distinct (document.root ∷ spec.labels document.nodes) ≡ true
    → node_at document ps ≡ Some x
    → numbered_node document x.label ≡ Some x
numbered_at document [] x h e =
    let is = some_same (root_of document) x e in
    let same : (document.root == document.root) ≡ true = eq-eqb document.root document.root refl in
    subst (λ y. numbered_node document y.label ≡ Some y) is
    (ap (λ b. cond b (Some (root_of document)) (first_in (λ l. l == document.root) [] document.nodes)) same)
numbered_at document (p ∷ ps) x h e =
    let parts = and_parts (not (is_among document.root (spec.labels document.nodes))) (are_distinct (spec.labels document.nodes)) h in
    let found = found_first document.nodes [] p ps x parts.1 e in
    let other = head_apart document.root x.label (spec.labels document.nodes) (not_false _ parts.0) found.among in
    ap (λ b. cond b (Some (root_of document)) (first_in (λ l. l == x.label) [] document.nodes)) other ∙ found.first

item_found : (document : spec.Document ℕ) (ps : List ℕ) (found : Option (Found ℕ)) → IsNumbered document → node_at document ps ≡ found
    → option_and_then (item_of document) (option_map (λ node. itself node.label) found) ≡ option_map TreeNode found
item_found document ps None h e = refl
item_found document ps (Some x) h e =
    let parts = and_parts (are_distinct (document.root ∷ spec.labels document.nodes))
    (list_all (λ n. nat_lt n number_limit) (document.root ∷ spec.labels document.nodes)) h in
    ap (option_and_then (λ node. Some (TreeNode node))) (numbered_at document ps x parts.0 e)

-- what the number of the node at these positions leads to
pub item_at_number : (document : spec.Document ℕ) (ps : List ℕ) → IsNumbered document
    → option_and_then (item_of document) (option_map (λ node. itself node.label) (node_at document ps)) ≡ option_map TreeNode (node_at document ps)
item_at_number document ps h = item_found document ps (node_at document ps) h refl

-- ---- The only way to a node

-- whatever a node leads to is that node or below it
among_from : (l : ℕ) (c : spec.Content) (f : spec.Forest ℕ) (above : List spec.Content) (ps : List ℕ) (x : Found ℕ)
    → are_distinct (spec.labels f) ≡ true
    → node_from ps (found_in above l c f) ≡ Some x → is_among x.label (l ∷ spec.labels f) ≡ true
among_from l c f above [] x h e = or_left (l == x.label) _ (eq-eqb l x.label (ap (λ n. n.label) (some_same (found_in above l c f) x e)))
among_from l c f above (p ∷ ps) x h e = or_right (l == x.label) _ (found_first f (c ∷ above) p ps x h e).among

-- it is not below itself
not_below : (l : ℕ) (c : spec.Content) (f : spec.Forest ℕ) (above : List spec.Content) (p : ℕ) (ps : List ℕ) (x : Found ℕ)
    → are_distinct (l ∷ spec.labels f) ≡ true
    → found_in above l c f ≡ x → option_and_then (node_from ps) (child_at (c ∷ above) f p) ≡ Some x → ⊥
not_below l c f above p ps x h is e =
    let parts = and_parts (not (is_among l (spec.labels f))) (are_distinct (spec.labels f)) h in
    apart (is_among l (spec.labels f)) (ap (λ n. is_among n.label (spec.labels f)) is ∙ (found_first f (c ∷ above) p ps x parts.1 e).among)
    (not_false _ parts.0)

abbrev SameWays : spec.Forest ℕ → List spec.Content → Found ℕ → Type 0
SameWays f above x =
    (p q : ℕ) (ps qs : List ℕ) → option_and_then (node_from ps) (child_at above f p) ≡ Some x
    → option_and_then (node_from qs) (child_at above f q) ≡ Some x
    → (p ≡ q) × (ps ≡ qs)

same_from : (l : ℕ) (c : spec.Content) (f : spec.Forest ℕ) (above : List spec.Content) (x : Found ℕ) → are_distinct (l ∷ spec.labels f) ≡ true
    → SameWays f (c ∷ above) x
    → (ps qs : List ℕ) → node_from ps (found_in above l c f) ≡ Some x → node_from qs (found_in above l c f) ≡ Some x → ps ≡ qs
same_from l c f above x h below [] [] d e = refl
same_from l c f above x h below [] (q ∷ qs) d e = absurd (not_below l c f above q qs x h (some_same (found_in above l c f) x d) e)
same_from l c f above x h below (p ∷ ps) [] d e = absurd (not_below l c f above p ps x h (some_same (found_in above l c f) x e) d)
same_from l c f above x h below (p ∷ ps) (q ∷ qs) d e = let same = below p q ps qs d e in λ i. same.0 i ∷ same.1 i

-- what is found from a node is not among the siblings behind it
not_behind : (l : ℕ) (c : spec.Content) (f g : spec.Forest ℕ) (above : List spec.Content) (q : ℕ) (ps qs : List ℕ) (x : Found ℕ)
    → are_distinct (l ∷ spec.labels f ++ spec.labels g) ≡ true → node_from ps (found_in above l c f) ≡ Some x
    → option_and_then (node_from qs) (child_at above g q) ≡ Some x → ⊥
not_behind l c f g above q ps qs x h d e =
    let parts = distinct_parts (l ∷ spec.labels f) (spec.labels g) h in
    let own = and_parts (not (is_among l (spec.labels f))) (are_distinct (spec.labels f)) parts.0 in
    let behind = (found_first g above q qs x parts.1 e).among in
    apart (is_among x.label (l ∷ spec.labels f)) (among_from l c f above ps x own.1 d) (not_before (l ∷ spec.labels f) (spec.labels g) x.label h behind)

pub none_some : {A : Type 0} (x : A) → None ≡ Some x → ⊥
none_some x e = cc

true_false : true ≡ false → ⊥
true_false e = cc

not_one : (p : ℕ) → (p == 1) ≡ false → p ≢ 1
not_one p h e = true_false (sym (eq-eqb p 1 e) ∙ h)

same_ways : (f : spec.Forest ℕ) (above : List spec.Content) (x : Found ℕ) → are_distinct (spec.labels f) ≡ true → SameWays f above x
same_ways spec.Empty above x h p q ps qs d e = absurd (cc)
same_ways (spec.Node l c f g) above x h p q ps qs d e =
    let parts = distinct_parts (l ∷ spec.labels f) (spec.labels g) h in
    let own = and_parts (not (is_among l (spec.labels f))) (are_distinct (spec.labels f)) parts.0 in
    let within = same_from l c f above x parts.0 (same_ways f (c ∷ above) x own.1) ps qs in
    let behind = same_ways g above x parts.1 (p - 1) (q - 1) ps qs in
    elim (p == 1) as (λ b. (p == 1) ≡ b → option_and_then (node_from ps) (cond b (Some (found_in above l c f)) (child_at above g (p - 1))) ≡ Some x
    → (p ≡ q) × (ps ≡ qs)) [
      | true ↦ λ is d. elim (q == 1) as (λ b. (q == 1) ≡ b
          → option_and_then (node_from qs) (cond b (Some (found_in above l c f)) (child_at above g (q - 1))) ≡ Some x → (p ≡ q) × (ps ≡ qs)) [
            | true ↦ λ also e. (eqb-true p 1 is ∙ sym (eqb-true q 1 also), within d e)
            | false ↦ λ _ e. absurd (not_behind l c f g above (q - 1) ps qs x h d e)
          ] refl e
      | false ↦ λ is d. elim (q == 1) as (λ b. (q == 1) ≡ b
          → option_and_then (node_from qs) (cond b (Some (found_in above l c f)) (child_at above g (q - 1))) ≡ Some x → (p ≡ q) × (ps ≡ qs)) [
            | true ↦ λ _ e. absurd (not_behind l c f g above (p - 1) qs ps x h e d)
            | false ↦ λ also e.
                let apart_p = not_one p is in
                let apart_q = not_one q also in
                let same = behind d e in
                let less : p - 1 ≡ q - 1 = same.0 in
                (omega arith, same.1)
          ] refl e
    ] refl d

-- the root is not below itself
not_under_root : (document : spec.Document ℕ) (x : Found ℕ) (p : ℕ) (ps : List ℕ)
    → are_distinct (document.root ∷ spec.labels document.nodes) ≡ true
    → root_of document ≡ x → option_and_then (node_from ps) (child_at [] document.nodes p) ≡ Some x → ⊥
not_under_root document x p ps h is e =
    let parts = and_parts (not (is_among document.root (spec.labels document.nodes))) (are_distinct (spec.labels document.nodes)) h in
    apart (is_among document.root (spec.labels document.nodes))
    (ap (λ n. is_among n.label (spec.labels document.nodes)) is ∙ (found_first document.nodes [] p ps x parts.1 e).among) (not_false _ parts.0)

only_path : (document : spec.Document ℕ) (x : Found ℕ) (ps qs : List ℕ) → are_distinct (document.root ∷ spec.labels document.nodes) ≡ true
    → node_at document ps ≡ Some x → node_at document qs ≡ Some x → ps ≡ qs
only_path document x [] [] h d e = refl
only_path document x [] (q ∷ qs) h d e = absurd (not_under_root document x q qs h (some_same (root_of document) x d) e)
only_path document x (p ∷ ps) [] h d e = absurd (not_under_root document x p ps h (some_same (root_of document) x e) d)
only_path document x (p ∷ ps) (q ∷ qs) h d e =
    let parts = and_parts (not (is_among document.root (spec.labels document.nodes))) (are_distinct (spec.labels document.nodes)) h in
    let same = same_ways document.nodes [] x parts.1 p q ps qs d e in
    λ i. same.0 i ∷ same.1 i

only_there : (document : spec.Document ℕ) (number : ℕ) (x : Found ℕ) (place : Option (List ℕ)) (path : List ℕ)
    → are_distinct (document.root ∷ spec.labels document.nodes) ≡ true
    → IsWayTo document number place → numbered_node document number ≡ Some x → node_at document path ≡ Some x → place ≡ Some path
only_there document number x None path h w here at = absurd (none_some x (sym w ∙ here))
only_there document number x (Some way) path h w here at = ap Some (only_path document x way path h (w.0 ∙ here) at)

only_found : (document : spec.Document ℕ) (number : ℕ) (place : Option (List ℕ)) (path : List ℕ) (found : Option (Found ℕ)) → IsNumbered document
    → IsWayTo document number place → node_at document path ≡ found → option_map (λ n. n.label) found ≡ Some number → place ≡ Some path
only_found document number place path None h w at e = absurd (cc)
only_found document number place path (Some x) h w at e =
    let parts = and_parts (are_distinct (document.root ∷ spec.labels document.nodes))
    (list_all (λ n. nat_lt n number_limit) (document.root ∷ spec.labels document.nodes)) h in
    let here = ap (numbered_node document) (sym (some_same x.label number e)) ∙ numbered_at document path x parts.0 at in
    only_there document number x place path parts.0 w here at

-- no other path leads to the node of a number
pub only_way : (document : spec.Document ℕ) (number : ℕ) (place : Option (List ℕ)) → IsNumbered document → IsWayTo document number place
    → (path : List ℕ) → option_map (λ n. n.label) (node_at document path) ≡ Some number → place ≡ Some path
only_way document number place h w path e = only_found document number place path (node_at document path) h w refl e
