-- What the steps of an element's start leave as it is: the meaning of each prefix that is settled.
use Rattle.std.proofs.Common.{◌≡◌, ◌∙◌, refl, sym, ap, ℕ, Bool, true, false, cond, List, [], Some, bytes_eq}
use Rattle.std.specs.Prelude.{◌||◌, if◌then◌else◌, unwrap_or}
use Rattle.std.specs.Cmp.Lexicographic.{nat_list_cmp_total}
use Rattle.std.specs.FinMap.{get, get-insert}
use Rattle.std.proofs.lemmas.Map.Text.{is_eq-slice_cmp}
use Rattle.std.proofs.lemmas.Slice.Eq.{bytes_eq-Decides}
use Rattle.spec_document.specs.Scope.{Scope, bound}
use Rattle.spec_result.specs.Recovery.{NamespaceNode}
use Rattle.spec_result.specs.Shape.{Opening, declare, settle, needing, with_node, uri_in, is_bound_to, write}

pub itself : (x : List ℕ) → bytes_eq x x ≡ true
itself x = (bytes_eq-Decides x x).1 refl

pub same : (x y : List ℕ) → bytes_eq x y ≡ true → x ≡ y
same x y e = (bytes_eq-Decides x y).0 e

looked_up : (s : Scope) (p u q : List ℕ) → uri_in (bound s p u) q ≡ unwrap_or (cond (bytes_eq q p) (Some u) (get s q)) []
looked_up s p u q =
    ap (λ o. unwrap_or o []) (get-insert nat_list_cmp_total s p u q)
    ∙ ap (λ b. unwrap_or (cond b (Some u) (get s q)) []) (is_eq-slice_cmp q p)

pub uri_now : (s : Scope) (p u : List ℕ) → uri_in (bound s p u) p ≡ u
uri_now s p u = looked_up s p u p ∙ ap (λ b. unwrap_or (cond b (Some u) (get s p)) []) (itself p)

pub uri_kept : (s : Scope) (p u q : List ℕ) → bytes_eq q p ≡ false → uri_in (bound s p u) q ≡ uri_in s q
uri_kept s p u q other = looked_up s p u q ∙ ap (λ b. unwrap_or (cond b (Some u) (get s q)) []) other

-- what is settled before a step is settled after it, with the same meaning
pub record Keeps (o n : Opening) : Type 0 where
  pub settled : (q : List ℕ) → o.settled q ≡ true → n.settled q ≡ true
  pub uri : (q : List ℕ) → o.settled q ≡ true → uri_in n.scope q ≡ uri_in o.scope q

pub all_kept : (o : Opening) → Keeps o o
all_kept o = record { settled = λ q h. h; uri = λ q h. refl }

pub kept_then : {o n m : Opening} → Keeps o n → Keeps n m → Keeps o m
kept_then a b = record { settled = λ q h. b.settled q (a.settled q h); uri = λ q h. b.uri q (a.settled q h) ∙ a.uri q h }

or_right : (a b : Bool) → b ≡ true → (a || b) ≡ true
or_right true b h = refl
or_right false b h = h

pub settle_keeps : (p : List ℕ) (o : Opening) → Keeps o (settle p o)
settle_keeps p o = record { settled = λ q h. or_right (bytes_eq p q) (o.settled q) h; uri = λ q h. refl }

-- a prefix that is not settled is none that is
pub apart : (p q : List ℕ) (o : Opening) → o.settled p ≡ false → o.settled q ≡ true → bytes_eq q p ≡ false
apart p q o n h = at (bytes_eq q p) refl
  where
    at : (b : Bool) → bytes_eq q p ≡ b → b ≡ false
    at false e = refl
    at true e = let wrong : true ≡ false = sym h ∙ ap o.settled (same q p e) ∙ n in absurd (cc)

pub declare_keeps : (p u : List ℕ) (o : Opening) → o.settled p ≡ false → Keeps o (declare p u o)
declare_keeps p u o n =
    record { settled = λ q h. or_right (bytes_eq p q) (o.settled q) h; uri = λ q h. uri_kept o.scope p u q (apart p q o n h) }

pub chosen : (P : Opening → Type 0) (b : Bool) (x y : Opening) → (b ≡ true → P x) → (b ≡ false → P y) → P (if b then x else y)
chosen P true x y f g = f refl
chosen P false x y f g = g refl

pub needing_keeps : (p u : List ℕ) (o : Opening) → (is_bound_to o.scope p u ≡ false → o.settled p ≡ false) → Keeps o (needing p u o)
needing_keeps p u o n =
    chosen (Keeps o) (is_bound_to o.scope p u) o (declare p u o) (λ e. all_kept o) (λ e. declare_keeps p u o (n e))

pub needed : (p u : List ℕ) (o : Opening) → uri_in (needing p u o).scope p ≡ u
needed p u o =
    chosen (λ n. uri_in n.scope p ≡ u) (is_bound_to o.scope p u) o (declare p u o) (λ e. same (uri_in o.scope p) u e) (λ e. uri_now o.scope p u)

neither : (a b : Bool) → (a || b) ≡ false → b ≡ false
neither true b e = absurd (cc)
neither false b e = e

pub node_keeps : (node : NamespaceNode) (o : Opening) → Keeps o (with_node node o)
node_keeps node o =
    chosen (Keeps o) (is_bound_to o.scope node.0 node.1 || o.settled node.0) o (declare node.0 node.1 o) (λ e. all_kept o)
    (λ e. declare_keeps node.0 node.1 o (neither (is_bound_to o.scope node.0 node.1) (o.settled node.0) e))

pub write_keeps : (name value : List ℕ) (o : Opening) → Keeps o (write name value o)
write_keeps name value o = record { settled = λ q h. h; uri = λ q h. refl }
