-- What is at hand once one global more was given.
use Rattle.std.proofs.Common.{◌≡◌, ℕ, ◌≤◌, List, [], ◌∷◌, ◌++◌, Bool, true, false, cond, refl, sym, ap, ◌∙◌, arith}
use Rattle.std.specs.Prelude.{◌&&◌, nat_le, bytes_eq, None, Some, unwrap_or}
use Rattle.std.proofs.lemmas.Slice.Eq.{bytes_eq-Decides}
use Rattle.std.proofs.lemmas.Bool.Decides.{nat_tests}
use Rattle.spec_document.specs.Name.{Expanded, same_name}
use Rattle.spec_stylesheet.specs.Place.{Place}
use Rattle.spec_meaning.specs.Value.{Value}
use Rattle.spec_meaning.specs.Program.{Wanted, Position, Size, Rule, Global, Given, Counted, Ruled, Valued}
use Rattle.spec_meaning.specs.Supplies as supplies
use Rattle.spec_meaning.specs.Supplies.{Supplies, found, at_hand}
use Rattle.spec_run.specs.Plan.{Call}
use Rattle.spec_run.specs.Direct.{Supplied, Known}
use Rattle.spec_run.specs.Meaning.{current_by, supplied}
use Rattle.xt_engine.specs.Progress.{supplies_for, supplied_with}
use Rattle.xt_driver.specs.Stands.{Agrees}

abbrev of_parts : List ℕ → List ℕ → Expanded
of_parts uri local = record { uri = uri; local = local }

first_of : (a b : Bool) → (a && b) ≡ true → a ≡ true
first_of true b e = refl
first_of false b e = e

second_of : (a b : Bool) → (a && b) ≡ true → b ≡ true
second_of true b e = e
second_of false b e = absurd (cc)

both_true : (a b : Bool) → a ≡ true → b ≡ true → (a && b) ≡ true
both_true true b e h = h
both_true false b e h = e

pub equal_names : (a b : Expanded) → same_name a b ≡ true → a ≡ b
equal_names a b e =
    let uri = (bytes_eq-Decides a.uri b.uri).0 (first_of (bytes_eq a.uri b.uri) (bytes_eq a.local b.local) e) in
    let local = (bytes_eq-Decides a.local b.local).0 (second_of (bytes_eq a.uri b.uri) (bytes_eq a.local b.local) e) in
    λ i. of_parts (uri i) (local i)

pub own_name : (a : Expanded) → same_name a a ≡ true
own_name a = both_true (bytes_eq a.uri a.uri) (bytes_eq a.local a.local) ((bytes_eq-Decides a.uri a.uri).1 refl) ((bytes_eq-Decides a.local a.local).1 refl)

-- ---- At the start

pub agrees_begun : {N : Type 0} (c : Call N) (globals : Expanded → ℕ → Place → Supplied N) → Agrees (supplied c globals) (at_hand (supplies_for c))
agrees_begun c globals Position d l x e = let f : Counted (unwrap_or c.position 1) ≡ x = cc in ap (λ y. Known y) f
agrees_begun c globals Size d l x e = let f : Counted (unwrap_or c.size 1) ≡ x = cc in ap (λ y. Known y) f
agrees_begun c globals Rule d l x e = let f : Ruled (current_by c.ruling) ≡ x = cc in ap (λ y. Known y) f
agrees_begun c globals (Global name) d l x e = absurd (cc)

-- ---- One more

found_agrees : {N : Type 0} (name : Expanded) (e : ℕ) (x : Supplied N) (ks : List (supplies.Known N)) (k : supplies.Known N) (v : Given N)
    → ((u : Given N) → found name e ks ≡ Some u → x ≡ Known u) → (k.name ≡ name → e ≤ k.depth → x ≡ Known (Valued k.value)) → found name e (ks ++ k ∷ []) ≡ Some v → x ≡ Known v
found_agrees {N = N} name e x [] k v f h i = go (same_name k.name name && nat_le e k.depth) (λ t. h (equal_names k.name name (first_of (same_name k.name name) (nat_le e k.depth) t)) (deep (second_of (same_name k.name name) (nat_le e k.depth) t))) i
  where
    deep : nat_le e k.depth ≡ true → e ≤ k.depth
    deep t = grind (arith, nat_tests)

    go : (b : Bool) → (b ≡ true → x ≡ Known (Valued k.value)) → cond b (Some (Valued k.value)) None ≡ Some v → x ≡ Known v
    go true r t = let same : Valued k.value ≡ v = cc in r refl ∙ ap (λ u. Known u) same
    go false r t = absurd (cc)
found_agrees {N = N} name e x (l ∷ ks) k v f h i = go (same_name l.name name && nat_le e l.depth) f (λ r. found_agrees name e x ks k v r h) i
  where
    go : (b : Bool) → ((u : Given N) → cond b (Some (Valued l.value)) (found name e ks) ≡ Some u → x ≡ Known u) → (((u : Given N) → found name e ks ≡ Some u → x ≡ Known u) → found name e (ks ++ k ∷ []) ≡ Some v → x ≡ Known v)
        → cond b (Some (Valued l.value)) (found name e (ks ++ k ∷ [])) ≡ Some v → x ≡ Known v
    go true f r t = f v t
    go false f r t = r f t

found_first : {N : Type 0} (name : Expanded) (e : ℕ) (ks : List (supplies.Known N)) (k : supplies.Known N) (v : Given N) → found name e ks ≡ Some v → found name e (ks ++ k ∷ []) ≡ Some v
found_first name e [] k v h = absurd (cc)
found_first name e (l ∷ ks) k v h = go (same_name l.name name && nat_le e l.depth) (found_first name e ks k v) h
  where
    go : (b : Bool) → (found name e ks ≡ Some v → found name e (ks ++ k ∷ []) ≡ Some v) → cond b (Some (Valued l.value)) (found name e ks) ≡ Some v → cond b (Some (Valued l.value)) (found name e (ks ++ k ∷ [])) ≡ Some v
    go true f h = h
    go false f h = f h

pub found_last : {N : Type 0} (name : Expanded) (d : ℕ) (v : Value N) (ks : List (supplies.Known N)) → found name d ks ≡ None → found name d (ks ++ record { name = name; depth = d; value = v } ∷ []) ≡ Some (Valued v)
found_last name d v [] h =
    let deep : nat_le d d ≡ true = grind (arith, nat_tests) in
    let e : (same_name name name && nat_le d d) ≡ true = both_true (same_name name name) (nat_le d d) (own_name name) deep in
    rw e refl
found_last name d v (l ∷ ks) h = go (same_name l.name name && nat_le d l.depth) (found_last name d v ks) h
  where
    go : (b : Bool) → (found name d ks ≡ None → found name d (ks ++ record { name = name; depth = d; value = v } ∷ []) ≡ Some (Valued v))
        → cond b (Some (Valued l.value)) (found name d ks) ≡ None → cond b (Some (Valued l.value)) (found name d (ks ++ record { name = name; depth = d; value = v } ∷ [])) ≡ Some (Valued v)
    go true f h = absurd (cc)
    go false f h = f h

pub hand_more : {N : Type 0} (s : Supplies N) (name : Expanded) (d : ℕ) (v : Value N) → (e : ℕ) (w : Wanted) (u : Given N) → at_hand s e w ≡ Some u → at_hand (supplied_with name d v s) e w ≡ Some u
hand_more s name d v e Position u h = h
hand_more s name d v e Size u h = h
hand_more s name d v e Rule u h = h
hand_more s name d v e (Global other) u h = found_first other e s.globals (record { name = name; depth = d; value = v }) u h

pub agrees_with : {N : Type 0} (c : Call N) (globals : Expanded → ℕ → Place → Supplied N) (s : Supplies N) (name : Expanded) (d : ℕ) (v : Value N)
    → ((e : ℕ) (l : Place) → e ≤ d → globals name e l ≡ Known (Valued v)) → Agrees (supplied c globals) (at_hand s) → Agrees (supplied c globals) (at_hand (supplied_with name d v s))
agrees_with c globals s name d v f a Position e l u h = a Position e l u h
agrees_with c globals s name d v f a Size e l u h = a Size e l u h
agrees_with c globals s name d v f a Rule e l u h = a Rule e l u h
agrees_with c globals s name d v f a (Global other) e l u h =
    found_agrees other e (globals other e l) s.globals (record { name = name; depth = d; value = v }) u (λ x t. a (Global other) e l x t) (λ same k. ap (λ m. globals m e l) (sym same) ∙ f e l k) h
