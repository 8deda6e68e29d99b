-- The index of all keys never looks at the name of a node, where names are told apart alike; so the nodes that have a value in a key are related.
use Rattle.std.proofs.Common.{◌≡◌, ℕ, List, [], ◌∷◌, ◌++◌, map, filter, Bool, true, false, cond, None, Some, refl}
use Rattle.std.specs.Prelude.{◌&&◌, ◌||◌, bytes_eq}
use Rattle.spec_stylesheet.specs.Place.{Place}
use Rattle.spec_meaning.specs.Value.{Value}
use Rattle.spec_meaning.specs.Program.{Program, Said, then}
use Rattle.spec_meaning.specs.Related.{Each, none, more, texts, Answers, refused, some_nodes, Values, number, text, boolean, nodes, fragment, context}
use Rattle.spec_meaning.specs.Related.{Match, gives, refuses, asks, needs, Outcomes, both_give, both_refuse, both_lack}
use Rattle.spec_meaning.proofs.Matching.{Same, then_match, each_append, meaning_match}
use Rattle.spec_transform.specs.Key.{KeyAt, texts_of, values_of, refused_there, used, values_at, Entry, entry, indexed_by, indexed, has, keyed}
use Rattle.spec_run.proofs.Asking.{then_same, either_match, text_match}
use Rattle.spec_run.proofs.Chosen.{TellAlike, matches_match}

-- ---- the values of one node in one key
texts_of_match : {N M : Type 0} {R : N → M → Type 0} (done : List (List ℕ)) {ns : List N} {ms : List M} → Each R ns ms
    → Match R Same (texts_of done ns) (texts_of done ms)
texts_of_match done none = gives refl
texts_of_match {R = R} done (more h hs) =
    then_same (asks (texts h) (λ x y e. gives (text_match e))) (λ t. texts_of_match (done ++ t ∷ []) hs)

pub values_of_match : {N M : Type 0} {R : N → M → Type 0} {v : Value N} {w : Value M} → Values R v w → Match R Same (values_of v) (values_of w)
unfolding then
values_of_match number = gives refl
values_of_match text = gives refl
values_of_match boolean = gives refl
values_of_match (nodes h) = texts_of_match [] h
values_of_match fragment = gives refl

pub refused_there_match : {N M A B : Type 0} {R : N → M → Type 0} {S : A → B → Type 0} (place : Place) {p : Program N A} {q : Program M B} → Match R S p q
    → Match R S (refused_there place p) (refused_there place q)
unfolding refused_there
refused_there_match place (gives h) = gives h
refused_there_match place refuses = refuses
refused_there_match place (asks h next) = asks h (λ x y e. refused_there_match place (next x y e))
refused_there_match place (needs next) = needs (λ x y e. refused_there_match place (next x y e))

used_match : {N M : Type 0} {R : N → M → Type 0} (k : KeyAt) (n : N) (m : M) → R n m → (b : Bool) → Match R Same (used k n b) (used k m b)
used_match k n m h b =
    either_match b (refused_there_match k.site.place (then_match (meaning_match k.key.value (context {position = Some 1} {size = Some 1} h h none))
    (λ v w e. values_of_match e))) (gives refl)

pub values_at_match : {N M : Type 0} {R : N → M → Type 0} (same : N → N → Bool) (like : M → M → Bool) → TellAlike R same like → (k : KeyAt) (n : N) (m : M) → R n m
    → Match R Same (values_at same k n) (values_at like k m)
values_at_match same like alike k n m h =
    then_same (matches_match same like alike (context {position = None} {size = None} h h none) k.key.pattern n m h) (λ b. used_match k n m h b)

-- ---- the index of all nodes
-- related nodes with the same value
pub data Entries {N M : Type 0} (R : N → M → Type 0) : Entry N → Entry M → Type 0 where
  entered : {t : List ℕ} {n : N} {m : M} → R n m → Entries R (record { node = n; text = t }) (record { node = m; text = t })

entered_each : {N M : Type 0} {R : N → M → Type 0} (n : N) (m : M) → R n m → (ts : List (List ℕ)) → Each (Entries R) (map (entry n) ts) (map (entry m) ts)
entered_each n m h [] = none
entered_each n m h (t ∷ ts) = more (entered h) (entered_each n m h ts)

pub indexed_by_match : {N M : Type 0} {R : N → M → Type 0} (same : N → N → Bool) (like : M → M → Bool) → TellAlike R same like → (k : KeyAt)
    {ns : List N} {ms : List M} → Each R ns ms → {done : List (Entry N)} {also : List (Entry M)} → Each (Entries R) done also
    → Match R (Each (Entries R)) (indexed_by same k ns done) (indexed_by like k ms also)
indexed_by_match same like alike k none sofar = gives sofar
indexed_by_match same like alike k (more h hs) sofar =
    then_same (values_at_match same like alike k _ _ h) (λ ts. indexed_by_match same like alike k hs (each_append sofar (entered_each _ _ h ts)))

pub indexed_match : {N M : Type 0} {R : N → M → Type 0} (same : N → N → Bool) (like : M → M → Bool) → TellAlike R same like → (ks : List KeyAt)
    {ns : List N} {ms : List M} → Each R ns ms → {done : List (Entry N)} {also : List (Entry M)} → Each (Entries R) done also
    → Match R (Each (Entries R)) (indexed same ks ns done) (indexed like ks ms also)
indexed_match same like alike [] h sofar = gives sofar
indexed_match same like alike (k ∷ ks) h sofar =
    then_match (indexed_by_match same like alike k h sofar) (λ es fs e. indexed_match same like alike ks h e)

-- ---- the nodes that have a value
pub has_match : {N M : Type 0} {R : N → M → Type 0} (same : N → N → Bool) (like : M → M → Bool) → TellAlike R same like → {es : List (Entry N)} {fs : List (Entry M)}
    → Each (Entries R) es fs → (t : List ℕ) (n : N) (m : M) → R n m → has same es t n ≡ has like fs t m
has_match same like alike none t n m k = refl
has_match same like alike (more (entered {t = u} h) hs) t n m k =
    λ i. (alike _ _ _ _ k h i && bytes_eq u t) || has_match same like alike hs t n m k i

picked_match : {N M : Type 0} {R : N → M → Type 0} (b : Bool) (x : N) (y : M) {xs : List N} {ys : List M} → R x y → Each R xs ys
    → Each R (cond b (x ∷ xs) xs) (cond b (y ∷ ys) ys)
picked_match true x y h hs = more h hs
picked_match false x y h hs = hs

pub filter_match : {N M : Type 0} {R : N → M → Type 0} (p : N → Bool) (q : M → Bool) → ((n : N) (m : M) → R n m → p n ≡ q m) → {ns : List N} {ms : List M}
    → Each R ns ms → Each R (filter p ns) (filter q ms)
filter_match p q equal none = none
filter_match p q equal (more {x = x} {y = y} h hs) = rw (equal x y h) (picked_match (q y) x y h (filter_match p q equal hs))

pub keyed_match : {N M : Type 0} {R : N → M → Type 0} (same : N → N → Bool) (like : M → M → Bool) → TellAlike R same like → {ns : List N} {ms : List M} → Each R ns ms
    → (t : List ℕ) {o : Said (List (Entry N))} {p : Said (List (Entry M))} → Outcomes (Each (Entries R)) o p → Answers R (keyed same ns t o) (keyed like ms t p)
keyed_match same like alike h t (both_give e) = some_nodes (filter_match _ _ (λ n m k. has_match same like alike e t n m k) h)
keyed_match same like alike h t both_refuse = refused
keyed_match same like alike h t both_lack = some_nodes none
