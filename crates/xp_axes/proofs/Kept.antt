-- What is placed, in order and without doubles is what the listing keeps.
use Rattle.std.proofs.Common.{◌≡◌, ℕ, ◌==◌, Bool, true, false, cond, List, [], ◌∷◌, Option, None, Some, is_some, refl, sym, ap, ◌∙◌}
use Rattle.std.specs.Prelude.{IsSome, map, filter, ◌&&◌, ◌||◌, nat_lt}
use Rattle.std.specs.List.{list_any, list_all, find, dedup, dedup_from}
use Rattle.std.specs.List.Sorted.{IsStrictlySortedBy}
use Rattle.std.specs.Option.{option_map, option_to_list}
use Rattle.std.specs.Ordering.{eq_by_cmp}
use Rattle.std.specs.declared.cmp.Ordering.TheVariants.{Less}
use Rattle.std.specs.Cmp.{eq_by_cmp_equiv}
use Rattle.std.proofs.lemmas.Bool.{and_parts, eqb-true}
use Rattle.std.proofs.lemmas.List.Folds.{list_any-append}
use Rattle.std.proofs.lemmas.Map.Lookups.{btree_set_from_contains}
use Rattle.std.specs.BTreeSet.{BTreeSet}
use Rattle.spec_document.specs.Forest.{Document, labels}
use Rattle.spec_document.specs.Numbering.{number_limit}
use Rattle.spec_document.specs.Place.{root_of, node_at}
use Rattle.spec_document.specs.Order.{Entry, entries_of}
use Rattle.spec_meaning.specs.Step.{ordered}
use Rattle.xt_tree.specs.Numbers.{IsNumbered, are_distinct}
use Rattle.xt_tree.specs.View.{numbered_node, item_of, IsWayTo, IsPlaceOf}
use Rattle.spec_node.specs.declared.node_ref.NodeRef.{NodeRef}
use Rattle.xt_tree.proofs.Distinct.{numbered_at, only_way}
use Rattle.spec_node.specs.Naming.{ref_of, same_ref, same_part, part_at, number_of}
use Rattle.xp_axes.specs.Placed.{Placed, placed_cmp, placed_of, place_of, places_of}
use Rattle.xp_axes.proofs.Entries.{IsAt, AllAt, all_at}
use Rattle.xp_axes.proofs.Located.{same_parts, IsEntryOf}
use Rattle.xp_axes.proofs.Reached.{AllItems, all_items, entry_at}
use Rattle.xp_axes.proofs.Placing.{placed_total, placed_same, listed_in_order, All, InOrder}

-- ---- Tests of lists

or_swap : (a b c d : Bool) → ((a || b) || (c || d)) ≡ ((a || c) || (b || d))
or_swap true b c d = refl
or_swap false true true d = refl
or_swap false true false d = refl
or_swap false false c d = refl

or_and : (a b t : Bool) → ((a || b) && t) ≡ ((a && t) || (b && t))
or_and true true true = refl
or_and true true false = refl
or_and true false true = refl
or_and true false false = refl
or_and false b t = refl

any_filter : {A B : Type 0} (f : A → B) (t : B → Bool) (h : A → Bool) (es : List A)
    → list_any t (map f (filter h es)) ≡ list_any (λ e. h e && t (f e)) es
any_filter f t h [] = refl
any_filter f t h (e ∷ es) =
    elim (h e) as (λ b. list_any t (map f (cond b (e ∷ filter h es) (filter h es))) ≡ ((b && t (f e)) || list_any (λ e. h e && t (f e)) es)) [
      | true ↦ ap (λ b. t (f e) || b) (any_filter f t h es)
      | false ↦ any_filter f t h es
    ]

any_or : {A : Type 0} (a b t : A → Bool) (es : List A)
    → list_any (λ e. (a e || b e) && t e) es ≡ (list_any (λ e. a e && t e) es || list_any (λ e. b e && t e) es)
any_or a b t [] = refl
any_or a b t (e ∷ es) =
    (λ i. or_and (a e) (b e) (t e) i || any_or a b t es i)
    ∙ or_swap (a e && t e) (b e && t e) (list_any (λ e. a e && t e) es) (list_any (λ e. b e && t e) es)

any_none : {A : Type 0} (t : A → Bool) (es : List A) → list_any (λ e. false && t e) es ≡ false
any_none t [] = refl
any_none t (e ∷ es) = any_none t es

any_dedup_from : {A : Type 0} (same : A → A → Bool) (t : A → Bool) → ((x y : A) → same x y ≡ true → t x ≡ t y) → (k : A) (xs : List A)
    → list_any t (dedup_from same k xs) ≡ (t k || list_any t xs)
any_dedup_from same t alike k [] = refl
any_dedup_from same t alike k (x ∷ xs) = by (same x k) refl (any_dedup_from same t alike k xs) (any_dedup_from same t alike x xs)
  where
    twice : (b c : Bool) → (b || c) ≡ (b || (b || c))
    twice true c = refl
    twice false c = refl

    by : (b : Bool) → same x k ≡ b → list_any t (dedup_from same k xs) ≡ (t k || list_any t xs)
        → list_any t (dedup_from same x xs) ≡ (t x || list_any t xs)
        → list_any t (cond b (dedup_from same k xs) (k ∷ dedup_from same x xs)) ≡ (t k || (t x || list_any t xs))
    by true is kept next = kept ∙ twice (t k) (list_any t xs) ∙ ap (λ c. t k || (c || list_any t xs)) (sym (alike x k is))
    by false is kept next = ap (λ c. t k || c) next

pub any_dedup : {A : Type 0} (same : A → A → Bool) (t : A → Bool) → ((x y : A) → same x y ≡ true → t x ≡ t y) → (xs : List A)
    → list_any t (dedup same xs) ≡ list_any t xs
any_dedup same t alike [] = refl
any_dedup same t alike (x ∷ xs) = any_dedup_from same t alike x xs

pub alike : (p x y : Placed) → eq_by_cmp placed_cmp x y ≡ true → eq_by_cmp placed_cmp p x ≡ eq_by_cmp placed_cmp p y
alike p x y e =
    let o = eq_by_cmp_equiv placed_total in
    o.symm p x ∙ o.congr x y p e ∙ o.symm y p

-- ---- One name has one place

pub some_same : {A : Type 0} (x y : A) → Some x ≡ Some y → x ≡ y
some_same x y e = ap (λ o. elim o [ Some z ↦ z | None ↦ x ]) e

some_none : {A : Type 0} (x : A) → Some x ≡ None → ⊥
some_none x e = cc

pub ref_is : (r : NodeRef) (e : Entry ℕ) → same_ref r (ref_of e) ≡ true → ref_of e ≡ r
ref_is r e same =
    let parts = and_parts (r.node.number == number_of e.item) (same_part r.part (part_at e.place.ending e.number)) same in
    let number = eqb-true r.node.number (number_of e.item) parts.0 in
    let own = same_parts r.part (part_at e.place.ending e.number) parts.1 in
    λ i. record { node = record { number = sym number i }; part = sym own i }

same_placed : (document : Document ℕ) → IsNumbered document → (r : NodeRef) (e f : Entry ℕ) → IsAt (root_of document) e
    → IsAt (root_of document) f → same_ref r (ref_of e) ≡ true → same_ref r (ref_of f) ≡ true → placed_of e ≡ placed_of f
same_placed document numbers r e f at also is same =
    let parts = and_parts (are_distinct (document.root ∷ labels document.nodes))
    (list_all (λ n. nat_lt n number_limit) (document.root ∷ labels document.nodes)) numbers in
    let here : ref_of e ≡ r = ref_is r e is in
    let there : ref_of f ≡ r = ref_is r f same in
    let number : at.element.label ≡ r.node.number = sym at.number ∙ ap (λ (s : NodeRef). s.node.number) here in
    let other : also.element.label ≡ r.node.number = sym also.number ∙ ap (λ (s : NodeRef). s.node.number) there in
    let found : numbered_node document r.node.number ≡ Some also.element
    = ap (numbered_node document) (sym other) ∙ numbered_at document f.place.positions also.element parts.0 also.at in
    let way : IsWayTo document r.node.number (Some f.place.positions) = (also.at ∙ sym found, λ none. some_none also.element (sym found ∙ none)) in
    let path = some_same f.place.positions e.place.positions
    (only_way document r.node.number (Some f.place.positions) numbers way e.place.positions (ap (option_map (λ n. n.label)) at.at ∙ ap Some number)) in
    let names : ref_of e ≡ ref_of f = here ∙ sym there in
    λ i. record { path = sym path i; node = names i }

-- the place of a name among entries
neither : (a b : Bool) → a ≡ false → b ≡ false → (a || b) ≡ false
neither true b h g = absurd (cc)
neither false b h g = g

no_other : (document : Document ℕ) → IsNumbered document → (t : Placed → Bool) (r : NodeRef) (e : Entry ℕ) → IsAt (root_of document) e
    → same_ref r (ref_of e) ≡ true → t (placed_of e) ≡ false → (es : List (Entry ℕ)) → AllAt (root_of document) es
    → list_any (λ f. same_ref r (ref_of f) && t (placed_of f)) es ≡ false
no_other document numbers t r e at is not [] h = refl
no_other document numbers t r e at is not (f ∷ es) h =
    neither (same_ref r (ref_of f) && t (placed_of f)) _ (by (same_ref r (ref_of f)) refl) (no_other document numbers t r e at is not es h.1)
  where
    by : (b : Bool) → same_ref r (ref_of f) ≡ b → (b && t (placed_of f)) ≡ false
    by true same = ap t (same_placed document numbers r f e h.0 at same is) ∙ not
    by false same = refl

abbrev are_among : (Placed → Bool) → NodeRef → List (Entry ℕ) → Bool
are_among t r es = list_any (λ e. same_ref r (ref_of e) && t (placed_of e)) es

one_place : (document : Document ℕ) → IsNumbered document → (t : Placed → Bool) (r : NodeRef) (es : List (Entry ℕ)) → AllAt (root_of document) es
    → list_any t (option_to_list (option_map placed_of (find (λ e. same_ref r (ref_of e)) es))) ≡ are_among t r es
one_place document numbers t r [] h = refl
one_place document numbers t r (e ∷ es) h = by (same_ref r (ref_of e)) refl (one_place document numbers t r es h.1)
  where
    absorbed : (b c : Bool) → (b ≡ false → c ≡ false) → (b || false) ≡ (b || c)
    absorbed true c f = refl
    absorbed false c f = sym (f refl)

    by : (b : Bool) → same_ref r (ref_of e) ≡ b
        → list_any t (option_to_list (option_map placed_of (find (λ e. same_ref r (ref_of e)) es))) ≡ are_among t r es
        → list_any t (option_to_list (option_map placed_of (cond b (Some e) (find (λ e. same_ref r (ref_of e)) es))))
        ≡ ((b && t (placed_of e)) || are_among t r es)
    by true is rest = absorbed (t (placed_of e)) (are_among t r es) (λ not. no_other document numbers t r e h.0 is not es h.1)
    by false is rest = rest

places_any : (document : Document ℕ) → IsNumbered document → (t : Placed → Bool) (nodes : List NodeRef)
    → list_any t (places_of document nodes)
    ≡ list_any (λ e. list_any (λ node. same_ref node (ref_of e)) nodes && t (placed_of e)) (entries_of document)
places_any document numbers t [] = sym (any_none (λ e. t (placed_of e)) (entries_of document))
places_any document numbers t (r ∷ nodes) =
    list_any-append t (option_to_list (place_of document r)) (places_of document nodes)
    ∙ (λ i. one_place document numbers t r (entries_of document) (all_at (root_of document)) i || places_any document numbers t nodes i)
    ∙ sym (any_or (λ e. same_ref r (ref_of e)) (λ e. list_any (λ node. same_ref node (ref_of e)) nodes) (λ e. t (placed_of e)) (entries_of document))

map_names : (es : List (Entry ℕ)) → map (λ (p : Placed). p.node) (map placed_of es) ≡ map ref_of es
map_names [] = refl
map_names (e ∷ es) = ap (λ ns. ref_of e ∷ ns) (map_names es)

all_kept : (P : Placed → Type 0) (h : Entry ℕ → Bool) (es : List (Entry ℕ)) → All P (map placed_of es) → All P (map placed_of (filter h es))
all_kept P h [] g = tt
all_kept P h (e ∷ es) g =
    let rest = all_kept P h es g.1 in
    elim (h e) as (λ b. All P (map placed_of (cond b (e ∷ filter h es) (filter h es)))) [ true ↦ (g.0, rest) | false ↦ rest ]

order_kept : (h : Entry ℕ → Bool) (es : List (Entry ℕ)) → InOrder (map placed_of es) → InOrder (map placed_of (filter h es))
unfolding IsStrictlySortedBy
order_kept h [] g = tt
order_kept h (e ∷ es) g =
    let rest = order_kept h es g.1 in
    elim (h e) as (λ b. InOrder (map placed_of (cond b (e ∷ filter h es) (filter h es))))
    [ true ↦ (all_kept (λ q. placed_cmp (placed_of e) q ≡ Less) h es g.0, rest) | false ↦ rest ]

pub order_is : (document : Document ℕ) → IsNumbered document → (nodes : List NodeRef) (out : List Placed) → InOrder out
    → ((p : Placed) → list_any (eq_by_cmp placed_cmp p) out ≡ list_any (eq_by_cmp placed_cmp p) (places_of document nodes))
    → map (λ (p : Placed). p.node) out ≡ ordered ref_of same_ref (entries_of document) nodes
order_is document numbers nodes out order members =
    let among : Entry ℕ → Bool = λ e. list_any (λ node. same_ref node (ref_of e)) nodes in
    let kept = filter among (entries_of document) in
    let found : BTreeSet Placed = record { keys = out } in
    let listed : BTreeSet Placed = record { keys = map placed_of kept } in
    ap (map (λ (p : Placed). p.node))
    (btree_set_from_contains placed_total found listed order (order_kept among (entries_of document) (listed_in_order document))
    (λ p. members p ∙ places_any document numbers (eq_by_cmp placed_cmp p) nodes
    ∙ sym (any_filter placed_of (eq_by_cmp placed_cmp p) among (entries_of document)))
    placed_same)
    ∙ map_names kept

-- ---- The place of a name

pub none_found : (document : Document ℕ) (r : NodeRef) → item_of document r ≡ None → (es : List (Entry ℕ)) → AllItems document es
    → find (λ e. same_ref r (ref_of e)) es ≡ None
none_found document r none [] h = refl
none_found document r none (e ∷ es) h =
    ap (λ b. cond b (Some e) (find (λ e. same_ref r (ref_of e)) es)) (by (same_ref r (ref_of e)) refl) ∙ none_found document r none es h.1
  where
    by : (b : Bool) → same_ref r (ref_of e) ≡ b → b ≡ false
    by true is = absurd (some_none e.item (sym h.0 ∙ ap (item_of document) (ref_is r e is) ∙ none))
    by false is = refl

-- a name that stands for nothing has none
pub not_placed : (document : Document ℕ) → IsNumbered document → (r : NodeRef) → item_of document r ≡ None → place_of document r ≡ None
not_placed document numbers r none =
    ap (option_map placed_of)
    (none_found document r none (entries_of document) (all_items document numbers (entries_of document) (all_at (root_of document))))

pub placed_at : (document : Document ℕ) (r : NodeRef) (path : List ℕ) → IsEntryOf document r path
    → place_of document r ≡ Some (record { path = path; node = r })
placed_at document r path e =
    let part = part_at e.entry.place.ending e.entry.number in
    let own : ref_of e.entry ≡ record { node = record { number = e.is.at.element.label }; part = part } =
    λ i. record { node = record { number = e.is.at.number i }; part = part } in
    let name = own ∙ e.is.name in
    ap (option_map placed_of) e.first ∙ ap Some (λ i. record { path = e.positions i; node = name i })

is_there : {A : Type 0} (o : Option A) → (o ≡ None → ⊥) → is_some o ≡ true
is_there None h = absurd (h refl)
is_there (Some x) h = refl

pub placed_there : (document : Document ℕ) (r : NodeRef) (path : List ℕ) → IsPlaceOf document r (Some path)
    → (IsSome (item_of document r) → (ps : List ℕ) → option_map (λ n. n.label) (node_at document ps) ≡ Some r.node.number → Some path ≡ Some ps)
    → place_of document r ≡ Some (record { path = path; node = r })
placed_there document r path place only =
    placed_at document r path (entry_at document r path (is_there (item_of document r) place.1) place only)
