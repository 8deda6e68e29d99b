-- What is left of nodes that are sorted, before and after one more of their keys.
use Rattle.std.proofs.Common.{◌≡◌, ℕ, suc, ◌+◌, ◌<◌, ◌≤◌, List, [], ◌∷◌, ◌++◌, length, get_or, drop, map, Vec, Global, refl, sym, ap, ◌∙◌, arith}
use Rattle.std.proofs.lemmas.List.{at_drop_more, at_drop_all, drop-map, map-append, length-append}
use Rattle.std.specs.Option.{option_map}
use Rattle.std.proofs.lemmas.Option.{slice_get-map, slice_get_read}
use Rattle.spec_meaning.specs.Stream.{Ended}
use Rattle.spec_transform.specs.Sorted as sorts
use Rattle.spec_transform.specs.Sorted.{criterion_meant, key_meant, nodes_in_order}
use Rattle.spec_run.specs.Plan.{Plan, Put}
use Rattle.spec_run.specs.Content.{Here, at, asked, criteria_asked, keys_asked, rows_asked, sorted}
use Rattle.xt_syntax.specs.declared.sort_key.SortKey.{SortKey}
use Rattle.xt_syntax.specs.PartView.{place_of, sort_key_of}
use Rattle.spec_node.specs.declared.node_ref.NodeRef.{NodeRef}
use Rattle.xt_sort.specs.declared.row.Criterion.{Criterion}
use Rattle.xt_sort.specs.declared.row.KeyValue.{KeyValue}
use Rattle.xt_sort.specs.declared.row.Row.{Row}
use Rattle.xt_sort.specs.View.{criterion_of, key_of, row_of}
use Rattle.xt_frames.specs.declared.frame.Sorting.{Sorting}
use Rattle.xt_frames.specs.declared.frame.Frame.TheVariants as frames
use Rattle.xt_frames.specs.View.{here_of, keys_in, left_frame, ordered_left, rows_left}
use Rattle.xt_instructions.specs.Asks.{place_at, place_if, with_criteria, with_rows}

longer : {A : Type 0} (old new : List A) (x : A) → new ≡ old ++ x ∷ [] → length new ≡ length old + 1
longer old new x e = ap length e ∙ length-append old (x ∷ [])

-- ---- How the keys compare

-- what comes once all nodes have their keys, and once it is asked how all keys compare
abbrev pub after_rows : Sorting → List sorts.Criterion → Plan NodeRef → List (sorts.Row NodeRef) → Plan NodeRef
after_rows s criteria after rows = Put Ended (ordered_left s.to (nodes_in_order criteria rows) after)

abbrev pub after_criteria : Sorting → Plan NodeRef → List sorts.Criterion → Plan NodeRef
after_criteria s after criteria = rows_left s criteria (drop (length s.rows.items) s.nodes.items) (after_rows s criteria after)

pub criterion_next : (s : Sorting) (x : SortKey) (after : Plan NodeRef) → length s.criteria.items < length s.keys.value.items → x ≡ get_or s.keys.value.items (length s.criteria.items) x
    → left_frame (frames.Sorting s) after
    ≡ asked (sort_key_of x).site (here_of s.here) (criterion_meant (sort_key_of x)) (λ c. criteria_asked (drop (length s.criteria.items + 1) (keys_in s)) (here_of s.here) (map criterion_of s.criteria.items ++ c ∷ []) (after_criteria s after))
criterion_next s x after lt is_x =
    let keys = s.keys.value.items in
    let i = length s.criteria.items in
    let h = here_of s.here in
    let done = map criterion_of s.criteria.items in
    let k = after_criteria s after in
    ap (λ l. criteria_asked l h done k) (drop-map sort_key_of i keys)
    ∙ at_drop_more (λ rest. criteria_asked (map sort_key_of rest) h done k) keys i x lt
    ∙ ap (λ y. criteria_asked (sort_key_of y ∷ map sort_key_of (drop (i + 1) keys)) h done k) (sym is_x)
    ∙ ap (λ l. asked (sort_key_of x).site h (criterion_meant (sort_key_of x)) (λ c. criteria_asked l h (done ++ c ∷ []) k)) (sym (drop-map sort_key_of (i + 1) keys))

pub criterion_more : (s : Sorting) (criteria : Vec Criterion Global) (c : Criterion) (after : Plan NodeRef) → criteria.items ≡ s.criteria.items ++ c ∷ []
    → criteria_asked (drop (length s.criteria.items + 1) (keys_in s)) (here_of s.here) (map criterion_of s.criteria.items ++ criterion_of c ∷ []) (after_criteria s after) ≡ left_frame (frames.Sorting (with_criteria s criteria)) after
criterion_more s criteria c after e =
    let n = sym (longer s.criteria.items criteria.items c e) in
    let m = sym (ap (map criterion_of) e ∙ map-append criterion_of s.criteria.items (c ∷ [])) in
    λ i. criteria_asked (drop (n i) (keys_in s)) (here_of s.here) (m i) (after_criteria s after)

pub criteria_none : (s : Sorting) (after : Plan NodeRef) → length s.keys.value.items ≤ length s.criteria.items → left_frame (frames.Sorting s) after ≡ after_criteria s after (map criterion_of s.criteria.items)
criteria_none s after le =
    let keys = s.keys.value.items in
    let i = length s.criteria.items in
    let done = map criterion_of s.criteria.items in
    ap (λ l. criteria_asked l (here_of s.here) done (after_criteria s after)) (drop-map sort_key_of i keys)
    ∙ at_drop_all (λ rest. criteria_asked (map sort_key_of rest) (here_of s.here) done (after_criteria s after)) keys i le

-- ---- The keys of the next node

-- where it stands
abbrev pub next_at : Sorting → NodeRef → Here NodeRef
next_at s n = at n (suc (length s.rows.items)) (length s.nodes.items) (here_of s.here)

-- what comes once it has all its keys
abbrev pub after_keys : Sorting → NodeRef → Plan NodeRef → List sorts.KeyValue → Plan NodeRef
after_keys s n after values =
    let criteria = map criterion_of s.criteria.items in
    rows_asked (keys_in s) criteria (length s.nodes.items) (here_of s.here) (suc (suc (length s.rows.items))) (drop (length s.rows.items + 1) s.nodes.items)
    (map row_of s.rows.items ++ sorts.row n values ∷ []) (after_rows s criteria after)

-- the node of the next row, where it was asked how all keys compare
pub record IsNext (s : Sorting) (n : NodeRef) : Type 0 where
  pub criteria : length s.keys.value.items ≤ length s.criteria.items
  pub row : length s.rows.items < length s.nodes.items
  pub is : n ≡ get_or s.nodes.items (length s.rows.items) n

row_next : (s : Sorting) (n : NodeRef) (after : Plan NodeRef) → IsNext s n
    → left_frame (frames.Sorting s) after ≡ keys_asked (drop (length s.values.items) (keys_in s)) (drop (length s.values.items) (map criterion_of s.criteria.items)) (next_at s n) (map key_of s.values.items) (after_keys s n after)
row_next s n after e =
    let criteria = map criterion_of s.criteria.items in
    let k = after_rows s criteria after in
    criteria_none s after e.criteria
    ∙ at_drop_more (λ rest. rows_left s criteria rest k) s.nodes.items (length s.rows.items) n e.row
    ∙ ap (λ m. rows_left s criteria (m ∷ drop (length s.rows.items + 1) s.nodes.items) k) (sym e.is)

pub key_next : (s : Sorting) (n : NodeRef) (x : SortKey) (c : Criterion) (after : Plan NodeRef) → IsNext s n
    → length s.values.items < length s.keys.value.items → x ≡ get_or s.keys.value.items (length s.values.items) x → c ≡ get_or s.criteria.items (length s.values.items) c
    → left_frame (frames.Sorting s) after
    ≡ asked (sort_key_of x).site (next_at s n) (key_meant (sort_key_of x) (criterion_of c))
    (λ v. keys_asked (drop (length s.values.items + 1) (keys_in s)) (drop (length s.values.items + 1) (map criterion_of s.criteria.items)) (next_at s n) (map key_of s.values.items ++ v ∷ []) (after_keys s n after))
key_next s n x c after e less is_x is_c =
    let keys = s.keys.value.items in
    let criteria = s.criteria.items in
    let i = length s.values.items in
    let h = next_at s n in
    let done = map key_of s.values.items in
    let k = after_keys s n after in
    let there : i < length criteria = omega (arith, e.criteria, less) in
    row_next s n after e
    ∙ ap (λ l. keys_asked l (drop i (map criterion_of criteria)) h done k) (drop-map sort_key_of i keys)
    ∙ ap (λ l. keys_asked (map sort_key_of (drop i keys)) l h done k) (drop-map criterion_of i criteria)
    ∙ at_drop_more (λ rest. keys_asked (map sort_key_of rest) (map criterion_of (drop i criteria)) h done k) keys i x less
    ∙ ap (λ y. keys_asked (sort_key_of y ∷ map sort_key_of (drop (i + 1) keys)) (map criterion_of (drop i criteria)) h done k) (sym is_x)
    ∙ at_drop_more (λ rest. keys_asked (sort_key_of x ∷ map sort_key_of (drop (i + 1) keys)) (map criterion_of rest) h done k) criteria i c there
    ∙ ap (λ d. keys_asked (sort_key_of x ∷ map sort_key_of (drop (i + 1) keys)) (criterion_of d ∷ map criterion_of (drop (i + 1) criteria)) h done k) (sym is_c)
    ∙ ap (λ l. asked (sort_key_of x).site h (key_meant (sort_key_of x) (criterion_of c)) (λ v. keys_asked l (map criterion_of (drop (i + 1) criteria)) h (done ++ v ∷ []) k)) (sym (drop-map sort_key_of (i + 1) keys))
    ∙ ap (λ l. asked (sort_key_of x).site h (key_meant (sort_key_of x) (criterion_of c)) (λ v. keys_asked (drop (i + 1) (keys_in s)) l h (done ++ v ∷ []) k)) (sym (drop-map criterion_of (i + 1) criteria))

pub key_more : (s : Sorting) (n : NodeRef) (values : Vec KeyValue Global) (v : KeyValue) (after : Plan NodeRef) → IsNext s n → values.items ≡ s.values.items ++ v ∷ []
    → keys_asked (drop (length s.values.items + 1) (keys_in s)) (drop (length s.values.items + 1) (map criterion_of s.criteria.items)) (next_at s n) (map key_of s.values.items ++ key_of v ∷ []) (after_keys s n after)
    ≡ left_frame (frames.Sorting (with_rows s s.rows values)) after
key_more s n values v after e h =
    let m = sym (longer s.values.items values.items v h) in
    let vs = sym (ap (map key_of) h ∙ map-append key_of s.values.items (v ∷ [])) in
    (λ i. keys_asked (drop (m i) (keys_in s)) (drop (m i) (map criterion_of s.criteria.items)) (next_at s n) (vs i) (after_keys s n after))
    ∙ sym (row_next (with_rows s s.rows values) n after (record { criteria = e.criteria; row = e.row; is = e.is }))

-- ---- Rows

-- of nodes none of whose keys are there
fresh : (s : Sorting) (criteria : List sorts.Criterion) (ns : List NodeRef) (k : List (sorts.Row NodeRef) → Plan NodeRef) → s.values.items ≡ []
    → rows_left s criteria ns k ≡ rows_asked (keys_in s) criteria (length s.nodes.items) (here_of s.here) (suc (length s.rows.items)) ns (map row_of s.rows.items) k
fresh s criteria [] k e = refl
fresh s criteria (n ∷ ns) k e =
    λ i. keys_asked (drop (length (e i)) (keys_in s)) (drop (length (e i)) criteria) (at n (suc (length s.rows.items)) (length s.nodes.items) (here_of s.here)) (map key_of (e i))
    (λ vs. rows_asked (keys_in s) criteria (length s.nodes.items) (here_of s.here) (suc (suc (length s.rows.items))) ns (map row_of s.rows.items ++ sorts.row n vs ∷ []) k)

-- the next node has all its keys
row_full : (s : Sorting) (n : NodeRef) (after : Plan NodeRef) → IsNext s n → length s.keys.value.items ≤ length s.values.items → left_frame (frames.Sorting s) after ≡ after_keys s n after (map key_of s.values.items)
row_full s n after e full =
    let keys = s.keys.value.items in
    let i = length s.values.items in
    let criteria = drop i (map criterion_of s.criteria.items) in
    let done = map key_of s.values.items in
    row_next s n after e
    ∙ ap (λ l. keys_asked l criteria (next_at s n) done (after_keys s n after)) (drop-map sort_key_of i keys)
    ∙ at_drop_all (λ rest. keys_asked (map sort_key_of rest) criteria (next_at s n) done (after_keys s n after)) keys i full

-- they are its row, and the next one has none
pub row_more : (s : Sorting) (n : NodeRef) (rows : Vec Row Global) (none values : Vec KeyValue Global) (after : Plan NodeRef) → IsNext s n → length s.keys.value.items ≤ length s.values.items
    → none.items ≡ [] → values.items ≡ s.values.items → rows.items ≡ s.rows.items ++ record { node = n; keys = values } ∷ []
    → left_frame (frames.Sorting (with_rows s rows none)) after ≡ left_frame (frames.Sorting s) after
row_more s n rows none values after e full is_none is_values h =
    let t = with_rows s rows none in
    let criteria = map criterion_of s.criteria.items in
    let m = longer s.rows.items rows.items _ h in
    let position : length rows.items ≡ suc (length s.rows.items) = omega (arith, m) in
    let all : map row_of rows.items ≡ map row_of s.rows.items ++ sorts.row n (map key_of s.values.items) ∷ [] =
    ap (map row_of) h ∙ map-append row_of s.rows.items (record { node = n; keys = values } ∷ []) ∙ ap (λ l. map row_of s.rows.items ++ sorts.row n (map key_of l) ∷ []) is_values in
    criteria_none t after e.criteria
    ∙ fresh t criteria (drop (length rows.items) s.nodes.items) (after_rows s criteria after) is_none
    ∙ (λ i. rows_asked (keys_in s) criteria (length s.nodes.items) (here_of s.here) (suc (position i)) (drop (m i) s.nodes.items) (all i) (after_rows s criteria after))
    ∙ sym (row_full s n after e full)

pub rows_none : (s : Sorting) (after : Plan NodeRef) → length s.keys.value.items ≤ length s.criteria.items → length s.nodes.items ≤ length s.rows.items
    → left_frame (frames.Sorting s) after ≡ Put Ended (ordered_left s.to (nodes_in_order (map criterion_of s.criteria.items) (map row_of s.rows.items)) after)
rows_none s after le none =
    let criteria = map criterion_of s.criteria.items in
    criteria_none s after le ∙ at_drop_all (λ rest. rows_left s criteria rest (after_rows s criteria after)) s.nodes.items (length s.rows.items) none

-- nothing is asked yet
pub none_asked : (s : Sorting) (after : Plan NodeRef) → s.criteria.items ≡ [] → s.rows.items ≡ [] → s.values.items ≡ []
    → left_frame (frames.Sorting s) after ≡ criteria_asked (keys_in s) (here_of s.here) [] (λ cs. rows_asked (keys_in s) cs (length s.nodes.items) (here_of s.here) 1 s.nodes.items [] (after_rows s cs after))
none_asked s after c r v =
    (λ i. criteria_asked (drop (length s.criteria.items) (keys_in s)) (here_of s.here) (map criterion_of s.criteria.items) (λ cs. fresh s cs (drop (length s.rows.items) s.nodes.items) (after_rows s cs after) v i))
    ∙ (λ i. criteria_asked (drop (length (c i)) (keys_in s)) (here_of s.here) (map criterion_of (c i)) (λ cs. rows_asked (keys_in s) cs (length s.nodes.items) (here_of s.here) (suc (length (r i))) (drop (length (r i)) s.nodes.items) (map row_of (r i)) (after_rows s cs after)))

-- ---- What is sorted

pub not_sorted : (keys : List SortKey) (h : Here NodeRef) (ns : List NodeRef) (k : List NodeRef → Plan NodeRef) → length keys ≡ 0 → k ns ≡ sorted (map sort_key_of keys) h ns k
not_sorted [] h ns k e = refl
not_sorted (x ∷ xs) h ns k e = absurd (omega (arith, e))

pub is_sorted : (keys : List SortKey) (h : Here NodeRef) (ns : List NodeRef) (k : List NodeRef → Plan NodeRef) → 0 < length keys
    → criteria_asked (map sort_key_of keys) h [] (λ cs. rows_asked (map sort_key_of keys) cs (length ns) h 1 ns [] (λ rows. Put Ended (k (nodes_in_order cs rows)))) ≡ sorted (map sort_key_of keys) h ns k
is_sorted [] h ns k lt = absurd (omega (arith, lt))
is_sorted (x ∷ xs) h ns k lt = refl

-- where a key stands
pub key_place : (s : Sorting) (n : ℕ) (x : SortKey) → n < length s.keys.value.items → x ≡ get_or s.keys.value.items n x → place_of x.site.place ≡ place_at s n
key_place s n x lt is_x =
    let keys = s.keys.value.items in
    ap place_if (sym (slice_get-map sort_key_of keys n ∙ ap (λ o. option_map sort_key_of o) (slice_get_read keys (length keys) n x refl lt is_x)))
