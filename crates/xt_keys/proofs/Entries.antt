-- What nodes have among entries: as before, but for the node of those that were added.
use Rattle.std.proofs.Common.{◌≡◌, ℕ, ◌+◌, ◌<◌, Bool, true, false, cond, List, [], ◌∷◌, ◌++◌, map, length, take, drop, get_or, set, suc, refl, sym, ap, subst, ◌∙◌, arith}
use Rattle.std.specs.Prelude.{Vec}
use Rattle.std.specs.List.{filter}
use Rattle.std.specs.declared.alloc.Global.{Global}
use Rattle.std.proofs.lemmas.List.{append-nil, take-append-drop, drop_more, set_split, take-map, drop-map, get_or-map, length-map, map-set}
use Rattle.spec_meaning.specs.Naming.{AllDiffer}
use Rattle.spec_transform.specs.Key.{Entry, entry}
use Rattle.spec_node.specs.declared.node_ref.NodeRef.{NodeRef}
use Rattle.spec_node.specs.Naming.{same_ref}
use Rattle.xt_questions.specs.Runs.{itself, items}
use Rattle.xt_keys.specs.View.{AreNodesApart, texts_at, all_texts}

-- ---- The entries of one node

texts_append : (n : NodeRef) (es fs : List (Entry NodeRef)) → texts_at (es ++ fs) n ≡ texts_at es n ++ texts_at fs n
texts_append n [] fs = refl
texts_append n (e ∷ es) fs = by (same_ref n e.node) (texts_append n es fs)
  where
    by : (b : Bool) → texts_at (es ++ fs) n ≡ texts_at es n ++ texts_at fs n
        → map (λ (d : Entry NodeRef). d.text) (cond b (e ∷ filter (λ d. same_ref n d.node) (es ++ fs)) (filter (λ d. same_ref n d.node) (es ++ fs)))
        ≡ map (λ (d : Entry NodeRef). d.text) (cond b (e ∷ filter (λ d. same_ref n d.node) es) (filter (λ d. same_ref n d.node) es)) ++ texts_at fs n
    by true later = ap (λ l. e.text ∷ l) later
    by false later = later

added_at : (b : Bool) (n m : NodeRef) (ts : List (List ℕ)) → same_ref n m ≡ b → texts_at (map (entry m) ts) n ≡ cond b ts []
added_at true n m [] e = refl
added_at false n m [] e = refl
added_at true n m (t ∷ ts) e =
    ap (λ b. map (λ (d : Entry NodeRef). d.text) (cond b (entry m t ∷ filter (λ d. same_ref n d.node) (map (entry m) ts)) (filter (λ d. same_ref n d.node) (map (entry m) ts)))) e
    ∙ ap (λ l. t ∷ l) (added_at true n m ts e)
added_at false n m (t ∷ ts) e =
    ap (λ b. map (λ (d : Entry NodeRef). d.text) (cond b (entry m t ∷ filter (λ d. same_ref n d.node) (map (entry m) ts)) (filter (λ d. same_ref n d.node) (map (entry m) ts)))) e
    ∙ added_at false n m ts e

pub its_own : (m : NodeRef) (es : List (Entry NodeRef)) (ts : List (List ℕ)) → same_ref m m ≡ true → texts_at (es ++ map (entry m) ts) m ≡ texts_at es m ++ ts
its_own m es ts e = texts_append m es (map (entry m) ts) ∙ ap (λ l. texts_at es m ++ l) (added_at true m m ts e)

pub another : (n m : NodeRef) (es : List (Entry NodeRef)) (ts : List (List ℕ)) → same_ref n m ≡ false → texts_at (es ++ map (entry m) ts) n ≡ texts_at es n
another n m es ts e = texts_append n es (map (entry m) ts) ∙ ap (λ l. texts_at es n ++ l) (added_at false n m ts e) ∙ append-nil (texts_at es n)

-- ---- All nodes

behind : (m : NodeRef) (ns : List NodeRef) (es : List (Entry NodeRef)) (ts : List (List ℕ)) → AllDiffer itself same_ref m ns
    → all_texts ns (es ++ map (entry m) ts) ≡ all_texts ns es
behind m [] es ts h = refl
behind m (n ∷ ns) es ts h = λ i. another n m es ts h.1 i ∷ behind m ns es ts h.2 i

pub differs_from : (x m : NodeRef) (xs ys : List NodeRef) → AllDiffer itself same_ref x (xs ++ m ∷ ys) → same_ref x m ≡ false
differs_from x m [] ys h = h.0
differs_from x m (z ∷ xs) ys h = differs_from x m xs ys h.2

one_filled : (xs ys : List NodeRef) (m : NodeRef) (es : List (Entry NodeRef)) (ts : List (List ℕ)) → AreNodesApart (xs ++ m ∷ ys)
    → all_texts (xs ++ m ∷ ys) (es ++ map (entry m) ts) ≡ all_texts xs es ++ (texts_at es m ++ ts) ∷ all_texts ys es
one_filled [] ys m es ts h = λ i. its_own m es ts h.0 i ∷ behind m ys es ts h.1 i
one_filled (x ∷ xs) ys m es ts h = λ i. another x m es ts (differs_from x m xs ys h.1) i ∷ one_filled xs ys m es ts h.2 i

pub filled_at : (nodes : List NodeRef) (i : ℕ) (d : NodeRef) (es : List (Entry NodeRef)) (ts : List (List ℕ)) (lists after : List (List (List ℕ)))
    → AreNodesApart nodes → i < length nodes → lists ≡ all_texts nodes es → after ≡ set lists i (get_or lists i [] ++ ts)
    → after ≡ all_texts nodes (es ++ map (entry (get_or nodes i d)) ts)
filled_at nodes i d es ts lists after apart within is after_is =
    let node = get_or nodes i d in
    let xs = take i nodes in
    let ys = drop (i + 1) nodes in
    let whole : nodes ≡ xs ++ node ∷ ys = sym (take-append-drop i nodes) ∙ ap (λ l. xs ++ l) (drop_more nodes i d within) in
    let all = all_texts nodes es in
    let among : i < length all = let same = length-map nodes (texts_at es) in omega (arith, within, same) in
    let next : suc i ≡ i + 1 = omega arith in
    after_is ∙ ap (λ (l : List (List (List ℕ))). set l i (get_or l i [] ++ ts)) is
    ∙ set_split all i (get_or all i [] ++ ts) among
    ∙ (λ k. take-map (texts_at es) i nodes k ++ (get_or-map (texts_at es) nodes i d [] within k ++ ts) ∷ (ap (λ n. drop n all) next ∙ drop-map (texts_at es) (i + 1) nodes) k)
    ∙ sym (one_filled xs ys node es ts (subst AreNodesApart whole apart))
    ∙ ap (λ (l : List NodeRef). all_texts l (es ++ map (entry node) ts)) (sym whole)

-- one of some vectors is longer
pub list_filled : (lists : List (Vec (List ℕ) Global)) (i : ℕ) (old new : Vec (List ℕ) Global) (ts : List (List ℕ)) → i < length lists → old ≡ get_or lists i old
    → new.items ≡ old.items ++ ts → map items (set lists i new) ≡ set (map items lists) i (get_or (map items lists) i [] ++ ts)
list_filled lists i old new ts within is added =
    map-set items lists i new
    ∙ ap (set (map items lists) i) (added ∙ ap (λ l. l ++ ts) (ap items is ∙ sym (get_or-map items lists i old [] within)))
