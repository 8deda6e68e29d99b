-- Nodes are grouped by their texts.
use Rattle.std.proofs.Common.{◌≡◌, ℕ, ◌+◌, ◌<◌, Bool, true, false, cond, List, [], ◌∷◌, ◌++◌, map, length, take, drop, get_or, refl, sym, ap, subst, ◌∙◌, arith}
use Rattle.std.specs.Prelude.{◌&&◌, ◌||◌, bytes_eq}
use Rattle.std.specs.List.{filter, list_any}
use Rattle.std.proofs.lemmas.List.{take-append-drop, drop_more, take_more, length-take-le}
use Rattle.spec_transform.specs.Key.{Entry, has}
use Rattle.spec_node.specs.declared.node_ref.NodeRef.{NodeRef}
use Rattle.spec_node.specs.Naming.{same_ref}
use Rattle.xt_keys.specs.View.{AreNodesApart, texts_at, all_texts, having, is_last, with_node, with_each}
use Rattle.xt_keys.proofs.Entries.{differs_from}

-- all of these are other nodes
abbrev pub AreOthers : NodeRef → List NodeRef → Type 0
AreOthers node [] = Unit {0}
AreOthers node (n ∷ ns) = (same_ref n node ≡ false) × AreOthers node ns

-- ---- One node

pub at_end : (node n : NodeRef) (ns : List NodeRef) → is_last node (ns ++ n ∷ []) ≡ same_ref n node
at_end node n [] = refl
at_end node n (m ∷ []) = refl
at_end node n (m ∷ k ∷ more) = at_end node n (k ∷ more)

none_last : (node : NodeRef) (ns : List NodeRef) → AreOthers node ns → is_last node ns ≡ false
none_last node [] h = refl
none_last node (n ∷ []) h = h.0
none_last node (n ∷ m ∷ more) h = none_last node (m ∷ more) h.1

new_last : (node : NodeRef) (ns : List NodeRef) → AreOthers node ns → with_node node ns ≡ ns ++ node ∷ []
new_last node ns h = ap (λ b. cond b ns (ns ++ node ∷ [])) (none_last node ns h)

again_last : (node : NodeRef) (ns : List NodeRef) → same_ref node node ≡ true → with_node node (ns ++ node ∷ []) ≡ ns ++ node ∷ []
again_last node ns h = ap (λ b. cond b (ns ++ node ∷ []) (ns ++ node ∷ [] ++ node ∷ [])) (at_end node node ns ∙ h)

each_again : (text : List ℕ) (node : NodeRef) (ts : List (List ℕ)) (ns : List NodeRef) → same_ref node node ≡ true
    → with_each text node ts (ns ++ node ∷ []) ≡ ns ++ node ∷ []
each_again text node [] ns h = refl
each_again text node (t ∷ ts) ns h = by (bytes_eq t text) (each_again text node ts ns h)
  where
    by : (b : Bool) → with_each text node ts (ns ++ node ∷ []) ≡ ns ++ node ∷ []
        → with_each text node ts (cond b (with_node node (ns ++ node ∷ [])) (ns ++ node ∷ [])) ≡ ns ++ node ∷ []
    by true later = ap (with_each text node ts) (again_last node ns h) ∙ later
    by false later = later

each_is : (text : List ℕ) (node : NodeRef) (ts : List (List ℕ)) (ns : List NodeRef) → same_ref node node ≡ true → AreOthers node ns
    → with_each text node ts ns ≡ cond (list_any (λ t. bytes_eq t text) ts) (ns ++ node ∷ []) ns
each_is text node [] ns h others = refl
each_is text node (t ∷ ts) ns h others = by (bytes_eq t text) (each_is text node ts ns h others)
  where
    by : (b : Bool) → with_each text node ts ns ≡ cond (list_any (λ t. bytes_eq t text) ts) (ns ++ node ∷ []) ns
        → with_each text node ts (cond b (with_node node ns) ns) ≡ cond (b || list_any (λ t. bytes_eq t text) ts) (ns ++ node ∷ []) ns
    by true later = ap (with_each text node ts) (new_last node ns others) ∙ each_again text node ts ns h
    by false later = later

-- ---- All nodes

others_had : (text : List ℕ) (node : NodeRef) (xs : List NodeRef) (lists : List (List (List ℕ))) → AreOthers node xs → AreOthers node (having text xs lists)
others_had text node [] lists h = tt
others_had text node (x ∷ xs) [] h = tt
others_had text node (x ∷ xs) (ts ∷ lists) h = by (list_any (λ t. bytes_eq t text) ts) (others_had text node xs lists h.1)
  where
    by : (b : Bool) → AreOthers node (having text xs lists) → AreOthers node (cond b (x ∷ having text xs lists) (having text xs lists))
    by true later = (h.0, later)
    by false later = later

having_more : (text : List ℕ) (xs : List NodeRef) (lists : List (List (List ℕ))) (node : NodeRef) (ts : List (List ℕ)) → length xs ≡ length lists
    → having text (xs ++ node ∷ []) (lists ++ ts ∷ []) ≡ cond (list_any (λ t. bytes_eq t text) ts) (having text xs lists ++ node ∷ []) (having text xs lists)
having_more text [] [] node ts h = refl
having_more text [] (l ∷ lists) node ts h = absurd (cc)
having_more text (x ∷ xs) [] node ts h = absurd (cc)
having_more text (x ∷ xs) (l ∷ lists) node ts h =
    by (list_any (λ t. bytes_eq t text) l) (list_any (λ t. bytes_eq t text) ts) (having_more text xs lists node ts (omega (arith, h)))
  where
    by : (b c : Bool) → having text (xs ++ node ∷ []) (lists ++ ts ∷ []) ≡ cond c (having text xs lists ++ node ∷ []) (having text xs lists)
        → cond b (x ∷ having text (xs ++ node ∷ []) (lists ++ ts ∷ [])) (having text (xs ++ node ∷ []) (lists ++ ts ∷ []))
        ≡ cond c (cond b (x ∷ having text xs lists) (having text xs lists) ++ node ∷ []) (cond b (x ∷ having text xs lists) (having text xs lists))
    by true true later = ap (λ l. x ∷ l) later
    by true false later = ap (λ l. x ∷ l) later
    by false true later = later
    by false false later = later

others_before : (xs ys : List NodeRef) (node : NodeRef) → AreNodesApart (xs ++ node ∷ ys) → AreOthers node xs
others_before [] ys node h = tt
others_before (x ∷ xs) ys node h = (differs_from x node xs ys h.1, others_before xs ys node h.2)

same_itself : (xs ys : List NodeRef) (node : NodeRef) → AreNodesApart (xs ++ node ∷ ys) → same_ref node node ≡ true
same_itself [] ys node h = h.0
same_itself (x ∷ xs) ys node h = same_itself xs ys node h.2

-- ---- A value that a node has among entries

has_is : (es : List (Entry NodeRef)) (text : List ℕ) (n : NodeRef) → list_any (λ t. bytes_eq t text) (texts_at es n) ≡ has same_ref es text n
has_is [] text n = refl
has_is (e ∷ es) text n = by (same_ref n e.node) (has_is es text n)
  where
    by : (b : Bool) → list_any (λ t. bytes_eq t text) (texts_at es n) ≡ has same_ref es text n
        → list_any (λ t. bytes_eq t text) (map (λ (d : Entry NodeRef). d.text) (cond b (e ∷ filter (λ d. same_ref n d.node) es) (filter (λ d. same_ref n d.node) es)))
        ≡ (b && bytes_eq e.text text || has same_ref es text n)
    by true later = ap (λ b. bytes_eq e.text text || b) later
    by false later = later

pub having_is : (ns : List NodeRef) (es : List (Entry NodeRef)) (text : List ℕ) → having text ns (all_texts ns es) ≡ filter (has same_ref es text) ns
having_is [] es text = refl
having_is (n ∷ ns) es text = λ i. cond (has_is es text n i) (n ∷ having_is ns es text i) (having_is ns es text i)

-- ---- One node more

-- the nodes so far, and the next with its texts
pub next_node : (text : List ℕ) (nodes : List NodeRef) (lists : List (List (List ℕ))) (i : ℕ) (node : NodeRef) (ts : List (List ℕ)) (before after : List NodeRef)
    → AreNodesApart nodes → i < length nodes → length lists ≡ length nodes → get_or nodes i node ≡ node → get_or lists i ts ≡ ts
    → before ≡ having text (take i nodes) (take i lists) → after ≡ with_each text node ts before
    → after ≡ having text (take (i + 1) nodes) (take (i + 1) lists)
next_node text nodes lists i node ts before after apart within each is are before_is after_is =
    let xs = take i nodes in
    let ys = drop (i + 1) nodes in
    let whole : nodes ≡ xs ++ node ∷ ys =
    sym (take-append-drop i nodes) ∙ ap (λ l. xs ++ l) (drop_more nodes i node within ∙ ap (λ (n : NodeRef). n ∷ ys) is) in
    let parted = subst AreNodesApart whole apart in
    let one : take (i + 1) nodes ≡ xs ++ node ∷ [] = take_more nodes i node within ∙ ap (λ (n : NodeRef). xs ++ n ∷ []) is in
    let its : take (i + 1) lists ≡ take i lists ++ ts ∷ [] = take_more lists i ts (omega (arith, within, each)) ∙ ap (λ l. take i lists ++ l ∷ []) are in
    let lengths : length xs ≡ length (take i lists) =
    length-take-le i nodes (omega (arith, within)) ∙ sym (length-take-le i lists (omega (arith, within, each))) in
    after_is ∙ ap (with_each text node ts) before_is
    ∙ each_is text node ts (having text xs (take i lists)) (same_itself xs ys node parted) (others_had text node xs (take i lists) (others_before xs ys node parted))
    ∙ sym (having_more text xs (take i lists) node ts lengths)
    ∙ sym (λ i. having text (one i) (its i))
