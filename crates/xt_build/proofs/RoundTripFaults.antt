-- Whether a forest has faults: that is a matter of its plain form, and not of the lines where its nodes stand.
use Rattle.std.proofs.Common.{◌≡◌, ℕ, ◌+◌, ◌-◌, ◌==◌, Bool, true, false, not, List, [], ◌∷◌, ◌++◌, map, drop, length, refl}
use Rattle.std.proofs.Common.{sym, ap, ◌∙◌, subst, arith}
use Rattle.std.specs.List.{list_any}
use Rattle.std.specs.Prelude.{nat_lt, slice_index}
use Rattle.std.proofs.lemmas.List.{length-drop}
use Rattle.spec_document.specs.Scope.{Scope}
use Rattle.spec_document.specs.Declaration.{use_of, within}
use Rattle.spec_document.specs.Forest.{Written, Content, Element, Text, Comment, Instruction, Forest, Empty, Node, Plain, plain}
use Rattle.spec_document.specs.Fault.{fault_if}
use Rattle.spec_document.specs.Balance.{LineNumbers}
use Rattle.spec_document.specs.Top.{elements_at_top, element_faults, text_faults, without_texts}
use Rattle.spec_document.specs.NodeFaults.{is_wrong_use, is_wrong_element, is_wrong_target, is_same_attribute, attribute_faults, greatest_depth}
use Rattle.spec_document.specs.NodeFaults.{content_faults, node_faults}
use Rattle.spec_document.specs.Numbering.{number_limit, number_faults}

-- ---- Lists of faults that are empty

pub both_empty : {A : Type 0} (xs ys : List A) → xs ++ ys ≡ [] → (xs ≡ []) × (ys ≡ [])
both_empty [] ys e = (refl, e)
both_empty (x ∷ xs) ys e = absurd (cc)

pub empty_both : {A : Type 0} (xs ys : List A) → xs ≡ [] → ys ≡ [] → xs ++ ys ≡ []
empty_both [] ys e f = f
empty_both (x ∷ xs) ys e f = absurd (cc)

-- where a fault does not stand it does not stand at another line
moved : (stands : Bool) (number line other : ℕ) → fault_if stands number line ≡ [] → fault_if stands number other ≡ []
moved true number line other e = absurd (cc)
moved false number line other e = refl

-- ---- Nodes

attributes_moved : (scope : Scope) (before : List Written) (ls ms : List ℕ) (attributes : List Written)
    → attribute_faults scope before ls attributes ≡ [] → attribute_faults scope before ms attributes ≡ []
attributes_moved scope before ls ms [] e = refl
attributes_moved scope before ls ms (a ∷ attributes) e =
    let wrong = is_wrong_use scope (use_of a.name) a.value in
    let same = list_any (λ b. is_same_attribute scope b a) before in
    let own = fault_if wrong 10 (slice_index ls 0) in
    let twice = fault_if same 14 (slice_index ls 0) in
    let rest = attribute_faults scope (before ++ a ∷ []) (drop 1 ls) attributes in
    let parts = both_empty (own ++ twice) rest e in
    let front = both_empty own twice parts.0 in
    empty_both (fault_if wrong 10 (slice_index ms 0) ++ fault_if same 14 (slice_index ms 0))
    (attribute_faults scope (before ++ a ∷ []) (drop 1 ms) attributes)
    (empty_both (fault_if wrong 10 (slice_index ms 0)) (fault_if same 14 (slice_index ms 0)) (moved wrong 10 (slice_index ls 0) (slice_index ms 0) front.0)
    (moved same 14 (slice_index ls 0) (slice_index ms 0) front.1))
    (attributes_moved scope (before ++ a ∷ []) (drop 1 ls) (drop 1 ms) attributes parts.1)

content_moved : (scope : Scope) (depth : ℕ) (l m : LineNumbers) (c : Content) → content_faults scope depth l c ≡ []
    → content_faults scope depth m c ≡ []
content_moved scope depth l m (Element name attributes) e =
    let wrong = is_wrong_element scope name in
    let deep = nat_lt greatest_depth depth in
    let parts = both_empty (fault_if wrong 10 l.first ++ fault_if deep 11 l.first) (attribute_faults scope [] l.attributes attributes) e in
    let front = both_empty (fault_if wrong 10 l.first) (fault_if deep 11 l.first) parts.0 in
    empty_both (fault_if wrong 10 m.first ++ fault_if deep 11 m.first) (attribute_faults scope [] m.attributes attributes)
    (empty_both (fault_if wrong 10 m.first) (fault_if deep 11 m.first) (moved wrong 10 l.first m.first front.0) (moved deep 11 l.first m.first front.1))
    (attributes_moved scope [] l.attributes m.attributes attributes parts.1)
content_moved scope depth l m (Text text) e = refl
content_moved scope depth l m (Comment text) e = refl
content_moved scope depth l m (Instruction target text) e = moved (is_wrong_target target) 10 l.first m.first e

-- the parts of a first node
abbrev content_in : Content → Plain → Content
content_in other Empty = other
content_in other (Node l c children siblings) = c

abbrev children_in : Plain → Plain
children_in Empty = Empty
children_in (Node l c children siblings) = children

abbrev siblings_in : Plain → Plain
siblings_in Empty = Empty
siblings_in (Node l c children siblings) = siblings

abbrev is_node : Plain → Bool
is_node Empty = false
is_node (Node l c children siblings) = true

node_parts : (scope : Scope) (depth : ℕ) (l : LineNumbers) (c : Content) (children siblings : Forest LineNumbers)
    → node_faults scope depth (Node l c children siblings) ≡ []
    → (content_faults (within c scope) depth l c ≡ []) × (node_faults (within c scope) (depth + 1) children ≡ [])
    × (node_faults scope depth siblings ≡ [])
node_parts scope depth l c children siblings e =
    let parts = both_empty (content_faults (within c scope) depth l c ++ node_faults (within c scope) (depth + 1) children)
    (node_faults scope depth siblings) e in
    let front = both_empty (content_faults (within c scope) depth l c) (node_faults (within c scope) (depth + 1) children) parts.0 in
    (front.0, front.1, parts.1)

node_from : (scope : Scope) (depth : ℕ) (l : LineNumbers) (c : Content) (children siblings : Forest LineNumbers)
    → content_faults (within c scope) depth l c ≡ [] → node_faults (within c scope) (depth + 1) children ≡ []
    → node_faults scope depth siblings ≡ []
    → node_faults scope depth (Node l c children siblings) ≡ []
node_from scope depth l c children siblings own below behind =
    empty_both (content_faults (within c scope) depth l c ++ node_faults (within c scope) (depth + 1) children) (node_faults scope depth siblings)
    (empty_both (content_faults (within c scope) depth l c) (node_faults (within c scope) (depth + 1) children) own below) behind

pub nodes_moved : (f g : Forest LineNumbers) → plain f ≡ plain g → (scope : Scope) (depth : ℕ) → node_faults scope depth f ≡ []
    → node_faults scope depth g ≡ []
nodes_moved f Empty e scope depth n = refl
nodes_moved Empty (Node m d x y) e scope depth n = absurd (let no : false ≡ true = ap is_node e in cc)
nodes_moved (Node l c children siblings) (Node m d x y) e scope depth n =
    let parts = node_parts scope depth l c children siblings n in
    let same : c ≡ d = ap (content_in c) e in
    node_from scope depth m d x y
    (content_moved (within d scope) depth l m d (subst (λ z. content_faults (within z scope) depth l z ≡ []) same parts.0))
    (subst (λ z. node_faults (within z scope) (depth + 1) x ≡ []) same (nodes_moved children x (ap children_in e) (within c scope) (depth + 1) parts.1))
    (nodes_moved siblings y (ap siblings_in e) scope depth parts.2)

pub kept_nodes : (f : Forest LineNumbers) (scope : Scope) (depth : ℕ) → node_faults scope depth f ≡ []
    → node_faults scope depth (without_texts f) ≡ []
kept_nodes Empty scope depth n = refl
kept_nodes (Node l (Text t) children siblings) scope depth n = kept_nodes siblings scope depth (node_parts scope depth l (Text t) children siblings n).2
kept_nodes (Node l (Element name a) children siblings) scope depth n =
    let parts = node_parts scope depth l (Element name a) children siblings n in
    node_from scope depth l (Element name a) children (without_texts siblings) parts.0 parts.1 (kept_nodes siblings scope depth parts.2)
kept_nodes (Node l (Comment t) children siblings) scope depth n =
    let parts = node_parts scope depth l (Comment t) children siblings n in
    node_from scope depth l (Comment t) children (without_texts siblings) parts.0 parts.1 (kept_nodes siblings scope depth parts.2)
kept_nodes (Node l (Instruction target t) children siblings) scope depth n =
    let parts = node_parts scope depth l (Instruction target t) children siblings n in
    node_from scope depth l (Instruction target t) children (without_texts siblings) parts.0 parts.1 (kept_nodes siblings scope depth parts.2)

-- ---- The top

-- how many elements stand at the top
abbrev pub top_elements : Plain → ℕ
top_elements Empty = 0
top_elements (Node l (Element name a) children siblings) = 1 + top_elements siblings
top_elements (Node l (Text t) children siblings) = top_elements siblings
top_elements (Node l (Comment t) children siblings) = top_elements siblings
top_elements (Node l (Instruction target t) children siblings) = top_elements siblings

pub elements_counted : (f : Forest LineNumbers) → length (elements_at_top f) ≡ top_elements (plain f)
elements_counted Empty = refl
elements_counted (Node l (Element name a) children siblings) = omega (arith, elements_counted siblings)
elements_counted (Node l (Text t) children siblings) = elements_counted siblings
elements_counted (Node l (Comment t) children siblings) = elements_counted siblings
elements_counted (Node l (Instruction target t) children siblings) = elements_counted siblings

pub kept_elements : (f : Plain) → top_elements (without_texts f) ≡ top_elements f
kept_elements Empty = refl
kept_elements (Node l (Element name a) children siblings) = ap (λ n. 1 + n) (kept_elements siblings)
kept_elements (Node l (Text t) children siblings) = kept_elements siblings
kept_elements (Node l (Comment t) children siblings) = kept_elements siblings
kept_elements (Node l (Instruction target t) children siblings) = kept_elements siblings

pub elements_moved : (xs ys : List ℕ) → length xs ≡ length ys → element_faults 0 xs ≡ [] → element_faults 0 ys ≡ []
elements_moved xs ys same e =
    moved (not (0 + length ys == 1)) 9 (slice_index (drop 1 xs) 0) (slice_index (drop 1 ys) 0)
    (subst (λ n. fault_if (not (0 + n == 1)) 9 (slice_index (drop 1 xs) 0) ≡ []) same e)

-- no text stands at the top
abbrev pub HasNoText : Plain → Type 0
HasNoText Empty = Unit {0}
HasNoText (Node l (Element name a) children siblings) = HasNoText siblings
HasNoText (Node l (Text t) children siblings) = ⊥
HasNoText (Node l (Comment t) children siblings) = HasNoText siblings
HasNoText (Node l (Instruction target t) children siblings) = HasNoText siblings

pub kept_no_text : (f : Plain) → HasNoText (without_texts f)
kept_no_text Empty = tt
kept_no_text (Node l (Element name a) children siblings) = kept_no_text siblings
kept_no_text (Node l (Text t) children siblings) = kept_no_text siblings
kept_no_text (Node l (Comment t) children siblings) = kept_no_text siblings
kept_no_text (Node l (Instruction target t) children siblings) = kept_no_text siblings

pub no_text_faults : (f : Forest LineNumbers) → HasNoText (plain f) → text_faults f ≡ []
no_text_faults Empty h = refl
no_text_faults (Node l (Element name a) children siblings) h = no_text_faults siblings h
no_text_faults (Node l (Text t) children siblings) h = absurd h
no_text_faults (Node l (Comment t) children siblings) h = no_text_faults siblings h
no_text_faults (Node l (Instruction target t) children siblings) h = no_text_faults siblings h

-- ---- Numbers

mapped_empty : {A B : Type 0} (f : A → B) (xs : List A) → map f xs ≡ [] → xs ≡ []
mapped_empty f [] e = refl
mapped_empty f (x ∷ xs) e = absurd (cc)

empty_length : {A : Type 0} (xs : List A) → length xs ≡ 0 → xs ≡ []
empty_length [] e = refl
empty_length (x ∷ xs) e = absurd (omega arith)

dropped_empty : (limit : ℕ) (xs ys : List ℕ) → length xs ≡ length ys → drop limit xs ≡ [] → drop limit ys ≡ []
dropped_empty limit xs ys same e =
    let none : length (drop limit xs) ≡ 0 = ap length e in
    empty_length (drop limit ys) (length-drop limit ys ∙ ap (λ n. n - limit) (sym same) ∙ sym (length-drop limit xs) ∙ none)

pub numbers_moved : (first : ℕ) (xs ys : List ℕ) → length xs ≡ length ys → number_faults first xs ≡ [] → number_faults first ys ≡ []
numbers_moved first xs ys same e =
    ap (map (λ line. record { number = 12; line = line }))
    (dropped_empty (number_limit - first) xs ys same (mapped_empty (λ line. record { number = 12; line = line }) (drop (number_limit - first) xs) e))
