-- Faults at no line: those of a node, of nodes that are made anew, and of their numbers.
use Rattle.std.proofs.Common.{◌≡◌, ℕ, zero, suc, ◌+◌, ◌-◌, ◌<◌, ◌≤◌, Bool, true, false, cond, List, [], ◌∷◌, ◌++◌, map, drop, length, Option, Some, None}
use Rattle.std.proofs.Common.{nat_lt, refl, sym, ap, ◌∙◌, subst, arith, ltb-true, ltb-false, lt-ltb}
use Rattle.std.proofs.lemmas.List.{map-append, length-append}
use Rattle.std.proofs.Math.Seq.{drop-nil}
use Rattle.std.specs.List.{list_any}
use Rattle.std.specs.Option.{option_map}
use Rattle.spec_document.specs.Scope.{Scope}
use Rattle.spec_document.specs.Forest.{Written, Content, Element, Text, Comment, Instruction, Forest, Empty, Node, plain, labels, size}
use Rattle.spec_document.specs.Declaration.{use_of, within}
use Rattle.spec_document.specs.Fault.{Fault, comes_first, lesser, least, fault_if}
use Rattle.spec_document.specs.Balance.{LineNumbers, alone}
use Rattle.spec_document.specs.NodeFaults.{greatest_depth, is_wrong_use, is_wrong_element, is_wrong_target, is_same_attribute}
use Rattle.spec_document.specs.NodeFaults.{attribute_faults, content_faults, node_faults}
use Rattle.spec_document.specs.Numbering.{number_limit, number_faults}
use Rattle.spec_edit.specs.Edit.{without_lines}
use Rattle.xt_build.specs.declared.fault.Fault.{Fault as Found}
use Rattle.xt_build.specs.Least.{merged}
use Rattle.xt_build.specs.View.{found_of}
use Rattle.xt_build.proofs.Attributes.{kept_two}
use Rattle.xt_build.proofs.Least.{merged-none, least-append}
use Rattle.xt_build.proofs.OpenFaults.{same_depth}
use Rattle.xt_base.specs.Code.{edit_number}
use Rattle.xt_edit.specs.Finding.{at_no_line}

-- ---- At no line

abbrev pub AreAtNone : List Fault → Type 0
AreAtNone [] = Unit {0}
AreAtNone (f ∷ fs) = (f.line ≡ 0) × AreAtNone fs

abbrev pub IsAtNone : Option Fault → Type 0
IsAtNone None = Unit {0}
IsAtNone (Some f) = f.line ≡ 0

none-append : (xs ys : List Fault) → AreAtNone xs → AreAtNone ys → AreAtNone (xs ++ ys)
none-append [] ys h k = k
none-append (x ∷ xs) ys h k = (h.0, none-append xs ys h.1 k)

none-if : (b : Bool) (n : ℕ) → AreAtNone (fault_if b n 0)
none-if true n = (refl, tt)
none-if false n = tt

none-lesser : (f : Fault) (o : Option Fault) → f.line ≡ 0 → IsAtNone o → (lesser f o).line ≡ 0
none-lesser f None h k = h
none-lesser f (Some g) h k = elim (comes_first g f) as (λ b. (cond b g f).line ≡ 0) [ true ↦ k | false ↦ h ]

none-least : (fs : List Fault) → AreAtNone fs → IsAtNone (least fs)
none-least [] h = tt
none-least (f ∷ fs) h = none-lesser f (least fs) h.0 (none-least fs h.1)

none-both : (a b : Bool) (n m : ℕ) (rest : List Fault) → AreAtNone rest → AreAtNone ((fault_if a n 0 ++ fault_if b m 0) ++ rest)
none-both a b n m rest h =
    none-append (fault_if a n 0 ++ fault_if b m 0) rest (none-append (fault_if a n 0) (fault_if b m 0) (none-if a n) (none-if b m)) h

none-attributes : (scope : Scope) (before attributes : List Written) → AreAtNone (attribute_faults scope before [] attributes)
none-attributes scope before [] = tt
none-attributes scope before (a ∷ attributes) =
    none-both (is_wrong_use scope (use_of a.name) a.value) (list_any (λ b. is_same_attribute scope b a) before) 10 14 _
    (none-attributes scope (before ++ a ∷ []) attributes)

none-content : (scope : Scope) (depth : ℕ) (content : Content) → AreAtNone (content_faults scope depth (alone 0) content)
none-content scope depth (Element name attributes) =
    none-both (is_wrong_element scope name) (nat_lt greatest_depth depth) 10 11 _ (none-attributes scope [] attributes)
none-content scope depth (Text text) = tt
none-content scope depth (Comment text) = tt
none-content scope depth (Instruction target text) = none-if (is_wrong_target target) 10

none-nodes : (scope : Scope) (depth : ℕ) (f : Forest ℕ) → AreAtNone (node_faults scope depth (without_lines f))
none-nodes scope depth Empty = tt
none-nodes scope depth (Node label content children siblings) =
    let inside = within content scope in
    let own = content_faults inside depth (alone 0) content in
    let below = node_faults inside (depth + 1) (without_lines children) in
    none-append (own ++ below) (node_faults scope depth (without_lines siblings))
    (none-append own below (none-content inside depth content) (none-nodes inside (depth + 1) children)) (none-nodes scope depth siblings)

-- the code of what was found says all
told : (found : Option Found) (fault : Option Fault) → found_of found ≡ fault → IsAtNone fault
    → at_no_line (option_map (λ f. f.code) found) ≡ fault
told None fault e h = e
told (Some f) fault e h =
    let line : f.line ≡ 0 = subst IsAtNone (sym e) h in
    ap (λ l. Some (record { number = edit_number f.code; line = l })) (sym line) ∙ e

pub content_told : (scope inside : Scope) (depth : ℕ) (content : Content) (found : Option Found) → inside ≡ within content scope
    → found_of found ≡ least (content_faults inside depth (alone 0) content)
    → at_no_line (option_map (λ f. f.code) found) ≡ least (content_faults (within content scope) depth (alone 0) content)
content_told scope inside depth content found i e =
    told found _ (e ∙ ap (λ s. least (content_faults s depth (alone 0) content)) i)
    (none-least (content_faults (within content scope) depth (alone 0) content) (none-content (within content scope) depth content))

-- ---- Too deep

deep : (scope : Scope) (depth other : ℕ) → 256 < depth → 256 < other → (f : Forest LineNumbers)
    → node_faults scope depth f ≡ node_faults scope other f
deep scope depth other h k Empty = refl
deep scope depth other h k (Node lines content children siblings) =
    let own = same_depth (within content scope) depth other lines content (lt-ltb 256 depth h ∙ sym (lt-ltb 256 other k)) in
    let below = deep (within content scope) (depth + 1) (other + 1) (omega arith) (omega arith) children in
    let rest = deep scope depth other h k siblings in
    λ i. (own i ++ below i) ++ rest i

-- one level deeper, where depths past the greatest need not be told apart
deeper : (scope : Scope) (depth below : ℕ) → (depth ≤ 256 → below ≡ depth + 1) → (256 < depth → 256 < below) → (f : Forest LineNumbers)
    → node_faults scope below f ≡ node_faults scope (depth + 1) f
deeper scope depth below e h f =
    elim (nat_lt 256 depth) as (λ b. nat_lt 256 depth ≡ b → node_faults scope below f ≡ node_faults scope (depth + 1) f) [
      | true ↦ λ is. let far : 256 < depth = ltb-true 256 depth is in deep scope below (depth + 1) (h far) (omega arith) f
      | false ↦ λ is. ap (λ d. node_faults scope d f) (e (ltb-false 256 depth is))
    ] refl

-- ---- Nodes

-- a node, and what is below it
pub visited : (scope inside : Scope) (depth below : ℕ) (content : Content) (children siblings : Forest LineNumbers) (found first now : Option Fault)
    → inside ≡ within content scope → (depth ≤ 256 → below ≡ depth + 1) → (256 < depth → 256 < below)
    → first ≡ merged found (least (content_faults inside depth (alone 0) content)) → now ≡ merged first (least (node_faults inside below children))
    → merged now (least (node_faults scope depth siblings)) ≡ merged found (least (node_faults scope depth (Node (alone 0) content children siblings)))
visited scope inside depth below content children siblings found first now i e h own all =
    let rest = node_faults scope depth siblings in
    kept_two found first now (content_faults inside depth (alone 0) content) (node_faults inside below children) rest own all
    ∙ ap (λ fs. merged found (least ((content_faults inside depth (alone 0) content ++ fs) ++ rest))) (deeper inside depth below e h children)
    ∙ ap (λ s. merged found (least ((content_faults s depth (alone 0) content ++ node_faults s (depth + 1) children) ++ rest))) i

-- ---- Numbers

abbrev AreZero : List ℕ → Type 0
AreZero [] = Unit {0}
AreZero (n ∷ ns) = (n ≡ 0) × AreZero ns

zero-append : (xs ys : List ℕ) → AreZero xs → AreZero ys → AreZero (xs ++ ys)
zero-append [] ys h k = k
zero-append (x ∷ xs) ys h k = (h.0, zero-append xs ys h.1 k)

abbrev lines_in : Forest LineNumbers → List ℕ
lines_in f = map (λ l. l.first) (labels f)

lines-Node : (l : LineNumbers) (content : Content) (children siblings : Forest LineNumbers)
    → lines_in (Node l content children siblings) ≡ l.first ∷ lines_in children ++ lines_in siblings
lines-Node l content children siblings = ap (λ ns. l.first ∷ ns) (map-append (λ (l : LineNumbers). l.first) (labels children) (labels siblings))

zero-lines : (f : Forest ℕ) → AreZero (lines_in (without_lines f))
zero-lines Empty = tt
zero-lines (Node label content children siblings) =
    subst AreZero (sym (lines-Node (alone 0) content (without_lines children) (without_lines siblings)))
    (refl, zero-append (lines_in (without_lines children)) _ (zero-lines children) (zero-lines siblings))

length-lines : (f : Forest ℕ) → length (lines_in (without_lines f)) ≡ size f
length-lines Empty = refl
length-lines (Node label content children siblings) =
    let a = length-lines children in
    let b = length-lines siblings in
    ap length (lines-Node (alone 0) content (without_lines children) (without_lines siblings))
    ∙ ap (λ n. suc n) (length-append (lines_in (without_lines children)) (lines_in (without_lines siblings)) ∙ λ i. a i + b i) ∙ omega arith

abbrev at_line : ℕ → Fault
at_line line = record { number = 12; line = line }

-- the first of those without a number is as good as all
all-one : (lines : List ℕ) → AreZero lines → least (at_line 0 ∷ map at_line lines) ≡ Some (at_line 0)
all-one [] h = refl
all-one (n ∷ lines) h = ap (λ l. least (at_line 0 ∷ at_line l ∷ map at_line lines)) h.0 ∙ ap (λ o. Some (lesser (at_line 0) o)) (all-one lines h.1)

same_test : (b : Bool) (left all : ℕ) → (b ≡ true → left < all) → (left < all → b ≡ true) → b ≡ nat_lt left all
same_test true left all f g = sym (lt-ltb left all (f refl))
same_test false left all f g =
    elim (nat_lt left all) as (λ d. nat_lt left all ≡ d → false ≡ d) [
      | true ↦ λ k. g (ltb-true left all k)
      | false ↦ λ _. refl
    ] refl

too-many : (left : ℕ) (lines : List ℕ) → AreZero lines
    → least (fault_if (nat_lt left (length lines)) 12 0) ≡ least (map at_line (drop left lines))
too-many left [] h =
    ap (λ b. least (fault_if b 12 0)) (sym (same_test false left 0 (λ e. absurd (cc)) (λ k. absurd (omega arith))))
    ∙ ap (λ ns. least (map at_line ns)) (sym (drop-nil left))
too-many zero (n ∷ lines) h =
    ap (λ b. least (fault_if b 12 0)) (lt-ltb 0 (suc (length lines)) (omega arith)) ∙ sym (all-one lines h.1)
    ∙ ap (λ l. least (at_line l ∷ map at_line lines)) (sym h.0)
too-many (suc left) (n ∷ lines) h =
    ap (λ b. least (fault_if b 12 0))
    (sym (same_test (nat_lt left (length lines)) (suc left) (suc (length lines))
    (λ e. let less : left < length lines = ltb-true left (length lines) e in omega arith) (λ k. lt-ltb left (length lines) (omega arith))))
    ∙ too-many left lines h.1

-- ---- Trees

pub without_plain : (f : Forest ℕ) → without_lines (plain f) ≡ without_lines f
without_plain Empty = refl
without_plain (Node label content children siblings) = λ i. Node (alone 0) content (without_plain children i) (without_plain siblings i)

numbers_told : (first : ℕ) (over : Bool) (f : Forest ℕ) → over ≡ nat_lt (number_limit - first) (size f)
    → least (fault_if over 12 0) ≡ least (number_faults first (lines_in (without_lines f)))
numbers_told first over f e =
    let left = number_limit - first in
    ap (λ b. least (fault_if b 12 0)) e
    ∙ ap (λ n. least (fault_if (nat_lt left n) 12 0)) (sym (length-lines f)) ∙ too-many left (lines_in (without_lines f)) (zero-lines f)

abbrev answers : Scope → (depth first : ℕ) → Content → Forest LineNumbers → Option Fault
answers scope depth first content children =
    let tree = Node (alone 0) content children Empty in
    least (node_faults scope depth tree ++ number_faults first (lines_in tree))

-- what was found with a node and what is below it
pub tree_found : (scope inside : Scope) (depth below : ℕ) (content : Content) (children : Forest ℕ) (found first now : Option Fault)
    → inside ≡ within content scope → (depth ≤ 256 → below ≡ depth + 1) → (256 < depth → 256 < below)
    → first ≡ merged found (least (content_faults inside depth (alone 0) content))
    → now ≡ merged first (least (node_faults inside below (without_lines children)))
    → now ≡ merged found (least (node_faults scope depth (without_lines (Node 0 content children Empty))))
tree_found scope inside depth below content children found first now i e h own all =
    sym (merged-none now) ∙ visited scope inside depth below content (without_lines children) Empty found first now i e h own all

-- the code of what was found at fault in nodes says all
pub nodes_told : (scope : Scope) (depth : ℕ) (f : Forest ℕ) (found : Option Found) → found_of found ≡ least (node_faults scope depth (without_lines f))
    → at_no_line (option_map (λ f. f.code) found) ≡ least (node_faults scope depth (without_lines f))
nodes_told scope depth f found e = told found (least (node_faults scope depth (without_lines f))) e (none-least _ (none-nodes scope depth f))

-- the answer for a tree: what was found in it, and that there are too many nodes, where so many were counted
pub tree_told : (scope : Scope) (depth first : ℕ) (over : Bool) (content : Content) (children : Forest ℕ) (found : Option Found) (answer : Option Fault)
    → found_of found ≡ least (node_faults scope depth (without_lines (Node 0 content children Empty)))
    → (over ≡ true → number_limit - first ≤ size children) → (number_limit - first ≤ size children → over ≡ true)
    → answer ≡ merged (at_no_line (option_map (λ f. f.code) found)) (least (fault_if over 12 0))
    → answer ≡ answers scope depth first content (without_lines (plain children))
tree_told scope depth first over content children found answer e up down is =
    let tree = Node 0 content children Empty in
    let left = number_limit - first in
    let faults = node_faults scope depth (without_lines tree) in
    let many : over ≡ nat_lt left (size tree) =
    same_test over left (size tree) (λ k. let least : left ≤ size children = up k in omega arith) (λ k. down (omega arith)) in
    is ∙ ap (λ o. merged o (least (fault_if over 12 0))) (nodes_told scope depth tree found e)
    ∙ ap (merged (least faults)) (numbers_told first over tree many)
    ∙ sym (least-append faults (number_faults first (lines_in (without_lines tree))))
    ∙ ap (answers scope depth first content) (sym (without_plain children))
