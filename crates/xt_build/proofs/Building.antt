-- The faults of a body, put together.
use Rattle.std.proofs.Common.{min, true, false, ltb-true, ltb-false, zero, suc, subst, length-append, ◌≡◌, ◌≤◌, ◌<◌, ℕ, ◌+◌, ◌-◌}
use Rattle.std.proofs.Common.{◌^◌, List, [], ◌∷◌, ◌++◌, map, drop, length, Option, Some, None, Result, Ok, Err, refl, sym, ap, ◌∙◌}
use Rattle.std.proofs.Common.{arith, inl, inr}
use Rattle.std.proofs.lemmas.List.{drop_all}
use Rattle.std.specs.Prelude.{◌⊎◌, nat_lt}
use Rattle.spec_document.specs.declared.parent.Parent.{Parent}
use Rattle.spec_document.specs.Scope.{Scope}
use Rattle.spec_document.specs.Forest.{Forest, Empty, Node, labels, size, numbered}
use Rattle.spec_document.specs.Fault.{Fault, least, answer_of}
use Rattle.spec_document.specs.Body.{line_faults, events_at}
use Rattle.spec_document.specs.Balance.{LineNumbers, unbalanced_line, forest_of}
use Rattle.spec_document.specs.Top.{top_faults, kept, without_texts}
use Rattle.spec_document.specs.NodeFaults.{node_faults}
use Rattle.spec_document.specs.Numbering.{number_faults, number_limit}
use Rattle.spec_document.specs.Document.{made_of, nodes_by, document_by, depth_of, elements_beside}
use Rattle.xt_build.specs.Least.{merged}
use Rattle.xt_build.proofs.Least.{merged-assoc, least-append}

pub found_together : (xs ys zs : List Fault) → merged (merged (merged None (least xs)) (least ys)) (least zs) ≡ least (xs ++ ys ++ zs)
found_together xs ys zs = ap (λ a. merged a (least zs)) (sym (least-append xs ys)) ∙ sym (least-append (xs ++ ys) zs)

pub merged_none : (a b : Option Fault) → merged a b ≡ None → (a ≡ None) × (b ≡ None)
merged_none None b h = (refl, h)
merged_none (Some f) b h = absurd (cc)

pub least_none : (xs : List Fault) → least xs ≡ None → xs ≡ []
least_none [] h = refl
least_none (x ∷ xs) h = absurd (cc)

map_nil : {A B : Type 0} (f : A → B) (xs : List A) → map f xs ≡ [] → xs ≡ []
map_nil f [] h = refl
map_nil f (x ∷ xs) h = absurd (cc)

drop_nil : (k : ℕ) (xs : List ℕ) → drop k xs ≡ [] → length xs ≤ k
drop_nil k [] h = omega arith
drop_nil zero (x ∷ xs) h = absurd (cc)
drop_nil (suc k) (x ∷ xs) h = let below = drop_nil k xs h in omega (arith, below)

room : (limit first size : ℕ) → size ≤ limit - first → (first + size ≤ limit) ⊎ (size ≡ 0)
room limit first zero h = inr refl
room limit first (suc n) h = inl (omega (arith, h))

pub size_fits : (first : ℕ) (lines : List ℕ) → least (number_faults first lines) ≡ None
    → (first + length lines ≤ number_limit) ⊎ (length lines ≡ 0)
size_fits first lines h = room number_limit first (length lines) (drop_nil (number_limit - first) lines (map_nil _ _ (least_none _ h)))

-- the number of nodes is that of their labels
size_labels : {L : Type 0} (f : Forest L) → length (labels f) ≡ size f
size_labels Empty = refl
size_labels (Node label content children siblings) =
    ap suc (length-append (labels children) (labels siblings)) ∙ let below = size_labels children in let behind = size_labels siblings in
    omega (arith, below, behind)

length_map : {A B : Type 0} (f : A → B) (xs : List A) → length (map f xs) ≡ length xs
length_map f [] = refl
length_map f (x ∷ xs) = ap suc (length_map f xs)

-- a number is there for each node, and none is over the greatest that a u64 has
fits : (limit first size : ℕ) → limit < 2 ^ 64 → first < 2 ^ 64 → (first + size ≤ limit) ⊎ (size ≡ 0) → first + size < 2 ^ 64
fits limit first size l h (inl below) = omega (arith, l, h, below)
fits limit first size l h (inr none) = omega (arith, h, none)

below_u64 : number_limit < 2 ^ 64
below_u64 = omega arith

pub nodes_fit : (first : ℕ) (f : Forest LineNumbers) → first < 2 ^ 64 → least (number_faults first (map (λ l. l.first) (labels f))) ≡ None
    → first + size f < 2 ^ 64
nodes_fit first f h none =
    fits number_limit first (size f) below_u64 h (of_size (length_map _ (labels f) ∙ size_labels f) (size_fits first _ none))
  where
    of_size : {n m : ℕ} → n ≡ m → (first + n ≤ number_limit) ⊎ (n ≡ 0) → (first + m ≤ number_limit) ⊎ (m ≡ 0)
    of_size e h = subst (λ k. (first + k ≤ number_limit) ⊎ (k ≡ 0)) e h

-- ---- What is answered, where the lines are those of a forest

pub answer_least : {A : Type 0} (faults : List Fault) (otherwise : Result A Fault) (found : Option Fault) → least faults ≡ found
    → answer_of faults otherwise ≡ elim found [ None ↦ otherwise | Some fault ↦ Err fault ]
answer_least faults otherwise found e = ap (λ o. elim o [ None ↦ otherwise | Some fault ↦ Err fault ]) e

-- what is made of the forest of the lines
pub made : {A : Type 0} (make : Forest LineNumbers → Result A Fault) (body : List (List ℕ)) (f : Forest LineNumbers)
    → least (line_faults body) ≡ None → forest_of (events_at body) ≡ Some f
    → answer_of (line_faults body) (made_of make (events_at body)) ≡ make f
made make body f none some =
    answer_least (line_faults body) (made_of make (events_at body)) None none
    ∙ ap (λ o. elim o [ None ↦ Err (record { number = 9; line = unbalanced_line None [] (events_at body) }) | Some forest ↦ make forest ]) some

-- the siblings below a parent at this depth, which where it is a root has so many elements besides
abbrev pub nodes_below : Scope → ℕ → ℕ → Option ℕ → Forest LineNumbers → Result (Forest ℕ) Fault
nodes_below scope first depth others f =
    answer_of (top_faults others f ++ node_faults scope (depth + 1) f ++ number_faults first (map (λ l. l.first) (labels (kept others f))))
    (Ok (numbered first (kept others f)))

pub nodes_by-below : (scope : Scope) (first : ℕ) (parent : Parent) (depth : ℕ) (others : Option ℕ) (f : Forest LineNumbers)
    → depth ≡ depth_of parent
    → others ≡ elements_beside parent → nodes_by scope first parent f ≡ nodes_below scope first depth others f
nodes_by-below scope first parent depth others f d o = λ i. nodes_below scope first (sym d i) (sym o i) f

-- the siblings: no fault is found, or this one
pub nodes_made : (scope : Scope) (first depth : ℕ) (others : Option ℕ) (f : Forest LineNumbers) (top names found : Option Fault)
    → top ≡ least (top_faults others f) → names ≡ merged top (least (node_faults scope (depth + 1) f))
    → found ≡ merged names (least (number_faults first (map (λ l. l.first) (labels (kept others f)))))
    → nodes_below scope first depth others f ≡ elim found [ None ↦ Ok (numbered first (kept others f)) | Some fault ↦ Err fault ]
nodes_made scope first depth others f top names found t n m =
    let lines = map (λ l. l.first) (labels (kept others f)) in
    let is = m ∙ ap (λ a. merged a (least (number_faults first lines))) (n ∙ ap (λ a. merged a (least (node_faults scope (depth + 1) f))) t) in
    answer_least _ (Ok (numbered first (kept others f))) found
    (sym (is ∙ found_together (top_faults others f) (node_faults scope (depth + 1) f) (number_faults first lines)))

-- and none found leaves room for the numbers
pub nodes_have_room : (first : ℕ) (faults : Option Fault) (f : Forest LineNumbers) → first < 2 ^ 64
    → merged faults (least (number_faults first (map (λ l. l.first) (labels f)))) ≡ None
    → first + size f < 2 ^ 64
nodes_have_room first faults f h none = nodes_fit first f h (merged_none faults _ none).1

-- ---- A document, whose root has the first number

-- the number behind, which stands still at the greatest of a u64
pub data IsNext (first second : ℕ) : Type 0 where
  one_more : second ≡ first + 1 → IsNext first second
  beyond : number_limit ≤ first → number_limit ≤ second → IsNext first second

marked : List ℕ → List Fault
marked lines = map (λ line. record { number = 12; line = line }) lines

split_at : (rest after : ℕ) (line : ℕ) (lines : List ℕ) → (rest ≡ 0) × (after ≡ 0) ⊎ (rest ≡ suc after)
    → marked (drop rest (line ∷ lines)) ≡ marked (drop rest (line ∷ [])) ++ marked (drop after lines)
unfolding marked
split_at rest after line lines (inl none) = rw (none.0, none.1) refl
split_at rest after line lines (inr more) = rw (more, drop_all {X = ℕ} after [] (omega arith)) refl

next_left : (limit first second : ℕ) → (second ≡ first + 1) ⊎ (limit ≤ first) × (limit ≤ second)
    → ((limit - first ≡ 0) × (limit - second ≡ 0)) ⊎ (limit - first ≡ suc (limit - second))
next_left limit first second (inr h) = inl (omega (arith, h.0), omega (arith, h.1))
next_left limit first second (inl h) =
    elim (nat_lt first limit) as (λ b. nat_lt first limit ≡ b
    → ((limit - first ≡ 0) × (limit - second ≡ 0)) ⊎ (limit - first ≡ suc (limit - second))) [
      | true ↦ λ e. inr (let below : first < limit = ltb-true first limit e in omega (arith, h))
      | false ↦ λ e. inl (let above : limit ≤ first = ltb-false first limit e in (omega arith, omega (arith, h)))
    ] refl

pub number_then : (first second line : ℕ) (lines : List ℕ) → IsNext first second
    → number_faults first (line ∷ lines) ≡ number_faults first (line ∷ []) ++ number_faults second lines
unfolding marked
number_then first second line lines (one_more h) = split_at _ _ line lines (next_left number_limit first second (inl h))
number_then first second line lines (beyond h k) = split_at _ _ line lines (next_left number_limit first second (inr (h, k)))

-- the document: no fault is found, or this one
pub document_made : (scope : Scope) (first second : ℕ) (f : Forest LineNumbers) (top names root found : Option Fault) → IsNext first second
    → top ≡ least (top_faults (Some 0) f) → names ≡ merged top (least (node_faults scope 1 f))
    → root ≡ merged names (least (number_faults first (0 ∷ [])))
    → found ≡ merged root (least (number_faults second (map (λ l. l.first) (labels (without_texts f)))))
    → document_by scope first f
    ≡ elim found [ None ↦ Ok (record { root = first; nodes = numbered (first + 1) (without_texts f) }) | Some fault ↦ Err fault ]
document_made scope first second f top names root found next t n r m =
    let tops = top_faults (Some 0) f in
    let named = node_faults scope 1 f in
    let lines = map (λ l. l.first) (labels (without_texts f)) in
    let is = m ∙ ap (λ a. merged a (least (number_faults second lines)))
    (r ∙ ap (λ a. merged a (least (number_faults first (0 ∷ [])))) (n ∙ ap (λ a. merged a (least named)) t)) in
    let together : found ≡ least (tops ++ named ++ number_faults first (0 ∷ lines)) =
    is ∙ merged-assoc (merged (least tops) (least named)) (least (number_faults first (0 ∷ []))) (least (number_faults second lines))
    ∙ ap (merged (merged (least tops) (least named)))
    (sym (least-append (number_faults first (0 ∷ [])) (number_faults second lines)) ∙ ap least (sym (number_then first second 0 lines next)))
    ∙ found_together tops named (number_faults first (0 ∷ lines)) in
    answer_least _ (Ok (record { root = first; nodes = numbered (first + 1) (without_texts f) })) found (sym together)

pub size_numbered : {L : Type 0} (n : ℕ) (f : Forest L) → size (numbered n f) ≡ size f
size_numbered n Empty = refl
size_numbered n (Node label content children siblings) =
    let below = size_numbered (n + 1) children in let behind = size_numbered (n + 1 + size children) siblings in omega (arith, below, behind)

-- nodes that are numbered from n on are so already
pub numbered_again : {L : Type 0} (n : ℕ) (f : Forest L) → numbered n (numbered n f) ≡ numbered n f
numbered_again n Empty = refl
numbered_again n (Node label content children siblings) =
    ap (λ m. Node n content (numbered (n + 1) (numbered (n + 1) children)) (numbered (n + 1 + m) (numbered (n + 1 + size children) siblings)))
    (size_numbered (n + 1) children)
    ∙ λ i. Node n content (numbered_again (n + 1) children i) (numbered_again (n + 1 + size children) siblings i)

pub document_has_room : (first second : ℕ) (names root found : Option Fault) (f : Forest LineNumbers) → IsNext first second
    → root ≡ merged names (least (number_faults first (0 ∷ [])))
    → found ≡ merged root (least (number_faults second (map (λ l. l.first) (labels f)))) → found ≡ None
    → first + size f < number_limit
document_has_room first second names root found f next r m none =
    let lines = map (λ l. l.first) (labels f) in
    let apart = merged_none root (least (number_faults second lines)) (sym m ∙ none) in
    let own = merged_none names (least (number_faults first (0 ∷ []))) (sym r ∙ apart.0) in
    let all : least (number_faults first (0 ∷ lines)) ≡ None =
    ap least (number_then first second 0 lines next) ∙ least-append (number_faults first (0 ∷ [])) (number_faults second lines)
    ∙ ap (λ a. merged a (least (number_faults second lines))) own.1 ∙ apart.1 in
    below number_limit (size f) (length lines) (length_map (λ l. l.first) (labels f) ∙ size_labels f) (size_fits first (0 ∷ lines) all)
  where
    below : (limit size many : ℕ) → many ≡ size → (first + suc many ≤ limit) ⊎ (suc many ≡ 0) → first + size < limit
    below limit size many e (inl h) = omega (arith, e, h)
    below limit size many e (inr h) = absurd (omega (arith, h))

pub answered : {A : Type 0} (value : A) (answer : Result A Fault) (found given : Option Fault)
    → answer ≡ elim found [ None ↦ Ok value | Some fault ↦ Err fault ] → found ≡ given
    → answer ≡ elim given [ None ↦ Ok value | Some fault ↦ Err fault ]
answered value answer found given e is = e ∙ ap (λ o. elim o [ None ↦ Ok value | Some fault ↦ Err fault ]) is

-- ---- The second number

pub second_is_next : (first second : ℕ) → second ≡ min (first + 1) 18446744073709551615 → IsNext first second
second_is_next first second e =
    elim (nat_lt first 18446744073709551615) as (λ b. nat_lt first 18446744073709551615 ≡ b → IsNext first second) [
      | true ↦ λ h. let below : first < 18446744073709551615 = ltb-true first 18446744073709551615 h in one_more (omega (arith, e))
      | false ↦ λ h. let above : 18446744073709551615 ≤ first = ltb-false first 18446744073709551615 h in beyond (omega arith) (omega (arith, e))
    ] refl

pub second_number : (first second size : ℕ) → second ≡ min (first + 1) 18446744073709551615 → first + size < number_limit → second ≡ first + 1
second_number first second size e room = omega (arith, e, room)

-- nodes that are numbered from the second number on
pub record AreMade (first : ℕ) (f : Forest LineNumbers) (nodes : Forest ℕ) : Type 0 where
  pub again : numbered (first + 1) nodes ≡ nodes
  pub fit : first + size nodes < number_limit
  pub are : nodes ≡ numbered (first + 1) f

pub are_made : (first second : ℕ) (f : Forest LineNumbers) (nodes : Forest ℕ) → second ≡ min (first + 1) 18446744073709551615
    → first + size f < number_limit → nodes ≡ numbered second f
    → AreMade first f nodes
are_made first second f nodes e room is =
    let behind = second_number first second (size f) e room in
    let are : nodes ≡ numbered (first + 1) f = is ∙ ap (λ n. numbered n f) behind in
    record {
      again = ap (numbered (first + 1)) are ∙ numbered_again (first + 1) f ∙ sym are;
      fit = subst (λ n. first + n < number_limit) (sym (ap size are ∙ size_numbered (first + 1) f)) room;
      are = are;
    }
