-- One turn, and the end, of each loop that gives what is left of a list and adds the templates of the contents in it.
use Rattle.std.proofs.Common.{◌≡◌, ℕ, ◌+◌, ◌<◌, ◌≤◌, List, [], ◌∷◌, ◌++◌, map, length, take, drop, get_or, ap, sym, ◌∙◌, append_assoc}
use Rattle.std.proofs.lemmas.List.{map-append, drop_all, take_more}
use Rattle.spec_document.specs.Name.{Expanded}
use Rattle.spec_stylesheet.specs.Instruction.{Instrs, Branches, Bindings, Instr, Branch, Binding, instrs, branches, bindings}
use Rattle.spec_stylesheet.specs.Sheet as sheet
use Rattle.spec_items.specs.Lifted.{left_in, left_in_branches, left_passed, left_taken, scope_after, scope_of, items_behind, items_in, items_in_taken}
use Rattle.xt_lift.specs.Left.{left_instr, left_branch, left_binding, items_at, items_in_instr}
use Rattle.xt_lift.proofs.Turns.{first_left}
use Rattle.xt_lift.proofs.Kept.{kept, kept_all, kept_more, kept_branches, kept_all_branches, kept_more_branches, kept_bindings, kept_all_bindings, kept_more_bindings}

-- one more at the end of a list, as it is seen
pub seen_more : {E X : Type 0} (see : E → X) (before now : List E) (e : E) (x : X) → now ≡ before ++ e ∷ [] → see e ≡ x → map see now ≡ map see before ++ x ∷ []
seen_more see before now e x pushed made = ap (λ xs. map see xs) pushed ∙ map-append see before (e ∷ []) ∙ ap (λ y. map see before ++ y ∷ []) made

-- ---- Contents

pub next_kept : {E : Type 0} (see : E → Instr) (content : List E) (i : ℕ) (item : E) (done now : List Instr) (known next : List Expanded) {all : Instrs}
    → i < length content → item ≡ get_or content i item → now ≡ done ++ left_instr known (see item) ∷ [] → next ≡ scope_after known (see item).form
    → kept done (left_in known (instrs (map see (drop i content)))) ≡ all
    → kept now (left_in next (instrs (map see (drop (i + 1) content)))) ≡ all
next_kept see content i item done now known next l is pushed after inv =
    let rest = instrs (map see (drop (i + 1) content)) in
    (λ k. kept (pushed k) (left_in (after k) rest))
    ∙ kept_more done (left_instr known (see item)) (left_in (scope_after known (see item).form) rest)
    ∙ ap (λ xs. kept done (left_in known (instrs (map see xs)))) (first_left content i item l is)
    ∙ inv

pub last_kept : {E : Type 0} (see : E → Instr) (content : List E) (i : ℕ) (done : List Instr) (known : List Expanded) {all : Instrs} → length content ≤ i
    → kept done (left_in known (instrs (map see (drop i content)))) ≡ all → instrs done ≡ all
last_kept see content i done known le inv =
    sym (kept_all done) ∙ ap (λ xs. kept done (left_in known (instrs (map see xs)))) (sym (drop_all i content le)) ∙ inv

pub next_items : {E : Type 0} (see : E → Instr) (p : ℕ) (content : List E) (i : ℕ) (item : E) (before now : List sheet.Unit) (known next : List Expanded) {all : List sheet.Unit}
    → i < length content → item ≡ get_or content i item → now ≡ before ++ items_in_instr p known (see item) → next ≡ scope_after known (see item).form
    → before ++ items_in p known (instrs (map see (drop i content))) ≡ all
    → now ++ items_in p next (instrs (map see (drop (i + 1) content))) ≡ all
next_items see p content i item before now known next l is added after inv =
    let rest = instrs (map see (drop (i + 1) content)) in
    (λ k. added k ++ items_in p (after k) rest)
    ∙ append_assoc before (items_in_instr p known (see item)) (items_in p (scope_after known (see item).form) rest)
    ∙ ap (λ xs. before ++ items_in p known (instrs (map see xs))) (first_left content i item l is)
    ∙ inv

-- ---- Branches

pub next_kept_branches : {E : Type 0} (see : E → Branch) (list : List E) (i : ℕ) (item : E) (done now : List Branch) (scope : List Expanded) {all : Branches}
    → i < length list → item ≡ get_or list i item → now ≡ done ++ left_branch scope (see item) ∷ []
    → kept_branches done (left_in_branches scope (branches (map see (drop i list)))) ≡ all
    → kept_branches now (left_in_branches scope (branches (map see (drop (i + 1) list)))) ≡ all
next_kept_branches see list i item done now scope l is pushed inv =
    let rest = branches (map see (drop (i + 1) list)) in
    ap (λ xs. kept_branches xs (left_in_branches scope rest)) pushed
    ∙ kept_more_branches done (left_branch scope (see item)) (left_in_branches scope rest)
    ∙ ap (λ xs. kept_branches done (left_in_branches scope (branches (map see xs)))) (first_left list i item l is)
    ∙ inv

pub last_kept_branches : {E : Type 0} (see : E → Branch) (list : List E) (i : ℕ) (done : List Branch) (scope : List Expanded) {all : Branches} → length list ≤ i
    → kept_branches done (left_in_branches scope (branches (map see (drop i list)))) ≡ all → branches done ≡ all
last_kept_branches see list i done scope le inv =
    sym (kept_all_branches done) ∙ ap (λ xs. kept_branches done (left_in_branches scope (branches (map see xs)))) (sym (drop_all i list le)) ∙ inv

-- ---- Bindings

pub next_kept_passed : {E : Type 0} (see : E → Binding) (list : List E) (i : ℕ) (item : E) (done now : List Binding) (scope : List Expanded) {all : Bindings}
    → i < length list → item ≡ get_or list i item → now ≡ done ++ left_binding scope (see item) ∷ []
    → kept_bindings done (left_passed scope (bindings (map see (drop i list)))) ≡ all
    → kept_bindings now (left_passed scope (bindings (map see (drop (i + 1) list)))) ≡ all
next_kept_passed see list i item done now scope l is pushed inv =
    let rest = bindings (map see (drop (i + 1) list)) in
    ap (λ xs. kept_bindings xs (left_passed scope rest)) pushed
    ∙ kept_more_bindings done (left_binding scope (see item)) (left_passed scope rest)
    ∙ ap (λ xs. kept_bindings done (left_passed scope (bindings (map see xs)))) (first_left list i item l is)
    ∙ inv

pub last_kept_passed : {E : Type 0} (see : E → Binding) (list : List E) (i : ℕ) (done : List Binding) (scope : List Expanded) {all : Bindings} → length list ≤ i
    → kept_bindings done (left_passed scope (bindings (map see (drop i list)))) ≡ all → bindings done ≡ all
last_kept_passed see list i done scope le inv =
    sym (kept_all_bindings done) ∙ ap (λ xs. kept_bindings done (left_passed scope (bindings (map see xs)))) (sym (drop_all i list le)) ∙ inv

-- ---- Parameters

pub next_kept_taken : {E : Type 0} (see : E → Binding) (list : List E) (i : ℕ) (item : E) (done now : List Binding) (scope next : List Expanded) {all : Bindings}
    → i < length list → item ≡ get_or list i item → now ≡ done ++ left_binding scope (see item) ∷ [] → next ≡ (see item).name ∷ scope
    → kept_bindings done (left_taken scope (bindings (map see (drop i list)))) ≡ all
    → kept_bindings now (left_taken next (bindings (map see (drop (i + 1) list)))) ≡ all
next_kept_taken see list i item done now scope next l is pushed after inv =
    let rest = bindings (map see (drop (i + 1) list)) in
    (λ k. kept_bindings (pushed k) (left_taken (after k) rest))
    ∙ kept_more_bindings done (left_binding scope (see item)) (left_taken ((see item).name ∷ scope) rest)
    ∙ ap (λ xs. kept_bindings done (left_taken scope (bindings (map see xs)))) (first_left list i item l is)
    ∙ inv

pub last_kept_taken : {E : Type 0} (see : E → Binding) (list : List E) (i : ℕ) (done : List Binding) (scope : List Expanded) {all : Bindings} → length list ≤ i
    → kept_bindings done (left_taken scope (bindings (map see (drop i list)))) ≡ all → bindings done ≡ all
last_kept_taken see list i done scope le inv =
    sym (kept_all_bindings done) ∙ ap (λ xs. kept_bindings done (left_taken scope (bindings (map see xs)))) (sym (drop_all i list le)) ∙ inv

pub next_scope_taken : {E : Type 0} (see : E → Binding) (list : List E) (i : ℕ) (item : E) (scope next : List Expanded) {all : List Expanded}
    → i < length list → item ≡ get_or list i item → next ≡ (see item).name ∷ scope
    → scope_of scope (bindings (map see (drop i list))) ≡ all → scope_of next (bindings (map see (drop (i + 1) list))) ≡ all
next_scope_taken see list i item scope next l is after inv =
    ap (λ names. scope_of names (bindings (map see (drop (i + 1) list)))) after
    ∙ ap (λ xs. scope_of scope (bindings (map see xs))) (first_left list i item l is)
    ∙ inv

pub next_items_taken : {E : Type 0} (see : E → Binding) (p : ℕ) (list : List E) (i : ℕ) (item : E) (before now : List sheet.Unit) (scope next : List Expanded) {all : List sheet.Unit}
    → i < length list → item ≡ get_or list i item → now ≡ before ++ items_in p scope (see item).content → next ≡ (see item).name ∷ scope
    → before ++ items_in_taken p scope (bindings (map see (drop i list))) ≡ all
    → now ++ items_in_taken p next (bindings (map see (drop (i + 1) list))) ≡ all
next_items_taken see p list i item before now scope next l is added after inv =
    let rest = bindings (map see (drop (i + 1) list)) in
    (λ k. added k ++ items_in_taken p (after k) rest)
    ∙ append_assoc before (items_in p scope (see item).content) (items_in_taken p ((see item).name ∷ scope) rest)
    ∙ ap (λ xs. before ++ items_in_taken p scope (bindings (map see xs))) (first_left list i item l is)
    ∙ inv

-- ---- Units

front_more : {E X : Type 0} (see : E → X) (units : List E) (i : ℕ) (item : E) → i < length units → item ≡ get_or units i item
    → map see (take (i + 1) units) ≡ map see (take i units) ++ see item ∷ []
front_more see units i item l is =
    ap (λ xs. map see xs) (take_more units i item l) ∙ map-append see (take i units) (get_or units i item ∷ [])
    ∙ ap (λ x. map see (take i units) ++ see x ∷ []) (sym is)

pub next_behind : {E : Type 0} (see : E → sheet.Unit) (units : List E) (i : ℕ) (item : E) (before now : List sheet.Unit) {all : List sheet.Unit}
    → i < length units → item ≡ get_or units i item → now ≡ before ++ items_at (map see (take i units)) (see item)
    → before ++ items_behind (map see (take i units)) (map see (drop i units)) ≡ all
    → now ++ items_behind (map see (take (i + 1) units)) (map see (drop (i + 1) units)) ≡ all
next_behind see units i item before now l is added inv =
    let rest = map see (drop (i + 1) units) in
    let front = map see (take i units) in
    let own = items_at front (see item) in
    ap (λ xs. xs ++ items_behind (map see (take (i + 1) units)) rest) added
    ∙ ap (λ fs. (before ++ own) ++ items_behind fs rest) (front_more see units i item l is)
    ∙ append_assoc before own (items_behind (front ++ see item ∷ []) rest)
    ∙ ap (λ xs. before ++ items_behind front (map see xs)) (first_left units i item l is)
    ∙ inv
