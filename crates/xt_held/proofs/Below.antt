-- Numbers of nodes below one that no node has.
use Rattle.std.proofs.Common.{◌≡◌, ℕ, ◌+◌, ◌≤◌, ◌<◌, Bool, true, false, List, [], ◌∷◌, ◌++◌, map, Option, None, Some, refl, sym, ap, ◌∙◌, subst, arith, lt-ltb, ltb-true}
use Rattle.std.specs.Prelude.{nat_lt, Result, Ok, Err, IfOk, ◌&&◌}
use Rattle.std.specs.List.{list_all}
use Rattle.std.proofs.lemmas.List.Folds.{list_all-append}
use Rattle.spec_document.specs.declared.event.Event.{Event}
use Rattle.spec_document.specs.Scope.{Scope}
use Rattle.spec_document.specs.Forest.{Forest, Empty, Node, Document, size, labels, numbered}
use Rattle.spec_document.specs.Fault.{Fault, answer_of}
use Rattle.spec_document.specs.Body.{events_at, line_faults}
use Rattle.spec_document.specs.Balance.{LineNumbers, forest_of, unbalanced_line}
use Rattle.spec_document.specs.Top.{without_texts, top_faults}
use Rattle.spec_document.specs.NodeFaults.{node_faults}
use Rattle.spec_document.specs.Numbering.{number_faults}
use Rattle.spec_document.specs.Document.{made_of, document_by, document_of}
use Rattle.xt_build.specs.View.{Builds, document_in}
use Rattle.xt_build.specs.declared.document.Built.{Built}
use Rattle.xt_build.specs.declared.fault.BuildFault.{BuildFault}
use Rattle.xt_build.proofs.Building.{size_numbered}
use Rattle.xt_edit.specs.View.{AreBelow}

abbrev are_below : ℕ → List ℕ → Bool
are_below first ns = list_all (λ n. nat_lt n first) ns

both : (a b : Bool) → a ≡ true → b ≡ true → (a && b) ≡ true
both true b e h = h
both false b e h = absurd (cc)

parts : (a b : Bool) → (a && b) ≡ true → (a ≡ true) × (b ≡ true)
parts true b e = (refl, e)
parts false b e = absurd (cc)

-- they are below a greater one as well
all_raised : (first next : ℕ) → first ≤ next → (ns : List ℕ) → are_below first ns ≡ true → are_below next ns ≡ true
all_raised first next h [] e = refl
all_raised first next h (n ∷ ns) e =
    let two = parts (nat_lt n first) (are_below first ns) e in
    let less : n < first = ltb-true n first two.0 in
    both (nat_lt n next) (are_below next ns) (lt-ltb n next (omega arith)) (all_raised first next h ns two.1)

pub raised : (first next : ℕ) (document : Document ℕ) → first ≤ next → AreBelow first document → AreBelow next document
raised first next document h below = all_raised first next h (document.root ∷ labels document.nodes) below

-- the numbers of nodes that are numbered from `n` on
numbered_below : {L : Type 0} (n first : ℕ) (f : Forest L) → n + size f ≤ first → are_below first (labels (numbered n f)) ≡ true
numbered_below n first Empty h = refl
numbered_below n first (Node label content children siblings) h =
    let inner = labels (numbered (n + 1) children) in
    let outer = labels (numbered (n + 1 + size children) siblings) in
    both (nat_lt n first) (are_below first (inner ++ outer)) (lt-ltb n first (omega arith))
    (list_all-append (λ k. nat_lt k first) inner outer
    ∙ both (are_below first inner) (are_below first outer) (numbered_below (n + 1) first children (omega arith))
    (numbered_below (n + 1 + size children) first siblings (omega arith)))

-- ---- Documents that were just built

answered : {A : Type 0} (faults : List Fault) (otherwise : Result A Fault) (x : A) → answer_of faults otherwise ≡ Ok x → otherwise ≡ Ok x
answered [] otherwise x e = e
answered (fault ∷ faults) otherwise x e = absurd (cc)

made : {A : Type 0} (make : Forest LineNumbers → Result A Fault) (events : List (ℕ × Event (List ℕ))) (x : A) → made_of make events ≡ Ok x
    → (f : Forest LineNumbers) × (make f ≡ Ok x)
made {A = A} make events x e = by (forest_of events) e
  where
    by : (o : Option (Forest LineNumbers))
        → ◌≡◌ {A = Result A Fault} (elim o [ None ↦ Err (record { number = 9; line = unbalanced_line None [] events }) | Some forest ↦ make forest ]) (Ok x)
        → (f : Forest LineNumbers) × (make f ≡ Ok x)
    by None e = absurd (cc)
    by (Some f) e = (f, e)

ok_same : (x y : Document ℕ) → ◌≡◌ {A = Result (Document ℕ) Fault} (Ok x) (Ok y) → x ≡ y
ok_same x y e = cc

document_numbered : (scope : Scope) (first : ℕ) (body : List (List ℕ)) (document : Document ℕ) → document_of scope first body ≡ Ok document
    → (f : Forest LineNumbers) × (record { root = first; nodes = numbered (first + 1) f } ≡ document)
document_numbered scope first body document e =
    let found = made (document_by scope first) (events_at body) document (answered (line_faults body) (made_of (document_by scope first) (events_at body)) document e) in
    let f = without_texts found.0 in
    let result : Document ℕ = record { root = first; nodes = numbered (first + 1) f } in
    let faults = top_faults (Some 0) found.0 ++ node_faults scope 1 found.0 ++ number_faults first (0 ∷ map (λ l. l.first) (labels f)) in
    (f, ok_same result document (answered faults (Ok result) document found.1))

document_below : (scope : Scope) (first next : ℕ) (body : List (List ℕ)) (document : Document ℕ) → document_of scope first body ≡ Ok document
    → next ≡ first + 1 + size document.nodes → AreBelow next document
document_below scope first next body document e is =
    let found = document_numbered scope first body document e in
    let count : size document.nodes ≡ size found.0 = sym (ap (λ d. size d.nodes) found.1) ∙ size_numbered (first + 1) found.0 in
    subst (λ (d : Document ℕ). AreBelow next d) found.1
    (both (nat_lt first next) (are_below next (labels (numbered (first + 1) found.0))) (lt-ltb first next (omega arith))
    (numbered_below (first + 1) next found.0 (omega arith)))

pub built_below : (scope : Scope) (first : ℕ) (body : List (List ℕ)) (r : Result Built BuildFault) → Builds document_in r (document_of scope first body)
    → IfOk r (λ built. built.next.number ≡ first + 1 + size built.document.nodes) → IfOk r (λ built. AreBelow built.next.number built.document)
built_below scope first body (Ok built) is next = document_below scope first built.next.number body built.document is next
built_below scope first body (Err fault) is next = tt
