-- Modules that are finitely many do not lack an outcome: there is a reading order; in it each module does not lack what is read of it; and
-- where no module has a fault, all that the first reaches stands in the order.
use Rattle.std.proofs.Common.{◌≡◌, ℕ, true, List, [], ◌∷◌, Option, None, Some, Result, Ok, Err, refl, subst}
use Rattle.std.specs.List.{Contains}
use Rattle.spec_document.specs.Forest.{Plain}
use Rattle.spec_expression.specs.declared.code.StaticCode.TheVariants as code
use Rattle.spec_structure.specs.Structure.{Fault, Link, fault_of, links_of}
use Rattle.spec_structure.specs.Modules.{Modules, Reads, is_among, links_by, Reaches, itself, through, HasCode, FirstFault, no_fault, later, first}
use Rattle.spec_compile.specs.Unit.{TopLevel, module_of}
use Rattle.spec_compile.specs.Sheet.{IsRead, answer_by, earlier_of, fault_in, AreRead, none_left, faulty, well, Said, Refusal, IsSheet, refused, read}
use Rattle.spec_compile.proofs.Answers.{IsNotWanting, some_value}
use Rattle.spec_compile.proofs.Names.{in_front}
use Rattle.spec_compile.proofs.Orders.{AreModules, are_modules, some_order, no_member, member, lands, closed}
use Rattle.spec_compile.proofs.Gathering.{IsWell, some_stylesheets}

-- ---- What is read of a module

fault_or_more : (modules : Modules) (name : List ℕ) (l : Link) (ls : List Link) (o : Option Plain) → modules l.href ≡ o
    → IsNotWanting (FirstFault modules name ls) → IsNotWanting (FirstFault modules name (l ∷ ls))
fault_or_more modules name l ls None e more none = none (_, first {c = code.NoSuchModule} e)
fault_or_more modules name l ls (Some tree) e more none =
    more (λ f. none (f.0, later (tree, e, λ r. none (_, first {c = code.ImportCycle} r)) f.1))

some_fault : (modules : Modules) (name : List ℕ) (ls : List Link) → IsNotWanting (FirstFault modules name ls)
some_fault modules name [] none = none (None, no_fault)
some_fault modules name (l ∷ ls) none = fault_or_more modules name l ls (modules l.href) refl (some_fault modules name ls) none

some_module : (modules : Modules) (name : List ℕ) (tree : Plain) → modules name ≡ Some tree → IsNotWanting (IsRead modules name)
some_module modules name tree is none =
    some_value (module_of name 1 tree) (λ says. some_fault modules name (links_of 1 tree) (λ link.
    none (
      answer_by (earlier_of (fault_of 1 tree) (earlier_of link.0 (fault_in says.0))) says.0,
      record { tree = tree; is = is; says = says.0; reading = says.1; link = link.0; links = link.1; whole = refl },
    )))

module_then : {modules : Modules} {name : List ℕ} {names : List (List ℕ)} → (answer : Result (List TopLevel) Fault) → IsRead modules name answer
    → IsNotWanting (AreRead modules names) → IsNotWanting (AreRead modules (name ∷ names))
module_then (Err fault) h more none = none (_, faulty h)
module_then (Ok says) h more none = more (λ rest. none (_, well h rest.1))

some_reading : (modules : Modules) (names : List (List ℕ)) → AreModules modules names → IsNotWanting (AreRead modules names)
some_reading modules [] ms none = none (_, none_left)
some_reading modules (name ∷ names) ms none =
    some_module modules name ms.0.0 ms.0.1 (λ a. module_then a.0 a.1 (some_reading modules names ms.1) none)

-- ---- What is read without a fault

record NoFaults (structure link : Option Fault) : Type 0 where
  no_structure : structure ≡ None
  no_link : link ≡ None

no_faults : (structure link : Option Fault) (says : Result (List TopLevel) Fault) (other : List TopLevel)
    → Ok other ≡ answer_by (earlier_of structure (earlier_of link (fault_in says))) says → NoFaults structure link
no_faults None None says other e = record { no_structure = refl; no_link = refl }
no_faults None (Some b) (Ok a) other e = absurd (cc)
no_faults None (Some b) (Err c) other e = absurd (cc)
no_faults (Some a) None (Ok s) other e = absurd (cc)
no_faults (Some a) None (Err c) other e = absurd (cc)
no_faults (Some a) (Some b) (Ok s) other e = absurd (cc)
no_faults (Some a) (Some b) (Err c) other e = absurd (cc)

no_codes : {modules : Modules} {name : List ℕ} {ls : List Link} {fault : Option Fault} → FirstFault modules name ls fault → fault ≡ None
    → (l : Link) → Contains ls l → HasCode modules name l None
no_codes no_fault e l c = absurd (no_member l c)
no_codes {modules} {name} (later {l = l0} {ls = ls} h hs) e l c = member (λ k. HasCode modules name k None) l0 ls l c h (λ d. no_codes hs e l d)
no_codes (first h) e l c = absurd (cc)

is_well : {modules : Modules} {name : List ℕ} {says : List TopLevel} → IsRead modules name (Ok says) → IsWell modules name
is_well {modules} {name} {says} h =
    let none = no_faults (fault_of 1 h.tree) h.link h.says says h.whole in
    record { tree = h.tree; is = h.is; sound = none.no_structure; links = no_codes h.links none.no_link }

abbrev IsFine : Result (List Said) Refusal → Type 0
IsFine (Ok said) = Unit {0}
IsFine (Err why) = ⊥

are_well : {modules : Modules} {names : List (List ℕ)} {r : Result (List Said) Refusal} → AreRead modules names r → IsFine r → (x : List ℕ)
    → is_among x names ≡ true → IsWell modules x
are_well none_left ok x m = absurd (cc)
are_well (faulty h) ok x m = absurd ok
are_well {modules} (well {name = name} {names = names} {rest = Ok said} h hs) ok x m =
    in_front (IsWell modules) x name names m (is_well h) (λ n. are_well hs tt x n)
are_well (well {rest = Err why} h hs) ok x m = absurd ok

-- ---- All that is reached is in the order

in_order : {modules : Modules} {main : List ℕ} {order : List (List ℕ)} → Reads modules [] main order
    → ((x : List ℕ) → is_among x order ≡ true → IsWell modules x) → {from to : List ℕ} → Reaches modules from to → is_among from order ≡ true
    → is_among to order ≡ true
in_order o wells itself h = h
in_order {modules} {main} {order} o wells {from = from} (through l c r) h =
    let w = wells from h in
    let code = w.links l (subst (λ (t : Option Plain). Contains (links_by t) l) w.is c) in
    in_order o wells r (closed o from h refl l c code.0 code.1)

pub some_sheet : (modules : Modules) (names : List (List ℕ)) (main : List ℕ) (tree : Plain)
    → ((name : List ℕ) (its : Plain) → modules name ≡ Some its → is_among name names ≡ true) → modules main ≡ Some tree → IsNotWanting (IsSheet modules main)
some_sheet modules names main tree finite is none =
    some_reading modules order (are_modules order_is tt) (λ r. by r.0 r.1)
  where
    order : List (List ℕ)
    order = (some_order modules names main finite).0

    order_is : Reads modules [] main order
    order_is = (some_order modules names main finite).1

    by : (r : Result (List Said) Refusal) → AreRead modules order r → ⊥
    by (Err why) h = none (_, refused order_is h)
    by (Ok said) h =
        let reached : (x : List ℕ) → Reaches modules main x → IsWell modules x =
        λ x r. are_well h tt x (in_order order_is (are_well h tt) r (lands order_is tree is)) in
        let sheets = some_stylesheets modules names main (λ x r. let w = reached x r in finite x w.tree w.is) reached in
        none (_, read order_is h sheets.1)
