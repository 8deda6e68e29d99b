-- What a module says is one, or its first fault is, and so are what the modules in an order say and the stylesheet that they are.
use Rattle.std.proofs.Common.{◌≡◌, ℕ, List, Option, Result, Ok, Err, refl, sym, ap, subst, ◌∙◌}
use Rattle.spec_document.specs.Forest.{Plain}
use Rattle.spec_stylesheet.specs.Sheet.{Sheet}
use Rattle.spec_structure.specs.Structure.{Fault, fault_of, links_of}
use Rattle.spec_structure.specs.Modules.{Modules, AreInReadingOrder, FirstFault}
use Rattle.spec_compile.specs.Reading.{Reads}
use Rattle.spec_compile.specs.Unit.{TopLevel, module_of}
use Rattle.spec_compile.specs.Sheet.{fault_in, answer_by, earlier_of, IsRead, Said, Refusal, refusal_at, with_said, AreRead, none_left, faulty, well, ranked_from, checked, IsSheet, refused, read}
use Rattle.spec_compile.proofs.Readings.{OneAnswer, one_value}
use Rattle.spec_compile.proofs.Modules.{some_same, one_fault, one_order}

-- ---- A module

abbrev answer_of : Plain → Option Fault → Result (List TopLevel) Fault → Result (List TopLevel) Fault
answer_of tree link says = answer_by (earlier_of (fault_of 1 tree) (earlier_of link (fault_in says))) says

one_module : {modules : Modules} {name : List ℕ} {a b : Result (List TopLevel) Fault} → OneAnswer → IsRead modules name a → IsRead modules name b
    → a ≡ b
one_module {modules} {name} one h g =
    let same : g.tree ≡ h.tree = some_same g.tree h.tree (sym g.is ∙ h.is) in
    let reading : Reads (module_of name 1 h.tree) g.says = subst (λ (t : Plain). Reads (module_of name 1 t) g.says) same g.reading in
    let says : h.says ≡ g.says = one_value one (module_of name 1 h.tree) h.says g.says h.reading reading in
    let links : FirstFault modules name (links_of 1 h.tree) g.link = subst (λ (t : Plain). FirstFault modules name (links_of 1 t) g.link) same g.links in
    let link : h.link ≡ g.link = one_fault h.tree h.is h.links links in
    h.whole ∙ (λ i. answer_of (sym same i) (link i) (says i)) ∙ sym g.whole

-- ---- The modules in an order

abbrev ok_of : {A E : Type 0} → A → Result A E → A
ok_of other (Ok a) = a
ok_of other (Err why) = other

abbrev err_of : {A E : Type 0} → E → Result A E → E
err_of other (Ok a) = other
err_of other (Err why) = why

one_reading : {modules : Modules} {names : List (List ℕ)} {a b : Result (List Said) Refusal} → OneAnswer → AreRead modules names a
    → AreRead modules names b → a ≡ b
one_reading one none_left none_left = refl
one_reading one (faulty {name = name} {fault = fault} h) (faulty {fault = other} g) =
    let same : fault ≡ other = ap (err_of fault) (one_module one h g) in λ i. Err (refusal_at name (same i))
one_reading one (faulty h) (well g gs) = let n = one_module one h g in absurd (cc)
one_reading one (well h hs) (faulty g) = let n = one_module one h g in absurd (cc)
one_reading one (well {name = name} {says = says} h hs) (well {says = others} g gs) =
    let same : says ≡ others = ap (ok_of says) (one_module one h g) in let rest = one_reading one hs gs in λ i. with_said name (same i) (rest i)

-- ---- The stylesheet

abbrev pub OneReadingOrder : Type 0
OneReadingOrder =
    (modules : Modules) (main : List ℕ) (names others : List (List ℕ)) → AreInReadingOrder modules main names → AreInReadingOrder modules main others → names ≡ others

-- in two orders that are one
read_again : {modules : Modules} {names others : List (List ℕ)} {a b : Result (List Said) Refusal} → OneAnswer → names ≡ others → AreRead modules names a
    → AreRead modules others b → a ≡ b
read_again {modules} {names} {others} {a} {b} one same h g = one_reading one h (subst (λ (ns : List (List ℕ)). AreRead modules ns b) (sym same) g)

pub one_whole : {modules : Modules} {main : List ℕ} {r s : Result Sheet Refusal} → OneReadingOrder → OneAnswer → IsSheet modules main r
    → IsSheet modules main s → r ≡ s
one_whole one_order_of one (refused {why = why} o h) (refused {why = other} p g) =
    let same : why ≡ other = ap (err_of why) (read_again one (one_order_of _ _ _ _ o p) h g) in λ i. Err (same i)
one_whole one_order_of one (refused o h) (read p g q) = let n = read_again one (one_order_of _ _ _ _ o p) h g in absurd (cc)
one_whole one_order_of one (read o h q) (refused p g) = let n = read_again one (one_order_of _ _ _ _ o p) h g in absurd (cc)
one_whole one_order_of one (read {order = order} {said = said} o h q) (read {order = other} {said = others} p g t) =
    let names : order ≡ other = one_order_of _ _ _ _ o p in
    let same : said ≡ others = ap (ok_of said) (read_again one names h g) in
    let sheets = one_order q t in
    λ i. checked (names i) (ranked_from (same i) 0 (sheets i))
