-- The stylesheet that modules are: what was read, in which order, and how it was checked.
use Rattle.std.proofs.Common.{◌≡◌, ℕ, Bool, true, false, List, [], ◌∷◌, Option, None, Some, Result, Ok, Err, is_some, bytes_eq, refl, sym, ap, subst, ◌∙◌, arith}
use Rattle.std.specs.Prelude.{◌||◌, if◌then◌else◌}
use Rattle.std.specs.List.{All}
use Rattle.std.specs.Result.{IsErrAnd}
use Rattle.std.proofs.lemmas.List.Elements.{All-cons, All-head, All-tail}
use Rattle.std.proofs.lemmas.Slice.Eq.{bytes_eq-Decides}
use Rattle.spec_document.specs.Forest.{Plain}
use Rattle.spec_stylesheet.specs.Sheet as spec_sheet
use Rattle.spec_structure.specs.Structure.{Fault, fault_of, links_of}
use Rattle.spec_structure.specs.Modules.{Modules, AreInReadingOrder, FirstFault, IsOrdered, Stylesheet}
use Rattle.spec_compile.specs.Reading.{Reads}
use Rattle.spec_compile.specs.Scoping as plain
use Rattle.spec_compile.specs.Unit as unit
use Rattle.spec_compile.specs.Unit.{module_of}
use Rattle.spec_compile.specs.Sheet as spec
use Rattle.spec_compile.specs.Sheet.{AreRead, none_left, faulty, well, IsRead, Said, Refusal, said_by, with_said, answer_by, earlier_of, fault_in, IsSheet, refused, read}
use Rattle.spec_compile.proofs.Orders.{AreModules, are_modules}
use Rattle.xt_syntax.specs.declared.sheet.Sheet.{Sheet}
use Rattle.xt_import.specs.Parts.{IsFaultless}
use Rattle.xt_import.specs.Tree.{IsJudged, names_in}
use Rattle.xt_import.specs.declared.listed.ListedModule.{ListedModule}
use Rattle.xt_compile.specs.Stock.{Says, is_said}
use Rattle.xt_compile.specs.View.{AllReadAs, AreJudged, AreReadAs, CheckedAs, CompiledAs, IsChecked, IsCompiled}
use Rattle.xt_compile.specs.declared.fault.SheetFault.{SheetFault}
use Rattle.xt_compile.specs.declared.fault.SheetFault.TheVariants.{Memory, NoMain, Refused}

-- ---- What is to be read

judged_all : (modules : Modules) (ls : List ListedModule) → AreModules modules (names_in ls) → All (IsJudged modules) ls → AreJudged modules ls
judged_all modules [] there all = tt
judged_all modules (l ∷ ls) there all =
    ((ap is_some there.0.1, All-head (IsJudged modules) l ls all), judged_all modules ls there.1 (All-tail (IsJudged modules) l ls all))

pub are_judged : {modules : Modules} {main : List ℕ} (ls : List ListedModule) → AreInReadingOrder modules main (names_in ls) → All (IsJudged modules) ls → AreJudged modules ls
are_judged {modules} {main} ls o all = judged_all modules ls (are_modules o tt) all

-- ---- What was read without a fault

record IsWell (tree : Plain) (link : Option Fault) (says : Result (List unit.TopLevel) Fault) (top_levels : List unit.TopLevel) : Type 0 where
  structure : fault_of 1 tree ≡ None
  links : link ≡ None
  same : says ≡ Ok top_levels

none_of : (s l : Option Fault) (says : Result (List unit.TopLevel) Fault) (ts : List unit.TopLevel) → Ok ts ≡ answer_by (earlier_of s (earlier_of l (fault_in says))) says
    → (s ≡ None) × (l ≡ None) × (says ≡ Ok ts)
none_of None None (Ok us) ts e = (refl, refl, sym e)
none_of None None (Err why) ts e = absurd (cc)
none_of None (Some f) (Ok us) ts e = absurd (cc)
none_of None (Some f) (Err why) ts e = absurd (cc)
none_of (Some g) None (Ok us) ts e = absurd (cc)
none_of (Some g) None (Err why) ts e = absurd (cc)
none_of (Some g) (Some f) (Ok us) ts e = absurd (cc)
none_of (Some g) (Some f) (Err why) ts e = absurd (cc)

faultless : {modules : Modules} {name : List ℕ} {ts : List unit.TopLevel} → IsRead modules name (Ok ts) → IsFaultless modules name
faultless {modules} {name} {ts} h =
    let n = none_of (fault_of 1 h.tree) h.link h.says ts h.whole in
    record { tree = h.tree; is = h.is; structure = n.0; links = subst (λ (l : Option Fault). FirstFault modules name (links_of 1 h.tree) l) n.1 h.links }

saying : {modules : Modules} {name : List ℕ} {ts : List unit.TopLevel} → IsRead modules name (Ok ts) → (tree : Plain) × (modules name ≡ Some tree) × Reads (module_of name 1 tree) (Ok ts)
saying {modules} {name} {ts} h =
    let n = none_of (fault_of 1 h.tree) h.link h.says ts h.whole in
    (h.tree, h.is, subst (λ (r : Result (List unit.TopLevel) Fault). Reads (module_of name 1 h.tree) r) n.2 h.reading)

abbrev AreFine : Modules → List (List ℕ) → Result (List Said) Refusal → Type 0
AreFine modules names (Ok said) = All (IsFaultless modules) names × Says modules said
AreFine modules names (Err why) = Unit {0}

no_said : {modules : Modules} → Says modules []
no_said {modules} = record { so = λ name h. absurd (cc) }

said_first : (modules : Modules) (name first : List ℕ) (ts : List unit.TopLevel) (more : List Said) (b : Bool) → bytes_eq first name ≡ b
    → IsRead modules first (Ok ts) → Says modules more → (b || is_said name more) ≡ true
    → (tree : Plain) × (modules name ≡ Some tree) × Reads (module_of name 1 tree) (Ok (if b then ts else said_by name more))
said_first modules name first ts more true e h says there =
    subst (λ (n : List ℕ). (tree : Plain) × (modules n ≡ Some tree) × Reads (module_of n 1 tree) (Ok ts)) ((bytes_eq-Decides first name).0 e) (saying h)
said_first modules name first ts more false e h says there = let s = says.so name there in (s.tree, s.is, s.reading)

one_more : {modules : Modules} {name : List ℕ} (names : List (List ℕ)) {ts : List unit.TopLevel} → IsRead modules name (Ok ts) → (rest : Result (List Said) Refusal)
    → AreFine modules names rest → AreFine modules (name ∷ names) (with_said name ts rest)
one_more {modules} {name} names {ts} h (Ok said) fine = (
  All-cons (IsFaultless modules) name names (faultless h) fine.0,
  record { so = λ n there. let s = said_first modules n name ts said (bytes_eq name n) refl h fine.1 there in record { tree = s.0; is = s.1; reading = s.2 } },
)
one_more {modules} {name} names {ts} h (Err why) fine = tt

none_fine : {modules : Modules} → All (IsFaultless modules) []
none_fine {modules} k d h = absurd (omega arith)

all_fine : {modules : Modules} {names : List (List ℕ)} {r : Result (List Said) Refusal} → AreRead modules names r → AreFine modules names r
all_fine none_left = (none_fine, no_said)
all_fine (faulty h) = tt
all_fine (well {names = names} {rest = rest} h hs) = one_more names h rest (all_fine hs)

pub are_faultless : {modules : Modules} {names : List (List ℕ)} {said : List Said} → AreRead modules names (Ok said) → All (IsFaultless modules) names
are_faultless h = (all_fine h).0

pub are_said : {modules : Modules} {names : List (List ℕ)} {said : List Said} → AreRead modules names (Ok said) → Says modules said
are_said h = (all_fine h).1

-- ---- The whole

pub compiled_refused : {modules : Modules} {main : List ℕ} {names : List (List ℕ)} {e : SheetFault} → AreInReadingOrder modules main names
    → AreReadAs modules names (Err e) → IsCompiled modules main (Err e)
compiled_refused {modules} {main} {names} {e} o h = record { so = at e h.so }
  where
    at : (e : SheetFault) → AllReadAs modules names (Err e) → CompiledAs modules main (Err e)
    at (Refused r) f = refused o f
    at Memory f = tt
    at NoMain f = absurd f

pub compiled_checked : {modules : Modules} {main : List ℕ} {names : List (List ℕ)} {said : List Said} {sheets : List Stylesheet} {ranked : List plain.Ranked}
    {result : Result Sheet SheetFault} → AreInReadingOrder modules main names → AreRead modules names (Ok said) → IsOrdered modules main sheets
    → ranked ≡ spec.ranked_from said 0 sheets → IsChecked (spec.checked names ranked) result → IsCompiled modules main result
compiled_checked {modules} {main} {names} {said} {sheets} {ranked} {result} o h q e c = record { so = at result c.so }
  where
    whole : IsSheet modules main (spec.checked names ranked)
    whole = subst (λ (rs : List plain.Ranked). IsSheet modules main (spec.checked names rs)) (sym e) (read o h q)

    at : (result : Result Sheet SheetFault) → CheckedAs (spec.checked names ranked) result → CompiledAs modules main result
    at (Ok sheet) f = subst (λ (r : Result spec_sheet.Sheet Refusal). IsSheet modules main r) f whole
    at (Err (Refused r)) f = subst (λ (r : Result spec_sheet.Sheet Refusal). IsSheet modules main r) f whole
    at (Err Memory) f = tt
    at (Err NoMain) f = absurd f

-- ---- The second pass

abbrev answer_by_first : Option Refusal → List plain.Ranked → Result spec_sheet.Sheet Refusal
answer_by_first None rs = Ok (spec.sheet_of rs)
answer_by_first (Some why) rs = Err why

by_first : (o : Option Refusal) (rs : List plain.Ranked) → elim o [ None ↦ Ok (spec.sheet_of rs) | Some why ↦ Err why ] ≡ answer_by_first o rs
by_first None rs = refl
by_first (Some why) rs = refl

pub checked_err : (names : List (List ℕ)) (rs : List plain.Ranked) (why : Refusal) → spec.first_violation names (plain.violations_of rs) ≡ Some why → spec.checked names rs ≡ Err why
checked_err names rs why e =
    by_first (spec.first_violation names (plain.violations_of rs)) rs ∙ ap (λ (o : Option Refusal). answer_by_first o rs) e

pub checked_ok : (names : List (List ℕ)) (rs : List plain.Ranked) → spec.first_violation names (plain.violations_of rs) ≡ None → spec.checked names rs ≡ Ok (spec.sheet_of rs)
checked_ok names rs e =
    by_first (spec.first_violation names (plain.violations_of rs)) rs ∙ ap (λ (o : Option Refusal). answer_by_first o rs) e

-- at the exit of a `?`
pub exits : {modules : Modules} {main : List ℕ} {e : SheetFault} (r : Result Sheet SheetFault) → IsErrAnd r (λ d. d ≡ e) → IsCompiled modules main (Err e) → IsCompiled modules main r
exits {modules} {main} (Err d) h k = subst (λ (f : SheetFault). IsCompiled modules main (Err f)) (sym h) k
exits (Ok x) h k = absurd h

pub checked_as : {names others : List (List ℕ)} {rs qs : List plain.Ranked} {result : Result Sheet SheetFault} → names ≡ others → rs ≡ qs
    → IsChecked (spec.checked names rs) result → IsChecked (spec.checked others qs) result
checked_as {result = result} e h c = subst (λ (r : Result spec_sheet.Sheet Refusal). IsChecked r result) (λ i. spec.checked (e i) (h i)) c
