-- Modules read one after another, up to the first with a fault.
use Rattle.std.proofs.Common.{◌≡◌, ℕ, List, [], ◌∷◌, ◌++◌, map, Option, Some, Result, Ok, Err, refl, sym, ap, subst, ◌∙◌}
use Rattle.std.specs.Result.{IsErrAnd}
use Rattle.std.specs.declared.alloc.Global.{Global}
use Rattle.std.specs.declared.vec.Vec.{Vec}
use Rattle.spec_document.specs.Forest.{Plain}
use Rattle.spec_structure.specs.Structure as structure
use Rattle.spec_structure.specs.Structure.{fault_of}
use Rattle.spec_structure.specs.Modules.{Modules, FirstFault, links_by}
use Rattle.spec_compile.specs.Reading.{Reads}
use Rattle.spec_compile.specs.Unit.{module_of}
use Rattle.spec_compile.specs.Sheet as spec
use Rattle.spec_compile.specs.Sheet.{AreRead, none_left, faulty, well, IsRead, Refusal, with_said, refusal_at}
use Rattle.xt_compile.specs.View.{said_in, refusal_in, AreJudged, ReadAs, IsReadAs, AllReadAs, AreReadAs, says_in}
use Rattle.xt_compile.specs.declared.fault.SheetFault.{SheetFault}
use Rattle.xt_compile.specs.declared.fault.SheetFault.TheVariants.{Memory, NoMain, Refused}
use Rattle.xt_compile.specs.declared.fault.StaticRefusal.{StaticRefusal}
use Rattle.xt_compile.specs.declared.read.Said.{Said}
use Rattle.xt_import.specs.Tree.{names_in, IsJudged}
use Rattle.xt_import.specs.declared.listed.ListedModule.{ListedModule}
use Rattle.xt_structure.specs.View.{fault_in, faults_in}
use Rattle.xt_structure.specs.declared.fault.Fault.{Fault}
use Rattle.xt_top_level.specs.View.{top_levels_in}
use Rattle.xt_top_level.specs.declared.top_level.TopLevel.{TopLevel}

-- what was said before, and then this
abbrev pub with_all : List spec.Said → Result (List spec.Said) Refusal → Result (List spec.Said) Refusal
with_all [] r = r
with_all (s ∷ ss) r = with_said s.module_name s.top_levels (with_all ss r)

all_well : (ss : List spec.Said) → with_all ss (Ok []) ≡ Ok ss
all_well [] = refl
all_well (s ∷ ss) = ap (with_said s.module_name s.top_levels) (all_well ss)

one_refused : (ss : List spec.Said) (why : Refusal) → with_all ss (Err why) ≡ Err why
one_refused [] why = refl
one_refused (s ∷ ss) why = ap (with_said s.module_name s.top_levels) (one_refused ss why)

with_more : (ss : List spec.Said) (s : spec.Said) (r : Result (List spec.Said) Refusal) → with_all (ss ++ s ∷ []) r ≡ with_all ss (with_said s.module_name s.top_levels r)
with_more [] s r = refl
with_more (t ∷ ss) s r = ap (with_said t.module_name t.top_levels) (with_more ss s r)

-- whatever those that are left come to, after what was said, all come to
pub record Goes (modules : Modules) (said : List Said) (left all : List ListedModule) : Type 0 where
  pub judged : AreJudged modules left
  pub so : (r : Result (List spec.Said) Refusal) → AreRead modules (names_in left) r → AreRead modules (names_in all) (with_all (map said_in said) r)

pub begins : {modules : Modules} {all : List ListedModule} → AreJudged modules all → Goes modules [] all all
begins j = record { judged = j; so = λ r h. h }

pub at_next : {modules : Modules} {said : List Said} {left rest all : List ListedModule} {l : ListedModule} → left ≡ l ∷ rest → Goes modules said left all → Goes modules said (l ∷ rest) all
at_next {modules} {said} {left} {rest} {all} {l} e g = subst (λ (ls : List ListedModule). Goes modules said ls all) e g

pub goes_on : {modules : Modules} {said after : List Said} {rest all : List ListedModule} {l : ListedModule} {s : Said} → Goes modules said (l ∷ rest) all
    → IsReadAs modules l.name (Ok s) → map said_in after ≡ map said_in said ++ said_in s ∷ [] → Goes modules after rest all
goes_on {modules} {said} {after} {rest} {all} {l} {s} g h e = record {
  judged = g.judged.1;
  so = λ r hs.
      subst (λ (x : Result (List spec.Said) Refusal). AreRead modules (names_in all) x)
      (sym (ap (λ (ss : List spec.Said). with_all ss r) e ∙ with_more (map said_in said) (said_in s) r))
      (g.so (with_said s.module_name (top_levels_in s.top_levels.items) r)
      (subst (λ (name : List ℕ). AreRead modules (l.name ∷ names_in rest) (with_said name (top_levels_in s.top_levels.items) r)) (sym h.so.0) (well h.so.1 hs)));
}

pub stops : {modules : Modules} {said : List Said} {rest all : List ListedModule} {l : ListedModule} {e : SheetFault} → Goes modules said (l ∷ rest) all
    → IsReadAs modules l.name (Err e) → AreReadAs modules (names_in all) (Err e)
stops {modules} {said} {rest} {all} {l} {e} g h = record { so = at e h.so }
  where
    at : (e : SheetFault) → ReadAs modules l.name (Err e) → AllReadAs modules (names_in all) (Err e)
    at (Refused r) f =
        subst (λ (x : Result (List spec.Said) Refusal). AreRead modules (names_in all) x)
        (one_refused (map said_in said) (refusal_at l.name f.0) ∙ (λ i. Err (sym f.2 i)))
        (g.so (Err (refusal_at l.name f.0)) (faulty f.1))
    at Memory f = tt
    at NoMain f = f

pub ends : {modules : Modules} {said : List Said} {left all : List ListedModule} → left ≡ [] → Goes modules said left all → AreRead modules (names_in all) (Ok (map said_in said))
ends {modules} {said} {left} {all} e g =
    subst (λ (x : Result (List spec.Said) Refusal). AreRead modules (names_in all) x) (all_well (map said_in said))
    (g.so (Ok []) (subst (λ (ls : List ListedModule). AreRead modules (names_in ls) (Ok [])) (sym e) none_left))

-- ---- A module

is_read : {modules : Modules} (l : ListedModule) (tree : Plain) (own : Option Fault) (says r : Result (Vec TopLevel Global) Fault)
    → modules l.name ≡ Some tree → IsJudged modules l → faults_in own ≡ fault_of 1 tree → Reads (module_of l.name 1 tree) (says_in says)
    → says_in r ≡ spec.answer_by (spec.earlier_of (faults_in own) (spec.earlier_of (faults_in l.link_fault) (spec.fault_in (says_in says)))) (says_in says)
    → IsRead modules l.name (says_in r)
is_read {modules} l tree own says r is judged fault reading whole = record {
  tree = tree;
  is = is;
  says = says_in says;
  reading = reading;
  link = faults_in l.link_fault;
  links = subst (λ (ls : List structure.Link). FirstFault modules l.name ls (faults_in l.link_fault)) (ap links_by is) judged;
  whole = whole ∙ ap (λ (f : Option structure.Fault). spec.answer_by (spec.earlier_of f (spec.earlier_of (faults_in l.link_fault) (spec.fault_in (says_in says)))) (says_in says)) fault;
}

pub read_well : {modules : Modules} (l : ListedModule) (tree : Plain) (own : Option Fault) (says r : Result (Vec TopLevel Global) Fault) (top_levels : Vec TopLevel Global)
    → modules l.name ≡ Some tree → IsJudged modules l → faults_in own ≡ fault_of 1 tree → Reads (module_of l.name 1 tree) (says_in says)
    → says_in r ≡ spec.answer_by (spec.earlier_of (faults_in own) (spec.earlier_of (faults_in l.link_fault) (spec.fault_in (says_in says)))) (says_in says)
    → r ≡ Ok top_levels → IsReadAs modules l.name (Ok (record { module_name = l.name; top_levels = top_levels }))
read_well {modules} l tree own says r top_levels is judged fault reading whole ok =
    record { so = (refl, subst (λ (x : Result (Vec TopLevel Global) Fault). IsRead modules l.name (says_in x)) ok (is_read l tree own says r is judged fault reading whole)) }

pub read_faulty : {modules : Modules} (l : ListedModule) (tree : Plain) (own : Option Fault) (says r : Result (Vec TopLevel Global) Fault) (why : Fault) (refusal : StaticRefusal)
    → modules l.name ≡ Some tree → IsJudged modules l → faults_in own ≡ fault_of 1 tree → Reads (module_of l.name 1 tree) (says_in says)
    → says_in r ≡ spec.answer_by (spec.earlier_of (faults_in own) (spec.earlier_of (faults_in l.link_fault) (spec.fault_in (says_in says)))) (says_in says)
    → r ≡ Err why → refusal_in refusal ≡ refusal_at l.name (fault_in why) → IsReadAs modules l.name (Err (Refused refusal))
read_faulty {modules} l tree own says r why refusal is judged fault reading whole err at = record {
  so = (fault_in why, subst (λ (x : Result (Vec TopLevel Global) Fault). IsRead modules l.name (says_in x)) err (is_read l tree own says r is judged fault reading whole), at);
}

pub read_memory : {modules : Modules} {name : List ℕ} {e : SheetFault} → e ≡ Memory → IsReadAs modules name (Err e)
read_memory {modules} {name} h = record { so = subst (λ (e : SheetFault). ReadAs modules name (Err e)) (sym h) tt }

pub all_memory : {modules : Modules} {names : List (List ℕ)} {e : SheetFault} → e ≡ Memory → AreReadAs modules names (Err e)
all_memory {modules} {names} h = record { so = subst (λ (e : SheetFault). AllReadAs modules names (Err e)) (sym h) tt }

-- at the exit of a `?`
pub exits_all : {modules : Modules} {names : List (List ℕ)} {e : SheetFault} (r : Result (Vec Said Global) SheetFault) → IsErrAnd r (λ d. d ≡ e) → AreReadAs modules names (Err e)
    → AreReadAs modules names r
exits_all {modules} {names} (Err d) h k = subst (λ (f : SheetFault). AreReadAs modules names (Err f)) (sym h) k
exits_all (Ok x) h k = absurd h
