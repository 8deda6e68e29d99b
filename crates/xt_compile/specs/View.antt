-- What the types of the program stand for, and what calls answer.
use Rattle.std.specs.Prelude.{◌≡◌, ℕ, List, [], ◌∷◌, map, Option, None, Some, Result, Ok, Err, IsSome}
use Rattle.std.specs.declared.alloc.Global.{Global}
use Rattle.std.specs.declared.vec.Vec.{Vec}
use Rattle.spec_structure.specs.Structure as structure
use Rattle.spec_structure.specs.Modules.{Modules}
use Rattle.spec_stylesheet.specs.Sheet as spec_sheet
use Rattle.spec_compile.specs.Unit as unit
use Rattle.spec_compile.specs.Sheet as spec
use Rattle.spec_compile.specs.Sheet.{IsRead, AreRead, IsSheet}
use Rattle.xt_syntax.specs.PartView.{place_of}
use Rattle.xt_syntax.specs.SheetView.{sheet_of}
use Rattle.xt_syntax.specs.declared.sheet.Sheet.{Sheet}
use Rattle.xt_structure.specs.View.{fault_in}
use Rattle.xt_structure.specs.declared.fault.Fault.{Fault}
use Rattle.xt_import.specs.Tree.{IsJudged}
use Rattle.xt_import.specs.declared.listed.ListedModule.{ListedModule}
use Rattle.xt_top_level.specs.View.{top_levels_in}
use Rattle.xt_top_level.specs.declared.top_level.TopLevel.{TopLevel}
use Rattle.xt_compile.specs.declared.fault.SheetFault.{SheetFault}
use Rattle.xt_compile.specs.declared.fault.SheetFault.TheVariants as faults
use Rattle.xt_compile.specs.declared.fault.StaticRefusal.{StaticRefusal}
use Rattle.xt_compile.specs.declared.read.Said.{Said}

abbrev pub refusal_in : StaticRefusal → spec.Refusal
refusal_in r = record { code = r.code; place = place_of r.place }

abbrev pub refusals_in : Option StaticRefusal → Option spec.Refusal
refusals_in None = None
refusals_in (Some r) = Some (refusal_in r)

abbrev pub said_in : Said → spec.Said
said_in s = record { module_name = s.module_name; top_levels = top_levels_in s.top_levels.items }

-- what a module says, or its fault
abbrev pub says_in : Result (Vec TopLevel Global) Fault → Result (List unit.TopLevel) structure.Fault
says_in (Ok says) = Ok (top_levels_in says.items)
says_in (Err fault) = Err (fault_in fault)

-- ---- Modules that are to be read

-- each is there, and its faults of links are found
abbrev pub AreJudged : Modules → List ListedModule → Type 0
AreJudged modules [] = Unit {0}
AreJudged modules (l ∷ ls) = (IsSome (modules l.name) × IsJudged modules l) × AreJudged modules ls

-- ---- What calls answer; of want of memory they say nothing

-- a module was read: what it says, or the refusal of its first fault
abbrev pub ReadAs : Modules → List ℕ → Result Said SheetFault → Type 0
ReadAs modules name (Ok said) = (said.module_name ≡ name) × IsRead modules name (Ok (top_levels_in said.top_levels.items))
ReadAs modules name (Err (faults.Refused r)) = (fault : structure.Fault) × IsRead modules name (Err fault) × (refusal_in r ≡ spec.refusal_at name fault)
ReadAs modules name (Err faults.Memory) = Unit {0}
ReadAs modules name (Err faults.NoMain) = ⊥

-- modules were read
abbrev pub AllReadAs : Modules → List (List ℕ) → Result (Vec Said Global) SheetFault → Type 0
AllReadAs modules names (Ok said) = AreRead modules names (Ok (map said_in said.items))
AllReadAs modules names (Err (faults.Refused r)) = AreRead modules names (Err (refusal_in r))
AllReadAs modules names (Err faults.Memory) = Unit {0}
AllReadAs modules names (Err faults.NoMain) = ⊥

-- modules were made a stylesheet
abbrev pub CompiledAs : Modules → List ℕ → Result Sheet SheetFault → Type 0
CompiledAs modules main (Ok sheet) = IsSheet modules main (Ok (sheet_of sheet))
CompiledAs modules main (Err (faults.Refused r)) = IsSheet modules main (Err (refusal_in r))
CompiledAs modules main (Err faults.Memory) = Unit {0}
CompiledAs modules main (Err faults.NoMain) = modules main ≡ None

-- the same as records, by which the answers of functions are told
pub record IsReadAs (modules : Modules) (name : List ℕ) (result : Result Said SheetFault) : Type 0 where
  pub so : ReadAs modules name result

pub record AreReadAs (modules : Modules) (names : List (List ℕ)) (result : Result (Vec Said Global) SheetFault) : Type 0 where
  pub so : AllReadAs modules names result

pub record IsCompiled (modules : Modules) (main : List ℕ) (result : Result Sheet SheetFault) : Type 0 where
  pub so : CompiledAs modules main result

-- elements were checked
abbrev pub CheckedAs : Result spec_sheet.Sheet spec.Refusal → Result Sheet SheetFault → Type 0
CheckedAs checked (Ok sheet) = checked ≡ Ok (sheet_of sheet)
CheckedAs checked (Err (faults.Refused r)) = checked ≡ Err (refusal_in r)
CheckedAs checked (Err faults.Memory) = Unit {0}
CheckedAs checked (Err faults.NoMain) = ⊥

pub record IsChecked (checked : Result spec_sheet.Sheet spec.Refusal) (result : Result Sheet SheetFault) : Type 0 where
  pub so : CheckedAs checked result
