-- Which names attribute sets reach.
use Rattle.std.specs.Prelude.{◌≡◌, ℕ, zero, suc, true, List, [], ◌++◌, map, Option, None, Some}
use Rattle.std.specs.Borrow.{Bor}
use Rattle.std.specs.List.{flat_map}
use Rattle.std.specs.Map.{lookup}
use Rattle.std.specs.declared.alloc.Global.{Global}
use Rattle.std.specs.declared.vec.Vec.{Vec}
use Rattle.spec_document.specs.Name.{Expanded, same_name}
use Rattle.spec_stylesheet.specs.Sheet as spec
use Rattle.spec_compile.specs.Scoping.{is_named, set_in}
use Rattle.xt_syntax.specs.SheetView.{attribute_set_of}
use Rattle.xt_syntax.specs.declared.unit.AttributeSet.{AttributeSet}
use Rattle.xt_scoping.specs.declared.graph.Graph.{Graph}
use Rattle.xt_scoping.specs.declared.key.Key.{Key}
use Rattle.xt_scoping.specs.declared.violation.Ranked.{Ranked}
use Rattle.xt_scoping.specs.Steps.{declared_in}

abbrev pub names_at : List (Bor Expanded) → List Expanded
names_at refs = map (λ r. r.now) refs

abbrev pub sets_at : List (Bor AttributeSet) → List spec.AttributeSet
sets_at refs = map (λ r. attribute_set_of r.now) refs

-- the attribute sets that are declared
abbrev pub sets_in : List Ranked → List spec.AttributeSet
sets_in rs = flat_map set_in (declared_in rs)

abbrev pub all_in : List (Bor (List Expanded)) → List Expanded
all_in lists = flat_map (λ l. l.now) lists

abbrev pub all_of : Option (Vec (Bor (List Expanded)) Global) → List Expanded
all_of None = []
all_of (Some lists) = all_in lists.items

-- the names that the sets of a name use
abbrev pub used_among : List (Key × Vec (Bor (List Expanded)) Global) → Expanded → List Expanded
used_among entries name = all_of (lookup (λ k. same_name name k.name.now) entries)

abbrev pub used_in : Graph → Expanded → List Expanded
used_in graph name = used_among graph.uses.entries name

-- the names that are reached from these in at most so many steps
abbrev pub reached_by : (Expanded → List Expanded) → ℕ → List Expanded → List Expanded
reached_by used zero names = names
reached_by used (suc more) names = names ++ reached_by used more (flat_map used names)

-- each of the first is one of the others
abbrev pub IsWithin : List Expanded → List Expanded → Type 0
IsWithin names others = (n : Expanded) → is_named names n ≡ true → is_named others n ≡ true
