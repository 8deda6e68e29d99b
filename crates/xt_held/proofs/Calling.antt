-- What the elements of a stylesheet are called: by their numbers, where these tell its units apart.
use Rattle.std.proofs.Common.{◌≡◌, ◌<◌, inl, inr, ℕ, ◌+◌, Bool, true, false, List, [], ◌∷◌, ◌++◌, drop, length, map, get_or, Option, None, Some, Result, Ok, Err}
use Rattle.std.proofs.Common.{bytes_eq, string_bytes, refl, sym, ap, subst, ◌∙◌}
use Rattle.std.specs.Prelude.{◌||◌, IfOk}
use Rattle.std.specs.Option.{option_copied}
use Rattle.std.specs.Str.{chars, IsUtf8}
use Rattle.std.specs.String.{string_eq}
use Rattle.std.specs.Map.{lookup}
use Rattle.std.specs.declared.alloc.Global.{Global}
use Rattle.std.specs.declared.string.String.{String}
use Rattle.std.proofs.lemmas.Result.{IfOk-weaker}
use Rattle.std.proofs.lemmas.List.{at_drop_more, append_assoc}
use Rattle.indexmap.specs.IndexMap.{insert_entry}
use Rattle.spec_document.specs.Forest.{Document}
use Rattle.spec_stylesheet.specs.Place.{Place}
use Rattle.spec_stylesheet.specs.Sheet.{Sheet, Unit as Piece}
use Rattle.spec_structure.specs.Modules.{Modules}
use Rattle.spec_compile.specs.Sheet.{IsSheet, Refusal}
use Rattle.spec_run.specs.Documents.{main_name}
use Rattle.spec_run.specs.World.{same_element}
use Rattle.spec_items.specs.Liftable.{with_items}
use Rattle.spec_node.specs.declared.node_ref.NodeRef.{NodeRef}
use Rattle.spec_reuse.specs.Among.{IsIn}
use Rattle.spec_cost.specs.Naming.{AreNumbers, IsNamed, element_called, number_at, number_by, number_in}
use Rattle.spec_cost.specs.Numbers.{NumberedModules, with_one}
use Rattle.xt_text.specs.declared.memory.Memory.{Memory}
use Rattle.xt_compile.specs.declared.fault.StaticRefusal.{StaticRefusal}
use Rattle.xt_syntax.specs.PartView.{place_of}
use Rattle.xt_syntax.specs.SheetView.{unit_of}
use Rattle.xt_syntax.specs.declared.unit.Unit.{Unit}
use Rattle.xt_world.specs.Answering.{AnswersGiven}
use Rattle.xt_world.specs.Numbered as world_numbers
use Rattle.xt_world.specs.Numbered.{IsNaming, has_unit}
use Rattle.xt_world.specs.Sameness.{element_itself, same_places}
use Rattle.xt_world.specs.declared.stylesheet.Stylesheet as world
use Rattle.xt_world.proofs.Keys.{by_characters, lookup-insert}
use Rattle.xt_held.specs.Called.{AreCalled, alone, numbered_modules, numbers_among}
use Rattle.xt_held.specs.StylesheetView.{RunsBy}
use Rattle.xt_held.specs.declared.stylesheet.Compiled.{Compiled}
use Rattle.xt_held.specs.declared.stylesheet.Compiled.TheVariants.{Stylesheet, Refused}
use Rattle.xt_held.specs.declared.tried.Tried.{Tried}
use denote.Ref.{Bor}
use Rattle.xt_held.proofs.Dropping.{IsTaken, taken}

-- ---- Units and their places

either : (a b : Bool) → b ≡ true → (a || b) ≡ true
either true b h = refl
either false b h = h

behind : (a b : Bool) → a ≡ false → (a || b) ≡ true → b ≡ true
behind true b e h = absurd (cc)
behind false b e h = h

-- a unit stands at its place
stands : (units : List Piece) (u : Piece) → IsIn u units → has_unit units u.site.place ≡ true
stands [] u h = absurd h
stands (v ∷ units) u (inl e) =
    ap (λ b. b || has_unit units u.site.place)
    (ap (λ (w : Piece). same_element u.site.place w.site.place) (sym e) ∙ element_itself u.site.place)
stands (v ∷ units) u (inr h) = either (same_element u.site.place v.site.place) (has_unit units u.site.place) (stands units u h)

-- the unit that stands at a place
record StandsAt (units : List Piece) (place : Place) : Type 0 where
  unit : Piece
  there : IsIn unit units
  is : place ≡ unit.site.place

unit_at : (units : List Piece) (place : Place) → has_unit units place ≡ true → StandsAt units place
unit_at [] place h = absurd (cc)
unit_at (v ∷ units) place h = by (λ g. unit_at units place g) (same_element place v.site.place) refl
  where
    by : (has_unit units place ≡ true → StandsAt units place) → (b : Bool) → same_element place v.site.place ≡ b → StandsAt (v ∷ units) place
    by rest true e = record { unit = v; there = inl refl; is = same_places place v.site.place e }
    by rest false e =
        let found = rest (behind (same_element place v.site.place) (has_unit units place) e h) in
        record { unit = found.unit; there = inr found.there; is = found.is }

-- ---- Numbers of units

-- where each unit has its number, the numbers of all are one for each unit
each_given : (numbered : NumberedModules) (units : List Piece) (numbers : Place → ℕ)
    → ((u : Piece) → IsIn u units → number_at numbered u.site.place ≡ Some (numbers u.site.place))
    → numbers_among numbered units ≡ world_numbers.numbers_among numbers units
each_given numbered [] numbers each = refl
each_given numbered (u ∷ units) numbers each =
    let rest = each_given numbered units numbers (λ v h. each v (inr h)) in
    λ i. alone (each u (inl refl) i) ++ rest i

-- where they tell units apart, they tell places apart
tell_apart : (numbered : NumberedModules) (units : List Piece) (numbers : Place → ℕ) → AreNumbers numbered units numbers → IsNaming numbers units
tell_apart numbered units numbers are place other there also e =
    let u = unit_at units place there in
    let v = unit_at units other also in
    u.is ∙ are.apart u.unit v.unit u.there v.there (sym (ap numbers u.is) ∙ e ∙ ap numbers v.is) ∙ sym v.is

-- so where they were given, each unit is called by the number of its element
served_so : (given : List ℕ) (held : world.Stylesheet) (sheet : Sheet) (numbered : NumberedModules) (numbers : Place → ℕ)
    → (answers : AnswersGiven given held sheet) → given ≡ numbers_among numbered sheet.units → AreNumbers numbered sheet.units numbers
    → (u : Piece) → IsIn u sheet.units → world_numbers.element_called answers.is.numbers u.site.place ≡ element_called (numbers u.site.place)
served_so given held sheet numbered numbers answers is are u there =
    ap element_called (answers.served numbers (is ∙ each_given numbered sheet.units numbers are.each)
    (tell_apart numbered sheet.units numbers are) u.site.place (stands sheet.units u there))

-- ---- What modules are

abbrev pub OneSheet : Type 0
OneSheet = (modules : Modules) (main : List ℕ) (r s : Result Sheet Refusal) → IsSheet modules main r → IsSheet modules main s → r ≡ s

abbrev ok_of : Sheet → Result Sheet Refusal → Sheet
ok_of other (Ok sheet) = sheet
ok_of other (Err why) = other

-- a stylesheet that was given the numbers of the elements of its units
stylesheet_called : OneSheet → (given : List ℕ) (numbered : NumberedModules) (modules : Modules) (sheet : Sheet) (compiled : Compiled)
    → given ≡ numbers_among numbered (with_items sheet).units → IsSheet modules main_name (Ok sheet) → RunsBy given compiled (with_items sheet)
    → AreCalled modules numbered (Some compiled)
stylesheet_called one given numbered modules sheet (Refused why) is whole runs = absurd runs
stylesheet_called one given numbered modules sheet (Stylesheet held rules method) is whole runs = (
  world_numbers.element_called runs.0.is.numbers,
  (sheet, whole, record { truth = runs.0.is.truth; globals = runs.0.is.globals }, runs.1),
  λ other numbers its are u there.
      let same : other ≡ sheet = ap (ok_of other) (one modules main_name (Ok other) (Ok sheet) its whole) in
      served_so given held (with_items sheet) numbered numbers runs.0 is
      (subst (λ (s : Sheet). AreNumbers numbered (with_items s).units numbers) same are) u
      (subst (λ (s : Sheet). IsIn u (with_items s).units) same there),
)

pub numbered_called : OneSheet → (given : List ℕ) (numbered : NumberedModules) (modules : Modules) (sheet other : Sheet) (r : Result Compiled Memory)
    → other ≡ with_items sheet → given ≡ numbers_among numbered other.units → IfOk r (λ compiled. RunsBy given compiled other)
    → IsSheet modules main_name (Ok sheet) → IfOk r (λ compiled. AreCalled modules numbered (Some compiled))
numbered_called one given numbered modules sheet other r lifted is runs whole =
    IfOk-weaker r _ _ (λ compiled so.
    stylesheet_called one given numbered modules sheet compiled (is ∙ ap (λ (s : Sheet). numbers_among numbered s.units) lifted) whole
    (subst (λ (s : Sheet). RunsBy given compiled s) lifted so)) runs

-- where there is none, its elements are called by their numbers all the same
abbrev by_number : Option ℕ → NodeRef
by_number None = element_called 0
by_number (Some number) = element_called number

all_named : (modules : Modules) (numbered : NumberedModules) → IsNamed (λ place. by_number (number_at numbered place)) modules numbered
all_named modules numbered = λ sheet numbers whole are u there. ap by_number (are.each u there)

pub none_called : (modules : Modules) (numbered : NumberedModules) → AreCalled modules numbered None
none_called modules numbered = ((λ place. by_number (number_at numbered place)), tt, all_named modules numbered)

pub refused_called : (modules : Modules) (numbered : NumberedModules) (why : StaticRefusal) → AreCalled modules numbered (Some (Refused why))
refused_called modules numbered why = ((λ place. by_number (number_at numbered place)), tt, all_named modules numbered)

-- ---- The number of the element at a place

number_so : (modules : NumberedModules) (module_name : Option (List ℕ)) (path name : List ℕ) (found : Option (Document ℕ)) → module_name ≡ Some name
    → found ≡ modules name → number_in found path ≡ number_by modules module_name path
number_so modules module_name path name found is e =
    ap (λ (d : Option (Document ℕ)). number_in d path) e ∙ ap (λ (n : Option (List ℕ)). number_by modules n path) (sym is)

-- by the module of this name, as it is found by its text
pub number_found : (es : List (String Global × Document ℕ)) (module_name : Option (List ℕ)) (path name text : List ℕ) → IsUtf8 text
    → (found : Option (Bor (Document ℕ))) → module_name ≡ Some name → chars text ≡ name
    → option_copied found ≡ lookup (λ key. bytes_eq text (string_bytes key)) es
    → number_in (option_copied found) path ≡ number_by (numbered_modules es) module_name path
number_found es module_name path name text utf8 found is same e =
    number_so (numbered_modules es) module_name path name (option_copied found) is
    (e ∙ by_characters text utf8 es ∙ ap (numbered_modules es) same)

-- the number of one unit more
pub one_more : (numbered : NumberedModules) (units : List Unit) (index : ℕ) (unit : Unit) (done new : List ℕ) (number : Option ℕ) (all : List ℕ)
    → index < length units → unit ≡ get_or units index unit → new ≡ done ++ alone number → number ≡ number_at numbered (place_of unit.site.place)
    → done ++ numbers_among numbered (map unit_of (drop index units)) ≡ all → new ++ numbers_among numbered (map unit_of (drop (index + 1) units)) ≡ all
one_more numbered units index unit done new number all within is added told h =
    let rest = numbers_among numbered (map unit_of (drop (index + 1) units)) in
    let next : numbers_among numbered (map unit_of (drop index units)) ≡ alone (number_at numbered (place_of unit.site.place)) ++ rest
    = ap (λ (us : List Unit). numbers_among numbered (map unit_of us)) (at_drop_more (λ (us : List Unit). us) units index unit within
    ∙ ap (λ (u : Unit). u ∷ drop (index + 1) units) (sym is)) in
    ap (λ (ns : List ℕ). ns ++ rest) (added ∙ ap (λ (n : Option ℕ). done ++ alone n) told)
    ∙ append_assoc done (alone (number_at numbered (place_of unit.site.place))) rest ∙ ap (λ (ns : List ℕ). done ++ ns) (sym next) ∙ h

-- ---- Modules with another among them, or without one

pub numbered-insert : (key : String Global) (document : Document ℕ) (es : List (String Global × Document ℕ))
    → numbered_modules (insert_entry string_eq es key document) ≡ with_one (chars (string_bytes key)) (Some document) (numbered_modules es)
numbered-insert key document es = λ i name. lookup-insert name key document es i

pub numbered-taken : (text : List ℕ) → IsUtf8 text → (name : List ℕ) → chars text ≡ name → (old new : List (String Global × Document ℕ))
    → IsTaken text old new → numbered_modules new ≡ with_one name None (numbered_modules old)
numbered-taken text utf8 name same old new is =
    let all : numbered_modules new ≡ with_one (chars text) None (numbered_modules old) = λ i other. taken text utf8 old new is other i in
    all ∙ ap (λ (n : List ℕ). with_one n None (numbered_modules old)) same

pub called_as : (r : Result (Option Compiled) Memory) (modules others : Modules) (numbered numbers : NumberedModules) → modules ≡ others → numbered ≡ numbers
    → IfOk r (λ compiled. AreCalled modules numbered compiled) → IfOk r (λ compiled. AreCalled others numbers compiled)
called_as r modules others numbered numbers m n h =
    subst (λ (ns : NumberedModules). IfOk r (λ compiled. AreCalled others ns compiled)) n
    (subst (λ (ms : Modules). IfOk r (λ compiled. AreCalled ms numbered compiled)) m h)

pub called_so : (r : Result (Option Compiled) Memory) (t : Result Tried Memory) (document : Document ℕ) (modules others : Modules)
    (numbered numbers : NumberedModules) → modules ≡ others → numbered ≡ numbers → IfOk r (λ compiled. AreCalled modules numbered compiled)
    → IfOk t (λ tried. (r ≡ Ok tried.compiled) × (tried.document ≡ document)) → IfOk t (λ tried. AreCalled others numbers tried.compiled)
called_so r t document modules others numbered numbers m n h told =
    IfOk-weaker t _ _ (λ tried is. subst (λ (x : Result (Option Compiled) Memory). IfOk x (λ compiled. AreCalled others numbers compiled)) is.0
    (called_as r modules others numbered numbers m n h)) told
