-- The stylesheet that modules are, or its static refusal (XSLT 1.0, sections 2.6, 5.5, 6, 7.1.4 and 11). The faults of the first pass stand in
-- one module each; only where there is none are those of the second looked for, which stand between elements. Of each pass the first counts by
-- module in reading order, then by place in document order, then the least code.
use Rattle.std.specs.Prelude.{◌≡◌, ℕ, ℤ, ◌+◌, ◌-◌, Bool, true, false, ◌&&◌, ◌||◌, ◌==◌, List, [], ◌∷◌, ◌++◌, length, map, nat_le, nat_lt, Option, None, Some, unwrap_or, Result, Ok, Err, bytes_eq, if◌then◌else◌}
use Rattle.std.specs.Ordering.{nat_cmp, int_cmp}
use Rattle.std.specs.Cmp.Lexicographic.{slice_cmp}
use Rattle.std.specs.declared.cmp.Ordering.TheVariants.{Less, Equal, Greater}
use Rattle.std.specs.List.{list_any, flat_map, filter}
use Rattle.spec_document.specs.Name.{Expanded}
use Rattle.spec_document.specs.Forest.{Plain}
use Rattle.spec_expression.specs.Code.{static_number}
use Rattle.spec_expression.specs.Syntax as tree
use Rattle.spec_expression.specs.declared.code.StaticCode.{StaticCode}
use Rattle.spec_stylesheet.specs.declared.method.Method.{Method}
use Rattle.spec_stylesheet.specs.Place.{Place}
use Rattle.spec_stylesheet.specs.Pattern.{Pattern, Alternative}
use Rattle.spec_stylesheet.specs.Sheet as sheet
use Rattle.spec_stylesheet.specs.Sheet.{Rule, Rules, SpaceRule, SpaceRules, Unit, Alias, Sheet}
use Rattle.spec_static.specs.PatternGrammar.{default_priority, test_priority}
use Rattle.spec_structure.specs.Structure.{Fault, fault_of, links_of}
use Rattle.spec_structure.specs.Modules.{Modules, AreInReadingOrder, FirstFault, Part, Stylesheet, IsOrdered}
use Rattle.spec_compile.specs.Reading.{Reads}
use Rattle.spec_compile.specs.Unit.{Declaration, ATemplate, AGlobal, ASet, AKey, ASpaceRule, AnOutput, AnAlias, TopLevel, module_of}
use Rattle.spec_compile.specs.Scoping.{Ranked, Violation, violations_of}

-- ---- Faults in their order

abbrev pub by_code : Fault → Fault → Fault
by_code a b = if nat_le (static_number a.code) (static_number b.code) then a else b

-- the earlier of two in one module: by place in document order, then by code
abbrev pub earlier : Fault → Fault → Fault
earlier a b = elim (slice_cmp nat_cmp a.path b.path) [ Less ↦ a | Equal ↦ by_code a b | Greater ↦ b ]

abbrev pub earlier_of : Option Fault → Option Fault → Option Fault
earlier_of None other = other
earlier_of (Some a) None = Some a
earlier_of (Some a) (Some b) = Some (earlier a b)

-- ---- First pass: what a module says, or the first of its faults, of structure, of the modules that it names, and of its texts

abbrev pub fault_in : {A : Type 0} → Result A Fault → Option Fault
fault_in (Ok a) = None
fault_in (Err fault) = Some fault

abbrev pub answer_by : Option Fault → Result (List TopLevel) Fault → Result (List TopLevel) Fault
answer_by (Some fault) says = Err fault
answer_by None says = says

pub record IsRead (modules : Modules) (name : List ℕ) (answer : Result (List TopLevel) Fault) : Type 0 where
  pub tree : Plain
  pub is : modules name ≡ Some tree
  pub says : Result (List TopLevel) Fault
  pub reading : Reads (module_of name 1 tree) says
  pub link : Option Fault
  pub links : FirstFault modules name (links_of 1 tree) link
  pub whole : answer ≡ answer_by (earlier_of (fault_of 1 tree) (earlier_of link (fault_in says))) says

-- a module that was read without a fault
pub record Said : Type 0 where
  pub module_name : List ℕ
  pub top_levels : List TopLevel

-- a static refusal: a code and where it stands
pub record Refusal : Type 0 where
  pub code : StaticCode
  pub place : Place

abbrev pub refusal_at : List ℕ → Fault → Refusal
refusal_at name fault = record { code = fault.code; place = record { module_name = Some name; path = fault.path } }

abbrev pub with_said : List ℕ → List TopLevel → Result (List Said) Refusal → Result (List Said) Refusal
with_said name says (Ok rest) = Ok (record { module_name = name; top_levels = says } ∷ rest)
with_said name says (Err why) = Err why

-- the modules one after another, up to the first with a fault
pub data AreRead (modules : Modules) : List (List ℕ) → Result (List Said) Refusal → Type 0 where
  none_left : AreRead modules [] (Ok [])
  faulty : {name : List ℕ} {names : List (List ℕ)} {fault : Fault} → IsRead modules name (Err fault) → AreRead modules (name ∷ names) (Err (refusal_at name fault))
  well : {name : List ℕ} {names : List (List ℕ)} {says : List TopLevel} {rest : Result (List Said) Refusal}
      → IsRead modules name (Ok says) → AreRead modules names rest → AreRead modules (name ∷ names) (with_said name says rest)

-- ---- The parts of the stylesheets in the order of precedence

abbrev pub said_by : List ℕ → List Said → List TopLevel
said_by name [] = []
said_by name (s ∷ more) = if bytes_eq s.module_name name then s.top_levels else said_by name more

abbrev pub is_at : List ℕ → TopLevel → Bool
is_at path t = bytes_eq t.site.place.path path

-- a part of a stylesheet: what its element declares, where it declares something
abbrev pub part_of : List Said → Part → List TopLevel
part_of said p = filter (is_at p.path) (said_by p.module_name said)

abbrev pub ranked : ℕ → ℕ → TopLevel → Ranked
ranked precedence imported t = record { precedence = precedence; imported = imported; top_level = t }

abbrev pub ranked_from : List Said → ℕ → List Stylesheet → List Ranked
ranked_from said precedence [] = []
ranked_from said precedence (s ∷ more) =
    map (ranked precedence (precedence - s.imported)) (flat_map (part_of said) s.parts) ++ ranked_from said (precedence + 1) more

-- ---- Units, in stylesheet order

abbrev pub unit_by : Ranked → Declaration → List Unit
unit_by r (ATemplate t pattern priority mode) = record { site = r.top_level.site; precedence = r.precedence; declared = sheet.ATemplate t } ∷ []
unit_by r (AGlobal g) = record { site = r.top_level.site; precedence = r.precedence; declared = sheet.AGlobal g } ∷ []
unit_by r (ASet s) = record { site = r.top_level.site; precedence = r.precedence; declared = sheet.ASet s } ∷ []
unit_by r (AKey k) = record { site = r.top_level.site; precedence = r.precedence; declared = sheet.AKey k } ∷ []
unit_by r (ASpaceRule strips tests) = []
unit_by r (AnOutput method) = []
unit_by r (AnAlias alias) = []

abbrev pub units_of : List Ranked → List Unit
units_of rs = flat_map (λ r. unit_by r r.top_level.declaration) rs

-- ---- Rules: one for each alternative of a template's pattern (section 5.2), which names its unit by the number of it

abbrev pub rule_of : Ranked → (unit order : ℕ) → Option ℤ → Option Expanded → Alternative → Rule
rule_of r unit order priority mode a = record {
  pattern = record { alternatives = a ∷ [] };
  precedence = r.precedence;
  imported = r.imported;
  priority = unwrap_or priority (default_priority a);
  order = order;
  mode = mode;
  unit = unit;
}

abbrev pub rules_for : Ranked → (unit order : ℕ) → Option ℤ → Option Expanded → List Alternative → List Rule
rules_for r unit order priority mode [] = []
rules_for r unit order priority mode (a ∷ more) = rule_of r unit order priority mode a ∷ rules_for r unit (order + 1) priority mode more

abbrev pub alternatives_in : Option Pattern → List Alternative
alternatives_in None = []
alternatives_in (Some p) = p.alternatives

abbrev pub rules_by : Ranked → (unit order : ℕ) → Declaration → List Rule
rules_by r unit order (ATemplate t pattern priority mode) = rules_for r unit order priority mode (alternatives_in pattern)
rules_by r unit order _ = []

abbrev pub rules_from : (unit order : ℕ) → List Ranked → List Rule
rules_from unit order [] = []
rules_from unit order (r ∷ more) =
    let own = rules_by r unit order r.top_level.declaration in
    own ++ rules_from (unit + length (unit_by r r.top_level.declaration)) (order + length own) more

-- the greater first: by precedence, then by priority, then the later
abbrev pub is_greater : Rule → Rule → Bool
is_greater a b =
    nat_lt b.precedence a.precedence
    || ((a.precedence == b.precedence) && elim (int_cmp a.priority b.priority) [ Greater ↦ true | Less ↦ false | Equal ↦ nat_lt b.order a.order ])

abbrev pub put_rule : Rule → List Rule → List Rule
put_rule r [] = r ∷ []
put_rule r (s ∷ ss) = if is_greater r s then r ∷ s ∷ ss else s ∷ put_rule r ss

abbrev pub in_rank : List Rule → List Rule
in_rank [] = []
in_rank (r ∷ rs) = put_rule r (in_rank rs)

-- ---- Rules of white space, aliases and the output method: of the aliases of one URI, and of the methods, the one of the highest precedence
-- counts, and of these the last

abbrev pub space_rule : Ranked → Bool → tree.Test → SpaceRule
space_rule r strips test = record { test = test; precedence = r.precedence; priority = test_priority test; strips = strips }

abbrev pub space_rules_by : Ranked → Declaration → List SpaceRule
space_rules_by r (ASpaceRule strips tests) = map (space_rule r strips) tests
space_rules_by r _ = []

-- stylesheet order goes by precedence, so the last that is there is the one that counts
abbrev pub last_method : Option (Method Expanded) → List Ranked → Option (Method Expanded)
last_method before [] = before
last_method before (r ∷ more) = elim r.top_level.declaration [
  | AnOutput (Some m) ↦ last_method (Some m) more
  | AnOutput None ↦ last_method before more
  | ATemplate t p n m ↦ last_method before more
  | AGlobal g ↦ last_method before more
  | ASet s ↦ last_method before more
  | AKey k ↦ last_method before more
  | ASpaceRule s t ↦ last_method before more
  | AnAlias a ↦ last_method before more
]

abbrev pub alias_in : Declaration → List Alias
alias_in (AnAlias a) = a ∷ []
alias_in _ = []

abbrev pub is_alias_of : Alias → Alias → Bool
is_alias_of a b = bytes_eq a.stylesheet b.stylesheet

abbrev pub last_aliases : List Alias → List Alias
last_aliases [] = []
last_aliases (a ∷ more) = if list_any (is_alias_of a) more then last_aliases more else a ∷ last_aliases more

abbrev pub sheet_of : List Ranked → Sheet
sheet_of rs = record {
  units = units_of rs;
  rules = record { rules = in_rank (rules_from 0 0 rs) };
  space_rules = record { rules = flat_map (λ r. space_rules_by r r.top_level.declaration) rs };
  method = last_method None rs;
  aliases = last_aliases (flat_map (λ r. alias_in r.top_level.declaration) rs);
}

-- ---- Second pass: the first of the faults between elements, by module in reading order, then by place, then by code

abbrev pub refused_there : Violation → Refusal
refused_there v = record { code = v.code; place = v.place }

abbrev pub fault_there : Violation → Fault
fault_there v = record { code = v.code; path = v.place.path }

abbrev pub is_in : List ℕ → Violation → Bool
is_in name v = elim v.place.module_name [ None ↦ false | Some other ↦ bytes_eq other name ]

abbrev pub first_in : List Violation → Option Fault
first_in [] = None
first_in (v ∷ vs) = earlier_of (Some (fault_there v)) (first_in vs)

abbrev pub first_violation : List (List ℕ) → List Violation → Option Refusal
first_violation [] vs = None
first_violation (name ∷ names) vs = elim (first_in (filter (is_in name) vs)) [ None ↦ first_violation names vs | Some fault ↦ Some (refusal_at name fault) ]

abbrev pub checked : List (List ℕ) → List Ranked → Result Sheet Refusal
checked order rs = elim (first_violation order (violations_of rs)) [ None ↦ Ok (sheet_of rs) | Some why ↦ Err why ]

-- ---- The whole: the stylesheet of the module of this name with those that it reaches, or its refusal

pub data IsSheet (modules : Modules) (main : List ℕ) : Result Sheet Refusal → Type 0 where
  refused : {order : List (List ℕ)} {why : Refusal}
      → AreInReadingOrder modules main order → AreRead modules order (Err why) → IsSheet modules main (Err why)
  read : {order : List (List ℕ)} {said : List Said} {stylesheets : List Stylesheet}
      → AreInReadingOrder modules main order → AreRead modules order (Ok said) → IsOrdered modules main stylesheets
      → IsSheet modules main (checked order (ranked_from said 0 stylesheets))
