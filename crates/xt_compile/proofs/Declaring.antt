-- What a stylesheet declares, put together from its front.
use Rattle.std.proofs.Common.{◌≡◌, ℕ, ℤ, ◌+◌, List, [], ◌∷◌, ◌++◌, length, map, Option, None, Some, refl, sym, ap, subst, ◌∙◌, append_assoc, arith}
use Rattle.std.specs.List.{flat_map}
use Rattle.std.proofs.lemmas.List.{length-append, length-map}
use Rattle.spec_document.specs.Name.{Expanded}
use Rattle.spec_stylesheet.specs.declared.method.Method.{Method}
use Rattle.spec_stylesheet.specs.Place.{Site}
use Rattle.spec_stylesheet.specs.Pattern as tree
use Rattle.spec_stylesheet.specs.Sheet as sheet
use Rattle.spec_compile.specs.Content.{Uses, Outline}
use Rattle.spec_compile.specs.Scoping as plain
use Rattle.spec_compile.specs.Unit.{Declaration, ATemplate, AGlobal, ASet, AKey, ASpaceRule, AnOutput, AnAlias}
use Rattle.spec_compile.specs.Sheet as spec
use Rattle.xt_syntax.specs.SheetView.{alias_of, rule_of, space_rule_of, unit_of}
use Rattle.xt_scoping.specs.View.{ranked_in}
use Rattle.xt_scoping.specs.declared.violation.Ranked.{Ranked}
use Rattle.xt_rank.specs.Rank.{AreNumbered}
use Rattle.xt_compile.specs.Rules.{rules_by}
use Rattle.xt_compile.specs.declared.declared.Declared.{Declared}

abbrev pub space_rules_of : List plain.Ranked → List sheet.SpaceRule
space_rules_of rs = flat_map (λ r. spec.space_rules_by r r.top_level.declaration) rs

abbrev pub aliases_of : List plain.Ranked → List sheet.Alias
aliases_of rs = flat_map (λ r. spec.alias_in r.top_level.declaration) rs

-- what was declared with what these declare is what all declare
pub record Goes (d : Declared) (left all : List Ranked) : Type 0 where
  pub units : map unit_of d.units.items ++ spec.units_of (map ranked_in left) ≡ spec.units_of (map ranked_in all)
  pub rules : map rule_of d.rules.items ++ spec.rules_from (length d.units.items) (length d.rules.items) (map ranked_in left) ≡ spec.rules_from 0 0 (map ranked_in all)
  pub space_rules : map space_rule_of d.space_rules.items ++ space_rules_of (map ranked_in left) ≡ space_rules_of (map ranked_in all)
  pub method : spec.last_method d.method (map ranked_in left) ≡ spec.last_method None (map ranked_in all)
  pub aliases : map alias_of d.aliases.items ++ aliases_of (map ranked_in left) ≡ aliases_of (map ranked_in all)

pub begins : (d : Declared) (all : List Ranked) → d.units.items ≡ [] → d.rules.items ≡ [] → d.space_rules.items ≡ [] → d.method ≡ None → d.aliases.items ≡ []
    → Goes d all all
begins d all u r s m a = record {
  units = ap (λ (us : List _). map unit_of us ++ spec.units_of (map ranked_in all)) u;
  rules = (λ i. map rule_of (r i) ++ spec.rules_from (length (u i)) (length (r i)) (map ranked_in all));
  space_rules = (λ i. map space_rule_of (s i) ++ space_rules_of (map ranked_in all));
  method = (λ i. spec.last_method (m i) (map ranked_in all));
  aliases = (λ i. map alias_of (a i) ++ aliases_of (map ranked_in all));
}

-- what one more declares
pub record Adds (d e : Declared) (r : plain.Ranked) : Type 0 where
  pub units : map unit_of e.units.items ≡ map unit_of d.units.items ++ spec.unit_by r r.top_level.declaration
  pub rules : map rule_of e.rules.items ≡ map rule_of d.rules.items ++ spec.rules_by r (length d.units.items) (length d.rules.items) r.top_level.declaration
  pub space_rules : map space_rule_of e.space_rules.items ≡ map space_rule_of d.space_rules.items ++ spec.space_rules_by r r.top_level.declaration
  pub method : e.method ≡ spec.last_method d.method (r ∷ [])
  pub aliases : map alias_of e.aliases.items ≡ map alias_of d.aliases.items ++ spec.alias_in r.top_level.declaration

method_by : (m : Option (Method Expanded)) (p i : ℕ) (site : Site) (d : Declaration) (uses : Uses) (outline : Outline) (left : List plain.Ranked)
    → spec.last_method (spec.last_method m (record { precedence = p; imported = i; top_level = record { site = site; declaration = d; uses = uses; outline = outline } } ∷ [])) left
    ≡ spec.last_method m (record { precedence = p; imported = i; top_level = record { site = site; declaration = d; uses = uses; outline = outline } } ∷ left)
method_by m p i site (ATemplate t n q k) uses outline left = refl
method_by m p i site (AGlobal g) uses outline left = refl
method_by m p i site (ASet s) uses outline left = refl
method_by m p i site (AKey k) uses outline left = refl
method_by m p i site (ASpaceRule s t) uses outline left = refl
method_by m p i site (AnOutput None) uses outline left = refl
method_by m p i site (AnOutput (Some n)) uses outline left = refl
method_by m p i site (AnAlias a) uses outline left = refl

method_then : (m : Option (Method Expanded)) (r : plain.Ranked) (left : List plain.Ranked)
    → spec.last_method (spec.last_method m (r ∷ [])) left ≡ spec.last_method m (r ∷ left)
method_then m r left = method_by m r.precedence r.imported r.top_level.site r.top_level.declaration r.top_level.uses r.top_level.outline left

-- a list with more behind it, in two steps
joined : {X Y : Type 0} (f : X → Y) (old new : List X) (own more : List Y) → map f new ≡ map f old ++ own → map f new ++ more ≡ map f old ++ (own ++ more)
joined f old new own more e = ap (λ (ys : List _). ys ++ more) e ∙ append_assoc (map f old) own more

counted : {X Y : Type 0} (f : X → Y) (old new : List X) (own : List Y) → map f new ≡ map f old ++ own → length new ≡ length old + length own
counted f old new own e =
    sym (length-map new f) ∙ ap length e ∙ length-append (map f old) own ∙ ap (λ (n : ℕ). n + length own) (length-map old f)

pub goes_on : (d e : Declared) (r : Ranked) (left all : List Ranked) → Adds d e (ranked_in r) → Goes d (r ∷ left) all → Goes e left all
goes_on d e r left all a g =
    let x = ranked_in r in
    let rest = map ranked_in left in
    let own = spec.rules_by x (length d.units.items) (length d.rules.items) x.top_level.declaration in
    let units = counted unit_of d.units.items e.units.items (spec.unit_by x x.top_level.declaration) a.units in
    let rules = counted rule_of d.rules.items e.rules.items own a.rules in
    record {
      units = joined unit_of d.units.items e.units.items (spec.unit_by x x.top_level.declaration) (spec.units_of rest) a.units ∙ g.units;
      rules = (λ i. map rule_of e.rules.items ++ spec.rules_from (units i) (rules i) rest)
          ∙ joined rule_of d.rules.items e.rules.items own
          (spec.rules_from (length d.units.items + length (spec.unit_by x x.top_level.declaration)) (length d.rules.items + length own) rest) a.rules ∙ g.rules;
      space_rules = joined space_rule_of d.space_rules.items e.space_rules.items (spec.space_rules_by x x.top_level.declaration) (space_rules_of rest) a.space_rules
          ∙ g.space_rules;
      method = ap (λ (m : Option (Method Expanded)). spec.last_method m rest) a.method ∙ method_then d.method x rest ∙ g.method;
      aliases = joined alias_of d.aliases.items e.aliases.items (spec.alias_in x.top_level.declaration) (aliases_of rest) a.aliases ∙ g.aliases;
    }

pub ends : (d : Declared) (left all : List Ranked) → left ≡ [] → Goes d left all → Goes d [] all
ends d left all none g = subst (λ (rs : List Ranked). Goes d rs all) none g

-- ---- The rules of a template, by what they have in common

pub rules_for_is : (r : plain.Ranked) (unit order : ℕ) (priority : Option ℤ) (mode : Option Expanded) (alternatives : List tree.Alternative)
    → rules_by (record { precedence = r.precedence; imported = r.imported; priority = priority; mode = mode; unit = unit }) order alternatives
    ≡ spec.rules_for r unit order priority mode alternatives
rules_for_is r unit order priority mode [] = refl
rules_for_is r unit order priority mode (a ∷ more) =
    ap (λ (rs : List sheet.Rule). spec.rule_of r unit order priority mode a ∷ rs) (rules_for_is r unit (order + 1) priority mode more)

-- ---- Rules are numbered in their order

numbered_both : (n : ℕ) (xs ys : List sheet.Rule) → AreNumbered n xs → AreNumbered (n + length xs) ys → AreNumbered n (xs ++ ys)
numbered_both n [] ys h g = subst (λ (k : ℕ). AreNumbered k ys) (omega arith) g
numbered_both n (x ∷ xs) ys h g =
    (h.0, numbered_both (n + 1) xs ys h.1 (subst (λ (k : ℕ). AreNumbered k ys) (omega arith) g))

numbered_for : (r : plain.Ranked) (unit order : ℕ) (priority : Option ℤ) (mode : Option Expanded) (alternatives : List tree.Alternative)
    → AreNumbered order (spec.rules_for r unit order priority mode alternatives)
numbered_for r unit order priority mode [] = tt
numbered_for r unit order priority mode (a ∷ more) = (refl, numbered_for r unit (order + 1) priority mode more)

numbered_by : (r : plain.Ranked) (unit order : ℕ) (d : Declaration) → AreNumbered order (spec.rules_by r unit order d)
numbered_by r unit order (ATemplate t pattern priority mode) = numbered_for r unit order priority mode (spec.alternatives_in pattern)
numbered_by r unit order (AGlobal g) = tt
numbered_by r unit order (ASet s) = tt
numbered_by r unit order (AKey k) = tt
numbered_by r unit order (ASpaceRule s t) = tt
numbered_by r unit order (AnOutput m) = tt
numbered_by r unit order (AnAlias a) = tt

pub numbered : (unit order : ℕ) (rs : List plain.Ranked) → AreNumbered order (spec.rules_from unit order rs)
numbered unit order [] = tt
numbered unit order (r ∷ more) =
    let own = spec.rules_by r unit order r.top_level.declaration in
    numbered_both order own (spec.rules_from (unit + length (spec.unit_by r r.top_level.declaration)) (order + length own) more)
    (numbered_by r unit order r.top_level.declaration) (numbered (unit + length (spec.unit_by r r.top_level.declaration)) (order + length own) more)
