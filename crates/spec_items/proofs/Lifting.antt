-- A stylesheet whose contents were lifted, where they may be, comes to the same.
use Rattle.std.proofs.Common.{◌≡◌, ℕ, zero, suc, List, [], ◌∷◌, Bool, true, false, cond, Option, None, Some, Ok, refl, sym, ap, subst, arith, ◌∙◌}
use Rattle.std.specs.Prelude.{◌&&◌, ◌<◌, not, nat_lt, length, slice_get}
use Rattle.std.proofs.lemmas.Bool.{ltb-true}
use Rattle.std.specs.List.{find, list_all, list_any}
use Rattle.spec_document.specs.Forest.{Document, Plain}
use Rattle.spec_document.specs.Order.{Entry, entries_of}
use Rattle.spec_stylesheet.specs.Place.{Place}
use Rattle.spec_stylesheet.specs.Sheet as sheet
use Rattle.spec_stylesheet.specs.Sheet.{Sheet, Rule}
use Rattle.spec_meaning.specs.Question as question
use Rattle.spec_meaning.specs.Question.{Question, Answer, Candidates}
use Rattle.spec_meaning.specs.Program.{outcome_of}
use Rattle.spec_meaning.specs.Truth.{entry_named}
use Rattle.spec_transform.specs.Choice as choice
use Rattle.spec_transform.specs.Choice.{context_for}
use Rattle.spec_transform.specs.Key.{no_globals}
use Rattle.spec_seen.specs.Seen.{seen}
use Rattle.spec_run.specs.Documents.{Parameters}
use Rattle.spec_run.specs.Outcome as outcome
use Rattle.spec_run.specs.Outcome.{document_of, outcome_by}
use Rattle.spec_run.specs.Meaning.{NamedGlobal, run_of}
use Rattle.spec_run.specs.World.{Node, InSource, InModule, same_element, same_node, root_place, source_by, truth_at_places, setting_of, unit_by, counts, called_in_unit, used_in_unit}
use Rattle.spec_items.specs.Lifted.{left_unit, left_declared, stands_in, items, lifted}
use Rattle.spec_items.specs.Liftable.{is_plain_declared, have_own_names, is_liftable, with_items}
use Rattle.spec_items.specs.Fits.{FitsDeclared, UnitsFit, unit_left, Lifts, RulesAreOld}
use Rattle.spec_items.proofs.Variables.{both_true}
use Rattle.spec_items.proofs.Sheets.{HaveUnits, globals_same, items_are_templates, truth_same}
use Rattle.spec_items.proofs.Tables.{found_left}
use Rattle.spec_items.proofs.Walks.{fits_declared, tables_of, units_of}
use Rattle.spec_items.proofs.Levels.{run_of_same}
use Rattle.spec_items.proofs.Plain.{whole_declared, calls_no_item}
use Rattle.spec_items.proofs.Standing.{Old, found_standing, all_stand, called_stands, sets_stand, globals_stand, named_stands, rule_stands}
use Rattle.spec_items.proofs.Apart.{turned, none_reserved, items_found, FoundOf, found_of}

-- ---- what the test says
within : (us : List sheet.Unit) (k : ℕ) → k < length us → (v : sheet.Unit) × (slice_get us k ≡ Some v)
within [] k h = absurd (omega (arith, h))
within (u ∷ us) zero h = (u, refl)
within (u ∷ us) (suc k) h = within us k (omega (arith, h))

have_units : (us : List sheet.Unit) (rules : List Rule) → list_all (λ rule. nat_lt rule.unit (length us)) rules ≡ true → HaveUnits us rules
have_units us [] h = tt
have_units us (rule ∷ rules) h =
    let e = both_true (nat_lt rule.unit (length us)) (list_all (λ rule. nat_lt rule.unit (length us)) rules) h in
    (within us rule.unit (ltb-true rule.unit (length us) e.0), have_units us rules e.1)

found_plain : (place : Place) (us : List sheet.Unit) (v : sheet.Unit) → list_all (λ u. is_plain_declared u.declared) us ≡ true
    → find (λ u. same_element place u.site.place) us ≡ Some v → is_plain_declared v.declared ≡ true
found_plain place [] v h e = absurd (cc)
found_plain place (u ∷ us) v h e =
    let both = both_true (is_plain_declared u.declared) (list_all (λ u. is_plain_declared u.declared) us) h in
    go (same_element place u.site.place) both.0 (found_plain place us v both.1) e
  where
    Plain : Option sheet.Unit → Type 0
    Plain o = elim o [ None ↦ Unit {0} | Some u ↦ is_plain_declared u.declared ≡ true ]

    go : (b : Bool) → is_plain_declared u.declared ≡ true → (find (λ u. same_element place u.site.place) us ≡ Some v → is_plain_declared v.declared ≡ true)
        → cond b (Some u) (find (λ u. same_element place u.site.place) us) ≡ Some v → is_plain_declared v.declared ≡ true
    go true h later e = subst Plain e h
    go false h later e = later e

-- the parts of the test
record Premises (s : Sheet) : Type 0 where
  plain : list_all (λ u. is_plain_declared u.declared) s.units ≡ true
  rules : list_all (λ rule. nat_lt rule.unit (length s.units)) s.rules.rules ≡ true
  apart : list_any (λ item. stands_in item.site.place s.units) (items s.units) ≡ false
  names : have_own_names (items s.units) ≡ true

premises : (s : Sheet) → is_liftable s ≡ true → Premises s
premises s h =
    let plain = list_all (λ u. is_plain_declared u.declared) s.units in
    let rules = list_all (λ rule. nat_lt rule.unit (length s.units)) s.rules.rules in
    let there = list_any (λ item. stands_in item.site.place s.units) (items s.units) in
    let last = both_true (plain && rules && not there) (have_own_names (items s.units)) h in
    let third = both_true (plain && rules) (not there) last.0 in
    let second = both_true plain rules third.0 in
    record { plain = second.0; rules = second.1; apart = turned there third.1; names = last.1 }

-- ---- units
found_at : (s : Sheet) (other : Question Node → Answer Node) (place : Place) (v : sheet.Unit) → find (λ u. same_element place u.site.place) s.units ≡ Some v
    → ((place : Place) → other (question.Unit (InModule place))
    ≡ unit_by InModule s.aliases (units_of s.units (items s.units)) (find (λ u. same_element place u.site.place) (units_of s.units (items s.units))))
    → Premises s
    → FitsDeclared other (Old s.units) (tables_of InModule s.aliases s.units (items s.units) (called_in_unit v.declared) (used_in_unit v.declared) (called_in_unit (left_declared v.declared)) (used_in_unit (left_declared v.declared))) v.declared
found_at s other place v e answers p =
    let templates = items_are_templates [] s.units in
    let plain = found_plain place s.units v p.plain e in
    let all = items_found s.aliases other s.units (items s.units) answers templates p.apart p.names in
    fits_declared InModule s.aliases other (Old s.units) s.units (items s.units) v.precedence v.declared (record {
      templates = templates;
      apart = λ name m. none_reserved name (calls_no_item v.declared plain name m) (items s.units) templates;
      old = called_stands s.units (called_in_unit v.declared);
      old_sets = sets_stand s.units (used_in_unit v.declared);
    }) (whole_declared v.declared plain)
    (subst (FoundOf s.aliases other (units_of s.units (items s.units))) e (found_of s.aliases other (units_of s.units (items s.units)) [] s.units place refl all))

-- ---- the answers
module _ {L : Type 0} (s : Sheet) (parameters : Parameters) (document : Document L) (p : Premises s) where
  abbrev others : Question Node → Answer Node
  others = truth_at_places (lifted s) parameters document

  abbrev all : List sheet.Unit
  all = units_of s.units (items s.units)

  units_fit : (element : Node) → Old s.units element → UnitsFit others (Old s.units) (truth_at_places s parameters document (question.Unit element)) (others (question.Unit element))
  units_fit (InSource place) old = absurd old
  units_fit (InModule place) old =
      let there = found_standing place s.units old in
      let v = there.0 in
      subst (λ o. UnitsFit others (Old s.units) (unit_by InModule s.aliases s.units o) (others (question.Unit (InModule place)))) (sym there.1)
      (subst (λ o. UnitsFit others (Old s.units) (unit_by InModule s.aliases s.units (Some v)) (unit_by InModule s.aliases all o))
      (sym (found_left (λ site. same_element place site.place) s.units (items s.units) v there.1))
      (unit_left {T = tables_of InModule s.aliases s.units (items s.units) (called_in_unit v.declared) (used_in_unit v.declared) (called_in_unit (left_declared v.declared)) (used_in_unit (left_declared v.declared))}
      {b = counts s.units v} {c = counts all (left_unit v)} (found_at s others place v there.1 (λ place. refl) p)))

  rules_old : RulesAreOld (truth_at_places s parameters document) (Old s.units)
  rules_old node mode candidates =
      rule_stands s mode
      (outcome_of (source_by (λ (e : Entry L). InSource e.place) same_node s (entries_of document)) no_globals
      (choice.chosen same_node (context_for s.units node) node mode candidates s.rules.rules))
      (entry_named (λ (e : Entry L). InSource e.place) same_node (entries_of document) node)

  lifts : Lifts (setting_of s parameters document) others (Old s.units)
  lifts = record {
    asks = truth_same (λ (e : Entry L). InSource e.place) same_node InModule s (items s.units) (items_are_templates [] s.units)
        (have_units s.units s.rules.rules p.rules) parameters (entries_of document);
    units = units_fit;
    rules = rules_old;
    globals = named_stands s.units;
  }

  run_lifted : run_of (setting_of (lifted s) parameters document) ≡ run_of (setting_of s parameters document)
  run_lifted =
      ap (λ (gs : List (NamedGlobal Node)). run_of (record { ask = others; same = same_node; root = InSource root_place; globals = gs }))
      (globals_same InModule s.units (items s.units) (items_are_templates [] s.units))
      ∙ sym (run_of_same (setting_of s parameters document) others (Old s.units) lifts (globals_stand s.units s.units (all_stand s.units)))

pub run_with_items : {L : Type 0} (s : Sheet) (parameters : Parameters) (document : Document L)
    → run_of (setting_of (with_items s) parameters document) ≡ run_of (setting_of s parameters document)
run_with_items s parameters document = go (is_liftable s) refl
  where
    go : (b : Bool) → is_liftable s ≡ b → run_of (setting_of (cond b (lifted s) s) parameters document) ≡ run_of (setting_of s parameters document)
    go true h = run_lifted s parameters document (premises s h)
    go false h = refl

-- the rest of a stylesheet is as it was
pub outcome_with_items : (s : Sheet) (parameters : Parameters) (source : Plain)
    → outcome.outcome_of parameters source (Ok (with_items s)) ≡ outcome.outcome_of parameters source (Ok s)
outcome_with_items s parameters source =
    go (is_liftable s) ∙ ap (outcome_by s.method) (run_with_items s parameters (seen s.space_rules.rules (document_of source)))
  where
    go : (b : Bool) → outcome.outcome_of parameters source (Ok (cond b (lifted s) s))
        ≡ outcome_by s.method (run_of (setting_of (cond b (lifted s) s) parameters (seen s.space_rules.rules (document_of source))))
    go true = refl
    go false = refl
