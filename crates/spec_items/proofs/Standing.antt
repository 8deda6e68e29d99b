-- What names and rules lead to in a stylesheet are elements at which its units stand.
use Rattle.std.proofs.Common.{◌≡◌, ℕ, zero, suc, List, [], ◌∷◌, ◌++◌, map, Bool, true, false, cond, Option, None, Some, refl, ap, subst}
use Rattle.std.specs.Prelude.{◌&&◌, ◌||◌, slice_get, bytes_eq}
use Rattle.std.specs.List.{filter, find, flat_map, list_any}
use Rattle.std.proofs.lemmas.Slice.Eq.{bytes_eq-Decides}
use Rattle.spec_document.specs.Name.{Expanded, same_name}
use Rattle.spec_document.specs.Order.{Entry}
use Rattle.spec_stylesheet.specs.Place.{Place}
use Rattle.spec_stylesheet.specs.Sheet as sheet
use Rattle.spec_stylesheet.specs.Sheet.{Sheet, Rule}
use Rattle.spec_meaning.specs.Question.{NamedTemplate, rule_in}
use Rattle.spec_meaning.specs.Program.{Said, Gives, Refuses, Lacks}
use Rattle.spec_meaning.specs.Truth.{told_of}
use Rattle.spec_run.specs.Content.{template_called, elements_named, target_by}
use Rattle.spec_run.specs.Meaning.{NamedGlobal, element_named}
use Rattle.spec_run.specs.World.{Node, InSource, InModule, same_module, same_element, is_template, is_set, is_global, last_element, template_by, templates_called, sets_used}
use Rattle.spec_run.specs.World.{global_in, global_by, globals_of, chosen_in, chosen_by, rule_by}
use Rattle.spec_items.specs.Lifted.{stands_in}
use Rattle.spec_items.specs.Fits.{OldTarget, AllOld, AllGlobals}
use Rattle.spec_items.proofs.Variables.{both_true, or_true, bytes_itself}

-- ---- places
module_is : (a b : Option (List ℕ)) → same_module a b ≡ true → a ≡ b
module_is None None h = refl
module_is None (Some b) h = absurd (cc)
module_is (Some a) None h = absurd (cc)
module_is (Some a) (Some b) h = ap Some ((bytes_eq-Decides a b).0 h)

pub place_is : (a b : Place) → same_element a b ≡ true → a ≡ b
place_is a b h =
    let e = both_true (same_module a.module_name b.module_name) (bytes_eq a.path b.path) h in
    let m = module_is a.module_name b.module_name e.0 in
    let p = (bytes_eq-Decides a.path b.path).0 e.1 in
    λ i. record { module_name = m i; path = p i }

module_itself : (a : Option (List ℕ)) → same_module a a ≡ true
module_itself None = refl
module_itself (Some a) = bytes_itself a

pub place_itself : (a : Place) → same_element a a ≡ true
place_itself a = λ i. module_itself a.module_name i && bytes_itself a.path i

-- ---- elements of units
-- a unit stands at this element
abbrev pub Old : List sheet.Unit → Node → Type 0
Old us (InSource place) = ⊥
Old us (InModule place) = stands_in place us ≡ true

pub found_standing : (place : Place) (us : List sheet.Unit) → stands_in place us ≡ true → (v : sheet.Unit) × (find (λ u. same_element place u.site.place) us ≡ Some v)
found_standing place [] h = absurd (cc)
found_standing place (u ∷ us) h = go (same_element place u.site.place) (found_standing place us) h
  where
    go : (b : Bool) → (stands_in place us ≡ true → (v : sheet.Unit) × (find (λ u. same_element place u.site.place) us ≡ Some v))
        → (b || stands_in place us) ≡ true → (v : sheet.Unit) × (cond b (Some u) (find (λ u. same_element place u.site.place) us) ≡ Some v)
    go true later h = (u, refl)
    go false later h = later h

-- each of these stands among those
abbrev pub AllStand : List sheet.Unit → List sheet.Unit → Type 0
AllStand all [] = Unit {0}
AllStand all (u ∷ us) = (stands_in u.site.place all ≡ true) × AllStand all us

with_one_more : (x : sheet.Unit) (all us : List sheet.Unit) → AllStand all us → AllStand (x ∷ all) us
with_one_more x all [] h = tt
with_one_more x all (u ∷ us) h =
    (or_true (same_element u.site.place x.site.place) (stands_in u.site.place all) h.0, with_one_more x all us h.1)

pub all_stand : (us : List sheet.Unit) → AllStand us us
all_stand [] = tt
all_stand (u ∷ us) = (ap (λ b. b || stands_in u.site.place us) (place_itself u.site.place), with_one_more u us us (all_stand us))

abbrev PlaceStands : List sheet.Unit → Option Place → Type 0
PlaceStands all None = Unit {0}
PlaceStands all (Some place) = stands_in place all ≡ true

abbrev NodeStands : List sheet.Unit → Option Node → Type 0
NodeStands all None = Unit {0}
NodeStands all (Some node) = Old all node

last_stands : (all : List sheet.Unit) (test : sheet.Declared → Bool) (found : Option Place) → PlaceStands all found → (us : List sheet.Unit) → AllStand all us
    → PlaceStands all (last_element test found us)
last_stands all test found f [] h = f
last_stands all test found f (u ∷ us) h = last_stands all test (cond (test u.declared) (Some u.site.place) found) (go (test u.declared)) us h.1
  where
    go : (b : Bool) → PlaceStands all (cond b (Some u.site.place) found)
    go true = h.0
    go false = f

-- ---- by the names of templates
template_stands : (us : List sheet.Unit) (name : Expanded) (names : List Expanded) → NodeStands us (template_called name (templates_called InModule us names))
template_stands us name [] = tt
template_stands us name (n ∷ names) =
    go (last_element (is_template n) None us) (last_stands us (is_template n) None tt us (all_stand us)) (template_stands us name names)
  where
    rest : List (NamedTemplate Node)
    rest = templates_called InModule us names

    by : (b : Bool) (place : Place) → stands_in place us ≡ true → NodeStands us (template_called name rest)
        → NodeStands us (cond b (Some (InModule place)) (template_called name rest))
    by true place h later = h
    by false place h later = later

    go : (o : Option Place) → PlaceStands us o → NodeStands us (template_called name rest) → NodeStands us (template_called name (template_by InModule n o ++ rest))
    go None h later = later
    go (Some place) h later = by (same_name n name) place h later

pub called_stands : (us : List sheet.Unit) (names : List Expanded) (name : Expanded) (e : Node) → template_called name (templates_called InModule us names) ≡ Some e
    → Old us e
called_stands us names name e h = subst (NodeStands us) h (template_stands us name names)

-- ---- by the names of attribute sets
filter_stands : (all : List sheet.Unit) (name : Expanded) (us : List sheet.Unit) → AllStand all us
    → AllOld (Old all) (map (λ u. InModule u.site.place) (filter (λ u. is_set name u.declared) us))
filter_stands all name [] h = tt
filter_stands all name (u ∷ us) h = go (is_set name u.declared) (filter_stands all name us h.1)
  where
    go : (b : Bool) → AllOld (Old all) (map (λ u. InModule u.site.place) (filter (λ u. is_set name u.declared) us))
        → AllOld (Old all) (map (λ u. InModule u.site.place) (cond b (u ∷ filter (λ u. is_set name u.declared) us) (filter (λ u. is_set name u.declared) us)))
    go true later = (h.0, later)
    go false later = later

pub sets_stand : (us : List sheet.Unit) (used : List Expanded) (name : Expanded) → AllOld (Old us) (elements_named (sets_used InModule us used) name)
sets_stand us [] name = tt
sets_stand us (n ∷ used) name = go (same_name n name) (filter_stands us n us (all_stand us)) (sets_stand us used name)
  where
    go : (b : Bool) → AllOld (Old us) (map (λ u. InModule u.site.place) (filter (λ u. is_set n u.declared) us))
        → AllOld (Old us) (elements_named (sets_used InModule us used) name)
        → AllOld (Old us) (cond b (map (λ u. InModule u.site.place) (filter (λ u. is_set n u.declared) us)) (elements_named (sets_used InModule us used) name))
    go true here later = here
    go false here later = later

-- ---- globals
pub globals_stand : (all us : List sheet.Unit) → AllStand all us → AllGlobals (Old all) (globals_of InModule us)
globals_stand all [] h = tt
globals_stand all (u ∷ us) h = go u.declared (globals_stand all us h.1)
  where
    by : (b : Bool) (name : Expanded) → AllGlobals (Old all) (globals_of InModule us)
        → AllGlobals (Old all) ((cond b [] (record { name = name; element = InModule u.site.place } ∷ []) ++ []) ++ globals_of InModule us)
    by true name later = later
    by false name later = (h.0, later)

    go : (d : sheet.Declared) → AllGlobals (Old all) (globals_of InModule us)
        → AllGlobals (Old all) (flat_map (global_by InModule u us) (global_in d) ++ globals_of InModule us)
    go (sheet.ATemplate t) later = later
    go (sheet.AGlobal g) later = by (list_any (λ later. is_global g.binding.name later.declared) us) g.binding.name later
    go (sheet.ASet a) later = later
    go (sheet.AKey k) later = later

global_stands : (all : List sheet.Unit) (name : Expanded) (gs : List (NamedGlobal Node)) → AllGlobals (Old all) gs → NodeStands all (element_named name gs)
global_stands all name [] h = tt
global_stands all name (g ∷ gs) h = go (same_name g.name name) (global_stands all name gs h.1)
  where
    go : (b : Bool) → NodeStands all (element_named name gs) → NodeStands all (cond b (Some g.element) (element_named name gs))
    go true later = h.0
    go false later = later

pub named_stands : (us : List sheet.Unit) (name : Expanded) (e : Node) → element_named name (globals_of InModule us) ≡ Some e → Old us e
named_stands us name e h =
    subst (NodeStands us) h (global_stands us name (globals_of InModule us) (globals_stand us us (all_stand us)))

-- ---- rules
abbrev UnitStands : List sheet.Unit → Option sheet.Unit → Type 0
UnitStands all None = Unit {0}
UnitStands all (Some u) = stands_in u.site.place all ≡ true

slice_stands : (all us : List sheet.Unit) → AllStand all us → (k : ℕ) → UnitStands all (slice_get us k)
slice_stands all [] h k = tt
slice_stands all (u ∷ us) h zero = h.0
slice_stands all (u ∷ us) h (suc k) = slice_stands all us h.1 k

pub rule_stands : {L : Type 0} (s : Sheet) (mode : Option Expanded) (said : Said (Option ℕ)) → (entry : Option (Entry L))
    → OldTarget (Old s.units) (target_by mode (rule_in (told_of (λ e. rule_by InModule s said) entry)))
rule_stands s mode said None = tt
rule_stands s mode (Refuses why) (Some entry) = tt
rule_stands s mode (Lacks wanted) (Some entry) = tt
rule_stands s mode (Gives None) (Some entry) = tt
rule_stands s mode (Gives (Some number)) (Some entry) = chosen (slice_get s.rules.rules number)
  where
    of_unit : (rule : Rule) (o : Option sheet.Unit) → UnitStands s.units o → OldTarget (Old s.units) (target_by mode (chosen_in InModule rule o))
    of_unit rule None h = tt
    of_unit rule (Some u) h = h

    chosen : (o : Option Rule) → OldTarget (Old s.units) (target_by mode (chosen_by InModule s.units o))
    chosen None = tt
    chosen (Some rule) = of_unit rule (slice_get s.units rule.unit) (slice_stands s.units s.units (all_stand s.units) rule.unit)
