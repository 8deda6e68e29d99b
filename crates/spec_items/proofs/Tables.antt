-- What names name in a stylesheet whose contents were lifted: the same templates and attribute sets, where no template of a content has the name.
use Rattle.std.proofs.Common.{◌≡◌, List, [], ◌∷◌, ◌++◌, map, Bool, true, false, cond, Option, None, Some, refl, sym, ap, subst, ◌∙◌}
use Rattle.std.specs.Prelude.{◌||◌}
use Rattle.std.specs.List.{filter, find, list_any}
use Rattle.spec_document.specs.Name.{Expanded, same_name}
use Rattle.spec_stylesheet.specs.Place.{Place, Site}
use Rattle.spec_stylesheet.specs.Sheet as sheet
use Rattle.spec_meaning.specs.Question.{NamedTemplate}
use Rattle.spec_run.specs.Content.{template_called, elements_named}
use Rattle.spec_run.specs.World.{is_set, is_template, last_element, template_by, templates_called, sets_used}
use Rattle.spec_items.specs.Lifted.{left_declared, left_unit}
use Rattle.spec_items.proofs.Variables.{name_is, name_turned}
use Rattle.spec_items.proofs.Sheets.{AreTemplates}

-- ---- units by their elements
abbrev left_option : Option sheet.Unit → Option sheet.Unit
left_option None = None
left_option (Some u) = Some (left_unit u)

pub found_left : (test : Site → Bool) (us ws : List sheet.Unit) (v : sheet.Unit) → find (λ u. test u.site) us ≡ Some v
    → find (λ u. test u.site) (map left_unit us ++ ws) ≡ Some (left_unit v)
found_left test [] ws v h = absurd (cc)
found_left test (u ∷ us) ws v h = go (test u.site) (found_left test us ws v) h
  where
    go : (b : Bool) → (find (λ u. test u.site) us ≡ Some v → find (λ u. test u.site) (map left_unit us ++ ws) ≡ Some (left_unit v))
        → cond b (Some u) (find (λ u. test u.site) us) ≡ Some v
        → cond b (Some (left_unit u)) (find (λ u. test u.site) (map left_unit us ++ ws)) ≡ Some (left_unit v)
    go true later h = ap left_option h
    go false later h = later h

-- ---- templates
skipped : {K : Type 0} (named : Place → K) (n name : Expanded) (o : Option Place) (ts : List (NamedTemplate K)) → same_name n name ≡ false
    → template_called name (template_by named n o ++ ts) ≡ template_called name ts
skipped named n name None ts h = refl
skipped named n name (Some place) ts h = ap (λ b. cond b (Some (named place)) (template_called name ts)) h

hit : {K : Type 0} (named : Place → K) (n name : Expanded) (place : Place) (ts : List (NamedTemplate K)) → same_name n name ≡ true
    → template_called name (template_by named n (Some place) ++ ts) ≡ Some (named place)
hit named n name place ts h = ap (λ b. cond b (Some (named place)) (template_called name ts)) h

-- a name that names a template, among the names of a unit
pub template_there : {K : Type 0} (named : Place → K) (us : List sheet.Unit) (name : Expanded) (place : Place) → last_element (is_template name) None us ≡ Some place
    → (names : List Expanded) → list_any (same_name name) names ≡ true → template_called name (templates_called named us names) ≡ Some (named place)
template_there named us name place e [] m = absurd (cc)
template_there {K = K} named us name place e (n ∷ names) m = go (same_name name n) refl (template_there named us name place e names) m
  where
    rest : List (NamedTemplate K)
    rest = templates_called named us names

    go : (t : Bool) → same_name name n ≡ t → (list_any (same_name name) names ≡ true → template_called name rest ≡ Some (named place))
        → (t || list_any (same_name name) names) ≡ true → template_called name (template_by named n (last_element (is_template n) None us) ++ rest) ≡ Some (named place)
    go true s later m =
        ap (λ o. template_called name (template_by named n o ++ rest)) (subst (λ x. last_element (is_template x) None us ≡ Some place) (name_is name n s) e)
        ∙ hit named n name place rest (name_turned n name ∙ s)
    go false s later m = skipped named n name (last_element (is_template n) None us) rest (name_turned n name ∙ s) ∙ later m

-- a name that names none
template_none : {K : Type 0} (named : Place → K) (us : List sheet.Unit) (name : Expanded) → last_element (is_template name) None us ≡ None
    → (names : List Expanded) → template_called name (templates_called named us names) ≡ None
template_none named us name e [] = refl
template_none {K = K} named us name e (n ∷ names) = go (same_name name n) refl (template_none named us name e names)
  where
    rest : List (NamedTemplate K)
    rest = templates_called named us names

    go : (t : Bool) → same_name name n ≡ t → template_called name rest ≡ None
        → template_called name (template_by named n (last_element (is_template n) None us) ++ rest) ≡ None
    go true s later =
        ap (λ o. template_called name (template_by named n o ++ rest)) (subst (λ x. last_element (is_template x) None us ≡ None) (name_is name n s) e) ∙ later
    go false s later = skipped named n name (last_element (is_template n) None us) rest (name_turned n name ∙ s) ∙ later

-- of the last one
template_left : (name : Expanded) (d : sheet.Declared) → is_template name (left_declared d) ≡ is_template name d
template_left name (sheet.ATemplate t) = refl
template_left name (sheet.AGlobal g) = refl
template_left name (sheet.ASet a) = refl
template_left name (sheet.AKey k) = refl

-- none of these units is the template of this name
abbrev pub NoneCalled : Expanded → List sheet.Unit → Type 0
NoneCalled name [] = Unit {0}
NoneCalled name (w ∷ ws) = (is_template name w.declared ≡ false) × NoneCalled name ws

pub last_none : (name : Expanded) (found : Option Place) (ws : List sheet.Unit) → NoneCalled name ws → last_element (is_template name) found ws ≡ found
last_none name found [] h = refl
last_none name found (w ∷ ws) h =
    ap (λ b. last_element (is_template name) (cond b (Some w.site.place) found) ws) h.0 ∙ last_none name found ws h.1

last_left : (name : Expanded) (found : Option Place) (us ws : List sheet.Unit) → NoneCalled name ws
    → last_element (is_template name) found (map left_unit us ++ ws) ≡ last_element (is_template name) found us
last_left name found [] ws h = last_none name found ws h
last_left name found (u ∷ us) ws h =
    ap (λ b. last_element (is_template name) (cond b (Some u.site.place) found) (map left_unit us ++ ws)) (template_left name u.declared)
    ∙ last_left name (cond (is_template name u.declared) (Some u.site.place) found) us ws h

-- a name that stands in a unit, and in what is left of it, names the same
pub templates_fit : {K : Type 0} (named : Place → K) (us ws : List sheet.Unit) (name : Expanded) → NoneCalled name ws → (names others : List Expanded)
    → list_any (same_name name) names ≡ true → list_any (same_name name) others ≡ true
    → template_called name (templates_called named us names) ≡ template_called name (templates_called named (map left_unit us ++ ws) others)
templates_fit named us ws name h names others m k = go (last_element (is_template name) None us) refl
  where
    go : (o : Option Place) → last_element (is_template name) None us ≡ o
        → template_called name (templates_called named us names) ≡ template_called name (templates_called named (map left_unit us ++ ws) others)
    go None e = template_none named us name e names ∙ sym (template_none named (map left_unit us ++ ws) name (last_left name None us ws h ∙ e) others)
    go (Some place) e =
        template_there named us name place e names m
        ∙ sym (template_there named (map left_unit us ++ ws) name place (last_left name None us ws h ∙ e) others k)

-- ---- attribute sets
sets_there : {K : Type 0} (named : Place → K) (us : List sheet.Unit) (name : Expanded) (used : List Expanded) → list_any (same_name name) used ≡ true
    → elements_named (sets_used named us used) name ≡ map (λ u. named u.site.place) (filter (λ u. is_set name u.declared) us)
sets_there named us name [] m = absurd (cc)
sets_there {K = K} named us name (n ∷ used) m = go (same_name name n) refl (sets_there named us name used) m
  where
    elements : Expanded → List K
    elements x = map (λ u. named u.site.place) (filter (λ u. is_set x u.declared) us)

    go : (t : Bool) → same_name name n ≡ t → (list_any (same_name name) used ≡ true → elements_named (sets_used named us used) name ≡ elements name)
        → (t || list_any (same_name name) used) ≡ true → cond (same_name n name) (elements n) (elements_named (sets_used named us used) name) ≡ elements name
    go true s later m =
        ap (λ b. cond b (elements n) (elements_named (sets_used named us used) name)) (name_turned n name ∙ s) ∙ ap elements (sym (name_is name n s))
    go false s later m = ap (λ b. cond b (elements n) (elements_named (sets_used named us used) name)) (name_turned n name ∙ s) ∙ later m

set_left : (name : Expanded) (d : sheet.Declared) → is_set name (left_declared d) ≡ is_set name d
set_left name (sheet.ATemplate t) = refl
set_left name (sheet.AGlobal g) = refl
set_left name (sheet.ASet a) = refl
set_left name (sheet.AKey k) = refl

elements_none : {K : Type 0} (named : Place → K) (name : Expanded) (ws : List sheet.Unit) → AreTemplates ws
    → map (λ u. named u.site.place) (filter (λ u. is_set name u.declared) ws) ≡ []
elements_none named name [] h = refl
elements_none named name (w ∷ ws) h =
    ap (λ d. map (λ u. named u.site.place) (cond (is_set name d) (w ∷ filter (λ u. is_set name u.declared) ws) (filter (λ u. is_set name u.declared) ws))) h.0.1
    ∙ elements_none named name ws h.1

elements_left : {K : Type 0} (named : Place → K) (name : Expanded) (us ws : List sheet.Unit) → AreTemplates ws
    → map (λ u. named u.site.place) (filter (λ u. is_set name u.declared) (map left_unit us ++ ws))
    ≡ map (λ u. named u.site.place) (filter (λ u. is_set name u.declared) us)
elements_left named name [] ws h = elements_none named name ws h
elements_left {K = K} named name (u ∷ us) ws h =
    ap (λ b. map (λ u. named u.site.place) (cond b (left_unit u ∷ filter (λ u. is_set name u.declared) (map left_unit us ++ ws)) (filter (λ u. is_set name u.declared) (map left_unit us ++ ws))))
    (set_left name u.declared)
    ∙ go (is_set name u.declared) (elements_left named name us ws h)
  where
    go : (b : Bool)
        → map (λ u. named u.site.place) (filter (λ u. is_set name u.declared) (map left_unit us ++ ws)) ≡ map (λ u. named u.site.place) (filter (λ u. is_set name u.declared) us)
        → map (λ u. named u.site.place) (cond b (left_unit u ∷ filter (λ u. is_set name u.declared) (map left_unit us ++ ws)) (filter (λ u. is_set name u.declared) (map left_unit us ++ ws)))
        ≡ map (λ u. named u.site.place) (cond b (u ∷ filter (λ u. is_set name u.declared) us) (filter (λ u. is_set name u.declared) us))
    go true e = ap (λ xs. named u.site.place ∷ xs) e
    go false e = e

pub sets_fit : {K : Type 0} (named : Place → K) (us ws : List sheet.Unit) → AreTemplates ws → (name : Expanded) (used others : List Expanded)
    → list_any (same_name name) used ≡ true → list_any (same_name name) others ≡ true
    → elements_named (sets_used named us used) name ≡ elements_named (sets_used named (map left_unit us ++ ws) others) name
sets_fit named us ws h name used others m k =
    sets_there named us name used m ∙ sym (elements_left named name us ws h) ∙ sym (sets_there named (map left_unit us ++ ws) name others k)
