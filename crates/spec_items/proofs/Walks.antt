-- In a stylesheet whose contents were lifted, all that stands in a unit fits what is left of it, where each template of a content is found.
use Rattle.std.proofs.Common.{◌≡◌, ℕ, List, [], ◌∷◌, ◌++◌, map, Bool, true, false, None, Some, refl, sym, ap, subst}
use Rattle.std.specs.Prelude.{◌||◌}
use Rattle.std.specs.List.{flat_map, list_any}
use Rattle.spec_document.specs.Name.{Expanded, same_name}
use Rattle.spec_stylesheet.specs.Place.{Place, Site}
use Rattle.spec_stylesheet.specs.Instruction as made
use Rattle.spec_stylesheet.specs.Instruction.{Form, without_content, with_content, control, Control, for_each, for_items, conditional, choose}
use Rattle.spec_stylesheet.specs.Instruction.{apply_templates, call_template, Instrs, no_instrs, instr, Branches, no_branches, branch, no_bindings, binding}
use Rattle.spec_stylesheet.specs.Sheet as sheet
use Rattle.spec_stylesheet.specs.Sheet.{Alias}
use Rattle.spec_meaning.specs.Question as question
use Rattle.spec_meaning.specs.Question.{Question, Answer}
use Rattle.spec_run.specs.Content.{template_called, elements_named}
use Rattle.spec_run.specs.World.{called_in, called_by, called_under, called_in_branches, called_in_bindings, called_in_unit, sets_by, used_in, used_by, used_under, used_in_branches, used_in_bindings}
use Rattle.spec_run.specs.World.{used_in_unit, is_template, last_element, templates_called, sets_used}
use Rattle.spec_items.specs.Mentioned.{free_in}
use Rattle.spec_items.specs.Lifted.{item_name, parameters_for, scope_after, left_in, left_by, left_under, left_in_branches, left_passed, left_unit, left_declared, left_taken, scope_of, items_in, items_by}
use Rattle.spec_items.specs.Lifted.{items_under, items_in_branches, items_in_passed, items_in_taken, items_declared}
use Rattle.spec_items.specs.Fits.{Tables, AllOld, SetsFit, FitsIn, FitsBy, FitsUnder, FitBranches, FitPassed, FitTaken, FitsDeclared}
use Rattle.spec_items.proofs.Variables.{name_itself}
use Rattle.spec_items.proofs.Sheets.{AreTemplates}
use Rattle.spec_items.proofs.Tables.{NoneCalled, template_there, templates_fit, sets_fit}

-- ---- names among others
abbrev pub Sub : List Expanded → List Expanded → Type 0
Sub small big = (name : Expanded) → list_any (same_name name) small ≡ true → list_any (same_name name) big ≡ true

any_front : (t : Expanded → Bool) (xs ys : List Expanded) → list_any t xs ≡ true → list_any t (xs ++ ys) ≡ true
any_front t [] ys h = absurd (cc)
any_front t (x ∷ xs) ys h = go (t x) (any_front t xs ys) h
  where
    go : (b : Bool) → (list_any t xs ≡ true → list_any t (xs ++ ys) ≡ true) → (b || list_any t xs) ≡ true → (b || list_any t (xs ++ ys)) ≡ true
    go true later h = refl
    go false later h = later h

any_back : (t : Expanded → Bool) (xs ys : List Expanded) → list_any t ys ≡ true → list_any t (xs ++ ys) ≡ true
any_back t [] ys h = h
any_back t (x ∷ xs) ys h = go (t x) (any_back t xs ys h)
  where
    go : (b : Bool) → list_any t (xs ++ ys) ≡ true → (b || list_any t (xs ++ ys)) ≡ true
    go true h = refl
    go false h = h

pub sub_front : (xs ys zs : List Expanded) → Sub (xs ++ ys) zs → Sub xs zs
sub_front xs ys zs h = λ name m. h name (any_front (same_name name) xs ys m)

pub sub_back : (xs ys zs : List Expanded) → Sub (xs ++ ys) zs → Sub ys zs
sub_back xs ys zs h = λ name m. h name (any_back (same_name name) xs ys m)

-- ---- contents in which no content stands apart
abbrev mutual
  pub Whole : Instrs → Type 0
  Whole no_instrs = Unit {0}
  Whole (instr site form is) = WholeForm form × Whole is

  pub WholeForm : Form → Type 0
  WholeForm (without_content what) = Unit {0}
  WholeForm (with_content what is) = Whole is
  WholeForm (control c) = WholeControl c

  pub WholeControl : Control → Type 0
  WholeControl (for_each e keys is) = Whole is
  WholeControl (for_items e keys name bs) = ⊥
  WholeControl (conditional e is) = Whole is
  WholeControl (choose bs) = WholeBranches bs
  WholeControl (apply_templates s bs) = WholeBindings bs
  WholeControl (call_template name bs) = WholeBindings bs

  pub WholeBranches : Branches → Type 0
  WholeBranches no_branches = Unit {0}
  WholeBranches (branch site test is more) = Whole is × WholeBranches more

  pub WholeBindings : made.Bindings → Type 0
  WholeBindings no_bindings = Unit {0}
  WholeBindings (binding site name select is more) = Whole is × WholeBindings more

-- ---- the templates of contents
-- each is found at its element, or another that declares the same, and its name leads to its element
abbrev pub AreFound : {N : Type 0} → (Place → N) → List Alias → (Question N → Answer N) → List sheet.Unit → List sheet.Unit → Type 0
AreFound named aliases other units [] = Unit {0}
AreFound named aliases other units (w ∷ ws) =
    ((v : sheet.Unit) × (b : Bool)
    × (other (question.Unit (named w.site.place))
    ≡ question.Resolved (record {
      unit = v;
      templates = templates_called named units (called_in_unit v.declared);
      sets = sets_used named units (used_in_unit v.declared);
      aliases = aliases;
      counts = b;
    }))
    × (v.declared ≡ w.declared) × (last_element (is_template (item_name w.site.place)) None units ≡ Some w.site.place))
    × AreFound named aliases other units ws

pub found_front : {N : Type 0} (named : Place → N) (aliases : List Alias) (other : Question N → Answer N) (units xs ys : List sheet.Unit)
    → AreFound named aliases other units (xs ++ ys) → AreFound named aliases other units xs
found_front named aliases other units [] ys h = tt
found_front named aliases other units (x ∷ xs) ys h = (h.0, found_front named aliases other units xs ys h.1)

pub found_back : {N : Type 0} (named : Place → N) (aliases : List Alias) (other : Question N → Answer N) (units xs ys : List sheet.Unit)
    → AreFound named aliases other units (xs ++ ys) → AreFound named aliases other units ys
found_back named aliases other units [] ys h = h
found_back named aliases other units (x ∷ xs) ys h = found_back named aliases other units xs ys h.1

-- ---- the walk
-- a stylesheet's units, those behind them, and how they are named
pub record Ground {N : Type 0} (named : Place → N) (aliases : List Alias) (other : Question N → Answer N) (Old : N → Type 0) (us ws : List sheet.Unit) (names used : List Expanded) : Type 0 where
  pub templates : AreTemplates ws
  pub apart : (name : Expanded) → list_any (same_name name) names ≡ true → NoneCalled name ws
  pub old : (name : Expanded) (e : N) → template_called name (templates_called named us names) ≡ Some e → Old e
  pub old_sets : (name : Expanded) → AllOld Old (elements_named (sets_used named us used) name)

abbrev pub units_of : List sheet.Unit → List sheet.Unit → List sheet.Unit
units_of us ws = map left_unit us ++ ws

abbrev pub tables_of : {N : Type 0} → (Place → N) → List Alias → List sheet.Unit → List sheet.Unit → (names used others its : List Expanded) → Tables N
tables_of named aliases us ws names used others its = record {
  templates = templates_called named us names;
  sets = sets_used named us used;
  its_templates = templates_called named (units_of us ws) others;
  its_sets = sets_used named (units_of us ws) its;
  aliases = aliases;
}

all_old_both : {N : Type 0} (Old : N → Type 0) (xs ys : List N) → AllOld Old xs → AllOld Old ys → AllOld Old (xs ++ ys)
all_old_both Old [] ys h g = g
all_old_both Old (x ∷ xs) ys h g = (h.0, all_old_both Old xs ys h.1 g)

sets_of_fit : {N : Type 0} {named : Place → N} {aliases : List Alias} {other : Question N → Answer N} {Old : N → Type 0} {us ws : List sheet.Unit} {names used : List Expanded} (g : Ground named aliases other Old us ws names used) (others its xs : List Expanded) → Sub xs used → Sub xs its → SetsFit Old (tables_of named aliases us ws names used others its) xs
sets_of_fit g others its [] h k = (refl, tt)
sets_of_fit {named = named} {Old = Old} {us = us} {ws = ws} {used = used} g others its (x ∷ xs) h k =
    let rest = sets_of_fit g others its xs (sub_back (x ∷ []) xs used h) (sub_back (x ∷ []) xs its k) in
    let here : list_any (same_name x) (x ∷ xs) ≡ true = ap (λ t. t || list_any (same_name x) xs) (name_itself x) in (
      (λ i. sets_fit named us ws g.templates x used its (h x here) (k x here) i ++ rest.0 i),
      all_old_both Old (elements_named (sets_used named us used) x) (flat_map (elements_named (sets_used named us used)) xs) (g.old_sets x) rest.1,
    )

mutual
  pub fits_in : {N : Type 0} {named : Place → N} {aliases : List Alias} {other : Question N → Answer N} {Old : N → Type 0} {us ws : List sheet.Unit} {names used : List Expanded} (g : Ground named aliases other Old us ws names used) (p : ℕ) (scope : List Expanded) (is : Instrs) (others its : List Expanded) → Whole is → AreFound named aliases other (units_of us ws) (items_in p scope is)
      → Sub (called_in is) names → Sub (called_in (left_in scope is)) others → Sub (used_in is) used → Sub (used_in (left_in scope is)) its
      → FitsIn other Old (tables_of named aliases us ws names used others its) scope is
  fits_in g p scope no_instrs others its w f a b c d = tt
  fits_in {named = named} {aliases = aliases} {other = other} {us = us} {ws = ws} {names = names} {used = used} g p scope (instr site form is) others its w f a b c d = (
    fits_by g p scope site form others its w.0 (found_front named aliases other (units_of us ws) (items_by p scope site form) (items_in p (scope_after scope form) is) f)
        (sub_front (called_by form) (called_in is) names a) (sub_front (called_by (left_by scope site form)) (called_in (left_in (scope_after scope form) is)) others b)
        (sub_front (used_by form) (used_in is) used c) (sub_front (used_by (left_by scope site form)) (used_in (left_in (scope_after scope form) is)) its d),
    fits_in g p (scope_after scope form) is others its w.1 (found_back named aliases other (units_of us ws) (items_by p scope site form) (items_in p (scope_after scope form) is) f)
        (sub_back (called_by form) (called_in is) names a) (sub_back (called_by (left_by scope site form)) (called_in (left_in (scope_after scope form) is)) others b)
        (sub_back (used_by form) (used_in is) used c) (sub_back (used_by (left_by scope site form)) (used_in (left_in (scope_after scope form) is)) its d),
  )

  fits_by : {N : Type 0} {named : Place → N} {aliases : List Alias} {other : Question N → Answer N} {Old : N → Type 0} {us ws : List sheet.Unit} {names used : List Expanded} (g : Ground named aliases other Old us ws names used) (p : ℕ) (scope : List Expanded) (site : Site) (form : Form) (others its : List Expanded) → WholeForm form
      → AreFound named aliases other (units_of us ws) (items_by p scope site form)
      → Sub (called_by form) names → Sub (called_by (left_by scope site form)) others → Sub (used_by form) used → Sub (used_by (left_by scope site form)) its
      → FitsBy other Old (tables_of named aliases us ws names used others its) scope site form
  fits_by g p scope site (without_content what) others its w f a b c d = tt
  fits_by {named = named} {aliases = aliases} {other = other} {us = us} {ws = ws} {names = names} {used = used} g p scope site (with_content what is) others its w f a b c d = (
    sets_of_fit g others its (sets_by what) (sub_front (sets_by what) (used_in is) used c) (sub_front (sets_by what) (used_in (left_in scope is)) its d),
    fits_in g p scope is others its w f a b (sub_back (sets_by what) (used_in is) used c) (sub_back (sets_by what) (used_in (left_in scope is)) its d),
  )
  fits_by g p scope site (control k) others its w f a b c d = fits_under g p scope site k others its w f a b c d

  fits_under : {N : Type 0} {named : Place → N} {aliases : List Alias} {other : Question N → Answer N} {Old : N → Type 0} {us ws : List sheet.Unit} {names used : List Expanded} (g : Ground named aliases other Old us ws names used) (p : ℕ) (scope : List Expanded) (site : Site) (k : Control) (others its : List Expanded) → WholeControl k
      → AreFound named aliases other (units_of us ws) (items_under p scope site k)
      → Sub (called_under k) names → Sub (called_under (left_under scope site k)) others → Sub (used_under k) used → Sub (used_under (left_under scope site k)) its
      → FitsUnder other Old (tables_of named aliases us ws names used others its) scope site k
  fits_under {named = named} {aliases = aliases} {other = other} {us = us} {ws = ws} {names = names} {used = used} g p scope site (for_each e keys is) others its w f a b c d =
      let free = free_in scope is in
      let v = f.0.0 in
      let called : Sub (called_in (left_in free is)) (called_in_unit v.declared) =
      subst (λ x. Sub (called_in (left_in free is)) (called_in_unit x)) (sym f.0.3)
      (λ name m. any_back (same_name name) (called_in_bindings (parameters_for site free)) (called_in (left_in free is)) m) in
      let uses : Sub (used_in (left_in free is)) (used_in_unit v.declared) =
      subst (λ x. Sub (used_in (left_in free is)) (used_in_unit x)) (sym f.0.3)
      (λ name m. any_back (same_name name) (used_in_bindings (parameters_for site free)) (used_in (left_in free is)) m) in (
        named site.place,
        v,
        templates_called named (units_of us ws) (called_in_unit v.declared),
        sets_used named (units_of us ws) (used_in_unit v.declared),
        f.0.1,
        template_there named (units_of us ws) (item_name site.place) site.place f.0.4 others
            (sub_front (item_name site.place ∷ []) _ others b (item_name site.place) (ap (λ t. t || false) (name_itself (item_name site.place)))),
        f.0.2,
        f.0.3,
        fits_in g p free is (called_in_unit v.declared) (used_in_unit v.declared) w f.1 a called c uses,
      )
  fits_under g p scope site (for_items e keys name bs) others its w f a b c d = absurd w
  fits_under g p scope site (conditional e is) others its w f a b c d = fits_in g p scope is others its w f a b c d
  fits_under g p scope site (choose bs) others its w f a b c d = fit_branches g p scope bs others its w f a b c d
  fits_under g p scope site (apply_templates s bs) others its w f a b c d = fit_passed g p scope bs others its w f a b c d
  fits_under {named = named} {aliases = aliases} {other = other} {us = us} {ws = ws} {names = names} {used = used} g p scope site (call_template name bs) others its w f a b c d =
      let mine : list_any (same_name name) (name ∷ []) ≡ true = ap (λ t. t || false) (name_itself name) in
      let there = sub_front (name ∷ []) (called_in_bindings bs) names a name mine in (
        (
          templates_fit named us ws name (g.apart name there) names others there
              (sub_front (name ∷ []) (called_in_bindings (left_passed scope bs)) others b name mine),
          g.old name,
        ),
        fit_passed g p scope bs others its w f (sub_back (name ∷ []) (called_in_bindings bs) names a) (sub_back (name ∷ []) (called_in_bindings (left_passed scope bs)) others b) c d,
      )

  fit_branches : {N : Type 0} {named : Place → N} {aliases : List Alias} {other : Question N → Answer N} {Old : N → Type 0} {us ws : List sheet.Unit} {names used : List Expanded} (g : Ground named aliases other Old us ws names used) (p : ℕ) (scope : List Expanded) (bs : Branches) (others its : List Expanded) → WholeBranches bs
      → AreFound named aliases other (units_of us ws) (items_in_branches p scope bs)
      → Sub (called_in_branches bs) names → Sub (called_in_branches (left_in_branches scope bs)) others → Sub (used_in_branches bs) used
      → Sub (used_in_branches (left_in_branches scope bs)) its → FitBranches other Old (tables_of named aliases us ws names used others its) scope bs
  fit_branches g p scope no_branches others its w f a b c d = tt
  fit_branches {named = named} {aliases = aliases} {other = other} {us = us} {ws = ws} {names = names} {used = used} g p scope (branch site test is more) others its w f a b c d = (
    fits_in g p scope is others its w.0 (found_front named aliases other (units_of us ws) (items_in p scope is) (items_in_branches p scope more) f)
        (sub_front (called_in is) (called_in_branches more) names a) (sub_front (called_in (left_in scope is)) (called_in_branches (left_in_branches scope more)) others b)
        (sub_front (used_in is) (used_in_branches more) used c) (sub_front (used_in (left_in scope is)) (used_in_branches (left_in_branches scope more)) its d),
    fit_branches g p scope more others its w.1 (found_back named aliases other (units_of us ws) (items_in p scope is) (items_in_branches p scope more) f)
        (sub_back (called_in is) (called_in_branches more) names a) (sub_back (called_in (left_in scope is)) (called_in_branches (left_in_branches scope more)) others b)
        (sub_back (used_in is) (used_in_branches more) used c) (sub_back (used_in (left_in scope is)) (used_in_branches (left_in_branches scope more)) its d),
  )

  fit_passed : {N : Type 0} {named : Place → N} {aliases : List Alias} {other : Question N → Answer N} {Old : N → Type 0} {us ws : List sheet.Unit} {names used : List Expanded} (g : Ground named aliases other Old us ws names used) (p : ℕ) (scope : List Expanded) (bs : made.Bindings) (others its : List Expanded) → WholeBindings bs
      → AreFound named aliases other (units_of us ws) (items_in_passed p scope bs)
      → Sub (called_in_bindings bs) names → Sub (called_in_bindings (left_passed scope bs)) others → Sub (used_in_bindings bs) used
      → Sub (used_in_bindings (left_passed scope bs)) its → FitPassed other Old (tables_of named aliases us ws names used others its) scope bs
  fit_passed g p scope no_bindings others its w f a b c d = tt
  fit_passed {named = named} {aliases = aliases} {other = other} {us = us} {ws = ws} {names = names} {used = used} g p scope (binding site name select is more) others its w f a b c d = (
    fits_in g p scope is others its w.0 (found_front named aliases other (units_of us ws) (items_in p scope is) (items_in_passed p scope more) f)
        (sub_front (called_in is) (called_in_bindings more) names a) (sub_front (called_in (left_in scope is)) (called_in_bindings (left_passed scope more)) others b)
        (sub_front (used_in is) (used_in_bindings more) used c) (sub_front (used_in (left_in scope is)) (used_in_bindings (left_passed scope more)) its d),
    fit_passed g p scope more others its w.1 (found_back named aliases other (units_of us ws) (items_in p scope is) (items_in_passed p scope more) f)
        (sub_back (called_in is) (called_in_bindings more) names a) (sub_back (called_in (left_in scope is)) (called_in_bindings (left_passed scope more)) others b)
        (sub_back (used_in is) (used_in_bindings more) used c) (sub_back (used_in (left_in scope is)) (used_in_bindings (left_passed scope more)) its d),
  )

-- ---- units
fit_taken : {N : Type 0} {named : Place → N} {aliases : List Alias} {other : Question N → Answer N} {Old : N → Type 0} {us ws : List sheet.Unit} {names used : List Expanded} (g : Ground named aliases other Old us ws names used) (p : ℕ) (scope : List Expanded) (bs : made.Bindings) (others its : List Expanded) → WholeBindings bs
    → AreFound named aliases other (units_of us ws) (items_in_taken p scope bs)
    → Sub (called_in_bindings bs) names → Sub (called_in_bindings (left_taken scope bs)) others → Sub (used_in_bindings bs) used
    → Sub (used_in_bindings (left_taken scope bs)) its → FitTaken other Old (tables_of named aliases us ws names used others its) scope bs
fit_taken g p scope no_bindings others its w f a b c d = tt
fit_taken {named = named} {aliases = aliases} {other = other} {us = us} {ws = ws} {names = names} {used = used} g p scope (binding site name select is more) others its w f a b c d = (
  fits_in g p scope is others its w.0 (found_front named aliases other (units_of us ws) (items_in p scope is) (items_in_taken p (name ∷ scope) more) f)
      (sub_front (called_in is) (called_in_bindings more) names a) (sub_front (called_in (left_in scope is)) (called_in_bindings (left_taken (name ∷ scope) more)) others b)
      (sub_front (used_in is) (used_in_bindings more) used c) (sub_front (used_in (left_in scope is)) (used_in_bindings (left_taken (name ∷ scope) more)) its d),
  fit_taken g p (name ∷ scope) more others its w.1 (found_back named aliases other (units_of us ws) (items_in p scope is) (items_in_taken p (name ∷ scope) more) f)
      (sub_back (called_in is) (called_in_bindings more) names a) (sub_back (called_in (left_in scope is)) (called_in_bindings (left_taken (name ∷ scope) more)) others b)
      (sub_back (used_in is) (used_in_bindings more) used c) (sub_back (used_in (left_in scope is)) (used_in_bindings (left_taken (name ∷ scope) more)) its d),
)

abbrev pub WholeDeclared : sheet.Declared → Type 0
WholeDeclared (sheet.ATemplate t) = WholeBindings t.parameters × Whole t.content
WholeDeclared (sheet.AGlobal g) = Whole g.binding.content
WholeDeclared (sheet.ASet a) = Whole a.attributes
WholeDeclared (sheet.AKey k) = Unit {0}

-- a unit with the names that stand in it, and what is left of it
pub fits_declared : {N : Type 0} (named : Place → N) (aliases : List Alias) (other : Question N → Answer N) (Old : N → Type 0) (us ws : List sheet.Unit) (p : ℕ) (d : sheet.Declared)
    → Ground named aliases other Old us ws (called_in_unit d) (used_in_unit d) → WholeDeclared d → AreFound named aliases other (units_of us ws) (items_declared p d)
    → FitsDeclared other Old (tables_of named aliases us ws (called_in_unit d) (used_in_unit d) (called_in_unit (left_declared d)) (used_in_unit (left_declared d))) d
fits_declared named aliases other Old us ws p (sheet.ATemplate t) g w f =
    let scope = scope_of [] t.parameters in
    let left = left_declared (sheet.ATemplate t) in
    let all : Sub (called_in_unit (sheet.ATemplate t)) (called_in_unit (sheet.ATemplate t)) = λ name m. m in
    let its : Sub (called_in_unit left) (called_in_unit left) = λ name m. m in
    let uses : Sub (used_in_unit (sheet.ATemplate t)) (used_in_unit (sheet.ATemplate t)) = λ name m. m in
    let its_uses : Sub (used_in_unit left) (used_in_unit left) = λ name m. m in (
      fit_taken g p [] t.parameters (called_in_unit left) (used_in_unit left) w.0
          (found_front named aliases other (units_of us ws) (items_in_taken p [] t.parameters) (items_in p scope t.content) f)
          (sub_front (called_in_bindings t.parameters) (called_in t.content) _ all) (sub_front (called_in_bindings (left_taken [] t.parameters)) (called_in (left_in scope t.content)) _ its)
          (sub_front (used_in_bindings t.parameters) (used_in t.content) _ uses) (sub_front (used_in_bindings (left_taken [] t.parameters)) (used_in (left_in scope t.content)) _ its_uses),
      fits_in g p scope t.content (called_in_unit left) (used_in_unit left) w.1
          (found_back named aliases other (units_of us ws) (items_in_taken p [] t.parameters) (items_in p scope t.content) f)
          (sub_back (called_in_bindings t.parameters) (called_in t.content) _ all) (sub_back (called_in_bindings (left_taken [] t.parameters)) (called_in (left_in scope t.content)) _ its)
          (sub_back (used_in_bindings t.parameters) (used_in t.content) _ uses) (sub_back (used_in_bindings (left_taken [] t.parameters)) (used_in (left_in scope t.content)) _ its_uses),
    )
fits_declared named aliases other Old us ws p (sheet.AGlobal b) g w f =
    fits_in g p [] b.binding.content (called_in (left_in [] b.binding.content)) (used_in (left_in [] b.binding.content)) w f (λ name m. m) (λ name m. m) (λ name m. m) (λ name m. m)
fits_declared named aliases other Old us ws p (sheet.ASet a) g w f =
    let left = left_in [] a.attributes in (
      sets_of_fit g (called_in left) (a.sets ++ used_in left) a.sets (λ name m. any_front (same_name name) a.sets (used_in a.attributes) m) (λ name m. any_front (same_name name) a.sets (used_in left) m),
      fits_in g p [] a.attributes (called_in left) (a.sets ++ used_in left) w f (λ name m. m) (λ name m. m)
          (λ name m. any_back (same_name name) a.sets (used_in a.attributes) m) (λ name m. any_back (same_name name) a.sets (used_in left) m),
    )
fits_declared named aliases other Old us ws p (sheet.AKey k) g w f = tt
