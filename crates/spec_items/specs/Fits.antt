-- When the answers of a stylesheet, and those of the stylesheet in which its contents were lifted, fit each other: each unit of the first is there in
-- the second with what is left of it, and names name the same; and each xsl:for-each has a template of its content.
use Rattle.std.specs.Prelude.{◌≡◌, Bool, List, [], ◌∷◌, Option, Some}
use Rattle.std.specs.List.{flat_map}
use Rattle.spec_document.specs.Name.{Expanded}
use Rattle.spec_stylesheet.specs.Place.{Site}
use Rattle.spec_stylesheet.specs.Instruction as made
use Rattle.spec_stylesheet.specs.Instruction.{Form, without_content, with_content, control, Control, for_each, for_items, conditional, choose}
use Rattle.spec_stylesheet.specs.Instruction.{apply_templates, call_template, Instrs, no_instrs, instr, Branches, no_branches, branch, no_bindings, binding}
use Rattle.spec_stylesheet.specs.Sheet as sheet
use Rattle.spec_stylesheet.specs.Sheet.{Alias}
use Rattle.spec_meaning.specs.Question as question
use Rattle.spec_meaning.specs.Question.{Question, Answer, NamedTemplate, NamedSets, rule_in}
use Rattle.spec_run.specs.Plan.{Target, UnitOf, BuiltIn}
use Rattle.spec_run.specs.Content.{template_called, elements_named, target_by}
use Rattle.spec_run.specs.World.{sets_by}
use Rattle.spec_run.specs.Meaning.{NamedGlobal, Setting, element_named}
use Rattle.spec_items.specs.Mentioned.{free_in}
use Rattle.spec_items.specs.Lifted.{item_name, parameters_for, scope_after, scope_of, left_in, left_unit}

-- a question that is no unit
abbrev pub OfNoUnit : {N : Type 0} → Question N → Type 0
OfNoUnit (question.Unit element) = ⊥
OfNoUnit _ = Unit {0}

-- the same setting but for its answers
abbrev pub with_answers : {N : Type 0} → Setting N → (Question N → Answer N) → Setting N
with_answers s other = record { ask = other; same = s.same; root = s.root; globals = s.globals }

abbrev pub OldTarget : {N : Type 0} → (N → Type 0) → Target N → Type 0
OldTarget Old (UnitOf element) = Old element
OldTarget Old (BuiltIn mode) = Unit {0}

-- what the names in a unit name, in both worlds
pub record Tables (N : Type 0) : Type 0 where
  pub templates : List (NamedTemplate N)
  pub sets : List (NamedSets N)
  pub its_templates : List (NamedTemplate N)
  pub its_sets : List (NamedSets N)
  pub aliases : List Alias

-- ---- what names name is there in both worlds, and the templates of contents are there in the second
abbrev pub AllOld : {N : Type 0} → (N → Type 0) → List N → Type 0
AllOld Old [] = Unit {0}
AllOld Old (e ∷ es) = Old e × AllOld Old es

abbrev pub SetsFit : {N : Type 0} → (N → Type 0) → Tables N → List Expanded → Type 0
SetsFit Old T names =
    (flat_map (elements_named T.sets) names ≡ flat_map (elements_named T.its_sets) names) × AllOld Old (flat_map (elements_named T.sets) names)

abbrev pub TemplateFits : {N : Type 0} → (N → Type 0) → Tables N → Expanded → Type 0
TemplateFits {N = N} Old T name =
    (template_called name T.templates ≡ template_called name T.its_templates) × ((e : N) → template_called name T.templates ≡ Some e → Old e)

abbrev mutual
  pub FitsIn : {N : Type 0} → (Question N → Answer N) → (N → Type 0) → Tables N → List Expanded → Instrs → Type 0
  FitsIn other Old T scope no_instrs = Unit {0}
  FitsIn other Old T scope (instr site form is) = FitsBy other Old T scope site form × FitsIn other Old T (scope_after scope form) is

  pub FitsBy : {N : Type 0} → (Question N → Answer N) → (N → Type 0) → Tables N → List Expanded → Site → Form → Type 0
  FitsBy other Old T scope site (without_content what) = Unit {0}
  FitsBy other Old T scope site (with_content what is) = SetsFit Old T (sets_by what) × FitsIn other Old T scope is
  FitsBy other Old T scope site (control c) = FitsUnder other Old T scope site c

  pub FitsUnder : {N : Type 0} → (Question N → Answer N) → (N → Type 0) → Tables N → List Expanded → Site → Control → Type 0
  FitsUnder {N = N} other Old T scope site (for_each e keys is) =
      (element : N) × (v : sheet.Unit) × (us : List (NamedTemplate N)) × (rs : List (NamedSets N)) × (counts : Bool)
      × (template_called (item_name site.place) T.its_templates ≡ Some element)
      × (other (question.Unit element)
      ≡ question.Resolved (record { unit = v; templates = us; sets = rs; aliases = T.aliases; counts = counts }))
      × (v.declared ≡ sheet.ATemplate (record {
        name = Some (item_name site.place);
        parameters = parameters_for site (free_in scope is);
        content = left_in (free_in scope is) is;
      }))
      × FitsIn other Old (record {
        templates = T.templates;
        sets = T.sets;
        its_templates = us;
        its_sets = rs;
        aliases = T.aliases;
      }) (free_in scope is) is
  FitsUnder other Old T scope site (for_items e keys name bs) = ⊥
  FitsUnder other Old T scope site (conditional e is) = FitsIn other Old T scope is
  FitsUnder other Old T scope site (choose bs) = FitBranches other Old T scope bs
  FitsUnder other Old T scope site (apply_templates s bs) = FitPassed other Old T scope bs
  FitsUnder other Old T scope site (call_template name bs) = TemplateFits Old T name × FitPassed other Old T scope bs

  pub FitBranches : {N : Type 0} → (Question N → Answer N) → (N → Type 0) → Tables N → List Expanded → Branches → Type 0
  FitBranches other Old T scope no_branches = Unit {0}
  FitBranches other Old T scope (branch site test is more) = FitsIn other Old T scope is × FitBranches other Old T scope more

  pub FitPassed : {N : Type 0} → (Question N → Answer N) → (N → Type 0) → Tables N → List Expanded → made.Bindings → Type 0
  FitPassed other Old T scope no_bindings = Unit {0}
  FitPassed other Old T scope (binding site name select is more) = FitsIn other Old T scope is × FitPassed other Old T scope more

-- chosen rules are old
abbrev pub RulesAreOld : {N : Type 0} → (Question N → Answer N) → (N → Type 0) → Type 0
RulesAreOld {N = N} ask Old =
    (node : N) (mode : Option Expanded) (candidates : question.Candidates) → OldTarget Old (target_by mode (rule_in (ask (question.Choice node mode candidates))))

-- ---- units
abbrev pub FitTaken : {N : Type 0} → (Question N → Answer N) → (N → Type 0) → Tables N → List Expanded → made.Bindings → Type 0
FitTaken other Old T scope no_bindings = Unit {0}
FitTaken other Old T scope (binding site name select is more) = FitsIn other Old T scope is × FitTaken other Old T (name ∷ scope) more

abbrev pub FitsDeclared : {N : Type 0} → (Question N → Answer N) → (N → Type 0) → Tables N → sheet.Declared → Type 0
FitsDeclared other Old T (sheet.ATemplate t) = FitTaken other Old T [] t.parameters × FitsIn other Old T (scope_of [] t.parameters) t.content
FitsDeclared other Old T (sheet.AGlobal g) = FitsIn other Old T [] g.binding.content
FitsDeclared other Old T (sheet.ASet a) = SetsFit Old T a.sets × FitsIn other Old T [] a.attributes
FitsDeclared other Old T (sheet.AKey k) = Unit {0}

-- a unit in one world, and what is left of it in the other
pub data UnitsFit {N : Type 0} (other : Question N → Answer N) (Old : N → Type 0) : Answer N → Answer N → Type 0 where
  no_unit : UnitsFit other Old question.Gone question.Gone
  unit_left : {u : sheet.Unit} {T : Tables N} {b c : Bool} → FitsDeclared other Old T u.declared
      → UnitsFit other Old (question.Resolved (record { unit = u; templates = T.templates; sets = T.sets; aliases = T.aliases; counts = b }))
      (question.Resolved (record { unit = left_unit u; templates = T.its_templates; sets = T.its_sets; aliases = T.aliases; counts = c }))

-- a world of a stylesheet, and the answers of the stylesheet in which its contents were lifted
pub record Lifts {N : Type 0} (s : Setting N) (other : Question N → Answer N) (Old : N → Type 0) : Type 0 where
  pub asks : (q : Question N) → OfNoUnit q → s.ask q ≡ other q
  pub units : (element : N) → Old element → UnitsFit other Old (s.ask (question.Unit element)) (other (question.Unit element))
  pub rules : RulesAreOld s.ask Old
  pub globals : (name : Expanded) (element : N) → element_named name s.globals ≡ Some element → Old element

abbrev pub AllGlobals : {N : Type 0} → (N → Type 0) → List (NamedGlobal N) → Type 0
AllGlobals Old [] = Unit {0}
AllGlobals Old (g ∷ gs) = Old g.element × AllGlobals Old gs
