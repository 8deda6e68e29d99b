-- What a stylesheet with its units resolved answers is what is true of it.
use Rattle.std.proofs.Common.{◌≡◌, ℕ, List, [], ◌∷◌, map, Option, None, Some, refl, ap, subst, ◌∙◌}
use Rattle.std.specs.Prelude.{length, slice_get}
use Rattle.std.specs.Option.{option_map}
use Rattle.std.proofs.lemmas.Option.{slice_get-map}
use Rattle.std.specs.declared.rc.Rc.{Rc}
use Rattle.std.specs.Global.{Global}
use Rattle.spec_document.specs.Name.{Expanded}
use Rattle.spec_document.specs.Forest.{Document}
use Rattle.spec_document.specs.Order.{Entry, entries_of}
use Rattle.spec_stylesheet.specs.Place.{Place}
use Rattle.spec_stylesheet.specs.Sheet.{Alias, Unit as Piece, Rule, Sheet}
use Rattle.spec_stylesheet.specs.Sheet as sheets
use Rattle.spec_meaning.specs.Question as question
use Rattle.spec_meaning.specs.Question.{Question, Answer, Chosen, Candidates, ChosenRule}
use Rattle.spec_meaning.specs.Program.{Said, Gives, Refuses, Lacks, outcome_of}
use Rattle.spec_meaning.specs.Truth.{entry_named, told_of}
use Rattle.spec_transform.specs.Choice.{context_for, chosen}
use Rattle.spec_transform.specs.Key.{no_globals}
use Rattle.spec_run.specs.Documents.{Parameters}
use Rattle.spec_run.specs.World as definition
use Rattle.spec_run.specs.World.{rule_by, rule_at, source_by}
use Rattle.spec_node.specs.declared.node_ref.NodeRef.{NodeRef}
use Rattle.spec_node.specs.Naming.{ref_of, same_ref}
use Rattle.xt_syntax.specs.SheetView.{rules_of, sheet_of}
use Rattle.xt_syntax.specs.declared.sheet.Sheet as syntax
use Rattle.xt_questions.specs.View.{question_of, resolved_of}
use Rattle.xt_questions.specs.declared.question.Question as code
use Rattle.xt_questions.specs.declared.question.Question.TheVariants as questions
use Rattle.xt_questions.specs.declared.answer.ResolvedUnit.{ResolvedUnit}
use Rattle.xt_match.specs.Context.{unit_in, units_in}
use Rattle.xt_world.specs.Numbered.{element_called, truth_by_numbers}
use Rattle.xt_world.specs.Turned.{at_number, turn_of_number}
use Rattle.xt_world.specs.Units.{called_among, resolved_among}
use Rattle.xt_world.specs.KeyView.{keyed_in}
use Rattle.xt_world.specs.SourceView.{source_in}
use Rattle.xt_world.specs.View.{chosen_by, chosen_in, rule_held, said_of, truth_in, truth_with}
use Rattle.xt_world.specs.Answering.{AnswersAs, AnswersGiven}
use Rattle.xt_world.specs.PartsView.{AreParts}
use Rattle.xt_world.specs.declared.stylesheet.Parts.{Parts}
use Rattle.xt_world.specs.declared.stylesheet.Stylesheet.{Stylesheet}
use Rattle.xt_world.proofs.Turns.{unit_is}

-- the stylesheet holds what its units and rules are, where places have these numbers
pub record IsOf (numbers : Place → ℕ) (sheet : Sheet) (s : Stylesheet) : Type 0 where
  pub elements : s.elements.items ≡ called_among numbers sheet.units
  pub units : map (λ (r : Rc ResolvedUnit Global). resolved_of r.value) s.units.items ≡ resolved_among numbers sheet.aliases sheet.units sheet.units
  pub turns : (number : ℕ) → at_number (length sheet.units) s.turns.entries number ≡ turn_of_number numbers 0 number sheet.units
  pub rules : rules_of s.rules ≡ sheet.rules

-- ---- units
units_of : (rs : List (Rc ResolvedUnit Global))
    → units_in rs ≡ map (λ (u : question.ResolvedUnit NodeRef). u.unit) (map (λ (r : Rc ResolvedUnit Global). resolved_of r.value) rs)
units_of [] = refl
units_of (r ∷ rs) = ap (λ (l : List Piece). unit_in r ∷ l) (units_of rs)

unresolved : (numbers : Place → ℕ) (aliases : List Alias) (all us : List Piece)
    → map (λ (u : question.ResolvedUnit NodeRef). u.unit) (resolved_among numbers aliases all us) ≡ us
unresolved numbers aliases all [] = refl
unresolved numbers aliases all (u ∷ us) = ap (λ (l : List Piece). u ∷ l) (unresolved numbers aliases all us)

units_are : (numbers : Place → ℕ) (sheet : Sheet) (s : Stylesheet) → IsOf numbers sheet s → units_in s.units.items ≡ sheet.units
units_are numbers sheet s h =
    units_of s.units.items ∙ ap (map (λ (u : question.ResolvedUnit NodeRef). u.unit)) h.units ∙ unresolved numbers sheet.aliases sheet.units sheet.units

-- ---- rules
chosen_is : (numbers : Place → ℕ) (rule : Rule) (o : Option Piece)
    → chosen_in rule (option_map (λ (u : Piece). element_called numbers u.site.place) o) ≡ definition.chosen_in (element_called numbers) rule o
chosen_is numbers rule None = refl
chosen_is numbers rule (Some u) = refl

rule_called : (numbers : Place → ℕ) (sheet : Sheet) (s : Stylesheet) → IsOf numbers sheet s → (o : Option Rule)
    → chosen_by s o ≡ definition.chosen_by (element_called numbers) sheet.units o
rule_called numbers sheet s h None = refl
rule_called numbers sheet s h (Some rule) =
    ap (λ (l : List NodeRef). chosen_in rule (slice_get l rule.unit)) h.elements
    ∙ ap (chosen_in rule) (slice_get-map (λ (u : Piece). element_called numbers u.site.place) sheet.units rule.unit)
    ∙ chosen_is numbers rule (slice_get sheet.units rule.unit)

rule_is : (numbers : Place → ℕ) (sheet : Sheet) (s : Stylesheet) → IsOf numbers sheet s → (said : Said (Option ℕ))
    → rule_held s said ≡ rule_by (element_called numbers) sheet said
rule_is numbers sheet s h (Gives None) = refl
rule_is numbers sheet s h (Gives (Some number)) =
    ap (λ (rule : Option (ChosenRule NodeRef)). Chosen rule)
    (rule_called numbers sheet s h (slice_get (rules_of s.rules).rules number)
    ∙ ap (λ (rules : sheets.Rules). definition.chosen_by (element_called numbers) sheet.units (slice_get rules.rules number)) h.rules)
rule_is numbers sheet s h (Refuses why) = refl
rule_is numbers sheet s h (Lacks wanted) = refl

-- ---- the source with its keys
source_is : (numbers : Place → ℕ) (sheet : Sheet) (s : Stylesheet) → IsOf numbers sheet s → (document : Document ℕ) (q : Question NodeRef)
    → source_in s document [] q ≡ source_by ref_of same_ref sheet (entries_of document) q
source_is numbers sheet s h document (question.Key name text) = ap (λ (units : List Piece). keyed_in units document name text) (units_are numbers sheet s h)
source_is numbers sheet s h document (question.Step node axis test) = refl
source_is numbers sheet s h document (question.Text node) = refl
source_is numbers sheet s h document (question.Name node) = refl
source_is numbers sheet s h document (question.Place node) = refl
source_is numbers sheet s h document (question.Order nodes) = refl
source_is numbers sheet s h document (question.Choice node mode candidates) = refl
source_is numbers sheet s h document (question.Copy node) = refl
source_is numbers sheet s h document (question.Unit element) = refl
source_is numbers sheet s h document (question.External name) = refl

choice_is : (numbers : Place → ℕ) (sheet : Sheet) (s : Stylesheet) → IsOf numbers sheet s → (document : Document ℕ) (node : NodeRef)
    (mode : Option Expanded) (candidates : Candidates)
    → rule_held s (said_of (source_in s document []) s node mode candidates)
    ≡ rule_at (element_called numbers) same_ref sheet (source_by ref_of same_ref sheet (entries_of document)) node mode candidates
choice_is numbers sheet s h document node mode candidates =
    let units = units_are numbers sheet s h in
    ap (rule_held s)
    (λ i. outcome_of (λ q. source_is numbers sheet s h document q i) no_globals
    (chosen same_ref (context_for (units i) node) node mode candidates (h.rules i).rules))
    ∙ rule_is numbers sheet s h (outcome_of (source_by ref_of same_ref sheet (entries_of document)) no_globals
    (chosen same_ref (context_for sheet.units node) node mode candidates sheet.rules.rules))

-- ---- all
pub truth_is : (numbers : Place → ℕ) (sheet : Sheet) (s : Stylesheet) → IsOf numbers sheet s → (parameters : Parameters) (document : Document ℕ)
    (q : Question NodeRef) → truth_in s parameters document q ≡ truth_by_numbers numbers sheet parameters document q
truth_is numbers sheet s h parameters document (question.Step node axis test) = refl
truth_is numbers sheet s h parameters document (question.Text node) = refl
truth_is numbers sheet s h parameters document (question.Name node) = refl
truth_is numbers sheet s h parameters document (question.Place node) = refl
truth_is numbers sheet s h parameters document (question.Order nodes) = refl
truth_is numbers sheet s h parameters document (question.Key name value) = source_is numbers sheet s h document (question.Key name value)
truth_is numbers sheet s h parameters document (question.Choice node mode candidates) =
    ap (λ (a : Answer NodeRef). told_of (λ (e : Entry ℕ). a) (entry_named ref_of same_ref (entries_of document) node))
    (choice_is numbers sheet s h document node mode candidates)
truth_is numbers sheet s h parameters document (question.Copy node) = refl
truth_is numbers sheet s h parameters document (question.Unit element) = unit_is numbers sheet.aliases sheet.units s element h.elements h.units h.turns
truth_is numbers sheet s h parameters document (question.External name) = refl

-- ---- a stylesheet with what is made of its units
abbrev pub held_with : syntax.Sheet → Parts → Stylesheet
held_with sheet parts = record { rules = sheet.rules; units = parts.units; elements = parts.elements; turns = parts.turns; globals = parts.globals }

-- what is made of units and aliases is made of those of the stylesheet
parts_of : (sheet : syntax.Sheet) (given : List ℕ) (parts : Parts) (aliases : List Alias) (us : List Piece) → aliases ≡ (sheet_of sheet).aliases
    → us ≡ (sheet_of sheet).units → AreParts given aliases us parts → AreParts given (sheet_of sheet).aliases (sheet_of sheet).units parts
parts_of sheet given parts aliases us one other made =
    subst (λ (list : List Piece). AreParts given (sheet_of sheet).aliases list parts) other
    (subst (λ (list : List Alias). AreParts given list us parts) one made)

is_of : (sheet : syntax.Sheet) (given : List ℕ) (parts : Parts) (h : AreParts given (sheet_of sheet).aliases (sheet_of sheet).units parts)
    → IsOf h.numbers (sheet_of sheet) (held_with sheet parts)
is_of sheet given parts h = record { elements = h.elements; units = h.units; turns = h.turns; rules = refl }

-- it answers as the stylesheet does
answers_as : (sheet : syntax.Sheet) (given : List ℕ) (parts : Parts) (aliases : List Alias) (us : List Piece) → aliases ≡ (sheet_of sheet).aliases
    → us ≡ (sheet_of sheet).units → AreParts given aliases us parts → AnswersAs (held_with sheet parts) (sheet_of sheet)
answers_as sheet given parts aliases us one other made =
    let h = parts_of sheet given parts aliases us one other made in
    record {
      numbers = h.numbers;
      naming = h.naming;
      truth = truth_is h.numbers (sheet_of sheet) (held_with sheet parts) (is_of sheet given parts h);
      globals = h.globals;
      rules = refl;
    }

-- and its elements are called by the given numbers, if they are one for each place and tell the units apart
pub answers_given : (sheet : syntax.Sheet) (given : List ℕ) (parts : Parts) (aliases : List Alias) (us : List Piece) → aliases ≡ (sheet_of sheet).aliases
    → us ≡ (sheet_of sheet).units → AreParts given aliases us parts → AnswersGiven given (held_with sheet parts) (sheet_of sheet)
unfolding answers_as parts_of
answers_given sheet given parts aliases us one other made =
    record {
      is = answers_as sheet given parts aliases us one other made;
      served = (parts_of sheet given parts aliases us one other made).served;
    }

-- what the source answers, among the questions of the program
pub others_so : (source : Question NodeRef → Answer NodeRef) (rules : List Rule) (s : Stylesheet) (parameters : Parameters) (document : Document ℕ) (q : code.Question)
    → ((node : _) (mode : _) (candidates : _) → q ≡ questions.Choice node mode candidates → ⊥) → ((node : _) → q ≡ questions.Copy node → ⊥)
    → ((element : _) → q ≡ questions.Unit element → ⊥) → ((name : _) → q ≡ questions.External name → ⊥)
    → source (question_of q) ≡ truth_with source rules s parameters document (question_of q)
others_so source rules s parameters document (questions.Step node axis test) a b c d = refl
others_so source rules s parameters document (questions.Text node) a b c d = refl
others_so source rules s parameters document (questions.Name node) a b c d = refl
others_so source rules s parameters document (questions.Place node) a b c d = refl
others_so source rules s parameters document (questions.Order nodes) a b c d = refl
others_so source rules s parameters document (questions.Key name value) a b c d = refl
others_so source rules s parameters document (questions.Choice node mode candidates) a b c d = absurd (a node mode candidates refl)
others_so source rules s parameters document (questions.Copy node) a b c d = absurd (b node refl)
others_so source rules s parameters document (questions.Unit element) a b c d = absurd (c element refl)
others_so source rules s parameters document (questions.External name) a b c d = absurd (d name refl)
