-- Which questions a change marks of a world, which is a stylesheet, parameters and a source as it is seen.
--     marks       of an edit of the source, of a move in it, of modules, of a parameter, and of what nothing is known of
--     any_marks   of changes one after the other
--     asks, any_asks  what of it must be asked: of the children that stay elements are as they were
--     KeepsUnits  what a change of modules leaves as it was: units, and choices of a rule (KeepsPlain)
--     ComesTo     what is true of the worlds before and after
--     ComeTo      of worlds that changes one after the other lead through
use Rattle.std.specs.Prelude.{ℕ, ◌≡◌, Bool, true, false, not, ◌&&◌, List, [], ◌∷◌, Option, None, Some, bytes_eq, nat_eq}
use Rattle.std.specs.List.{list_any, IsDistinct}
use Rattle.spec_document.specs.Forest.{Document, IsNormal, labels}
use Rattle.spec_document.specs.Name.{Expanded}
use Rattle.spec_document.specs.Order.{entries_of}
use Rattle.spec_edit.specs.Edit.{Edit}
use Rattle.spec_edit.specs.Valid.{IsValid}
use Rattle.spec_stylesheet.specs.Place as stylesheet
use Rattle.spec_stylesheet.specs.Sheet.{Sheet, SpaceRule}
use Rattle.spec_seen.specs.Seen.{seen}
use Rattle.spec_meaning.specs.Question.{Question, Answer, Candidates, Step, Text, Name, Place, Order, Key, Choice, Copy, Unit, External}
use Rattle.spec_run.specs.Documents.{Parameters}
use Rattle.spec_run.specs.World.{truth_by}
use Rattle.spec_change.specs.Change.{Change, IsEdit, change_of}
use Rattle.spec_move.specs.Changed.{MoveChange, IsMove, move_change}
use Rattle.spec_node.specs.declared.node_ref.NodeRef.{NodeRef}
use Rattle.spec_node.specs.Naming.{ref_of, same_ref}
use Rattle.spec_touch.specs.Leads.{seen_change, AreLooseBelow}
use Rattle.spec_touch.specs.Moved.{move_touched}
use Rattle.spec_touch.specs.Plain.{AreAsking, is_mode_among, spared, spared_by_move}
use Rattle.spec_touch.specs.Touched.{is_touched, touched_but}

-- the elements of the stylesheet have names of the reader's choice, the nodes of the source their numbers
pub record World : Type 0 where
  pub sheet : Sheet
  pub called : stylesheet.Place → NodeRef
  pub parameters : Parameters
  pub source : Document ℕ

abbrev pub answers : World → Question NodeRef → Answer NodeRef
answers world = truth_by ref_of same_ref world.called world.sheet world.parameters (entries_of world.source)

pub data WorldChange : Type 0 where
  -- the source is edited, or a node of it moved. The modes are those that have a rule whose pattern has a predicate or key(); of the children of the
  -- node after an edit these are all that are no elements
  SourceEdited : (change : Change) → (asking : List (Option Expanded)) → (loose : List ℕ) → WorldChange
  SourceMoved : (change : MoveChange) → (asking : List (Option Expanded)) → WorldChange
  -- modules come, go or are edited, and by the rules for white space the source is seen as before. These are elements whose units are as they were;
  -- and, where the template rules are as they were, the modes that have a rule whose pattern has a predicate or key()
  ModulesChanged : (units : List NodeRef) → (asking : Option (List (Option Expanded))) → WorldChange
  -- a parameter is given, another than before or for the first time
  ParameterGiven : (name : List ℕ) → WorldChange
  -- anything may be another, as where another source is given, or where the source is seen otherwise
  Anything : WorldChange

abbrev pub is_unit_among : List NodeRef → NodeRef → Bool
is_unit_among units element = list_any (same_ref element) units

-- the choice of a rule in a mode; in any, where the rules may be others
abbrev pub in_mode : Option (List (Option Expanded)) → Option Expanded → Bool
in_mode None mode = true
in_mode (Some asking) mode = is_mode_among asking mode

abbrev pub by_modules : (units : List NodeRef) → (asking : Option (List (Option Expanded))) → Question NodeRef → Bool
by_modules units asking (Step node axis test) = false
by_modules units asking (Text node) = false
by_modules units asking (Name node) = false
by_modules units asking (Place node) = false
by_modules units asking (Order nodes) = false
by_modules units asking (Key name value) = true
by_modules units asking (Choice node mode candidates) = in_mode asking mode
by_modules units asking (Copy node) = false
by_modules units asking (Unit element) = not (is_unit_among units element)
by_modules units asking (External name) = false

abbrev pub by_parameter : List ℕ → Question NodeRef → Bool
by_parameter given (Step node axis test) = false
by_parameter given (Text node) = false
by_parameter given (Name node) = false
by_parameter given (Place node) = false
by_parameter given (Order nodes) = false
by_parameter given (Key name value) = false
by_parameter given (Choice node mode candidates) = false
by_parameter given (Copy node) = false
by_parameter given (Unit element) = false
by_parameter given (External name) = bytes_eq given name

-- what a change of the source marks by the table, but for choices that it spares
abbrev pub marks : WorldChange → Question NodeRef → Bool
marks (SourceEdited change asking loose) question = is_touched change question && not (spared asking change question)
marks (SourceMoved change asking) question = move_touched change question && not (spared_by_move asking change question)
marks (ModulesChanged units asking) question = by_modules units asking question
marks (ParameterGiven name) question = by_parameter name question
marks Anything question = true

-- less than that may have another answer
abbrev pub asks : WorldChange → Question NodeRef → Bool
asks (SourceEdited change asking loose) question =
    (is_touched change question && touched_but loose change question) && not (spared asking change question)
asks (SourceMoved change asking) question = move_touched change question && not (spared_by_move asking change question)
asks (ModulesChanged units asking) question = by_modules units asking question
asks (ParameterGiven name) question = by_parameter name question
asks Anything question = true

-- changes one after the other mark what one of them marks
abbrev pub any_marks : List WorldChange → Question NodeRef → Bool
any_marks changes question = list_any (λ change. marks change question) changes

abbrev pub any_asks : List WorldChange → Question NodeRef → Bool
any_asks changes question = list_any (λ change. asks change question) changes

-- ---- The worlds before and after

-- a document without faults, of which no texts meet and no number stands twice
pub record IsSound (document : Document ℕ) : Type 0 where
  pub valid : IsValid document.nodes
  pub normal : IsNormal document.nodes
  pub apart : IsDistinct nat_eq (document.root ∷ labels document.nodes)

-- all is the same but the source
pub record SameButSource (old new : World) : Type 0 where
  pub sheet : new.sheet ≡ old.sheet
  pub called : new.called ≡ old.called
  pub parameters : new.parameters ≡ old.parameters

-- the units of these elements are the same
abbrev pub KeepsUnits : (units : List NodeRef) → (old new : World) → Type 0
KeepsUnits units old new = (element : NodeRef) → is_unit_among units element ≡ true → answers old (Unit element) ≡ answers new (Unit element)

-- where the rules are as they were, choices in every mode but these are the same
abbrev pub KeepsPlain : (asking : Option (List (Option Expanded))) → (old new : World) → Type 0
KeepsPlain asking old new =
    (node : NodeRef) (mode : Option Expanded) (candidates : Candidates) → in_mode asking mode ≡ false
    → answers old (Choice node mode candidates) ≡ answers new (Choice node mode candidates)

-- the first world comes to the second by the change
pub data ComesTo : WorldChange → (old new : World) → Type 0 where
  -- an edit of a document, of which the worlds see what some rules for white space let them see
  by_edit : {old new : World} {asking : List (Option Expanded)} {loose : List ℕ} → (rules : List SpaceRule) → (edit : Edit) → (before after : Document ℕ)
      → IsSound before → IsEdit edit before after → (change : Change) → change_of edit before after ≡ Some change
      → old.source ≡ seen rules before → new.source ≡ seen rules after
      → AreAsking asking old.sheet.rules.rules → AreLooseBelow loose change.node (seen rules after) → SameButSource old new
      → ComesTo (SourceEdited (seen_change change (seen rules before) (seen rules after)) asking loose) old new
  -- a move in a document of which all is seen
  by_move : {old new : World} {change : MoveChange} {asking : List (Option Expanded)} → (path other : List ℕ) → IsSound old.source
      → IsMove path other old.source new.source → move_change path other old.source new.source ≡ Some change
      → AreAsking asking old.sheet.rules.rules → SameButSource old new
      → ComesTo (SourceMoved change asking) old new
  by_modules_alone : {units : List NodeRef} {asking : Option (List (Option Expanded))} {old new : World} → new.source ≡ old.source
      → new.parameters ≡ old.parameters → KeepsUnits units old new → KeepsPlain asking old new → ComesTo (ModulesChanged units asking) old new
  by_value : {name : List ℕ} {old new : World} → ((other : List ℕ) → bytes_eq name other ≡ false
      → new.parameters other ≡ old.parameters other)
      → new.sheet ≡ old.sheet → new.called ≡ old.called → new.source ≡ old.source → ComesTo (ParameterGiven name) old new
  by_anything : {old new : World} → ComesTo Anything old new

-- changes one after the other
pub data ComeTo : List WorldChange → (old new : World) → Type 0 where
  none_more : {world : World} → ComeTo [] world world
  one_more : {change : WorldChange} {changes : List WorldChange} {old middle new : World} → ComesTo change old middle
      → ComeTo changes middle new → ComeTo (change ∷ changes) old new
