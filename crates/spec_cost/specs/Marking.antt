-- Which questions a change marks: by the written table those that may have another answer after it.
--     Mark                     what is told of a change
--     by_own_reads             the questions whose answers rest on what was asked for them
--     are_marked               what some of them mark
--     marked_among             how many questions of records that are
--     remembered, and_marks    what is told of one change after another
--     edit_marks, move_marks   what an edit of the source tells, and a move in it
--     AddsStyle                what a change of modules tells
--     KnowsOf                  which rules for white space are known of after it
use Rattle.std.specs.Prelude.{ℕ, ◌≡◌, ◌⊎◌, ◌+◌, ◌++◌, Bool, true, false, List, [], ◌∷◌, length, nat_lt, if◌then◌else◌, Option, None, Some, Result, Ok, Err, bytes_eq}
use Rattle.std.specs.List.{list_any}
use Rattle.spec_document.specs.Forest.{Document, Plain}
use Rattle.spec_edit.specs.Edit.{Edit}
use Rattle.spec_change.specs.Change.{Change, change_of}
use Rattle.spec_move.specs.Changed.{MoveChange, move_change}
use Rattle.spec_stylesheet.specs.Sheet.{Sheet, SpaceRule}
use Rattle.spec_structure.specs.Modules.{Modules}
use Rattle.spec_compile.specs.Sheet.{IsSheet, Refusal}
use Rattle.spec_seen.specs.Seen.{seen}
use Rattle.spec_meaning.specs.Question.{Question, Step, Text, Name, Place, Order, Key, Choice, Copy, Unit, External}
use Rattle.spec_run.specs.Going.{Event, Asked, Saw, Entered, Held}
use Rattle.spec_run.specs.Trail.{Kept}
use Rattle.spec_run.specs.Documents.{main_name}
use Rattle.spec_node.specs.declared.node_ref.NodeRef.{NodeRef}
use Rattle.spec_touch.specs.Leads.{seen_change}
use Rattle.spec_touch.specs.Moved.{move_touched}
use Rattle.spec_touch.specs.Touched.{is_touched}

pub data Mark : Type 0 where
  -- the source is edited, or a node of it moved, as the rules for white space let that be seen
  SourceEdited : (change : Change) → Mark
  SourceMoved : (change : MoveChange) → Mark
  -- the modules are another stylesheet, by whose rules for white space the source is seen as before
  Restyled : Mark
  -- the parameter of this name is given
  Given : (name : List ℕ) → Mark
  -- anything may be another
  Anything : Mark

-- ---- The table

abbrev pub by_modules : Question NodeRef → Bool
by_modules (Step node axis test) = false
by_modules (Text node) = false
by_modules (Name node) = false
by_modules (Place node) = false
by_modules (Order nodes) = false
by_modules (Key name value) = true
by_modules (Choice node mode candidates) = true
by_modules (Copy node) = false
by_modules (Unit element) = true
by_modules (External name) = false

-- the answer is made of what is asked for it, and may be found to be the same by that
abbrev pub by_own_reads : Question NodeRef → Bool
by_own_reads (Step node axis test) = false
by_own_reads (Text node) = false
by_own_reads (Name node) = false
by_own_reads (Place node) = false
by_own_reads (Order nodes) = false
by_own_reads (Key name value) = true
by_own_reads (Choice node mode candidates) = true
by_own_reads (Copy node) = false
by_own_reads (Unit element) = false
by_own_reads (External name) = false

abbrev pub by_parameter : List ℕ → Question NodeRef → Bool
by_parameter given (Step node axis test) = false
by_parameter given (Text node) = false
by_parameter given (Name node) = false
by_parameter given (Place node) = false
by_parameter given (Order nodes) = false
by_parameter given (Key name value) = false
by_parameter given (Choice node mode candidates) = false
by_parameter given (Copy node) = false
by_parameter given (Unit element) = false
by_parameter given (External name) = bytes_eq given name

abbrev pub is_marked : Mark → Question NodeRef → Bool
is_marked (SourceEdited change) question = is_touched change question
is_marked (SourceMoved change) question = move_touched change question
is_marked Restyled question = by_modules question
is_marked (Given name) question = by_parameter name question
is_marked Anything question = true

-- by one of these
abbrev pub are_marked : List Mark → Question NodeRef → Bool
are_marked marks question = list_any (λ mark. is_marked mark question) marks

-- ---- The questions of records

abbrev pub one_if : Bool → ℕ
one_if true = 1
one_if false = 0

abbrev pub marked_in : List Mark → List (Event NodeRef) → ℕ
marked_in marks [] = 0
marked_in marks (Asked question answer ∷ es) = one_if (are_marked marks question) + marked_in marks es
marked_in marks (Saw wanted depth place supplied ∷ es) = marked_in marks es
marked_in marks (Entered call depth ∷ es) = marked_in marks es
marked_in marks (Held first contents ∷ es) = marked_in marks es

abbrev pub marked_among : List Mark → List (Kept NodeRef) → ℕ
marked_among marks [] = 0
marked_among marks (kept ∷ records) = marked_in marks kept.trace + marked_among marks records

-- ---- One change after another

-- as many are remembered
abbrev pub most_remembered : ℕ
most_remembered = 256

-- one more; where there are as many already, anything may be another
abbrev pub remembered : List Mark → Mark → List Mark
remembered marks mark = if nat_lt (length marks) most_remembered then marks ++ mark ∷ [] else Anything ∷ []

-- and then these
abbrev pub and_marks : List Mark → List Mark → List Mark
and_marks told [] = told
and_marks told (mark ∷ marks) = and_marks (remembered told mark) marks

-- ---- What is told of a change of the source

-- the rules for white space of the last stylesheet that there was, if there was one
abbrev pub Known : Type 0
Known = Option (List SpaceRule)

abbrev pub edited_so : List SpaceRule → (before after : Document ℕ) → Option Change → Mark
edited_so rules before after None = Anything
edited_so rules before after (Some change) = SourceEdited (seen_change change (seen rules before) (seen rules after))

abbrev pub edit_marks : Known → Edit → (before after : Document ℕ) → Mark
edit_marks None edit before after = Anything
edit_marks (Some rules) edit before after = edited_so rules before after (change_of edit before after)

abbrev pub moved_so : Option MoveChange → Mark
moved_so None = Anything
moved_so (Some change) = SourceMoved change

-- where rules might strip white space, anything may be another
abbrev pub move_marks : Known → (path other : List ℕ) → (before after : Document ℕ) → Mark
move_marks None path other before after = Anything
move_marks (Some []) path other before after = moved_so (move_change path other before after)
move_marks (Some (rule ∷ rules)) path other before after = Anything

-- what is told of a document that was there and is there
abbrev pub marks_between : (Document ℕ → Document ℕ → Mark) → (before after : Option (Document ℕ)) → List Mark
marks_between mark (Some before) (Some after) = mark before after ∷ []
marks_between mark None after = []
marks_between mark (Some before) None = []

-- ---- What is told of a change of modules

-- by what the modules are then. Where they are no stylesheet, nothing is run, and nothing is told
abbrev pub StyleIs : Known → Result Sheet Refusal → List Mark → Type 0
StyleIs known (Err why) marks = marks ≡ []
StyleIs None (Ok sheet) marks = marks ≡ Anything ∷ []
StyleIs (Some rules) (Ok sheet) marks =
    ((sheet.space_rules.rules ≡ rules) × (marks ≡ Restyled ∷ [])) ⊎ ((¬ (sheet.space_rules.rules ≡ rules)) × (marks ≡ Anything ∷ []))

abbrev pub AddsStyle : Modules → Option Plain → Known → List Mark → Type 0
AddsStyle modules None known marks = marks ≡ []
AddsStyle modules (Some main) known marks = (result : Result Sheet Refusal) × IsSheet modules main_name result × StyleIs known result marks

-- what is known after it
abbrev pub known_by : Known → Result Sheet Refusal → Known
known_by known (Err why) = known
known_by known (Ok sheet) = Some sheet.space_rules.rules

abbrev pub KnowsOf : Modules → Option Plain → (before after : Known) → Type 0
KnowsOf modules None before after = after ≡ before
KnowsOf modules (Some main) before after = (result : Result Sheet Refusal) × IsSheet modules main_name result × (after ≡ known_by before result)
