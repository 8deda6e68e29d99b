-- Which records serve an instantiation: those of its unit, its node and its declared parameters, for whose height there are levels, and whose
-- own reads all hold, up to the first of what they enter that is refused. What they enter is looked at only for that, and where a variable or a
-- parameter holds it.
use Rattle.std.specs.Prelude.{◌≡◌, ℕ, ◌≤◌, List, [], ◌∷◌, ◌++◌, length, drop}
use Rattle.spec_document.specs.Name.{Expanded}
use Rattle.spec_stylesheet.specs.Place.{Place}
use Rattle.spec_stylesheet.specs.Instruction.{Bindings, no_bindings, binding}
use Rattle.spec_stylesheet.specs.Sheet as sheet
use Rattle.spec_meaning.specs.Stream.{Stream, filled}
use Rattle.spec_meaning.specs.Question.{Question, Answer, Resolved}
use Rattle.spec_meaning.specs.Program.{Wanted}
use Rattle.spec_meaning.specs.Context.{Bound, binding_of}
use Rattle.spec_run.specs.Plan.{Call}
use Rattle.spec_run.specs.Direct.{Supplied, Ending, Finished, Gave, Halted, Outcome}
use Rattle.spec_run.specs.Going.{Event, Asked, Saw, Entered, Held}
use Rattle.spec_run.specs.Hold.{GoesOn}
use Rattle.spec_run.specs.Cut.{cut}
use Rattle.spec_run.specs.Trail.{Kept, IsTrue}
use Rattle.spec_run.specs.Meaning.{Setting}
use Rattle.spec_reuse.specs.Instantiation.{Instantiation, given_to, meant_below}

-- ---- Of the same unit, node and declared parameters

-- the names that these bind
abbrev pub bound_in : Bindings → List Expanded
bound_in no_bindings = []
bound_in (binding site name select content more) = name ∷ bound_in more

-- a template alone declares parameters
abbrev pub declared_by : sheet.Declared → List Expanded
declared_by (sheet.ATemplate t) = bound_in t.parameters
declared_by (sheet.AGlobal g) = []
declared_by (sheet.ASet s) = []
declared_by (sheet.AKey k) = []

-- those that the unit declares, for which each instantiation of a unit asks first; a built-in rule has none
abbrev pub declared_in : {N : Type 0} → List (Event N) → List Expanded
declared_in (Asked question (Resolved u) ∷ es) = declared_by u.unit.declared
declared_in _ = []

-- for each of these parameters the same is passed, or nothing both times
abbrev pub PassAlike : {N : Type 0} → List Expanded → (one other : List (Bound N)) → Type 0
PassAlike [] one other = Unit {0}
PassAlike (name ∷ names) one other = (binding_of name one ≡ binding_of name other) × PassAlike names one other

pub record IsOf {N : Type 0} (c : Call N) (k : Kept N) : Type 0 where
  pub target : k.call.target ≡ c.target
  pub node : k.call.node ≡ c.node
  pub parameters : PassAlike (declared_in k.trace) k.call.parameters c.parameters

-- what was kept, as what is kept of this call
abbrev pub taken_for : {N : Type 0} → Call N → Kept N → Kept N
taken_for c k = record { call = c; trace = k.trace; content = k.content; height = k.height; ending = k.ending }

-- a record that goes along its plan and is of the unit, the node and the declared parameters of an instantiation that has the levels for it
pub record Fits {N : Type 0} (s : Setting N) (i : Instantiation N) (k : Kept N) : Type 0 where
  pub lasting : IsTrue s.same k
  pub of_call : IsOf i.call k
  pub levels : k.height ≤ i.below

-- ---- Where all reads hold

-- Each question has that answer, the run gives what it gave, and the streams that were held are as they were, where what is entered has these
-- streams after those before it. Nothing is asked of what stands behind an instantiation that is refused, since it is not read
abbrev pub ReadsHold : {N : Type 0} → (Question N → Answer N) → (Wanted → ℕ → Place → Supplied N) → (ℕ → Call N → Outcome N) → List Stream
    → List (Event N) → Type 0
ReadsHold ask supply nested streams [] = Unit {0}
ReadsHold ask supply nested streams (Asked question answer ∷ es) = (ask question ≡ answer) × ReadsHold ask supply nested streams es
ReadsHold ask supply nested streams (Saw wanted depth place supplied ∷ es) =
    (supply wanted depth place ≡ supplied) × ReadsHold ask supply nested streams es
ReadsHold ask supply nested streams (Entered call depth ∷ es) =
    GoesOn (nested depth call).ending → ReadsHold ask supply nested (streams ++ (nested depth call).content ∷ []) es
ReadsHold ask supply nested streams (Held first contents ∷ es) = (drop first streams ≡ contents) × ReadsHold ask supply nested streams es

pub record Serves {N : Type 0} (s : Setting N) (i : Instantiation N) (k : Kept N) : Type 0 where
  pub fits : Fits s i k
  pub reads : ReadsHold s.ask (given_to s i) (meant_below s i) [] k.trace

-- ---- What a record that serves comes to

-- this, unless what was entered is refused: then it is refused too, with what stood before
abbrev pub unless_refused : {N : Type 0} → Outcome N → (refused : Stream) → Ending N → Outcome N
unless_refused o refused Finished = o
unless_refused o refused (Gave value) = o
unless_refused o refused (Halted why) = record { content = refused; ending = Halted why }

-- Along what was done, after these streams, where what is entered means this: the stream with the streams of what is entered in place of its holes; or
-- what stood before the first of these that is refused, with that one's stream, and its refusal
abbrev pub comes_along : {N : Type 0} → (content : Stream) → Ending N → (ℕ → Call N → Outcome N) → List Stream → List (Event N) → Outcome N
comes_along content ending nested streams [] = record { content = filled content streams; ending = ending }
comes_along content ending nested streams (Asked question answer ∷ es) = comes_along content ending nested streams es
comes_along content ending nested streams (Saw wanted depth place supplied ∷ es) = comes_along content ending nested streams es
comes_along content ending nested streams (Held first contents ∷ es) = comes_along content ending nested streams es
comes_along content ending nested streams (Entered call depth ∷ es) =
    let now = streams ++ (nested depth call).content ∷ [] in
    unless_refused (comes_along content ending nested now es) (filled (cut (length streams) content) now) (nested depth call).ending

abbrev pub comes_to : {N : Type 0} → Setting N → Instantiation N → Kept N → Outcome N
comes_to s i k = comes_along k.content k.ending (meant_below s i) [] k.trace
