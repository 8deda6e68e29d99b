-- What references to globals give, and what is remembered of them.
use Rattle.std.specs.Prelude.{◌≡◌, ℕ, ◌-◌, List, [], ◌∷◌, ◌++◌, map, Bool, Option, Some, None, Result, Ok, Err, Box}
use Rattle.std.specs.declared.alloc.Global.{Global as Allocator}
use Rattle.spec_document.specs.Name.{Expanded, same_name}
use Rattle.spec_stylesheet.specs.Place.{Place}
use Rattle.spec_meaning.specs.Stream as stream
use Rattle.spec_meaning.specs.Stream.{Stream}
use Rattle.spec_meaning.specs.Value as value
use Rattle.spec_meaning.specs.Question.{Question, Answer}
use Rattle.spec_meaning.specs.Context.{Bound}
use Rattle.spec_run.specs.Meaning.{Setting, Past, held_by, referred, meaning}
use Rattle.spec_node.specs.declared.node_ref.NodeRef.{NodeRef}
use Rattle.xt_tree.specs.ValueView.{value_of}
use Rattle.xt_tree.specs.StreamView.{stream_of}
use Rattle.xt_engine.specs.declared.turn.Entered.{Entered}
use Rattle.xt_engine.specs.declared.turn.Entered.TheVariants as entered
use Rattle.xt_text.specs.declared.memory.Memory.{Memory}
use Rattle.xt_driver.specs.declared.globals.Globals.{Globals}
use Rattle.xt_driver.specs.declared.globals.Reference.{Reference}
use Rattle.xt_driver.specs.declared.globals.Reference.TheVariants as references
use Rattle.xt_driver.specs.declared.memo.Memo.{Memo}
use Rattle.xt_driver.specs.declared.memo.Referred.{Referred}
use Rattle.xt_driver.specs.declared.memo.Remembered.{Remembered}
use Rattle.xt_driver.specs.declared.came.Outcome.{Outcome}
use Rattle.xt_driver.specs.View.{outcome_of, setting_of, past_of, Gives}
use Rattle.xt_driver.specs.Remembered.{Entry, Remembers, Keeps, GivesAlways, IsAnew}

abbrev pub entry_of : Remembered → Entry NodeRef
entry_of e = record { name = e.name; element = e.element; levels = e.levels; value = value_of e.value; content = stream_of e.content.value }

abbrev pub entries_of : Memo → List (Entry NodeRef)
entries_of m = map entry_of m.entries.items

-- a global that there is not is the empty text
abbrev pub no_global : Expanded → Entry NodeRef
no_global name = record { name = name; element = None; levels = 0; value = value.Text []; content = stream.Ended }

abbrev pub has_name : Expanded → Remembered → Bool
has_name name e = same_name e.name name

-- ---- What a reference gives

-- a value, from so many levels on
abbrev pub HoldsAs : Setting NodeRef → List (Bound NodeRef) → List (Entry NodeRef) → Expanded → ℕ → Entered → Type 0
HoldsAs s values all name levels (entered.Value v) = GivesAlways s values all name levels (value_of v)
HoldsAs s values all name levels (entered.Stream content) = Unit {0}
HoldsAs s values all name levels (entered.Refused why content) = Unit {0}
HoldsAs s values all name levels entered.UnderWay = Unit {0}

-- with so many levels left, at this element, while all that is remembered
pub record Settles (s : Setting NodeRef) (past : Past NodeRef) (all : List (Entry NodeRef)) (name : Expanded) (levels : ℕ) (place : Place) (r : Referred) : Type 0 where
  pub gives : Gives r.entered place (referred s (meaning s levels) past name 0 place)
  pub holds : HoldsAs s past.values all name (levels - r.spare) r.entered

-- the value of an entry
abbrev pub IsValue : Entered → Entry NodeRef → Type 0
IsValue (entered.Value v) e = value_of v ≡ e.value
IsValue (entered.Stream content) e = ⊥
IsValue (entered.Refused why content) e = ⊥
IsValue entered.UnderWay e = ⊥

pub record IsRecalled (r : Referred) (e : Entry NodeRef) (levels : ℕ) : Type 0 where
  pub value : IsValue r.entered e
  pub spare : r.spare ≡ levels - e.levels

abbrev pub RecallsSo : Option (Box Referred Allocator) → Setting NodeRef → Past NodeRef → List (Entry NodeRef) → Expanded → ℕ → Type 0
RecallsSo None s past all name levels = Unit {0}
RecallsSo (Some r) s past all name levels = (place : Place) → Settles s past all name levels place r.value

-- what is remembered, where it is
pub record Recalls (r : Option (Box Referred Allocator)) (name : Expanded) (levels : ℕ) (all : List (Entry NodeRef)) : Type 0 where
  pub so : (s : Setting NodeRef) (past : Past NodeRef) → Remembers s past all → RecallsSo r s past all name levels

-- this is given, whatever levels are left
abbrev pub IsGivenAt : Reference → Entered → ℕ → Type 0
IsGivenAt (references.Given r) e levels = (r.value.entered ≡ e) × (r.value.spare ≡ levels)
IsGivenAt (references.Evaluated element) e levels = ⊥

-- the value of this entry is given
abbrev pub IsGivenAs : Reference → Entry NodeRef → ℕ → Type 0
IsGivenAs (references.Given r) e levels = IsRecalled r.value e levels
IsGivenAs (references.Evaluated element) e levels = ⊥

-- it is given at once, or its global is to be evaluated
abbrev pub RefersSo : Reference → Setting NodeRef → Past NodeRef → Expanded → ℕ → (old new : List (Entry NodeRef)) → Type 0
RefersSo (references.Given r) s past name levels old new = Keeps s past old new × ((place : Place) → Settles s past new name levels place r.value)
RefersSo (references.Evaluated element) s past name levels old new = IsAnew s past name element × (new ≡ old)

pub record Refers (r : Reference) (globals : Globals) (name : Expanded) (levels : ℕ) (old new : List (Entry NodeRef)) : Type 0 where
  pub so : (ask : Question NodeRef → Answer NodeRef) → Remembers (setting_of ask globals) (past_of globals) old → RefersSo r (setting_of ask globals) (past_of globals) name levels old new

-- ---- What comes of an evaluation

abbrev pub entry_with : Expanded → NodeRef → ℕ → Stream → value.Value NodeRef → Entry NodeRef
entry_with name element levels content v = record { name = name; element = Some element; levels = levels; value = v; content = content }

abbrev pub remembered_as : Expanded → NodeRef → ℕ → Stream → Entered → List (Entry NodeRef)
remembered_as name element levels content (entered.Value v) = entry_with name element levels content (value_of v) ∷ []
remembered_as name element levels content (entered.Stream s) = []
remembered_as name element levels content (entered.Refused why s) = []
remembered_as name element levels content entered.UnderWay = []

pub record IsEvaluated (r : Referred) (o : Outcome) (name : Expanded) (element : NodeRef) (levels : ℕ) (aside old new : List (Entry NodeRef)) : Type 0 where
  pub gives : (place : Place) → Gives r.entered place (held_by (outcome_of o))
  pub remembered : new ≡ (old ++ aside) ++ remembered_as name element (levels - o.spare) (outcome_of o).content r.entered
  pub spare : r.spare ≡ o.spare

abbrev pub Evaluates : Referred → Result (Box Outcome Allocator) Memory → Expanded → NodeRef → ℕ → (aside old new : List (Entry NodeRef)) → Type 0
Evaluates r (Ok o) name element levels aside old new = IsEvaluated r o.value name element levels aside old new
Evaluates r (Err memory) name element levels aside old new = ⊥

-- ---- Levels

-- how many levels fewer would have done
abbrev pub spare_in : Result (Box Outcome Allocator) Memory → ℕ
spare_in (Ok o) = o.value.spare
spare_in (Err memory) = 0

abbrev pub spare_of : Result (Box Referred Allocator) Memory → ℕ
spare_of (Ok r) = r.value.spare
spare_of (Err memory) = 0
