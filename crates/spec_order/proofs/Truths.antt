-- The true answers of a stylesheet and a source are in order, where the names of the source's nodes are.
use Rattle.std.proofs.Common.{◌≡◌, ℕ, Bool, true, false, cond, List, [], ◌∷◌, Option, None, Some, refl}
use Rattle.std.specs.Prelude.{map, reverse}
use Rattle.std.specs.List.{find}
use Rattle.spec_document.specs.declared.axis.Axis.{Axis}
use Rattle.spec_document.specs.Axis.{is_reverse, in_axis_order}
use Rattle.spec_document.specs.Forest.{Document}
use Rattle.spec_document.specs.Order as places
use Rattle.spec_document.specs.Order.{Entry, entries_of, ways_of, way_to}
use Rattle.spec_document.proofs.Listed.{in_order}
use Rattle.spec_expression.specs.Syntax.{Test}
use Rattle.spec_stylesheet.specs.Place as stylesheet
use Rattle.spec_stylesheet.specs.Sheet.{Sheet}
use Rattle.spec_meaning.specs.Question as question
use Rattle.spec_meaning.specs.Question.{Question, Answer, Refusal, nodes_in}
use Rattle.spec_meaning.specs.Program.{Said, Gives, Refuses, Lacks}
use Rattle.spec_meaning.specs.Step.{step_from, stepped}
use Rattle.spec_meaning.specs.Truth.{entry_named, told_of}
use Rattle.spec_transform.specs.Key as key
use Rattle.spec_transform.specs.Key.{keyed, has}
use Rattle.spec_run.specs.Documents.{Parameters}
use Rattle.spec_run.specs.World.{InSource, InModule, truth_by, truth_at_places, same_node}
use Rattle.spec_order.specs.NodeSet.{ComesBeforeAll, AreInOrder, WorldIsInOrder, precedes}
use Rattle.spec_order.proofs.Lists.{filtered, named}

-- nodes in the order of an axis
abbrev AlongAxis : {N : Type 0} → (N → N → Bool) → Axis → List N → Type 0
AlongAxis {N = N} before axis ms = (nodes : List N) × (ms ≡ in_axis_order axis nodes) × AreInOrder before nodes

none_in_axis : {N : Type 0} (before : N → N → Bool) (axis : Axis) → AlongAxis before axis []
none_in_axis {N} before axis = go (is_reverse axis)
  where
    none : List N
    none = []

    go : (b : Bool) → (nodes : List N) × (none ≡ cond b (reverse nodes) nodes) × AreInOrder before nodes
    go true = ([], refl, tt)
    go false = ([], refl, tt)

stepped_from : {L K : Type 0} (before : K → K → Bool) (key : Entry L → K) (entries : List (Entry L)) (axis : Axis) (test : Test)
    (found : Option (Entry L))
    → AreInOrder before (map key entries) → AlongAxis before axis (step_from key entries axis test found)
stepped_from before key entries axis test None h = none_in_axis before axis
stepped_from before key entries axis test (Some node) h = (_, refl, named before key _ entries h)

told_steps : {L K : Type 0} (before : K → K → Bool) (axis : Axis) (ms : List K) → AlongAxis before axis ms → (found : Option (Entry L))
    → AlongAxis before axis (nodes_in (told_of (λ e. question.SomeNodes ms) found))
told_steps before axis ms h None = none_in_axis before axis
told_steps before axis ms h (Some e) = h

keyed_in_order : {K : Type 0} (before : K → K → Bool) (same : K → K → Bool) (nodes : List K) (text : List ℕ) → AreInOrder before nodes
    → (s : Said (List (key.Entry K))) → AreInOrder before (nodes_in (keyed same nodes text s))
keyed_in_order before same nodes text h (Gives entries) = filtered before (has same entries text) nodes h
keyed_in_order before same nodes text h (Refuses why) = tt
keyed_in_order before same nodes text h (Lacks wanted) = tt

pub truths : {L K : Type 0} (before : K → K → Bool) (key : Entry L → K) (same : K → K → Bool) (name : stylesheet.Place → K) (sheet : Sheet)
    (parameters : Parameters) (entries : List (Entry L)) → AreInOrder before (map key entries)
    → WorldIsInOrder before (truth_by key same name sheet parameters entries)
truths before key same name sheet parameters entries h (question.Step node axis test) =
    told_steps before axis (stepped key same entries axis test node)
    (stepped_from before key entries axis test (find (λ entry. same node (key entry)) entries) h) (entry_named key same entries node)
truths before key same name sheet parameters entries h (question.Order nodes) = named before key _ entries h
truths before key same name sheet parameters entries h (question.Key k text) = keyed_in_order before same (map key entries) text h _
truths before key same name sheet parameters entries h (question.Text node) = tt
truths before key same name sheet parameters entries h (question.Name node) = tt
truths before key same name sheet parameters entries h (question.Place node) = tt
truths before key same name sheet parameters entries h (question.Choice node mode candidates) = tt
truths before key same name sheet parameters entries h (question.Copy node) = tt
truths before key same name sheet parameters entries h (question.Unit element) = tt
truths before key same name sheet parameters entries h (question.External k) = tt

-- ---- by places
place_before : {L : Type 0} (e : Entry L) (es : List (Entry L)) → places.ComesBeforeAll (way_to e.place) (ways_of es)
    → ComesBeforeAll precedes (InSource e.place) (map (λ (d : Entry L). InSource d.place) es)
place_before e [] h = tt
place_before e (d ∷ ds) h = (h.0, place_before e ds h.1)

places_in_order : {L : Type 0} (es : List (Entry L)) → places.AreInOrder (ways_of es)
    → AreInOrder precedes (map (λ (d : Entry L). InSource d.place) es)
places_in_order [] h = tt
places_in_order (e ∷ es) h = (place_before e es h.0, places_in_order es h.1)

pub at_places : {L : Type 0} (sheet : Sheet) (parameters : Parameters) (document : Document L)
    → WorldIsInOrder precedes (truth_at_places sheet parameters document)
at_places sheet parameters document =
    truths precedes (λ e. InSource e.place) same_node InModule sheet parameters (entries_of document)
    (places_in_order (entries_of document) (in_order document))
