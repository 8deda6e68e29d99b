-- The true answers of a document to the questions that ask for its tree alone. Nodes are named by a key of the reader's choice: by their
-- places, or by their numbers.
use Rattle.std.specs.Prelude.{ℕ, ◌++◌, Bool, List, [], ◌∷◌, Option, None, Some, codes, decimal}
use Rattle.std.specs.List.{find}
use Rattle.spec_document.specs.Forest.{Document}
use Rattle.spec_document.specs.Place as place
use Rattle.spec_document.specs.Place.{Ending, Itself, AtAttribute, AtNamespace, kind_of, expanded_name, written_name, string_value}
use Rattle.spec_document.specs.Order.{Entry, entries_of, is_same_place}
use Rattle.spec_meaning.specs.Step.{stepped, ordered}
use Rattle.spec_meaning.specs.Question.{Question, Step, Text, Name, Place, Order, Key, Choice, Copy, Unit, External, Answer, Gone, SomeNodes, SomeText, Named}

-- the child positions on the way to a node, parted by `c`
abbrev pub positions_text : List ℕ → List ℕ
positions_text [] = []
positions_text (p ∷ []) = decimal p
positions_text (p ∷ q ∷ more) = decimal p ++ codes "c" ++ positions_text (q ∷ more)

abbrev pub ending_text : Ending → ℕ → List ℕ
ending_text Itself number = []
ending_text (AtAttribute position) number = codes "a" ++ decimal number
ending_text (AtNamespace prefix) number = codes "s" ++ decimal number

-- the text that tells a node's place: `n` and the child positions, then for an attribute `a` and its number, for a namespace node `s`
-- and its number in document order
abbrev pub identifier : {L : Type 0} → Entry L → List ℕ
identifier e = codes "n" ++ positions_text e.place.positions ++ ending_text e.place.ending e.number

abbrev pub entry_named : {L K : Type 0} → (Entry L → K) → (K → K → Bool) → List (Entry L) → K → Option (Entry L)
entry_named key same entries node = find (λ entry. same node (key entry)) entries

abbrev pub told_of : {L K : Type 0} → (Entry L → Answer K) → Option (Entry L) → Answer K
told_of answer None = Gone
told_of answer (Some entry) = answer entry

-- nothing is known here of keys, stylesheets and parameters
abbrev pub answer_by : {L K : Type 0} → (Entry L → K) → (K → K → Bool) → List (Entry L) → Question K → Answer K
answer_by key same entries (Step node axis test) = told_of (λ e. SomeNodes (stepped key same entries axis test node)) (entry_named key same entries node)
answer_by key same entries (Text node) = told_of (λ e. SomeText (string_value e.item)) (entry_named key same entries node)
answer_by key same entries (Name node) = told_of (λ e. Named (kind_of e.item) (expanded_name e.item) (written_name e.item)) (entry_named key same entries node)
answer_by key same entries (Place node) = told_of (λ e. SomeText (identifier e)) (entry_named key same entries node)
answer_by key same entries (Order nodes) = SomeNodes (ordered key same entries nodes)
answer_by key same entries (Key name value) = Gone
answer_by key same entries (Choice node mode candidates) = Gone
answer_by key same entries (Copy node) = Gone
answer_by key same entries (Unit element) = Gone
answer_by key same entries (External name) = Gone

-- nodes named by their places
abbrev pub truth_at_places : {L : Type 0} → Document L → Question place.Place → Answer place.Place
truth_at_places document = answer_by (λ e. e.place) is_same_place (entries_of document)
