-- What is known of the own reads of keys. `was` answers as the world did in which they were asked, `ask` as that of now.
--     IsNodeOf  of a node: these are its values in the keys of the name, wherever what was asked for them has the same answers
--     IsKeyOf   of a name: these are all nodes, and by their values it is answered which of them have a value
--     Goes      of two lists of nodes that are passed side by side: what is left and what was found give the same answers still
use Rattle.std.specs.Prelude.{◌≡◌, ℕ, Bool, true, false, List, [], ◌∷◌, ◌++◌, map, Option, None, Some, option_and_then, if◌then◌else◌}
use Rattle.std.specs.Global.{Global}
use Rattle.std.specs.declared.rc.Rc.{Rc}
use Rattle.spec_document.specs.Forest.{Document}
use Rattle.spec_document.specs.Name.{Expanded}
use Rattle.spec_stylesheet.specs.Sheet.{Unit as SheetUnit}
use Rattle.spec_meaning.specs.Program.{Program, Give, Gives, Read, Asked, Saw, outcome_of, then}
use Rattle.spec_meaning.specs.Question.{Question, SomeNodes, Step, Text, Name, Place, Order, Key, Choice, Copy, Unit as UnitOf, External}
use Rattle.spec_transform.specs.Key.{indexed, keys_named, no_globals}
use Rattle.spec_run.specs.Documents.{Parameters}
use Rattle.spec_node.specs.Naming.{same_ref}
use Rattle.spec_node.specs.declared.node_ref.NodeRef.{NodeRef}
use Rattle.xt_match.specs.Context.{units_in}
use Rattle.xt_document_world.specs.View.{truth_of}
use Rattle.xt_touch.specs.View.{since_of}
use Rattle.xt_touch.specs.declared.since.Since.{Since}
use Rattle.xt_keys.specs.View.{having, texts_at}
use Rattle.xt_world.specs.SourceView.{AreFound}
use Rattle.xt_world.specs.View.{truth_in}
use Rattle.xt_world.specs.declared.stylesheet.Stylesheet.{Stylesheet}
use Rattle.xt_spared.specs.View.{Ask, Agrees, KeysStay, is_text_among, questions_of}
use Rattle.xt_own.specs.declared.own_node.OwnNode.{OwnNode}
use Rattle.xt_own.specs.declared.own_key.OwnKey.{OwnKey}
use Rattle.xt_own.specs.declared.stay.KeysAfter.{KeysAfter}

-- ---- What is asked

-- it is asked of the tree alone
abbrev pub is_of_tree : Question NodeRef → Bool
is_of_tree (Step node axis test) = true
is_of_tree (Text node) = true
is_of_tree (Name node) = true
is_of_tree (Place node) = true
is_of_tree (Order nodes) = true
is_of_tree (Key name value) = false
is_of_tree (Choice node mode candidates) = false
is_of_tree (Copy node) = false
is_of_tree (UnitOf element) = false
is_of_tree (External name) = false

abbrev pub is_name_of : NodeRef → Question NodeRef → Bool
is_name_of node (Name other) = same_ref node other
is_name_of node _ = false

-- the questions among reads, after these, without what the node is called; none where something else is read than of the tree
abbrev pub kept_of : NodeRef → List (Question NodeRef) → Read NodeRef → Option (List (Question NodeRef))
kept_of node done (Asked question answer) =
    if is_of_tree question then Some (if is_name_of node question then done else done ++ question ∷ []) else None
kept_of node done (Saw wanted depth given) = None

abbrev pub own_questions : NodeRef → List (Question NodeRef) → List (Read NodeRef) → Option (List (Question NodeRef))
own_questions node done [] = Some done
own_questions node done (read ∷ reads) = option_and_then (λ kept. own_questions node kept reads) (kept_of node done read)

abbrev pub if_kept : Bool → List (Question NodeRef) → Option (List (Question NodeRef))
if_kept true questions = Some questions
if_kept false questions = None

-- they have the same answers
abbrev pub AgreeOn : (other was : Ask) → List (Question NodeRef) → Type 0
AgreeOn other was [] = Unit {0}
AgreeOn other was (question ∷ questions) = (other question ≡ was question) × AgreeOn other was questions

-- ---- One node in the keys of a name

-- all its values in them
abbrev pub texts_of : List SheetUnit → Expanded → NodeRef → Program NodeRef (List (List ℕ))
texts_of units name node = (then) (indexed same_ref (keys_named name units) (node ∷ []) []) (λ entries. Give (texts_at entries node))

abbrev pub HasTexts : Stylesheet → Document ℕ → Expanded → NodeRef → List (List ℕ) → Type 0
HasTexts s document name node texts = outcome_of (truth_of document) no_globals (texts_of (units_in s.units.items) name node) ≡ Gives texts

-- these are its values, wherever what was asked for them has the same answers
abbrev pub IsNodeOf : Stylesheet → (was : Ask) → Expanded → OwnNode → Type 0
IsNodeOf s was name own =
    (parameters : Parameters) (document : Document ℕ) → truth_in s parameters document (Name own.node) ≡ was (Name own.node)
    → AgreeOn (truth_in s parameters document) was (questions_of own.reads.items) → HasTexts s document name own.node own.texts.items

-- ---- The keys of a name

abbrev pub nodes_of : List (Rc OwnNode Global) → List NodeRef
nodes_of owns = map (λ own. own.value.node) owns

abbrev pub lists_of : List (Rc OwnNode Global) → List (List (List ℕ))
lists_of owns = map (λ own. own.value.texts.items) owns

abbrev pub AreNodesOf : Stylesheet → Ask → Expanded → List (Rc OwnNode Global) → Type 0
AreNodesOf s was name [] = Unit {0}
AreNodesOf s was name (own ∷ owns) = IsNodeOf s was name own.value × AreNodesOf s was name owns

-- the nodes that have a text
abbrev pub having_in : List ℕ → List (Rc OwnNode Global) → List NodeRef
having_in text owns = having text (nodes_of owns) (lists_of owns)

pub record IsKeyOf (s : Stylesheet) (was : Ask) (key : OwnKey) : Type 0 where
  pub nodes : AreNodesOf s was key.name key.nodes.items
  pub answers : (text : List ℕ) → was (Key key.name text) ≡ SomeNodes (having_in text key.nodes.items)

abbrev pub AllKeys : Stylesheet → Ask → List OwnKey → Type 0
AllKeys s was [] = Unit {0}
AllKeys s was (key ∷ keys) = IsKeyOf s was key × AllKeys s was keys

-- ---- Keys that stay

-- which nodes have a value is answered as before, but for these values
abbrev pub AnswersStay : (was ask : Ask) → Expanded → (but : List (List ℕ)) → Type 0
AnswersStay was ask name but = (text : List ℕ) → is_text_among text but ≡ false → ask (Key name text) ≡ was (Key name text)

pub record Stays (s : Stylesheet) (was ask : Ask) (key : OwnKey) (but : List (List ℕ)) : Type 0 where
  pub known : IsKeyOf s ask key
  pub answers : AnswersStay was ask key.name but

-- what is known of all keys that stay
pub record AreAfter (s : Stylesheet) (was : Ask) (parameters : Parameters) (document : Document ℕ) (after : KeysAfter) : Type 0 where
  pub stay : KeysStay was (truth_in s parameters document) after.stay.items
  pub keys : AllKeys s (truth_in s parameters document) after.keys.items
  pub found : AreFound s document after.found.items

-- ---- Two lists that are passed side by side: the nodes of before and those of now

-- but for these texts the answer is of what was found and then of what is left
pub record Passed (s : Stylesheet) (was ask : Ask) (name : Expanded) (answer : List ℕ → List NodeRef) (but : List (List ℕ)) (left found : List (Rc OwnNode Global))
    : Type 0 where
  pub old : AreNodesOf s was name left
  pub new : AreNodesOf s ask name found
  pub same : (text : List ℕ) → is_text_among text but ≡ false → answer text ≡ having_in text found ++ having_in text left

-- each of these texts is among those
abbrev pub Covers : (texts but : List (List ℕ)) → Type 0
Covers texts but = (text : List ℕ) → is_text_among text but ≡ false → is_text_among text texts ≡ false

-- so it is from here to there
abbrev pub Goes : Stylesheet → Document ℕ → Since → Expanded → (but : List (List ℕ)) → (left found : List (Rc OwnNode Global))
    → (but_after : List (List ℕ)) → (left_after found_after : List (Rc OwnNode Global)) → Type 0
Goes s document since name but left found but_after left_after found_after =
    (was : Ask) (parameters : Parameters) (answer : List ℕ → List NodeRef) → Agrees was (truth_in s parameters document) (since_of since)
    → Passed s was (truth_in s parameters document) name answer but left found
    → Passed s was (truth_in s parameters document) name answer but_after left_after found_after

-- so it is where some are left out, whose values are added
abbrev pub Skips : (but : List (List ℕ)) → (left : List (Rc OwnNode Global)) → (but_after : List (List ℕ)) → (left_after : List (Rc OwnNode Global)) → Type 0
Skips but left but_after left_after =
    (s : Stylesheet) (was ask : Ask) (name : Expanded) (answer : List ℕ → List NodeRef) (found : List (Rc OwnNode Global))
    → Passed s was ask name answer but left found → Passed s was ask name answer but_after left_after found
