-- The true answers of a stylesheet and a source to all questions. The nodes of the source are named by a key of the reader's choice, and so
-- are the elements of the stylesheet: by their places, or by their numbers.
use Rattle.std.specs.Prelude.{ℕ, Bool, true, false, ◌&&◌, List, [], ◌∷◌, ◌++◌, map, Option, None, Some, slice_get, bytes_eq, if◌then◌else◌}
use Rattle.std.specs.List.{filter, find, flat_map, list_any}
use Rattle.spec_document.specs.Name.{Expanded, same_name}
use Rattle.spec_document.specs.Forest.{Document}
use Rattle.spec_document.specs.Place as document
use Rattle.spec_document.specs.Order.{Entry, entries_of, is_same_place}
use Rattle.spec_stylesheet.specs.Place as stylesheet
use Rattle.spec_stylesheet.specs.Instruction as made
use Rattle.spec_stylesheet.specs.Instruction.{Form, without_content, with_content, control, Control, for_each, for_items, conditional, choose, apply_templates, call_template, Instrs, no_instrs, instr, Branches, no_branches, branch, Bindings, no_bindings, binding}
use Rattle.spec_stylesheet.specs.Sheet as sheet
use Rattle.spec_stylesheet.specs.Sheet.{Alias, Sheet, Rule}
use Rattle.spec_meaning.specs.Question as question
use Rattle.spec_meaning.specs.Question.{Question, Answer, Gone, SomeNodes, Chosen, Copied, Resolved, Passed, Candidates, ChosenRule, NamedTemplate, NamedSets, ResolvedUnit}
use Rattle.spec_meaning.specs.Program.{Said, Gives, outcome_of}
use Rattle.spec_meaning.specs.Truth.{answer_by, entry_named, told_of}
use Rattle.spec_transform.specs.Choice.{context_for, chosen}
use Rattle.spec_transform.specs.Key.{no_globals, keys_named, indexed, keyed}
use Rattle.spec_run.specs.Documents.{Parameters}
use Rattle.spec_run.specs.Copy.{copy_of}
use Rattle.spec_run.specs.Meaning.{NamedGlobal, Setting}

abbrev pub same_module : Option (List ℕ) → Option (List ℕ) → Bool
same_module None None = true
same_module (Some a) (Some b) = bytes_eq a b
same_module _ _ = false

abbrev pub same_element : stylesheet.Place → stylesheet.Place → Bool
same_element a b = same_module a.module_name b.module_name && bytes_eq a.path b.path

-- ---- Units, by their elements

-- the templates that a content calls by name, with those of what stands in it
abbrev mutual
  pub called_in : Instrs → List Expanded
  called_in no_instrs = []
  called_in (instr site form is) = called_by form ++ called_in is

  pub called_by : Form → List Expanded
  called_by (without_content what) = []
  called_by (with_content what is) = called_in is
  called_by (control c) = called_under c

  pub called_under : Control → List Expanded
  called_under (for_each e keys is) = called_in is
  called_under (for_items e keys name bs) = name ∷ called_in_bindings bs
  called_under (conditional e is) = called_in is
  called_under (choose bs) = called_in_branches bs
  called_under (apply_templates s bs) = called_in_bindings bs
  called_under (call_template name bs) = name ∷ called_in_bindings bs

  pub called_in_branches : Branches → List Expanded
  called_in_branches no_branches = []
  called_in_branches (branch site test is more) = called_in is ++ called_in_branches more

  pub called_in_bindings : Bindings → List Expanded
  called_in_bindings no_bindings = []
  called_in_bindings (binding site name select is more) = called_in is ++ called_in_bindings more

abbrev pub called_in_unit : sheet.Declared → List Expanded
called_in_unit (sheet.ATemplate t) = called_in_bindings t.parameters ++ called_in t.content
called_in_unit (sheet.AGlobal g) = called_in g.binding.content
called_in_unit (sheet.ASet s) = called_in s.attributes
called_in_unit (sheet.AKey k) = []

-- the attribute sets that a content uses by name, with those of what stands in it
abbrev pub sets_by : made.WithContent → List Expanded
sets_by (made.Literal tag) = tag.sets
sets_by (made.Element name sets) = sets
sets_by (made.Copy sets) = sets
sets_by _ = []

abbrev mutual
  pub used_in : Instrs → List Expanded
  used_in no_instrs = []
  used_in (instr site form is) = used_by form ++ used_in is

  pub used_by : Form → List Expanded
  used_by (without_content what) = []
  used_by (with_content what is) = sets_by what ++ used_in is
  used_by (control c) = used_under c

  pub used_under : Control → List Expanded
  used_under (for_each e keys is) = used_in is
  used_under (for_items e keys name bs) = used_in_bindings bs
  used_under (conditional e is) = used_in is
  used_under (choose bs) = used_in_branches bs
  used_under (apply_templates s bs) = used_in_bindings bs
  used_under (call_template name bs) = used_in_bindings bs

  pub used_in_branches : Branches → List Expanded
  used_in_branches no_branches = []
  used_in_branches (branch site test is more) = used_in is ++ used_in_branches more

  pub used_in_bindings : Bindings → List Expanded
  used_in_bindings no_bindings = []
  used_in_bindings (binding site name select is more) = used_in is ++ used_in_bindings more

abbrev pub used_in_unit : sheet.Declared → List Expanded
used_in_unit (sheet.ATemplate t) = used_in_bindings t.parameters ++ used_in t.content
used_in_unit (sheet.AGlobal g) = used_in g.binding.content
used_in_unit (sheet.ASet s) = s.sets ++ used_in s.attributes
used_in_unit (sheet.AKey k) = []

abbrev pub is_set : Expanded → sheet.Declared → Bool
is_set name (sheet.ASet s) = same_name s.name name
is_set name _ = false

abbrev pub is_template : Expanded → sheet.Declared → Bool
is_template name (sheet.ATemplate t) = elim t.name [ None ↦ false | Some other ↦ same_name other name ]
is_template name _ = false

abbrev pub is_global : Expanded → sheet.Declared → Bool
is_global name (sheet.AGlobal g) = same_name g.binding.name name
is_global name _ = false

-- the element of the last unit that is such a one: units stand by precedence, so it is the one that counts
abbrev pub last_element : (sheet.Declared → Bool) → Option stylesheet.Place → List sheet.Unit → Option stylesheet.Place
last_element test found [] = found
last_element test found (u ∷ us) = last_element test (if test u.declared then Some u.site.place else found) us

abbrev pub template_by : {K : Type 0} → (stylesheet.Place → K) → Expanded → Option stylesheet.Place → List (NamedTemplate K)
template_by named name None = []
template_by named name (Some place) = record { name = name; element = named place } ∷ []

abbrev pub templates_called : {K : Type 0} → (stylesheet.Place → K) → List sheet.Unit → List Expanded → List (NamedTemplate K)
templates_called named units names = flat_map (λ name. template_by named name (last_element (is_template name) None units)) names

abbrev pub is_element : stylesheet.Place → Option stylesheet.Place → Bool
is_element place None = false
is_element place (Some other) = same_element other place

-- all attribute sets of a name, by precedence and then in the order of the stylesheet
abbrev pub sets_of_name : {K : Type 0} → (stylesheet.Place → K) → List sheet.Unit → Expanded → NamedSets K
sets_of_name named units name = record { name = name; elements = map (λ u. named u.site.place) (filter (λ u. is_set name u.declared) units) }

abbrev pub sets_used : {K : Type 0} → (stylesheet.Place → K) → List sheet.Unit → List Expanded → List (NamedSets K)
sets_used named units names = map (sets_of_name named units) names

-- of the globals of one name the last counts. A module that is imported twice stands in the stylesheet twice, and so does what it declares
abbrev pub counts : List sheet.Unit → sheet.Unit → Bool
counts units u = elim u.declared [
  | sheet.AGlobal g ↦ is_element u.site.place (last_element (is_global g.binding.name) None units)
  | sheet.ATemplate t ↦ false
  | sheet.ASet s ↦ false
  | sheet.AKey k ↦ false
]

-- those that count, each once, in the order of the stylesheet
abbrev pub global_in : sheet.Declared → List Expanded
global_in (sheet.AGlobal g) = g.binding.name ∷ []
global_in (sheet.ATemplate t) = []
global_in (sheet.ASet s) = []
global_in (sheet.AKey k) = []

-- the global of this name that a unit is, unless one of those after it is one too
abbrev pub global_by : {K : Type 0} → (stylesheet.Place → K) → sheet.Unit → List sheet.Unit → Expanded → List (NamedGlobal K)
global_by named u us name =
    if list_any (λ later. is_global name later.declared) us then [] else record { name = name; element = named u.site.place } ∷ []

abbrev pub globals_of : {K : Type 0} → (stylesheet.Place → K) → List sheet.Unit → List (NamedGlobal K)
globals_of named [] = []
globals_of named (u ∷ us) = flat_map (global_by named u us) (global_in u.declared) ++ globals_of named us

-- a unit with what its names name, in a stylesheet of these units and aliases
abbrev pub resolved_in : {K : Type 0} → (stylesheet.Place → K) → List Alias → List sheet.Unit → sheet.Unit → ResolvedUnit K
resolved_in named aliases units u = record {
  unit = u;
  templates = templates_called named units (called_in_unit u.declared);
  sets = sets_used named units (used_in_unit u.declared);
  aliases = aliases;
  counts = counts units u;
}

abbrev pub unit_by : {K : Type 0} → (stylesheet.Place → K) → List Alias → List sheet.Unit → Option sheet.Unit → Answer K
unit_by named aliases units None = Gone
unit_by named aliases units (Some u) = Resolved (resolved_in named aliases units u)

abbrev pub unit_at : {K : Type 0} → (stylesheet.Place → K) → (K → K → Bool) → List Alias → List sheet.Unit → K → Answer K
unit_at named same aliases units element = unit_by named aliases units (find (λ u. same element (named u.site.place)) units)

-- ---- Keys

-- the nodes that have a value in the keys of a name, where these are the answers of the source's tree and these are all its nodes in document order
abbrev pub keyed_at : {K : Type 0} → (K → K → Bool) → List sheet.Unit → (Question K → Answer K) → List K → Expanded → List ℕ → Answer K
keyed_at same units tree nodes name text = keyed same nodes text (outcome_of tree no_globals (indexed same (keys_named name units) nodes []))

-- the answers of the source's tree and of its keys
abbrev pub with_keys : {K : Type 0} → (K → K → Bool) → List sheet.Unit → (Question K → Answer K) → List K → Question K → Answer K
with_keys same units tree nodes (question.Key name text) = keyed_at same units tree nodes name text
with_keys same units tree nodes q = tree q

-- ---- Rules, by the elements of their templates

abbrev pub chosen_in : {K : Type 0} → (stylesheet.Place → K) → Rule → Option sheet.Unit → Option (ChosenRule K)
chosen_in named rule None = None
chosen_in named rule (Some u) = Some (record { element = named u.site.place; first = rule.imported; last = rule.precedence })

abbrev pub chosen_by : {K : Type 0} → (stylesheet.Place → K) → List sheet.Unit → Option Rule → Option (ChosenRule K)
chosen_by named units None = None
chosen_by named units (Some rule) = chosen_in named rule (slice_get units rule.unit)

abbrev pub rule_by : {K : Type 0} → (stylesheet.Place → K) → Sheet → Said (Option ℕ) → Answer K
rule_by named s (Gives (Some number)) = Chosen (chosen_by named s.units (slice_get s.rules.rules number))
rule_by named s _ = Chosen None

-- the template rule of a node, where these are the answers of the source; none where it is a built-in rule
abbrev pub rule_at : {K : Type 0} → (stylesheet.Place → K) → (K → K → Bool) → Sheet → (Question K → Answer K) → K → Option Expanded → Candidates → Answer K
rule_at named same s tree n mode candidates =
    rule_by named s (outcome_of tree no_globals (chosen same (context_for s.units n) n mode candidates s.rules.rules))

-- ---- All

-- the answers of the source by its entries
abbrev pub source_by : {L K : Type 0} → (Entry L → K) → (K → K → Bool) → Sheet → List (Entry L) → Question K → Answer K
source_by key same s entries = with_keys same s.units (answer_by key same entries) (map key entries)

-- `key` names the nodes of the source by its entries, `named` the elements of the stylesheet by their places. Patterns may ask for keys, and keys
-- ask for the tree alone
abbrev pub truth_by : {L K : Type 0} → (Entry L → K) → (K → K → Bool) → (stylesheet.Place → K) → Sheet → Parameters → List (Entry L) → Question K → Answer K
truth_by key same named s parameters entries (question.Copy n) = told_of (λ e. Copied (copy_of e.item)) (entry_named key same entries n)
truth_by key same named s parameters entries (question.Choice n mode candidates) =
    told_of (λ e. rule_at named same s (source_by key same s entries) n mode candidates) (entry_named key same entries n)
truth_by key same named s parameters entries (question.Unit element) = unit_at named same s.aliases s.units element
truth_by key same named s parameters entries (question.Key name text) = source_by key same s entries (question.Key name text)
truth_by key same named s parameters entries (question.External name) = Passed (parameters name)
truth_by key same named s parameters entries q = answer_by key same entries q

-- ---- By places

pub data Node : Type 0 where
  InSource : (place : document.Place) → Node
  InModule : (element : stylesheet.Place) → Node

abbrev pub same_node : Node → Node → Bool
same_node (InSource p) (InSource q) = is_same_place p q
same_node (InModule a) (InModule b) = same_element a b
same_node _ _ = false

abbrev pub truth_at_places : {L : Type 0} → Sheet → Parameters → Document L → Question Node → Answer Node
truth_at_places s parameters document = truth_by (λ e. InSource e.place) same_node InModule s parameters (entries_of document)

abbrev pub root_place : document.Place
root_place = record { positions = []; ending = document.Itself }

abbrev pub setting_of : {L : Type 0} → Sheet → Parameters → Document L → Setting Node
setting_of s parameters document =
    record { ask = truth_at_places s parameters document; same = same_node; root = InSource root_place; globals = globals_of InModule s.units }
