-- What is asked of a world, which is a stylesheet, a source and parameters, and what it answers. N names nodes, of the source and of
-- the modules of the stylesheet: by their places, or by their numbers.
use Rattle.std.specs.Prelude.{ℕ, Bool, List, [], Option, None, Some}
use Rattle.spec_document.specs.declared.axis.Axis.{Axis}
use Rattle.spec_document.specs.declared.kind.Kind.{Kind}
use Rattle.spec_document.specs.Name.{Expanded}
use Rattle.spec_expression.specs.declared.code.DynCode.{DynCode}
use Rattle.spec_expression.specs.Syntax.{Test}
use Rattle.spec_stylesheet.specs.Place as stylesheet
use Rattle.spec_stylesheet.specs.Sheet as sheet
use Rattle.spec_meaning.specs.Stream.{Stream}

-- why there is no value: at the element that holds the expression, or at another element, which is a global, an xsl:key or an xsl:sort
pub data Refusal : Type 0 where
  Here : (code : DynCode) → Refusal
  At : (code : DynCode) → (place : stylesheet.Place) → Refusal

-- which template rules are candidates: all, or those that a stylesheet imported, which are those of a range of precedences
pub data Candidates : Type 0 where
  AllRules : Candidates
  Imported : (first last : ℕ) → Candidates

-- a name that stands in a unit, and what it names
pub record NamedTemplate (N : Type 0) : Type 0 where
  pub name : Expanded
  pub element : N

pub record NamedSets (N : Type 0) : Type 0 where
  pub name : Expanded
  pub elements : List N

-- a unit with the named templates and the attribute sets that it names, and the aliases of the stylesheet; of a global, whether it is the one of
-- its name that counts
pub record ResolvedUnit (N : Type 0) : Type 0 where
  pub unit : sheet.Unit
  pub templates : List (NamedTemplate N)
  pub sets : List (NamedSets N)
  pub aliases : List sheet.Alias
  pub counts : Bool

-- a template rule: the element of its template, and what its stylesheet imports, which are the import precedences from the first on and below
-- the last
pub record ChosenRule (N : Type 0) : Type 0 where
  pub element : N
  pub first : ℕ
  pub last : ℕ

pub data Question (N : Type 0) : Type 0 where
  -- the nodes of an axis that pass a node test, in the order of the axis
  Step : (node : N) → (axis : Axis) → (test : Test) → Question N
  -- the string-value
  Text : (node : N) → Question N
  -- the kind and the names
  Name : (node : N) → Question N
  -- the text that tells the node's place
  Place : (node : N) → Question N
  -- these nodes in document order, each once
  Order : (nodes : List N) → Question N
  -- the nodes that have a value in the keys of a name
  Key : (name : Expanded) → (value : List ℕ) → Question N
  -- the template rule of a node; none where that is a built-in rule
  Choice : (node : N) → (mode : Option Expanded) → (candidates : Candidates) → Question N
  -- a copy of the node with what is below it
  Copy : (node : N) → Question N
  -- the unit of an element of the stylesheet
  Unit : (element : N) → Question N
  -- a parameter that is given from outside
  External : (name : List ℕ) → Question N

pub data Answer (N : Type 0) : Type 0 where
  -- the node is not there
  Gone : Answer N
  -- an xsl:key is refused
  Refused : (why : Refusal) → Answer N
  SomeNodes : (nodes : List N) → Answer N
  SomeText : (text : List ℕ) → Answer N
  Named : (kind : Kind) → (name : Option Expanded) → (written : List ℕ) → Answer N
  Chosen : (rule : Option (ChosenRule N)) → Answer N
  Copied : (stream : Stream) → Answer N
  Resolved : (unit : ResolvedUnit N) → Answer N
  Passed : (value : Option (List ℕ)) → Answer N

-- what a world must be able to answer for a question: of the tree alone, of keys too, of the whole stylesheet
abbrev pub rank_of : {N : Type 0} → Question N → ℕ
rank_of (Step node axis test) = 0
rank_of (Text node) = 0
rank_of (Name node) = 0
rank_of (Place node) = 0
rank_of (Order nodes) = 0
rank_of (Copy node) = 0
rank_of (Key name value) = 1
rank_of (Choice node mode candidates) = 2
rank_of (Unit element) = 2
rank_of (External name) = 2

-- what an answer has; nothing where it is of another kind
abbrev pub nodes_in : {N : Type 0} → Answer N → List N
nodes_in (SomeNodes nodes) = nodes
nodes_in _ = []

abbrev pub rule_in : {N : Type 0} → Answer N → Option (ChosenRule N)
rule_in (Chosen rule) = rule
rule_in _ = None

abbrev pub text_in : {N : Type 0} → Answer N → List ℕ
text_in (SomeText text) = text
text_in _ = []

abbrev pub local_of : Option Expanded → List ℕ
local_of None = []
local_of (Some name) = name.local

abbrev pub uri_of : Option Expanded → List ℕ
uri_of None = []
uri_of (Some name) = name.uri

abbrev pub local_in : {N : Type 0} → Answer N → List ℕ
local_in (Named kind name written) = local_of name
local_in _ = []

abbrev pub uri_in : {N : Type 0} → Answer N → List ℕ
uri_in (Named kind name written) = uri_of name
uri_in _ = []

abbrev pub written_in : {N : Type 0} → Answer N → List ℕ
written_in (Named kind name written) = written
written_in _ = []
