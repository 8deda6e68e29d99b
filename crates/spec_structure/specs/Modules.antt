-- How modules import and include one another (XSLT 1.0, section 2.6): the order in which they are read, the faults of a name that leads to
-- no module or back to its own, and the stylesheets of the import tree in the order of their precedence.
use Rattle.std.specs.Prelude.{◌≡◌, ℕ, ◌+◌, Bool, true, false, List, [], ◌∷◌, ◌++◌, length, bytes_eq, codes, Option, None, Some}
use Rattle.std.specs.List.{list_any, Contains}
use Rattle.spec_document.specs.Forest as spec
use Rattle.spec_document.specs.Forest.{Written, Forest, Empty, Node, Plain}
use Rattle.spec_expression.specs.declared.code.StaticCode.{StaticCode}
use Rattle.spec_expression.specs.declared.code.StaticCode.TheVariants as code
use Rattle.spec_structure.specs.declared.element.XsltElement.TheVariants as xsl
use Rattle.spec_structure.specs.Inside.{Inside, outside, inside_of, Role, OfXslt, OfExtension, OfOther, role_of, in_no_namespace, value_of}
use Rattle.spec_structure.specs.Structure.{Fault, Link, links_of}

-- the module of each name
abbrev pub Modules : Type 0
Modules = List ℕ → Option Plain

abbrev pub links_by : Option Plain → List Link
links_by None = []
links_by (Some tree) = links_of 1 tree

abbrev pub links_in : Modules → List ℕ → List Link
links_in modules name = links_by (modules name)

abbrev pub is_among : List ℕ → List (List ℕ) → Bool
is_among name names = list_any (bytes_eq name) names

-- ---- Reading order: a module, then at each xsl:import and xsl:include in document order the module that it names and its own, each once;
-- after those read so far

mutual
  pub data Reads (modules : Modules) : List (List ℕ) → List ℕ → List (List ℕ) → Type 0 where
    read_already : {done : List (List ℕ)} {name : List ℕ} → is_among name done ≡ true → Reads modules done name done
    not_there : {done : List (List ℕ)} {name : List ℕ} → is_among name done ≡ false → modules name ≡ None → Reads modules done name done
    reads : {done after : List (List ℕ)} {name : List ℕ} (tree : Plain)
        → is_among name done ≡ false → modules name ≡ Some tree → ReadsLinks modules (done ++ name ∷ []) (links_of 1 tree) after
        → Reads modules done name after

  pub data ReadsLinks (modules : Modules) : List (List ℕ) → List Link → List (List ℕ) → Type 0 where
    no_link : {done : List (List ℕ)} → ReadsLinks modules done [] done
    link : {done between after : List (List ℕ)} {l : Link} {ls : List Link}
        → Reads modules done l.href between → ReadsLinks modules between ls after → ReadsLinks modules done (l ∷ ls) after

-- the modules in reading order, from the principal one on
abbrev pub AreInReadingOrder : Modules → List ℕ → List (List ℕ) → Type 0
AreInReadingOrder modules main names = Reads modules [] main names

-- ---- Faults of a name: it is no module's, or the module that it names leads to the one where it stands

-- from one module another is reached by imports and includes, in any number of steps
pub data Reaches (modules : Modules) : List ℕ → List ℕ → Type 0 where
  itself : {name : List ℕ} → Reaches modules name name
  through : {from to : List ℕ} (l : Link) → Contains (links_in modules from) l → Reaches modules l.href to → Reaches modules from to

-- the code that stands at a link of the module of this name
abbrev pub HasCode : Modules → List ℕ → Link → Option StaticCode → Type 0
HasCode modules name l None = (tree : Plain) × (modules l.href ≡ Some tree) × (Reaches modules l.href name → ⊥)
HasCode modules name l (Some code.NoSuchModule) = modules l.href ≡ None
HasCode modules name l (Some code.ImportCycle) = Reaches modules l.href name
HasCode modules name l (Some _) = ⊥

-- the fault of the first link, in document order, at which a code stands
pub data FirstFault (modules : Modules) (name : List ℕ) : List Link → Option Fault → Type 0 where
  no_fault : FirstFault modules name [] None
  later : {l : Link} {ls : List Link} {fault : Option Fault} → HasCode modules name l None → FirstFault modules name ls fault → FirstFault modules name (l ∷ ls) fault
  first : {l : Link} {ls : List Link} {c : StaticCode} → HasCode modules name l (Some c)
      → FirstFault modules name (l ∷ ls) (Some (record { code = c; path = l.path }))

-- ---- Stylesheets: a module with those that it includes, whose children stand in the place of the xsl:include, and whose imports come after
-- its own

-- a top-level element: the name of its module, and the way to it there
pub record Part : Type 0 where
  pub module_name : List ℕ
  pub path : List ℕ

-- an element at the top of a stylesheet
pub data TopLevel : Type 0 where
  Own : (path : List ℕ) → TopLevel
  Imports : (href : List ℕ) → TopLevel
  Includes : (href : List ℕ) → TopLevel

abbrev pub href_by : (List ℕ → TopLevel) → List ℕ → Option (List ℕ) → TopLevel
href_by make path None = Own path
href_by make path (Some href) = make href

abbrev pub top_level_of : Inside → List ℕ → List Written → Role → TopLevel
top_level_of inside path attributes (OfXslt (Some xsl.Import)) = href_by Imports path (value_of inside.scope (in_no_namespace (codes "href")) attributes)
top_level_of inside path attributes (OfXslt (Some xsl.Include)) = href_by Includes path (value_of inside.scope (in_no_namespace (codes "href")) attributes)
top_level_of inside path attributes _ = Own path

abbrev pub top_levels_among : {L : Type 0} → Inside → List ℕ → ℕ → Forest L → List TopLevel
top_levels_among inside path position Empty = []
top_levels_among inside path position (Node label (spec.Text text) children siblings) = top_levels_among inside path (position + 1) siblings
top_levels_among inside path position (Node label (spec.Comment text) children siblings) = top_levels_among inside path (position + 1) siblings
top_levels_among inside path position (Node label (spec.Instruction target text) children siblings) = top_levels_among inside path (position + 1) siblings
top_levels_among inside path position (Node label (spec.Element name attributes) children siblings) =
    let inner = inside_of inside name attributes in
    top_level_of inner (path ++ position ∷ []) attributes (role_of inner name) ∷ top_levels_among inside path (position + 1) siblings

-- of a module that is a literal result element it is that element, which is the content of a template (section 2.3)
abbrev pub top_levels_below : {L : Type 0} → Inside → List ℕ → Role → Forest L → List TopLevel
top_levels_below inside path (OfXslt element) children = top_levels_among inside path 1 children
top_levels_below inside path OfExtension children = Own path ∷ []
top_levels_below inside path (OfOther uri) children = Own path ∷ []

abbrev pub top_levels_of : {L : Type 0} → ℕ → Forest L → List TopLevel
top_levels_of position Empty = []
top_levels_of position (Node label (spec.Text text) children siblings) = top_levels_of (position + 1) siblings
top_levels_of position (Node label (spec.Comment text) children siblings) = top_levels_of (position + 1) siblings
top_levels_of position (Node label (spec.Instruction target text) children siblings) = top_levels_of (position + 1) siblings
top_levels_of position (Node label (spec.Element name attributes) children siblings) =
    let inner = inside_of outside name attributes in
    top_levels_below inner (position ∷ []) (role_of inner name) children

-- what a module gathers: the modules that its stylesheet imports, and its parts, both in their order
mutual
  pub data Gathers (modules : Modules) : List ℕ → List (List ℕ) → List Part → Type 0 where
    gathers : {name : List ℕ} {imports : List (List ℕ)} {parts : List Part} (tree : Plain)
        → modules name ≡ Some tree → GathersAll modules name (top_levels_of 1 tree) imports parts → Gathers modules name imports parts

  pub data GathersAll (modules : Modules) : List ℕ → List TopLevel → List (List ℕ) → List Part → Type 0 where
    gathered : {name : List ℕ} → GathersAll modules name [] [] []
    own : {name : List ℕ} {more : List TopLevel} {imports : List (List ℕ)} {parts : List Part} {path : List ℕ}
        → GathersAll modules name more imports parts → GathersAll modules name (Own path ∷ more) imports (record { module_name = name; path = path } ∷ parts)
    imports : {name href : List ℕ} {more : List TopLevel} {imported : List (List ℕ)} {parts : List Part}
        → GathersAll modules name more imported parts → GathersAll modules name (Imports href ∷ more) (href ∷ imported) parts
    includes : {name href : List ℕ} {more : List TopLevel} {its imported : List (List ℕ)} {own parts : List Part}
        → Gathers modules href its own → GathersAll modules name more imported parts
        → GathersAll modules name (Includes href ∷ more) (its ++ imported) (own ++ parts)

-- ---- Precedence: the order of a walk over the import tree that comes to a stylesheet after those that it imports, in their order. The
-- precedence of a stylesheet is its number in it, from 0

-- a stylesheet, and how many it imports, by itself and by what it imports: these are those directly before it
pub record Stylesheet : Type 0 where
  pub parts : List Part
  pub imported : ℕ

mutual
  pub data IsOrdered (modules : Modules) : List ℕ → List Stylesheet → Type 0 where
    ordered : {name : List ℕ} {names : List (List ℕ)} {parts : List Part} {below : List Stylesheet}
        → Gathers modules name names parts → AreOrdered modules names below
        → IsOrdered modules name (below ++ record { parts = parts; imported = length below } ∷ [])

  pub data AreOrdered (modules : Modules) : List (List ℕ) → List Stylesheet → Type 0 where
    none_ordered : AreOrdered modules [] []
    each_ordered : {name : List ℕ} {names : List (List ℕ)} {first more : List Stylesheet}
        → IsOrdered modules name first → AreOrdered modules names more → AreOrdered modules (name ∷ names) (first ++ more)
