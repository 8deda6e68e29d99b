-- Modules without faults have their stylesheets in the order of precedence: what they import and include leads to modules, and never back.
use Rattle.std.proofs.Common.{◌≡◌, ◌+◌, ◌≤◌, ℕ, zero, suc, Bool, true, false, if◌then◌else◌, List, [], ◌∷◌, ◌++◌, length, Option, None, Some, sym, subst, arith}
use Rattle.std.proofs.lemmas.List.Elements.{Contains-append_left, Contains-append_right, Contains-push}
use Rattle.std.specs.List.{Contains}
use Rattle.spec_document.specs.Forest as spec
use Rattle.spec_document.specs.Forest.{Written, Forest, Empty, Node, Plain}
use Rattle.spec_structure.specs.declared.element.XsltElement.TheVariants as xsl
use Rattle.spec_structure.specs.declared.content.ContentKind.TheVariants as content
use Rattle.spec_structure.specs.Inside.{Inside, outside, inside_of, Role, OfXslt, OfExtension, OfOther, role_of}
use Rattle.spec_structure.specs.Structure.{Link, fault_of, document_fault, fault_with, stylesheet_code, no_stylesheet, is_stylesheet, links_of, links_below, links_among, link_of, link_by, href_in}
use Rattle.spec_structure.specs.Modules.{Modules, links_in, links_by, is_among, Reaches, itself, through, HasCode, Part, Gathers, gathers, GathersAll, gathered, own, imports, includes, TopLevel, Own, Imports, Includes, top_level_of, top_levels_among, top_levels_below, top_levels_of, href_by, Stylesheet, IsOrdered, ordered, AreOrdered, none_ordered, each_ordered}
use Rattle.spec_compile.proofs.Names.{not_equal, without, shorter, left_among}

-- ---- What the top-level elements name, links name

abbrev At : (List ℕ → Type 0) → TopLevel → Type 0
At P (Own path) = Unit {0}
At P (Imports href) = P href
At P (Includes href) = P href

abbrev Named : (List ℕ → Type 0) → List TopLevel → Type 0
Named P [] = Unit {0}
Named P (t ∷ ts) = At P t × Named P ts

abbrev Linked : (List ℕ → Type 0) → List Link → Type 0
Linked P ls = (l : Link) → Contains ls l → P l.href

imported_at : (P : List ℕ → Type 0) (path : List ℕ) (o : Option (List ℕ)) → Linked P (link_by path true o) → At P (href_by Imports path o)
imported_at P path None linked = tt
imported_at P path (Some href) linked =
    let l : Link = record { path = path; is_import = true; href = href } in linked l (Contains-push [] l)

included_at : (P : List ℕ → Type 0) (path : List ℕ) (o : Option (List ℕ)) → Linked P (link_by path false o) → At P (href_by Includes path o)
included_at P path None linked = tt
included_at P path (Some href) linked =
    let l : Link = record { path = path; is_import = false; href = href } in linked l (Contains-push [] l)

named_at : (P : List ℕ → Type 0) (inside : Inside) (path : List ℕ) (attributes : List Written) (role : Role)
    → Linked P (link_of inside path attributes role) → At P (top_level_of inside path attributes role)
named_at P inside path attributes (OfXslt (Some xsl.Import)) linked = imported_at P path (href_in inside.scope attributes) linked
named_at P inside path attributes (OfXslt (Some xsl.Include)) linked = included_at P path (href_in inside.scope attributes) linked
named_at P inside path attributes _ linked = tt

named_among : (P : List ℕ → Type 0) (inside : Inside) (path : List ℕ) (position : ℕ) (f : Plain)
    → Linked P (links_among inside path position f) → Named P (top_levels_among inside path position f)
named_among P inside path position Empty linked = tt
named_among P inside path position (Node label (spec.Text text) children siblings) linked = named_among P inside path (position + 1) siblings linked
named_among P inside path position (Node label (spec.Comment text) children siblings) linked = named_among P inside path (position + 1) siblings linked
named_among P inside path position (Node label (spec.Instruction target text) children siblings) linked =
    named_among P inside path (position + 1) siblings linked
named_among P inside path position (Node label (spec.Element name attributes) children siblings) linked =
    let inner = inside_of inside name attributes in
    let here = link_of inner (path ++ position ∷ []) attributes (role_of inner name) in
    let more = links_among inside path (position + 1) siblings in (
      named_at P inner (path ++ position ∷ []) attributes (role_of inner name) (λ l c. linked l (Contains-append_left here more l c)),
      named_among P inside path (position + 1) siblings (λ l c. linked l (Contains-append_right here more l c)),
    )

named_below : (P : List ℕ → Type 0) (inside : Inside) (path : List ℕ) (role : Role) (attributes : List Written) (children : Plain)
    → document_fault inside path role attributes children ≡ None → Linked P (links_below inside path role children)
    → Named P (top_levels_below inside path role children)
named_below P inside path (OfXslt None) attributes children sound linked = absurd (cc)
named_below P inside path (OfXslt (Some element)) attributes children sound linked = by (is_stylesheet element) sound linked
  where
    by : (b : Bool) → (if b then fault_with inside content.Imports path (stylesheet_code inside element attributes) children else no_stylesheet path) ≡ None
        → Linked P (if b then links_among inside path 1 children else []) → Named P (top_levels_among inside path 1 children)
    by true sound linked = named_among P inside path 1 children linked
    by false sound linked = absurd (cc)
named_below P inside path OfExtension attributes children sound linked = (tt, tt)
named_below P inside path (OfOther uri) attributes children sound linked = (tt, tt)

named : (P : List ℕ → Type 0) (position : ℕ) (f : Plain) → fault_of position f ≡ None → Linked P (links_of position f)
    → Named P (top_levels_of position f)
named P position Empty sound linked = tt
named P position (Node label (spec.Text text) children siblings) sound linked = named P (position + 1) siblings sound linked
named P position (Node label (spec.Comment text) children siblings) sound linked = named P (position + 1) siblings sound linked
named P position (Node label (spec.Instruction target text) children siblings) sound linked = named P (position + 1) siblings sound linked
named P position (Node label (spec.Element name attributes) children siblings) sound linked =
    let inner = inside_of outside name attributes in named_below P inner (position ∷ []) (role_of inner name) attributes children sound linked

-- ---- What modules gather

-- what a module gathers, and the stylesheets of what its stylesheet imports
record Whole (modules : Modules) (name : List ℕ) : Type 0 where
  names : List (List ℕ)
  parts : List Part
  below : List Stylesheet
  gathers : Gathers modules name names parts
  ordered : AreOrdered modules names below

record WholeOf (modules : Modules) (name : List ℕ) (ts : List TopLevel) : Type 0 where
  names : List (List ℕ)
  parts : List Part
  below : List Stylesheet
  gathers : GathersAll modules name ts names parts
  ordered : AreOrdered modules names below

both_ordered : {modules : Modules} {names more : List (List ℕ)} {a b : List Stylesheet} → AreOrdered modules names a → AreOrdered modules more b
    → (c : List Stylesheet) × AreOrdered modules (names ++ more) c
both_ordered none_ordered g = (_, g)
both_ordered (each_ordered h hs) g = let rest = both_ordered hs g in (_, each_ordered h rest.1)

all_gathered : (modules : Modules) (name : List ℕ) (ts : List TopLevel) → Named (Whole modules) ts → WholeOf modules name ts
all_gathered modules name [] ws = record { names = []; parts = []; below = []; gathers = gathered; ordered = none_ordered }
all_gathered modules name (Own path ∷ ts) ws =
    let rest = all_gathered modules name ts ws.1 in
    record { names = rest.names; parts = _; below = rest.below; gathers = own rest.gathers; ordered = rest.ordered }
all_gathered modules name (Imports href ∷ ts) ws =
    let w = ws.0 in
    let rest = all_gathered modules name ts ws.1 in
    record {
      names = href ∷ rest.names;
      parts = rest.parts;
      below = _;
      gathers = imports rest.gathers;
      ordered = each_ordered (ordered w.gathers w.ordered) rest.ordered;
    }
all_gathered modules name (Includes href ∷ ts) ws =
    let w = ws.0 in
    let rest = all_gathered modules name ts ws.1 in
    let both = both_ordered w.ordered rest.ordered in
    record { names = w.names ++ rest.names; parts = _; below = both.0; gathers = includes w.gathers rest.gathers; ordered = both.1 }

-- ---- Without faults

-- a module that has no fault of structure, and none of what it names
pub record IsWell (modules : Modules) (name : List ℕ) : Type 0 where
  pub tree : Plain
  pub is : modules name ≡ Some tree
  pub sound : fault_of 1 tree ≡ None
  pub links : (l : Link) → Contains (links_of 1 tree) l → HasCode modules name l None

abbrev AllWell : Modules → List ℕ → Type 0
AllWell modules name = (x : List ℕ) → Reaches modules name x → IsWell modules x

abbrev Covered : Modules → List (List ℕ) → List ℕ → Type 0
Covered modules left name = (x : List ℕ) → Reaches modules name x → is_among x left ≡ true

in_module : {modules : Modules} {name : List ℕ} (w : IsWell modules name) (l : Link) → Contains (links_of 1 w.tree) l → Contains (links_in modules name) l
in_module w l c = subst (λ (o : Option Plain). Contains (links_by o) l) (sym w.is) c

whole : (modules : Modules) (fuel : ℕ) (left : List (List ℕ)) → length left ≤ fuel → (name : List ℕ) → Covered modules left name → AllWell modules name
    → Whole modules name
whole modules zero left bound name cover well = let s = shorter name left (cover name itself) in absurd (omega (arith, s, bound))
whole modules (suc fuel) left bound name cover well =
    let w = well name itself in
    let s = shorter name left (cover name itself) in
    let fewer : length (without name left) ≤ fuel = omega (arith, s, bound) in
    let all = all_gathered modules name (top_levels_of 1 w.tree)
    (named (Whole modules) 1 w.tree w.sound
    (λ l c. whole modules fuel (without name left) fewer l.href
    (λ x r. left_among x name left (cover x (through l (in_module w l c) r))
    (not_equal name x (λ same. (w.links l c).2 (subst (λ (y : List ℕ). Reaches modules l.href y) (sym same) r))))
    (λ x r. well x (through l (in_module w l c) r)))) in
    record { names = all.names; parts = all.parts; below = all.below; gathers = gathers w.tree w.is all.gathers; ordered = all.ordered }

-- the stylesheets of a module, where all that it reaches is among these names, and without faults
pub some_stylesheets : (modules : Modules) (names : List (List ℕ)) (main : List ℕ) → Covered modules names main → AllWell modules main
    → (stylesheets : List Stylesheet) × IsOrdered modules main stylesheets
some_stylesheets modules names main cover well =
    let w = whole modules (length names) names (omega (arith)) main cover well in (_, ordered w.gathers w.ordered)
