-- What the top-level elements of a module say (XSLT 1.0, sections 2.2, 2.3, 3.4, 5.3, 7.1.1, 7.1.4, 11.4, 12.2 and 16), in document order,
-- or the first code that stands there.
use Rattle.std.specs.Prelude.{ℕ, ℤ, ◌+◌, Bool, true, false, List, [], ◌∷◌, ◌++◌, Option, None, Some, unwrap_or, Result, Ok, bytes_eq, codes, if◌then◌else◌}
use Rattle.std.specs.List.{flat_map}
use Rattle.spec_document.specs.Name.{Expanded}
use Rattle.spec_document.specs.Scope.{Scope, resolved}
use Rattle.spec_document.specs.Forest as spec
use Rattle.spec_document.specs.Forest.{Written, Forest, Empty, Node}
use Rattle.spec_expression.specs.Syntax as tree
use Rattle.spec_stylesheet.specs.declared.method.Method.{Method}
use Rattle.spec_stylesheet.specs.declared.pattern.Start.TheVariants.{Root}
use Rattle.spec_stylesheet.specs.Place.{Site}
use Rattle.spec_stylesheet.specs.Pattern.{Pattern}
use Rattle.spec_stylesheet.specs.Instruction.{bindings}
use Rattle.spec_stylesheet.specs.Sheet.{Template, GlobalBinding, AttributeSet, Key, Alias}
use Rattle.spec_structure.specs.declared.element.XsltElement.{XsltElement}
use Rattle.spec_structure.specs.declared.element.XsltElement.TheVariants as xsl
use Rattle.spec_structure.specs.declared.content.ContentKind.TheVariants as content
use Rattle.spec_structure.specs.Elements.{content_of}
use Rattle.spec_structure.specs.Inside.{Inside, outside, inside_of, Role, OfXslt, OfExtension, OfOther, role_of}
use Rattle.spec_structure.specs.Structure.{Fault}
use Rattle.spec_compile.specs.Reading.{Reading, Done, reading_on}
use Rattle.spec_compile.specs.Value.{Value, SomeTests, APriority, AMethod, Entry, attributes_of, at, expr_in, pattern_in, name_in, text_in}
use Rattle.spec_compile.specs.Content.{Uses, Outline, uses_of, Below, Around, site_of, Child, parameter_in, content_in, itself, name_at, sets_at, binding_of, standing_at, around_of, excluded_by, children_among}

-- what an element at the top declares
pub data Declaration : Type 0 where
  -- a template, with its pattern, priority and mode
  ATemplate : (template : Template) → (pattern : Option Pattern) → (priority : Option ℤ) → (mode : Option Expanded) → Declaration
  AGlobal : GlobalBinding → Declaration
  ASet : AttributeSet → Declaration
  AKey : Key → Declaration
  -- which elements are stripped of white space, or keep it
  ASpaceRule : (strips : Bool) → (tests : List tree.Test) → Declaration
  AnOutput : Option (Method Expanded) → Declaration
  AnAlias : Alias → Declaration

-- with what it and the elements below it name
pub record TopLevel : Type 0 where
  pub site : Site
  pub declaration : Declaration
  pub uses : Uses
  pub outline : Outline

-- ---- Values

abbrev pub tests_in : Value → Option (List tree.Test)
tests_in (SomeTests tests) = Some tests
tests_in _ = None

abbrev pub priority_in : Value → Option ℤ
priority_in (APriority n) = Some n
priority_in _ = None

abbrev pub method_in : Value → Option (Method Expanded)
method_in (AMethod m) = Some m
method_in _ = None

abbrev pub no_pattern : Pattern
no_pattern = record { alternatives = [] }

-- a prefix of an alias, where `#default` is the empty one; and its URI
abbrev pub alias_prefix : List ℕ → List ℕ
alias_prefix word = if bytes_eq word (codes "#default") then [] else word

abbrev pub alias_uri : Scope → List ℕ → List ℕ
alias_uri scope prefix = unwrap_or (resolved scope prefix) []

abbrev pub alias_by : Scope → (stylesheet result : List ℕ) → Alias
alias_by scope stylesheet result = record { stylesheet = alias_uri scope stylesheet; prefix = result; result = alias_uri scope result }

abbrev pub prefix_at : List ℕ → List Entry → List ℕ
prefix_at name v = alias_prefix (unwrap_or (at text_in name v) [])

-- ---- Elements at the top

abbrev pub template_of : List Entry → List Child → Template
template_of v children = record { name = at name_in (codes "name") v; parameters = bindings (flat_map parameter_in children); content = content_in children }

abbrev pub global_of : Bool → Site → List Entry → List Child → GlobalBinding
global_of is_parameter site v children = record { is_parameter = is_parameter; binding = binding_of site v children }

abbrev pub key_of : List Entry → Key
key_of v = record {
  name = name_at (codes "name") v;
  pattern = unwrap_or (at pattern_in (codes "match") v) no_pattern;
  value = unwrap_or (at expr_in (codes "use") v) itself;
}

abbrev pub declaration_of : XsltElement → Site → List Entry → List Child → Option Declaration
declaration_of xsl.Template site v children =
    Some (ATemplate (template_of v children) (at pattern_in (codes "match") v) (at priority_in (codes "priority") v) (at name_in (codes "mode") v))
declaration_of xsl.Param site v children = Some (AGlobal (global_of true site v children))
declaration_of xsl.Variable site v children = Some (AGlobal (global_of false site v children))
declaration_of xsl.AttributeSet site v children =
    Some (ASet (record { name = name_at (codes "name") v; sets = sets_at (codes "use-attribute-sets") v; attributes = content_in children }))
declaration_of xsl.Key site v children = Some (AKey (key_of v))
declaration_of xsl.StripSpace site v children = Some (ASpaceRule true (unwrap_or (at tests_in (codes "elements") v) []))
declaration_of xsl.PreserveSpace site v children = Some (ASpaceRule false (unwrap_or (at tests_in (codes "elements") v) []))
declaration_of xsl.Output site v children = Some (AnOutput (at method_in (codes "method") v))
declaration_of xsl.NamespaceAlias site v children =
    Some (AnAlias (alias_by site.scope (prefix_at (codes "stylesheet-prefix") v) (prefix_at (codes "result-prefix") v)))
declaration_of _ site v children = None

abbrev pub top_level_by : Site → Uses → Outline → Option Declaration → List TopLevel
top_level_by site uses outline None = []
top_level_by site uses outline (Some declaration) = record { site = site; declaration = declaration; uses = uses; outline = outline } ∷ []

-- the children of a stylesheet; an element that is not XSLT's is skipped with all in it
abbrev pub top_levels_among : {L : Type 0} → Around → List ℕ → ℕ → Forest L → Reading (Result (List TopLevel) Fault)
top_levels_among around path position Empty = Done (Ok [])
top_levels_among around path position (Node label (spec.Text text) children siblings) = top_levels_among around path (position + 1) siblings
top_levels_among around path position (Node label (spec.Comment text) children siblings) = top_levels_among around path (position + 1) siblings
top_levels_among around path position (Node label (spec.Instruction target text) children siblings) =
    top_levels_among around path (position + 1) siblings
top_levels_among around path position (Node label (spec.Element name attributes) children siblings) =
    let inner = around_of around name attributes in
    let here = path ++ position ∷ [] in
    elim (role_of inner.inside name) [
      | OfXslt None ↦ top_levels_among around path (position + 1) siblings
      | OfXslt (Some x) ↦
          reading_on (standing_at here (attributes_of inner.inside.scope x attributes))
          (λ v. reading_on (children_among inner (content_of x) here 1 children)
          (λ below. reading_on (top_levels_among around path (position + 1) siblings)
          (λ rest. Done (Ok (top_level_by (site_of inner here) (uses_of x v) below.outline (declaration_of x (site_of inner here) v below.children) ++ rest)))))
      | OfExtension ↦ top_levels_among around path (position + 1) siblings
      | OfOther uri ↦ top_levels_among around path (position + 1) siblings
    ]

-- ---- A module

-- around the document element, and inside a stylesheet, whose lists of prefixes have no prefix themselves
abbrev pub at_top : List ℕ → Around
at_top name = record { module_name = name; inside = outside; excluded = [] }

abbrev pub in_stylesheet : List ℕ → Inside → List Written → Around
in_stylesheet name inner attributes = record { module_name = name; inside = inner; excluded = excluded_by inner true attributes }

-- a literal result element that is a module is the content of a template for the root, which has no place of its own (section 2.3)
abbrev pub for_the_root : Pattern
for_the_root = record { alternatives = record { start = Root; steps = [] } ∷ [] }

abbrev pub no_uses : Uses
no_uses = record { variables = []; templates = []; sets = [] }

abbrev pub simplified_template : List Child → Declaration
simplified_template children =
    ATemplate (record { name = None; parameters = bindings []; content = content_in children }) (Some for_the_root) None None

abbrev pub simplified : Site → Below → List TopLevel
simplified site below = record { site = site; declaration = simplified_template below.children; uses = no_uses; outline = below.outline } ∷ []

abbrev pub module_by : {L : Type 0} → List ℕ → List ℕ → List ℕ → List Written → Forest L → Role → Reading (Result (List TopLevel) Fault)
module_by name path element attributes children (OfXslt None) = Done (Ok [])
module_by name path element attributes children (OfXslt (Some x)) =
    let inner = in_stylesheet name (inside_of outside element attributes) attributes in
    reading_on (standing_at path (attributes_of inner.inside.scope x attributes)) (λ v. top_levels_among inner path 1 children)
module_by name path element attributes children _ = Done (Ok [])

-- a document element that is content: at this position
abbrev pub simplified_of : {L : Type 0} → List ℕ → ℕ → Forest L → Reading (Result (List TopLevel) Fault)
simplified_of name position element =
    reading_on (children_among (at_top name) content.Body [] position element)
    (λ below. Done (Ok (simplified (site_of (at_top name) (position ∷ [])) below)))

-- what a module of this name says: of the nodes at its top, of which the first has this position
abbrev pub module_of : {L : Type 0} → List ℕ → ℕ → Forest L → Reading (Result (List TopLevel) Fault)
module_of name position Empty = Done (Ok [])
module_of name position (Node label (spec.Text text) children siblings) = module_of name (position + 1) siblings
module_of name position (Node label (spec.Comment text) children siblings) = module_of name (position + 1) siblings
module_of name position (Node label (spec.Instruction target text) children siblings) = module_of name (position + 1) siblings
module_of name position (Node label (spec.Element element attributes) children siblings) =
    let inner = inside_of outside element attributes in
    elim (role_of inner element) [
      | OfXslt x ↦ module_by name (position ∷ []) element attributes children (OfXslt x)
      | OfExtension ↦ simplified_of name position (Node label (spec.Element element attributes) children Empty)
      | OfOther uri ↦ simplified_of name position (Node label (spec.Element element attributes) children Empty)
    ]
