-- The contents of templates, variables and instructions (XSLT 1.0, sections 5 to 13): the instructions that the children of an element are,
-- with its parameters, sort keys and branches. The first node in document order with a code that stands there is answered. What is asked
-- here of the structure of a module has been answered before, so what is misplaced or missing says nothing.
use Rattle.std.specs.Prelude.{ℕ, ◌+◌, Bool, true, false, not, ◌&&◌, ◌||◌, List, [], ◌∷◌, ◌++◌, Option, None, Some, unwrap_or, Result, Ok, Err, bytes_eq, codes, if◌then◌else◌}
use Rattle.std.specs.Option.{option_and_then}
use Rattle.std.specs.List.{list_any, filter, flat_map}
use Rattle.spec_document.specs.declared.axis.Axis.TheVariants as axis
use Rattle.spec_document.specs.Name.{Expanded, qname_of}
use Rattle.spec_document.specs.Scope.{Scope, xslt_uri}
use Rattle.spec_document.specs.Declaration.{element_name, namespaces_in}
use Rattle.spec_document.specs.Forest as spec
use Rattle.spec_document.specs.Forest.{Written, Forest, Empty, Node}
use Rattle.spec_expression.specs.Syntax as tree
use Rattle.spec_expression.specs.Syntax.{Expr, stepped, node_on}
use Rattle.spec_expression.specs.declared.code.StaticCode.{StaticCode}
use Rattle.spec_stylesheet.specs.declared.number_level.NumberLevel.{NumberLevel}
use Rattle.spec_stylesheet.specs.declared.number_level.NumberLevel.TheVariants as level
use Rattle.spec_stylesheet.specs.Place.{Site}
use Rattle.spec_stylesheet.specs.ValueTemplate as template
use Rattle.spec_stylesheet.specs.ValueTemplate.{Avt}
use Rattle.spec_stylesheet.specs.Instruction as made
use Rattle.spec_stylesheet.specs.Instruction.{SortKey, NumberSource, Numbering, MadeName, LiteralAttribute, LiteralTag, Instr, Instrs, instrs, Form, Branch, branches, Binding, Bindings, bindings}
use Rattle.spec_structure.specs.declared.element.XsltElement.{XsltElement}
use Rattle.spec_structure.specs.declared.element.XsltElement.TheVariants as xsl
use Rattle.spec_structure.specs.declared.value.ValueKind.TheVariants as kind
use Rattle.spec_structure.specs.declared.content.ContentKind.{ContentKind}
use Rattle.spec_structure.specs.declared.content.ContentKind.TheVariants as content
use Rattle.spec_structure.specs.Elements.{Row, may, literal_rows, content_of, after_element, after_other, takes_literals}
use Rattle.spec_structure.specs.Inside.{Inside, inside_of, Role, OfXslt, OfExtension, OfOther, role_of, in_no_namespace, of_xslt, expanded_of, is_white}
use Rattle.spec_structure.specs.Inside as inside
use Rattle.spec_structure.specs.Structure.{Fault, is_left}
use Rattle.spec_compile.specs.Reading.{Reading, Done, reading_then, reading_on, both}
use Rattle.spec_compile.specs.Walk.{variables_in, variables_in_pattern, variables_in_template}
use Rattle.spec_compile.specs.Value.{Value, AnExpr, Matches, AnAvt, Entry, attributes_of, xslt_attributes_of, value_of, at, expr_in, pattern_in, avt_in, name_in, names_in, text_in}

-- what is in force around a node: the name of the module; what is inside the element that holds it; and the URIs of namespaces that are
-- not copied
pub record Around : Type 0 where
  pub module_name : List ℕ
  pub inside : Inside
  pub excluded : List (List ℕ)

-- an element of a module by its path
abbrev pub site_of : Around → List ℕ → Site
site_of around path = record { place = record { module_name = Some around.module_name; path = path }; scope = around.inside.scope }

-- ---- What a child is to the element that holds it

pub data Child : Type 0 where
  AnInstruction : Instr → Child
  AParameter : Binding → Child
  ASortKey : SortKey → Child
  ABranch : Branch → Child

abbrev pub instruction_in : Child → List Instr
instruction_in (AnInstruction i) = i ∷ []
instruction_in _ = []

abbrev pub parameter_in : Child → List Binding
parameter_in (AParameter b) = b ∷ []
parameter_in _ = []

abbrev pub sort_key_in : Child → List SortKey
sort_key_in (ASortKey k) = k ∷ []
sort_key_in _ = []

abbrev pub branch_in : Child → List Branch
branch_in (ABranch b) = b ∷ []
branch_in _ = []

abbrev pub content_in : List Child → Instrs
content_in children = instrs (flat_map instruction_in children)

-- ---- Defaults

-- `.`, `node()` and a fixed text
abbrev pub itself : Expr
itself = tree.path tree.here (tree.steps (node_on axis.Itself ∷ []))

abbrev pub children_nodes : Expr
children_nodes = tree.path tree.here (tree.steps (node_on axis.Child ∷ []))

abbrev pub fixed : List ℕ → Avt
fixed text = record { parts = template.Text text ∷ [] }

abbrev pub expr_at : List ℕ → List Entry → Expr
expr_at name entries = unwrap_or (at expr_in name entries) itself

abbrev pub avt_at : List ℕ → List ℕ → List Entry → Avt
avt_at name default entries = unwrap_or (at avt_in name entries) (fixed default)

abbrev pub nowhere : Expanded
nowhere = in_no_namespace []

abbrev pub name_at : List ℕ → List Entry → Expanded
name_at name entries = unwrap_or (at name_in name entries) nowhere

abbrev pub sets_at : List ℕ → List Entry → List Expanded
sets_at name entries = unwrap_or (at names_in name entries) []

abbrev pub is_text_at : List ℕ → List ℕ → List Entry → Bool
is_text_at name text entries = elim (at text_in name entries) [ None ↦ false | Some given ↦ bytes_eq given text ]

-- ---- Parts of instructions

abbrev pub made_name : List Entry → MadeName
made_name entries = record { name = avt_at (codes "name") [] entries; namespace = at avt_in (codes "namespace") entries }

abbrev pub sort_key : Site → List Entry → SortKey
sort_key site entries = record {
  site = site;
  select = expr_at (codes "select") entries;
  data_type = avt_at (codes "data-type") (codes "text") entries;
  order = avt_at (codes "order") (codes "ascending") entries;
}

abbrev pub level_of : List Entry → NumberLevel
level_of entries =
    if is_text_at (codes "level") (codes "multiple") entries then level.Multiple
    else (if is_text_at (codes "level") (codes "any") entries then level.Any else level.Single)

abbrev pub source_of : List Entry → NumberSource
source_of entries = elim (at expr_in (codes "value") entries) [
  | Some e ↦ made.FromValue e
  | None ↦ made.FromCount (record { level = level_of entries; count = at pattern_in (codes "count") entries; from = at pattern_in (codes "from") entries })
]

abbrev pub numbering_of : List Entry → Numbering
numbering_of entries = record {
  source = source_of entries;
  format = avt_at (codes "format") (codes "1") entries;
  grouping_separator = at avt_in (codes "grouping-separator") entries;
  grouping_size = at avt_in (codes "grouping-size") entries;
}

abbrev pub binding_of : Site → List Entry → List Child → Binding
binding_of site entries children =
    record { site = site; name = name_at (codes "name") entries; select = at expr_in (codes "select") entries; content = content_in children }

abbrev pub branch_of : Site → Option Expr → List Child → Branch
branch_of site test children = record { site = site; test = test; content = content_in children }

-- ---- Elements of XSLT: what one is, by its attributes and its children. The text is that of an xsl:text

abbrev pub with : made.WithContent → List Child → Form
with what children = made.with_content what (content_in children)

abbrev pub form_of : XsltElement → List Entry → List ℕ → List Child → Option Form
form_of xsl.ValueOf v text children = Some (made.without_content (made.ValueOf (expr_at (codes "select") v)))
form_of xsl.CopyOf v text children = Some (made.without_content (made.CopyOf (expr_at (codes "select") v)))
form_of xsl.Number v text children = Some (made.without_content (made.Number (numbering_of v)))
form_of xsl.ApplyImports v text children = Some (made.without_content made.ApplyImports)
form_of xsl.Fallback v text children = Some (made.without_content made.Fallback)
form_of xsl.Text v text children = Some (made.without_content (made.Text text))
form_of xsl.Element v text children = Some (with (made.Element (made_name v) (sets_at (codes "use-attribute-sets") v)) children)
form_of xsl.Attribute v text children = Some (with (made.Attribute (made_name v)) children)
form_of xsl.Comment v text children = Some (with made.Comment children)
form_of xsl.ProcessingInstruction v text children = Some (with (made.ProcessingInstruction (avt_at (codes "name") [] v)) children)
form_of xsl.Copy v text children = Some (with (made.Copy (sets_at (codes "use-attribute-sets") v)) children)
form_of xsl.Variable v text children = Some (with (made.Variable (name_at (codes "name") v) (at expr_in (codes "select") v)) children)
form_of xsl.Message v text children = Some (with (made.Message (is_text_at (codes "terminate") (codes "yes") v)) children)
form_of xsl.ForEach v text children =
    Some (made.control (made.for_each (expr_at (codes "select") v) (flat_map sort_key_in children) (content_in children)))
form_of xsl.If v text children = Some (made.control (made.conditional (expr_at (codes "test") v) (content_in children)))
form_of xsl.Choose v text children = Some (made.control (made.choose (branches (flat_map branch_in children))))
form_of xsl.ApplyTemplates v text children = Some (made.control (made.apply_templates
    (record { select = unwrap_or (at expr_in (codes "select") v) children_nodes; mode = at name_in (codes "mode") v; keys = flat_map sort_key_in children })
    (bindings (flat_map parameter_in children))))
form_of xsl.CallTemplate v text children = Some (made.control (made.call_template (name_at (codes "name") v) (bindings (flat_map parameter_in children))))
form_of _ v text children = None

abbrev pub instruction_by : Site → Option Form → List Child
instruction_by site None = []
instruction_by site (Some form) = AnInstruction (record { site = site; form = form }) ∷ []

abbrev pub child_of : XsltElement → Site → List Entry → List ℕ → List Child → List Child
child_of xsl.Param site v text children = AParameter (binding_of site v children) ∷ []
child_of xsl.WithParam site v text children = AParameter (binding_of site v children) ∷ []
child_of xsl.Sort site v text children = ASortKey (sort_key site v) ∷ []
child_of xsl.When site v text children = ABranch (branch_of site (at expr_in (codes "test") v) children) ∷ []
child_of xsl.Otherwise site v text children = ABranch (branch_of site None children) ∷ []
child_of x site v text children = instruction_by site (form_of x v text children)

-- ---- Literal result elements (section 7.1.1)

-- what an xsl:text has
abbrev pub text_among : {L : Type 0} → Forest L → List ℕ
text_among Empty = []
text_among (Node label (spec.Text text) children siblings) = text ++ text_among siblings
text_among (Node label _ children siblings) = text_among siblings

-- the URIs that an element excludes, for itself and what is below it
abbrev pub excluded_by : Inside → Bool → List Written → List (List ℕ)
excluded_by i is_xslt attributes =
    inside.uris_in i.scope (inside.value_of i.scope (if is_xslt then in_no_namespace (codes "exclude-result-prefixes") else of_xslt (codes "exclude-result-prefixes")) attributes)

-- the namespaces that are copied: not XSLT's, nor one that is excluded or of extension elements
abbrev pub is_copied : Around → List ℕ × List ℕ → Bool
is_copied around node =
    not (bytes_eq node.1 xslt_uri) && not (list_any (bytes_eq node.1) around.excluded) && not (list_any (bytes_eq node.1) around.inside.extensions)

abbrev pub prefix_of : List ℕ → List ℕ
prefix_of name = elim (qname_of name) [ None ↦ [] | Some q ↦ unwrap_or q.prefix [] ]

abbrev pub element_name_of : Scope → List ℕ → Expanded
element_name_of scope name = unwrap_or (option_and_then (element_name scope) (qname_of name)) (in_no_namespace name)

-- its attributes that are not XSLT's, each a value template
abbrev pub avt_of : Option Value → Avt
avt_of v = unwrap_or (option_and_then avt_in v) (fixed [])

abbrev pub literal_attribute : List ℕ → Expanded → Value → List LiteralAttribute
literal_attribute written name v = record { prefix = prefix_of written; name = name; value = avt_of (Some v) } ∷ []

abbrev pub literal_by : Scope → Written → Option Expanded → Reading (Result (List LiteralAttribute) StaticCode)
literal_by scope a None = Done (Ok [])
literal_by scope a (Some name) =
    if bytes_eq name.uri xslt_uri then Done (Ok [])
    else reading_on (value_of kind.Template scope a.value) (λ v. Done (Ok (literal_attribute a.name name v)))

abbrev pub literal_attributes : Scope → List Written → Reading (Result (List LiteralAttribute) StaticCode)
literal_attributes scope [] = Done (Ok [])
literal_attributes scope (a ∷ more) = both (λ one rest. one ++ rest) (literal_by scope a (expanded_of scope a)) (literal_attributes scope more)

abbrev pub tag_by : Around → List ℕ → List Entry → List LiteralAttribute → LiteralTag
tag_by around name entries attributes = record {
  prefix = prefix_of name;
  name = element_name_of around.inside.scope name;
  namespaces = filter (is_copied around) (namespaces_in around.inside.scope);
  sets = sets_at (codes "use-attribute-sets") entries;
  attributes = attributes;
}

-- its attributes of XSLT's namespace are read by their rows
abbrev pub tag_of : Around → List ℕ → List Written → Reading (Result LiteralTag StaticCode)
tag_of around name attributes =
    both (tag_by around name) (xslt_attributes_of around.inside.scope literal_rows attributes) (literal_attributes around.inside.scope attributes)

-- of an element of an extension namespace only the list of extension prefixes is read
abbrev pub extension_rows : List Row
extension_rows = may (codes "extension-element-prefixes") kind.Prefixes ∷ []

-- ---- What elements name, for the faults between them

-- the variables, the templates and the attribute sets that an element names by its attributes
pub record Uses : Type 0 where
  pub variables : List Expanded
  pub templates : List Expanded
  pub sets : List Expanded

-- elements in their places: what each names, and the variable that it binds for its following siblings and what is below them. Parts that
-- have no effect at run time are among them
pub data Outline : Type 0 where
  Nothing : Outline
  AnElement : (site : Site) → (uses : Uses) → (binds : Option Expanded) → (children siblings : Outline) → Outline

abbrev pub variables_by : Value → List Expanded
variables_by (AnExpr e) = variables_in e
variables_by (Matches p) = variables_in_pattern p
variables_by (AnAvt a) = variables_in_template a
variables_by _ = []

abbrev pub templates_by : XsltElement → List Entry → List Expanded
templates_by xsl.CallTemplate entries = name_at (codes "name") entries ∷ []
templates_by _ entries = []

abbrev pub uses_of : XsltElement → List Entry → Uses
uses_of x entries = record {
  variables = flat_map (λ e. variables_by e.value) entries;
  templates = templates_by x entries;
  sets = sets_at (codes "use-attribute-sets") entries;
}

abbrev pub tag_uses : LiteralTag → Uses
tag_uses tag = record { variables = flat_map (λ a. variables_in_template a.value) tag.attributes; templates = []; sets = tag.sets }

abbrev pub bound_by : XsltElement → List Entry → Option Expanded
bound_by xsl.Variable entries = at name_in (codes "name") entries
bound_by xsl.Param entries = at name_in (codes "name") entries
bound_by _ entries = None

-- ---- The children of an element

-- the children, and what the elements among them and below them name
pub record Below : Type 0 where
  pub children : List Child
  pub outline : Outline

abbrev pub nothing_below : Below
nothing_below = record { children = []; outline = Nothing }

abbrev pub with_text : List Child → Below → Below
with_text text rest = record { children = text ++ rest.children; outline = rest.outline }

abbrev pub with_element : List Child → Site → Uses → Option Expanded → Below → Below → Below
with_element child site uses binds below rest =
    record { children = child ++ rest.children; outline = AnElement site uses binds below.outline rest.outline }

abbrev pub at_path : {A : Type 0} → List ℕ → Result A StaticCode → Result A Fault
at_path path (Ok a) = Ok a
at_path path (Err why) = Err (record { code = why; path = path })

abbrev pub standing_at : {A : Type 0} → List ℕ → Reading (Result A StaticCode) → Reading (Result A Fault)
standing_at path reading = reading_then reading (λ r. Done (at_path path r))

-- from an element to what is inside it
abbrev pub around_of : Around → List ℕ → List Written → Around
around_of outer name attributes =
    let inner = inside_of outer.inside name attributes in
    record { module_name = outer.module_name; inside = inner; excluded = outer.excluded ++ excluded_by inner false attributes }

-- white space before an xsl:param of a template, or an xsl:sort of an xsl:for-each, is ignored where it is preserved too
abbrev pub is_leading : XsltElement → ContentKind → Bool
is_leading xsl.Param content.Params = true
is_leading xsl.Sort content.Sorts = true
is_leading _ _ = false

abbrev pub is_leading_role : ContentKind → Role → Bool
is_leading_role kind (OfXslt (Some x)) = is_leading x kind
is_leading_role kind _ = false

abbrev pub leads : {L : Type 0} → Inside → ContentKind → Forest L → Bool
leads i kind Empty = false
leads i kind (Node label (spec.Element name attributes) children siblings) = is_leading_role kind (role_of (inside_of i name attributes) name) || leads i kind siblings
leads i kind (Node label _ children siblings) = leads i kind siblings

abbrev pub text_child : {L : Type 0} → Around → ContentKind → List ℕ → List ℕ → Forest L → List Child
text_child around kind path text siblings =
    if takes_literals kind && is_left around.inside.preserves (spec.Text text) && not (is_white text && leads around.inside kind siblings)
    then AnInstruction (record { site = site_of around path; form = made.without_content (made.Text text) }) ∷ [] else []

-- the children below the element at this path, of which the first has this position
abbrev pub children_among : {L : Type 0} → Around → ContentKind → List ℕ → ℕ → Forest L → Reading (Result Below Fault)
children_among around kind path position Empty = Done (Ok nothing_below)
children_among around kind path position (Node label (spec.Text text) children siblings) =
    reading_on (children_among around (if is_white text then kind else after_other kind) path (position + 1) siblings)
    (λ rest. Done (Ok (with_text (text_child around kind path text siblings) rest)))
children_among around kind path position (Node label (spec.Comment text) children siblings) = children_among around kind path (position + 1) siblings
children_among around kind path position (Node label (spec.Instruction target text) children siblings) =
    children_among around kind path (position + 1) siblings
children_among around kind path position (Node label (spec.Element name attributes) children siblings) =
    let inner = around_of around name attributes in
    let here = path ++ position ∷ [] in
    elim (role_of inner.inside name) [
      | OfXslt None ↦ children_among around kind path (position + 1) siblings
      | OfXslt (Some x) ↦
          reading_on (standing_at here (attributes_of inner.inside.scope x attributes))
          (λ v. reading_on (children_among inner (content_of x) here 1 children)
          (λ below. reading_on (children_among around (after_element kind x) path (position + 1) siblings)
          (λ rest. Done (Ok (with_element (child_of x (site_of inner here) v (text_among children) below.children) (site_of inner here) (uses_of x v) (bound_by x v)
          below rest)))))
      | OfExtension ↦
          reading_on (standing_at here (xslt_attributes_of inner.inside.scope extension_rows attributes))
          (λ v. children_among around (after_other kind) path (position + 1) siblings)
      | OfOther uri ↦
          reading_on (standing_at here (tag_of inner name attributes))
          (λ tag. reading_on (children_among inner content.Body here 1 children)
          (λ below. reading_on (children_among around (after_other kind) path (position + 1) siblings)
          (λ rest. Done (Ok (with_element (instruction_by (site_of inner here) (Some (with (made.Literal tag) below.children))) (site_of inner here) (tag_uses tag) None
          below rest)))))
    ]
