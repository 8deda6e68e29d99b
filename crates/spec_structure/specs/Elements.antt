-- The table of XSLT elements (XSLT 1.0, sections 2 to 16): for each its attributes in their order, with what their values are and which are
-- required; what it may contain; and where it may stand. All that is asked of an element's structure is asked of this table.
use Rattle.std.specs.Prelude.{ℕ, Bool, true, false, ◌||◌, List, [], ◌∷◌, Option, None, Some, bytes_eq, codes, if◌then◌else◌}
use Rattle.spec_structure.specs.declared.element.XsltElement.{XsltElement}
use Rattle.spec_structure.specs.declared.element.XsltElement.TheVariants as xsl
use Rattle.spec_structure.specs.declared.value.ValueKind.{ValueKind}
use Rattle.spec_structure.specs.declared.value.ValueKind.TheVariants as value
use Rattle.spec_structure.specs.declared.content.ContentKind.{ContentKind}
use Rattle.spec_structure.specs.declared.content.ContentKind.TheVariants as content

-- ---- Names

pub record Naming : Type 0 where
  pub word : List ℕ
  pub element : XsltElement

abbrev pub named : List ℕ → XsltElement → Naming
named word element = record { word = word; element = element }

abbrev pub names : List Naming
names =
    named (codes "stylesheet") xsl.Stylesheet ∷ named (codes "transform") xsl.Transform ∷ named (codes "import") xsl.Import
    ∷ named (codes "include") xsl.Include ∷ named (codes "strip-space") xsl.StripSpace ∷ named (codes "preserve-space") xsl.PreserveSpace
    ∷ named (codes "output") xsl.Output ∷ named (codes "key") xsl.Key ∷ named (codes "decimal-format") xsl.DecimalFormat
    ∷ named (codes "namespace-alias") xsl.NamespaceAlias ∷ named (codes "attribute-set") xsl.AttributeSet ∷ named (codes "template") xsl.Template
    ∷ named (codes "param") xsl.Param ∷ named (codes "with-param") xsl.WithParam ∷ named (codes "variable") xsl.Variable
    ∷ named (codes "apply-templates") xsl.ApplyTemplates ∷ named (codes "apply-imports") xsl.ApplyImports ∷ named (codes "call-template") xsl.CallTemplate
    ∷ named (codes "for-each") xsl.ForEach ∷ named (codes "sort") xsl.Sort ∷ named (codes "value-of") xsl.ValueOf ∷ named (codes "copy-of") xsl.CopyOf
    ∷ named (codes "number") xsl.Number ∷ named (codes "choose") xsl.Choose ∷ named (codes "when") xsl.When ∷ named (codes "otherwise") xsl.Otherwise
    ∷ named (codes "if") xsl.If ∷ named (codes "fallback") xsl.Fallback ∷ named (codes "text") xsl.Text ∷ named (codes "element") xsl.Element
    ∷ named (codes "attribute") xsl.Attribute ∷ named (codes "comment") xsl.Comment ∷ named (codes "processing-instruction") xsl.ProcessingInstruction
    ∷ named (codes "copy") xsl.Copy ∷ named (codes "message") xsl.Message ∷ []

abbrev pub element_in : List Naming → List ℕ → Option XsltElement
element_in [] name = None
element_in (n ∷ more) name = if bytes_eq name n.word then Some n.element else element_in more name

-- the element of this local name
unfoldable pub element_named : List ℕ → Option XsltElement
element_named name = element_in names name

-- ---- Attributes

pub record Row : Type 0 where
  pub name : List ℕ
  pub kind : ValueKind
  pub is_required : Bool

abbrev pub may : List ℕ → ValueKind → Row
may name kind = record { name = name; kind = kind; is_required = false }

abbrev pub must : List ℕ → ValueKind → Row
must name kind = record { name = name; kind = kind; is_required = true }

-- A stylesheet without a version has a fault of its own, and so has a template without match and name
abbrev pub stylesheet_rows : List Row
stylesheet_rows =
    may (codes "version") value.Any ∷ may (codes "id") value.Any ∷ may (codes "extension-element-prefixes") value.Prefixes
    ∷ may (codes "exclude-result-prefixes") value.Prefixes ∷ []

abbrev pub binding_rows : List Row
binding_rows = must (codes "name") value.Name ∷ may (codes "select") value.Expression ∷ []

unfoldable pub rows_of : XsltElement → List Row
rows_of xsl.Stylesheet = stylesheet_rows
rows_of xsl.Transform = stylesheet_rows
rows_of xsl.Import = must (codes "href") value.Any ∷ []
rows_of xsl.Include = must (codes "href") value.Any ∷ []
rows_of xsl.StripSpace = must (codes "elements") value.Tests ∷ []
rows_of xsl.PreserveSpace = must (codes "elements") value.Tests ∷ []
rows_of xsl.Output =
    may (codes "method") value.Method ∷ may (codes "version") value.Any ∷ may (codes "encoding") value.Any
    ∷ may (codes "omit-xml-declaration") value.Any ∷ may (codes "standalone") value.Any ∷ may (codes "doctype-public") value.Any
    ∷ may (codes "doctype-system") value.Any ∷ may (codes "cdata-section-elements") value.Any ∷ may (codes "indent") value.Any
    ∷ may (codes "media-type") value.Any ∷ []
rows_of xsl.Key = must (codes "name") value.Name ∷ must (codes "match") value.Pattern ∷ must (codes "use") value.Expression ∷ []
rows_of xsl.DecimalFormat = []
rows_of xsl.NamespaceAlias = must (codes "stylesheet-prefix") value.Prefix ∷ must (codes "result-prefix") value.Prefix ∷ []
rows_of xsl.AttributeSet = must (codes "name") value.Name ∷ may (codes "use-attribute-sets") value.Names ∷ []
rows_of xsl.Template =
    may (codes "match") value.Pattern ∷ may (codes "name") value.Name ∷ may (codes "priority") value.Priority ∷ may (codes "mode") value.Name ∷ []
rows_of xsl.Param = binding_rows
rows_of xsl.WithParam = binding_rows
rows_of xsl.Variable = binding_rows
rows_of xsl.ApplyTemplates = may (codes "select") value.Expression ∷ may (codes "mode") value.Name ∷ []
rows_of xsl.ApplyImports = []
rows_of xsl.CallTemplate = must (codes "name") value.Name ∷ []
rows_of xsl.ForEach = must (codes "select") value.Expression ∷ []
rows_of xsl.Sort =
    may (codes "select") value.Expression ∷ may (codes "lang") value.Template ∷ may (codes "data-type") value.Template
    ∷ may (codes "order") value.Template ∷ may (codes "case-order") value.Template ∷ []
rows_of xsl.ValueOf = must (codes "select") value.Expression ∷ may (codes "disable-output-escaping") value.YesNo ∷ []
rows_of xsl.CopyOf = must (codes "select") value.Expression ∷ []
rows_of xsl.Number =
    may (codes "level") value.Level ∷ may (codes "count") value.Pattern ∷ may (codes "from") value.Pattern ∷ may (codes "value") value.Expression
    ∷ may (codes "format") value.Template ∷ may (codes "lang") value.Template ∷ may (codes "letter-value") value.Template
    ∷ may (codes "grouping-separator") value.Template ∷ may (codes "grouping-size") value.Template ∷ []
rows_of xsl.Choose = []
rows_of xsl.When = must (codes "test") value.Expression ∷ []
rows_of xsl.Otherwise = []
rows_of xsl.If = must (codes "test") value.Expression ∷ []
rows_of xsl.Fallback = []
rows_of xsl.Text = may (codes "disable-output-escaping") value.YesNo ∷ []
rows_of xsl.Element =
    must (codes "name") value.Template ∷ may (codes "namespace") value.Template ∷ may (codes "use-attribute-sets") value.Names ∷ []
rows_of xsl.Attribute = must (codes "name") value.Template ∷ may (codes "namespace") value.Template ∷ []
rows_of xsl.Comment = []
rows_of xsl.ProcessingInstruction = must (codes "name") value.Template ∷ []
rows_of xsl.Copy = may (codes "use-attribute-sets") value.Names ∷ []
rows_of xsl.Message = may (codes "terminate") value.YesNo ∷ []

-- the attributes of XSLT's namespace that a literal result element may have (section 7.1.1)
abbrev pub literal_rows : List Row
literal_rows =
    may (codes "version") value.Any ∷ may (codes "use-attribute-sets") value.Names ∷ may (codes "exclude-result-prefixes") value.Prefixes
    ∷ may (codes "extension-element-prefixes") value.Prefixes ∷ []

-- ---- Contents

unfoldable pub content_of : XsltElement → ContentKind
content_of xsl.Stylesheet = content.Imports
content_of xsl.Transform = content.Imports
content_of xsl.AttributeSet = content.Attributes
content_of xsl.Template = content.Params
content_of xsl.Param = content.Body
content_of xsl.WithParam = content.Body
content_of xsl.Variable = content.Body
content_of xsl.ApplyTemplates = content.SortsAndParams
content_of xsl.CallTemplate = content.WithParams
content_of xsl.ForEach = content.Sorts
content_of xsl.Choose = content.FirstBranch
content_of xsl.When = content.Body
content_of xsl.Otherwise = content.Body
content_of xsl.If = content.Body
content_of xsl.Fallback = content.Body
content_of xsl.Text = content.Text
content_of xsl.Element = content.Body
content_of xsl.Attribute = content.Body
content_of xsl.Comment = content.Body
content_of xsl.ProcessingInstruction = content.Body
content_of xsl.Copy = content.Body
content_of xsl.Message = content.Body
content_of xsl.Import = content.Nothing
content_of xsl.Include = content.Nothing
content_of xsl.StripSpace = content.Nothing
content_of xsl.PreserveSpace = content.Nothing
content_of xsl.Output = content.Nothing
content_of xsl.Key = content.Nothing
content_of xsl.DecimalFormat = content.Nothing
content_of xsl.NamespaceAlias = content.Nothing
content_of xsl.ApplyImports = content.Nothing
content_of xsl.Sort = content.Nothing
content_of xsl.ValueOf = content.Nothing
content_of xsl.CopyOf = content.Nothing
content_of xsl.Number = content.Nothing

-- ---- Where an element may stand

abbrev pub is_top_level : XsltElement → Bool
is_top_level xsl.Include = true
is_top_level xsl.StripSpace = true
is_top_level xsl.PreserveSpace = true
is_top_level xsl.Output = true
is_top_level xsl.Key = true
is_top_level xsl.NamespaceAlias = true
is_top_level xsl.AttributeSet = true
is_top_level xsl.Template = true
is_top_level xsl.Param = true
is_top_level xsl.Variable = true
is_top_level _ = false

-- the instructions, which element-available knows
abbrev pub is_instruction : XsltElement → Bool
is_instruction xsl.Variable = true
is_instruction xsl.ApplyTemplates = true
is_instruction xsl.ApplyImports = true
is_instruction xsl.CallTemplate = true
is_instruction xsl.ForEach = true
is_instruction xsl.ValueOf = true
is_instruction xsl.CopyOf = true
is_instruction xsl.Number = true
is_instruction xsl.Choose = true
is_instruction xsl.If = true
is_instruction xsl.Fallback = true
is_instruction xsl.Text = true
is_instruction xsl.Element = true
is_instruction xsl.Attribute = true
is_instruction xsl.Comment = true
is_instruction xsl.ProcessingInstruction = true
is_instruction xsl.Copy = true
is_instruction xsl.Message = true
is_instruction _ = false

abbrev pub is_import : XsltElement → Bool
is_import xsl.Import = true
is_import _ = false

abbrev pub is_param : XsltElement → Bool
is_param xsl.Param = true
is_param _ = false

abbrev pub is_with_param : XsltElement → Bool
is_with_param xsl.WithParam = true
is_with_param _ = false

abbrev pub is_sort : XsltElement → Bool
is_sort xsl.Sort = true
is_sort _ = false

abbrev pub is_attribute : XsltElement → Bool
is_attribute xsl.Attribute = true
is_attribute _ = false

abbrev pub is_when : XsltElement → Bool
is_when xsl.When = true
is_when _ = false

abbrev pub is_otherwise : XsltElement → Bool
is_otherwise xsl.Otherwise = true
is_otherwise _ = false

-- whether it may stand where these contents may
unfoldable pub allows : ContentKind → XsltElement → Bool
allows content.Nothing e = false
allows content.Imports e = is_import e || is_top_level e
allows content.TopLevel e = is_top_level e
allows content.Params e = is_param e || is_instruction e
allows content.Sorts e = is_sort e || is_instruction e
allows content.Body e = is_instruction e
allows content.SortsAndParams e = is_sort e || is_with_param e
allows content.WithParams e = is_with_param e
allows content.Attributes e = is_attribute e
allows content.FirstBranch e = is_when e
allows content.Branches e = is_when e || is_otherwise e
allows content.Text e = false

-- what may stand after it
unfoldable pub after_element : ContentKind → XsltElement → ContentKind
after_element content.Imports e = if is_import e then content.Imports else content.TopLevel
after_element content.Params e = if is_param e then content.Params else content.Body
after_element content.Sorts e = if is_sort e then content.Sorts else content.Body
after_element content.FirstBranch e = content.Branches
after_element content.Branches e = if is_when e then content.Branches else content.Nothing
after_element kind e = kind

-- whether text and literal result elements may stand there
abbrev pub takes_literals : ContentKind → Bool
takes_literals content.Params = true
takes_literals content.Sorts = true
takes_literals content.Body = true
takes_literals _ = false

abbrev pub takes_text : ContentKind → Bool
takes_text content.Text = true
takes_text kind = takes_literals kind

-- whether the elements there are top-level elements
abbrev pub is_top : ContentKind → Bool
is_top content.Imports = true
is_top content.TopLevel = true
is_top _ = false

-- what may stand after a text that is not white space, a literal result element, or an element at the top that is not XSLT's
abbrev pub after_other : ContentKind → ContentKind
after_other content.Imports = content.TopLevel
after_other content.Params = content.Body
after_other content.Sorts = content.Body
after_other kind = kind
