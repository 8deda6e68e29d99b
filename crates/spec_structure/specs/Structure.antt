-- Which faults an element of a module has by the table of elements (XSLT 1.0, sections 2.2 to 2.5, 3.4 and 14): S05 to S09, S15, S23 and
-- S25. The first node in document order with a fault is answered, by its least code.
use Rattle.std.specs.Prelude.{ℕ, ◌+◌, Bool, true, false, not, ◌&&◌, ◌||◌, List, [], ◌∷◌, ◌++◌, Option, None, Some, is_some, bytes_eq, codes, if◌then◌else◌}
use Rattle.std.specs.Option.{option_map}
use Rattle.std.specs.List.{list_all, list_any}
use Rattle.spec_document.specs.Name.{Expanded, QName, is_ncname, qname_of, is_colon}
use Rattle.std.specs.List.{before_first, after_first}
use Rattle.spec_document.specs.Scope.{Scope, xslt_uri}
use Rattle.spec_document.specs.Declaration.{is_there}
use Rattle.spec_document.specs.Forest as spec
use Rattle.spec_document.specs.Forest.{Written, Forest, Empty, Node, Plain}
use Rattle.spec_expression.specs.Strings.{words}
use Rattle.spec_expression.specs.declared.code.StaticCode.{StaticCode}
use Rattle.spec_expression.specs.declared.code.StaticCode.TheVariants as code
use Rattle.spec_structure.specs.declared.element.XsltElement.{XsltElement}
use Rattle.spec_structure.specs.declared.element.XsltElement.TheVariants as xsl
use Rattle.spec_structure.specs.declared.value.ValueKind.{ValueKind}
use Rattle.spec_structure.specs.declared.value.ValueKind.TheVariants as value
use Rattle.spec_structure.specs.declared.content.ContentKind.{ContentKind}
use Rattle.spec_structure.specs.declared.content.ContentKind.TheVariants as content
use Rattle.spec_structure.specs.Elements.{Row, rows_of, literal_rows, content_of, allows, after_element, takes_literals, takes_text, is_top, after_other}
use Rattle.spec_structure.specs.Inside.{Inside, outside, inside_of, Role, OfXslt, OfExtension, OfOther, role_of, in_no_namespace, of_xslt, expanded_of, value_of, extension_name, is_white}

-- a fault, and the node of the module where it stands
pub record Fault : Type 0 where
  pub code : StaticCode
  pub path : List ℕ

-- the first that is there
abbrev pub or_else : {A : Type 0} → Option A → Option A → Option A
or_else None other = other
or_else (Some a) other = Some a

-- ---- Values of attributes

abbrev pub is_default : List ℕ → Bool
is_default word = bytes_eq word (codes "#default")

abbrev pub is_prefix : List ℕ → Bool
is_prefix word = is_ncname word || is_default word

-- `p:*`
abbrev pub is_any_of_prefix : List ℕ → Bool
is_any_of_prefix word = is_ncname (before_first is_colon word) && bytes_eq (after_first is_colon word) (codes "*")

-- `*`, a QName or `p:*` (XPath 1.0, production 37)
abbrev pub is_name_test : List ℕ → Bool
is_name_test word = bytes_eq word (codes "*") || is_some (qname_of word) || is_any_of_prefix word

abbrev pub is_yes_no : List ℕ → Bool
is_yes_no text = list_any (bytes_eq text) (codes "yes" ∷ codes "no" ∷ [])

abbrev pub is_level : List ℕ → Bool
is_level text = list_any (bytes_eq text) (codes "single" ∷ codes "multiple" ∷ codes "any" ∷ [])

abbrev pub has_prefix : Option QName → Bool
has_prefix None = false
has_prefix (Some name) = is_some name.prefix

abbrev pub is_known_method : List ℕ → Bool
is_known_method text = list_any (bytes_eq text) (codes "xml" ∷ codes "html" ∷ codes "text" ∷ [])

abbrev pub is_method : List ℕ → Bool
is_method text = is_known_method text || has_prefix (qname_of text)

-- whether a value is one of those that the attribute may have (S08)
abbrev pub is_allowed : ValueKind → List ℕ → Bool
is_allowed value.YesNo text = is_yes_no text
is_allowed value.Level text = is_level text
is_allowed value.Method text = is_method text
is_allowed _ text = true

-- whether names stand where they are to stand (S15)
abbrev pub is_well_named : ValueKind → List ℕ → Bool
is_well_named value.Name text = is_some (qname_of text)
is_well_named value.Names text = list_all (λ word. is_some (qname_of word)) (words text)
is_well_named value.Prefix text = is_prefix text
is_well_named value.Prefixes text = list_all is_prefix (words text)
is_well_named value.Tests text = list_all is_name_test (words text)
is_well_named _ text = true

-- ---- The attributes of an element

abbrev pub kind_named : List ℕ → List Row → Option ValueKind
kind_named local [] = None
kind_named local (row ∷ more) = if bytes_eq row.name local then Some row.kind else kind_named local more

-- whether the attribute of this name is known, and its value one of those that it may have, where the rows stand in this namespace: one of
-- another namespace is no matter here
abbrev pub is_allowed_kind : List ℕ → Option ValueKind → Bool
is_allowed_kind text None = false
is_allowed_kind text (Some kind) = is_allowed kind text

abbrev pub is_allowed_name : (uri : List ℕ) → List Row → List ℕ → Option Expanded → Bool
is_allowed_name uri rows text None = true
is_allowed_name uri rows text (Some name) = if bytes_eq name.uri uri then is_allowed_kind text (kind_named name.local rows) else true

abbrev pub are_allowed : Scope → (uri : List ℕ) → List Row → List Written → Bool
are_allowed scope uri rows attributes = list_all (λ a. is_allowed_name uri rows a.value (expanded_of scope a)) attributes

-- whether names stand in it where they are to stand: one that is not known is no matter here
abbrev pub is_well_named_kind : List ℕ → Option ValueKind → Bool
is_well_named_kind text None = true
is_well_named_kind text (Some kind) = is_well_named kind text

abbrev pub is_named_well : (uri : List ℕ) → List Row → List ℕ → Option Expanded → Bool
is_named_well uri rows text None = true
is_named_well uri rows text (Some name) = if bytes_eq name.uri uri then is_well_named_kind text (kind_named name.local rows) else true

abbrev pub are_named_well : Scope → (uri : List ℕ) → List Row → List Written → Bool
are_named_well scope uri rows attributes = list_all (λ a. is_named_well uri rows a.value (expanded_of scope a)) attributes

-- no attribute of an XSLT element is of XSLT's namespace
abbrev pub is_of_xslt : Option Expanded → Bool
is_of_xslt None = false
is_of_xslt (Some name) = bytes_eq name.uri xslt_uri

abbrev pub has_of_xslt : Scope → List Written → Bool
has_of_xslt scope attributes = list_any (λ a. is_of_xslt (expanded_of scope a)) attributes

-- all that are required are there
abbrev pub has_attribute : Scope → List ℕ → List Written → Bool
has_attribute scope local attributes = is_some (value_of scope (in_no_namespace local) attributes)

abbrev pub has_required : Scope → List Row → List Written → Bool
has_required scope rows attributes = list_all (λ row. not row.is_required || has_attribute scope row.name attributes) rows

-- a template has match or name, and a mode only with match
abbrev pub is_template : XsltElement → Bool
is_template xsl.Template = true
is_template _ = false

abbrev pub has_name_alone : Scope → List Written → Bool
has_name_alone scope attributes = has_attribute scope (codes "name") attributes && not (has_attribute scope (codes "mode") attributes)

abbrev pub is_good_template : Scope → List Written → Bool
is_good_template scope attributes = has_attribute scope (codes "match") attributes || has_name_alone scope attributes

abbrev pub are_known : Scope → XsltElement → List Written → Bool
are_known scope element attributes = are_allowed scope [] (rows_of element) attributes && not (has_of_xslt scope attributes)

abbrev pub is_complete : Scope → XsltElement → List Written → Bool
is_complete scope element attributes =
    has_required scope (rows_of element) attributes && (not (is_template element) || is_good_template scope attributes)

abbrev pub are_attributes_of : Scope → XsltElement → List Written → Bool
are_attributes_of scope element attributes = are_known scope element attributes && is_complete scope element attributes

-- `1.0`, with white space around it
abbrev pub is_alone : List ℕ → List (List ℕ) → Bool
is_alone word (w ∷ []) = bytes_eq w word
is_alone word _ = false

abbrev pub is_version : List ℕ → Bool
is_version text = is_alone (codes "1.0") (words text)

abbrev pub is_stylesheet : XsltElement → Bool
is_stylesheet xsl.Stylesheet = true
is_stylesheet xsl.Transform = true
is_stylesheet _ = false

abbrev pub has_version : Option (List ℕ) → Bool
has_version None = false
has_version (Some text) = is_version text

-- a stylesheet has its version
abbrev pub has_good_version : Scope → List Written → Bool
has_good_version scope attributes = has_version (value_of scope (in_no_namespace (codes "version")) attributes)

-- a literal result element need not have one
abbrev pub may_have_version : Option (List ℕ) → Bool
may_have_version None = true
may_have_version (Some text) = is_version text

abbrev pub has_literal_version : Scope → List Written → Bool
has_literal_version scope attributes = may_have_version (value_of scope (of_xslt (codes "version")) attributes)

-- ---- Children

-- whether one is left: comments and processing instructions are ignored, and texts of white space where they are not preserved
abbrev pub is_left : (preserves : Bool) → spec.Content → Bool
is_left preserves (spec.Element name attributes) = true
is_left preserves (spec.Text text) = preserves || not (is_white text)
is_left preserves (spec.Comment text) = false
is_left preserves (spec.Instruction target text) = false

abbrev pub any_left : {L : Type 0} → (preserves : Bool) → Forest L → Bool
any_left preserves Empty = false
any_left preserves (Node label content children siblings) = is_left preserves content || any_left preserves siblings

-- an xsl:choose has a branch
abbrev pub is_choose : XsltElement → Bool
is_choose xsl.Choose = true
is_choose _ = false

-- a variable or parameter has a select attribute or a content, and not both
abbrev pub is_binding : XsltElement → Bool
is_binding xsl.Param = true
is_binding xsl.WithParam = true
is_binding xsl.Variable = true
is_binding _ = false

-- ---- The least code of an element

-- an xsl:choose has a branch, and an element stands where it may
abbrev pub is_placed : {L : Type 0} → ContentKind → XsltElement → Forest L → Bool
is_placed kind element children = allows kind element && (not (is_choose element) || any_left false children)

-- a variable or parameter has no content beside a select attribute
abbrev pub has_select : Scope → XsltElement → List Written → Bool
has_select scope element attributes = is_binding element && has_attribute scope (codes "select") attributes

abbrev pub has_both : {L : Type 0} → Inside → XsltElement → List Written → Forest L → Bool
has_both inside element attributes children = has_select inside.scope element attributes && any_left inside.preserves children

-- of an element of XSLT, where these contents may stand
abbrev pub xslt_code : {L : Type 0} → Inside → ContentKind → XsltElement → List Written → Forest L → Option StaticCode
xslt_code inside kind element attributes children =
    if not (is_placed kind element children) then Some code.MisplacedElement
    else (if not (are_attributes_of inside.scope element attributes) then Some code.BadAttribute
    else (if not (are_named_well inside.scope [] (rows_of element) attributes) then Some code.BadName
    else (if has_both inside element attributes children then Some code.SelectAndContent else None)))

-- xsl:decimal-format is neither unknown nor misplaced, and no other code but that of an extension stands at it
abbrev pub is_decimal_format : XsltElement → Bool
is_decimal_format xsl.DecimalFormat = true
is_decimal_format _ = false

abbrev pub named_code : {L : Type 0} → Inside → ContentKind → Option XsltElement → List Written → Forest L → Option StaticCode
named_code inside kind None attributes children = Some code.MisplacedElement
named_code inside kind (Some element) attributes children =
    if is_decimal_format element then Some code.Extension else xslt_code inside kind element attributes children

-- of a literal result element
abbrev pub are_literal_allowed : Scope → List Written → Bool
are_literal_allowed scope attributes = are_allowed scope xslt_uri literal_rows attributes

abbrev pub are_literal_named_well : Scope → List Written → Bool
are_literal_named_well scope attributes = are_named_well scope xslt_uri literal_rows attributes

abbrev pub literal_code : Inside → ContentKind → List Written → Option StaticCode
literal_code inside kind attributes =
    if not (has_literal_version inside.scope attributes) then Some code.BadVersion
    else (if not (are_literal_allowed inside.scope attributes) then Some code.BadAttribute
    else (if not (takes_literals kind) then Some code.MisplacedContent
    else (if not (are_literal_named_well inside.scope attributes) then Some code.BadName else None)))

-- of an element of an extension namespace: of its attributes only the list of extension prefixes is read
abbrev pub is_good_list : Option (List ℕ) → Bool
is_good_list None = true
is_good_list (Some text) = is_well_named value.Prefixes text

abbrev pub extension_code : Inside → ContentKind → List Written → Option StaticCode
extension_code inside kind attributes =
    if not (takes_literals kind) then Some code.MisplacedContent
    else (if not (is_good_list (value_of inside.scope (extension_name false) attributes)) then Some code.BadName else Some code.Extension)

-- of an element that is not XSLT's: at the top one of another namespace is skipped, and one of no namespace is misplaced
abbrev pub top_code : (uri : List ℕ) → Option StaticCode
top_code uri = if is_there uri then None else Some code.MisplacedElement

abbrev pub other_code : Inside → ContentKind → (uri : List ℕ) → List Written → Option StaticCode
other_code inside kind uri attributes = if is_top kind then top_code uri else literal_code inside kind attributes

-- of an element
abbrev pub element_code : {L : Type 0} → Inside → ContentKind → Role → List Written → Forest L → Option StaticCode
element_code inside kind (OfXslt element) attributes children = named_code inside kind element attributes children
element_code inside kind OfExtension attributes children = if is_top kind then None else extension_code inside kind attributes
element_code inside kind (OfOther uri) attributes children = other_code inside kind uri attributes

-- what may stand among the children of an element that has no fault; none where it is skipped with all in it
abbrev pub content_by_name : Option XsltElement → Option ContentKind
content_by_name None = None
content_by_name (Some element) = Some (content_of element)

abbrev pub content_by : ContentKind → Role → Option ContentKind
content_by kind (OfXslt element) = content_by_name element
content_by kind OfExtension = None
content_by kind (OfOther uri) = if is_top kind then None else Some content.Body

abbrev pub after_name : ContentKind → Option XsltElement → ContentKind
after_name kind None = kind
after_name kind (Some element) = after_element kind element

abbrev pub after_role : ContentKind → Role → ContentKind
after_role kind (OfXslt element) = after_name kind element
after_role kind OfExtension = after_other kind
after_role kind (OfOther uri) = after_other kind

-- what may stand after a text: one of white space changes nothing
abbrev pub after_text : ContentKind → List ℕ → ContentKind
after_text kind text = if is_white text then kind else after_other kind

abbrev pub text_fault : ContentKind → List ℕ → List ℕ → Option Fault
text_fault kind path text = if takes_text kind || is_white text then None else Some (record { code = code.MisplacedContent; path = path })

-- ---- The first fault among siblings below the element at this path, of which the first has this position

abbrev pub fault_at : List ℕ → Option StaticCode → Option Fault
fault_at path why = option_map (λ c. record { code = c; path = path }) why

abbrev pub fault_among : {L : Type 0} → Inside → ContentKind → List ℕ → ℕ → Forest L → Option Fault
fault_among inside kind path position Empty = None
fault_among inside kind path position (Node label (spec.Text text) children siblings) =
    or_else (text_fault kind (path ++ position ∷ []) text) (fault_among inside (after_text kind text) path (position + 1) siblings)
fault_among inside kind path position (Node label (spec.Comment text) children siblings) = fault_among inside kind path (position + 1) siblings
fault_among inside kind path position (Node label (spec.Instruction target text) children siblings) = fault_among inside kind path (position + 1) siblings
fault_among inside kind path position (Node label (spec.Element name attributes) children siblings) =
    let inner = inside_of inside name attributes in
    let role = role_of inner name in
    let here = path ++ position ∷ [] in
    or_else (or_else (fault_at here (element_code inner kind role attributes children))
    (elim (content_by kind role) [ None ↦ None | Some below ↦ fault_among inner below here 1 children ]))
    (fault_among inside (after_role kind role) path (position + 1) siblings)

-- ---- The document element: a stylesheet, or a literal result element with xsl:version, which is the content of a template (section 2.3)

abbrev pub no_stylesheet : List ℕ → Option Fault
no_stylesheet path = Some (record { code = code.NoStylesheet; path = path })

-- a stylesheet stands at the top alone, so its version is asked there
abbrev pub stylesheet_code : Inside → XsltElement → List Written → Option StaticCode
stylesheet_code inside element attributes =
    if not (has_good_version inside.scope attributes) then Some code.BadVersion
    else (if not (are_attributes_of inside.scope element attributes) then Some code.BadAttribute
    else (if not (are_named_well inside.scope [] (rows_of element) attributes) then Some code.BadName else None))

-- of an element at the top with this code, among whose children these may stand
abbrev pub fault_with : {L : Type 0} → Inside → ContentKind → List ℕ → Option StaticCode → Forest L → Option Fault
fault_with inside kind path why children = or_else (fault_at path why) (fault_among inside kind path 1 children)

abbrev pub simplified_fault : {L : Type 0} → Inside → List ℕ → Role → List Written → Forest L → Option Fault
simplified_fault inside path role attributes children =
    if is_some (value_of inside.scope (of_xslt (codes "version")) attributes)
    then fault_with inside content.Body path (element_code inside content.Body role attributes children) children
    else no_stylesheet path

abbrev pub stylesheet_fault : {L : Type 0} → Inside → List ℕ → Option XsltElement → List Written → Forest L → Option Fault
stylesheet_fault inside path None attributes children = no_stylesheet path
stylesheet_fault inside path (Some element) attributes children =
    if is_stylesheet element then fault_with inside content.Imports path (stylesheet_code inside element attributes) children else no_stylesheet path

abbrev pub document_fault : {L : Type 0} → Inside → List ℕ → Role → List Written → Forest L → Option Fault
document_fault inside path (OfXslt element) attributes children = stylesheet_fault inside path element attributes children
document_fault inside path OfExtension attributes children = simplified_fault inside path OfExtension attributes children
document_fault inside path (OfOther uri) attributes children = simplified_fault inside path (OfOther uri) attributes children

-- the structural fault of a module: of the element at its top; a document has one there
abbrev pub fault_of : {L : Type 0} → ℕ → Forest L → Option Fault
fault_of position Empty = no_stylesheet (position ∷ [])
fault_of position (Node label (spec.Text text) children siblings) = fault_of (position + 1) siblings
fault_of position (Node label (spec.Comment text) children siblings) = fault_of (position + 1) siblings
fault_of position (Node label (spec.Instruction target text) children siblings) = fault_of (position + 1) siblings
fault_of position (Node label (spec.Element name attributes) children siblings) =
    let inner = inside_of outside name attributes in
    document_fault inner (position ∷ []) (role_of inner name) attributes children

-- ---- Which modules it names: the xsl:import and xsl:include elements among the children of a stylesheet that have an href, in document
-- order, misplaced ones too

pub record Link : Type 0 where
  pub path : List ℕ
  pub is_import : Bool
  pub href : List ℕ

abbrev pub link_by : List ℕ → Bool → Option (List ℕ) → List Link
link_by path is_import None = []
link_by path is_import (Some href) = record { path = path; is_import = is_import; href = href } ∷ []

-- whether the element is an import or an include
abbrev pub link_named : Option XsltElement → Option Bool
link_named (Some xsl.Import) = Some true
link_named (Some xsl.Include) = Some false
link_named _ = None

abbrev pub link_kind : Role → Option Bool
link_kind (OfXslt element) = link_named element
link_kind OfExtension = None
link_kind (OfOther uri) = None

abbrev pub href_in : Scope → List Written → Option (List ℕ)
href_in scope attributes = value_of scope (in_no_namespace (codes "href")) attributes

abbrev pub link_with : Scope → List ℕ → List Written → Option Bool → List Link
link_with scope path attributes None = []
link_with scope path attributes (Some is_import) = link_by path is_import (href_in scope attributes)

abbrev pub link_of : Inside → List ℕ → List Written → Role → List Link
link_of inside path attributes role = link_with inside.scope path attributes (link_kind role)

abbrev pub links_among : {L : Type 0} → Inside → List ℕ → ℕ → Forest L → List Link
links_among inside path position Empty = []
links_among inside path position (Node label (spec.Text text) children siblings) = links_among inside path (position + 1) siblings
links_among inside path position (Node label (spec.Comment text) children siblings) = links_among inside path (position + 1) siblings
links_among inside path position (Node label (spec.Instruction target text) children siblings) = links_among inside path (position + 1) siblings
links_among inside path position (Node label (spec.Element name attributes) children siblings) =
    let inner = inside_of inside name attributes in
    link_of inner (path ++ position ∷ []) attributes (role_of inner name) ++ links_among inside path (position + 1) siblings

abbrev pub names_stylesheet : Option XsltElement → Bool
names_stylesheet None = false
names_stylesheet (Some element) = is_stylesheet element

abbrev pub has_links : Role → Bool
has_links (OfXslt element) = names_stylesheet element
has_links OfExtension = false
has_links (OfOther uri) = false

abbrev pub links_below : {L : Type 0} → Inside → List ℕ → Role → Forest L → List Link
links_below inside path role children = if has_links role then links_among inside path 1 children else []

abbrev pub links_of : {L : Type 0} → ℕ → Forest L → List Link
links_of position Empty = []
links_of position (Node label (spec.Text text) children siblings) = links_of (position + 1) siblings
links_of position (Node label (spec.Comment text) children siblings) = links_of (position + 1) siblings
links_of position (Node label (spec.Instruction target text) children siblings) = links_of (position + 1) siblings
links_of position (Node label (spec.Element name attributes) children siblings) =
    let inner = inside_of outside name attributes in
    links_below inner (position ∷ []) (role_of inner name) children
