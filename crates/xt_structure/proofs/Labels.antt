-- The structure of a module is the same where labels are forgotten.
use Rattle.std.proofs.Common.{◌≡◌, ℕ, ◌+◌, Bool, false, not, ◌&&◌, ◌||◌, cond, List, [], ◌∷◌, ◌++◌, Option, None, Some, is_some, codes, refl}
use Rattle.spec_document.specs.Forest.{Written, Element, Text, Comment, Instruction, Forest, Empty, Node, plain}
use Rattle.spec_expression.specs.declared.code.StaticCode.{StaticCode}
use Rattle.spec_expression.specs.declared.code.StaticCode.TheVariants as code
use Rattle.spec_structure.specs.declared.element.XsltElement.{XsltElement}
use Rattle.spec_structure.specs.declared.content.ContentKind.{ContentKind}
use Rattle.spec_structure.specs.declared.content.ContentKind.TheVariants as content
use Rattle.spec_structure.specs.Elements.{allows, rows_of}
use Rattle.spec_structure.specs.Inside.{Inside, outside, inside_of, Role, OfXslt, OfExtension, OfOther, role_of, of_xslt, value_of}
use Rattle.spec_structure.specs.Structure.{after_role, after_text, any_left, are_attributes_of, are_named_well, content_by, document_fault, element_code}
use Rattle.spec_structure.specs.Structure.{fault_among, fault_at, fault_of, fault_with, has_links, has_select, is_choose, is_decimal_format, is_left, is_stylesheet, link_of, links_among}
use Rattle.spec_structure.specs.Structure.{links_below, links_of, named_code, no_stylesheet, or_else, simplified_fault, stylesheet_code, text_fault, xslt_code}

any_left-plain : {L : Type 0} (preserves : Bool) (f : Forest L) → any_left preserves (plain f) ≡ any_left preserves f
any_left-plain preserves Empty = refl
any_left-plain preserves (Node label content children siblings) = λ i. is_left preserves content || any_left-plain preserves siblings i

xslt_code-plain : {L : Type 0} (inside : Inside) (kind : ContentKind) (element : XsltElement) (attributes : List Written) (f : Forest L)
    → xslt_code inside kind element attributes (plain f) ≡ xslt_code inside kind element attributes f
xslt_code-plain inside kind element attributes f = λ i.
    cond (not (allows kind element && (not (is_choose element) || any_left-plain false f i))) (Some code.MisplacedElement)
    (cond (not (are_attributes_of inside.scope element attributes)) (Some code.BadAttribute)
    (cond (not (are_named_well inside.scope [] (rows_of element) attributes)) (Some code.BadName)
    (cond (has_select inside.scope element attributes && any_left-plain inside.preserves f i) (Some code.SelectAndContent) None)))

named_code-plain : {L : Type 0} (inside : Inside) (kind : ContentKind) (element : Option XsltElement) (attributes : List Written) (f : Forest L)
    → named_code inside kind element attributes (plain f) ≡ named_code inside kind element attributes f
named_code-plain inside kind None attributes f = refl
named_code-plain inside kind (Some element) attributes f = λ i. cond (is_decimal_format element) (Some code.Extension) (xslt_code-plain inside kind element attributes f i)

element_code-plain : {L : Type 0} (inside : Inside) (kind : ContentKind) (role : Role) (attributes : List Written) (f : Forest L)
    → element_code inside kind role attributes (plain f) ≡ element_code inside kind role attributes f
element_code-plain inside kind (OfXslt element) attributes f = named_code-plain inside kind element attributes f
element_code-plain inside kind OfExtension attributes f = refl
element_code-plain inside kind (OfOther uri) attributes f = refl

fault_among-plain : {L : Type 0} (inside : Inside) (kind : ContentKind) (path : List ℕ) (position : ℕ) (f : Forest L)
    → fault_among inside kind path position (plain f) ≡ fault_among inside kind path position f
fault_among-plain inside kind path position Empty = refl
fault_among-plain inside kind path position (Node label (Text text) children siblings) = λ i.
    or_else (text_fault kind (path ++ position ∷ []) text) (fault_among-plain inside (after_text kind text) path (position + 1) siblings i)
fault_among-plain inside kind path position (Node label (Comment text) children siblings) = fault_among-plain inside kind path (position + 1) siblings
fault_among-plain inside kind path position (Node label (Instruction target text) children siblings) = fault_among-plain inside kind path (position + 1) siblings
fault_among-plain inside kind path position (Node label (Element name attributes) children siblings) =
    let inner = inside_of inside name attributes in
    let role = role_of inner name in
    let here = path ++ position ∷ [] in
    λ i. or_else (or_else (fault_at here (element_code-plain inner kind role attributes children i))
    (elim (content_by kind role) [ None ↦ None | Some below ↦ fault_among-plain inner below here 1 children i ]))
    (fault_among-plain inside (after_role kind role) path (position + 1) siblings i)

fault_with-plain : {L : Type 0} (inside : Inside) (kind : ContentKind) (path : List ℕ) (why : Option StaticCode) (f : Forest L)
    → fault_with inside kind path why (plain f) ≡ fault_with inside kind path why f
fault_with-plain inside kind path why f = λ i. or_else (fault_at path why) (fault_among-plain inside kind path 1 f i)

simplified_fault-plain : {L : Type 0} (inside : Inside) (path : List ℕ) (role : Role) (attributes : List Written) (f : Forest L)
    → simplified_fault inside path role attributes (plain f) ≡ simplified_fault inside path role attributes f
simplified_fault-plain inside path role attributes f = λ i.
    cond (is_some (value_of inside.scope (of_xslt (codes "version")) attributes))
    (or_else (fault_at path (element_code-plain inside content.Body role attributes f i)) (fault_among-plain inside content.Body path 1 f i))
    (no_stylesheet path)

document_fault-plain : {L : Type 0} (inside : Inside) (path : List ℕ) (role : Role) (attributes : List Written) (f : Forest L)
    → document_fault inside path role attributes (plain f) ≡ document_fault inside path role attributes f
document_fault-plain inside path (OfXslt None) attributes f = refl
document_fault-plain inside path (OfXslt (Some element)) attributes f = λ i.
    cond (is_stylesheet element) (fault_with-plain inside content.Imports path (stylesheet_code inside element attributes) f i) (no_stylesheet path)
document_fault-plain inside path OfExtension attributes f = simplified_fault-plain inside path OfExtension attributes f
document_fault-plain inside path (OfOther uri) attributes f = simplified_fault-plain inside path (OfOther uri) attributes f

pub fault_of-plain : {L : Type 0} (position : ℕ) (f : Forest L) → fault_of position (plain f) ≡ fault_of position f
fault_of-plain position Empty = refl
fault_of-plain position (Node label (Text text) children siblings) = fault_of-plain (position + 1) siblings
fault_of-plain position (Node label (Comment text) children siblings) = fault_of-plain (position + 1) siblings
fault_of-plain position (Node label (Instruction target text) children siblings) = fault_of-plain (position + 1) siblings
fault_of-plain position (Node label (Element name attributes) children siblings) =
    let inner = inside_of outside name attributes in document_fault-plain inner (position ∷ []) (role_of inner name) attributes children

-- ---- Links

links_among-plain : {L : Type 0} (inside : Inside) (path : List ℕ) (position : ℕ) (f : Forest L)
    → links_among inside path position (plain f) ≡ links_among inside path position f
links_among-plain inside path position Empty = refl
links_among-plain inside path position (Node label (Text text) children siblings) = links_among-plain inside path (position + 1) siblings
links_among-plain inside path position (Node label (Comment text) children siblings) = links_among-plain inside path (position + 1) siblings
links_among-plain inside path position (Node label (Instruction target text) children siblings) = links_among-plain inside path (position + 1) siblings
links_among-plain inside path position (Node label (Element name attributes) children siblings) =
    let inner = inside_of inside name attributes in
    λ i. link_of inner (path ++ position ∷ []) attributes (role_of inner name) ++ links_among-plain inside path (position + 1) siblings i

links_below-plain : {L : Type 0} (inside : Inside) (path : List ℕ) (role : Role) (f : Forest L) → links_below inside path role (plain f) ≡ links_below inside path role f
links_below-plain inside path role f = λ i. cond (has_links role) (links_among-plain inside path 1 f i) []

pub links_of-plain : {L : Type 0} (position : ℕ) (f : Forest L) → links_of position (plain f) ≡ links_of position f
links_of-plain position Empty = refl
links_of-plain position (Node label (Text text) children siblings) = links_of-plain (position + 1) siblings
links_of-plain position (Node label (Comment text) children siblings) = links_of-plain (position + 1) siblings
links_of-plain position (Node label (Instruction target text) children siblings) = links_of-plain (position + 1) siblings
links_of-plain position (Node label (Element name attributes) children siblings) =
    let inner = inside_of outside name attributes in links_below-plain inner (position ∷ []) (role_of inner name) children
