-- The parts of what is asked of elements.
use Rattle.std.specs.Prelude.{◌≡◌, ℕ, Bool, true, false, List, [], ◌∷◌, ◌++◌, Option, None, Some, Result, Ok}
use Rattle.spec_document.specs.Forest as spec
use Rattle.spec_document.specs.Forest.{Written, Forest}
use Rattle.spec_expression.specs.declared.code.StaticCode.{StaticCode}
use Rattle.spec_structure.specs.declared.element.XsltElement.{XsltElement}
use Rattle.spec_structure.specs.Elements.{content_of}
use Rattle.spec_structure.specs.Inside.{Inside, Role, OfXslt, OfExtension, OfOther, role_of}
use Rattle.spec_structure.specs.Structure.{Fault}
use Rattle.spec_compile.specs.Reading.{Reading, Done, reading_on}
use Rattle.spec_compile.specs.Value.{attributes_of}
use Rattle.spec_compile.specs.Content.{Around, around_of, site_of, standing_at, children_among, uses_of}
use Rattle.spec_compile.specs.Unit.{TopLevel, declaration_of, in_stylesheet, simplified_of, top_level_by, top_levels_among}
use Rattle.xt_content.specs.Sibling.{alone}
use Rattle.xt_content.specs.declared.fault.ContentFault.{ContentFault}
use Rattle.xt_content.specs.declared.fault.ContentFault.TheVariants as faults
use Rattle.xt_tree.specs.View.{Tree}
use Rattle.xt_top_level.specs.declared.module.Kind.{Kind}
use Rattle.xt_top_level.specs.declared.module.Kind.TheVariants as kinds

-- a refusal of this code at this path, unless memory ran out
abbrev pub IsAt : StaticCode → List ℕ → ContentFault → Type 0
IsAt code path (faults.Refused fault) = (fault.code ≡ code) × (fault.path ≡ path)
IsAt code path faults.Memory = Unit {0}

abbrev pub is_element : spec.Content → Bool
is_element (spec.Element name attributes) = true
is_element (spec.Text text) = false
is_element (spec.Comment text) = false
is_element (spec.Instruction target text) = false

-- the element of XSLT that an element is
abbrev pub xslt_in : Role → Option XsltElement
xslt_in (OfXslt element) = element
xslt_in OfExtension = None
xslt_in (OfOther uri) = None

-- ---- An element at the top, without its siblings

abbrev pub declared_at : {L : Type 0} → Around → List ℕ → XsltElement → List Written → Forest L → Reading (Result (List TopLevel) Fault)
declared_at inner here x attributes children =
    reading_on (standing_at here (attributes_of inner.inside.scope x attributes))
    (λ v. reading_on (children_among inner (content_of x) here 1 children)
    (λ below. Done (Ok (top_level_by (site_of inner here) (uses_of x v) below.outline (declaration_of x (site_of inner here) v below.children)))))

abbrev pub declared_by : {L : Type 0} → Around → List ℕ → Option XsltElement → List Written → Forest L → Reading (Result (List TopLevel) Fault)
declared_by inner here None attributes children = Done (Ok [])
declared_by inner here (Some x) attributes children = declared_at inner here x attributes children

abbrev pub element_reading : {L : Type 0} → Around → List ℕ → ℕ → List ℕ → List Written → Forest L → Reading (Result (List TopLevel) Fault)
element_reading around path position name attributes children =
    let inner = around_of around name attributes in declared_by inner (path ++ position ∷ []) (xslt_in (role_of inner.inside name)) attributes children

-- ---- The document element

abbrev pub kind_of : Role → Kind
kind_of (OfXslt None) = kinds.Nothing
kind_of (OfXslt (Some x)) = kinds.Stylesheet x
kind_of OfExtension = kinds.Simplified
kind_of (OfOther uri) = kinds.Simplified

abbrev pub stylesheet_reading : {L : Type 0} → List ℕ → ℕ → Inside → XsltElement → List Written → Forest L → Reading (Result (List TopLevel) Fault)
stylesheet_reading name position inner x attributes children =
    reading_on (standing_at (position ∷ []) (attributes_of inner.scope x attributes)) (λ v. top_levels_among (in_stylesheet name inner attributes) (position ∷ []) 1 children)

abbrev pub document_reading : List ℕ → ℕ → Kind → Inside → List Written → Tree → Reading (Result (List TopLevel) Fault)
document_reading name position kinds.Nothing inner attributes tree = Done (Ok [])
document_reading name position (kinds.Stylesheet x) inner attributes tree = stylesheet_reading name position inner x attributes tree.children
document_reading name position kinds.Simplified inner attributes tree = simplified_of name position (alone tree)
