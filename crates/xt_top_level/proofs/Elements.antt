-- One element: at the top of a stylesheet, and the document element.
use Rattle.std.proofs.Common.{◌≡◌, ℕ, true, List, [], ◌∷◌, ◌++◌, map, Option, None, Some, Result, Ok, Err, refl, sym, ◌∙◌}
use Rattle.spec_document.specs.Forest as spec
use Rattle.spec_expression.specs.declared.code.StaticCode.{StaticCode}
use Rattle.spec_structure.specs.Inside.{Inside, Role, OfXslt, OfExtension, OfOther, inside_of, outside, role_of}
use Rattle.spec_structure.specs.declared.content.ContentKind.TheVariants as content
use Rattle.spec_structure.specs.declared.element.XsltElement.{XsltElement}
use Rattle.spec_compile.specs.Reading.{Reading, Done, Reads, reading_on}
use Rattle.spec_compile.specs.Content.{Around, around_of, at_path, children_among, site_of, standing_at}
use Rattle.spec_compile.specs.Unit.{at_top, in_stylesheet, module_by, module_of, simplified, simplified_of, top_levels_among}
use Rattle.spec_compile.specs.Value.{attributes_of}
use Rattle.xt_attributes.specs.Answers.{IsRead}
use Rattle.xt_attributes.specs.View.{code_in}
use Rattle.xt_attributes.specs.declared.fault.AttributeFault.{AttributeFault}
use Rattle.xt_content.specs.Sibling.{alone}
use Rattle.xt_content.specs.View.{IsAnswer}
use Rattle.xt_content.specs.declared.fault.ContentFault.{ContentFault}
use Rattle.xt_content.specs.declared.fault.ContentFault.TheVariants.{Memory, Refused}
use Rattle.xt_tree.specs.View.{Tree, written_of}
use Rattle.xt_tree.specs.declared.node.Written.{Written}
use Rattle.xt_top_level.specs.Element.{IsAt, declared_by, document_reading, element_reading, is_element, kind_of, stylesheet_reading, xslt_in}
use Rattle.xt_top_level.specs.declared.module.Kind.{Kind}
use Rattle.xt_top_level.proofs.Turns.{element_is}
use Rattle.xt_top_level.proofs.Steps.{reads_then}

-- ---- What stands at an element

pub stands : {A X : Type 0} {v : X → A} {r : Reading (Result A StaticCode)} (path : List ℕ) {x : X}
    → IsRead {F = AttributeFault} code_in v r (Ok x) → IsAnswer v (standing_at path r) (Ok x)
stands {v = v} {r = r} path {x = x} h = record { so = reads_then r (λ a. Done (at_path path a)) (Ok (v x)) (Ok (v x)) h.so refl }

pub refused : {A X : Type 0} {v : X → A} (r : Reading (Result A StaticCode)) (code : StaticCode) (path : List ℕ) (e : ContentFault)
    → Reads r (Err code) → IsAt code path e → IsAnswer {X = X} v (standing_at path r) (Err e)
refused r code path (Refused fault) h at =
    record { so = reads_then r (λ a. Done (at_path path a)) (Err code) _ h (λ i. Err (record { code = sym at.0 i; path = sym at.1 i })) }
refused r code path Memory h at = record { so = tt }

-- ---- An element at the top

pub at_xslt : {L : Type 0} (outer inner : Around) (path here : List ℕ) (position : ℕ) (name : List ℕ) (attributes : List spec.Written) (children : spec.Forest L) (o : Option XsltElement)
    → inner ≡ around_of outer name attributes → here ≡ path ++ position ∷ [] → o ≡ xslt_in (role_of inner.inside name)
    → declared_by inner here o attributes children ≡ element_reading outer path position name attributes children
at_xslt outer inner path here position name attributes children o is_inner is_here is_xslt =
    (λ i. declared_by inner here (is_xslt i) attributes children)
    ∙ (λ i. declared_by (is_inner i) (is_here i) (xslt_in (role_of (is_inner i).inside name)) attributes children)

pub at_element : (around : Around) (path : List ℕ) (position : ℕ) (tree : Tree) (name : List ℕ) (xs ys : List Written) (children : spec.Forest ℕ)
    → spec.Element name (map written_of ys) ≡ tree.content → xs ≡ ys → children ≡ tree.children
    → element_reading around path position name (map written_of xs) children ≡ top_levels_among around path position (alone tree)
at_element around path position tree name xs ys children content attributes are_children =
    (λ i. element_reading around path position name (map written_of (attributes i)) (are_children i))
    ∙ element_is around path position tree.number name (map written_of ys) tree.children
    ∙ (λ i. top_levels_among around path position (spec.Node tree.number (content i) tree.children spec.Empty))

-- ---- The document element

pub at_document_element : (name : List ℕ) (position label : ℕ) (content : spec.Content) (children siblings : spec.Forest ℕ) → is_element content ≡ true
    → module_of name position (spec.Node label content children spec.Empty) ≡ module_of name position (spec.Node label content children siblings)
at_document_element name position label (spec.Element element attributes) children siblings h = refl
at_document_element name position label (spec.Text text) children siblings h = absurd (cc)
at_document_element name position label (spec.Comment text) children siblings h = absurd (cc)
at_document_element name position label (spec.Instruction target text) children siblings h = absurd (cc)

document_is : (name : List ℕ) (position label : ℕ) (element : List ℕ) (attributes : List spec.Written) (children : spec.Forest ℕ)
    → document_reading name position (kind_of (role_of (inside_of outside element attributes) element)) (inside_of outside element attributes) attributes
    (record { number = label; content = spec.Element element attributes; children = children })
    ≡ module_of name position (spec.Node label (spec.Element element attributes) children spec.Empty)
document_is name position label element attributes children = by (role_of (inside_of outside element attributes) element)
  where
    tree : Tree
    tree = record { number = label; content = spec.Element element attributes; children = children }

    by : (r : Role) → document_reading name position (kind_of r) (inside_of outside element attributes) attributes tree
        ≡ elim r [
          | OfXslt x ↦ module_by name (position ∷ []) element attributes children (OfXslt x)
          | OfExtension ↦ simplified_of name position (alone tree)
          | OfOther uri ↦ simplified_of name position (alone tree)
        ]
    by (OfXslt None) = refl
    by (OfXslt (Some x)) = refl
    by OfExtension = refl
    by (OfOther uri) = refl

pub at_document : (name : List ℕ) (position : ℕ) (tree : Tree) {kind : Kind} {inner : Inside} (element : List ℕ) (xs ys : List Written)
    → spec.Element element (map written_of ys) ≡ tree.content → xs ≡ ys → inner ≡ inside_of outside element (map written_of xs) → kind ≡ kind_of (role_of inner element)
    → document_reading name position kind inner (map written_of ys) tree ≡ module_of name position (alone tree)
at_document name position tree {kind = kind} {inner = inner} element xs ys content attributes is_inner is_kind =
    (λ i. document_reading name position (is_kind i) inner (map written_of ys) tree)
    ∙ (λ i. document_reading name position (kind_of (role_of (is_inside i) element)) (is_inside i) (map written_of ys) tree)
    ∙ (λ i. document_reading name position (kind_of (role_of (inside_of outside element (map written_of ys)) element)) (inside_of outside element (map written_of ys)) (map written_of ys)
    (record { number = tree.number; content = sym content i; children = tree.children }))
    ∙ document_is name position tree.number element (map written_of ys) tree.children
    ∙ (λ i. module_of name position (spec.Node tree.number (content i) tree.children spec.Empty))
  where
    is_inside : inner ≡ inside_of outside element (map written_of ys)
    is_inside = is_inner ∙ (λ i. inside_of outside element (map written_of (attributes i)))

pub at_stylesheet : (name : List ℕ) (position : ℕ) (inner : Inside) (x : XsltElement) (attributes : List spec.Written) (children : spec.Forest ℕ) (path : List ℕ) (around : Around)
    → path ≡ position ∷ [] → around ≡ in_stylesheet name inner attributes
    → reading_on (standing_at path (attributes_of around.inside.scope x attributes)) (λ v. top_levels_among around path 1 children)
    ≡ stylesheet_reading name position inner x attributes children
at_stylesheet name position inner x attributes children path around is_path is_around =
    λ i. reading_on (standing_at (is_path i) (attributes_of (is_around i).inside.scope x attributes)) (λ v. top_levels_among (is_around i) (is_path i) 1 children)

pub at_simplified : (name : List ℕ) (position : ℕ) (f : spec.Forest ℕ) (around : Around) (path : List ℕ) → around ≡ at_top name → path ≡ []
    → reading_on (children_among around content.Body path position f) (λ below. Done (Ok (simplified (site_of around (position ∷ [])) below))) ≡ simplified_of name position f
at_simplified name position f around path is_around is_path =
    λ i. reading_on (children_among (is_around i) content.Body (is_path i) position f) (λ below. Done (Ok (simplified (site_of (is_around i) (position ∷ [])) below)))
