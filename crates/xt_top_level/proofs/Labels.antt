-- What a module says is the same where labels are forgotten.
use Rattle.std.proofs.Common.{◌≡◌, ℕ, ◌+◌, ◌&&◌, ◌||◌, cond, not, List, [], ◌∷◌, ◌++◌, None, Some, Ok, refl}
use Rattle.spec_document.specs.Forest.{Element, Text, Comment, Instruction, Forest, Empty, Node, plain}
use Rattle.spec_stylesheet.specs.Instruction as made
use Rattle.spec_structure.specs.Elements.{after_element, after_other, content_of, takes_literals}
use Rattle.spec_structure.specs.Inside.{Inside, OfXslt, OfExtension, OfOther, inside_of, is_white, outside, role_of}
use Rattle.spec_structure.specs.Structure.{is_left}
use Rattle.spec_structure.specs.declared.content.ContentKind.{ContentKind}
use Rattle.spec_structure.specs.declared.content.ContentKind.TheVariants as content
use Rattle.spec_compile.specs.Reading.{Done, reading_on}
use Rattle.spec_compile.specs.Content.{Around, AnInstruction, around_of, bound_by, child_of, children_among, extension_rows, instruction_by, is_leading_role, leads, site_of, standing_at, tag_of, tag_uses, text_among, text_child, uses_of, with, with_element, with_text}
use Rattle.spec_compile.specs.Unit.{at_top, declaration_of, in_stylesheet, module_of, simplified, simplified_of, top_level_by, top_levels_among}
use Rattle.spec_compile.specs.Value.{attributes_of, xslt_attributes_of}

leads-plain : {L : Type 0} (i : Inside) (kind : ContentKind) (f : Forest L) → leads i kind (plain f) ≡ leads i kind f
leads-plain i kind Empty = refl
leads-plain i kind (Node label (Element name attributes) children siblings) = λ j. is_leading_role kind (role_of (inside_of i name attributes) name) || leads-plain i kind siblings j
leads-plain i kind (Node label (Text text) children siblings) = leads-plain i kind siblings
leads-plain i kind (Node label (Comment text) children siblings) = leads-plain i kind siblings
leads-plain i kind (Node label (Instruction target text) children siblings) = leads-plain i kind siblings

text_among-plain : {L : Type 0} (f : Forest L) → text_among (plain f) ≡ text_among f
text_among-plain Empty = refl
text_among-plain (Node label (Element name attributes) children siblings) = text_among-plain siblings
text_among-plain (Node label (Text text) children siblings) = λ j. text ++ text_among-plain siblings j
text_among-plain (Node label (Comment text) children siblings) = text_among-plain siblings
text_among-plain (Node label (Instruction target text) children siblings) = text_among-plain siblings

text_child-plain : {L : Type 0} (around : Around) (kind : ContentKind) (path text : List ℕ) (siblings : Forest L)
    → text_child around kind path text (plain siblings) ≡ text_child around kind path text siblings
text_child-plain around kind path text siblings =
    λ j. cond (takes_literals kind && is_left around.inside.preserves (Text text) && not (is_white text && leads-plain around.inside kind siblings j))
    (AnInstruction (record { site = site_of around path; form = made.without_content (made.Text text) }) ∷ []) []

children_among-plain : {L : Type 0} (around : Around) (kind : ContentKind) (path : List ℕ) (position : ℕ) (f : Forest L)
    → children_among around kind path position (plain f) ≡ children_among around kind path position f
children_among-plain around kind path position Empty = refl
children_among-plain around kind path position (Node label (Text text) children siblings) =
    λ j. reading_on (children_among-plain around (cond (is_white text) kind (after_other kind)) path (position + 1) siblings j)
    (λ rest. Done (Ok (with_text (text_child-plain around kind path text siblings j) rest)))
children_among-plain around kind path position (Node label (Comment text) children siblings) = children_among-plain around kind path (position + 1) siblings
children_among-plain around kind path position (Node label (Instruction target text) children siblings) = children_among-plain around kind path (position + 1) siblings
children_among-plain around kind path position (Node label (Element name attributes) children siblings) =
    let inner = around_of around name attributes in
    let here = path ++ position ∷ [] in
    λ j. elim (role_of inner.inside name) [
      | OfXslt None ↦ children_among-plain around kind path (position + 1) siblings j
      | OfXslt (Some x) ↦
          reading_on (standing_at here (attributes_of inner.inside.scope x attributes))
          (λ v. reading_on (children_among-plain inner (content_of x) here 1 children j)
          (λ below. reading_on (children_among-plain around (after_element kind x) path (position + 1) siblings j)
          (λ rest. Done (Ok (with_element (child_of x (site_of inner here) v (text_among-plain children j) below.children) (site_of inner here) (uses_of x v) (bound_by x v)
          below rest)))))
      | OfExtension ↦
          reading_on (standing_at here (xslt_attributes_of inner.inside.scope extension_rows attributes))
          (λ v. children_among-plain around (after_other kind) path (position + 1) siblings j)
      | OfOther uri ↦
          reading_on (standing_at here (tag_of inner name attributes))
          (λ tag. reading_on (children_among-plain inner content.Body here 1 children j)
          (λ below. reading_on (children_among-plain around (after_other kind) path (position + 1) siblings j)
          (λ rest. Done (Ok (with_element (instruction_by (site_of inner here) (Some (with (made.Literal tag) below.children))) (site_of inner here) (tag_uses tag) None
          below rest)))))
    ]

top_levels_among-plain : {L : Type 0} (around : Around) (path : List ℕ) (position : ℕ) (f : Forest L)
    → top_levels_among around path position (plain f) ≡ top_levels_among around path position f
top_levels_among-plain around path position Empty = refl
top_levels_among-plain around path position (Node label (Text text) children siblings) = top_levels_among-plain around path (position + 1) siblings
top_levels_among-plain around path position (Node label (Comment text) children siblings) = top_levels_among-plain around path (position + 1) siblings
top_levels_among-plain around path position (Node label (Instruction target text) children siblings) = top_levels_among-plain around path (position + 1) siblings
top_levels_among-plain around path position (Node label (Element name attributes) children siblings) =
    let inner = around_of around name attributes in
    let here = path ++ position ∷ [] in
    λ j. elim (role_of inner.inside name) [
      | OfXslt None ↦ top_levels_among-plain around path (position + 1) siblings j
      | OfXslt (Some x) ↦
          reading_on (standing_at here (attributes_of inner.inside.scope x attributes))
          (λ v. reading_on (children_among-plain inner (content_of x) here 1 children j)
          (λ below. reading_on (top_levels_among-plain around path (position + 1) siblings j)
          (λ rest. Done (Ok (top_level_by (site_of inner here) (uses_of x v) below.outline (declaration_of x (site_of inner here) v below.children) ++ rest)))))
      | OfExtension ↦ top_levels_among-plain around path (position + 1) siblings j
      | OfOther uri ↦ top_levels_among-plain around path (position + 1) siblings j
    ]

simplified_of-plain : {L : Type 0} (name : List ℕ) (position : ℕ) (f : Forest L) → simplified_of name position (plain f) ≡ simplified_of name position f
simplified_of-plain name position f =
    λ j. reading_on (children_among-plain (at_top name) content.Body [] position f j) (λ below. Done (Ok (simplified (site_of (at_top name) (position ∷ [])) below)))

pub module_of-plain : {L : Type 0} (name : List ℕ) (position : ℕ) (f : Forest L) → module_of name position (plain f) ≡ module_of name position f
module_of-plain name position Empty = refl
module_of-plain name position (Node label (Text text) children siblings) = module_of-plain name (position + 1) siblings
module_of-plain name position (Node label (Comment text) children siblings) = module_of-plain name (position + 1) siblings
module_of-plain name position (Node label (Instruction target text) children siblings) = module_of-plain name (position + 1) siblings
module_of-plain name position (Node label (Element element attributes) children siblings) =
    let inner = inside_of outside element attributes in
    let around = in_stylesheet name inner attributes in
    λ j. elim (role_of inner element) [
      | OfXslt None ↦ Done (Ok [])
      | OfXslt (Some x) ↦
          reading_on (standing_at (position ∷ []) (attributes_of around.inside.scope x attributes)) (λ v. top_levels_among-plain around (position ∷ []) 1 children j)
      | OfExtension ↦ simplified_of-plain name position (Node label (Element element attributes) children Empty) j
      | OfOther uri ↦ simplified_of-plain name position (Node label (Element element attributes) children Empty) j
    ]
