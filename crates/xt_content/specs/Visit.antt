-- What one node among siblings is, and what may stand after it.
use Rattle.std.specs.Prelude.{ℕ, Bool, false, ◌&&◌, not, List, [], ◌∷◌, ◌++◌, Option, None, Some, Result, Ok, if◌then◌else◌}
use Rattle.spec_document.specs.Forest as spec
use Rattle.spec_document.specs.Forest.{Written, Forest}
use Rattle.spec_document.specs.Name.{Expanded}
use Rattle.spec_stylesheet.specs.Place.{Site}
use Rattle.spec_stylesheet.specs.Instruction as made
use Rattle.spec_stylesheet.specs.Instruction.{LiteralTag}
use Rattle.spec_structure.specs.declared.element.XsltElement.{XsltElement}
use Rattle.spec_structure.specs.declared.content.ContentKind.{ContentKind}
use Rattle.spec_structure.specs.declared.content.ContentKind.TheVariants as content
use Rattle.spec_structure.specs.Elements.{content_of, after_other, takes_literals}
use Rattle.spec_structure.specs.Inside.{Inside, Role, OfXslt, OfExtension, OfOther, inside_of, role_of, is_white}
use Rattle.spec_structure.specs.Structure.{Fault, after_role, is_left}
use Rattle.spec_compile.specs.Reading.{Reading, Done, reading_on}
use Rattle.spec_compile.specs.Value.{Entry, attributes_of, xslt_attributes_of}
use Rattle.spec_compile.specs.Content.{Around, AnInstruction, Below, Child, Outline, Nothing, AnElement, around_of, bound_by, child_of, children_among, extension_rows, instruction_by, is_leading_role, leads, nothing_below, site_of, standing_at, tag_of, tag_uses, text_among, text_child, Uses, uses_of, with}

-- one outline, and another after it
abbrev pub followed : Outline → Outline → Outline
followed Nothing others = others
followed (AnElement site uses binds children siblings) others = AnElement site uses binds children (followed siblings others)

abbrev pub before : Below → Below → Below
before first rest = record { children = first.children ++ rest.children; outline = followed first.outline rest.outline }

-- what an element is by its name, with what its attributes say
pub data Met : Type 0 where
  -- it says nothing, and nothing in it
  Skipped : Met
  OfLanguage : XsltElement → List Entry → Met
  ALiteral : LiteralTag → Met

abbrev pub met_language : Around → List ℕ → XsltElement → List Written → Reading (Result Met Fault)
met_language inner here x attributes = reading_on (standing_at here (attributes_of inner.inside.scope x attributes)) (λ v. Done (Ok (OfLanguage x v)))

abbrev pub met_extension : Around → List ℕ → List Written → Reading (Result Met Fault)
met_extension inner here attributes = reading_on (standing_at here (xslt_attributes_of inner.inside.scope extension_rows attributes)) (λ v. Done (Ok Skipped))

abbrev pub met_other : Around → List ℕ → List ℕ → List Written → Reading (Result Met Fault)
met_other inner here name attributes = reading_on (standing_at here (tag_of inner name attributes)) (λ tag. Done (Ok (ALiteral tag)))

abbrev pub met_by : Around → List ℕ → List ℕ → List Written → Role → Reading (Result Met Fault)
met_by inner here name attributes (OfXslt None) = Done (Ok Skipped)
met_by inner here name attributes (OfXslt (Some x)) = met_language inner here x attributes
met_by inner here name attributes OfExtension = met_extension inner here attributes
met_by inner here name attributes (OfOther uri) = met_other inner here name attributes

-- what may stand in it, unless it is skipped
abbrev pub content_by : Met → Option ContentKind
content_by Skipped = None
content_by (OfLanguage x v) = Some (content_of x)
content_by (ALiteral tag) = Some content.Body

-- what it is, with its texts and what is below it
abbrev pub one_of : List Child → Site → Uses → Option Expanded → Outline → Below
one_of child site uses binds outline = record { children = child; outline = AnElement site uses binds outline Nothing }

abbrev pub element_by : Around → List ℕ → Met → List ℕ → Below → Below
element_by inner here Skipped text below = nothing_below
element_by inner here (OfLanguage x v) text below =
    one_of (child_of x (site_of inner here) v text below.children) (site_of inner here) (uses_of x v) (bound_by x v) below.outline
element_by inner here (ALiteral tag) text below =
    one_of (instruction_by (site_of inner here) (Some (with (made.Literal tag) below.children))) (site_of inner here) (tag_uses tag) None below.outline

abbrev pub held_by : {L : Type 0} → Around → List ℕ → Met → Forest L → Option ContentKind → Reading (Result Below Fault)
held_by inner here met children None = Done (Ok nothing_below)
held_by inner here met children (Some kind) =
    reading_on (children_among inner kind here 1 children) (λ below. Done (Ok (element_by inner here met (text_among children) below)))

abbrev pub held : {L : Type 0} → Around → List ℕ → Met → Forest L → Reading (Result Below Fault)
held inner here met children = held_by inner here met children (content_by met)

-- what a node is, and what may stand after it
pub record Visited : Type 0 where
  pub below : Below
  pub next : ContentKind

abbrev pub element_visited : {L : Type 0} → Around → ContentKind → List ℕ → List ℕ → List Written → Forest L → Role → Reading (Result Visited Fault)
element_visited inner kind here name attributes children role =
    reading_on (met_by inner here name attributes role)
    (λ met. reading_on (held inner here met children) (λ below. Done (Ok (record { below = below; next = after_role kind role }))))

abbrev pub after_text : ContentKind → List ℕ → ContentKind
after_text kind text = if is_white text then kind else after_other kind

-- whether a text before these siblings is an instruction, and which
abbrev pub is_content : {L : Type 0} → Inside → ContentKind → List ℕ → Forest L → Bool
is_content i kind text later = takes_literals kind && is_left i.preserves (spec.Text text) && not (is_white text && leads i kind later)

abbrev pub text_instruction : Around → List ℕ → List ℕ → Child
text_instruction around path text = AnInstruction (record { site = site_of around path; form = made.without_content (made.Text text) })

abbrev pub text_visited : {L : Type 0} → Around → ContentKind → List ℕ → List ℕ → Forest L → Visited
text_visited around kind path text later =
    record { below = record { children = text_child around kind path text later; outline = Nothing }; next = after_text kind text }

abbrev pub nothing_visited : ContentKind → Visited
nothing_visited kind = record { below = nothing_below; next = kind }

-- what a node of this content is, by the siblings that follow it
abbrev pub visited : {L M : Type 0} → Around → ContentKind → List ℕ → ℕ → Forest M → spec.Content → Forest L → Reading (Result Visited Fault)
visited around kind path position later (spec.Text text) children = Done (Ok (text_visited around kind path text later))
visited around kind path position later (spec.Comment text) children = Done (Ok (nothing_visited kind))
visited around kind path position later (spec.Instruction target text) children = Done (Ok (nothing_visited kind))
visited around kind path position later (spec.Element name attributes) children =
    let inner = around_of around name attributes in
    element_visited inner kind (path ++ position ∷ []) name attributes children (role_of inner.inside name)

-- whether a node of this content leads, so that white space before it is ignored
abbrev pub is_leading_content : Inside → ContentKind → spec.Content → Bool
is_leading_content i kind (spec.Element name attributes) = is_leading_role kind (role_of (inside_of i name attributes) name)
is_leading_content i kind (spec.Text text) = false
is_leading_content i kind (spec.Comment text) = false
is_leading_content i kind (spec.Instruction target text) = false
