-- The lines of a forest, level by level.
use Rattle.std.proofs.Common.{◌≡◌, ℕ, List, [], ◌∷◌, ◌++◌, map, refl, sym, ap, ◌∙◌, append_assoc}
use Rattle.std.proofs.lemmas.List.{map-append}
use Rattle.spec_document.specs.declared.event.Event.TheVariants as event
use Rattle.spec_document.specs.Forest as spec
use Rattle.spec_document.specs.Forest.{attribute_event, written, lines_of}
use Rattle.spec_document.specs.Pyx.{Line, line_of}
use Rattle.xt_tree.specs.declared.node.Content.{Content}
use Rattle.xt_tree.specs.declared.node.Content.TheVariants.{Element, Text, Comment, Instruction}
use Rattle.xt_tree.specs.View.{content_of}
use Rattle.xt_build.specs.Leaf.{leaf_events}

element_lines : (label : ℕ) (name : List ℕ) (attributes : List spec.Written) (children siblings : spec.Forest ℕ)
    → lines_of (spec.Node label (spec.Element name attributes) children siblings)
    ≡ (line_of (event.Start name) ∷ map line_of (map attribute_event attributes))
    ++ (lines_of children ++ line_of (event.End name) ∷ lines_of siblings)
element_lines label name attributes children siblings =
    ap (λ ls. line_of (event.Start name) ∷ ls)
    (map-append line_of (map attribute_event attributes ++ written children) (event.End name ∷ written siblings)
    ∙ ap (λ ls. ls ++ line_of (event.End name) ∷ lines_of siblings) (map-append line_of (map attribute_event attributes) (written children))
    ∙ append_assoc (map line_of (map attribute_event attributes)) (lines_of children) (line_of (event.End name) ∷ lines_of siblings))

-- an element: its start with its attributes, what is below it, and its end
pub element_step : (before start inside after : List Line) (label : ℕ) (name : List ℕ) (attributes : List spec.Written)
    (children siblings : spec.Forest ℕ)
    → start ≡ before ++ line_of (event.Start name) ∷ map line_of (map attribute_event attributes) → inside ≡ start ++ lines_of children
    → after ≡ inside ++ line_of (event.End name) ∷ []
    → after ++ lines_of siblings ≡ before ++ lines_of (spec.Node label (spec.Element name attributes) children siblings)
element_step before start inside after label name attributes children siblings s i a =
    let front = line_of (event.Start name) ∷ map line_of (map attribute_event attributes) in
    let end = line_of (event.End name) in
    ap (λ ls. ls ++ lines_of siblings) (a ∙ ap (λ ls. ls ++ end ∷ []) (i ∙ ap (λ ls. ls ++ lines_of children) s))
    ∙ append_assoc ((before ++ front) ++ lines_of children) (end ∷ []) (lines_of siblings)
    ∙ append_assoc (before ++ front) (lines_of children) (end ∷ lines_of siblings)
    ∙ append_assoc before front (lines_of children ++ end ∷ lines_of siblings)
    ∙ ap (λ ls. before ++ ls) (sym (element_lines label name attributes children siblings))

-- whether nothing may be below
abbrev pub IsLeaf : Content → Type 0
IsLeaf (Element name attributes) = ⊥
IsLeaf (Text text) = Unit {0}
IsLeaf (Comment text) = Unit {0}
IsLeaf (Instruction target text) = Unit {0}

leaf_lines : (label : ℕ) (content : Content) (children siblings : spec.Forest ℕ) → IsLeaf content
    → lines_of (spec.Node label (content_of content) children siblings) ≡ map line_of (leaf_events (content_of content)) ++ lines_of siblings
leaf_lines label (Element name attributes) children siblings h = absurd h
leaf_lines label (Text text) children siblings h = refl
leaf_lines label (Comment text) children siblings h = refl
leaf_lines label (Instruction target text) children siblings h = refl

-- another node: its one line
pub leaf_step : (before after : List Line) (label : ℕ) (content : Content) (children siblings : spec.Forest ℕ) → IsLeaf content
    → after ≡ before ++ map line_of (leaf_events (content_of content))
    → after ++ lines_of siblings ≡ before ++ lines_of (spec.Node label (content_of content) children siblings)
leaf_step before after label content children siblings h a =
    ap (λ ls. ls ++ lines_of siblings) a ∙ append_assoc before (map line_of (leaf_events (content_of content))) (lines_of siblings)
    ∙ ap (λ ls. before ++ ls) (sym (leaf_lines label content children siblings h))
