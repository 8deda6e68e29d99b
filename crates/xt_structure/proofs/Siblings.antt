-- The walk: the first of siblings, and then the others.
use Rattle.std.proofs.Common.{◌≡◌, ℕ, ◌+◌, ◌<◌, List, [], ◌∷◌, ◌++◌, length, get_or, drop, Option, None, Some, Result, Ok, Err, refl, sym, ap, ◌∙◌}
use Rattle.std.proofs.lemmas.List.{at_drop_more}
use Rattle.std.specs.declared.rc.Rc.{Rc}
use Rattle.std.specs.declared.alloc.Global.{Global}
use Rattle.spec_document.specs.Forest as spec
use Rattle.spec_expression.specs.declared.code.StaticCode.{StaticCode}
use Rattle.spec_structure.specs.declared.content.ContentKind.{ContentKind}
use Rattle.spec_structure.specs.Inside.{Inside, inside_of, role_of}
use Rattle.spec_structure.specs.Structure.{Fault, after_role, after_text, content_by, element_code, fault_among, fault_at, or_else, text_fault}
use Rattle.xt_structure.specs.Visit.{after, verdict_by, visited, visited_by}
use Rattle.xt_tree.specs.View.{forest_of, tree_of}
use Rattle.xt_tree.specs.declared.node.Node.{Node}

-- after what was said of the first
abbrev pub then_rest : {L : Type 0} → Inside → List ℕ → ℕ → spec.Forest L → Result ContentKind Fault → Option Fault
then_rest inside path position siblings (Ok kind) = fault_among inside kind path (position + 1) siblings
then_rest inside path position siblings (Err fault) = Some fault

text_step : {L : Type 0} (inside : Inside) (path : List ℕ) (position : ℕ) (siblings : spec.Forest L) (later : ContentKind) (o : Option Fault)
    → or_else o (fault_among inside later path (position + 1) siblings) ≡ then_rest inside path position siblings (after later o)
text_step inside path position siblings later None = refl
text_step inside path position siblings later (Some fault) = refl

element_step : {L : Type 0} (inside inner : Inside) (path here : List ℕ) (position : ℕ) (children siblings : spec.Forest L) (later : ContentKind) (code : Option StaticCode) (below : Option ContentKind)
    → or_else (or_else (fault_at here code) (elim below [ None ↦ None | Some kind ↦ fault_among inner kind here 1 children ])) (fault_among inside later path (position + 1) siblings)
    ≡ then_rest inside path position siblings (visited_by inner here (verdict_by code below) later children)
element_step inside inner path here position children siblings later (Some code) below = refl
element_step inside inner path here position children siblings later None None = refl
element_step inside inner path here position children siblings later None (Some kind) = text_step inside path position siblings later (fault_among inner kind here 1 children)

pub first_and_rest : {L : Type 0} (inside : Inside) (kind : ContentKind) (path : List ℕ) (position : ℕ) (label : L) (content : spec.Content) (children siblings : spec.Forest L)
    → fault_among inside kind path position (spec.Node label content children siblings)
    ≡ then_rest inside path position siblings (visited inside kind path position content children)
first_and_rest inside kind path position label (spec.Text text) children siblings =
    text_step inside path position siblings (after_text kind text) (text_fault kind (path ++ position ∷ []) text)
first_and_rest inside kind path position label (spec.Comment text) children siblings = refl
first_and_rest inside kind path position label (spec.Instruction target text) children siblings = refl
first_and_rest inside kind path position label (spec.Element name attributes) children siblings =
    let inner = inside_of inside name attributes in
    let role = role_of inner name in
    element_step inside inner path (path ++ position ∷ []) position children siblings (after_role kind role) (element_code inner kind role attributes children) (content_by kind role)

-- a turn of the loop: what was said of this node, and what is left
pub turn : (inside : Inside) (kind : ContentKind) (path : List ℕ) (nodes : List (Rc Node Global)) (i : ℕ) (node : Rc Node Global) (v : Result ContentKind Fault) (all : Option Fault)
    → i < length nodes → node ≡ get_or nodes i node
    → v ≡ visited inside kind path (i + 1) (tree_of node.value).content (tree_of node.value).children
    → fault_among inside kind path (i + 1) (forest_of (drop i nodes)) ≡ all
    → then_rest inside path (i + 1) (forest_of (drop (i + 1) nodes)) v ≡ all
turn inside kind path nodes i node v all h is said so_far =
    ap (then_rest inside path (i + 1) (forest_of (drop (i + 1) nodes))) said
    ∙ sym (first_and_rest inside kind path (i + 1) (tree_of node.value).number (tree_of node.value).content (tree_of node.value).children (forest_of (drop (i + 1) nodes)))
    ∙ ap (λ n. fault_among inside kind path (i + 1) (forest_of (n ∷ drop (i + 1) nodes))) is
    ∙ sym (at_drop_more (λ rest. fault_among inside kind path (i + 1) (forest_of rest)) nodes i node h)
    ∙ so_far
