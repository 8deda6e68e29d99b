-- What is said of one node on the walk over siblings.
use Rattle.std.specs.Prelude.{ℕ, Bool, true, false, List, [], ◌∷◌, ◌++◌, Option, None, Some, Result, Ok, Err}
use Rattle.spec_document.specs.Forest as spec
use Rattle.spec_document.specs.Forest.{Written, Forest}
use Rattle.spec_expression.specs.declared.code.StaticCode.{StaticCode}
use Rattle.spec_structure.specs.declared.content.ContentKind.{ContentKind}
use Rattle.spec_structure.specs.Inside.{Inside, outside, inside_of, Role, role_of}
use Rattle.spec_structure.specs.Structure.{Fault, Link, after_role, after_text, content_by, document_fault, element_code, fault_among, link_of, links_below, no_stylesheet, text_fault}
use Rattle.xt_structure.specs.declared.walk.Verdict.{Verdict}
use Rattle.xt_structure.specs.declared.walk.Verdict.TheVariants as verdict

-- a node that has a fault, or what may stand after one that has none
abbrev pub after : ContentKind → Option Fault → Result ContentKind Fault
after kind None = Ok kind
after kind (Some fault) = Err fault

abbrev pub verdict_by : Option StaticCode → Option ContentKind → Verdict
verdict_by (Some code) below = verdict.Fault code
verdict_by None None = verdict.Skips
verdict_by None (Some below) = verdict.Holds below

abbrev pub verdict_of : {L : Type 0} → Inside → ContentKind → Role → List Written → Forest L → Verdict
verdict_of inside kind role attributes children = verdict_by (element_code inside kind role attributes children) (content_by kind role)

abbrev pub visited_by : {L : Type 0} → Inside → List ℕ → Verdict → ContentKind → Forest L → Result ContentKind Fault
visited_by inside here (verdict.Fault code) later children = Err (record { code = code; path = here })
visited_by inside here verdict.Skips later children = Ok later
visited_by inside here (verdict.Holds below) later children = after later (fault_among inside below here 1 children)

abbrev pub visited : {L : Type 0} → Inside → ContentKind → List ℕ → ℕ → spec.Content → Forest L → Result ContentKind Fault
visited inside kind path position (spec.Element name attributes) children =
    let inner = inside_of inside name attributes in
    let role = role_of inner name in
    visited_by inner (path ++ position ∷ []) (verdict_of inner kind role attributes children) (after_role kind role) children
visited inside kind path position (spec.Text text) children = after (after_text kind text) (text_fault kind (path ++ position ∷ []) text)
visited inside kind path position (spec.Comment text) children = Ok kind
visited inside kind path position (spec.Instruction target text) children = Ok kind

-- ---- Nodes at the top

abbrev pub is_element : spec.Content → Bool
is_element (spec.Element name attributes) = true
is_element (spec.Text text) = false
is_element (spec.Comment text) = false
is_element (spec.Instruction target text) = false

abbrev pub fault_by : {L : Type 0} → List ℕ → List ℕ → List Written → Forest L → Option Fault
fault_by path name attributes children =
    let inner = inside_of outside name attributes in document_fault inner path (role_of inner name) attributes children

abbrev pub fault_at_top : {L : Type 0} → List ℕ → spec.Content → Forest L → Option Fault
fault_at_top path (spec.Element name attributes) children = fault_by path name attributes children
fault_at_top path (spec.Text text) children = no_stylesheet path
fault_at_top path (spec.Comment text) children = no_stylesheet path
fault_at_top path (spec.Instruction target text) children = no_stylesheet path

abbrev pub links_by : {L : Type 0} → List ℕ → List ℕ → List Written → Forest L → List Link
links_by path name attributes children = let inner = inside_of outside name attributes in links_below inner path (role_of inner name) children

abbrev pub links_at_top : {L : Type 0} → List ℕ → spec.Content → Forest L → List Link
links_at_top path (spec.Element name attributes) children = links_by path name attributes children
links_at_top path (spec.Text text) children = []
links_at_top path (spec.Comment text) children = []
links_at_top path (spec.Instruction target text) children = []

-- the link that a node is
abbrev pub link_at : Inside → List ℕ → spec.Content → List Link
link_at inside path (spec.Element name attributes) =
    let inner = inside_of inside name attributes in link_of inner path attributes (role_of inner name)
link_at inside path (spec.Text text) = []
link_at inside path (spec.Comment text) = []
link_at inside path (spec.Instruction target text) = []
