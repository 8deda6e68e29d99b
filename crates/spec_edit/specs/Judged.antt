-- Edits that give a node another content, and the faults of the whole document with it.
use Rattle.std.specs.Prelude.{ℕ, ◌-◌, Bool, true, false, List, [], ◌++◌, map, Option, None, Some, if◌then◌else◌}
use Rattle.std.specs.List.{list_all, list_any}
use Rattle.spec_document.specs.Character.{is_char}
use Rattle.spec_document.specs.Scope.{root_scope}
use Rattle.spec_document.specs.Forest.{Content, Element, Text, Comment, Instruction, Forest, Document, labels}
use Rattle.spec_document.specs.Place.{Found}
use Rattle.spec_document.specs.Fault.{Fault}
use Rattle.spec_document.specs.NodeFaults.{node_faults}
use Rattle.spec_document.specs.Numbering.{number_faults}
use Rattle.spec_document.specs.declared.parent.Parent.{Parent}
use Rattle.spec_document.specs.Balance.{LineNumbers}
use Rattle.spec_document.specs.Top.{top_faults, kept}
use Rattle.spec_document.specs.Document.{elements_beside}
use Rattle.spec_edit.specs.Splice.{Spot, children_changed, inserted}
use Rattle.spec_edit.specs.Edit.{Edit, Insert, Delete, SetText, SetAttribute, RemoveAttribute, Rename, without_lines, tree_with, with_content}
use Rattle.spec_edit.specs.Edit.{is_named, with_attribute, without_attribute, makes_anew}

abbrev pub path_of : Edit → List ℕ
path_of (Insert path body) = path
path_of (Delete path) = path
path_of (SetText path value) = path
path_of (SetAttribute path name value) = path
path_of (RemoveAttribute path name) = path
path_of (Rename path name) = path

abbrev attribute_given : (name value : List ℕ) → Content → Option Content
attribute_given name value (Element own attributes) = if list_all is_char value then Some (Element own (with_attribute name value attributes)) else None
attribute_given name value (Text text) = None
attribute_given name value (Comment text) = None
attribute_given name value (Instruction target text) = None

abbrev attribute_taken : List ℕ → Content → Option Content
attribute_taken name (Element own attributes) = if list_any (is_named name) attributes then Some (Element own (without_attribute name attributes)) else None
attribute_taken name (Text text) = None
attribute_taken name (Comment text) = None
attribute_taken name (Instruction target text) = None

abbrev name_given : List ℕ → Content → Option Content
name_given name (Element own attributes) = Some (Element name attributes)
name_given name (Text text) = None
name_given name (Comment text) = None
name_given name (Instruction target text) = Some (Instruction name text)

-- the content that a node of this content has by an edit of attributes or names, if it may have any
abbrev pub content_by : Edit → Content → Option Content
content_by (Insert path body) content = None
content_by (Delete path) content = None
content_by (SetText path value) content = None
content_by (SetAttribute path name value) content = attribute_given name value content
content_by (RemoveAttribute path name) content = attribute_taken name content
content_by (Rename path name) content = name_given name content

-- whether the edit makes the node anew
abbrev pub renews : Edit → Bool
renews (Insert path body) = false
renews (Delete path) = false
renews (SetText path value) = false
renews (SetAttribute path name value) = makes_anew name
renews (RemoveAttribute path name) = makes_anew name
renews (Rename path name) = true

-- the faults of all nodes of the document with this content there, and of the numbers that are given
abbrev pub faults_with : {L : Type 0} → ℕ → Edit → Spot → Document L → Found L → Content → List Fault
faults_with first edit spot document node content =
    node_faults root_scope 1 (without_lines (with_content spot document content).nodes)
    ++ (if renews edit then number_faults first (map (λ l. l.first) (labels (without_lines (tree_with content node)))) else [])

-- the same where a body's siblings are put in, which stand at their lines, and what is there before at none
abbrev pub faults_inserting : {L : Type 0} → ℕ → Spot → Parent → Forest LineNumbers → Document L → List Fault
faults_inserting first spot parent siblings document =
    let others = elements_beside parent in
    top_faults others siblings
    ++ node_faults root_scope 1 (children_changed (inserted (spot.position - 1) (kept others siblings)) spot.above (without_lines document.nodes))
    ++ number_faults first (map (λ l. l.first) (labels (kept others siblings)))
