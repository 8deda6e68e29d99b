-- In a document without faults, and in what is seen of it, each element has an expanded name: its name is a QName whose prefix is declared.
use Rattle.std.proofs.Common.{◌≡◌, ℕ, ◌+◌, Bool, true, false, cond, List, [], ◌∷◌, ◌++◌, Some, refl}
use Rattle.std.specs.Prelude.{◌&&◌}
use Rattle.spec_document.specs.Scope.{Scope, root_scope}
use Rattle.spec_document.specs.Declaration.{within}
use Rattle.spec_document.specs.Forest.{Content, Element, Text, Comment, Instruction, Plain, Forest, Empty, Node}
use Rattle.spec_document.specs.Fault.{fault_if}
use Rattle.spec_document.specs.Balance.{LineNumbers}
use Rattle.spec_document.specs.NodeFaults.{is_wrong_element, content_faults, node_faults}
use Rattle.spec_edit.specs.Edit.{without_lines}
use Rattle.spec_edit.specs.Valid.{IsValid}
use Rattle.spec_stylesheet.specs.Sheet.{SpaceRule}
use Rattle.spec_structure.specs.Inside.{is_white}
use Rattle.spec_structure.specs.Modules.{Modules}
use Rattle.spec_seen.specs.Seen.{Around, around_in, seen_among}

abbrev pub HasName : Scope → Content → Type 0
HasName inside (Element name attributes) = is_wrong_element inside name ≡ false
HasName inside (Text text) = Unit {0}
HasName inside (Comment text) = Unit {0}
HasName inside (Instruction target text) = Unit {0}

-- siblings in this scope, with all below them
abbrev pub HaveNames : {L : Type 0} → Scope → Forest L → Type 0
HaveNames scope Empty = Unit {0}
HaveNames scope (Node label content children siblings) =
    HasName (within content scope) content × HaveNames (within content scope) children × HaveNames scope siblings

abbrev pub AllHaveNames : Modules → Type 0
AllHaveNames modules = (name : List ℕ) (tree : Plain) → modules name ≡ Some tree → HaveNames root_scope tree

-- ---- No fault

none_of_both : {A : Type 0} (xs ys : List A) → xs ++ ys ≡ [] → (xs ≡ []) × (ys ≡ [])
none_of_both [] ys e = (refl, e)
none_of_both (x ∷ xs) ys e = absurd (cc)

not_wrong : (b : Bool) (number line : ℕ) → fault_if b number line ≡ [] → b ≡ false
not_wrong false number line e = refl
not_wrong true number line e = absurd (cc)

content_named : (inside : Scope) (depth : ℕ) (lines : LineNumbers) (content : Content) → content_faults inside depth lines content ≡ []
    → HasName inside content
content_named inside depth lines (Element name attributes) e = not_wrong (is_wrong_element inside name) 10 lines.first (none_of_both _ _
    (none_of_both _ _ e).0).0
content_named inside depth lines (Text text) e = tt
content_named inside depth lines (Comment text) e = tt
content_named inside depth lines (Instruction target text) e = tt

named : (scope : Scope) (depth : ℕ) (f : Forest LineNumbers) → node_faults scope depth f ≡ [] → HaveNames scope f
named scope depth Empty e = tt
named scope depth (Node lines content children siblings) e =
    let inside = within content scope in
    let rest = none_of_both _ (node_faults scope depth siblings) e in
    let own = none_of_both (content_faults inside depth lines content) (node_faults inside (depth + 1) children) rest.0 in
    (content_named inside depth lines content own.0, named inside (depth + 1) children own.1, named scope depth siblings rest.1)

-- labels have no bearing on names
labelled : {L : Type 0} (scope : Scope) (f : Forest L) → HaveNames scope (without_lines f) → HaveNames scope f
labelled scope Empty h = tt
labelled scope (Node label content children siblings) h = (h.0, labelled (within content scope) children h.1, labelled scope siblings h.2)

pub valid_named : {L : Type 0} (nodes : Forest L) → IsValid nodes → HaveNames root_scope nodes
valid_named nodes h = labelled root_scope nodes (named root_scope 1 (without_lines nodes) h.unfaulted)

-- ---- What is seen of a document

seen_text : {L : Type 0} (scope : Scope) (b : Bool) (label : L) (text : List ℕ) (children rest : Forest L) → HaveNames scope children
    → HaveNames scope rest
    → HaveNames scope (cond b rest (Node label (Text text) children rest))
seen_text scope true label text children rest h g = g
seen_text scope false label text children rest h g = (tt, h, g)

pub seen_named : {L : Type 0} (rules : List SpaceRule) (around : Around) (scope : Scope) (f : Forest L) → HaveNames scope f
    → HaveNames scope (seen_among rules around f)
seen_named rules around scope Empty h = tt
seen_named rules around scope (Node label (Text text) children siblings) h =
    seen_text scope (around.strips && is_white text) label text children (seen_among rules around siblings) h.1
    (seen_named rules around scope siblings h.2)
seen_named rules around scope (Node label (Element name attributes) children siblings) h = (
  h.0,
  seen_named rules (around_in rules around name attributes) (within (Element name attributes) scope) children h.1,
  seen_named rules around scope siblings h.2,
)
seen_named rules around scope (Node label (Comment text) children siblings) h = (h.0, h.1, seen_named rules around scope siblings h.2)
seen_named rules around scope (Node label (Instruction target text) children siblings) h = (h.0, h.1, seen_named rules around scope siblings h.2)
