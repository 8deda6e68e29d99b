-- What a transformation sees of its source (XSLT 1.0, section 3.4): all of it but the texts of white space that are stripped. The nearest
-- xml:space of `preserve` or `default`, at the parent of such a text or above it, decides first: `preserve` keeps it. Else it is stripped where
-- the rule that counts for the name of its parent strips; where there is no such rule, it is kept.
use Rattle.std.specs.Prelude.{ℕ, Bool, true, false, not, ◌&&◌, ◌||◌, ◌==◌, int_lt, nat_lt, List, [], ◌∷◌, Option, None, Some, bytes_eq, if◌then◌else◌}
use Rattle.std.specs.Option.{option_and_then}
use Rattle.spec_document.specs.Name.{Expanded, qname_of, same_name}
use Rattle.spec_document.specs.Scope.{Scope, root_scope}
use Rattle.spec_document.specs.Declaration.{declared_all, element_name}
use Rattle.spec_document.specs.Forest as spec
use Rattle.spec_document.specs.Forest.{Written, Element, Text, Comment, Instruction, Forest, Empty, Node, Document}
use Rattle.spec_expression.specs.Syntax as tree
use Rattle.spec_stylesheet.specs.Sheet.{SpaceRule}
use Rattle.spec_structure.specs.Inside.{value_of, space_name, space_by, is_white}

-- ---- Which rule counts for a name

-- the name tests of the rules: any name, those of a namespace, or one
abbrev pub takes_name : tree.Test → Expanded → Bool
takes_name tree.AnyName name = true
takes_name (tree.InNamespace uri) name = bytes_eq name.uri uri
takes_name (tree.Named wanted) name = same_name wanted name
takes_name (tree.OfType type) name = false
takes_name (tree.Instruction target) name = false

-- the first of two rules counts for more, by a higher import precedence, then by a higher priority of its test
abbrev pub counts_more : SpaceRule → SpaceRule → Bool
counts_more a b = nat_lt b.precedence a.precedence || (a.precedence == b.precedence && int_lt b.priority a.priority)

abbrev pub greater : Option SpaceRule → SpaceRule → SpaceRule
greater None later = later
greater (Some earlier) later = if counts_more earlier later then earlier else later

-- of the rules in the order of the stylesheet that take the name, the greatest, and of equal ones the last, after the greatest before them
abbrev pub rule_for : Expanded → Option SpaceRule → List SpaceRule → Option SpaceRule
rule_for name found [] = found
rule_for name found (rule ∷ rules) = rule_for name (if takes_name rule.test name then Some (greater found rule) else found) rules

abbrev pub strips_by : Option SpaceRule → Bool
strips_by None = false
strips_by (Some rule) = rule.strips

-- whether elements of a name lose their texts of white space
abbrev pub strips : List SpaceRule → Option Expanded → Bool
strips rules None = false
strips rules (Some name) = strips_by (rule_for name None rules)

-- ---- What is seen

-- where siblings stand: the namespaces in scope, whether xml:space preserves white space, and whether texts of white space are stripped
pub record Around : Type 0 where
  pub scope : Scope
  pub preserves : Bool
  pub strips : Bool

-- at the root, below which no text stands
abbrev pub at_root : Around
at_root = record { scope = root_scope; preserves = false; strips = false }

abbrev pub around_by : List SpaceRule → Scope → (preserves : Bool) → List ℕ → Around
around_by rules scope preserves name =
    record { scope = scope; preserves = preserves; strips = not preserves && strips rules (option_and_then (element_name scope) (qname_of name)) }

-- below an element of this name with these attributes
abbrev pub around_in : List SpaceRule → Around → List ℕ → List Written → Around
around_in rules around name attributes =
    let scope = declared_all attributes around.scope in
    around_by rules scope (space_by around.preserves (value_of scope space_name attributes)) name

abbrev pub seen_among : {L : Type 0} → List SpaceRule → Around → Forest L → Forest L
seen_among rules around Empty = Empty
seen_among rules around (Node label (Text text) children siblings) =
    let rest = seen_among rules around siblings in if around.strips && is_white text then rest else Node label (Text text) children rest
seen_among rules around (Node label (Element name attributes) children siblings) =
    Node label (Element name attributes) (seen_among rules (around_in rules around name attributes) children) (seen_among rules around siblings)
seen_among rules around (Node label (Comment text) children siblings) = Node label (Comment text) children (seen_among rules around siblings)
seen_among rules around (Node label (Instruction target text) children siblings) =
    Node label (Instruction target text) children (seen_among rules around siblings)

abbrev pub seen : {L : Type 0} → List SpaceRule → Document L → Document L
seen rules document = record { root = document.root; nodes = seen_among rules at_root document.nodes }

-- ---- What that leaves of a document

-- the second is the first without some texts: all else has its label, its content and its order
pub data LosesTexts {L : Type 0} : Forest L → Forest L → Type 0 where
  at_end : LosesTexts Empty Empty
  loses : {label : L} {text : List ℕ} {children siblings rest : Forest L} → LosesTexts siblings rest
      → LosesTexts (Node label (Text text) children siblings) rest
  keeps : {label : L} {content : spec.Content} {children siblings below rest : Forest L} → LosesTexts children below → LosesTexts siblings rest
      → LosesTexts (Node label content children siblings) (Node label content below rest)
