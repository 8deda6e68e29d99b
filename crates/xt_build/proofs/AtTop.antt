-- What a walk finds at the top, turn by turn.
use Rattle.std.proofs.Common.{◌≡◌, ℕ, suc, zero, ◌+◌, List, ◌++◌, Option, not, refl, sym, ap, ◌∙◌, arith}
use Rattle.std.specs.List.{list_all}
use Rattle.spec_document.specs.Character.{is_space}
use Rattle.spec_document.specs.Forest.{Written, Forest, Empty, Node, Element, Text}
use Rattle.spec_document.specs.Fault.{Fault, fault_if, least}
use Rattle.spec_document.specs.Balance.{LineNumbers}
use Rattle.spec_document.specs.Top.{elements_at_top, text_faults}
use Rattle.xt_tree.specs.View.{content_of}
use Rattle.xt_tree.specs.declared.node.Content.{Content as Held}
use Rattle.xt_tree.specs.declared.node.Content.TheVariants as held
use Rattle.xt_build.specs.declared.piece.Piece.{Piece as Code}
use Rattle.xt_build.specs.Least.{merged}
use Rattle.xt_build.proofs.Least.{merged-assoc, least-append}
use Rattle.xt_build.proofs.Levels.{at_level, left, Opens, Stands, IsNoElement}

no-element-line : (l : LineNumbers) (content : Held) (f g : Forest LineNumbers) → IsNoElement content
    → elements_at_top (Node l (content_of content) f g) ≡ elements_at_top g
no-element-line l (held.Element name attributes) f g other = absurd (other name attributes refl)
no-element-line l (held.Text text) f g other = refl
no-element-line l (held.Comment text) f g other = refl
no-element-line l (held.Instruction target text) f g other = refl

-- a node that is no element adds no line
pub elements-Stands : (ps : List Code) (n level : ℕ) (l : LineNumbers) (content : Held) → IsNoElement content
    → Stands ps n level l (content_of content)
    → elements_at_top (at_level level (left ps n)) ≡ elements_at_top (at_level level (left ps (n + 1)))
elements-Stands ps n zero l content other s = ap elements_at_top s.top ∙ no-element-line l content Empty (at_level 0 (left ps (n + 1))) other
elements-Stands ps n (suc k) l content other s = ap elements_at_top (s.below (omega arith))

-- faults that are found in two parts
pub both-found : (found : Option Fault) (xs ys : List Fault) → merged (merged found (least xs)) (least ys) ≡ merged found (least (xs ++ ys))
both-found found xs ys = merged-assoc found (least xs) (least ys) ∙ ap (merged found) (sym (least-append xs ys))

-- a text at the top is found, where it is not white space
pub texts-Stands : (ps : List Code) (n : ℕ) (l : LineNumbers) (t : List ℕ) (found : Option Fault) → Stands ps n 0 l (Text t)
    → merged (merged found (least (fault_if (not (list_all is_space t)) 9 l.first))) (least (text_faults (at_level 0 (left ps (n + 1)))))
    ≡ merged found (least (text_faults (at_level 0 (left ps n))))
texts-Stands ps n l t found s =
    both-found found (fault_if (not (list_all is_space t)) 9 l.first) (text_faults (at_level 0 (left ps (n + 1))))
    ∙ sym (ap (λ f. merged found (least (text_faults f))) s.top)

-- an element has no fault as a text
pub texts-Opens : (ps : List Code) (n level : ℕ) (l : LineNumbers) (name : List ℕ) (attributes : List Written)
    → Opens ps n level l (Element name attributes)
    → text_faults (at_level level (left ps n)) ≡ text_faults (at_level (level + 1) (left ps (n + 1)))
texts-Opens ps n zero l name attributes o = ap text_faults o.top
texts-Opens ps n (suc k) l name attributes o = ap text_faults (o.below (omega arith))

abbrev pub IsNoText : Held → Type 0
IsNoText content = (text : List ℕ) → content ≡ held.Text text → ⊥

no-text : (l : LineNumbers) (content : Held) (f g : Forest LineNumbers) → IsNoText content
    → text_faults (Node l (content_of content) f g) ≡ text_faults g
no-text l (held.Element name attributes) f g other = refl
no-text l (held.Text text) f g other = absurd (other text refl)
no-text l (held.Comment text) f g other = refl
no-text l (held.Instruction target text) f g other = refl

-- nor has any other node
pub others-Stands : (ps : List Code) (n level : ℕ) (l : LineNumbers) (content : Held) → IsNoText content → Stands ps n level l (content_of content)
    → text_faults (at_level level (left ps n)) ≡ text_faults (at_level level (left ps (n + 1)))
others-Stands ps n zero l content other s = ap text_faults s.top ∙ no-text l content Empty (at_level 0 (left ps (n + 1))) other
others-Stands ps n (suc k) l content other s = ap text_faults (s.below (omega arith))
