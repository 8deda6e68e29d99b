-- The numbers of faults of documents: none is that of want of memory.
use Rattle.std.proofs.Common.{ℕ, ◌+◌, ◌-◌, ◌<◌, Bool, true, false, List, [], ◌∷◌, ◌++◌, Option, None, Some, lit<}
use Rattle.std.specs.Prelude.{map, drop, length, not, ◌==◌, Result, Ok, Err, slice_index, if◌then◌else◌}
use Rattle.std.specs.List.{list_all, list_any, enumerate_from}
use Rattle.std.specs.Str.{is_utf8}
use Rattle.spec_document.specs.Character.{is_space}
use Rattle.spec_document.specs.Scope.{Scope}
use Rattle.spec_document.specs.Pyx.{Line}
use Rattle.spec_document.specs.Forest.{Written, Content, Element, Text, Comment, Instruction, Forest, Empty, Node, labels}
use Rattle.spec_document.specs.Declaration.{use_of, within}
use Rattle.spec_document.specs.Fault.{Fault, lesser, comes_first, least, answer_of, fault_if}
use Rattle.spec_document.specs.Body.{not_utf8, no_event, is_bad, texts_of, events_at, line_faults}
use Rattle.spec_document.specs.Balance.{LineNumbers, forest_of, unbalanced_line}
use Rattle.spec_document.specs.Top.{elements_at_top, element_faults, text_faults, top_faults, without_texts, kept}
use Rattle.spec_document.specs.NodeFaults.{is_wrong_use, is_wrong_element, is_wrong_target, is_same_attribute, attribute_faults, content_faults, node_faults}
use Rattle.spec_document.specs.Numbering.{number_limit}
use Rattle.spec_document.specs.Document.{document_by, document_of, nodes_by, nodes_of, made_of, elements_beside, depth_of}
use Rattle.spec_document.specs.declared.parent.Parent.{Parent}

-- the numbers of all of them, the number of the one, where there is one, are above 1
abbrev pub Above : List Fault → Type 0
Above [] = Unit {0}
Above (fault ∷ faults) = (1 < fault.number) × Above faults

abbrev IsAbove : Option Fault → Type 0
IsAbove None = Unit {0}
IsAbove (Some fault) = 1 < fault.number

abbrev pub FaultIsAbove : {A : Type 0} → Result A Fault → Type 0
FaultIsAbove (Ok x) = Unit {0}
FaultIsAbove (Err fault) = 1 < fault.number

pub both : (xs ys : List Fault) → Above xs → Above ys → Above (xs ++ ys)
both [] ys a b = b
both (x ∷ xs) ys a b = (a.0, both xs ys a.1 b)

pub one_if : (b : Bool) (number line : ℕ) → 1 < number → Above (fault_if b number line)
one_if true number line h = (h, tt)
one_if false number line h = tt

chosen : (b : Bool) (x y : Fault) → 1 < x.number → 1 < y.number → 1 < (if b then x else y).number
chosen true x y h k = h
chosen false x y h k = k

lesser-above : (x : Fault) (o : Option Fault) → 1 < x.number → IsAbove o → 1 < (lesser x o).number
lesser-above x None h k = h
lesser-above x (Some other) h k = chosen (comes_first other x) other x k h

least-above : (faults : List Fault) → Above faults → IsAbove (least faults)
least-above [] a = tt
least-above (x ∷ xs) a = lesser-above x (least xs) a.0 (least-above xs a.1)

pub answer-above : {A : Type 0} (faults : List Fault) (otherwise : Result A Fault) → Above faults → FaultIsAbove otherwise
    → FaultIsAbove (answer_of faults otherwise)
answer-above {A} faults otherwise a h = go (least faults) (least-above faults a)
  where
    go : (o : Option Fault) → IsAbove o → FaultIsAbove {A = A} (elim o [ None ↦ otherwise | Some fault ↦ Err fault ])
    go None k = h
    go (Some fault) k = k

pub not_utf8-above : (lines : List (ℕ × List ℕ)) → Above (not_utf8 lines)
not_utf8-above [] = tt
not_utf8-above (l ∷ ls) = both _ _ (one_if (not (is_utf8 l.1)) 2 l.0 (lit< tt)) (not_utf8-above ls)

no_event-above : (lines : List (ℕ × Line)) → Above (no_event lines)
no_event-above [] = tt
no_event-above (l ∷ ls) = both _ _ (one_if (is_bad l.1) 8 l.0 (lit< tt)) (no_event-above ls)

text-above : (f : Forest LineNumbers) → Above (text_faults f)
text-above Empty = tt
text-above (Node l (Text text) c s) = both _ _ (one_if (not (list_all is_space text)) 9 l.first (lit< tt)) (text-above s)
text-above (Node l (Element name attributes) c s) = text-above s
text-above (Node l (Comment text) c s) = text-above s
text-above (Node l (Instruction target text) c s) = text-above s

element-above : (others : ℕ) (lines : List ℕ) → Above (element_faults others lines)
element-above others lines = one_if (not (others + length lines == 1)) 9 (slice_index (drop (1 - others) lines) 0) (lit< tt)

attribute-above : (scope : Scope) (before : List Written) (lines : List ℕ) (more : List Written) → Above (attribute_faults scope before lines more)
attribute-above scope before lines [] = tt
attribute-above scope before lines (a ∷ more) =
    both _ _ (both _ _ (one_if (is_wrong_use scope (use_of a.name) a.value) 10 (slice_index lines 0) (lit< tt))
    (one_if (list_any (λ b. is_same_attribute scope b a) before) 14 (slice_index lines 0) (lit< tt)))
    (attribute-above scope (before ++ a ∷ []) (drop 1 lines) more)

pub content-above : (scope : Scope) (depth : ℕ) (lines : LineNumbers) (c : Content) → Above (content_faults scope depth lines c)
content-above scope depth lines (Element name more) =
    both _ _ (both _ _ (one_if (is_wrong_element scope name) 10 lines.first (lit< tt)) (one_if _ 11 lines.first (lit< tt)))
    (attribute-above scope [] lines.attributes more)
content-above scope depth lines (Text text) = tt
content-above scope depth lines (Comment text) = tt
content-above scope depth lines (Instruction target text) = one_if (is_wrong_target target) 10 lines.first (lit< tt)

pub node-above : (scope : Scope) (depth : ℕ) (f : Forest LineNumbers) → Above (node_faults scope depth f)
node-above scope depth Empty = tt
node-above scope depth (Node lines c below after) =
    both _ _ (both _ _ (content-above (within c scope) depth lines c) (node-above (within c scope) (depth + 1) below)) (node-above scope depth after)

pub number-above : (lines : List ℕ) → Above (map (λ line. record { number = 12; line = line }) lines)
number-above [] = tt
number-above (l ∷ ls) = (lit< tt, number-above ls)

document-above : (scope : Scope) (first : ℕ) (f : Forest LineNumbers) → FaultIsAbove (document_by scope first f)
document-above scope first f =
    answer-above _ _ (both _ _ (both _ _ (both _ _ (element-above 0 (elements_at_top f)) (text-above f)) (node-above scope 1 f))
    (number-above (drop (number_limit - first) (0 ∷ map (λ l. l.first) (labels (without_texts f)))))) tt

pub top-above : (others : Option ℕ) (f : Forest LineNumbers) → Above (top_faults others f)
top-above None f = tt
top-above (Some others) f = both _ _ (element-above others (elements_at_top f)) (text-above f)

siblings-above : (scope : Scope) (first : ℕ) (parent : Parent) (f : Forest LineNumbers) → FaultIsAbove (nodes_by scope first parent f)
siblings-above scope first parent f =
    answer-above _ _ (both _ _ (both _ _ (top-above (elements_beside parent) f) (node-above scope (depth_of parent + 1) f))
    (number-above (drop (number_limit - first) (map (λ l. l.first) (labels (kept (elements_beside parent) f)))))) tt

-- what the lines of a body are made into has such faults alone, where it has of each forest
made-above : {A : Type 0} (make : Forest LineNumbers → Result A Fault) (body : List (List ℕ)) → ((f : Forest LineNumbers) → FaultIsAbove (make f))
    → FaultIsAbove (answer_of (line_faults body) (made_of make (events_at body)))
made-above {A} make body each =
    answer-above _ _ (both _ _ (not_utf8-above (enumerate_from 1 body)) (no_event-above (texts_of body))) (made (forest_of (events_at body)))
  where
    made : (o : Option (Forest LineNumbers)) → FaultIsAbove {A = A}
        (elim o [ None ↦ Err (record { number = 9; line = unbalanced_line None [] (events_at body) }) | Some forest ↦ make forest ])
    made None = lit< tt
    made (Some f) = each f

-- no fault of a body has the number of want of memory: of a document's, and of siblings'
pub fault-above : (scope : Scope) (first : ℕ) (body : List (List ℕ)) → FaultIsAbove (document_of scope first body)
fault-above scope first body = made-above (document_by scope first) body (document-above scope first)

pub nodes-above : (scope : Scope) (first : ℕ) (parent : Parent) (body : List (List ℕ)) → FaultIsAbove (nodes_of scope first parent body)
nodes-above scope first parent body = made-above (nodes_by scope first parent) body (siblings-above scope first parent)
