-- What may stand directly under a root (XML 1.0, section 2.1): one element, and no text but white space, which is dropped.
use Rattle.std.specs.Prelude.{ℕ, ◌+◌, ◌-◌, not, ◌==◌, List, [], ◌∷◌, ◌++◌, drop, length, slice_index, Option, None, Some}
use Rattle.std.specs.List.{list_all}
use Rattle.spec_document.specs.Character.{is_space}
use Rattle.spec_document.specs.Forest.{Element, Text, Comment, Instruction, Forest, Empty, Node}
use Rattle.spec_document.specs.Fault.{Fault, fault_if}
use Rattle.spec_document.specs.Balance.{LineNumbers}

abbrev pub elements_at_top : Forest LineNumbers → List ℕ
elements_at_top Empty = []
elements_at_top (Node lines (Element name attributes) children siblings) = lines.first ∷ elements_at_top siblings
elements_at_top (Node lines (Text text) children siblings) = elements_at_top siblings
elements_at_top (Node lines (Comment text) children siblings) = elements_at_top siblings
elements_at_top (Node lines (Instruction target text) children siblings) = elements_at_top siblings

-- 9: not exactly one document element. It stands at the first that is one too many; where there is none at no line
abbrev pub element_faults : ℕ → List ℕ → List Fault
element_faults others lines = fault_if (not (others + length lines == 1)) 9 (slice_index (drop (1 - others) lines) 0)

-- 9: text at the top that is not white space
abbrev pub text_faults : Forest LineNumbers → List Fault
text_faults Empty = []
text_faults (Node lines (Text text) children siblings) = fault_if (not (list_all is_space text)) 9 lines.first ++ text_faults siblings
text_faults (Node lines (Element name attributes) children siblings) = text_faults siblings
text_faults (Node lines (Comment text) children siblings) = text_faults siblings
text_faults (Node lines (Instruction target text) children siblings) = text_faults siblings

abbrev pub without_texts : {L : Type 0} → Forest L → Forest L
without_texts Empty = Empty
without_texts (Node label (Text text) children siblings) = without_texts siblings
without_texts (Node label (Element name attributes) children siblings) = Node label (Element name attributes) children (without_texts siblings)
without_texts (Node label (Comment text) children siblings) = Node label (Comment text) children (without_texts siblings)
without_texts (Node label (Instruction target text) children siblings) = Node label (Instruction target text) children (without_texts siblings)

-- siblings under a root that has so many elements besides, or, with none said, below an element
abbrev pub top_faults : Option ℕ → Forest LineNumbers → List Fault
top_faults None forest = []
top_faults (Some others) forest = element_faults others (elements_at_top forest) ++ text_faults forest

abbrev pub kept : {L : Type 0} → Option ℕ → Forest L → Forest L
kept None forest = forest
kept (Some others) forest = without_texts forest
