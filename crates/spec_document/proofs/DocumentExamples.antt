-- Worked examples: what lines make. None of them asks which prefixes are declared, which only lemmas on maps tell.
use Rattle.std.proofs.Common.{◌≡◌, ℕ, ◌^◌, ◌-◌, [], ◌∷◌, ◌++◌, refl, Some, None, Result, Ok, Err, codes}
use Rattle.std.specs.Prelude.{replicate}
use Rattle.std.specs.Str.{is_utf8, chars}
use lib.Utf8.{encode}
use Rattle.spec_document.specs.declared.parent.Parent.TheVariants.{Root, Element as ElementParent}
use Rattle.spec_document.specs.Character.{is_char, is_name_start, is_name_part}
use Rattle.spec_document.specs.Scope.{root_scope}
use Rattle.spec_document.specs.Forest.{Element, Text, Comment, Instruction, Forest, Empty, Node, Document}
use Rattle.spec_document.specs.Fault.{Fault}
use Rattle.spec_document.specs.Document.{document_of, nodes_of}

abbrev refused : ℕ → ℕ → Result (Document ℕ) Fault
refused number line = Err (record { number = number; line = line })

abbrev refused_nodes : ℕ → ℕ → Result (Forest ℕ) Fault
refused_nodes number line = Err (record { number = number; line = line })

-- adjacent data is one text; white space at the top is dropped, and has no number
pub joined_texts : document_of root_scope 7 (codes "- " ∷ codes "(a" ∷ codes "-x" ∷ codes "-y" ∷ codes ")a" ∷ [])
    ≡ Ok (record { root = 7; nodes = Node 8 (Element (codes "a") []) (Node 9 (Text (codes "xy")) Empty Empty) Empty })
unfolding is_char is_name_start is_name_part is_utf8 chars encode
joined_texts = refl

-- numbers go in document order; declarations stay among the attributes
pub numbers_in_order : document_of root_scope 0
    (codes "?t d" ∷ codes "(a" ∷ codes "Ax 1" ∷ codes "Axmlns u" ∷ codes "-" ∷ codes "(b" ∷ codes ")b" ∷ codes "Cc" ∷ codes ")a" ∷ [])
    ≡ Ok (record {
      root = 0;
      nodes =
          Node 1 (Instruction (codes "t") (codes "d")) Empty
          (Node 2 (Element (codes "a") (record { name = codes "x"; value = codes "1" } ∷ record { name = codes "xmlns"; value = codes "u" } ∷ []))
          (Node 3 (Element (codes "b") []) Empty (Node 4 (Comment (codes "c")) Empty Empty)) Empty);
    })
unfolding is_char is_name_start is_name_part is_utf8 chars encode
numbers_in_order = refl

-- bytes that are no UTF-8
pub bad_bytes : document_of root_scope 0 (codes "(a" ∷ (0xFF ∷ []) ∷ codes ")b" ∷ []) ≡ refused 2 2
unfolding is_char is_name_start is_name_part is_utf8 chars encode
bad_bytes = refl

-- the least number is answered, not that of the first line
pub bad_sign : document_of root_scope 0 (codes ")a" ∷ codes "Zz" ∷ []) ≡ refused 8 2
unfolding is_char is_name_start is_name_part is_utf8 chars encode
bad_sign = refl

pub wrong_end : document_of root_scope 0 (codes "(a" ∷ codes ")b" ∷ []) ≡ refused 9 2
unfolding is_char is_name_start is_name_part is_utf8 chars encode
wrong_end = refl

-- a missing end is no line's
pub missing_end : document_of root_scope 0 (codes "(a" ∷ codes "(b" ∷ codes ")b" ∷ []) ≡ refused 9 0
unfolding is_char is_name_start is_name_part is_utf8 chars encode
missing_end = refl

-- an attribute behind data that makes no text
pub late_attribute : document_of root_scope 0 (codes "(a" ∷ codes "-" ∷ codes "Ax 1" ∷ codes ")a" ∷ []) ≡ refused 9 3
unfolding is_char is_name_start is_name_part is_utf8 chars encode
late_attribute = refl

-- behind an empty line it is still behind the start
pub attribute_behind_empty_line : document_of root_scope 0 (codes "(a" ∷ [] ∷ codes "Ax 1" ∷ codes ")a" ∷ [])
    ≡ Ok (record { root = 0; nodes = Node 1 (Element (codes "a") (record { name = codes "x"; value = codes "1" } ∷ [])) Empty Empty })
unfolding is_char is_name_start is_name_part is_utf8 chars encode
attribute_behind_empty_line = refl

pub no_element : document_of root_scope 0 (codes "- " ∷ []) ≡ refused 9 0
unfolding is_char is_name_start is_name_part is_utf8 chars encode
no_element = refl

pub second_element : document_of root_scope 0 (codes "(a" ∷ codes ")a" ∷ [] ∷ codes "(b" ∷ codes ")b" ∷ []) ≡ refused 9 4
unfolding is_char is_name_start is_name_part is_utf8 chars encode
second_element = refl

-- texts are joined before they are tested
pub text_at_top : document_of root_scope 0 (codes "(a" ∷ codes ")a" ∷ codes "- " ∷ codes "-x" ∷ []) ≡ refused 9 3
unfolding is_char is_name_start is_name_part is_utf8 chars encode
text_at_top = refl

pub bad_name : document_of root_scope 0 (codes "(1" ∷ codes ")1" ∷ []) ≡ refused 10 1
unfolding is_char is_name_start is_name_part is_utf8 chars encode
bad_name = refl

pub second_colon : document_of root_scope 0 (codes "(a" ∷ codes "Axmlns:a:b u" ∷ codes ")a" ∷ []) ≡ refused 10 2
unfolding is_char is_name_start is_name_part is_utf8 chars encode
second_colon = refl

-- a prefix cannot be undeclared
pub undeclared_default_for_prefix : document_of root_scope 0 (codes "(a" ∷ codes "Axmlns:p " ∷ codes ")a" ∷ []) ≡ refused 10 2
unfolding is_char is_name_start is_name_part is_utf8 chars encode
undeclared_default_for_prefix = refl

pub xml_with_another_uri : document_of root_scope 0 (codes "(a" ∷ codes "Axmlns:xml u" ∷ codes ")a" ∷ []) ≡ refused 10 2
unfolding is_char is_name_start is_name_part is_utf8 chars encode
xml_with_another_uri = refl

pub another_with_its_uri : document_of root_scope 0 (codes "(a" ∷ codes "Axmlns http://www.w3.org/XML/1998/namespace" ∷ codes ")a" ∷ [])
    ≡ refused 10 2
unfolding is_char is_name_start is_name_part is_utf8 chars encode
another_with_its_uri = refl

pub xmlns_declared : document_of root_scope 0 (codes "(a" ∷ codes "Axmlns:xmlns u" ∷ codes ")a" ∷ []) ≡ refused 10 2
unfolding is_char is_name_start is_name_part is_utf8 chars encode
xmlns_declared = refl

pub uri_of_xmlns : document_of root_scope 0 (codes "(a" ∷ codes "Axmlns http://www.w3.org/2000/xmlns/" ∷ codes ")a" ∷ []) ≡ refused 10 2
unfolding is_char is_name_start is_name_part is_utf8 chars encode
uri_of_xmlns = refl

pub reserved_target : document_of root_scope 0 (codes "(a" ∷ codes "?xMl d" ∷ codes ")a" ∷ []) ≡ refused 10 2
unfolding is_char is_name_start is_name_part is_utf8 chars encode
reserved_target = refl

pub twice : document_of root_scope 0 (codes "(a" ∷ codes "Ax 1" ∷ codes "Ax 1" ∷ codes ")a" ∷ []) ≡ refused 14 3
unfolding is_char is_name_start is_name_part is_utf8 chars encode
twice = refl

-- 10 is answered before 14
pub two_faults : document_of root_scope 0 (codes "(a" ∷ codes "Ax 1" ∷ codes "Ax 1" ∷ codes "(1" ∷ codes ")1" ∷ codes ")a" ∷ []) ≡ refused 10 4
unfolding is_char is_name_start is_name_part is_utf8 chars encode
two_faults = refl

-- element 256 deep, and 257
pub as_deep_as_may_be : document_of root_scope 0 (replicate 257 (codes "(a") ++ replicate 257 (codes ")a")) ≡ refused 11 257
unfolding is_char is_name_start is_name_part is_utf8 chars encode
as_deep_as_may_be = refl

pub last_number : document_of root_scope (2 ^ 62 - 1) (codes "(a" ∷ codes ")a" ∷ []) ≡ refused 12 1
unfolding is_char is_name_start is_name_part is_utf8 chars encode
last_number = refl

-- siblings: text below an element, a second element under a root
pub below_an_element : nodes_of root_scope 5 (ElementParent 3) (codes "-x" ∷ codes "(a" ∷ codes ")a" ∷ [])
    ≡ Ok (Node 5 (Text (codes "x")) Empty (Node 6 (Element (codes "a") []) Empty Empty))
unfolding is_char is_name_start is_name_part is_utf8 chars encode
below_an_element = refl

pub under_a_root : nodes_of root_scope 5 (Root 1) (codes "Cc" ∷ codes "(a" ∷ codes ")a" ∷ []) ≡ refused_nodes 9 2
unfolding is_char is_name_start is_name_part is_utf8 chars encode
under_a_root = refl

pub too_deep : nodes_of root_scope 5 (ElementParent 256) (codes "(a" ∷ codes ")a" ∷ []) ≡ refused_nodes 11 1
unfolding is_char is_name_start is_name_part is_utf8 chars encode
too_deep = refl
