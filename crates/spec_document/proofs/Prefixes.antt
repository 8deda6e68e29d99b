-- Worked examples: prefixes, and the names that they make.
use Rattle.std.proofs.Common.{◌≡◌, ℕ, [], ◌∷◌, refl, Some, None, Result, Ok, Err, codes}
use Rattle.std.specs.Str.{is_utf8, chars}
use Rattle.std.specs.FinMap.{gets}
use lib.Utf8.{encode}
use Rattle.spec_document.specs.Character.{is_char, is_name_start, is_name_part}
use Rattle.spec_document.specs.Scope.{root_scope, bound, xml_uri}
use Rattle.spec_document.specs.Forest.{Element, Empty, Node, Document}
use Rattle.spec_document.specs.Declaration.{element_name, attribute_name}
use Rattle.spec_document.specs.Fault.{Fault}
use Rattle.spec_document.specs.Document.{document_of}

abbrev refused : ℕ → ℕ → Result (Document ℕ) Fault
refused number line = Err (record { number = number; line = line })

pub undeclared : document_of root_scope 0 (codes "(p:a" ∷ codes ")p:a" ∷ []) ≡ refused 10 1
unfolding is_char is_name_start is_name_part is_utf8 chars encode
undeclared = simp gets refl

pub undeclared_for_attribute : document_of root_scope 0 (codes "(a" ∷ codes "Ap:x 1" ∷ codes ")a" ∷ []) ≡ refused 10 2
unfolding is_char is_name_start is_name_part is_utf8 chars encode
undeclared_for_attribute = simp gets refl

pub declared_by_a_sibling : document_of root_scope 0
    (codes "(a" ∷ codes "(b" ∷ codes "Axmlns:p u" ∷ codes ")b" ∷ codes "(p:c" ∷ codes ")p:c" ∷ codes ")a" ∷ []) ≡ refused 10 5
unfolding is_char is_name_start is_name_part is_utf8 chars encode
declared_by_a_sibling = simp gets refl

-- a declaration serves the element that it stands on, and what is below it
pub declared_above : document_of root_scope 0 (codes "(p:a" ∷ codes "Axmlns:p u" ∷ codes "(b" ∷ codes "Ap:x 1" ∷ codes ")b" ∷ codes ")p:a" ∷ [])
    ≡ Ok (record {
      root = 0;
      nodes =
          Node 1 (Element (codes "p:a") (record { name = codes "xmlns:p"; value = codes "u" } ∷ []))
          (Node 2 (Element (codes "b") (record { name = codes "p:x"; value = codes "1" } ∷ [])) Empty Empty) Empty;
    })
unfolding is_char is_name_start is_name_part is_utf8 chars encode
declared_above = simp gets refl

-- two attributes of one expanded name
pub one_expanded_name : document_of root_scope 0
    (codes "(b" ∷ codes "Axmlns:p u" ∷ codes "Axmlns:q u" ∷ codes "Ap:x 1" ∷ codes "Aq:x 2" ∷ codes ")b" ∷ []) ≡ refused 14 5
unfolding is_char is_name_start is_name_part is_utf8 chars encode
one_expanded_name = simp gets refl

-- the default namespace is no attribute's
pub default_is_no_attributes : attribute_name (bound root_scope [] (codes "u")) (record { prefix = None; local = codes "x" })
    ≡ Some (record { uri = []; local = codes "x" })
default_is_no_attributes = refl

pub default_is_an_elements : element_name (bound root_scope [] (codes "u")) (record { prefix = None; local = codes "x" })
    ≡ Some (record { uri = codes "u"; local = codes "x" })
default_is_an_elements = simp gets refl

pub xml_is_declared : element_name root_scope (record { prefix = Some (codes "xml"); local = codes "x" })
    ≡ Some (record { uri = xml_uri; local = codes "x" })
xml_is_declared = simp gets refl
