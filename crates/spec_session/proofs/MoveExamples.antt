-- Worked examples of moves to another parent, where the declarations in scope are compared. The check computes both sides of each fact.
use Rattle.std.proofs.Common.{◌≡◌, ℕ, true, List, [], ◌∷◌, None, bytes_eq, refl}
use Rattle.std.proofs.lemmas.Slice.Eq.{bytes_eq-Decides}
use Rattle.std.specs.Prelude.{codes}
use Rattle.std.specs.FinMap.{entries}
use Rattle.spec_document.specs.Character.{is_name_start, is_name_part}
use Rattle.spec_document.specs.Forest.{Plain, Empty, Node, Element}
use Rattle.spec_document.specs.Scope.{root_scope}
use Rattle.spec_move.specs.Move.{same_entries}
use Rattle.spec_run.specs.Documents.{no_documents, with_source}
use Rattle.spec_session.specs.Machine.{State, answer_to, Refuses, Changes}
use Rattle.spec_session.specs.Request.{Move, SourceName}

equal : (text : List ℕ) → bytes_eq text text ≡ true
equal text = (bytes_eq-Decides text text).1 refl

as_itself : (all : List (List ℕ × List ℕ)) → same_entries all all ≡ true
as_itself [] = refl
as_itself (e ∷ all) = rw (equal e.0, equal e.1) (as_itself all)

-- a source of these nodes, of which and of others so many were made
abbrev of_nodes : Plain → ℕ → State
of_nodes nodes made = record { documents = with_source nodes no_documents; made = made; pending = None }

abbrev element : List ℕ → (children siblings : Plain) → Plain
element name children siblings = Node tt (Element name []) children siblings

-- <a><b/><c/></a>
abbrev before : State
before = of_nodes (element (codes "a") (element (codes "b") Empty (element (codes "c") Empty Empty)) Empty) 4

-- the node stays the same, since nothing is declared between the two parents, and nothing said of xml:space
pub move_below_a_sibling : answer_to before (Move SourceName (1 ∷ 1 ∷ []) (1 ∷ 2 ∷ 1 ∷ []))
    ≡ Changes (of_nodes (element (codes "a") (element (codes "c") (element (codes "b") Empty Empty) Empty) Empty) 4)
unfolding is_name_start is_name_part
move_below_a_sibling = rw (as_itself (entries root_scope)) refl

pub move_beside_the_document_element : answer_to before (Move SourceName (1 ∷ 1 ∷ []) (2 ∷ [])) ≡ Refuses 9
unfolding is_name_start is_name_part
move_beside_the_document_element = rw (as_itself (entries root_scope)) refl
