-- A turn of the loop over the nodes of a step asks for the nodes of the axis first; and lists that are not empty.
use Rattle.std.proofs.Common.{◌≡◌, ℕ, ◌<◌, ◌==◌, List, [], ◌∷◌, ◌++◌, length, false, sym, arith}
use Rattle.std.proofs.lemmas.Bool.{false≢true}
use Rattle.spec_document.specs.declared.axis.Axis.{Axis}
use Rattle.spec_expression.specs.Syntax.{Test}
use Rattle.spec_meaning.specs.Question.{Step, nodes_in}
use Rattle.spec_meaning.specs.Program.{Program, Give, Ask, Supply, State, then}
use Rattle.spec_meaning.specs.Meaning.{stepped}
use Rattle.spec_node.specs.declared.node_ref.NodeRef.{NodeRef}
use Rattle.xt_questions.specs.Runs.{Continues}

pub step_turn : {supply : Supply NodeRef} {depth : ℕ} (predicates : List NodeRef → Program NodeRef (List NodeRef)) (axis : Axis) (test : Test)
    (done ns : List NodeRef) (n : NodeRef) {q : Program NodeRef (List NodeRef)} {s t : State NodeRef}
    → Continues supply depth (stepped predicates axis test done (n ∷ ns)) s q t
    → Continues supply depth
    (then (Ask (Step n axis test) (λ a. Give (nodes_in a))) (λ ms. then (predicates ms) (λ os. stepped predicates axis test (done ++ os) ns)))
    s q t
unfolding then
step_turn predicates axis test done ns n h = h

pub is_some : {A : Type 0} (xs : List A) → (length xs == 0) ≡ false → 0 < length xs
is_some [] h = absurd (false≢true (sym h))
is_some (x ∷ xs) h = omega arith
