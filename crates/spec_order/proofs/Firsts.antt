-- The first of a list in document order is the first node in document order.
use Rattle.std.proofs.Common.{◌≡◌, ℕ, Bool, List, [], ◌∷◌, refl, sym, ap, subst, ◌∙◌}
use Rattle.std.specs.Prelude.{IsTrue, codes}
use Rattle.std.specs.Ordering.{ordering_reverse}
use Rattle.std.specs.declared.cmp.Ordering.TheVariants.{Less, Greater}
use Rattle.spec_document.specs.Order.{document_cmp, way_to}
use Rattle.spec_document.proofs.Ways.{document_total}
use Rattle.spec_document.proofs.Listed.{less}
use Rattle.spec_expression.specs.Syntax.{Expr, expr, no_exprs}
use Rattle.spec_meaning.specs.Value as value
use Rattle.spec_meaning.specs.Value.{Value}
use Rattle.spec_meaning.specs.Question as question
use Rattle.spec_meaning.specs.Question.{Question, Answer, text_in, local_in, uri_in, written_in}
use Rattle.spec_meaning.specs.Program.{Program, Give, Supply, Said, Gives, outcome_of}
use Rattle.spec_meaning.specs.Context.{Context}
use Rattle.spec_meaning.specs.Convert.{text_at}
use Rattle.spec_meaning.specs.Call.{called}
use Rattle.spec_meaning.specs.Function.{function_of}
use Rattle.spec_meaning.specs.Meaning.{meaning, values_of}
use Rattle.spec_transform.proofs.Greatest.{said_then, outcome-then}
use Rattle.spec_run.specs.World.{Node, InSource, InModule}
use Rattle.spec_order.specs.NodeSet.{ComesBeforeAll, AreInOrder, precedes}
use Rattle.spec_order.specs.First.{IsOneOf, at_the_front, further_on, IsFirst, call_on}

-- one before all of these is before each of them
before_one : {N : Type 0} (before : N → N → Bool) (n : N) {m : N} {ns : List N} → ComesBeforeAll before n ns → IsOneOf m ns → IsTrue (before n m)
before_one before n h at_the_front = h.0
before_one before n h (further_on o) = before_one before n h.1 o

one_of_none : {N : Type 0} {n : N} → IsOneOf n [] → ⊥
one_of_none o = elim o [ ]

before_others : {N : Type 0} (before : N → N → Bool) (n : N) {m : N} {ns : List N} → ComesBeforeAll before n ns → IsOneOf m (n ∷ ns) → ¬ (m ≡ n)
    → IsTrue (before n m)
before_others before n h at_the_front other = absurd (other refl)
before_others before n h (further_on o) other = before_one before n h o

pub is_first : {N : Type 0} (before : N → N → Bool) (n : N) (ns : List N) → AreInOrder before (n ∷ ns) → IsFirst before n (n ∷ ns)
is_first before n ns h = record { is_one = at_the_front; comes_before = λ m o other. before_others before n h.0 o other }

-- of two places one comes before the other at most
asymmetric : (m n : Node) → IsTrue (precedes m n) → IsTrue (precedes n m) → ⊥
asymmetric (InSource p) (InSource q) h g =
    let forth : document_cmp (way_to p) (way_to q) ≡ Less = less _ h in
    let back : document_cmp (way_to q) (way_to p) ≡ Less = less _ g in
    let turned : document_cmp (way_to p) (way_to q) ≡ Greater = document_total.antisymm (way_to p) (way_to q) ∙ ap ordering_reverse back in
    let e : Less ≡ Greater = sym forth ∙ turned in cc
asymmetric (InSource p) (InModule e) h g = absurd (cc)
asymmetric (InModule e) n h g = absurd (cc)

alone_at : {first n : Node} {ns : List Node} → ComesBeforeAll precedes n ns → IsOneOf first (n ∷ ns)
    → ((m : Node) → IsOneOf m (n ∷ ns) → ¬ (m ≡ first) → IsTrue (precedes first m)) → first ≡ n
alone_at h at_the_front later = refl
alone_at {first = first} {n = n} h (further_on o) later =
    let forth : IsTrue (precedes n first) = before_one precedes n h o in
    let differs : ¬ (n ≡ first) = λ e. asymmetric n first forth
    (subst (λ m. IsTrue (precedes first m)) (sym e) (subst (λ m. IsTrue (precedes m first)) e forth)) in
    absurd (asymmetric n first forth (later n at_the_front differs))

pub alone : (first n : Node) (ns : List Node) → AreInOrder precedes (n ∷ ns) → IsFirst precedes first (n ∷ ns) → first ≡ n
alone first n ns h f = alone_at h.0 f.is_one f.comes_before

-- what holds of lists that begin with a node holds of those of which it is the first
pub begins : (P : Node → List Node → Type 0) → ((n : Node) (ns : List Node) → P n (n ∷ ns)) → (first : Node) (ns : List Node) → AreInOrder precedes ns
    → IsFirst precedes first ns → P first ns
begins P h first [] order is = absurd (one_of_none is.is_one)
begins P h first (n ∷ ns) order is = subst (λ m. P m (n ∷ ns)) (sym (alone first n ns order is)) (h n ns)

-- ---- calls of a function on one expression
pub outcome_on : {N : Type 0} (ask : Question N → Answer N) (supply : Supply N) (name : List ℕ) (e : Expr) (c : Context N) (v : Value N)
    → outcome_of ask supply (meaning e c) ≡ Gives v
    → outcome_of ask supply (meaning (call_on name e) c)
    ≡ outcome_of ask supply (called (function_of (record { uri = []; local = name }) 1) (v ∷ []) c)
outcome_on ask supply name e c v h =
    outcome-then ask supply (values_of (expr e no_exprs) c []) _ ∙ ap (said_then _) (outcome-then ask supply (meaning e c) _ ∙ ap (said_then _) h)

-- what is said of the first node
abbrev Told : {N : Type 0} → (Question N → Answer N) → (Expr → Said (Value N)) → Expr → N → Type 0
Told ask means e n =
    (means (call_on (codes "string") e) ≡ Gives (value.Text (text_in (ask (question.Text n)))))
    × (means (call_on (codes "name") e) ≡ Gives (value.Text (written_in (ask (question.Name n)))))
    × (means (call_on (codes "local-name") e) ≡ Gives (value.Text (local_in (ask (question.Name n)))))
    × (means (call_on (codes "namespace-uri") e) ≡ Gives (value.Text (uri_in (ask (question.Name n)))))
    × (means (call_on (codes "generate-id") e) ≡ Gives (value.Text (text_in (ask (question.Place n)))))

told_of_list : {N : Type 0} (ask : Question N → Answer N) (supply : Supply N) (e : Expr) (c : Context N) (n : N) (ns : List N)
    → outcome_of ask supply (meaning e c) ≡ Gives (value.Nodes (n ∷ ns)) → Told ask (λ e. outcome_of ask supply (meaning e c)) e n
told_of_list {N} ask supply e c n ns h = (
  outcome_on ask supply (codes "string") e c (value.Nodes (n ∷ ns)) h ∙ outcome-then ask supply (text_at n) _,
  outcome_on ask supply (codes "name") e c (value.Nodes (n ∷ ns)) h ∙ outcome-then ask supply nodes _,
  outcome_on ask supply (codes "local-name") e c (value.Nodes (n ∷ ns)) h ∙ outcome-then ask supply nodes _,
  outcome_on ask supply (codes "namespace-uri") e c (value.Nodes (n ∷ ns)) h ∙ outcome-then ask supply nodes _,
  outcome_on ask supply (codes "generate-id") e c (value.Nodes (n ∷ ns)) h ∙ outcome-then ask supply nodes _,
)
  where
    nodes : Program N (List N)
    nodes = Give (n ∷ ns)

pub told : (ask : Question Node → Answer Node) (supply : Supply Node) (e : Expr) (c : Context Node) (first : Node) (ns : List Node)
    → AreInOrder precedes ns → IsFirst precedes first ns → outcome_of ask supply (meaning e c) ≡ Gives (value.Nodes ns)
    → Told ask (λ e. outcome_of ask supply (meaning e c)) e first
told ask supply e c first ns order is =
    begins
    (λ n ms. outcome_of ask supply (meaning e c) ≡ Gives (value.Nodes ms) → Told ask (λ e. outcome_of ask supply (meaning e c)) e n)
    (λ n ms h. told_of_list ask supply e c n ms h) first ns order is
