-- Comparisons of operands, step by step.
use Rattle.std.proofs.Common.{◌≡◌, ◌∙◌, refl, ap, ℕ, ◌+◌, ◌-◌, ◌<◌, ◌&&◌, ◌||◌, List, [], ◌∷◌, length, map, take, drop, get_or}
use Rattle.std.proofs.Common.{sym, subst, arith, Bool, false, Result}
use Rattle.std.specs.Prelude.{◌==◌, if◌then◌else◌}
use Rattle.std.proofs.Math.Seq.{take-length}
use Rattle.spec_expression.specs.declared.Operator.{Operator}
use Rattle.spec_meaning.specs.Value.{Value}
use Rattle.spec_meaning.specs.Convert.{to_boolean}
use Rattle.spec_meaning.specs.Compare.{Operand, operands, beside, is_equality, is_boolean, goes_by_texts, booleans_satisfy}
use Rattle.spec_meaning.specs.Compare.{operands_compared, compared, searched, after_first, some_pair}
use Rattle.spec_meaning.specs.Program.{Program, Give, State, Supply, ◌>>=◌}
use Rattle.spec_node.specs.declared.node_ref.NodeRef.{NodeRef}
use Rattle.xt_questions.specs.declared.fault.EvalFault.{EvalFault}
use Rattle.xt_questions.specs.Runs.{Runs, Continues, itself}
use Rattle.xt_questions.proofs.Steps.{next_turn}
use Rattle.xp_values.specs.declared.operand.Operand as code
use Rattle.xp_values.specs.OperandView.{operand_of}

-- what is left to do begins with the operand at hand
pub next_operand : {A : Type 0} {supply : Supply NodeRef} {depth : ℕ} (left : List (Operand NodeRef) → Program NodeRef A)
    (xs : List code.Operand) (i : ℕ) (x : code.Operand) {q : Program NodeRef A} {s t : State NodeRef}
    → i < length xs → x ≡ get_or xs i x → Continues supply depth (left (map operand_of (drop i xs))) s q t
    → Continues supply depth (left (operand_of x ∷ map operand_of (drop (i + 1) xs))) s q t
next_operand {supply = supply} {depth = depth} left xs i x {q = q} {s = s} {t = t} h is e =
    subst (λ y. Continues supply depth (left (operand_of y ∷ map operand_of (drop (i + 1) xs))) s q t) (sym is)
    (next_turn (λ rest. left (map operand_of rest)) xs i x h e)

abbrev pub first_pair : {X : Type 0} → (Operand NodeRef → Program NodeRef X) → (X → X → Bool) → code.Operand
    → (rs ls : List (Operand NodeRef)) → Program NodeRef Bool
first_pair read test first rs ls =
    read (operand_of first) >>= λ x. searched read (test x) [] rs >>= λ found. after_first read test ls found

-- both sides have operands
pub pair_so : {X : Type 0} {supply : Supply NodeRef} {depth : ℕ} {s t : State NodeRef} {r : Result Bool EvalFault}
    (read : Operand NodeRef → Program NodeRef X) (test : X → X → Bool) (ls rs : List code.Operand) (first : code.Operand)
    → 0 < length ls → 0 < length rs → first ≡ get_or ls 0 first
    → Runs itself supply depth (first_pair read test first (map operand_of rs) (map operand_of (drop 1 ls))) s t r
    → Runs itself supply depth (some_pair read test (map operand_of ls) (map operand_of rs)) s t r
pair_so read test [] rs first h k is e = absurd (omega (arith, h))
pair_so read test (l ∷ ls) [] first h k is e = absurd (omega (arith, k))
pair_so {supply = supply} {depth = depth} {s = s} {t = t} {r = r} read test (l ∷ ls) (m ∷ rs) first h k is e =
    subst (λ o. Runs itself supply depth (first_pair read test o (map operand_of (m ∷ rs)) (map operand_of ls)) s t r) is e

pub some_from_test : {E : Type 0} (xs : List E) {b : Bool} → b ≡ (length xs == 0) → b ≡ false → 0 < length xs
some_from_test [] e n = absurd (cc)
some_from_test (x ∷ xs) e n = omega arith

pub rest_is : {E : Type 0} (xs : List E) → take (length xs - 1) (drop 1 xs) ≡ drop 1 xs
rest_is [] = refl
rest_is (x ∷ xs) =
    let shorter : length (x ∷ xs) - 1 ≡ length xs = omega arith in
    ap (λ n. take n xs) shorter ∙ take-length xs

-- what is compared where it is not booleans
pub compared_so : {supply : Supply NodeRef} {depth : ℕ} {s t : State NodeRef} {r : Result Bool EvalFault}
    (operator : Operator) (v w : Value NodeRef) (by_texts : Bool) (ls rs : List (Operand NodeRef))
    → (is_equality operator && (is_boolean v || is_boolean w)) ≡ false → goes_by_texts operator v w ≡ by_texts
    → ls ≡ operands (beside w v) → rs ≡ operands (beside v w)
    → Runs itself supply depth (operands_compared operator by_texts ls rs) s t r → Runs itself supply depth (compared operator v w) s t r
compared_so {supply = supply} {depth = depth} {s = s} {t = t} {r = r} operator v w by_texts ls rs n b l m h =
    let left = operands (beside w v) in
    let right = operands (beside v w) in
    let same : compared operator v w ≡ operands_compared operator by_texts ls rs =
    ap (λ x. if x then Give (booleans_satisfy operator (to_boolean v) (to_boolean w)) else operands_compared operator (goes_by_texts operator v w) left right) n
    ∙ ap (λ x. operands_compared operator x left right) b
    ∙ ap (λ x. operands_compared operator by_texts x right) (sym l)
    ∙ ap (λ x. operands_compared operator by_texts ls x) (sym m) in
    subst (λ p. Runs itself supply depth p s t r) (sym same) h
