-- Programs one after another.
use Rattle.std.proofs.Common.{◌≡◌, ℕ, ◌<◌, ◌≤◌, ◌==◌, true, false, drop, List, [], ◌∷◌, ◌++◌, length, get_or, map, Option, Some, Result, Ok, Err, refl, sym, ap, ◌∙◌, arith}
use Rattle.std.proofs.lemmas.Bool.{ne_eqb}
use Rattle.spec_document.specs.declared.axis.Axis.TheVariants as axis
use Rattle.spec_document.specs.Name.{Expanded}
use Rattle.spec_expression.specs.Number.{Number, Fault, number_of, sum_of}
use Rattle.spec_expression.specs.Strings.{is_language}
use Rattle.spec_expression.specs.Syntax.{Named}
use Rattle.spec_meaning.specs.Question.{Question, Answer, Step, nodes_in}
use Rattle.spec_meaning.specs.Value.{Value, Text, Boolean}
use Rattle.spec_meaning.specs.Program.{Wanted, Given, Supply, Saw, Program, Give, Refuse, Ask, Need, State, asked, noted, Ending, Lacks, if_given, then, run}
use Rattle.spec_meaning.specs.Convert.{given, text_at, to_number}
use Rattle.spec_meaning.specs.Operation.{in_order}
use Rattle.spec_meaning.specs.Call.{argument, arranged, length_argument, of_first, summed, nodes_of_key, nodes_of_keys, language_at, language_of, xml_lang}
use Rattle.xt_base.specs.declared.num.NumFault.{NumFault}
use Rattle.xt_base.specs.Fault.{Gives}
use Rattle.xt_tree.specs.ValueView.{value_of}
use Rattle.xt_tree.specs.declared.value.Value as code
use Rattle.spec_node.specs.declared.node_ref.NodeRef.{NodeRef}
use Rattle.xt_questions.specs.declared.fault.EvalFault.{EvalFault}
use Rattle.xt_questions.specs.Runs.{Runs, Continues}
use Rattle.xt_questions.proofs.Steps.{runs_from}
use Rattle.xp_values.specs.View.{result_of}

pub then_then : {N A B C : Type 0} (p : Program N A) (f : A → Program N B) (k : B → Program N C) → then (then p f) k ≡ then p (λ x. then (f x) k)
unfolding then
then_then (Give v) f k = refl
then_then (Refuse w) f k = refl
then_then (Ask q next) f k = λ i. Ask q (λ a. then_then (next a) f k i)
then_then (Need w next) f k = λ i. Need w (λ g. then_then (next g) f k i)

pub continues_as : {A : Type 0} {supply : Supply NodeRef} {depth : ℕ} {o p q : Program NodeRef A} {s t : State NodeRef} → o ≡ p → Continues supply depth o s q t → Continues supply depth p s q t
continues_as {supply = supply} {depth = depth} {s = s} e h = record { same = ap (λ p. run supply depth p s) (sym e) ∙ h.same }

-- a sum with the number of one node more
pub summed_is : {N : Type 0} (total : Number) (n : N) (ns : List N)
    → summed total (n ∷ ns) ≡ then (then (text_at n) (λ t. then (given (number_of t)) (λ a. given (sum_of total a)))) (λ s. summed s ns)
summed_is {N = N} total n ns =
    let k : Number → Program N (Value N) = λ s. summed s ns in
    let g : Number → Program N Number = λ a. given (sum_of total a) in
    let f : List ℕ → Program N Number = λ t. then (given (number_of t)) g in
    let inner : (λ (t : List ℕ). then (f t) k) ≡ (λ t. then (given (number_of t)) (λ a. then (g a) k)) = λ i t. then_then (given (number_of t)) g k i in
    sym (then_then (text_at n) f k ∙ ap (λ (h : List ℕ → Program N (Value N)). then (text_at n) h) inner)

pub keys_are : {N : Type 0} (name : Expanded) (found : List N) (n : N) (ns : List N)
    → nodes_of_keys name found (n ∷ ns) ≡ then (then (text_at n) (nodes_of_key name)) (λ ms. nodes_of_keys name (found ++ ms) ns)
keys_are name found n ns = sym (then_then (text_at n) (nodes_of_key name) (λ ms. nodes_of_keys name (found ++ ms) ns))

pub language_is : {N : Type 0} (wanted : List ℕ) (e : N) (es : List N)
    → language_of wanted (e ∷ es) ≡ then (Ask (Step e axis.Attribute (Named xml_lang)) (λ a. Give (nodes_in a))) (language_at wanted (language_of wanted es))
unfolding then
language_is wanted e es = refl

-- the same program under another form
pub runs_as : {A X : Type 0} {v : X → A} {supply : Supply NodeRef} {depth : ℕ} {p q : Program NodeRef A} {s t : State NodeRef} {r : Result X EvalFault} → p ≡ q → Runs v supply depth p s t r → Runs v supply depth q s t r
runs_as {supply = supply} {depth = depth} {s = s} e h = runs_from (record { same = ap (λ p. run supply depth p s) e }) h

-- what is needed is at hand, and was noted
pub needs : {A X : Type 0} {v : X → A} {supply : Supply NodeRef} {depth : ℕ} (w : Wanted) (g : Given NodeRef) (next : Given NodeRef → Program NodeRef A) {s t u : State NodeRef} {r : Result X EvalFault}
    → supply w ≡ Some g → t ≡ noted (Saw w depth g) s → Runs v supply depth (next g) t u r → Runs v supply depth (Need w next) s u r
needs {supply = supply} {depth = depth} w g next {s = s} h e k =
    let given_by : Option (Given NodeRef) → Ending NodeRef _ = λ o. if_given (λ x. run supply depth (next x) (noted (Saw w depth x) s)) (record { said = Lacks w; state = s }) o in
    runs_from (record { same = ap (λ st. run supply depth (next g) st) e ∙ sym (ap given_by h) }) k

pub gives_is : (r : Result Number NumFault) (a : Result Number Fault) → Gives r a → result_of r ≡ a
gives_is (Ok n) a h = sym h
gives_is (Err f) a h = sym h

pub count_is : (vs : List code.Value) (v : code.Value) → v ≡ get_or vs 0 v → 1 ≤ length vs
    → length_argument (Text [] ∷ Text [] ∷ map value_of vs) ≡ then (to_number (value_of v)) (λ n. Give (Some n))
count_is [] v e h = absurd (omega (arith, h))
count_is (x ∷ xs) v e h = ap (λ (y : code.Value). then (to_number (value_of y)) (λ n. Give (Some n))) (sym e)

pub first_is : (ask : NodeRef → Question NodeRef) (part : Answer NodeRef → List ℕ) (ns : List NodeRef) (d : NodeRef) → 1 ≤ length ns
    → of_first ask part ns ≡ Ask (ask (get_or ns 0 d)) (λ a. Give (Text (part a)))
first_is ask part [] d h = absurd (omega (arith, h))
first_is ask part (n ∷ ns) d h = refl

pub few : (from found : List NodeRef) → length from < 2 → arranged from axis.Child found ≡ Give found
few [] found h = refl
few (n ∷ []) found h = refl
few (n ∷ m ∷ more) found h = absurd (omega (arith, h))

pub many : (from found : List NodeRef) → 2 ≤ length from → arranged from axis.Child found ≡ in_order found
many [] found h = absurd (omega (arith, h))
many (n ∷ []) found h = absurd (omega (arith, h))
many (n ∷ m ∷ more) found h = refl

pub language_of_first : (wanted : List ℕ) (else_where : Program NodeRef (Value NodeRef)) (ns : List NodeRef) (d : NodeRef) → 0 < length ns
    → language_at wanted else_where ns ≡ then (text_at (get_or ns 0 d)) (λ t. Give (Boolean (is_language t wanted)))
language_of_first wanted else_where [] d h = absurd (omega (arith, h))
language_of_first wanted else_where (n ∷ ns) d h = refl

pub no_language : (wanted : List ℕ) (else_where : Program NodeRef (Value NodeRef)) (ns : List NodeRef) → length ns ≤ 0
    → language_at wanted else_where ns ≡ else_where
no_language wanted else_where [] h = refl
no_language wanted else_where (n ∷ ns) h = absurd (omega (arith, h))

-- the world gave this answer, and noted it
pub asks : {A X : Type 0} {v : X → A} {supply : Supply NodeRef} {depth : ℕ} (q : Question NodeRef) (next : Answer NodeRef → Program NodeRef A) {a : Answer NodeRef} {s t u : State NodeRef} {r : Result X EvalFault}
    → a ≡ s.truth q → t ≡ asked q s → Runs v supply depth (next a) t u r → Runs v supply depth (Ask q next) s u r
asks {supply = supply} {depth = depth} q next {a = a} {s = s} h e k =
    runs_from (record { same = ap (λ st. run supply depth (next a) st) e ∙ ap (λ x. run supply depth (next x) (asked q s)) h }) k

pub is_some : (ns : List NodeRef) → (length ns == 0) ≡ false → 0 < length ns
is_some [] h = absurd (cc)
is_some (n ∷ ns) h = omega arith

pub is_none : (ns : List NodeRef) → (length ns == 0) ≡ true → length ns ≤ 0
is_none [] h = omega arith
is_none (n ∷ ns) h = let e : (length (n ∷ ns) == 0) ≡ false = ne_eqb (length (n ∷ ns)) 0 (λ e. absurd (omega (arith, e))) in absurd (cc)

-- the second argument, and those behind it
pub second_is : (vs : List code.Value) → argument (map value_of (drop 1 vs)) 0 ≡ argument (map value_of vs) 1
second_is [] = refl
second_is (v ∷ vs) = refl

pub third_is : (vs : List code.Value) → length_argument (Text [] ∷ Text [] ∷ map value_of (drop 1 (drop 1 vs))) ≡ length_argument (map value_of vs)
third_is [] = refl
third_is (v ∷ []) = refl
third_is (v ∷ w ∷ []) = refl
third_is (v ∷ w ∷ x ∷ xs) = refl
