-- Where nothing is lacking, matching is answered.
use Rattle.std.proofs.Common.{◌≡◌, ℕ, ◌+◌, Bool, true, false, cond, List, [], ◌∷◌, ◌++◌, length, Option, None, Some, refl, sym, ◌∙◌}
use Rattle.spec_document.specs.declared.axis.Axis.TheVariants as axis
use Rattle.spec_expression.specs.Syntax.{Expr, Exprs, no_exprs, expr, Step}
use Rattle.spec_meaning.specs.Question as question
use Rattle.spec_meaning.specs.Question.{Question, Answer, nodes_in}
use Rattle.spec_meaning.specs.Program.{Given, Program, Give, Refuse, Ask, Need, Supply, Gives, Lacks, if_given, outcome_of, then}
use Rattle.spec_meaning.specs.Context.{Context, at_node}
use Rattle.spec_meaning.specs.Meaning.{meaning, keeps}
use Rattle.spec_transform.specs.Match.{caught, is_kept, all_kept, position_of, is_kept_there, keep, is_given_below, holds_of_one, passes_predicates}
use Rattle.spec_transform.specs.Position.{read_no_position}
use Rattle.spec_matching.specs.Asked.{TellsApart, is_among, nodes_on, led_to, passes_among, IsAnswered, AreAnswered, AllIsAtHand}
use Rattle.spec_matching.proofs.Alone.{then_gives, said_among_is_said_alone}

pub then_answered : {N A B : Type 0} (ask : Question N → Answer N) (supply : Supply N) (p : Program N A) (k : A → Program N B)
    → IsAnswered ask supply p → ((a : A) → IsAnswered ask supply (k a)) → IsAnswered ask supply (then p k)
then_answered ask supply p k h g = let next = g h.0 in (next.0, then_gives ask supply p k h.0 (Gives next.0) h.1 next.1)

-- the same where more is known of the value
pub then_answered_so : {N A B : Type 0} (ask : Question N → Answer N) (supply : Supply N) (p : Program N A) (k : A → Program N B)
    → (h : IsAnswered ask supply p) → IsAnswered ask supply (k h.0) → IsAnswered ask supply (then p k)
then_answered_so ask supply p k h g = (g.0, then_gives ask supply p k h.0 (Gives g.0) h.1 g.1)

pub all_kept_answered : {N : Type 0} (ask : Question N → Answer N) (supply : Supply N) (p : Expr) (c : Context N)
    → ((n : N) (size position : ℕ) → IsAnswered ask supply (is_kept p c size position n)) → (size position : ℕ) (done ns : List N)
    → IsAnswered ask supply (all_kept p c size position done ns)
all_kept_answered ask supply p c h size position done [] = (done, refl)
all_kept_answered ask supply p c h size position done (n ∷ ns) =
    then_answered ask supply (is_kept p c size position n) (λ b. all_kept p c size (position + 1) (cond b (done ++ n ∷ []) done) ns) (h n size position)
    (λ b. all_kept_answered ask supply p c h size (position + 1) (cond b (done ++ n ∷ []) done) ns)

there_answered : {N : Type 0} (ask : Question N → Answer N) (supply : Supply N) (p : Expr) (c : Context N)
    → ((n : N) (size position : ℕ) → IsAnswered ask supply (is_kept p c size position n)) → (size : ℕ) (n : N) (position : Option ℕ)
    → IsAnswered ask supply (is_kept_there p c size n position)
there_answered ask supply p c h size n None = (false, refl)
there_answered ask supply p c h size n (Some position) = h n size position

pub keep_answered : {N : Type 0} (same : N → N → Bool) (c : Context N) (n : N) (ask : Question N → Answer N) (supply : Supply N) (ps : Exprs)
    → AreAnswered ask supply c ps → (ns : List N) → IsAnswered ask supply (keep same c n ps ns)
keep_answered same c n ask supply no_exprs h ns = (true, refl)
keep_answered same c n ask supply (expr p no_exprs) h ns = there_answered ask supply p c h.0 (length ns) n (position_of same n 1 ns)
keep_answered same c n ask supply (expr p (expr q ps)) h ns =
    then_answered ask supply (all_kept p c (length ns) 1 [] ns) (λ ms. keep same c n (expr q ps) ms)
    (all_kept_answered ask supply p c h.0 (length ns) 1 [] ns) (λ ms. keep_answered same c n ask supply (expr q ps) h.1 ms)

pub holds_answered : {N : Type 0} (ask : Question N → Answer N) (supply : Supply N) (test : N → Program N Bool)
    → ((n : N) → IsAnswered ask supply (test n)) → (ns : List N) → IsAnswered ask supply (holds_of_one test ns)
holds_answered ask supply test h [] = (false, refl)
holds_answered ask supply test h (n ∷ ns) =
    then_answered ask supply (test n) (λ b. cond b (Give true) (holds_of_one test ns)) (h n) (λ b. go b (holds_answered ask supply test h ns))
  where
    go : (b : Bool) → IsAnswered ask supply (holds_of_one test ns) → IsAnswered ask supply (cond b (Give true) (holds_of_one test ns))
    go true rest = (true, refl)
    go false rest = rest

pub among_answered : {N : Type 0} (same : N → N → Bool) (c : Context N) (s : Step) (n : N) (ask : Question N → Answer N) (supply : Supply N)
    → AreAnswered ask supply c s.predicates → IsAnswered ask supply (passes_among same c s n)
among_answered same c s n ask supply h =
    holds_answered ask supply (is_given_below same c s n)
    (λ parent. keep_answered same c n ask supply s.predicates h (nodes_in (ask (question.Step parent s.axis s.test)))) (nodes_on ask axis.Parent n)

-- asked of the node alone, as among all, where nothing is lacking
pub asked_alike : {N : Type 0} (same : N → N → Bool) (c : Context N) (s : Step) (n parent : N) (ask : Question N → Answer N) (supply : Supply N)
    → TellsApart same → read_no_position s.predicates ≡ true → nodes_on ask axis.Parent n ≡ parent ∷ [] → is_among same n (led_to ask s parent) ≡ true
    → AreAnswered ask supply c s.predicates
    → outcome_of ask supply (passes_predicates same c s n) ≡ outcome_of ask supply (passes_among same c s n)
asked_alike same c s n parent ask supply apart e above among answered =
    let said = among_answered same c s n ask supply answered in
    said_among_is_said_alone same c s n parent ask supply said.0 apart e above among said.1 ∙ sym said.1

-- ---- Where all is at hand

caught_answered : {N : Type 0} (ask : Question N → Answer N) (supply : Supply N) → AllIsAtHand supply → (p : Program N Bool)
    → IsAnswered ask supply (caught p)
unfolding caught
caught_answered ask supply h (Give b) = (b, refl)
caught_answered ask supply h (Refuse why) = (false, refl)
caught_answered ask supply h (Ask q next) = caught_answered ask supply h (next (ask q))
caught_answered {N} ask supply h (Need w next) = go (supply w) (h w) (λ g. caught_answered ask supply h (next g))
  where
    go : (o : Option (Given N)) → ¬ (o ≡ None) → ((g : Given N) → IsAnswered ask supply (caught (next g)))
        → (b : Bool) × (if_given (λ g. outcome_of ask supply (caught (next g))) (Lacks w) o ≡ Gives b)
    go None there more = absurd (there refl)
    go (Some g) there more = more g

pub are_answered : {N : Type 0} (ask : Question N → Answer N) (supply : Supply N) (c : Context N) (ps : Exprs) → AllIsAtHand supply
    → AreAnswered ask supply c ps
are_answered ask supply c no_exprs h = tt
are_answered ask supply c (expr p ps) h = (
  (λ n size position. caught_answered ask supply h (then (meaning p (at_node c n position size)) (λ v. Give (keeps v position)))),
  are_answered ask supply c ps h,
)
