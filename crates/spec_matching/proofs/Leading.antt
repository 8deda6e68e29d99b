-- Where the steps of a pattern lead: which nodes a step gives from some nodes, and that steps lead where each leads from where those before it lead.
use Rattle.std.proofs.Common.{◌≡◌, ℕ, ◌+◌, ◌⊎◌, inl, inr, Bool, true, false, cond, List, [], ◌∷◌, ◌++◌, length, reverse, Some, refl, sym, ap, subst, ◌∙◌}
use Rattle.std.specs.Prelude.{◌&&◌, ◌||◌}
use Rattle.std.proofs.lemmas.List.Folds.{list_any-append}
use Rattle.spec_document.specs.declared.axis.Axis.{Axis}
use Rattle.spec_document.specs.declared.axis.Axis.TheVariants as axis
use Rattle.spec_document.specs.Axis.{is_reverse}
use Rattle.spec_expression.specs.declared.NodeType.TheVariants as type
use Rattle.spec_expression.specs.Syntax.{Test, OfType, Expr, Exprs, no_exprs, expr, Steps, step}
use Rattle.spec_stylesheet.specs.declared.pattern.Separator.{Separator}
use Rattle.spec_stylesheet.specs.declared.pattern.Separator.TheVariants as separators
use Rattle.spec_stylesheet.specs.Pattern.{PatternStep}
use Rattle.spec_static.specs.PatternGrammar.{is_pattern_axis}
use Rattle.spec_meaning.specs.Question as question
use Rattle.spec_meaning.specs.Question.{Question, Answer, nodes_in}
use Rattle.spec_meaning.specs.Program.{Program, Give, Supply, Said, Gives, outcome_of, then}
use Rattle.spec_meaning.specs.Context.{Context}
use Rattle.spec_meaning.specs.Call.{arranged}
use Rattle.spec_meaning.specs.Meaning.{stepped}
use Rattle.spec_transform.specs.Match.{all_kept, position_of, is_kept_there, keep}
use Rattle.spec_matching.specs.Asked.{TellsApart, is_among, IsAnswered, AreAnswered}
use Rattle.spec_matching.specs.AsExpression.{after_separator, steps_read, all_kept_by, led_along}
use Rattle.spec_matching.specs.Tree.{is_there, IsEachOnce, IsTree}
use Rattle.spec_matching.proofs.Alone.{then_gave, then_gives, Picked, none, kept, left, said_at, picked, none_of_others, no_position}
use Rattle.spec_matching.proofs.Answered.{then_answered, all_kept_answered}

-- ---- Tests

pub or_left : (a b : Bool) → a ≡ true → (a || b) ≡ true
or_left true b h = refl
or_left false b h = absurd (cc)

pub or_right : (a b : Bool) → b ≡ true → (a || b) ≡ true
or_right true b h = refl
or_right false b h = h

or_either : (a b : Bool) → (a || b) ≡ true → (a ≡ true) ⊎ (b ≡ true)
or_either true b h = inl refl
or_either false b h = inr h

pub and_parts : (a b : Bool) → (a && b) ≡ true → (a ≡ true) × (b ≡ true)
and_parts true b h = (refl, h)
and_parts false b h = absurd (cc)

pub and_both : (a b : Bool) → a ≡ true → b ≡ true → (a && b) ≡ true
and_both true b h g = g
and_both false b h g = absurd (cc)

-- by cases on a test
pub by_test : {P : Type 0} (t : Bool) → (t ≡ true → P) → (t ≡ false → P) → P
by_test true holds fails = holds refl
by_test false holds fails = fails refl

pub one_value : {A : Type 0} (o : Said A) (a b : A) → o ≡ Gives a → o ≡ Gives b → a ≡ b
one_value o a b h g = given_of a (sym h ∙ g)
  where
    value_of : {A : Type 0} → A → Said A → A
    value_of other (Gives v) = v
    value_of other _ = other

    given_of : {A : Type 0} (a : A) {b : A} → Gives a ≡ Gives b → a ≡ b
    given_of a e = cc

-- ---- What a predicate keeps, with the others or not

picked_once : {N : Type 0} (same : N → N → Bool) (says : ℕ → N → Said Bool) (k : ℕ) (ns ms : List N) → Picked says k ns ms → IsEachOnce same ns
    → IsEachOnce same ms
picked_once same says k _ _ none h = tt
picked_once same says k _ _ (kept {n = n} {ns = ns} {ms = ms} s more) h =
    (none_of_others same says n (k + 1) ns ms more h.0, picked_once same says (k + 1) ns ms more h.1)
picked_once same says k _ _ (left {ns = ns} {ms = ms} s more) h = picked_once same says (k + 1) ns ms more h.1

-- where a node stands once, what is said of it at its position is whether it is kept
abbrev SaidThere : {N : Type 0} → (N → N → Bool) → (ℕ → N → Said Bool) → N → ℕ → (ns ms : List N) → Type 0
SaidThere same says n k ns ms = (j : ℕ) × (position_of same n k ns ≡ Some j) × (says j n ≡ Gives (is_among same n ms))

picked_there : {N : Type 0} (same : N → N → Bool) → TellsApart same → (says : ℕ → N → Said Bool) (n : N) (k : ℕ) (ns ms : List N) → Picked says k ns ms
    → IsEachOnce same ns → is_among same n ns ≡ true → SaidThere same says n k ns ms
picked_there same apart says n k _ _ none once h = absurd (cc)
picked_there {N} same apart says n k _ _ (kept {n = m} {ns = ns} {ms = ms} s more) once h =
    go (same n m) refl h (picked_there same apart says n (k + 1) ns ms more once.1)
  where
    go : (t : Bool) → same n m ≡ t → (t || is_among same n ns) ≡ true → (is_among same n ns ≡ true → SaidThere same says n (k + 1) ns ms)
        → (j : ℕ) × (cond t (Some k) (position_of same n (k + 1) ns) ≡ Some j) × (says j n ≡ Gives (t || is_among same n ms))
    go true e g rest = (k, refl, subst (λ (x : N). says k x ≡ Gives true) (sym ((apart n m).1 e)) s)
    go false e g rest = rest g
picked_there {N} same apart says n k _ _ (left {n = m} {ns = ns} {ms = ms} s more) once h =
    go (same n m) refl h (picked_there same apart says n (k + 1) ns ms more once.1)
  where
    go : (t : Bool) → same n m ≡ t → (t || is_among same n ns) ≡ true → (is_among same n ns ≡ true → SaidThere same says n (k + 1) ns ms)
        → (j : ℕ) × (cond t (Some k) (position_of same n (k + 1) ns) ≡ Some j) × (says j n ≡ Gives (is_among same n ms))
    go true e g rest =
        let is = (apart n m).1 e in
        let others = subst (λ (x : N). is_among same x ns ≡ false) (sym is) once.0 in
        (k, refl, subst (λ (x : N). says k x ≡ Gives false) (sym is) s ∙ ap Gives (sym (none_of_others same says n (k + 1) ns ms more others)))
    go false e g rest = rest g

same_list : {N : Type 0} (ask : Question N → Answer N) (supply : Supply N) (ns ms : List N) → outcome_of ask supply (Give ns) ≡ Gives ms → ns ≡ ms
same_list ask supply ns ms h = cc

-- those that are not asked of are not kept by all predicates
pub others_not_kept : {N : Type 0} (same : N → N → Bool) (c : Context N) (n : N) (ask : Question N → Answer N) (supply : Supply N) (ps : Exprs)
    (ns ms : List N) → outcome_of ask supply (all_kept_by ps c ns) ≡ Gives ms → is_among same n ns ≡ false → is_among same n ms ≡ false
others_not_kept same c n ask supply no_exprs ns ms h g = ap (is_among same n) (sym (same_list ask supply ns ms h)) ∙ g
others_not_kept same c n ask supply (expr p ps) ns ms h g =
    let next = then_gave ask supply (all_kept p c (length ns) 1 [] ns) (λ xs. all_kept_by ps c xs) ms h in
    others_not_kept same c n ask supply ps next.0 ms next.2
    (none_of_others same (said_at ask supply p c (length ns)) n 1 ns next.0 (picked ask supply p c (length ns) ns next.0 next.1) g)

pub kept_were_there : {N : Type 0} (same : N → N → Bool) (c : Context N) (n : N) (ask : Question N → Answer N) (supply : Supply N) (ps : Exprs)
    (ns ms : List N) → outcome_of ask supply (all_kept_by ps c ns) ≡ Gives ms → is_among same n ms ≡ true → is_among same n ns ≡ true
kept_were_there same c n ask supply ps ns ms h g =
    by_test (is_among same n ns) (λ e. e) (λ e. let none_there = others_not_kept same c n ask supply ps ns ms h e in absurd (cc))

keep_not : {N : Type 0} (same : N → N → Bool) (c : Context N) (n : N) (ask : Question N → Answer N) (supply : Supply N) (p : Expr) (ps : Exprs)
    (ns ms : List N) → outcome_of ask supply (all_kept_by (expr p ps) c ns) ≡ Gives ms → is_among same n ns ≡ false
    → outcome_of ask supply (keep same c n (expr p ps) ns) ≡ Gives false
keep_not same c n ask supply p no_exprs ns ms h g =
    ap (λ o. outcome_of ask supply (is_kept_there p c (length ns) n o)) (no_position same n 1 ns g)
keep_not same c n ask supply p (expr q ps) ns ms h g =
    let next = then_gave ask supply (all_kept p c (length ns) 1 [] ns) (λ xs. all_kept_by (expr q ps) c xs) ms h in
    then_gives ask supply (all_kept p c (length ns) 1 [] ns) (λ xs. keep same c n (expr q ps) xs) next.0 (Gives false) next.1
    (keep_not same c n ask supply q ps next.0 ms next.2
    (none_of_others same (said_at ask supply p c (length ns)) n 1 ns next.0 (picked ask supply p c (length ns) ns next.0 next.1) g))

-- what is said of a node that is one of these is whether all predicates keep it
pub keep_is : {N : Type 0} (same : N → N → Bool) → TellsApart same → (c : Context N) (n : N) (ask : Question N → Answer N) (supply : Supply N) (ps : Exprs)
    (ns ms : List N) → IsEachOnce same ns → is_among same n ns ≡ true → outcome_of ask supply (all_kept_by ps c ns) ≡ Gives ms
    → outcome_of ask supply (keep same c n ps ns) ≡ Gives (is_among same n ms)
keep_is same apart c n ask supply no_exprs ns ms once h g = ap Gives (sym (ap (is_among same n) (sym (same_list ask supply ns ms g)) ∙ h))
keep_is same apart c n ask supply (expr p no_exprs) ns ms once h g =
    let next = then_gave ask supply (all_kept p c (length ns) 1 [] ns) (λ xs. all_kept_by no_exprs c xs) ms g in
    let there = picked_there same apart (said_at ask supply p c (length ns)) n 1 ns next.0 (picked ask supply p c (length ns) ns next.0 next.1) once h in
    ap (λ o. outcome_of ask supply (is_kept_there p c (length ns) n o)) there.1
    ∙ there.2 ∙ ap (λ xs. Gives (is_among same n xs)) (same_list ask supply next.0 ms next.2)
keep_is same apart c n ask supply (expr p (expr q ps)) ns ms once h g =
    let next = then_gave ask supply (all_kept p c (length ns) 1 [] ns) (λ xs. all_kept_by (expr q ps) c xs) ms g in
    let still = picked_once same (said_at ask supply p c (length ns)) 1 ns next.0 (picked ask supply p c (length ns) ns next.0 next.1) once in
    then_gives ask supply (all_kept p c (length ns) 1 [] ns) (λ xs. keep same c n (expr q ps) xs) next.0 (Gives (is_among same n ms)) next.1
    (by_test (is_among same n next.0) (λ e. keep_is same apart c n ask supply (expr q ps) next.0 ms still e next.2)
    (λ e. keep_not same c n ask supply q ps next.0 ms next.2 e ∙ ap Gives (sym (others_not_kept same c n ask supply (expr q ps) next.0 ms next.2 e))))

-- ---- Where one step leads

-- a step with its predicates, from nodes, in document order
abbrev pub own_step : {N : Type 0} → Axis → Test → Exprs → Context N → List N → Program N (List N)
own_step axis test ps c ns = then (stepped (all_kept_by ps c) axis test [] ns) (λ found. arranged ns axis found)

-- the node from which a step leads to another, and what it gives there
pub record LedFrom {N : Type 0} (same : N → N → Bool) (ask : Question N → Answer N) (supply : Supply N) (f : List N → Program N (List N)) (x : Axis)
    (test : Test) (ns : List N) (n : N) : Type 0 where
  pub from : N
  pub is_one : is_among same from ns ≡ true
  pub nodes : List N
  pub gives : outcome_of ask supply (f (nodes_in (ask (question.Step from x test)))) ≡ Gives nodes
  pub has : is_among same n nodes ≡ true

among_first : {N : Type 0} (same : N → N → Bool) (n : N) (xs ys : List N) → is_among same n xs ≡ true → is_among same n (xs ++ ys) ≡ true
among_first same n xs ys h = list_any-append (same n) xs ys ∙ or_left (is_among same n xs) (is_among same n ys) h

among_second : {N : Type 0} (same : N → N → Bool) (n : N) (xs ys : List N) → is_among same n ys ≡ true → is_among same n (xs ++ ys) ≡ true
among_second same n xs ys h = list_any-append (same n) xs ys ∙ or_right (is_among same n xs) (is_among same n ys) h

among_either : {N : Type 0} (same : N → N → Bool) (n : N) (xs ys : List N) → is_among same n (xs ++ ys) ≡ true
    → (is_among same n xs ≡ true) ⊎ (is_among same n ys ≡ true)
among_either same n xs ys h = or_either (is_among same n xs) (is_among same n ys) (sym (list_any-append (same n) xs ys) ∙ h)

found_before : {N : Type 0} (same : N → N → Bool) (n : N) (ask : Question N → Answer N) (supply : Supply N) (f : List N → Program N (List N)) (x : Axis)
    (test : Test) (done ns found : List N) → outcome_of ask supply (stepped f x test done ns) ≡ Gives found → is_among same n done ≡ true
    → is_among same n found ≡ true
found_before same n ask supply f x test done [] found h g = ap (is_among same n) (sym (same_list ask supply done found h)) ∙ g
found_before same n ask supply f x test done (m ∷ ms) found h g =
    let next = then_gave ask supply (f (nodes_in (ask (question.Step m x test)))) (λ xs. stepped f x test (done ++ xs) ms) found h in
    found_before same n ask supply f x test (done ++ next.0) ms found next.2 (among_first same n done next.0 g)

found_from : {N : Type 0} (same : N → N → Bool) → TellsApart same → (n : N) (ask : Question N → Answer N) (supply : Supply N) (f : List N → Program N (List N))
    (x : Axis) (test : Test) (done ns found : List N) → outcome_of ask supply (stepped f x test done ns) ≡ Gives found
    → LedFrom same ask supply f x test ns n → is_among same n found ≡ true
found_from same apart n ask supply f x test done [] found h l = let is_one = l.is_one in absurd (cc)
found_from {N} same apart n ask supply f x test done (m ∷ ms) found h l =
    let next = then_gave ask supply (f (nodes_in (ask (question.Step m x test)))) (λ xs. stepped f x test (done ++ xs) ms) found h in
    by_test (same l.from m)
    (λ e. let is = (apart l.from m).1 e in
    let gave = subst (λ (k : N). outcome_of ask supply (f (nodes_in (ask (question.Step k x test)))) ≡ Gives l.nodes) is l.gives in
    let alike = one_value (outcome_of ask supply (f (nodes_in (ask (question.Step m x test))))) l.nodes next.0 gave next.1 in
    found_before same n ask supply f x test (done ++ next.0) ms found next.2
    (among_second same n done next.0 (ap (is_among same n) (sym alike) ∙ l.has)))
    (λ e. found_from same apart n ask supply f x test (done ++ next.0) ms found next.2
    (record { from = l.from; is_one = ap (λ t. t || is_among same l.from ms) (sym e) ∙ l.is_one; nodes = l.nodes; gives = l.gives; has = l.has }))

led_further : {N : Type 0} {same : N → N → Bool} {ask : Question N → Answer N} {supply : Supply N} {f : List N → Program N (List N)} {x : Axis} {test : Test}
    (m : N) {ms : List N} {n : N} → LedFrom same ask supply f x test ms n → LedFrom same ask supply f x test (m ∷ ms) n
led_further {same = same} m {ms = ms} l =
    record { from = l.from; is_one = or_right (same l.from m) (is_among same l.from ms) l.is_one; nodes = l.nodes; gives = l.gives; has = l.has }

found_where : {N : Type 0} (same : N → N → Bool) → TellsApart same → (n : N) (ask : Question N → Answer N) (supply : Supply N) (f : List N → Program N (List N))
    (x : Axis) (test : Test) (done ns found : List N) → outcome_of ask supply (stepped f x test done ns) ≡ Gives found → is_among same n found ≡ true
    → (is_among same n done ≡ true) ⊎ LedFrom same ask supply f x test ns n
found_where same apart n ask supply f x test done [] found h g = inl (ap (is_among same n) (same_list ask supply done found h) ∙ g)
found_where {N} same apart n ask supply f x test done (m ∷ ms) found h g =
    let next = then_gave ask supply (f (nodes_in (ask (question.Step m x test)))) (λ xs. stepped f x test (done ++ xs) ms) found h in
    from_here next.0 next.1 (found_where same apart n ask supply f x test (done ++ next.0) ms found next.2 g)
  where
    from_done : (xs : List N) → outcome_of ask supply (f (nodes_in (ask (question.Step m x test)))) ≡ Gives xs
        → (is_among same n done ≡ true) ⊎ (is_among same n xs ≡ true) → (is_among same n done ≡ true) ⊎ LedFrom same ask supply f x test (m ∷ ms) n
    from_done xs e (inl before) = inl before
    from_done xs e (inr there) =
        inr (record { from = m; is_one = or_left (same m m) (is_among same m ms) (apart m m).0; nodes = xs; gives = e; has = there })

    from_here : (xs : List N) → outcome_of ask supply (f (nodes_in (ask (question.Step m x test)))) ≡ Gives xs
        → (is_among same n (done ++ xs) ≡ true) ⊎ LedFrom same ask supply f x test ms n → (is_among same n done ≡ true) ⊎ LedFrom same ask supply f x test (m ∷ ms) n
    from_here xs e (inl before) = from_done xs e (among_either same n done xs before)
    from_here xs e (inr later) = inr (led_further m later)

pub forward : (x : Axis) → is_pattern_axis x ≡ true → is_reverse x ≡ false
forward axis.Child h = refl
forward axis.Attribute h = refl
forward axis.Ancestor h = absurd (cc)
forward axis.AncestorOrSelf h = absurd (cc)
forward axis.Descendant h = absurd (cc)
forward axis.DescendantOrSelf h = absurd (cc)
forward axis.Following h = absurd (cc)
forward axis.FollowingSibling h = absurd (cc)
forward axis.Namespace h = absurd (cc)
forward axis.Parent h = absurd (cc)
forward axis.Preceding h = absurd (cc)
forward axis.PrecedingSibling h = absurd (cc)
forward axis.Itself h = absurd (cc)

-- in document order they are the same nodes
arranged_same : {N : Type 0} {same : N → N → Bool} {ask : Question N → Answer N} → IsTree same ask → (supply : Supply N) (n : N) → is_there ask n ≡ true
    → (ns : List N) (x : Axis) → is_reverse x ≡ false → (found ms : List N) → outcome_of ask supply (arranged ns x found) ≡ Gives ms
    → is_among same n ms ≡ is_among same n found
arranged_same {same = same} {ask = ask} tree supply n there [] x ahead found ms h = ap (is_among same n) (sym (same_list ask supply found ms h))
arranged_same {same = same} {ask = ask} tree supply n there (k ∷ []) x ahead found ms h =
    let forth = ap (λ t. cond t (reverse found) found) ahead in
    ap (is_among same n) (sym (same_list ask supply _ ms h)) ∙ ap (is_among same n) forth
arranged_same {same = same} {ask = ask} tree supply n there (k ∷ l ∷ more) x ahead found ms h =
    ap (is_among same n) (sym (same_list ask supply (nodes_in (ask (question.Order found))) ms h)) ∙ tree.order n found there

pub own_step_from : {N : Type 0} {same : N → N → Bool} {ask : Question N → Answer N} → IsTree same ask → (supply : Supply N) (n : N) → is_there ask n ≡ true
    → (x : Axis) → is_reverse x ≡ false → (test : Test) (ps : Exprs) (c : Context N) (ns ms : List N)
    → outcome_of ask supply (own_step x test ps c ns) ≡ Gives ms → LedFrom same ask supply (all_kept_by ps c) x test ns n → is_among same n ms ≡ true
own_step_from {same = same} {ask = ask} tree supply n there x ahead test ps c ns ms h l =
    let next = then_gave ask supply (stepped (all_kept_by ps c) x test [] ns) (λ found. arranged ns x found) ms h in
    arranged_same tree supply n there ns x ahead next.0 ms next.2
    ∙ found_from same tree.apart n ask supply (all_kept_by ps c) x test [] ns next.0 next.1 l

pub own_step_where : {N : Type 0} {same : N → N → Bool} {ask : Question N → Answer N} → IsTree same ask → (supply : Supply N) (n : N) → is_there ask n ≡ true
    → (x : Axis) → is_reverse x ≡ false → (test : Test) (ps : Exprs) (c : Context N) (ns ms : List N)
    → outcome_of ask supply (own_step x test ps c ns) ≡ Gives ms → is_among same n ms ≡ true → LedFrom same ask supply (all_kept_by ps c) x test ns n
own_step_where {N} {same = same} {ask = ask} tree supply n there x ahead test ps c ns ms h g =
    let next = then_gave ask supply (stepped (all_kept_by ps c) x test [] ns) (λ found. arranged ns x found) ms h in
    go (found_where same tree.apart n ask supply (all_kept_by ps c) x test [] ns next.0 next.1
    (sym (arranged_same tree supply n there ns x ahead next.0 ms next.2) ∙ g))
  where
    go : (false ≡ true) ⊎ LedFrom same ask supply (all_kept_by ps c) x test ns n → LedFrom same ask supply (all_kept_by ps c) x test ns n
    go (inl e) = absurd (cc)
    go (inr l) = l

-- ---- That it is answered

pub all_kept_by_answered : {N : Type 0} (ask : Question N → Answer N) (supply : Supply N) (c : Context N) (ps : Exprs) → AreAnswered ask supply c ps
    → (ns : List N) → IsAnswered ask supply (all_kept_by ps c ns)
all_kept_by_answered ask supply c no_exprs h ns = (ns, refl)
all_kept_by_answered ask supply c (expr p ps) h ns =
    then_answered ask supply (all_kept p c (length ns) 1 [] ns) (λ ms. all_kept_by ps c ms) (all_kept_answered ask supply p c h.0 (length ns) 1 [] ns)
    (λ ms. all_kept_by_answered ask supply c ps h.1 ms)

stepped_answered : {N : Type 0} (ask : Question N → Answer N) (supply : Supply N) (f : List N → Program N (List N))
    → ((xs : List N) → IsAnswered ask supply (f xs)) → (x : Axis) (test : Test) (done ns : List N) → IsAnswered ask supply (stepped f x test done ns)
stepped_answered ask supply f h x test done [] = (done, refl)
stepped_answered ask supply f h x test done (m ∷ ms) =
    then_answered ask supply (f (nodes_in (ask (question.Step m x test)))) (λ xs. stepped f x test (done ++ xs) ms) (h _)
    (λ xs. stepped_answered ask supply f h x test (done ++ xs) ms)

arranged_answered : {N : Type 0} (ask : Question N → Answer N) (supply : Supply N) (ns : List N) (x : Axis) (found : List N)
    → IsAnswered ask supply (arranged ns x found)
arranged_answered ask supply [] x found = (found, refl)
arranged_answered ask supply (k ∷ []) x found = (_, refl)
arranged_answered ask supply (k ∷ l ∷ more) x found = (_, refl)

pub own_step_answered : {N : Type 0} (ask : Question N → Answer N) (supply : Supply N) (c : Context N) (x : Axis) (test : Test) (ps : Exprs)
    → AreAnswered ask supply c ps → (ns : List N) → IsAnswered ask supply (own_step x test ps c ns)
own_step_answered ask supply c x test ps h ns =
    then_answered ask supply (stepped (all_kept_by ps c) x test [] ns) (λ found. arranged ns x found)
    (stepped_answered ask supply (all_kept_by ps c) (all_kept_by_answered ask supply c ps h) x test [] ns) (λ found. arranged_answered ask supply ns x found)

-- ---- One step after another

-- the nodes that are asked for the last step: those that what stands before it gives, or after `//` they and their descendants
abbrev pub Spreads : {N : Type 0} → (Question N → Answer N) → Supply N → Context N → Separator → (ns ms : List N) → Type 0
Spreads ask supply c separators.Child ns ms = ns ≡ ms
Spreads ask supply c separators.Descendant ns ms = outcome_of ask supply (own_step axis.DescendantOrSelf (OfType type.Node) no_exprs c ns) ≡ Gives ms

led_first : {N : Type 0} (ask : Question N → Answer N) (supply : Supply N) (x : Axis) (test : Test) (ps : Exprs) (more : Steps) (c : Context N)
    (ns ms : List N) → outcome_of ask supply (led_along (step x test ps more) c ns) ≡ Gives ms
    → (xs : List N) × (outcome_of ask supply (own_step x test ps c ns) ≡ Gives xs) × (outcome_of ask supply (led_along more c xs) ≡ Gives ms)
led_first ask supply x test ps more c ns ms h =
    let next = then_gave ask supply (stepped (all_kept_by ps c) x test [] ns) (λ found. then (arranged ns x found) (λ xs. led_along more c xs)) ms h in
    let last = then_gave ask supply (arranged ns x next.0) (λ xs. led_along more c xs) ms next.2 in
    (last.0, then_gives ask supply (stepped (all_kept_by ps c) x test [] ns) (λ found. arranged ns x found) next.0 (Gives last.0) next.1 last.1, last.2)

led_on : {N : Type 0} (ask : Question N → Answer N) (supply : Supply N) (x : Axis) (test : Test) (ps : Exprs) (more : Steps) (c : Context N)
    (ns xs ms : List N) → outcome_of ask supply (own_step x test ps c ns) ≡ Gives xs → outcome_of ask supply (led_along more c xs) ≡ Gives ms
    → outcome_of ask supply (led_along (step x test ps more) c ns) ≡ Gives ms
led_on ask supply x test ps more c ns xs ms h g =
    let next = then_gave ask supply (stepped (all_kept_by ps c) x test [] ns) (λ found. arranged ns x found) xs h in
    then_gives ask supply (stepped (all_kept_by ps c) x test [] ns) (λ found. then (arranged ns x found) (λ xs. led_along more c xs)) next.0 (Gives ms) next.1
    (then_gives ask supply (arranged ns x next.0) (λ xs. led_along more c xs) xs (Gives ms) next.2 g)

-- a step with what stands before it, and the steps after it
pub record FirstLed {N : Type 0} (ask : Question N → Answer N) (supply : Supply N) (c : Context N) (s : PatternStep) (more : List PatternStep) (ns ms : List N)
    : Type 0 where
  pub spread : List N
  pub spreads : Spreads ask supply c s.separator ns spread
  pub own : List N
  pub leads : outcome_of ask supply (own_step s.step.axis s.step.test s.step.predicates c spread) ≡ Gives own
  pub goes_on : outcome_of ask supply (led_along (steps_read more) c own) ≡ Gives ms

pub first_led : {N : Type 0} (ask : Question N → Answer N) (supply : Supply N) (c : Context N) (s : PatternStep) (more : List PatternStep) (ns ms : List N)
    → outcome_of ask supply (led_along (steps_read (s ∷ more)) c ns) ≡ Gives ms → FirstLed ask supply c s more ns ms
first_led {N} ask supply c s more ns ms h = record { spread = all.0; spreads = all.1; own = all.2; leads = all.3; goes_on = all.4 }
  where
    own : (ks : List N) → Program N (List N)
    own ks = own_step s.step.axis s.step.test s.step.predicates c ks

    go : (x : Separator) → outcome_of ask supply (led_along (after_separator x (step s.step.axis s.step.test s.step.predicates (steps_read more))) c ns) ≡ Gives ms
        → (ks : List N) × Spreads ask supply c x ns ks × (xs : List N)
        × (outcome_of ask supply (own_step s.step.axis s.step.test s.step.predicates c ks) ≡ Gives xs) × (outcome_of ask supply (led_along (steps_read more) c xs) ≡ Gives ms)
    go separators.Child g =
        let next = led_first ask supply s.step.axis s.step.test s.step.predicates (steps_read more) c ns ms g in (ns, refl, next.0, next.1, next.2)
    go separators.Descendant g =
        let wide = led_first ask supply axis.DescendantOrSelf (OfType type.Node) no_exprs (step s.step.axis s.step.test s.step.predicates (steps_read more)) c ns ms g in
        let next = led_first ask supply s.step.axis s.step.test s.step.predicates (steps_read more) c wide.0 ms wide.2 in
        (wide.0, wide.1, next.0, next.1, next.2)

    all : (ks : List N) × Spreads ask supply c s.separator ns ks × (xs : List N)
        × (outcome_of ask supply (own_step s.step.axis s.step.test s.step.predicates c ks) ≡ Gives xs) × (outcome_of ask supply (led_along (steps_read more) c xs) ≡ Gives ms)
    all = go s.separator h

pub leads_first : {N : Type 0} {ask : Question N → Answer N} {supply : Supply N} {c : Context N} {s : PatternStep} {more : List PatternStep} {ns ms : List N}
    → FirstLed ask supply c s more ns ms → outcome_of ask supply (led_along (steps_read (s ∷ more)) c ns) ≡ Gives ms
leads_first {ask = ask} {supply = supply} {c = c} {s = s} {more = more} {ns = ns} {ms = ms} f = go s.separator f.spreads
  where
    go : (x : Separator) → Spreads ask supply c x ns f.spread
        → outcome_of ask supply (led_along (after_separator x (step s.step.axis s.step.test s.step.predicates (steps_read more))) c ns) ≡ Gives ms
    go separators.Child g =
        led_on ask supply s.step.axis s.step.test s.step.predicates (steps_read more) c ns f.own ms
        (ap (λ ks. outcome_of ask supply (own_step s.step.axis s.step.test s.step.predicates c ks)) g ∙ f.leads) f.goes_on
    go separators.Descendant g =
        led_on ask supply axis.DescendantOrSelf (OfType type.Node) no_exprs (step s.step.axis s.step.test s.step.predicates (steps_read more)) c ns f.spread ms g
        (led_on ask supply s.step.axis s.step.test s.step.predicates (steps_read more) c f.spread f.own ms f.leads f.goes_on)

-- the last step leads from where those before it lead
pub led_last : {N : Type 0} (ask : Question N → Answer N) (supply : Supply N) (c : Context N) (before : List PatternStep) (s : PatternStep) (ns ms : List N)
    → outcome_of ask supply (led_along (steps_read (before ++ s ∷ [])) c ns) ≡ Gives ms
    → (ks : List N) × (outcome_of ask supply (led_along (steps_read before) c ns) ≡ Gives ks) × FirstLed ask supply c s [] ks ms
led_last ask supply c [] s ns ms h = (ns, refl, first_led ask supply c s [] ns ms h)
led_last ask supply c (b ∷ before) s ns ms h =
    let f = first_led ask supply c b (before ++ s ∷ []) ns ms h in
    let rest = led_last ask supply c before s f.own ms f.goes_on in
    (rest.0, leads_first (record { spread = f.spread; spreads = f.spreads; own = f.own; leads = f.leads; goes_on = rest.1 }), rest.2)

pub leads_last : {N : Type 0} (ask : Question N → Answer N) (supply : Supply N) (c : Context N) (before : List PatternStep) (s : PatternStep) (ns ks ms : List N)
    → outcome_of ask supply (led_along (steps_read before) c ns) ≡ Gives ks → FirstLed ask supply c s [] ks ms
    → outcome_of ask supply (led_along (steps_read (before ++ s ∷ [])) c ns) ≡ Gives ms
leads_last {N} ask supply c [] s ns ks ms h f =
    subst (λ (xs : List N). outcome_of ask supply (led_along (steps_read (s ∷ [])) c xs) ≡ Gives ms) (sym (same_list ask supply ns ks h)) (leads_first f)
leads_last ask supply c (b ∷ before) s ns ks ms h f =
    let g = first_led ask supply c b before ns ks h in
    leads_first (record { spread = g.spread; spreads = g.spreads; own = g.own; leads = g.leads; goes_on = leads_last ask supply c before s g.own ks ms g.goes_on f })
