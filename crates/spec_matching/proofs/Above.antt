-- A node matches a pattern exactly where some ancestor-or-self of it, as context, gives it.
use Rattle.std.proofs.Common.{◌≡◌, ℕ, Bool, true, false, cond, List, [], ◌∷◌, ◌++◌, reverse, None, Some, refl, sym, ap, subst, ◌∙◌}
use Rattle.std.specs.Prelude.{◌||◌}
use Rattle.std.proofs.lemmas.Grind.{reverse_onto}
use Rattle.std.proofs.lemmas.List.{reverse-reverse}
use mathlib.Core.List.{reverse_aux}
use Rattle.spec_document.specs.declared.axis.Axis.TheVariants as axis
use Rattle.spec_document.specs.Name.{Expanded}
use Rattle.spec_expression.specs.declared.NodeType.TheVariants as type
use Rattle.spec_expression.specs.Syntax.{OfType, Exprs, no_exprs, expr, Step}
use Rattle.spec_stylesheet.specs.declared.pattern.Separator.{Separator}
use Rattle.spec_stylesheet.specs.declared.pattern.Separator.TheVariants as separators
use Rattle.spec_stylesheet.specs.declared.pattern.Start.{Start}
use Rattle.spec_stylesheet.specs.declared.pattern.Start.TheVariants.{Anywhere, Root, Id, Key}
use Rattle.spec_stylesheet.specs.Pattern.{PatternStep, Alternative, Pattern}
use Rattle.spec_static.specs.PatternGrammar.{is_pattern_axis}
use Rattle.spec_meaning.specs.Question as question
use Rattle.spec_meaning.specs.Question.{Question, Answer, nodes_in}
use Rattle.spec_meaning.specs.Program.{Program, Give, Ask, Supply, Gives, outcome_of}
use Rattle.spec_meaning.specs.Context.{Context}
use Rattle.spec_meaning.specs.Meaning.{last_of}
use Rattle.spec_transform.specs.Match.{passes, is_root, is_kept, keep_alone, holds_of_one, is_given_below, passes_predicates, passes_step, axis_above, starts_at, when_called, is_free, holds_above, matches_steps, matches_alternative, matches_one, matches}
use Rattle.spec_transform.specs.Position.{read_no_position}
use Rattle.spec_matching.specs.Asked.{TellsApart, is_among, nodes_on, led_to, passes_among, IsAnswered, AreAnswered}
use Rattle.spec_matching.specs.AsExpression.{steps_read, all_kept_by, led_along, started_at}
use Rattle.spec_matching.specs.Tree.{is_there, IsTree}
use Rattle.spec_matching.specs.Given.{IsOneOf, at_the_front, further_on, IsGivenFromAbove, IsStep, AreSteps, AreAlternatives}
use Rattle.spec_matching.proofs.Alone.{then_gave, then_gives}
use Rattle.spec_matching.proofs.Answered.{then_answered, holds_answered, among_answered, asked_alike}
use Rattle.spec_matching.proofs.Leading.{or_left, or_right, and_parts, and_both, by_test, one_value, keep_is, kept_were_there, LedFrom, forward, own_step_from, own_step_where, all_kept_by_answered, own_step_answered, Spreads, FirstLed, led_last, leads_last}

-- ---- What holds of one of some nodes

-- the one of which it holds
record Holder {N : Type 0} (same : N → N → Bool) (ask : Question N → Answer N) (supply : Supply N) (test : N → Program N Bool) (ns : List N) : Type 0 where
  node : N
  is_one : is_among same node ns ≡ true
  holds : outcome_of ask supply (test node) ≡ Gives true

holder : {N : Type 0} (same : N → N → Bool) → TellsApart same → (ask : Question N → Answer N) (supply : Supply N) (test : N → Program N Bool) (ns : List N)
    → outcome_of ask supply (holds_of_one test ns) ≡ Gives true → Holder same ask supply test ns
holder same apart ask supply test [] h = absurd (cc)
holder same apart ask supply test (n ∷ ns) h =
    let next = then_gave ask supply (test n) (λ b. cond b (Give true) (holds_of_one test ns)) true h in
    go next.0 next.1 next.2 (holder same apart ask supply test ns)
  where
    go : (b : Bool) → outcome_of ask supply (test n) ≡ Gives b → outcome_of ask supply (cond b (Give true) (holds_of_one test ns)) ≡ Gives true
        → (outcome_of ask supply (holds_of_one test ns) ≡ Gives true → Holder same ask supply test ns) → Holder same ask supply test (n ∷ ns)
    go true e g rest = record { node = n; is_one = or_left (same n n) (is_among same n ns) (apart n n).0; holds = e }
    go false e g rest =
        let it = rest g in record { node = it.node; is_one = or_right (same it.node n) (is_among same it.node ns) it.is_one; holds = it.holds }

holds_by : {N : Type 0} (same : N → N → Bool) → TellsApart same → (ask : Question N → Answer N) (supply : Supply N) (test : N → Program N Bool)
    → ((n : N) → IsAnswered ask supply (test n)) → (ns : List N) → Holder same ask supply test ns
    → outcome_of ask supply (holds_of_one test ns) ≡ Gives true
holds_by same apart ask supply test answered [] h = let is_one = h.is_one in absurd (cc)
holds_by {N} same apart ask supply test answered (n ∷ ns) h =
    then_gives ask supply (test n) (λ b. cond b (Give true) (holds_of_one test ns)) (answered n).0 (Gives true) (answered n).1
    (go (answered n).0 (answered n).1 (holds_by same apart ask supply test answered ns))
  where
    go : (b : Bool) → outcome_of ask supply (test n) ≡ Gives b
        → (Holder same ask supply test ns → outcome_of ask supply (holds_of_one test ns) ≡ Gives true)
        → outcome_of ask supply (cond b (Give true) (holds_of_one test ns)) ≡ Gives true
    go true e rest = refl
    go false e rest =
        by_test (same h.node n)
        (λ is. let it = subst (λ (x : N). outcome_of ask supply (test x) ≡ Gives true) ((apart h.node n).1 is) h.holds in absurd (cc))
        (λ is. rest (record { node = h.node; is_one = ap (λ t. t || is_among same h.node ns) (sym is) ∙ h.is_one; holds = h.holds }))

-- ---- One step of a pattern

only_parent : {N : Type 0} (same : N → N → Bool) → TellsApart same → (n parent : N) (ns : List N) → ns ≡ parent ∷ [] → is_among same n ns ≡ true → n ≡ parent
only_parent same apart n parent ns above h = go (same n parent) refl (sym (ap (is_among same n) above) ∙ h)
  where
    go : (t : Bool) → same n parent ≡ t → (t || false) ≡ true → n ≡ parent
    go true e g = (apart n parent).1 e
    go false e g = absurd (cc)

sole_parent : {N : Type 0} (same : N → N → Bool) → TellsApart same → (n parent : N) (ns : List N) → ns ≡ parent ∷ [] → is_among same n ns ≡ true → ns ≡ n ∷ []
sole_parent {N} same apart n parent ns above h = above ∙ ap (λ (k : N). k ∷ []) (sym (only_parent same apart n parent ns above h))

is_parent : {N : Type 0} (same : N → N → Bool) → TellsApart same → (parent : N) (ns : List N) → ns ≡ parent ∷ [] → is_among same parent ns ≡ true
is_parent same apart parent ns above = ap (is_among same parent) above ∙ or_left (same parent parent) false (apart parent parent).0

-- in a tree a node that passes the step's test has one parent, from which the step leads to it
pub asked_alike_in_a_tree : {N : Type 0} (same : N → N → Bool) (c : Context N) (s : Step) (n : N) (ask : Question N → Answer N) (supply : Supply N)
    → IsTree same ask → is_pattern_axis s.axis ≡ true → passes s.axis s.test (ask (question.Name n)) ≡ true → read_no_position s.predicates ≡ true
    → AreAnswered ask supply c s.predicates
    → outcome_of ask supply (passes_predicates same c s n) ≡ outcome_of ask supply (passes_among same c s n)
asked_alike_in_a_tree same c s n ask supply tree along passing unmoved answered =
    let up = tree.one_parent n s.axis s.test along passing in
    asked_alike same c s n up.0 ask supply tree.apart unmoved up.1
    (tree.steps n up.0 s.axis s.test along
    ∙ and_both (is_among same up.0 (nodes_on ask axis.Parent n)) (passes s.axis s.test (ask (question.Name n)))
    (is_parent same tree.apart up.0 (nodes_on ask axis.Parent n) up.1) passing) answered

-- asked in either way, what is said of a node that passes the step's test is whether the step gives it from its parent
step_says : {N : Type 0} {same : N → N → Bool} {ask : Question N → Answer N} → IsTree same ask → (supply : Supply N) (c : Context N) (s : PatternStep)
    → IsStep ask supply c s → (n parent : N) (given : List N) → passes s.step.axis s.step.test (ask (question.Name n)) ≡ true
    → nodes_on ask axis.Parent n ≡ parent ∷ [] → outcome_of ask supply (all_kept_by s.step.predicates c (led_to ask s.step parent)) ≡ Gives given
    → outcome_of ask supply (passes_predicates same c s.step n) ≡ Gives (is_among same n given)
step_says {N} {same = same} {ask = ask} tree supply c s is n parent given passing above h =
    by_test (read_no_position s.step.predicates)
    (λ e. asked_alike same c s.step n parent ask supply tree.apart e above among is.answered ∙ of_all)
    (λ e. ap (λ t. outcome_of ask supply (cond t (keep_alone c n s.step.predicates) (passes_among same c s.step n))) e ∙ of_all)
  where
    among : is_among same n (led_to ask s.step parent) ≡ true
    among =
        tree.steps n parent s.step.axis s.step.test is.along
        ∙ and_both (is_among same parent (nodes_on ask axis.Parent n)) (passes s.step.axis s.step.test (ask (question.Name n)))
        (is_parent same tree.apart parent (nodes_on ask axis.Parent n) above) passing

    from_parent : outcome_of ask supply (is_given_below same c s.step n parent) ≡ Gives (is_among same n given)
    from_parent =
        keep_is same tree.apart c n ask supply s.step.predicates (led_to ask s.step parent) given (tree.once parent s.step.axis s.step.test is.along) among h

    ends : (b : Bool) → outcome_of ask supply (cond b (Give true) (holds_of_one (is_given_below same c s.step n) [])) ≡ Gives b
    ends true = refl
    ends false = refl

    of_all : outcome_of ask supply (passes_among same c s.step n) ≡ Gives (is_among same n given)
    of_all =
        ap (λ ps. outcome_of ask supply (holds_of_one (is_given_below same c s.step n) ps)) above
        ∙ then_gives ask supply (is_given_below same c s.step n parent) (λ b. cond b (Give true) (holds_of_one (is_given_below same c s.step n) []))
        (is_among same n given) (Gives (is_among same n given)) from_parent (ends (is_among same n given))

-- ---- That it is answered

alone_answered : {N : Type 0} (ask : Question N → Answer N) (supply : Supply N) (c : Context N) (n : N) (ps : Exprs) → AreAnswered ask supply c ps
    → IsAnswered ask supply (keep_alone c n ps)
alone_answered ask supply c n no_exprs h = (true, refl)
alone_answered ask supply c n (expr p ps) h =
    then_answered ask supply (is_kept p c 1 1 n) (λ b. cond b (keep_alone c n ps) (Give false)) (h.0 n 1 1)
    (λ b. go b (alone_answered ask supply c n ps h.1))
  where
    go : (b : Bool) → IsAnswered ask supply (keep_alone c n ps) → IsAnswered ask supply (cond b (keep_alone c n ps) (Give false))
    go true rest = rest
    go false rest = (false, refl)

either_answered : {N : Type 0} (ask : Question N → Answer N) (supply : Supply N) (b : Bool) (p q : Program N Bool) → IsAnswered ask supply p
    → IsAnswered ask supply q → IsAnswered ask supply (cond b p q)
either_answered ask supply true p q h g = h
either_answered ask supply false p q h g = g

starts_answered : {N : Type 0} (same : N → N → Bool) (ask : Question N → Answer N) (supply : Supply N) (start : Start (List ℕ) Expanded) (n : N)
    (called : Answer N) → IsAnswered ask supply (starts_at same start n called)
starts_answered same ask supply Anywhere n called = (true, refl)
starts_answered same ask supply Root n called = (is_root called, refl)
starts_answered same ask supply (Id text) n called = (false, refl)
starts_answered same ask supply (Key None value) n called = (false, refl)
starts_answered same ask supply (Key (Some name) value) n called = (_, refl)

steps_answered : {N : Type 0} (same : N → N → Bool) (ask : Question N → Answer N) (supply : Supply N) (c : Context N) (start : Start (List ℕ) Expanded)
    (steps : List PatternStep) → AreSteps ask supply c steps → (n : N) (called : Answer N) → IsAnswered ask supply (matches_steps same c start steps n called)
steps_answered same ask supply c start [] h n called = starts_answered same ask supply start n called
steps_answered {N} same ask supply c start (s ∷ before) h n called =
    then_answered ask supply (passes_step same c s.step n called) (λ b. cond b above (Give false))
    (either_answered ask supply (passes s.step.axis s.step.test called) (passes_predicates same c s.step n) (Give false)
    (either_answered ask supply (read_no_position s.step.predicates) (keep_alone c n s.step.predicates) (passes_among same c s.step n)
    (alone_answered ask supply c n s.step.predicates h.0.answered) (among_answered same c s.step n ask supply h.0.answered)) (false, refl))
    (λ b. either_answered ask supply b above (Give false)
    (either_answered ask supply (is_free start before) (Give true)
    (Ask (question.Step n (axis_above s.separator) (OfType type.Node)) (λ a. holds_of_one (when_called (matches_steps same c start before)) (nodes_in a)))
    (true, refl)
    (holds_answered ask supply (when_called (matches_steps same c start before))
    (λ m. steps_answered same ask supply c start before h.1 m (ask (question.Name m))) (nodes_on ask (axis_above s.separator) n))) (false, refl))
  where
    above : Program N Bool
    above = holds_above (is_free start before) (matches_steps same c start before) s.separator n

-- ---- The start

record Started {N : Type 0} (same : N → N → Bool) (ask : Question N → Answer N) (supply : Supply N) (start : Start (List ℕ) Expanded) (above n : N) : Type 0 where
  starts : List N
  started : outcome_of ask supply (started_at start above) ≡ Gives starts
  has : is_among same n starts ≡ true

-- a node at which a pattern starts is given by its start from itself as context
started_itself : {N : Type 0} {same : N → N → Bool} {ask : Question N → Answer N} → IsTree same ask → (supply : Supply N) (start : Start (List ℕ) Expanded)
    (n : N) → is_there ask n ≡ true → outcome_of ask supply (starts_at same start n (ask (question.Name n))) ≡ Gives true
    → Started same ask supply start n n
started_itself {same = same} {ask = ask} tree supply Anywhere n there h =
    record { starts = n ∷ []; started = refl; has = or_left (same n n) false (tree.apart n n).0 }
started_itself {same = same} {ask = ask} tree supply Root n there h =
    let is : is_root (ask (question.Name n)) ≡ true = cc in
    record { starts = last_of (nodes_on ask axis.AncestorOrSelf n); started = refl; has = tree.root n n there there ∙ is }
started_itself tree supply (Id text) n there h = absurd (cc)
started_itself tree supply (Key None value) n there h = absurd (cc)
started_itself {same = same} {ask = ask} tree supply (Key (Some name) value) n there h =
    let is : is_among same n (nodes_in (ask (question.Key name value))) ≡ true = cc in
    record { starts = nodes_in (ask (question.Key name value)); started = refl; has = is }

starts_where_started : {N : Type 0} {same : N → N → Bool} {ask : Question N → Answer N} → IsTree same ask → (supply : Supply N)
    (start : Start (List ℕ) Expanded) (above n : N) → is_there ask above ≡ true → is_there ask n ≡ true → Started same ask supply start above n
    → outcome_of ask supply (starts_at same start n (ask (question.Name n))) ≡ Gives true
starts_where_started tree supply Anywhere above n up there s = refl
starts_where_started {same = same} {ask = ask} tree supply Root above n up there s =
    let started = s.started in
    let same_starts : last_of (nodes_on ask axis.AncestorOrSelf above) ≡ s.starts = cc in
    ap Gives (sym (tree.root above n up there) ∙ ap (is_among same n) same_starts ∙ s.has)
starts_where_started {N} {same = same} tree supply (Id text) above n up there s =
    let started = s.started in
    let none_started : [] ≡ s.starts = cc in
    let has = ap (is_among same n) none_started ∙ s.has in absurd (cc)
starts_where_started {N} {same = same} tree supply (Key None value) above n up there s =
    let started = s.started in
    let none_started : [] ≡ s.starts = cc in
    let has = ap (is_among same n) none_started ∙ s.has in absurd (cc)
starts_where_started {same = same} {ask = ask} tree supply (Key (Some name) value) above n up there s =
    let started = s.started in
    let same_starts : nodes_in (ask (question.Key name value)) ≡ s.starts = cc in
    ap Gives (ap (is_among same n) same_starts ∙ s.has)

-- ---- The steps

-- a node that steps, of which the last comes first, give from a node above as context
record Given {N : Type 0} (same : N → N → Bool) (ask : Question N → Answer N) (supply : Supply N) (c : Context N) (start : Start (List ℕ) Expanded)
    (steps : List PatternStep) (above n : N) : Type 0 where
  starts : List N
  started : outcome_of ask supply (started_at start above) ≡ Gives starts
  nodes : List N
  led : outcome_of ask supply (led_along (steps_read (reverse steps)) c starts) ≡ Gives nodes
  has : is_among same n nodes ≡ true

-- the same, from one of its ancestors-or-self
record GivenAbove {N : Type 0} (same : N → N → Bool) (ask : Question N → Answer N) (supply : Supply N) (c : Context N) (start : Start (List ℕ) Expanded)
    (steps : List PatternStep) (n : N) : Type 0 where
  above : N
  is_above : is_among same above (nodes_on ask axis.AncestorOrSelf n) ≡ true
  given : Given same ask supply c start steps above n

-- what stands before the last step leads, from above, to nodes of which the parent is one
record ParentGiven {N : Type 0} (same : N → N → Bool) (ask : Question N → Answer N) (supply : Supply N) (c : Context N) (start : Start (List ℕ) Expanded)
    (s : PatternStep) (before : List PatternStep) (n parent : N) : Type 0 where
  above : N
  is_above : is_among same above (nodes_on ask axis.AncestorOrSelf n) ≡ true
  starts : List N
  started : outcome_of ask supply (started_at start above) ≡ Gives starts
  nodes : List N
  led : outcome_of ask supply (led_along (steps_read (reverse before)) c starts) ≡ Gives nodes
  spread : List N
  spreads : Spreads ask supply c s.separator nodes spread
  has : is_among same parent spread ≡ true

reversed : {A : Type 0} (x : A) (xs : List A) → reverse (x ∷ xs) ≡ reverse xs ++ x ∷ []
reversed x xs = reverse_onto xs x []

-- after `//` a node and what is below it
spread_wide : {N : Type 0} {same : N → N → Bool} {ask : Question N → Answer N} → IsTree same ask → (supply : Supply N) (c : Context N) (nodes : List N)
    (m parent : N) → is_there ask parent ≡ true → is_among same m nodes ≡ true → is_among same parent (nodes_on ask axis.DescendantOrSelf m) ≡ true
    → (ms : List N) × Spreads ask supply c separators.Descendant nodes ms × (is_among same parent ms ≡ true)
spread_wide {same = same} {ask = ask} tree supply c nodes m parent there has below =
    let wide = own_step_answered ask supply c axis.DescendantOrSelf (OfType type.Node) no_exprs tt nodes in (
      wide.0,
      wide.1,
      own_step_from tree supply parent there axis.DescendantOrSelf refl (OfType type.Node) no_exprs c nodes wide.0 wide.1
          (record { from = m; is_one = has; nodes = nodes_on ask axis.DescendantOrSelf m; gives = refl; has = below }),
    )

-- the nodes above of which what stands before a step holds, and the parent
parent_given : {N : Type 0} {same : N → N → Bool} {ask : Question N → Answer N} → IsTree same ask → (supply : Supply N) (c : Context N)
    (start : Start (List ℕ) Expanded) (s : PatternStep) (before : List PatternStep) (n parent m : N) → nodes_on ask axis.Parent n ≡ parent ∷ []
    → is_among same m (nodes_on ask (axis_above s.separator) n) ≡ true → GivenAbove same ask supply c start before m
    → ParentGiven same ask supply c start s before n parent
parent_given {N} {same = same} {ask = ask} tree supply c start s before n parent m is m_above g = record {
  above = g.above;
  is_above = all.0;
  starts = g.given.starts;
  started = g.given.started;
  nodes = g.given.nodes;
  led = g.given.led;
  spread = all.1;
  spreads = all.2;
  has = all.3;
}
  where
    is_among_parents : is_among same parent (nodes_on ask axis.Parent n) ≡ true
    is_among_parents = is_parent same tree.apart parent (nodes_on ask axis.Parent n) is

    go : (x : Separator) → is_among same m (nodes_on ask (axis_above x) n) ≡ true
        → (is_among same g.above (nodes_on ask axis.AncestorOrSelf n) ≡ true) × (ms : List N) × Spreads ask supply c x g.given.nodes ms
        × (is_among same parent ms ≡ true)
    go separators.Child h =
        let alike = only_parent same tree.apart m parent (nodes_on ask axis.Parent n) is h in
        let over = subst (λ (k : N). is_among same k (nodes_on ask axis.Ancestor n) ≡ true) (sym alike) (tree.parent_above n parent is_among_parents) in
        (tree.above n m g.above over g.is_above, g.given.nodes, refl, subst (λ (k : N). is_among same k g.given.nodes ≡ true) alike g.given.has)
    go separators.Descendant h =
        let below = sym (tree.below n parent m is_among_parents) ∙ h in
        let wide = spread_wide tree supply c g.given.nodes m parent (tree.there axis.Parent n parent is_among_parents) g.given.has below in
        (tree.above n m g.above h g.is_above, wide.0, wide.1, wide.2)

    all : (is_among same g.above (nodes_on ask axis.AncestorOrSelf n) ≡ true) × (ms : List N) × Spreads ask supply c s.separator g.given.nodes ms
        × (is_among same parent ms ≡ true)
    all = go s.separator m_above

-- a pattern that starts anywhere starts at the parent
free_parent : {N : Type 0} {same : N → N → Bool} {ask : Question N → Answer N} → IsTree same ask → (supply : Supply N) (c : Context N)
    (start : Start (List ℕ) Expanded) (s : PatternStep) (before : List PatternStep) (n parent : N) → nodes_on ask axis.Parent n ≡ parent ∷ []
    → is_free start before ≡ true → ParentGiven same ask supply c start s before n parent
free_parent tree supply c Root s before n parent is h = absurd (cc)
free_parent tree supply c (Id text) s before n parent is h = absurd (cc)
free_parent tree supply c (Key name value) s before n parent is h = absurd (cc)
free_parent tree supply c Anywhere s (b ∷ before) n parent is h = absurd (cc)
free_parent {N} {same = same} {ask = ask} tree supply c Anywhere s [] n parent is h = record {
  above = parent;
  is_above = tree.above n parent parent over (tree.itself parent there);
  starts = parent ∷ [];
  started = refl;
  nodes = parent ∷ [];
  led = refl;
  spread = all.0;
  spreads = all.1;
  has = all.2;
}
  where
    is_among_parents : is_among same parent (nodes_on ask axis.Parent n) ≡ true
    is_among_parents = is_parent same tree.apart parent (nodes_on ask axis.Parent n) is

    there : is_there ask parent ≡ true
    there = tree.there axis.Parent n parent is_among_parents

    over : is_among same parent (nodes_on ask axis.Ancestor n) ≡ true
    over = tree.parent_above n parent is_among_parents

    itself : is_among same parent (parent ∷ []) ≡ true
    itself = or_left (same parent parent) false (tree.apart parent parent).0

    go : (x : Separator) → (ms : List N) × Spreads ask supply c x (parent ∷ []) ms × (is_among same parent ms ≡ true)
    go separators.Child = (parent ∷ [], refl, itself)
    go separators.Descendant =
        spread_wide tree supply c (parent ∷ []) parent parent there itself (sym (tree.below n parent parent is_among_parents) ∙ over)

    all : (ms : List N) × Spreads ask supply c s.separator (parent ∷ []) ms × (is_among same parent ms ≡ true)
    all = go s.separator

-- where the parent is given and the step gives the node from its parent, the node is given
given_by_parent : {N : Type 0} {same : N → N → Bool} {ask : Question N → Answer N} → IsTree same ask → (supply : Supply N) (c : Context N)
    (start : Start (List ℕ) Expanded) (s : PatternStep) (before : List PatternStep) → IsStep ask supply c s → (n parent : N) (nodes : List N)
    → is_there ask n ≡ true → outcome_of ask supply (all_kept_by s.step.predicates c (led_to ask s.step parent)) ≡ Gives nodes
    → is_among same n nodes ≡ true → ParentGiven same ask supply c start s before n parent → GivenAbove same ask supply c start (s ∷ before) n
given_by_parent {N} {same = same} {ask = ask} tree supply c start s before is n parent nodes there h has g =
    let own = own_step_answered ask supply c s.step.axis s.step.test s.step.predicates is.answered g.spread in
    let led = leads_last ask supply c (reverse before) s g.starts g.nodes own.0 g.led
    (record { spread = g.spread; spreads = g.spreads; own = own.0; leads = own.1; goes_on = refl }) in
    record {
      above = g.above;
      is_above = g.is_above;
      given = record {
        starts = g.starts;
        started = g.started;
        nodes = own.0;
        led = ap (λ ss. outcome_of ask supply (led_along (steps_read ss) c g.starts)) (reversed s before) ∙ led;
        has = own_step_from tree supply n there s.step.axis (forward s.step.axis is.along) s.step.test s.step.predicates c g.spread own.0 own.1
            (record { from = parent; is_one = g.has; nodes = nodes; gives = h; has = has });
      };
    }

true_both : {N : Type 0} (ask : Question N → Answer N) (supply : Supply N) (b : Bool) (p : Program N Bool)
    → outcome_of ask supply (cond b p (Give false)) ≡ Gives true → (b ≡ true) × (outcome_of ask supply p ≡ Gives true)
true_both ask supply true p h = (refl, h)
true_both ask supply false p h = absurd (cc)

matched_is_given : {N : Type 0} {same : N → N → Bool} {ask : Question N → Answer N} → IsTree same ask → (supply : Supply N) (c : Context N)
    (start : Start (List ℕ) Expanded) (steps : List PatternStep) → AreSteps ask supply c steps → (n : N) → is_there ask n ≡ true
    → outcome_of ask supply (matches_steps same c start steps n (ask (question.Name n))) ≡ Gives true → GivenAbove same ask supply c start steps n
matched_is_given {same = same} {ask = ask} tree supply c start [] are n there h =
    let s = started_itself tree supply start n there h in
    record {
      above = n;
      is_above = tree.itself n there;
      given = record { starts = s.starts; started = s.started; nodes = s.starts; led = refl; has = s.has };
    }
matched_is_given {N} {same = same} {ask = ask} tree supply c start (s ∷ before) are n there h =
    let called = ask (question.Name n) in
    let test = matches_steps same c start before in
    let next = then_gave ask supply (passes_step same c s.step n called)
    (λ b. cond b (holds_above (is_free start before) test s.separator n) (Give false)) true h in
    let above = true_both ask supply next.0 (holds_above (is_free start before) test s.separator n) next.2 in
    let own = true_both ask supply (passes s.step.axis s.step.test called) (passes_predicates same c s.step n) (next.1 ∙ ap Gives above.0) in
    let up = tree.one_parent n s.step.axis s.step.test are.0.along own.0 in
    let kept = all_kept_by_answered ask supply c s.step.predicates are.0.answered (led_to ask s.step up.0) in
    let has = one_value (outcome_of ask supply (passes_predicates same c s.step n)) (is_among same n kept.0) true
    (step_says tree supply c s are.0 n up.0 kept.0 own.0 up.1 kept.1) own.1 in
    given_by_parent tree supply c start s before are.0 n up.0 kept.0 there kept.1 has
    (by_test (is_free start before) (λ e. free_parent tree supply c start s before n up.0 up.1 e)
    (λ e. let one = holder same tree.apart ask supply (when_called test) (nodes_on ask (axis_above s.separator) n)
    (sym (ap (λ t. outcome_of ask supply (holds_above t test s.separator n)) e) ∙ above.1) in
    parent_given tree supply c start s before n up.0 one.node up.1 one.is_one
    (matched_is_given tree supply c start before are.1 one.node (tree.there (axis_above s.separator) n one.node one.is_one) one.holds)))

-- ---- The other way

-- a node above of which what stands before the step holds
holder_above : {N : Type 0} {same : N → N → Bool} {ask : Question N → Answer N} → IsTree same ask → (supply : Supply N) (c : Context N)
    (start : Start (List ℕ) Expanded) (before : List PatternStep) (x : Separator) (n parent : N) (nodes spread : List N)
    → is_among same parent (nodes_on ask axis.Parent n) ≡ true → Spreads ask supply c x nodes spread → is_among same parent spread ≡ true
    → ((m : N) → is_there ask m ≡ true → is_among same m nodes ≡ true
    → outcome_of ask supply (matches_steps same c start before m (ask (question.Name m))) ≡ Gives true)
    → Holder same ask supply (when_called (matches_steps same c start before)) (nodes_on ask (axis_above x) n)
holder_above {N} {same = same} {ask = ask} tree supply c start before separators.Child n parent nodes spread is spreads has so = record {
  node = parent;
  is_one = is;
  holds = so parent (tree.there axis.Parent n parent is) (ap (is_among same parent) spreads ∙ has);
}
holder_above {N} {same = same} {ask = ask} tree supply c start before separators.Descendant n parent nodes spread is spreads has so =
    let from = own_step_where tree supply parent (tree.there axis.Parent n parent is) axis.DescendantOrSelf refl (OfType type.Node) no_exprs c nodes spread spreads has in
    let gives = from.gives in
    let these : nodes_on ask axis.DescendantOrSelf from.from ≡ from.nodes = cc in
    let over = tree.below n parent from.from is ∙ ap (is_among same parent) these ∙ from.has in
    record { node = from.from; is_one = over; holds = so from.from (tree.there axis.Ancestor n from.from over) from.is_one }

-- where the step gives the node from its parent, to which what stands before it leads, it matches
matched_from : {N : Type 0} {same : N → N → Bool} {ask : Question N → Answer N} → IsTree same ask → (supply : Supply N) (c : Context N)
    (start : Start (List ℕ) Expanded) (s : PatternStep) (before : List PatternStep) → IsStep ask supply c s → AreSteps ask supply c before → (n : N)
    (nodes spread : List N) → Spreads ask supply c s.separator nodes spread
    → LedFrom same ask supply (all_kept_by s.step.predicates c) s.step.axis s.step.test spread n
    → ((m : N) → is_there ask m ≡ true → is_among same m nodes ≡ true
    → outcome_of ask supply (matches_steps same c start before m (ask (question.Name m))) ≡ Gives true)
    → outcome_of ask supply (matches_steps same c start (s ∷ before) n (ask (question.Name n))) ≡ Gives true
matched_from {N} {same = same} {ask = ask} tree supply c start s before is are n nodes spread spreads from so =
    let among = kept_were_there same c n ask supply s.step.predicates (led_to ask s.step from.from) from.nodes from.gives from.has in
    let parts = and_parts (is_among same from.from (nodes_on ask axis.Parent n)) (passes s.step.axis s.step.test (ask (question.Name n)))
    (sym (tree.steps n from.from s.step.axis s.step.test is.along) ∙ among) in
    let over = tree.one_parent n s.step.axis s.step.test is.along parts.1 in
    let sole = sole_parent same tree.apart from.from over.0 (nodes_on ask axis.Parent n) over.1 parts.0 in
    let says = step_says tree supply c s is n from.from from.nodes parts.1 sole from.gives ∙ ap Gives from.has in
    let test = matches_steps same c start before in
    let one = holder_above tree supply c start before s.separator n from.from nodes spread parts.0 spreads from.is_one so in
    then_gives ask supply (passes_step same c s.step n (ask (question.Name n)))
    (λ b. cond b (holds_above (is_free start before) test s.separator n) (Give false)) true (Gives true)
    (ap (λ t. outcome_of ask supply (cond t (passes_predicates same c s.step n) (Give false))) parts.1 ∙ says)
    (free_or_not (is_free start before) (holds_by same tree.apart ask supply (when_called test)
    (λ m. steps_answered same ask supply c start before are m (ask (question.Name m))) (nodes_on ask (axis_above s.separator) n) one))
  where
    free_or_not : (t : Bool)
        → outcome_of ask supply (holds_of_one (when_called (matches_steps same c start before)) (nodes_on ask (axis_above s.separator) n)) ≡ Gives true
        → outcome_of ask supply (holds_above t (matches_steps same c start before) s.separator n) ≡ Gives true
    free_or_not true h = refl
    free_or_not false h = h

-- the same, where the step gives the node of all that it gives
matched_by_last : {N : Type 0} {same : N → N → Bool} {ask : Question N → Answer N} → IsTree same ask → (supply : Supply N) (c : Context N)
    (start : Start (List ℕ) Expanded) (s : PatternStep) (before : List PatternStep) → IsStep ask supply c s → AreSteps ask supply c before → (n : N)
    → is_there ask n ≡ true → (ks nodes : List N) → FirstLed ask supply c s [] ks nodes → is_among same n nodes ≡ true
    → ((m : N) → is_there ask m ≡ true → is_among same m ks ≡ true
    → outcome_of ask supply (matches_steps same c start before m (ask (question.Name m))) ≡ Gives true)
    → outcome_of ask supply (matches_steps same c start (s ∷ before) n (ask (question.Name n))) ≡ Gives true
matched_by_last {same = same} {ask = ask} tree supply c start s before is are n there ks nodes f has so =
    let ends = f.goes_on in
    let these : f.own ≡ nodes = cc in
    matched_from tree supply c start s before is are n ks f.spread f.spreads
    (own_step_where tree supply n there s.step.axis (forward s.step.axis is.along) s.step.test s.step.predicates c f.spread f.own f.leads
    (ap (is_among same n) these ∙ has)) so

given_is_matched : {N : Type 0} {same : N → N → Bool} {ask : Question N → Answer N} → IsTree same ask → (supply : Supply N) (c : Context N)
    (start : Start (List ℕ) Expanded) (steps : List PatternStep) → AreSteps ask supply c steps → (above n : N) → is_there ask above ≡ true
    → is_there ask n ≡ true → Given same ask supply c start steps above n
    → outcome_of ask supply (matches_steps same c start steps n (ask (question.Name n))) ≡ Gives true
given_is_matched {same = same} {ask = ask} tree supply c start [] are above n up there g =
    let led = g.led in
    let these : g.starts ≡ g.nodes = cc in
    starts_where_started tree supply start above n up there
    (record { starts = g.starts; started = g.started; has = ap (is_among same n) these ∙ g.has })
given_is_matched {N} {same = same} {ask = ask} tree supply c start (s ∷ before) are above n up there g =
    let led = ap (λ ss. outcome_of ask supply (led_along (steps_read ss) c g.starts)) (sym (reversed s before)) ∙ g.led in
    let last = led_last ask supply c (reverse before) s g.starts g.nodes led in
    matched_by_last tree supply c start s before are.0 are.1 n there last.0 g.nodes last.2 g.has
    (λ m m_there m_has. given_is_matched tree supply c start before are.1 above m up m_there
    (record { starts = g.starts; started = g.started; nodes = last.0; led = last.1; has = m_has }))

-- ---- Patterns

steps_turned : {N : Type 0} (ask : Question N → Answer N) (supply : Supply N) (c : Context N) (xs ys : List PatternStep) → AreSteps ask supply c xs
    → AreSteps ask supply c ys → AreSteps ask supply c (reverse_aux xs ys)
steps_turned ask supply c [] ys h g = g
steps_turned ask supply c (x ∷ xs) ys h g = steps_turned ask supply c xs (x ∷ ys) h.1 (h.0, g)

-- an alternative that matches
record MatchedBy {N : Type 0} (same : N → N → Bool) (ask : Question N → Answer N) (supply : Supply N) (c : Context N) (alternatives : List Alternative) (n : N)
    : Type 0 where
  alternative : Alternative
  is_one : IsOneOf alternative alternatives
  steps : AreSteps ask supply c (reverse alternative.steps)
  matched : outcome_of ask supply (matches_steps same c alternative.start (reverse alternative.steps) n (ask (question.Name n))) ≡ Gives true

matched_by : {N : Type 0} (same : N → N → Bool) (ask : Question N → Answer N) (supply : Supply N) (c : Context N) (alternatives : List Alternative) (n : N)
    → AreAlternatives ask supply c alternatives → outcome_of ask supply (matches_one same c alternatives n (ask (question.Name n))) ≡ Gives true
    → MatchedBy same ask supply c alternatives n
matched_by same ask supply c [] n are h = absurd (cc)
matched_by same ask supply c (a ∷ more) n are h =
    let called = ask (question.Name n) in
    let next = then_gave ask supply (matches_alternative same c a n called) (λ b. cond b (Give true) (matches_one same c more n called)) true h in
    go next.0 next.1 next.2 (matched_by same ask supply c more n are.1)
  where
    go : (b : Bool) → outcome_of ask supply (matches_alternative same c a n (ask (question.Name n))) ≡ Gives b
        → outcome_of ask supply (cond b (Give true) (matches_one same c more n (ask (question.Name n)))) ≡ Gives true
        → (outcome_of ask supply (matches_one same c more n (ask (question.Name n))) ≡ Gives true → MatchedBy same ask supply c more n)
        → MatchedBy same ask supply c (a ∷ more) n
    go true e g rest = record { alternative = a; is_one = at_the_front; steps = steps_turned ask supply c a.steps [] are.0 tt; matched = e }
    go false e g rest =
        let it = rest g in record { alternative = it.alternative; is_one = further_on it.is_one; steps = it.steps; matched = it.matched }

one_matches : {N : Type 0} (same : N → N → Bool) (ask : Question N → Answer N) (supply : Supply N) (c : Context N) (a : Alternative)
    (alternatives : List Alternative) (n : N) → IsOneOf a alternatives → AreAlternatives ask supply c alternatives
    → outcome_of ask supply (matches_alternative same c a n (ask (question.Name n))) ≡ Gives true
    → outcome_of ask supply (matches_one same c alternatives n (ask (question.Name n))) ≡ Gives true
one_matches same ask supply c a _ n (at_the_front {xs = more}) are h =
    then_gives ask supply (matches_alternative same c a n (ask (question.Name n)))
    (λ b. cond b (Give true) (matches_one same c more n (ask (question.Name n)))) true (Gives true) h refl
one_matches same ask supply c a _ n (further_on {y = b} {ys = more} i) are h =
    let said = steps_answered same ask supply c b.start (reverse b.steps) (steps_turned ask supply c b.steps [] are.0 tt) n (ask (question.Name n)) in
    then_gives ask supply (matches_alternative same c b n (ask (question.Name n)))
    (λ t. cond t (Give true) (matches_one same c more n (ask (question.Name n)))) said.0 (Gives true) said.1
    (go said.0 (one_matches same ask supply c a more n i are.1 h))
  where
    go : (t : Bool) → outcome_of ask supply (matches_one same c more n (ask (question.Name n))) ≡ Gives true
        → outcome_of ask supply (cond t (Give true) (matches_one same c more n (ask (question.Name n)))) ≡ Gives true
    go true g = refl
    go false g = g

its_steps : {N : Type 0} (ask : Question N → Answer N) (supply : Supply N) (c : Context N) (a : Alternative) (alternatives : List Alternative)
    → IsOneOf a alternatives → AreAlternatives ask supply c alternatives → AreSteps ask supply c a.steps
its_steps ask supply c a _ at_the_front are = are.0
its_steps ask supply c a _ (further_on {ys = more} i) are = its_steps ask supply c a more i are.1

pub given_where_matched : {N : Type 0} (same : N → N → Bool) (ask : Question N → Answer N) (supply : Supply N) (c : Context N) (pattern : Pattern) (n : N)
    → IsTree same ask → is_there ask n ≡ true → AreAlternatives ask supply c pattern.alternatives
    → outcome_of ask supply (matches same c pattern n) ≡ Gives true → IsGivenFromAbove same ask supply c pattern n
given_where_matched same ask supply c pattern n tree there are h =
    let by = matched_by same ask supply c pattern.alternatives n are h in
    let g = matched_is_given tree supply c by.alternative.start (reverse by.alternative.steps) by.steps n there by.matched in
    record {
      above = g.above;
      is_above = g.is_above;
      alternative = by.alternative;
      is_one = by.is_one;
      nodes = g.given.nodes;
      gives = then_gives ask supply (started_at by.alternative.start g.above) (λ ns. led_along (steps_read by.alternative.steps) c ns) g.given.starts
          (Gives g.given.nodes) g.given.started
          (ap (λ ss. outcome_of ask supply (led_along (steps_read ss) c g.given.starts)) (sym (reverse-reverse by.alternative.steps)) ∙ g.given.led);
      has = g.given.has;
    }

pub matched_where_given : {N : Type 0} (same : N → N → Bool) (ask : Question N → Answer N) (supply : Supply N) (c : Context N) (pattern : Pattern) (n : N)
    → IsTree same ask → is_there ask n ≡ true → AreAlternatives ask supply c pattern.alternatives
    → IsGivenFromAbove same ask supply c pattern n → outcome_of ask supply (matches same c pattern n) ≡ Gives true
matched_where_given same ask supply c pattern n tree there are g =
    let a = g.alternative in
    let next = then_gave ask supply (started_at a.start g.above) (λ ns. led_along (steps_read a.steps) c ns) g.nodes g.gives in
    let its = its_steps ask supply c a pattern.alternatives g.is_one are in
    one_matches same ask supply c a pattern.alternatives n g.is_one are
    (given_is_matched tree supply c a.start (reverse a.steps) (steps_turned ask supply c a.steps [] its tt) g.above n
    (tree.there axis.AncestorOrSelf n g.above g.is_above) there
    (record {
      starts = next.0;
      started = next.1;
      nodes = g.nodes;
      led = ap (λ ss. outcome_of ask supply (led_along (steps_read ss) c next.0)) (reverse-reverse a.steps) ∙ next.2;
      has = g.has;
    }))
