-- The productions of steps, and of lists of steps.
use Rattle.std.proofs.Common.{◌≡◌, ◌<◌, List, [], ◌∷◌, ◌++◌, None, Result, Ok, Err, refl, ap, ◌∙◌, sym, subst, append_assoc, arith}
use Rattle.spec_document.specs.Name.{QName}
use Rattle.spec_document.specs.Scope.{Scope}
use Rattle.spec_document.specs.declared.axis.Axis.{Axis}
use Rattle.spec_document.specs.declared.axis.Axis.TheVariants.{DescendantOrSelf, Itself, Parent}
use Rattle.spec_expression.specs.Token.{Token, Dot, DotDot, ColonColon, Slash, SlashSlash, Name}
use Rattle.spec_expression.specs.Syntax.{Test, Expr, exprs, Step, node_on}
use Rattle.spec_expression.specs.Grammar as g
use Rattle.spec_expression.specs.Grammar.{axis_of, ReadsPredicates, ReadsRelative, ReadsSteps, ReadsStep, ReadsTest}
use Rattle.spec_expression.proofs.Rank.{head_rank}
use Rattle.spec_expression.proofs.Ranks.{predicates_stop, steps_stop}
use Rattle.xp_parse.specs.Reading.{Read, Nothing, Returns, Behind, IsNotNext, ReadsAxis, named, attribute, absent, IsNoAxis}
use Rattle.xp_parse.specs.declared.fault.ParseFault.{ParseFault}
use Rattle.xp_parse.specs.declared.fault.ParseFault.TheVariants.{Memory, Refused}
use Rattle.spec_expression.specs.declared.ExpressionRefusal.TheVariants.{Syntax, Depth, Number as BadNumber, Prefix}
use Rattle.xp_parse.proofs.Lists.{Continues, more, ended}

-- steps
child_back : {s : Scope} {ts us vs : List Token} {x : Step} {xs : List Step} → Read (ReadsStep s) 10 ts x us → ReadsSteps s (Slash ∷ ts) xs vs
    → head_rank vs < 9 → (ys : List Step) × (xs ≡ (x ∷ []) ++ ys) × ReadsSteps s us ys vs
child_back r g.no_step h = absurd (omega arith)
child_back {s = s} {vs = vs} r (g.child (g.steps {ss = ss} p z)) h =
    let d = r.only _ _ p (steps_stop z h) in
    (ss, ap (λ (q : Step). q ∷ ss) (sym d.0), subst (λ (zs : List Token). ReadsSteps s zs ss vs) (sym d.1) z)

pub child_more : {s : Scope} {from ts us : List Token} {done : List Step} {x : Step} → Read (ReadsStep s) 10 ts x us
    → Continues (ReadsSteps s) 9 from done (Slash ∷ ts) → Continues (ReadsSteps s) 9 from (done ++ x ∷ []) us
child_more {s = s} {from = from} {ts = ts} {us = us} {done = done} r k =
    more (ReadsSteps s) 9 from (Slash ∷ ts) us done _ k (λ xs vs p. g.child (g.steps r.reads p)) (λ xs vs p q. child_back r p q)

child_none : {s : Scope} {ts vs : List Token} {ys : List Step} → Nothing (ReadsStep s) 10 ts → ReadsSteps s (Slash ∷ ts) ys vs → head_rank vs < 9 → ⊥
child_none n g.no_step h = omega arith
child_none n (g.child (g.steps p z)) h = n.none _ _ p (steps_stop z h)

pub child_fail : {s : Scope} {ts : List Token} → Nothing (ReadsStep s) 10 ts → Nothing (ReadsSteps s) 9 (Slash ∷ ts)
child_fail n = record { none = λ y vs p h. child_none n p h }

descendant_back : {s : Scope} {ts us vs : List Token} {x : Step} {xs : List Step} → Read (ReadsStep s) 10 ts x us → ReadsSteps s (SlashSlash ∷ ts) xs vs
    → head_rank vs < 9
    → (ys : List Step) × (xs ≡ (node_on DescendantOrSelf ∷ x ∷ []) ++ ys) × ReadsSteps s us ys vs
descendant_back r g.no_step h = absurd (omega arith)
descendant_back {s = s} {vs = vs} r (g.descendant (g.steps {ss = ss} p z)) h =
    let d = r.only _ _ p (steps_stop z h) in
    (ss, ap (λ (q : Step). node_on DescendantOrSelf ∷ q ∷ ss) (sym d.0), subst (λ (zs : List Token). ReadsSteps s zs ss vs) (sym d.1) z)

pub descendant_more : {s : Scope} {from ts us : List Token} {done : List Step} {x : Step} → Read (ReadsStep s) 10 ts x us
    → Continues (ReadsSteps s) 9 from done (SlashSlash ∷ ts)
    → Continues (ReadsSteps s) 9 from (done ++ node_on DescendantOrSelf ∷ x ∷ []) us
descendant_more {s = s} {from = from} {ts = ts} {us = us} {done = done} r k =
    more (ReadsSteps s) 9 from (SlashSlash ∷ ts) us done _ k (λ xs vs p. g.descendant (g.steps r.reads p)) (λ xs vs p q. descendant_back r p q)

descendant_none : {s : Scope} {ts vs : List Token} {ys : List Step} → Nothing (ReadsStep s) 10 ts → ReadsSteps s (SlashSlash ∷ ts) ys vs → head_rank vs < 9 → ⊥
descendant_none n g.no_step h = omega arith
descendant_none n (g.descendant (g.steps p z)) h = n.none _ _ p (steps_stop z h)

pub descendant_fail : {s : Scope} {ts : List Token} → Nothing (ReadsStep s) 10 ts → Nothing (ReadsSteps s) 9 (SlashSlash ∷ ts)
descendant_fail n = record { none = λ y vs p h. descendant_none n p h }

steps_over : {s : Scope} {ts vs : List Token} {ys : List Step} → IsNotNext ts Slash → IsNotNext ts SlashSlash → ReadsSteps s ts ys vs → (ys ≡ []) × (vs ≡ ts)
steps_over c d g.no_step = (refl, refl)
steps_over c d (g.child p) = absurd (c.different _ refl)
steps_over c d (g.descendant p) = absurd (d.different _ refl)

pub steps_end : {s : Scope} {from ts : List Token} {done : List Step} → IsNotNext ts Slash → IsNotNext ts SlashSlash → Continues (ReadsSteps s) 9 from done ts
    → Read (ReadsSteps s) 9 from done ts
steps_end {s = s} {from = from} {ts = ts} {done = done} c d k = ended (ReadsSteps s) 9 from ts ts done k g.no_step (λ ys vs p. steps_over c d p)

steps_none : {s : Scope} {ts ws : List Token} {ys : List Step} → Nothing (ReadsStep s) 10 ts → ReadsRelative s ts ys ws → head_rank ws < 9 → ⊥
steps_none n (g.steps p q) h = n.none _ _ p (steps_stop q h)

pub steps_fail : {s : Scope} {ts : List Token} → Nothing (ReadsStep s) 10 ts → Nothing (ReadsRelative s) 9 ts
steps_fail n = record { none = λ y ws p h. steps_none n p h }

-- steps, by their axis
dot_only : {s : Scope} {ts ws : List Token} {y : Step} → ReadsStep s (Dot ∷ ts) y ws → (node_on Itself ≡ y) × (ts ≡ ws)
dot_only g.itself = (refl, refl)
dot_only (g.on_children t ps) = elim t [ ]

pub dot_read : {s : Scope} {ts : List Token} → Read (ReadsStep s) 10 (Dot ∷ ts) (node_on Itself) ts
dot_read = record { reads = g.itself; only = λ y ws p h. dot_only p }

dots_only : {s : Scope} {ts ws : List Token} {y : Step} → ReadsStep s (DotDot ∷ ts) y ws → (node_on Parent ≡ y) × (ts ≡ ws)
dots_only g.parent = (refl, refl)
dots_only (g.on_children t ps) = elim t [ ]

pub dots_read : {s : Scope} {ts : List Token} → Read (ReadsStep s) 10 (DotDot ∷ ts) (node_on Parent) ts
dots_read = record { reads = g.parent; only = λ y ws p h. dots_only p }

-- a step whose axis is read is that axis, a test and predicates
pub record Stepped (s : Scope) (axis : Axis) (ts : List Token) (y : Step) (ws : List Token) : Type 0 where
  pub test : Test
  pub behind : List Token
  pub predicates : List Expr
  pub is : y ≡ record { axis = axis; test = test; predicates = exprs predicates }
  pub tested : ReadsTest s ts test behind
  pub rest : ReadsPredicates s behind predicates ws

axis_is_no_test : {s : Scope} {q : QName} {ts us : List Token} {t : Test} → ReadsTest s (Name q ∷ ColonColon ∷ ts) t us → head_rank us < 11 → ⊥
axis_is_no_test g.named p = omega arith

step_parts : {s : Scope} {ts us ws : List Token} {a : Axis} {y : Step} → ReadsAxis ts a us → ReadsStep s ts y ws → head_rank ws < 10 → Stepped s a us y ws
step_parts (named e) (g.on_axis {t = t} {ps = ps} f x z) h =
    record { test = t; behind = _; predicates = ps; is = let i = e in let j = f in cc; tested = x; rest = z }
step_parts (named e) (g.on_children x z) h = absurd (axis_is_no_test x (predicates_stop z h))
step_parts attribute (g.on_attributes {t = t} {ps = ps} x z) h = record { test = t; behind = _; predicates = ps; is = refl; tested = x; rest = z }
step_parts attribute (g.on_children x z) h = elim x [ ]
step_parts (absent d e c n) g.itself h = absurd (d.different _ refl)
step_parts (absent d e c n) g.parent h = absurd (e.different _ refl)
step_parts (absent d e c n) (g.on_axis f x z) h = absurd (n.none _ _ refl)
step_parts (absent d e c n) (g.on_attributes x z) h = absurd (c.different _ refl)
step_parts (absent d e c n) (g.on_children {t = t} {ps = ps} x z) h = record { test = t; behind = _; predicates = ps; is = refl; tested = x; rest = z }

step_reads : {s : Scope} {ts us vs ws : List Token} {a : Axis} {t : Test} {ps : List Expr} → ReadsAxis ts a us → ReadsTest s us t vs
    → ReadsPredicates s vs ps ws → ReadsStep s ts (record { axis = a; test = t; predicates = exprs ps }) ws
step_reads (named e) x z = g.on_axis e x z
step_reads attribute x z = g.on_attributes x z
step_reads (absent d e c n) x z = g.on_children x z

step_only : {s : Scope} {us vs ws zs : List Token} {a : Axis} {t : Test} {ps : List Expr} {y : Step} → Read (ReadsTest s) 11 us t vs
    → Read (ReadsPredicates s) 10 vs ps ws → Stepped s a us y zs → head_rank zs < 10
    → (record { axis = a; test = t; predicates = exprs ps } ≡ y) × (ws ≡ zs)
step_only {s = s} {zs = zs} {a = a} {t = t} {ps = ps} r x q h =
    let i = r.only _ _ q.tested (predicates_stop q.rest h) in
    let j = x.only _ _ (subst (λ (ts : List Token). ReadsPredicates s ts q.predicates zs) (sym i.1) q.rest) h in
    let by_test : Test → Step = λ k. record { axis = a; test = k; predicates = exprs ps } in
    let by_predicates : List Expr → Step = λ k. record { axis = a; test = q.test; predicates = exprs k } in
    (ap by_test i.0 ∙ ap by_predicates j.0 ∙ sym q.is, j.1)

pub step_read : {s : Scope} {ts us vs ws : List Token} {a : Axis} {t : Test} {ps : List Expr} → ReadsAxis ts a us → Read (ReadsTest s) 11 us t vs
    → Read (ReadsPredicates s) 10 vs ps ws
    → Read (ReadsStep s) 10 ts (record { axis = a; test = t; predicates = exprs ps }) ws
step_read b r x = record { reads = step_reads b r.reads x.reads; only = λ y zs p h. step_only r x (step_parts b p h) h }

step_no_test : {s : Scope} {us zs : List Token} {a : Axis} {y : Step} → Nothing (ReadsTest s) 11 us → Stepped s a us y zs → head_rank zs < 10 → ⊥
step_no_test n q h = n.none _ _ q.tested (predicates_stop q.rest h)

pub step_fail : {s : Scope} {ts us : List Token} {a : Axis} → ReadsAxis ts a us → Nothing (ReadsTest s) 11 us → Nothing (ReadsStep s) 10 ts
step_fail b n = record { none = λ y zs p h. step_no_test n (step_parts b p h) h }

step_no_predicates : {s : Scope} {us vs zs : List Token} {a : Axis} {t : Test} {y : Step} → Read (ReadsTest s) 11 us t vs → Nothing (ReadsPredicates s) 10 vs
    → Stepped s a us y zs → head_rank zs < 10 → ⊥
step_no_predicates {s = s} {zs = zs} r n q h =
    let i = r.only _ _ q.tested (predicates_stop q.rest h) in
    n.none _ _ (subst (λ (ts : List Token). ReadsPredicates s ts q.predicates zs) (sym i.1) q.rest) h

pub step_fail_later : {s : Scope} {ts us vs : List Token} {a : Axis} {t : Test} → ReadsAxis ts a us → Read (ReadsTest s) 11 us t vs
    → Nothing (ReadsPredicates s) 10 vs → Nothing (ReadsStep s) 10 ts
step_fail_later b r n = record { none = λ y zs p h. step_no_predicates r n (step_parts b p h) h }

no_axis_step : {s : Scope} {q : QName} {ts ws : List Token} {y : Step} → axis_of q ≡ None → ReadsStep s (Name q ∷ ColonColon ∷ ts) y ws → head_rank ws < 10 → ⊥
no_axis_step e (g.on_axis f x z) h = cc
no_axis_step e (g.on_children x z) h = axis_is_no_test x (predicates_stop z h)

pub axis_fail : {s : Scope} {ts : List Token} → IsNoAxis ts → Nothing (ReadsStep s) 10 ts
axis_fail {s = s} i = record { none = λ y ws p h. no_axis_step i.unknown (subst (λ (ts : List Token). ReadsStep s ts y ws) i.is p) h }

-- a relative path, from its first step and the steps behind it
after_first : {s : Scope} (front : List Step) {ms : List Step} {ts us vs ws : List Token} {x : Step} {zs : List Step} → Read (ReadsStep s) 10 ts x us
    → Read (Behind (front ++ x ∷ []) (ReadsSteps s)) 9 us zs vs → ReadsRelative s ts ms ws → head_rank ws < 9
    → (zs ≡ front ++ ms) × (vs ≡ ws)
after_first {s = s} front {x = x} r z (g.steps {vs = ws} {ss = rs} a b) h =
    let i = r.only _ _ a (steps_stop b h) in
    let b1 = subst (λ (ts : List Token). ReadsSteps s ts rs ws) (sym i.1) b in
    let j = z.only ((front ++ x ∷ []) ++ rs) ws (record { more = rs; whole = refl; reads = b1 }) h in
    (j.0 ∙ append_assoc front (x ∷ []) rs ∙ ap (λ (k : Step). front ++ k ∷ rs) i.0, j.1)

no_first : {s : Scope} (front : List Step) {ms : List Step} {ts us ws : List Token} {x : Step} → Read (ReadsStep s) 10 ts x us
    → Nothing (Behind (front ++ x ∷ []) (ReadsSteps s)) 9 us → ReadsRelative s ts ms ws → head_rank ws < 9 → ⊥
no_first {s = s} front {x = x} r n (g.steps {vs = ws} {ss = rs} a b) h =
    let i = r.only _ _ a (steps_stop b h) in
    let b1 = subst (λ (ts : List Token). ReadsSteps s ts rs ws) (sym i.1) b in
    n.none ((front ++ x ∷ []) ++ rs) ws (record { more = rs; whole = refl; reads = b1 }) h

first_step : {s : Scope} {front : List Step} {ts us vs : List Token} {x : Step} {zs : List Step} → Read (ReadsStep s) 10 ts x us
    → Read (Behind (front ++ x ∷ []) (ReadsSteps s)) 9 us zs vs → Read (Behind front (ReadsRelative s)) 9 ts zs vs
first_step {front = front} {x = x} r z = record {
  reads = record { more = x ∷ z.reads.more; whole = z.reads.whole ∙ append_assoc front (x ∷ []) z.reads.more; reads = g.steps r.reads z.reads.reads };
  only = λ y ws p h. let i = after_first front r z p.reads h in (i.0 ∙ sym p.whole, i.1);
}

pub relative_from : {X : Type 0} {view : X → List Step} {s : Scope} {front : List Step} {ts us ws : List Token} {x : Step} (result : Result X ParseFault)
    → Read (ReadsStep s) 10 ts x us
    → Returns view (Behind (front ++ x ∷ []) (ReadsSteps s)) 9 us ws result → Returns view (Behind front (ReadsRelative s)) 9 ts ws result
relative_from (Ok v) r h = record { answer = first_step r h.answer }
relative_from (Err Memory) r h = record { answer = tt }
relative_from {front = front} (Err (Refused Syntax)) r h = record { answer = record { none = λ y ws p k. no_first front r h.answer p.reads k } }
relative_from (Err (Refused Depth)) r h = absurd h.answer
relative_from (Err (Refused BadNumber)) r h = absurd h.answer
relative_from (Err (Refused Prefix)) r h = absurd h.answer
