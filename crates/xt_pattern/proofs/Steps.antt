-- The productions of steps, and of lists of steps.
use Rattle.std.proofs.Common.{◌≡◌, ◌<◌, false, true, List, [], ◌∷◌, ◌++◌, Result, Ok, Err, refl, ap, ◌∙◌, sym, subst, arith}
use Rattle.spec_document.specs.Scope.{Scope}
use Rattle.spec_expression.specs.declared.ExpressionRefusal.TheVariants.{Syntax, Depth, Number as BadNumber, Prefix}
use Rattle.spec_expression.specs.Token.{Token}
use Rattle.spec_expression.specs.Syntax.{Step}
use Rattle.spec_expression.specs.Grammar.{ReadsStep}
use Rattle.spec_expression.proofs.Rank.{head_rank}
use Rattle.spec_stylesheet.specs.declared.pattern.Separator.{Separator}
use Rattle.spec_stylesheet.specs.declared.pattern.Separator.TheVariants as separators
use Rattle.spec_stylesheet.specs.Pattern.{PatternStep}
use Rattle.spec_static.specs.PatternGrammar as p
use Rattle.spec_static.specs.PatternGrammar.{is_pattern_axis, ReadsStepPattern, ReadsFurtherSteps, ReadsRelativePattern}
use Rattle.spec_static.proofs.PatternParts.{as_step, as_step_pattern, step_axis, further_stop}
use Rattle.xp_parse.specs.Reading.{Read, Nothing, Returns, Behind}
use Rattle.xp_parse.specs.declared.fault.ParseFault.{ParseFault}
use Rattle.xp_parse.specs.declared.fault.ParseFault.TheVariants.{Memory, Refused}
use Rattle.xp_parse.proofs.Lists.{Continues, more, ended}
use Rattle.xt_pattern.specs.Reading.{token_of_separator, NoSeparator}

-- a step of a pattern, by the step of an expression that stands there
pub step_read : {s : Scope} {ts us : List Token} {x : Step} → Read (ReadsStep s) 10 ts x us → is_pattern_axis x.axis ≡ true → Read (ReadsStepPattern s) 10 ts x us
step_read r a = record { reads = as_step_pattern r.reads a; only = λ y vs q h. r.only y vs (as_step q) h }

other_axis : (x y : Step) → x ≡ y → is_pattern_axis x.axis ≡ false → is_pattern_axis y.axis ≡ true → ⊥
other_axis x y e a b = let c = ap (λ (z : Step). is_pattern_axis z.axis) e in cc

pub axis_fail : {s : Scope} {ts us : List Token} {x : Step} → Read (ReadsStep s) 10 ts x us → is_pattern_axis x.axis ≡ false → Nothing (ReadsStepPattern s) 10 ts
axis_fail r a = record { none = λ y vs q h. other_axis _ _ (r.only y vs (as_step q) h).0 a (step_axis q) }

pub step_fail : {s : Scope} {ts : List Token} → Nothing (ReadsStep s) 10 ts → Nothing (ReadsStepPattern s) 10 ts
step_fail n = record { none = λ y vs q h. n.none y vs (as_step q) h }

-- a step behind its separator
abbrev pub behind : Separator → Step → PatternStep
behind separator x = record { separator = separator; step = x }

further_reads : {s : Scope} {ts us vs : List Token} {x : Step} {xs : List PatternStep} (b : Separator) → ReadsStepPattern s ts x us → ReadsFurtherSteps s us xs vs
    → ReadsFurtherSteps s (token_of_separator b ∷ ts) (behind b x ∷ xs) vs
further_reads separators.Child r q = p.child r q
further_reads separators.Descendant r q = p.descendant r q

further_back : {s : Scope} {ts us vs : List Token} {x : Step} {xs : List PatternStep} (b : Separator) → Read (ReadsStepPattern s) 10 ts x us
    → ReadsFurtherSteps s (token_of_separator b ∷ ts) xs vs → head_rank vs < 9
    → (ys : List PatternStep) × (xs ≡ (behind b x ∷ []) ++ ys) × ReadsFurtherSteps s us ys vs
further_back separators.Child r p.no_further h = absurd (omega arith)
further_back {s = s} {vs = vs} separators.Child r (p.child {ss = ys} q z) h =
    let i = r.only _ _ q (further_stop z h) in
    (ys, ap (λ (y : Step). behind separators.Child y ∷ ys) (sym i.0), subst (λ (ws : List Token). ReadsFurtherSteps s ws ys vs) (sym i.1) z)
further_back separators.Descendant r p.no_further h = absurd (omega arith)
further_back {s = s} {vs = vs} separators.Descendant r (p.descendant {ss = ys} q z) h =
    let i = r.only _ _ q (further_stop z h) in
    (ys, ap (λ (y : Step). behind separators.Descendant y ∷ ys) (sym i.0), subst (λ (ws : List Token). ReadsFurtherSteps s ws ys vs) (sym i.1) z)

pub further_more : {s : Scope} {from ts us : List Token} {done : List PatternStep} {x : Step} (b : Separator) → Read (ReadsStepPattern s) 10 ts x us
    → Continues (ReadsFurtherSteps s) 9 from done (token_of_separator b ∷ ts) → Continues (ReadsFurtherSteps s) 9 from (done ++ behind b x ∷ []) us
further_more {s = s} {from = from} {ts = ts} {us = us} {done = done} b r k =
    more (ReadsFurtherSteps s) 9 from (token_of_separator b ∷ ts) us done _ k (λ xs vs q. further_reads b r.reads q) (λ xs vs q h. further_back b r q h)

further_none : {s : Scope} {ts vs : List Token} {ys : List PatternStep} (b : Separator) → Nothing (ReadsStepPattern s) 10 ts
    → ReadsFurtherSteps s (token_of_separator b ∷ ts) ys vs → head_rank vs < 9 → ⊥
further_none separators.Child n p.no_further h = omega arith
further_none separators.Child n (p.child q z) h = n.none _ _ q (further_stop z h)
further_none separators.Descendant n p.no_further h = omega arith
further_none separators.Descendant n (p.descendant q z) h = n.none _ _ q (further_stop z h)

pub further_fail : {s : Scope} {ts : List Token} (b : Separator) → Nothing (ReadsStepPattern s) 10 ts
    → Nothing (ReadsFurtherSteps s) 9 (token_of_separator b ∷ ts)
further_fail b n = record { none = λ y vs q h. further_none b n q h }

further_over : {s : Scope} {ts vs : List Token} {ys : List PatternStep} → NoSeparator ts → ReadsFurtherSteps s ts ys vs → (ys ≡ []) × (vs ≡ ts)
further_over n p.no_further = (refl, refl)
further_over n (p.child r q) = absurd (n.child.different _ refl)
further_over n (p.descendant r q) = absurd (n.descendant.different _ refl)

pub further_end : {s : Scope} {from ts : List Token} {done : List PatternStep} → NoSeparator ts → Continues (ReadsFurtherSteps s) 9 from done ts
    → Read (ReadsFurtherSteps s) 9 from done ts
further_end {s = s} {from = from} {ts = ts} {done = done} n k = ended (ReadsFurtherSteps s) 9 from ts ts done k p.no_further (λ ys vs q. further_over n q)

-- a relative pattern, from its first step and the steps behind it
after_first : {s : Scope} {b : Separator} {ts us vs ws : List Token} {x : Step} {xs zs : List PatternStep} → Read (ReadsStepPattern s) 10 ts x us
    → Read (Behind (behind b x ∷ []) (ReadsFurtherSteps s)) 9 us zs vs → ReadsRelativePattern s b ts xs ws → head_rank ws < 9 → (zs ≡ xs) × (vs ≡ ws)
after_first {s = s} {b = b} {x = x} r z (p.steps {vs = ws} {ss = ys} q y) h =
    let i = r.only _ _ q (further_stop y h) in
    let y1 = subst (λ (ts : List Token). ReadsFurtherSteps s ts ys ws) (sym i.1) y in
    let j = z.only (behind b x ∷ ys) ws (record { more = ys; whole = refl; reads = y1 }) h in
    (j.0 ∙ ap (λ (k : Step). behind b k ∷ ys) i.0, j.1)

no_first : {s : Scope} {b : Separator} {ts us ws : List Token} {x : Step} {xs : List PatternStep} → Read (ReadsStepPattern s) 10 ts x us
    → Nothing (Behind (behind b x ∷ []) (ReadsFurtherSteps s)) 9 us → ReadsRelativePattern s b ts xs ws → head_rank ws < 9 → ⊥
no_first {s = s} {b = b} {x = x} r n (p.steps {vs = ws} {ss = ys} q y) h =
    let i = r.only _ _ q (further_stop y h) in
    let y1 = subst (λ (ts : List Token). ReadsFurtherSteps s ts ys ws) (sym i.1) y in
    n.none (behind b x ∷ ys) ws (record { more = ys; whole = refl; reads = y1 }) h

relative_reads : {s : Scope} {b : Separator} {ts us vs : List Token} {x : Step} {zs : List PatternStep} → ReadsStepPattern s ts x us
    → Behind (behind b x ∷ []) (ReadsFurtherSteps s) us zs vs → ReadsRelativePattern s b ts zs vs
relative_reads {s = s} {b = b} {ts = ts} {vs = vs} r q =
    subst (λ (xs : List PatternStep). ReadsRelativePattern s b ts xs vs) (sym q.whole) (p.steps r q.reads)

pub relative_from : {X : Type 0} {view : X → List PatternStep} {s : Scope} {b : Separator} {ts us ws : List Token} {x : Step} (result : Result X ParseFault)
    → Read (ReadsStepPattern s) 10 ts x us → Returns view (Behind (behind b x ∷ []) (ReadsFurtherSteps s)) 9 us ws result
    → Returns view (ReadsRelativePattern s b) 9 ts ws result
relative_from (Ok v) r h = record { answer = record { reads = relative_reads r.reads h.answer.reads; only = λ y ws q k. after_first r h.answer q k } }
relative_from (Err Memory) r h = record { answer = tt }
relative_from (Err (Refused Syntax)) r h = record { answer = record { none = λ y ws q k. no_first r h.answer q k } }
relative_from (Err (Refused Depth)) r h = absurd h.answer
relative_from (Err (Refused BadNumber)) r h = absurd h.answer
relative_from (Err (Refused Prefix)) r h = absurd h.answer

relative_none : {s : Scope} {b : Separator} {ts ws : List Token} {xs : List PatternStep} → Nothing (ReadsStepPattern s) 10 ts → ReadsRelativePattern s b ts xs ws
    → head_rank ws < 9 → ⊥
relative_none n (p.steps q y) h = n.none _ _ q (further_stop y h)

pub relative_fail : {s : Scope} {b : Separator} {ts : List Token} → Nothing (ReadsStepPattern s) 10 ts → Nothing (ReadsRelativePattern s b) 9 ts
relative_fail n = record { none = λ y ws q h. relative_none n q h }
