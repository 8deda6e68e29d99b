-- The productions of alternatives, by what they begin with, and of their list.
use Rattle.std.proofs.Common.{◌≡◌, ℕ, ◌<◌, true, false, List, [], ◌∷◌, ◌++◌, None, Result, Ok, Err, refl, ap, ◌∙◌, sym, subst, arith}
use Rattle.spec_document.specs.Name.{QName, Expanded}
use Rattle.spec_document.specs.Scope.{Scope}
use Rattle.spec_expression.specs.declared.ExpressionRefusal.TheVariants.{Syntax, Depth, Number as BadNumber, Prefix}
use Rattle.spec_expression.specs.declared.Operator.TheVariants.{Union}
use Rattle.spec_expression.specs.Token.{Token, Open, Slash, SlashSlash, Binary, Name}
use Rattle.spec_expression.specs.Grammar as g
use Rattle.spec_expression.specs.Grammar.{type_of}
use Rattle.spec_expression.proofs.Rank.{head_rank}
use Rattle.spec_stylesheet.specs.declared.pattern.Separator.{Separator}
use Rattle.spec_stylesheet.specs.declared.pattern.Separator.TheVariants.{Child, Descendant}
use Rattle.spec_stylesheet.specs.declared.pattern.Start.{Start}
use Rattle.spec_stylesheet.specs.declared.pattern.Start.TheVariants.{Anywhere, Root}
use Rattle.spec_stylesheet.specs.Pattern.{PatternStep, Alternative}
use Rattle.spec_static.specs.PatternGrammar as p
use Rattle.spec_static.specs.PatternGrammar.{ReadsFurtherSteps, ReadsRelativePattern, ReadsHead, ReadsAlternative, ReadsOthers, ReadsAlternatives}
use Rattle.spec_static.proofs.PatternParts.{as_step, further_stop, others_stop, call_is_no_path, head_is_no_path}
use Rattle.xp_parse.specs.Reading.{Read, Nothing, Returns, Behind, IsNotNext, begins_step}
use Rattle.xp_parse.specs.declared.fault.ParseFault.{ParseFault}
use Rattle.xp_parse.specs.declared.fault.ParseFault.TheVariants.{Memory, Refused}
use Rattle.xp_parse.proofs.Begins.{relative_begins, begins_rank}
use Rattle.xp_parse.proofs.Lists.{Continues, more, ended}
use Rattle.xt_pattern.specs.Reading.{NoHead}
use Rattle.xt_pattern.proofs.Heads.{head_needs_word}

-- an alternative with this start and these steps
abbrev pub from_start : Start (List ℕ) Expanded → List PatternStep → Alternative
from_start start ss = record { start = start; steps = ss }

path_begins : {s : Scope} {b : Separator} {ts us : List Token} {ss : List PatternStep} → ReadsRelativePattern s b ts ss us → begins_step ts ≡ true
path_begins (p.steps r ss) = relative_begins (g.steps (as_step r) g.no_step)

-- behind `/`
root_only : {s : Scope} {ts ws : List Token} {y : Alternative} → begins_step ts ≡ false → ReadsAlternative s (Slash ∷ ts) y ws → (from_start Root [] ≡ y) × (ts ≡ ws)
root_only b p.at_root = (refl, refl)
root_only b (p.from_root r) = let e = path_begins r in cc
root_only b (p.anywhere r) = let e = path_begins r in cc
root_only b (p.from_head r q) = elim r [ ]

pub root_alone : {s : Scope} {ts : List Token} → begins_step ts ≡ false → Read (ReadsAlternative s) 9 (Slash ∷ ts) (from_start Root []) ts
root_alone b = record { reads = p.at_root; only = λ y ws r h. root_only b r }

from_root_only : {s : Scope} {ts us ws : List Token} {ss : List PatternStep} {y : Alternative} → begins_step ts ≡ true
    → Read (ReadsRelativePattern s Child) 9 ts ss us → ReadsAlternative s (Slash ∷ ts) y ws → head_rank ws < 9 → (from_start Root ss ≡ y) × (us ≡ ws)
from_root_only {ts = ts} b r p.at_root h = absurd (omega (arith, begins_rank ts b))
from_root_only b r (p.from_root q) h = let i = r.only _ _ q h in (ap (from_start Root) i.0, i.1)
from_root_only b r (p.anywhere q) h = let e = path_begins q in cc
from_root_only b r (p.from_head q z) h = elim q [ ]

pub root_read : {s : Scope} {ts us : List Token} {ss : List PatternStep} → begins_step ts ≡ true → Read (ReadsRelativePattern s Child) 9 ts ss us
    → Read (ReadsAlternative s) 9 (Slash ∷ ts) (from_start Root ss) us
root_read b r = record { reads = p.from_root r.reads; only = λ y ws q h. from_root_only b r q h }

from_root_none : {s : Scope} {ts ws : List Token} {y : Alternative} → begins_step ts ≡ true → Nothing (ReadsRelativePattern s Child) 9 ts
    → ReadsAlternative s (Slash ∷ ts) y ws → head_rank ws < 9 → ⊥
from_root_none {ts = ts} b n p.at_root h = omega (arith, begins_rank ts b)
from_root_none b n (p.from_root q) h = n.none _ _ q h
from_root_none b n (p.anywhere q) h = let e = path_begins q in cc
from_root_none b n (p.from_head q z) h = elim q [ ]

pub root_fail : {s : Scope} {ts : List Token} → begins_step ts ≡ true → Nothing (ReadsRelativePattern s Child) 9 ts → Nothing (ReadsAlternative s) 9 (Slash ∷ ts)
root_fail b n = record { none = λ y ws q h. from_root_none b n q h }

-- behind `//`
below_only : {s : Scope} {ts us ws : List Token} {ss : List PatternStep} {y : Alternative} → Read (ReadsRelativePattern s Descendant) 9 ts ss us
    → ReadsAlternative s (SlashSlash ∷ ts) y ws → head_rank ws < 9 → (from_start Root ss ≡ y) × (us ≡ ws)
below_only r (p.below_root q) h = let i = r.only _ _ q h in (ap (from_start Root) i.0, i.1)
below_only r (p.anywhere q) h = let e = path_begins q in cc
below_only r (p.from_head q z) h = elim q [ ]

pub below_read : {s : Scope} {ts us : List Token} {ss : List PatternStep} → Read (ReadsRelativePattern s Descendant) 9 ts ss us
    → Read (ReadsAlternative s) 9 (SlashSlash ∷ ts) (from_start Root ss) us
below_read r = record { reads = p.below_root r.reads; only = λ y ws q h. below_only r q h }

below_none : {s : Scope} {ts ws : List Token} {y : Alternative} → Nothing (ReadsRelativePattern s Descendant) 9 ts → ReadsAlternative s (SlashSlash ∷ ts) y ws
    → head_rank ws < 9 → ⊥
below_none n (p.below_root q) h = n.none _ _ q h
below_none n (p.anywhere q) h = let e = path_begins q in cc
below_none n (p.from_head q z) h = elim q [ ]

pub below_fail : {s : Scope} {ts : List Token} → Nothing (ReadsRelativePattern s Descendant) 9 ts → Nothing (ReadsAlternative s) 9 (SlashSlash ∷ ts)
below_fail n = record { none = λ y ws q h. below_none n q h }

-- behind a head
head_only : {s : Scope} {ts us vs ws : List Token} {start : Start (List ℕ) Expanded} {ss : List PatternStep} {y : Alternative} → Read (ReadsHead s) 10 ts start us
    → Read (ReadsFurtherSteps s) 9 us ss vs → ReadsAlternative s ts y ws → head_rank ws < 9 → (from_start start ss ≡ y) × (vs ≡ ws)
head_only r x p.at_root h = elim r.reads [ ]
head_only r x (p.from_root q) h = elim r.reads [ ]
head_only r x (p.below_root q) h = elim r.reads [ ]
head_only r x (p.anywhere q) h = absurd (head_is_no_path q h r.reads)
head_only {s = s} {ss = ss} r x (p.from_head {vs = ws} {start = start} {ss = ys} q z) h =
    let i = r.only _ _ q (further_stop z h) in
    let j = x.only ys ws (subst (λ (ts : List Token). ReadsFurtherSteps s ts ys ws) (sym i.1) z) h in
    (ap (λ (b : Start (List ℕ) Expanded). from_start b ss) i.0 ∙ ap (from_start start) j.0, j.1)

pub head_read : {s : Scope} {ts us vs : List Token} {start : Start (List ℕ) Expanded} {ss : List PatternStep} → Read (ReadsHead s) 10 ts start us
    → Read (ReadsFurtherSteps s) 9 us ss vs → Read (ReadsAlternative s) 9 ts (from_start start ss) vs
head_read r x = record { reads = p.from_head r.reads x.reads; only = λ y ws q h. head_only r x q h }

head_none : {s : Scope} {q : QName} {ts ws : List Token} {y : Alternative} → type_of q ≡ None → Nothing (ReadsHead s) 10 (Name q ∷ Open ∷ ts)
    → ReadsAlternative s (Name q ∷ Open ∷ ts) y ws → head_rank ws < 9 → ⊥
head_none e n (p.anywhere r) h = call_is_no_path e r h
head_none e n (p.from_head r z) h = n.none _ _ r (further_stop z h)

pub head_fail : {s : Scope} {q : QName} {ts : List Token} → type_of q ≡ None → Nothing (ReadsHead s) 10 (Name q ∷ Open ∷ ts)
    → Nothing (ReadsAlternative s) 9 (Name q ∷ Open ∷ ts)
head_fail e n = record { none = λ y ws q h. head_none e n q h }

head_none_later : {s : Scope} {ts us ws : List Token} {start : Start (List ℕ) Expanded} {y : Alternative} → Read (ReadsHead s) 10 ts start us
    → Nothing (ReadsFurtherSteps s) 9 us → ReadsAlternative s ts y ws → head_rank ws < 9 → ⊥
head_none_later r n p.at_root h = elim r.reads [ ]
head_none_later r n (p.from_root q) h = elim r.reads [ ]
head_none_later r n (p.below_root q) h = elim r.reads [ ]
head_none_later r n (p.anywhere q) h = head_is_no_path q h r.reads
head_none_later {s = s} r n (p.from_head {vs = ws} {ss = ys} q z) h =
    let i = r.only _ _ q (further_stop z h) in n.none ys ws (subst (λ (ts : List Token). ReadsFurtherSteps s ts ys ws) (sym i.1) z) h

pub head_fail_later : {s : Scope} {ts us : List Token} {start : Start (List ℕ) Expanded} → Read (ReadsHead s) 10 ts start us → Nothing (ReadsFurtherSteps s) 9 us
    → Nothing (ReadsAlternative s) 9 ts
head_fail_later r n = record { none = λ y ws q h. head_none_later r n q h }

-- steps alone
anywhere_only : {s : Scope} {ts us ws : List Token} {ss : List PatternStep} {y : Alternative} → NoHead ts → Read (ReadsRelativePattern s Child) 9 ts ss us
    → ReadsAlternative s ts y ws → head_rank ws < 9 → (from_start Anywhere ss ≡ y) × (us ≡ ws)
anywhere_only n r p.at_root h = let e = path_begins r.reads in cc
anywhere_only n r (p.from_root q) h = let e = path_begins r.reads in cc
anywhere_only n r (p.below_root q) h = let e = path_begins r.reads in cc
anywhere_only n r (p.anywhere q) h = let i = r.only _ _ q h in (ap (from_start Anywhere) i.0, i.1)
anywhere_only n r (p.from_head q z) h = absurd (head_needs_word n q)

pub anywhere_read : {s : Scope} {ts us : List Token} {ss : List PatternStep} → NoHead ts → Read (ReadsRelativePattern s Child) 9 ts ss us
    → Read (ReadsAlternative s) 9 ts (from_start Anywhere ss) us
anywhere_read n r = record { reads = p.anywhere r.reads; only = λ y ws q h. anywhere_only n r q h }

anywhere_none : {s : Scope} {ts ws : List Token} {y : Alternative} → IsNotNext ts Slash → IsNotNext ts SlashSlash → NoHead ts
    → Nothing (ReadsRelativePattern s Child) 9 ts → ReadsAlternative s ts y ws → head_rank ws < 9 → ⊥
anywhere_none a b c n p.at_root h = a.different _ refl
anywhere_none a b c n (p.from_root q) h = a.different _ refl
anywhere_none a b c n (p.below_root q) h = b.different _ refl
anywhere_none a b c n (p.anywhere q) h = n.none _ _ q h
anywhere_none a b c n (p.from_head q z) h = head_needs_word c q

pub anywhere_fail : {s : Scope} {ts : List Token} → IsNotNext ts Slash → IsNotNext ts SlashSlash → NoHead ts → Nothing (ReadsRelativePattern s Child) 9 ts
    → Nothing (ReadsAlternative s) 9 ts
anywhere_fail a b c n = record { none = λ y ws q h. anywhere_none a b c n q h }

-- the further alternatives
other_back : {s : Scope} {ts us vs : List Token} {x : Alternative} {xs : List Alternative} → Read (ReadsAlternative s) 9 ts x us
    → ReadsOthers s (Binary Union ∷ ts) xs vs → head_rank vs < 8 → (ys : List Alternative) × (xs ≡ (x ∷ []) ++ ys) × ReadsOthers s us ys vs
other_back r p.no_other h = absurd (omega arith)
other_back {s = s} {vs = vs} r (p.other {others = ys} q z) h =
    let i = r.only _ _ q (others_stop z h) in
    (ys, ap (λ (y : Alternative). y ∷ ys) (sym i.0), subst (λ (ws : List Token). ReadsOthers s ws ys vs) (sym i.1) z)

pub other_more : {s : Scope} {from ts us : List Token} {done : List Alternative} {x : Alternative} → Read (ReadsAlternative s) 9 ts x us
    → Continues (ReadsOthers s) 8 from done (Binary Union ∷ ts) → Continues (ReadsOthers s) 8 from (done ++ x ∷ []) us
other_more {s = s} {from = from} {ts = ts} {us = us} {done = done} r k =
    more (ReadsOthers s) 8 from (Binary Union ∷ ts) us done _ k (λ xs vs q. p.other r.reads q) (λ xs vs q h. other_back r q h)

other_none : {s : Scope} {ts vs : List Token} {ys : List Alternative} → Nothing (ReadsAlternative s) 9 ts → ReadsOthers s (Binary Union ∷ ts) ys vs
    → head_rank vs < 8 → ⊥
other_none n p.no_other h = omega arith
other_none n (p.other q z) h = n.none _ _ q (others_stop z h)

pub other_fail : {s : Scope} {ts : List Token} → Nothing (ReadsAlternative s) 9 ts → Nothing (ReadsOthers s) 8 (Binary Union ∷ ts)
other_fail n = record { none = λ y vs q h. other_none n q h }

others_over : {s : Scope} {ts vs : List Token} {ys : List Alternative} → IsNotNext ts (Binary Union) → ReadsOthers s ts ys vs → (ys ≡ []) × (vs ≡ ts)
others_over n p.no_other = (refl, refl)
others_over n (p.other r q) = absurd (n.different _ refl)

pub others_end : {s : Scope} {from ts : List Token} {done : List Alternative} → IsNotNext ts (Binary Union) → Continues (ReadsOthers s) 8 from done ts
    → Read (ReadsOthers s) 8 from done ts
others_end {s = s} {from = from} {ts = ts} {done = done} n k = ended (ReadsOthers s) 8 from ts ts done k p.no_other (λ ys vs q. others_over n q)

-- all alternatives, from the first and those behind it
after_first : {s : Scope} {ts us vs ws : List Token} {x : Alternative} {xs zs : List Alternative} → Read (ReadsAlternative s) 9 ts x us
    → Read (Behind (x ∷ []) (ReadsOthers s)) 8 us zs vs → ReadsAlternatives s ts xs ws → head_rank ws < 8 → (zs ≡ xs) × (vs ≡ ws)
after_first {s = s} {x = x} r z (p.alternatives {vs = ws} {others = ys} q y) h =
    let i = r.only _ _ q (others_stop y h) in
    let y1 = subst (λ (ts : List Token). ReadsOthers s ts ys ws) (sym i.1) y in
    let j = z.only (x ∷ ys) ws (record { more = ys; whole = refl; reads = y1 }) h in
    (j.0 ∙ ap (λ (k : Alternative). k ∷ ys) i.0, j.1)

no_first : {s : Scope} {ts us ws : List Token} {x : Alternative} {xs : List Alternative} → Read (ReadsAlternative s) 9 ts x us
    → Nothing (Behind (x ∷ []) (ReadsOthers s)) 8 us → ReadsAlternatives s ts xs ws → head_rank ws < 8 → ⊥
no_first {s = s} {x = x} r n (p.alternatives {vs = ws} {others = ys} q y) h =
    let i = r.only _ _ q (others_stop y h) in
    let y1 = subst (λ (ts : List Token). ReadsOthers s ts ys ws) (sym i.1) y in
    n.none (x ∷ ys) ws (record { more = ys; whole = refl; reads = y1 }) h

all_read : {s : Scope} {ts us vs : List Token} {x : Alternative} {zs : List Alternative} → ReadsAlternative s ts x us
    → Behind (x ∷ []) (ReadsOthers s) us zs vs → ReadsAlternatives s ts zs vs
all_read {s = s} {ts = ts} {vs = vs} r q = subst (λ (xs : List Alternative). ReadsAlternatives s ts xs vs) (sym q.whole) (p.alternatives r q.reads)

pub alternatives_from : {X : Type 0} {view : X → List Alternative} {s : Scope} {ts us ws : List Token} {x : Alternative} (result : Result X ParseFault)
    → Read (ReadsAlternative s) 9 ts x us → Returns view (Behind (x ∷ []) (ReadsOthers s)) 8 us ws result → Returns view (ReadsAlternatives s) 8 ts ws result
alternatives_from (Ok v) r h = record { answer = record { reads = all_read r.reads h.answer.reads; only = λ y ws q k. after_first r h.answer q k } }
alternatives_from (Err Memory) r h = record { answer = tt }
alternatives_from (Err (Refused Syntax)) r h = record { answer = record { none = λ y ws q k. no_first r h.answer q k } }
alternatives_from (Err (Refused Depth)) r h = absurd h.answer
alternatives_from (Err (Refused BadNumber)) r h = absurd h.answer
alternatives_from (Err (Refused Prefix)) r h = absurd h.answer

alternatives_none : {s : Scope} {ts ws : List Token} {xs : List Alternative} → Nothing (ReadsAlternative s) 9 ts → ReadsAlternatives s ts xs ws
    → head_rank ws < 8 → ⊥
alternatives_none n (p.alternatives q y) h = n.none _ _ q (others_stop y h)

pub alternatives_fail : {s : Scope} {ts : List Token} → Nothing (ReadsAlternative s) 9 ts → Nothing (ReadsAlternatives s) 8 ts
alternatives_fail n = record { none = λ y ws q h. alternatives_none n q h }
