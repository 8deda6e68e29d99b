-- The productions of paths, by what they begin with.
use Rattle.std.proofs.Common.{◌≡◌, ◌<◌, true, false, List, [], ◌∷◌, refl, ap, ◌∙◌, sym, subst, arith}
use Rattle.spec_document.specs.Scope.{Scope}
use Rattle.spec_document.specs.declared.axis.Axis.TheVariants.{DescendantOrSelf}
use Rattle.spec_expression.specs.Token.{Token, Slash, SlashSlash}
use Rattle.spec_expression.specs.Syntax.{Expr, root, here, Step, stepped, node_on}
use Rattle.spec_expression.specs.Grammar as g
use Rattle.spec_expression.specs.Grammar.{ReadsPath, ReadsFilter, ReadsRelative, ReadsSteps}
use Rattle.spec_expression.proofs.Rank.{head_rank}
use Rattle.spec_expression.proofs.Ranks.{steps_stop}
use Rattle.xp_parse.specs.Reading.{Read, Nothing, Behind, IsNotNext, begins_step, begins_primary}
use Rattle.xp_parse.proofs.Begins.{relative_begins, begins_rank, filter_begins, relative_no_primary}

-- paths, by what they begin with
root_only : {s : Scope} {ts ws : List Token} {y : Expr} → begins_step ts ≡ false → ReadsPath s (Slash ∷ ts) y ws → head_rank ws < 9 → (root ≡ y) × (ts ≡ ws)
root_only b g.at_root h = (refl, refl)
root_only b (g.from_root p) h = let e = relative_begins p in cc
root_only b (g.relative p) h = let e = relative_begins p in cc
root_only b (g.from_filter p x) h = let e = filter_begins p in cc

pub root_alone : {s : Scope} {ts : List Token} → begins_step ts ≡ false → Read (ReadsPath s) 9 (Slash ∷ ts) root ts
root_alone b = record { reads = g.at_root; only = λ y ws p h. root_only b p h }

from_root_only : {s : Scope} {ts us ws : List Token} {ss : List Step} {y : Expr} → begins_step ts ≡ true → Read (ReadsRelative s) 9 ts ss us
    → ReadsPath s (Slash ∷ ts) y ws → head_rank ws < 9 → (stepped root ss ≡ y) × (us ≡ ws)
from_root_only {ts = ts} b r g.at_root h = absurd (omega (arith, begins_rank ts b))
from_root_only b r (g.from_root p) h = let i = r.only _ _ p h in (ap (λ (x : List Step). stepped root x) i.0, i.1)
from_root_only b r (g.relative p) h = let e = relative_begins p in cc
from_root_only b r (g.from_filter p x) h = let e = filter_begins p in cc

pub root_read : {s : Scope} {ts us : List Token} {ss : List Step} → begins_step ts ≡ true → Read (ReadsRelative s) 9 ts ss us
    → Read (ReadsPath s) 9 (Slash ∷ ts) (stepped root ss) us
root_read b r = record { reads = g.from_root r.reads; only = λ y ws p h. from_root_only b r p h }

from_root_none : {s : Scope} {ts ws : List Token} {y : Expr} → begins_step ts ≡ true → Nothing (ReadsRelative s) 9 ts → ReadsPath s (Slash ∷ ts) y ws
    → head_rank ws < 9 → ⊥
from_root_none {ts = ts} b n g.at_root h = omega (arith, begins_rank ts b)
from_root_none b n (g.from_root p) h = n.none _ _ p h
from_root_none b n (g.relative p) h = let e = relative_begins p in cc
from_root_none b n (g.from_filter p x) h = let e = filter_begins p in cc

pub root_fail : {s : Scope} {ts : List Token} → begins_step ts ≡ true → Nothing (ReadsRelative s) 9 ts → Nothing (ReadsPath s) 9 (Slash ∷ ts)
root_fail b n = record { none = λ y ws p h. from_root_none b n p h }

-- behind `//`: the list of steps begins with the one that `//` abbreviates
below_root_only : {s : Scope} {ts us ws : List Token} {zs : List Step} {y : Expr} → Read (Behind (node_on DescendantOrSelf ∷ []) (ReadsRelative s)) 9 ts zs us
    → ReadsPath s (SlashSlash ∷ ts) y ws → head_rank ws < 9 → (stepped root zs ≡ y) × (us ≡ ws)
below_root_only r (g.below_root {ss = ss} p) h =
    let i = r.only _ _ (record { more = ss; whole = refl; reads = p }) h in (ap (λ (x : List Step). stepped root x) i.0, i.1)
below_root_only r (g.relative p) h = let e = relative_begins p in cc
below_root_only r (g.from_filter p x) h = let e = filter_begins p in cc

below_root_reads : {s : Scope} {ts us : List Token} {zs : List Step} → Behind (node_on DescendantOrSelf ∷ []) (ReadsRelative s) ts zs us
    → ReadsPath s (SlashSlash ∷ ts) (stepped root zs) us
below_root_reads {s = s} {ts = ts} {us = us} b =
    subst (λ (x : List Step). ReadsPath s (SlashSlash ∷ ts) (stepped root x) us) (sym b.whole) (g.below_root b.reads)

pub below_root_read : {s : Scope} {ts us : List Token} {zs : List Step} → Read (Behind (node_on DescendantOrSelf ∷ []) (ReadsRelative s)) 9 ts zs us
    → Read (ReadsPath s) 9 (SlashSlash ∷ ts) (stepped root zs) us
below_root_read r = record { reads = below_root_reads r.reads; only = λ y ws p h. below_root_only r p h }

below_root_none : {s : Scope} {ts ws : List Token} {y : Expr} → Nothing (Behind (node_on DescendantOrSelf ∷ []) (ReadsRelative s)) 9 ts
    → ReadsPath s (SlashSlash ∷ ts) y ws → head_rank ws < 9 → ⊥
below_root_none n (g.below_root {ss = ss} p) h = n.none _ _ (record { more = ss; whole = refl; reads = p }) h
below_root_none n (g.relative p) h = let e = relative_begins p in cc
below_root_none n (g.from_filter p x) h = let e = filter_begins p in cc

pub below_root_fail : {s : Scope} {ts : List Token} → Nothing (Behind (node_on DescendantOrSelf ∷ []) (ReadsRelative s)) 9 ts
    → Nothing (ReadsPath s) 9 (SlashSlash ∷ ts)
below_root_fail n = record { none = λ y ws p h. below_root_none n p h }

relative_only : {s : Scope} {ts us ws : List Token} {ss : List Step} {y : Expr} → begins_primary ts ≡ false → Read (ReadsRelative s) 9 ts ss us
    → ReadsPath s ts y ws → head_rank ws < 9 → (stepped here ss ≡ y) × (us ≡ ws)
relative_only b r g.at_root h = let e = relative_begins r.reads in cc
relative_only b r (g.from_root p) h = let e = relative_begins r.reads in cc
relative_only b r (g.below_root p) h = let e = relative_begins r.reads in cc
relative_only b r (g.relative p) h = let i = r.only _ _ p h in (ap (λ (x : List Step). stepped here x) i.0, i.1)
relative_only b r (g.from_filter p x) h = let e = filter_begins p in cc

pub relative_read : {s : Scope} {ts us : List Token} {ss : List Step} → begins_primary ts ≡ false → Read (ReadsRelative s) 9 ts ss us
    → Read (ReadsPath s) 9 ts (stepped here ss) us
relative_read b r = record { reads = g.relative r.reads; only = λ y ws p h. relative_only b r p h }

relative_none : {s : Scope} {ts ws : List Token} {y : Expr} → IsNotNext ts Slash → IsNotNext ts SlashSlash → begins_primary ts ≡ false
    → Nothing (ReadsRelative s) 9 ts → ReadsPath s ts y ws → head_rank ws < 9 → ⊥
relative_none x z b n g.at_root h = x.different _ refl
relative_none x z b n (g.from_root p) h = x.different _ refl
relative_none x z b n (g.below_root p) h = z.different _ refl
relative_none x z b n (g.relative p) h = n.none _ _ p h
relative_none x z b n (g.from_filter p q) h = let e = filter_begins p in cc

pub relative_fail : {s : Scope} {ts : List Token} → IsNotNext ts Slash → IsNotNext ts SlashSlash → begins_primary ts ≡ false → Nothing (ReadsRelative s) 9 ts
    → Nothing (ReadsPath s) 9 ts
relative_fail x z b n = record { none = λ y ws p h. relative_none x z b n p h }

from_filter_only : {s : Scope} {ts us vs ws : List Token} {e y : Expr} {ss : List Step} → begins_primary ts ≡ true → Read (ReadsFilter s) 10 ts e us
    → Read (ReadsSteps s) 9 us ss vs → ReadsPath s ts y ws → head_rank ws < 9
    → (stepped e ss ≡ y) × (vs ≡ ws)
from_filter_only b r x g.at_root h = cc
from_filter_only b r x (g.from_root p) h = cc
from_filter_only b r x (g.below_root p) h = cc
from_filter_only b r x (g.relative p) h = let e = relative_no_primary p h in cc
from_filter_only {s = s} {ss = ss} b r x (g.from_filter {vs = ws} {e = f} {ss = rs} p z) h =
    let i = r.only _ _ p (steps_stop z h) in
    let j = x.only rs ws (subst (λ (ts : List Token). ReadsSteps s ts rs ws) (sym i.1) z) h in
    (ap (λ (q : Expr). stepped q ss) i.0 ∙ ap (λ (q : List Step). stepped f q) j.0, j.1)

pub from_filter_read : {s : Scope} {ts us vs : List Token} {e : Expr} {ss : List Step} → begins_primary ts ≡ true → Read (ReadsFilter s) 10 ts e us
    → Read (ReadsSteps s) 9 us ss vs → Read (ReadsPath s) 9 ts (stepped e ss) vs
from_filter_read b r x = record { reads = g.from_filter r.reads x.reads; only = λ y ws p h. from_filter_only b r x p h }

from_filter_none : {s : Scope} {ts ws : List Token} {y : Expr} → begins_primary ts ≡ true → Nothing (ReadsFilter s) 10 ts → ReadsPath s ts y ws
    → head_rank ws < 9 → ⊥
from_filter_none b n g.at_root h = cc
from_filter_none b n (g.from_root p) h = cc
from_filter_none b n (g.below_root p) h = cc
from_filter_none b n (g.relative p) h = let e = relative_no_primary p h in cc
from_filter_none b n (g.from_filter p z) h = n.none _ _ p (steps_stop z h)

pub from_filter_fail : {s : Scope} {ts : List Token} → begins_primary ts ≡ true → Nothing (ReadsFilter s) 10 ts → Nothing (ReadsPath s) 9 ts
from_filter_fail b n = record { none = λ y ws p h. from_filter_none b n p h }

from_filter_none_later : {s : Scope} {ts us ws : List Token} {e y : Expr} → begins_primary ts ≡ true → Read (ReadsFilter s) 10 ts e us
    → Nothing (ReadsSteps s) 9 us → ReadsPath s ts y ws → head_rank ws < 9 → ⊥
from_filter_none_later b r n g.at_root h = cc
from_filter_none_later b r n (g.from_root p) h = cc
from_filter_none_later b r n (g.below_root p) h = cc
from_filter_none_later b r n (g.relative p) h = let e = relative_no_primary p h in cc
from_filter_none_later {s = s} b r n (g.from_filter {vs = ws} {ss = rs} p z) h =
    let i = r.only _ _ p (steps_stop z h) in
    n.none rs ws (subst (λ (ts : List Token). ReadsSteps s ts rs ws) (sym i.1) z) h

pub from_filter_fail_later : {s : Scope} {ts us : List Token} {e : Expr} → begins_primary ts ≡ true → Read (ReadsFilter s) 10 ts e us
    → Nothing (ReadsSteps s) 9 us → Nothing (ReadsPath s) 9 ts
from_filter_fail_later b r n = record { none = λ y ws p h. from_filter_none_later b r n p h }
