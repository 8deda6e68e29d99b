-- Tokens are read as a pattern in one way: two readings of a part that both go as far as they can are one reading.
use Rattle.std.proofs.Common.{ℕ, ◌<◌, List, refl, ap, ◌∙◌, sym, subst, arith}
use Rattle.spec_document.specs.Name.{Expanded}
use Rattle.spec_document.specs.Scope.{Scope}
use Rattle.spec_expression.specs.Token.{Token}
use Rattle.spec_expression.proofs.Rank.{head_rank}
use Rattle.spec_expression.proofs.Unique.{Same, same_step}
use Rattle.spec_stylesheet.specs.declared.pattern.Separator.{Separator}
use Rattle.spec_stylesheet.specs.declared.pattern.Start.{Start}
use Rattle.spec_stylesheet.specs.declared.pattern.Start.TheVariants.{Anywhere, Root}
use Rattle.spec_stylesheet.specs.Pattern.{PatternStep, Alternative}
use Rattle.spec_static.specs.PatternGrammar as p
use Rattle.spec_static.specs.PatternGrammar.{ReadsFurtherSteps, ReadsRelativePattern, ReadsHead, ReadsAlternative, ReadsOthers, ReadsAlternatives}
use Rattle.spec_static.proofs.PatternParts.{as_step, further_stop, others_stop, begin_relative, begin_head, head_is_no_path}

pub same_further : {s : Scope} {ts us vs : List Token} {xs ys : List PatternStep} → ReadsFurtherSteps s ts xs us → head_rank us < 9 → ReadsFurtherSteps s ts ys vs
    → head_rank vs < 9 → Same xs us ys vs
same_further p.no_further h p.no_further k = (refl, refl)
same_further p.no_further h (p.child r y) k = absurd (omega arith)
same_further p.no_further h (p.descendant r y) k = absurd (omega arith)
same_further (p.child r x) h p.no_further k = absurd (omega arith)
same_further {s = s} (p.child r x) h (p.child {vs = vs} {ss = ys} q y) k =
    let i = same_step (as_step r) (further_stop x h) (as_step q) (further_stop y k) in
    let j = same_further x h (subst (λ (ws : List Token). ReadsFurtherSteps s ws ys vs) (sym i.1) y) k in
    (let d = i.0 in let t = j.0 in cc, j.1)
same_further (p.descendant r x) h p.no_further k = absurd (omega arith)
same_further {s = s} (p.descendant r x) h (p.descendant {vs = vs} {ss = ys} q y) k =
    let i = same_step (as_step r) (further_stop x h) (as_step q) (further_stop y k) in
    let j = same_further x h (subst (λ (ws : List Token). ReadsFurtherSteps s ws ys vs) (sym i.1) y) k in
    (let d = i.0 in let t = j.0 in cc, j.1)

same_relative : {s : Scope} {before : Separator} {ts us vs : List Token} {xs ys : List PatternStep} → ReadsRelativePattern s before ts xs us → head_rank us < 9
    → ReadsRelativePattern s before ts ys vs → head_rank vs < 9 → Same xs us ys vs
same_relative {s = s} (p.steps r x) h (p.steps {vs = vs} {ss = ys} q y) k =
    let i = same_step (as_step r) (further_stop x h) (as_step q) (further_stop y k) in
    let j = same_further x h (subst (λ (ws : List Token). ReadsFurtherSteps s ws ys vs) (sym i.1) y) k in
    (let d = i.0 in let t = j.0 in cc, j.1)

same_head : {s : Scope} {ts us vs : List Token} {x y : Start (List ℕ) Expanded} → ReadsHead s ts x us → ReadsHead s ts y vs → Same x us y vs
same_head (p.of_id e) (p.of_id f) = (refl, refl)
same_head (p.of_key e) (p.of_key f) = (refl, refl)

abbrev from_start : Start (List ℕ) Expanded → List PatternStep → Alternative
from_start start ss = record { start = start; steps = ss }

same_alternative : {s : Scope} {ts us vs : List Token} {a b : Alternative} → ReadsAlternative s ts a us → head_rank us < 9 → ReadsAlternative s ts b vs
    → head_rank vs < 9 → Same a us b vs
same_alternative p.at_root h p.at_root k = (refl, refl)
same_alternative p.at_root h (p.from_root r) k = absurd (omega (arith, begin_relative r))
same_alternative p.at_root h (p.anywhere r) k = absurd (omega (arith, begin_relative r))
same_alternative p.at_root h (p.from_head r y) k = absurd (omega (arith, begin_head r))
same_alternative (p.from_root r) h p.at_root k = absurd (omega (arith, begin_relative r))
same_alternative (p.from_root r) h (p.from_root q) k = let i = same_relative r h q k in (ap (from_start Root) i.0, i.1)
same_alternative (p.from_root r) h (p.anywhere q) k = absurd (omega (arith, begin_relative q))
same_alternative (p.from_root r) h (p.from_head q y) k = absurd (omega (arith, begin_head q))
same_alternative (p.below_root r) h (p.below_root q) k = let i = same_relative r h q k in (ap (from_start Root) i.0, i.1)
same_alternative (p.below_root r) h (p.anywhere q) k = absurd (omega (arith, begin_relative q))
same_alternative (p.below_root r) h (p.from_head q y) k = absurd (omega (arith, begin_head q))
same_alternative (p.anywhere r) h p.at_root k = absurd (omega (arith, begin_relative r))
same_alternative (p.anywhere r) h (p.from_root q) k = absurd (omega (arith, begin_relative r))
same_alternative (p.anywhere r) h (p.below_root q) k = absurd (omega (arith, begin_relative r))
same_alternative (p.anywhere r) h (p.anywhere q) k = let i = same_relative r h q k in (ap (from_start Anywhere) i.0, i.1)
same_alternative (p.anywhere r) h (p.from_head q y) k = absurd (head_is_no_path r h q)
same_alternative (p.from_head r x) h p.at_root k = absurd (omega (arith, begin_head r))
same_alternative (p.from_head r x) h (p.from_root q) k = absurd (omega (arith, begin_head r))
same_alternative (p.from_head r x) h (p.below_root q) k = absurd (omega (arith, begin_head r))
same_alternative (p.from_head r x) h (p.anywhere q) k = absurd (head_is_no_path q k r)
same_alternative {s = s} (p.from_head {ss = xs} r x) h (p.from_head {vs = vs} {start = b} {ss = ys} q y) k =
    let i = same_head r q in
    let j = same_further x h (subst (λ (ws : List Token). ReadsFurtherSteps s ws ys vs) (sym i.1) y) k in
    (ap (λ (a : Start (List ℕ) Expanded). from_start a xs) i.0 ∙ ap (from_start b) j.0, j.1)

same_others : {s : Scope} {ts us vs : List Token} {xs ys : List Alternative} → ReadsOthers s ts xs us → head_rank us < 8 → ReadsOthers s ts ys vs
    → head_rank vs < 8 → Same xs us ys vs
same_others p.no_other h p.no_other k = (refl, refl)
same_others p.no_other h (p.other q y) k = absurd (omega arith)
same_others (p.other r x) h p.no_other k = absurd (omega arith)
same_others {s = s} (p.other r x) h (p.other {vs = vs} {others = ys} q y) k =
    let i = same_alternative r (others_stop x h) q (others_stop y k) in
    let j = same_others x h (subst (λ (ws : List Token). ReadsOthers s ws ys vs) (sym i.1) y) k in
    (let d = i.0 in let t = j.0 in cc, j.1)

pub same_alternatives : {s : Scope} {ts us vs : List Token} {xs ys : List Alternative} → ReadsAlternatives s ts xs us → head_rank us < 8
    → ReadsAlternatives s ts ys vs → head_rank vs < 8 → Same xs us ys vs
same_alternatives {s = s} (p.alternatives r x) h (p.alternatives {vs = vs} {others = ys} q y) k =
    let i = same_alternative r (others_stop x h) q (others_stop y k) in
    let j = same_others x h (subst (λ (ws : List Token). ReadsOthers s ws ys vs) (sym i.1) y) k in
    (let d = i.0 in let t = j.0 in cc, j.1)
