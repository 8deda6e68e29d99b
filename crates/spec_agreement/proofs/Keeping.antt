-- What is kept of an instantiation is what it means, where that holds.
use Rattle.std.proofs.Common.{◌≡◌, ℕ, suc, ◌≤◌, [], refl, sym, ap, subst, ◌∙◌}
use Rattle.spec_meaning.specs.Stream.{Stream, filled}
use Rattle.spec_run.specs.Plan.{Call}
use Rattle.spec_run.specs.Direct.{Outcome}
use Rattle.spec_run.specs.Going.{closed, whole}
use Rattle.spec_run.specs.Hold.{Hold, came}
use Rattle.spec_run.specs.Trail.{Kept, IsTrue}
use Rattle.spec_run.specs.Meaning.{Setting, Past, meaning, referred, supplied}
use Rattle.spec_run.specs.Content.{plan_of}
use Rattle.spec_agreement.specs.Turns.{entered_by}
use Rattle.spec_run.proofs.Fill.{filled_whole}
use Rattle.spec_run.proofs.Trails.{trail_goes}

pub kept_suffices : {N : Type 0} (s : Setting N) (levels : ℕ) (past : Past N) (k : Kept N) → IsTrue s.same k → k.height ≤ levels
    → Hold s.ask (supplied k.call (referred s (meaning s levels) past)) (entered_by s levels past k.call) [] k.trace
    → meaning s (suc levels) past 0 k.call ≡ record { content = filled k.content (came (entered_by s levels past k.call) k.trace); ending = k.ending }
kept_suffices {N = N} s levels past k t fits hold =
    let supply = supplied k.call (referred s (meaning s levels) past) in
    let nested : ℕ → Call N → Outcome N = entered_by s levels past k.call in
    let as_high : k.height ≡ t.last.height = ap (λ (x : Kept N). x.height) t.is in
    let so_much : k.content ≡ closed t.last = ap (λ (x : Kept N). x.content) t.is in
    let goes = trail_goes s.ask supply nested levels [] t.trail refl hold (subst (λ (h : ℕ). h ≤ levels) as_high fits) in
    sym (filled_whole s.ask supply nested levels (plan_of s.same k.call))
    ∙ ap whole goes
    ∙ ap (λ (c : Stream). record { content = filled c (came nested k.trace); ending = k.ending }) (sym so_much)
