-- A record with those below it that is the run of an instantiation comes to what it means.
use Rattle.std.proofs.Common.{◌≡◌, zero, suc, ◌-◌, List, [], ◌∷◌, ◌++◌, refl, sym, ap, subst, ◌∙◌, arith}
use Rattle.spec_meaning.specs.Stream.{Stream, filled}
use Rattle.spec_run.specs.Plan.{Plan}
use Rattle.spec_run.specs.Direct.{Ending, Outcome}
use Rattle.spec_run.specs.Going.{Event, Asked, Saw, Entered, Held, Going, owned, whole}
use Rattle.spec_run.specs.Hold.{GoesOn, Hold, came, over}
use Rattle.spec_run.specs.Content.{plan_of}
use Rattle.spec_run.specs.Trail.{Trail, finishes, gives, asks, uses, puts, begins, wraps, takes, deepens, enters, Kept}
use Rattle.spec_run.specs.Meaning.{Setting, settled, meaning}
use Rattle.spec_run.proofs.Fill.{filled_whole}
use Rattle.spec_run.proofs.Trails.{trail_goes}
use Rattle.spec_run.proofs.More.{meaning_at}
use Rattle.spec_reuse.specs.Instantiation.{Instantiation, inside, given_to, meant_below, own_of, meaning_of}
use Rattle.spec_reuse.specs.Serving.{Fits}
use Rattle.spec_reuse.specs.Record.{Runs, none, ran, streams_in, outcome_of, AreRunsAlong, IsRunOf}
use Rattle.spec_reuse.proofs.Declared.{goes_along_call}

pub trail_end : {N : Type 0} {p : Plan N} {g h : Going N} {es : List (Event N)} {e : Ending N} → Trail p g es h e → GoesOn e
trail_end finishes = tt
trail_end gives = tt
trail_end (asks t) = trail_end t
trail_end (uses t) = trail_end t
trail_end (puts t) = trail_end t
trail_end (begins t) = trail_end t
trail_end (wraps t) = trail_end t
trail_end (takes i t) = trail_end t
trail_end (deepens t) = trail_end t
trail_end (enters s t) = trail_end t

-- what was done holds here, and what is entered now has the streams of the records
pub record Goes {N : Type 0} (s : Setting N) (i : Instantiation N) (es : List (Event N)) (streams : List Stream) (runs : Runs N) : Type 0 where
  pub hold : Hold s.ask (given_to s i) (meant_below s i) streams es
  pub streams_are : came (meant_below s i) es ≡ streams_in runs

-- where it is known what those come to that it enters, it goes as it went
pub goes_again : {N : Type 0} (s : Setting N) (i : Instantiation N) (k : Kept N) (inner : Runs N) (f : Fits s i k) → Goes s i k.trace [] inner
    → own_of s i ≡ owned (over (streams_in inner) f.lasting.last) k.ending
goes_again s i k inner f goes =
    let height : k.height ≡ f.lasting.last.height = ap (λ (x : Kept _). x.height) f.lasting.is in
    let levels = f.levels in
    let t = goes_along_call s.same i.call k f.of_call f.lasting.trail in
    trail_goes s.ask (given_to s i) (meant_below s i) i.below [] t refl goes.hold (omega (arith, height, levels))
    ∙ ap (λ ss. owned (over ss f.lasting.last) k.ending) goes.streams_are

comes_to : {N : Type 0} (s : Setting N) (i : Instantiation N) (k : Kept N) (inner : Runs N) → Fits s i k → Goes s i k.trace [] inner
    → meaning_of s i ≡ outcome_of k inner
comes_to s i k inner f goes =
    sym (filled_whole s.ask (given_to s i) (meant_below s i) i.below (plan_of s.same i.call))
    ∙ ap whole (goes_again s i k inner f goes)
    ∙ ap (λ content. record { content = filled content (streams_in inner); ending = k.ending }) (sym (ap (λ (x : Kept _). x.content) f.lasting.is))

pub goes_along : {N : Type 0} (s : Setting N) (i : Instantiation N) (es : List (Event N)) (streams : List Stream) (runs : Runs N)
    → AreRunsAlong s i es streams runs → Goes s i es streams runs
goes_along s i [] streams none a = record { hold = tt; streams_are = refl }
goes_along s i [] streams (ran kept inner rest) a = absurd a
goes_along s i (Asked question answer ∷ es) streams runs a =
    let m = goes_along s i es streams runs a.1 in record { hold = (a.0, m.hold); streams_are = m.streams_are }
goes_along s i (Saw wanted depth place x ∷ es) streams runs a =
    let m = goes_along s i es streams runs a.1 in record { hold = (a.0, m.hold); streams_are = m.streams_are }
goes_along s i (Held first contents ∷ es) streams runs a =
    let m = goes_along s i es streams runs a.1 in record { hold = (a.0, m.hold); streams_are = m.streams_are }
goes_along s i (Entered call depth ∷ es) streams none a = absurd a
goes_along {N = N} s i (Entered call depth ∷ es) streams (ran kept inner rest) a =
    let fits = a.0 in
    let it = goes_along s (inside i depth call) kept.trace [] inner a.2 in
    let left : i.below - depth ≡ suc (i.below - suc depth) = omega (arith, fits) in
    let comes : meaning s i.below i.past depth (settled i.call call) ≡ outcome_of kept inner =
    meaning_at s i.below i.past depth (settled i.call call) ∙ ap (λ n. meaning s n i.past zero (settled i.call call)) left
    ∙ comes_to s (inside i depth call) kept inner a.1 it in
    let G : Outcome N → Type 0 = λ o. GoesOn o.ending in
    let H : List Stream → Type 0 = λ ss. Hold s.ask (given_to s i) (meant_below s i) ss es in
    let m = goes_along s i es (streams ++ filled kept.content (streams_in inner) ∷ []) rest a.3 in
    let content : (meaning s i.below i.past depth (settled i.call call)).content ≡ filled kept.content (streams_in inner) = ap
    (λ (o : Outcome N). o.content) comes in
    record {
      hold = (subst G (sym comes) (trail_end a.1.lasting.trail), subst (λ x. H (streams ++ x ∷ [])) (sym content) m.hold);
      streams_are = ap (λ x. x ∷ came (meant_below s i) es) content ∙ ap (λ ss. filled kept.content (streams_in inner) ∷ ss) m.streams_are;
    }

pub run_comes : {N : Type 0} (s : Setting N) (i : Instantiation N) (kept : Kept N) (below : Runs N) → IsRunOf s i kept below
    → meaning_of s i ≡ outcome_of kept below
run_comes s i kept below r = comes_to s i kept below r.fits (goes_along s i kept.trace [] below r.entered)
