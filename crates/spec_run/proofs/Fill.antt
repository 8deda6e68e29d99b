-- An instantiation with the streams of what it enters in place of its holes is what is done without holes.
use Rattle.std.proofs.Common.{◌≡◌, ℕ, ◌-◌, List, [], ◌∷◌, ◌++◌, length, drop, Bool, true, false, cond, refl, sym, ap, subst, ◌∙◌, append_assoc, arith, length-append}
use Rattle.std.specs.Prelude.{nat_lt}
use Rattle.std.proofs.Math.Seq.{drop-append_seam}
use Rattle.std.proofs.lemmas.List.{append-nil}
use Rattle.spec_stylesheet.specs.Place.{Place}
use Rattle.spec_meaning.specs.Stream.{Stream, Ended, Hole, followed, filled, holes}
use Rattle.spec_meaning.specs.Question.{Question, Answer}
use Rattle.spec_meaning.specs.Program.{Wanted, Given}
use Rattle.spec_run.specs.Plan.{Call, Wrapping, AsElement, AsNameless, AsAttribute, AsComment, AsInstruction, AsMessage, wrapped, aside_of, Plan, End, Yield, Stop, Inquire, Use, Put, Begin, Wrap, Take, Deep, Enter}
use Rattle.spec_run.specs.Direct.{quiet, Supplied, Known, Failed, Ending, Finished, Gave, Halted, Outcome, top_after, outer_after, closed_in, ends, unless_refused, too_deep, direct}
use Rattle.spec_run.specs.Direct as plain
use Rattle.spec_run.specs.Going.{Asked, Saw, Going, at_start, noted, put, begun, wrap, taken, aside, deepened, opened, given, owned, if_known, unless_halted, own, whole}
use Rattle.spec_run.proofs.Streams.{followed_end, no_holes, filled_none, holes_followed, filled_followed}

-- a stream, its parts, and the two together
pub record Fits (s : Stream) (ps : List Stream) (t : Stream) : Type 0 where
  pub count : length ps ≡ holes s
  pub same : filled s ps ≡ t

-- the innermost sink, those around it, all their parts from the outermost on, and both filled
pub data Fills : Stream → List Stream → List Stream → Stream → List Stream → Type 0 where
  outermost : {s t : Stream} {ps : List Stream} → Fits s ps t → Fills s [] ps t []
  inner : {s t o u : Stream} {os us front ps : List Stream} → Fills o os front u us → Fits s ps t → Fills s (o ∷ os) (front ++ ps) t (u ∷ us)

fits_more : {s t x y : Stream} {ps qs : List Stream} → Fits s ps t → Fits x qs y → Fits (followed s x) (ps ++ qs) (followed t y)
fits_more {s = s} {t = t} {x = x} {ps = ps} {qs = qs} f g =
    let m = f.count in
    let n = g.count in
    let l = length-append ps qs in
    let h = holes_followed s x in
    record {
      count = omega (arith, l, h, m, n);
      same = filled_followed s x ps qs f.count ∙ ap (λ a. followed a (filled x qs)) f.same ∙ ap (followed t) g.same;
    }

fits_none : (s : Stream) → Fits (filled s []) [] (filled s [])
fits_none s = let n = no_holes s in record { count = sym n; same = filled_none (filled s []) n }

fits_hole : (s : Stream) → Fits (Hole Ended) (s ∷ []) s
fits_hole s = record { count = omega arith; same = followed_end s }

fits_empty : Fits Ended [] Ended
fits_empty = record { count = refl; same = refl }

-- an item whose content is a sink
fits_inside : (K : Stream → Stream) → ((s : Stream) → holes (K s) ≡ holes s) → ((s : Stream) (ps : List Stream) → filled (K s) ps ≡ K (filled s ps)) → {s t : Stream} {ps : List Stream} → Fits s ps t → Fits (K s) ps (K t)
fits_inside K h i {s = s} {ps = ps} f = record { count = f.count ∙ sym (h s); same = i s ps ∙ ap K f.same }

fits_wrapped : (how : Wrapping) {s t : Stream} {ps : List Stream} → Fits s ps t → Fits (wrapped how s) ps (wrapped how t)
fits_wrapped (AsElement n u ns) f = fits_inside (wrapped (AsElement n u ns)) (λ s. omega arith) (λ s ps. refl) f
fits_wrapped AsNameless f = fits_inside (wrapped AsNameless) (λ s. omega arith) (λ s ps. refl) f
fits_wrapped (AsAttribute n u) f = fits_inside (wrapped (AsAttribute n u)) (λ s. omega arith) (λ s ps. refl) f
fits_wrapped AsComment f = fits_inside (wrapped AsComment) (λ s. omega arith) (λ s ps. refl) f
fits_wrapped (AsInstruction t) f = fits_inside (wrapped (AsInstruction t)) (λ s. omega arith) (λ s ps. refl) f
fits_wrapped AsMessage f = fits_inside (wrapped AsMessage) (λ s. omega arith) (λ s ps. refl) f

fits_aside : {s t : Stream} {ps : List Stream} → Fits s ps t → Fits (aside_of s) ps (aside_of t)
fits_aside f = fits_wrapped (AsAttribute [] []) f

fills_parts : {s t : Stream} {os ps qs us : List Stream} → ps ≡ qs → Fills s os ps t us → Fills s os qs t us
fills_parts {s = s} {t = t} {os = os} {us = us} e f = let P : List Stream → Type 0 = λ xs. Fills s os xs t us in subst P e f

fills_more : {s t x y : Stream} {os ps qs us : List Stream} → Fills s os ps t us → Fits x qs y → Fills (followed s x) os (ps ++ qs) (followed t y) us
fills_more (outermost f) g = outermost (fits_more f g)
fills_more {qs = qs} (inner {front = front} {ps = ps} d f) g = fills_parts (sym (append_assoc front ps qs)) (inner d (fits_more f g))

fills_put : {t : Stream} (items s : Stream) {os ps us : List Stream} → Fills s os ps t us → Fills (followed s (filled items [])) os ps (followed t (filled items [])) us
fills_put items s {ps = ps} f = fills_parts (append-nil ps) (fills_more f (fits_none items))

fills_begin : {s t : Stream} {os ps us : List Stream} → Fills s os ps t us → Fills Ended (s ∷ os) ps Ended (t ∷ us)
fills_begin {ps = ps} f = fills_parts (append-nil ps) (inner f fits_empty)

fills_end : (K : Stream → Stream) → ((s t : Stream) (ps : List Stream) → Fits s ps t → Fits (K s) ps (K t)) → {s t : Stream} {os ps us : List Stream} → Fills s os ps t us
    → Fills (top_after (K s) s os) (outer_after os) ps (top_after (K t) t us) (outer_after us)
fills_end K k (outermost f) = outermost f
fills_end K k {s = s} {t = t} (inner {ps = ps} d f) = fills_more d (k s t ps f)

fills_top : {s t : Stream} {os ps us : List Stream} → Fills s os ps t us → filled s (drop (length ps - holes s) ps) ≡ t
fills_top {s = s} (outermost {ps = ps} f) =
    let m = f.count in
    let n : length ps - holes s ≡ 0 = omega (arith, m) in
    ap (λ i. filled s (drop i ps)) n ∙ f.same
fills_top {s = s} (inner {front = front} {ps = ps} d f) =
    let m = f.count in
    let l = length-append front ps in
    let n : length (front ++ ps) - holes s ≡ length front = omega (arith, m, l) in
    ap (λ i. filled s (drop i (front ++ ps))) n ∙ ap (filled s) (drop-append_seam front ps) ∙ f.same

fills_closed : (os : List Stream) {s t : Stream} {ps us : List Stream} → Fills s os ps t us → filled (closed_in s os) ps ≡ closed_in t us
fills_closed [] (outermost f) = f.same
fills_closed (o ∷ os) (inner d f) = fills_closed os (fills_more d (fits_aside f))

ends_so : {N : Type 0} (g : Going N) {t : Stream} {us : List Stream} (e : Ending N) → Fills g.top g.outer g.streams t us → whole (owned g e) ≡ ends t us e
ends_so g e f = ap (λ c. record { content = c; ending = e }) (fills_closed g.outer f)

-- from any point on, with its sinks filled
pub filled_own : {N : Type 0} (ask : Question N → Answer N) (supply : Wanted → ℕ → Place → Supplied N) (nested : ℕ → Call N → Outcome N) (room : ℕ) (plan : Plan N) (g : Going N) (t : Stream) (us : List Stream)
    → Fills g.top g.outer g.streams t us → whole (own ask supply nested room plan g) ≡ direct ask supply nested room plan t us
filled_own ask supply nested room End g t us f = ends_so g Finished f
filled_own ask supply nested room (Yield v) g t us f = ends_so g (Gave v) f
filled_own ask supply nested room (Stop why) g t us f = ends_so g (Halted why) f
filled_own ask supply nested room (Inquire q next) g t us f = filled_own ask supply nested room (next (ask q)) (noted (Asked q (ask q)) g) t us f
filled_own {N = N} ask supply nested room (Use w d l next) g t us f =
    go (supply w d l) (λ x. filled_own ask supply nested room (next x) (noted (Saw w d l (Known x)) g) t us f)
  where
    go : (x : Supplied N) → ((v : Given N) → whole (own ask supply nested room (next v) (noted (Saw w d l (Known v)) g)) ≡ direct ask supply nested room (next v) t us)
        → whole (if_known (λ v. own ask supply nested room (next v) (noted (Saw w d l x) g)) (noted (Saw w d l x) g) x) ≡ plain.if_known (λ v. direct ask supply nested room (next v) t us) t us x
    go (Known v) k = k v
    go (Failed why) k = ends_so g (Halted why) f
filled_own ask supply nested room (Put items next) g t us f = filled_own ask supply nested room next (put items g) (followed t (filled items [])) us (fills_put items g.top f)
filled_own ask supply nested room (Begin next) g t us f = filled_own ask supply nested room next (begun g) Ended (t ∷ us) (fills_begin f)
filled_own ask supply nested room (Wrap how next) g t us f =
    filled_own ask supply nested room next (wrap how g) (top_after (wrapped how t) t us) (outer_after us) (fills_end (wrapped how) (λ s u ps k. fits_wrapped how k) f)
filled_own ask supply nested room (Take next) g t us f =
    filled_own ask supply nested room (next (taken g)) (aside g) (top_after (aside_of t) t us) (outer_after us) (fills_end aside_of (λ s u ps k. fits_aside k) f)
    ∙ ap (λ s. direct ask supply nested room (next (quiet s)) (top_after (aside_of t) t us) (outer_after us)) (fills_top f)
filled_own ask supply nested room (Deep d l next) g t us f = go (nat_lt room d) (filled_own ask supply nested room next (deepened d g) t us f)
  where
    go : (b : Bool) → whole (own ask supply nested room next (deepened d g)) ≡ direct ask supply nested room next t us
        → whole (cond b (owned g (Halted (too_deep l))) (own ask supply nested room next (deepened d g))) ≡ cond b (ends t us (Halted (too_deep l))) (direct ask supply nested room next t us)
    go true k = ends_so g (Halted (too_deep l)) f
    go false k = k
filled_own {N = N} ask supply nested room (Enter c d next) g t us f =
    go (nested d c).ending (fills_more f (fits_hole (nested d c).content)) (filled_own ask supply nested room next (given (nested d c).content (opened c d g)) (followed t (nested d c).content) us (fills_more f (fits_hole (nested d c).content)))
  where
    go : (x : Ending N) → Fills (followed g.top (Hole Ended)) g.outer (g.streams ++ (nested d c).content ∷ []) (followed t (nested d c).content) us
        → whole (own ask supply nested room next (given (nested d c).content (opened c d g))) ≡ direct ask supply nested room next (followed t (nested d c).content) us
        → whole (unless_halted (own ask supply nested room next (given (nested d c).content (opened c d g))) (given (nested d c).content (opened c d g)) x)
        ≡ unless_refused (direct ask supply nested room next (followed t (nested d c).content) us) (followed t (nested d c).content) us x
    go Finished k e = e
    go (Gave v) k e = e
    go (Halted why) k e = ends_so (given (nested d c).content (opened c d g)) (Halted why) k

-- with its holes filled, it is what it does without holes
pub filled_whole : {N : Type 0} (ask : Question N → Answer N) (supply : Wanted → ℕ → Place → Supplied N) (nested : ℕ → Call N → Outcome N) (room : ℕ) (plan : Plan N)
    → whole (own ask supply nested room plan at_start) ≡ direct ask supply nested room plan Ended []
filled_whole ask supply nested room plan = filled_own ask supply nested room plan at_start Ended [] (outermost fits_empty)
