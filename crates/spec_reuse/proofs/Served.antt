-- A record that serves says what is meant.
use Rattle.std.proofs.Common.{◌≡◌, ℕ, ◌+◌, ◌-◌, ◌≤◌, List, [], ◌∷◌, ◌++◌, length, drop, refl, sym, ap, subst, ◌∙◌, arith, length-append}
use Rattle.std.specs.Prelude.{nat_lt, Bool, false, cond}
use Rattle.std.proofs.lemmas.Bool.{le-ltb}
use Rattle.spec_stylesheet.specs.Place.{Place}
use Rattle.spec_meaning.specs.Stream.{Stream, Ended, Hole, filled, holes}
use Rattle.spec_meaning.specs.Question.{Question, Answer}
use Rattle.spec_meaning.specs.Program.{Wanted}
use Rattle.spec_run.specs.Plan.{Call, aside_of, Plan}
use Rattle.spec_run.specs.Direct.{quiet, Supplied, Ending, Finished, Gave, Halted, Outcome, too_deep}
use Rattle.spec_run.specs.Going.{Event, Asked, Saw, Going, noted, deepened, opened, given, closed, Owned, owned, if_known, unless_halted, own, whole}
use Rattle.spec_run.specs.Hold.{GoesOn, Hold, over}
use Rattle.spec_run.specs.Cut.{cut}
use Rattle.spec_run.specs.Trail.{aside_with, Trail, finishes, gives, asks, uses, puts, begins, wraps, takes, deepens, enters, Kept, kept_as}
use Rattle.spec_run.specs.Content.{plan_of}
use Rattle.spec_run.specs.Meaning.{Setting}
use Rattle.spec_run.proofs.Streams.{no_holes}
use Rattle.spec_run.proofs.Fill.{filled_whole}
use Rattle.spec_run.proofs.Cuts.{closed_holes, wrapped_holes, aside_holes, cut_there}
use Rattle.spec_run.proofs.Trails.{trail_height, higher_left, trail_goes}
use Rattle.spec_reuse.specs.Instantiation.{Instantiation, given_to, meant_below, own_of, meaning_of}
use Rattle.spec_reuse.specs.Serving.{taken_for, ReadsHold, Serves, unless_refused, comes_along, comes_to}
use Rattle.spec_reuse.specs.Record.{IsRecordOf}
use Rattle.spec_reuse.proofs.Declared.{goes_along_call}

-- from here on; there are as many holes as streams
served_goes : {N : Type 0} {p : Plan N} {g h : Going N} {es : List (Event N)} {e : Ending N} (ask : Question N → Answer N)
    (supply : Wanted → ℕ → Place → Supplied N) (nested : ℕ → Call N → Outcome N) (room : ℕ) (ss : List Stream)
    → Trail p g es h e → length ss ≡ length g.streams → holes (closed g) ≡ length g.streams → ReadsHold ask supply nested ss es → h.height ≤ room
    → whole (own ask supply nested room p (over ss g)) ≡ comes_along (closed h) e nested ss es
served_goes ask supply nested room ss finishes l even k r = refl
served_goes ask supply nested room ss gives l even k r = refl
served_goes {g = g} ask supply nested room ss (asks {question = q} {next = next} t) l even k r =
    ap (λ a. whole (own ask supply nested room (next a) (over ss (noted (Asked q a) g)))) k.0 ∙ served_goes ask supply nested room ss t l even k.1 r
served_goes {g = g} ask supply nested room ss (uses {wanted = w} {depth = d} {place = m} {next = next} t) l even k r =
    ap (λ x. whole (if_known (λ v. own ask supply nested room (next v) (over ss (noted (Saw w d m x) g))) (over ss (noted (Saw w d m x) g)) x)) k.0
    ∙ served_goes ask supply nested room ss t l even k.1 r
served_goes {g = g} ask supply nested room ss (puts {items = items} t) l even k r =
    let more = closed_holes g.outer g.top (filled items []) in
    let no_more = no_holes items in
    served_goes ask supply nested room ss t l (omega (arith, more, no_more, even)) k r
served_goes {g = g} ask supply nested room ss (begins t) l even k r =
    let more = closed_holes g.outer g.top (aside_of Ended) in
    let no_more : holes (aside_of Ended) ≡ 0 = refl in
    served_goes ask supply nested room ss t l (omega (arith, more, no_more, even)) k r
served_goes {g = g} ask supply nested room ss (wraps {how = how} t) l even k r =
    served_goes ask supply nested room ss t l (wrapped_holes how g.top g.outer ∙ even) k r
served_goes {g = g} ask supply nested room ss (takes {first = j} {contents = xs} {next = next} i t) l even k r =
    let f : length ss - holes g.top ≡ j = ap (λ n. n - holes g.top) l ∙ sym i in
    ap (λ n. whole (own ask supply nested room (next (quiet (filled g.top (drop n ss)))) (over ss (aside_with n (drop n ss) g)))) f
    ∙ ap (λ ys. whole (own ask supply nested room (next (quiet (filled g.top ys))) (over ss (aside_with j ys g)))) k.0
    ∙ served_goes ask supply nested room ss t l (aside_holes g.top g.outer ∙ even) k.1 r
served_goes {g = g} ask supply nested room ss (deepens {depth = d} {next = next} t) l even k r =
    let i = trail_height t in
    let j = higher_left g.height d in
    rw (le-ltb room d (omega (arith, i, j.1, r))) (served_goes ask supply nested room ss t l even k r)
served_goes {N = N} {g = g} {h = h} {e = e} ask supply nested room ss (enters {call = c} {depth = d} {next = next} {es = es} s t) l even k r =
    let new = (nested d c).content in
    let n : length (ss ++ new ∷ []) ≡ length (g.streams ++ s ∷ []) =
    length-append ss (new ∷ []) ∙ ap (λ m. m + 1) l ∙ sym (length-append g.streams (s ∷ [])) in
    let more = closed_holes g.outer g.top (Hole Ended) in
    let longer = length-append g.streams (s ∷ []) in
    let there : cut (length ss) (closed h) ≡ closed (opened c d g) = ap (λ m. cut m (closed h)) l ∙ cut_there next g h es e c d s t even in
    go (nested d c).ending there (λ on. served_goes ask supply nested room (ss ++ new ∷ []) t n (omega (arith, more, longer, even)) (k on) r)
  where
    go : (x : Ending N) → cut (length ss) (closed h) ≡ closed (opened c d g)
        → (GoesOn x → whole (own ask supply nested room next (given (nested d c).content (opened c d (over ss g))))
        ≡ comes_along (closed h) e nested (ss ++ (nested d c).content ∷ []) es)
        → whole (unless_halted (own ask supply nested room next (given (nested d c).content (opened c d (over ss g))))
        (given (nested d c).content (opened c d (over ss g))) x)
        ≡ unless_refused (comes_along (closed h) e nested (ss ++ (nested d c).content ∷ []) es)
        (filled (cut (length ss) (closed h)) (ss ++ (nested d c).content ∷ [])) x
    go Finished f m = m tt
    go (Gave v) f m = m tt
    go (Halted why) f m = ap (λ x. record { content = filled x (ss ++ (nested d c).content ∷ []); ending = Halted why }) (sym f)

pub served_means : {N : Type 0} (s : Setting N) (i : Instantiation N) (k : Kept N) → Serves s i k → meaning_of s i ≡ comes_to s i k
served_means {N = N} s i k serves =
    let f = serves.fits in
    let last = f.lasting.last in
    let height : k.height ≡ last.height = ap (λ (x : Kept N). x.height) f.lasting.is in
    let content : k.content ≡ closed last = ap (λ (x : Kept N). x.content) f.lasting.is in
    let levels = f.levels in
    let t = goes_along_call s.same i.call k f.of_call f.lasting.trail in
    sym (filled_whole s.ask (given_to s i) (meant_below s i) i.below (plan_of s.same i.call))
    ∙ served_goes s.ask (given_to s i) (meant_below s i) i.below [] t refl refl serves.reads (omega (arith, levels, height))
    ∙ ap (λ x. comes_along x k.ending (meant_below s i) [] k.trace) (sym content)

-- where what it enters goes on too, since it comes to its end
holds_too : {N : Type 0} {p : Plan N} {g h : Going N} {es : List (Event N)} {e : Ending N} (ask : Question N → Answer N)
    (supply : Wanted → ℕ → Place → Supplied N) (nested : ℕ → Call N → Outcome N) (room : ℕ) (ss : List Stream)
    → Trail p g es h e → length ss ≡ length g.streams → ReadsHold ask supply nested ss es → h.height ≤ room
    → GoesOn (own ask supply nested room p (over ss g)).ending → Hold ask supply nested ss es
holds_too ask supply nested room ss finishes l k r end = tt
holds_too ask supply nested room ss gives l k r end = tt
holds_too {N = N} {g = g} ask supply nested room ss (asks {question = q} {next = next} t) l k r end =
    let P : Answer N → Type 0 = λ a. GoesOn (own ask supply nested room (next a) (over ss (noted (Asked q a) g))).ending in
    (k.0, holds_too ask supply nested room ss t l k.1 r (subst P k.0 end))
holds_too {N = N} {g = g} ask supply nested room ss (uses {wanted = w} {depth = d} {place = m} {next = next} t) l k r end =
    let P : Supplied N → Type 0 = λ x.
    GoesOn (if_known (λ v. own ask supply nested room (next v) (over ss (noted (Saw w d m x) g))) (over ss (noted (Saw w d m x) g)) x).ending in
    (k.0, holds_too ask supply nested room ss t l k.1 r (subst P k.0 end))
holds_too ask supply nested room ss (puts t) l k r end = holds_too ask supply nested room ss t l k r end
holds_too ask supply nested room ss (begins t) l k r end = holds_too ask supply nested room ss t l k r end
holds_too ask supply nested room ss (wraps t) l k r end = holds_too ask supply nested room ss t l k r end
holds_too {g = g} ask supply nested room ss (takes {first = j} {contents = xs} {next = next} i t) l k r end =
    let f : length ss - holes g.top ≡ j = ap (λ n. n - holes g.top) l ∙ sym i in
    let P : ℕ → Type 0 = λ n. GoesOn (own ask supply nested room (next (quiet (filled g.top (drop n ss))))
    (over ss (aside_with n (drop n ss) g))).ending in
    let Q : List Stream → Type 0 = λ ys. GoesOn (own ask supply nested room (next (quiet (filled g.top ys))) (over ss (aside_with j ys g))).ending in
    (k.0, holds_too ask supply nested room ss t l k.1 r (subst Q k.0 (subst P f end)))
holds_too {g = g} ask supply nested room ss (deepens {depth = d} {place = m} {next = next} t) l k r end =
    let i = trail_height t in
    let j = higher_left g.height d in
    let fits : nat_lt room d ≡ false = le-ltb room d (omega (arith, i, j.1, r)) in
    let P : Bool → Type 0 = λ b.
    GoesOn (cond b (owned (over ss g) (Halted (too_deep m))) (own ask supply nested room next (over ss (deepened d g)))).ending in
    holds_too ask supply nested room ss t l k r (subst P fits end)
holds_too {N = N} {g = g} ask supply nested room ss (enters {call = c} {depth = d} {next = next} {es = es} s t) l k r end =
    let new = (nested d c).content in
    let n : length (ss ++ new ∷ []) ≡ length (g.streams ++ s ∷ []) =
    length-append ss (new ∷ []) ∙ ap (λ m. m + 1) l ∙ sym (length-append g.streams (s ∷ [])) in
    go (nested d c).ending (λ on later. holds_too ask supply nested room (ss ++ new ∷ []) t n (k on) r later) end
  where
    go : (x : Ending N)
        → (GoesOn x → GoesOn (own ask supply nested room next (given (nested d c).content (opened c d (over ss g)))).ending
        → Hold ask supply nested (ss ++ (nested d c).content ∷ []) es)
        → GoesOn (unless_halted (own ask supply nested room next (given (nested d c).content (opened c d (over ss g))))
        (given (nested d c).content (opened c d (over ss g))) x).ending
        → GoesOn x × Hold ask supply nested (ss ++ (nested d c).content ∷ []) es
    go Finished f m = (tt, f tt m)
    go (Gave v) f m = (tt, f tt m)
    go (Halted why) f m = absurd m

pub served_record : {N : Type 0} (s : Setting N) (i : Instantiation N) (k : Kept N) → Serves s i k → GoesOn (own_of s i).ending → IsRecordOf s i k
served_record {N = N} s i k serves end =
    let f = serves.fits in
    let height : k.height ≡ f.lasting.last.height = ap (λ (x : Kept N). x.height) f.lasting.is in
    let levels = f.levels in
    let t = goes_along_call s.same i.call k f.of_call f.lasting.trail in
    let fits : f.lasting.last.height ≤ i.below = omega (arith, levels, height) in
    let hold = holds_too s.ask (given_to s i) (meant_below s i) i.below [] t refl serves.reads fits end in
    let own = trail_goes s.ask (given_to s i) (meant_below s i) i.below [] t refl hold fits in
    record { of_call = f.of_call; same = ap (taken_for i.call) f.lasting.is ∙ sym (ap (λ (o : Owned N). kept_as i.call o.going o.ending) own) }
