-- That something goes along its plan can be said in one way alone: so where it is known that it does, it is known how.
use Rattle.std.proofs.Common.{◌≡◌, ℕ, Bool, ◌+◌, ◌-◌, List, [], ◌∷◌, ◌++◌, length, refl, sym, ap, subst, ◌∙◌, length-append}
use Rattle.std.proofs.Math.Logic.{∥∥₁_elim}
use Rattle.spec_stylesheet.specs.Place.{Place}
use Rattle.spec_meaning.specs.Stream as stream
use Rattle.spec_meaning.specs.Stream.{Stream, filled, holes}
use Rattle.spec_meaning.specs.Question.{Question, Answer}
use Rattle.spec_meaning.specs.Program.{Wanted, Given}
use Rattle.spec_run.specs.Plan.{Call, Plan, End, Yield, Stop, Inquire, Use, Put, Begin, Wrap, Take, Deep, Enter}
use Rattle.spec_run.specs.Direct.{quiet, Known, Failed, Ending, Finished, Gave}
use Rattle.spec_run.specs.Going.{Event, Asked, Saw, Entered, Held, Going, at_start, noted, put, begun, wrap, deepened, opened, given, closed}
use Rattle.spec_run.specs.Hold.{over}
use Rattle.spec_run.specs.Trail.{aside_with, Trail, finishes, gives, asks, uses, puts, begins, wraps, takes, deepens, enters, Kept, IsTrue}
use Rattle.spec_run.specs.Content.{plan_of}
use Rattle.spec_run.proofs.Trails.{trail_trace}

⊥_prop : IsProp ⊥
⊥_prop x y = absurd x

-- ---- What was done next

abbrev if_done : {N : Type 0} → List (Event N) → Type 0 → Type 0
if_done [] P = P
if_done (e ∷ es) P = ⊥

abbrev if_asked : {N : Type 0} → List (Event N) → (Question N → Answer N → List (Event N) → Type 0) → Type 0
if_asked (Asked question answer ∷ es) F = F question answer es
if_asked _ F = ⊥

abbrev if_seen : {N : Type 0} → List (Event N) → (Wanted → ℕ → Place → Given N → List (Event N) → Type 0) → Type 0
if_seen (Saw wanted depth place (Known x) ∷ es) F = F wanted depth place x es
if_seen _ F = ⊥

abbrev if_held : {N : Type 0} → List (Event N) → (ℕ → List Stream → List (Event N) → Type 0) → Type 0
if_held (Held first contents ∷ es) F = F first contents es
if_held _ F = ⊥

abbrev if_entered : {N : Type 0} → List (Event N) → (Call N → ℕ → List (Event N) → Type 0) → Type 0
if_entered (Entered call depth ∷ es) F = F call depth es
if_entered _ F = ⊥

module _ {N : Type 0} where
  done_prop : (es : List (Event N)) {P : Type 0} → IsProp P → IsProp (if_done es P)
  done_prop [] f = f
  done_prop (e ∷ es) f = ⊥_prop

  asked_prop : (es : List (Event N)) {F : Question N → Answer N → List (Event N) → Type 0}
      → ((q : Question N) (a : Answer N) (rest : List (Event N)) → IsProp (F q a rest)) → IsProp (if_asked es F)
  asked_prop [] f = ⊥_prop
  asked_prop (Asked q a ∷ es) f = f q a es
  asked_prop (Saw w d l x ∷ es) f = ⊥_prop
  asked_prop (Entered c d ∷ es) f = ⊥_prop
  asked_prop (Held j xs ∷ es) f = ⊥_prop

  seen_prop : (es : List (Event N)) {F : Wanted → ℕ → Place → Given N → List (Event N) → Type 0}
      → ((w : Wanted) (d : ℕ) (l : Place) (x : Given N) (rest : List (Event N)) → IsProp (F w d l x rest)) → IsProp (if_seen es F)
  seen_prop [] f = ⊥_prop
  seen_prop (Asked q a ∷ es) f = ⊥_prop
  seen_prop (Saw w d l (Known x) ∷ es) f = f w d l x es
  seen_prop (Saw w d l (Failed why) ∷ es) f = ⊥_prop
  seen_prop (Entered c d ∷ es) f = ⊥_prop
  seen_prop (Held j xs ∷ es) f = ⊥_prop

  held_prop : (es : List (Event N)) {F : ℕ → List Stream → List (Event N) → Type 0}
      → ((j : ℕ) (xs : List Stream) (rest : List (Event N)) → IsProp (F j xs rest)) → IsProp (if_held es F)
  held_prop [] f = ⊥_prop
  held_prop (Asked q a ∷ es) f = ⊥_prop
  held_prop (Saw w d l x ∷ es) f = ⊥_prop
  held_prop (Entered c d ∷ es) f = ⊥_prop
  held_prop (Held j xs ∷ es) f = f j xs es

  entered_prop : (es : List (Event N)) {F : Call N → ℕ → List (Event N) → Type 0}
      → ((c : Call N) (d : ℕ) (rest : List (Event N)) → IsProp (F c d rest)) → IsProp (if_entered es F)
  entered_prop [] f = ⊥_prop
  entered_prop (Asked q a ∷ es) f = ⊥_prop
  entered_prop (Saw w d l x ∷ es) f = ⊥_prop
  entered_prop (Entered c d ∷ es) f = f c d es
  entered_prop (Held j xs ∷ es) f = ⊥_prop

-- ---- Along a plan

abbrev EndsAs : {N : Type 0} → Going N → Ending N → Kept N → Type 0
EndsAs g e k = (k.content ≡ closed g) × (k.height ≡ g.height) × (k.ending ≡ e)

-- the streams of what was entered count by their number alone, so they are all empty here
abbrev Follows : {N : Type 0} → Plan N → Going N → List (Event N) → Kept N → Type 0
Follows End g es k = if_done es (EndsAs g Finished k)
Follows (Yield value) g es k = if_done es (EndsAs g (Gave value) k)
Follows (Stop why) g es k = ⊥
Follows (Inquire question next) g es k = if_asked es (λ q a rest. (q ≡ question) × Follows (next a) (noted (Asked question a) g) rest k)
Follows (Use wanted depth place next) g es k =
    if_seen es (λ w d l x rest. (w ≡ wanted) × (d ≡ depth) × (l ≡ place) × Follows (next x) (noted (Saw wanted depth place (Known x)) g) rest k)
Follows (Put items next) g es k = Follows next (put items g) es k
Follows (Begin next) g es k = Follows next (begun g) es k
Follows (Wrap how next) g es k = Follows next (wrap how g) es k
Follows (Take next) g es k =
    if_held es (λ j xs rest. (j ≡ length g.streams - holes g.top) × Follows (next (quiet (filled g.top xs))) (aside_with j xs g) rest k)
Follows (Deep depth place next) g es k = Follows next (deepened depth g) es k
Follows (Enter call depth next) g es k =
    if_entered es (λ c d rest. (c ≡ call) × (d ≡ depth) × Follows next (given stream.Ended (opened call depth g)) rest k)

-- equations of what plans are made of have one proof
pub record AreSets (N : Type 0) : Type 0 where
  pub questions : IsSet (Question N)
  pub calls : IsSet (Call N)
  pub wanted : IsSet Wanted
  pub numbers : IsSet ℕ
  pub places : IsSet Place
  pub streams : IsSet Stream
  pub endings : IsSet (Ending N)

module _ {N : Type 0} (sets : AreSets N) where
  ends_prop : (g : Going N) (e : Ending N) (k : Kept N) → IsProp (EndsAs g e k)
  ends_prop g e k = hlevel (sets.streams, sets.numbers, sets.endings)

  follows_prop : (p : Plan N) (g : Going N) (es : List (Event N)) (k : Kept N) → IsProp (Follows p g es k)
  follows_prop End g es k = done_prop es (ends_prop g Finished k)
  follows_prop (Yield v) g es k = done_prop es (ends_prop g (Gave v) k)
  follows_prop (Stop why) g es k = ⊥_prop
  follows_prop (Inquire q next) g es k =
      asked_prop es (λ o a rest. let r = follows_prop (next a) (noted (Asked q a) g) rest k in hlevel (sets.questions, r))
  follows_prop (Use w d l next) g es k =
      seen_prop es (λ v c m x rest. let r = follows_prop (next x) (noted (Saw w d l (Known x)) g) rest k in
      hlevel (sets.wanted, sets.numbers, sets.places, r))
  follows_prop (Put items next) g es k = follows_prop next (put items g) es k
  follows_prop (Begin next) g es k = follows_prop next (begun g) es k
  follows_prop (Wrap how next) g es k = follows_prop next (wrap how g) es k
  follows_prop (Take next) g es k =
      held_prop es (λ j xs rest. let r = follows_prop (next (quiet (filled g.top xs))) (aside_with j xs g) rest k in hlevel (sets.numbers, r))
  follows_prop (Deep d l next) g es k = follows_prop next (deepened d g) es k
  follows_prop (Enter c d next) g es k =
      entered_prop es (λ b n rest. let r = follows_prop next (given stream.Ended (opened c d g)) rest k in hlevel (sets.calls, sets.numbers, r))

follows : {N : Type 0} {p : Plan N} {g h : Going N} {es : List (Event N)} {e : Ending N} (k : Kept N) (ss : List Stream)
    → Trail p g es h e → length ss ≡ length g.streams → EndsAs h e k → Follows p (over ss g) es k
follows k ss finishes l f = f
follows k ss gives l f = f
follows k ss (asks t) l f = (refl, follows k ss t l f)
follows k ss (uses t) l f = (refl, refl, refl, follows k ss t l f)
follows k ss (puts t) l f = follows k ss t l f
follows k ss (begins t) l f = follows k ss t l f
follows k ss (wraps t) l f = follows k ss t l f
follows {g = g} k ss (takes i t) l f = (i ∙ ap (λ n. n - holes g.top) (sym l), follows k ss t l f)
follows k ss (deepens t) l f = follows k ss t l f
follows {g = g} k ss (enters s t) l f =
    let n : length (ss ++ stream.Ended ∷ []) ≡ length (g.streams ++ s ∷ []) =
    length-append ss (stream.Ended ∷ []) ∙ ap (λ m. m + 1) l ∙ sym (length-append g.streams (s ∷ [])) in
    (refl, refl, follows k (ss ++ stream.Ended ∷ []) t n f)

-- and back
record Went {N : Type 0} (p : Plan N) (g : Going N) (es : List (Event N)) (k : Kept N) : Type 0 where
  last : Going N
  trail : Trail p g es last k.ending
  content : k.content ≡ closed last
  height : k.height ≡ last.height

module _ {N : Type 0} where
  went_End : (g : Going N) (es : List (Event N)) (k : Kept N) → if_done es (EndsAs g Finished k) → Went End g es k
  went_End g [] k f =
      let T : Ending N → Type 0 = λ e. Trail End g [] g e in
      record { last = g; trail = subst T (sym f.2) finishes; content = f.0; height = f.1 }
  went_End g (e ∷ es) k f = absurd f

  went_Yield : (v : _) (g : Going N) (es : List (Event N)) (k : Kept N) → if_done es (EndsAs g (Gave v) k) → Went (Yield v) g es k
  went_Yield v g [] k f =
      let T : Ending N → Type 0 = λ e. Trail (Yield v) g [] g e in
      record { last = g; trail = subst T (sym f.2) gives; content = f.0; height = f.1 }
  went_Yield v g (e ∷ es) k f = absurd f

  went : (p : Plan N) (g : Going N) (es : List (Event N)) (k : Kept N) → Follows p g es k → Went p g es k
  went End g es k f = went_End g es k f
  went (Yield v) g es k f = went_Yield v g es k f
  went (Stop why) g es k f = absurd f
  went (Inquire q next) g [] k f = absurd f
  went (Inquire q next) g (Asked o a ∷ es) k f =
      let m = went (next a) (noted (Asked q a) g) es k f.1 in
      let T : Question N → Type 0 = λ r. Trail (Inquire q next) g (Asked r a ∷ es) m.last k.ending in
      record { last = m.last; trail = subst T (sym f.0) (asks m.trail); content = m.content; height = m.height }
  went (Inquire q next) g (Saw w d l x ∷ es) k f = absurd f
  went (Inquire q next) g (Entered c d ∷ es) k f = absurd f
  went (Inquire q next) g (Held j xs ∷ es) k f = absurd f
  went (Use w d l next) g [] k f = absurd f
  went (Use w d l next) g (Asked o a ∷ es) k f = absurd f
  went (Use w d l next) g (Saw v c b (Known x) ∷ es) k f =
      let m = went (next x) (noted (Saw w d l (Known x)) g) es k f.3 in
      let W : Wanted → Type 0 = λ r. Trail (Use w d l next) g (Saw r d l (Known x) ∷ es) m.last k.ending in
      let D : ℕ → Type 0 = λ r. Trail (Use w d l next) g (Saw v r l (Known x) ∷ es) m.last k.ending in
      let L : Place → Type 0 = λ r. Trail (Use w d l next) g (Saw v c r (Known x) ∷ es) m.last k.ending in
      record { last = m.last; trail = subst L (sym f.2) (subst D (sym f.1) (subst W (sym f.0) (uses m.trail))); content = m.content; height = m.height }
  went (Use w d l next) g (Saw v c b (Failed why) ∷ es) k f = absurd f
  went (Use w d l next) g (Entered c n ∷ es) k f = absurd f
  went (Use w d l next) g (Held j xs ∷ es) k f = absurd f
  went (Put items next) g es k f =
      let m = went next (put items g) es k f in record { last = m.last; trail = puts m.trail; content = m.content; height = m.height }
  went (Begin next) g es k f =
      let m = went next (begun g) es k f in record { last = m.last; trail = begins m.trail; content = m.content; height = m.height }
  went (Wrap how next) g es k f =
      let m = went next (wrap how g) es k f in record { last = m.last; trail = wraps m.trail; content = m.content; height = m.height }
  went (Take next) g [] k f = absurd f
  went (Take next) g (Asked o a ∷ es) k f = absurd f
  went (Take next) g (Saw w d l x ∷ es) k f = absurd f
  went (Take next) g (Entered c d ∷ es) k f = absurd f
  went (Take next) g (Held j xs ∷ es) k f =
      let m = went (next (quiet (filled g.top xs))) (aside_with j xs g) es k f.1 in
      record { last = m.last; trail = takes f.0 m.trail; content = m.content; height = m.height }
  went (Deep d l next) g es k f =
      let m = went next (deepened d g) es k f in record { last = m.last; trail = deepens m.trail; content = m.content; height = m.height }
  went (Enter c d next) g [] k f = absurd f
  went (Enter c d next) g (Asked o a ∷ es) k f = absurd f
  went (Enter c d next) g (Saw w n l x ∷ es) k f = absurd f
  went (Enter c d next) g (Entered b n ∷ es) k f =
      let m = went next (given stream.Ended (opened c d g)) es k f.2 in
      let C : Call N → Type 0 = λ r. Trail (Enter c d next) g (Entered r d ∷ es) m.last k.ending in
      let D : ℕ → Type 0 = λ r. Trail (Enter c d next) g (Entered b r ∷ es) m.last k.ending in
      record { last = m.last; trail = subst D (sym f.1) (subst C (sym f.0) (enters stream.Ended m.trail)); content = m.content; height = m.height }
  went (Enter c d next) g (Held j xs ∷ es) k f = absurd f

-- it goes along its plan
pub truly : {N : Type 0} → AreSets N → (same : N → N → Bool) (k : Kept N) → ∥ IsTrue same k ∥₁ → IsTrue same k
truly {N = N} sets same k known =
    let follows_it : IsTrue same k → Follows (plan_of same k.call) at_start k.trace k = λ t.
    follows k [] t.trail refl (ap (λ (x : Kept N). x.content) t.is, ap (λ (x : Kept N). x.height) t.is, refl) in
    let m = went (plan_of same k.call) at_start k.trace k (∥∥₁_elim known (follows_prop sets (plan_of same k.call) at_start k.trace k) follows_it) in
    let all : k.trace ≡ m.last.trace = sym (trail_trace m.trail) in
    record {
      last = m.last;
      trail = m.trail;
      is = λ i. record { call = k.call; trace = all i; content = m.content i; height = m.height i; ending = k.ending };
    }
