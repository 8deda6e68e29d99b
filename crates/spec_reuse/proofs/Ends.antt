-- All that is entered by what comes to its end comes to its end too.
use Rattle.std.proofs.Common.{◌≡◌, ℕ, zero, suc, ◌⊎◌, inl, inr, List, [], ◌∷◌, ◌++◌, Bool, true, false, cond, refl, sym, subst, ◌∙◌}
use Rattle.std.specs.Prelude.{Option, None, Some}
use Rattle.std.specs.List.{list_any}
use Rattle.spec_document.specs.Name.{Expanded, same_name}
use Rattle.spec_stylesheet.specs.Place.{Place}
use Rattle.spec_meaning.specs.Stream.{Stream}
use Rattle.spec_meaning.specs.Program.{Wanted, Position, Size, Rule, Global, Given, Valued}
use Rattle.spec_meaning.specs.Context.{Bound}
use Rattle.spec_run.specs.Plan.{Call, Plan}
use Rattle.spec_run.specs.Direct.{Supplied, Known, Failed, Ending, Outcome}
use Rattle.spec_run.specs.Going.{Event, Asked, Saw, Entered, Held, Going}
use Rattle.spec_run.specs.Hold.{GoesOn, Hold}
use Rattle.spec_run.specs.Trail.{Trail, finishes, gives, asks, uses, puts, begins, wraps, takes, deepens, enters}
use Rattle.spec_run.specs.Content.{plan_of}
use Rattle.spec_run.specs.Meaning.{Setting, Past, going_into, global_call, element_named, refer, evaluated, referred, settled, meaning}
use Rattle.spec_run.proofs.Fill.{filled_whole}
use Rattle.spec_run.proofs.Trails.{trail_trace}
use Rattle.spec_run.proofs.More.{held_known}
use Rattle.spec_reuse.specs.Among.{IsIn}
use Rattle.spec_reuse.specs.Instantiation.{Instantiation, given_to, meant_below, own_of, unless_past, for_element, for_reference, entered}
use Rattle.spec_reuse.specs.Instantiation.{meaning_of}
use Rattle.spec_reuse.specs.Ledger.{nested_along, nested_in, AllEnd}
use Rattle.spec_reuse.proofs.Again.{in_append, went}

-- ---- What is given along a trail is no refusal

abbrev pub AllKnown : {N : Type 0} → List (Event N) → Type 0
AllKnown [] = Unit {0}
AllKnown (Asked question answer ∷ es) = AllKnown es
AllKnown (Saw wanted depth place (Known x) ∷ es) = AllKnown es
AllKnown (Saw wanted depth place (Failed why) ∷ es) = ⊥
AllKnown (Entered call depth ∷ es) = AllKnown es
AllKnown (Held first contents ∷ es) = AllKnown es

pub trail_known : {N : Type 0} {p : Plan N} {g h : Going N} {es : List (Event N)} {e : Ending N} → Trail p g es h e → AllKnown es
trail_known finishes = tt
trail_known gives = tt
trail_known (asks t) = trail_known t
trail_known (uses t) = trail_known t
trail_known (puts t) = trail_known t
trail_known (begins t) = trail_known t
trail_known (wraps t) = trail_known t
trail_known (takes i t) = trail_known t
trail_known (deepens t) = trail_known t
trail_known (enters s t) = trail_known t

pub known_here : {N : Type 0} (w : Wanted) (d : ℕ) (l : Place) (x : Supplied N) (es : List (Event N)) → AllKnown (Saw w d l x ∷ es)
    → (y : Given N) × (x ≡ Known y)
known_here w d l (Known y) es a = (y, refl)
known_here w d l (Failed why) es a = absurd a

pub known_behind : {N : Type 0} (w : Wanted) (d : ℕ) (l : Place) (x : Supplied N) (es : List (Event N)) → AllKnown (Saw w d l x ∷ es) → AllKnown es
known_behind w d l (Known y) es a = a
known_behind w d l (Failed why) es a = absurd a

pub known_front : {N : Type 0} (front rest : List (Event N)) → AllKnown (front ++ rest) → AllKnown front
known_front [] rest a = tt
known_front (Asked question answer ∷ es) rest a = known_front es rest a
known_front (Saw wanted depth place (Known x) ∷ es) rest a = known_front es rest a
known_front (Saw wanted depth place (Failed why) ∷ es) rest a = absurd a
known_front (Entered call depth ∷ es) rest a = known_front es rest a
known_front (Held first contents ∷ es) rest a = known_front es rest a

-- ---- References

-- what is entered for a reference that gives something gives that now
referred_now : {N : Type 0} (name : Expanded) (l : Place) (bs : List (Bound N)) (is_under : Bool) (now : Supplied N) (x : Given N)
    (is : List (Instantiation N)) (i : Instantiation N)
    → refer name l bs is_under now ≡ Known x → IsIn i (unless_past name bs is_under is) → (now ≡ Known x) × IsIn i is
referred_now name l [] true now x is i k h = absurd h
referred_now name l [] false now x is i k h = (k, h)
referred_now {N = N} name l (b ∷ bs) is_under now x is i k h = go (same_name b.name name) (referred_now name l bs is_under now x is i) k h
  where
    go : (t : Bool) → (refer name l bs is_under now ≡ Known x → IsIn i (unless_past name bs is_under is) → (now ≡ Known x) × IsIn i is)
        → cond t (Known (Valued b.value)) (refer name l bs is_under now) ≡ Known x
        → IsIn i (cond t [] (unless_past name bs is_under is)) → (now ≡ Known x) × IsIn i is
    go true f e m = absurd m
    go false f e m = f e m

-- what all calls enter that come to their end with so many levels
abbrev pub CallsEnd : {N : Type 0} → Setting N → ℕ → Type 0
CallsEnd {N = N} s room = (past : Past N) (d : ℕ) (c : Call N) → GoesOn (meaning s room past d c).ending
    → (i : Instantiation N) → IsIn i (entered s room past d c) → GoesOn (own_of s i).ending

pub reference_ends : {N : Type 0} (s : Setting N) (room : ℕ) (past : Past N) (name : Expanded) (d : ℕ) (l : Place) (x : Given N) → CallsEnd s room
    → referred s (meaning s room) past name d l ≡ Known x
    → (i : Instantiation N) → IsIn i (for_reference s (entered s room) past name d l) → GoesOn (own_of s i).ending
reference_ends {N = N} s room past name d l x f k i h =
    let o = element_named name s.globals in
    let is = for_element (λ element. entered s room (going_into name past) d (global_call s.root element l)) o in
    let m = referred_now name l past.values (list_any (same_name name) past.under) (evaluated s (meaning s room) past name d l o) x is i k h in
    go o m.0 m.1
  where
    go : (o : Option N) → evaluated s (meaning s room) past name d l o ≡ Known x
        → IsIn i (for_element (λ element. entered s room (going_into name past) d (global_call s.root element l)) o) → GoesOn (own_of s i).ending
    go None e m = absurd m
    go (Some element) e m =
        let c = global_call s.root element l in
        f (going_into name past) d c (held_known (meaning s room (going_into name past) d c) x e) i m

-- ---- Calls

-- along what is known and holds
along_ends : {N : Type 0} (s : Setting N) (i : Instantiation N) (ss : List Stream) (es : List (Event N)) → CallsEnd s i.below → AllKnown es
    → Hold s.ask (given_to s i) (meant_below s i) ss es → (j : Instantiation N) → IsIn j (nested_along s i es) → GoesOn (own_of s j).ending
along_ends s i ss [] f a k j h = absurd h
along_ends s i ss (Asked question answer ∷ es) f a k j h = along_ends s i ss es f a k.1 j h
along_ends s i ss (Saw Position d l x ∷ es) f a k j h = along_ends s i ss es f (known_behind Position d l x es a) k.1 j h
along_ends s i ss (Saw Size d l x ∷ es) f a k j h = along_ends s i ss es f (known_behind Size d l x es a) k.1 j h
along_ends s i ss (Saw Rule d l x ∷ es) f a k j h = along_ends s i ss es f (known_behind Rule d l x es a) k.1 j h
along_ends s i ss (Saw (Global name) d l x ∷ es) f a k j h =
    let y = known_here (Global name) d l x es a in
    elim (in_append j (for_reference s (entered s i.below) i.past name d l) (nested_along s i es) h) [
      | inl m ↦ reference_ends s i.below i.past name d l y.0 f (k.0 ∙ y.1) j m
      | inr m ↦ along_ends s i ss es f (known_behind (Global name) d l x es a) k.1 j m
    ]
along_ends s i ss (Entered c d ∷ es) f a k j h =
    elim (in_append j (entered s i.below i.past d (settled i.call c)) (nested_along s i es) h) [
      | inl m ↦ f i.past d (settled i.call c) k.0 j m
      | inr m ↦ along_ends s i (ss ++ (meant_below s i d c).content ∷ []) es f a k.1 j m
    ]
along_ends s i ss (Held first contents ∷ es) f a k j h = along_ends s i ss es f a k.1 j h

nested_end : {N : Type 0} (s : Setting N) (i : Instantiation N) → CallsEnd s i.below → GoesOn (own_of s i).ending
    → (j : Instantiation N) → IsIn j (nested_in s i) → GoesOn (own_of s j).ending
nested_end {N = N} s i f e j h =
    let m = went s i e in
    let P : List (Event N) → Type 0 = λ es. IsIn j (nested_along s i es) in
    along_ends s i [] m.events f (trail_known m.trail) m.hold j (subst P (trail_trace m.trail) h)

pub own_ends : {N : Type 0} (s : Setting N) (i : Instantiation N) → GoesOn (meaning_of s i).ending → GoesOn (own_of s i).ending
own_ends {N = N} s i e =
    let G : Outcome N → Type 0 = λ o. GoesOn o.ending in
    subst G (sym (filled_whole s.ask (given_to s i) (meant_below s i) i.below (plan_of s.same i.call))) e

pub all_end : {N : Type 0} (s : Setting N) (room : ℕ) → CallsEnd s room
all_end s zero past d c e i h = absurd h
all_end {N = N} s (suc room) past zero c e i h =
    let me : Instantiation N = record { call = c; below = room; past = past } in
    elim (in_append i (nested_in s me) (me ∷ []) h) [
      | inl k ↦ nested_end s me (all_end s room) (own_ends s me e) i k
      | inr k ↦ last k
    ]
  where
    last : (i ≡ record { call = c; below = room; past = past }) ⊎ ⊥ → GoesOn (own_of s i).ending
    last (inl k) = let G : Instantiation N → Type 0 = λ j. GoesOn (own_of s j).ending in
        subst G (sym k) (own_ends s (record { call = c; below = room; past = past }) e)
    last (inr k) = absurd k
all_end s (suc room) past (suc d) c e i h = all_end s room past d c e i h

-- along a front that is known and holds
pub front_ends : {N : Type 0} (s : Setting N) (i : Instantiation N) (es : List (Event N)) → AllKnown es
    → Hold s.ask (given_to s i) (meant_below s i) [] es → AllEnd s (nested_along s i es)
front_ends s i es a k j h = along_ends s i [] es (all_end s i.below) a k j h

pub call_ends : {N : Type 0} (s : Setting N) (i : Instantiation N) (call : Call N) (depth : ℕ) → GoesOn (meant_below s i depth call).ending
    → AllEnd s (entered s i.below i.past depth (settled i.call call))
call_ends s i call depth e = all_end s i.below i.past depth (settled i.call call) e

pub given_ends : {N : Type 0} (s : Setting N) (i : Instantiation N) (name : Expanded) (depth : ℕ) (place : Place) (x : Given N)
    → given_to s i (Global name) depth place ≡ Known x → AllEnd s (for_reference s (entered s i.below) i.past name depth place)
given_ends s i name depth place x e = reference_ends s i.below i.past name depth place x (all_end s i.below) e
