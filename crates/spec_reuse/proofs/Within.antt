-- What is entered again repeats what was entered: so no call repeats within itself.
use Rattle.std.proofs.Common.{◌≡◌, ℕ, zero, suc, ◌-◌, ◌≤◌, ◌<◌, ◌⊎◌, inl, inr, List, [], ◌∷◌, ◌++◌, length, Bool, true, false, cond}
use Rattle.std.proofs.Common.{refl, sym, ap, subst, ◌∙◌, arith, length-append}
use Rattle.std.specs.Prelude.{Option, None, Some}
use Rattle.std.specs.List.{list_any}
use Rattle.spec_document.specs.Name.{Expanded, same_name}
use Rattle.spec_stylesheet.specs.Place.{Place}
use Rattle.spec_meaning.specs.Stream.{Stream}
use Rattle.spec_meaning.specs.Value.{Value}
use Rattle.spec_meaning.specs.Program.{Position, Size, Rule, Global, Given}
use Rattle.spec_meaning.specs.Context.{Bound, binding_of}
use Rattle.spec_run.specs.Plan.{Call, nowhere}
use Rattle.spec_run.specs.Direct.{Supplied, Known, Failed, Outcome}
use Rattle.spec_run.specs.Going.{Event, Asked, Saw, Entered, Held, Owned}
use Rattle.spec_run.specs.Hold.{GoesOn, Hold}
use Rattle.spec_run.specs.Meaning.{NamedGlobal, Setting, Past, going_into, held_by, global_call, element_named, refer, evaluated, referred, settled, meaning}
use Rattle.spec_run.specs.Meaning.{at_turn, value_of, levels_of_a_run, root_call}
use Rattle.spec_run.proofs.Trails.{trail_trace}
use Rattle.spec_run.proofs.More.{held_known, meaning_at}
use Rattle.spec_reuse.specs.Among.{IsIn}
use Rattle.spec_reuse.specs.Instantiation.{Instantiation, given_to, meant_below, own_of, entered_along, unless_past, for_element, for_reference}
use Rattle.spec_reuse.specs.Instantiation.{entered, after_turn, entered_by_run, instantiations}
use Rattle.spec_reuse.specs.Cost.{Repeats}
use Rattle.spec_reuse.specs.Ledger.{nested_along, nested_in}
use Rattle.spec_reuse.proofs.Entering.{entered_at}
use Rattle.spec_reuse.proofs.Later.{entered_by, own_by, past_with, by_turn, refer_by_turn, Agrees, own_later, meaning_later}
use Rattle.spec_reuse.proofs.Again.{in_append, in_unless, in_element, entered_values, agrees_self, AgreeEither, in_place_of, went, in_one_run}
use Rattle.spec_reuse.proofs.Ends.{AllKnown, trail_known, known_here, known_behind, own_ends}

-- ---- Repeats of some of a list, in its order

pub data AreAgain {N : Type 0} (s : Setting N) : List (Instantiation N) → List (Instantiation N) → Type 0 where
  at_end : AreAgain s [] []
  once_more : {i j : Instantiation N} {is js : List (Instantiation N)} → Repeats s i j → AreAgain s is js → AreAgain s (i ∷ is) (j ∷ js)
  not_again : {i : Instantiation N} {is js : List (Instantiation N)} → AreAgain s is js → AreAgain s (i ∷ is) js

none_again : {N : Type 0} (s : Setting N) (is : List (Instantiation N)) → AreAgain s is []
none_again s [] = at_end
none_again s (i ∷ is) = not_again (none_again s is)

again_append : {N : Type 0} {s : Setting N} {is js ks ls : List (Instantiation N)} → AreAgain s is js → AreAgain s ks ls
    → AreAgain s (is ++ ks) (js ++ ls)
again_append at_end b = b
again_append (once_more r a) b = once_more r (again_append a b)
again_append (not_again a) b = not_again (again_append a b)

no_more_again : {N : Type 0} {s : Setting N} {is js : List (Instantiation N)} → AreAgain s is js → length js ≤ length is
no_more_again at_end = omega arith
no_more_again (once_more r a) = let l = no_more_again a in omega (arith, l)
no_more_again (not_again a) = let l = no_more_again a in omega (arith, l)

pub some_again : {N : Type 0} {s : Setting N} {is js : List (Instantiation N)} → AreAgain s is js → (j : Instantiation N) → IsIn j js
    → (i : Instantiation N) × IsIn i is × Repeats s i j
some_again at_end j h = absurd h
some_again {N = N} {s = s} (once_more {i = i} r a) j (inl e) = let R : Instantiation N → Type 0 = λ k. Repeats s i k in (i, inl refl, subst R (sym e) r)
some_again (once_more r a) j (inr h) = let m = some_again a j h in (m.0, inr m.1, m.2)
some_again (not_again a) j h = let m = some_again a j h in (m.0, inr m.1, m.2)

-- ---- References

abbrev unless_turned : {N : Type 0} → Option (Value N) → (is_under : Bool) → List (Instantiation N) → List (Instantiation N)
unless_turned None is_under is = cond is_under [] is
unless_turned (Some v) is_under is = []

unless_by_turn : {N : Type 0} (name : Expanded) (bs : List (Bound N)) (is_under : Bool) (is : List (Instantiation N))
    → unless_past name bs is_under is ≡ unless_turned (binding_of name bs) is_under is
unless_by_turn name [] is_under is = refl
unless_by_turn {N = N} name (b ∷ bs) is_under is = go (same_name b.name name) (unless_by_turn name bs is_under is)
  where
    go : (t : Bool) → unless_past name bs is_under is ≡ unless_turned (binding_of name bs) is_under is
        → cond t [] (unless_past name bs is_under is) ≡ unless_turned (cond t (Some b.value) (binding_of name bs)) is_under is
    go true e = refl
    go false e = e

turned_again : {N : Type 0} (s : Setting N) (l m : Place) (o p : Option (Value N)) (u v : Bool) (x y : Supplied N) (a b : Given N)
    (is js : List (Instantiation N)) → ((w : Value N) → o ≡ Some w → p ≡ Some w) → (x ≡ Known a → y ≡ Known b → AreAgain s is js)
    → by_turn l o u x ≡ Known a → by_turn m p v y ≡ Known b → AreAgain s (unless_turned o u is) (unless_turned p v js)
turned_again {N = N} s l m (Some w) p u v x y a b is js f g h k =
    let P : Option (Value N) → Type 0 = λ z. AreAgain s [] (unless_turned z v js) in subst P (sym (f w refl)) at_end
turned_again s l m None (Some w) u v x y a b is js f g h k = none_again s (cond u [] is)
turned_again s l m None None true v x y a b is js f g h k = absurd (cc)
turned_again s l m None None false true x y a b is js f g h k = absurd (cc)
turned_again s l m None None false false x y a b is js f g h k = g h k

-- where they are given at both places
references_again : {N : Type 0} (s : Setting N) (vs ws : List (Bound N)) (name : Expanded) (l m : Place) (i j : Bool) (now later : Supplied N)
    (x y : Given N) (is js : List (Instantiation N)) → Agrees s vs ws → (now ≡ Known x → later ≡ Known y → AreAgain s is js)
    → refer name l vs i now ≡ Known x → refer name m ws j later ≡ Known y
    → AreAgain s (unless_past name vs i is) (unless_past name ws j js)
references_again {N = N} s vs ws name l m i j now later x y is js w f h k =
    let A : List (Instantiation N) → Type 0 = λ z. AreAgain s z (unless_past name ws j js) in
    let B : List (Instantiation N) → Type 0 = λ z. AreAgain s (unless_turned (binding_of name vs) i is) z in
    subst A (sym (unless_by_turn name vs i is)) (subst B (sym (unless_by_turn name ws j js))
    (turned_again s l m (binding_of name vs) (binding_of name ws) i j now later x y is js (w.known name) f
    (sym (refer_by_turn name l vs i now) ∙ h) (sym (refer_by_turn name m ws j later) ∙ k)))

-- what calls enter that come to their end at both places
abbrev EnterAgain : {N : Type 0} → Setting N → (vs ws : List (Bound N)) → (room left : ℕ) → Type 0
EnterAgain {N = N} s vs ws room left = (p q : List Expanded) (d e : ℕ) (c : Call N) → GoesOn (meaning s room (past_with vs p) d c).ending
    → GoesOn (meaning s left (past_with ws q) e c).ending
    → AreAgain s (entered s room (past_with vs p) d c) (entered s left (past_with ws q) e c)

reference_again : {N : Type 0} (s : Setting N) (vs ws : List (Bound N)) (room left : ℕ) (under unders : List Expanded) → Agrees s vs ws
    → EnterAgain s vs ws room left → (name : Expanded) (d : ℕ) (l : Place) (x y : Given N)
    → referred s (meaning s room) (past_with vs under) name d l ≡ Known x → referred s (meaning s left) (past_with ws unders) name d l ≡ Known y
    → AreAgain s (for_reference s (entered s room) (past_with vs under) name d l) (for_reference s (entered s left) (past_with ws unders) name d l)
reference_again {N = N} s vs ws room left under unders w f name d l x y h k =
    let o = element_named name s.globals in
    references_again s vs ws name l l (list_any (same_name name) under) (list_any (same_name name) unders)
    (evaluated s (meaning s room) (past_with vs under) name d l o) (evaluated s (meaning s left) (past_with ws unders) name d l o) x y
    (for_element (λ element. entered s room (past_with vs (name ∷ under)) d (global_call s.root element l)) o)
    (for_element (λ element. entered s left (past_with ws (name ∷ unders)) d (global_call s.root element l)) o) w (go o) h k
  where
    go : (o : Option N) → evaluated s (meaning s room) (past_with vs under) name d l o ≡ Known x
        → evaluated s (meaning s left) (past_with ws unders) name d l o ≡ Known y
        → AreAgain s (for_element (λ element. entered s room (past_with vs (name ∷ under)) d (global_call s.root element l)) o)
        (for_element (λ element. entered s left (past_with ws (name ∷ unders)) d (global_call s.root element l)) o)
    go None a b = at_end
    go (Some element) a b =
        let c = global_call s.root element l in
        f (name ∷ under) (name ∷ unders) d d c (held_known (meaning s room (past_with vs (name ∷ under)) d c) x a)
        (held_known (meaning s left (past_with ws (name ∷ unders)) d c) y b)

-- ---- One instantiation

abbrev at : {N : Type 0} → Call N → ℕ → List (Bound N) → List Expanded → Instantiation N
at c below values under = record { call = c; below = below; past = past_with values under }

along_again : {N : Type 0} (s : Setting N) (vs ws : List (Bound N)) (room left : ℕ) (under unders : List Expanded) (c : Call N)
    (ss us : List Stream) (es : List (Event N)) → Agrees s vs ws → EnterAgain s vs ws room left → AllKnown es
    → Hold s.ask (given_to s (at c room vs under)) (meant_below s (at c room vs under)) ss es
    → Hold s.ask (given_to s (at c left ws unders)) (meant_below s (at c left ws unders)) us es
    → AreAgain s (nested_along s (at c room vs under) es) (nested_along s (at c left ws unders) es)
along_again s vs ws room left under unders c ss us [] w f a h k = at_end
along_again s vs ws room left under unders c ss us (Asked question answer ∷ es) w f a h k =
    along_again s vs ws room left under unders c ss us es w f a h.1 k.1
along_again s vs ws room left under unders c ss us (Saw Position d l x ∷ es) w f a h k =
    along_again s vs ws room left under unders c ss us es w f (known_behind Position d l x es a) h.1 k.1
along_again s vs ws room left under unders c ss us (Saw Size d l x ∷ es) w f a h k =
    along_again s vs ws room left under unders c ss us es w f (known_behind Size d l x es a) h.1 k.1
along_again s vs ws room left under unders c ss us (Saw Rule d l x ∷ es) w f a h k =
    along_again s vs ws room left under unders c ss us es w f (known_behind Rule d l x es a) h.1 k.1
along_again s vs ws room left under unders c ss us (Saw (Global name) d l x ∷ es) w f a h k =
    let y = known_here (Global name) d l x es a in
    again_append (reference_again s vs ws room left under unders w f name d l y.0 y.0 (h.0 ∙ y.1) (k.0 ∙ y.1))
    (along_again s vs ws room left under unders c ss us es w f (known_behind (Global name) d l x es a) h.1 k.1)
along_again s vs ws room left under unders c ss us (Entered inner d ∷ es) w f a h k =
    again_append (f under unders d d (settled c inner) h.0 k.0)
    (along_again s vs ws room left under unders c (ss ++ (meant_below s (at c room vs under) d inner).content ∷ [])
    (us ++ (meant_below s (at c left ws unders) d inner).content ∷ []) es w f a h.1 k.1)
along_again s vs ws room left under unders c ss us (Held first contents ∷ es) w f a h k =
    along_again s vs ws room left under unders c ss us es w f a h.1 k.1

nested_again : {N : Type 0} (s : Setting N) (vs ws : List (Bound N)) (room left : ℕ) (under unders : List Expanded) (c : Call N) → Agrees s vs ws
    → EnterAgain s vs ws room left → GoesOn (own_of s (at c room vs under)).ending → GoesOn (own_of s (at c left ws unders)).ending
    → AreAgain s (nested_in s (at c room vs under)) (nested_in s (at c left ws unders))
nested_again {N = N} s vs ws room left under unders c w f a b =
    let i = at c room vs under in
    let j = at c left ws unders in
    let m = went s i a in
    let n = went s j b in
    let same : own_of s j ≡ own_of s i = own_later s vs ws room left under unders c w
    (λ p q d e inner g h. meaning_later s vs ws room left p q d e inner w g h) a b in
    let first : (own_of s i).going.trace ≡ m.events = trail_trace m.trail in
    let second : (own_of s j).going.trace ≡ m.events = ap (λ (o : Owned N). o.going.trace) same ∙ first in
    let moved : n.events ≡ m.events = sym (trail_trace n.trail) ∙ second in
    let H : List (Event N) → Type 0 = λ es. Hold s.ask (given_to s j) (meant_below s j) [] es in
    let A : List (Event N) → Type 0 = λ es. AreAgain s (nested_along s i es) (nested_in s j) in
    let B : List (Event N) → Type 0 = λ es. AreAgain s (nested_along s i m.events) (nested_along s j es) in
    subst A (sym first) (subst B (sym second)
    (along_again s vs ws room left under unders c [] [] m.events w f (trail_known m.trail) m.hold (subst H moved n.hold)))

-- ---- Calls

one_again : {N : Type 0} (s : Setting N) (vs ws : List (Bound N)) (room left : ℕ) (under unders : List Expanded) (c : Call N) → Agrees s vs ws
    → EnterAgain s vs ws room left
    → GoesOn (meaning s (suc room) (past_with vs under) zero c).ending → GoesOn (meaning s (suc left) (past_with ws unders) zero c).ending
    → AreAgain s (entered s (suc room) (past_with vs under) zero c) (entered s (suc left) (past_with ws unders) zero c)
one_again s vs ws room left under unders c w f g h =
    let i = at c room vs under in
    let j = at c left ws unders in
    let a = own_ends s i g in
    let b = own_ends s j h in
    again_append (nested_again s vs ws room left under unders c w f a b) (once_more {i = i} {j = j} (record {
      target = refl;
      node = refl;
      parameters = refl;
      position = refl;
      size = refl;
      ruling = refl;
      one_ends = a;
      other_ends = b;
    }) at_end)

pub entered_again : {N : Type 0} (s : Setting N) (vs ws : List (Bound N)) (room there : ℕ) (under unders : List Expanded) (depth below : ℕ)
    (c : Call N) → Agrees s vs ws → GoesOn (meaning s room (past_with vs under) depth c).ending
    → GoesOn (meaning s there (past_with ws unders) below c).ending
    → AreAgain s (entered s room (past_with vs under) depth c) (entered s there (past_with ws unders) below c)
entered_again s vs ws zero there under unders depth below c w h i = absurd h
entered_again {N = N} s vs ws (suc room) there under unders zero below c w h i =
    at_room (there - below) (meaning_at s there (past_with ws unders) below c) (entered_at s there (past_with ws unders) below c)
    (λ left k. one_again s vs ws room left under unders c w (λ p q d e inner a b. entered_again s vs ws room left p q d e inner w a b) h k)
  where
    at_room : (n : ℕ) → meaning s there (past_with ws unders) below c ≡ meaning s n (past_with ws unders) zero c
        → entered s there (past_with ws unders) below c ≡ entered s n (past_with ws unders) zero c
        → ((left : ℕ) → GoesOn (meaning s (suc left) (past_with ws unders) zero c).ending
        → AreAgain s (entered s (suc room) (past_with vs under) zero c) (entered s (suc left) (past_with ws unders) zero c))
        → AreAgain s (entered s (suc room) (past_with vs under) zero c) (entered s there (past_with ws unders) below c)
    at_room zero e k f = let P : Outcome N → Type 0 = λ o. GoesOn o.ending in absurd (subst P e i)
    at_room (suc left) e k f =
        let P : Outcome N → Type 0 = λ o. GoesOn o.ending in
        let A : List (Instantiation N) → Type 0 = λ z. AreAgain s (entered s (suc room) (past_with vs under) zero c) z in
        subst A (sym k) (f left (subst P e i))
entered_again s vs ws (suc room) there under unders (suc depth) below c w h i = entered_again s vs ws room there under unders depth below c w h i

-- ---- Two of one call

-- the element that enters it changes nothing of what it enters
nested_by : {N : Type 0} (s : Setting N) (below : ℕ) (past : Past N) (c : Call N) (place : Place)
    → nested_in s (record { call = entered_by place c; below = below; past = past })
    ≡ nested_in s (record { call = c; below = below; past = past })
nested_by {N = N} s below past c place =
    ap (λ (o : Owned N). nested_along s (record { call = c; below = below; past = past }) o.going.trace) (own_by s below past c place)

pub repeats_nested : {N : Type 0} (s : Setting N) (i j : Instantiation N) → Agrees s i.past.values j.past.values → Repeats s i j
    → AreAgain s (nested_in s i) (nested_in s j)
repeats_nested {N = N} s i j w r =
    let vs = i.past.values in
    let ws = j.past.values in
    let A : List (Instantiation N) → Type 0 = λ z. AreAgain s (nested_in s i) z in
    subst A (sym moved) (nested_again s vs ws i.below j.below i.past.under j.past.under i.call w
    (λ p q d e c a b. entered_again s vs ws i.below j.below p q d e c w a b) r.one_ends ends)
  where
    is_call : j.call ≡ entered_by j.call.by i.call
    is_call = λ k. record {
      target = sym r.target k;
      node = sym r.node k;
      parameters = sym r.parameters k;
      position = sym r.position k;
      size = sym r.size k;
      ruling = sym r.ruling k;
      by = j.call.by;
    }

    moved : nested_in s j ≡ nested_in s (in_place_of i j)
    moved = ap (λ c. nested_in s (record { call = c; below = j.below; past = j.past })) is_call ∙ nested_by s j.below j.past i.call j.call.by

    ends : GoesOn (own_of s (in_place_of i j)).ending
    ends =
        let G : Owned N → Type 0 = λ o. GoesOn o.ending in
        let same : own_of s j ≡ own_of s (in_place_of i j) =
        ap (λ c. own_of s (record { call = c; below = j.below; past = j.past })) is_call ∙ own_by s j.below j.past i.call j.call.by in
        subst G same r.other_ends

-- ---- At another element

one_again_by : {N : Type 0} (s : Setting N) (vs ws : List (Bound N)) (room left : ℕ) (under unders : List Expanded) (c : Call N) (place : Place)
    → Agrees s vs ws → GoesOn (meaning s (suc room) (past_with vs under) zero c).ending
    → GoesOn (meaning s (suc left) (past_with ws unders) zero (entered_by place c)).ending
    → AreAgain s (entered s (suc room) (past_with vs under) zero c) (entered s (suc left) (past_with ws unders) zero (entered_by place c))
one_again_by {N = N} s vs ws room left under unders c place w g h =
    let i = at c room vs under in
    let j = at (entered_by place c) left ws unders in
    let a = own_ends s i g in
    let b = own_ends s j h in
    let G : Owned N → Type 0 = λ o. GoesOn o.ending in
    let A : List (Instantiation N) → Type 0 = λ z. AreAgain s (nested_in s i) z in
    let nested = nested_again s vs ws room left under unders c w (λ p q d e inner x y. entered_again s vs ws room left p q d e inner w x y) a
    (subst G (own_by s left (past_with ws unders) c place) b) in
    again_append (subst A (sym (nested_by s left (past_with ws unders) c place)) nested) (once_more {i = i} {j = j} (record {
      target = refl;
      node = refl;
      parameters = refl;
      position = refl;
      size = refl;
      ruling = refl;
      one_ends = a;
      other_ends = b;
    }) at_end)

entered_by_again : {N : Type 0} (s : Setting N) (vs ws : List (Bound N)) (room there : ℕ) (under unders : List Expanded) (depth below : ℕ)
    (c : Call N) (place : Place) → Agrees s vs ws → GoesOn (meaning s room (past_with vs under) depth c).ending
    → GoesOn (meaning s there (past_with ws unders) below (entered_by place c)).ending
    → AreAgain s (entered s room (past_with vs under) depth c) (entered s there (past_with ws unders) below (entered_by place c))
entered_by_again {N = N} s vs ws room there under unders depth below c place w h i =
    go (room - depth) (there - below) (meaning_at s room (past_with vs under) depth c)
    (meaning_at s there (past_with ws unders) below (entered_by place c)) (entered_at s room (past_with vs under) depth c)
    (entered_at s there (past_with ws unders) below (entered_by place c))
  where
    go : (n m : ℕ) → meaning s room (past_with vs under) depth c ≡ meaning s n (past_with vs under) zero c
        → meaning s there (past_with ws unders) below (entered_by place c) ≡ meaning s m (past_with ws unders) zero (entered_by place c)
        → entered s room (past_with vs under) depth c ≡ entered s n (past_with vs under) zero c
        → entered s there (past_with ws unders) below (entered_by place c) ≡ entered s m (past_with ws unders) zero (entered_by place c)
        → AreAgain s (entered s room (past_with vs under) depth c) (entered s there (past_with ws unders) below (entered_by place c))
    go zero m e f k l = let P : Outcome N → Type 0 = λ o. GoesOn o.ending in absurd (subst P e h)
    go (suc n) zero e f k l = let P : Outcome N → Type 0 = λ o. GoesOn o.ending in absurd (subst P f i)
    go (suc n) (suc m) e f k l =
        let P : Outcome N → Type 0 = λ o. GoesOn o.ending in
        let A : List (Instantiation N) → Type 0 = λ z.
        AreAgain s z (entered s there (past_with ws unders) below (entered_by place c)) in
        let B : List (Instantiation N) → Type 0 = λ z. AreAgain s (entered s (suc n) (past_with vs under) zero c) z in
        subst A (sym k) (subst B (sym l) (one_again_by s vs ws n m under unders c place w (subst P e h) (subst P f i)))

-- what is entered for a reference, at another element and with other levels
pub reference_by_again : {N : Type 0} (s : Setting N) (vs ws : List (Bound N)) (room left : ℕ) (under unders : List Expanded) → Agrees s vs ws
    → (name : Expanded) (d e : ℕ) (l m : Place) (x y : Given N)
    → referred s (meaning s room) (past_with vs under) name d l ≡ Known x → referred s (meaning s left) (past_with ws unders) name e m ≡ Known y
    → AreAgain s (for_reference s (entered s room) (past_with vs under) name d l) (for_reference s (entered s left) (past_with ws unders) name e m)
reference_by_again {N = N} s vs ws room left under unders w name d e l m x y h k =
    let o = element_named name s.globals in
    references_again s vs ws name l m (list_any (same_name name) under) (list_any (same_name name) unders)
    (evaluated s (meaning s room) (past_with vs under) name d l o) (evaluated s (meaning s left) (past_with ws unders) name e m o) x y
    (for_element (λ element. entered s room (past_with vs (name ∷ under)) d (global_call s.root element l)) o)
    (for_element (λ element. entered s left (past_with ws (name ∷ unders)) e (global_call s.root element m)) o) w (go o) h k
  where
    go : (o : Option N) → evaluated s (meaning s room) (past_with vs under) name d l o ≡ Known x
        → evaluated s (meaning s left) (past_with ws unders) name e m o ≡ Known y
        → AreAgain s (for_element (λ element. entered s room (past_with vs (name ∷ under)) d (global_call s.root element l)) o)
        (for_element (λ element. entered s left (past_with ws (name ∷ unders)) e (global_call s.root element m)) o)
    go None a b = at_end
    go (Some element) a b =
        let c = global_call s.root element l in
        entered_by_again s vs ws room left (name ∷ under) (name ∷ unders) d e c m w
        (held_known (meaning s room (past_with vs (name ∷ under)) d c) x a)
        (held_known (meaning s left (past_with ws (name ∷ unders)) e (entered_by m c)) y b)

-- ---- All that something enters stands where it stands

-- of lists that are so with more before them and behind them
abbrev Stays : {N : Type 0} → (List (Instantiation N) → Type 0) → Type 0
Stays {N = N} Q = ((is js : List (Instantiation N)) → Q is → Q (is ++ js)) × ((is js : List (Instantiation N)) → Q js → Q (is ++ js))

along_stays : {N : Type 0} (Q : List (Instantiation N) → Type 0) (i : Instantiation N) (for_call : ℕ → Call N → List (Instantiation N))
    (for_global : Expanded → ℕ → Place → List (Instantiation N)) → Stays Q → ((d : ℕ) (c : Call N) → IsIn i (for_call d c) → Q (for_call d c))
    → ((name : Expanded) (d : ℕ) (l : Place) → IsIn i (for_global name d l) → Q (for_global name d l))
    → (es : List (Event N)) → IsIn i (entered_along for_call for_global es) → Q (entered_along for_call for_global es)
along_stays Q i f g w p q [] h = absurd h
along_stays Q i f g w p q (Asked question answer ∷ es) h = along_stays Q i f g w p q es h
along_stays Q i f g w p q (Saw Position d l x ∷ es) h = along_stays Q i f g w p q es h
along_stays Q i f g w p q (Saw Size d l x ∷ es) h = along_stays Q i f g w p q es h
along_stays Q i f g w p q (Saw Rule d l x ∷ es) h = along_stays Q i f g w p q es h
along_stays Q i f g w p q (Saw (Global name) d l x ∷ es) h =
    elim (in_append i (g name d l) (entered_along f g es) h) [
      | inl k ↦ w.0 (g name d l) (entered_along f g es) (q name d l k)
      | inr k ↦ w.1 (g name d l) (entered_along f g es) (along_stays Q i f g w p q es k)
    ]
along_stays Q i f g w p q (Entered c d ∷ es) h =
    elim (in_append i (f d c) (entered_along f g es) h) [
      | inl k ↦ w.0 (f d c) (entered_along f g es) (p d c k)
      | inr k ↦ w.1 (f d c) (entered_along f g es) (along_stays Q i f g w p q es k)
    ]
along_stays Q i f g w p q (Held first contents ∷ es) h = along_stays Q i f g w p q es h

unless_stays : {N : Type 0} (Q : List (Instantiation N) → Type 0) (name : Expanded) (bs : List (Bound N)) (is_under : Bool)
    (is : List (Instantiation N)) (i : Instantiation N) → (IsIn i is → Q is) → IsIn i (unless_past name bs is_under is)
    → Q (unless_past name bs is_under is)
unless_stays Q name [] true is i f h = absurd h
unless_stays Q name [] false is i f h = f h
unless_stays {N = N} Q name (b ∷ bs) is_under is i f h = go (same_name b.name name) (unless_stays Q name bs is_under is i f) h
  where
    go : (t : Bool) → (IsIn i (unless_past name bs is_under is) → Q (unless_past name bs is_under is))
        → IsIn i (cond t [] (unless_past name bs is_under is)) → Q (cond t [] (unless_past name bs is_under is))
    go true f k = absurd k
    go false f k = f k

element_stays : {N : Type 0} (Q : List (Instantiation N) → Type 0) (f : N → List (Instantiation N)) (o : Option N) (i : Instantiation N)
    → ((element : N) → IsIn i (f element) → Q (f element)) → IsIn i (for_element f o) → Q (for_element f o)
element_stays Q f None i p h = absurd h
element_stays Q f (Some element) i p h = p element h

nested_stays : {N : Type 0} (s : Setting N) (Q : List (Instantiation N) → Type 0) (i j : Instantiation N) → Stays Q
    → ((past : Past N) (d : ℕ) (c : Call N) → IsIn i (entered s j.below past d c) → Q (entered s j.below past d c))
    → IsIn i (nested_in s j) → Q (nested_in s j)
nested_stays {N = N} s Q i j w f h =
    let for_call : ℕ → Call N → List (Instantiation N) = λ d inner. entered s j.below j.past d (settled j.call inner) in
    let for_global = for_reference s (entered s j.below) j.past in
    along_stays Q i for_call for_global w (λ d inner k. f j.past d (settled j.call inner) k)
    (λ name d l k. unless_stays Q name j.past.values (list_any (same_name name) j.past.under)
    (for_element (λ element. entered s j.below (going_into name j.past) d (global_call s.root element l)) (element_named name s.globals)) i
    (λ m. element_stays Q (λ element. entered s j.below (going_into name j.past) d (global_call s.root element l))
    (element_named name s.globals) i (λ element n. f (going_into name j.past) d (global_call s.root element l) n) m) k)
    (own_of s j).going.trace h

entered_stays : {N : Type 0} (s : Setting N) (Q : List (Instantiation N) → Type 0) (i : Instantiation N) → Stays Q → Q (nested_in s i ++ i ∷ [])
    → (room : ℕ) (past : Past N) (depth : ℕ) (c : Call N) → IsIn i (entered s room past depth c) → Q (entered s room past depth c)
entered_stays s Q i w whole zero past depth c h = absurd h
entered_stays {N = N} s Q i w whole (suc room) past zero c h =
    let me : Instantiation N = record { call = c; below = room; past = past } in
    elim (in_append i (nested_in s me) (me ∷ []) h) [
      | inl k ↦ w.0 (nested_in s me) (me ∷ [])
          (nested_stays s Q i me w (λ pasts d inner l. entered_stays s Q i w whole room pasts d inner l) k)
      | inr k ↦ last k
    ]
  where
    last : (i ≡ record { call = c; below = room; past = past }) ⊎ ⊥ → Q (entered s (suc room) past zero c)
    last (inl e) = let P : Instantiation N → Type 0 = λ j. Q (nested_in s j ++ j ∷ []) in subst P e whole
    last (inr k) = absurd k
entered_stays s Q i w whole (suc room) past (suc depth) c h = entered_stays s Q i w whole room past depth c h

-- ---- Where a call stands, and what is entered for a reference

pub entered_there : {N : Type 0} (s : Setting N) (levels : ℕ) (past : Past N) (depth : ℕ) (c : Call N) → depth < levels
    → entered s levels past depth c
    ≡ nested_in s (record { call = c; below = levels - suc depth; past = past }) ++ record { call = c; below = levels - suc depth; past = past } ∷ []
entered_there s levels past depth c l =
    let left : levels - depth ≡ suc (levels - suc depth) = omega (arith, l) in
    entered_at s levels past depth c ∙ ap (λ n. entered s n past zero c) left

pub entered_nowhere : {N : Type 0} (s : Setting N) (levels : ℕ) (past : Past N) (depth : ℕ) (c : Call N) → levels ≤ depth
    → entered s levels past depth c ≡ []
entered_nowhere s levels past depth c l =
    let left : levels - depth ≡ zero = omega (arith, l) in
    entered_at s levels past depth c ∙ ap (λ n. entered s n past zero c) left

pub reference_left : {N : Type 0} (s : Setting N) (levels : ℕ) (past : Past N) (name : Expanded) (depth : ℕ) (place : Place)
    → for_reference s (entered s levels) past name depth place ≡ for_reference s (entered s (levels - depth)) past name 0 place
reference_left {N = N} s levels past name depth place =
    ap (unless_past name past.values (list_any (same_name name) past.under)) (go (element_named name s.globals))
  where
    go : (o : Option N) → for_element (λ element. entered s levels (going_into name past) depth (global_call s.root element place)) o
        ≡ for_element (λ element. entered s (levels - depth) (going_into name past) 0 (global_call s.root element place)) o
    go None = refl
    go (Some element) = entered_at s levels (going_into name past) depth (global_call s.root element place)

pub reference_past : {N : Type 0} (s : Setting N) (levels : ℕ) (past : Past N) (name : Expanded) (depth : ℕ) (place : Place) (v : Value N)
    → binding_of name past.values ≡ Some v → for_reference s (entered s levels) past name depth place ≡ []
reference_past {N = N} s levels past name depth place v e =
    let is = for_element (λ element. entered s levels (going_into name past) depth (global_call s.root element place)) (element_named name s.globals) in
    unless_by_turn name past.values (list_any (same_name name) past.under) is
    ∙ ap (λ o. unless_turned o (list_any (same_name name) past.under) is) e

pub reference_under_way : {N : Type 0} (s : Setting N) (levels : ℕ) (past : Past N) (name : Expanded) (depth : ℕ) (place : Place)
    → list_any (same_name name) past.under ≡ true → for_reference s (entered s levels) past name depth place ≡ []
reference_under_way {N = N} s levels past name depth place e =
    let is = for_element (λ element. entered s levels (going_into name past) depth (global_call s.root element place)) (element_named name s.globals) in
    unless_by_turn name past.values (list_any (same_name name) past.under) is
    ∙ ap (λ t. unless_turned (binding_of name past.values) t is) e ∙ go (binding_of name past.values) is
  where
    go : (o : Option (Value N)) (is : List (Instantiation N)) → unless_turned o true is ≡ []
    go None is = refl
    go (Some v) is = refl

pub reference_to_none : {N : Type 0} (s : Setting N) (levels : ℕ) (past : Past N) (name : Expanded) (depth : ℕ) (place : Place)
    → element_named name s.globals ≡ None → for_reference s (entered s levels) past name depth place ≡ []
reference_to_none {N = N} s levels past name depth place e =
    let f : N → List (Instantiation N) = λ element. entered s levels (going_into name past) depth (global_call s.root element place) in
    ap (λ o. unless_past name past.values (list_any (same_name name) past.under) (for_element f o)) e
    ∙ unless_by_turn name past.values (list_any (same_name name) past.under) []
    ∙ go (binding_of name past.values) (list_any (same_name name) past.under)
  where
    go : (o : Option (Value N)) (t : Bool) → unless_turned o t [] ≡ []
    go None true = refl
    go None false = refl
    go (Some v) t = refl

pub reference_evaluated : {N : Type 0} (s : Setting N) (levels : ℕ) (past : Past N) (name : Expanded) (depth : ℕ) (place : Place) (element : N)
    → binding_of name past.values ≡ None → list_any (same_name name) past.under ≡ false → element_named name s.globals ≡ Some element
    → for_reference s (entered s levels) past name depth place
    ≡ entered s levels (going_into name past) depth (global_call s.root element place)
reference_evaluated {N = N} s levels past name depth place element e u is =
    let f : N → List (Instantiation N) = λ element. entered s levels (going_into name past) depth (global_call s.root element place) in
    let under = list_any (same_name name) past.under in
    unless_by_turn name past.values under (for_element f (element_named name s.globals))
    ∙ ap (λ o. unless_turned o under (for_element f (element_named name s.globals))) e
    ∙ ap (λ t. cond t [] (for_element f (element_named name s.globals))) u
    ∙ ap (for_element f) is

-- ---- The globals past

pub reference_values : {N : Type 0} (s : Setting N) (levels : ℕ) (past : Past N) (name : Expanded) (d : ℕ) (l : Place) (i : Instantiation N)
    → IsIn i (for_reference s (entered s levels) past name d l) → i.past.values ≡ past.values
reference_values {N = N} s levels past name d l i h =
    let f : N → List (Instantiation N) = λ element. entered s levels (going_into name past) d (global_call s.root element l) in
    in_element (λ j. j.past.values ≡ past.values) f (element_named name s.globals)
    (λ element j k. entered_values s levels (going_into name past) d (global_call s.root element l) j k) i
    (in_unless name past.values (list_any (same_name name) past.under) (for_element f (element_named name s.globals)) i h)

-- ---- No call repeats within itself

pub in_left : {A : Type 0} (x : A) (xs ys : List A) → IsIn x xs → IsIn x (xs ++ ys)
in_left x [] ys h = absurd h
in_left x (y ∷ xs) ys (inl e) = inl e
in_left x (y ∷ xs) ys (inr h) = inr (in_left x xs ys h)

pub in_right : {A : Type 0} (x : A) (xs ys : List A) → IsIn x ys → IsIn x (xs ++ ys)
in_right x [] ys h = h
in_right x (y ∷ xs) ys h = inr (in_right x xs ys h)

abbrev AreMore : {N : Type 0} → ℕ → List (Instantiation N) → Type 0
AreMore n is = n < length is

more_stay : {N : Type 0} (n : ℕ) → Stays {N = N} (AreMore n)
more_stay n =
    (λ is js l. let more = length-append is js in omega (arith, more, l), λ is js l. let more = length-append is js in omega (arith, more, l))

-- what enters it enters more than it
enters_more : {N : Type 0} (s : Setting N) (i j : Instantiation N) → IsIn i (nested_in s j) → length (nested_in s i) < length (nested_in s j)
enters_more {N = N} s i j h =
    let n = length (nested_in s i) in
    let more = length-append (nested_in s i) (i ∷ []) in
    nested_stays s (AreMore n) i j (more_stay n)
    (λ past d c k. entered_stays s (AreMore n) i (more_stay n) (omega (arith, more)) j.below past d c k) h

nested_values : {N : Type 0} (s : Setting N) (i j : Instantiation N) → IsIn i (nested_in s j) → i.past.values ≡ j.past.values
nested_values s i j h = entered_values s (suc j.below) j.past zero j.call i (in_left i (nested_in s j) (j ∷ []) h)

pub none_within_itself : {N : Type 0} (s : Setting N) (i j : Instantiation N) → IsIn i (nested_in s j) → Repeats s i j → ⊥
none_within_itself {N = N} s i j h r =
    let A : List (Bound N) → Type 0 = λ l. Agrees s i.past.values l in
    let again = no_more_again (repeats_nested s i j (subst A (nested_values s i j h) (agrees_self s i.past.values)) r) in
    let most = enters_more s i j h in
    absurd (omega (arith, again, most))

-- ---- All that something of a run enters is of the run

has_stays : {N : Type 0} (x : Instantiation N) → Stays {N = N} (IsIn x)
has_stays x = (λ is js h. in_left x is js h, λ is js h. in_right x is js h)

nested_in_run : {N : Type 0} (s : Setting N) (levels : ℕ) (gs : List (NamedGlobal N)) (ws : List (Bound N)) (c : Call N) (x i : Instantiation N)
    → IsIn x (nested_in s i) → IsIn i (entered_by_run s levels gs ws c) → IsIn x (entered_by_run s levels gs ws c)
nested_in_run s levels [] ws c x i k h =
    entered_stays s (IsIn x) i (has_stays x) (in_left x (nested_in s i) (i ∷ []) k) levels (at_turn ws) 0 c h
nested_in_run {N = N} s levels (g ∷ gs) ws c x i k h =
    let past = going_into g.name (at_turn ws) in
    let call = global_call s.root g.element nowhere in
    let turn = entered s levels past 0 call in
    let o = held_by (meaning s levels past 0 call) in
    let later = after_turn (λ y. entered_by_run s levels gs (ws ++ record { name = g.name; value = value_of y } ∷ []) c) o in
    elim (in_append i turn later h) [
      | inl l ↦ in_left x turn later
          (entered_stays s (IsIn x) i (has_stays x) (in_left x (nested_in s i) (i ∷ []) k) levels past 0 call l)
      | inr l ↦ in_right x turn later
          (go o (λ y m. nested_in_run s levels gs (ws ++ record { name = g.name; value = value_of y } ∷ []) c x i k m) l)
    ]
  where
    go : (o : Supplied N)
        → ((y : Given N) → IsIn i (entered_by_run s levels gs (ws ++ record { name = g.name; value = value_of y } ∷ []) c)
        → IsIn x (entered_by_run s levels gs (ws ++ record { name = g.name; value = value_of y } ∷ []) c))
        → IsIn i (after_turn (λ y. entered_by_run s levels gs (ws ++ record { name = g.name; value = value_of y } ∷ []) c) o)
        → IsIn x (after_turn (λ y. entered_by_run s levels gs (ws ++ record { name = g.name; value = value_of y } ∷ []) c) o)
    go (Known y) f l = f y l
    go (Failed why) f l = absurd l

pub nested_of_run : {N : Type 0} (s : Setting N) (j : Instantiation N) → IsIn j (instantiations s) → (i : Instantiation N) → IsIn i (nested_in s j)
    → IsIn i (instantiations s)
nested_of_run s j h i k = nested_in_run s levels_of_a_run s.globals [] (root_call s) i j k h

-- ---- At a later turn

binding_front : {N : Type 0} (name : Expanded) (bs more : List (Bound N)) (v : Value N) → binding_of name bs ≡ Some v
    → binding_of name (bs ++ more) ≡ Some v
binding_front name [] more v e = absurd (cc)
binding_front {N = N} name (b ∷ bs) more v e = go (same_name b.name name) (binding_front name bs more v) e
  where
    go : (t : Bool) → (binding_of name bs ≡ Some v → binding_of name (bs ++ more) ≡ Some v) → cond t (Some b.value) (binding_of name bs) ≡ Some v
        → cond t (Some b.value) (binding_of name (bs ++ more)) ≡ Some v
    go true f k = k
    go false f k = f k

agrees_later : {N : Type 0} (s : Setting N) (i j : Instantiation N) (more : List (Bound N)) → IsIn i (instantiations s) → IsIn j (instantiations s)
    → j.past.values ≡ i.past.values ++ more → Agrees s i.past.values j.past.values
agrees_later {N = N} s i j more h k later = go (in_one_run s i j h k)
  where
    go : AgreeEither s i j → Agrees s i.past.values j.past.values
    go (inl w) = w
    go (inr w) = record {
      known = λ name v e. ap (binding_of name) later ∙ binding_front name i.past.values more v e;
      new = λ name v e f levels under depth place x m. let no : None ≡ Some v = sym e ∙ w.known name v f in absurd (cc);
    }

pub repeats_later : {N : Type 0} (s : Setting N) (i j : Instantiation N) (more : List (Bound N)) → IsIn i (instantiations s)
    → IsIn j (instantiations s) → j.past.values ≡ i.past.values ++ more → Repeats s i j
    → (b : Instantiation N) → IsIn b (nested_in s j) → (a : Instantiation N) × IsIn a (nested_in s i) × Repeats s a b
repeats_later s i j more h k later r = some_again (repeats_nested s i j (agrees_later s i j more h k later) r)
