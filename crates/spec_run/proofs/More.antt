-- With more levels left, what came to its end comes to it in the same way.
use Rattle.std.proofs.Common.{◌≡◌, ℕ, zero, suc, ◌-◌, ◌≤◌, List, [], ◌∷◌, ◌++◌, Bool, true, false, cond, refl, sym, ap, subst, ◌∙◌, arith}
use Rattle.std.specs.Prelude.{Option, None, Some}
use Rattle.std.specs.List.{list_any}
use Rattle.spec_document.specs.Name.{Expanded, same_name}
use Rattle.spec_stylesheet.specs.Place.{Place}
use Rattle.spec_meaning.specs.Stream.{Stream}
use Rattle.spec_meaning.specs.Context.{Bound}
use Rattle.spec_meaning.specs.Question.{Question, Answer}
use Rattle.spec_meaning.specs.Program.{Wanted, Position, Size, Rule, Global, Given, Valued}
use Rattle.spec_run.specs.Plan.{Call, Plan}
use Rattle.spec_run.specs.Direct.{Supplied, Known, Ending, Finished, Gave, Halted, Outcome}
use Rattle.spec_run.specs.Going.{Event, Going, at_start, owned, own, whole}
use Rattle.spec_run.specs.Hold.{GoesOn, Hold, came, over}
use Rattle.spec_run.specs.Trail.{Trail, finishes, gives, asks, uses, puts, begins, wraps, takes, deepens, enters}
use Rattle.spec_run.specs.Content.{plan_of}
use Rattle.spec_run.specs.Meaning.{Setting, Past, going_into, held_by, global_call, element_named, refer, evaluated, referred, supplied, settled, meaning}
use Rattle.spec_run.proofs.Fill.{filled_whole}
use Rattle.spec_run.proofs.Trails.{own_went, trail_goes}

-- depth is taken of the levels
pub meaning_at : {N : Type 0} (s : Setting N) (room : ℕ) (past : Past N) (depth : ℕ) (c : Call N) → meaning s room past depth c ≡ meaning s (room - depth) past zero c
meaning_at s zero past depth c = let e : zero - depth ≡ zero = omega arith in rw e refl
meaning_at s (suc room) past zero c = let e : suc room - zero ≡ suc room = omega arith in rw e refl
meaning_at s (suc room) past (suc depth) c = let e : suc room - suc depth ≡ room - depth = omega arith in rw e (meaning_at s room past depth c)

-- what held goes on to hold
record Still {N : Type 0} (ask : Question N → Answer N) (supply : Wanted → ℕ → Place → Supplied N) (nested among : ℕ → Call N → Outcome N) (ss : List Stream) (es : List (Event N)) : Type 0 where
  hold : Hold ask supply among ss es
  came_so : came among es ≡ came nested es

still : {N : Type 0} (ask : Question N → Answer N) (supply there : Wanted → ℕ → Place → Supplied N) (nested among : ℕ → Call N → Outcome N)
    → ((w : Wanted) (d : ℕ) (l : Place) (x : Given N) → supply w d l ≡ Known x → there w d l ≡ Known x) → ((d : ℕ) (c : Call N) → GoesOn (nested d c).ending → among d c ≡ nested d c)
    → {p : Plan N} {g h : Going N} {es : List (Event N)} {e : Ending N} (ss : List Stream) → Trail p g es h e → Hold ask supply nested ss es → Still ask there nested among ss es
still ask supply there nested among f n ss finishes k = record { hold = tt; came_so = refl }
still ask supply there nested among f n ss gives k = record { hold = tt; came_so = refl }
still ask supply there nested among f n ss (asks t) k = let m = still ask supply there nested among f n ss t k.1 in record { hold = (k.0, m.hold); came_so = m.came_so }
still ask supply there nested among f n ss (uses {wanted = w} {depth = d} {place = l} {x = x} t) k =
    let m = still ask supply there nested among f n ss t k.1 in record { hold = (f w d l x k.0, m.hold); came_so = m.came_so }
still ask supply there nested among f n ss (puts t) k = still ask supply there nested among f n ss t k
still ask supply there nested among f n ss (begins t) k = still ask supply there nested among f n ss t k
still ask supply there nested among f n ss (wraps t) k = still ask supply there nested among f n ss t k
still ask supply there nested among f n ss (takes j t) k = let m = still ask supply there nested among f n ss t k.1 in record { hold = (k.0, m.hold); came_so = m.came_so }
still ask supply there nested among f n ss (deepens t) k = still ask supply there nested among f n ss t k
still {N = N} ask supply there nested among f n ss (enters {call = c} {depth = d} {es = es} s t) k =
    let m = still ask supply there nested among f n (ss ++ (nested d c).content ∷ []) t k.1 in
    let same = n d c k.0 in
    let H : Outcome N → Type 0 = λ o. GoesOn o.ending × Hold ask there among (ss ++ o.content ∷ []) es in
    record {
      hold = subst H (sym same) (k.0, m.hold);
      came_so = ap (λ (o : Outcome N). o.content ∷ came among es) same ∙ ap (λ l. (nested d c).content ∷ l) m.came_so;
    }

pub held_known : {N : Type 0} (o : Outcome N) (x : Given N) → held_by o ≡ Known x → GoesOn o.ending
held_known {N = N} o x h = go o.ending h
  where
    go : (e : Ending N) → held_by (record { content = o.content; ending = e }) ≡ Known x → GoesOn e
    go Finished k = tt
    go (Gave v) k = tt
    go (Halted why) k = cc

pub refer_still : {N : Type 0} (name : Expanded) (place : Place) (bs : List (Bound N)) (is_under : Bool) (now then : Supplied N) (x : Given N)
    → (now ≡ Known x → then ≡ Known x) → refer name place bs is_under now ≡ Known x → refer name place bs is_under then ≡ Known x
refer_still name place [] true now then x f h = h
refer_still name place [] false now then x f h = f h
refer_still name place (b ∷ bs) is_under now then x f h = go (same_name b.name name) (refer_still name place bs is_under now then x f) h
  where
    go : (t : Bool) → (refer name place bs is_under now ≡ Known x → refer name place bs is_under then ≡ Known x)
        → cond t (Known (Valued b.value)) (refer name place bs is_under now) ≡ Known x → cond t (Known (Valued b.value)) (refer name place bs is_under then) ≡ Known x
    go true k e = e
    go false k e = k e

-- a reference gives the same where all that goes on means the same
pub referred_still : {N : Type 0} (s : Setting N) (means others : Past N → ℕ → Call N → Outcome N) → ((past : Past N) (d : ℕ) (c : Call N) → GoesOn (means past d c).ending → others past d c ≡ means past d c)
    → (past : Past N) (c : Call N) (w : Wanted) (d : ℕ) (l : Place) (x : Given N) → supplied c (referred s means past) w d l ≡ Known x → supplied c (referred s others past) w d l ≡ Known x
referred_still s means others f past c Position d l x h = h
referred_still s means others f past c Size d l x h = h
referred_still s means others f past c Rule d l x h = h
referred_still {N = N} s means others f past c (Global name) d l x h =
    refer_still name l past.values (list_any (same_name name) past.under) (evaluated s means past name d l (element_named name s.globals)) (evaluated s others past name d l (element_named name s.globals)) x
    (go (element_named name s.globals)) h
  where
    go : (element : Option N) → evaluated s means past name d l element ≡ Known x → evaluated s others past name d l element ≡ Known x
    go None e = e
    go (Some element) e =
        let inner = global_call s.root element l in
        ap held_by (f (going_into name past) d inner (held_known (means (going_into name past) d inner) x e)) ∙ e

same_one : {N : Type 0} (s : Setting N) (room left : ℕ) (past : Past N) (c : Call N) → room ≤ left → GoesOn (meaning s (suc room) past zero c).ending
    → ((pasts : Past N) (d : ℕ) (k : Call N) → GoesOn (meaning s room pasts d k).ending → meaning s left pasts d k ≡ meaning s room pasts d k)
    → meaning s (suc left) past zero c ≡ meaning s (suc room) past zero c
same_one {N = N} s room left past c l h f =
    let supply = supplied c (referred s (meaning s room) past) in
    let there = supplied c (referred s (meaning s left) past) in
    let nested : ℕ → Call N → Outcome N = λ d inner. meaning s room past d (settled c inner) in
    let among : ℕ → Call N → Outcome N = λ d inner. meaning s left past d (settled c inner) in
    let o = own s.ask supply nested room (plan_of s.same c) at_start in
    let is = filled_whole s.ask supply nested room (plan_of s.same c) in
    let G : Outcome N → Type 0 = λ q. GoesOn q.ending in
    let m = own_went s.ask supply nested room (plan_of s.same c) at_start (subst G (sym is) h) (omega arith) in
    let fits = m.fits in
    let k = still s.ask supply there nested among (referred_still s (meaning s room) (meaning s left) f past c) (λ d inner. f past d (settled c inner)) [] m.trail m.hold in
    let goes = trail_goes s.ask there among left [] m.trail refl k.hold (omega (arith, fits, l)) in
    let streams : came among m.events ≡ o.going.streams = k.came_so ∙ sym m.streams in
    sym (filled_whole s.ask there among left (plan_of s.same c)) ∙ ap whole (goes ∙ ap (λ x. owned (over x o.going) o.ending) streams) ∙ is

-- what came to its end with so many levels left comes to it in the same way with more
pub more_room : {N : Type 0} (s : Setting N) (room more : ℕ) (past : Past N) (depth below : ℕ) (c : Call N)
    → room - depth ≤ more - below → GoesOn (meaning s room past depth c).ending → meaning s more past below c ≡ meaning s room past depth c
more_room s zero more past depth below c l h = absurd h
more_room s (suc room) more past zero below c l h =
    at_room (more - below) (omega (arith, l)) (meaning_at s more past below c) (λ left k. same_one s room left past c k h (λ pasts d inner g. more_room s room left pasts d d inner (omega (arith, k)) g))
  where
    at_room : (n : ℕ) → suc room ≤ n → meaning s more past below c ≡ meaning s n past zero c
        → ((left : ℕ) → room ≤ left → meaning s (suc left) past zero c ≡ meaning s (suc room) past zero c) → meaning s more past below c ≡ meaning s (suc room) past zero c
    at_room zero k e f = absurd (omega (arith, k))
    at_room (suc left) k e f = e ∙ f left (omega (arith, k))
more_room s (suc room) more past (suc depth) below c l h = more_room s room more past depth below c (omega (arith, l)) h
