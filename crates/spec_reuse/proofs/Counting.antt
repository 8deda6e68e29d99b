-- What is counted part by part is what may be told of the whole.
use Rattle.std.specs.Prelude.{Option, Some}
use Rattle.std.proofs.Common.{◌≡◌, ℕ, ◌-◌, ◌⊎◌, inl, inr, List, [], ◌∷◌, ◌++◌, length, Bool, true, false, cond}
use Rattle.std.proofs.Common.{refl, sym, ap, subst, ◌∙◌, append_assoc, arith}
use Rattle.std.proofs.lemmas.List.{append-nil}
use Rattle.spec_document.specs.Name.{Expanded}
use Rattle.spec_stylesheet.specs.Place.{Place}
use Rattle.spec_meaning.specs.Stream.{Stream, holes}
use Rattle.spec_meaning.specs.Question.{Question, Answer}
use Rattle.spec_meaning.specs.Program.{Wanted, Position, Size, Rule, Global, Given}
use Rattle.spec_run.specs.Plan.{Refused, Target, Call, Plan}
use Rattle.spec_run.specs.Direct.{Supplied, Known, Failed, Outcome}
use Rattle.spec_run.specs.Going.{Event, Asked, Saw, Entered, Held, Going, noted, put, begun, wrap, of_top, taken as held, aside, deepened}
use Rattle.spec_run.specs.Passes.{Passes, stays, asks, uses, puts, begins, wraps, takes, goes_deep, is_too_deep}
use Rattle.spec_run.specs.Hold.{GoesOn, Hold}
use Rattle.spec_run.specs.Trail.{Kept}
use Rattle.spec_run.specs.Meaning.{Setting, settled}
use Rattle.spec_meaning.specs.Context.{Bound}
use Rattle.spec_reuse.specs.Among.{IsIn, AreSomeOf, no_more, taken, left_out}
use Rattle.spec_reuse.specs.Instantiation.{Instantiation, given_to, meant_below, own_of, kept_of, entered_along, for_reference, entered, instantiations}
use Rattle.spec_reuse.specs.Serving.{PassAlike, declared_in, ReadsHold, Fits, Serves}
use Rattle.spec_reuse.specs.Cost.{Repeats, NoneRepeats, AreEntered}
use Rattle.spec_reuse.specs.Ledger.{nested_along, nested_in, nested_but, unless_known, AllEnd, AreOfRun, AsksHold, IsFound, AllFound, HasLike, HasRecord, Enters}
use Rattle.spec_reuse.specs.Ledger.{EntersFront, AreCounted}
use Rattle.spec_reuse.proofs.Served.{served_record}
use Rattle.spec_run.proofs.Trails.{trail_trace}
use Rattle.spec_reuse.proofs.Again.{in_append, agrees_self, AgreeEither, in_one_run, went, serves}
use Rattle.spec_reuse.proofs.Later.{Agrees}
use Rattle.spec_reuse.proofs.Fronts.{front_next, front_ended}
use Rattle.spec_reuse.proofs.Within.{in_left, in_right, none_within_itself, nested_of_run, repeats_later, some_again, reference_by_again}
use Rattle.spec_reuse.proofs.Within.{reference_values}

-- ---- What serves, serves again

-- where the one is no later than the other
serves_once_more : {N : Type 0} (s : Setting N) (i j : Instantiation N) (k : Kept N) → AgreeEither s i j → Repeats s i j → Serves s i k
    → Serves s j k
serves_once_more {N = N} s i j k agree r first =
    let record_so = served_record s i k first r.one_ends in
    let again = serves s i j agree r in
    let of = first.fits.of_call in
    let height : k.height ≡ (kept_of s i).height = ap (λ (x : Kept N). x.height) record_so.same in
    let trace : k.trace ≡ (kept_of s i).trace = ap (λ (x : Kept N). x.trace) record_so.same in
    let levels = again.fits.levels in
    let P : List (Bound N) → Type 0 = λ given. PassAlike (declared_in k.trace) k.call.parameters given in
    let R : List (Event N) → Type 0 = λ es. ReadsHold s.ask (given_to s j) (meant_below s j) [] es in
    record {
      fits = record {
        lasting = first.fits.lasting;
        of_call = record {
          target = of.target ∙ r.target;
          node = of.node ∙ r.node;
          parameters = subst P r.parameters of.parameters;
        };
        levels = omega (arith, levels, height);
      };
      reads = subst R (sym trace) again.reads;
    }

pub serves_again_too : {N : Type 0} (s : Setting N) (i j : Instantiation N) (k : Kept N) → IsIn i (instantiations s) → IsIn j (instantiations s)
    → Repeats s i j → Serves s i k → Serves s j k
serves_again_too s i j k h l r first = serves_once_more s i j k (in_one_run s i j h l) r first

found_once_more : {N : Type 0} (s : Setting N) (records : List (Kept N)) (i j : Instantiation N) → AgreeEither s i j → Repeats s i j
    → IsFound s records i → IsFound s records j
found_once_more s records i j agree r m = (m.0, m.1, serves_once_more s i j m.0 agree r m.2, m.3)

pub found_again : {N : Type 0} (s : Setting N) (records : List (Kept N)) (i j : Instantiation N) → IsIn i (instantiations s)
    → IsIn j (instantiations s) → Repeats s i j → IsFound s records i → IsFound s records j
found_again s records i j h l r m = found_once_more s records i j (in_one_run s i j h l) r m

-- what is entered for a reference, at another element and with other levels
pub reference_found_again : {N : Type 0} (s : Setting N) (records : List (Kept N)) (i : Instantiation N) (name : Expanded) (depth other : ℕ)
    (place there : Place) (x y : Given N) → given_to s i (Global name) depth place ≡ Known x → given_to s i (Global name) other there ≡ Known y
    → AllFound s records (for_reference s (entered s i.below) i.past name depth place)
    → AllFound s records (for_reference s (entered s i.below) i.past name other there)
reference_found_again {N = N} s records i name depth other place there x y g h all b k =
    let vs = i.past.values in
    let again = reference_by_again s vs vs i.below i.below i.past.under i.past.under (agrees_self s vs) name depth other place there x y g h in
    let a = some_again again b k in
    let A : List (Bound N) → Type 0 = λ l. Agrees s l b.past.values in
    let B : List (Bound N) → Type 0 = λ l. Agrees s vs l in
    let agree : Agrees s a.0.past.values b.past.values = subst A (sym (reference_values s i.below i.past name depth place a.0 a.1))
    (subst B (sym (reference_values s i.below i.past name other there b k)) (agrees_self s vs)) in
    found_once_more s records a.0 b (inl agree) a.2 (all a.0 a.1)

hold_asks : {N : Type 0} (ask : Question N → Answer N) (supply : Wanted → ℕ → Place → Supplied N) (nested : ℕ → Call N → Outcome N)
    (ss : List Stream) (es : List (Event N)) → Hold ask supply nested ss es → AsksHold ask es
hold_asks ask supply nested ss [] k = tt
hold_asks ask supply nested ss (Asked question answer ∷ es) k = (k.0, hold_asks ask supply nested ss es k.1)
hold_asks ask supply nested ss (Saw wanted depth place x ∷ es) k = hold_asks ask supply nested ss es k.1
hold_asks ask supply nested ss (Entered call depth ∷ es) k = hold_asks ask supply nested (ss ++ (nested depth call).content ∷ []) es k.1
hold_asks ask supply nested ss (Held first contents ∷ es) k = hold_asks ask supply nested ss es k.1

-- what comes to its end asks all questions
pub served_asks : {N : Type 0} (s : Setting N) (i : Instantiation N) (k : Kept N) → Serves s i k → GoesOn (own_of s i).ending
    → AsksHold s.ask k.trace
served_asks {N = N} s i k serves e =
    let m = went s i e in
    let trace : k.trace ≡ m.events = ap (λ (x : Kept N). x.trace) (served_record s i k serves e).same ∙ trail_trace m.trail in
    let A : List (Event N) → Type 0 = λ es. AsksHold s.ask es in
    subst A (sym trace) (hold_asks s.ask (given_to s i) (meant_below s i) [] m.events m.hold)

-- all that a call entered, and all that it enters again
pub all_found_again : {N : Type 0} (s : Setting N) (records : List (Kept N)) (i j : Instantiation N) (more : List (Bound N))
    → IsIn i (instantiations s) → IsIn j (instantiations s) → j.past.values ≡ i.past.values ++ more → Repeats s i j
    → AllFound s records (nested_in s i ++ i ∷ []) → AllFound s records (nested_in s j ++ j ∷ [])
all_found_again {N = N} s records i j more h k later r all b l = go (in_append b (nested_in s j) (j ∷ []) l)
  where
    go : IsIn b (nested_in s j) ⊎ ((b ≡ j) ⊎ ⊥) → IsFound s records b
    go (inl m) =
        let x = repeats_later s i j more h k later r b m in
        found_again s records x.0 b (nested_of_run s i h x.0 x.1) (nested_of_run s j k b m) x.2 (all x.0 (in_left x.0 (nested_in s i) (i ∷ []) x.1))
    go (inr (inl e)) =
        let P : Instantiation N → Type 0 = λ x. IsFound s records x in
        subst P (sym e) (found_again s records i j h k r (all i (in_right i (nested_in s i) (i ∷ []) (inl refl))))
    go (inr (inr e)) = absurd e

found_later : {N : Type 0} (s : Setting N) (before after : List (Kept N)) (i : Instantiation N)
    → ((k : Kept N) → IsIn k before → IsIn k after) → IsFound s before i → IsFound s after i
found_later s before after i f m = (m.0, f m.0 m.1, m.2, m.3)

-- ---- Lists

pub some_in : {A : Type 0} {xs ys : List A} → AreSomeOf xs ys → (x : A) → IsIn x xs → IsIn x ys
some_in no_more x h = absurd h
some_in (taken a) x (inl e) = inl e
some_in (taken a) x (inr h) = inr (some_in a x h)
some_in (left_out a) x h = inr (some_in a x h)

some_append : {A : Type 0} {xs ys vs ws : List A} → AreSomeOf xs ys → AreSomeOf vs ws → AreSomeOf (xs ++ vs) (ys ++ ws)
some_append no_more b = b
some_append (taken a) b = taken (some_append a b)
some_append (left_out a) b = left_out (some_append a b)

none_of : {A : Type 0} (ys : List A) → AreSomeOf [] ys
none_of [] = no_more
none_of (y ∷ ys) = left_out (none_of ys)

all_of : {A : Type 0} (ys : List A) → AreSomeOf ys ys
all_of [] = no_more
all_of (y ∷ ys) = taken (all_of ys)

some_some : {A : Type 0} {xs ys zs : List A} → AreSomeOf xs ys → AreSomeOf ys zs → AreSomeOf xs zs
some_some a no_more = a
some_some a (left_out b) = left_out (some_some a b)
some_some (taken a) (taken b) = taken (some_some a b)
some_some (left_out a) (taken b) = left_out (some_some a b)

-- what has none of the front is of the rest
some_behind : {A : Type 0} (front rest : List A) {xs : List A} → AreSomeOf xs (front ++ rest) → ((x : A) → IsIn x xs → IsIn x front → ⊥)
    → AreSomeOf xs rest
some_behind [] rest a f = a
some_behind (y ∷ front) rest (taken a) f = absurd (f y (inl refl) (inl refl))
some_behind (y ∷ front) rest (left_out a) f = some_behind front rest a (λ x h k. f x h (inr k))

none_repeats : {N : Type 0} (s : Setting N) (xs ys : List (Instantiation N)) → NoneRepeats s xs → NoneRepeats s ys
    → ((i j : Instantiation N) → IsIn i xs → IsIn j ys → ¬ (Repeats s i j)) → NoneRepeats s (xs ++ ys)
none_repeats s [] ys a b f = b
none_repeats {N = N} s (x ∷ xs) ys a b f =
    (λ j h. go j (in_append j xs ys h), none_repeats s xs ys a.1 b (λ i j h k. f i j (inr h) k))
  where
    go : (j : Instantiation N) → IsIn j xs ⊎ IsIn j ys → ¬ (Repeats s x j)
    go j (inl h) = a.0 j h
    go j (inr h) = f x j (inl refl) h

-- ---- Along events

along_append : {N : Type 0} (for_call : ℕ → Call N → List (Instantiation N)) (for_global : Expanded → ℕ → Place → List (Instantiation N))
    (es more : List (Event N))
    → entered_along for_call for_global (es ++ more) ≡ entered_along for_call for_global es ++ entered_along for_call for_global more
along_append f g [] more = refl
along_append f g (Asked question answer ∷ es) more = along_append f g es more
along_append f g (Saw Position d l x ∷ es) more = along_append f g es more
along_append f g (Saw Size d l x ∷ es) more = along_append f g es more
along_append f g (Saw Rule d l x ∷ es) more = along_append f g es more
along_append f g (Saw (Global name) d l x ∷ es) more =
    ap (λ is. g name d l ++ is) (along_append f g es more) ∙ sym (append_assoc (g name d l) (entered_along f g es) (entered_along f g more))
along_append f g (Entered c d ∷ es) more =
    ap (λ is. f d c ++ is) (along_append f g es more) ∙ sym (append_assoc (f d c) (entered_along f g es) (entered_along f g more))
along_append f g (Held first contents ∷ es) more = along_append f g es more

pub nested_append : {N : Type 0} (s : Setting N) (i : Instantiation N) (es more : List (Event N))
    → nested_along s i (es ++ more) ≡ nested_along s i es ++ nested_along s i more
nested_append s i es more =
    along_append (λ depth inner. entered s i.below i.past depth (settled i.call inner)) (for_reference s (entered s i.below) i.past) es more

pub nested_but_append : {N : Type 0} (s : Setting N) (i : Instantiation N) (is_known : Expanded → ℕ → Place → Bool) (es more : List (Event N))
    → nested_but s i is_known (es ++ more) ≡ nested_but s i is_known es ++ nested_but s i is_known more
nested_but_append s i is_known es more =
    along_append (λ depth inner. entered s i.below i.past depth (settled i.call inner))
    (unless_known is_known (for_reference s (entered s i.below) i.past)) es more

-- one event more
pub nested_referred : {N : Type 0} (s : Setting N) (i : Instantiation N) (es : List (Event N)) (name : Expanded) (depth : ℕ) (place : Place)
    (x : Supplied N) → nested_along s i (es ++ Saw (Global name) depth place x ∷ [])
    ≡ nested_along s i es ++ for_reference s (entered s i.below) i.past name depth place
nested_referred s i es name depth place x =
    nested_append s i es (Saw (Global name) depth place x ∷ [])
    ∙ ap (λ is. nested_along s i es ++ is) (append-nil (for_reference s (entered s i.below) i.past name depth place))

pub nested_entered : {N : Type 0} (s : Setting N) (i : Instantiation N) (es : List (Event N)) (call : Call N) (depth : ℕ)
    → nested_along s i (es ++ Entered call depth ∷ []) ≡ nested_along s i es ++ entered s i.below i.past depth (settled i.call call)
nested_entered s i es call depth =
    nested_append s i es (Entered call depth ∷ [])
    ∙ ap (λ is. nested_along s i es ++ is) (append-nil (entered s i.below i.past depth (settled i.call call)))

pub nested_but_referred : {N : Type 0} (s : Setting N) (i : Instantiation N) (is_known : Expanded → ℕ → Place → Bool) (es : List (Event N))
    (name : Expanded) (depth : ℕ) (place : Place) (x : Supplied N) → nested_but s i is_known (es ++ Saw (Global name) depth place x ∷ [])
    ≡ nested_but s i is_known es ++ unless_known is_known (for_reference s (entered s i.below) i.past) name depth place
nested_but_referred s i is_known es name depth place x =
    nested_but_append s i is_known es (Saw (Global name) depth place x ∷ [])
    ∙ ap (λ is. nested_but s i is_known es ++ is) (append-nil (unless_known is_known (for_reference s (entered s i.below) i.past) name depth place))

pub nested_but_entered : {N : Type 0} (s : Setting N) (i : Instantiation N) (is_known : Expanded → ℕ → Place → Bool) (es : List (Event N))
    (call : Call N) (depth : ℕ) → nested_but s i is_known (es ++ Entered call depth ∷ [])
    ≡ nested_but s i is_known es ++ entered s i.below i.past depth (settled i.call call)
nested_but_entered s i is_known es call depth =
    nested_but_append s i is_known es (Entered call depth ∷ [])
    ∙ ap (λ is. nested_but s i is_known es ++ is) (append-nil (entered s i.below i.past depth (settled i.call call)))

-- where it is known what some references give
along_some : {N : Type 0} (for_call : ℕ → Call N → List (Instantiation N)) (for_global : Expanded → ℕ → Place → List (Instantiation N))
    (is_known : Expanded → ℕ → Place → Bool) (es : List (Event N))
    → AreSomeOf (entered_along for_call (unless_known is_known for_global) es) (entered_along for_call for_global es)
along_some f g b [] = no_more
along_some f g b (Asked question answer ∷ es) = along_some f g b es
along_some f g b (Saw Position d l x ∷ es) = along_some f g b es
along_some f g b (Saw Size d l x ∷ es) = along_some f g b es
along_some f g b (Saw Rule d l x ∷ es) = along_some f g b es
along_some {N = N} f g b (Saw (Global name) d l x ∷ es) = some_append (go (b name d l)) (along_some f g b es)
  where
    go : (t : Bool) → AreSomeOf (cond t [] (g name d l)) (g name d l)
    go true = none_of (g name d l)
    go false = all_of (g name d l)
along_some f g b (Entered c d ∷ es) = some_append (all_of (f d c)) (along_some f g b es)
along_some f g b (Held first contents ∷ es) = along_some f g b es

pub nested_some : {N : Type 0} (s : Setting N) (i : Instantiation N) (is_known : Expanded → ℕ → Place → Bool) (es : List (Event N))
    → AreSomeOf (nested_but s i is_known es) (nested_along s i es)
nested_some s i is_known es =
    along_some (λ depth inner. entered s i.below i.past depth (settled i.call inner)) (for_reference s (entered s i.below) i.past) is_known es

pub nested_but_none : {N : Type 0} (s : Setting N) (i : Instantiation N) (es : List (Event N))
    → nested_but s i (λ name depth place. false) es ≡ nested_along s i es
nested_but_none s i es = refl

-- where a global is refused that a record saw, all comes to its end that is entered but for it
pub lost_ends : {N : Type 0} (s : Setting N) (i : Instantiation N) (k : Kept N) (is_known : Expanded → ℕ → Place → Bool)
    (front rest : List (Event N)) (name : Expanded) (depth : ℕ) (place : Place) (x : Supplied N) (why : Refused) → Fits s i k
    → k.trace ≡ front ++ Saw (Global name) depth place x ∷ rest → Hold s.ask (given_to s i) (meant_below s i) [] front
    → given_to s i (Global name) depth place ≡ Failed why → is_known name depth place ≡ true
    → AllEnd s (nested_but s i is_known (own_of s i).going.trace)
lost_ends {N = N} s i k is_known front rest name depth place x why f parts hold refused known =
    let event = Saw (Global name) depth place x in
    let now = Saw (Global name) depth place (given_to s i (Global name) depth place) in
    let goes = front_next s i k front event rest f parts hold in
    let trace : (own_of s i).going.trace ≡ front ++ now ∷ [] = goes.is ∙ ap (λ es. front ++ now ∷ es) (goes.last (why, refused)) in
    let G : List (Instantiation N) → Type 0 = λ is. AllEnd s is in
    let E : List (Event N) → Type 0 = λ es. AllEnd s (nested_but s i is_known es) in
    let none : unless_known is_known (for_reference s (entered s i.below) i.past) name depth place ≡ [] =
    ap (λ t. cond t [] (for_reference s (entered s i.below) i.past name depth place)) known in
    let ended : AllEnd s (nested_but s i is_known front) = λ j h. front_ended s i k front (event ∷ rest) f parts hold j
    (some_in (nested_some s i is_known front) j h) in
    let all : nested_but s i is_known (front ++ now ∷ []) ≡ nested_but s i is_known front =
    nested_but_referred s i is_known front name depth place (given_to s i (Global name) depth place)
    ∙ ap (λ is. nested_but s i is_known front ++ is) none ∙ append-nil (nested_but s i is_known front) in
    subst E (sym trace) (subst G (sym all) ended)

-- ---- Units and nodes that are told of

like_left : {N : Type 0} (xs ys : List (Instantiation N)) (c : Call N) → HasLike xs c → HasLike (xs ++ ys) c
like_left xs ys c m = (m.0, in_left m.0 xs ys m.1, m.2, m.3)

like_right : {N : Type 0} (xs ys : List (Instantiation N)) (c : Call N) → HasLike ys c → HasLike (xs ++ ys) c
like_right xs ys c m = (m.0, in_right m.0 xs ys m.1, m.2, m.3)

-- by a record there was, or by one that was added
told_by : {N : Type 0} (before mid : List (Kept N)) (xs ys : List (Instantiation N)) (c : Call N)
    → ((k : Kept N) → IsIn k mid → HasRecord before k.call ⊎ HasLike xs k.call) → HasRecord mid c ⊎ HasLike ys c
    → HasRecord before c ⊎ HasLike (xs ++ ys) c
told_by before mid xs ys c f (inr m) = inr (like_right xs ys c m)
told_by {N = N} before mid xs ys c f (inl m) = go (f m.0 m.1)
  where
    go : HasRecord before m.0.call ⊎ HasLike xs m.0.call → HasRecord before c ⊎ HasLike (xs ++ ys) c
    go (inl n) = inl (n.0, n.1, n.2 ∙ m.2, n.3 ∙ m.3)
    go (inr n) = inr (like_left xs ys c (n.0, n.1, n.2 ∙ m.2, n.3 ∙ m.3))

-- ---- One part after another

-- what was counted first and served then is not counted again
pub gone_over : {N : Type 0} (s : Setting N) (before mid after : List (Kept N)) (one two front again rest : List (Instantiation N))
    → AreOfRun s (front ++ rest) → AreSomeOf again front → AllEnd s again
    → Enters s before one front mid → Enters s mid two (again ++ rest) after → Enters s before (one ++ two) (front ++ rest) after
gone_over {N = N} s before mid after one two front again rest of_run some ended a b = record {
  some = some_append a.some behind;
  new = λ i h. fresh i (in_append i one two h);
  once = none_repeats s one two a.once b.once apart;
  stays = λ k h. b.stays k (a.stays k h);
  found = λ i h e. served i e (in_append i front rest h);
  told = λ i h. told i (in_append i front rest h);
  added = λ k h. told_by before mid one two k.call a.added (b.added k h);
}
  where
    behind : AreSomeOf two rest
    behind = some_behind again rest b.some (λ i h k. b.new i h (a.found i (some_in some i k) (ended i k)))

    fresh : (i : Instantiation N) → IsIn i one ⊎ IsIn i two → ¬ (IsFound s before i)
    fresh i (inl h) = a.new i h
    fresh i (inr h) = λ m. b.new i h (found_later s before mid i a.stays m)

    apart : (i j : Instantiation N) → IsIn i one → IsIn j two → ¬ (Repeats s i j)
    apart i j h k = λ r.
        let x = some_in a.some i h in
        b.new j k (found_again s mid i j (of_run i (in_left i front rest x)) (of_run j (in_right j front rest (some_in behind j k))) r
        (a.found i x r.one_ends))

    served : (i : Instantiation N) → GoesOn (own_of s i).ending → IsIn i front ⊎ IsIn i rest → IsFound s after i
    served i e (inl h) = found_later s mid after i b.stays (a.found i h e)
    served i e (inr h) = b.found i (in_right i again rest h) e

    told : (i : Instantiation N) → IsIn i front ⊎ IsIn i rest → HasRecord before i.call ⊎ HasLike (one ++ two) i.call
    told i (inl h) = first (a.told i h)
      where
        first : HasRecord before i.call ⊎ HasLike one i.call → HasRecord before i.call ⊎ HasLike (one ++ two) i.call
        first (inl m) = inl m
        first (inr m) = inr (like_left one two i.call m)
    told i (inr h) = told_by before mid one two i.call a.added (b.told i (in_right i again rest h))

pub one_after_another : {N : Type 0} (s : Setting N) (before mid after : List (Kept N)) (one two is js : List (Instantiation N))
    → AreOfRun s (is ++ js) → Enters s before one is mid → Enters s mid two js after → Enters s before (one ++ two) (is ++ js) after
one_after_another s before mid after one two is js of_run a b =
    gone_over s before mid after one two is [] js of_run (none_of is) (λ i h. absurd h) a b

-- some of a part again
pub some_gone_over : {N : Type 0} (s : Setting N) (before mid after : List (Kept N)) (one two is again : List (Instantiation N))
    → AreOfRun s is → AreSomeOf again is → AllEnd s again
    → Enters s before one is mid → Enters s mid two again after → Enters s before (one ++ two) is after
some_gone_over {N = N} s before mid after one two is again of_run some ended a b =
    let A : List (Instantiation N) → Type 0 = λ l. AreOfRun s l in
    let E : List (Instantiation N) → Type 0 = λ l. Enters s mid two l after in
    let F : List (Instantiation N) → Type 0 = λ l. Enters s before (one ++ two) l after in
    subst F (append-nil is) (gone_over s before mid after one two is again [] (subst A (sym (append-nil is)) of_run) some ended a
    (subst E (sym (append-nil again)) b))

-- a front and then all
pub front_then_all : {N : Type 0} (s : Setting N) (before mid after : List (Kept N)) (one two is : List (Instantiation N))
    → AreOfRun s is → EntersFront s before one is mid → Enters s mid two is after → Enters s before (one ++ two) is after
front_then_all {N = N} s before mid after one two is of_run a b =
    let A : List (Instantiation N) → Type 0 = λ l. AreOfRun s l in
    let E : List (Instantiation N) → Type 0 = λ l. Enters s mid two l after in
    let F : List (Instantiation N) → Type 0 = λ l. Enters s before (one ++ two) l after in
    subst F (sym a.parts) (gone_over s before mid after one two a.front a.front a.rest (subst A a.parts of_run) (all_of a.front) a.ended a.enters
    (subst E a.parts b))

-- what was gone over along a front of what an instantiation does
pub front_entered : {N : Type 0} (s : Setting N) (before after : List (Kept N)) (list : List (Instantiation N)) (i : Instantiation N)
    (front more : List (Event N)) → (own_of s i).going.trace ≡ front ++ more → AllEnd s (nested_along s i front)
    → Enters s before list (nested_along s i front) after → EntersFront s before list (nested_in s i) after
front_entered s before after list i front more trace ended a = record {
  front = nested_along s i front;
  rest = nested_along s i more;
  parts = ap (nested_along s i) trace ∙ nested_append s i front more;
  ended = ended;
  enters = a;
}

pub front_of_run : {N : Type 0} (s : Setting N) (i : Instantiation N) (front more : List (Event N)) → IsIn i (instantiations s)
    → (own_of s i).going.trace ≡ front ++ more → AreOfRun s (nested_along s i front)
front_of_run {N = N} s i front more h trace j k =
    let parts : nested_in s i ≡ nested_along s i front ++ nested_along s i more = ap (nested_along s i) trace ∙ nested_append s i front more in
    let P : List (Instantiation N) → Type 0 = λ is. IsIn j is in
    nested_of_run s i h j (subst P (sym parts) (in_left j (nested_along s i front) (nested_along s i more) k))

-- ---- Two fronts

-- the one is a front of the other
data Fronts {A : Type 0} : List A → List A → Type 0 where
  longer : {xs : List A} (more : List A) → Fronts xs (xs ++ more)
  shorter : {xs : List A} (more : List A) → Fronts (xs ++ more) xs

abbrev first_or : {A : Type 0} → A → List A → A
first_or x [] = x
first_or x (y ∷ ys) = y

abbrev others : {A : Type 0} → List A → List A
others [] = []
others (y ∷ ys) = ys

fronts_more : {A : Type 0} (x : A) {xs ys : List A} → Fronts xs ys → Fronts (x ∷ xs) (x ∷ ys)
fronts_more x (longer more) = longer more
fronts_more x (shorter more) = shorter more

fronts_of : {A : Type 0} (xs ys vs ws : List A) → xs ++ vs ≡ ys ++ ws → Fronts xs ys
fronts_of [] ys vs ws e = longer ys
fronts_of (x ∷ xs) [] vs ws e = shorter (x ∷ xs)
fronts_of {A = A} (x ∷ xs) (y ∷ ys) vs ws e =
    let F : A → Type 0 = λ z. Fronts (x ∷ xs) (z ∷ ys) in
    let same : x ≡ y = ap (first_or x) e in
    subst F same (fronts_more x (fronts_of xs ys vs ws (ap others e)))

-- a front and then another, either longer than the other
pub front_then_front : {N : Type 0} (s : Setting N) (before mid after : List (Kept N)) (one two is : List (Instantiation N))
    → AreOfRun s is → EntersFront s before one is mid → EntersFront s mid two is after → EntersFront s before (one ++ two) is after
front_then_front {N = N} s before mid after one two is of_run a b =
    go (fronts_of a.front b.front a.rest b.rest (sym a.parts ∙ b.parts)) a.parts b.parts a.ended b.ended a.enters b.enters
  where
    A : List (Instantiation N) → Type 0
    A l = AreOfRun s l

    go : {xs ys : List (Instantiation N)} → Fronts xs ys → is ≡ xs ++ a.rest → is ≡ ys ++ b.rest
        → AllEnd s xs → AllEnd s ys
        → Enters s before one xs mid → Enters s mid two ys after → EntersFront s before (one ++ two) is after
    go {xs = xs} (longer more) e f g h k l = record {
      front = xs ++ more;
      rest = b.rest;
      parts = f;
      ended = h;
      enters = gone_over s before mid after one two xs xs more (λ i m. subst A f of_run i (in_left i (xs ++ more) b.rest m)) (all_of xs) g k l;
    }
    go {ys = ys} (shorter more) e f g h k l = record {
      front = ys ++ more;
      rest = a.rest;
      parts = e;
      ended = g;
      enters = some_gone_over s before mid after one two (ys ++ more) ys (λ i m. subst A e of_run i (in_left i (ys ++ more) a.rest m))
          (front_some ys more) h k l;
    }
      where
        front_some : (vs ws : List (Instantiation N)) → AreSomeOf vs (vs ++ ws)
        front_some [] ws = none_of ws
        front_some (v ∷ vs) ws = taken (front_some vs ws)

-- ---- What is at hand

pub nothing_entered : {N : Type 0} (s : Setting N) (records : List (Kept N)) (is : List (Instantiation N))
    → AllFound s records is → Enters s records [] is records
nothing_entered s records is f = record {
  some = none_of is;
  new = λ i h. absurd h;
  once = tt;
  stays = λ k h. h;
  found = λ i h e. f i h;
  told = λ i h. let m = f i h in inl (m.0, m.1, m.2.fits.of_call.target, m.2.fits.of_call.node);
  added = λ k h. inl (k, h, refl, refl);
}

-- what is served stands among what was gone over
pub more_gone_over : {N : Type 0} (s : Setting N) (before after : List (Kept N)) (list is js : List (Instantiation N)) → AreSomeOf is js
    → ((i : Instantiation N) → IsIn i js → IsIn i is ⊎ IsFound s after i) → Enters s before list is after → Enters s before list js after
more_gone_over {N = N} s before after list is js some f a = record {
  some = some_some a.some some;
  new = a.new;
  once = a.once;
  stays = a.stays;
  found = λ i h e. served i e (f i h);
  told = λ i h. told i (f i h);
  added = a.added;
}
  where
    served : (i : Instantiation N) → GoesOn (own_of s i).ending → IsIn i is ⊎ IsFound s after i → IsFound s after i
    served i e (inl h) = a.found i h e
    served i e (inr m) = m

    like : (k : Kept N) (i : Instantiation N) → (k.call.target ≡ i.call.target) → (k.call.node ≡ i.call.node)
        → HasRecord before k.call ⊎ HasLike list k.call → HasRecord before i.call ⊎ HasLike list i.call
    like k i target node (inl m) = inl (m.0, m.1, m.2 ∙ target, m.3 ∙ node)
    like k i target node (inr m) = inr (m.0, m.1, m.2 ∙ target, m.3 ∙ node)

    told : (i : Instantiation N) → IsIn i is ⊎ IsFound s after i → HasRecord before i.call ⊎ HasLike list i.call
    told i (inl h) = a.told i h
    told i (inr m) = let of = m.2.fits.of_call in like m.0 i of.target of.node (a.added m.0 m.1)

-- ---- A call

-- it is served
pub call_served : {N : Type 0} (s : Setting N) (before after : List (Kept N)) (list : List (Instantiation N)) (i : Instantiation N) (k : Kept N)
    → Enters s before list (nested_in s i) after → IsIn k after → Serves s i k → AsksHold s.ask k.trace
    → Enters s before list (nested_in s i ++ i ∷ []) after
call_served {N = N} s before after list i k a is serves asks_hold =
    let S : List (Instantiation N) → Type 0 = λ l. AreSomeOf l (nested_in s i ++ i ∷ []) in
    more_gone_over s before after list (nested_in s i) (nested_in s i ++ i ∷ [])
    (subst S (append-nil (nested_in s i)) (some_append (all_of (nested_in s i)) (none_of (i ∷ []))))
    (λ j h. go j (in_append j (nested_in s i) (i ∷ []) h)) a
  where
    go : (j : Instantiation N) → IsIn j (nested_in s i) ⊎ ((j ≡ i) ⊎ ⊥) → IsIn j (nested_in s i) ⊎ IsFound s after j
    go j (inl h) = inl h
    go j (inr (inl h)) = let P : Instantiation N → Type 0 = λ x. Serves s x k in inr (k, is, subst P (sym h) serves, asks_hold)
    go j (inr (inr h)) = absurd h

-- a record that is at hand is kept
pub record_kept : {N : Type 0} (s : Setting N) (before after : List (Kept N)) (list is : List (Instantiation N)) (k : Kept N)
    → Enters s before list is after → IsIn k after → Enters s before list is (after ++ k ∷ [])
record_kept {N = N} s before after list is k a at_hand = record {
  some = a.some;
  new = a.new;
  once = a.once;
  stays = λ x h. in_left x after (k ∷ []) (a.stays x h);
  found = λ i h e. found_later s after (after ++ k ∷ []) i (λ x l. in_left x after (k ∷ []) l) (a.found i h e);
  told = a.told;
  added = λ x h. added x (in_append x after (k ∷ []) h);
}
  where
    added : (x : Kept N) → IsIn x after ⊎ ((x ≡ k) ⊎ ⊥) → HasRecord before x.call ⊎ HasLike list x.call
    added x (inl h) = a.added x h
    added x (inr (inl h)) =
        let P : Kept N → Type 0 = λ y. HasRecord before y.call ⊎ HasLike list y.call in subst P (sym h) (a.added k at_hand)
    added x (inr (inr h)) = absurd h

-- it is counted, and where it comes to its end, what is kept of it serves it
pub call_counted : {N : Type 0} (s : Setting N) (before after more : List (Kept N)) (list : List (Instantiation N)) (i : Instantiation N)
    → Enters s before list (nested_in s i) after → ¬ (IsFound s before i) → (GoesOn (own_of s i).ending → IsFound s more i)
    → ((k : Kept N) → IsIn k more → (k.call.target ≡ i.call.target) × (k.call.node ≡ i.call.node))
    → Enters s before (list ++ i ∷ []) (nested_in s i ++ i ∷ []) (after ++ more)
call_counted {N = N} s before after more list i a fresh kept of = record {
  some = some_append a.some (taken no_more);
  new = λ j h. new j (in_append j list (i ∷ []) h);
  once = none_repeats s list (i ∷ []) a.once ((λ j h. absurd h), tt) apart;
  stays = λ k h. in_left k after more (a.stays k h);
  found = λ j h e. served j e (in_append j (nested_in s i) (i ∷ []) h);
  told = λ j h. told j (in_append j (nested_in s i) (i ∷ []) h);
  added = λ k h. added k (in_append k after more h);
}
  where
    new : (j : Instantiation N) → IsIn j list ⊎ ((j ≡ i) ⊎ ⊥) → ¬ (IsFound s before j)
    new j (inl h) = a.new j h
    new j (inr (inl h)) = let P : Instantiation N → Type 0 = λ x. ¬ (IsFound s before x) in subst P (sym h) fresh
    new j (inr (inr h)) = absurd h

    apart : (j x : Instantiation N) → IsIn j list → IsIn x (i ∷ []) → ¬ (Repeats s j x)
    apart j x h (inl e) =
        let P : Instantiation N → Type 0 = λ y. ¬ (Repeats s j y) in subst P (sym e) (none_within_itself s j i (some_in a.some j h))
    apart j x h (inr e) = absurd e

    served : (j : Instantiation N) → GoesOn (own_of s j).ending → IsIn j (nested_in s i) ⊎ ((j ≡ i) ⊎ ⊥) → IsFound s (after ++ more) j
    served j e (inl h) = found_later s after (after ++ more) j (λ k l. in_left k after more l) (a.found j h e)
    served j e (inr (inl h)) =
        let G : Instantiation N → Type 0 = λ x. GoesOn (own_of s x).ending in
        let P : Instantiation N → Type 0 = λ x. IsFound s (after ++ more) x in
        subst P (sym h) (found_later s more (after ++ more) i (λ k l. in_right k after more l) (kept (subst G h e)))
    served j e (inr (inr h)) = absurd h

    more_like : (c : Call N) → HasRecord before c ⊎ HasLike list c → HasRecord before c ⊎ HasLike (list ++ i ∷ []) c
    more_like c (inl m) = inl m
    more_like c (inr m) = inr (like_left list (i ∷ []) c m)

    told : (j : Instantiation N) → IsIn j (nested_in s i) ⊎ ((j ≡ i) ⊎ ⊥) → HasRecord before j.call ⊎ HasLike (list ++ i ∷ []) j.call
    told j (inl h) = more_like j.call (a.told j h)
    told j (inr (inl h)) = inr (
      i,
      in_right i list (i ∷ []) (inl refl),
      ap (λ (x : Instantiation N). x.call.target) (sym h),
      ap (λ (x : Instantiation N). x.call.node) (sym h),
    )
    told j (inr (inr h)) = absurd h

    added : (k : Kept N) → IsIn k after ⊎ IsIn k more → HasRecord before k.call ⊎ HasLike (list ++ i ∷ []) k.call
    added k (inl h) = more_like k.call (a.added k h)
    added k (inr h) = let m = of k h in inr (i, in_right i list (i ∷ []) (inl refl), sym m.0, sym m.1)

-- ---- With what is at hand

seen_served : {N : Type 0} (s : Setting N) (i : Instantiation N) (records : List (Kept N)) (hand : ℕ → Wanted → Option (Given N)) (w : Wanted) (d : ℕ)
    (l : Place) (x : Given N) (es : List (Event N))
    → ((name : Expanded) (depth : ℕ) (place : Place) (y : Given N) → hand depth (Global name) ≡ Some y
    → AllFound s records (for_reference s (entered s i.below) i.past name depth place))
    → hand d w ≡ Some x → AllFound s records (nested_along s i es) → AllFound s records (nested_along s i (Saw w d l (Known x) ∷ es))
seen_served s i records hand Position d l x es f e a = a
seen_served s i records hand Size d l x es f e a = a
seen_served s i records hand Rule d l x es f e a = a
seen_served {N = N} s i records hand (Global name) d l x es f e a = λ j h.
    go j (in_append j (for_reference s (entered s i.below) i.past name d l) (nested_along s i es) h)
  where
    go : (j : Instantiation N) → IsIn j (for_reference s (entered s i.below) i.past name d l) ⊎ IsIn j (nested_along s i es) → IsFound s records j
    go j (inl h) = f name d l x e j h
    go j (inr h) = a j h

-- going on so, a run enters nothing that is not served, where all is served that was entered for what is at hand
pub passes_served : {N : Type 0} (s : Setting N) (i : Instantiation N) (records : List (Kept N)) (hand : ℕ → Wanted → Option (Given N)) (room : ℕ)
    (p r : Plan N) (g h : Going N)
    → ((name : Expanded) (depth : ℕ) (place : Place) (y : Given N) → hand depth (Global name) ≡ Some y
    → AllFound s records (for_reference s (entered s i.below) i.past name depth place))
    → Passes s.ask hand room p g r h
    → (es : List (Event N)) × (h.trace ≡ g.trace ++ es) × AllFound s records (nested_along s i es)
passes_served s i records hand room p r g h f stays = ([], sym (append-nil g.trace), λ j m. absurd m)
passes_served s i records hand room p r g h f (asks {q = q} {next = next} t) =
    let m = passes_served s i records hand room (next (s.ask q)) r (noted (Asked q (s.ask q)) g) h f t in
    (Asked q (s.ask q) ∷ m.0, m.1 ∙ append_assoc g.trace (Asked q (s.ask q) ∷ []) m.0, m.2)
passes_served s i records hand room p r g h f (uses {w = w} {depth = d} {place = l} {next = next} {x = x} e t) =
    let m = passes_served s i records hand room (next x) r (noted (Saw w d l (Known x)) g) h f t in
    (Saw w d l (Known x) ∷ m.0, m.1 ∙ append_assoc g.trace (Saw w d l (Known x) ∷ []) m.0, seen_served s i records hand w d l x m.0 f e m.2)
passes_served s i records hand room p r g h f (puts {items = items} {next = next} t) =
    passes_served s i records hand room next r (put items g) h f t
passes_served s i records hand room p r g h f (begins {next = next} t) = passes_served s i records hand room next r (begun g) h f t
passes_served s i records hand room p r g h f (wraps {how = how} {next = next} t) =
    passes_served s i records hand room next r (wrap how g) h f t
passes_served s i records hand room p r g h f (takes {next = next} t) =
    let first = length g.streams - holes g.top in
    let m = passes_served s i records hand room (next (held g)) r (aside g) h f t in
    (Held first (of_top g) ∷ m.0, m.1 ∙ append_assoc g.trace (Held first (of_top g) ∷ []) m.0, m.2)
passes_served s i records hand room p r g h f (goes_deep {depth = d} {next = next} e t) =
    passes_served s i records hand room next r (deepened d g) h f t
passes_served s i records hand room p r g h f (is_too_deep e) = ([], sym (append-nil g.trace), λ j m. absurd m)

-- ---- The whole run

pub run_counted : {N : Type 0} (s : Setting N) (last after : List (Kept N)) (IsMade : Target N → N → Type 0) (list : List (Instantiation N))
    → ((k : Kept N) → IsIn k last → ¬ (IsMade k.call.target k.call.node)) → Enters s last list (instantiations s) after
    → AreCounted s last IsMade list
run_counted {N = N} s last after IsMade list old a = record {
  of_run = a.some;
  new = a.new;
  once = a.once;
  made = λ i h new. made i new (a.told i h);
}
  where
    made : (i : Instantiation N) → IsMade i.call.target i.call.node → HasRecord last i.call ⊎ HasLike list i.call → HasLike list i.call
    made i new (inr m) = m
    made i new (inl m) =
        let P : Target N → Type 0 = λ t. IsMade t m.0.call.node in
        let Q : N → Type 0 = λ n. IsMade i.call.target n in
        absurd (old m.0 m.1 (subst P (sym m.2) (subst Q (sym m.3) new)))

pub counted_entered : {N : Type 0} (s : Setting N) (records : List (Kept N)) (IsMade : Target N → N → Type 0) (list : List (Instantiation N))
    → AllEnd s list → AreCounted s records IsMade list → AreEntered s records IsMade list
counted_entered s records IsMade list ended a = record {
  of_run = a.of_run;
  unserved = λ i h m. a.new i h (m.0, m.1, m.2, served_asks s i m.0 m.2 (ended i h));
  once = a.once;
  made = a.made;
}

pub entered_counted : {N : Type 0} (s : Setting N) (records : List (Kept N)) (IsMade : Target N → N → Type 0) (list : List (Instantiation N))
    → AreEntered s records IsMade list → AreCounted s records IsMade list
entered_counted s records IsMade list a = record {
  of_run = a.of_run;
  new = λ i h m. a.unserved i h (m.0, m.1, m.2);
  once = a.once;
  made = a.made;
}
