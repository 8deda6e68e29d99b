-- What is counted step by step, along a record and where the call is run.
use Rattle.std.proofs.Common.{◌≡◌, ℕ, inl, inr, List, [], ◌∷◌, ◌++◌, Bool, true, refl, sym, ap, subst, ◌∙◌, append_assoc}
use Rattle.std.proofs.lemmas.List.{append-nil}
use Rattle.spec_document.specs.Name.{Expanded}
use Rattle.spec_stylesheet.specs.Place.{Place}
use Rattle.spec_meaning.specs.Stream.{Stream}
use Rattle.spec_meaning.specs.Question.{Question, Answer}
use Rattle.spec_meaning.specs.Program.{Wanted, Position, Size, Rule, Global, Given}
use Rattle.spec_run.specs.Plan.{Refused, Call}
use Rattle.spec_run.specs.Direct.{Supplied, Known, Failed, Outcome}
use Rattle.spec_run.specs.Going.{Event, Asked, Saw, Entered, Held}
use Rattle.spec_run.specs.Hold.{GoesOn, Hold, came}
use Rattle.spec_run.specs.Trail.{Kept}
use Rattle.spec_run.specs.Meaning.{Setting, settled}
use Rattle.spec_reuse.specs.Among.{IsIn}
use Rattle.spec_reuse.specs.Instantiation.{Instantiation, given_to, meant_below, own_of, for_reference, entered, instantiations}
use Rattle.spec_reuse.specs.Serving.{ReadsHold, Fits, Serves}
use Rattle.spec_reuse.specs.Ledger.{nested_along, nested_in, nested_but, unless_known, AllEnd, AreOfRun, AllFound, Enters, EntersFront, IsRead}
use Rattle.spec_reuse.specs.Ledger.{EntersNone, IsAlong, IsRun}
use Rattle.spec_reuse.proofs.Ends.{given_ends}
use Rattle.spec_reuse.proofs.Fronts.{front_next, whole_done, front_done, front_ended, front_reads, none_serves_refused}
use Rattle.spec_reuse.proofs.Again.{in_append}
use Rattle.spec_reuse.proofs.Counting.{some_in, nested_append, nested_referred, nested_entered, nested_but_append, nested_but_referred}
use Rattle.spec_reuse.proofs.Counting.{nested_but_entered, nested_some, lost_ends, one_after_another, front_entered, front_of_run, nothing_entered}

-- ---- Fronts that hold

hold_append : {N : Type 0} (ask : Question N → Answer N) (supply : Wanted → ℕ → Place → Supplied N) (nested : ℕ → Call N → Outcome N)
    (ss : List Stream) (es more : List (Event N)) → Hold ask supply nested ss es → Hold ask supply nested (ss ++ came nested es) more
    → Hold ask supply nested ss (es ++ more)
hold_append ask supply nested ss [] more k l = let H : List Stream → Type 0 = λ us. Hold ask supply nested us more in subst H (append-nil ss) l
hold_append ask supply nested ss (Asked question answer ∷ es) more k l = (k.0, hold_append ask supply nested ss es more k.1 l)
hold_append ask supply nested ss (Saw wanted depth place x ∷ es) more k l = (k.0, hold_append ask supply nested ss es more k.1 l)
hold_append ask supply nested ss (Entered call depth ∷ es) more k l =
    let new = (nested depth call).content in
    let H : List Stream → Type 0 = λ us. Hold ask supply nested us more in
    (k.0, hold_append ask supply nested (ss ++ new ∷ []) es more k.1 (subst H (sym (append_assoc ss (new ∷ []) (came nested es))) l))
hold_append ask supply nested ss (Held first contents ∷ es) more k l = (k.0, hold_append ask supply nested ss es more k.1 l)

hold_reads : {N : Type 0} (ask : Question N → Answer N) (supply : Wanted → ℕ → Place → Supplied N) (nested : ℕ → Call N → Outcome N)
    (ss : List Stream) (es more : List (Event N)) → Hold ask supply nested ss es → ReadsHold ask supply nested (ss ++ came nested es) more
    → ReadsHold ask supply nested ss (es ++ more)
hold_reads ask supply nested ss [] more k l =
    let R : List Stream → Type 0 = λ us. ReadsHold ask supply nested us more in subst R (append-nil ss) l
hold_reads ask supply nested ss (Asked question answer ∷ es) more k l = (k.0, hold_reads ask supply nested ss es more k.1 l)
hold_reads ask supply nested ss (Saw wanted depth place x ∷ es) more k l = (k.0, hold_reads ask supply nested ss es more k.1 l)
hold_reads ask supply nested ss (Entered call depth ∷ es) more k l = λ on.
    let new = (nested depth call).content in
    let R : List Stream → Type 0 = λ us. ReadsHold ask supply nested us more in
    hold_reads ask supply nested (ss ++ new ∷ []) es more k.1 (subst R (sym (append_assoc ss (new ∷ []) (came nested es))) l)
hold_reads ask supply nested ss (Held first contents ∷ es) more k l = (k.0, hold_reads ask supply nested ss es more k.1 l)

-- the first of what is left is read
read_first : {N : Type 0} (ask : Question N → Answer N) (supply : Wanted → ℕ → Place → Supplied N) (nested : ℕ → Call N → Outcome N)
    (ss : List Stream) (event : Event N) (rest : List (Event N)) → IsRead event → ReadsHold ask supply nested ss (event ∷ rest)
    → Hold ask supply nested ss (event ∷ [])
read_first ask supply nested ss (Asked question answer) rest is r = (r.0, tt)
read_first ask supply nested ss (Saw wanted depth place x) rest is r = (r.0, tt)
read_first ask supply nested ss (Entered call depth) rest is r = absurd is
read_first ask supply nested ss (Held first contents) rest is r = (r.0, tt)

none_nested : {N : Type 0} (s : Setting N) (i : Instantiation N) (event : Event N) → EntersNone event → nested_along s i (event ∷ []) ≡ []
none_nested s i (Asked question answer) e = refl
none_nested s i (Saw Position depth place x) e = refl
none_nested s i (Saw Size depth place x) e = refl
none_nested s i (Saw Rule depth place x) e = refl
none_nested s i (Saw (Global name) depth place x) e = absurd e
none_nested s i (Entered call depth) e = absurd e
none_nested s i (Held first contents) e = refl

-- ---- Along a record

pub sets_out : {N : Type 0} (s : Setting N) (i : Instantiation N) (k : Kept N) (records : List (Kept N)) → IsIn i (instantiations s) → Fits s i k
    → IsAlong s i k [] k.trace records [] records
sets_out s i k records h f = record {
  of_run = h;
  fits = f;
  parts = refl;
  holds = tt;
  enters = nothing_entered s records [] (λ j m. absurd m);
}

-- one event further, which enters these after what was entered
further : {N : Type 0} (s : Setting N) (i : Instantiation N) (k : Kept N) (done rest : List (Event N)) (event : Event N)
    (before mid after : List (Kept N)) (one two is : List (Instantiation N)) → IsAlong s i k done (event ∷ rest) before one mid
    → Hold s.ask (given_to s i) (meant_below s i) (came (meant_below s i) done) (event ∷ [])
    → nested_along s i (done ++ event ∷ []) ≡ nested_along s i done ++ is → Enters s mid two is after
    → IsAlong s i k (done ++ event ∷ []) rest before (one ++ two) after
further {N = N} s i k done rest event before mid after one two is a read parts b =
    let more : k.trace ≡ (done ++ event ∷ []) ++ rest = a.parts ∙ sym (append_assoc done (event ∷ []) rest) in
    let holds = hold_append s.ask (given_to s i) (meant_below s i) [] done (event ∷ []) a.holds read in
    let own = front_done s i k (done ++ event ∷ []) rest a.fits more holds in
    let R : List (Instantiation N) → Type 0 = λ l. AreOfRun s l in
    let E : List (Instantiation N) → Type 0 = λ l. Enters s before (one ++ two) l after in
    record {
      of_run = a.of_run;
      fits = a.fits;
      parts = more;
      holds = holds;
      enters = subst E (sym parts) (one_after_another s before mid after one two (nested_along s i done) is
          (subst R parts (front_of_run s i (done ++ event ∷ []) own.0 a.of_run own.1)) a.enters b);
    }

pub event_holds : {N : Type 0} (s : Setting N) (i : Instantiation N) (k : Kept N) (done rest : List (Event N)) (event : Event N)
    (before after : List (Kept N)) (list : List (Instantiation N)) → IsAlong s i k done (event ∷ rest) before list after → EntersNone event
    → Hold s.ask (given_to s i) (meant_below s i) (came (meant_below s i) done) (event ∷ [])
    → IsAlong s i k (done ++ event ∷ []) rest before list after
event_holds {N = N} s i k done rest event before after list a none read =
    let L : List (Instantiation N) → Type 0 = λ l. IsAlong s i k (done ++ event ∷ []) rest before l after in
    let parts = nested_append s i done (event ∷ []) ∙ ap (λ is. nested_along s i done ++ is) (none_nested s i event none) in
    subst L (append-nil list) (further s i k done rest event before after after list [] [] a read parts
    (nothing_entered s after [] (λ j m. absurd m)))

pub call_goes_on : {N : Type 0} (s : Setting N) (i : Instantiation N) (k : Kept N) (done rest : List (Event N)) (call : Call N) (depth : ℕ)
    (before mid after : List (Kept N)) (one two : List (Instantiation N)) → IsAlong s i k done (Entered call depth ∷ rest) before one mid
    → GoesOn (meant_below s i depth call).ending → Enters s mid two (entered s i.below i.past depth (settled i.call call)) after
    → IsAlong s i k (done ++ Entered call depth ∷ []) rest before (one ++ two) after
call_goes_on s i k done rest call depth before mid after one two a on b =
    further s i k done rest (Entered call depth) before mid after one two (entered s i.below i.past depth (settled i.call call)) a (on, tt)
    (nested_entered s i done call depth) b

pub reference_holds : {N : Type 0} (s : Setting N) (i : Instantiation N) (k : Kept N) (done rest : List (Event N)) (name : Expanded) (depth : ℕ)
    (place : Place) (x : Supplied N) (before mid after : List (Kept N)) (one two : List (Instantiation N))
    → IsAlong s i k done (Saw (Global name) depth place x ∷ rest) before one mid → given_to s i (Global name) depth place ≡ x
    → Enters s mid two (for_reference s (entered s i.below) i.past name depth place) after
    → IsAlong s i k (done ++ Saw (Global name) depth place x ∷ []) rest before (one ++ two) after
reference_holds s i k done rest name depth place x before mid after one two a same b =
    further s i k done rest (Saw (Global name) depth place x) before mid after one two
    (for_reference s (entered s i.below) i.past name depth place) a (same, tt) (nested_referred s i done name depth place x) b

-- ---- Where it ends

pub all_holds : {N : Type 0} (s : Setting N) (i : Instantiation N) (k : Kept N) (done : List (Event N)) (before after : List (Kept N))
    (list : List (Instantiation N)) → IsAlong s i k done [] before list after
    → Enters s before list (nested_in s i) after × Serves s i k
all_holds {N = N} s i k done before after list a =
    let whole : k.trace ≡ done = a.parts ∙ append-nil done in
    let H : List (Event N) → Type 0 = λ es. Hold s.ask (given_to s i) (meant_below s i) [] es in
    let R : List (Event N) → Type 0 = λ es. ReadsHold s.ask (given_to s i) (meant_below s i) [] es in
    let E : List (Event N) → Type 0 = λ es. Enters s before list (nested_along s i es) after in
    let own : (own_of s i).going.trace ≡ done = whole_done s i k a.fits (subst H (sym whole) a.holds) ∙ whole in (
      subst E (sym own) a.enters,
      record { fits = a.fits; reads = subst R (sym a.parts) (hold_reads s.ask (given_to s i) (meant_below s i) [] done [] a.holds tt) },
    )

-- where what was entered is the last that is done
last_enters : {N : Type 0} (s : Setting N) (i : Instantiation N) (done : List (Event N)) (event : Event N) (before mid after : List (Kept N))
    (one two is : List (Instantiation N)) → IsIn i (instantiations s) → (own_of s i).going.trace ≡ done ++ event ∷ []
    → nested_along s i (done ++ event ∷ []) ≡ nested_along s i done ++ is → Enters s before one (nested_along s i done) mid
    → Enters s mid two is after → Enters s before (one ++ two) (nested_in s i) after
last_enters {N = N} s i done event before mid after one two is h own parts a b =
    let all : nested_in s i ≡ nested_along s i done ++ is = ap (nested_along s i) own ∙ parts in
    let R : List (Instantiation N) → Type 0 = λ l. AreOfRun s l in
    let E : List (Instantiation N) → Type 0 = λ l. Enters s before (one ++ two) l after in
    let of_run = front_of_run s i (done ++ event ∷ []) [] h (own ∙ sym (append-nil (done ++ event ∷ []))) in
    subst E (sym all) (one_after_another s before mid after one two (nested_along s i done) is (subst R parts of_run) a b)

pub call_refused : {N : Type 0} (s : Setting N) (i : Instantiation N) (k : Kept N) (done rest : List (Event N)) (call : Call N) (depth : ℕ)
    (before mid after : List (Kept N)) (one two : List (Instantiation N)) → IsAlong s i k done (Entered call depth ∷ rest) before one mid
    → ¬ (GoesOn (meant_below s i depth call).ending) → Enters s mid two (entered s i.below i.past depth (settled i.call call)) after
    → Enters s before (one ++ two) (nested_in s i) after × Serves s i k
call_refused {N = N} s i k done rest call depth before mid after one two a refused b =
    let goes = front_next s i k done (Entered call depth) rest a.fits a.parts a.holds in
    let own = goes.is ∙ ap (λ es. done ++ Entered call depth ∷ es) (goes.last refused) in
    let R : List (Event N) → Type 0 = λ es. ReadsHold s.ask (given_to s i) (meant_below s i) [] es in (
      last_enters s i done (Entered call depth) before mid after one two (entered s i.below i.past depth (settled i.call call)) a.of_run own
          (nested_entered s i done call depth) a.enters b,
      record {
        fits = a.fits;
        reads = subst R (sym a.parts) (hold_reads s.ask (given_to s i) (meant_below s i) [] done (Entered call depth ∷ rest) a.holds
            (λ on. absurd (refused on)));
      },
    )

-- it does not serve, since it reads what does not hold
unread : {N : Type 0} (s : Setting N) (i : Instantiation N) (k : Kept N) (done rest : List (Event N)) (event : Event N) (before after : List (Kept N))
    (list : List (Instantiation N)) → IsAlong s i k done (event ∷ rest) before list after → IsRead event
    → ¬ (Hold s.ask (given_to s i) (meant_below s i) (came (meant_below s i) done) (event ∷ [])) → ¬ (Serves s i k)
unread s i k done rest event before after list a is never = λ serves.
    never (read_first s.ask (given_to s i) (meant_below s i) (came (meant_below s i) done) event rest is
    (front_reads s i k done (event ∷ rest) serves a.parts a.holds))

pub event_differs : {N : Type 0} (s : Setting N) (i : Instantiation N) (k : Kept N) (done rest : List (Event N)) (event : Event N)
    (before after : List (Kept N)) (list : List (Instantiation N)) → IsAlong s i k done (event ∷ rest) before list after → IsRead event
    → ¬ (Hold s.ask (given_to s i) (meant_below s i) (came (meant_below s i) done) (event ∷ []))
    → EntersFront s before list (nested_in s i) after × ¬ (Serves s i k)
event_differs s i k done rest event before after list a is never =
    let own = front_done s i k done (event ∷ rest) a.fits a.parts a.holds in (
      front_entered s before after list i done own.0 own.1 (front_ended s i k done (event ∷ rest) a.fits a.parts a.holds) a.enters,
      unread s i k done rest event before after list a is never,
    )

-- what is given now is the value of the global, or its refusal
pub reference_differs : {N : Type 0} (s : Setting N) (i : Instantiation N) (k : Kept N) (done rest : List (Event N)) (name : Expanded) (depth : ℕ)
    (place : Place) (x : Supplied N) (y : Given N) (before mid after : List (Kept N)) (one two : List (Instantiation N))
    → IsAlong s i k done (Saw (Global name) depth place x ∷ rest) before one mid → given_to s i (Global name) depth place ≡ Known y
    → ¬ (Known y ≡ x) → Enters s mid two (for_reference s (entered s i.below) i.past name depth place) after
    → EntersFront s before (one ++ two) (nested_in s i) after × ¬ (Serves s i k)
reference_differs {N = N} s i k done rest name depth place x y before mid after one two a is never b =
    let event = Saw (Global name) depth place x in
    let now = Saw (Global name) depth place (given_to s i (Global name) depth place) in
    let goes = front_next s i k done event rest a.fits a.parts a.holds in
    let own : (own_of s i).going.trace ≡ (done ++ now ∷ []) ++ goes.more = goes.is ∙ sym (append_assoc done (now ∷ []) goes.more) in
    let parts = nested_referred s i done name depth place (given_to s i (Global name) depth place) in
    let R : List (Instantiation N) → Type 0 = λ l. AreOfRun s l in
    let E : List (Instantiation N) → Type 0 = λ l. Enters s before (one ++ two) l after in
    let A : List (Instantiation N) → Type 0 = λ l. AllEnd s l in
    let first = front_ended s i k done (event ∷ rest) a.fits a.parts a.holds in
    let second = given_ends s i name depth place y is in
    let ended : AllEnd s (nested_along s i done ++ for_reference s (entered s i.below) i.past name depth place) = λ j h.
    elim (in_append j (nested_along s i done) (for_reference s (entered s i.below) i.past name depth place) h) [
      | inl m ↦ first j m
      | inr m ↦ second j m
    ] in
    let both = one_after_another s before mid after one two (nested_along s i done) (for_reference s (entered s i.below) i.past name depth place)
    (subst R parts (front_of_run s i (done ++ now ∷ []) goes.more a.of_run own)) a.enters b in (
      front_entered s before after (one ++ two) i (done ++ now ∷ []) goes.more own (subst A (sym parts) ended) (subst E (sym parts) both),
      unread s i k done rest event before mid one a tt (λ h. never (sym is ∙ h.0)),
    )

pub reference_refused : {N : Type 0} (s : Setting N) (i : Instantiation N) (k : Kept N) (done rest : List (Event N)) (name : Expanded) (depth : ℕ)
    (place : Place) (x : Supplied N) (why : Refused) (before mid after : List (Kept N)) (one two : List (Instantiation N))
    → IsAlong s i k done (Saw (Global name) depth place x ∷ rest) before one mid → given_to s i (Global name) depth place ≡ Failed why
    → Enters s mid two (for_reference s (entered s i.below) i.past name depth place) after
    → Enters s before (one ++ two) (nested_in s i) after × ((other : Kept N) → ¬ (Serves s i other))
    × ((is_known : Expanded → ℕ → Place → Bool) → is_known name depth place ≡ true
    → AllEnd s (nested_but s i is_known (own_of s i).going.trace))
reference_refused {N = N} s i k done rest name depth place x why before mid after one two a refused b =
    let event = Saw (Global name) depth place x in
    let now = Saw (Global name) depth place (given_to s i (Global name) depth place) in
    let goes = front_next s i k done event rest a.fits a.parts a.holds in
    let own : (own_of s i).going.trace ≡ done ++ now ∷ [] = goes.is ∙ ap (λ es. done ++ now ∷ es) (goes.last (why, refused)) in
    let seen : (own_of s i).going.trace ≡ done ++ Saw (Global name) depth place (Failed why) ∷ [] =
    own ∙ ap (λ z. done ++ Saw (Global name) depth place z ∷ []) refused in (
      last_enters s i done now before mid after one two (for_reference s (entered s i.below) i.past name depth place) a.of_run own
          (nested_referred s i done name depth place (given_to s i (Global name) depth place)) a.enters b,
      λ other serves. none_serves_refused s i other done [] (Global name) depth place why seen serves,
      λ is_known known. lost_ends s i k is_known done rest name depth place x why a.fits a.parts a.holds refused known,
    )

-- ---- Where it is run

pub run_begins : {N : Type 0} (s : Setting N) (i : Instantiation N) (is_known : Expanded → ℕ → Place → Bool) (records : List (Kept N))
    → IsIn i (instantiations s) → IsRun s i is_known [] records [] records
run_begins s i is_known records h = record {
  of_run = h;
  more = (own_of s i).going.trace;
  parts = refl;
  enters = nothing_entered s records [] (λ j m. absurd m);
}

-- these events further, which enter these after what was entered
run_further : {N : Type 0} (s : Setting N) (i : Instantiation N) (is_known : Expanded → ℕ → Place → Bool) (done es more : List (Event N))
    (before mid after : List (Kept N)) (one two is : List (Instantiation N)) → IsRun s i is_known done before one mid
    → (own_of s i).going.trace ≡ (done ++ es) ++ more → nested_but s i is_known (done ++ es) ≡ nested_but s i is_known done ++ is
    → Enters s mid two is after → IsRun s i is_known (done ++ es) before (one ++ two) after
run_further {N = N} s i is_known done es more before mid after one two is a own parts b =
    let R : List (Instantiation N) → Type 0 = λ l. AreOfRun s l in
    let E : List (Instantiation N) → Type 0 = λ l. Enters s before (one ++ two) l after in
    let along = front_of_run s i (done ++ es) more a.of_run own in
    let of_run : AreOfRun s (nested_but s i is_known (done ++ es)) = λ j h. along j (some_in (nested_some s i is_known (done ++ es)) j h) in
    record {
      of_run = a.of_run;
      more = more;
      parts = own;
      enters = subst E (sym parts) (one_after_another s before mid after one two (nested_but s i is_known done) is (subst R parts of_run) a.enters b);
    }

pub run_passes : {N : Type 0} (s : Setting N) (i : Instantiation N) (is_known : Expanded → ℕ → Place → Bool) (done es more : List (Event N))
    (before after : List (Kept N)) (list : List (Instantiation N)) → IsRun s i is_known done before list after
    → (own_of s i).going.trace ≡ (done ++ es) ++ more → AllFound s after (nested_along s i es)
    → IsRun s i is_known (done ++ es) before list after
run_passes {N = N} s i is_known done es more before after list a own found =
    let L : List (Instantiation N) → Type 0 = λ l. IsRun s i is_known (done ++ es) before l after in
    subst L (append-nil list) (run_further s i is_known done es more before after after list [] (nested_but s i is_known es) a own
    (nested_but_append s i is_known done es)
    (nothing_entered s after (nested_but s i is_known es) (λ j h. found j (some_in (nested_some s i is_known es) j h))))

pub run_enters : {N : Type 0} (s : Setting N) (i : Instantiation N) (is_known : Expanded → ℕ → Place → Bool) (done more : List (Event N))
    (call : Call N) (depth : ℕ) (before mid after : List (Kept N)) (one two : List (Instantiation N)) → IsRun s i is_known done before one mid
    → (own_of s i).going.trace ≡ (done ++ Entered call depth ∷ []) ++ more
    → Enters s mid two (entered s i.below i.past depth (settled i.call call)) after
    → IsRun s i is_known (done ++ Entered call depth ∷ []) before (one ++ two) after
run_enters s i is_known done more call depth before mid after one two a own b =
    run_further s i is_known done (Entered call depth ∷ []) more before mid after one two (entered s i.below i.past depth (settled i.call call)) a own
    (nested_but_entered s i is_known done call depth) b

pub run_refers : {N : Type 0} (s : Setting N) (i : Instantiation N) (is_known : Expanded → ℕ → Place → Bool) (done more : List (Event N))
    (name : Expanded) (depth : ℕ) (place : Place) (x : Supplied N) (before mid after : List (Kept N)) (one two : List (Instantiation N))
    → IsRun s i is_known done before one mid → (own_of s i).going.trace ≡ (done ++ Saw (Global name) depth place x ∷ []) ++ more
    → Enters s mid two (unless_known is_known (for_reference s (entered s i.below) i.past) name depth place) after
    → IsRun s i is_known (done ++ Saw (Global name) depth place x ∷ []) before (one ++ two) after
run_refers s i is_known done more name depth place x before mid after one two a own b =
    run_further s i is_known done (Saw (Global name) depth place x ∷ []) more before mid after one two
    (unless_known is_known (for_reference s (entered s i.below) i.past) name depth place) a own
    (nested_but_referred s i is_known done name depth place x) b
