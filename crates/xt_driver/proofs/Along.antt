-- The turns along a record.
use Rattle.std.proofs.Common.{◌≡◌, ℕ, suc, ◌+◌, ◌-◌, ◌<◌, ◌≤◌, List, [], ◌∷◌, ◌++◌, length, map, drop, take, get_or, Result, Ok, Err, refl, sym, ap, subst, ◌∙◌, arith}
use Rattle.std.specs.Prelude.{true, false, IfOk, OnOk, Box}
use Rattle.std.specs.declared.alloc.Global.{Global as Allocator}
use Rattle.std.proofs.lemmas.List.{at_drop_more, at_drop_all, take_more, map-append}
use Rattle.spec_document.specs.Name.{Expanded}
use Rattle.spec_meaning.specs.Stream.{Stream, holes}
use Rattle.spec_meaning.specs.Question.{Question, Answer}
use Rattle.spec_meaning.specs.Program.{Position, Size, Rule, Global}
use Rattle.spec_run.specs.Plan.{Call}
use Rattle.spec_run.specs.Direct.{Supplied, Ending, Finished, Gave, Halted, Outcome}
use Rattle.spec_run.specs.Going.{Event, Asked, Saw, Entered, Held}
use Rattle.spec_run.specs.Hold.{GoesOn}
use Rattle.spec_run.specs.Trail.{Kept, IsTrue}
use Rattle.spec_run.specs.Meaning.{Setting, Past, referred, meaning}
use Rattle.spec_reuse.specs.Instantiation.{Instantiation}
use Rattle.spec_reuse.specs.Serving.{IsOf}
use Rattle.spec_node.specs.declared.node_ref.NodeRef.{NodeRef}
use Rattle.xt_syntax.specs.PartView.{place_of}
use Rattle.xt_tree.specs.ValueView.{value_of}
use Rattle.xt_tree.specs.StreamView.{streams_of}
use Rattle.xt_engine.specs.View.{call_of, event_of}
use Rattle.xt_engine.specs.declared.call.Call.{Call as CodeCall}
use Rattle.xt_engine.specs.declared.event.Event.{Event as CodeEvent}
use Rattle.xt_engine.specs.declared.turn.Entered.{Entered as Given}
use Rattle.xt_engine.specs.declared.turn.Entered.TheVariants as given
use Rattle.xt_text.specs.declared.memory.Memory.{Memory}
use Rattle.xt_driver.specs.declared.drive.Served.{Served}
use Rattle.xt_driver.specs.declared.drive.Served.TheVariants as served
use Rattle.xt_driver.specs.declared.follow.Gone.{Gone}
use Rattle.xt_driver.specs.declared.follow.Gone.TheVariants as gone
use Rattle.std.specs.declared.rc.Rc.{Rc}
use Rattle.xt_driver.specs.declared.follow.Next.{Next}
use Rattle.xt_driver.specs.declared.follow.Next.TheVariants as next
use Rattle.xt_driver.specs.declared.way.Way.{Way}
use Rattle.xt_driver.specs.declared.level.Needed.{Needed}
use Rattle.xt_driver.specs.declared.lost.Lost.{Lost}
use Rattle.xt_driver.specs.declared.lost.Lost.TheVariants as lost
use Rattle.xt_driver.specs.declared.memo.Referred.{Referred}
use Rattle.xt_driver.specs.declared.came.Outcome.{Outcome as Came}
use Rattle.xt_driver.specs.View.{outcome_of, Gives}
use Rattle.xt_driver.specs.Remembered.{Entry, Keeps, Lasts, GivesAlways}
use Rattle.xt_driver.specs.Referring.{HoldsAs, Settles}
use Rattle.xt_driver.specs.Along.{halts, refuses, IsNext, IsTaken, TakesSo, Takes, IsSeenAs, IsTakenAs, IsLostAs, TakesReferenceSo, TakesReference}
use Rattle.xt_driver.specs.Lost.{IsLost, IsServed}
use Rattle.xt_driver.proofs.Remembering.{keeps_on}
use Rattle.xt_driver.specs.Followed.{IsFollowed, cut_with, EndsWith, IsGone}
use Rattle.xt_driver.proofs.Serving.{HoldsHere, followed_held, followed_entered, no_end, followed_refused, followed_referred, filled_with, followed_means, followed_lasts}

abbrev Ask : Type 0
Ask = Question NodeRef → Answer NodeRef

-- what is left of what was done
abbrev pub rest_from : List CodeEvent → ℕ → List (Event NodeRef)
rest_from events n = map event_of (drop n events)

-- what was done before
abbrev pub done_to : List CodeEvent → ℕ → List (Event NodeRef)
done_to events n = map event_of (take n events)

pub done_next : (events : List CodeEvent) (n : ℕ) (e : CodeEvent) → n < length events → e ≡ get_or events n e
    → done_to events (n + 1) ≡ done_to events n ++ event_of e ∷ []
done_next events n e l is =
    ap (map event_of) (take_more events n e l) ∙ map-append event_of (take n events) (get_or events n e ∷ [])
    ∙ ap (λ x. done_to events n ++ event_of x ∷ []) (sym is)

pub next_event : (events : List CodeEvent) (n : ℕ) (e : CodeEvent) → n < length events → e ≡ get_or events n e
    → rest_from events n ≡ event_of e ∷ rest_from events (n + 1)
next_event events n e l is = at_drop_more (map event_of) events n e l ∙ ap (λ x. event_of x ∷ rest_from events (n + 1)) (sym is)

pub rest_all : (events : List CodeEvent) {items : List CodeEvent} → events ≡ items → map event_of items ≡ rest_from events 0
rest_all events same = sym (ap (map event_of) same)

pub rest_none : (events : List CodeEvent) (n : ℕ) → length events ≤ n → rest_from events n ≡ []
rest_none events n h = at_drop_all (map event_of) events n h

-- the next event
pub along_turn : (s : Setting NodeRef) (i : Instantiation NodeRef) (first all : List (Entry NodeRef)) (spare : ℕ) (k : Kept NodeRef) (ss : List Stream)
    (events : List CodeEvent) (n : ℕ) (e : CodeEvent)
    → n < length events → e ≡ get_or events n e → IsFollowed s i first all spare k ss (rest_from events n)
    → IsFollowed s i first all spare k ss (event_of e ∷ rest_from events (n + 1))
along_turn s i first all spare k ss events n e l is h = let P : List (Event NodeRef) → Type 0 = λ es. IsFollowed s i first all spare k ss es in subst P (next_event events n e l is) h

holds_here : (c : Call NodeRef) (below : ℕ) (ss : List Stream) (e : Event NodeRef) → IsNext next.Holds c below ss e → HoldsHere c ss e
holds_here c below ss (Asked q a) h = tt
holds_here c below ss (Saw Position d p x) h = h
holds_here c below ss (Saw Size d p x) h = h
holds_here c below ss (Saw Rule d p x) h = h
holds_here c below ss (Saw (Global name) d p x) h = h
holds_here c below ss (Entered k d) h = h
holds_here c below ss (Held j xs) h = h

goes_on : (e : Ending NodeRef) → halts e ≡ false → GoesOn e
goes_on Finished h = tt
goes_on (Gave v) h = tt
goes_on (Halted why) h = cc

-- ---- What holds

pub along_held : (s : Setting NodeRef) (i : Instantiation NodeRef) (first all : List (Entry NodeRef)) (spare : ℕ) (k : Kept NodeRef) (ss : List Stream)
    (e : Event NodeRef) (es : List (Event NodeRef)) (x : Next)
    → IsFollowed s i first all spare k ss (e ∷ es) → IsNext x i.call i.below ss e → x ≡ next.Holds → IsFollowed s i first all spare k ss es
along_held s i first all spare k ss e es x h n is =
    let P : Next → Type 0 = λ y. IsNext y i.call i.below ss e in
    followed_held s i first all spare k ss e es h (holds_here i.call i.below ss e (subst P is n))

-- ---- What is entered

pub along_entered : (s : Ask → Setting NodeRef) {a b : Ask} (i : Instantiation NodeRef) (first all new : List (Entry NodeRef)) (k : Kept NodeRef)
    (old way : Way) (e : Event NodeRef) (es : List (Event NodeRef)) (x : Next)
    (inner : Rc CodeCall Allocator) (left : ℕ) (came : Result (Box Came Allocator) Memory) (ended : Gone)
    → a ≡ b → IsFollowed (s b) i first all old.spare k (streams_of old.parts.items) (e ∷ es) → IsNext x i.call i.below (streams_of old.parts.items) e
    → x ≡ next.Enter inner left
    → OnOk came (Keeps (s a) i.past all new) → IfOk came (λ o. Lasts (s a) i.past (left - o.value.spare) new (call_of inner.value) (outcome_of o.value))
    → Takes ended came old way → ended ≡ gone.On → IsFollowed (s b) i first new way.spare k (streams_of way.parts.items) es
along_entered s i first all new k old way e es x inner left (Err m) ended same h n is keeps lasts takes empty = absurd takes
along_entered s {b = b} i first all new k old way e es x inner left (Ok o) ended same h n is keeps lasts takes empty =
    let P : Next → Type 0 = λ y. IsNext y i.call i.below (streams_of old.parts.items) e in
    let K : Ask → Type 0 = λ y. Keeps (s y) i.past all new in
    let L : Ask → Type 0 = λ y. Lasts (s y) i.past (left - o.value.spare) new (call_of inner.value) (outcome_of o.value) in
    let T : Gone → Type 0 = λ y. TakesSo y o.value old way in
    let F : List Stream → Type 0 = λ ss. IsFollowed (s b) i first new way.spare k ss es in
    let taken : IsTaken o.value old way = subst T empty takes in
    subst F (sym taken.streams) (by_event e h (subst P is n) (subst K same keeps) (subst L same lasts) taken)
  where
    by_event : (y : Event NodeRef) → IsFollowed (s b) i first all old.spare k (streams_of old.parts.items) (y ∷ es)
        → IsNext (next.Enter inner left) i.call i.below (streams_of old.parts.items) y
        → Keeps (s b) i.past all new → Lasts (s b) i.past (left - o.value.spare) new (call_of inner.value) (outcome_of o.value) → IsTaken o.value old way
        → IsFollowed (s b) i first new way.spare k (streams_of old.parts.items ++ (outcome_of o.value).content ∷ []) es
    by_event (Asked q v) f n kept lasting taken = absurd n
    by_event (Saw Position d p v) f n kept lasting taken = absurd n
    by_event (Saw Size d p v) f n kept lasting taken = absurd n
    by_event (Saw Rule d p v) f n kept lasting taken = absurd n
    by_event (Saw (Global name) d p v) f n kept lasting taken = absurd n
    by_event (Held j xs) f n kept lasting taken = absurd n
    by_event (Entered c d) f n kept lasting taken =
        followed_entered (s b) i first all new old.spare way.spare o.value.spare k (streams_of old.parts.items) c (call_of inner.value) d left (outcome_of o.value) es
        f kept n.0 n.1 lasting (goes_on (outcome_of o.value).ending taken.on) taken.spare taken.inner

-- it is refused
along_stopped : (s : Setting NodeRef) (i : Instantiation NodeRef) (first all : List (Entry NodeRef)) (k : Kept NodeRef) (old way : Way) (e : Event NodeRef)
    (es : List (Event NodeRef)) (x : Next) (inner : Rc CodeCall Allocator) (left : ℕ) (came : Result (Box Came Allocator) Memory) (last : Box Came Allocator)
    → IsFollowed s i first all old.spare k (streams_of old.parts.items) (e ∷ es) → IsNext x i.call i.below (streams_of old.parts.items) e
    → x ≡ next.Enter inner left → IfOk came (λ o. outcome_of o.value ≡ meaning s left i.past 0 (call_of inner.value))
    → Takes (gone.Refused last) came old way → EndsWith s i k (streams_of way.parts.items) (outcome_of last.value).ending
along_stopped s i first all k old way e es x inner left (Err m) last h n is means takes = absurd takes
along_stopped s i first all k old way e es x inner left (Ok o) last h n is means takes =
    let P : Next → Type 0 = λ y. IsNext y i.call i.below (streams_of old.parts.items) e in
    let E : Came → Type 0 = λ y. EndsWith s i k (streams_of way.parts.items) (outcome_of y).ending in
    let F : List Stream → Type 0 = λ ss. EndsWith s i k ss (outcome_of o.value).ending in
    subst E (sym takes.0) (subst F (sym takes.1.streams) (by_event e h (subst P is n)))
  where
    by_event : (y : Event NodeRef) → IsFollowed s i first all old.spare k (streams_of old.parts.items) (y ∷ es)
        → IsNext (next.Enter inner left) i.call i.below (streams_of old.parts.items) y
        → EndsWith s i k (streams_of old.parts.items ++ (outcome_of o.value).content ∷ []) (outcome_of o.value).ending
    by_event (Asked q v) f m = absurd m
    by_event (Saw Position d p v) f m = absurd m
    by_event (Saw Size d p v) f m = absurd m
    by_event (Saw Rule d p v) f m = absurd m
    by_event (Saw (Global name) d p v) f m = absurd m
    by_event (Held j xs) f m = absurd m
    by_event (Entered c d) f m =
        followed_refused s i first all old.spare k (streams_of old.parts.items) c (call_of inner.value) d left (outcome_of o.value) es f m.0 m.1 means takes.1.stops

-- ---- Globals

pub along_referred : (s : Ask → Setting NodeRef) {a b : Ask} (i : Instantiation NodeRef) (first all new : List (Entry NodeRef)) (k : Kept NodeRef)
    (old way : Way) (e : Event NodeRef) (es : List (Event NodeRef)) (x : Next)
    (needed : Box Needed Allocator) (left : ℕ) (came : Result (Box Referred Allocator) Memory) (ended : Gone)
    → a ≡ b → IsFollowed (s b) i first all old.spare k (streams_of old.parts.items) (e ∷ es) → IsNext x i.call i.below (streams_of old.parts.items) e
    → x ≡ next.Refer needed left
    → OnOk came (Keeps (s a) i.past all new) → IfOk came (λ r. Settles (s a) i.past new needed.value.name left (place_of needed.value.place) r.value)
    → TakesReference ended came e needed.value left old way → ended ≡ gone.On → IsFollowed (s b) i first new way.spare k (streams_of way.parts.items) es
along_referred s i first all new k old way e es x needed left (Err m) ended same h n is keeps settles takes empty = absurd takes
along_referred s {b = b} i first all new k old way e es x needed left (Ok r) ended same h n is keeps settles takes empty =
    let P : Next → Type 0 = λ y. IsNext y i.call i.below (streams_of old.parts.items) e in
    let K : Ask → Type 0 = λ y. Keeps (s y) i.past all new in
    let S : Ask → Type 0 = λ y. Settles (s y) i.past new needed.value.name left (place_of needed.value.place) r.value in
    let T : Gone → Type 0 = λ y. TakesReferenceSo y r.value e needed.value left old way in
    let taken : IsTakenAs e r.value old way = subst T empty takes in
    let F : List Stream → Type 0 = λ ss. IsFollowed (s b) i first new way.spare k ss es in
    subst F (ap (λ ps. streams_of ps.items) (sym taken.parts)) (by_event e r.value.entered h (subst P is n) (subst K same keeps) (subst S same settles).holds taken.seen taken.spare taken.inner)
  where
    by_event : (y : Event NodeRef) (v : Given) → IsFollowed (s b) i first all old.spare k (streams_of old.parts.items) (y ∷ es)
        → IsNext (next.Refer needed left) i.call i.below (streams_of old.parts.items) y
        → Keeps (s b) i.past all new → HoldsAs (s b) i.past.values new needed.value.name (left - r.value.spare) v → IsSeenAs y v → way.spare ≤ old.spare
        → way.spare ≤ r.value.spare
        → IsFollowed (s b) i first new way.spare k (streams_of old.parts.items) es
    by_event (Asked q u) v f n kept holds seen low inner = absurd n
    by_event (Entered c d) v f n kept holds seen low inner = absurd n
    by_event (Held j xs) v f n kept holds seen low inner = absurd n
    by_event (Saw Position d p u) v f n kept holds seen low inner = absurd n
    by_event (Saw Size d p u) v f n kept holds seen low inner = absurd n
    by_event (Saw Rule d p u) v f n kept holds seen low inner = absurd n
    by_event (Saw (Global name) d p u) (given.Stream t) f n kept holds seen low inner = absurd seen
    by_event (Saw (Global name) d p u) (given.Refused why t) f n kept holds seen low inner = absurd seen
    by_event (Saw (Global name) d p u) given.UnderWay f n kept holds seen low inner = absurd seen
    by_event (Saw (Global name) d p u) (given.Value v) f n kept holds seen low inner =
        let E : Supplied NodeRef → Type 0 = λ y. IsFollowed (s b) i first all old.spare k (streams_of old.parts.items) (Saw (Global name) d p y ∷ es) in
        let G : Expanded → Type 0 = λ y. GivesAlways (s b) i.past.values new y (left - r.value.spare) (value_of v) in
        followed_referred (s b) i first all new old.spare way.spare r.value.spare k (streams_of old.parts.items) name d left p (value_of v) es
        (subst E (sym seen) f) kept n.2 (subst G n.0 holds) low inner

-- it is refused, or has another value
lost_referred : (s : Setting NodeRef) (past : Past NodeRef) (all : List (Entry NodeRef)) (old way : Way) (e : Event NodeRef)
    (needed : Box Needed Allocator) (left : ℕ) (came : Result (Box Referred Allocator) Memory) (l : Lost)
    → IfOk came (λ r. Settles s past all needed.value.name left (place_of needed.value.place) r.value)
    → TakesReference (gone.Not l) came e needed.value left old way → IsLost s past l
lost_referred s past all old way e needed left (Err m) l settles takes = absurd takes
lost_referred s past all old way e needed left (Ok r) l settles takes = by_lost l takes settles.gives
  where
    by_lost : (y : Lost) → IsLostAs y r.value e needed.value left
        → Gives r.value.entered (place_of needed.value.place) (referred s (meaning s left) past needed.value.name 0 (place_of needed.value.place))
        → IsLost s past y
    by_lost lost.Nothing h gives = tt
    by_lost (lost.Reference y) h gives =
        let N : Needed → Type 0 = λ m. Gives r.value.entered (place_of m.place) (referred s (meaning s left) past m.name 0 (place_of m.place)) in
        let L : ℕ → Type 0 = λ n. Gives r.value.entered (place_of y.value.needed.value.place) (referred s (meaning s n) past y.value.needed.value.name 0 (place_of y.value.needed.value.place)) in
        let R : Referred → Type 0 = λ q. Gives q.entered (place_of y.value.needed.value.place) (referred s (meaning s y.value.levels) past y.value.needed.value.name 0 (place_of y.value.needed.value.place)) in
        let F : Referred → Type 0 = λ q. refuses q.entered ≡ true in
        (subst R (sym h.2) (subst L (sym h.1) (subst N (sym h.0) gives)), subst F (sym h.2) h.3)

-- ---- One event further

pub gone_holds : (s : Setting NodeRef) (i : Instantiation NodeRef) (all : List (Entry NodeRef)) (way : Way) (e : Event NodeRef) (x : Next)
    → IsNext x i.call i.below (streams_of way.parts.items) e → x ≡ next.Holds → IsGone gone.On s i all all way way e
gone_holds s i all way e x n is first k es h = along_held s i first all way.spare k (streams_of way.parts.items) e es x h n is

pub gone_entered : (s : Setting NodeRef) (i : Instantiation NodeRef) (all new : List (Entry NodeRef)) (old way : Way) (e : Event NodeRef) (x : Next)
    (inner : Rc CodeCall Allocator) (call : CodeCall) (left : ℕ) (came : Result (Box Came Allocator) Memory) (ended : Gone)
    → call ≡ inner.value → IsNext x i.call i.below (streams_of old.parts.items) e → x ≡ next.Enter inner left
    → OnOk came (Keeps s i.past all new) → IfOk came (λ o. Lasts s i.past (left - o.value.spare) new (call_of call) (outcome_of o.value))
    → IfOk came (λ o. outcome_of o.value ≡ meaning s left i.past 0 (call_of call))
    → Takes ended came old way → IsGone ended s i all new old way e
gone_entered s i all new old way e x inner call left came ended same n is keeps lasts means takes = by_gone ended takes
  where
    L : CodeCall → Type 0
    L c = IfOk came (λ o. Lasts s i.past (left - o.value.spare) new (call_of c) (outcome_of o.value))

    M : CodeCall → Type 0
    M c = IfOk came (λ o. outcome_of o.value ≡ meaning s left i.past 0 (call_of c))

    not_lost : (r : Result (Box Came Allocator) Memory) (l : Lost) → Takes (gone.Not l) r old way → IsLost s i.past l
    not_lost (Ok o) l t = absurd t
    not_lost (Err m) l t = absurd t

    by_gone : (y : Gone) → Takes y came old way → IsGone y s i all new old way e
    by_gone gone.On t = λ first k es h. along_entered (λ a. record { ask = a; same = s.same; root = s.root; globals = s.globals }) i first all new k old way e es x inner left came gone.On refl h n is keeps (subst L same lasts) t refl
    by_gone (gone.Not l) t = not_lost came l t
    by_gone (gone.Refused last) t = λ first k es h. along_stopped s i first all k old way e es x inner left came last h n is (subst M same means) t

pub gone_referred : (s : Setting NodeRef) (i : Instantiation NodeRef) (all new : List (Entry NodeRef)) (old way : Way) (e : Event NodeRef) (x : Next)
    (needed : Box Needed Allocator) (reference : Needed) (left : ℕ) (came : Result (Box Referred Allocator) Memory) (ended : Gone)
    → reference ≡ needed.value → IsNext x i.call i.below (streams_of old.parts.items) e → x ≡ next.Refer needed left
    → OnOk came (Keeps s i.past all new) → IfOk came (λ r. Settles s i.past new reference.name left (place_of reference.place) r.value)
    → TakesReference ended came e needed.value left old way → IsGone ended s i all new old way e
gone_referred s i all new old way e x needed reference left came ended same n is keeps settles takes = by_gone ended takes
  where
    S : Needed → Type 0
    S m = IfOk came (λ r. Settles s i.past new m.name left (place_of m.place) r.value)

    not_refused : (r : Result (Box Referred Allocator) Memory) (last : Box Came Allocator) → TakesReference (gone.Refused last) r e needed.value left old way
        → IsGone (gone.Refused last) s i all new old way e
    not_refused (Ok o) last t = absurd t
    not_refused (Err m) last t = absurd t

    by_gone : (y : Gone) → TakesReference y came e needed.value left old way → IsGone y s i all new old way e
    by_gone gone.On t = λ first k es h. along_referred (λ a. record { ask = a; same = s.same; root = s.root; globals = s.globals }) i first all new k old way e es x needed left came gone.On refl h n is keeps (subst S same settles) t refl
    by_gone (gone.Not l) t = lost_referred s i.past new old way e needed left came l (subst S same settles) t
    by_gone (gone.Refused last) t = not_refused came last t

-- no more levels are left than there were
pub left_entered : (x : Next) (inner : Rc CodeCall Allocator) (left : ℕ) (c : Call NodeRef) (below : ℕ) (ss : List Stream) (e : Event NodeRef)
    → IsNext x c below ss e → x ≡ next.Enter inner left → left ≤ below
left_entered x inner left c below ss e n is = let P : Next → Type 0 = λ y. IsNext y c below ss e in by_event e (subst P is n)
  where
    by_event : (y : Event NodeRef) → IsNext (next.Enter inner left) c below ss y → left ≤ below
    by_event (Asked q v) f = absurd f
    by_event (Saw Position d p v) f = absurd f
    by_event (Saw Size d p v) f = absurd f
    by_event (Saw Rule d p v) f = absurd f
    by_event (Saw (Global name) d p v) f = absurd f
    by_event (Held j xs) f = absurd f
    by_event (Entered k d) f = let is = f.1 in omega (arith, is)

pub left_referred : (x : Next) (needed : Box Needed Allocator) (left : ℕ) (c : Call NodeRef) (below : ℕ) (ss : List Stream) (e : Event NodeRef)
    → IsNext x c below ss e → x ≡ next.Refer needed left → left ≤ below
left_referred x needed left c below ss e n is = let P : Next → Type 0 = λ y. IsNext y c below ss e in by_event e (subst P is n)
  where
    by_event : (y : Event NodeRef) → IsNext (next.Refer needed left) c below ss y → left ≤ below
    by_event (Asked q v) f = absurd f
    by_event (Saw Position d p v) f = absurd f
    by_event (Saw Size d p v) f = absurd f
    by_event (Saw Rule d p v) f = absurd f
    by_event (Saw (Global name) d p v) f = let is = f.2 in omega (arith, is)
    by_event (Held j xs) f = absurd f
    by_event (Entered k d) f = absurd f

-- ---- In a world with the same truth

pub gone_on : (s : Ask → Setting NodeRef) {a b : Ask} (i : Instantiation NodeRef) (first all new : List (Entry NodeRef)) (old way : Way) (e : Event NodeRef)
    (k : Kept NodeRef) (es : List (Event NodeRef)) (x : Gone)
    → a ≡ b → IsGone x (s a) i all new old way e → x ≡ gone.On → IsFollowed (s b) i first all old.spare k (streams_of old.parts.items) (e ∷ es)
    → IsFollowed (s b) i first new way.spare k (streams_of way.parts.items) es
gone_on s {b = b} i first all new old way e k es x same g is h =
    let P : Ask → Type 0 = λ y. IsGone x (s y) i all new old way e in
    let Q : Gone → Type 0 = λ y. IsGone y (s b) i all new old way e in
    (subst Q is (subst P same g)) first k es h

pub gone_refused : (s : Ask → Setting NodeRef) {a b : Ask} (i : Instantiation NodeRef) (first all new : List (Entry NodeRef)) (old way : Way)
    (e : Event NodeRef) (k : Kept NodeRef) (es : List (Event NodeRef)) (x : Gone) (last : Box Came Allocator)
    → a ≡ b → IsGone x (s a) i all new old way e → x ≡ gone.Refused last
    → IsFollowed (s b) i first all old.spare k (streams_of old.parts.items) (e ∷ es)
    → EndsWith (s b) i k (streams_of way.parts.items) (outcome_of last.value).ending
gone_refused s {b = b} i first all new old way e k es x last same g is h =
    let P : Ask → Type 0 = λ y. IsGone x (s y) i all new old way e in
    let Q : Gone → Type 0 = λ y. IsGone y (s b) i all new old way e in
    (subst Q is (subst P same g)) first k es h

pub lost_on : (s : Ask → Setting NodeRef) {a b : Ask} (i : Instantiation NodeRef) (all new : List (Entry NodeRef)) (old way : Way) (e : Event NodeRef)
    (x : Gone) (l : Lost)
    → a ≡ b → IsGone x (s a) i all new old way e → x ≡ gone.Not l → IsLost (s b) i.past l
lost_on s {b = b} i all new old way e x l same g is =
    let P : Ask → Type 0 = λ y. IsGone x (s y) i all new old way e in
    let Q : Gone → Type 0 = λ y. IsGone y (s b) i all new old way e in
    subst Q is (subst P same g)

pub lost_there : (s : Ask → Setting NodeRef) {a b : Ask} (past : Past NodeRef) (l : Lost) → a ≡ b → IsLost (s b) past l → IsLost (s a) past l
lost_there s past l same h = let P : Ask → Type 0 = λ x. IsLost (s x) past l in subst P (sym same) h

pub keeps_there : (s : Ask → Setting NodeRef) {a b : Ask} (past : Past NodeRef) (first all new : List (Entry NodeRef)) → a ≡ b → Keeps (s b) past first all
    → Keeps (s a) past all new → Keeps (s b) past first new
keeps_there s past first all new same h k = let P : Ask → Type 0 = λ x. Keeps (s x) past all new in keeps_on h (subst P same k)

pub served_there : (s : Ask → Setting NodeRef) {a b : Ask} (past : Past NodeRef) (v : Served) (levels : ℕ) (all : List (Entry NodeRef)) (c : Call NodeRef)
    → a ≡ b → IsServed v (s a) past levels all c → IsServed v (s b) past levels all c
served_there s past v levels all c same h = let P : Ask → Type 0 = λ x. IsServed v (s x) past levels all c in subst P same h

-- what is served, and what is not
pub served_as : (s : Setting NodeRef) (past : Past NodeRef) (v : Served) (levels room : ℕ) (all : List (Entry NodeRef)) (c : Call NodeRef)
    (o : Box Came Allocator)
    → IsServed v s past levels all c → v ≡ served.As o → levels ≡ room → IsServed (served.As o) s past room all c
served_as s past v levels room all c o h is same =
    let P : Served → Type 0 = λ x. IsServed x s past levels all c in
    let Q : ℕ → Type 0 = λ n. IsServed (served.As o) s past n all c in
    subst Q same (subst P is h)

pub served_not : (s : Setting NodeRef) (past : Past NodeRef) (v : Served) (levels : ℕ) (all : List (Entry NodeRef)) (c : Call NodeRef) (l : Lost)
    → IsServed v s past levels all c → v ≡ served.Not l → IsLost s past l
served_not s past v levels all c l h is = let P : Served → Type 0 = λ x. IsServed x s past levels all c in subst P is h

-- ---- At the end

pub along_even : (s : Setting NodeRef) (i : Instantiation NodeRef) (first all : List (Entry NodeRef)) (spare : ℕ) (k : Kept NodeRef) (ss : List Stream)
    (es : List (Event NodeRef))
    → IsFollowed s i first all spare k ss es → es ≡ [] → holes k.content ≡ length ss
along_even s i first all spare k ss es h none =
    let F : List (Event NodeRef) → Type 0 = λ ys. IsFollowed s i first all spare k ss ys in
    let even = (subst F none h).even in
    omega (arith, even)

pub along_ended : (s : Setting NodeRef) (i : Instantiation NodeRef) (first all : List (Entry NodeRef)) (spare : ℕ) (k : Kept NodeRef) (ss : List Stream)
    (es : List (Event NodeRef)) (o : Box Came Allocator)
    → IsFollowed s i first all spare k ss es → es ≡ [] → IsTrue s.same k → IsOf i.call k → k.height ≤ i.below
    → o.value.spare ≤ spare → o.value.spare ≤ i.below - k.height → outcome_of o.value ≡ filled_with k ss
    → IsServed (served.As o) s i.past (suc i.below) all i.call
along_ended s i first all spare k ss es o h none lasting of high low least is =
    let F : List (Event NodeRef) → Type 0 = λ ys. IsFollowed s i first all spare k ss ys in
    let f = subst F none h in
    (is ∙ sym (followed_means s i first all spare k ss f lasting of high), followed_lasts s i first all spare o.value.spare k ss (outcome_of o.value) f lasting of high low least is)

-- with what was entered last
pub along_short : (s : Setting NodeRef) (i : Instantiation NodeRef) (all : List (Entry NodeRef)) (k : Kept NodeRef) (ss : List Stream) (e : Ending NodeRef)
    (o : Box Came Allocator)
    → EndsWith s i k ss e → IsTrue s.same k → IsOf i.call k → k.height ≤ i.below → outcome_of o.value ≡ cut_with k ss e
    → IsServed (served.As o) s i.past (suc i.below) all i.call
along_short s i all k ss e o h lasting of high is =
    let G : Outcome NodeRef → Type 0 = λ x. GoesOn x.ending in
    (is ∙ sym (h.means lasting of high), record { so = λ on. absurd (no_end e h.stops (subst G is on)) })
