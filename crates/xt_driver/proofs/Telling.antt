-- What is counted along a record.
use Rattle.std.proofs.Common.{◌≡◌, ℕ, zero, suc, ◌-◌, List, [], ◌∷◌, ◌++◌, length, drop, true, false, ◌&&◌, nat_eq, Option, Some, None, Result, Ok}
use Rattle.std.proofs.Common.{Err, refl, sym, ap, subst, ◌∙◌, arith, append_assoc}
use Rattle.std.specs.Prelude.{Box, IfOk, OnOk, bytes_eq}
use Rattle.std.proofs.lemmas.List.{append-nil, length-append}
use Rattle.std.proofs.lemmas.Bool.Decides.{nat_tests}
use Rattle.std.proofs.lemmas.Slice.Eq.{bytes_eq-Decides}
use Rattle.std.specs.declared.alloc.Global.{Global as Allocator}
use Rattle.spec_document.specs.Name.{Expanded, same_name}
use Rattle.spec_stylesheet.specs.Place.{Place}
use Rattle.spec_meaning.specs.Stream.{Stream}
use Rattle.spec_meaning.specs.Question.{Question, Answer}
use Rattle.spec_meaning.specs.Program.{Position, Size, Rule, Global, Valued}
use Rattle.spec_meaning.specs.Program as program
use Rattle.spec_run.specs.Plan.{Refused, Call}
use Rattle.spec_run.specs.Direct.{Supplied, Known, Failed, Ending, Finished, Gave, Halted, Outcome}
use Rattle.spec_run.specs.Going.{Event, Asked, Saw, Entered, Held}
use Rattle.spec_run.specs.Hold.{GoesOn, Hold, came}
use Rattle.spec_run.specs.Trail.{Kept}
use Rattle.spec_run.specs.Meaning.{Setting, referred, meaning, settled, needs_itself}
use Rattle.spec_run.specs.World.{same_element, same_module}
use Rattle.spec_run.proofs.More.{meaning_at}
use Rattle.spec_reuse.specs.Among.{IsIn}
use Rattle.spec_reuse.specs.Instantiation.{Instantiation, given_to, meant_below, own_of, for_reference, entered, instantiations}
use Rattle.spec_reuse.specs.Serving.{Fits, Serves}
use Rattle.spec_reuse.specs.Ledger.{nested_along, nested_in, AreOfRun, Enters, EntersFront, IsAlong, IsRead}
use Rattle.spec_reuse.proofs.Counting.{nested_append, nested_entered, nested_referred, front_of_run, front_then_front}
use Rattle.spec_reuse.proofs.Ends.{trail_known, known_here, known_behind, AllKnown}
use Rattle.spec_reuse.proofs.Entering.{entered_at}
use Rattle.spec_reuse.proofs.Fronts.{front_next, whole_done}
use Rattle.spec_reuse.proofs.Steps.{sets_out, event_holds, call_goes_on, reference_holds, all_holds, call_refused, event_differs, reference_differs}
use Rattle.spec_reuse.proofs.Steps.{reference_refused}
use Rattle.spec_reuse.proofs.Within.{in_right, nested_of_run, reference_left}
use Rattle.spec_node.specs.declared.node_ref.NodeRef.{NodeRef}
use Rattle.xt_syntax.specs.PartView.{place_of}
use Rattle.xt_tree.specs.ValueView.{value_of}
use Rattle.xt_tree.specs.StreamView.{streams_of}
use Rattle.xt_engine.specs.View.{call_of, refused_of}
use Rattle.xt_engine.specs.declared.call.Call.{Call as CodeCall}
use Rattle.xt_engine.specs.declared.turn.Entered.{Entered as Given}
use Rattle.xt_engine.specs.declared.turn.Entered.TheVariants as given
use Rattle.xt_record.specs.View.{AreWhole, AsksHold}
use Rattle.xt_record.specs.declared.reuse.Reuse.{Reuse}
use Rattle.xt_text.specs.declared.memory.Memory.{Memory}
use Rattle.xt_driver.specs.declared.follow.Gone.{Gone}
use Rattle.xt_driver.specs.declared.follow.Gone.TheVariants as gone
use Rattle.std.specs.declared.rc.Rc.{Rc}
use Rattle.xt_driver.specs.declared.follow.Next.{Next}
use Rattle.xt_driver.specs.declared.follow.Next.TheVariants as next
use Rattle.xt_driver.specs.declared.way.Way.{Way}
use Rattle.xt_driver.specs.declared.level.Needed.{Needed}
use Rattle.xt_driver.specs.declared.lost.Lost.TheVariants as lost
use Rattle.xt_driver.specs.declared.lost.LostReference.{LostReference}
use Rattle.xt_driver.specs.declared.memo.Referred.{Referred}
use Rattle.xt_driver.specs.declared.came.Outcome.{Outcome as Came}
use Rattle.xt_driver.specs.View.{outcome_of, Gives, GivesSo}
use Rattle.xt_driver.specs.Along.{halts, refuses, IsNext, IsSeenAs, Takes, TakesSo, TakesReference, TakesReferenceSo}
use Rattle.xt_driver.specs.Lost.{is_to}
use Rattle.xt_driver.specs.Counted.{Hand, records_of, KeepsAll, IsReady, Counted, CountedAlong, CountedLost, CountsOver, CountsOn, CountsLost, CountsGone}
use Rattle.xt_driver.specs.Counted.{IsCounted, IsIdle, known_by}
use Rattle.xt_driver.proofs.NoHoles.{meaning_whole}
use Rattle.xt_driver.proofs.Less.{referred_at}
use Rattle.xt_driver.proofs.Serving.{no_end}
use Rattle.xt_driver.proofs.Completing.{keeps_none, keeps_of, keeps_both}
use Rattle.xt_driver.proofs.Tallying.{more_counted}

-- ---- Streams

came_more : (nested : ℕ → Call NodeRef → Outcome NodeRef) (es more : List (Event NodeRef)) → came nested (es ++ more) ≡ came nested es ++ came nested more
came_more nested [] more = refl
came_more nested (Asked question answer ∷ es) more = came_more nested es more
came_more nested (Saw wanted depth place supplied ∷ es) more = came_more nested es more
came_more nested (Entered call depth ∷ es) more = ap (λ ss. (nested depth call).content ∷ ss) (came_more nested es more)
came_more nested (Held first contents ∷ es) more = came_more nested es more

came_whole : (s : Setting NodeRef) (i : Instantiation NodeRef) (es : List (Event NodeRef)) → AreWhole (came (meant_below s i) es)
came_whole s i [] = tt
came_whole s i (Asked question answer ∷ es) = came_whole s i es
came_whole s i (Saw wanted depth place supplied ∷ es) = came_whole s i es
came_whole s i (Entered call depth ∷ es) = (meaning_whole s i.below i.past depth (settled i.call call), came_whole s i es)
came_whole s i (Held first contents ∷ es) = came_whole s i es

whole_from : (n : ℕ) (ss : List Stream) → AreWhole ss → AreWhole (drop n ss)
whole_from zero ss h = h
whole_from (suc n) [] h = tt
whole_from (suc n) (x ∷ ss) h = whole_from n ss h.1

goes_on : (e : Ending NodeRef) → halts e ≡ false → GoesOn e
goes_on Finished h = tt
goes_on (Gave v) h = tt
goes_on (Halted why) h = cc

-- ---- What is of the run

module _ (s : Setting NodeRef) (i : Instantiation NodeRef) (k : Kept NodeRef) (done rest : List (Event NodeRef)) where
  entered_of_run : (call : Call NodeRef) (depth : ℕ) → IsIn i (instantiations s) → Fits s i k → k.trace ≡ done ++ Entered call depth ∷ rest
      → Hold s.ask (given_to s i) (meant_below s i) [] done → AreOfRun s (entered s i.below i.past depth (settled i.call call))
  entered_of_run call depth h f parts holds j m =
      let e = Entered call depth in
      let goes = front_next s i k done e rest f parts holds in
      let own = goes.is ∙ sym (append_assoc done (e ∷ []) goes.more) in
      let P : List (Instantiation NodeRef) → Type 0 = λ is. IsIn j is in
      front_of_run s i (done ++ e ∷ []) goes.more h own j (subst P (sym (nested_entered s i done call depth)) (in_right j (nested_along s i done) _ m))

  referred_of_run : (name : Expanded) (depth : ℕ) (place : Place) (x : Supplied NodeRef) → IsIn i (instantiations s) → Fits s i k
      → k.trace ≡ done ++ Saw (Global name) depth place x ∷ rest → Hold s.ask (given_to s i) (meant_below s i) [] done
      → AreOfRun s (for_reference s (entered s i.below) i.past name depth place)
  referred_of_run name depth place x h f parts holds j m =
      let e = Saw (Global name) depth place x in
      let now : Event NodeRef = Saw (Global name) depth place (given_to s i (Global name) depth place) in
      let goes = front_next s i k done e rest f parts holds in
      let own = goes.is ∙ sym (append_assoc done (now ∷ []) goes.more) in
      let P : List (Instantiation NodeRef) → Type 0 = λ is. IsIn j is in
      front_of_run s i (done ++ now ∷ []) goes.more h own j
      (subst P (sym (nested_referred s i done name depth place (given_to s i (Global name) depth place))) (in_right j (nested_along s i done) _ m))

-- ---- Set out

pub along_begun : (s : Setting NodeRef) (i : Instantiation NodeRef) (k : Kept NodeRef) (ss : List Stream) (a : Hand) → IsIn i (instantiations s)
    → Fits s i k → AsksHold s.ask k.trace → ss ≡ [] → IsReady s i.past.values a → CountedAlong s i k [] k.trace ss a a
along_begun s i k ss a h f asks none ready = record {
  list = [];
  along = sets_out s i k (records_of a.reuse) h f;
  came_so = none;
  asks = asks;
  ran = λ low. omega (arith, low);
  stands = λ at r m. m;
  more = λ l m. m;
  only = λ m. m;
  keeps = keeps_none s a.reuse;
  ready = ready;
}

-- ---- What holds, and what does not

-- with one event more that enters nothing
keeps_still : (s : Setting NodeRef) (i : Instantiation NodeRef) (done : List (Event NodeRef)) (e : Event NodeRef) (reuse : Reuse)
    → nested_along s i (e ∷ []) ≡ [] → KeepsAll s (nested_along s i done) reuse → KeepsAll s (nested_along s i (done ++ e ∷ [])) reuse
keeps_still s i done e reuse none h =
    keeps_of s (nested_along s i done) (nested_along s i (done ++ e ∷ [])) reuse
    (sym (nested_append s i done (e ∷ []) ∙ ap (λ is. nested_along s i done ++ is) none ∙ append-nil (nested_along s i done))) h

-- with one event more that is no call
still : (s : Setting NodeRef) (i : Instantiation NodeRef) (done : List (Event NodeRef)) (e : Event NodeRef) (ss : List Stream)
    → came (meant_below s i) (e ∷ []) ≡ [] → ss ≡ came (meant_below s i) done → ss ≡ came (meant_below s i) (done ++ e ∷ [])
still s i done e ss none is =
    is ∙ sym (append-nil (came (meant_below s i) done)) ∙ ap (λ us. came (meant_below s i) done ++ us) (sym none)
    ∙ sym (came_more (meant_below s i) done (e ∷ []))

tells_held : (s : Setting NodeRef) (i : Instantiation NodeRef) (k : Kept NodeRef) (done rest : List (Event NodeRef)) (ss : List Stream) (a b : Hand)
    (e : Event NodeRef) → IsNext next.Holds i.call i.below ss e → CountedAlong s i k done (e ∷ rest) ss a b
    → CountedAlong s i k (done ++ e ∷ []) rest ss a b
tells_held s i k done rest ss a b (Asked question answer) n x = record {
  list = x.list;
  along = event_holds s i k done rest (Asked question answer) _ _ x.list x.along tt (x.asks.0, tt);
  came_so = still s i done (Asked question answer) ss refl x.came_so;
  asks = x.asks.1;
  ran = x.ran;
  stands = x.stands;
  more = x.more;
  only = x.only;
  keeps = keeps_still s i done (Asked question answer) b.reuse refl x.keeps;
  ready = x.ready;
}
tells_held s i k done rest ss a b (Saw Position d p v) n x = record {
  list = x.list;
  along = event_holds s i k done rest (Saw Position d p v) _ _ x.list x.along tt (n, tt);
  came_so = still s i done (Saw Position d p v) ss refl x.came_so;
  asks = x.asks;
  ran = x.ran;
  stands = x.stands;
  more = x.more;
  only = x.only;
  keeps = keeps_still s i done (Saw Position d p v) b.reuse refl x.keeps;
  ready = x.ready;
}
tells_held s i k done rest ss a b (Saw Size d p v) n x = record {
  list = x.list;
  along = event_holds s i k done rest (Saw Size d p v) _ _ x.list x.along tt (n, tt);
  came_so = still s i done (Saw Size d p v) ss refl x.came_so;
  asks = x.asks;
  ran = x.ran;
  stands = x.stands;
  more = x.more;
  only = x.only;
  keeps = keeps_still s i done (Saw Size d p v) b.reuse refl x.keeps;
  ready = x.ready;
}
tells_held s i k done rest ss a b (Saw Rule d p v) n x = record {
  list = x.list;
  along = event_holds s i k done rest (Saw Rule d p v) _ _ x.list x.along tt (n, tt);
  came_so = still s i done (Saw Rule d p v) ss refl x.came_so;
  asks = x.asks;
  ran = x.ran;
  stands = x.stands;
  more = x.more;
  only = x.only;
  keeps = keeps_still s i done (Saw Rule d p v) b.reuse refl x.keeps;
  ready = x.ready;
}
tells_held s i k done rest ss a b (Saw (Global name) d p v) n x = absurd n
tells_held s i k done rest ss a b (Entered call d) n x = absurd n
tells_held s i k done rest ss a b (Held first contents) n x = record {
  list = x.list;
  along = event_holds s i k done rest (Held first contents) _ _ x.list x.along tt (sym (ap (drop first) x.came_so) ∙ n, tt);
  came_so = still s i done (Held first contents) ss refl x.came_so;
  asks = x.asks;
  ran = x.ran;
  stands = x.stands;
  more = x.more;
  only = x.only;
  keeps = keeps_still s i done (Held first contents) b.reuse refl x.keeps;
  ready = x.ready;
}

pub counts_held : (s : Setting NodeRef) (i : Instantiation NodeRef) (e : Event NodeRef) (ss : List Stream) (b : Hand) (x : Next)
    → IsNext x i.call i.below ss e → x ≡ next.Holds → CountsOn gone.On s i e ss ss b b
counts_held s i e ss b x n is first k done rest h =
    let P : Next → Type 0 = λ y. IsNext y i.call i.below ss e in tells_held s i k done rest ss first b e (subst P is n) h

differs : (s : Setting NodeRef) (i : Instantiation NodeRef) (k : Kept NodeRef) (done rest : List (Event NodeRef)) (ss : List Stream) (a b : Hand)
    (e : Event NodeRef) → IsRead e
    → ¬ (Hold s.ask (given_to s i) (meant_below s i) (came (meant_below s i) done) (e ∷ [])) → CountedAlong s i k done (e ∷ rest) ss a b
    → CountsLost s i k lost.Nothing a b
differs s i k done rest ss a b e read never x =
    let h = event_differs s i k done rest e (records_of a.reuse) (records_of b.reuse) x.list x.along read never in
    (record { list = x.list; enters = h.0; ran = x.ran; stands = x.stands; more = x.more; only = x.only; ready = x.ready }, h.1)

tells_other : (s : Setting NodeRef) (i : Instantiation NodeRef) (k : Kept NodeRef) (done rest : List (Event NodeRef)) (ss : List Stream) (a b : Hand)
    (e : Event NodeRef) → IsNext next.Differs i.call i.below ss e → CountedAlong s i k done (e ∷ rest) ss a b
    → CountsLost s i k lost.Nothing a b
tells_other s i k done rest ss a b (Asked question answer) n x = absurd (n tt)
tells_other s i k done rest ss a b (Saw Position d p v) n x = differs s i k done rest ss a b (Saw Position d p v) tt (λ h. n h.0) x
tells_other s i k done rest ss a b (Saw Size d p v) n x = differs s i k done rest ss a b (Saw Size d p v) tt (λ h. n h.0) x
tells_other s i k done rest ss a b (Saw Rule d p v) n x = differs s i k done rest ss a b (Saw Rule d p v) tt (λ h. n h.0) x
tells_other s i k done rest ss a b (Saw (Global name) d p v) n x = absurd n
tells_other s i k done rest ss a b (Entered call d) n x = absurd n
tells_other s i k done rest ss a b (Held first contents) n x =
    let W : List Stream → Type 0 = λ us. AreWhole (drop first us) in
    let whole = subst W (sym x.came_so) (whole_from first (came (meant_below s i) done) (came_whole s i done)) in
    differs s i k done rest ss a b (Held first contents) tt (λ h. n whole (ap (drop first) x.came_so ∙ h.0)) x

pub counts_other : (s : Setting NodeRef) (i : Instantiation NodeRef) (e : Event NodeRef) (ss : List Stream) (b : Hand) (x : Next)
    → IsNext x i.call i.below ss e → x ≡ next.Differs → CountsOn (gone.Not lost.Nothing) s i e ss ss b b
counts_other s i e ss b x n is first k done rest h =
    let P : Next → Type 0 = λ y. IsNext y i.call i.below ss e in tells_other s i k done rest ss first b e (subst P is n) h

-- ---- What is entered

-- it goes on
tells_entered : (s : Setting NodeRef) (i : Instantiation NodeRef) (k : Kept NodeRef) (done rest : List (Event NodeRef)) (ss us : List Stream)
    (a b c : Hand) (call : Call NodeRef) (depth : ℕ) (o : Outcome NodeRef) → o ≡ meant_below s i depth call → halts o.ending ≡ false
    → us ≡ ss ++ o.content ∷ [] → CountsOver s i.past.values (entered s i.below i.past depth (settled i.call call)) b c
    → CountedAlong s i k done (Entered call depth ∷ rest) ss a b → CountedAlong s i k (done ++ Entered call depth ∷ []) rest us a c
tells_entered s i k done rest ss us a b c call depth o is on more over x =
    let y = over (entered_of_run s i k done rest call depth x.along.of_run x.along.fits x.along.parts x.along.holds) x.ready in
    let G : Outcome NodeRef → Type 0 = λ m. GoesOn m.ending in
    record {
      list = x.list ++ y.list;
      along = call_goes_on s i k done rest call depth (records_of a.reuse) (records_of b.reuse) (records_of c.reuse) x.list y.list x.along
          (subst G is (goes_on o.ending on)) y.enters;
      came_so = more ∙ ap (λ vs. vs ++ o.content ∷ []) x.came_so
          ∙ ap (λ (m : Outcome NodeRef). came (meant_below s i) done ++ m.content ∷ []) is ∙ sym (came_more (meant_below s i) done (Entered call depth ∷ []));
      asks = x.asks;
      ran = more_counted a b c (length x.list) (length y.list) (length (x.list ++ y.list)) (length-append x.list y.list) x.ran y.ran;
      stands = λ at r m. y.stands at r (x.stands at r m);
      more = λ l m. y.more l (x.more l m);
      only = λ m. y.only (x.only m);
      keeps = keeps_of s (nested_along s i done ++ entered s i.below i.past depth (settled i.call call)) (nested_along s i (done ++ Entered call depth ∷ []))
          c.reuse (sym (nested_entered s i done call depth))
          (keeps_both s (nested_along s i done) (entered s i.below i.past depth (settled i.call call)) b.reuse c.reuse y.more x.keeps y.keeps);
      ready = y.ready;
    }

-- it is refused
tells_refused : (s : Setting NodeRef) (i : Instantiation NodeRef) (k : Kept NodeRef) (done rest : List (Event NodeRef)) (ss : List Stream)
    (a b c : Hand) (call : Call NodeRef) (depth : ℕ) (o : Outcome NodeRef) → o ≡ meant_below s i depth call → halts o.ending ≡ true
    → CountsOver s i.past.values (entered s i.below i.past depth (settled i.call call)) b c
    → CountedAlong s i k done (Entered call depth ∷ rest) ss a b → Counted s i.past.values (nested_in s i) a c × Serves s i k
tells_refused s i k done rest ss a b c call depth o is stops over x =
    let y = over (entered_of_run s i k done rest call depth x.along.of_run x.along.fits x.along.parts x.along.holds) x.ready in
    let G : Outcome NodeRef → Type 0 = λ m. GoesOn m.ending in
    let refused : ¬ (GoesOn (meant_below s i depth call).ending) = λ on. no_end o.ending stops (subst G (sym is) on) in
    let h = call_refused s i k done rest call depth (records_of a.reuse) (records_of b.reuse) (records_of c.reuse) x.list y.list x.along
    refused y.enters in
    let goes = front_next s i k done (Entered call depth) rest x.along.fits x.along.parts x.along.holds in
    let own = goes.is ∙ ap (λ es. done ++ Entered call depth ∷ es) (goes.last refused) in (
      record {
        list = x.list ++ y.list;
        enters = h.0;
        ran = more_counted a b c (length x.list) (length y.list) (length (x.list ++ y.list)) (length-append x.list y.list) x.ran y.ran;
        stands = λ at r m. y.stands at r (x.stands at r m);
        more = λ l m. y.more l (x.more l m);
        only = λ m. y.only (x.only m);
        keeps = keeps_of s (nested_along s i done ++ entered s i.below i.past depth (settled i.call call)) (nested_in s i) c.reuse
            (sym (ap (nested_along s i) own ∙ nested_entered s i done call depth))
            (keeps_both s (nested_along s i done) (entered s i.below i.past depth (settled i.call call)) b.reuse c.reuse y.more x.keeps y.keeps);
        ready = y.ready;
      },
      h.1,
    )

pub counts_entered : (s : Setting NodeRef) (i : Instantiation NodeRef) (e : Event NodeRef) (old way : Way) (b c : Hand) (x : Next) (inner : Rc CodeCall Allocator)
    (call : CodeCall) (left : ℕ) (came : Result (Box Came Allocator) Memory) (ended : Gone)
    → call ≡ inner.value → IsNext x i.call i.below (streams_of old.parts.items) e → x ≡ next.Enter inner left
    → OnOk came (CountsOver s i.past.values (entered s left i.past 0 (call_of call)) b c)
    → IfOk came (λ o. outcome_of o.value ≡ meaning s left i.past 0 (call_of call))
    → Takes ended came old way → CountsOn ended s i e (streams_of old.parts.items) (streams_of way.parts.items) b c
counts_entered s i e old way b c x inner call left (Err m) ended same n is over means takes first k done rest h = absurd takes
counts_entered s i e old way b c x inner call left (Ok o) ended same n is over means takes first k done rest h =
    let P : Next → Type 0 = λ y. IsNext y i.call i.below (streams_of old.parts.items) e in by_event e (subst P is n) h
  where
    by_gone : (y : Gone) (inside : Call NodeRef) (depth : ℕ) → TakesSo y o.value old way → outcome_of o.value ≡ meant_below s i depth inside
        → CountsOver s i.past.values (entered s i.below i.past depth (settled i.call inside)) b c
        → CountedAlong s i k done (Entered inside depth ∷ rest) (streams_of old.parts.items) first b
        → CountsGone y s i k done rest (Entered inside depth) (streams_of way.parts.items) first c
    by_gone gone.On inside depth t meant all z =
        tells_entered s i k done rest (streams_of old.parts.items) (streams_of way.parts.items) first b c inside depth (outcome_of o.value) meant t.on t.streams all z
    by_gone (gone.Not l) inside depth t meant all z = absurd t
    by_gone (gone.Refused last) inside depth t meant all z =
        tells_refused s i k done rest (streams_of old.parts.items) first b c inside depth (outcome_of o.value) meant t.1.stops all z

    by_event : (y : Event NodeRef) → IsNext (next.Enter inner left) i.call i.below (streams_of old.parts.items) y
        → CountedAlong s i k done (y ∷ rest) (streams_of old.parts.items) first b
        → CountsGone ended s i k done rest y (streams_of way.parts.items) first c
    by_event (Asked q v) m z = absurd m
    by_event (Saw Position d p v) m z = absurd m
    by_event (Saw Size d p v) m z = absurd m
    by_event (Saw Rule d p v) m z = absurd m
    by_event (Saw (Global name) d p v) m z = absurd m
    by_event (Held j xs) m z = absurd m
    by_event (Entered inside depth) m z =
        let at : call_of call ≡ settled i.call inside = ap call_of same ∙ m.0 in
        let low : left ≡ i.below - depth = m.1 in
        let E : List (Instantiation NodeRef) → Type 0 = λ is. CountsOver s i.past.values is b c in
        let all : entered s left i.past 0 (call_of call) ≡ entered s i.below i.past depth (settled i.call inside)
        = ap (λ n. entered s n i.past 0 (call_of call)) low ∙ ap (entered s (i.below - depth) i.past 0) at
        ∙ sym (entered_at s i.below i.past depth (settled i.call inside)) in
        let meant : outcome_of o.value ≡ meant_below s i depth inside
        = means ∙ ap (λ n. meaning s n i.past 0 (call_of call)) low ∙ ap (meaning s (i.below - depth) i.past 0) at
        ∙ sym (meaning_at s i.below i.past depth (settled i.call inside)) in
        by_gone ended inside depth takes meant (subst E all over) z

-- ---- Globals

bytes_itself : (a : List ℕ) → bytes_eq a a ≡ true
bytes_itself a = (bytes_eq-Decides a a).1 refl

pub name_itself : (a : Expanded) → same_name a a ≡ true
name_itself a = λ i. bytes_itself a.uri i && bytes_itself a.local i

module_itself : (m : Option (List ℕ)) → same_module m m ≡ true
module_itself None = refl
module_itself (Some n) = bytes_itself n

pub element_itself : (p : Place) → same_element p p ≡ true
element_itself p = λ i. module_itself p.module_name i && bytes_itself p.path i

pub number_itself : (n : ℕ) → nat_eq n n ≡ true
number_itself n = grind (arith, nat_tests)

-- the global that was lost is known
is_to_itself : (l : LostReference) (name : Expanded) (levels : ℕ) (place : Place) → l.levels ≡ levels → l.needed.value.name ≡ name
    → place_of l.needed.value.place ≡ place → is_to l name levels place ≡ true
is_to_itself l name levels place e f g =
    let n : nat_eq l.levels levels ≡ true = subst (λ (m : ℕ). nat_eq l.levels m ≡ true) e (number_itself l.levels) in
    let m : same_name l.needed.value.name name ≡ true = subst (λ (x : Expanded). same_name l.needed.value.name x ≡ true) f (name_itself l.needed.value.name) in
    let p : same_element (place_of l.needed.value.place) place ≡ true
    = subst (λ (x : Place). same_element (place_of l.needed.value.place) x ≡ true) g (element_itself (place_of l.needed.value.place)) in
    λ i. n i && m i && p i

-- what a record saw was given
pub kept_known : (s : Setting NodeRef) (i : Instantiation NodeRef) (k : Kept NodeRef) → Fits s i k → AllKnown k.trace
kept_known s i k f = trail_known f.lasting.trail

known_after : (front : List (Event NodeRef)) (name : Expanded) (d : ℕ) (p : Place) (x : Supplied NodeRef) (rest : List (Event NodeRef))
    → AllKnown (front ++ Saw (Global name) d p x ∷ rest) → (y : program.Given NodeRef) × (x ≡ Known y)
known_after [] name d p x rest a = known_here (Global name) d p x rest a
known_after (Asked q v ∷ es) name d p x rest a = known_after es name d p x rest a
known_after (Saw w c l z ∷ es) name d p x rest a =
    known_after es name d p x rest (known_behind w c l z (es ++ Saw (Global name) d p x ∷ rest) a)
known_after (Entered call c ∷ es) name d p x rest a = known_after es name d p x rest a
known_after (Held j xs ∷ es) name d p x rest a = known_after es name d p x rest a

module _ (s : Setting NodeRef) (i : Instantiation NodeRef) (k : Kept NodeRef) (done rest : List (Event NodeRef)) (ss us : List Stream)
    (a b c : Hand) (name : Expanded) (depth : ℕ) (place : Place) (x : Supplied NodeRef)
    (over : CountsOver s i.past.values (for_reference s (entered s i.below) i.past name depth place) b c)
    (z : CountedAlong s i k done (Saw (Global name) depth place x ∷ rest) ss a b) where
  there : Counted s i.past.values (for_reference s (entered s i.below) i.past name depth place) b c
  there = over (referred_of_run s i k done rest name depth place x z.along.of_run z.along.fits z.along.parts z.along.holds) z.ready

  in_all : IsCounted (length (z.list ++ there.list)) a c
  in_all = more_counted a b c (length z.list) (length there.list) (length (z.list ++ there.list)) (length-append z.list there.list) z.ran there.ran

  both_kept : KeepsAll s (nested_along s i done ++ for_reference s (entered s i.below) i.past name depth place) c.reuse
  both_kept =
      keeps_both s (nested_along s i done) (for_reference s (entered s i.below) i.past name depth place) b.reuse c.reuse there.more z.keeps there.keeps

  -- it has the value that was seen
  refers_on : given_to s i (Global name) depth place ≡ x → us ≡ ss
      → CountedAlong s i k (done ++ Saw (Global name) depth place x ∷ []) rest us a c
  refers_on same streams = record {
    list = z.list ++ there.list;
    along = reference_holds s i k done rest name depth place x (records_of a.reuse) (records_of b.reuse) (records_of c.reuse) z.list there.list z.along same
        there.enters;
    came_so = streams ∙ still s i done (Saw (Global name) depth place x) ss refl z.came_so;
    asks = z.asks;
    ran = in_all;
    stands = λ at r m. there.stands at r (z.stands at r m);
    more = λ l m. there.more l (z.more l m);
    only = λ m. there.only (z.only m);
    keeps = keeps_of s (nested_along s i done ++ for_reference s (entered s i.below) i.past name depth place)
        (nested_along s i (done ++ Saw (Global name) depth place x ∷ [])) c.reuse (sym (nested_referred s i done name depth place x)) both_kept;
    ready = there.ready;
  }

  -- it has another
  refers_other : (y : program.Given NodeRef) → given_to s i (Global name) depth place ≡ Known y → ¬ (Known y ≡ x) → CountsLost s i k lost.Nothing a c
  refers_other y same never =
      let h = reference_differs s i k done rest name depth place x y (records_of a.reuse) (records_of b.reuse) (records_of c.reuse) z.list there.list z.along
      same never there.enters in (
        record {
          list = z.list ++ there.list;
          enters = h.0;
          ran = in_all;
          stands = λ at r m. there.stands at r (z.stands at r m);
          more = λ l m. there.more l (z.more l m);
          only = λ m. there.only (z.only m);
          ready = there.ready;
        },
        h.1,
      )

  -- it needs itself
  refers_round : given_to s i (Global name) depth place ≡ needs_itself place → for_reference s (entered s i.below) i.past name depth place ≡ []
      → CountsLost s i k lost.Nothing a c
  refers_round same none =
      let E : List (Instantiation NodeRef) → Type 0 = λ is. Enters s (records_of b.reuse) there.list is (records_of c.reuse) in
      let seen = known_after done name depth place x rest (subst AllKnown z.along.parts (kept_known s i k z.along.fits)) in
      let never : ¬ (given_to s i (Global name) depth place ≡ x) = λ e. (let no : needs_itself place ≡ Known seen.0 = sym same ∙ e ∙ seen.1 in absurd (cc)) in
      let h = event_differs s i k done rest (Saw (Global name) depth place x) (records_of a.reuse) (records_of b.reuse) z.list z.along tt (λ e. never e.0) in
      let front : EntersFront s (records_of b.reuse) there.list (nested_in s i) (records_of c.reuse) = record {
        front = [];
        rest = nested_in s i;
        parts = refl;
        ended = λ j m. absurd m;
        enters = subst E none there.enters;
      } in (
        record {
          list = z.list ++ there.list;
          enters = front_then_front s (records_of a.reuse) (records_of b.reuse) (records_of c.reuse) z.list there.list (nested_in s i)
              (nested_of_run s i z.along.of_run) h.0 front;
          ran = in_all;
          stands = λ at r m. there.stands at r (z.stands at r m);
          more = λ l m. there.more l (z.more l m);
          only = λ m. there.only (z.only m);
          ready = there.ready;
        },
        h.1,
      )

  -- it is refused, and lost
  refers_lost : (why : Refused) (l : Box LostReference Allocator) → given_to s i (Global name) depth place ≡ Failed why
      → l.value.levels ≡ i.below - depth → l.value.needed.value.name ≡ name → place_of l.value.needed.value.place ≡ place
      → CountedLost s i (lost.Reference l) a c
  refers_lost why l same e f g =
      let h = reference_refused s i k done rest name depth place x why (records_of a.reuse) (records_of b.reuse) (records_of c.reuse) z.list there.list z.along
      same there.enters in
      let event = Saw (Global name) depth place x in
      let now : Event NodeRef = Saw (Global name) depth place (given_to s i (Global name) depth place) in
      let goes = front_next s i k done event rest z.along.fits z.along.parts z.along.holds in
      let own = goes.is ∙ ap (λ es. done ++ now ∷ es) (goes.last (why, same)) in
      record {
        counted = record {
          list = z.list ++ there.list;
          enters = h.0;
          ran = in_all;
          stands = λ at r m. there.stands at r (z.stands at r m);
          more = λ l m. there.more l (z.more l m);
          only = λ m. there.only (z.only m);
          keeps = keeps_of s (nested_along s i done ++ for_reference s (entered s i.below) i.past name depth place) (nested_in s i) c.reuse
              (sym (ap (nested_along s i) own ∙ nested_referred s i done name depth place (given_to s i (Global name) depth place))) both_kept;
          ready = there.ready;
        };
        none = h.1;
        ends = h.2 (known_by (lost.Reference l) i.below) (is_to_itself l.value name (i.below - depth) place e f g);
      }

pub counts_referred : (s : Setting NodeRef) (i : Instantiation NodeRef) (e : Event NodeRef) (old way : Way) (b c : Hand) (x : Next)
    (needed : Box Needed Allocator) (reference : Needed) (left : ℕ) (came : Result (Box Referred Allocator) Memory) (ended : Gone)
    → reference ≡ needed.value → IsNext x i.call i.below (streams_of old.parts.items) e → x ≡ next.Refer needed left
    → OnOk came (CountsOver s i.past.values (for_reference s (entered s left) i.past reference.name 0 (place_of reference.place)) b c)
    → IfOk came (λ r. IsIdle r.value.entered (for_reference s (entered s left) i.past reference.name 0 (place_of reference.place)))
    → IfOk came (λ r. Gives r.value.entered (place_of reference.place) (referred s (meaning s left) i.past reference.name 0 (place_of reference.place)))
    → TakesReference ended came e needed.value left old way → CountsOn ended s i e (streams_of old.parts.items) (streams_of way.parts.items) b c
counts_referred s i e old way b c x needed reference left (Err m) ended same n is over idle gives takes first k done rest h = absurd takes
counts_referred s i e old way b c x needed reference left (Ok r) ended same n is over idle gives takes first k done rest h =
    let P : Next → Type 0 = λ y. IsNext y i.call i.below (streams_of old.parts.items) e in by_event e (subst P is n) takes h
  where
    by_event : (y : Event NodeRef) → IsNext (next.Refer needed left) i.call i.below (streams_of old.parts.items) y
        → TakesReferenceSo ended r.value y needed.value left old way → CountedAlong s i k done (y ∷ rest) (streams_of old.parts.items) first b
        → CountsGone ended s i k done rest y (streams_of way.parts.items) first c
    by_event (Asked q v) m t z = absurd m
    by_event (Entered inside depth) m t z = absurd m
    by_event (Saw Position d p v) m t z = absurd m
    by_event (Saw Size d p v) m t z = absurd m
    by_event (Saw Rule d p v) m t z = absurd m
    by_event (Held j xs) m t z = absurd m
    by_event (Saw (Global name) d p v) m t z = by_gone ended t
      where
        named : reference.name ≡ name
        named = ap (λ (q : Needed). q.name) same ∙ m.0

        placed : place_of reference.place ≡ p
        placed = ap (λ (q : Needed). place_of q.place) same ∙ m.1

        list : for_reference s (entered s left) i.past reference.name 0 (place_of reference.place) ≡ for_reference s (entered s i.below) i.past name d p
        list =
            ap (λ q. for_reference s (entered s left) i.past q 0 (place_of reference.place)) named
            ∙ ap (for_reference s (entered s left) i.past name 0) placed
            ∙ ap (λ q. for_reference s (entered s q) i.past name 0 p) m.2
            ∙ sym (reference_left s i.below i.past name d p)

        there : CountsOver s i.past.values (for_reference s (entered s i.below) i.past name d p) b c
        there = let E : List (Instantiation NodeRef) → Type 0 = λ is. CountsOver s i.past.values is b c in subst E list over

        given_so : referred s (meaning s left) i.past reference.name 0 (place_of reference.place) ≡ given_to s i (Global name) d p
        given_so =
            ap (λ q. referred s (meaning s left) i.past q 0 (place_of reference.place)) named
            ∙ ap (referred s (meaning s left) i.past name 0) placed ∙ referred_at s i.below i.past name d left p m.2

        gives_so : GivesSo r.value.entered p (given_to s i (Global name) d p)
        gives_so =
            let G : Supplied NodeRef → Type 0 = λ q. GivesSo r.value.entered (place_of reference.place) q in
            let H : Place → Type 0 = λ q. GivesSo r.value.entered q (given_to s i (Global name) d p) in
            subst H placed (subst G given_so gives.so)

        idle_so : IsIdle r.value.entered (for_reference s (entered s i.below) i.past name d p)
        idle_so = let I : List (Instantiation NodeRef) → Type 0 = λ is. IsIdle r.value.entered is in subst I list idle

        on : (g : Given) → GivesSo g p (given_to s i (Global name) d p) → IsSeenAs (Saw (Global name) d p v) g
            → given_to s i (Global name) d p ≡ v
        on (given.Value w) f seen = f ∙ seen
        on (given.Stream w) f seen = absurd seen
        on (given.Refused why w) f seen = absurd seen
        on given.UnderWay f seen = absurd seen

        other : (g : Given) → GivesSo g p (given_to s i (Global name) d p) → IsIdle g (for_reference s (entered s i.below) i.past name d p)
            → refuses g ≡ false → (¬ (IsSeenAs (Saw (Global name) d p v) g)) → CountsLost s i k lost.Nothing first c
        other (given.Value w) f idle none never =
            refers_other s i k done rest (streams_of old.parts.items) (streams_of way.parts.items) first b c name d p v there z (Valued (value_of w)) f never
        other (given.Stream w) f idle none never = absurd f
        other (given.Refused why w) f idle none never = absurd (cc)
        other given.UnderWay f idle none never =
            refers_round s i k done rest (streams_of old.parts.items) (streams_of way.parts.items) first b c name d p v there z f idle

        refused : (g : Given) (l : Box LostReference Allocator) → GivesSo g p (given_to s i (Global name) d p) → refuses g ≡ true
            → l.value.needed.value ≡ needed.value → l.value.levels ≡ left → CountedLost s i (lost.Reference l) first c
        refused (given.Value w) l f is e low = absurd (cc)
        refused (given.Stream w) l f is e low = absurd f
        refused given.UnderWay l f is e low = absurd (cc)
        refused (given.Refused why w) l f is e low =
            refers_lost s i k done rest (streams_of old.parts.items) (streams_of way.parts.items) first b c name d p v there z (refused_of why) l f
            (low ∙ m.2) (ap (λ (q : Needed). q.name) e ∙ m.0) (ap (λ (q : Needed). place_of q.place) e ∙ m.1)

        by_gone : (y : Gone) → TakesReferenceSo y r.value (Saw (Global name) d p v) needed.value left old way
            → CountsGone y s i k done rest (Saw (Global name) d p v) (streams_of way.parts.items) first c
        by_gone gone.On t =
            refers_on s i k done rest (streams_of old.parts.items) (streams_of way.parts.items) first b c name d p v there z
            (on r.value.entered gives_so t.seen) (ap (λ ps. streams_of ps.items) t.parts)
        by_gone (gone.Not lost.Nothing) t = other r.value.entered gives_so idle_so t.0 t.1
        by_gone (gone.Not (lost.Reference l)) t = refused r.value.entered l gives_so t.3 t.0 t.1
        by_gone (gone.Refused o) t = absurd t

-- ---- To its end

pub along_whole : (s : Setting NodeRef) (i : Instantiation NodeRef) (k : Kept NodeRef) (done rest : List (Event NodeRef)) (ss : List Stream) (a b : Hand)
    → rest ≡ [] → CountedAlong s i k done rest ss a b → Counted s i.past.values (nested_in s i) a b × Serves s i k
along_whole s i k done rest ss a b none x =
    let A : List (Event NodeRef) → Type 0 = λ es. IsAlong s i k done es (records_of a.reuse) x.list (records_of b.reuse) in
    let along = subst A none x.along in
    let h = all_holds s i k done (records_of a.reuse) (records_of b.reuse) x.list along in
    let whole : k.trace ≡ done = along.parts ∙ append-nil done in
    let H : List (Event NodeRef) → Type 0 = λ es. Hold s.ask (given_to s i) (meant_below s i) [] es in
    let own : (own_of s i).going.trace ≡ done = whole_done s i k along.fits (subst H (sym whole) along.holds) ∙ whole in (
      record {
        list = x.list;
        enters = h.0;
        ran = x.ran;
        stands = x.stands;
        more = x.more;
        only = x.only;
        keeps = keeps_of s (nested_along s i done) (nested_in s i) b.reuse (sym (ap (nested_along s i) own)) x.keeps;
        ready = x.ready;
      },
      h.1,
    )

-- ---- In a world with the same truth

abbrev Ask : Type 0
Ask = Question NodeRef → Answer NodeRef

pub gone_as : (s : Ask → Setting NodeRef) {a b : Ask} (i : Instantiation NodeRef) (e : Event NodeRef) (ss us : List Stream) (m n : Hand) (x y : Gone)
    → a ≡ b → CountsOn x (s a) i e ss us m n → x ≡ y → CountsOn y (s b) i e ss us m n
gone_as s {b = b} i e ss us m n x y same h is =
    let P : Ask → Type 0 = λ t. CountsOn x (s t) i e ss us m n in
    let Q : Gone → Type 0 = λ z. CountsOn z (s b) i e ss us m n in
    subst Q is (subst P same h)

-- one turn along a record
pub along_to : (s : Setting NodeRef) (i : Instantiation NodeRef) (k : Kept NodeRef) (done rest es : List (Event NodeRef)) (ss : List Stream)
    (a b : Hand) → rest ≡ es → CountedAlong s i k done rest ss a b → CountedAlong s i k done es ss a b
along_to s i k done rest es ss a b same h = let P : List (Event NodeRef) → Type 0 = λ l. CountedAlong s i k done l ss a b in subst P same h

pub along_done : (s : Setting NodeRef) (i : Instantiation NodeRef) (k : Kept NodeRef) (done es rest : List (Event NodeRef)) (ss : List Stream)
    (a b : Hand) → es ≡ done → CountedAlong s i k done rest ss a b → CountedAlong s i k es rest ss a b
along_done s i k done es rest ss a b same h = let P : List (Event NodeRef) → Type 0 = λ l. CountedAlong s i k l rest ss a b in subst P (sym same) h

pub along_with : (s : Setting NodeRef) (i : Instantiation NodeRef) (k : Kept NodeRef) (done rest : List (Event NodeRef)) (old way : Way)
    (a b : Hand) → old ≡ way → CountedAlong s i k done rest (streams_of way.parts.items) a b
    → CountedAlong s i k done rest (streams_of old.parts.items) a b
along_with s i k done rest old way a b same h =
    let P : Way → Type 0 = λ w. CountedAlong s i k done rest (streams_of w.parts.items) a b in subst P (sym same) h
