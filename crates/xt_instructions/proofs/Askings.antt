-- Keys that are asked, one after another.
use Rattle.std.proofs.Common.{◌≡◌, ℕ, length, Vec, Global, refl, sym, ap, ◌∙◌, subst, arith}
use Rattle.spec_document.specs.Name.{Expanded}
use Rattle.spec_stylesheet.specs.Place.{Place}
use Rattle.spec_meaning.specs.Stream.{filled}
use Rattle.spec_meaning.specs.Question.{Question, Answer}
use Rattle.spec_run.specs.Plan.{Plan}
use Rattle.spec_run.specs.Going.{Going, closed}
use Rattle.spec_run.specs.Passes.{Passes, stays}
use Rattle.xt_syntax.specs.PartView.{place_of}
use Rattle.spec_node.specs.declared.node_ref.NodeRef.{NodeRef}
use Rattle.xt_engine.specs.declared.call.Refused.{Refused}
use Rattle.xt_engine.specs.View.{refused_of}
use Rattle.xt_engine.specs.Advances.{Stops, Misses}
use Rattle.xt_progress.specs.View.{going_of}
use Rattle.xt_frames.specs.declared.frame.Frame.{Frame}
use Rattle.xt_frames.specs.declared.frame.Frame.TheVariants as frames
use Rattle.xt_frames.specs.declared.frame.Sorting.{Sorting}
use Rattle.xt_frames.specs.declared.run.Run.{Run}
use Rattle.xt_frames.specs.declared.run.Came.{Came}
use Rattle.xt_frames.specs.declared.run.Came.TheVariants as came
use Rattle.xt_frames.specs.declared.run.Next.{Next}
use Rattle.xt_frames.specs.declared.run.Next.TheVariants.{Went, Want, Needs, Done, Gave, Halt}
use Rattle.xt_frames.specs.View.{left_frame}
use Rattle.xt_frames.specs.Left.{left_in, hand, StepsFrom, IsStill, Pushed, HasNeeds, NeedsSo}
use Rattle.xt_frames.proofs.Passed.{passes_then}
use Rattle.xt_frames.proofs.Lefts.{pushed, steps_at, passes_at, comes_after, moved, misses_moved, stops_after, stops_moved}
use Rattle.xt_frames.proofs.Performs.{fewer, left_still}
use Rattle.xt_instructions.specs.Asks.{Asks, AsksSo, place_at}

pub nothing_asked : {X : Type 0} (ask : Question NodeRef → Answer NodeRef) (r : Run) (s : Sorting) (number : ℕ) (x : X) → Asks ask r r s s number (came.Is x)
nothing_asked ask r s number x = record { so = λ after. stays; still = record { frames = refl; room = refl; supplies = refl } }

pub asks_in : {X : Type 0} {t u : Question NodeRef → Answer NodeRef} {old new : Run} {r s : Sorting} {number : ℕ} {result : Came X} → t ≡ u → Asks t old new r s number result → Asks u old new r s number result
asks_in {old = old} {new = new} {r = r} {s = s} {number = number} {result = result} e h = let P : (Question NodeRef → Answer NodeRef) → Type 0 = λ t. Asks t old new r s number result in subst P e h

still_then : {first now new : Run} → IsStill first now → IsStill now new → IsStill first new
still_then a b = record { frames = b.frames ∙ a.frames; room = b.room ∙ a.room; supplies = b.supplies ∙ a.supplies }

-- some keys, and then more
pub asks_then : {X Y : Type 0} {ask : Question NodeRef → Answer NodeRef} {old mid new : Run} {r s t : Sorting} {m n : ℕ} {x : X} {result : Came Y} → Asks ask old mid r s m (came.Is x) → Asks ask mid new s t n result → Asks ask old new r t n result
asks_then {Y = Y} {ask = ask} {old = old} {mid = mid} {new = new} {r = r} {s = s} {t = t} {n = n} {result = result} a b = record { so = λ after. go after result (b.so after); still = still_then a.still b.still }
  where
    go : (after : Plan NodeRef) (result : Came Y) → AsksSo ask (hand mid) mid.room (left_frame (frames.Sorting s) after) (left_frame (frames.Sorting t) after) t.here.depth (place_at t n) (going_of mid.going) (going_of new.going) result
        → AsksSo ask (hand old) old.room (left_frame (frames.Sorting r) after) (left_frame (frames.Sorting t) after) t.here.depth (place_at t n) (going_of old.going) (going_of new.going) result
    go after (came.Is y) h = passes_then (a.so after) (moved old mid a.still.room a.still.supplies h)
    go after (came.Halts why) h = stops_after (a.so after) (stops_moved old mid a.still.room a.still.supplies h)
    go after (came.Lacks name) h = (passes_then (a.so after) (moved old mid a.still.room a.still.supplies h.0), misses_moved old mid a.still.room a.still.supplies h.1)

-- the key of the same number
pub asks_at : {X : Type 0} {ask : Question NodeRef → Answer NodeRef} {old new : Run} {s t : Sorting} {m n : ℕ} {result : Came X} → m ≡ n → Asks ask old new s t m result → Asks ask old new s t n result
asks_at {ask = ask} {old = old} {new = new} {s = s} {t = t} {result = result} e h = let P : ℕ → Type 0 = λ m. Asks ask old new s t m result in subst P e h

-- the same nodes in another form
pub asks_same : {X : Type 0} {ask : Question NodeRef → Answer NodeRef} {old new : Run} {s t u : Sorting} {m n : ℕ} {x y : X} → Asks ask old new s t m (came.Is x) → ((after : Plan NodeRef) → left_frame (frames.Sorting u) after ≡ left_frame (frames.Sorting t) after) → Asks ask old new s u n (came.Is y)
asks_same a e = record { so = λ after. passes_at (e after) refl (a.so after); still = a.still }

-- ---- One key

-- the plan of what is left begins with it, and this is what follows
pub key_is : {X : Type 0} (ask : Question NodeRef → Answer NodeRef) (old new : Run) (s t : Sorting) (number : ℕ) (x : X) (p q : Plan NodeRef → Plan NodeRef) → ((after : Plan NodeRef) → left_frame (frames.Sorting s) after ≡ p after) → ((after : Plan NodeRef) → q after ≡ left_frame (frames.Sorting t) after)
    → ((after : Plan NodeRef) → Passes ask (hand old) old.room (p after) (going_of old.going) (q after) (going_of new.going)) → IsStill old new → Asks ask old new s t number (came.Is x)
key_is ask old new s t number x p q first last passes still = record {
  so = λ after.
      let P : Plan NodeRef → Type 0 = λ r. Passes ask (hand old) old.room r (going_of old.going) (left_frame (frames.Sorting t) after) (going_of new.going) in
      let Q : Plan NodeRef → Type 0 = λ r. Passes ask (hand old) old.room (p after) (going_of old.going) r (going_of new.going) in
      subst P (sym (first after)) (subst Q (last after) (passes after));
  still = still;
}

pub key_halts : {X : Type 0} (ask : Question NodeRef → Answer NodeRef) (old new : Run) (s : Sorting) (number : ℕ) (why : Refused) (p : Plan NodeRef → Plan NodeRef) → ((after : Plan NodeRef) → left_frame (frames.Sorting s) after ≡ p after)
    → ((after : Plan NodeRef) → Stops ask (hand old) old.room (p after) (going_of old.going) (refused_of why) (filled (closed (going_of old.going)) (going_of old.going).streams) × (going_of new.going ≡ going_of old.going)) → IsStill old new → Asks {X = X} ask old new s s number (came.Halts why)
key_halts ask old new s number why p first stops still = record {
  so = λ after.
      let P : Plan NodeRef → Type 0 = λ r. Stops ask (hand old) old.room r (going_of old.going) (refused_of why) (filled (closed (going_of new.going)) (going_of new.going).streams) in
      let Q : Going NodeRef → Type 0 = λ g. Stops ask (hand old) old.room (p after) (going_of old.going) (refused_of why) (filled (closed g) g.streams) in
      subst P (sym (first after)) (subst Q (sym (stops after).1) (stops after).0);
  still = still;
}

pub key_lacks : {X : Type 0} (ask : Question NodeRef → Answer NodeRef) (old new : Run) (s : Sorting) (number : ℕ) (name : Expanded) (depth : ℕ) (place : Place) (p : Plan NodeRef → Plan NodeRef) → ((after : Plan NodeRef) → left_frame (frames.Sorting s) after ≡ p after)
    → ((after : Plan NodeRef) → Misses ask (hand old) old.room (p after) (going_of old.going) name depth place × (going_of new.going ≡ going_of old.going)) → depth ≡ s.here.depth → place ≡ place_at s number → IsStill old new → Asks {X = X} ask old new s s number (came.Lacks name)
key_lacks ask old new s number name depth place p first misses is_depth is_place still = record {
  so = λ after.
      let same = (misses after).1 in
      let left = left_frame (frames.Sorting s) after in
      let P : Plan NodeRef → Type 0 = λ r. Misses ask (hand old) old.room r (going_of new.going) name s.here.depth (place_at s number) in
      let Q : Going NodeRef → Type 0 = λ g. Misses ask (hand old) old.room (p after) g name s.here.depth (place_at s number) in
      let R : ℕ → Type 0 = λ d. Misses ask (hand old) old.room (p after) (going_of old.going) name d (place_at s number) in
      let S : Place → Type 0 = λ l. Misses ask (hand old) old.room (p after) (going_of old.going) name depth l in
      (passes_at refl same stays, subst P (sym (first after)) (subst Q (sym same) (subst R is_depth (subst S is_place (misses after).0))));
  still = still;
}

-- ---- What comes of the frame

pub steps_in : {t u : Question NodeRef → Answer NodeRef} (f : Frame) {old new : Run} {next : Next} → t ≡ u → StepsFrom t f old new next → StepsFrom u f old new next
steps_in f {old = old} {new = new} {next = next} e h = let P : (Question NodeRef → Answer NodeRef) → Type 0 = λ t. StepsFrom t f old new next in subst P e h

pub steps_asked : {X : Type 0} {ask : Question NodeRef → Answer NodeRef} {old mid new : Run} {s t : Sorting} {number : ℕ} {x : X} {next : Next} → Asks ask old mid s t number (came.Is x) → StepsFrom ask (frames.Sorting t) mid new next → StepsFrom ask (frames.Sorting s) old new next
steps_asked {ask = ask} {old = old} {mid = mid} {new = new} {s = s} {t = t} {next = next} a h =
    let f = left_frame (frames.Sorting t) in
    let same = ap f (left_still a.still) in
    let passes = passes_at same refl (a.so (left_in old)) in
    let e = steps_at ask old mid {g = going_of mid.going} {h = going_of mid.going} a.still.room a.still.supplies same refl in
    let l = fewer (a.so (left_in old)) in
    let n : length mid.frames.items ≡ length old.frames.items = ap (λ (fs : Vec Frame Global). length fs.items) a.still.frames in
    comes_after ask (left_frame (frames.Sorting s) (left_in old)) (f (left_in mid)) _ _ old mid new next h passes (omega (arith, e, l, n)) a.still.room a.still.supplies (λ x d p b. record {
      passes = passes_then passes (moved old mid a.still.room a.still.supplies b.passes);
      misses = misses_moved old mid a.still.room a.still.supplies b.misses;
    })

pub steps_halted : {X : Type 0} {ask : Question NodeRef → Answer NodeRef} {old new : Run} {s t : Sorting} {number : ℕ} (why : Refused) → Asks {X = X} ask old new s t number (came.Halts why) → StepsFrom ask (frames.Sorting s) old new (Halt why)
steps_halted {old = old} why a = record { so = a.so (left_in old); room = a.still.room; supplies = a.still.supplies }

pub steps_lacking : {X : Type 0} {ask : Question NodeRef → Answer NodeRef} {old mid new : Run} {s t : Sorting} {number : ℕ} {name : Expanded} (next : Next) → Asks {X = X} ask old mid s t number (came.Lacks name) → HasNeeds name t.here.depth (place_at t number) next → Pushed (frames.Sorting t) mid new
    → StepsFrom ask (frames.Sorting s) old new next
steps_lacking {ask = ask} {old = old} {mid = mid} {new = new} {s = s} {t = t} {number = number} {name = name} next a needs back = go next needs.so
  where
    go : (next : Next) → NeedsSo name t.here.depth (place_at t number) next → StepsFrom ask (frames.Sorting s) old new next
    go (Needs n d p) e =
        let left : left_in new ≡ left_frame (frames.Sorting t) (left_in old) = pushed mid new (frames.Sorting t) back.frames ∙ ap (left_frame (frames.Sorting t)) (left_still a.still) in
        let going : going_of new.going ≡ going_of mid.going = ap going_of back.going in
        let was = a.so (left_in old) in
        let M : Plan NodeRef → Going NodeRef → Expanded → ℕ → Place → Type 0 = λ q g x y l. Misses ask (hand old) old.room q g x y l in
        let A : Plan NodeRef → Type 0 = λ q. M q (going_of new.going) n d (place_of p) in
        let B : Going NodeRef → Type 0 = λ g. M (left_frame (frames.Sorting t) (left_in old)) g n d (place_of p) in
        let C : Expanded → Type 0 = λ x. M (left_frame (frames.Sorting t) (left_in old)) (going_of mid.going) x d (place_of p) in
        let D : ℕ → Type 0 = λ y. M (left_frame (frames.Sorting t) (left_in old)) (going_of mid.going) name y (place_of p) in
        let E : Place → Type 0 = λ l. M (left_frame (frames.Sorting t) (left_in old)) (going_of mid.going) name t.here.depth l in
        record {
          so = record {
            passes = passes_at left going was.0;
            misses = subst A (sym left) (subst B (sym going) (subst C (sym e.0) (subst D (sym e.1) (subst E (sym e.2) was.1))));
          };
          room = back.room ∙ a.still.room;
          supplies = back.supplies ∙ a.still.supplies;
        }
    go Went e = absurd e
    go (Want c d) e = absurd e
    go Done e = absurd e
    go (Gave v) e = absurd e
    go (Halt w) e = absurd e
