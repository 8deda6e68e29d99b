-- What comes of instructions.
use Rattle.std.proofs.Common.{◌≡◌, ℕ, suc, ◌<◌, ◌≤◌, length, Global, Vec, refl, sym, ap, ◌∙◌, subst, arith}
use Rattle.spec_document.specs.Name.{Expanded}
use Rattle.spec_stylesheet.specs.Place.{Place}
use Rattle.spec_meaning.specs.Stream.{Stream, Ended, filled}
use Rattle.spec_meaning.specs.Question.{Question, Answer}
use Rattle.spec_meaning.specs.Program.{Supply}
use Rattle.spec_run.specs.Plan.{Plan, End, Put, Take, Inquire}
use Rattle.spec_run.specs.Going.{Going, Asked, noted, put, taken, aside, closed}
use Rattle.spec_run.specs.Passes.{Passes, stays, asks, uses, puts, begins, wraps, takes, goes_deep, is_too_deep}
use Rattle.xt_syntax.specs.PartView.{place_of}
use Rattle.spec_node.specs.declared.node_ref.NodeRef.{NodeRef}
use Rattle.xt_tree.proofs.Streams.{followed-Ended}
use Rattle.xt_engine.specs.declared.call.Refused.{Refused}
use Rattle.xt_engine.specs.View.{refused_of}
use Rattle.xt_engine.specs.Advances.{Stops, Misses}
use Rattle.xt_progress.specs.View.{going_of}
use Rattle.xt_frames.specs.declared.frame.Frame.{Frame}
use Rattle.xt_frames.specs.declared.run.Run.{Run}
use Rattle.xt_frames.specs.declared.run.Next.{Next}
use Rattle.xt_frames.specs.declared.run.Next.TheVariants.{Went, Want, Needs, Done, Gave, Halt}
use Rattle.xt_frames.specs.View.{left_frame, left_over}
use Rattle.xt_frames.specs.Left.{left_in, hand, steps, Comes, Does, IsBack, Performs, IsStill, Pushed, HasNeeds, NeedsSo}
use Rattle.xt_frames.proofs.Lefts.{pushed, one_more, steps_at, passes_at, comes_after}

-- what is passed leaves no more
pub fewer : {ask : Question NodeRef → Answer NodeRef} {hand : ℕ → Supply NodeRef} {room : ℕ} {p q : Plan NodeRef} {g h : Going NodeRef} → Passes ask hand room p g q h → steps ask hand room q h ≤ steps ask hand room p g
fewer stays = omega arith
fewer (asks s) = let l = fewer s in omega (arith, l)
fewer (uses e s) = let l = fewer s in rw e (omega (arith, l))
fewer (puts s) = let l = fewer s in omega (arith, l)
fewer (begins s) = let l = fewer s in omega (arith, l)
fewer (wraps s) = let l = fewer s in omega (arith, l)
fewer (takes s) = let l = fewer s in omega (arith, l)
fewer (goes_deep e s) = let l = fewer s in rw e (omega (arith, l))
fewer (is_too_deep e) = omega arith

pub left_still : {old mid : Run} → IsStill old mid → left_in mid ≡ left_in old
left_still h = ap (λ (fs : Vec Frame Global). left_over fs.items End) h.frames

-- an expression has a value, and then
pub perform_is : (ask : Question NodeRef → Answer NodeRef) (p : Plan NodeRef) (then : Plan NodeRef → Plan NodeRef) (f : Frame) (old mid new : Run) (next : Next)
    → Passes ask (hand old) old.room p (going_of old.going) (then (left_in old)) (going_of mid.going) → IsStill old mid → Does ask (then (left_in mid)) (suc (length mid.frames.items)) mid new next → Performs ask f p old new next
perform_is ask p then f old mid new next s still does =
    let same = ap then (left_still still) in
    let e = steps_at ask old mid {g = going_of mid.going} {h = going_of mid.going} still.room still.supplies same refl in
    let l = fewer s in
    let n : length mid.frames.items ≡ length old.frames.items = ap (λ (fs : Vec Frame Global). length fs.items) still.frames in
    comes_after ask p (then (left_in mid)) _ _ old mid new next does (passes_at same refl s) (omega (arith, e, l, n)) still.room still.supplies (λ n d p x. absurd x)

pub perform_halts : {needs : Expanded → ℕ → Place → Type 0} (ask : Question NodeRef → Answer NodeRef) (p : Plan NodeRef) (k : ℕ) (old new : Run) (why : Refused)
    → Stops ask (hand old) old.room p (going_of old.going) (refused_of why) (filled (closed (going_of old.going)) (going_of old.going).streams) × (going_of new.going ≡ going_of old.going) → IsStill old new → Comes needs ask p k old new (Halt why)
perform_halts ask p k old new why h still =
    let P : Going NodeRef → Type 0 = λ g. Stops ask (hand old) old.room p (going_of old.going) (refused_of why) (filled (closed g) g.streams) in
    record { so = subst P (sym h.1) h.0; room = still.room; supplies = still.supplies }

-- what is back where a global is lacking
is_back : (ask : Question NodeRef → Answer NodeRef) (f : Frame) (p : Plan NodeRef) (old mid new : Run) (name : Expanded) (depth : ℕ) (place : Place)
    → Misses ask (hand old) old.room p (going_of old.going) name depth place × (going_of mid.going ≡ going_of old.going) → IsStill old mid → Pushed f mid new → IsBack ask f p old new name depth place
is_back ask f p old mid new name depth place h still back =
    let going : going_of new.going ≡ going_of old.going = ap going_of back.going ∙ h.1 in
    let P : Going NodeRef → Type 0 = λ g. Misses ask (hand old) old.room p g name depth place in
    record {
      now = p;
      passes = passes_at refl going stays;
      left = λ e. pushed mid new f back.frames ∙ ap (left_frame f) (left_still still) ∙ e;
      misses = subst P (sym going) h.0;
    }

pub perform_lacks : (ask : Question NodeRef → Answer NodeRef) (p : Plan NodeRef) (f : Frame) (old mid new : Run) (name : Expanded) (depth : ℕ) (place : Place) (next : Next)
    → Misses ask (hand old) old.room p (going_of old.going) name depth place × (going_of mid.going ≡ going_of old.going) → IsStill old mid → HasNeeds name depth place next → Pushed f mid new → Performs ask f p old new next
perform_lacks ask p f old mid new name depth place next h still needs back = go next needs.so
  where
    go : (next : Next) → NeedsSo name depth place next → Performs ask f p old new next
    go (Needs n d l) e =
        let P : Expanded → Type 0 = λ x. IsBack ask f p old new x d (place_of l) in
        let Q : ℕ → Type 0 = λ x. IsBack ask f p old new name x (place_of l) in
        let R : Place → Type 0 = λ x. IsBack ask f p old new name depth x in
        record {
          so = subst P (sym e.0) (subst Q (sym e.1) (subst R (sym e.2) (is_back ask f p old mid new name depth place h still back)));
          room = back.room ∙ still.room;
          supplies = back.supplies ∙ still.supplies;
        }
    go Went e = absurd e
    go (Want c d) e = absurd e
    go Done e = absurd e
    go (Gave v) e = absurd e
    go (Halt w) e = absurd e

pub does_performs : (ask : Question NodeRef → Answer NodeRef) (p : Plan NodeRef) (f : Frame) (old new : Run) (next : Next) → Does ask p (suc (length old.frames.items)) old new next → Performs ask f p old new next
does_performs ask p f old new next does =
    comes_after ask p p _ _ old old new next does stays (omega arith) refl refl (λ n d p x. absurd x)

pub does_more : (ask : Question NodeRef → Answer NodeRef) (p : Plan NodeRef) (f : Frame) (old new : Run) (next : Next) → Does ask p (length old.frames.items) old new next → Performs ask f p old new next
does_more ask p f old new next does =
    comes_after ask p p _ _ old old new next does stays (omega arith) refl refl (λ n d p x. absurd x)

-- a run goes on
pub goes : (ask : Question NodeRef → Answer NodeRef) (q r : Plan NodeRef) (h : Going NodeRef) (old new : Run) → left_in new ≡ r → going_of new.going ≡ h → Passes ask (hand old) old.room q (going_of old.going) r h → steps ask (hand old) old.room r h < steps ask (hand old) old.room q (going_of old.going)
    → length new.frames.items ≤ suc (suc (suc (length old.frames.items))) → new.room ≡ old.room → new.supplies ≡ old.supplies → Does ask q (suc (length old.frames.items)) old new Went
goes ask q r h old new left going s less n room supplies =
    let e = steps_at ask old new room supplies left going in
    record { so = (passes_at left going s, omega (arith, e, less, n)); room = room; supplies = supplies }

pub put_does : (ask : Question NodeRef → Answer NodeRef) (s : Stream) (f : Frame) (old mid new : Run) → mid.frames ≡ old.frames → mid.room ≡ old.room → mid.supplies ≡ old.supplies → going_of mid.going ≡ put s (going_of old.going) → Pushed f mid new
    → Does ask (Put s (left_frame f (left_in old))) (suc (length old.frames.items)) old new Went
put_does ask s f old mid new frames room supplies going h =
    let n = one_more mid.frames.items new.frames.items f h.frames in
    let m : length mid.frames.items ≡ length old.frames.items = ap (λ (fs : Vec Frame Global). length fs.items) frames in
    goes ask _ (left_frame f (left_in old)) (put s (going_of old.going)) old new (pushed mid new f h.frames ∙ ap (λ (fs : Vec Frame Global). left_frame f (left_over fs.items End)) frames) (ap going_of h.going ∙ going) (puts stays) (omega arith) (omega (arith, n, m)) (h.room ∙ room) (h.supplies ∙ supplies)

-- the same where the frame comes first
pub put_behind : (ask : Question NodeRef → Answer NodeRef) (s : Stream) (f : Frame) (old mid new : Run) → Pushed f old mid → new.frames ≡ mid.frames → new.room ≡ mid.room → new.supplies ≡ mid.supplies → going_of new.going ≡ put s (going_of mid.going)
    → Does ask (Put s (left_frame f (left_in old))) (suc (length old.frames.items)) old new Went
put_behind ask s f old mid new h frames room supplies going =
    let low : Run = record { room = old.room; supplies = old.supplies; waiting = old.waiting; frames = old.frames; going = new.going; did = old.did } in
    put_does ask s f old low new refl refl refl (going ∙ ap (λ g. put s (going_of g)) h.going)
    (record { frames = ap (λ (fs : Vec Frame Global). fs.items) frames ∙ h.frames; going = refl; room = room ∙ h.room; supplies = supplies ∙ h.supplies })

pub put_nothing : {N : Type 0} (g : Going N) → put Ended g ≡ g
put_nothing g = ap (λ s. record { top = s; outer = g.outer; trace = g.trace; height = g.height; streams = g.streams }) (followed-Ended g.top)

-- two frames, and nothing is written
pub two_frames : (ask : Question NodeRef → Answer NodeRef) (e f : Frame) (old mid new : Run) → Pushed e old mid → Pushed f mid new → Does ask (Put Ended (left_frame f (left_frame e (left_in old)))) (suc (length old.frames.items)) old new Went
two_frames ask e f old mid new a b =
    let n = one_more old.frames.items mid.frames.items e a.frames in
    let m = one_more mid.frames.items new.frames.items f b.frames in
    goes ask _ (left_frame f (left_frame e (left_in old))) (put Ended (going_of old.going)) old new (pushed mid new f b.frames ∙ ap (left_frame f) (pushed old mid e a.frames)) (ap going_of (b.going ∙ a.going) ∙ sym (put_nothing (going_of old.going))) (puts stays) (omega arith) (omega (arith, n, m)) (b.room ∙ a.room) (b.supplies ∙ a.supplies)

-- one, and nothing is written
pub one_frame : (ask : Question NodeRef → Answer NodeRef) (e : Frame) (old new : Run) → Pushed e old new → Does ask (Put Ended (left_frame e (left_in old))) (suc (length old.frames.items)) old new Went
one_frame ask e old new a =
    let n = one_more old.frames.items new.frames.items e a.frames in
    goes ask _ (left_frame e (left_in old)) (put Ended (going_of old.going)) old new (pushed old new e a.frames) (ap going_of a.going ∙ sym (put_nothing (going_of old.going))) (puts stays) (omega arith) (omega (arith, n)) a.room a.supplies

-- none, and nothing is written
pub no_frame : (ask : Question NodeRef → Answer NodeRef) (old new : Run) → left_in new ≡ left_in old → length new.frames.items ≡ length old.frames.items → going_of new.going ≡ going_of old.going → new.room ≡ old.room → new.supplies ≡ old.supplies
    → Does ask (Put Ended (left_in old)) (suc (length old.frames.items)) old new Went
no_frame ask old new left n going room supplies =
    goes ask _ (left_in old) (put Ended (going_of old.going)) old new left (going ∙ sym (put_nothing (going_of old.going))) (puts stays) (omega arith) (omega (arith, n)) room supplies

-- a frame, and then what comes of the rest
pub after_frame : {needs : Expanded → ℕ → Place → Type 0} (ask : Question NodeRef → Answer NodeRef) (then : Plan NodeRef → Plan NodeRef) (e : Frame) (old mid new : Run) (next : Next) → Pushed e old mid → Comes needs ask (then (left_in mid)) (length mid.frames.items) mid new next → Comes needs ask (then (left_frame e (left_in old))) (suc (length old.frames.items)) old new next
after_frame ask then e old mid new next a does =
    let n = one_more old.frames.items mid.frames.items e a.frames in
    let same = ap then (pushed old mid e a.frames) in
    let going = ap going_of a.going in
    let s = steps_at ask old mid a.room a.supplies same going in
    comes_after ask _ (then (left_in mid)) _ _ old mid new next does (passes_at same going stays) (omega (arith, n, s)) a.room a.supplies (λ n d p x. x)

-- a question, and then what comes of the rest
pub inquired : {needs : Expanded → ℕ → Place → Type 0} (ask : Question NodeRef → Answer NodeRef) (q : Question NodeRef) (then : Answer NodeRef → Plan NodeRef) (k : ℕ) (old mid new : Run) (next : Next) → going_of mid.going ≡ noted (Asked q (ask q)) (going_of old.going) → mid.room ≡ old.room → mid.supplies ≡ old.supplies
    → Comes needs ask (then (ask q)) k mid new next → Comes needs ask (Inquire q then) k old new next
inquired ask q then k old mid new next going room supplies does =
    let s = steps_at ask old mid {q = then (ask q)} {r = then (ask q)} room supplies refl going in
    comes_after ask (Inquire q then) (then (ask q)) _ _ old mid new next does (passes_at refl going (asks stays)) (omega (arith, s)) room supplies (λ n d p x. x)

-- the innermost sink is taken, and then a frame
pub take_does : (ask : Question NodeRef → Answer NodeRef) (then : Stream → Plan NodeRef) (f : Frame) (old mid new : Run) → mid.frames ≡ old.frames → mid.room ≡ old.room → mid.supplies ≡ old.supplies → going_of mid.going ≡ aside (going_of old.going) → Pushed f mid new
    → left_frame f (left_in old) ≡ then (taken (going_of old.going)) → Does ask (Take then) (suc (length old.frames.items)) old new Went
take_does ask then f old mid new frames room supplies going h left =
    let n = one_more mid.frames.items new.frames.items f h.frames in
    let m : length mid.frames.items ≡ length old.frames.items = ap (λ (fs : Vec Frame Global). length fs.items) frames in
    let same = pushed mid new f h.frames ∙ ap (λ (fs : Vec Frame Global). left_frame f (left_over fs.items End)) frames ∙ left in
    goes ask (Take then) (then (taken (going_of old.going))) (aside (going_of old.going)) old new same (ap going_of h.going ∙ going) (takes stays) (omega arith) (omega (arith, n, m)) (h.room ∙ room) (h.supplies ∙ supplies)
