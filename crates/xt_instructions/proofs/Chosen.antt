-- Branches that were looked at, one after another.
use Rattle.std.proofs.Common.{◌≡◌, ℕ, suc, ◌+◌, ◌<◌, ◌≤◌, List, length, get_or, drop, map, Bool, true, false, Vec, Global, refl, sym, ap, ◌∙◌, subst, arith}
use Rattle.std.specs.Prelude.{if◌then◌else◌}
use Rattle.std.proofs.lemmas.List.{at_drop_more, at_drop_all}
use Rattle.spec_document.specs.Name.{Expanded}
use Rattle.spec_stylesheet.specs.Place.{Place}
use Rattle.spec_stylesheet.specs.Instruction as made
use Rattle.spec_stylesheet.specs.Instruction.{branch, branches}
use Rattle.spec_meaning.specs.Stream.{Ended, filled}
use Rattle.spec_meaning.specs.Question.{Question, Answer}
use Rattle.spec_run.specs.Plan.{Plan, Put}
use Rattle.spec_run.specs.Going.{Going, put, closed}
use Rattle.spec_run.specs.Content.{Here, planned_branches}
use Rattle.spec_run.specs.Passes.{Passes, stays, puts}
use Rattle.xt_syntax.specs.declared.instr.Branch.{Branch}
use Rattle.xt_syntax.specs.InstrView.{branch_of}
use Rattle.xt_syntax.specs.PartView.{place_of}
use Rattle.spec_node.specs.declared.node_ref.NodeRef.{NodeRef}
use Rattle.xt_questions.specs.Runs.{itself}
use Rattle.xt_engine.specs.declared.call.Refused.{Refused}
use Rattle.xt_engine.specs.View.{refused_of}
use Rattle.xt_engine.specs.Advances.{Stops, Misses}
use Rattle.xt_progress.specs.View.{going_of}
use Rattle.xt_frames.specs.declared.frame.Frame.{Frame}
use Rattle.xt_frames.specs.declared.run.Came.{Came}
use Rattle.xt_frames.specs.declared.run.Came.TheVariants as came
use Rattle.xt_frames.specs.declared.run.Run.{Run}
use Rattle.xt_frames.specs.declared.run.Next.{Next}
use Rattle.xt_frames.specs.declared.run.Next.TheVariants.{Went, Want, Needs, Done, Gave, Halt}
use Rattle.xt_frames.specs.View.{inside, left_frame}
use Rattle.xt_frames.specs.Left.{left_in, hand, Does, Performs, Steps, Found, IsStill, Pushed, HasNeeds, NeedsSo}
use Rattle.xt_frames.proofs.Passed.{passes_then}
use Rattle.xt_frames.proofs.Lefts.{pushed, one_more, steps_at, passes_at, comes_after, moved, misses_moved, stops_after, stops_moved}
use Rattle.xt_frames.proofs.Performs.{fewer, left_still, put_nothing}

-- the branches from this one on
abbrev pub branches_from : List Branch → ℕ → Here NodeRef → Plan NodeRef → Plan NodeRef
branches_from bs i h after = planned_branches (branches (map branch_of (drop i bs))) h after

abbrev pub branch_before : Branch → made.Branches → Here NodeRef → Plan NodeRef → Plan NodeRef
branch_before x more h after = planned_branches (branch (branch_of x).site (branch_of x).test (branch_of x).content more) h after

pub branch_next : (bs : List Branch) (i : ℕ) (x : Branch) (h : Here NodeRef) (after : Plan NodeRef) → i < length bs → x ≡ get_or bs i x
    → branches_from bs i h after ≡ branch_before x (branches (map branch_of (drop (i + 1) bs))) h after
branch_next bs i x h after lt is_x =
    at_drop_more (λ rest. planned_branches (branches (map branch_of rest)) h after) bs i x lt
    ∙ ap (λ y. branch_before y (branches (map branch_of (drop (i + 1) bs))) h after) (sym is_x)

pub branch_none : (bs : List Branch) (i : ℕ) (h : Here NodeRef) (after : Plan NodeRef) → length bs ≤ i → branches_from bs i h after ≡ Put Ended after
branch_none bs i h after le = at_drop_all (λ rest. planned_branches (branches (map branch_of rest)) h after) bs i le

-- from the first of some branches to another, none before which was taken
pub record Looked (ask : Question NodeRef → Answer NodeRef) (bs : List Branch) (start next : ℕ) (h : Here NodeRef) (first now : Run) : Type 0 where
  pub passes : Passes ask (hand first) first.room (branches_from bs start h (left_in first)) (going_of first.going) (branches_from bs next h (left_in first)) (going_of now.going)
  pub still : IsStill first now

pub looked_start : (ask : Question NodeRef → Answer NodeRef) (bs : List Branch) (i : ℕ) (h : Here NodeRef) (r : Run) → Looked ask bs i i h r r
looked_start ask bs i h r = record { passes = stays; still = record { frames = refl; room = refl; supplies = refl } }

still_then : {first now new : Run} → IsStill first now → IsStill now new → IsStill first new
still_then a b = record { frames = b.frames ∙ a.frames; room = b.room ∙ a.room; supplies = b.supplies ∙ a.supplies }

-- a test was looked at: this is what there is to it
abbrev pub taken_if : Branch → made.Branches → Here NodeRef → Plan NodeRef → Bool → Plan NodeRef
taken_if x more h after holds = if holds then inside (branch_of x).site.place (branch_of x).content h after else planned_branches more h after

-- the value of the test
looked_value : (ask : Question NodeRef → Answer NodeRef) (bs : List Branch) (start i : ℕ) (h : Here NodeRef) (first now new : Run) (x : Branch) (holds : Bool) → Looked ask bs start i h first now → i < length bs → x ≡ get_or bs i x
    → Found itself ask (hand now) now.room (branch_before x (branches (map branch_of (drop (i + 1) bs))) h (left_in first)) (taken_if x (branches (map branch_of (drop (i + 1) bs))) h (left_in first)) h.depth (branch_of x).site.place (going_of now.going) (going_of new.going) (came.Is holds)
    → Passes ask (hand first) first.room (branches_from bs start h (left_in first)) (going_of first.going) (taken_if x (branches (map branch_of (drop (i + 1) bs))) h (left_in first) holds) (going_of new.going)
looked_value ask bs start i h first now new x holds l lt is_x found =
    let more = branches (map branch_of (drop (i + 1) bs)) in
    let P : Plan NodeRef → Type 0 = λ p. Passes ask (hand first) first.room p (going_of now.going) (taken_if x more h (left_in first) holds) (going_of new.going) in
    passes_then l.passes (subst P (sym (branch_next bs i x h (left_in first) lt is_x)) (moved first now l.still.room l.still.supplies found.so))

pub looked_more : (ask : Question NodeRef → Answer NodeRef) (bs : List Branch) (start i : ℕ) (h : Here NodeRef) (first now new : Run) (x : Branch) → Looked ask bs start i h first now → i < length bs → x ≡ get_or bs i x
    → Found itself ask (hand now) now.room (branch_before x (branches (map branch_of (drop (i + 1) bs))) h (left_in first)) (taken_if x (branches (map branch_of (drop (i + 1) bs))) h (left_in first)) h.depth (branch_of x).site.place (going_of now.going) (going_of new.going) (came.Is false)
    → IsStill now new → Looked ask bs start (i + 1) h first new
looked_more ask bs start i h first now new x l lt is_x found still =
    record { passes = looked_value ask bs start i h first now new x false l lt is_x found; still = still_then l.still still }

pub looked_into : (ask : Question NodeRef → Answer NodeRef) (bs : List Branch) (start i : ℕ) (h : Here NodeRef) (first now new last : Run) (x : Branch) (next : Next) → Looked ask bs start i h first now → i < length bs → x ≡ get_or bs i x
    → Found itself ask (hand now) now.room (branch_before x (branches (map branch_of (drop (i + 1) bs))) h (left_in first)) (taken_if x (branches (map branch_of (drop (i + 1) bs))) h (left_in first)) h.depth (branch_of x).site.place (going_of now.going) (going_of new.going) (came.Is true)
    → IsStill now new → Does ask (inside (branch_of x).site.place (branch_of x).content h (left_in new)) (length new.frames.items) new last next
    → Steps ask (branches_from bs start h (left_in first)) (length first.frames.items) first last next
looked_into ask bs start i h first now new last x next l lt is_x found still does =
    let s = still_then l.still still in
    let passes = looked_value ask bs start i h first now new x true l lt is_x found in
    let same = ap (inside (branch_of x).site.place (branch_of x).content h) (left_still s) in
    let e = steps_at ask first new {g = going_of new.going} {h = going_of new.going} s.room s.supplies same refl in
    let f = fewer passes in
    let n : length new.frames.items ≡ length first.frames.items = ap (λ (fs : Vec Frame Global). length fs.items) s.frames in
    comes_after ask (branches_from bs start h (left_in first)) (inside (branch_of x).site.place (branch_of x).content h (left_in new)) _ _ first new last next does (passes_at same refl passes) (omega (arith, e, f, n)) s.room s.supplies (λ a b c y. absurd y)

pub looked_halts : (ask : Question NodeRef → Answer NodeRef) (bs : List Branch) (start i : ℕ) (h : Here NodeRef) (first now new : Run) (x : Branch) (why : Refused) → Looked ask bs start i h first now → i < length bs → x ≡ get_or bs i x
    → Found itself ask (hand now) now.room (branch_before x (branches (map branch_of (drop (i + 1) bs))) h (left_in first)) (taken_if x (branches (map branch_of (drop (i + 1) bs))) h (left_in first)) h.depth (branch_of x).site.place (going_of now.going) (going_of new.going) (came.Halts why)
    → IsStill now new → Steps ask (branches_from bs start h (left_in first)) (length first.frames.items) first new (Halt why)
looked_halts ask bs start i h first now new x why l lt is_x found still =
    let s = still_then l.still still in
    let P : Plan NodeRef → Type 0 = λ p. Stops ask (hand first) first.room p (going_of now.going) (refused_of why) (filled (closed (going_of now.going)) (going_of now.going).streams) in
    let Q : Going NodeRef → Type 0 = λ g. Stops ask (hand first) first.room (branches_from bs start h (left_in first)) (going_of first.going) (refused_of why) (filled (closed g) g.streams) in
    record {
      so = subst Q (sym found.so.1) (stops_after l.passes (subst P (sym (branch_next bs i x h (left_in first) lt is_x)) (stops_moved first now l.still.room l.still.supplies found.so.0)));
      room = s.room;
      supplies = s.supplies;
    }

pub looked_lacks : (ask : Question NodeRef → Answer NodeRef) (bs : List Branch) (start i : ℕ) (h : Here NodeRef) (first now new last : Run) (x : Branch) (f : Frame) (name : Expanded) (next : Next) → Looked ask bs start i h first now → i < length bs → x ≡ get_or bs i x
    → Found itself ask (hand now) now.room (branch_before x (branches (map branch_of (drop (i + 1) bs))) h (left_in first)) (taken_if x (branches (map branch_of (drop (i + 1) bs))) h (left_in first)) h.depth (branch_of x).site.place (going_of now.going) (going_of new.going) (came.Lacks name)
    → IsStill now new → HasNeeds name h.depth (branch_of x).site.place next → Pushed f new last → left_frame f (left_in new) ≡ branches_from bs i h (left_in new)
    → Steps ask (branches_from bs start h (left_in first)) (length first.frames.items) first last next
looked_lacks ask bs start i h first now new last x f name next l lt is_x found still needs back is_left = go next needs.so
  where
    go : (next : Next) → NeedsSo name h.depth (branch_of x).site.place next → Steps ask (branches_from bs start h (left_in first)) (length first.frames.items) first last next
    go (Needs n d p) e =
        let s = still_then l.still still in
        let left : left_in last ≡ branches_from bs i h (left_in first) = pushed new last f back.frames ∙ is_left ∙ ap (branches_from bs i h) (left_still s) in
        let going : going_of last.going ≡ going_of now.going = ap going_of back.going ∙ found.so.1 in
        let m = misses_moved first now l.still.room l.still.supplies found.so.0 in
        let P : Plan NodeRef → Type 0 = λ q. Misses ask (hand first) first.room q (going_of now.going) name h.depth (branch_of x).site.place in
        let Q : Plan NodeRef → Type 0 = λ q. Misses ask (hand first) first.room q (going_of now.going) n d (place_of p) in
        let R : Going NodeRef → Type 0 = λ g. Misses ask (hand first) first.room (left_in last) g n d (place_of p) in
        let A : Expanded → Type 0 = λ y. Misses ask (hand first) first.room (branches_from bs i h (left_in first)) (going_of now.going) y d (place_of p) in
        let B : ℕ → Type 0 = λ y. Misses ask (hand first) first.room (branches_from bs i h (left_in first)) (going_of now.going) name y (place_of p) in
        let C : Place → Type 0 = λ y. Misses ask (hand first) first.room (branches_from bs i h (left_in first)) (going_of now.going) name h.depth y in
        let here = subst P (sym (branch_next bs i x h (left_in first) lt is_x)) m in
        record {
          so = record {
            passes = passes_at left going l.passes;
            misses = subst R (sym going) (subst Q (sym left) (subst A (sym e.0) (subst B (sym e.1) (subst C (sym e.2) here))));
          };
          room = back.room ∙ s.room;
          supplies = back.supplies ∙ s.supplies;
        }
    go Went e = absurd e
    go (Want c d) e = absurd e
    go Done e = absurd e
    go (Gave v) e = absurd e
    go (Halt w) e = absurd e

pub looked_end : (ask : Question NodeRef → Answer NodeRef) (bs : List Branch) (start i : ℕ) (h : Here NodeRef) (first now : Run) → Looked ask bs start i h first now → length bs ≤ i
    → Steps ask (branches_from bs start h (left_in first)) (length first.frames.items) first now Went
looked_end ask bs start i h first now l le =
    let e : branches_from bs i h (left_in first) ≡ Put Ended (left_in first) = branch_none bs i h (left_in first) le in
    let P : Plan NodeRef → Type 0 = λ p. Passes ask (hand first) first.room (branches_from bs start h (left_in first)) (going_of first.going) p (going_of now.going) in
    let all = subst P e l.passes in
    let f = fewer all in
    let left = left_still l.still in
    let going : going_of now.going ≡ put Ended (going_of now.going) = sym (put_nothing (going_of now.going)) in
    let s = steps_at ask first now {q = left_in now} {r = left_in first} {g = going_of now.going} {h = put Ended (going_of now.going)} l.still.room l.still.supplies left going in
    let n : length now.frames.items ≡ length first.frames.items = ap (λ (fs : Vec Frame Global). length fs.items) l.still.frames in
    record {
      so = (passes_at left going (passes_then all (puts stays)), omega (arith, f, s, n));
      room = l.still.room;
      supplies = l.still.supplies;
    }

-- what was found in a world that says the same, where it stands at the same
pub found_for : (truth : Question NodeRef → Answer NodeRef) (x : Branch) (more : made.Branches) (first now new : Run) (h g : Here NodeRef) {t : Question NodeRef → Answer NodeRef} (c : Came Bool) → t ≡ truth → h ≡ g
    → ((more : made.Branches) → (after : Plan NodeRef) → Found itself t (hand now) now.room (branch_before x more h after) (taken_if x more h after) h.depth (branch_of x).site.place (going_of now.going) (going_of new.going) c)
    → Found itself truth (hand now) now.room (branch_before x more g (left_in first)) (taken_if x more g (left_in first)) g.depth (branch_of x).site.place (going_of now.going) (going_of new.going) c
found_for truth x more first now new h g {t = t} c e f found =
    let P : (Question NodeRef → Answer NodeRef) → Type 0 = λ u. Found itself u (hand now) now.room (branch_before x more h (left_in first)) (taken_if x more h (left_in first)) h.depth (branch_of x).site.place (going_of now.going) (going_of new.going) c in
    let Q : Here NodeRef → Type 0 = λ y. Found itself truth (hand now) now.room (branch_before x more y (left_in first)) (taken_if x more y (left_in first)) y.depth (branch_of x).site.place (going_of now.going) (going_of new.going) c in
    subst Q f (subst P e (found more (left_in first)))

pub needs_at : {name : Expanded} {depth : ℕ} {p q : Place} {next : Next} → p ≡ q → HasNeeds name depth p next → HasNeeds name depth q next
needs_at {name = name} {depth = depth} {next = next} e h = let P : Place → Type 0 = λ y. HasNeeds name depth y next in subst P e h

-- a frame, and then what comes of the rest
pub steps_after : (ask : Question NodeRef → Answer NodeRef) (rest : Plan NodeRef → Plan NodeRef) (e : Frame) (old mid new : Run) (next : Next) → Pushed e old mid → Steps ask (rest (left_in mid)) (length mid.frames.items) mid new next → Steps ask (rest (left_frame e (left_in old))) (suc (length old.frames.items)) old new next
steps_after ask rest e old mid new next a h =
    let n = one_more old.frames.items mid.frames.items e a.frames in
    let same = ap rest (pushed old mid e a.frames) in
    let going = ap going_of a.going in
    let s = steps_at ask old mid a.room a.supplies same going in
    let here = passes_at same going stays in
    comes_after ask _ (rest (left_in mid)) _ _ old mid new next h here (omega (arith, n, s)) a.room a.supplies (λ x d l b. record {
      passes = passes_then here (moved old mid a.room a.supplies b.passes);
      misses = misses_moved old mid a.room a.supplies b.misses;
    })

-- what comes of the rest of a frame, in the place of the frame
pub steps_performs : (ask : Question NodeRef → Answer NodeRef) (f : Frame) (p : Plan NodeRef) (old new : Run) (next : Next) → Steps ask p (suc (length old.frames.items)) old new next → Performs ask f p old new next
steps_performs ask f p old new next h =
    comes_after ask p p _ _ old old new next h stays (omega arith) refl refl (λ n d l b. record { now = left_in new; passes = b.passes; left = λ e. refl; misses = b.misses })
