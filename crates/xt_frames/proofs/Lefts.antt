-- How steps of a run change what is left.
use Rattle.std.proofs.Common.{◌≡◌, ℕ, suc, ◌<◌, ◌≤◌, true, false, List, [], ◌∷◌, ◌++◌, map, length, None, Result, Ok, Err, IfOk, OnOk, Global, Vec, refl, sym, ap, ◌∙◌, subst, arith}
use Rattle.std.specs.declared.rc.Rc.{Rc}
use Rattle.std.proofs.lemmas.List.{length-append}
use Rattle.std.proofs.lemmas.Bool.{lt-ltb, le-ltb}
use Rattle.spec_document.specs.Name.{Expanded}
use Rattle.spec_stylesheet.specs.Place.{Place}
use Rattle.spec_stylesheet.specs.Instruction.{Instrs, instrs}
use Rattle.spec_meaning.specs.Stream.{Stream}
use Rattle.spec_meaning.specs.Question.{Question, Answer}
use Rattle.spec_meaning.specs.Program as program
use Rattle.spec_meaning.specs.Program.{Supply}
use Rattle.spec_meaning.specs.Supplies.{at_hand}
use Rattle.spec_run.specs.Plan.{Refused, Plan, End, Stop, Begin}
use Rattle.spec_run.specs.Direct.{too_deep}
use Rattle.spec_run.specs.Going.{Going, begun, deepened}
use Rattle.spec_run.specs.Content.{Here, deeper, planned, is_empty}
use Rattle.spec_run.specs.Passes.{Passes, stays, begins, goes_deep, is_too_deep}
use Rattle.xt_syntax.specs.declared.instr.Instr.{Instr}
use Rattle.xt_syntax.specs.InstrView.{instr_of}
use Rattle.xt_syntax.specs.PartView.{place_of}
use Rattle.spec_node.specs.declared.node_ref.NodeRef.{NodeRef}
use Rattle.xt_questions.specs.declared.context.Supplies.{Supplies}
use Rattle.xt_questions.specs.View.{supplies_of}
use Rattle.xt_engine.specs.declared.call.Refused as declared
use Rattle.xt_engine.specs.View.{refused_of}
use Rattle.xt_engine.specs.Advances.{Stops, Misses}
use Rattle.xt_progress.specs.View.{going_of}
use Rattle.xt_frames.specs.declared.standing.Standing.{Standing}
use Rattle.xt_frames.specs.declared.frame.Frame.{Frame}
use Rattle.xt_frames.specs.declared.frame.Frame.TheVariants as frames
use Rattle.xt_frames.specs.declared.run.Run.{Run}
use Rattle.xt_frames.specs.declared.run.Next.{Next}
use Rattle.xt_frames.specs.declared.run.Next.TheVariants.{Went, Want, Needs, Done, Gave, Halt}
use Rattle.xt_frames.specs.View.{here_of, inside, left_frame, left_over}
use Rattle.xt_frames.specs.Left.{left_in, hand, steps, weight, Comes, ComesSo, Does, Pushed}
use Rattle.xt_frames.proofs.Passed.{passes_then}

-- the innermost goes first
pub left_snoc : (fs : List Frame) (f : Frame) (after : Plan NodeRef) → left_over (fs ++ f ∷ []) after ≡ left_frame f (left_over fs after)
left_snoc [] f after = refl
left_snoc (g ∷ fs) f after = left_snoc fs f (left_frame g after)

-- a run with one frame more
pub pushed : (old new : Run) (f : Frame) → new.frames.items ≡ old.frames.items ++ f ∷ [] → left_in new ≡ left_frame f (left_in old)
pushed old new f e = rw e (left_snoc old.frames.items f End)

pub one_more : {A : Type 0} (old new : List A) (f : A) → new ≡ old ++ f ∷ [] → length new ≡ suc (length old)
one_more old new f e = ap length e ∙ length-append old (f ∷ []) ∙ omega arith

-- no levels are left
pub none_left : (ask : Question NodeRef → Answer NodeRef) (r : Run) (place : Place) (is : Instrs) (h : Here NodeRef) (k : ℕ) (after : Plan NodeRef) (why : declared.Refused) → r.room ≤ h.depth → refused_of why ≡ too_deep place → Does ask (inside place is h after) k r r (Halt why)
none_left ask r place is h k after why le is_why = record {
  so = record {
    last = going_of r.going;
    passes = let P : Refused → Type 0 = λ w. Passes ask (hand r) r.room (inside place is h after) (going_of r.going) (Stop w) (going_of r.going) in subst P (sym is_why) (is_too_deep (lt-ltb r.room (suc h.depth) (omega arith)));
    content = refl;
  };
  room = refl;
  supplies = refl;
}

-- the same in a run with the same room and supplies
pub moved : {ask : Question NodeRef → Answer NodeRef} {p q : Plan NodeRef} {g h : Going NodeRef} (old mid : Run) → mid.room ≡ old.room → mid.supplies ≡ old.supplies → Passes ask (hand mid) mid.room p g q h → Passes ask (hand old) old.room p g q h
moved {ask = ask} {p = p} {q = q} {g = g} {h = h} old mid room supplies s =
    let P : ℕ → Type 0 = λ r. Passes ask (hand mid) r p g q h in
    let Q : Supplies → Type 0 = λ r. Passes ask (at_hand (supplies_of r)) old.room p g q h in
    subst Q supplies (subst P room s)

pub missing_moved : (old mid : Run) → mid.supplies ≡ old.supplies → (d : ℕ) (name : Expanded) → hand mid d (program.Global name) ≡ None → hand old d (program.Global name) ≡ None
missing_moved old mid supplies d name e = ap (λ (s : Supplies). at_hand (supplies_of s) d (program.Global name)) (sym supplies) ∙ e

pub misses_moved : {ask : Question NodeRef → Answer NodeRef} {p : Plan NodeRef} {g : Going NodeRef} {name : Expanded} {depth : ℕ} {place : Place} (old mid : Run) → mid.room ≡ old.room → mid.supplies ≡ old.supplies → Misses ask (hand mid) mid.room p g name depth place → Misses ask (hand old) old.room p g name depth place
misses_moved {name = name} {depth = depth} old mid room supplies m =
    record { last = m.last; next = m.next; passes = moved old mid room supplies m.passes; missing = missing_moved old mid supplies depth name m.missing; same = m.same }

pub stops_after : {ask : Question NodeRef → Answer NodeRef} {hand : ℕ → Supply NodeRef} {room : ℕ} {p q : Plan NodeRef} {g h : Going NodeRef} {w : Refused} {s : Stream} → Passes ask hand room p g q h → Stops ask hand room q h w s → Stops ask hand room p g w s
stops_after a b = record { last = b.last; passes = passes_then a b.passes; content = b.content }

pub stops_moved : {ask : Question NodeRef → Answer NodeRef} {p : Plan NodeRef} {g : Going NodeRef} {w : Refused} {s : Stream} (old mid : Run) → mid.room ≡ old.room → mid.supplies ≡ old.supplies → Stops ask (hand mid) mid.room p g w s → Stops ask (hand old) old.room p g w s
stops_moved old mid room supplies b = record { last = b.last; passes = moved old mid room supplies b.passes; content = b.content }

-- some steps of a plan, and then what comes of the rest
pub comes_after : {needs more : Expanded → ℕ → Place → Type 0} (ask : Question NodeRef → Answer NodeRef) (p q : Plan NodeRef) (k l : ℕ) (old mid new : Run) (next : Next) → Comes needs ask q l mid new next
    → Passes ask (hand old) old.room p (going_of old.going) q (going_of mid.going) → weight ask mid q l ≤ weight ask old p k → mid.room ≡ old.room → mid.supplies ≡ old.supplies
    → ((name : Expanded) (depth : ℕ) (place : Place) → needs name depth place → more name depth place) → Comes more ask p k old new next
comes_after {needs = needs} {more = more} ask p q k l old mid new next h s le room supplies f = record { so = go next h.so; room = h.room ∙ room; supplies = h.supplies ∙ supplies }
  where
    go : (next : Next) → ComesSo needs ask q l mid new next → ComesSo more ask p k old new next
    go Went d = (passes_then s (moved old mid room supplies d.0), let less = d.1 in omega (arith, less, le))
    go (Want call depth) d = passes_then s (moved old mid room supplies d)
    go (Needs name depth place) d = f name depth (place_of place) d
    go Done d = passes_then s (moved old mid room supplies d)
    go (Gave value) d = passes_then s (moved old mid room supplies d)
    go (Halt why) d = stops_after s (stops_moved old mid room supplies d)

pub steps_at : (ask : Question NodeRef → Answer NodeRef) (old mid : Run) {q r : Plan NodeRef} {g h : Going NodeRef} → mid.room ≡ old.room → mid.supplies ≡ old.supplies → q ≡ r → g ≡ h
    → steps ask (hand mid) mid.room q g ≡ steps ask (hand old) old.room r h
steps_at ask old mid {q = q} {r = r} {g = g} {h = h} room supplies e f =
    ap (λ n. steps ask (hand mid) n q g) room ∙ ap (λ s. steps ask (at_hand (supplies_of s)) old.room q g) supplies ∙ ap (λ p. steps ask (hand old) old.room p g) e ∙ ap (λ i. steps ask (hand old) old.room r i) f

pub passes_at : {ask : Question NodeRef → Answer NodeRef} {hand : ℕ → Supply NodeRef} {room : ℕ} {p q r : Plan NodeRef} {g h i : Going NodeRef} → q ≡ r → h ≡ i → Passes ask hand room p g r i → Passes ask hand room p g q h
passes_at {ask = ask} {hand = hand} {room = room} {p = p} {q = q} {r = r} {g = g} {h = h} {i = i} e f s =
    let P : Plan NodeRef → Type 0 = λ a. Passes ask hand room p g a h in
    let Q : Going NodeRef → Type 0 = λ a. Passes ask hand room p g r a in
    subst P (sym e) (subst Q (sym f) s)

-- into a content
pub goes_into : (ask : Question NodeRef → Answer NodeRef) (old mid new : Run) (place : Place) (content : Rc (Vec Instr Global) Global) (here inner : Standing) → here.depth < old.room
    → mid.frames ≡ old.frames → mid.room ≡ old.room → mid.supplies ≡ old.supplies → (d : ℕ) → d ≡ suc here.depth → going_of mid.going ≡ deepened d (going_of old.going)
    → Pushed (frames.Body (record { content = content; next = 0; here = inner })) mid new → here_of inner ≡ deeper (here_of here)
    → Does ask (inside place (instrs (map instr_of content.value.items)) (here_of here) (left_in old)) (length old.frames.items) old new Went
goes_into ask old mid new place content here inner lt same_frames room supplies d is_d going h deep =
    let is = instrs (map instr_of content.value.items) in
    let after = planned is (deeper (here_of here)) (left_in old) in
    let left : left_in new ≡ after =
    pushed mid new (frames.Body (record { content = content; next = 0; here = inner })) h.frames ∙ ap (λ x. planned is x (left_in mid)) deep ∙ ap (λ (fs : Vec Frame Global). planned is (deeper (here_of here)) (left_over fs.items End)) same_frames in
    let more = one_more mid.frames.items new.frames.items _ h.frames in
    let same : length mid.frames.items ≡ length old.frames.items = ap (λ (fs : Vec Frame Global). length fs.items) same_frames in
    let no = le-ltb old.room (suc here.depth) (omega arith) in
    let going_is : going_of new.going ≡ deepened (suc here.depth) (going_of old.going) = ap going_of h.going ∙ going ∙ ap (λ n. deepened n (going_of old.going)) is_d in
    let e = steps_at ask old new {q = left_in new} {r = after} {g = going_of new.going} {h = deepened (suc here.depth) (going_of old.going)} (h.room ∙ room) (h.supplies ∙ supplies) left going_is in
    record {
      so = rw no (passes_at left going_is (goes_deep no stays), omega (arith, more, same, e));
      room = h.room ∙ room;
      supplies = h.supplies ∙ supplies;
    }

-- a sink, and then its content
pub sink_does : (ask : Question NodeRef → Answer NodeRef) (old mid new : Run) (place : Place) (is : Instrs) (h : Here NodeRef) (after : Plan NodeRef) (next : Next) → Does ask (inside place is h (left_in mid)) (length mid.frames.items) mid new next
    → left_in mid ≡ after → length mid.frames.items ≤ suc (suc (length old.frames.items)) → going_of mid.going ≡ begun (going_of old.going) → mid.room ≡ old.room → mid.supplies ≡ old.supplies
    → Does ask (Begin (inside place is h after)) (suc (length old.frames.items)) old new next
sink_does ask old mid new place is h after next does left more going room supplies =
    let q = inside place is h (left_in mid) in
    let same = ap (inside place is h) left in
    let e = steps_at ask old mid room supplies same going in
    comes_after ask _ q _ _ old mid new next does (passes_at same going (begins stays)) (omega (arith, e, more)) room supplies (λ n d p x. x)

-- the same over the frames of the rest and of the end
pub sink_after : (ask : Question NodeRef → Answer NodeRef) (old mid top new : Run) (place : Place) (is : Instrs) (h : Here NodeRef) (rest end : Frame) (next : Next) → mid.frames.items ≡ old.frames.items ++ rest ∷ [] → going_of mid.going ≡ begun (going_of old.going) → mid.room ≡ old.room → mid.supplies ≡ old.supplies
    → Pushed end mid top → Does ask (inside place is h (left_in top)) (length top.frames.items) top new next → Does ask (Begin (inside place is h (left_frame end (left_frame rest (left_in old))))) (suc (length old.frames.items)) old new next
sink_after ask old mid top new place is h rest end next frames going room supplies b does =
    let one = one_more old.frames.items mid.frames.items rest frames in
    let two = one_more mid.frames.items top.frames.items end b.frames in
    let left : left_in top ≡ left_frame end (left_frame rest (left_in old)) = pushed mid top end b.frames ∙ ap (left_frame end) (pushed old mid rest frames) in
    sink_does ask old top new place is h (left_frame end (left_frame rest (left_in old))) next does left (omega (arith, one, two)) (ap going_of b.going ∙ going) (b.room ∙ room) (b.supplies ∙ supplies)

-- the same over the frame of the end alone
pub held_in_sink : (ask : Question NodeRef → Answer NodeRef) (old low mid new : Run) (place : Place) (is : Instrs) (h : Here NodeRef) (end : Frame) (next : Next) → low.frames ≡ old.frames → low.room ≡ old.room → low.supplies ≡ old.supplies → going_of low.going ≡ begun (going_of old.going)
    → Pushed end low mid → Does ask (inside place is h (left_in mid)) (length mid.frames.items) mid new next → Does ask (Begin (inside place is h (left_frame end (left_in old)))) (suc (length old.frames.items)) old new next
held_in_sink ask old low mid new place is h end next frames room supplies going b does =
    let one = one_more low.frames.items mid.frames.items end b.frames in
    let n : length low.frames.items ≡ length old.frames.items = ap (λ (fs : Vec Frame Global). length fs.items) frames in
    let left : left_in mid ≡ left_frame end (left_in old) = pushed low mid end b.frames ∙ ap (λ (fs : Vec Frame Global). left_frame end (left_over fs.items End)) frames in
    sink_does ask old mid new place is h (left_frame end (left_in old)) next does left (omega (arith, one, n)) (ap going_of b.going ∙ going) (b.room ∙ room) (b.supplies ∙ supplies)

pub if_ok : {T E : Type 0} {P Q : T → Type 0} (r : Result T E) → IfOk r P → ((x : T) → P x → Q x) → IfOk r Q
if_ok (Ok x) h f = f x h
if_ok (Err e) h f = tt

pub if_both : {T E : Type 0} {P R : T → Type 0} {Q : Type 0} (r : Result T E) → IfOk r P → OnOk r Q → ((x : T) → P x → Q → R x) → IfOk r R
if_both (Ok x) h k f = f x h k
if_both (Err e) h k f = tt

-- whether a content has instructions
pub no_content : (is : List Instr) → length is ≡ 0 → is_empty (instrs (map instr_of is)) ≡ true
no_content [] h = refl
no_content (i ∷ is) h = absurd (omega (arith, h))

pub some_content : (is : List Instr) → 0 < length is → is_empty (instrs (map instr_of is)) ≡ false
some_content [] h = absurd (omega (arith, h))
some_content (i ∷ is) h = refl
