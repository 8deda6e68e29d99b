-- Into the content of an instruction of a body.
use Rattle.std.proofs.Common.{◌≡◌, suc, ◌+◌, length, Vec, Global, sym, ap, ◌∙◌, subst, arith}
use Rattle.spec_stylesheet.specs.Place.{Place}
use Rattle.spec_stylesheet.specs.Instruction.{Instrs}
use Rattle.spec_meaning.specs.Stream.{Stream, Ended}
use Rattle.spec_meaning.specs.Question.{Question, Answer}
use Rattle.spec_run.specs.Plan.{Plan, End, Inquire, Put}
use Rattle.spec_run.specs.Going.{Asked, noted, put}
use Rattle.spec_run.specs.Passes.{stays, asks, puts}
use Rattle.spec_run.specs.Content.{Here}
use Rattle.spec_node.specs.declared.node_ref.NodeRef.{NodeRef}
use Rattle.xt_frames.specs.declared.standing.Standing.{Standing}
use Rattle.xt_frames.specs.declared.frame.Body.{Body}
use Rattle.xt_frames.specs.declared.frame.Frame.{Frame}
use Rattle.xt_frames.specs.declared.frame.Frame.TheVariants as frames
use Rattle.xt_frames.specs.declared.run.Run.{Run}
use Rattle.xt_frames.specs.declared.run.Next.{Next}
use Rattle.xt_frames.specs.declared.run.Next.TheVariants.{Went}
use Rattle.xt_frames.specs.View.{here_of, inside, after_body, left_frame, left_over}
use Rattle.xt_frames.specs.Left.{left_in, Does, Pushed}
use Rattle.xt_progress.specs.View.{going_of}
use Rattle.xt_frames.proofs.Lefts.{pushed, one_more, steps_at, passes_at}
use Rattle.xt_frames.proofs.Performs.{after_frame, goes, put_nothing}

pub into_body : (ask : Question NodeRef → Answer NodeRef) (old mid new : Run) (place : Place) (is : Instrs) (b rest : Body) (here : Standing) (next : Next) → here_of here ≡ here_of b.here
    → rest ≡ record { content = b.content; next = b.next + 1; here = b.here } → Pushed (frames.Body rest) old mid → Does ask (inside place is (here_of here) (left_in mid)) (length mid.frames.items) mid new next
    → Does ask (inside place is (here_of b.here) (after_body b (left_in old))) (suc (length old.frames.items)) old new next
into_body ask old mid new place is b rest here next same is_rest h does =
    let P : Here NodeRef → Type 0 = λ x. Does ask (inside place is x (left_frame (frames.Body rest) (left_in old))) (suc (length old.frames.items)) old new next in
    let Q : Body → Type 0 = λ r. Does ask (inside place is (here_of b.here) (left_frame (frames.Body r) (left_in old))) (suc (length old.frames.items)) old new next in
    subst Q is_rest (subst P same (after_frame ask (inside place is (here_of here)) (frames.Body rest) old mid new next h does))

-- a frame more, where none was taken off, and nothing is written
pub frame_more : (ask : Question NodeRef → Answer NodeRef) (e : Frame) (old new : Run) → Pushed e old new → Does ask (Put Ended (left_frame e (left_in old))) (length old.frames.items) old new Went
frame_more ask e old new a =
    let n = one_more old.frames.items new.frames.items e a.frames in
    let left = pushed old new e a.frames in
    let going : going_of new.going ≡ put Ended (going_of old.going) = ap going_of a.going ∙ sym (put_nothing (going_of old.going)) in
    let s = steps_at ask old new a.room a.supplies left going in
    record { so = (passes_at left going (puts stays), omega (arith, s, n)); room = a.room; supplies = a.supplies }

-- what comes behind the rest of a body
pub behind_body : (ask : Question NodeRef → Answer NodeRef) (then : Plan NodeRef → Plan NodeRef) (old mid new : Run) (b rest : Body) (next : Next) → rest ≡ record { content = b.content; next = b.next + 1; here = b.here } → Pushed (frames.Body rest) old mid
    → Does ask (then (left_in mid)) (length mid.frames.items) mid new next → Does ask (then (after_body b (left_in old))) (suc (length old.frames.items)) old new next
behind_body ask then old mid new b rest next is_rest h does =
    let Q : Body → Type 0 = λ r. Does ask (then (left_frame (frames.Body r) (left_in old))) (suc (length old.frames.items)) old new next in
    subst Q is_rest (after_frame ask then (frames.Body rest) old mid new next h does)

-- what is asked and put behind the rest of a body that was put away before
pub asked_behind : (ask : Question NodeRef → Answer NodeRef) (q : Question NodeRef) (stream : Answer NodeRef → Stream) (b rest : Body) (old one new : Run) → rest ≡ record { content = b.content; next = b.next + 1; here = b.here } → Pushed (frames.Body rest) old one
    → new.frames ≡ one.frames → new.room ≡ one.room → new.supplies ≡ one.supplies → going_of new.going ≡ put (stream (ask q)) (noted (Asked q (ask q)) (going_of one.going))
    → Does ask (Inquire q (λ a. Put (stream a) (after_body b (left_in old)))) (suc (length old.frames.items)) old new Went
asked_behind ask q stream b rest old one new is_rest p same room supplies going =
    let after = after_body b (left_in old) in
    let i = one_more old.frames.items one.frames.items (frames.Body rest) p.frames in
    let n : length new.frames.items ≡ length one.frames.items = ap (λ (fs : Vec Frame Global). length fs.items) same in
    let left : left_in new ≡ after =
    ap (λ (fs : Vec Frame Global). left_over fs.items End) same ∙ pushed old one (frames.Body rest) p.frames ∙ ap (λ (r : Body). left_frame (frames.Body r) (left_in old)) is_rest in
    let last = put (stream (ask q)) (noted (Asked q (ask q)) (going_of old.going)) in
    let going_is : going_of new.going ≡ last = going ∙ ap (λ g. put (stream (ask q)) (noted (Asked q (ask q)) (going_of g))) p.going in
    goes ask (Inquire q (λ a. Put (stream a) after)) after last old new left going_is (asks (puts stays)) (omega arith) (omega (arith, i, n)) (room ∙ p.room) (supplies ∙ p.supplies)
