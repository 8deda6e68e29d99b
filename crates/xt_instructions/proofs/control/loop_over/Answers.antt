use Rattle.std.proofs.Common.{◌≡◌, ℕ, suc, ◌<◌, List, [], Vec, Global, length, drop, map, subst, ap, ◌∙◌, arith}
use Rattle.std.proofs.lemmas.Bool.Decides.{nat_tests}
use Rattle.spec_stylesheet.specs.Place.{Place}
use Rattle.spec_stylesheet.specs.Instruction.{instrs}
use Rattle.spec_meaning.specs.Stream.{Ended}
use Rattle.spec_transform.specs.Sorted.{nodes_in_order}
use Rattle.spec_run.specs.Plan.{Plan, Put}
use Rattle.spec_run.specs.Content.{Here, each, criteria_asked, rows_asked}
use Rattle.xt_syntax.specs.declared.instr.Instr.{Instr}
use Rattle.xt_syntax.specs.declared.sort_key.SortKey.{SortKey}
use Rattle.xt_syntax.specs.InstrView.{instr_of}
use Rattle.xt_syntax.specs.PartView.{place_of, sort_key_of}
use Rattle.spec_node.specs.declared.node_ref.NodeRef.{NodeRef}
use Rattle.xt_frames.specs.declared.standing.Standing.{Standing}
use Rattle.xt_frames.specs.declared.frame.Ordered.TheVariants as ordereds
use Rattle.xt_frames.specs.declared.frame.Frame.TheVariants as frames
use Rattle.xt_frames.specs.declared.run.Next.TheVariants.{Went}
use Rattle.xt_frames.specs.View.{here_of, inside_at, left_frame, ordered_left}
use Rattle.xt_frames.specs.Left.{left_in, Does}
use Rattle.xt_instructions.proofs.Into.{frame_more}
use Rattle.xt_instructions.proofs.Rows.{not_sorted, is_sorted}
use Rattle.xt_instructions.proofs.control.loop_over.Goals as goal

pub returns-then-is_empty : goal.returns-then-is_empty
returns-then-is_empty c ask =
    let r = c.args.run.now in
    let after = left_in r in
    let keys = c.args.keys.now.value in
    let ns = c.args.nodes.items in
    let h = here_of c.args.here in
    let left = c.in_ok-left.left in
    let is_left = c.in_ok-left.ensures in
    let none : length keys.items ≡ 0 = grind (arith, nat_tests, keys.ok.0, c.is_empty.ensures, c.deref.ensures, c.if-is_empty.true) in
    let new = c.push.new.run in
    let F : Place → Vec Instr Global → Vec NodeRef Global → ℕ → Standing → Plan NodeRef =
    λ p is ms n s. each (inside_at p (instrs (map instr_of is.items)) (length ms.items) (here_of s)) (suc n) (drop n ms.items) after in
    let k : List NodeRef → Plan NodeRef = λ ms. each (inside_at (place_of c.args.site.now.place) (instrs (map instr_of c.args.content.now.value.items)) (length ms) h) 1 ms after in
    let e : left_frame (frames.Loop left) after ≡ k ns = λ i. F (is_left.place i) (is_left.content i) (is_left.nodes i) (is_left.next i) (is_left.here i) in
    let P : Plan NodeRef → Type 0 = λ p. Does ask (Put Ended p) (length r.frames.items) r new Went in
    subst P (e ∙ not_sorted keys.items h ns k none) (frame_more ask (frames.Loop left) r new c.in_ok-push.ensures)

pub returns : goal.returns
returns c ask =
    let r = c.args.run.now in
    let after = left_in r in
    let keys = c.args.keys.now.value in
    let ns = c.args.nodes.items in
    let h = here_of c.args.here in
    let left = c.in-Ok-loop_of.left in
    let is_left = c.in-Ok-loop_of.ensures in
    let some : 0 < length keys.items = grind (arith, nat_tests, keys.ok.0, c.is_empty.ensures, c.deref.ensures, c.if-is_empty.false) in
    let new = c.push-2.new.run in
    let G : Vec SortKey Global → (List NodeRef → Plan NodeRef) → Plan NodeRef =
    λ ks k. criteria_asked (map sort_key_of ks.items) h [] (λ cs. rows_asked (map sort_key_of ks.items) cs (length ns) h 1 ns [] (λ rows. Put Ended (k (nodes_in_order cs rows)))) in
    let F : Place → Vec Instr Global → Here NodeRef → List NodeRef → Plan NodeRef = λ p is x ms. each (inside_at p (instrs (map instr_of is.items)) (length ms) x) 1 ms after in
    let k : List NodeRef → Plan NodeRef = F (place_of c.args.site.now.place) c.args.content.now.value h in
    let L : List NodeRef → Plan NodeRef = λ ms. ordered_left (ordereds.Loop left) ms after in
    let same : here_of left.here ≡ h = ap here_of is_left.here ∙ c.in-Ok-share.ensures.here in
    let e : left_frame (frames.Sorting c.unsorted-sorting.result) after ≡ G c.in-Ok.keys.value L = c.unsorted-sorting.ensures after in
    let f : G c.in-Ok.keys.value L ≡ G keys k = λ i. G (c.in-Ok.ensures i) (F (is_left.place i) (is_left.content i) (same i)) in
    let P : Plan NodeRef → Type 0 = λ p. Does ask (Put Ended p) (length r.frames.items) r new Went in
    subst P (e ∙ f ∙ is_sorted keys.items h ns k some) (frame_more ask (frames.Sorting c.unsorted-sorting.result) r new c.in_ok-push-2.ensures)
