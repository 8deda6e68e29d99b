use Rattle.std.proofs.Common.{◌≡◌, length, suc, map, subst, arith}
use Rattle.std.proofs.lemmas.Bool.Decides.{nat_tests}
use Rattle.spec_stylesheet.specs.Instruction.{instrs}
use Rattle.spec_run.specs.Plan.{Plan, Begin, Wrap}
use Rattle.spec_run.specs.Content.{Here, sets_used}
use Rattle.xt_syntax.specs.InstrView.{instr_of}
use Rattle.xt_syntax.specs.PartView.{place_of}
use Rattle.spec_node.specs.declared.node_ref.NodeRef.{NodeRef}
use Rattle.xt_engine.specs.View.{wrapping_of}
use Rattle.xt_frames.specs.View.{here_of, inside, after_body}
use Rattle.xt_frames.specs.Left.{left_in, Does}
use Rattle.xt_frames.proofs.Lefts.{if_ok}
use Rattle.xt_instructions.specs.Over.{Precedes}
use Rattle.xt_instructions.proofs.Used.{after_begun, none_used}
use Rattle.xt_instructions.proofs.sets.collect_with_sets.Goals as goal

pub returns-then-is_empty : goal.returns-then-is_empty
returns-then-is_empty c =
    let r = c.args.run.now in
    let b = c.args.body in
    let p = place_of c.args.site.now.place in
    let names = c.args.sets.now in
    let none : length names.items ≡ 0 = grind (arith, nat_tests, names.ok.0, c.is_empty.ensures, c.if-is_empty.true) in
    let inner = inside p (instrs (map instr_of c.args.content.now.value.items)) (here_of b.here) (Wrap (wrapping_of c.args.end) (after_body b (left_in r))) in
    if_ok c.collect.result c.collect.ensures (λ next h ask.
    let P : Plan NodeRef → Type 0 = λ q. Does ask (Begin q) (suc (length r.frames.items)) r c.collect.new.run next in
    subst P (none_used p (here_of b.here) names.items inner none) (h ask))

pub returns : goal.returns
returns c ask =
    let p = place_of c.args.site.now.place in
    let names = c.args.sets.now.items in
    let is = instrs (map instr_of c.args.content.now.value.items) in
    let r = c.args.run.now in
    let put : Precedes (λ q. sets_used p (here_of c.in_ok-here.here) names (inside p is (here_of c.in_ok-here.here) q)) 2 c.begin.new.run c.put_inside.new.run = rw c.as_slice.ensures.value at c.in_ok-put_inside.ensures in
    let P : Here NodeRef → Type 0 = λ h. Precedes (λ q. sets_used p h names (inside p is h q)) 2 c.begin.new.run c.put_inside.new.run in
    after_begun ask (λ q. sets_used p (here_of c.args.body.here) names (inside p is (here_of c.args.body.here) q)) c.args.end c.args.body r c.begin.new.run c.put_inside.new.run c.in_ok-begin.ensures (subst P c.in_ok-here.ensures.here put)
