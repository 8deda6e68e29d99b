use Rattle.std.proofs.Common.{refl}
use Rattle.spec_meaning.specs.Question.{Answer, Choice, Imported}
use Rattle.spec_run.specs.Plan.{Plan, Enter}
use Rattle.spec_run.specs.Content.{imported_call}
use Rattle.xt_syntax.specs.PartView.{site_of}
use Rattle.spec_node.specs.declared.node_ref.NodeRef.{NodeRef}
use Rattle.xt_frames.specs.declared.run.Run.{Run}
use Rattle.xt_frames.specs.View.{here_of, after_body}
use Rattle.xt_frames.specs.Left.{left_in}
use Rattle.xt_frames.proofs.Lefts.{if_ok}
use Rattle.xt_frames.proofs.Performs.{inquired}
use Rattle.xt_instructions.proofs.imports.apply_imported.Goals as goal

pub returns-clause-does : goal.returns-clause-does
returns-clause-does g c =
    let truth = (g.W.World.state c.args.world.now).truth in
    let r = c.args.run.now in
    let b = c.args.body in
    let rule = c.args.rule in
    let mid : Run = record { room = r.room; supplies = r.supplies; waiting = r.waiting; frames = r.frames; going = c.imported.new.going; did = r.did } in
    let entered : Answer NodeRef → Plan NodeRef = λ a. Enter (imported_call (site_of c.args.site.now) (here_of b.here) rule.mode a) b.here.depth (after_body b (left_in r)) in
    if_ok c.want.result c.want.ensures (λ next h.
    inquired truth (Choice b.here.focus.node rule.mode (Imported rule.first rule.last)) entered _ r mid c.want.new.run next c.in-Ok.ensures.going refl refl
    (rw (c.in-Ok.ensures.call, c.advanced.ensures) at h truth))
