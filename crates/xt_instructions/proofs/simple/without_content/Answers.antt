use Rattle.std.proofs.Common.{ℕ, List}
use Rattle.spec_run.specs.Plan.{Plan, Put}
use Rattle.spec_run.specs.Content.{text_item}
use Rattle.spec_node.specs.declared.node_ref.NodeRef.{NodeRef}
use Rattle.xt_frames.specs.declared.frame.Frame.TheVariants as frames
use Rattle.xt_frames.specs.View.{after_body}
use Rattle.xt_frames.specs.Left.{left_in}
use Rattle.xt_frames.proofs.Lefts.{if_ok}
use Rattle.xt_frames.proofs.Performs.{does_performs}
use Rattle.xt_instructions.proofs.simple.without_content.Goals as goal

pub returns-in_ok-text-in-Text-clause-does : goal.returns-in_ok-text-in-Text-clause-does
returns-in_ok-text-in-Text-clause-does g c =
    let truth = (g.W.World.state c.args.world.now).truth in
    if_ok c.write_text.result c.write_text.ensures (λ next h. rw c.in-Text.is (does_performs truth _ (frames.Body c.args.body) c.args.run.now c.write_text.new.run next (rw (c.advanced.ensures, c.in_ok-text-in-Text.ensures) at h truth)))

pub returns-in-ApplyImports-clause-does : goal.returns-in-ApplyImports-clause-does
returns-in-ApplyImports-clause-does g c =
    let truth = (g.W.World.state c.args.world.now).truth in
    if_ok c.apply_imports.result c.apply_imports.ensures.does (λ next h. rw c.in-ApplyImports.is (does_performs truth _ (frames.Body c.args.body) c.args.run.now c.apply_imports.new.run next h))

pub returns-in-Fallback-clause-does : goal.returns-in-Fallback-clause-does
returns-in-Fallback-clause-does g c =
    let truth = (g.W.World.state c.args.world.now).truth in
    if_ok c.nothing.result c.nothing.ensures (λ next h. rw c.in-Fallback.is (does_performs truth _ (frames.Body c.args.body) c.args.run.now c.nothing.new.run next (h truth)))

pub returns-in-ValueOf-clause-does : goal.returns-in-ValueOf-clause-does
returns-in-ValueOf-clause-does g c =
    let truth = (g.W.World.state c.args.world.now).truth in
    let old = c.args.run.now in
    let k : List ℕ → Plan NodeRef = λ t. Put (text_item t) (after_body c.args.body (left_in old)) in
    if_ok c.write_found.result c.write_found.ensures (λ next h.
    rw c.in-ValueOf.is (h truth old _ (if_ok c.text-found.result c.text-found.ensures.found (λ came f. f k)) c.text-found.ensures.still))

pub returns-in-Number-clause-does : goal.returns-in-Number-clause-does
returns-in-Number-clause-does g c =
    let truth = (g.W.World.state c.args.world.now).truth in
    let old = c.args.run.now in
    let k : List ℕ → Plan NodeRef = λ t. Put (text_item t) (after_body c.args.body (left_in old)) in
    if_ok c.write_found-in-Number.result c.write_found-in-Number.ensures (λ next h.
    rw c.in-Number.is (h truth old _ (if_ok c.number-found.result c.number-found.ensures.found (λ came f. f k)) c.number-found.ensures.still))
