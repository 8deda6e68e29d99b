use Rattle.xt_frames.specs.declared.frame.Frame.TheVariants as frames
use Rattle.xt_frames.proofs.Lefts.{if_ok}
use Rattle.xt_frames.proofs.Performs.{does_performs}
use Rattle.xt_instructions.proofs.instruction.with_content.Goals as goal

pub returns-in-Literal-clause-does : goal.returns-in-Literal-clause-does
returns-in-Literal-clause-does g c =
    let truth = (g.W.World.state c.args.world.now).truth in
    if_ok c.literal.result c.literal.ensures (λ next h. rw c.in-Literal.is (does_performs truth _ (frames.Body c.args.body) c.args.run.now c.literal.new.run next (h truth)))

pub returns-in-Element-clause-does : goal.returns-in-Element-clause-does
returns-in-Element-clause-does g c = if_ok c.element.result c.element.ensures.does (λ next h. rw c.in-Element.is h)

pub returns-in-Comment-clause-does : goal.returns-in-Comment-clause-does
returns-in-Comment-clause-does g c =
    let truth = (g.W.World.state c.args.world.now).truth in
    if_ok c.collect.result c.collect.ensures (λ next h. rw c.in-Comment.is (does_performs truth _ (frames.Body c.args.body) c.args.run.now c.collect.new.run next (h truth)))

pub returns-in-Copy-clause-does : goal.returns-in-Copy-clause-does
returns-in-Copy-clause-does g c =
    let truth = (g.W.World.state c.args.world.now).truth in
    if_ok c.copy.result c.copy.ensures.does (λ next h. rw c.in-Copy.is (does_performs truth _ (frames.Body c.args.body) c.args.run.now c.copy.new.run next (h)))

pub returns-in-Attribute-clause-does : goal.returns-in-Attribute-clause-does
returns-in-Attribute-clause-does g c = if_ok c.attribute.result c.attribute.ensures.does (λ next h. rw c.in-Attribute.is h)

pub returns-in-ProcessingInstruction-clause-does : goal.returns-in-ProcessingInstruction-clause-does
returns-in-ProcessingInstruction-clause-does g c =
    if_ok c.instruction.result c.instruction.ensures.does (λ next h. rw c.in-ProcessingInstruction.is h)

pub returns-in-Variable-clause-does : goal.returns-in-Variable-clause-does
returns-in-Variable-clause-does g c = if_ok c.variable.result c.variable.ensures.does (λ next h. rw c.in-Variable.is h)

pub returns-in-Message-clause-does : goal.returns-in-Message-clause-does
returns-in-Message-clause-does g c =
    let truth = (g.W.World.state c.args.world.now).truth in
    if_ok c.message.result c.message.ensures (λ next h. rw c.in-Message.is (does_performs truth _ (frames.Body c.args.body) c.args.run.now c.message.new.run next (h truth)))
