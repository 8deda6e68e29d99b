use Rattle.xt_session.proofs.Counting.{all_counted, counted_at_start, counted_on}
use Rattle.xt_session.proofs.demo.answer_by.Goals as goal

pub loop-command-init : goal.loop-command-init
loop-command-init c = (
  rw c.new-commands.ensures (counted_at_start c.args.size _ c.new-counts.result c.requires.most
      (λ i. record { documents = c.requires.present i; made = c.requires.made i; pending = c.requires.pending i }) c.new-counts.ensures.none),
  c.requires.current,
  c.new-counts.ensures.small,
)

pub loop-command-preserved : goal.loop-command-preserved
loop-command-preserved c =
    let first = rw c.in-Some.is at c.in_ok-command.ensures.some in (
      counted_on c.loop-command.invariant.0 first c.answer_one.ensures.turns,
      c.answer_one.ensures.current,
      c.answer_one.ensures.small,
    )

pub returns : goal.returns
returns c = let none = rw c.in_default.is at c.in_ok-command.ensures.none in all_counted c.loop-command.invariant.0 none.0
