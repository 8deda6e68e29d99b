use Rattle.std.proofs.Common.{◌≡◌, ◌++◌}
use Rattle.spec_session.specs.Generated.{rows_lines, state_after}
use Rattle.xt_demo.proofs.first.push_rows.Given as goal

-- the lines so far, and those of the rows that are left, are all
abbrev pub invariant-loop-left : goal.invariant-loop-left
invariant-loop-left l =
    (l.body.items ++ rows_lines l.left l.draws.state ≡ l.fn.body.items ++ rows_lines l.fn.rows l.fn.draws.state)
    × (state_after l.left l.draws.state ≡ state_after l.fn.rows l.fn.draws.state)

abbrev pub decreases-loop-left : goal.decreases-loop-left
decreases-loop-left l = l.left
