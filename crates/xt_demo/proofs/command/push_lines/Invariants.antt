use Rattle.std.proofs.Common.{◌≡◌, ◌++◌, map, drop}
use Rattle.xt_demo.proofs.command.push_lines.Given as goal

-- the lines so far, and those that are to be added, are all
abbrev pub invariant-loop-line : goal.invariant-loop-line
invariant-loop-line l =
    l.body.items ++ map (λ line. line.now) (drop l.line-index l.lines) ≡ l.initial.body.items ++ map (λ line. line.now) l.lines
