use Rattle.std.proofs.Common.{[]}
use Rattle.xt_io.proofs.Holding.{given, gathered, none_kept, over_at, takes_over_at}
use Rattle.xt_io.proofs.lines.Lines.next_line.Goals as goal

pub returns-in-Some-clause-line : goal.returns-in-Some-clause-line
returns-in-Some-clause-line g c =
    given _ _ c.loop-line.self-inside.buffer c.take_ended.new.self _ _ c.loop-line.invariant.0 (rw c.in-Some.is at c.in_ok-line.ensures.ended)
    c.in_ok-line.ensures.still

pub returns-in-Over-clause-over : goal.returns-in-Over-clause-over
returns-in-Over-clause-over g c =
    let all = rw c.in_default.is at c.in_ok-line.ensures.gathered in
    let fill = rw c.in-Over.is at c.in_ok-fill.ensures.ok in
    λ _. over_at _ _ [] c.take_ended.new.self c.fill.new.self _ _
    (gathered _ _ c.loop-line.self-inside.buffer c.take_ended.new.self _ c.loop-line.invariant.0 all.0 all.1 c.in_ok-line.ensures.still)
    (none_kept c.take_ended.new.self all.1) fill

pub returns-in-Over-clause-takes : goal.returns-in-Over-clause-takes
returns-in-Over-clause-takes g c =
    let all = rw c.in_default.is at c.in_ok-line.ensures.gathered in
    let fill = rw c.in-Over.is at c.in_ok-fill.ensures.ok in
    takes_over_at _ _ [] c.take_ended.new.self c.fill.new.self _ _
    (gathered _ _ c.loop-line.self-inside.buffer c.take_ended.new.self _ c.loop-line.invariant.0 all.0 all.1 c.in_ok-line.ensures.still) fill
