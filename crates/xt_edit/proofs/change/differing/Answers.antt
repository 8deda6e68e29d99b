use Rattle.std.proofs.Common.{◌-◌, length, take, drop, arith, length-drop}
use Rattle.std.proofs.lemmas.List.{take_all}
use Rattle.xt_edit.specs.Telling.{number_of}
use Rattle.xt_edit.proofs.Edges.{differing_are}
use Rattle.xt_edit.proofs.change.differing.Goals as goal

pub returns : goal.returns
returns c =
    let old = c.args.old.now in
    let new = c.args.new.now in
    let front = c.common_front-front.result in
    let more = length-drop front old in
    let less = length-drop front new in
    differing_are number_of old new (take (length old - front) (drop front old)) (take (length new - front) (drop front new)) front
    c.common_end-end.result (take_all _ (drop front old) (omega arith)) (take_all _ (drop front new) (omega arith)) c.common_front-front.ensures.rests
    c.common_end-end.ensures.rests c.common_end-end.ensures.within_old c.common_end-end.ensures.within_new
