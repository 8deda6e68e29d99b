use Rattle.std.proofs.Common.{sym, ap, ◌∙◌}
use Rattle.std.proofs.lemmas.List.{nil_from_length}
use Rattle.std.proofs.lemmas.Result.{on_ok_weaker}
use Rattle.spec_edit.specs.Splice.{met}
use Rattle.xt_tree.specs.View.{forest_of}
use Rattle.xt_edit.proofs.Seams.{met-none, met-first}
use Rattle.xt_edit.proofs.seam.push_all.Goals as goal

pub returns-in-None : goal.returns-in-None
returns-in-None c =
    sym (ap (λ xs. met c.args.joined.now (forest_of xs)) (nil_from_length c.args.nodes.now c.in-None.ensures.cases) ∙ met-none c.args.joined.now)

pub returns-in_ok-push_meeting-in-Some : goal.returns-in_ok-push_meeting-in-Some
returns-in_ok-push_meeting-in-Some c =
    on_ok_weaker c.push_others.result
    (λ all. all ∙ met-first c.args.joined.now c.push_meeting.new.self c.args.nodes.now c.in-Some.first.now c.in-Some.others.now c.in-Some.ensures.cases.0
    c.in_ok-push_meeting-in-Some.ensures)
    c.push_others.ensures
