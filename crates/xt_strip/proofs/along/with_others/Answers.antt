use Rattle.std.proofs.Common.{map, ap, ◌∙◌}
use Rattle.spec_document.specs.Forest.{followed}
use Rattle.xt_syntax.specs.SheetView.{space_rule_of}
use Rattle.xt_tree.specs.View.{forest_of}
use Rattle.xt_strip.specs.Along.{shown_count}
use Rattle.xt_strip.specs.View.{around_of}
use Rattle.xt_strip.proofs.Sharing.{all_is}
use Rattle.xt_strip.proofs.along.with_others.Goals as goal

pub returns : goal.returns
returns c shown =
    let around = around_of c.args.around.now in
    let one = c.in_ok-push_all.ensures ∙ ap (λ f. followed f (forest_of c.first-3.result.now)) c.new-nodes.ensures ∙ c.first-3.ensures in
    all_is (map space_rule_of c.args.rules.now) around c.args.from c.args.to c.count_shown-from.result c.count_shown-to.result (forest_of c.args.others.now)
    (forest_of c.args.before.now) (forest_of c.args.seen.now) c.push_all.new.nodes c.push_seen.new.nodes c.push_all-2.new.nodes shown
    (c.count_shown-from.ensures ∙ ap (shown_count around) c.first.ensures) (c.count_shown-to.ensures ∙ ap (shown_count around) c.first-2.ensures)
    one c.in_ok-push_seen.ensures (c.in_ok-push_all-2.ensures ∙ ap (followed c.push_seen.new.nodes) c.later.ensures)
