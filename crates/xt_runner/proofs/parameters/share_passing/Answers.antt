use Rattle.xt_runner.proofs.Passed.{same_rules, same_sorted, same_items, same_template}
use Rattle.xt_runner.proofs.parameters.share_passing.Goals as goal

pub returns-in_ok-copy_application-in-Rules : goal.returns-in_ok-copy_application-in-Rules
returns-in_ok-copy_application-in-Rules c = same_rules c.args.to.now _ _ c.in-Rules.is c.in_ok-copy_application-in-Rules.ensures

pub returns-in_ok-copy_application-in-Sorted : goal.returns-in_ok-copy_application-in-Sorted
returns-in_ok-copy_application-in-Sorted c =
    same_sorted c.args.to.now _ _ _ _ _ _ c.in-Sorted.is c.in_ok-keys-in-Sorted.ensures c.in_ok-here-in-Sorted.ensures.here c.in_ok-copy_application-in-Sorted.ensures

pub returns-in_ok-copy_items-in-Items : goal.returns-in_ok-copy_items-in-Items
returns-in_ok-copy_items-in-Items c =
    same_items c.args.to.now _ _ _ _ _ _ c.in-Items.is c.in_ok-keys-in-Items.ensures c.in_ok-here-in-Items.ensures.here c.in_ok-copy_items-in-Items.ensures

pub returns-in_ok-copy-in-Template : goal.returns-in_ok-copy-in-Template
returns-in_ok-copy-in-Template c = same_template c.args.to.now _ _ _ c.in-Template.is c.in_ok-copy-in-Template.ensures
