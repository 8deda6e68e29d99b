use Rattle.xt_import.specs.View.{modules_in}
use Rattle.xt_import.proofs.Gathering.{takes_own, takes_import}
use Rattle.xt_import.proofs.gather.take.Goals as goal

pub returns-in_ok-push-in-Own : goal.returns-in_ok-push-in-Own
returns-in_ok-push-in-Own c =
    takes_own (modules_in c.args.modules.now.entries) _ _ _ _ c.args.first c.in-Own.part c.in-Own.is c.in_ok-push-in-Own.ensures.items

pub returns-in_ok-push-in-Imports : goal.returns-in_ok-push-in-Imports
returns-in_ok-push-in-Imports c =
    takes_import (modules_in c.args.modules.now.entries) _ _ _ _ c.args.first c.in-Imports.target c.in-Imports.is c.in_ok-push-in-Imports.ensures.items
