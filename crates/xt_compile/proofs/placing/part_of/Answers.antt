use Rattle.xt_import.specs.Parts.{part_in}
use Rattle.xt_import.specs.View.{modules_in}
use Rattle.xt_compile.proofs.Putting.{found_on, stays_on}
use Rattle.xt_compile.proofs.placing.part_of.Goals as goal

pub returns-in-None-clause-found : goal.returns-in-None-clause-found
returns-in-None-clause-found c =
    found_on (modules_in c.args.modules.now.entries) c.part_anew.result c.args.placing.now c.at_hand.new.placing (part_in c.args.part.now) (c.in_ok-found.ensures {u = tt}).stays
    c.part_anew.ensures.found

pub returns-in-None-clause-stays : goal.returns-in-None-clause-stays
returns-in-None-clause-stays c =
    stays_on (modules_in c.args.modules.now.entries) c.part_anew.result c.args.placing.now c.at_hand.new.placing c.part_anew.new.placing (c.in_ok-found.ensures {u = tt}).stays
    c.part_anew.ensures.stays
