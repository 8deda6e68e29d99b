use Rattle.spec_trees.proofs.Growing.{grown_end, grown_asked, grown_entered, grown_levels, grown_whole}
use Rattle.spec_trees.proofs.laws.trees_grow.Goals as goal

pub returns-clause-end : goal.returns-clause-end
returns-clause-end c = grown_end

pub returns-clause-asked : goal.returns-clause-asked
returns-clause-asked c = grown_asked

pub returns-clause-entered : goal.returns-clause-entered
returns-clause-entered c = grown_entered

pub returns-clause-levels : goal.returns-clause-levels
returns-clause-levels c = grown_levels

pub returns-clause-whole : goal.returns-clause-whole
returns-clause-whole c = grown_whole
