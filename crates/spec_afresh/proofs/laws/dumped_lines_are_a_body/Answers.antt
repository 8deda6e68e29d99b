use Rattle.spec_afresh.proofs.Dumped.{dumped}
use Rattle.spec_afresh.proofs.Held.{held-writable}
use Rattle.spec_afresh.proofs.laws.dumped_lines_are_a_body.Goals as goal

pub returns : goal.returns
returns c commands replies state r name tree e = dumped tree (held-writable commands replies state r name tree e)
