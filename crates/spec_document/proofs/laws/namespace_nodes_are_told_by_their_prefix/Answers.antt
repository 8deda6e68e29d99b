use Rattle.spec_document.proofs.ByPrefix.{by_prefix}
use Rattle.spec_document.proofs.laws.namespace_nodes_are_told_by_their_prefix.Goals as goal

pub returns : goal.returns
returns c = by_prefix
