use Rattle.xp_axes.proofs.Owned.{root_bare}
use Rattle.xp_axes.proofs.owner.root_owner.Goals as goal

pub returns : goal.returns
returns c = root_bare c.args.document.now c.root.result.number c.root.ensures
