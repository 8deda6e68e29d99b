use Rattle.std.proofs.Common.{sym, ◌∙◌}
use Rattle.xt_names.proofs.Maps.{found_is}
use Rattle.xt_names.proofs.scope.Scope.resolve.Goals as goal

pub returns : goal.returns
returns c = c.find.ensures ∙ sym (found_is _ c.args.self.now _ c.self.view_is c.self.invariant)
