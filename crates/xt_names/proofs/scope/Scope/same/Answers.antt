use Rattle.std.proofs.Common.{◌≡◌, Bool, Decides, sym, subst}
use Rattle.xt_names.proofs.Maps.{same_scopes}
use Rattle.xt_names.proofs.scope.Scope.same.Goals as goal

pub returns : goal.returns
returns c =
    subst (λ (b : Bool). Decides b (c.args.self.now ≡ c.args.other.now)) (sym c.same.ensures)
    (same_scopes _ _ c.args.self.now c.args.other.now c.self.view_is c.other.view_is c.self.invariant c.other.invariant)
