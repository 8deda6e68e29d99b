use Rattle.std.proofs.Common.{◌≡◌, ◌-◌}
use Rattle.spec_result.specs.Shape.{first_free, new_prefix}
use Rattle.xt_result.proofs.declare.new_prefix.Given as goal

-- none of those that were tried is free
abbrev pub invariant-loop-tried : goal.invariant-loop-tried
invariant-loop-tried l = first_free l.scope l.uri (l.most - l.tried) l.tried ≡ new_prefix l.scope l.uri
