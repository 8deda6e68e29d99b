use Rattle.std.proofs.Common.{◌≡◌, drop, map}
use Rattle.std.specs.List.{list_any}
use Rattle.spec_compile.specs.Walk.{is_key_start}
use Rattle.xt_syntax.specs.PartView.{alternative_of}
use Rattle.xt_attributes.proofs.walk.starts_with_key.Given as goal

abbrev pub invariant-loop-alternative : goal.invariant-loop-alternative
invariant-loop-alternative l = list_any (λ a. is_key_start a.start) (map alternative_of (drop l.alternative-index l.alternative-items)) ≡ list_any (λ a. is_key_start a.start) (map alternative_of l.alternative-items)
