use Rattle.std.proofs.Common.{◌≡◌, ◌++◌, ◌∷◌, drop}
use Rattle.std.specs.Prelude.{decimal}
use Rattle.std.specs.List.{flat_map}
use Rattle.xt_wire.proofs.write.push_place.Given as goal

-- what is written, and what is to be written of the rest, are all
abbrev pub invariant-loop-position : goal.invariant-loop-position
invariant-loop-position l =
    l.text ++ flat_map (λ position. 0x2F ∷ decimal position) (drop l.position-index l.position-items)
    ≡ l.initial.text ++ flat_map (λ position. 0x2F ∷ decimal position) l.position-items
