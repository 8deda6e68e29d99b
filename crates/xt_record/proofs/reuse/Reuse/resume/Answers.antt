use Rattle.xt_record.proofs.reuse.Reuse.resume.Goals as goal

pub invariant_of-recalling : goal.invariant_of-recalling
invariant_of-recalling g c =
    record { sure = ∣ c.done_in_place.ensures (g.W.World.state c.args.world.now).truth c.requires.sure.spared ∣₁ }
