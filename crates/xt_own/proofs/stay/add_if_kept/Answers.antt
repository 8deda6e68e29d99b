use Rattle.xt_own.proofs.SideBySide.{some_is}
use Rattle.xt_own.proofs.stay.add_if_kept.Goals as goal

pub add_kept-requires : goal.add_kept-requires
add_kept-requires c = some_is _ c.in-Some.is c.requires

pub returns-in-Some : goal.returns-in-Some
returns-in-Some c = λ s was parameters document after stays.
    c.add_kept.ensures s was parameters document after (some_is _ c.in-Some.is stays)
