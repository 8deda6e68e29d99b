use Rattle.std.specs.Str.{chars}
use Rattle.xp_parse.proofs.Cuts.{cuts_some, cuts_none, variable_some, no_variable}
use Rattle.xp_parse.proofs.cut.variable_at.Goals as goal

pub returns-in-Some : goal.returns-in-Some
returns-in-Some c =
    let cs = chars c.args.text.now in
    cuts_some _ _ _ (c.variable_named.ensures cs (c.in-Some.ensures {u = tt})) (variable_some cs)

pub returns-in-None : goal.returns-in-None
returns-in-None c = cuts_none _ _ (no_variable (chars c.args.text.now) (c.in-None.ensures {u = tt}))
