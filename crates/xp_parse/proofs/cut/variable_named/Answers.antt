use Rattle.std.proofs.Common.{refl, ◌+◌, ◌∷◌, ◌∙◌, length}
use Rattle.std.specs.Str.{chars}
use Rattle.xp_parse.proofs.Cuts.{begins_by, variable_local, variable_alone, past_variable, behind_sign}
use Rattle.xp_parse.proofs.cut.variable_named.Goals as goal

pub returns-in-Some : goal.returns-in-Some
returns-in-Some c = λ text w.
    let name = chars c.args.name.now in
    let behind = chars c.args.behind.now in
    let local = chars c.in-Some.local.now in
    let l = c.in-Some.ensures {u = tt} in
    begins_by _ _ _ (1 + length name + 1 + length local) (0x24 ∷ text)
    (variable_local text name behind local w.characters w.some w.behind l.characters l.some) refl
    (past_variable (length name) (length local) text behind (chars c.in-Some.rest.now) w.behind l.behind)

pub returns-in-None : goal.returns-in-None
returns-in-None c = λ text w.
    let name = chars c.args.name.now in
    let behind = chars c.args.behind.now in
    begins_by _ _ _ (1 + length name) (0x24 ∷ text) (variable_alone text name behind w.characters w.some w.behind (c.in-None.ensures {u = tt})) refl
    (w.behind ∙ behind_sign (length name) 0x24 text)
