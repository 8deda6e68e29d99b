use Rattle.std.proofs.Common.{refl, ◌+◌, length}
use Rattle.std.specs.Str.{chars}
use Rattle.xp_parse.proofs.Cuts.{begins_by, word_local, past_local}
use Rattle.xp_parse.proofs.cut.word_at.Goals as goal

pub returns-in-Some : goal.returns-in-Some
returns-in-Some c = λ text w.
    let name = chars c.args.name.now in
    let behind = chars c.args.behind.now in
    let local = chars c.in-Some.local.now in
    let l = c.in-Some.ensures {u = tt} in
    begins_by _ _ _ (length name + 1 + length local) text (word_local c.args.after_operand text name behind local w.characters w.behind l.characters l.some)
    refl
    (past_local (length name) (length local) text behind (chars c.in-Some.rest.now) w.behind l.behind)

pub returns-in-None : goal.returns-in-None
returns-in-None c = λ text w. c.without_local.ensures text w (c.in-None.ensures {u = tt})
