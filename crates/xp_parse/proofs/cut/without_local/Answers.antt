use Rattle.std.proofs.Common.{refl, ◌+◌, length}
use Rattle.std.specs.Str.{chars}
use Rattle.xp_parse.proofs.Cuts.{begins_by, word_any, word_alone, past_star}
use Rattle.xp_parse.proofs.cut.without_local.Goals as goal

pub returns-in-Some : goal.returns-in-Some
returns-in-Some c = λ text w none.
    let name = chars c.args.name.now in
    let behind = chars c.args.behind.now in
    let any = c.in-Some.ensures {u = tt} in
    begins_by _ _ _ (length name + 2) text (word_any c.args.after_operand text name behind w.characters w.behind none any.0) refl
    (past_star (length name) text behind (chars c.in-Some.rest.now) w.behind any.1)

pub returns-in-None : goal.returns-in-None
returns-in-None c = λ text w none.
    let name = chars c.args.name.now in
    let behind = chars c.args.behind.now in
    begins_by _ _ _ (length name) text (word_alone c.args.after_operand text name behind w.characters w.behind none (c.in-None.ensures {u = tt}))
    c.word.ensures w.behind
