use Rattle.std.proofs.Common.{length}
use Rattle.std.proofs.lemmas.Iterator.{YieldsList-from_chars}
use Rattle.std.proofs.lemmas.Iterator.Consumers.{YieldsList-turn, YieldsList-end}
use Rattle.std.proofs.lemmas.List.{length_push}
use Rattle.std.specs.Str.{chars}
use Rattle.xt_number_format.proofs.Written.{one_read, zero_read, other_read, more_read, all_read}
use Rattle.xt_number_format.proofs.writing.is_decimal.Goals as goal

pub returns-then-is_ended : goal.returns-then-is_ended
returns-then-is_ended c =
    let turn = YieldsList-turn (YieldsList-from_chars c.args.token.now c.utf8.token cc) c.loop-character.yielded _ c.loop-character.yielded_by _ _
    c.in-Some.character c.in-Some.is c.next.ensures.steps in
    more_read (chars c.args.token.now) (length c.loop-character.yielded) c.in-Some.character _ c.loop-character.is_ended turn c.if-is_ended.true
    c.loop-character.invariant

pub loop-character-preserved-then-character-eq49 : goal.loop-character-preserved-then-character-eq49
loop-character-preserved-then-character-eq49 c =
    let turn = YieldsList-turn (YieldsList-from_chars c.args.token.now c.utf8.token cc) c.loop-character.yielded _ c.loop-character.yielded_by _ _
    c.in-Some.character c.in-Some.is c.next.ensures.steps in
    rw (length_push c.loop-character.yielded c.in-Some.character)
    (one_read (chars c.args.token.now) (length c.loop-character.yielded) c.in-Some.character _ c.loop-character.is_ended turn c.if-is_ended.false
    c.if-character-eq49.true c.loop-character.invariant)

pub returns-then-character-ne48 : goal.returns-then-character-ne48
returns-then-character-ne48 c =
    let turn = YieldsList-turn (YieldsList-from_chars c.args.token.now c.utf8.token cc) c.loop-character.yielded _ c.loop-character.yielded_by _ _
    c.in-Some.character c.in-Some.is c.next.ensures.steps in
    other_read (chars c.args.token.now) (length c.loop-character.yielded) c.in-Some.character _ c.loop-character.is_ended turn c.if-is_ended.false
    c.if-character-eq49.false c.if-character-ne48.true c.loop-character.invariant

pub loop-character-preserved : goal.loop-character-preserved
loop-character-preserved c =
    let turn = YieldsList-turn (YieldsList-from_chars c.args.token.now c.utf8.token cc) c.loop-character.yielded _ c.loop-character.yielded_by _ _
    c.in-Some.character c.in-Some.is c.next.ensures.steps in
    rw (length_push c.loop-character.yielded c.in-Some.character)
    (zero_read (chars c.args.token.now) (length c.loop-character.yielded) c.in-Some.character _ c.loop-character.is_ended turn c.if-is_ended.false
    c.if-character-ne48.false c.loop-character.invariant)

pub returns : goal.returns
returns c =
    let end = YieldsList-end (YieldsList-from_chars c.args.token.now c.utf8.token cc) c.loop-character.yielded _ c.loop-character.yielded_by _ _ c.in-None.is
    c.next.ensures.steps in
    all_read (chars c.args.token.now) (length c.loop-character.yielded) _ c.loop-character.is_ended end.1 c.loop-character.invariant
