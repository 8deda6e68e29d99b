use Rattle.std.proofs.Common.{refl, ◌∷◌, [], length}
use Rattle.std.specs.Str.{chars}
use Rattle.std.proofs.lemmas.Iterator.{YieldsList-from_chars}
use Rattle.std.proofs.lemmas.Iterator.Consumers.{YieldsList-turn, YieldsList-end}
use Rattle.std.proofs.lemmas.List.{length_push}
use Rattle.spec_expression.specs.Strings.{translated}
use Rattle.xp_text.proofs.Loops.{translate_more, translate_dropped, finished}
use Rattle.xp_text.proofs.rewriting.translate.Goals as goal

pub loop-character-preserved-in-Continue-1 : goal.loop-character-preserved-in-Continue-1
loop-character-preserved-in-Continue-1 c =
    let turn = YieldsList-turn (YieldsList-from_chars c.args.text.now c.utf8.text cc) c.loop-character.yielded _ c.loop-character.yielded_by _ _
    c.in-Some.character c.in-Some.is c.next.ensures.steps in
    rw (length_push c.loop-character.yielded c.in-Some.character, c.in_ok-push.ensures.ok)
    (translate_more (chars c.args.text.now) (chars c.args.from.now) (chars c.args.to.now) c.loop-character.translation
    (c.in-Some-replacement.replacement ∷ []) _
    (length c.loop-character.yielded) c.in-Some.character turn c.in-Some-replacement.ensures c.loop-character.invariant)

pub loop-character-preserved : goal.loop-character-preserved
loop-character-preserved c =
    let turn = YieldsList-turn (YieldsList-from_chars c.args.text.now c.utf8.text cc) c.loop-character.yielded _ c.loop-character.yielded_by _ _
    c.in-Some.character c.in-Some.is c.next.ensures.steps in
    rw (length_push c.loop-character.yielded c.in-Some.character)
    (translate_dropped (chars c.args.text.now) (chars c.args.from.now) (chars c.args.to.now) c.loop-character.translation _
    (length c.loop-character.yielded) c.in-Some.character turn c.in_default.ensures c.loop-character.invariant)

pub returns : goal.returns
returns c =
    let end = YieldsList-end (YieldsList-from_chars c.args.text.now c.utf8.text cc) c.loop-character.yielded _ c.loop-character.yielded_by _ _ c.in-None.is
    c.next.ensures.steps in
    finished (λ t. translated t (chars c.args.from.now) (chars c.args.to.now)) refl c.loop-character.translation (chars c.args.text.now) _
    (length c.loop-character.yielded) end.1 c.loop-character.invariant
