use Rattle.std.proofs.Common.{◌∙◌, sym, refl, ◌==◌, not, length}
use Rattle.std.specs.Str.{chars}
use Rattle.std.proofs.lemmas.Iterator.{YieldsList-from_chars}
use Rattle.std.proofs.lemmas.Iterator.Consumers.{YieldsList-turn, YieldsList-end}
use Rattle.std.proofs.lemmas.List.{length_push}
use Rattle.xp_text.proofs.Loops.{normal_rest, normal_rest_is, normal_space, normal_word, finished}
use Rattle.xp_text.proofs.rewriting.normalize.Goals as goal

pub loop-character-init : goal.loop-character-init
loop-character-init c = rw c.new-normal.ensures (normal_rest_is (chars c.args.text.now))

pub loop-character-preserved-then-is_space : goal.loop-character-preserved-then-is_space
loop-character-preserved-then-is_space c =
    let turn = YieldsList-turn (YieldsList-from_chars c.args.text.now c.utf8.text cc) c.loop-character.yielded _ c.loop-character.yielded_by _ _
    c.in-Some.character c.in-Some.is c.next.ensures.steps in
    rw (length_push c.loop-character.yielded c.in-Some.character)
    (normal_space (chars c.args.text.now) c.loop-character.normal _ _ c.loop-character.is_apart (length c.loop-character.yielded) c.in-Some.character turn
    (sym c.is_space.ensures ∙ c.if-is_space.true) c.loop-character.invariant)

pub loop-character-preserved : goal.loop-character-preserved
loop-character-preserved c =
    let turn = YieldsList-turn (YieldsList-from_chars c.args.text.now c.utf8.text cc) c.loop-character.yielded _ c.loop-character.yielded_by _ _
    c.in-Some.character c.in-Some.is c.next.ensures.steps in
    rw (length_push c.loop-character.yielded c.in-Some.character)
    (normal_word (chars c.args.text.now) c.loop-character.normal c.push_word_part.new.normal _ c.loop-character.is_apart (length c.loop-character.yielded)
    c.in-Some.character turn (sym c.is_space.ensures ∙ c.if-is_space.false) c.in_ok-push_word_part.ensures c.loop-character.invariant)

pub returns : goal.returns
returns c =
    let end = YieldsList-end (YieldsList-from_chars c.args.text.now c.utf8.text cc) c.loop-character.yielded _ c.loop-character.yielded_by _ _ c.in-None.is
    c.next.ensures.steps in
    finished (normal_rest (not (length c.loop-character.normal == 0)) c.loop-character.is_apart) refl c.loop-character.normal (chars c.args.text.now) _
    (length c.loop-character.yielded) end.1 c.loop-character.invariant
