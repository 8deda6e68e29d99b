use Rattle.std.proofs.Common.{length, sym, ◌∙◌}
use Rattle.std.specs.Str.{chars}
use Rattle.std.proofs.lemmas.Iterator.{YieldsList-from_chars}
use Rattle.std.proofs.lemmas.Iterator.Consumers.{YieldsList-turn, YieldsList-end}
use Rattle.std.proofs.lemmas.List.{length_push}
use Rattle.xt_structure.proofs.WordLists.{words_begin, words_space, words_more, words_end}
use Rattle.xt_structure.proofs.text.words.Goals as goal

pub loop-character-init : goal.loop-character-init
loop-character-init c = rw (c.new-list.ensures.items, c.new-word.ensures) (words_begin (chars c.args.text.now))

pub loop-character-preserved-then-is_space : goal.loop-character-preserved-then-is_space
loop-character-preserved-then-is_space c =
    let turn = YieldsList-turn (YieldsList-from_chars c.args.text.now c.utf8.text cc) c.loop-character.yielded _ c.loop-character.yielded_by _ _
    c.in-Some.character c.in-Some.is c.next.ensures.steps in
    rw (length_push c.loop-character.yielded c.in-Some.character, c.in_ok-push_word.ensures, c.new-word-then-is_space.ensures)
    (words_space (chars c.args.text.now) c.loop-character.list.items _ c.loop-character.word (length c.loop-character.yielded) c.in-Some.character turn
    (sym c.is_space.ensures ∙ c.if-is_space.true) c.loop-character.invariant)

pub loop-character-preserved : goal.loop-character-preserved
loop-character-preserved c =
    let turn = YieldsList-turn (YieldsList-from_chars c.args.text.now c.utf8.text cc) c.loop-character.yielded _ c.loop-character.yielded_by _ _
    c.in-Some.character c.in-Some.is c.next.ensures.steps in
    rw (length_push c.loop-character.yielded c.in-Some.character, c.in_ok-push.ensures.ok)
    (words_more (chars c.args.text.now) c.loop-character.list.items _ c.loop-character.word (length c.loop-character.yielded) c.in-Some.character turn
    (sym c.is_space.ensures ∙ c.if-is_space.false) c.loop-character.invariant)

pub returns : goal.returns
returns c =
    let end = YieldsList-end (YieldsList-from_chars c.args.text.now c.utf8.text cc) c.loop-character.yielded _ c.loop-character.yielded_by _ _ c.in-None.is
    c.next.ensures.steps in
    c.in_ok-push_word-2.ensures
    ∙ words_end (chars c.args.text.now) c.loop-character.list.items _ c.loop-character.word (length c.loop-character.yielded) end.1 c.loop-character.invariant
