use Rattle.std.proofs.Common.{◌∙◌, ◌+◌, sym, refl, ap}
use Rattle.std.specs.Str.{chars}
use Rattle.std.proofs.lemmas.Iterator.{YieldsList-from_chars}
use Rattle.std.proofs.lemmas.Iterator.Consumers.{YieldsList-turn, YieldsList-end}
use Rattle.std.proofs.lemmas.List.{length_push}
use Rattle.spec_expression.specs.Strings.{is_selected}
use Rattle.xp_text.proofs.Loops.{selected, characters_at_selected, select_taken, select_left, finished}
use Rattle.xp_text.proofs.positions.substring.Goals as goal
use Rattle.xp_text.proofs.positions.substring.Goals.{then-is_selected+in_ok-push, else-is_selected}

pub loop-character-init : goal.loop-character-init
loop-character-init c =
    record { counted = refl; so_far = rw c.new-part.ensures (characters_at_selected (is_selected c.args.start c.args.count) (chars c.args.text.now)) }

pub loop-character-preserved : goal.loop-character-preserved
loop-character-preserved c =
    let turn = YieldsList-turn (YieldsList-from_chars c.args.text.now c.utf8.text cc) c.loop-character.yielded _ c.loop-character.yielded_by _ _
    c.in-Some.character c.in-Some.is c.next.ensures.steps in
    let here = rw (← c.loop-character.invariant.counted) at turn in
    record {
      counted = rw (length_push c.loop-character.yielded c.in-Some.character) (ap (λ k. k + 1) c.loop-character.invariant.counted);
      so_far = elim c.if-is_selected.branch [
        | then-is_selected+in_ok-push w ↦ (let taken = w.if-is_selected.ensures in rw (w.part-is, w.in_ok-push.ensures.ok)
            (select_taken (is_selected c.args.start c.args.count) (chars c.args.text.now) c.loop-character.part _ c.loop-character.passed
            c.in-Some.character here (sym taken) c.loop-character.invariant.so_far))
        | else-is_selected w ↦ (let left = w.if-is_selected.ensures in rw w.part-is
            (select_left (is_selected c.args.start c.args.count) (chars c.args.text.now) c.loop-character.part _ c.loop-character.passed c.in-Some.character
            here (sym left) c.loop-character.invariant.so_far))
      ];
    }

pub returns : goal.returns
returns c =
    let end = YieldsList-end (YieldsList-from_chars c.args.text.now c.utf8.text cc) c.loop-character.yielded _ c.loop-character.yielded_by _ _ c.in-None.is
    c.next.ensures.steps in
    finished (selected (is_selected c.args.start c.args.count) (c.loop-character.passed + 1)) refl c.loop-character.part (chars c.args.text.now) _
    c.loop-character.passed (c.loop-character.invariant.counted ∙ end.1) c.loop-character.invariant.so_far
