use Rattle.std.proofs.Common.{◌++◌, [], append-nil, sym, ap, ◌∙◌}
use Rattle.std.proofs.lemmas.Str.{IsUtf8-past_char}
use Rattle.xt_pyx.proofs.Escapes.{read_behind_more, read_backslash, read_plain, read_all, rest_read}
use Rattle.xt_pyx.proofs.escape.unescape.Goals as goal
use Rattle.xt_pyx.proofs.escape.unescape.Goals.{then-is_behind_backslash-2+in_ok-push-2, else-is_behind_backslash-2}

pub loop-character-preserved-then-is_behind_backslash : goal.loop-character-preserved-then-is_behind_backslash
loop-character-preserved-then-is_behind_backslash c =
    let known = c.loop-character.invariant in
    let step = c.in-Some.ensures.steps.0 in
    record {
      utf8 = IsUtf8-past_char _ _ _ known.utf8 step;
      so_far = read_behind_more _ _ _ _ _ _ c.loop-character.is_behind_backslash known.utf8 step c.if-is_behind_backslash.true
          c.in_ok-push_behind_backslash.ensures known.so_far;
    }

pub loop-character-preserved-then-character-eq92 : goal.loop-character-preserved-then-character-eq92
loop-character-preserved-then-character-eq92 c =
    let known = c.loop-character.invariant in
    let step = c.in-Some.ensures.steps.0 in
    record {
      utf8 = IsUtf8-past_char _ _ _ known.utf8 step;
      so_far = read_backslash _ _ _ _ _ c.loop-character.is_behind_backslash known.utf8 step c.if-is_behind_backslash.false c.if-character-eq92.true
          known.so_far;
    }

pub loop-character-preserved : goal.loop-character-preserved
loop-character-preserved c =
    let known = c.loop-character.invariant in
    let step = c.in-Some.ensures.steps.0 in
    record {
      utf8 = IsUtf8-past_char _ _ _ known.utf8 step;
      so_far = read_plain _ _ _ _ _ _ c.loop-character.is_behind_backslash known.utf8 step c.if-is_behind_backslash.false c.if-character-eq92.false
          c.in_ok-push.ensures.ok known.so_far;
    }

pub returns : goal.returns
returns c =
    let all = read_all _ _ _ c.loop-character.is_behind_backslash c.in-None.ensures.steps.0.0 c.loop-character.invariant.so_far in
    elim c.if-is_behind_backslash-2.branch [
      | then-is_behind_backslash-2+in_ok-push-2 w ↦ w.text-is ∙ w.in_ok-push-2.ensures.ok
          ∙ ap (λ b. c.loop-character.text ++ rest_read b []) (sym w.if-is_behind_backslash-2.true) ∙ all
      | else-is_behind_backslash-2 w ↦ w.text-is ∙ sym (append-nil c.loop-character.text)
          ∙ ap (λ b. c.loop-character.text ++ rest_read b []) (sym w.if-is_behind_backslash-2.false) ∙ all
    ]
