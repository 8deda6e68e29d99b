use Rattle.std.proofs.lemmas.Str.{IsUtf8-past_char}
use Rattle.xt_result.proofs.Escaped.{comment_more, comment_all}
use Rattle.xt_result.proofs.escape.comment_text.Goals as goal

pub loop-character-preserved : goal.loop-character-preserved
loop-character-preserved c =
    let known = c.loop-character.invariant in
    let step = c.in-Some.ensures.steps.0 in
    record {
      utf8 = IsUtf8-past_char _ _ _ known.utf8 step;
      so_far = comment_more _ _ _ _ _ _ c.loop-character.is_behind_hyphen known.utf8 step c.in_ok-push_behind.ensures known.so_far;
    }

pub returns : goal.returns
returns c = comment_all _ _ _ _ c.loop-character.is_behind_hyphen c.in-None.ensures.steps.0.0 c.in_ok-push_space.ensures c.loop-character.invariant.so_far
