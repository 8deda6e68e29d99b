use Rattle.std.proofs.lemmas.Str.{IsUtf8-past_char}
use Rattle.xt_result.proofs.Escaped.{instruction_more, instruction_all}
use Rattle.xt_result.proofs.escape.instruction_text.Goals as goal

pub loop-character-preserved : goal.loop-character-preserved
loop-character-preserved c =
    let known = c.loop-character.invariant in
    let step = c.in-Some.ensures.steps.0 in
    record {
      utf8 = IsUtf8-past_char _ _ _ known.utf8 step;
      so_far = instruction_more _ _ _ _ _ _ c.loop-character.is_behind_mark known.utf8 step c.in_ok-push_behind.ensures known.so_far;
    }

pub returns : goal.returns
returns c = instruction_all _ _ _ c.loop-character.is_behind_mark c.in-None.ensures.steps.0.0 c.loop-character.invariant.so_far
