use Rattle.std.proofs.lemmas.Str.{IsUtf8-past_char}
use Rattle.std.specs.Str.{chars}
use Rattle.xt_pyx.proofs.Escapes.{written_more, written_all, begun_more, cut_short, on_err}
use Rattle.xt_pyx.proofs.escape.push_escaped.Goals as goal

pub loop-character-preserved : goal.loop-character-preserved
loop-character-preserved c =
    let known = c.loop-character.invariant in
    let step = c.in-Some.ensures.steps.0 in
    record {
      utf8 = IsUtf8-past_char _ _ _ known.utf8 step;
      begun = begun_more _ _ _ c.in-Some.character known.begun c.in_ok-push_escape.ensures.ok;
      so_far = written_more _ _ _ _ _ _ known.utf8 step c.in_ok-push_escape.ensures.ok known.so_far;
    }

pub returns-clause-ok : goal.returns-clause-ok
returns-clause-ok c = written_all _ _ _ c.in-None.ensures.steps.0.0 c.loop-character.invariant.so_far

pub returns-in_err-push_escape-clause-err : goal.returns-in_err-push_escape-clause-err
returns-in_err-push_escape-clause-err c =
    let known = c.loop-character.invariant in
    on_err c.from_residual.result
    (cut_short _ _ _ (chars c.args.more.now) _ _ c.in-Some.character known.utf8 c.in-Some.ensures.steps.0 known.begun c.in_err-push_escape.ensures.err
    known.so_far)
