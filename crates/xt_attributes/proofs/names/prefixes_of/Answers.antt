use Rattle.std.proofs.Common.{◌∙◌, ◌+◌, drop, ap, arith}
use Rattle.spec_compile.specs.Value.{each, prefix_of}
use Rattle.xt_attributes.specs.Gathering.{appended, gathered_in}
use Rattle.xt_attributes.proofs.Parts.{all_parts, first_part, next_part}
use Rattle.xt_attributes.proofs.names.prefixes_of.Goals as goal

pub loop-word-init : goal.loop-word-init
loop-word-init c = first_part (prefix_of c.args.scope.now) c.args.words.now _ c.new-prefixes.ensures

pub returns : goal.returns
returns c =
    c.finish.ensures
    ∙ all_parts (prefix_of c.args.scope.now) c.args.words.now c.loop-word.word-index (gathered_in c.loop-word.prefixes) (omega arith) c.loop-word.invariant

pub loop-word-preserved : goal.loop-word-preserved
loop-word-preserved c =
    ap (λ so_far. appended so_far (each (prefix_of c.args.scope.now) (drop (c.loop-word.word-index + 1) c.args.words.now))) c.in_ok-push.ensures
    ∙ next_part (prefix_of c.args.scope.now) c.args.words.now c.loop-word.word-index _ (gathered_in c.loop-word.prefixes) _ (omega arith)
    (c.in_ok-prefix.ensures ∙ ap (prefix_of c.args.scope.now) c.word-item.is) c.loop-word.invariant
