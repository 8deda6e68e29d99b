use Rattle.std.proofs.Common.{◌∙◌, ◌+◌, drop, ap, arith}
use Rattle.spec_compile.specs.Value.{each, name_of}
use Rattle.xt_attributes.specs.Gathering.{appended, gathered_in}
use Rattle.xt_attributes.proofs.Parts.{all_parts, first_part, next_part}
use Rattle.xt_attributes.proofs.names.names_of.Goals as goal

pub loop-word-init : goal.loop-word-init
loop-word-init c = first_part (name_of c.args.scope.now) c.args.words.now _ c.new-names.ensures

pub returns : goal.returns
returns c =
    c.finish.ensures
    ∙ all_parts (name_of c.args.scope.now) c.args.words.now c.loop-word.word-index (gathered_in c.loop-word.names) (omega arith) c.loop-word.invariant

pub loop-word-preserved : goal.loop-word-preserved
loop-word-preserved c =
    ap (λ so_far. appended so_far (each (name_of c.args.scope.now) (drop (c.loop-word.word-index + 1) c.args.words.now))) c.in_ok-push.ensures
    ∙ next_part (name_of c.args.scope.now) c.args.words.now c.loop-word.word-index _ (gathered_in c.loop-word.names) _ (omega arith)
    (c.in_ok-name.ensures ∙ ap (name_of c.args.scope.now) (c.as_str.ensures.characters ∙ c.word-item.is)) c.loop-word.invariant
