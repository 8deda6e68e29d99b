use Rattle.std.proofs.Common.{◌∙◌, ◌+◌, drop, map, ap, arith}
use Rattle.spec_compile.specs.Value.{each, test_of}
use Rattle.xt_syntax.specs.View as view
use Rattle.xt_attributes.specs.Gathering.{appended, gathered_in, seen, seen-part}
use Rattle.xt_attributes.proofs.Parts.{all_parts, first_part, next_part}
use Rattle.xt_attributes.proofs.Rest.{seen-seen}
use Rattle.xt_attributes.proofs.names.tests_of.Goals as goal

pub loop-word-init : goal.loop-word-init
loop-word-init c = first_part (test_of c.args.scope.now) c.args.words.now _ (ap (seen (λ tests. map view.test_of tests)) c.new-tests.ensures)

pub returns : goal.returns
returns c =
    seen-seen (λ list. list.items) (λ tests. map view.test_of tests) c.finish.result
    ∙ ap (seen (λ tests. map view.test_of tests)) c.finish.ensures
    ∙ all_parts (test_of c.args.scope.now) c.args.words.now c.loop-word.word-index (seen (λ tests. map view.test_of tests) (gathered_in c.loop-word.tests)) (omega arith)
    c.loop-word.invariant

pub loop-word-preserved : goal.loop-word-preserved
loop-word-preserved c =
    ap (λ so_far. appended so_far (each (test_of c.args.scope.now) (drop (c.loop-word.word-index + 1) c.args.words.now)))
    (ap (seen (λ tests. map view.test_of tests)) c.in_ok-push.ensures ∙ seen-part view.test_of (gathered_in c.loop-word.tests) c.in_ok-test.test)
    ∙ next_part (test_of c.args.scope.now) c.args.words.now c.loop-word.word-index _ (seen (λ tests. map view.test_of tests) (gathered_in c.loop-word.tests)) _ (omega arith)
    (c.in_ok-test.ensures ∙ ap (test_of c.args.scope.now) c.word-item.is) c.loop-word.invariant
