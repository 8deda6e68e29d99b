use Rattle.std.proofs.Common.{arith}
use Rattle.xt_syntax.specs.InstrView.{instr_of, branch_of, binding_of}
use Rattle.spec_stylesheet.specs.Instruction.{instrs, branches, bindings}
use Rattle.xt_syntax.proofs.Lists.{different_length, different_at}
use Rattle.xt_syntax.proofs.Contents.{same_instrs, same_branches, same_bindings}
use Rattle.xt_syntax.proofs.instr.+same.Goals as goal

pub same_instrs-returns-then-list-others : goal.same_instrs-returns-then-list-others
same_instrs-returns-then-list-others t c = different_length instr_of instrs same_instrs c.args.list.now c.args.others.now c.if-list-others.true

pub same_instrs-returns-then-not-same : goal.same_instrs-returns-then-not-same
same_instrs-returns-then-not-same t c =
    different_at instr_of instrs same_instrs c.args.list.now c.args.others.now c.loop-index.index c.index-list-index.result c.index-others-index.result
    (omega arith) (omega arith) c.index-list-index.is c.index-others-index.is c.same.result c.if-not-same.true c.same.ensures.1

pub same_branches-returns-then-list-others : goal.same_branches-returns-then-list-others
same_branches-returns-then-list-others t c = different_length branch_of branches same_branches c.args.list.now c.args.others.now c.if-list-others.true

pub same_branches-returns-then-not-same : goal.same_branches-returns-then-not-same
same_branches-returns-then-not-same t c =
    different_at branch_of branches same_branches c.args.list.now c.args.others.now c.loop-index.index c.index-list-index.result c.index-others-index.result
    (omega arith) (omega arith) c.index-list-index.is c.index-others-index.is c.same.result c.if-not-same.true c.same.ensures.1

pub same_bindings-returns-then-list-others : goal.same_bindings-returns-then-list-others
same_bindings-returns-then-list-others t c = different_length binding_of bindings same_bindings c.args.list.now c.args.others.now c.if-list-others.true

pub same_bindings-returns-then-not-same : goal.same_bindings-returns-then-not-same
same_bindings-returns-then-not-same t c =
    different_at binding_of bindings same_bindings c.args.list.now c.args.others.now c.loop-index.index c.index-list-index.result c.index-others-index.result
    (omega arith) (omega arith) c.index-list-index.is c.index-others-index.is c.same.result c.if-not-same.true c.same.ensures.1
