use Rattle.std.proofs.Common.{refl}
use Rattle.xt_questions.proofs.Steps.{runs_then, runs_stop, runs_gives, exits}
use Rattle.xp_values.proofs.Comparing.{pair_so, some_from_test, rest_is}
use Rattle.xp_values.proofs.comparison.some_pair.Goals as goal

pub returns-in_err-first-clause-runs : goal.returns-in_err-first-clause-runs
returns-in_err-first-clause-runs g c supply depth =
    let left = some_from_test c.args.lefts.now c.is_empty.ensures c.if-is_empty.false in
    let right = some_from_test c.args.rights.now c.is_empty-else-is_empty.ensures c.if-is_empty-2.false in
    pair_so g.C.Comparand.read (g.C.Comparand.test c.args.operator) c.args.lefts.now c.args.rights.now c.index-lefts-0.result left right c.index-lefts-0.is
    (exits _ c.from_residual.ensures.1 (runs_stop _ (c.in_err-first.ensures.runs supply depth)))

pub returns-in_err-found-clause-runs : goal.returns-in_err-found-clause-runs
returns-in_err-found-clause-runs g c supply depth =
    let left = some_from_test c.args.lefts.now c.is_empty.ensures c.if-is_empty.false in
    let right = some_from_test c.args.rights.now c.is_empty-else-is_empty.ensures c.if-is_empty-2.false in
    pair_so g.C.Comparand.read (g.C.Comparand.test c.args.operator) c.args.lefts.now c.args.rights.now c.index-lefts-0.result left right c.index-lefts-0.is
    (exits _ c.from_residual-in_err-found.ensures.1
    (runs_then _ (c.in_ok-first.ensures.runs supply depth) (runs_stop _ (c.in_err-found.ensures.runs supply depth))))

pub returns-in-None-clause-runs : goal.returns-in-None-clause-runs
returns-in-None-clause-runs g c supply depth =
    let left = some_from_test c.args.lefts.now c.is_empty.ensures c.if-is_empty.false in
    let right = some_from_test c.args.rights.now c.is_empty-else-is_empty.ensures c.if-is_empty-2.false in
    let found = rw c.in-None.is at (c.in_ok-found.ensures.runs supply depth) in
    pair_so g.C.Comparand.read (g.C.Comparand.test c.args.operator) c.args.lefts.now c.args.rights.now c.index-lefts-0.result left right c.index-lefts-0.is
    (runs_then _ (c.in_ok-first.ensures.runs supply depth) (runs_then _ found (runs_gives refl)))

pub returns-clause-runs : goal.returns-clause-runs
returns-clause-runs g c supply depth =
    let left = some_from_test c.args.lefts.now c.is_empty.ensures c.if-is_empty.false in
    let right = some_from_test c.args.rights.now c.is_empty-else-is_empty.ensures c.if-is_empty-2.false in
    let found = rw c.in-Some.is at (c.in_ok-found.ensures.runs supply depth) in
    let rest = rw (c.as_slice.ensures.value, rest_is c.args.lefts.now) at (c.any_left.ensures.runs supply depth) in
    pair_so g.C.Comparand.read (g.C.Comparand.test c.args.operator) c.args.lefts.now c.args.rights.now c.index-lefts-0.result left right c.index-lefts-0.is
    (runs_then _ (c.in_ok-first.ensures.runs supply depth) (runs_then _ found rest))
