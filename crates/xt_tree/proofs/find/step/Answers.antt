use Rattle.std.proofs.Common.{◌≡◌, ◌<◌, ◌+◌, ◌-◌, suc, get_or, arith, sym, ap, subst}
use Rattle.xt_tree.specs.Step.{IsStep}
use Rattle.xt_tree.specs.Keys.{key_by, keys_of}
use Rattle.xt_tree.proofs.Site.{step, before-first}
use Rattle.xt_tree.proofs.find.step.Goals as goal

pub returns-then-count-eq0 : goal.returns-then-count-eq0
returns-then-count-eq0 c =
    let key = key_by c.args.keys.now in
    let xs = c.args.siblings.now in
    let low = c.requires.rises in
    before-first key c.args.id.number low.0 xs low.1
    (λ some. let first : get_or (keys_of key xs) c.reached-count.result 0 ≡ get_or (keys_of key xs) 0 0
    = ap (λ k. get_or (keys_of key xs) k 0) c.if-count-eq0.true in
    let above = c.reached-count.ensures.behind (omega arith) in omega (arith, above, first, c.requires.key))

pub returns : goal.returns
returns c =
    let n = c.args.id.number in
    let xs = c.args.siblings.now in
    let low = c.requires.rises in
    let some : 0 < c.reached-count.result = omega arith in
    let same : suc (c.reached-count.result - 1) ≡ c.reached-count.result = omega arith in
    let position : 1 + (c.reached-count.result - 1) ≡ c.reached-count.result = omega arith in
    subst (IsStep (key_by c.args.keys.now) n xs c.sibling.result.now) position
    (step (key_by c.args.keys.now) n low.0 xs (c.reached-count.result - 1) c.sibling.result.now low.1
    (omega (arith, c.reached-count.ensures.bound))
    (rw (sym c.requires.key) (c.reached-count.ensures.before some))
    (rw (same, sym c.requires.key) c.reached-count.ensures.behind)
    c.sibling.ensures)
