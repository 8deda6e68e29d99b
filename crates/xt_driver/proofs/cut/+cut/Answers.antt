use Rattle.std.proofs.Common.{rules, ◌≡◌, ◌∙◌, ◌+◌, ◌-◌, ◌≤◌, ◌<◌, sym, ap, map, drop, arith}
use Rattle.std.proofs.lemmas.List.{at_drop_more, at_drop_all}
use Rattle.spec_meaning.specs.Stream.{all_followed, followed, holes}
use Rattle.spec_run.specs.Cut.{cut}
use Rattle.spec_run.proofs.Cuts.{cut_front, cut_back}
use Rattle.xt_tree.specs.declared.items.Item.{the_lemmas}
use Rattle.xt_tree.specs.StreamView.{single_of, stream_of}
use Rattle.xt_tree.proofs.Streams.{followed-Ended, followed-followed}
use Rattle.xt_driver.proofs.cut.+cut.Goals as goal

pub cut-loop-item-preserved : goal.cut-loop-item-preserved
cut-loop-item-preserved t c =
    let list = c.list-item-items.result.now in
    let item = c.item-item.result in
    let rest = all_followed (map single_of (drop (c.loop-item.item-index + 1) list)) in
    let left = c.loop-item.left in
    let before = stream_of c.loop-item.list in
    let at = at_drop_more (λ xs. cut left (all_followed (map single_of xs))) list c.loop-item.item-index item (omega arith) in
    let here = rw (← c.item-item.is) at at in
    let count = c.in_ok-count.ensures in
    let low : holes (single_of item) ≤ left = omega (arith, count) in
    let fewer : left - c.in_ok-count.count ≡ left - holes (single_of item) = omega (arith, count) in
    let whole = c.in_ok-push.ensures.ok ∙ ap (followed before) c.in_ok-whole.ensures in
    ap (λ n. followed (stream_of c.push.new.self) (cut n rest)) fewer
    ∙ ap (λ s. followed s (cut (left - holes (single_of item)) rest)) whole
    ∙ followed-followed before (single_of item) (cut (left - holes (single_of item)) rest)
    ∙ ap (followed before) (sym (here ∙ cut_back left (single_of item) rest low)) ∙ c.loop-item.invariant

pub cut-add_cut-requires : goal.cut-add_cut-requires
cut-add_cut-requires t c = let count = c.in_ok-count.ensures in (search (rules, the_lemmas), omega (arith, count))

pub cut-returns-then-left-count : goal.cut-returns-then-left-count
cut-returns-then-left-count t c =
    let list = c.list-item-items.result.now in
    let item = c.item-item.result in
    let rest = all_followed (map single_of (drop (c.loop-item.item-index + 1) list)) in
    let left = c.loop-item.left in
    let before = stream_of c.loop-item.list in
    let at = at_drop_more (λ xs. cut left (all_followed (map single_of xs))) list c.loop-item.item-index item (omega arith) in
    let here = rw (← c.item-item.is) at at in
    let count = c.in_ok-count.ensures in
    let low : left < holes (single_of item) = omega (arith, count) in
    c.in_ok-add_cut.ensures ∙ ap (followed before) (sym (here ∙ cut_front left (single_of item) rest low)) ∙ c.loop-item.invariant

pub cut-returns : goal.cut-returns
cut-returns t c =
    let list = c.list-item-items.result.now in
    let at = at_drop_all (λ xs. cut c.loop-item.left (all_followed (map single_of xs))) list c.loop-item.item-index (omega arith) in
    sym (followed-Ended (stream_of c.loop-item.list)) ∙ ap (followed (stream_of c.loop-item.list)) (sym at) ∙ c.loop-item.invariant
