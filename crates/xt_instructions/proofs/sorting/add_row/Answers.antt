use Rattle.std.proofs.Common.{◌≡◌, [], length, get_or, Vec, Global, ap, ◌∙◌, arith}
use Rattle.xt_sort.specs.declared.row.KeyValue.{KeyValue}
use Rattle.xt_instructions.proofs.Rows.{IsNext, row_more}
use Rattle.xt_instructions.proofs.sorting.add_row.Goals as goal

pub returns-clause-left : goal.returns-clause-left
returns-clause-left c after =
    let s = c.args.sorting.now in
    let i = length s.rows.items in
    let node = c.index-node.result.now in
    let n : c.len.result ≡ i = omega (arith, c.len.ensures, s.rows.ok.0) in
    let is_node : node ≡ get_or s.nodes.items i node = rw n at c.index-node.ensures in
    let e : IsNext s node = record { criteria = c.requires.criteria; row = c.requires.row; is = is_node } in
    let none : c.replace-keys.new.dest.items ≡ [] = ap (λ (v : Vec KeyValue Global). v.items) c.replace-keys.ensures.after ∙ c.new.ensures.items in
    let values : c.replace-keys.result.items ≡ s.values.items = ap (λ (v : Vec KeyValue Global). v.items) c.replace-keys.ensures.value in
    row_more s node c.push.new.self c.replace-keys.new.dest c.replace-keys.result after e c.requires.keys none values c.in_ok-push.ensures.items
