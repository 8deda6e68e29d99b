use Rattle.std.proofs.Common.{ℕ, ◌≡◌, ◌-◌, ◌∙◌, ap, [], length, take, drop, arith, length-drop}
use Rattle.std.proofs.lemmas.List.{take_all}
use Rattle.spec_document.specs.Forest.{followed}
use Rattle.xt_tree.specs.View.{forest_of}
use Rattle.xt_tree.proofs.Indices.{Siblings, three_parts}
use Rattle.xt_tree.proofs.splice.with_others.Goals as goal

rest : (n : ℕ) (xs : Siblings) → take (length xs - n) (drop n xs) ≡ drop n xs
rest n xs = take_all (length xs - n) (drop n xs) (omega (arith, length-drop n xs))

pub returns : goal.returns
returns c =
    let xs = c.args.siblings.now in
    let begun = c.in_ok-add.ensures ∙ ap (λ ys. followed (forest_of ys) (forest_of (take c.min-first.result xs))) c.new-list.ensures.items
    ∙ ap (λ n. followed (forest_of []) (forest_of (take n xs))) c.min-first.ensures in
    c.in_ok-add-3.ensures ∙ ap (λ ys. followed (forest_of c.add-2.new.list.items) (forest_of ys)) (rest c.min-last.result xs)
    ∙ ap (λ n. followed (forest_of c.add-2.new.list.items) (forest_of (drop n xs))) c.min-last.ensures
    ∙ three_parts c.args.from c.args.to xs (forest_of c.args.others.now) _ _ begun c.in_ok-add-2.ensures
