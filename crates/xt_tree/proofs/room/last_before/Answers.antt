use Rattle.std.proofs.Common.{ℕ, ◌≡◌, ◌<◌, ◌-◌, suc, min, length, sym, ap, ◌∙◌, arith}
use Rattle.spec_edit.specs.Splice.{first_siblings}
use Rattle.xt_tree.specs.Keys.{key_by, last_key}
use Rattle.xt_tree.specs.View.{forest_of}
use Rattle.xt_tree.proofs.Indices.{Siblings, first-least, last-none, last_sibling}
use Rattle.xt_tree.proofs.room.last_before.Goals as goal

-- so many of the siblings as there are
same : (key : ℕ → ℕ) (low m n : ℕ) (xs : Siblings) → m ≡ min n (length xs)
    → last_key key low (first_siblings m (forest_of xs)) ≡ last_key key low (first_siblings n (forest_of xs))
same key low m n xs e = ap (λ m. last_key key low (first_siblings m (forest_of xs))) e ∙ ap (last_key key low) (first-least n xs)

pub returns-then-count-eq0 : goal.returns-then-count-eq0
returns-then-count-eq0 c =
    let key = key_by c.args.keys.now in
    let xs = c.args.siblings.now in
    sym (last-none key c.args.low xs) ∙ same key c.args.low 0 c.args.count xs (sym c.if-count-eq0.true ∙ c.min-count.ensures)

pub returns : goal.returns
returns c =
    let key = key_by c.args.keys.now in
    let xs = c.args.siblings.now in
    let n = c.min-count.result - 1 in
    let within : n < length xs = omega (arith, c.min-count.ensures) in
    let all : suc n ≡ min c.args.count (length xs) = omega (arith, c.min-count.ensures) in
    c.last_in.ensures ∙ sym (last_sibling key n c.args.low xs c.sibling.result.now within c.sibling.ensures)
    ∙ same key c.args.low (suc n) c.args.count xs all
