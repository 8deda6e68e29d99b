use Rattle.std.proofs.Common.{ℕ, ◌∙◌, sym, ap}
use Rattle.xt_tree.specs.Lookup.{link_lookup}
use Rattle.xt_tree.specs.declared.table.Fork.{out-Fork}
use Rattle.xt_tree.proofs.Forks.{view-Fork, made-Fork, same-opened, opened}
use Rattle.xt_tree.proofs.table.top.Goals as goal

pub returns-in_ok-even-in-Some : goal.returns-in_ok-even-in-Some
returns-in_ok-even-in-Some c number =
    let f = c.in-Some.fork.value in
    let odd = λ (n : ℕ). c.in_ok-odd-in-Some.ensures n ∙ ap (λ g. link_lookup (out-Fork g).odd n) c.deref.ensures in
    let even = λ (n : ℕ). c.in_ok-even-in-Some.ensures n ∙ ap (λ g. link_lookup (out-Fork g).even n) c.deref-in-Some.ensures in
    made-Fork _ _ _ number ∙ ap (λ g. opened (out-Fork g).key c.in_ok-odd-in-Some.odd c.in_ok-even-in-Some.even number) c.deref-in-Some-2.ensures
    ∙ same-opened (out-Fork f).key (out-Fork f).odd (out-Fork f).even _ _ odd even number ∙ sym (view-Fork f number) ∙ ap (λ l. link_lookup l number) (sym c.in-Some.is)
