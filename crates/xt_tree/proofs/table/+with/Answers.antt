use Rattle.std.proofs.Common.{◌∙◌, ℕ, Some, ◌==◌, if◌then◌else◌, sym, ap}
use Rattle.xt_tree.specs.Lookup.{fork_lookup}
use Rattle.xt_tree.specs.declared.table.Fork.{out-Fork}
use Rattle.xt_tree.proofs.Forks.{view-Fork, made-Fork, put-zero, put-odd, put-even}
use Rattle.xt_tree.proofs.table.+with.Goals as goal
use Rattle.xt_tree.proofs.table.+with.Goals.{then-number-eq0, else-number-eq0+then-number-eq1+in_ok-below+in-Some-1, else-number-eq0+then-number-eq1+in_ok-below+in-None-1, else-number-eq0+else-number-eq1+in_ok-below-2+in-Some-1, else-number-eq0+else-number-eq1+in_ok-below-2+in-None-1}

pub returns : goal.returns
returns t c other =
    let f = c.in_ok-fork.fork in
    let old = λ (m : ℕ). sym (view-Fork f m) ∙ c.in_ok-fork.ensures m in
    let before = ap (λ o. if other == c.args.number then Some c.args.key else o) (old other) in
    ap (λ g. fork_lookup g other) c.in_ok-new.ensures.ok
    ∙ elim c.if-number-eq0.branch [
      | then-number-eq0 w ↦ ap (λ g. fork_lookup g other) w.fork-is ∙ made-Fork _ _ _ other ∙ put-zero c.args.key c.args.number (out-Fork f).key (out-Fork f).odd (out-Fork f).even w.if-number-eq0.true other ∙ before
      | else-number-eq0+then-number-eq1+in_ok-below+in-Some-1 w ↦ ap (λ g. fork_lookup g other) w.fork-is ∙ made-Fork _ _ _ other ∙ put-odd c.args.key c.args.number (out-Fork f).key (out-Fork f).odd (out-Fork f).even (Some w.in_ok-below.below) w.if-number-eq1.true w.in_ok-below.ensures other ∙ before
      | else-number-eq0+then-number-eq1+in_ok-below+in-None-1 w ↦ ap (λ g. fork_lookup g other) w.fork-is ∙ made-Fork _ _ _ other ∙ put-odd c.args.key c.args.number (out-Fork f).key (out-Fork f).odd (out-Fork f).even (Some w.in_ok-below.below) w.if-number-eq1.true w.in_ok-below.ensures other ∙ before
      | else-number-eq0+else-number-eq1+in_ok-below-2+in-Some-1 w ↦ ap (λ g. fork_lookup g other) w.fork-is ∙ made-Fork _ _ _ other ∙ put-even c.args.key c.args.number (out-Fork f).key (out-Fork f).odd (out-Fork f).even (Some w.in_ok-below-2.below) w.if-number-eq0.false w.if-number-eq1.false w.in_ok-below-2.ensures other ∙ before
      | else-number-eq0+else-number-eq1+in_ok-below-2+in-None-1 w ↦ ap (λ g. fork_lookup g other) w.fork-is ∙ made-Fork _ _ _ other ∙ put-even c.args.key c.args.number (out-Fork f).key (out-Fork f).odd (out-Fork f).even (Some w.in_ok-below-2.below) w.if-number-eq0.false w.if-number-eq1.false w.in_ok-below-2.ensures other ∙ before
    ]
