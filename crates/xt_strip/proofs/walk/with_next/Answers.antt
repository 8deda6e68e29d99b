use Rattle.std.proofs.Common.{sym, ap, ◌∙◌}
use Rattle.std.specs.Option.{unwrap_or}
use Rattle.spec_document.specs.Forest as forest
use Rattle.spec_document.specs.Forest.{followed}
use Rattle.xt_strip.specs.View.{before}
use Rattle.xt_tree.specs.View.{forest_of, tree_of}
use Rattle.xt_tree.proofs.Renumbered.{followed-Empty}
use Rattle.xt_strip.proofs.walk.with_next.Goals as goal

pub returns-in_ok-nodes-in-Nothing : goal.returns-in_ok-nodes-in-Nothing
returns-in_ok-nodes-in-Nothing c =
    let front = unwrap_or c.args.seen (forest_of c.args.earlier.now) in
    c.in_ok-nodes-in-Nothing.ensures ∙ sym (followed-Empty front)
    ∙ ap (λ s. followed front (before s (tree_of c.args.next.now.value) forest.Empty)) (sym c.in-Nothing.is)
