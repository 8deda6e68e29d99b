use Rattle.std.proofs.Common.{◌≡◌, refl, ap, sym, ◌∙◌}
use Rattle.std.specs.Map.{lookup}
use Rattle.xt_scoping.specs.Reach.{all_in, all_of}
use Rattle.xt_scoping.proofs.Sets.{is_key}
use Rattle.xt_scoping.proofs.Uses.{added}
use Rattle.xt_scoping.proofs.graph.Graph.add.Goals.{in-Some, in-None}
use Rattle.xt_scoping.proofs.graph.Graph.add.Goals as goal

pub returns : goal.returns
returns c =
    let before : all_in c.match-swap_remove.lists.items ≡ all_of (lookup (is_key (record { name = c.args.set })) c.args.self.now.uses.entries)
    = elim c.match-swap_remove.branch [
      | in-Some w ↦ ap (λ l. all_in l.items) w.lists-is ∙ ap all_of (sym w.in-Some.is ∙ c.swap_remove.ensures.value)
      | in-None w ↦ ap (λ l. all_in l.items) w.lists-is ∙ ap all_in w.new-lists.ensures.items ∙ ap all_of (sym w.in-None.is ∙ c.swap_remove.ensures.value)
    ] in
    added _ _ _ (record { name = c.args.set }) c.match-swap_remove.lists _ _ _ c.swap_remove.ensures.updates.0 c.in_ok-insert.ensures.updates.0 c.in_ok-push.ensures.items refl before
