use Rattle.std.proofs.Common.{◌≡◌, Option, map, sym, subst}
use Rattle.std.specs.Prelude.{ℕ, IfSome}
use Rattle.spec_document.specs.Forest.{Forest}
use Rattle.spec_seen.specs.Seen as spec
use Rattle.xt_syntax.specs.SheetView.{space_rule_of}
use Rattle.xt_tree.specs.Thinned.{LosesNodes}
use Rattle.xt_strip.proofs.Siblings.{nodes_lost}
use Rattle.xt_strip.proofs.edited.seen_at.Goals as goal

pub thinned-requires : goal.thinned-requires
thinned-requires c =
    let rules = map space_rule_of c.args.rules.now in
    let after = c.args.after.now in
    let is = subst (λ (o : Option (Forest ℕ)). IfSome o (λ nodes. nodes ≡ (spec.seen rules after).nodes)) c.in-Some.is c.in_ok-nodes_at.ensures in
    subst (λ f. LosesNodes after.nodes f) (sym is) (nodes_lost (c.nothing_but_texts_is_lost.ensures rules after))
