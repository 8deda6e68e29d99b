use Rattle.std.proofs.Common.{◌≡◌, map, sym, ap, ◌∙◌, subst}
use Rattle.std.specs.Option.{unwrap_or}
use Rattle.spec_seen.specs.Seen as spec
use Rattle.xt_syntax.specs.SheetView.{space_rule_of}
use Rattle.xt_tree.specs.Thinned.{LosesNodes}
use Rattle.xt_tree.specs.View.{forest_of}
use Rattle.xt_strip.proofs.Siblings.{nodes_lost}
use Rattle.xt_strip.proofs.source.stripped.Goals as goal

pub thinned-requires : goal.thinned-requires
thinned-requires c =
    let rules = map space_rule_of c.args.rules.now in
    let below = c.args.document.now.nodes in
    let is : c.in-Some.nodes ≡ spec.seen_among rules spec.at_root below =
    ap (λ o. unwrap_or o (forest_of c.children.result.now)) (sym c.in-Some.is) ∙ c.in_ok-seen_among.ensures
    ∙ ap (λ a. spec.seen_among rules a (forest_of c.children.result.now)) c.in_ok-around.ensures
    ∙ ap (spec.seen_among rules spec.at_root) c.children.ensures in
    subst (λ f. LosesNodes below f) (sym is) (nodes_lost (c.nothing_but_texts_is_lost.ensures rules c.args.document.now))
