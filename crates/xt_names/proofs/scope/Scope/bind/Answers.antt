use Rattle.std.proofs.Common.{◌≡◌, ap, ◌∙◌}
use Rattle.std.specs.Ordering.{nat_cmp}
use Rattle.std.specs.Cmp.Lexicographic.{slice_cmp}
use Rattle.std.specs.FinMap.Entries.{put}
use Rattle.std.specs.Str.{chars}
use Rattle.xt_names.specs.SearchTree.{link_entries, node_entries}
use Rattle.xt_names.proofs.Maps.{ordered_put, bound_is}
use Rattle.xt_names.proofs.scope.Scope.bind.Goals as goal

pub invariant_of-self : goal.invariant_of-self
invariant_of-self c = ordered_put (link_entries c.self.inside.root) _ _ _ c.in_ok-root.ensures c.self.invariant

pub returns-clause-ok : goal.returns-clause-ok
returns-clause-ok c =
    let es = link_entries c.self.inside.root in
    let made = c.in_ok-namespace.ensures.ok in
    let prefix = ap (λ n. n.prefix) made ∙ c.in_ok-from_str.ensures in
    let uri = ap (λ n. n.uri) made ∙ c.in_ok-from_str-2.ensures in
    let is : node_entries c.in_ok-root.root.value ≡ put (slice_cmp nat_cmp) (chars c.args.prefix.now) (chars c.args.uri.now) es =
    c.in_ok-root.ensures ∙ ap (λ k. put (slice_cmp nat_cmp) k c.in_ok-namespace.namespace.value.uri es) prefix
    ∙ ap (λ v. put (slice_cmp nat_cmp) (chars c.args.prefix.now) v es) uri in
    bound_is es _ c.args.self.now _ _ c.self.view_is c.self.invariant is
