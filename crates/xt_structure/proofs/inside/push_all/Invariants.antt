use Rattle.std.proofs.Common.{◌≡◌, ◌++◌, drop}
use Rattle.std.specs.List.{flat_map}
use Rattle.spec_structure.specs.Inside.{uris_by, uri_of}
use Rattle.xt_structure.proofs.inside.push_all.Given as goal

abbrev pub invariant-loop-prefix : goal.invariant-loop-prefix
invariant-loop-prefix l =
    l.extensions.items ++ flat_map (λ word. uris_by (uri_of l.scope word)) (drop l.prefix-index l.prefixes)
    ≡ l.initial.extensions.items ++ flat_map (λ word. uris_by (uri_of l.scope word)) l.prefixes
