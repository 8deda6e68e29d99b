use Rattle.std.proofs.Common.{◌≡◌, ◌++◌, not, map, drop}
use Rattle.std.specs.List.{filter}
use Rattle.spec_document.specs.Declaration.{is_declaration}
use Rattle.xt_tree.specs.View.{written_of}
use Rattle.xt_tree.proofs.part.own_attributes.Given as goal

abbrev pub invariant-loop-attribute : goal.invariant-loop-attribute
invariant-loop-attribute l =
    map (λ a. written_of a.now) l.list.items ++ filter (λ a. not (is_declaration a)) (map written_of (drop l.attribute-index l.attributes))
    ≡ filter (λ a. not (is_declaration a)) (map written_of l.attributes)
