use Rattle.std.proofs.Common.{◌≡◌, ◌++◌, ◌∷◌, map, drop}
use Rattle.spec_document.specs.Forest.{attribute_event}
use Rattle.spec_document.specs.Pyx.{line_of}
use Rattle.spec_document.specs.declared.event.Event.TheVariants as event
use Rattle.xt_tree.specs.View.{written_of}
use Rattle.xt_build.proofs.write.push_start.Given as goal

abbrev pub invariant-loop-attribute : goal.invariant-loop-attribute
invariant-loop-attribute l =
    l.lines.items ++ map line_of (map attribute_event (map written_of (drop l.attribute-index l.attributes)))
    ≡ l.fn.lines.items ++ line_of (event.Start l.fn.name) ∷ map line_of (map attribute_event (map written_of l.attributes))
