use Rattle.std.proofs.Common.{◌≡◌, ◌++◌, map, drop}
use Rattle.xt_tree.specs.View.{written_of}
use Rattle.xt_result.specs.Ahead.{attribute_lines}
use Rattle.xt_result.proofs.lines.push_attributes.Given as goal

-- the lines that stand and those of the attributes ahead are all that there are
abbrev pub invariant-loop-attribute : goal.invariant-loop-attribute
invariant-loop-attribute l =
    l.lines.items ++ attribute_lines (map written_of (drop l.attribute-index l.attributes)) ≡ l.fn.lines.items ++ attribute_lines (map written_of l.attributes)
