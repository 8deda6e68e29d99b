use Rattle.std.proofs.Common.{◌∙◌, ap, arith}
use Rattle.xt_tree.specs.StreamView.{stream_of}
use Rattle.xt_record.proofs.Holes.{filled_with_none}
use Rattle.xt_record.proofs.filling.with_parts.Goals as goal

pub returns-then-is_empty : goal.returns-then-is_empty
returns-then-is_empty c =
    ap stream_of c.in_ok-clone.ensures.cases
    ∙ filled_with_none (stream_of c.args.items.now.value) c.args.parts.now c.requires (grind (arith, c.if-is_empty.ensures))
