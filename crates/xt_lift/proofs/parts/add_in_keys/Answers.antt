use Rattle.std.proofs.Common.{List, map, refl, arith}
use Rattle.spec_items.specs.Mentioned.{names_in_keys}
use Rattle.xt_syntax.specs.PartView.{sort_key_of}
use Rattle.xt_syntax.specs.declared.sort_key.SortKey.{SortKey}
use Rattle.xt_lift.specs.Names.{key_names}
use Rattle.xt_lift.proofs.Next.{next_added}
use Rattle.xt_lift.proofs.parts.add_in_keys.Goals as goal

pub loop-key-preserved : goal.loop-key-preserved
loop-key-preserved c =
    next_added (λ (ks : List SortKey). names_in_keys (map sort_key_of ks)) (λ k. key_names (sort_key_of k)) c.args.keys.now c.loop-key.key-index
    c.key-item.result c.loop-key.into.items c.add_in_key.new.into.items (λ left. refl) (omega arith) c.key-item.is c.in_ok-add_in_key.ensures c.loop-key.invariant
