use Rattle.std.proofs.Common.{◌+◌, ◌-◌, ◌∙◌, sym, ap, [], ◌∷◌, ◌++◌, length, drop, append_assoc, length-append, arith}
use Rattle.std.proofs.lemmas.List.{map-append}
use Rattle.xt_tree.specs.StreamView.{stream_of, streams_of}
use Rattle.xt_streams.specs.Parts.{as_many}
use Rattle.xt_streams.proofs.Streams.{many_next}
use Rattle.xt_streams.proofs.filling.as_many.Goals as goal

pub loop-index-preserved : goal.loop-index-preserved
loop-index-preserved c =
    let list = c.loop-index.list.items in
    let part = c.in_ok-part_at.field-0 in
    let parts = streams_of c.args.parts.now in
    let ahead = as_many (c.args.count - (c.loop-index.index + 1)) (drop (c.loop-index.index + 1) parts) in
    let longer = ap length c.in_ok-push.ensures.items ∙ length-append list (part ∷ []) in
    record {
      length = omega (arith, longer, c.loop-index.invariant.length);
      parts = ap (λ l. streams_of l ++ ahead) c.in_ok-push.ensures.items ∙ ap (λ l. l ++ ahead) (map-append (λ p. stream_of p.value) list (part ∷ []))
          ∙ append_assoc (streams_of list) (stream_of part.value ∷ []) ahead ∙ ap (λ s. streams_of list ++ s ∷ ahead) c.in_ok-part_at.ensures
          ∙ ap (λ l. streams_of list ++ l) (sym (many_next c.args.count c.loop-index.index parts (omega arith))) ∙ c.loop-index.invariant.parts;
    }
