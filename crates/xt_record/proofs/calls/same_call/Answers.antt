use Rattle.xt_record.proofs.Ok.{if_ok}
use Rattle.xt_record.proofs.calls.same_call.Goals as goal

pub returns : goal.returns
returns c =
    let k = c.same_way.ensures in
    let yes = c.if-not-same_way.false in
    if_ok c.same_bindings.result c.same_bindings.ensures (λ b h t i. record {
      target = k.target yes i;
      node = k.node yes i;
      parameters = h t i;
      position = k.position yes i;
      size = k.size yes i;
      ruling = k.ruling yes i;
      by = k.by yes i;
    })
