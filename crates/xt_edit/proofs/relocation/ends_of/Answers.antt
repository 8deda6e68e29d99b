use Rattle.std.proofs.Common.{Some, sym, ap, ◌∙◌}
use Rattle.spec_edit.specs.Splice.{spot_of}
use Rattle.spec_move.specs.Move.{origin_faults, target_faults}
use Rattle.xt_build.specs.Least.{merged}
use Rattle.xt_build.proofs.Least.{least-append}
use Rattle.xt_edit.proofs.relocation.ends_of.Goals as goal

pub returns-in-Err-target_of-2 : goal.returns-in-Err-target_of-2
returns-in-Err-target_of-2 c =
    let document = c.args.document.now in
    ap (λ f. Some f) c.lesser.ensures ∙ (λ i. merged (c.in-Err.ensures i) (c.in-Err-target_of-2.ensures i))
    ∙ sym (least-append (origin_faults document c.args.path.now) (target_faults document (spot_of c.args.other.now)))
