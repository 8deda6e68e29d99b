use Rattle.std.proofs.Common.{refl}
use Rattle.spec_cost.specs.Marking.{move_marks}
use Rattle.spec_move.specs.Move.{moved_nodes}
use Rattle.xt_held.specs.declared.origin.Origin.TheVariants.{Moved}
use Rattle.xt_held.proofs.Knowing.{tells_edited}
use Rattle.xt_held.proofs.held.Held.relocate.Goals as goal

pub returns-clause-tells : goal.returns-clause-tells
returns-clause-tells c =
    let made = c.in_ok-document in
    let ready = c.in_ok-document_ready in
    let path = c.args.path in
    let other = c.args.other in
    tells_edited c.args.name (Moved path other) made.field-0.document (λ known old new. move_marks known path.now other.now old new)
    (λ first. moved_nodes first path.now other.now) ready.ensures.kept (λ known was. refl) made.ensures.numbers ready.field-0 ready.ensures.tells
