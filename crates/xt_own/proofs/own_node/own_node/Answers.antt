use Rattle.std.proofs.Common.{Some, map, sym, ap}
use Rattle.xt_questions.specs.View.{read_of}
use Rattle.xt_document_world.specs.View.{truth_of}
use Rattle.xt_own.proofs.NodeLog.{log_at}
use Rattle.xt_own.proofs.own_node.own_node.Goals as goal

pub returns-clause-known : goal.returns-clause-known
returns-clause-known c parameters =
    c.told_by.ensures.known c.args.stylesheet.now parameters c.args.document.now c.args.name.now
    (log_at c.args.stylesheet.now c.args.document.now c.args.name.now c.args.node _ _ _ _ _ c.as_slice-units.ensures.value c.texts_at_node-found.ensures.runs
    (ap (λ w. truth_of w.document.now) c.new.ensures.world) (ap (λ rs. Some (map read_of rs)) c.new.ensures.reads) (ap (λ rs. Some (map read_of rs)) (sym c.as_slice-reads.ensures.value)))
