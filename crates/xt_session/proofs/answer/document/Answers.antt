use Rattle.std.proofs.Common.{◌∙◌}
use Rattle.xt_wire.specs.View.{name_of}
use Rattle.xt_session.proofs.Answering.{document_same}
use Rattle.xt_session.proofs.answer.document.Goals as goal

pub returns : goal.returns
returns c = c.document.ensures ∙ document_same c.args.held.now c.doc_name.result (name_of c.args.name.now) c.doc_name.ensures
