use Rattle.std.proofs.Common.{ap}
use Rattle.spec_run.specs.Documents.{Parameters}
use Rattle.xt_held.specs.View.{documents_of}
use Rattle.xt_held.proofs.held.Held.put_parameter.Goals as goal

pub returns-clause-documents : goal.returns-clause-documents
returns-clause-documents c =
    let old = documents_of c.args.self.now in
    ap (λ (parameters : Parameters). record { source = old.source; modules = old.modules; parameters = parameters }) c.keep.ensures
