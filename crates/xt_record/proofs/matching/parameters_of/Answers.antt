use Rattle.std.proofs.Common.{◌∙◌, ap, sym}
use Rattle.spec_reuse.specs.Serving.{declared_by}
use Rattle.xt_syntax.specs.SheetView.{declared_of}
use Rattle.xt_record.specs.Names.{names_of}
use Rattle.xt_record.proofs.Parameters.{names_bound}
use Rattle.xt_record.proofs.matching.parameters_of.Goals as goal

pub returns-in-Template : goal.returns-in-Template
returns-in-Template c =
    ap names_of (c.as_slice.ensures.value ∙ ap (λ v. v.items) c.deref.ensures)
    ∙ names_bound c.in-Template.template.parameters.value.items ∙ ap (λ d. declared_by (declared_of d)) (sym c.in-Template.is)
