use Rattle.std.proofs.Common.{Option, subst, sym, ◌∙◌}
use Rattle.xt_held.specs.PastView.{IsPast}
use Rattle.xt_held.specs.View.{IsCurrent, documents_of}
use Rattle.xt_held.specs.declared.batch.Batch.{Batch}
use Rattle.xt_held.proofs.Batches.{IsCopyOf, opened_current}
use Rattle.xt_held.proofs.Making.{none_open}
use Rattle.xt_held.proofs.Paying.{opened_past}
use Rattle.xt_held.proofs.held.Held.begin.Goals as goal

pub returns-clause-current : goal.returns-clause-current
returns-clause-current c =
    let held = c.args.self.now in
    let batch = c.in_ok-batch.batch in
    let copy : IsCopyOf held batch = record {
      source = c.in_ok-batch.ensures.source;
      modules = c.in_ok-batch.ensures.modules;
      parameters = c.in_ok-batch.ensures.parameters;
      since = c.in_ok-batch.ensures.since;
      edited = c.in_ok-batch.ensures.edited;
    } in
    subst (λ (b : Option Batch). IsCurrent (record held { batch = b })) (sym c.replace.ensures.after)
    (opened_current held batch (none_open held.batch (documents_of held) (sym c.pending.ensures ∙ c.if-pending.false)) copy c.requires)

pub returns-clause-past : goal.returns-clause-past
returns-clause-past c = λ past is.
    let held = c.args.self.now in
    let batch = c.in_ok-batch.batch in
    let copy : IsCopyOf held batch = record {
      source = c.in_ok-batch.ensures.source;
      modules = c.in_ok-batch.ensures.modules;
      parameters = c.in_ok-batch.ensures.parameters;
      since = c.in_ok-batch.ensures.since;
      edited = c.in_ok-batch.ensures.edited;
    } in
    subst (λ (b : Option Batch). IsPast past (record held { batch = b })) (sym c.replace.ensures.after)
    (opened_past held batch (none_open held.batch (documents_of held) (sym c.pending.ensures ∙ c.if-pending.false)) copy past is)
