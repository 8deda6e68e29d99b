use Rattle.std.proofs.Common.{ℕ, subst, sym}
use Rattle.std.specs.Prelude.{IfOk, false}
use Rattle.spec_cost.specs.Numbers as numbers
use Rattle.spec_document.specs.Forest.{Document}
use Rattle.spec_run.specs.Documents.{with_source}
use Rattle.xt_edit.specs.View.{AreBelow}
use Rattle.xt_import.specs.View.{plain_of}
use Rattle.xt_held.specs.Marked.{Tells, known_in, source_marks}
use Rattle.xt_held.specs.PastView.{Brings}
use Rattle.xt_held.specs.RunView.{IsFaultless, IsMadeBy}
use Rattle.xt_held.specs.View.{IsReady, numbers_of}
use Rattle.xt_held.proofs.held.Held.source_ready.Goals as goal

pub sighted_ready-requires-clause-made : goal.sighted_ready-requires-clause-made
sighted_ready-requires-clause-made c =
    subst (λ (d : Document ℕ). IsMadeBy c.args.origin c.args.self.now.source d) (sym c.in_ok-source.ensures) c.requires.made

pub sighted_ready-requires-clause-faultless : goal.sighted_ready-requires-clause-faultless
sighted_ready-requires-clause-faultless c = subst (λ (d : Document ℕ). IsFaultless d) (sym c.in_ok-source.ensures) c.requires.faultless

pub sighted_ready-requires-clause-below : goal.sighted_ready-requires-clause-below
sighted_ready-requires-clause-below c =
    subst (λ (d : Document ℕ). AreBelow c.args.next.number d) (sym c.in_ok-source.ensures) c.requires.below

pub returns-clause-ok : goal.returns-clause-ok
returns-clause-ok c =
    subst (λ (d : Document ℕ). IfOk c.sighted_ready.result (λ ready. IsReady (with_source (plain_of d)) c.args.next.number c.args.self.now ready))
    c.in_ok-source.ensures c.sighted_ready.ensures.ok

pub returns-clause-brings : goal.returns-clause-brings
returns-clause-brings c =
    subst (λ (d : Document ℕ). IfOk c.sighted_ready.result (Brings (numbers.with_source d (numbers_of c.args.self.now)) false c.args.self.now))
    c.in_ok-source.ensures c.sighted_ready.ensures.brings

pub returns-clause-tells : goal.returns-clause-tells
returns-clause-tells c =
    let held = c.args.self.now in
    subst (λ (d : Document ℕ). IfOk c.sighted_ready.result (Tells (source_marks (known_in held) c.args.origin held.source d) held))
    c.in_ok-source.ensures c.sighted_ready.ensures.tells
