use Rattle.std.proofs.Common.{ℕ, Option, Some, ap, subst, sym}
use Rattle.std.specs.Option.{option_copied}
use Rattle.std.specs.Prelude.{IfOk, IfSome}
use Rattle.spec_document.specs.Forest.{Document, Plain}
use Rattle.spec_run.specs.Documents.{main_name}
use Rattle.spec_run.specs.Outcome.{Comes}
use Rattle.xt_import.specs.View.{plain_of}
use Rattle.xt_touch.specs.View.{since_of}
use Rattle.xt_world.specs.ParameterView.{parameters_of}
use Rattle.xt_held.specs.OutcomeView.{outcome_of, plain_in}
use Rattle.xt_held.specs.RunView.{KeptHolds, KeptSpared}
use Rattle.xt_held.specs.StylesheetView.{AreCompiledBy}
use Rattle.xt_held.specs.declared.stylesheet.Compiled.{Compiled}
use Rattle.xt_held.proofs.Coming.{with_both}
use denote.Ref.{Bor}
use Rattle.xt_held.specs.Complete.{KeepsWhere}
use Rattle.xt_held.specs.Cost.{CostsRun}
use Rattle.xt_held.proofs.outcome.outcome_of.Goals as goal

pub returns-in-Some-source-clause-outcome : goal.returns-in-Some-source-clause-outcome
returns-in-Some-source-clause-outcome c modules are =
    let parameters = parameters_of c.args.parameters.now in
    let main = modules main_name in
    let compiled = subst (λ (o : Option Compiled). AreCompiledBy modules main o) (ap option_copied c.in-Some.is) are.so in
    subst (λ (source : Option Plain). IfOk c.transformed.result (λ came. Comes modules parameters main source (outcome_of came.outcome)))
    (sym (ap plain_in c.in-Some-source.is))
    (with_both modules parameters main (plain_of c.in-Some-source.source.now) c.in-Some.compiled.now c.transformed.result compiled
    (λ tree h. c.transformed.ensures.outcome modules tree h))

pub transformed-requires : goal.transformed-requires
transformed-requires c =
    let given = parameters_of c.args.parameters.now in
    subst (λ (s : Option (Bor (Document ℕ))). KeptSpared (Some c.in-Some.compiled.now) given (option_copied s) c.args.last.now (since_of c.args.since)) c.in-Some-source.is
    (subst (λ (o : Option (Bor Compiled)). KeptSpared (option_copied o) given (option_copied c.args.source) c.args.last.now (since_of c.args.since)) c.in-Some.is c.requires)

pub returns-in-Some-source-clause-last : goal.returns-in-Some-source-clause-last
returns-in-Some-source-clause-last c =
    let given = parameters_of c.args.parameters.now in
    let Kept : Option (Bor Compiled) → Option (Bor (Document ℕ)) → Type 0
    = λ o s. IfOk c.transformed.result (λ came. IfSome came.kept (KeptHolds (option_copied o) given (option_copied s))) in
    subst (λ (o : Option (Bor Compiled)). Kept o c.args.source) (sym c.in-Some.is)
    (subst (λ (s : Option (Bor (Document ℕ))). Kept (Some c.in-Some.compiled) s) (sym c.in-Some-source.is) c.transformed.ensures.last)

pub returns-in-Some-source-clause-cost : goal.returns-in-Some-source-clause-cost
returns-in-Some-source-clause-cost c =
    let given = parameters_of c.args.parameters.now in
    let Cost : Option (Bor Compiled) → Option (Bor (Document ℕ)) → Type 0
    = λ o s. IfOk c.transformed.result (λ came. CostsRun (option_copied o) given (option_copied s) c.args.last.now.records came.counts) in
    subst (λ (o : Option (Bor Compiled)). Cost o c.args.source) (sym c.in-Some.is)
    (subst (λ (s : Option (Bor (Document ℕ))). Cost (Some c.in-Some.compiled) s) (sym c.in-Some-source.is) c.transformed.ensures.cost)

pub returns-in-Some-source-clause-keeps : goal.returns-in-Some-source-clause-keeps
returns-in-Some-source-clause-keeps c =
    let given = parameters_of c.args.parameters.now in
    let Keeps : Option (Bor Compiled) → Option (Bor (Document ℕ)) → Type 0
    = λ o s. IfOk c.transformed.result (λ came. KeepsWhere (option_copied o) given (option_copied s) came.kept) in
    subst (λ (o : Option (Bor Compiled)). Keeps o c.args.source) (sym c.in-Some.is)
    (subst (λ (s : Option (Bor (Document ℕ))). Keeps (Some c.in-Some.compiled) s) (sym c.in-Some-source.is) c.transformed.ensures.keeps)
