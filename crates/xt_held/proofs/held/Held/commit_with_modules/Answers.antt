use Rattle.std.proofs.Common.{Option, false, refl, subst, sym}
use Rattle.xt_world.specs.ParameterView.{parameters_of}
use Rattle.xt_held.specs.Complete.{KeepsWhere}
use Rattle.xt_held.specs.Cost.{CostsRun}
use Rattle.xt_held.specs.OutcomeView.{outcome_of}
use Rattle.xt_held.specs.RunView.{LastHolds}
use Rattle.xt_held.specs.StylesheetView.{AreCompiled}
use Rattle.xt_held.specs.View.{before_by, documents_of, is_edited_by, left_by}
use Rattle.xt_held.specs.declared.ready.Change.TheVariants as changes
use Rattle.xt_held.specs.declared.ready.Recompiled.TheVariants.{Now}
use Rattle.xt_held.specs.declared.stylesheet.Compiled.{Compiled}
use Rattle.xt_held.proofs.Making.{told_from, told_ready}
use Rattle.xt_held.proofs.Paying.{batch_changes}
use Rattle.spec_cost.specs.Marking.{and_marks}
use Rattle.xt_held.specs.Marked.{known_in}
use Rattle.xt_held.proofs.Asking.{true_or, with_style}
use Rattle.xt_held.proofs.held.Held.commit_with_modules.Goals as goal

pub returns-clause-ok : goal.returns-clause-ok
returns-clause-ok c =
    let held = c.args.self.now in
    let given = parameters_of held.parameters in
    let modules = (documents_of held).modules in
    let compiled = c.in_ok-compiled.compiled in
    let came = c.in-Ok.came in
    let change = changes.Committed (Now compiled) in
    let are = subst (λ (o : Option Compiled). AreCompiled modules o) (sym c.as_ref.ensures.value) c.in_ok-compiled.ensures.compiled in
    record {
      is_open = c.requires.is_open;
      present = refl;
      pending = refl;
      made = refl;
      from = told_from held change held.next came
          (record {
            outcome = c.in-Ok.ensures.outcome modules are;
            closed = refl;
            fits = c.in-Ok.ensures.fits;
            compiled = c.in_ok-compiled.ensures.compiled;
            last = subst (λ (o : Option Compiled). LastHolds (outcome_of came.outcome) o given held.source
                (left_by came (before_by o held.compiled held.last.before) held.last)) c.as_ref.ensures.value c.in-Ok.ensures.last;
            cost = subst (λ (o : Option Compiled). CostsRun o given held.source held.last.kept.records came.counts)
                c.as_ref.ensures.value c.in-Ok.ensures.cost;
            keeps = subst (λ (o : Option Compiled). KeepsWhere o given held.source came.kept) c.as_ref.ensures.value c.in-Ok.ensures.keeps;
            same = batch_changes (told_ready change held.next came) held (is_edited_by held.batch) false c.requires.edited;
            called = λ e. c.in_ok-compiled.ensures.called;
          }) tt c.requires.current.below tt;
      told = refl;
    }

pub returns-clause-tells : goal.returns-clause-tells
returns-clause-tells c =
    let held = c.args.self.now in
    let modules = (documents_of held).modules in
    let are = subst (λ (o : Option Compiled). AreCompiled modules o) (sym c.as_ref.ensures.value) c.in_ok-compiled.ensures.compiled in
    record {
      tells = λ told is.
          let styled = c.in-Ok.ensures.asks told is modules are in
          record {
            all = and_marks told styled.0;
            by = with_style (is_edited_by held.batch) false modules (known_in held) told styled.0 (true_or (is_edited_by held.batch) c.requires.edited) styled.1;
            asked = styled.2;
          };
    }
