use Rattle.std.proofs.Common.{None, arith, refl, List, subst, sym}
use Rattle.spec_cost.specs.Numbers as numbers
use Rattle.spec_run.specs.Documents.{without_module}
use Rattle.xt_world.specs.ParameterView.{parameters_of}
use Rattle.xt_held.specs.View.{documents_of, numbers_of}
use Rattle.xt_held.specs.declared.ready.Change.TheVariants as changes
use Rattle.xt_held.specs.declared.ready.Recompiled.TheVariants.{AsBefore}
use Rattle.xt_held.proofs.Keeping.{serves_since}
use Rattle.xt_held.proofs.Making.{mapped_edit, open_edited, pending_from}
use Rattle.spec_touch.specs.Marks.{WorldChange}
use Rattle.xt_held.specs.Marked.{AreToldBy}
use Rattle.xt_held.proofs.held.Held.pending_drop.Goals as goal

pub returns-clause-ok : goal.returns-clause-ok
returns-clause-ok c =
    let held = c.args.self.now in
    let documents = documents_of held in
    let name = c.in_ok-dropped in
    let since = c.in_ok-since.since in
    record {
      documents = λ i. without_module (name.ensures i) documents;
      made = refl;
      pending = mapped_edit held.batch _ documents;
      from = pending_from held (changes.Dropped name.dropped AsBefore) held.next since
          (record {
            current = c.requires.current;
            is_open = open_edited held.batch documents c.requires.is_open;
            grows = omega arith;
            compiled = refl;
            before = refl;
            serves = serves_since held.compiled (parameters_of held.parameters) held.source held.last since c.in_ok-since.ensures c.requires.current.serves;
          }) tt c.requires.current.below tt;
    }

pub returns-clause-brings : goal.returns-clause-brings
returns-clause-brings c =
    record { numbers = λ i. numbers.with_module (c.in_ok-dropped.ensures i) None (numbers_of c.args.self.now); kind = refl }

pub returns-clause-tells : goal.returns-clause-tells
returns-clause-tells c = record {
  tells = λ told is.
      subst (λ (changes : List WorldChange). AreToldBy c.args.self.now.last.kept.records told changes) (sym c.in_ok-since.ensures) is;
}
