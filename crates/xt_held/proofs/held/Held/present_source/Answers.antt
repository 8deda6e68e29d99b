use Rattle.std.proofs.Common.{refl, ap}
use Rattle.xt_held.specs.View.{documents_of, made_of}
use Rattle.xt_held.specs.declared.ready.Change.TheVariants as changes
use Rattle.xt_held.proofs.Keeping.{all_raised}
use Rattle.xt_held.proofs.Making.{compiled_alone, mapped_twice, none_edited, none_open, told_from}
use Rattle.xt_held.proofs.Marked.{known_of}
use Rattle.xt_held.proofs.Paying.{present_modules}
use Rattle.spec_cost.specs.Marking.{and_marks}
use Rattle.xt_held.specs.Marked.{known_in, source_marks}
use Rattle.xt_held.specs.View.{is_edited_by}
use Rattle.xt_held.proofs.Asking.{as_told}
use Rattle.xt_held.proofs.held.Held.present_source.Goals as goal

pub outcome_with_source-requires-clause-known : goal.outcome_with_source-requires-clause-known
outcome_with_source-requires-clause-known c = known_of c.args.self.now c.requires.current

pub returns-clause-ok : goal.returns-clause-ok
returns-clause-ok c =
    let held = c.args.self.now in
    let documents = documents_of held in
    let change = changes.Source c.args.document in
    let alone = none_open held.batch documents c.requires.alone in
    let compiled = compiled_alone held alone c.requires.current.compiled in
    record {
      documents = refl;
      made = refl;
      pending = mapped_twice held.batch _ documents;
      from = told_from held change c.args.next c.in-Ok.came
          (record {
            outcome = c.in-Ok.ensures.outcome documents.modules compiled;
            closed = alone;
            fits = c.in-Ok.ensures.fits;
            compiled = compiled;
            last = c.in-Ok.ensures.last;
            cost = c.in-Ok.ensures.cost;
            keeps = c.in-Ok.ensures.keeps;
            same = λ e. record { modules = present_modules held alone; compiled = refl };
            called = λ e. absurd (none_edited held.batch alone e);
          }) tt (all_raised (made_of held) c.args.next.number held c.requires.grows c.requires.current.below) c.requires.below;
    }

pub returns-clause-tells : goal.returns-clause-tells
returns-clause-tells c =
    let held = c.args.self.now in
    let documents = documents_of held in
    let alone = none_open held.batch documents c.requires.alone in
    record {
      tells = λ told is.
          let all = and_marks told (source_marks (known_in held) c.args.origin held.source c.args.document) in
          record {
            all = all;
            by = as_told (is_edited_by held.batch) documents.modules (known_in held) all (ap is_edited_by alone);
            asked = c.in-Ok.ensures.asks told is;
          };
    }
