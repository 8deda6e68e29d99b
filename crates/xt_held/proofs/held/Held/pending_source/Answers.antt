use Rattle.std.proofs.Common.{Some, refl}
use Rattle.xt_touch.specs.View.{since_of}
use Rattle.xt_world.specs.ParameterView.{parameters_of}
use Rattle.xt_held.specs.RunView.{last_known}
use Rattle.xt_held.specs.View.{documents_of, made_of}
use Rattle.xt_held.specs.declared.ready.Change.TheVariants as changes
use Rattle.xt_held.proofs.Keeping.{all_raised}
use Rattle.xt_held.proofs.Left.{kept_stays}
use Rattle.xt_held.proofs.Making.{mapped_twice, open_batch, pending_from}
use Rattle.xt_held.proofs.held.Held.pending_source.Goals as goal

pub returns-clause-ok : goal.returns-clause-ok
returns-clause-ok c =
    let held = c.args.self.now in
    let documents = documents_of held in
    let what = last_known held.compiled held.last.before in
    let given = parameters_of held.parameters in
    let known = c.requires.current.serves in
    record {
      documents = refl;
      made = refl;
      pending = mapped_twice held.batch _ documents;
      from = pending_from held (changes.Source c.args.document) c.args.next c.in-Ok.since
          (record {
            current = c.requires.current;
            is_open = open_batch held.batch documents c.requires.is_open;
            grows = c.requires.grows;
            compiled = refl;
            before = refl;
            serves = record {
              spared = kept_stays what what given given held.source (Some c.args.document) (since_of held.last.since) (since_of c.in-Ok.since) c.in-Ok.ensures.spared
                  held.last.kept known.answers known.answers known.spared;
              answers = known.answers;
              faultless = c.requires.faultless;
            };
          }) tt (all_raised (made_of held) c.args.next.number held c.requires.grows c.requires.current.below) c.requires.below;
    }

pub returns-clause-tells : goal.returns-clause-tells
returns-clause-tells c = record { tells = λ told is. c.in-Ok.ensures.told told is }
