use Rattle.spec_node.specs.Naming.{same_ref}
use Rattle.xt_record.specs.View.{kept_in}
use Rattle.xt_record.proofs.Lasting.{truly}
use Rattle.xt_record.proofs.Sets.{sets}
use Rattle.xt_record.proofs.keeping.a_record_lasts.Goals as goal

pub returns : goal.returns
returns c = truly sets same_ref (kept_in c.args.kept.now) c.args.kept.now.lasting
