use Rattle.std.proofs.Common.{refl}
use Rattle.xt_world.specs.View.{truth_in}
use Rattle.xt_own.proofs.Keeping.{together}
use Rattle.xt_own.proofs.own_reads.Prepared.gather.Goals as goal

pub returns : goal.returns
returns c = λ parameters carries.
    together c.joined.result c.choices_asked-gathered.result c.with_named-keys.result c.args.stylesheet.now
    (truth_in c.args.stylesheet.now parameters c.args.document.now) c.joined.ensures.choices c.joined.ensures.keys
    (c.choices_asked-gathered.ensures parameters carries.choices) (c.with_named-keys.ensures parameters carries.keys)
    (record { parameters = parameters; document = c.args.document.now; answers = λ question. refl })
