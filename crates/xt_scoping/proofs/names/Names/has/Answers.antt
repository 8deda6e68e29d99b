use Rattle.std.proofs.Common.{ap, ◌∙◌}
use Rattle.spec_compile.specs.Scoping.{is_named}
use Rattle.xt_scoping.proofs.Sets.{among_keys}
use Rattle.xt_scoping.proofs.names.Names.has.Goals as goal

pub returns : goal.returns
returns c =
    c.contains.ensures ∙ among_keys c.self.inside.keys.keys (record { name = c.args.name })
    ∙ ap (λ names. is_named names c.args.name.now) c.self.view_is
