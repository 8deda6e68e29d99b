use Rattle.std.proofs.Common.{ap, not, ◌∙◌}
use Rattle.spec_compile.specs.Scoping.{is_named}
use Rattle.xt_scoping.specs.Distinct.{names_of, with_name}
use Rattle.xt_scoping.proofs.Sets.{among_keys, one_inserted}
use Rattle.xt_scoping.proofs.names.Names.insert.Goals as goal

pub returns-clause-new : goal.returns-clause-new
returns-clause-new c =
    c.in_ok-is_new.ensures.added ∙ ap not (among_keys c.self.inside.keys.keys (record { name = c.args.name }))
    ∙ ap (λ names. not (is_named names c.args.name.now)) c.self.view_is

pub returns-clause-names : goal.returns-clause-names
returns-clause-names c =
    ap names_of c.in_ok-is_new.ensures.keys ∙ one_inserted c.self.inside.keys.keys (record { name = c.args.name })
    ∙ ap (λ names. with_name names c.args.name.now) c.self.view_is
