use Rattle.std.proofs.Common.{ap, not, ◌∙◌}
use Rattle.std.specs.Prelude.{◌==◌, ◌&&◌, ◌||◌}
use Rattle.spec_document.specs.Name.{same_name}
use Rattle.xt_scoping.specs.Precedences.{declared_by, is_declared}
use Rattle.xt_scoping.proofs.Doubled.{among_ranked, ranked_inserted}
use Rattle.xt_scoping.proofs.declared.Declared.insert.Goals as goal

pub returns-clause-new : goal.returns-clause-new
returns-clause-new c =
    c.in_ok-is_new.ensures.added ∙ ap not (among_ranked c.self.inside.keys.keys (c.args.precedence, record { name = c.args.name }))
    ∙ ap (λ names. not (is_declared names c.args.precedence c.args.name.now)) c.self.view_is

pub returns-clause-declared : goal.returns-clause-declared
returns-clause-declared c p n =
    ap (λ keys. is_declared (declared_by keys) p n) c.in_ok-is_new.ensures.keys
    ∙ ranked_inserted c.self.inside.keys.keys (c.args.precedence, record { name = c.args.name }) p n
    ∙ ap (λ names. is_declared names p n || ((c.args.precedence == p) && same_name n c.args.name.now)) c.self.view_is
