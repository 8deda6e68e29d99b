use Rattle.std.proofs.Common.{None, ap, ◌∙◌, sym}
use Rattle.std.specs.Str.{chars}
use Rattle.xt_compile.specs.Stock.{in_slot}
use Rattle.xt_compile.proofs.Stocked.{old_found, put_found}
use Rattle.xt_compile.proofs.stock.take_out.Goals as goal

pub returns-in-None-clause-taken : goal.returns-in-None-clause-taken
returns-in-None-clause-taken c =
    ap in_slot (sym c.in-None.is ∙ old_found c.args.stock.now.entries c.in_ok-key.key (ap chars c.in_ok-key.ensures.ok ∙ c.as_str.ensures.characters) (c.in_ok-insert.ensures {u = tt}).old)

pub returns-in-None-clause-rest : goal.returns-in-None-clause-rest
returns-in-None-clause-rest c =
    put_found c.args.stock.now.entries c.insert.new.self.entries c.in_ok-key.key c.args.name.now None
    (ap chars c.in_ok-key.ensures.ok ∙ c.as_str.ensures.characters) (c.in_ok-insert.ensures {u = tt}).entries

pub returns-in-Some-clause-taken : goal.returns-in-Some-clause-taken
returns-in-Some-clause-taken c =
    ap in_slot (sym c.in-Some.is ∙ old_found c.args.stock.now.entries c.in_ok-key.key (ap chars c.in_ok-key.ensures.ok ∙ c.as_str.ensures.characters) (c.in_ok-insert.ensures {u = tt}).old)

pub returns-in-Some-clause-rest : goal.returns-in-Some-clause-rest
returns-in-Some-clause-rest c =
    put_found c.args.stock.now.entries c.insert.new.self.entries c.in_ok-key.key c.args.name.now None
    (ap chars c.in_ok-key.ensures.ok ∙ c.as_str.ensures.characters) (c.in_ok-insert.ensures {u = tt}).entries
