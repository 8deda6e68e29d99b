use Rattle.std.proofs.Common.{◌∙◌, ap}
use Rattle.std.specs.Str.{chars}
use Rattle.xt_import.proofs.Rows.{named_last, linked_last}
use Rattle.xt_import.proofs.table.add_module.Goals as goal

pub returns-clause-names : goal.returns-clause-names
returns-clause-names c =
    named_last c.args.name.now c.in_ok-key.key c.args.links c.args.table.now.entries _ (ap chars c.in_ok-key.ensures.ok ∙ c.as_str.ensures.characters) c.requires
    c.in_ok-insert.ensures.entries

pub returns-clause-links : goal.returns-clause-links
returns-clause-links c =
    linked_last c.args.name.now c.in_ok-key.key c.args.links c.args.table.now.entries _ (ap chars c.in_ok-key.ensures.ok ∙ c.as_str.ensures.characters) c.requires
    c.in_ok-insert.ensures.entries
