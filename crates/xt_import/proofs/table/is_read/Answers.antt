use Rattle.std.proofs.Common.{◌∙◌, ap}
use Rattle.spec_structure.specs.Modules.{is_among}
use Rattle.xt_import.specs.Table.{names_of}
use Rattle.xt_import.proofs.Rows.{read_by_text}
use Rattle.xt_import.proofs.table.is_read.Goals as goal

pub returns : goal.returns
returns c =
    c.contains_key.ensures ∙ read_by_text c.as_str.result.now c.args.table.now.entries c.as_str.utf8
    ∙ ap (λ name. is_among name (names_of c.args.table.now.entries)) c.as_str.ensures.characters
