use Rattle.std.proofs.Common.{◌∙◌, ap}
use Rattle.std.specs.Map.{lookup}
use Rattle.xt_import.specs.View.{is_name, plain_of}
use Rattle.xt_import.proofs.Keys.{by_characters}
use Rattle.xt_import.proofs.Standing.{same_there}
use Rattle.xt_import.proofs.fault.is_held.Goals as goal

pub returns : goal.returns
returns c =
    let entries = c.args.modules.now.entries in
    c.is_some.ensures ∙ same_there plain_of c.get.result _
    (c.get.ensures.value ∙ by_characters c.as_str.result.now c.as_str.utf8 entries ∙ ap (λ n. lookup (is_name n) entries) c.as_str.ensures.characters)
