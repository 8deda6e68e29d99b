use Rattle.std.proofs.Common.{◌≡◌, ◌∙◌, ap, sym}
use Rattle.std.specs.Map.{lookup}
use Rattle.std.specs.Option.{option_copied}
use Rattle.xt_import.specs.Table.{number_in}
use Rattle.xt_import.specs.View.{is_name, modules_in}
use Rattle.xt_import.proofs.Certified.{fault_of, no_links}
use Rattle.xt_import.proofs.Keys.{by_characters}
use Rattle.xt_import.proofs.fault.fault_by.Goals as goal

pub returns-in-None : goal.returns-in-None
returns-in-None c order same rise =
    let entries = c.args.table.now.entries in
    let found : option_copied c.get.result ≡ lookup (is_name c.args.name.now) entries
    = c.get.ensures.value ∙ by_characters c.as_str.result.now c.as_str.utf8 entries ∙ ap (λ n. lookup (is_name n) entries) c.as_str.ensures.characters in
    no_links (modules_in c.args.modules.now.entries) c.args.name.now entries (sym found ∙ ap option_copied c.in-None.is) order

pub returns-in-Some : goal.returns-in-Some
returns-in-Some c =
    let entries = c.args.table.now.entries in
    let found : option_copied c.get.result ≡ lookup (is_name c.args.name.now) entries
    = c.get.ensures.value ∙ by_characters c.as_str.result.now c.as_str.utf8 entries ∙ ap (λ n. lookup (is_name n) entries) c.as_str.ensures.characters in
    fault_of (modules_in c.args.modules.now.entries) c.args.name.now (number_in entries c.args.numbers.now) entries c.in-Some.links.now c.as_slice.result.now c.first_fault.result
    (sym found ∙ ap option_copied c.in-Some.is) c.as_slice.ensures.value c.first_fault.ensures
