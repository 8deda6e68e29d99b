use Rattle.std.proofs.Common.{◌≡◌, ◌∙◌, ◌++◌, true, false, ap, sym, reverse, rules}
use Rattle.std.specs.Map.{lookup}
use Rattle.std.specs.Option.{option_map, option_copied}
use Rattle.spec_structure.specs.Modules.{is_among, links_by}
use Rattle.xt_import.specs.Table.{names_of}
use Rattle.xt_import.specs.View.{is_name, modules_in, plain_of}
use Rattle.xt_import.proofs.Keys.{by_characters}
use Rattle.xt_import.proofs.Links.{named_alike}
use Rattle.xt_import.proofs.Reading.{skips, passes, takes}
use Rattle.xt_import.proofs.Rows.{linked_alike}
use Rattle.xt_import.proofs.Unread.{counted}
use Rattle.xt_import.proofs.order.read.Goals as goal

pub returns-then-is_read-clause-reads : goal.returns-then-is_read-clause-reads
returns-then-is_read-clause-reads c =
    let here : is_among c.args.name.now (names_of c.args.table.now.entries) ≡ true = search rules in
    skips here

pub returns-in-None-clause-reads : goal.returns-in-None-clause-reads
returns-in-None-clause-reads c =
    let new : is_among c.args.name.now (names_of c.args.table.now.entries) ≡ false = search rules in
    let entries = c.args.modules.now.entries in
    let found : option_copied c.get.result ≡ lookup (is_name c.args.name.now) entries
    = c.get.ensures.value ∙ by_characters c.as_str.result.now c.as_str.utf8 entries ∙ ap (λ n. lookup (is_name n) entries) c.as_str.ensures.characters in
    passes new (ap (option_map plain_of) (sym found ∙ ap option_copied c.in-None.is))

pub returns-in_ok-add_module-in-Some-clause-reads : goal.returns-in_ok-add_module-in-Some-clause-reads
returns-in_ok-add_module-in-Some-clause-reads c =
    let new : is_among c.args.name.now (names_of c.args.table.now.entries) ≡ false = search rules in
    let entries = c.args.modules.now.entries in
    let found : option_copied c.get.result ≡ lookup (is_name c.args.name.now) entries
    = c.get.ensures.value ∙ by_characters c.as_str.result.now c.as_str.utf8 entries ∙ ap (λ n. lookup (is_name n) entries) c.as_str.ensures.characters in
    let hrefs = ap (λ xs. c.args.pending.now.items ++ reverse xs) (named_alike _ _ _ c.as_slice.ensures.value c.in_ok-links-in-Some.ensures) in
    takes _ (plain_of c.in-Some.document.now) new (ap (option_map plain_of) (sym found ∙ ap option_copied c.in-Some.is))
    c.in_ok-add_module-in-Some.ensures.names (c.in_ok-push_hrefs-in-Some.ensures ∙ hrefs)

pub returns-in_ok-add_module-in-Some-clause-smaller : goal.returns-in_ok-add_module-in-Some-clause-smaller
returns-in_ok-add_module-in-Some-clause-smaller c =
    let new : is_among c.args.name.now (names_of c.args.table.now.entries) ≡ false = search rules in
    let entries = c.args.modules.now.entries in
    let found : option_copied c.get.result ≡ lookup (is_name c.args.name.now) entries
    = c.get.ensures.value ∙ by_characters c.as_str.result.now c.as_str.utf8 entries ∙ ap (λ n. lookup (is_name n) entries) c.as_str.ensures.characters in
    let hrefs = ap (λ xs. c.args.pending.now.items ++ reverse xs) (named_alike _ _ _ c.as_slice.ensures.value c.in_ok-links-in-Some.ensures) in
    counted _ _ _ _ c.args.name.now entries c.in-Some.document.now new (sym found ∙ ap option_copied c.in-Some.is)
    c.in_ok-add_module-in-Some.ensures.names (c.in_ok-push_hrefs-in-Some.ensures ∙ hrefs)

pub returns-in_ok-add_module-in-Some-clause-links : goal.returns-in_ok-add_module-in-Some-clause-links
returns-in_ok-add_module-in-Some-clause-links c old =
    let entries = c.args.modules.now.entries in
    let found : option_copied c.get.result ≡ lookup (is_name c.args.name.now) entries
    = c.get.ensures.value ∙ by_characters c.as_str.result.now c.as_str.utf8 entries ∙ ap (λ n. lookup (is_name n) entries) c.as_str.ensures.characters in
    let its = ap links_by (ap (option_map plain_of) (sym found ∙ ap option_copied c.in-Some.is)) in
    linked_alike (modules_in entries) c.args.name.now _ _ _ c.in_ok-add_module-in-Some.ensures.names c.in_ok-add_module-in-Some.ensures.links
    (c.in_ok-links-in-Some.ensures ∙ sym its) old
