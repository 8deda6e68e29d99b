use Rattle.std.proofs.Common.{◌≡◌, ◌∙◌, ap, sym, arith}
use Rattle.std.specs.Map.{lookup}
use Rattle.std.specs.Option.{option_map, option_copied}
use Rattle.xt_import.specs.View.{is_name, modules_in, plain_of}
use Rattle.xt_import.proofs.Gathering.{entered, not_held}
use Rattle.xt_import.proofs.Keys.{by_characters}
use Rattle.xt_import.proofs.gather.enter.Goals as goal

pub returns-in-None : goal.returns-in-None
returns-in-None c =
    let entries = c.args.modules.now.entries in
    let found : option_copied c.get.result ≡ lookup (is_name c.args.target.now.name) entries
    = c.get.ensures.value ∙ by_characters c.as_str.result.now c.as_str.utf8 entries ∙ ap (λ n. lookup (is_name n) entries) c.as_str.ensures.characters in
    not_held (modules_in entries) c.args.target.now _ (ap (option_map plain_of) (sym found ∙ ap option_copied c.in-None.is))

pub returns-in_ok-push_levels-in-Some : goal.returns-in_ok-push_levels-in-Some
returns-in_ok-push_levels-in-Some c =
    let entries = c.args.modules.now.entries in
    let found : option_copied c.get.result ≡ lookup (is_name c.args.target.now.name) entries
    = c.get.ensures.value ∙ by_characters c.as_str.result.now c.as_str.utf8 entries ∙ ap (λ n. lookup (is_name n) entries) c.as_str.ensures.characters in
    entered (modules_in entries) c.args.target.now _ _ _ (plain_of c.in-Some.document.now) (omega arith)
    (ap (option_map plain_of) (sym found ∙ ap option_copied c.in-Some.is)) c.in_ok-levels-in-Some.ensures c.in_ok-push_levels-in-Some.ensures
