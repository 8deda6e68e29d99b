use Rattle.std.proofs.Common.{sym, ap, ◌∙◌}
use Rattle.std.specs.Option.{option_copied}
use Rattle.xt_syntax.specs.PartView.{place_of}
use Rattle.spec_cost.specs.Naming.{number_in}
use Rattle.xt_held.proofs.Calling.{number_found}
use Rattle.xt_held.proofs.stylesheet.number_at.Goals as goal

pub returns-in_err-get-in-Some : goal.returns-in_err-get-in-Some
returns-in_err-get-in-Some c =
    let place = place_of c.args.place.now in
    let found = number_found c.args.modules.now.entries place.module_name place.path c.in-Some.name c.as_str.result.now c.as_str.utf8 c.get.result
    c.in-Some.is c.as_str.ensures.characters c.get.ensures.value in
    c.from_residual.ensures ∙ sym (ap (λ o. number_in (option_copied o) place.path) c.in_err-get-in-Some.was) ∙ found

pub returns-in_ok-get-in-Some : goal.returns-in_ok-get-in-Some
returns-in_ok-get-in-Some c =
    let place = place_of c.args.place.now in
    let found = number_found c.args.modules.now.entries place.module_name place.path c.in-Some.name c.as_str.result.now c.as_str.utf8 c.get.result
    c.in-Some.is c.as_str.ensures.characters c.get.ensures.value in
    c.number_in.ensures ∙ sym (ap (λ o. number_in (option_copied o) place.path) c.in_ok-get-in-Some.was) ∙ found
