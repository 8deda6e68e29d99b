use Rattle.std.proofs.Common.{Some, sym, ap, ◌∙◌, ◌≡◌}
use Rattle.std.specs.Map.{lookup}
use Rattle.std.specs.Option.{option_copied_mut}
use Rattle.std.proofs.lemmas.Result.{on_ok_weaker}
use Rattle.spec_compile.specs.Sheet.{said_by}
use Rattle.xt_import.specs.View.{is_name}
use Rattle.xt_import.proofs.Keys.{by_characters}
use Rattle.xt_compile.proofs.Opening.{changed, found_opened, is_left}
use Rattle.xt_compile.proofs.placing.at_hand.Goals as goal

pub returns-in-Some-clause-found : goal.returns-in-Some-clause-found
returns-in-Some-clause-found c =
    let es = c.args.placing.now.opened.entries in
    let name = c.args.part.now.module_name in
    let text = c.as_str.result.now in
    let found : lookup (is_name name) es ≡ Some c.in-Some.opened.now =
    ap (λ n. lookup (is_name n) es) (sym c.as_str.ensures.characters) ∙ sym (by_characters text c.as_str.utf8 es) ∙ sym c.get_mut.ensures.value ∙ ap option_copied_mut c.in-Some.is in
    found_opened c.left_at.result name c.args.part.now.path es c.in-Some.opened.now found (λ said placing. placing.opened) c.left_at.ensures.found

pub returns-in-Some-clause-stays : goal.returns-in-Some-clause-stays
returns-in-Some-clause-stays c =
    let es = c.args.placing.now.opened.entries in
    let name = c.args.part.now.module_name in
    let text = c.as_str.result.now in
    let old = c.in-Some.opened.now in
    let new = c.left_at.new.opened in
    let found : lookup (is_name name) es ≡ Some old =
    ap (λ n. lookup (is_name n) es) (sym c.as_str.ensures.characters) ∙ sym (by_characters text c.as_str.utf8 es) ∙ sym c.get_mut.ensures.value ∙ ap option_copied_mut c.in-Some.is in
    on_ok_weaker c.left_at.result (λ left said placing. record {
      stock = placing.stock;
      opened = changed text name said es _ new c.as_str.ensures.characters (c.get_mut.follows.holds new).0
          (left (said_by name said) (is_left name said es old found placing.opened)) placing.opened;
    }) c.left_at.ensures.stays
