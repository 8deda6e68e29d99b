use Rattle.std.proofs.Common.{◌≡◌, true, false, sym, ap, ◌∙◌, arith}
use Rattle.std.specs.Prelude.{Ok}
use Rattle.std.specs.List.{list_all}
use Rattle.std.proofs.lemmas.Result.{err_from_is_err_and}
use Rattle.spec_document.specs.Character.{is_char}
use Rattle.spec_edit.specs.Edit.{SetText, is_element, text_set}
use Rattle.xt_tree.specs.View.{tree_of}
use Rattle.xt_edit.specs.Site.{spot_in}
use Rattle.xt_edit.proofs.Stays.{stays, stays-below}
use Rattle.xt_edit.proofs.Valued.{set-is, valued_there}
use Rattle.xt_edit.proofs.text.set_text.Goals as goal

pub returns-in_err-site-clause-edit : goal.returns-in_err-site-clause-edit
returns-in_err-site-clause-edit c =
    let p = err_from_is_err_and c.from_residual.result c.from_residual.ensures.1 in
    rw (p.1, p.2) (c.in_err-site.ensures c.args.first.number (λ spot there content. text_set spot c.args.document.now c.args.value.now content))

pub with_value-requires-clause-stands : goal.with_value-requires-clause-stands
with_value-requires-clause-stands c =
    let site = c.in_ok-site.site in
    let kind : is_element (tree_of site.node.now).content ≡ false = sym (ap is_element c.content.ensures) ∙ sym c.if-is_element.ensures in
    let chars : list_all is_char c.args.value.now ≡ true = sym c.is_text_of_chars.ensures ∙ c.if-not-is_text_of_chars.false in
    stays c.args.first.number (SetText c.args.path.now c.args.value.now) c.args.document.now c.requires c.stand.ensures
    (valued_there c.args.document.now (spot_in site.spot) (tree_of site.node.now).content c.args.value.now)
    (set-is c.args.first.number c.args.document.now c.args.path.now c.args.value.now (spot_in site.spot) site.node.now c.in_ok-site.ensures kind chars)

pub returns-clause-edit : goal.returns-clause-edit
returns-clause-edit c =
    let site = c.in_ok-site.site in
    let kind : is_element (tree_of site.node.now).content ≡ false = sym (ap is_element c.content.ensures) ∙ sym c.if-is_element.ensures in
    let chars : list_all is_char c.args.value.now ≡ true = sym c.is_text_of_chars.ensures ∙ c.if-not-is_text_of_chars.false in (
      valued_there c.args.document.now (spot_in site.spot) (tree_of site.node.now).content c.args.value.now,
      set-is c.args.first.number c.args.document.now c.args.path.now c.args.value.now (spot_in site.spot) site.node.now c.in_ok-site.ensures kind chars,
      c.in_ok-document.ensures,
      omega arith,
    )

pub returns-clause-below : goal.returns-clause-below
returns-clause-below c =
    stays-below c.args.first.number (SetText c.args.path.now c.args.value.now) c.args.document.now
    (Ok (record { document = c.in_ok-document.document; next = c.args.first })) c.requires (returns-clause-edit c)
