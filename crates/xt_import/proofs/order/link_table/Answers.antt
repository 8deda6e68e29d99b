use Rattle.std.proofs.Common.{◌≡◌, ◌∙◌, ◌++◌, ◌∷◌, [], ap, map, rules, sym}
use Rattle.spec_structure.specs.Modules.{links_in}
use Rattle.xt_import.specs.Table.{lists_of, names_of}
use Rattle.xt_import.specs.View.{modules_in}
use Rattle.xt_import.proofs.Reading.{begins, ends}
use Rattle.xt_import.proofs.order.link_table.Goals as goal

pub loop-name-init : goal.loop-name-init
loop-name-init c =
    let none : names_of c.new-table.result.entries ≡ [] = ap names_of c.new-table.ensures.empty in
    record {
      goes_on = begins none
          (c.in_ok-push.ensures.items ∙ ap (λ xs. xs ++ c.in_ok-from_str.field-0 ∷ []) c.new-pending.ensures.items ∙ ap (λ t. t ∷ []) c.in_ok-from_str.ensures);
      same_links = ap lists_of c.new-table.ensures.empty
          ∙ sym (ap (λ es. map (links_in (modules_in c.args.modules.now.entries)) (names_of es)) c.new-table.ensures.empty);
    }

pub returns-clause-names : goal.returns-clause-names
returns-clause-names c =
    let none : c.loop-name.pending.items ≡ [] = search rules in
    ends none c.loop-name.invariant.goes_on
