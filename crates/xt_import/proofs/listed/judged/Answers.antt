use Rattle.std.proofs.Common.{◌≡◌, ◌∙◌, ◌∷◌, ℕ, List, ap, subst, sym}
use Rattle.std.proofs.lemmas.Map.Iter.{rest_more}
use Rattle.std.specs.Map.Iter.{deref_pair}
use Rattle.std.specs.Str.{chars}
use Rattle.xt_import.specs.Table.{Entry, IsKnown, name_of, number_in}
use Rattle.xt_import.specs.View.{modules_in}
use Rattle.xt_structure.specs.declared.links.Link as sheet
use Rattle.xt_structure.specs.View.{links_in}
use Rattle.xt_import.proofs.Certified.{judged_more, named_more}
use Rattle.xt_import.proofs.listed.judged.Goals as goal

pub loop-name-preserved : goal.loop-name-preserved
loop-name-preserved c =
    let e : Entry = (c.in-Some.name.now, c.in-Some.links.now) in
    let turn : c.loop-name.name-iterator ≡ e ∷ c.next.new.self = rest_more deref_pair _ _ _ (c.in-Some.name, c.in-Some.links) c.in-Some.is c.next.ensures.steps in
    let number = number_in c.args.table.now.entries c.args.numbers.now in
    let modules = modules_in c.args.modules.now.entries in
    let name : c.in_ok-name.name ≡ name_of e = c.in_ok-name.ensures ∙ ap chars c.as_str.ensures.value in
    let named : c.in_ok-judged_module.field-0.name ≡ name_of e = c.in_ok-judged_module.ensures.name ∙ name in
    record {
      names = named_more _ _ _ e _ _ _ turn c.in_ok-push.ensures.items named c.loop-name.invariant.names;
      link_faults = judged_more modules number _ _ _ e _ _ _ turn c.in_ok-push.ensures.items named
          (λ known. c.in_ok-judged_module.ensures.link_fault
          (subst (λ (n : List ℕ). IsKnown modules number n (links_in c.as_slice.result.now)) (sym name)
          (subst (λ (ls : List sheet.Link). IsKnown modules number (name_of e) (links_in ls)) (sym c.as_slice.ensures.value) known)))
          c.loop-name.invariant.link_faults;
    }
