use Rattle.std.proofs.Common.{◌++◌, ◌∙◌, sym, ap, append-nil}
use Rattle.std.specs.Option.{option_to_list}
use Rattle.xp_axes.proofs.Kept.{not_placed}
use Rattle.xp_axes.proofs.Owned.{told, not_among}
use Rattle.xp_axes.proofs.ordered.place_namespace.Goals as goal

pub returns-then-not-is_among : goal.returns-then-not-is_among
returns-then-not-is_among c =
    let d = c.args.document.now in
    let r = c.args.node.now in
    let items = c.args.placed.now.items in
    let told = told d r c.args.number c.args.namespaces c.is_among.result c.requires.part c.requires.counted c.is_among.ensures in
    let none = not_among d r (λ x is. sym c.if-not-is_among.true ∙ told x is) in
    sym (ap (λ o. items ++ option_to_list o) (not_placed d c.distinct_numbers.ensures r none) ∙ append-nil items)

pub place_owned-requires : goal.place_owned-requires
place_owned-requires c x is =
    sym (told c.args.document.now c.args.node.now c.args.number c.args.namespaces c.is_among.result c.requires.part c.requires.counted
    c.is_among.ensures x is)
    ∙ c.if-not-is_among.false
