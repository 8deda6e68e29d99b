use Rattle.std.proofs.Common.{◌≡◌, ◌∙◌, sym, ap, subst, length, arith}
use Rattle.std.proofs.lemmas.Bool.{eqb-true}
use Rattle.spec_document.specs.Place.{namespaces_of}
use Rattle.xt_names.specs.View.{entry_of}
use Rattle.xp_axes.specs.Placed.{HasNamespaces}
use Rattle.xp_axes.proofs.Reached.{length_map}
use Rattle.xp_axes.proofs.owner.count.Goals as goal

pub returns-then-eq : goal.returns-then-eq
returns-then-eq c =
    let same = eqb-true c.args.last.id.number c.args.id.number (sym c.eq.ensures ∙ c.if-eq.true) in
    subst (λ n. HasNamespaces c.args.document.now n c.args.last.namespaces) same c.requires

pub returns : goal.returns
returns c x e =
    let count : length c.in_ok-list.list.items ≡ length (namespaces_of x) =
    sym (length_map (λ n. entry_of n.value) c.in_ok-list.list.items) ∙ ap length (c.in_ok-list.ensures x e) in
    grind (arith, count)
