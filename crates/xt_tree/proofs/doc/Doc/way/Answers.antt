use Rattle.std.proofs.Common.{◌≡◌, ◌==◌, ◌++◌, true, false, ◌∙◌, sym, ap, subst, Some, None, if◌then◌else◌}
use Rattle.std.specs.Option.{option_map}
use Rattle.xt_tree.specs.View.{forest_of, way_to, IsWayTo}
use Rattle.xt_tree.specs.Numbers.{IsNumbered}
use Rattle.xt_tree.proofs.Distinct.{only_way}
use Rattle.xt_tree.proofs.Ways.{root_way, way_is, from_nothing, nothing_on}
use Rattle.xt_tree.proofs.doc.Doc.way.Goals as goal

pub returns-then-eq-clause-only : goal.returns-then-eq-clause-only
returns-then-eq-clause-only c =
    let d = c.args.self.now in
    let number = c.args.id.number in
    let same : (d.root == number) ≡ true = ap (λ e. e.root == number) (sym c.self.view_is) ∙ sym c.eq.ensures ∙ c.if-eq.true in
    let way = subst (λ p. IsWayTo d number (Some p)) (sym c.new-path.ensures) (root_way d number same) in
    only_way d number (Some c.new-path.result) (subst IsNumbered c.self.view_is c.self.invariant.sound.numbers) way

pub returns-then-branch : goal.returns-then-branch
returns-then-branch c =
    let d = c.args.self.now in
    let number = c.args.id.number in
    let apart : (d.root == number) ≡ false = ap (λ e. e.root == number) (sym c.self.view_is) ∙ sym c.eq.ensures ∙ c.if-eq.false in
    let same : way_to number 1 (forest_of c.as_slice.result.now) ≡ way_to number 1 d.nodes =
    ap (λ xs. way_to number 1 (forest_of xs)) c.as_slice.ensures.value ∙ ap (λ e. way_to number 1 e.nodes) c.self.view_is in
    let led : way_to number 1 d.nodes ≡ Some c.lead.new.path =
    sym same ∙ from_nothing _ _ (ap (λ p. option_map (λ w. p ++ w) (way_to number 1 (forest_of c.as_slice.result.now))) (sym c.new-path.ensures)
    ∙ c.in_ok-lead.ensures ∙ ap (λ b. if b then Some c.lead.new.path else None) c.if-branch.true) in
    let way = way_is d number (Some c.lead.new.path) apart led in
    record { way = way; only = only_way d number (Some c.lead.new.path) (subst IsNumbered c.self.view_is c.self.invariant.sound.numbers) way }

pub returns : goal.returns
returns c =
    let d = c.args.self.now in
    let number = c.args.id.number in
    let apart : (d.root == number) ≡ false = ap (λ e. e.root == number) (sym c.self.view_is) ∙ sym c.eq.ensures ∙ c.if-eq.false in
    let same : way_to number 1 (forest_of c.as_slice.result.now) ≡ way_to number 1 d.nodes =
    ap (λ xs. way_to number 1 (forest_of xs)) c.as_slice.ensures.value ∙ ap (λ e. way_to number 1 e.nodes) c.self.view_is in
    let led : way_to number 1 d.nodes ≡ None =
    sym same ∙ nothing_on _ (ap (λ p. option_map (λ w. p ++ w) (way_to number 1 (forest_of c.as_slice.result.now))) (sym c.new-path.ensures)
    ∙ c.in_ok-lead.ensures ∙ ap (λ b. if b then Some c.lead.new.path else None) c.if-branch.false) in
    let way = way_is d number None apart led in
    record { way = way; only = only_way d number None (subst IsNumbered c.self.view_is c.self.invariant.sound.numbers) way }
