use Rattle.std.proofs.Common.{◌≡◌, ◌+◌, ◌∙◌, sym, ap, subst, arith, drop, get_or, Some, None}
use Rattle.std.specs.Option.{option_and_then}
use Rattle.std.proofs.lemmas.List.{at_drop_more, at_drop_all}
use Rattle.xt_tree.specs.declared.node.Node.{out-Node}
use Rattle.xt_tree.specs.View.{forest_of, number_from, item_of}
use Rattle.xt_tree.specs.Numbers.{IsNumbered}
use Rattle.xt_tree.proofs.Distinct.{item_at_number}
use Rattle.xt_tree.proofs.Ways.{number_down, at_number_path}
use Rattle.xt_tree.proofs.doc.Doc.at.Goals as goal

pub returns-in_err-node : goal.returns-in_err-node
returns-in_err-node c =
    let ps = c.positions-position-items.result.now in
    let f = forest_of c.loop-position.siblings.now in
    let at = sym (at_drop_more (λ rest. number_from rest c.loop-position.id.number f) ps c.loop-position.position-index 0 (omega arith))
    ∙ c.loop-position.invariant in
    let none : None ≡ number_from c.args.path.now c.args.self.now.root c.args.self.now.nodes
    = ap (option_and_then (λ tree. number_from (drop (c.loop-position.position-index + 1) ps) tree.number tree.children)) c.in_err-node.ensures ∙ at in
    let number = c.from_residual.ensures ∙ at_number_path c.args.self.now c.args.path.now None none in
    record {
      number = number;
      item = ap (option_and_then (item_of c.args.self.now)) number
          ∙ item_at_number c.args.self.now c.args.path.now (subst IsNumbered c.self.view_is c.self.invariant.sound.numbers);
    }

pub loop-position-preserved : goal.loop-position-preserved
loop-position-preserved c =
    let ps = c.positions-position-items.result.now in
    let f = forest_of c.loop-position.siblings.now in
    let rest = drop (c.loop-position.position-index + 1) ps in
    let at = sym (at_drop_more (λ rest. number_from rest c.loop-position.id.number f) ps c.loop-position.position-index 0 (omega arith))
    ∙ c.loop-position.invariant in
    let down = number_down (get_or ps c.loop-position.position-index 0) rest c.loop-position.id.number f c.in_ok-node.node.now (sym c.in_ok-node.ensures) in
    ap (λ xs. number_from rest (out-Node c.in_ok-node.node.now).id.number (forest_of xs)) c.as_slice-siblings-in-loop-position.ensures.value ∙ sym down
    ∙ at

pub returns : goal.returns
returns c =
    let ps = c.positions-position-items.result.now in
    let f = forest_of c.loop-position.siblings.now in
    let at = sym (at_drop_all (λ rest. number_from rest c.loop-position.id.number f) ps c.loop-position.position-index (omega arith))
    ∙ c.loop-position.invariant in
    let number = ap Some c.of.ensures ∙ at_number_path c.args.self.now c.args.path.now (Some c.loop-position.id.number) at in
    record {
      number = number;
      item = ap (option_and_then (item_of c.args.self.now)) number
          ∙ item_at_number c.args.self.now c.args.path.now (subst IsNumbered c.self.view_is c.self.invariant.sound.numbers);
    }
