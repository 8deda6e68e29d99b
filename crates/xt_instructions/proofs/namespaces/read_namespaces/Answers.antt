use Rattle.std.proofs.Common.{List, [], ◌∷◌, map, refl, ap, ◌∙◌, arith, subst, sym}
use Rattle.std.proofs.lemmas.List.{map-append}
use Rattle.spec_run.specs.Passes.{Passes, stays}
use Rattle.spec_run.specs.Content.{namespaces_read}
use Rattle.xt_names.specs.View.{entry_of, Entry}
use Rattle.xt_progress.specs.View.{going_of}
use Rattle.xt_instructions.proofs.Asked.{namespace_more, namespaces_end}
use Rattle.xt_instructions.proofs.namespaces.read_namespaces.Goals as goal

pub loop-node-init : goal.loop-node-init
loop-node-init g c = record {
  passes = λ hand room k.
      let P : List Entry → Type 0 = λ l. Passes (g.W.World.state c.args.world.now).truth hand room (namespaces_read c.args.nodes.now [] k) (going_of c.args.going.now) (namespaces_read c.args.nodes.now l k) (going_of c.args.going.now) in
      subst P (sym (ap (map entry_of) c.new-list.ensures.items)) stays;
  truth = refl;
  name = refl;
}

pub loop-node-preserved : goal.loop-node-preserved
loop-node-preserved g c =
    let inv = c.loop-node.invariant in
    let list = c.loop-node.list.items in
    let x = c.in_ok-namespace.namespace in
    let more = ap (map entry_of) c.in_ok-push.ensures.items ∙ map-append entry_of list (x ∷ []) in
    record {
      passes = λ hand room k. namespace_more hand room k c.args.nodes.now c.loop-node.node-index _ (map entry_of list) _ (entry_of x) inv.truth (omega arith) more (inv.passes hand room k) (c.in_ok-namespace.ensures.passes hand room);
      truth = c.read_namespace.ensures.truth ∙ inv.truth;
      name = c.read_namespace.ensures.name ∙ inv.name;
    }

pub returns-clause-passes : goal.returns-clause-passes
returns-clause-passes g c hand room k =
    namespaces_end hand room k c.args.nodes.now c.loop-node.node-index (map entry_of c.loop-node.list.items) (omega arith) (c.loop-node.invariant.passes hand room k)
