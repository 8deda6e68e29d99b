use Rattle.std.proofs.Common.{◌≡◌, ℕ, List, map, refl, ap, ◌∙◌}
use Rattle.std.proofs.lemmas.Result.{IfOk-weaker}
use Rattle.spec_document.specs.Order.{entries_of}
use Rattle.spec_run.specs.World.{keyed_at}
use Rattle.spec_node.specs.Naming.{ref_of, same_ref}
use Rattle.xt_match.specs.Context.{units_in}
use Rattle.xt_document_world.specs.View.{truth_of}
use Rattle.spec_node.specs.declared.node_ref.NodeRef.{NodeRef}
use Rattle.xt_world.specs.KeyView.{IsFoundBy, answer_found, keyed_in}
use Rattle.xt_world.specs.declared.found.Found.{Found}
use Rattle.xt_world.proofs.Keyed.{found_is}
use Rattle.xt_world.proofs.found.find.Goals as goal

pub returns : goal.returns
returns c =
    let units = units_in c.args.units.now in
    let tree = truth_of c.args.document.now in
    let name = c.args.name.now in
    let nodes = c.as_slice.result.now in
    let all : nodes ≡ map ref_of (entries_of c.args.document.now) = c.as_slice.ensures.value ∙ c.in_ok-nodes.ensures.nodes in
    IfOk-weaker c.found_by.result (IsFoundBy c.index-found.result)
    (λ (found : Found). (text : List ℕ) → answer_found found text ≡ keyed_in units c.args.document.now name text)
    (λ found is text. found_is units nodes name tree _ _ c.index-found.result found refl c.index-found.ensures.runs is text
    ∙ ap (λ (nodes : List NodeRef). keyed_at same_ref units tree nodes name text) all)
    c.found_by.ensures
