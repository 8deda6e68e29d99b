use Rattle.std.proofs.Common.{◌≡◌, ℕ, List, [], ◌∙◌, ap, subst, sym}
use Rattle.std.specs.Prelude.{Vec}
use Rattle.std.specs.Global.{Global}
use Rattle.std.specs.declared.rc.Rc.{Rc}
use Rattle.spec_node.specs.declared.node_ref.NodeRef.{NodeRef}
use Rattle.xt_keys.specs.View.{AreNodesApart}
use Rattle.xt_own.specs.Keys.{Goes, nodes_of}
use Rattle.xt_own.specs.declared.own_node.OwnNode.{OwnNode}
use Rattle.xt_own.proofs.KeysStaying.{all_kept, key_stays_so}
use Rattle.xt_own.proofs.SideBySide.{some_is}
use Rattle.xt_own.proofs.stay.one_that_stays.Goals as goal

pub returns-in-Some-clause-apart : goal.returns-in-Some-clause-apart
returns-in-Some-clause-apart c =
    let Nodes : Vec (Rc OwnNode Global) Global → Type 0 = λ found. nodes_of found.items ≡ c.args.nodes.now in
    let nodes = some_is Nodes c.in-Some.is c.in_ok-nodes_that_stay.ensures.nodes in
    let A : List NodeRef → Type 0 = AreNodesApart in
    all_kept c.with_values.result c.args.key.now.name c.in-Some.found c.nodes_that_stay.new.but
    (λ kept named held but. subst A (sym (ap (λ (v : Vec (Rc OwnNode Global) Global). nodes_of v.items) held ∙ nodes)) c.requires.apart)
    c.with_values.ensures.name c.with_values.ensures.nodes c.with_values.ensures.but

pub returns-in-Some-clause-stays : goal.returns-in-Some-clause-stays
returns-in-Some-clause-stays c was parameters known agrees =
    let st = c.args.stylesheet.now in
    let d = c.args.document.now in
    let since = c.args.since.now in
    let name = c.args.key.now.name in
    let but = c.nodes_that_stay.new.but in
    let before = c.as_slice.result.now in
    let Nodes : Vec (Rc OwnNode Global) Global → Type 0 = λ found. nodes_of found.items ≡ c.args.nodes.now in
    let From : List (List ℕ) → Type 0 = λ first. Goes st d since name first before [] but.items [] c.in-Some.found.items in
    let To : Vec (Rc OwnNode Global) Global → Type 0 = λ found. Goes st d since name c.new-but.result.items before [] but.items [] found.items in
    all_kept c.with_values.result name c.in-Some.found but
    (λ kept named nodes held.
    key_stays_so st parameters d since was c.args.key.now kept.key but kept.but
    c.args.nodes.now before c.in-Some.found named nodes held c.as_slice.ensures.value
    (some_is Nodes c.in-Some.is c.in_ok-nodes_that_stay.ensures.nodes) c.requires.nodes c.requires.apart
    (subst From c.new-but.ensures.items (some_is To c.in-Some.is c.in_ok-nodes_that_stay.ensures.goes)) known agrees)
    c.with_values.ensures.name c.with_values.ensures.nodes c.with_values.ensures.but
