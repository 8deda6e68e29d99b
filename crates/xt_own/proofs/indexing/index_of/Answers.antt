use Rattle.std.proofs.Common.{◌≡◌, List, ℕ, ◌∙◌, ap, arith, map, take}
use Rattle.std.proofs.lemmas.List.{take_all}
use Rattle.std.proofs.lemmas.Result.{IfOk-weaker}
use Rattle.std.specs.Prelude.{Vec}
use Rattle.std.specs.Global.{Global}
use Rattle.xt_keys.specs.View.{having}
use Rattle.xt_own.specs.Keys.{lists_of, nodes_of}
use Rattle.xt_own.proofs.indexing.index_of.Goals as goal

pub returns : goal.returns
returns c =
    let owns = c.args.key.now.nodes.items in
    let all : take c.loop-own.own-index owns ≡ owns = take_all c.loop-own.own-index owns (omega (arith, c.deref-own-items.ensures.len)) in
    let nodes = c.as_slice-2.ensures.value ∙ c.loop-own.invariant.nodes ∙ ap nodes_of all in
    let lists = ap (map (λ (v : Vec (List ℕ) Global). v.items)) c.as_slice-3.ensures.value ∙ c.loop-own.invariant.lists ∙ ap lists_of all in
    IfOk-weaker c.grouped.result _ _ (λ index are text. are text ∙ (λ i. having text (nodes i) (lists i))) c.grouped.ensures
