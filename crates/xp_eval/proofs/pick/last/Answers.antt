use Rattle.std.proofs.Common.{◌≡◌, ◌<◌, ◌-◌, List, [], ◌∷◌, length, get_or, refl, ap, sym, ◌∙◌, arith}
use Rattle.std.proofs.lemmas.Result.{IfOk-weaker}
use Rattle.spec_meaning.specs.Meaning.{last_of}
use Rattle.spec_node.specs.declared.node_ref.NodeRef.{NodeRef}
use Rattle.xp_eval.proofs.Turns.{is_some}
use Rattle.xp_eval.proofs.pick.last.Goals as goal

last_at : (n : NodeRef) (ns : List NodeRef) (d : NodeRef) → get_or (n ∷ ns) (length ns) d ∷ [] ≡ last_of (n ∷ ns)
last_at n [] d = refl
last_at n (m ∷ ms) d = last_at m ms d

last_is : (ns : List NodeRef) (d : NodeRef) → 0 < length ns → get_or ns (length ns - 1) d ∷ [] ≡ last_of ns
last_is [] d h = absurd (omega arith)
last_is (n ∷ ns) d h = let e : length (n ∷ ns) - 1 ≡ length ns = omega arith in ap (λ i. get_or (n ∷ ns) i d ∷ []) e ∙ last_at n ns d

pub returns : goal.returns
returns c =
    let some = is_some c.args.nodes.now (sym c.is_empty.ensures ∙ c.if-is_empty.false) in
    IfOk-weaker c.only.result _ _ (λ v h. h ∙ last_is c.args.nodes.now _ some) c.only.ensures
