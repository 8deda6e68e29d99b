use Rattle.std.proofs.Common.{List, ℕ, ◌+◌, ◌∷◌, ◌++◌, [], ◌∙◌, ap, arith, subst, sym, take}
use Rattle.std.specs.Prelude.{Vec}
use Rattle.std.specs.Global.{Global}
use Rattle.xt_spared.specs.View.{is_text_among}
use Rattle.xt_own.specs.Keys.{Covers}
use Rattle.xt_own.proofs.SideBySide.{covers_added, covers_there}
use Rattle.xt_own.proofs.pass.add_values.Goals as goal
use Rattle.xt_own.proofs.pass.add_values.Goals.{then-not-is_text_among+in_ok-copy+in_ok-push, else-not-is_text_among}

pub loop-value-preserved : goal.loop-value-preserved
loop-value-preserved c =
    let first = c.args.but.now.items in
    let before = c.loop-value.but.items in
    let values = c.args.values.now in
    let i = c.loop-value.value-index in
    let value = c.value-item.result in
    let P : Vec (List ℕ) Global → Type 0 = λ v. Covers first v.items × Covers (take (i + 1) values) v.items in
    let among = ap (λ (b : List (List ℕ)). is_text_among value b) (sym c.as_slice.ensures.value) ∙ sym c.is_text_among.ensures in
    elim c.if-not-is_text_among.branch [
      | then-not-is_text_among+in_ok-copy+in_ok-push w ↦
          subst P (sym w.but-is) (covers_added first before _ values i value (omega arith) c.value-item.is
          (w.in_ok-push.ensures.items ∙ ap (λ (t : List ℕ). before ++ t ∷ []) w.in_ok-copy.ensures) c.loop-value.invariant)
      | else-not-is_text_among w ↦
          subst P (sym w.but-is) (covers_there first before values i value (omega arith) c.value-item.is
          (among ∙ w.if-not-is_text_among.false) c.loop-value.invariant)
    ]
