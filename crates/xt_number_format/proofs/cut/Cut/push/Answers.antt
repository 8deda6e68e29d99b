use Rattle.std.proofs.Common.{◌≡◌, true, false, ◌⊎◌, inl, inr, length, sym, ap, ◌∙◌, ◌++◌, ◌∷◌, [], ◌==◌}
use Rattle.std.proofs.lemmas.Result.{on_ok_weaker}
use Rattle.spec_format.specs.Format.{cut}
use Rattle.xt_number_format.proofs.Cutting.{other_pushed, letter_joined, letter_alone, new_part}
use Rattle.xt_number_format.proofs.cut.Cut.push.Goals as goal
use Rattle.xt_number_format.proofs.cut.Cut.push.Goals.{else-is_empty-via-then-is_empty+else-not-is_empty, else-is_empty-via-else-is_empty}

pub returns-then-not-is_alphanumeric : goal.returns-then-not-is_alphanumeric
returns-then-not-is_alphanumeric c =
    on_ok_weaker c.push.result
    (λ pushed text is. other_pushed c.args.character c.self.inside.parts.items _ _ _ text (sym c.is_alphanumeric.ensures ∙ c.if-not-is_alphanumeric.true)
    c.self.view_is pushed is)
    c.push.ensures.ok

pub returns-then-not-is_empty : goal.returns-then-not-is_empty
returns-then-not-is_empty c =
    on_ok_weaker c.push-then-not-is_empty.result
    (λ pushed text is. letter_joined c.args.character c.self.inside.parts.items _ _ c.index_mut.result.now c.len-last.result _ text
    (sym c.is_alphanumeric.ensures ∙ c.if-not-is_alphanumeric.false) c.self.view_is (sym c.is_empty.ensures ∙ c.if-is_empty.true)
    (sym c.self.inside.parts.ok.0 ∙ sym c.len-last.ensures)
    (ap (λ n. n == 0) c.len-last.ensures ∙ sym c.is_empty-then-is_empty.ensures ∙ c.if-not-is_empty.true) c.index_mut.ensures.value pushed is)
    c.push-then-not-is_empty.ensures.ok

pub returns : goal.returns
returns c text is =
    let parts = c.self.inside.parts in
    let apart : ((length parts.items == 0) ≡ true) ⊎ ((length c.self.inside.behind == 0) ≡ false) = elim c.else-is_empty.branch [
      | else-is_empty-via-then-is_empty+else-not-is_empty w ↦
          inl (ap (λ n. n == 0) (sym parts.ok.0) ∙ sym w.is_empty-then-is_empty.ensures ∙ w.if-not-is_empty.false)
      | else-is_empty-via-else-is_empty w ↦ inr (sym c.is_empty.ensures ∙ w.if-is_empty.false)
    ] in
    let letter = sym c.is_alphanumeric.ensures ∙ c.if-not-is_alphanumeric.false in
    new_part c.args.character parts.items c.push-3.new.self.items c.self.inside.behind c.replace-before.result c.push-2.new.self
    c.replace-before.new.dest (cut (text ++ c.args.character ∷ [])) c.in_ok-push-2.ensures.items c.replace-before.ensures.value
    (c.in_ok-push.ensures.ok ∙ ap (λ t. t ++ c.args.character ∷ []) c.new-token.ensures) (c.replace-before.ensures.after ∙ c.new.ensures)
    (letter_alone c.args.character parts.items c.self.inside.behind c.args.self.now text letter c.self.view_is apart is)
