use Rattle.std.proofs.Common.{◌≡◌, ◌+◌, ◌++◌, ◌∷◌, [], ◌∙◌, ℕ, List, Bool, true, false, cond, not, sym, ap, drop, map, arith}
use Rattle.std.proofs.Common.{append_assoc}
use Rattle.std.proofs.lemmas.List.{at_drop_more, map-append}
use Rattle.std.specs.List.{filter}
use Rattle.spec_document.specs.Forest.{Written}
use Rattle.spec_document.specs.Declaration.{is_declaration}
use Rattle.xt_tree.specs.View.{written_of}
use Rattle.xt_tree.proofs.part.own_attributes.Goals as goal
use Rattle.xt_tree.proofs.part.own_attributes.Goals.{then-not-is_declaration+in_ok-push, else-not-is_declaration}

kept : (keep : Written → Bool) (old new xs whole : List Written) (x : Written) → keep x ≡ true → new ≡ old ++ (x ∷ [])
    → old ++ filter keep (x ∷ xs) ≡ whole → new ++ filter keep xs ≡ whole
kept keep old new xs whole x k n h =
    ap (λ l. l ++ filter keep xs) n ∙ append_assoc old (x ∷ []) (filter keep xs)
    ∙ ap (λ t. old ++ cond t (x ∷ filter keep xs) (filter keep xs)) (sym k) ∙ h

left_out : (keep : Written → Bool) (old xs whole : List Written) (x : Written) → keep x ≡ false → old ++ filter keep (x ∷ xs) ≡ whole
    → old ++ filter keep xs ≡ whole
left_out keep old xs whole x k h = ap (λ t. old ++ cond t (x ∷ filter keep xs) (filter keep xs)) (sym k) ∙ h

pub loop-attribute-preserved : goal.loop-attribute-preserved
loop-attribute-preserved c =
    let all = c.args.attributes.now in
    let item = c.attribute-item.result in
    let old = map (λ a. written_of a.now) c.loop-attribute.list.items in
    let rest = map written_of (drop (c.loop-attribute.attribute-index + 1) all) in
    let at = sym (at_drop_more (λ xs. old ++ filter (λ a. not (is_declaration a)) (map written_of xs)) all c.loop-attribute.attribute-index item
    (omega arith)) ∙ c.loop-attribute.invariant in
    let here = rw (← c.attribute-item.is) at at in
    let same : c.is_declaration.result ≡ is_declaration (written_of item)
    = c.is_declaration.ensures ∙ ap (λ (n : List ℕ). is_declaration (record { name = n; value = [] })) c.as_str.ensures.characters in
    elim c.if-not-is_declaration.branch [
      | then-not-is_declaration+in_ok-push w ↦
          ap (λ l. map (λ a. written_of a.now) l.items ++ filter (λ a. not (is_declaration a)) rest) w.list-is
          ∙ kept (λ a. not (is_declaration a)) old (map (λ a. written_of a.now) w.push.new.self.items) rest _ (written_of item)
          (ap not (sym same ∙ w.if-not-is_declaration.true))
          (ap (map (λ a. written_of a.now)) (w.in_ok-push.ensures {u = tt}).items ∙ map-append (λ a. written_of a.now) c.loop-attribute.list.items _)
          here
      | else-not-is_declaration w ↦
          ap (λ l. map (λ a. written_of a.now) l.items ++ filter (λ a. not (is_declaration a)) rest) w.list-is
          ∙ left_out (λ a. not (is_declaration a)) old rest _ (written_of item) (ap not (sym same ∙ w.if-not-is_declaration.false)) here
    ]
