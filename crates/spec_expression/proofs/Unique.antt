-- Tokens are read in one way: two readings of a part that both go as far as they can are one reading.
use Rattle.std.proofs.Common.{◌≡◌, ℕ, suc, ◌<◌, ◌≤◌, List, ◌∷◌, None, refl, ap, ◌∙◌, sym, subst, arith}
use Rattle.spec_document.specs.Name.{QName}
use Rattle.spec_document.specs.Scope.{Scope}
use Rattle.spec_document.specs.declared.axis.Axis.TheVariants.{DescendantOrSelf}
use Rattle.spec_expression.specs.declared.Level.{Level}
use Rattle.spec_expression.specs.declared.Level.TheVariants.{UnionExpr}
use Rattle.spec_expression.specs.Token.{Token, Open, ColonColon, Name}
use Rattle.spec_expression.specs.Syntax.{Test, Expr, call, root, here, exprs, Link, Step, chained, negated, filtered, stepped, node_on}
use Rattle.spec_expression.specs.Grammar as g
use Rattle.spec_expression.specs.Grammar.{level_of, type_of, expanded, Chain, Signs, Reads, ReadsPath, ReadsFilter, ReadsPrimary, ReadsLinks, ReadsArguments, ReadsMore, ReadsPredicates, ReadsRelative, ReadsSteps, ReadsStep, ReadsTest}
use Rattle.spec_expression.proofs.Rank.{rank, head_rank}
use Rattle.spec_expression.proofs.Ranks.{chain_operand, begin_relative, begin_filter, begin_union, begin_expression, links_stop, predicates_stop, steps_stop, more_stop}

-- the same tree, and the same tokens left
abbrev pub Same : {A : Type 0} → A → List Token → A → List Token → Type 0
Same x us y vs = (x ≡ y) × (us ≡ vs)

pub same_signs : {ts us vs : List Token} {m n : ℕ} → Signs ts m us → 9 ≤ head_rank us → Signs ts n vs → 9 ≤ head_rank vs → (m ≡ n) × (us ≡ vs)
same_signs g.no_sign p g.no_sign q = (refl, refl)
same_signs g.no_sign p (g.sign s) q = absurd (omega arith)
same_signs (g.sign s) p g.no_sign q = absurd (omega arith)
same_signs (g.sign s) p (g.sign r) q = let h = same_signs s p r q in (ap suc h.0, h.1)

pub same_test : {scope : Scope} {ts us vs : List Token} {t r : Test} → ReadsTest scope ts t us → head_rank us < 11 → ReadsTest scope ts r vs → head_rank vs < 11 → Same t us r vs
same_test g.any_name p g.any_name q = (refl, refl)
same_test g.in_namespace p g.in_namespace q = (refl, refl)
same_test g.named p g.named q = (refl, refl)
same_test g.named p (g.of_type e) q = absurd (omega arith)
same_test g.named p (g.instruction e) q = absurd (omega arith)
same_test (g.of_type e) p g.named q = absurd (omega arith)
same_test (g.of_type e) p (g.of_type f) q = (cc, refl)
same_test (g.instruction e) p g.named q = absurd (omega arith)
same_test (g.instruction e) p (g.instruction f) q = (refl, refl)

-- no step begins as a call does
call_is_no_test : {scope : Scope} {q : QName} {ts us : List Token} {t : Test} → type_of q ≡ None → ReadsTest scope (Name q ∷ Open ∷ ts) t us → head_rank us < 11 → ⊥
call_is_no_test e g.named p = omega arith
call_is_no_test e (g.of_type f) p = cc
call_is_no_test e (g.instruction f) p = cc

call_is_no_step : {scope : Scope} {q : QName} {ts us : List Token} {s : Step} → type_of q ≡ None → ReadsStep scope (Name q ∷ Open ∷ ts) s us → head_rank us < 10 → ⊥
call_is_no_step e (g.on_children t ps) p = call_is_no_test e t (predicates_stop ps p)

filter_is_no_step : {scope : Scope} {ts us vs : List Token} {s : Step} {e : Expr} → ReadsStep scope ts s us → head_rank us < 10 → ReadsPrimary scope ts e vs → ⊥
filter_is_no_step g.itself p x = elim x [ ]
filter_is_no_step g.parent p x = elim x [ ]
filter_is_no_step (g.on_axis h t ps) p x = elim x [ ]
filter_is_no_step (g.on_attributes t ps) p x = elim x [ ]
filter_is_no_step (g.on_children t ps) p g.of_variable = elim t [ ]
filter_is_no_step (g.on_children t ps) p (g.group h) = elim t [ ]
filter_is_no_step (g.on_children t ps) p g.of_literal = elim t [ ]
filter_is_no_step (g.on_children t ps) p g.of_number = elim t [ ]
filter_is_no_step (g.on_children t ps) p (g.of_call e es) = call_is_no_test e t (predicates_stop ps p)

-- no relative path begins as a filter does
pub filter_is_no_path : {scope : Scope} {ts us vs : List Token} {ss : List Step} {e : Expr} → ReadsRelative scope ts ss us → head_rank us < 9 → ReadsFilter scope ts e vs → ⊥
filter_is_no_path (g.steps s ss) p (g.filter h ps) = filter_is_no_step s (steps_stop ss p) h

-- a name before `::` is no test
axis_is_no_test : {scope : Scope} {q : QName} {ts us : List Token} {t : Test} → ReadsTest scope (Name q ∷ ColonColon ∷ ts) t us → head_rank us < 11 → ⊥
axis_is_no_test g.named p = omega arith

mutual
  pub same : {scope : Scope} {l : Level} {ts us vs : List Token} {e f : Expr} → Reads scope l ts e us → head_rank us < rank l → Reads scope l ts f vs → head_rank vs < rank l → Same e us f vs
  same {scope = scope} {l = l} (g.joined {operand = a} {ts = ts} {ls = ls} c r x) p (g.joined {us = us} {vs = vs} {e = f} {ls = ms} d s y) q =
      let o = sym (chain_operand c d) in
      let s1 = subst (λ (b : Level). Reads scope b ts f us) o s in
      let y1 = subst (λ (b : Level). ReadsLinks scope l b us ms vs) o y in
      let h = same r (links_stop c x p) s1 (links_stop c y1 q) in
      let y2 = subst (λ (ws : List Token). ReadsLinks scope l a ws ms vs) (sym h.1) y1 in
      let k = same_links c x p y2 q in
      (ap (λ (e : Expr). chained e ls) h.0 ∙ ap (λ (ns : List Link). chained f ns) k.0, k.1)
  same (g.joined c r x) p (g.unary n s) q = elim c [ ]
  same (g.joined c r x) p (g.path s) q = elim c [ ]
  same (g.unary n r) p (g.joined d s y) q = elim d [ ]
  same {scope = scope} (g.unary {n = m} {e = e} n r) p (g.unary {vs = vs} {n = k} {e = f} o s) q =
      let i = same_signs n (begin_union r) o (begin_union s) in
      let s1 = subst (λ (ws : List Token). Reads scope UnionExpr ws f vs) (sym i.1) s in
      let h = same r (omega arith) s1 (omega arith) in
      (ap (λ (j : ℕ). negated j e) i.0 ∙ ap (λ (x : Expr). negated k x) h.0, h.1)
  same (g.path r) p (g.joined d s y) q = elim d [ ]
  same (g.path r) p (g.path s) q = same_path r p s q

  pub same_path : {scope : Scope} {ts us vs : List Token} {e f : Expr} → ReadsPath scope ts e us → head_rank us < 9 → ReadsPath scope ts f vs → head_rank vs < 9 → Same e us f vs
  same_path g.at_root p g.at_root q = (refl, refl)
  same_path g.at_root p (g.from_root s) q = absurd (omega (arith, begin_relative s))
  same_path g.at_root p (g.relative s) q = absurd (omega (arith, begin_relative s))
  same_path g.at_root p (g.from_filter s y) q = absurd (omega (arith, begin_filter s))
  same_path (g.from_root r) p g.at_root q = absurd (omega (arith, begin_relative r))
  same_path (g.from_root r) p (g.from_root s) q = let h = same_relative r p s q in (ap (λ (x : List Step). stepped root x) h.0, h.1)
  same_path (g.from_root r) p (g.relative s) q = absurd (omega (arith, begin_relative s))
  same_path (g.from_root r) p (g.from_filter s y) q = absurd (omega (arith, begin_filter s))
  same_path (g.below_root r) p (g.below_root s) q = let h = same_relative r p s q in (ap (λ (x : List Step). stepped root (node_on DescendantOrSelf ∷ x)) h.0, h.1)
  same_path (g.below_root r) p (g.relative s) q = absurd (omega (arith, begin_relative s))
  same_path (g.below_root r) p (g.from_filter s y) q = absurd (omega (arith, begin_filter s))
  same_path (g.relative r) p g.at_root q = absurd (omega (arith, begin_relative r))
  same_path (g.relative r) p (g.from_root s) q = absurd (omega (arith, begin_relative r))
  same_path (g.relative r) p (g.below_root s) q = absurd (omega (arith, begin_relative r))
  same_path (g.relative r) p (g.relative s) q = let h = same_relative r p s q in (ap (λ (x : List Step). stepped here x) h.0, h.1)
  same_path (g.relative r) p (g.from_filter s y) q = absurd (filter_is_no_path r p s)
  same_path (g.from_filter r x) p g.at_root q = absurd (omega (arith, begin_filter r))
  same_path (g.from_filter r x) p (g.from_root s) q = absurd (omega (arith, begin_filter r))
  same_path (g.from_filter r x) p (g.below_root s) q = absurd (omega (arith, begin_filter r))
  same_path (g.from_filter r x) p (g.relative s) q = absurd (filter_is_no_path s q r)
  same_path {scope = scope} (g.from_filter {ss = ss} r x) p (g.from_filter {vs = vs} {e = f} {ss = rs} s y) q =
      let h = same_filter r (steps_stop x p) s (steps_stop y q) in
      let k = same_steps x p (subst (λ (ws : List Token). ReadsSteps scope ws rs vs) (sym h.1) y) q in
      (ap (λ (e : Expr). stepped e ss) h.0 ∙ ap (λ (ns : List Step). stepped f ns) k.0, k.1)

  pub same_filter : {scope : Scope} {ts us vs : List Token} {e f : Expr} → ReadsFilter scope ts e us → head_rank us < 10 → ReadsFilter scope ts f vs → head_rank vs < 10 → Same e us f vs
  same_filter {scope = scope} (g.filter {ps = ps} r x) p (g.filter {vs = vs} {e = f} {ps = qs} s y) q =
      let h = same_primary r s in
      let k = same_predicates x p (subst (λ (ws : List Token). ReadsPredicates scope ws qs vs) (sym h.1) y) q in
      (ap (λ (e : Expr). filtered e ps) h.0 ∙ ap (λ (ns : List Expr). filtered f ns) k.0, k.1)

  pub same_primary : {scope : Scope} {ts us vs : List Token} {e f : Expr} → ReadsPrimary scope ts e us → ReadsPrimary scope ts f vs → Same e us f vs
  same_primary g.of_variable g.of_variable = (refl, refl)
  same_primary (g.group r) (g.group s) = let h = same r (omega arith) s (omega arith) in (h.0, let e = h.1 in cc)
  same_primary g.of_literal g.of_literal = (refl, refl)
  same_primary g.of_number g.of_number = (refl, refl)
  same_primary {scope = scope} (g.of_call {q = n} c r) (g.of_call d s) = let h = same_arguments r s in (ap (λ (x : List Expr). call (expanded scope n) (exprs x)) h.0, h.1)

  pub same_links : {scope : Scope} {l a : Level} {ts us vs : List Token} {xs ys : List Link} → Chain l a → ReadsLinks scope l a ts xs us → head_rank us < rank l → ReadsLinks scope l a ts ys vs → head_rank vs < rank l → Same xs us ys vs
  same_links c g.no_link p g.no_link q = (refl, refl)
  same_links c g.no_link p (g.further e s y) q = absurd (omega (arith, ap rank e))
  same_links c (g.further e r x) p g.no_link q = absurd (omega (arith, ap rank e))
  same_links {scope = scope} {l = l} {a = a} c (g.further e r x) p (g.further {vs = vs} {ls = ys} f s y) q =
      let h = same r (links_stop c x p) s (links_stop c y q) in
      let k = same_links c x p (subst (λ (ws : List Token). ReadsLinks scope l a ws ys vs) (sym h.1) y) q in
      (let d = h.0 in let t = k.0 in cc, k.1)

  pub same_arguments : {scope : Scope} {ts us vs : List Token} {es fs : List Expr} → ReadsArguments scope ts es us → ReadsArguments scope ts fs vs → Same es us fs vs
  same_arguments g.no_argument g.no_argument = (refl, refl)
  same_arguments g.no_argument (g.argument s y) = absurd (omega (arith, begin_expression s))
  same_arguments (g.argument r x) g.no_argument = absurd (omega (arith, begin_expression r))
  same_arguments {scope = scope} (g.argument r x) (g.argument {vs = vs} {es = fs} s y) =
      let h = same r (more_stop x) s (more_stop y) in
      let k = same_more x (subst (λ (ws : List Token). ReadsMore scope ws fs vs) (sym h.1) y) in
      (let d = h.0 in let t = k.0 in cc, k.1)

  pub same_more : {scope : Scope} {ts us vs : List Token} {es fs : List Expr} → ReadsMore scope ts es us → ReadsMore scope ts fs vs → Same es us fs vs
  same_more g.no_more g.no_more = (refl, refl)
  same_more {scope = scope} (g.one_more r x) (g.one_more {vs = vs} {es = fs} s y) =
      let h = same r (more_stop x) s (more_stop y) in
      let k = same_more x (subst (λ (ws : List Token). ReadsMore scope ws fs vs) (sym h.1) y) in
      (let d = h.0 in let t = k.0 in cc, k.1)

  pub same_predicates : {scope : Scope} {ts us vs : List Token} {es fs : List Expr} → ReadsPredicates scope ts es us → head_rank us < 10 → ReadsPredicates scope ts fs vs → head_rank vs < 10 → Same es us fs vs
  same_predicates g.no_predicate p g.no_predicate q = (refl, refl)
  same_predicates g.no_predicate p (g.predicate s y) q = absurd (omega arith)
  same_predicates (g.predicate r x) p g.no_predicate q = absurd (omega arith)
  same_predicates {scope = scope} (g.predicate {us = ws} r x) p (g.predicate {us = zs} {vs = vs} {es = fs} s y) q =
      let h = same r (omega arith) s (omega arith) in
      let e : ws ≡ zs = let i = h.1 in cc in
      let k = same_predicates x p (subst (λ (ws : List Token). ReadsPredicates scope ws fs vs) (sym e) y) q in
      (let d = h.0 in let t = k.0 in cc, k.1)

  pub same_relative : {scope : Scope} {ts us vs : List Token} {xs ys : List Step} → ReadsRelative scope ts xs us → head_rank us < 9 → ReadsRelative scope ts ys vs → head_rank vs < 9 → Same xs us ys vs
  same_relative {scope = scope} (g.steps r x) p (g.steps {vs = vs} {ss = ys} s y) q =
      let h = same_step r (steps_stop x p) s (steps_stop y q) in
      let k = same_steps x p (subst (λ (ws : List Token). ReadsSteps scope ws ys vs) (sym h.1) y) q in
      (let d = h.0 in let t = k.0 in cc, k.1)

  pub same_steps : {scope : Scope} {ts us vs : List Token} {xs ys : List Step} → ReadsSteps scope ts xs us → head_rank us < 9 → ReadsSteps scope ts ys vs → head_rank vs < 9 → Same xs us ys vs
  same_steps g.no_step p g.no_step q = (refl, refl)
  same_steps g.no_step p (g.child s) q = absurd (omega arith)
  same_steps g.no_step p (g.descendant s) q = absurd (omega arith)
  same_steps (g.child r) p g.no_step q = absurd (omega arith)
  same_steps (g.child r) p (g.child s) q = same_relative r p s q
  same_steps (g.descendant r) p g.no_step q = absurd (omega arith)
  same_steps (g.descendant r) p (g.descendant s) q = let h = same_relative r p s q in (ap (λ (x : List Step). node_on DescendantOrSelf ∷ x) h.0, h.1)

  pub same_step : {scope : Scope} {ts us vs : List Token} {x y : Step} → ReadsStep scope ts x us → head_rank us < 10 → ReadsStep scope ts y vs → head_rank vs < 10 → Same x us y vs
  same_step g.itself p g.itself q = (refl, refl)
  same_step g.itself p (g.on_children t y) q = elim t [ ]
  same_step g.parent p g.parent q = (refl, refl)
  same_step g.parent p (g.on_children t y) q = elim t [ ]
  same_step {scope = scope} (g.on_axis e t x) p (g.on_axis {vs = vs} {ps = ps} f r y) q =
      let h = same_test t (predicates_stop x p) r (predicates_stop y q) in
      let k = same_predicates x p (subst (λ (ws : List Token). ReadsPredicates scope ws ps vs) (sym h.1) y) q in
      (let d = h.0 in let u = k.0 in cc, k.1)
  same_step (g.on_axis e t x) p (g.on_children r y) q = absurd (axis_is_no_test r (predicates_stop y q))
  same_step {scope = scope} (g.on_attributes t x) p (g.on_attributes {vs = vs} {ps = ps} r y) q =
      let h = same_test t (predicates_stop x p) r (predicates_stop y q) in
      let k = same_predicates x p (subst (λ (ws : List Token). ReadsPredicates scope ws ps vs) (sym h.1) y) q in
      (let d = h.0 in let u = k.0 in cc, k.1)
  same_step (g.on_attributes t x) p (g.on_children r y) q = elim r [ ]
  same_step (g.on_children t x) p g.itself q = elim t [ ]
  same_step (g.on_children t x) p g.parent q = elim t [ ]
  same_step (g.on_children t x) p (g.on_axis f r y) q = absurd (axis_is_no_test t (predicates_stop x p))
  same_step (g.on_children t x) p (g.on_attributes r y) q = elim t [ ]
  same_step {scope = scope} (g.on_children t x) p (g.on_children {vs = vs} {ps = ps} r y) q =
      let h = same_test t (predicates_stop x p) r (predicates_stop y q) in
      let k = same_predicates x p (subst (λ (ws : List Token). ReadsPredicates scope ws ps vs) (sym h.1) y) q in
      (let d = h.0 in let u = k.0 in cc, k.1)
