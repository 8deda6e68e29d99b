-- The productions of the operators: chains of them, signs, and the level of paths.
use Rattle.std.proofs.Common.{◌≡◌, ℕ, suc, ◌<◌, ◌≤◌, List, [], ◌∷◌, ◌++◌, refl, ap, ◌∙◌, sym, subst, arith}
use Rattle.spec_document.specs.Scope.{Scope}
use Rattle.spec_expression.specs.declared.Operator.{Operator}
use Rattle.spec_expression.specs.declared.Operator.TheVariants.{Subtract}
use Rattle.spec_expression.specs.declared.Level.{Level}
use Rattle.spec_expression.specs.declared.Level.TheVariants.{OrExpr, UnaryExpr, UnionExpr, PathExpr}
use Rattle.spec_expression.specs.Token.{Token, Binary}
use Rattle.spec_expression.specs.Syntax.{Expr, Link, chained, negated}
use Rattle.spec_expression.specs.Grammar as g
use Rattle.spec_expression.specs.Grammar.{level_of, Chain, Signs, Reads, ReadsPath, ReadsLinks}
use Rattle.spec_expression.proofs.Rank.{rank, head_rank}
use Rattle.spec_expression.proofs.Ranks.{chain_operand, begin_union, links_stop}
use Rattle.xp_parse.specs.Reading.{Read, Nothing, IsNotNext, NoOperator}
use Rattle.xp_parse.proofs.Lists.{Continues, more}

-- chains of operators
links_back : {s : Scope} {l a : Level} {ts us vs : List Token} {o : Operator} {e : Expr} {xs : List Link} → Chain l a → level_of o ≡ l
    → Read (Reads s a) (rank a) ts e us
    → ReadsLinks s l a (Binary o ∷ ts) xs vs → head_rank vs < rank l
    → (ys : List Link) × (xs ≡ record { operator = o; operand = e } ∷ ys) × ReadsLinks s l a us ys vs
links_back c h r g.no_link q = absurd (omega (arith, ap rank h))
links_back {s = s} {l = l} {a = a} {vs = vs} {o = o} c h r (g.further {us = ws} {e = f} {ls = ls} i p x) q =
    let d = r.only f ws p (links_stop c x q) in
    let link : Expr → List Link = λ e. record { operator = o; operand = e } ∷ ls in
    (ls, ap link (sym d.0), subst (λ (zs : List Token). ReadsLinks s l a zs ls vs) (sym d.1) x)

pub link_more : {s : Scope} {l a : Level} {from ts us : List Token} {done : List Link} {o : Operator} {e : Expr} → Chain l a → level_of o ≡ l
    → Read (Reads s a) (rank a) ts e us
    → Continues (ReadsLinks s l a) (rank l) from done (Binary o ∷ ts)
    → Continues (ReadsLinks s l a) (rank l) from (done ++ record { operator = o; operand = e } ∷ []) us
link_more {s = s} {l = l} {a = a} {from = from} {ts = ts} {us = us} {done = done} {o = o} c h r k =
    more (ReadsLinks s l a) (rank l) from (Binary o ∷ ts) us done _ k (λ xs vs p. g.further h r.reads p) (λ xs vs p q. links_back c h r p q)

links_none : {s : Scope} {l a : Level} {ts vs : List Token} {o : Operator} {xs : List Link} → Chain l a → level_of o ≡ l → Nothing (Reads s a) (rank a) ts
    → ReadsLinks s l a (Binary o ∷ ts) xs vs → head_rank vs < rank l → ⊥
links_none c h n g.no_link q = omega (arith, ap rank h)
links_none c h n (g.further {us = ws} {e = f} i p x) q = n.none f ws p (links_stop c x q)

pub link_fail : {s : Scope} {l a : Level} {ts : List Token} {o : Operator} → Chain l a → level_of o ≡ l → Nothing (Reads s a) (rank a) ts
    → Nothing (ReadsLinks s l a) (rank l) (Binary o ∷ ts)
link_fail c h n = record { none = λ y vs p q. links_none c h n p q }

pub links_end : {s : Scope} {l a : Level} {ts vs : List Token} {xs : List Link} → NoOperator l ts → ReadsLinks s l a ts xs vs → (xs ≡ []) × (vs ≡ ts)
links_end n g.no_link = (refl, refl)
links_end n (g.further h r x) = absurd (n.none _ _ refl h)

chain_only : {s : Scope} {l a : Level} {ts us vs ws : List Token} {e y : Expr} {ls : List Link} → Chain l a → Read (Reads s a) (rank a) ts e us
    → Read (ReadsLinks s l a) (rank l) us ls vs
    → Reads s l ts y ws → head_rank ws < rank l → (chained e ls ≡ y) × (vs ≡ ws)
chain_only {s = s} {l = l} {a = a} {ts = ts} {ls = ls} c r x (g.joined {us = zs} {vs = ws} {e = f} {ls = ms} d p z) h =
    let o = sym (chain_operand c d) in
    let p1 = subst (λ (b : Level). Reads s b ts f zs) o p in
    let z1 = subst (λ (b : Level). ReadsLinks s l b zs ms ws) o z in
    let i = r.only f zs p1 (links_stop c z1 h) in
    let j = x.only ms ws (subst (λ (qs : List Token). ReadsLinks s l a qs ms ws) (sym i.1) z1) h in
    (ap (λ (e : Expr). chained e ls) i.0 ∙ ap (λ (l : List Link). chained f l) j.0, j.1)
chain_only c r x (g.unary n p) h = elim c [ ]
chain_only c r x (g.path p) h = elim c [ ]

pub chain_read : {s : Scope} {l a : Level} {ts us vs : List Token} {e : Expr} {ls : List Link} → Chain l a → Read (Reads s a) (rank a) ts e us
    → Read (ReadsLinks s l a) (rank l) us ls vs → Read (Reads s l) (rank l) ts (chained e ls) vs
chain_read c r x = record { reads = g.joined c r.reads x.reads; only = λ y ws p h. chain_only c r x p h }

chain_none : {s : Scope} {l a : Level} {ts ws : List Token} {y : Expr} → Chain l a → Nothing (Reads s a) (rank a) ts → Reads s l ts y ws
    → head_rank ws < rank l → ⊥
chain_none {s = s} {l = l} {ts = ts} c n (g.joined {us = zs} {vs = ws} {e = f} {ls = ms} d p z) h =
    let o = sym (chain_operand c d) in
    n.none f zs (subst (λ (b : Level). Reads s b ts f zs) o p) (links_stop c (subst (λ (b : Level). ReadsLinks s l b zs ms ws) o z) h)
chain_none c n (g.unary m p) h = elim c [ ]
chain_none c n (g.path p) h = elim c [ ]

pub chain_fail : {s : Scope} {l a : Level} {ts : List Token} → Chain l a → Nothing (Reads s a) (rank a) ts → Nothing (Reads s l) (rank l) ts
chain_fail c n = record { none = λ y ws p h. chain_none c n p h }

chain_none_later : {s : Scope} {l a : Level} {ts us ws : List Token} {e y : Expr} → Chain l a → Read (Reads s a) (rank a) ts e us
    → Nothing (ReadsLinks s l a) (rank l) us → Reads s l ts y ws → head_rank ws < rank l → ⊥
chain_none_later {s = s} {l = l} {a = a} {ts = ts} c r n (g.joined {us = zs} {vs = ws} {e = f} {ls = ms} d p z) h =
    let o = sym (chain_operand c d) in
    let z1 = subst (λ (b : Level). ReadsLinks s l b zs ms ws) o z in
    let i = r.only f zs (subst (λ (b : Level). Reads s b ts f zs) o p) (links_stop c z1 h) in
    n.none ms ws (subst (λ (qs : List Token). ReadsLinks s l a qs ms ws) (sym i.1) z1) h
chain_none_later c r n (g.unary m p) h = elim c [ ]
chain_none_later c r n (g.path p) h = elim c [ ]

pub chain_fail_later : {s : Scope} {l a : Level} {ts us : List Token} {e : Expr} → Chain l a → Read (Reads s a) (rank a) ts e us
    → Nothing (ReadsLinks s l a) (rank l) us → Nothing (Reads s l) (rank l) ts
chain_fail_later c r n = record { none = λ y ws p h. chain_none_later c r n p h }

-- signs
pub sign_more : {ts us : List Token} {n : ℕ} → Signs ts n (Binary Subtract ∷ us) → Signs ts (suc n) us
sign_more g.no_sign = g.sign g.no_sign
sign_more (g.sign s) = g.sign (sign_more s)

signs_to : {ts us vs : List Token} {n m : ℕ} → Signs ts n us → IsNotNext us (Binary Subtract) → Signs ts m vs → 9 ≤ head_rank vs → (n ≡ m) × (us ≡ vs)
signs_to g.no_sign x g.no_sign h = (refl, refl)
signs_to g.no_sign x (g.sign s) h = absurd (x.different _ refl)
signs_to (g.sign r) x g.no_sign h = absurd (omega arith)
signs_to (g.sign r) x (g.sign s) h = let i = signs_to r x s h in (ap suc i.0, i.1)

unary_only : {s : Scope} {ts us vs ws : List Token} {n : ℕ} {e y : Expr} → Signs ts n us → IsNotNext us (Binary Subtract) → Read (Reads s UnionExpr) 8 us e vs
    → Reads s UnaryExpr ts y ws → head_rank ws < 7
    → (negated n e ≡ y) × (vs ≡ ws)
unary_only n x r (g.joined c p z) h = elim c [ ]
unary_only {s = s} {e = e} n x r (g.unary {vs = ws} {n = m} {e = f} k p) h =
    let i = signs_to n x k (begin_union p) in
    let j = r.only f ws (subst (λ (ts : List Token). Reads s UnionExpr ts f ws) (sym i.1) p) (omega arith) in
    (ap (λ (q : ℕ). negated q e) i.0 ∙ ap (λ (q : Expr). negated m q) j.0, j.1)

pub unary_read : {s : Scope} {ts us vs : List Token} {n : ℕ} {e : Expr} → Signs ts n us → IsNotNext us (Binary Subtract) → Read (Reads s UnionExpr) 8 us e vs
    → Read (Reads s UnaryExpr) 7 ts (negated n e) vs
unary_read n x r = record { reads = g.unary n r.reads; only = λ y ws p h. unary_only n x r p h }

unary_none : {s : Scope} {ts us ws : List Token} {n : ℕ} {y : Expr} → Signs ts n us → IsNotNext us (Binary Subtract) → Nothing (Reads s UnionExpr) 8 us
    → Reads s UnaryExpr ts y ws → head_rank ws < 7 → ⊥
unary_none n x r (g.joined c p z) h = elim c [ ]
unary_none {s = s} n x r (g.unary {vs = ws} {e = f} k p) h =
    let i = signs_to n x k (begin_union p) in
    r.none f ws (subst (λ (ts : List Token). Reads s UnionExpr ts f ws) (sym i.1) p) (omega arith)

pub unary_fail : {s : Scope} {ts us : List Token} {n : ℕ} → Signs ts n us → IsNotNext us (Binary Subtract) → Nothing (Reads s UnionExpr) 8 us
    → Nothing (Reads s UnaryExpr) 7 ts
unary_fail n x r = record { none = λ y ws p h. unary_none n x r p h }

-- paths
path_only : {s : Scope} {ts us ws : List Token} {e y : Expr} → Read (ReadsPath s) 9 ts e us → Reads s PathExpr ts y ws → head_rank ws < 9 → (e ≡ y) × (us ≡ ws)
path_only r (g.joined c p z) h = elim c [ ]
path_only r (g.path p) h = r.only _ _ p h

pub path_read : {s : Scope} {ts us : List Token} {e : Expr} → Read (ReadsPath s) 9 ts e us → Read (Reads s PathExpr) 9 ts e us
path_read r = record { reads = g.path r.reads; only = λ y ws p h. path_only r p h }

path_none : {s : Scope} {ts ws : List Token} {y : Expr} → Nothing (ReadsPath s) 9 ts → Reads s PathExpr ts y ws → head_rank ws < 9 → ⊥
path_none n (g.joined c p z) h = elim c [ ]
path_none n (g.path p) h = n.none _ _ p h

pub path_fail : {s : Scope} {ts : List Token} → Nothing (ReadsPath s) 9 ts → Nothing (Reads s PathExpr) 9 ts
path_fail n = record { none = λ y ws p h. path_none n p h }

pub rank_le : (l : Level) → rank l ≤ 9
rank_le OrExpr = omega arith
rank_le _ = omega arith
