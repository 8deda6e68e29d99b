-- Lists of parts, read part by part: what is done, and what is still to be read.
use Rattle.std.proofs.Common.{◌≡◌, ℕ, ◌<◌, List, [], ◌++◌, refl, ap, ◌∙◌, sym, subst, append_assoc}
use Rattle.std.proofs.lemmas.List.{append-nil}
use Rattle.spec_expression.specs.Token.{Token}
use Rattle.spec_expression.proofs.Rank.{head_rank}
use Rattle.xp_parse.specs.Reading.{Read, Nothing, Behind}

-- Lists: what stands from `from` on is `done`, and then what is read from `now` on.
pub record Continues {X : Type 0} (P : List Token → List X → List Token → Type 0) (r : ℕ) (from : List Token) (done : List X) (now : List Token) : Type 0 where
  pub goes : (xs : List X) (vs : List Token) → P now xs vs → P from (done ++ xs) vs
  pub back : (xs : List X) (vs : List Token) → P from xs vs → head_rank vs < r → (ys : List X) × (xs ≡ done ++ ys) × P now ys vs

pub begin : {X : Type 0} (P : List Token → List X → List Token → Type 0) (r : ℕ) (from : List Token) → Continues P r from [] from
begin P r from = record { goes = λ xs vs p. p; back = λ xs vs p h. (xs, refl, p) }

pub more : {X : Type 0} (P : List Token → List X → List Token → Type 0) (r : ℕ) (from now next : List Token) (done added : List X) → Continues P r from done now
    → ((xs : List X) (vs : List Token) → P next xs vs → P now (added ++ xs) vs)
    → ((xs : List X) (vs : List Token) → P now xs vs → head_rank vs < r → (ys : List X) × (xs ≡ added ++ ys) × P next ys vs)
    → Continues P r from (done ++ added) next
more {X = X} P r from now next done added c step undo = record {
  goes = λ xs vs p. subst (λ (l : List X). P from l vs) (sym (append_assoc done added xs)) (c.goes (added ++ xs) vs (step xs vs p));
  back = λ xs vs p h. let b = c.back xs vs p h in let d =
      undo b.0 vs b.2 h in (d.0, b.1 ∙ ap (λ (l : List X). done ++ l) d.1 ∙ sym (append_assoc done added d.0), d.2);
}

pub ended : {X : Type 0} (P : List Token → List X → List Token → Type 0) (r : ℕ) (from now end : List Token) (done : List X) → Continues P r from done now
    → P now [] end
    → ((ys : List X) (vs : List Token) → P now ys vs → (ys ≡ []) × (vs ≡ end)) → Read P r from done end
ended {X = X} P r from now end done c e stop = record {
  reads = subst (λ (l : List X). P from l end) (append-nil done) (c.goes [] end e);
  only = λ y vs p h. let b = c.back y vs p h in let d = stop b.0 vs b.2 in (sym (b.1 ∙ ap (λ (l : List X). done ++ l) d.0 ∙ append-nil done), sym d.1);
}

pub failed : {X : Type 0} (P : List Token → List X → List Token → Type 0) (r : ℕ) (from now : List Token) (done : List X) → Continues P r from done now
    → Nothing P r now → Nothing P r from
failed P r from now done c n = record { none = λ y vs p h. let b = c.back y vs p h in n.none b.0 vs b.2 h }

-- a list behind others
pub behind_nothing_read : {X : Type 0} {P : List Token → List X → List Token → Type 0} {r : ℕ} {ts us : List Token} {zs : List X}
    → Read (Behind [] P) r ts zs us → Read P r ts zs us
behind_nothing_read {P = P} {ts = ts} {us = us} h = record {
  reads = subst (λ (k : List _). P ts k us) (sym h.reads.whole) h.reads.reads;
  only = λ y vs p q. h.only y vs (record { more = y; whole = refl; reads = p }) q;
}

pub behind_nothing_fail : {X : Type 0} {P : List Token → List X → List Token → Type 0} {r : ℕ} {ts : List Token} → Nothing (Behind [] P) r ts → Nothing P r ts
behind_nothing_fail n = record { none = λ y vs p q. n.none y vs (record { more = y; whole = refl; reads = p }) q }

pub behind_read : {X : Type 0} {P : List Token → List X → List Token → Type 0} {r : ℕ} {ts us : List Token} (front : List X) {xs : List X} → Read P r ts xs us
    → Read (Behind front P) r ts (front ++ xs) us
behind_read front {xs = xs} h = record {
  reads = record { more = xs; whole = refl; reads = h.reads };
  only = λ y vs p q. let i = h.only p.more vs p.reads q in (ap (λ (k : List _). front ++ k) i.0 ∙ sym p.whole, i.1);
}

pub behind_fail : {X : Type 0} {P : List Token → List X → List Token → Type 0} {r : ℕ} {ts : List Token} (front : List X) → Nothing P r ts
    → Nothing (Behind front P) r ts
behind_fail front n = record { none = λ y vs p q. n.none p.more vs p.reads q }

-- a list that begins with what was there before, and goes on with what is read
pub record Growing {X : Type 0} (P : List Token → List X → List Token → Type 0) (r : ℕ) (from : List Token) (front all : List X) (now : List Token) : Type 0
  where
    pub rest : List X
    pub whole : all ≡ front ++ rest
    pub so_far : Continues P r from rest now

pub grow_none : {X : Type 0} (P : List Token → List X → List Token → Type 0) (r : ℕ) (from : List Token) (front : List X) → Growing P r from front front from
grow_none P r from front = record { rest = []; whole = sym (append-nil front); so_far = begin P r from }

pub grow : {X : Type 0} {P : List Token → List X → List Token → Type 0} {r : ℕ} {from now next : List Token} {front all : List X} (added : List X)
    → (h : Growing P r from front all now)
    → Continues P r from (h.rest ++ added) next → Growing P r from front (all ++ added) next
grow {front = front} added h c =
    record { rest = h.rest ++ added; whole = ap (λ (l : List _). l ++ added) h.whole ∙ append_assoc front h.rest added; so_far = c }
