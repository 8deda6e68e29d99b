use Rattle.std.proofs.Common.{◌≡◌, ℕ, ◌+◌, ◌-◌, ◌++◌, Option, None, Some, List, refl, sym, ap, subst, arith}
use Rattle.xt_record.specs.Chain.{keys_in, IsLatest}
use Rattle.xt_record.specs.Listed.{Listed, keys_of}
use Rattle.xt_record.specs.declared.entry.Entry.{Entry}
use Rattle.xt_record.specs.declared.key.Key.{Key}
use Rattle.xt_record.proofs.Turns.{entries_behind, entries_front, latest_of}
use Rattle.xt_record.proofs.pool.Pool.latest_before.Goals as goal

pub returns-in-Some-clause-latest : goal.returns-in-Some-clause-latest
returns-in-Some-clause-latest c =
    let ps = c.self.inside.pieces in
    let ls = c.self.inside.loose.items in
    let rs = c.args.self.now.records.items in
    let key = c.key_of-key.result in
    let turn = c.args.turn in
    let count = c.count-count.result in
    let found : Option ℕ = Some (count + c.in-Some.at) in
    let Of : Key → Type 0 = λ q. ∥ IsLatest (keys_in rs) q turn found ∥₁ in
    let few : c.saturating_sub.result ≡ turn - count = omega (arith, c.saturating_sub.ensures) in
    let here = subst (λ n. IsLatest (keys_of ls) key n (Some c.in-Some.at)) few
    (subst (λ (es : List Entry). IsLatest (keys_of es) key c.saturating_sub.result (Some c.in-Some.at)) c.as_slice.ensures.value c.in-Some.ensures.latest) in
    subst Of c.key_of-key.ensures (latest_of (ps ++ ls) rs key turn found (ap (λ (p : Listed). p.records.items) (sym c.self.view_is))
    (entries_behind ps ls (ps ++ ls) key turn count refl c.count-count.ensures.count c.in-Some.at here))

pub returns-clause-latest : goal.returns-clause-latest
returns-clause-latest c =
    let ps = c.self.inside.pieces in
    let ls = c.self.inside.loose.items in
    let rs = c.args.self.now.records.items in
    let key = c.key_of-key.result in
    let turn = c.args.turn in
    let count = c.count-count.result in
    let found = c.latest_before.result in
    let Of : Key → Type 0 = λ q. ∥ IsLatest (keys_in rs) q turn found ∥₁ in
    let few : c.saturating_sub.result ≡ turn - count = omega (arith, c.saturating_sub.ensures) in
    let none = subst (λ n. IsLatest (keys_of ls) key n None) few
    (subst (λ (es : List Entry). IsLatest (keys_of es) key c.saturating_sub.result None) c.as_slice.ensures.value c.in_default.ensures.latest) in
    subst Of c.key_of-key.ensures (latest_of (ps ++ ls) rs key turn found (ap (λ (p : Listed). p.records.items) (sym c.self.view_is))
    (entries_front ps ls (ps ++ ls) key turn count refl c.count-count.ensures.count found none c.latest_before.ensures))
