-- How records of one key hang together where one is added, and where one goes along them.
use Rattle.std.proofs.Common.{◌≡◌, ℕ, zero, suc, ◌<◌, ◌≤◌, Bool, true, false, cond, ◌&&◌, nat_eq, List, [], ◌∷◌, ◌++◌, length, length-append, slice_get, slice_index_or, Option, None, Some, unwrap_or, if◌then◌else◌, true≢false, lt-ltb, le-ltb, refl, sym, ap, subst, ◌∙◌, arith}
use Rattle.std.proofs.Math.Logic.{∥∥₁_elim, ∥∥₁_map, ∥∥₁_prop}
use Rattle.std.proofs.lemmas.Bool.Decides.{Decides-eqb}
use Rattle.std.specs.Coded.{le_prop}
use Rattle.std.specs.Prelude.{IfSome}
use Rattle.std.specs.Map.{lookup}
use Rattle.std.specs.declared.rc.Rc.{Rc}
use Rattle.std.specs.declared.alloc.Global.{Global}
use Rattle.indexmap.specs.IndexMap.{IndexMap, get}
use Rattle.xt_record.specs.Chain.{earlier, key_in, keys_in, same_key, IsChained, IsLatest}
use Rattle.xt_record.specs.declared.record.Record.{Record}
use Rattle.xt_record.specs.declared.key.Key.{Key}

-- ---- Options and lists

pub none_some : {X : Type 0} {x : X} → None ≡ Some x → ⊥
none_some e = absurd (cc)

pub some_is : {X : Type 0} {x y : X} → Some x ≡ Some y → x ≡ y
some_is {x = x} e = ap (λ o. unwrap_or o x) e

if_some : {T : Type 0} {P Q : T → Type 0} (o : Option T) → IfSome o P → ((x : T) → P x → Q x) → IfSome o Q
if_some None h f = tt
if_some (Some x) h f = f x h

-- either is the less
pub split : {P : Type 0} (m n : ℕ) → (m < n → P) → (n ≤ m → P) → P
split zero zero f g = g (omega arith)
split zero (suc n) f g = f (omega arith)
split (suc m) zero f g = g (omega arith)
split (suc m) (suc n) f g = split m n (λ lt. f (omega arith)) (λ le. g (omega arith))

module _ {K : Type 0} where
  pub within : (ks : List K) (t : ℕ) (k : K) → slice_get ks t ≡ Some k → t < length ks
  within [] t k at = absurd (none_some at)
  within (x ∷ ks) zero k at = omega arith
  within (x ∷ ks) (suc t) k at = omega (arith, within ks t k at)

  at_more : (ks : List K) (k₀ k : K) (t : ℕ) → slice_get ks t ≡ Some k → slice_get (ks ++ k₀ ∷ []) t ≡ Some k
  at_more [] k₀ k t at = absurd (none_some at)
  at_more (x ∷ ks) k₀ k zero at = at
  at_more (x ∷ ks) k₀ k (suc t) at = at_more ks k₀ k t at

  at_end : (ks : List K) (k₀ : K) (t : ℕ) → t ≡ length ks → slice_get (ks ++ k₀ ∷ []) t ≡ Some k₀
  at_end [] k₀ zero e = refl
  at_end [] k₀ (suc t) e = absurd (omega arith)
  at_end (x ∷ ks) k₀ zero e = absurd (omega arith)
  at_end (x ∷ ks) k₀ (suc t) e = at_end ks k₀ t (omega arith)

  pub from_more : {P : Type 0} (ks : List K) (k₀ k : K) (t : ℕ) → slice_get (ks ++ k₀ ∷ []) t ≡ Some k → (slice_get ks t ≡ Some k → P)
      → (t ≡ length ks → k₀ ≡ k → P) → P
  from_more [] k₀ k zero at f g = g (omega arith) (some_is at)
  from_more [] k₀ k (suc t) at f g = absurd (none_some at)
  from_more (x ∷ ks) k₀ k zero at f g = f at
  from_more (x ∷ ks) k₀ k (suc t) at f g = from_more ks k₀ k t at f (λ e is. g (omega arith) is)

read_more : (bs : List ℕ) (b t d : ℕ) → t < length bs → slice_index_or (bs ++ b ∷ []) t d ≡ slice_index_or bs t d
read_more [] b t d lt = absurd (omega arith)
read_more (x ∷ bs) b zero d lt = refl
read_more (x ∷ bs) b (suc t) d lt = read_more bs b t d (omega arith)

read_end : (bs : List ℕ) (b t d : ℕ) → t ≡ length bs → slice_index_or (bs ++ b ∷ []) t d ≡ b
read_end [] b zero d e = refl
read_end [] b (suc t) d e = absurd (omega arith)
read_end (x ∷ bs) b zero d e = absurd (omega arith)
read_end (x ∷ bs) b (suc t) d e = read_end bs b t d (omega arith)

-- ---- Keys

both_true : (p q : Bool) → (p && q) ≡ true → (p ≡ true) × (q ≡ true)
both_true true true e = (refl, refl)
both_true true false e = absurd (cc)
both_true false true e = absurd (cc)
both_true false false e = absurd (cc)

pub same_so : (key other : Key) → same_key key other ≡ true → key ≡ other
same_so key other e =
    let parts = both_true (nat_eq key.unit other.unit) (nat_eq key.node other.node && nat_eq key.part other.part) e in
    let inside = both_true (nat_eq key.node other.node) (nat_eq key.part other.part) parts.1 in
    let unit = (Decides-eqb key.unit other.unit).0 parts.0 in
    let node = (Decides-eqb key.node other.node).0 inside.0 in
    let part = (Decides-eqb key.part other.part).0 inside.1 in
    λ i. record { unit = unit i; node = node i; part = part i }

same_self : (key : Key) → same_key key key ≡ true
same_self key =
    let unit = (Decides-eqb key.unit key.unit).1 refl in
    let node = (Decides-eqb key.node key.node).1 refl in
    let part = (Decides-eqb key.part key.part).1 refl in
    λ i. unit i && (node i && part i)

-- ---- One is added

module _ (ks : List Key) (k₀ : Key) where
  abbrev more : List Key
  more = ks ++ k₀ ∷ []

  stay : (k : Key) (end : ℕ) (o : Option ℕ) → end ≤ length ks → IsLatest ks k end o → IsLatest more k end o
  stay k end o le h = record {
    below = h.below;
    has = if_some o h.has (λ t at. at_more ks k₀ k t at);
    last = λ t lt at. from_more ks k₀ k t at (h.last t lt) (λ e is. absurd (omega arith));
  }

  grown : (k : Key) (o : Option ℕ) → (k₀ ≡ k → ⊥) → IsLatest ks k (length ks) o → IsLatest more k (length more) o
  grown k o other h = record {
    below = if_some o h.below (λ t lt. omega (arith, length-append ks (k₀ ∷ [])));
    has = if_some o h.has (λ t at. at_more ks k₀ k t at);
    last = λ t lt at. from_more ks k₀ k t at (λ was. h.last t (within ks t k was) was) (λ e is. absurd (other is));
  }

  newest : IsLatest more k₀ (length more) (Some (length ks))
  newest = record {
    below = let lt : length ks < length more = omega (arith, length-append ks (k₀ ∷ [])) in lt;
    has = at_end ks k₀ (length ks) refl;
    last = λ t lt at. let le : t ≤ length ks = omega (arith, length-append ks (k₀ ∷ [])) in le;
  }

  ends_now : (k : Key) (o : Option ℕ) (b : Bool) → same_key k₀ k ≡ b → IsLatest ks k (length ks) o
      → IsLatest more k (length more) (cond b (Some (length ks)) o)
  ends_now k o true is h = subst (λ q. IsLatest more q (length more) (Some (length ks))) (same_so k₀ k is) newest
  ends_now k o false is h =
      grown k o (λ e. true≢false (sym (subst (λ q. same_key k₀ q ≡ true) e (same_self k₀)) ∙ is)) h

  -- what stands beside a turn is the turn before it
  earlier_is : (o : Option ℕ) (t : ℕ) → IfSome o (λ x. x < t) → earlier t (unwrap_or o t) ≡ o
  earlier_is None t h = ap (λ b. if b then Some t else None) (le-ltb t t (omega arith))
  earlier_is (Some x) t h = ap (λ b. if b then Some x else None) (lt-ltb x t h)

  link_now : (o : Option ℕ) (t b : ℕ) → t ≡ length ks → b ≡ unwrap_or o (length ks) → IsLatest ks k₀ (length ks) o → IsLatest more k₀ t (earlier t b)
  link_now o t b e is h =
      let L = length ks in
      let there : earlier L b ≡ o = ap (λ x. earlier L x) is ∙ earlier_is o L h.below in
      subst (λ n. IsLatest more k₀ n (earlier n b)) (sym e) (subst (IsLatest more k₀ L) (sym there) (stay k₀ L o (omega arith) h))

  pub chained_more : (old new : Key → Option ℕ) (bs : List ℕ) (b : ℕ) → length bs ≡ length ks
      → ((q : Key) → new q ≡ cond (same_key k₀ q) (Some (length ks)) (old q)) → b ≡ unwrap_or (old k₀) (length ks)
      → IsChained ks old bs → IsChained more new (bs ++ b ∷ [])
  chained_more old new bs b paired gives is h = record {
    ends = λ k. subst (IsLatest more k (length more)) (sym (gives k)) (ends_now k (old k) (same_key k₀ k) refl (h.ends k));
    links = λ t k at. from_more ks k₀ k t at
        (λ was.
        let lt = within ks t k was in
        let here = read_more bs b t t (omega (arith, lt)) in
        subst (λ x. IsLatest more k t (earlier t x)) (sym here) (stay k t _ (omega (arith, lt)) (h.links t k was)))
        (λ e same.
        let here = read_end bs b t t (omega arith) in
        subst (λ q. IsLatest more q t (earlier t (slice_index_or (bs ++ b ∷ []) t t))) same
        (link_now (old k₀) t _ e (here ∙ is) (h.ends k₀)));
  }

pub keys_more : (rs : List (Rc Record Global)) (r : Rc Record Global) → keys_in (rs ++ r ∷ []) ≡ keys_in rs ++ key_in r.value ∷ []
keys_more [] r = refl
keys_more (x ∷ rs) r = ap (λ (ks : List Key). key_in x.value ∷ ks) (keys_more rs r)

pub keys_count : (rs : List (Rc Record Global)) → length (keys_in rs) ≡ length rs
keys_count [] = refl
keys_count (x ∷ rs) = omega (arith, keys_count rs)

pub both_more : (rs all : List (Rc Record Global)) (r : Rc Record Global) (bs now : List ℕ) (b : ℕ) → length bs ≡ length rs → all ≡ rs ++ r ∷ []
    → now ≡ bs ++ b ∷ [] → length now ≡ length all
both_more rs all r bs now b paired more_rs more_bs =
    let counted : length all ≡ length (rs ++ r ∷ []) = ap length more_rs in
    let beside : length now ≡ length (bs ++ b ∷ []) = ap length more_bs in
    omega (arith, counted, beside, length-append rs (r ∷ []), length-append bs (b ∷ []), paired)

pub added : {S : Type 0} (rs all : List (Rc Record Global)) (r : Rc Record Global) (m n : IndexMap Key ℕ S) (bs now : List ℕ) (k : Key) (turn b : ℕ)
    → length bs ≡ length rs → k ≡ key_in r.value → turn ≡ length rs → b ≡ unwrap_or (get same_key m k) turn
    → ((q : Key) → get same_key n q ≡ cond (same_key k q) (Some turn) (get same_key m q)) → all ≡ rs ++ r ∷ [] → now ≡ bs ++ b ∷ []
    → ∥ IsChained (keys_in rs) (get same_key m) bs ∥₁ → ∥ IsChained (keys_in all) (get same_key n) now ∥₁
added rs all r m n bs now k turn b paired of turn_is is gives more_rs more_bs chained =
    let ks = keys_in rs in
    let count : turn ≡ length ks = turn_is ∙ sym (keys_count rs) in
    let keys : ks ++ k ∷ [] ≡ keys_in (rs ++ r ∷ []) = ap (λ (q : Key). ks ++ q ∷ []) of ∙ sym (keys_more rs r) in
    let step = ∥∥₁_map chained (chained_more ks k (get same_key m) (get same_key n) bs b (paired ∙ sym (keys_count rs))
    (λ q. gives q ∙ ap (λ t. cond (same_key k q) (Some t) (get same_key m q)) count) (is ∙ ap (λ t. unwrap_or (get same_key m k) t) count)) in
    subst (λ (x : List (Rc Record Global)). ∥ IsChained (keys_in x) (get same_key n) now ∥₁) (sym more_rs)
    (subst (λ (x : List ℕ). ∥ IsChained (keys_in (rs ++ r ∷ [])) (get same_key n) x ∥₁) (sym more_bs)
    (subst (λ (x : List Key). ∥ IsChained x (get same_key n) (bs ++ b ∷ []) ∥₁) keys step))

pub as_it_was : {S : Type 0} (rs all : List (Rc Record Global)) (m n : IndexMap Key ℕ S) (bs now : List ℕ) → all ≡ rs → n.entries ≡ m.entries → now ≡ bs
    → ∥ IsChained (keys_in rs) (get same_key m) bs ∥₁ → ∥ IsChained (keys_in all) (get same_key n) now ∥₁
as_it_was rs all m n bs now same entries beside chained =
    subst (λ (x : List (Rc Record Global)). ∥ IsChained (keys_in x) (get same_key n) now ∥₁) (sym same)
    (subst (λ (x : List ℕ). ∥ IsChained (keys_in rs) (get same_key n) x ∥₁) (sym beside)
    (subst (λ (es : List (Key × ℕ)). ∥ IsChained (keys_in rs) (λ k. lookup (same_key k) es) bs ∥₁) (sym entries) chained))

-- ---- One goes along them

-- what was found has the key, and below the end none has it that is later
pub record Reaches (ks : List Key) (key : Key) (end found : ℕ) : Type 0 where
  pub has : slice_get ks found ≡ Some key
  pub last : (t : ℕ) → t < end → slice_get ks t ≡ Some key → t ≤ found

module _ {ks : List Key} {latest : Key → Option ℕ} {bs : List ℕ} (chained : ∥ IsChained ks latest bs ∥₁) where
  pub first : (key : Key) (end : ℕ) (found : ℕ) → latest key ≡ Some found → ∥ Reaches ks key end found ∥₁
  first key end found is = ∥∥₁_map chained (λ h.
      let l = subst (IsLatest ks key (length ks)) is (h.ends key) in
      record { has = l.has; last = λ t lt at. l.last t (within ks t key at) at })

  pub first_none : (key : Key) (end : ℕ) → latest key ≡ None → ∥ IsLatest ks key end None ∥₁
  first_none key end is = ∥∥₁_map chained (λ h.
      let l = subst (IsLatest ks key (length ks)) is (h.ends key) in
      record { below = tt; has = tt; last = λ t lt at. l.last t (within ks t key at) at })

  pub link : (key : Key) (turn : ℕ) (o : Option ℕ) → o ≡ earlier turn (slice_index_or bs turn turn) → slice_get ks turn ≡ Some key
      → ∥ IsLatest ks key turn o ∥₁
  link key turn o is at = ∥∥₁_map chained (λ h. subst (IsLatest ks key turn) (sym is) (h.links turn key at))

  linked : (key : Key) (end turn : ℕ) (o : Option ℕ) → o ≡ earlier turn (slice_index_or bs turn turn) → ∥ Reaches ks key end turn ∥₁
      → ∥ IsLatest ks key turn o ∥₁
  linked key end turn o is reaches = ∥∥₁_elim reaches ∥∥₁_prop (λ r. link key turn o is r.has)

  pub next : (key : Key) (end turn : ℕ) (o : Option ℕ) (before : ℕ) → o ≡ earlier turn (slice_index_or bs turn turn) → o ≡ Some before → end ≤ turn
      → ∥ Reaches ks key end turn ∥₁ → ∥ Reaches ks key end before ∥₁
  next key end turn o before is found le reaches = ∥∥₁_map (linked key end turn o is reaches) (λ l.
      let m = subst (IsLatest ks key turn) found l in
      record { has = m.has; last = λ t lt at. m.last t (omega arith) at })

  pub next_none : (key : Key) (end turn : ℕ) (o : Option ℕ) → o ≡ earlier turn (slice_index_or bs turn turn) → o ≡ None → end ≤ turn
      → ∥ Reaches ks key end turn ∥₁ → ∥ IsLatest ks key end None ∥₁
  next_none key end turn o is none le reaches = ∥∥₁_map (linked key end turn o is reaches) (λ l.
      let m = subst (IsLatest ks key turn) none l in
      record { below = tt; has = tt; last = λ t lt at. m.last t (omega arith) at })

pub nothing_before : {ks : List Key} {key : Key} (end : ℕ) → end ≡ 0 → ∥ IsLatest ks key end None ∥₁
nothing_before end is = ∣ record { below = tt; has = tt; last = λ t lt at. absurd (omega arith) } ∣₁

pub reached : {ks : List Key} {key : Key} {end found : ℕ} → found < end → ∥ Reaches ks key end found ∥₁ → ∥ IsLatest ks key end (Some found) ∥₁
reached lt reaches = ∥∥₁_map reaches (λ r. record { below = lt; has = r.has; last = r.last })

pub reached_within : (rs : List (Rc Record Global)) {key : Key} {end found : ℕ} → ∥ Reaches (keys_in rs) key end found ∥₁ → found < length rs
reached_within rs {key = key} {found = found} reaches =
    ∥∥₁_elim reaches le_prop (λ r. omega (arith, within (keys_in rs) found key r.has, keys_count rs))

-- ---- One goes along all, from the last on

-- from here up to the turn none has the key
pub record IsPassed (ks : List Key) (key : Key) (turn end : ℕ) : Type 0 where
  pub count : end ≤ length ks
  pub turn_is : end ≤ turn
  pub passed : (t : ℕ) → end ≤ t → t < turn → slice_get ks t ≡ Some key → ⊥

pub pass_begun : (ks : List Key) (key : Key) (turn count end : ℕ) → count ≡ length ks → end ≤ turn → end ≤ count
    → ((t : ℕ) → end ≤ t → t < turn → count ≤ t) → IsPassed ks key turn end
pass_begun ks key turn count end is low few behind = record {
  count = omega (arith, is, few);
  turn_is = low;
  passed = λ t le lt at. absurd (omega (arith, within ks t key at, behind t le lt, is));
}

pub pass_one : (ks : List Key) (key : Key) (turn end at : ℕ) → suc at ≡ end → (slice_get ks at ≡ Some key → ⊥) → IsPassed ks key turn end
    → IsPassed ks key turn at
pass_one ks key turn end at is other h = record {
  count = omega (arith, is, h.count);
  turn_is = omega (arith, is, h.turn_is);
  passed = λ t le lt there. split at t (λ more. h.passed t (omega (arith, is, more)) lt there)
      (λ few. let same : t ≡ at = omega (arith, le, few) in other (subst (λ n. slice_get ks n ≡ Some key) same there));
}

pub pass_found : (ks : List Key) (key : Key) (turn end at : ℕ) → suc at ≡ end → slice_get ks at ≡ Some key → IsPassed ks key turn end
    → IsLatest ks key turn (Some at)
pass_found ks key turn end at is here h = record {
  below = let lt : at < turn = omega (arith, is, h.turn_is) in lt;
  has = here;
  last = λ t lt there. let le : t ≤ at = split at t (λ more. absurd (h.passed t (omega (arith, is, more)) lt there)) (λ few. few) in le;
}

pub pass_none : (ks : List Key) (key : Key) (turn end : ℕ) → end ≡ 0 → IsPassed ks key turn end → IsLatest ks key turn None
pass_none ks key turn end is h = record {
  below = tt;
  has = tt;
  last = λ t lt there. absurd (h.passed t (omega (arith, is)) lt there);
}
