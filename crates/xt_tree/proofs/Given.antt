-- Nodes that get new keys, one after another.
use Rattle.std.proofs.Common.{◌≡◌, ℕ, ◌+◌, ◌*◌, ◌<◌, ◌==◌, true, false, cond, Some, refl, sym, ap, ◌∙◌, arith, eq-eqb, if◌then◌else◌}
use Rattle.spec_document.specs.Forest as spec
use Rattle.spec_document.specs.Forest.{Forest, Content, size}
use Rattle.xt_tree.specs.declared.table.Table.{Table}
use Rattle.xt_tree.specs.Lookup.{lookup}
use Rattle.xt_tree.specs.Keys.{last_key, Rises, AreApart, key_by, entry_or, has_number}
use Rattle.xt_tree.proofs.Bools.{not_both, apart, or_false}
use Rattle.xt_tree.proofs.Distinct.{or_left, or_right}

-- ---- Entries

pub entered : (before after : Table) (number key : ℕ)
    → ((other : ℕ) → lookup after other ≡ (if other == number then Some key else lookup before other)) → key_by after number ≡ key
entered before after number key h =
    ap (λ o. entry_or o number) (h number ∙ ap (λ b. cond b (Some key) (lookup before number)) (eq-eqb number number refl))

pub not_entered : (before after : Table) (number key : ℕ)
    → ((other : ℕ) → lookup after other ≡ (if other == number then Some key else lookup before other))
    → (other : ℕ) → (number == other) ≡ false → key_by after other ≡ key_by before other
not_entered before after number key h other e =
    ap (λ o. entry_or o other) (h other
    ∙ ap (λ b. cond b (Some key) (lookup before other)) (apart other number (λ is. not_both (number == other) (eq-eqb number other (sym is)) e)))

-- ---- Keys that are the same at the nodes of a forest

abbrev pub Agree : (ℕ → ℕ) → (ℕ → ℕ) → Forest ℕ → Type 0
Agree key other f = (n : ℕ) → has_number n f ≡ true → key n ≡ other n

own_there : (l : ℕ) (c : Content) (f g : Forest ℕ) → has_number l (spec.Node l c f g) ≡ true
own_there l c f g = or_left (l == l) _ (eq-eqb l l refl)

below_there : (n l : ℕ) (c : Content) (f g : Forest ℕ) → has_number n f ≡ true → has_number n (spec.Node l c f g) ≡ true
below_there n l c f g h = or_right (l == n) _ (or_left (has_number n f) (has_number n g) h)

behind_there : (n l : ℕ) (c : Content) (f g : Forest ℕ) → has_number n g ≡ true → has_number n (spec.Node l c f g) ≡ true
behind_there n l c f g h = or_right (l == n) _ (or_right (has_number n f) (has_number n g) h)

pub same_last : (key other : ℕ → ℕ) (low : ℕ) (f : Forest ℕ) → Agree key other f → last_key key low f ≡ last_key other low f
same_last key other low spec.Empty h = refl
same_last key other low (spec.Node l c f g) h =
    same_last key other (last_key key (key l) f) g (λ n e. h n (behind_there n l c f g e))
    ∙ ap (λ k. last_key other k g) (same_last key other (key l) f (λ n e. h n (below_there n l c f g e)))
    ∙ ap (λ k. last_key other (last_key other k f) g) (h l (own_there l c f g))

pub same_rises : (key other : ℕ → ℕ) (low : ℕ) (f : Forest ℕ) → Agree key other f → Rises key low f → Rises other low f
same_rises key other low spec.Empty h r = tt
same_rises key other low (spec.Node l c f g) h r =
    let own = h l (own_there l c f g) in
    let end = same_last key other (key l) f (λ n e. h n (below_there n l c f g e)) ∙ ap (λ k. last_key other k f) own in (
      omega (arith, own, r.0),
      rw own at (same_rises key other (key l) f (λ n e. h n (below_there n l c f g e)) r.1),
      rw end at (same_rises key other (last_key key (key l) f) g (λ n e. h n (behind_there n l c f g e)) r.2),
    )

-- ---- How far the new keys have come

-- whatever keys the nodes that are left get
pub record Progress (before now : ℕ → ℕ) (start last step : ℕ) (whole rest : Forest ℕ) : Type 0 where
  pub total : last + step * size rest ≡ start + step * size whole
  pub rises : (key : ℕ → ℕ) → ((n : ℕ) → has_number n rest ≡ false → key n ≡ now n) → Rises key last rest → Rises key start whole
  pub end : (key : ℕ → ℕ) → ((n : ℕ) → has_number n rest ≡ false → key n ≡ now n) → last_key key start whole ≡ last_key key last rest
  pub others : (n : ℕ) → has_number n whole ≡ false → now n ≡ before n
  pub left : AreApart rest
  pub within : (n : ℕ) → has_number n whole ≡ false → has_number n rest ≡ false

pub begun : (key : ℕ → ℕ) (start step : ℕ) (whole : Forest ℕ) → AreApart whole → Progress key key start start step whole whole
begun key start step whole h = record {
  total = refl;
  rises = λ k same r. r;
  end = λ k same. refl;
  others = λ n e. refl;
  left = h;
  within = λ n e. e;
}

-- what a node and those below it got
pub record IsNext (now key : ℕ → ℕ) (last stop step number : ℕ) (below : Forest ℕ) : Type 0 where
  pub ends : stop ≡ last + step + step * size below
  pub rises : Rises key (last + step) below
  pub final : last_key key (last + step) below ≡ stop
  pub own : key number ≡ last + step
  pub others : (n : ℕ) → (number == n) ≡ false → has_number n below ≡ false → key n ≡ now n

-- keys that are the new ones but for the nodes that are left
record IsLater (key now : ℕ → ℕ) (last stop step number : ℕ) (c : Content) (below rest : Forest ℕ) : Type 0 where
  earlier : (n : ℕ) → has_number n (spec.Node number c below rest) ≡ false → key n ≡ now n
  rises : Rises key stop rest → Rises key last (spec.Node number c below rest)
  end : last_key key last (spec.Node number c below rest) ≡ last_key key stop rest

later : (now new key : ℕ → ℕ) (last stop step number : ℕ) (c : Content) (below rest : Forest ℕ) → 0 < step → AreApart (spec.Node number c below rest)
    → IsNext now new last stop step number below → ((n : ℕ) → has_number n rest ≡ false → key n ≡ new n)
    → IsLater key now last stop step number c below rest
later now new key last stop step number c below rest some left next same =
    let own : last + step ≡ key number = sym (same number left.1 ∙ next.own) in
    let agree : Agree new key below = λ n e. sym (same n (left.2 n e)) in
    let end : stop ≡ last_key key (key number) below
    = sym next.final ∙ same_last new key (last + step) below agree ∙ ap (λ k. last_key key k below) own in
    record {
      earlier = λ n e.
          let parts = or_false (number == n) _ e in
          let both = or_false (has_number n below) (has_number n rest) parts.1 in
          same n both.1 ∙ next.others n parts.0 both.0;
      rises = λ r. (omega (arith, own), rw own at (same_rises new key (last + step) below agree next.rises), rw end at r);
      end = ap (λ k. last_key key k rest) (sym end);
    }

pub more : (before now new : ℕ → ℕ) (start last stop step number : ℕ) (c : Content) (whole below rest : Forest ℕ) → 0 < step
    → Progress before now start last step whole (spec.Node number c below rest) → IsNext now new last stop step number below
    → Progress before new start stop step whole rest
more before now new start last stop step number c whole below rest some p next =
    record {
      total = let t : last + step * (1 + size below + size rest) ≡ start + step * size whole = p.total in omega (arith, t, next.ends);
      rises = λ key same r.
          let l = later now new key last stop step number c below rest some p.left next same in
          p.rises key l.earlier (l.rises r);
      end = λ key same.
          let l = later now new key last stop step number c below rest some p.left next same in
          p.end key l.earlier ∙ l.end;
      others = λ n e.
          let away = p.within n e in
          let parts = or_false (number == n) _ away in
          let both = or_false (has_number n below) (has_number n rest) parts.1 in
          next.others n parts.0 both.0 ∙ p.others n e;
      left = p.left.4;
      within = λ n e.
          let parts = or_false (number == n) _ (p.within n e) in
          (or_false (has_number n below) (has_number n rest) parts.1).1;
    }

-- where none are left
pub record AreGiven (before key : ℕ → ℕ) (start stop step : ℕ) (whole : Forest ℕ) : Type 0 where
  pub last : stop ≡ start + step * size whole
  pub rises : Rises key start whole
  pub end : last_key key start whole ≡ stop
  pub others : (n : ℕ) → has_number n whole ≡ false → key n ≡ before n

pub finished : (before now : ℕ → ℕ) (start last step : ℕ) (whole : Forest ℕ) → Progress before now start last step whole spec.Empty
    → AreGiven before now start last step whole
finished before now start last step whole p = record {
  last = let t : last + step * 0 ≡ start + step * size whole = p.total in omega (arith, t);
  rises = p.rises now (λ n e. refl) tt;
  end = p.end now (λ n e. refl);
  others = p.others;
}
