-- What is told to be gone or brought is told apart from what stays.
use Rattle.std.proofs.Common.{◌≡◌, ◌≤◌, arith, ℕ, zero, suc, ◌==◌, Bool, true, false, cond, List, [], ◌∷◌, refl, sym, ap, ◌∙◌}
use Rattle.std.specs.Prelude.{◌||◌, not}
use Rattle.std.specs.List.{list_all}
use Rattle.std.proofs.lemmas.Bool.{eqb-true}
use Rattle.spec_document.specs.Forest.{Forest, labels}
use Rattle.spec_stylesheet.specs.Sheet.{SpaceRule}
use Rattle.spec_seen.specs.Seen.{at_root, seen_among, seen}
use Rattle.spec_edit.proofs.Numbers.{AreOnce, none-among, occurs, occurs-labels}
use Rattle.spec_change.specs.Change.{Change, is_among, without}
use Rattle.spec_change.proofs.Gone.{some-among}
use Rattle.spec_touch.specs.Leads.{seen_change}
use Rattle.spec_touch.specs.Plain.{TellsApart}
use Rattle.spec_touch.proofs.Answering.{neither-first, neither-second}
use Rattle.spec_touch.proofs.Parting.{all-from}
use Rattle.spec_touch.proofs.Seeing.{fewer-seen}

still-none : (others ns : List ℕ) (n : ℕ) → is_among ns n ≡ false → is_among (without others ns) n ≡ false
still-none others [] n h = refl
still-none others (m ∷ ns) n h =
    by (is_among others m) (still-none others ns n (neither-second (m == n) (is_among ns n) h))
  where
    by : (b : Bool) → is_among (without others ns) n ≡ false → is_among (cond (not b) (m ∷ without others ns) (without others ns)) n ≡ false
    by true rest = rest
    by false rest = (λ i. neither-first (m == n) (is_among ns n) h i || is_among (without others ns) n) ∙ rest

taken-out : (others ns : List ℕ) (n : ℕ) → is_among others n ≡ true → is_among (without others ns) n ≡ false
taken-out others [] n h = refl
taken-out others (m ∷ ns) n h = by (is_among others m) (m == n) refl refl (taken-out others ns n h)
  where
    by : (b c : Bool) → is_among others m ≡ b → (m == n) ≡ c → is_among (without others ns) n ≡ false
        → is_among (cond (not b) (m ∷ without others ns) (without others ns)) n ≡ false
    by true c e f rest = rest
    by false true e f rest = absurd (let g : true ≡ false = sym h ∙ ap (is_among others) (sym (eqb-true m n f)) ∙ e in cc)
    by false false e f rest = (λ i. f i || is_among (without others ns) n) ∙ rest

-- what was there and is there no more, of numbers of which each that is not there now was not there before
pub none-told : (others ns all : List ℕ)
    → ((k : ℕ) → 1 ≤ occurs (λ m. m == k) all → occurs (λ m. m == k) others ≡ 0 → occurs (λ m. m == k) ns ≡ 0)
    → list_all (λ n. not (is_among (without others ns) n)) all ≡ true
none-told others ns all h =
    all-from (λ n. not (is_among (without others ns) n)) all (λ k some. ap not (by k some (occurs (λ m. m == k) others) refl))
  where
    by : (k : ℕ) → 1 ≤ occurs (λ m. m == k) all → (n : ℕ) → occurs (λ m. m == k) others ≡ n → is_among (without others ns) k ≡ false
    by k some zero e = still-none others ns k (none-among k ns (h k some e))
    by k some (suc n) e = taken-out others ns k (some-among k others (omega arith))

-- of documents as they are seen, which have the same root
module _ (rules : List SpaceRule) (root : ℕ) where
  none-seen : (old new : Forest ℕ) → AreOnce (root ∷ labels old)
      → list_all (λ n. not (is_among (without (labels (seen_among rules at_root new)) (labels (seen_among rules at_root old))) n))
      (root ∷ labels (seen_among rules at_root new)) ≡ true
  none-seen old new once =
      none-told (labels (seen_among rules at_root new)) (labels (seen_among rules at_root old)) (root ∷ labels (seen_among rules at_root new))
      (λ k some none. (
      let one = once.at k in
      let all = occurs-labels (λ m. m == k) old in
      let sight = occurs-labels (λ m. m == k) (seen_among rules at_root old) in
      let fewer = fewer-seen rules (λ m. m == k) at_root old in
      omega arith
      ))

  pub seen-apart : (change : Change) (old new : Forest ℕ) → AreOnce (root ∷ labels old) → AreOnce (root ∷ labels new)
      → TellsApart (seen_change change (seen rules (record { root = root; nodes = old })) (seen rules (record { root = root; nodes = new })))
      (seen rules (record { root = root; nodes = old })) (seen rules (record { root = root; nodes = new }))
  seen-apart change old new olds news = record { gone = none-seen old new olds; brought = none-seen new old news }
