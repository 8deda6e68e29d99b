-- Nodes that are numbered in document order, and their keys.
use Rattle.std.proofs.Common.{◌≡◌, ◌<◌, ◌≤◌, ℕ, ◌+◌, sym, ap, ◌∙◌, arith, add-zero}
use Rattle.spec_document.specs.Forest as spec
use Rattle.spec_document.specs.Forest.{Forest, Content, size, numbered, height}
use Rattle.spec_document.specs.Numbering.{number_limit}
use Rattle.spec_document.specs.NodeFaults.{greatest_depth}
use Rattle.spec_edit.specs.Depth.{ElementsFit}
use Rattle.xt_tree.specs.Keys.{last_key, Rises, own_key, key_limit}
use Rattle.xt_tree.specs.declared.names.Called.{Called}
use Rattle.xt_tree.specs.Kept.{AreNames}
use Rattle.xt_tree.specs.Numbers.{IsDocument}
use Rattle.std.proofs.Common.{Option}
use Rattle.xt_tree.proofs.Ordered.{ordered_numbers}

pub record Numbered (n l : ℕ) (f g : Forest ℕ) : Type 0 where
  pub own : n ≡ l
  pub below : numbered (n + 1) f ≡ f
  pub behind : numbered (n + 1 + size f) g ≡ g

pub parts : (n l : ℕ) (c : Content) (f g : Forest ℕ) → numbered n (spec.Node l c f g) ≡ spec.Node l c f g → Numbered n l f g
parts n l c f g e = record { own = cc; below = cc; behind = cc }

own-rises : (m n : ℕ) → m < n → own_key m < own_key n
own-rises m n h = omega arith

-- own keys rise where the numbers do
fresh : (key : ℕ → ℕ) (n low : ℕ) (f : Forest ℕ) → ((m : ℕ) → key m ≡ own_key m) → numbered n f ≡ f → low < own_key n
    → Rises key low f × (last_key key low f < own_key (n + size f))
fresh key n low spec.Empty same e h = (tt, rw add-zero h)
fresh key n low (spec.Node l c f g) same e h =
    let s = parts n l c f g e in
    let is : own_key n ≡ key l = ap own_key s.own ∙ sym (same l) in
    let next : own_key n < own_key (n + 1) = own-rises n (n + 1) (omega arith) in
    let below = fresh key (n + 1) (key l) f same s.below (omega arith) in
    let behind = fresh key (n + 1 + size f) (last_key key (key l) f) g same s.behind below.1 in
    let whole : n + 1 + size f + size g ≡ n + (1 + size f + size g) = omega arith in
    ((omega arith, below.0, behind.0), rw whole at behind.1)

-- a document as it is read
pub fresh_document : (key : ℕ → ℕ) (kept : ℕ → Option Called) (root : ℕ) (f : Forest ℕ) → ((m : ℕ) → key m ≡ own_key m)
    → numbered (root + 1) f ≡ f → root + size f < number_limit → height f ≤ greatest_depth + 1
    → ElementsFit 1 f → AreNames kept (record { root = root; nodes = f }) → IsDocument key kept (record { root = root; nodes = f })
fresh_document key kept root f same order limit depth fits names =
    let r = fresh key (root + 1) 0 f same order (omega arith) in
    let most : own_key (root + 1 + size f) < key_limit = omega arith in
    record {
      numbers = ordered_numbers root f order limit;
      depth = depth;
      fits = fits;
      rises = r.0;
      limit = omega (arith, r.1);
      names = names;
    }
