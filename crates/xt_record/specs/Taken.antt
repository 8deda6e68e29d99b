-- What comes of a tree that is taken over.
use Rattle.std.specs.Prelude.{◌≡◌, ℕ, suc, ◌+◌, ◌-◌, ◌<◌, ◌≤◌, List, [], ◌∷◌, ◌++◌, take, drop, length, slice_get, Option, Some}
use Rattle.std.specs.declared.rc.Rc.{Rc}
use Rattle.std.specs.declared.alloc.Global.{Global}
use Rattle.xt_record.specs.Listed.{records_in, trees_in}
use Rattle.xt_record.specs.declared.entry.Entry.{Entry}
use Rattle.xt_record.specs.declared.pool.Pool.{Pool}
use Rattle.xt_record.specs.declared.tree.Tree.{Tree}
use Rattle.xt_record.specs.declared.tree.Summary.{Summary}

-- what is said is what was said
abbrev pub IsShared : (before after : Option (Rc Summary Global)) → Type 0
IsShared before after = (w : Rc Summary Global) → after ≡ Some w → (v : Rc Summary Global) × (before ≡ Some v) × (v.value ≡ w.value)

-- there is one tree more, of the same size, of which no more is said, and nothing where it begins before the first turn
pub record IsTaken (first turn : ℕ) (given : Tree) (before after : List Tree) : Type 0 where
  pub tree : Tree
  pub added : after ≡ before ++ tree ∷ []
  pub size : tree.size ≡ given.size
  pub whole : IsShared given.whole tree.whole
  pub inside : (w : Rc Summary Global) → tree.whole ≡ Some w → tree.size ≤ suc (turn - first)

-- ---- What is shared

-- no tree of these that says something reaches over more than those of these before it and so many more
abbrev pub AllWithin : ℕ → List Entry → Type 0
AllWithin ahead es =
    (n : ℕ) (e : Entry) (w : Rc Summary Global) → slice_get es n ≡ Some e → e.tree.whole ≡ Some w → e.tree.size ≤ suc (ahead + n)

-- some of these entries that stand side by side, at least one and at most so many
pub record IsPart (from most ahead : ℕ) (all part : List Entry) : Type 0 where
  pub part_is : part ≡ take (length part) (drop from all)
  pub some : 0 < length part
  pub within : from + length part ≤ length all
  pub few : length part ≤ most
  pub inside : AllWithin ahead part

-- some of those that a pool has from this turn on, but none from the end on
pub record IsPartOf (first turn end : ℕ) (pool : Pool) (part : List Entry) : Type 0 where
  pub records : records_in part ≡ take (length part) (drop turn pool.records.items)
  pub trees : trees_in part ≡ take (length part) (drop turn pool.trees.items)
  pub some : 0 < length part
  pub few : turn + length part ≤ end
  pub inside : AllWithin (turn - first) part
