-- What a pool is seen as, by its pieces and those behind them.
use Rattle.std.proofs.Common.{◌≡◌, ℕ, ◌+◌, ◌-◌, ◌<◌, ◌≤◌, List, ◌++◌, take, drop, length, get_or, slice_get, Some, sym, ap, ◌∙◌, length-append, arith}
use Rattle.xt_record.specs.Listed.{Listed, listed, record_in, tree_in, records_in, trees_in}
use Rattle.xt_record.specs.Taken.{IsPart, IsPartOf}
use Rattle.xt_record.specs.declared.entry.Entry.{Entry}
use Rattle.xt_record.proofs.Pieced.{get_behind, got, map_length, map_part, part_first}

module _ (ps ls : List Entry) (pool : Listed) (are : listed (ps ++ ls) ≡ pool) where
  records_count : length pool.records.items ≡ length ps + length ls
  records_count = ap (λ (p : Listed). length p.records.items) (sym are) ∙ map_length record_in (ps ++ ls) ∙ length-append ps ls

  trees_count : length pool.trees.items ≡ length ps + length ls
  trees_count = ap (λ (p : Listed). length p.trees.items) (sym are) ∙ map_length tree_in (ps ++ ls) ∙ length-append ps ls

  pub paired : length pool.trees.items ≡ length pool.records.items
  paired = trees_count ∙ sym records_count

  -- one that stands behind the pieces
  pub loose_at : (turn count : ℕ) (e : Entry) → turn < length pool.records.items → count ≡ length ps → count ≤ turn → e ≡ get_or ls (turn - count) e
      → slice_get (ps ++ ls) turn ≡ Some e
  loose_at turn count e lt many le is =
      let inside : turn - count < length ls = omega (arith, lt, many, le, records_count) in
      get_behind ps ls turn (turn - count) e (omega (arith, many, le)) (got ls (turn - count) e inside is)

  -- some that can be shared
  pub part_listed : (first turn end : ℕ) (q : List Entry) → turn < end → IsPart turn (end - turn) (turn - first) ps q → IsPartOf first turn end pool q
  part_listed first turn end q lt part =
      let n = length q in
      let same : q ≡ take n (drop turn (ps ++ ls)) = part.part_is ∙ sym (part_first ps ls turn n part.within) in
      record {
        records = ap (λ (es : List Entry). records_in es) same ∙ map_part record_in (ps ++ ls) turn n
            ∙ ap (λ (p : Listed). take n (drop turn p.records.items)) are;
        trees = ap (λ (es : List Entry). trees_in es) same ∙ map_part tree_in (ps ++ ls) turn n
            ∙ ap (λ (p : Listed). take n (drop turn p.trees.items)) are;
        some = part.some;
        few = omega (arith, part.few, lt);
        inside = part.inside;
      }
