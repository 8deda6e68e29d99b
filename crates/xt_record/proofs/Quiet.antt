-- Where none of the questions is marked but choices and keys.
use Rattle.std.proofs.Common.{◌≡◌, ℕ, zero, suc, ◌+◌, ◌-◌, ◌<◌, Bool, true, false, List, [], ◌∷◌, ◌++◌, map, take, drop, length, get_or, set, replicate, slice_get, Some, refl, sym, ap, subst, ◌∙◌, append_assoc, length-append, arith}
use Rattle.std.specs.Prelude.{IfSome}
use Rattle.std.specs.declared.rc.Rc.{Rc}
use Rattle.std.specs.declared.alloc.Global.{Global}
use Rattle.spec_meaning.specs.Question.{Answer, Question}
use Rattle.spec_run.specs.Going.{Event, Asked, Saw, Entered, Held}
use Rattle.spec_node.specs.declared.node_ref.NodeRef.{NodeRef}
use Rattle.spec_touch.specs.Marks.{WorldChange, any_marks}
use Rattle.xt_engine.specs.View.{event_of}
use Rattle.xt_engine.specs.declared.event.Event.{Event as CodeEvent}
use Rattle.xt_spared.specs.View.{by_own_reads}
use Rattle.xt_touch.specs.Named.{Covers}
use Rattle.xt_touch.specs.declared.named.Named.{Named}
use Rattle.xt_record.specs.Asked.{NoneMarked, NoneMarkedAmong, marked_in, one_if}
use Rattle.xt_record.specs.Grown.{values_of, AllNamed, AreTrees, AsksNamed, IsTreeAt}
use Rattle.xt_record.specs.View.{kept_in}
use Rattle.xt_record.specs.declared.pool.Pool.{Pool}
use Rattle.xt_record.specs.declared.record.Record.{Record}
use Rattle.xt_record.specs.declared.tree.Summary.{Summary}
use Rattle.xt_record.specs.declared.tree.Tree.{Tree}
use Rattle.xt_record.proofs.Grown.{at_item, drop_front, there}

module _ (changes : List WorldChange) where
  -- ---- Of what was done, one after the other

  first_none : (e : Event NodeRef) (es : List (Event NodeRef)) → NoneMarked changes (e ∷ es) → NoneMarked changes (e ∷ [])
  first_none (Asked q a) es h = (h.0, tt)
  first_none (Saw w d l x) es h = tt
  first_none (Entered c d) es h = tt
  first_none (Held j xs) es h = tt

  others_none : (e : Event NodeRef) (es : List (Event NodeRef)) → NoneMarked changes (e ∷ es) → NoneMarked changes es
  others_none (Asked q a) es h = h.1
  others_none (Saw w d l x) es h = h
  others_none (Entered c d) es h = h
  others_none (Held j xs) es h = h

  both_none : (e : Event NodeRef) (es : List (Event NodeRef)) → NoneMarked changes (e ∷ []) → NoneMarked changes es → NoneMarked changes (e ∷ es)
  both_none (Asked q a) es k h = (k.0, h)
  both_none (Saw w d l x) es k h = h
  both_none (Entered c d) es k h = h
  both_none (Held j xs) es k h = h

  pub none_more : (es : List CodeEvent) (i : ℕ) (e : CodeEvent) → i < length es → e ≡ get_or es i e → NoneMarked changes (event_of e ∷ [])
      → NoneMarked changes (map event_of (take i es)) → NoneMarked changes (map event_of (take (suc i) es))
  none_more [] i e lt at k h = absurd (omega arith)
  none_more (x ∷ es) zero e lt at k h =
      let P : CodeEvent → Type 0 = λ y. NoneMarked changes (event_of y ∷ []) in subst P at k
  none_more (x ∷ es) (suc i) e lt at k h =
      let before = map event_of (take i es) in
      both_none (event_of x) (map event_of (take (suc i) es)) (first_none (event_of x) before h)
      (none_more es i e (omega arith) at k (others_none (event_of x) before h))

  -- ---- Of one question

  pub marked_alone : (q : Question NodeRef) (a : Answer NodeRef) → any_marks changes q ≡ true → 0 < marked_in changes (Asked q a ∷ [])
  marked_alone q a h = omega (arith, ap one_if h)

  pub unmarked_alone : (q : Question NodeRef) (a : Answer NodeRef) → (by_own_reads q ≡ false → any_marks changes q ≡ false)
      → NoneMarked changes (Asked q a ∷ [])
  unmarked_alone q a h = (h, tt)

  -- ---- Of records from a turn on

  abbrev NoneIn : Record → Type 0
  NoneIn r = NoneMarked changes (kept_in r).trace

  pub none_from : (rs : List (Rc Record Global)) (i : ℕ) (r : Rc Record Global) → i < length rs → r.value ≡ (get_or rs i r).value → NoneIn r.value
      → NoneMarkedAmong changes (drop (suc i) rs) → NoneMarkedAmong changes (drop i rs)
  none_from [] i r lt at k h = absurd (omega arith)
  none_from (x ∷ rs) zero r lt at k h = (subst NoneIn at k, h)
  none_from (x ∷ rs) (suc i) r lt at k h = none_from rs i r (omega arith) at k h

  pub none_behind : (rs : List (Rc Record Global)) (n : ℕ) → n ≡ length rs → NoneMarkedAmong changes (drop n rs)
  none_behind [] zero e = tt
  none_behind [] (suc n) e = absurd (omega (arith, e))
  none_behind (x ∷ rs) zero e = absurd (omega (arith, e))
  none_behind (x ∷ rs) (suc n) e = none_behind rs n (omega (arith, e))

  -- ---- Of a tree

  abbrev NoneOf : List Record → Type 0
  NoneOf [] = Unit {0}
  NoneOf (v ∷ vs) = NoneIn v × NoneOf vs

  of_values : (rs : List (Rc Record Global)) → NoneMarkedAmong changes rs → NoneOf (values_of rs)
  of_values [] h = tt
  of_values (r ∷ rs) h = (h.0, of_values rs h.1)

  of_handles : (rs : List (Rc Record Global)) → NoneOf (values_of rs) → NoneMarkedAmong changes rs
  of_handles [] h = tt
  of_handles (r ∷ rs) h = (h.0, of_handles rs h.1)

  none_both : (xs ys : List Record) → NoneOf xs → NoneOf ys → NoneOf (xs ++ ys)
  none_both [] ys h k = k
  none_both (x ∷ xs) ys h k = (h.0, none_both xs ys h.1 k)

  module _ (named : Named) (unmarked : (question : Question NodeRef) → Covers named question → any_marks changes question ≡ false) where
    none_named : (es : List (Event NodeRef)) → AsksNamed named es → NoneMarked changes es
    none_named [] h = tt
    none_named (Asked q a ∷ es) h = (λ alone. unmarked q h.0, none_named es h.1)
    none_named (Saw w d l x ∷ es) h = none_named es h
    none_named (Entered c d ∷ es) h = none_named es h
    none_named (Held j xs ∷ es) h = none_named es h

    all_none : (vs : List Record) → AllNamed named vs → NoneOf vs
    all_none [] h = tt
    all_none (v ∷ vs) h = (none_named (kept_in v).trace h.0, all_none vs h.1)

  values_drop : (n : ℕ) (rs : List (Rc Record Global)) → values_of (drop n rs) ≡ drop n (values_of rs)
  values_drop zero rs = refl
  values_drop (suc n) [] = refl
  values_drop (suc n) (r ∷ rs) = values_drop n rs

  none_of_tree : (vs : List Record) (turn size : ℕ) (w : Summary) → IsTreeAt vs turn size w
      → ((question : Question NodeRef) → Covers w.named question → any_marks changes question ≡ false) → NoneOf (drop (suc turn) vs)
      → NoneOf (drop (suc turn - size) vs)
  none_of_tree vs turn size w at unmarked h =
      let tree = at.below ++ at.own ∷ [] in
      let as_tree : vs ≡ at.before ++ (tree ++ at.after) =
      at.parts ∙ ap (λ (xs : List Record). at.before ++ xs) (sym (append_assoc at.below (at.own ∷ []) at.after)) in
      let as_front : vs ≡ (at.before ++ tree) ++ at.after = as_tree ∙ sym (append_assoc at.before tree at.after) in
      let turn_is = at.turn_is in
      let size_is = at.size_is in
      let long : length tree ≡ length at.below + 1 = length-append at.below (at.own ∷ []) in
      let first : suc turn - size ≡ length at.before = omega (arith, turn_is, size_is) in
      let end : suc turn ≡ length (at.before ++ tree) = omega (arith, turn_is, size_is, long, length-append at.before tree) in
      let rest : drop (suc turn) vs ≡ at.after =
      ap (λ (n : ℕ). drop n vs) end ∙ ap (λ (xs : List Record). drop (length (at.before ++ tree)) xs) as_front ∙ drop_front (at.before ++ tree) at.after in
      let from : drop (suc turn - size) vs ≡ tree ++ at.after =
      ap (λ (n : ℕ). drop n vs) first ∙ ap (λ (xs : List Record). drop (length at.before) xs) as_tree ∙ drop_front at.before (tree ++ at.after) in
      let own = none_named w.named unmarked (kept_in at.own).trace at.whole.own in
      let below = all_none w.named unmarked at.below at.whole.named in
      subst NoneOf (sym from) (none_both tree at.after (none_both at.below (at.own ∷ []) below (own, tt)) (subst NoneOf rest h))

  -- the tree at a turn, which says what its questions name
  pub none_in_tree : (pool : Pool) (turn first : ℕ) (w : Rc Summary Global) → length pool.trees.items ≡ length pool.records.items
      → turn < length pool.records.items
      → IfSome (slice_get pool.trees.items turn) (λ t. t.whole ≡ Some w)
      → IfSome (slice_get pool.trees.items turn) (λ t. 0 < t.size → first ≡ suc turn - t.size)
      → AreTrees (values_of pool.records.items) pool.trees.items
      → ((question : Question NodeRef) → Covers w.value.named question → any_marks changes question ≡ false)
      → NoneMarkedAmong changes (drop (suc turn) pool.records.items) → NoneMarkedAmong changes (drop first pool.records.items)
  none_in_tree pool turn first w paired within tree starts trees unmarked h =
      let rs = pool.records.items in
      let ts = pool.trees.items in
      let t = there ts turn (omega (arith, within, paired)) in
      let whole : t.item.whole ≡ Some w = at_item (λ (x : Tree). x.whole ≡ Some w) (slice_get ts turn) t.item t.here tree in
      let at = trees turn t.item w t.here whole in
      let size_is = at.size_is in
      let is : first ≡ suc turn - t.item.size
      = at_item (λ (x : Tree). 0 < x.size → first ≡ suc turn - x.size) (slice_get ts turn) t.item t.here starts (omega (arith, size_is)) in
      let none = none_of_tree (values_of rs) turn t.item.size w.value at unmarked (subst NoneOf (values_drop (suc turn) rs) (of_values (drop (suc turn) rs) h)) in
      of_handles (drop first rs) (subst NoneOf (ap (λ (n : ℕ). drop n (values_of rs)) (sym is) ∙ sym (values_drop first rs)) none)
