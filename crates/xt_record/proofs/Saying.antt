-- What a tree of the last run says of a call.
use Rattle.std.proofs.Common.{◌≡◌, ℕ, zero, suc, ◌-◌, ◌<◌, ◌≤◌, List, [], ◌∷◌, ◌++◌, map, take, drop, length, get_or, slice_get, Option, None, Some, refl, sym, ap, subst, ◌∙◌, append_assoc, arith}
use Rattle.std.proofs.lemmas.Option.{slice_get-get_or}
use Rattle.std.specs.Prelude.{IfSome}
use Rattle.std.specs.declared.rc.Rc.{Rc}
use Rattle.std.specs.declared.alloc.Global.{Global}
use Rattle.spec_meaning.specs.Question.{Question, Answer}
use Rattle.spec_run.specs.Plan.{Call}
use Rattle.spec_run.specs.Trail.{IsTrue}
use Rattle.spec_reuse.specs.Among.{IsIn}
use Rattle.spec_reuse.specs.Serving.{IsOf}
use Rattle.spec_trees.specs.Tree.{AllAsksHold}
use Rattle.spec_node.specs.declared.node_ref.NodeRef.{NodeRef}
use Rattle.spec_node.specs.Naming.{same_ref}
use Rattle.xt_touch.specs.Named.{Covers}
use Rattle.xt_spared.specs.View.{IsSparedBy}
use Rattle.xt_spared.specs.declared.spared.Spared.{Spared}
use Rattle.xt_record.specs.View.{kept_in, AsksHold}
use Rattle.xt_record.specs.Grown.{part_of, value_in, values_of, AreTrees, IsSaid, IsSaidAt, IsTakenOver, IsTreeAt}
use Rattle.xt_record.specs.Sure.{from_to, AllHold, AllSpared, TreeHolds}
use Rattle.xt_record.specs.declared.pool.Pool.{Pool}
use Rattle.xt_record.specs.declared.record.Record.{Record}
use Rattle.xt_record.specs.declared.tree.Summary.{Summary}
use Rattle.xt_record.specs.declared.tree.Tree.{Tree}
use Rattle.xt_record.proofs.Chaining.{none_some, some_is}
use Rattle.xt_record.proofs.Lasting.{truly}
use Rattle.xt_record.proofs.Sets.{sets}
use Rattle.xt_record.proofs.Pieced.{map_part}
use Rattle.xt_record.proofs.Grown.{hold_both, hold_handles, hold_values, in_front, in_rest, own_at, part_tree, values_at, there, at_item, HoldAll}
use Rattle.xt_record.proofs.Naming.{all_asked, all_counted, all_named_both, all_so, spare_front, spare_rest, spare_values, SpareAll}

-- the records of a tree, as they are told by their turns
tree_part : (rs : List (Rc Record Global)) (turn size : ℕ) (w : Summary) (at : IsTreeAt (values_of rs) turn size w)
    → values_of (from_to (suc turn - size) (suc turn) rs) ≡ at.below ++ at.own ∷ []
tree_part rs turn size w at =
    map_part value_in rs (suc turn - size) (suc turn - (suc turn - size)) ∙ part_tree (values_of rs) turn size w at

-- the tree at a turn, where the questions of all of its records have their answers
said_so : (ask : Question NodeRef → Answer NodeRef) (rs : List (Rc Record Global)) (ts : List Tree) (turn levels : ℕ)
    (call : Call NodeRef) (t : Tree) (w : Summary) (v : Record) → slice_get ts turn ≡ Some t → (at : IsTreeAt (values_of rs) turn t.size w)
    → slice_get (values_of rs) turn ≡ Some v → suc w.levels ≤ levels → IsOf call (kept_in v)
    → HoldAll ask (at.below ++ at.own ∷ []) → IsSaidAt ask (values_of rs) ts turn call levels w v
said_so ask rs ts turn levels call t w v here at read room of holds =
    let vs = values_of rs in
    let tree = at.below ++ at.own ∷ [] in
    let whole : vs ≡ (at.before ++ at.below) ++ at.own ∷ at.after = at.parts ∙ sym (append_assoc at.before at.below (at.own ∷ at.after)) in
    let as_tree : vs ≡ at.before ++ (tree ++ at.after) =
    at.parts ∙ ap (λ (xs : List Record). at.before ++ xs) (sym (append_assoc at.below (at.own ∷ []) at.after)) in
    let own_here : slice_get vs turn ≡ Some at.own = own_at vs at.before at.below at.after at.own turn whole at.turn_is in
    let own : at.own ≡ v = some_is (sym own_here ∙ read) in
    let hold = all_counted ask tree holds in
    let To : Record → Type 0 = λ x. IsSaidAt ask vs ts turn call levels w x in
    let said : IsSaid ask vs call levels w at.own = record {
      below = at.below;
      whole = at.whole;
      of_call = subst (λ (x : Record). IsOf call (kept_in x)) (sym own) of;
      room = room;
      hold = hold;
      among = λ r h. subst (λ (xs : List Record). IsIn r xs) (sym as_tree) (in_rest r at.before (tree ++ at.after) (in_front r tree at.after h));
    } in
    subst To own (record { tree = t; here = here; at = at; hold = hold; said = said; same = refl })

-- the same by what is read of the last run's records and trees at that turn
pub tree_said : (ask : Question NodeRef → Answer NodeRef) (pool : Pool) (turn levels : ℕ) (call : Call NodeRef)
    (w copy : Rc Summary Global) (r : Rc Record Global) → length pool.trees.items ≡ length pool.records.items → turn < length pool.records.items
    → IfSome (slice_get pool.trees.items turn) (λ t. t.whole ≡ Some w) → copy.value ≡ w.value → suc w.value.levels ≤ levels
    → IsOf call (kept_in r.value) → r.value ≡ (get_or pool.records.items turn r).value → AreTrees (values_of pool.records.items) pool.trees.items
    → TreeHolds ask pool turn → IsSaidAt ask (values_of pool.records.items) pool.trees.items turn call levels copy.value r.value
tree_said ask pool turn levels call w copy r paired within tree same room of is trees holds =
    let rs = pool.records.items in
    let ts = pool.trees.items in
    let t = there ts turn (omega (arith, within, paired)) in
    let whole : t.item.whole ≡ Some w = at_item (λ (x : Tree). x.whole ≡ Some w) (slice_get ts turn) t.item t.here tree in
    let here : slice_get (values_of rs) turn ≡ Some r.value =
    values_at rs turn (get_or rs turn r) (slice_get-get_or rs turn r within) ∙ ap (λ (x : Record). Some x) (sym is) in
    let at = trees turn t.item w t.here whole in
    let Holds : Tree → Type 0 = λ x. 0 < x.size → AllHold ask (from_to (suc turn - x.size) (suc turn) rs) in
    let Of : List Record → Type 0 = λ xs. HoldAll ask xs in
    let all = at_item Holds (slice_get ts turn) t.item t.here holds (omega (arith, at.size_is)) in
    let hold = subst Of (tree_part rs turn t.item.size w.value at) (hold_values ask (from_to (suc turn - t.item.size) (suc turn) rs) all) in
    subst (λ (x : Summary). IsSaidAt ask (values_of rs) ts turn call levels x r.value) (sym same)
    (said_so ask rs ts turn levels call t.item w.value r.value t.here at here room of hold)

-- where all that a tree names is spared, the questions of its records have their answers
pub tree_spared : (ask : Question NodeRef → Answer NodeRef) (spared : Spared) (pool : Pool) (turn : ℕ) (w : Rc Summary Global)
    → length pool.trees.items ≡ length pool.records.items → turn < length pool.records.items
    → IfSome (slice_get pool.trees.items turn) (λ t. t.whole ≡ Some w)
    → ((question : Question NodeRef) → Covers w.value.named question → IsSparedBy spared question)
    → AreTrees (values_of pool.records.items) pool.trees.items → AllSpared ask spared pool.records.items → TreeHolds ask pool turn
tree_spared ask spared pool turn w paired within tree spares trees all =
    let rs = pool.records.items in
    let ts = pool.trees.items in
    let vs = values_of rs in
    let t = there ts turn (omega (arith, within, paired)) in
    let whole : t.item.whole ≡ Some w = at_item (λ (x : Tree). x.whole ≡ Some w) (slice_get ts turn) t.item t.here tree in
    let at = trees turn t.item w t.here whole in
    let below = at.below ++ at.own ∷ [] in
    let as_tree : vs ≡ at.before ++ (below ++ at.after) =
    at.parts ∙ ap (λ (xs : List Record). at.before ++ xs) (sym (append_assoc at.below (at.own ∷ []) at.after)) in
    let SpareOf : List Record → Type 0 = λ xs. SpareAll ask spared xs in
    let spare = subst SpareOf as_tree (spare_values ask spared rs all) in
    let spare_tree = spare_front ask spared below at.after (spare_rest ask spared at.before (below ++ at.after) spare) in
    let named = all_named_both w.value.named at.below (at.own ∷ []) at.whole.named (at.whole.own, tt) in
    let hold = all_so ask spared w.value.named spares below spare_tree named in
    let Of : List Record → Type 0 = λ xs. HoldAll ask xs in
    let Holds : Tree → Type 0 = λ x. 0 < x.size → AllHold ask (from_to (suc turn - x.size) (suc turn) rs) in
    let Some_holds : Option Tree → Type 0 = λ o. IfSome o Holds in
    subst Some_holds (sym t.here) (λ few. hold_handles ask (from_to (suc turn - t.item.size) (suc turn) rs)
    (subst Of (sym (tree_part rs turn t.item.size w.value at)) hold))

-- the same by the turn of the first
pub first_holds : (ask : Question NodeRef → Answer NodeRef) (rs : List (Rc Record Global)) (turn first : ℕ) (o : Option Tree)
    → IfSome o (λ t. 0 < t.size → first ≡ suc turn - t.size) → AllHold ask (from_to first (suc turn) rs)
    → IfSome o (λ t. 0 < t.size → AllHold ask (from_to (suc turn - t.size) (suc turn) rs))
first_holds ask rs turn first None is all = tt
first_holds ask rs turn first (Some t) is all = λ few.
    let From : ℕ → Type 0 = λ n. AllHold ask (from_to n (suc turn) rs) in
    subst From (is few) all

-- those behind all have them
pub hold_none : (ask : Question NodeRef → Answer NodeRef) (rs : List (Rc Record Global)) (at end : ℕ) → at ≡ end → AllHold ask (from_to at end rs)
hold_none ask rs at end same =
    let Count : ℕ → Type 0 = λ n. AllHold ask (take n (drop at rs)) in
    subst Count (none at end same) tt
  where
    none : (m n : ℕ) → m ≡ n → 0 ≡ n - m
    none m n e = omega (arith, e)

-- where those from one place on have their answers, and the one before, those from there on have
pub hold_from : (ask : Question NodeRef → Answer NodeRef) (rs : List (Rc Record Global)) (at end : ℕ) (r : Rc Record Global) → at < end
    → slice_get rs at ≡ Some r → AsksHold ask (kept_in r.value).trace → AllHold ask (from_to (suc at) end rs) → AllHold ask (from_to at end rs)
hold_from ask rs at end r few here one more =
    let Of : List (Rc Record Global) → Type 0 = λ xs. AllHold ask xs in
    let Count : ℕ → Type 0 = λ n. AllHold ask (take n (drop at rs)) in
    subst Count (count few) (subst Of (sym (begins rs at (end - suc at) here)) (one, more))
  where
    count : at < end → suc (end - suc at) ≡ end - at
    count lt = omega (arith, lt)

    begins : (xs : List (Rc Record Global)) (n m : ℕ) → slice_get xs n ≡ Some r → take (suc m) (drop n xs) ≡ r ∷ take m (drop (suc n) xs)
    begins [] n m e = absurd (none_some e)
    begins (x ∷ xs) zero m e = ap (λ (y : Rc Record Global). y ∷ take m xs) (some_is e)
    begins (x ∷ xs) (suc n) m e = begins xs n m e

-- all of a tree is taken over
taken_all : (others : List Record) (turn size : ℕ) (w : Summary) (at : IsTreeAt others turn size w) (rs now : List (Rc Record Global))
    → values_of now ≡ values_of rs ++ part_of (suc turn - size) (suc turn - (suc turn - size)) others
    → values_of now ≡ values_of rs ++ (at.below ++ at.own ∷ [])
taken_all others turn size w at rs now more = more ∙ ap (λ (xs : List Record). values_of rs ++ xs) (part_tree others turn size w at)

pub taken_over : (ask : Question NodeRef → Answer NodeRef) (others : List Record) (trees : List Tree) (turn levels : ℕ) (call : Call NodeRef)
    (w : Summary) (v : Record) (rs now : List (Rc Record Global)) → IsSaidAt ask others trees turn call levels w v
    → IfSome (slice_get trees turn)
    (λ t. 0 < t.size → values_of now ≡ values_of rs ++ part_of (suc turn - t.size) (suc turn - (suc turn - t.size)) others)
    → IsTakenOver ask others (values_of rs) (values_of now) call levels w v
taken_over ask others trees turn levels call w v rs now said more =
    let Adds : Tree → Type 0 = λ t. 0 < t.size → values_of now ≡ values_of rs ++ part_of (suc turn - t.size) (suc turn - (suc turn - t.size)) others in
    let added = at_item Adds (slice_get trees turn) said.tree said.here more (omega (arith, said.at.size_is)) in
    record {
      said = said.said;
      next = taken_all others turn said.tree.size w said.at rs now added ∙ ap (λ (xs : List Record). values_of rs ++ xs) said.same;
    }

-- what is taken over has its answers too
hold_taken : (ask : Question NodeRef → Answer NodeRef) (others : List Record) (turn size : ℕ) (w : Summary) (at : IsTreeAt others turn size w)
    (rs now : List (Rc Record Global)) → AllAsksHold ask (map kept_in (at.below ++ at.own ∷ []))
    → values_of now ≡ values_of rs ++ part_of (suc turn - size) (suc turn - (suc turn - size)) others → AllHold ask rs → AllHold ask now
hold_taken ask others turn size w at rs now hold more h =
    let tree = at.below ++ at.own ∷ [] in
    let Of : List Record → Type 0 = λ xs. HoldAll ask xs in
    let all : values_of now ≡ values_of rs ++ tree = taken_all others turn size w at rs now more in
    hold_handles ask now (subst Of (sym all) (hold_both ask (values_of rs) tree (hold_values ask rs h) (all_asked ask tree hold)))

pub taken_hold : (ask : Question NodeRef → Answer NodeRef) (others : List Record) (trees : List Tree) (turn levels : ℕ) (call : Call NodeRef)
    (w : Summary) (v : Record) (rs now : List (Rc Record Global)) → IsSaidAt ask others trees turn call levels w v
    → IfSome (slice_get trees turn)
    (λ t. 0 < t.size → values_of now ≡ values_of rs ++ part_of (suc turn - t.size) (suc turn - (suc turn - t.size)) others)
    → AllHold ask rs → AllHold ask now
taken_hold ask others trees turn levels call w v rs now said more h =
    let Adds : Tree → Type 0 = λ t. 0 < t.size → values_of now ≡ values_of rs ++ part_of (suc turn - t.size) (suc turn - (suc turn - t.size)) others in
    let added = at_item Adds (slice_get trees turn) said.tree said.here more (omega (arith, said.at.size_is)) in
    hold_taken ask others turn said.tree.size w said.at rs now said.hold added h

-- each record goes along the plan of its call
pub lasts : (r : Record) → IsTrue same_ref (kept_in r)
lasts r = truly sets same_ref (kept_in r) r.lasting
