-- How far a tree has grown, one event after the other.
use Rattle.std.proofs.Common.{◌≡◌, ℕ, suc, ◌+◌, ◌-◌, ◌≤◌, List, [], ◌∷◌, ◌++◌, map, length, reverse, slice_get, Some, refl, sym, ap, subst, ◌∙◌, append_assoc, length-append, arith}
use Rattle.std.proofs.lemmas.List.{map-append, reverse-append}
use Rattle.std.specs.declared.rc.Rc.{Rc}
use Rattle.std.specs.declared.alloc.Global.{Global}
use Rattle.spec_meaning.specs.Stream.{Stream, filled}
use Rattle.spec_meaning.specs.Question.{Question, Answer}
use Rattle.spec_run.specs.Plan.{Call}
use Rattle.spec_run.specs.Going.{Event, Asked, Entered}
use Rattle.spec_run.specs.Trail.{Kept, IsTrue}
use Rattle.spec_reuse.specs.Serving.{IsOf}
use Rattle.spec_reuse.specs.Record.{none, ran, records_in, streams_in}
use Rattle.spec_trees.specs.Tree.{SaysAlong}
use Rattle.spec_trees.proofs.Growing.{grown_end, grown_asked, grown_entered, grown_levels, grown_whole}
use Rattle.spec_node.specs.declared.node_ref.NodeRef.{NodeRef}
use Rattle.spec_node.specs.Naming.{same_ref}
use Rattle.xt_tree.specs.StreamView.{stream_of, streams_of}
use Rattle.xt_tree.specs.declared.items.Items.{Items}
use Rattle.xt_touch.specs.Named.{Covers, AreCovered}
use Rattle.xt_record.specs.View.{kept_in}
use Rattle.xt_record.specs.Grown.{AllNamed, AsksNamed, IsTreeAt}
use Rattle.xt_record.specs.Reached.{IsReached, Reaches}
use Rattle.xt_record.specs.declared.reach.Reach.{Reach}
use Rattle.xt_record.specs.declared.record.Record.{Record}
use Rattle.xt_record.specs.declared.tree.Summary.{Summary}
use Rattle.xt_record.proofs.Chaining.{some_is}
use Rattle.xt_record.proofs.Grown.{own_at, same_front}
use Rattle.xt_record.proofs.Naming.{all_named_both, all_named_more, named_more}

-- nothing is behind the end
reached_end : (vs : List Record) (reach : Reach) → reach.end ≡ length vs → reach.parts.items ≡ [] → IsReached vs [] reach
reached_end vs reach end parts = record {
  front = vs;
  tail = [];
  parts = sym (append_nil vs);
  ends = sym end;
  runs = none;
  records = refl;
  content = ap (λ (xs : List (Rc Items Global)). reverse (streams_of xs)) (sym parts);
  own = tt;
  named = tt;
  says = grown_end same_ref reach.levels;
}
  where
    append_nil : (xs : List Record) → xs ++ [] ≡ xs
    append_nil [] = refl
    append_nil (x ∷ xs) = ap (λ (ys : List Record). x ∷ ys) (append_nil xs)

pub reached_none : (vs : List Record) (es : List (Event NodeRef)) (reach : Reach) → es ≡ [] → reach.end ≡ length vs → reach.parts.items ≡ []
    → IsReached vs es reach
reached_none vs es reach is end parts =
    let P : List (Event NodeRef) → Type 0 = λ xs. IsReached vs xs reach in subst P (sym is) (reached_end vs reach end parts)

-- a question
reached_asked : (vs : List Record) (es : List (Event NodeRef)) (question : Question NodeRef) (answer : Answer NodeRef) (before after : Reach)
    → after.end ≡ before.end → after.parts ≡ before.parts → after.levels ≡ before.levels → Covers after.named question
    → AreCovered before.named after.named → IsReached vs es before → IsReached vs (Asked question answer ∷ es) after
reached_asked vs es question answer before after end parts levels covers more h = record {
  front = h.front;
  tail = h.tail;
  parts = h.parts;
  ends = h.ends ∙ sym end;
  runs = h.runs;
  records = h.records;
  content = h.content ∙ ap (λ x. reverse (streams_of x.items)) (sym parts);
  own = (covers, named_more before.named after.named more es h.own);
  named = all_named_more before.named after.named more h.tail h.named;
  says = grown_asked same_ref question answer es h.runs after.levels
      (subst (λ n. SaysAlong same_ref es h.runs n) (sym levels) h.says);
}

pub reaches_asked : (vs : List Record) (e : Event NodeRef) (question : Question NodeRef) (answer : Answer NodeRef) (before after : Reach)
    → e ≡ Asked question answer → after.end ≡ before.end → after.parts ≡ before.parts → after.levels ≡ before.levels
    → Covers after.named question → AreCovered before.named after.named → Reaches vs e before after
reaches_asked vs e question answer before after is end parts levels covers more =
    let P : Event NodeRef → Type 0 = λ x. Reaches vs x before after in
    subst P (sym is) (λ es h. reached_asked vs es question answer before after end parts levels covers more h)

-- the tree of a call
module _ (vs : List Record) (es : List (Event NodeRef)) (call : Call NodeRef) (depth turn size : ℕ) (w : Summary) (v : Record) (before after : Reach) where
  pub reached_entered : (p : Rc Items Global) → IsTreeAt vs turn size w → slice_get vs turn ≡ Some v → IsOf call (kept_in v)
      → suc turn ≡ before.end → after.end ≡ before.end - size → after.parts.items ≡ before.parts.items ++ p ∷ []
      → stream_of p.value ≡ stream_of w.content.value → AreCovered before.named after.named → AreCovered w.named after.named
      → before.levels ≤ after.levels → suc (depth + w.levels) ≤ after.levels → IsReached vs es before
      → IsReached vs (Entered call depth ∷ es) after
  reached_entered p t here of at end parts same more covered levels room h =
      let whole : vs ≡ (t.before ++ t.below) ++ t.own ∷ t.after = t.parts ∙ sym (append_assoc t.before t.below (t.own ∷ t.after)) in
      let place : length (t.before ++ t.below) ≡ turn = length-append t.before t.below ∙ t.turn_is in
      let own_here : slice_get vs turn ≡ Some t.own = own_at vs t.before t.below t.after t.own turn whole t.turn_is in
      let own : v ≡ t.own = some_is (sym here ∙ own_here) in
      let front = (t.before ++ t.below) ++ t.own ∷ [] in
      let many : length front ≡ length h.front =
      length-append (t.before ++ t.below) (t.own ∷ []) ∙ omega (arith, place, at, h.ends) in
      let parted : front ++ t.after ≡ h.front ++ h.tail =
      append_assoc (t.before ++ t.below) (t.own ∷ []) t.after ∙ sym whole ∙ h.parts in
      let rest : t.after ≡ h.tail = same_front front t.after h.front h.tail many parted in
      let k = kept_in t.own in
      let below = t.whole.runs in
      let records : records_in below ++ k ∷ records_in h.runs ≡ map kept_in (t.below ++ t.own ∷ t.after) =
      ap (λ (ks : List (Kept NodeRef)). ks ++ k ∷ records_in h.runs) t.whole.records
      ∙ ap (λ (ks : List (Kept NodeRef)). map kept_in t.below ++ k ∷ ks) (h.records ∙ ap (λ (xs : List Record). map kept_in xs) (sym rest))
      ∙ sym (map-append kept_in t.below (t.own ∷ t.after)) in
      let streams : filled k.content (streams_in below) ∷ streams_in h.runs ≡ reverse (streams_of after.parts.items) =
      ap (λ (x : Stream). x ∷ streams_in h.runs) (sym t.whole.content ∙ sym same) ∙ ap (λ (xs : List Stream). stream_of p.value ∷ xs) h.content
      ∙ sym (reverse-append (streams_of before.parts.items) (stream_of p.value ∷ []))
      ∙ ap (λ (xs : List Stream). reverse xs) (sym (map-append (λ (x : Rc Items Global). stream_of x.value) before.parts.items (p ∷ [])))
      ∙ ap (λ (xs : List (Rc Items Global)). reverse (streams_of xs)) (sym parts) in
      record {
        front = t.before;
        tail = t.below ++ t.own ∷ t.after;
        parts = t.parts;
        ends = omega (arith, t.turn_is, t.size_is, at, end);
        runs = ran k below h.runs;
        records = records;
        content = streams;
        own = named_more before.named after.named more es h.own;
        named = all_named_both after.named t.below (t.own ∷ t.after) (all_named_more w.named after.named covered t.below t.whole.named) (
          named_more w.named after.named covered k.trace t.whole.own,
          subst (λ (xs : List Record). AllNamed after.named xs) (sym rest) (all_named_more before.named after.named more h.tail h.named),
        );
        says = grown_entered same_ref call depth es k below h.runs w.levels after.levels t.whole.says
            (subst (λ (x : Record). IsOf call (kept_in x)) own of) room (grown_levels same_ref es h.runs before.levels after.levels levels h.says);
      }

-- the whole way
pub reached_whole : (vs : List Record) (v : Record) (mark count : ℕ) (w : Summary) (reach : Reach) → reach.end ≡ mark → count ≡ length vs
    → stream_of w.content.value ≡ filled (kept_in v).content (reverse (streams_of reach.parts.items)) → w.named ≡ reach.named
    → w.levels ≡ reach.levels → (kept_in v).height ≤ reach.levels → IsTrue same_ref (kept_in v) → IsReached vs (kept_in v).trace reach
    → IsTreeAt (vs ++ v ∷ []) count (suc (count - mark)) w
reached_whole vs v mark count w reach end many content named levels height lasting h =
    let k = kept_in v in
    let both : length vs ≡ length h.front + length h.tail = ap (λ (xs : List Record). length xs) h.parts ∙ length-append h.front h.tail in
    record {
      before = h.front;
      below = h.tail;
      after = [];
      own = v;
      parts = ap (λ (xs : List Record). xs ++ v ∷ []) h.parts ∙ append_assoc h.front h.tail (v ∷ []);
      turn_is = omega (arith, both, many);
      size_is = omega (arith, both, many, h.ends, end);
      whole = record {
        runs = h.runs;
        records = h.records;
        content = content ∙ ap (λ (xs : List Stream). filled k.content xs) (sym h.content);
        own = subst (λ n. AsksNamed n k.trace) (sym named) h.own;
        named = subst (λ n. AllNamed n h.tail) (sym named) h.named;
        says = grown_whole same_ref k h.runs w.levels lasting (omega (arith, height, levels))
            (subst (λ n. SaysAlong same_ref k.trace h.runs n) (sym levels) h.says);
      };
    }

-- the streams of a list that is turned round
pub streams_reversed : (xs : List (Rc Items Global)) → streams_of (reverse xs) ≡ reverse (streams_of xs)
streams_reversed [] = refl
streams_reversed (x ∷ xs) =
    let stream : Rc Items Global → Stream = λ y. stream_of y.value in
    ap (λ (ys : List (Rc Items Global)). streams_of ys) (reverse-append (x ∷ []) xs) ∙ map-append stream (reverse xs) (x ∷ [])
    ∙ ap (λ (ss : List Stream). ss ++ stream x ∷ []) (streams_reversed xs) ∙ sym (reverse-append (stream x ∷ []) (streams_of xs))
