-- There are as many holes as were entered.
use Rattle.std.proofs.Common.{◌≡◌, ◌+◌, Bool, List, [], ◌∷◌, refl, sym, ap, ◌∙◌, arith}
use Rattle.spec_meaning.specs.Stream.{Stream, Ended, Hole, filled, holes}
use Rattle.spec_run.specs.Plan.{Plan, aside_of}
use Rattle.spec_run.specs.Direct.{Ending}
use Rattle.spec_run.specs.Going.{Event, Asked, Saw, Entered, Held, Going, closed}
use Rattle.spec_run.specs.Trail.{Kept, IsTrue, Trail, finishes, gives, asks, uses, puts, begins, wraps, takes, deepens, enters}
use Rattle.spec_run.proofs.Streams.{no_holes}
use Rattle.spec_run.proofs.Cuts.{closed_holes, wrapped_holes, aside_holes}
use Rattle.spec_node.specs.declared.node_ref.NodeRef.{NodeRef}
use Rattle.std.specs.declared.rc.Rc.{Rc}
use Rattle.std.specs.declared.alloc.Global.{Global}
use Rattle.std.specs.Prelude.{length}
use Rattle.spec_run.proofs.Streams.{filled_none}
use Rattle.xt_tree.specs.declared.items.Items.{Items}
use Rattle.xt_tree.specs.StreamView.{streams_of}
use Rattle.xt_record.specs.Reached.{entered_in}

trail_holes : {p : Plan NodeRef} {g h : Going NodeRef} {es : List (Event NodeRef)} {e : Ending NodeRef} → Trail p g es h e
    → holes (closed h) ≡ holes (closed g) + entered_in es
trail_holes finishes = omega arith
trail_holes gives = omega arith
trail_holes (asks t) = trail_holes t
trail_holes (uses t) = trail_holes t
trail_holes {g = g} (puts {items = items} t) =
    let i = trail_holes t in
    let more = closed_holes g.outer g.top (filled items []) in
    let no_more = no_holes items in
    omega (arith, i, more, no_more)
trail_holes {g = g} (begins t) =
    let i = trail_holes t in
    let more = closed_holes g.outer g.top (aside_of Ended) in
    let no_more : holes (aside_of Ended) ≡ 0 = refl in
    omega (arith, i, more, no_more)
trail_holes {g = g} (wraps {how = how} {es = es} t) = trail_holes t ∙ ap (λ n. n + entered_in es) (wrapped_holes how g.top g.outer)
trail_holes {g = g} (takes {es = es} k t) = trail_holes t ∙ ap (λ n. n + entered_in es) (aside_holes g.top g.outer)
trail_holes (deepens t) = trail_holes t
trail_holes {g = g} (enters s t) =
    let i = trail_holes t in
    let more = closed_holes g.outer g.top (Hole Ended) in
    omega (arith, i, more)

pub true_holes : (same : NodeRef → NodeRef → Bool) (k : Kept NodeRef) → IsTrue same k → holes k.content ≡ entered_in k.trace
true_holes same k h =
    let i = trail_holes h.trail in
    let content : k.content ≡ closed h.last = ap (λ (x : Kept NodeRef). x.content) h.is in
    let so = ap holes content in
    omega (arith, i, so)

pub entered_first : (e : Event NodeRef) (es : List (Event NodeRef)) → entered_in (e ∷ es) ≡ entered_in (e ∷ []) + entered_in es
entered_first (Asked q a) es = omega arith
entered_first (Saw w d l x) es = omega arith
entered_first (Entered c d) es = omega arith
entered_first (Held j xs) es = omega arith

-- one with no holes and no parts for them is as it stands
pub filled_with_none : (s : Stream) (xs : List (Rc Items Global)) → holes s ≡ length xs → length xs ≡ 0 → s ≡ filled s (streams_of xs)
filled_with_none s [] e none = sym (filled_none s (omega (arith, e, none)))
filled_with_none s (x ∷ xs) e none = absurd (omega (arith, none))
