-- Sinks on a stack, and steps of a run.
use Rattle.std.proofs.Common.{◌≡◌, ◌∙◌, refl, sym, ap, ℕ, ◌-◌, List, [], ◌∷◌, ◌++◌, take, drop, length, Global}
use Rattle.std.specs.declared.rc.Rc.{Rc}
use Rattle.std.proofs.Math.Seq.{take-length}
use Rattle.std.proofs.lemmas.List.{drop-map, length-drop}
use Rattle.spec_meaning.specs.Stream.{Stream, Ended, followed}
use Rattle.spec_run.specs.Plan.{Wrapping, wrapped, aside_of}
use Rattle.spec_run.specs.Direct.{top_after, outer_after, closed_in}
use Rattle.spec_run.specs.Going.{Going, put, wrap}
use Rattle.xt_tree.specs.declared.items.Items.{Items}
use Rattle.xt_tree.specs.StreamView.{stream_of, streams_of}
use Rattle.xt_tree.proofs.Streams.{followed-Ended}
use Rattle.xt_progress.specs.View.{stacked}

-- the innermost goes first
pub stacked_more : (ss : List Items) (s : Items) (around : List Stream) → stacked (ss ++ s ∷ []) around ≡ stream_of s ∷ stacked ss around
stacked_more [] s around = refl
stacked_more (t ∷ ss) s around = stacked_more ss s (stream_of t ∷ around)

-- where nothing is put, nothing is done
pub put_nothing : {N : Type 0} (g : Going N) → put Ended g ≡ g
put_nothing g = ap (λ s. record { top = s; outer = g.outer; trace = g.trace; height = g.height; streams = g.streams }) (followed-Ended g.top)

-- there is a sink around the innermost
pub wrapped_in : {N : Type 0} (how : Wrapping) (g : Going N) (o t : Stream) (os : List Stream) → g.outer ≡ o ∷ os → t ≡ followed o (wrapped how g.top)
    → (record { top = t; outer = os; trace = g.trace; height = g.height; streams = g.streams }) ≡ wrap how g
wrapped_in how g o t os e f =
    let top = f ∙ ap (top_after (wrapped how g.top) g.top) (sym e) in
    let around : os ≡ outer_after g.outer = ap outer_after (sym e) in
    λ i. record { top = top i; outer = around i; trace = g.trace; height = g.height; streams = g.streams }

pub closed_more : (ss : List Items) (s : Items) (top : Stream) → closed_in top (stacked (ss ++ s ∷ []) []) ≡ closed_in (followed (stream_of s) (aside_of top)) (stacked ss [])
closed_more ss s top = ap (closed_in top) (stacked_more ss s [])

-- streams that are shared from one on
pub shared_from : (streams slice : List (Rc Items Global)) (first n : ℕ) (held : List Stream) → held ≡ streams_of (take (length slice - first) (drop first slice)) → slice ≡ streams → first ≡ n
    → held ≡ drop n (streams_of streams)
shared_from streams slice first n held h e f =
    let whole = ap (λ m. streams_of (take m (drop first streams))) (sym (length-drop first streams)) ∙ ap streams_of (take-length (drop first streams)) in
    h ∙ ap (λ l. streams_of (take (length l - first) (drop first l))) e ∙ whole ∙ sym (drop-map (λ (p : Rc Items Global). stream_of p.value) first streams)
    ∙ ap (λ m. drop m (streams_of streams)) f
