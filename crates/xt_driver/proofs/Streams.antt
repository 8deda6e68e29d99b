-- The streams from one on, and streams without messages.
use Rattle.std.proofs.Common.{◌≡◌, ℕ, ◌-◌, List, [], Option, Result, Ok, Err, length, drop, take, sym, ap, ◌∙◌, arith, length-drop}
use Rattle.std.proofs.lemmas.List.{drop-map, take_all}
use Rattle.std.specs.Prelude.{Box, IfOk}
use Rattle.std.specs.declared.rc.Rc.{Rc}
use Rattle.std.specs.declared.alloc.Global.{Global}
use Rattle.spec_meaning.specs.Stream.{Stream}
use Rattle.spec_result.specs.Recovery.{messages_of}
use Rattle.xt_tree.specs.declared.items.Items.{Items}
use Rattle.xt_tree.specs.StreamView.{stream_of, streams_of}
use Rattle.xt_result.specs.Silent.{all_messages}
use Rattle.xt_result.proofs.Silent.{silent_more}
use Rattle.xt_engine.specs.declared.turn.Entered.{Entered}
use Rattle.xt_text.specs.declared.memory.Memory.{Memory}
use Rattle.xt_driver.specs.declared.came.Outcome.{Outcome}
use Rattle.xt_driver.specs.View.{outcome_of, IsStreamed}

pub streams_from : (xs : List (Rc Items Global)) (n : ℕ) → drop n (streams_of xs) ≡ streams_of (take (length xs - n) (drop n xs))
streams_from xs n =
    let long = length-drop n xs in
    drop-map (λ (p : Rc Items Global). stream_of p.value) n xs ∙ ap streams_of (sym (take_all (length xs - n) (drop n xs) (omega (arith, long))))

-- where no stream has a message, nor what came, none has one with it
pub silent_streamed : (e : Option Entered) (came : Result (Box Outcome Global) Memory) (before after : List Stream) → IsStreamed e came before after
    → all_messages before ≡ [] → IfOk came (λ o. messages_of (outcome_of o.value).content ≡ []) → all_messages after ≡ []
silent_streamed e (Ok o) before after is none own =
    ap (λ (ss : List Stream). all_messages ss) is.streams ∙ silent_more before (outcome_of o.value).content none own
silent_streamed e (Err memory) before after is none own = absurd is
