-- What a call means has no holes.
use Rattle.std.proofs.Common.{◌≡◌, ap, ℕ, zero, suc, ◌≤◌, List, [], ◌∷◌, Bool, true, false, cond, refl, ◌∙◌, arith}
use Rattle.std.specs.Prelude.{nat_lt}
use Rattle.spec_stylesheet.specs.Place.{Place}
use Rattle.spec_meaning.specs.Stream.{Stream, Ended, Element, Nameless, Attribute, Namespace, Text, Comment, Instruction, Message, Hole, followed, filled, holes}
use Rattle.spec_meaning.specs.Question.{Question, Answer}
use Rattle.spec_meaning.specs.Program.{Wanted, Given}
use Rattle.spec_run.specs.Plan.{Call, wrapped, aside_of, Plan, End, Yield, Stop, Inquire, Use, Put, Begin, Wrap, Take, Deep, Enter}
use Rattle.spec_run.specs.Direct.{quiet, Supplied, Known, Failed, Ending, Finished, Gave, Halted, Outcome, top_after, outer_after, closed_in, ends, if_known, unless_refused, too_deep, direct}
use Rattle.spec_run.specs.Content.{plan_of}
use Rattle.spec_run.specs.Meaning.{Setting, Past, supplied, referred, settled, meaning}
use Rattle.xt_driver.proofs.Owns.{holes_put, holes_begun, holes_wrap, holes_aside, holes_more}

quiet_less : (s : Stream) → holes (quiet s) ≤ holes s
quiet_less Ended = omega arith
quiet_less (Element n u ns k r) = let i = quiet_less k in let j = quiet_less r in omega (arith, i, j)
quiet_less (Nameless k r) = let i = quiet_less k in let j = quiet_less r in omega (arith, i, j)
quiet_less (Attribute n u k r) = let i = quiet_less k in let j = quiet_less r in omega (arith, i, j)
quiet_less (Comment k r) = let i = quiet_less k in let j = quiet_less r in omega (arith, i, j)
quiet_less (Instruction t k r) = let i = quiet_less k in let j = quiet_less r in omega (arith, i, j)
quiet_less (Message k r) = let j = quiet_less r in omega (arith, j)
quiet_less (Namespace p u r) = quiet_less r
quiet_less (Text t r) = quiet_less r
quiet_less (Hole r) = let j = quiet_less r in omega (arith, j)

-- what has no holes has none without its messages
pub quiet_whole : (s t : Stream) → t ≡ quiet s → holes s ≡ 0 → holes t ≡ 0
quiet_whole s t e h =
    let less = quiet_less s in
    let none : holes (quiet s) ≡ 0 = omega (arith, less, h) in
    ap holes e ∙ none

direct_whole : {N : Type 0} (ask : Question N → Answer N) (supply : Wanted → ℕ → Place → Supplied N) (nested : ℕ → Call N → Outcome N) (room : ℕ)
    → ((d : ℕ) (c : Call N) → holes (nested d c).content ≡ 0) → (p : Plan N) (top : Stream) (outer : List Stream)
    → holes (closed_in top outer) ≡ 0 → holes (direct ask supply nested room p top outer).content ≡ 0
direct_whole ask supply nested room n End top outer h = h
direct_whole ask supply nested room n (Yield v) top outer h = h
direct_whole ask supply nested room n (Stop why) top outer h = h
direct_whole ask supply nested room n (Inquire q next) top outer h = direct_whole ask supply nested room n (next (ask q)) top outer h
direct_whole {N = N} ask supply nested room n (Use w d l next) top outer h = go (supply w d l) (λ v. direct_whole ask supply nested room n (next v) top outer h)
  where
    go : (x : Supplied N) → ((v : Given N) → holes (direct ask supply nested room (next v) top outer).content ≡ 0)
        → holes (if_known (λ v. direct ask supply nested room (next v) top outer) top outer x).content ≡ 0
    go (Known v) f = f v
    go (Failed why) f = h
direct_whole ask supply nested room n (Put items next) top outer h = direct_whole ask supply nested room n next (followed top (filled items [])) outer (holes_put items top outer ∙ h)
direct_whole ask supply nested room n (Begin next) top outer h = direct_whole ask supply nested room n next Ended (top ∷ outer) (holes_begun top outer ∙ h)
direct_whole ask supply nested room n (Wrap how next) top outer h =
    direct_whole ask supply nested room n next (top_after (wrapped how top) top outer) (outer_after outer) (holes_wrap how top outer ∙ h)
direct_whole ask supply nested room n (Take next) top outer h =
    direct_whole ask supply nested room n (next (quiet top)) (top_after (aside_of top) top outer) (outer_after outer) (holes_aside top outer ∙ h)
direct_whole ask supply nested room n (Deep d l next) top outer h = go (nat_lt room d) (direct_whole ask supply nested room n next top outer h)
  where
    go : (b : Bool) → holes (direct ask supply nested room next top outer).content ≡ 0
        → holes (cond b (ends top outer (Halted (too_deep l))) (direct ask supply nested room next top outer)).content ≡ 0
    go true f = h
    go false f = f
direct_whole {N = N} ask supply nested room n (Enter c d next) top outer h =
    let k = holes_more top (nested d c).content outer (n d c) ∙ h in
    go (nested d c).ending k (direct_whole ask supply nested room n next (followed top (nested d c).content) outer k)
  where
    go : (x : Ending N) → holes (closed_in (followed top (nested d c).content) outer) ≡ 0 → holes (direct ask supply nested room next (followed top (nested d c).content) outer).content ≡ 0
        → holes (unless_refused (direct ask supply nested room next (followed top (nested d c).content) outer) (followed top (nested d c).content) outer x).content ≡ 0
    go Finished k f = f
    go (Gave v) k f = f
    go (Halted why) k f = k

pub meaning_whole : {N : Type 0} (s : Setting N) (levels : ℕ) (past : Past N) (depth : ℕ) (c : Call N) → holes (meaning s levels past depth c).content ≡ 0
meaning_whole s zero past depth c = refl
meaning_whole s (suc room) past zero c =
    direct_whole s.ask (supplied c (referred s (meaning s room) past)) (λ depth inner. meaning s room past depth (settled c inner)) room
    (λ d inner. meaning_whole s room past d (settled c inner)) (plan_of s.same c) Ended [] refl
meaning_whole s (suc room) past (suc depth) c = meaning_whole s room past depth c
