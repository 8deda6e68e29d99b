-- Streams one by one.
use Rattle.std.proofs.Common.{◌≡◌, ℕ, zero, suc, ◌<◌, List, [], ◌∷◌, ◌++◌, length, get_or, Bool, true, false, sym, ap, ◌∙◌, arith}
use Rattle.std.proofs.lemmas.List.{map-append}
use Rattle.std.specs.declared.rc.Rc.{Rc}
use Rattle.std.specs.declared.alloc.Global.{Global}
use Rattle.spec_meaning.specs.Stream.{Stream, Ended, holes}
use Rattle.xt_tree.specs.declared.items.Items.{Items}
use Rattle.xt_tree.specs.StreamView.{stream_of, streams_of}
use Rattle.spec_result.specs.Recovery.{messages_of}
use Rattle.xt_result.specs.Silent.{all_messages}
use Rattle.xt_result.proofs.Silent.{silent_more}
use Rattle.xt_record.specs.View.{AreWhole}

abbrev first_or : List Stream → Stream
first_or [] = Ended
first_or (x ∷ xs) = x

abbrev others : List Stream → List Stream
others [] = []
others (x ∷ xs) = xs

same_at : (xs ys : List (Rc Items Global)) (n : ℕ) (x y : Rc Items Global) → n < length xs → n < length ys → streams_of xs ≡ streams_of ys
    → stream_of (get_or xs n x).value ≡ stream_of (get_or ys n y).value
same_at [] ys n x y l m e = absurd (omega (arith, l))
same_at (u ∷ xs) [] n x y l m e = absurd (omega (arith, m))
same_at (u ∷ xs) (v ∷ ys) zero x y l m e = ap first_or e
same_at (u ∷ xs) (v ∷ ys) (suc n) x y l m e = same_at xs ys n x y (omega (arith, l)) (omega (arith, m)) (ap others e)

whole_at : (xs : List (Rc Items Global)) (n : ℕ) (x : Rc Items Global) → n < length xs → AreWhole (streams_of xs) → holes (stream_of (get_or xs n x).value) ≡ 0
whole_at [] n x l h = absurd (omega (arith, l))
whole_at (u ∷ xs) zero x l h = h.0
whole_at (u ∷ xs) (suc n) x l h = whole_at xs n x (omega (arith, l)) h.1

-- where the streams at one place differ, the streams differ
pub not_same : (xs ys : List (Rc Items Global)) (n : ℕ) (x y : Rc Items Global) (b : Bool) → n < length xs → n < length ys
    → x ≡ get_or xs n x → y ≡ get_or ys n y → b ≡ false
    → (holes (stream_of x.value) ≡ 0 → stream_of x.value ≡ stream_of y.value → b ≡ true)
    → AreWhole (streams_of xs) → streams_of xs ≡ streams_of ys → false ≡ true
not_same xs ys n x y b l m e f differs holds whole same =
    let S : Rc Items Global → Stream = λ r. stream_of r.value in
    let one = ap (λ r. holes (S r)) e ∙ whole_at xs n x l whole in
    let both = ap S e ∙ same_at xs ys n x y l m same ∙ ap S (sym f) in
    sym differs ∙ holds one both

-- where no stream has a message, none has one with another that has none
pub silent_pushed : (ps now : List (Rc Items Global)) (p : Rc Items Global) → now ≡ ps ++ p ∷ [] → all_messages (streams_of ps) ≡ []
    → messages_of (stream_of p.value) ≡ [] → all_messages (streams_of now) ≡ []
silent_pushed ps now p is none own =
    ap (λ (xs : List (Rc Items Global)). all_messages (streams_of xs)) is
    ∙ ap (λ (ss : List Stream). all_messages ss) (map-append (λ (x : Rc Items Global). stream_of x.value) ps (p ∷ []))
    ∙ silent_more (streams_of ps) (stream_of p.value) none own
