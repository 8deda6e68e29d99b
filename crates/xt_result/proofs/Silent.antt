-- A stream without messages that is filled with parts without messages has none.
use Rattle.std.proofs.Common.{◌≡◌, ℕ, zero, suc, List, [], ◌∷◌, ◌++◌, drop, reverse, refl, ap, ◌∙◌}
use Rattle.std.proofs.lemmas.List.{reverse-append}
use Rattle.spec_meaning.specs.Stream.{Stream, Ended, Element, Nameless, Attribute, Namespace, Text, Comment, Instruction, Message, Hole, filled, first_of, holes}
use Rattle.spec_result.specs.Recovery.{messages_of}
use Rattle.xt_result.proofs.Streams.{messages_of-followed, none_first}
use Rattle.xt_result.specs.Silent.{all_messages}

none_rest : {X : Type 0} (xs ys : List X) → xs ++ ys ≡ [] → ys ≡ []
none_rest [] ys e = e
none_rest (x ∷ xs) ys e = absurd (cc)

none_between : {X : Type 0} (xs : List X) (y : X) (ys : List X) → xs ++ y ∷ ys ≡ [] → ⊥
none_between [] y ys e = absurd (cc)
none_between (x ∷ xs) y ys e = absurd (cc)

none_both : {X : Type 0} {xs ys : List X} → xs ≡ [] → ys ≡ [] → xs ++ ys ≡ []
none_both e f = λ i. e i ++ f i

-- ---- Several streams

silent_first : (ps : List Stream) → all_messages ps ≡ [] → messages_of (first_of ps) ≡ []
silent_first [] k = refl
silent_first (p ∷ ps) k = none_first (messages_of p) (all_messages ps) k

silent_drop : (n : ℕ) (ps : List Stream) → all_messages ps ≡ [] → all_messages (drop n ps) ≡ []
silent_drop zero ps k = k
silent_drop (suc n) [] k = refl
silent_drop (suc n) (p ∷ ps) k = silent_drop n ps (none_rest (messages_of p) (all_messages ps) k)

pub silent_more : (ss : List Stream) (s : Stream) → all_messages ss ≡ [] → messages_of s ≡ [] → all_messages (ss ++ s ∷ []) ≡ []
silent_more [] s k h = none_both h refl
silent_more (x ∷ ss) s k h =
    none_both (none_first (messages_of x) (all_messages ss) k) (silent_more ss s (none_rest (messages_of x) (all_messages ss) k) h)

pub silent_reverse : (ss : List Stream) → all_messages ss ≡ [] → all_messages (reverse ss) ≡ []
silent_reverse [] k = refl
silent_reverse (x ∷ ss) k =
    ap all_messages (reverse-append (x ∷ []) ss)
    ∙ silent_more (reverse ss) x (silent_reverse ss (none_rest (messages_of x) (all_messages ss) k)) (none_first (messages_of x) (all_messages ss) k)

-- ---- One that is filled

-- what stands in an item, and what is behind it
silent_two : (c r : Stream) (ps : List Stream) → messages_of c ++ messages_of r ≡ [] → all_messages ps ≡ []
    → (messages_of c ≡ [] → messages_of (filled c ps) ≡ [])
    → ((qs : List Stream) → messages_of r ≡ [] → all_messages qs ≡ [] → messages_of (filled r qs) ≡ [])
    → messages_of (filled c ps) ++ messages_of (filled r (drop (holes c) ps)) ≡ []
silent_two c r ps h k inside behind =
    none_both (inside (none_first (messages_of c) (messages_of r) h))
    (behind (drop (holes c) ps) (none_rest (messages_of c) (messages_of r) h) (silent_drop (holes c) ps k))

pub silent_filled : (s : Stream) (ps : List Stream) → messages_of s ≡ [] → all_messages ps ≡ [] → messages_of (filled s ps) ≡ []
silent_filled Ended ps h k = refl
silent_filled (Element n u ns c r) ps h k = silent_two c r ps h k (λ e. silent_filled c ps e k) (λ qs e j. silent_filled r qs e j)
silent_filled (Nameless c r) ps h k = silent_two c r ps h k (λ e. silent_filled c ps e k) (λ qs e j. silent_filled r qs e j)
silent_filled (Attribute n u c r) ps h k = silent_two c r ps h k (λ e. silent_filled c ps e k) (λ qs e j. silent_filled r qs e j)
silent_filled (Comment c r) ps h k = silent_two c r ps h k (λ e. silent_filled c ps e k) (λ qs e j. silent_filled r qs e j)
silent_filled (Instruction t c r) ps h k = silent_two c r ps h k (λ e. silent_filled c ps e k) (λ qs e j. silent_filled r qs e j)
silent_filled (Message c r) ps h k = absurd (none_between (messages_of c) _ (messages_of r) h)
silent_filled (Namespace p u r) ps h k = silent_filled r ps h k
silent_filled (Text t r) ps h k = silent_filled r ps h k
silent_filled (Hole r) ps h k =
    messages_of-followed (first_of ps) (filled r (drop 1 ps)) ∙ none_both (silent_first ps k) (silent_filled r (drop 1 ps) h (silent_drop 1 ps k))
