-- Streams one after another, and their holes.
use Rattle.std.proofs.Common.{◌≡◌, ℕ, zero, suc, ◌+◌, ◌≤◌, List, [], ◌∷◌, ◌++◌, length, drop, refl, sym, ap, ◌∙◌, arith}
use Rattle.std.proofs.lemmas.List.{drop-append-le, length-drop}
use Rattle.spec_meaning.specs.Stream.{Stream, Ended, Element, Nameless, Attribute, Namespace, Text, Comment, Instruction, Message, Hole, followed, holes, filled}

pub followed_end : (s : Stream) → followed s Ended ≡ s
followed_end Ended = refl
followed_end (Element n u ns c r) = ap (Element n u ns c) (followed_end r)
followed_end (Nameless c r) = ap (Nameless c) (followed_end r)
followed_end (Attribute n u c r) = ap (Attribute n u c) (followed_end r)
followed_end (Comment c r) = ap (Comment c) (followed_end r)
followed_end (Instruction t c r) = ap (Instruction t c) (followed_end r)
followed_end (Message c r) = ap (Message c) (followed_end r)
followed_end (Namespace p u r) = ap (Namespace p u) (followed_end r)
followed_end (Text t r) = ap (Text t) (followed_end r)
followed_end (Hole r) = ap Hole (followed_end r)

pub followed_assoc : (a b c : Stream) → followed (followed a b) c ≡ followed a (followed b c)
followed_assoc Ended b c = refl
followed_assoc (Element n u ns k r) b c = ap (Element n u ns k) (followed_assoc r b c)
followed_assoc (Nameless k r) b c = ap (Nameless k) (followed_assoc r b c)
followed_assoc (Attribute n u k r) b c = ap (Attribute n u k) (followed_assoc r b c)
followed_assoc (Comment k r) b c = ap (Comment k) (followed_assoc r b c)
followed_assoc (Instruction t k r) b c = ap (Instruction t k) (followed_assoc r b c)
followed_assoc (Message k r) b c = ap (Message k) (followed_assoc r b c)
followed_assoc (Namespace p u r) b c = ap (Namespace p u) (followed_assoc r b c)
followed_assoc (Text t r) b c = ap (Text t) (followed_assoc r b c)
followed_assoc (Hole r) b c = ap Hole (followed_assoc r b c)

pub holes_followed : (a b : Stream) → holes (followed a b) ≡ holes a + holes b
holes_followed Ended b = omega arith
holes_followed (Element n u ns k r) b = let h = holes_followed r b in omega (arith, h)
holes_followed (Nameless k r) b = let h = holes_followed r b in omega (arith, h)
holes_followed (Attribute n u k r) b = let h = holes_followed r b in omega (arith, h)
holes_followed (Comment k r) b = let h = holes_followed r b in omega (arith, h)
holes_followed (Instruction t k r) b = let h = holes_followed r b in omega (arith, h)
holes_followed (Message k r) b = let h = holes_followed r b in omega (arith, h)
holes_followed (Namespace p u r) b = holes_followed r b
holes_followed (Text t r) b = holes_followed r b
holes_followed (Hole r) b = let h = holes_followed r b in omega (arith, h)

drop_none : (n : ℕ) → let none : List Stream = [] in drop n none ≡ none
drop_none zero = refl
drop_none (suc n) = refl

-- what is filled with nothing has none left
none_left : (k r : Stream) → holes (filled k []) ≡ 0 → holes (filled r []) ≡ 0 → holes (filled k []) + holes (filled r (drop (holes k) [])) ≡ 0
none_left k r h i = let j = ap (λ ps. holes (filled r ps)) (drop_none (holes k)) ∙ i in omega (arith, h, j)

pub no_holes : (s : Stream) → holes (filled s []) ≡ 0
no_holes Ended = refl
no_holes (Element n u ns k r) = none_left k r (no_holes k) (no_holes r)
no_holes (Nameless k r) = none_left k r (no_holes k) (no_holes r)
no_holes (Attribute n u k r) = none_left k r (no_holes k) (no_holes r)
no_holes (Comment k r) = none_left k r (no_holes k) (no_holes r)
no_holes (Instruction t k r) = none_left k r (no_holes k) (no_holes r)
no_holes (Message k r) = none_left k r (no_holes k) (no_holes r)
no_holes (Namespace p u r) = no_holes r
no_holes (Text t r) = no_holes r
no_holes (Hole r) = no_holes r

-- two parts of an item, by what makes the item of them
two : (K : Stream → Stream → Stream) {a b c d : Stream} → a ≡ c → b ≡ d → K a b ≡ K c d
two K {a = a} {d = d} e f = ap (K a) f ∙ ap (λ x. K x d) e

rest_of_none : (k r : Stream) → filled r [] ≡ r → filled r (drop (holes k) []) ≡ r
rest_of_none k r e = ap (filled r) (drop_none (holes k)) ∙ e

pub filled_none : (s : Stream) → holes s ≡ 0 → filled s [] ≡ s
filled_none Ended h = refl
filled_none (Element n u ns k r) h = two (Element n u ns) (filled_none k (omega (arith, h))) (rest_of_none k r (filled_none r (omega (arith, h))))
filled_none (Nameless k r) h = two Nameless (filled_none k (omega (arith, h))) (rest_of_none k r (filled_none r (omega (arith, h))))
filled_none (Attribute n u k r) h = two (Attribute n u) (filled_none k (omega (arith, h))) (rest_of_none k r (filled_none r (omega (arith, h))))
filled_none (Comment k r) h = two Comment (filled_none k (omega (arith, h))) (rest_of_none k r (filled_none r (omega (arith, h))))
filled_none (Instruction t k r) h = two (Instruction t) (filled_none k (omega (arith, h))) (rest_of_none k r (filled_none r (omega (arith, h))))
filled_none (Message k r) h = two Message (filled_none k (omega (arith, h))) (rest_of_none k r (filled_none r (omega (arith, h))))
filled_none (Namespace p u r) h = ap (Namespace p u) (filled_none r h)
filled_none (Text t r) h = ap (Text t) (filled_none r h)
filled_none (Hole r) h = absurd (omega (arith, h))

-- parts past those of the content go to what comes after it
rest_of_more : (k r : Stream) (ps qs : List Stream) → holes k ≤ length ps → (rest : Stream) → filled r (drop (holes k) ps ++ qs) ≡ rest → filled r (drop (holes k) (ps ++ qs)) ≡ rest
rest_of_more k r ps qs h rest e = ap (filled r) (drop-append-le (holes k) ps qs h) ∙ e

left_for_rest : (k r : Stream) (ps : List Stream) → holes k + holes r ≤ length ps → holes r ≤ length (drop (holes k) ps)
left_for_rest k r ps h = let d = length-drop (holes k) ps in omega (arith, h, d)

just_for_rest : (k r : Stream) (ps : List Stream) → length ps ≡ holes k + holes r → length (drop (holes k) ps) ≡ holes r
just_for_rest k r ps h = let d = length-drop (holes k) ps in omega (arith, h, d)

-- parts past the last hole count for nothing
pub filled_more : (s : Stream) (ps qs : List Stream) → holes s ≤ length ps → filled s (ps ++ qs) ≡ filled s ps
filled_more Ended ps qs h = refl
filled_more (Element n u ns k r) ps qs h =
    two (Element n u ns) (filled_more k ps qs (omega (arith, h))) (rest_of_more k r ps qs (omega (arith, h)) (filled r (drop (holes k) ps)) (filled_more r (drop (holes k) ps) qs (left_for_rest k r ps h)))
filled_more (Nameless k r) ps qs h =
    two Nameless (filled_more k ps qs (omega (arith, h))) (rest_of_more k r ps qs (omega (arith, h)) (filled r (drop (holes k) ps)) (filled_more r (drop (holes k) ps) qs (left_for_rest k r ps h)))
filled_more (Attribute n u k r) ps qs h =
    two (Attribute n u) (filled_more k ps qs (omega (arith, h))) (rest_of_more k r ps qs (omega (arith, h)) (filled r (drop (holes k) ps)) (filled_more r (drop (holes k) ps) qs (left_for_rest k r ps h)))
filled_more (Comment k r) ps qs h =
    two Comment (filled_more k ps qs (omega (arith, h))) (rest_of_more k r ps qs (omega (arith, h)) (filled r (drop (holes k) ps)) (filled_more r (drop (holes k) ps) qs (left_for_rest k r ps h)))
filled_more (Instruction t k r) ps qs h =
    two (Instruction t) (filled_more k ps qs (omega (arith, h))) (rest_of_more k r ps qs (omega (arith, h)) (filled r (drop (holes k) ps)) (filled_more r (drop (holes k) ps) qs (left_for_rest k r ps h)))
filled_more (Message k r) ps qs h =
    two Message (filled_more k ps qs (omega (arith, h))) (rest_of_more k r ps qs (omega (arith, h)) (filled r (drop (holes k) ps)) (filled_more r (drop (holes k) ps) qs (left_for_rest k r ps h)))
filled_more (Namespace p u r) ps qs h = ap (Namespace p u) (filled_more r ps qs h)
filled_more (Text t r) ps qs h = ap (Text t) (filled_more r ps qs h)
filled_more (Hole r) [] qs h = absurd (omega (arith, h))
filled_more (Hole r) (p ∷ ps) qs h = ap (followed p) (filled_more r ps qs (omega (arith, h)))

-- each with the parts of its own holes
pub filled_followed : (a b : Stream) (ps qs : List Stream) → length ps ≡ holes a → filled (followed a b) (ps ++ qs) ≡ followed (filled a ps) (filled b qs)
filled_followed Ended b [] qs h = refl
filled_followed Ended b (p ∷ ps) qs h = absurd (omega (arith, h))
filled_followed (Element n u ns k r) b ps qs h =
    two (Element n u ns) (filled_more k ps qs (omega (arith, h))) (rest_of_more k (followed r b) ps qs (omega (arith, h)) (followed (filled r (drop (holes k) ps)) (filled b qs)) (filled_followed r b (drop (holes k) ps) qs (just_for_rest k r ps h)))
filled_followed (Nameless k r) b ps qs h =
    two Nameless (filled_more k ps qs (omega (arith, h))) (rest_of_more k (followed r b) ps qs (omega (arith, h)) (followed (filled r (drop (holes k) ps)) (filled b qs)) (filled_followed r b (drop (holes k) ps) qs (just_for_rest k r ps h)))
filled_followed (Attribute n u k r) b ps qs h =
    two (Attribute n u) (filled_more k ps qs (omega (arith, h))) (rest_of_more k (followed r b) ps qs (omega (arith, h)) (followed (filled r (drop (holes k) ps)) (filled b qs)) (filled_followed r b (drop (holes k) ps) qs (just_for_rest k r ps h)))
filled_followed (Comment k r) b ps qs h =
    two Comment (filled_more k ps qs (omega (arith, h))) (rest_of_more k (followed r b) ps qs (omega (arith, h)) (followed (filled r (drop (holes k) ps)) (filled b qs)) (filled_followed r b (drop (holes k) ps) qs (just_for_rest k r ps h)))
filled_followed (Instruction t k r) b ps qs h =
    two (Instruction t) (filled_more k ps qs (omega (arith, h))) (rest_of_more k (followed r b) ps qs (omega (arith, h)) (followed (filled r (drop (holes k) ps)) (filled b qs)) (filled_followed r b (drop (holes k) ps) qs (just_for_rest k r ps h)))
filled_followed (Message k r) b ps qs h =
    two Message (filled_more k ps qs (omega (arith, h))) (rest_of_more k (followed r b) ps qs (omega (arith, h)) (followed (filled r (drop (holes k) ps)) (filled b qs)) (filled_followed r b (drop (holes k) ps) qs (just_for_rest k r ps h)))
filled_followed (Namespace p u r) b ps qs h = ap (Namespace p u) (filled_followed r b ps qs h)
filled_followed (Text t r) b ps qs h = ap (Text t) (filled_followed r b ps qs h)
filled_followed (Hole r) b [] qs h = absurd (omega (arith, h))
filled_followed (Hole r) b (p ∷ ps) qs h = ap (followed p) (filled_followed r b ps qs (omega (arith, h))) ∙ sym (followed_assoc p (filled r ps) (filled b qs))
