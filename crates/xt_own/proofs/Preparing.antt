-- What is spared before a run, and what is known of the rest still.
use Rattle.std.proofs.Common.{◌≡◌, inl, inr, Bool, true, false, not, List, [], ◌∷◌, ◌++◌, refl, sym, ◌∙◌, subst}
use Rattle.std.specs.Prelude.{ℕ, ◌||◌}
use Rattle.std.proofs.lemmas.Bool.{and_parts}
use Rattle.spec_document.specs.Forest.{Document}
use Rattle.spec_meaning.specs.Question.{Question}
use Rattle.spec_node.specs.declared.node_ref.NodeRef.{NodeRef}
use Rattle.spec_run.specs.Documents.{Parameters}
use Rattle.spec_touch.specs.Marks.{WorldChange, any_asks}
use Rattle.xt_touch.specs.View.{since_of}
use Rattle.xt_spared.specs.declared.spared.KeyThatStays.{KeyThatStays}
use Rattle.xt_spared.specs.View.{Agrees, Ask, IsAmong, IsSpared, KeysStay, Own, Spares, all_stay, by_itself, by_reads, is_key_among, owns_in, owns_of, stays}
use Rattle.xt_world.specs.View.{truth_in}
use Rattle.xt_world.specs.declared.stylesheet.Stylesheet.{Stylesheet}
use Rattle.xt_own.specs.Keys.{AgreeOn, AllKeys}
use Rattle.xt_own.specs.View.{AllDecide, Carries, IsDecided, IsWorld}
use Rattle.xt_own.specs.declared.own_reads.Prepared.{Prepared}

-- what stays is answered alike
same_if : {A : Type 0} (marked known : Bool) (a b : A) → (marked ≡ false → a ≡ b) → (known ≡ true → a ≡ b) → (not marked || known) ≡ true → a ≡ b
same_if false known a b unasked is h = unasked refl
same_if true true a b unasked is h = is refl
same_if true false a b unasked is h = absurd (cc)

one_stays : (was ask : Ask) (changes : List WorldChange) (names : List KeyThatStays) → Agrees was ask changes → KeysStay was ask names
    → (q : Question NodeRef) → stays changes names q ≡ true → ask q ≡ was q
one_stays was ask changes names agrees keys q h =
    same_if (any_asks changes q) (is_key_among names q) (ask q) (was q) (agrees q) (keys q) h

all_agree : (was ask : Ask) (changes : List WorldChange) (names : List KeyThatStays) → Agrees was ask changes → KeysStay was ask names
    → (qs : List (Question NodeRef)) → all_stay changes names qs ≡ true → AgreeOn ask was qs
all_agree was ask changes names agrees keys [] h = tt
all_agree was ask changes names agrees keys (q ∷ qs) h =
    let both = and_parts (stays changes names q) (all_stay changes names qs) h in
    (one_stays was ask changes names agrees keys q both.0, all_agree was ask changes names agrees keys qs both.1)

agree_through : (other ask was : Ask) (qs : List (Question NodeRef)) → AgreeOn other ask qs → AgreeOn ask was qs → AgreeOn other was qs
agree_through other ask was [] h k = tt
agree_through other ask was (q ∷ qs) h k = (h.0 ∙ k.0, agree_through other ask was qs h.1 k.1)

-- so does a world that answers as was answered
agree_back : (there ask was : Ask) (qs : List (Question NodeRef)) → ((q : Question NodeRef) → was q ≡ there q) → AgreeOn ask was qs → AgreeOn there ask qs
agree_back there ask was [] same h = tt
agree_back there ask was (q ∷ qs) same h = (sym (same q) ∙ sym h.0, agree_back there ask was qs same h.1)

one_decides : (s : Stylesheet) (was : Ask) (owns : List Own) (own : Own) → IsAmong own owns → AllDecide s was owns → IsDecided s was own
one_decides s was [] own among are = absurd among
one_decides s was (x ∷ xs) own (inl e) are = subst (IsDecided s was) (sym e) are.0
one_decides s was (x ∷ xs) own (inr among) are = one_decides s was xs own among are.1

-- what holds of those of the first and of those of the second holds of all
of_either : (P : Own → Type 0) (owns others : List Own) → ((own : Own) → IsAmong own owns → P own) → ((own : Own) → IsAmong own others → P own)
    → (own : Own) → IsAmong own (owns ++ others) → P own
of_either P [] others first second own among = second own among
of_either P (x ∷ owns) others first second own (inl e) = first own (inl e)
of_either P (x ∷ owns) others first second own (inr among) =
    of_either P owns others (λ own among. first own (inr among)) second own among

-- where choices were made now, a world was asked before
pub some_world : (s : Stylesheet) (was : Ask) (gathered : Bool) (made : List Own) → (gathered ≡ true → IsWorld s was) → (gathered ≡ false → made ≡ [])
    → (own : Own) → IsAmong own made → IsWorld s was
some_world s was true made world none own among = world refl
some_world s was false made world none own among = absurd (subst (λ (owns : List Own). IsAmong own owns) (none refl) among)

-- `owns` were made before, and `made` now
module _ (s : Stylesheet) (was : Ask) (parameters : Parameters) (document : Document ℕ) (changes : List WorldChange) (names : List KeyThatStays)
    (owns made : List Own) (agrees : Agrees was (truth_in s parameters document) changes) (keys : KeysStay was (truth_in s parameters document) names)
    (are : AllDecide s was owns) (now : AllDecide s (truth_in s parameters document) made) (world : (own : Own) → IsAmong own made → IsWorld s was) where
  agree : (own : Own) → all_stay changes names own.reads ≡ true → AgreeOn (truth_in s parameters document) was own.reads
  agree own h = all_agree was (truth_in s parameters document) changes names agrees keys own.reads h

  alike_before : (own : Own) → IsAmong own owns → all_stay changes names own.reads ≡ true → truth_in s parameters document own.question ≡ was own.question
  alike_before own among h = one_decides s was owns own among are parameters document (agree own h)

  alike_now : (own : Own) → IsAmong own made → all_stay changes names own.reads ≡ true → truth_in s parameters document own.question ≡ was own.question
  alike_now own among h =
      let ask = truth_in s parameters document in
      let w = world own among in
      let there = truth_in s w.parameters w.document in
      sym (one_decides s ask made own among now w.parameters w.document (agree_back there ask was own.reads w.answers (agree own h)))
      ∙ sym (w.answers own.question)

  spared_alike : (q : Question NodeRef) → IsSpared changes names (owns ++ made) q → truth_in s parameters document q ≡ was q
  spared_alike q (by_itself h) = one_stays was (truth_in s parameters document) changes names agrees keys q h
  spared_alike q (by_reads own among is h) =
      let ask = truth_in s parameters document in
      let P : Own → Type 0 = λ own. all_stay changes names own.reads ≡ true → ask own.question ≡ was own.question in
      subst (λ (q : Question NodeRef). ask q ≡ was q) is (of_either P owns made alike_before alike_now own among h)

  carried : (own : Own) → IsAmong own owns → all_stay changes names own.reads ≡ true → IsDecided s (truth_in s parameters document) own
  carried own among h = λ others other on.
      let ask = truth_in s parameters document in
      let stay = agree own h in
      let decides = one_decides s was owns own among are in
      decides others other (agree_through (truth_in s others other) ask was own.reads on stay) ∙ sym (decides parameters document stay)

-- what is prepared of these changes, keys that stay and choices
pub prepared : (p : Prepared) (s : Stylesheet) (was : Ask) (parameters : Parameters) (document : Document ℕ) (changes : List WorldChange) (names : List KeyThatStays)
    (owns made : List Own) → since_of p.spared.since.now ≡ changes → p.spared.keys.items ≡ names → owns_in p.spared.choices ≡ owns
    → owns_of p.spared.made_now ≡ made
    → Agrees was (truth_in s parameters document) changes → KeysStay was (truth_in s parameters document) names → AllDecide s was owns
    → AllDecide s (truth_in s parameters document) made → ((own : Own) → IsAmong own made → IsWorld s was)
    → AllKeys s (truth_in s parameters document) p.keys.items
    → Spares was (truth_in s parameters document) p.spared × Carries s (truth_in s parameters document) p
prepared p s was parameters document changes names owns made e f g m agrees keys are now world known =
    let ask = truth_in s parameters document in
    let agree = subst (Agrees was ask) (sym e) agrees in
    let stay = subst (KeysStay was ask) (sym f) keys in
    let decide = subst (AllDecide s was) (sym g) are in
    let decide_now = subst (AllDecide s ask) (sym m) now in
    let worlds = subst (λ (owns : List Own). (own : Own) → IsAmong own owns → IsWorld s was) (sym m) world in (
      spared_alike s was parameters document (since_of p.spared.since.now) p.spared.keys.items (owns_in p.spared.choices) (owns_of p.spared.made_now)
          agree stay decide decide_now worlds,
      record {
        choices = carried s was parameters document (since_of p.spared.since.now) p.spared.keys.items (owns_in p.spared.choices)
            (owns_of p.spared.made_now) agree stay decide decide_now worlds;
        keys = known;
      },
    )
