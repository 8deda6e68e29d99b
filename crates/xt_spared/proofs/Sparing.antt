-- That what has an own choice whose reads stay is spared.
use Rattle.std.proofs.Common.{◌≡◌, Bool, true, false, List, [], ◌++◌, Option, None, Some, refl, sym, ◌∙◌}
use Rattle.std.specs.Prelude.{◌||◌, not, IfSome, is_some}
use Rattle.std.specs.Borrow.{Bor}
use Rattle.std.specs.declared.rc.Rc.{Rc}
use Rattle.std.specs.declared.alloc.Global.{Global}
use Rattle.spec_meaning.specs.Question.{Question, Step, Text, Name, Place, Order, Key, Choice, Copy, Unit as UnitOf, External}
use Rattle.spec_node.specs.declared.node_ref.NodeRef.{NodeRef}
use Rattle.spec_touch.specs.Marks.{WorldChange, any_asks, any_marks}
use Rattle.xt_questions.specs.View.{question_of}
use Rattle.xt_spared.specs.View.{IsAmong, IsSpared, by_itself, by_reads, is_key_among, Own, all_stay, own_of, stays}
use Rattle.xt_spared.specs.declared.choices.OwnChoice.{OwnChoice}
use Rattle.xt_spared.specs.declared.spared.KeyThatStays.{KeyThatStays}
use Rattle.xt_spared.proofs.Among.{among_first, among_second}

pub found_spared : (changes : List WorldChange) (keys : List KeyThatStays) (owns : List Own) (question : Question NodeRef) (found : Option (Bor (Rc OwnChoice Global)))
    → IfSome found (λ own. question_of own.now.value.question ≡ question) → IfSome found (λ own. IsAmong (own_of own.now.value) owns)
    → IfSome found (λ own. all_stay changes keys (own_of own.now.value).reads ≡ true) → is_some found ≡ true → IsSpared changes keys owns question
found_spared changes keys owns question None of among stay is = absurd (cc)
found_spared changes keys owns question (Some own) of among stay is = by_reads (own_of own.now.value) among of stay

-- so it is where more choices are known, before these or after them
spared_of : (changes : List WorldChange) (keys : List KeyThatStays) (owns all : List Own) (question : Question NodeRef)
    → ((own : Own) → IsAmong own owns → IsAmong own all) → IsSpared changes keys owns question → IsSpared changes keys all question
spared_of changes keys owns all question more (by_itself stays) = by_itself stays
spared_of changes keys owns all question more (by_reads own among of stay) = by_reads own (more own among) of stay

pub spared_first : (changes : List WorldChange) (keys : List KeyThatStays) (owns others : List Own) (question : Question NodeRef)
    → IsSpared changes keys owns question → IsSpared changes keys (owns ++ others) question
spared_first changes keys owns others question h = spared_of changes keys owns (owns ++ others) question (among_first owns others) h

pub spared_second : (changes : List WorldChange) (keys : List KeyThatStays) (owns others : List Own) (question : Question NodeRef)
    → IsSpared changes keys others question → IsSpared changes keys (owns ++ others) question
spared_second changes keys owns others question h = spared_of changes keys others (owns ++ others) question (among_second owns others) h

-- what must be asked is marked
pub asked_marked : (asked marked : Bool) → (marked ≡ false → asked ≡ false) → asked ≡ true → marked ≡ true
asked_marked asked true less is = refl
asked_marked asked false less is = sym (less refl) ∙ is

-- so it is with what does not stay
pub leaving_marked : (changes : List WorldChange) (keys : List KeyThatStays) (question : Question NodeRef)
    → (any_marks changes question ≡ false → any_asks changes question ≡ false) → stays changes keys question ≡ false
    → any_marks changes question ≡ true
leaving_marked changes keys question less leaves =
    asked_marked (any_asks changes question) (any_marks changes question) less
    (leaving (any_asks changes question) (is_key_among keys question) leaves)
  where
    leaving : (a k : Bool) → (not a || k) ≡ false → a ≡ true
    leaving true k e = refl
    leaving false k e = absurd (cc)
