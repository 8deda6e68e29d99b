-- What was read for the values of a node decides them.
use Rattle.std.proofs.Common.{◌≡◌, ℕ, Bool, true, false, cond, List, [], ◌∷◌, ◌++◌, Option, None, Some, refl, sym, ap, subst, ◌∙◌}
use Rattle.std.specs.Prelude.{option_and_then, ◌==◌, ◌||◌}
use Rattle.std.specs.List.{list_any}
use Rattle.std.proofs.lemmas.Bool.{and_parts, eqb-true}
use Rattle.spec_document.specs.Forest.{Document}
use Rattle.spec_document.specs.Name.{Expanded}
use Rattle.spec_meaning.specs.Program.{Program, Given, Give, Refuse, Ask as Asks, Need, Read, Asked, Saw, Said, IsEnded, Supply, Hold, if_given, reads_of}
use Rattle.spec_meaning.specs.Question.{Question, Step, Text, Name, Place, Order, Key, Choice, Copy, Unit as UnitOf, External}
use Rattle.spec_meaning.proofs.Runs.{agreement}
use Rattle.spec_transform.specs.Key.{no_globals}
use Rattle.spec_run.specs.Documents.{Parameters}
use Rattle.spec_touch.specs.Marks.{WorldChange, any_asks}
use Rattle.spec_node.specs.Naming.{same_part}
use Rattle.spec_node.specs.declared.node_ref.NodeRef.{NodeRef}
use Rattle.spec_node.specs.declared.node_ref.Part.{Part}
use Rattle.spec_node.specs.declared.node_ref.Part.TheVariants as part
use Rattle.xt_match.specs.Context.{units_in}
use Rattle.xt_questions.specs.Change.{AllStand}
use Rattle.xt_document_world.specs.View.{truth_of}
use Rattle.xt_world.specs.View.{truth_in}
use Rattle.xt_world.specs.declared.stylesheet.Stylesheet.{Stylesheet}
use Rattle.xt_spared.specs.View.{Ask, Agrees, questions_of}
use Rattle.xt_own.specs.Keys.{AgreeOn, HasTexts, IsNodeOf, is_name_of, is_of_tree, own_questions, texts_of}
use Rattle.xt_own.specs.Logs.{reads_for}
use Rattle.xt_own.specs.declared.own_node.OwnNode.{OwnNode}

-- ---- Questions

-- what is asked of the tree alone the source answers
tree_alone : (s : Stylesheet) (p : Parameters) (d : Document ℕ) (q : Question NodeRef) → is_of_tree q ≡ true → truth_in s p d q ≡ truth_of d q
tree_alone s p d (Step node axis test) e = refl
tree_alone s p d (Text node) e = refl
tree_alone s p d (Name node) e = refl
tree_alone s p d (Place node) e = refl
tree_alone s p d (Order nodes) e = refl
tree_alone s p d (Key name value) e = absurd (cc)
tree_alone s p d (Choice node mode candidates) e = absurd (cc)
tree_alone s p d (Copy node) e = absurd (cc)
tree_alone s p d (UnitOf element) e = absurd (cc)
tree_alone s p d (External name) e = absurd (cc)

-- ---- Worlds that answer alike

pub agree_with_itself : (ask : Ask) (qs : List (Question NodeRef)) → AgreeOn ask ask qs
agree_with_itself ask [] = tt
agree_with_itself ask (q ∷ qs) = (refl, agree_with_itself ask qs)

agree_on : (other ask was : Ask) (qs : List (Question NodeRef)) → AgreeOn other ask qs → AgreeOn ask was qs → AgreeOn other was qs
agree_on other ask was [] a b = tt
agree_on other ask was (q ∷ qs) a b = (a.0 ∙ b.0, agree_on other ask was qs a.1 b.1)

agree_last : (other was : Ask) (q : Question NodeRef) (done : List (Question NodeRef)) → AgreeOn other was (done ++ q ∷ [])
    → AgreeOn other was done × (other q ≡ was q)
agree_last other was q [] a = (tt, a.0)
agree_last other was q (x ∷ xs) a = let rest = agree_last other was q xs a.1 in ((a.0, rest.0), rest.1)

agree_unasked : (was ask : Ask) (changes : List WorldChange) (qs : List (Question NodeRef)) → Agrees was ask changes
    → list_any (any_asks changes) qs ≡ false → AgreeOn ask was qs
agree_unasked was ask changes [] agrees e = tt
agree_unasked was ask changes (q ∷ qs) agrees e = by (any_asks changes q) refl (agree_unasked was ask changes qs agrees) e
  where
    by : (b : Bool) → any_asks changes q ≡ b → (list_any (any_asks changes) qs ≡ false → AgreeOn ask was qs)
        → (b || list_any (any_asks changes) qs) ≡ false → AgreeOn ask was (q ∷ qs)
    by true is rest h = absurd (cc)
    by false is rest h = (agrees q is, rest h)

-- ---- Reads

reads_stand : {A : Type 0} (ask : Ask) (supply : Supply NodeRef) (depth : ℕ) (p : Program NodeRef A) → AllStand ask (reads_of ask supply depth p)
reads_stand ask supply depth (Give v) = tt
reads_stand ask supply depth (Refuse w) = tt
reads_stand ask supply depth (Asks q next) = (refl, reads_stand ask supply depth (next (ask q)))
reads_stand ask supply depth (Need w next) = go (supply w) (λ g. reads_stand ask supply depth (next g))
  where
    go : (given : Option (Given NodeRef)) → ((g : Given NodeRef) → AllStand ask (reads_of ask supply depth (next g)))
        → AllStand ask (if_given (λ g. Saw w depth g ∷ reads_of ask supply depth (next g)) [] given)
    go None f = tt
    go (Some g) f = (tt, f g)

abbrev kept_or : Option (List (Question NodeRef)) → List (Question NodeRef)
kept_or None = []
kept_or (Some kept) = kept

-- both hold
record Both (A B : Type 0) : Type 0 where
  one : A
  other : B

same_parts : (a b : Part) → same_part a b ≡ true → a ≡ b
same_parts part.Itself part.Itself e = refl
same_parts part.Itself (part.Attribute n) e = absurd (cc)
same_parts part.Itself (part.Namespace n) e = absurd (cc)
same_parts (part.Attribute m) part.Itself e = absurd (cc)
same_parts (part.Attribute m) (part.Attribute n) e = ap (λ k. part.Attribute k) (eqb-true m n e)
same_parts (part.Attribute m) (part.Namespace n) e = absurd (cc)
same_parts (part.Namespace m) part.Itself e = absurd (cc)
same_parts (part.Namespace m) (part.Attribute n) e = absurd (cc)
same_parts (part.Namespace m) (part.Namespace n) e = ap (λ k. part.Namespace k) (eqb-true m n e)

is_its_name : (node : NodeRef) (q : Question NodeRef) → is_name_of node q ≡ true → q ≡ Name node
is_its_name node (Name other) e =
    let both = and_parts (node.node.number == other.node.number) (same_part node.part other.part) e in
    ap (λ (n : NodeRef). Name n) (sym (λ i. record { node = record { number = eqb-true node.node.number other.node.number both.0 i }; part = same_parts node.part other.part both.1 i }))
is_its_name node (Step n axis test) e = absurd (cc)
is_its_name node (Text n) e = absurd (cc)
is_its_name node (Place n) e = absurd (cc)
is_its_name node (Order nodes) e = absurd (cc)
is_its_name node (Key name value) e = absurd (cc)
is_its_name node (Choice n mode candidates) e = absurd (cc)
is_its_name node (Copy n) e = absurd (cc)
is_its_name node (UnitOf element) e = absurd (cc)
is_its_name node (External name) e = absurd (cc)

module _ (s : Stylesheet) (first there : Parameters) (before document : Document ℕ) (node : NodeRef) (supply : Supply NodeRef) (kept : List (Question NodeRef))
    (called : truth_in s there document (Name node) ≡ truth_in s first before (Name node)) (agree : AgreeOn (truth_in s there document) (truth_in s first before) kept) where
  -- reads hold where the questions that are kept, and what the node is called, have the answers that they had
  reads_hold : (reads : List (Read NodeRef)) (done : List (Question NodeRef)) → AllStand (truth_of before) reads → own_questions node done reads ≡ Some kept
      → Both (Hold (truth_of document) supply reads) (AgreeOn (truth_in s there document) (truth_in s first before) done)
  reads_hold [] done stand e =
      let P : Option (List (Question NodeRef)) → Type 0 = λ o. AgreeOn (truth_in s there document) (truth_in s first before) (kept_or o) in
      record { one = tt; other = subst P (sym e) agree }
  reads_hold (Saw wanted depth given ∷ reads) done stand e = absurd (cc)
  reads_hold (Asked q a ∷ reads) done stand e = by (is_of_tree q) (is_name_of node q) refl refl (λ more h. reads_hold reads more stand.1 h) e
    where
      by : (b c : Bool) → is_of_tree q ≡ b → is_name_of node q ≡ c
          → ((more : List (Question NodeRef)) → own_questions node more reads ≡ Some kept
          → Both (Hold (truth_of document) supply reads) (AgreeOn (truth_in s there document) (truth_in s first before) more))
          → option_and_then (λ more. own_questions node more reads) (cond b (Some (cond c done (done ++ q ∷ []))) None) ≡ Some kept
          → Both ((truth_of document q ≡ a) × Hold (truth_of document) supply reads) (AgreeOn (truth_in s there document) (truth_in s first before) done)
      by false c of_tree named rest h = absurd (cc)
      by true true of_tree named rest h =
          let on = rest done h in
          let is = is_its_name node q named in
          let same : truth_in s there document q ≡ truth_in s first before q = ap (truth_in s there document) is ∙ called ∙ ap (truth_in s first before) (sym is) in
          record { one = (sym (tree_alone s there document q of_tree) ∙ same ∙ tree_alone s first before q of_tree ∙ stand.0, on.one); other = on.other }
      by true false of_tree named rest h =
          let on = rest (done ++ q ∷ []) h in
          let last = agree_last (truth_in s there document) (truth_in s first before) q done on.other in
          record { one = (sym (tree_alone s there document q of_tree) ∙ last.1 ∙ tree_alone s first before q of_tree ∙ stand.0, on.one); other = last.0 }

-- the values of a node that were found, with the questions of what was read for them
pub known_node : (s : Stylesheet) (first : Parameters) (before : Document ℕ) (name : Expanded) (own : OwnNode) → HasTexts s before name own.node own.texts.items
    → own_questions own.node [] (reads_for s before name own.node) ≡ Some (questions_of own.reads.items) → IsNodeOf s (truth_in s first before) name own
known_node s first before name own has kept = λ there document called agree.
    let p = texts_of (units_in s.units.items) name own.node in
    let E : Said (List (List ℕ)) → Type 0 = IsEnded in
    let hold = reads_hold s first there before document own.node no_globals (questions_of own.reads.items) called agree (reads_for s before name own.node) []
    (reads_stand (truth_of before) no_globals 0 p) kept in
    (agreement (truth_of before) (truth_of document) no_globals no_globals 0 p hold.one (subst E (sym has) tt)).0 ∙ has

-- ---- A node that stays

-- its values are as before where after no change it must be asked what it is called or what was asked for them
pub unasked_stays : (s : Stylesheet) (was ask : Ask) (changes : List WorldChange) (name : Expanded) (own : OwnNode) → Agrees was ask changes
    → any_asks changes (Name own.node) ≡ false → list_any (any_asks changes) (questions_of own.reads.items) ≡ false
    → IsNodeOf s was name own → IsNodeOf s ask name own
unasked_stays s was ask changes name own agrees named unasked known = λ there document called agree.
    known there document (called ∙ agrees (Name own.node) named)
    (agree_on (truth_in s there document) ask was (questions_of own.reads.items) agree (agree_unasked was ask changes (questions_of own.reads.items) agrees unasked))
