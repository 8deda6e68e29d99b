-- A question that a change of a world does not mark has the same answer in both worlds.
use Rattle.std.proofs.Common.{◌≡◌, ℕ, Bool, true, false, List, [], ◌∷◌, Option, Some, refl, sym, ap, ◌∙◌, subst}
use Rattle.std.specs.Prelude.{◌&&◌, ◌||◌, not, Ok, IsTrue, bytes_eq, nat_lt}
use Rattle.std.specs.List.{list_all}
use Rattle.spec_document.specs.Forest.{Document, labels}
use Rattle.spec_document.specs.Name.{Expanded}
use Rattle.spec_document.specs.Order.{entries_of}
use Rattle.spec_stylesheet.specs.Place as stylesheet
use Rattle.spec_stylesheet.specs.Sheet.{Sheet, SpaceRule}
use Rattle.spec_seen.specs.Seen.{seen}
use Rattle.spec_meaning.specs.Question as question
use Rattle.spec_meaning.specs.Question.{Question, Answer, Passed}
use Rattle.spec_run.specs.Documents.{Parameters}
use Rattle.spec_run.specs.World.{truth_by}
use Rattle.spec_edit.specs.Edit.{Edit, Edited, edited_nodes}
use Rattle.spec_edit.proofs.Around.{some_same}
use Rattle.spec_edit.proofs.Numbers.{once-distinct, below-from, edit_numbers}
use Rattle.spec_change.specs.Change.{Change, IsEdit, change_of}
use Rattle.spec_move.specs.Changed.{MoveChange, IsMove, move_change}
use Rattle.spec_move.specs.Move.{moved_nodes}
use Rattle.spec_node.specs.declared.node_ref.NodeRef.{NodeRef}
use Rattle.spec_node.specs.Naming.{ref_of, same_ref}
use Rattle.spec_touch.specs.Leads.{seen_change, AreLooseBelow}
use Rattle.spec_touch.specs.Marks.{World, WorldChange, SourceEdited, SourceMoved, ModulesChanged, ParameterGiven, Anything, answers, marks, any_marks, asks, any_asks, by_modules, by_parameter, is_unit_among}
use Rattle.spec_touch.specs.Marks.{IsSound, KeepsUnits, KeepsPlain, SameButSource, ComesTo, by_edit, by_move, by_modules_alone, by_value, by_anything, ComeTo, none_more, one_more}
use Rattle.spec_touch.specs.Moved.{move_touched}
use Rattle.spec_touch.specs.Plain.{AreAsking, spared, spared_by_move}
use Rattle.spec_touch.specs.Touched.{is_touched, touched_but}
use Rattle.spec_touch.proofs.Running.{loose-free-in}
use Rattle.spec_touch.proofs.Answering.{unmarked, unmarked_but, neither-first, neither-second}
use Rattle.spec_touch.proofs.KeepingSpace.{keeps-space}
use Rattle.spec_touch.proofs.Leading.{after_edit}
use Rattle.spec_touch.proofs.Moving.{after_move, by-either, move-unmarked}
use Rattle.spec_touch.proofs.MovingChoices.{move-spared}
use Rattle.spec_touch.proofs.SeenLeading.{edit-leads-seen}
use Rattle.spec_touch.proofs.Sparing.{choice-spared}
use Rattle.spec_touch.proofs.ToldApart.{seen-apart}

one-of : {A : Type 0} (a b : Bool) → (a && b) ≡ false → (a ≡ false → A) → (b ≡ false → A) → A
one-of false b h f g = f refl
one-of true b h f g = g h

not-false : (b : Bool) → not b ≡ false → b ≡ true
not-false true h = refl
not-false false h = absurd (cc)

-- in worlds that see one source, what is asked of the source alone, of units that are the same, and choices that are kept
modules-unmarked : (units : List NodeRef) (asking : Option (List (Option Expanded))) (old new : World) → new.source ≡ old.source
    → new.parameters ≡ old.parameters → KeepsUnits units old new → KeepsPlain asking old new → (q : Question NodeRef)
    → by_modules units asking q ≡ false → answers old q ≡ answers new q
modules-unmarked units asking old new e p k c (question.Step node axis test) u =
    λ i. truth_by ref_of same_ref old.called old.sheet old.parameters (entries_of (sym e i)) (question.Step node axis test)
modules-unmarked units asking old new e p k c (question.Text node) u =
    λ i. truth_by ref_of same_ref old.called old.sheet old.parameters (entries_of (sym e i)) (question.Text node)
modules-unmarked units asking old new e p k c (question.Name node) u =
    λ i. truth_by ref_of same_ref old.called old.sheet old.parameters (entries_of (sym e i)) (question.Name node)
modules-unmarked units asking old new e p k c (question.Place node) u =
    λ i. truth_by ref_of same_ref old.called old.sheet old.parameters (entries_of (sym e i)) (question.Place node)
modules-unmarked units asking old new e p k c (question.Order nodes) u =
    λ i. truth_by ref_of same_ref old.called old.sheet old.parameters (entries_of (sym e i)) (question.Order nodes)
modules-unmarked units asking old new e p k c (question.Copy node) u =
    λ i. truth_by ref_of same_ref old.called old.sheet old.parameters (entries_of (sym e i)) (question.Copy node)
modules-unmarked units asking old new e p k c (question.External name) u = λ i. Passed (sym p i name)
modules-unmarked units asking old new e p k c (question.Key name value) u = absurd (cc)
modules-unmarked units asking old new e p k c (question.Choice node mode candidates) u = c node mode candidates u
modules-unmarked units asking old new e p k c (question.Unit element) u = k element (not-false (is_unit_among units element) u)

-- with one stylesheet and one source
parameter-unmarked : (given : List ℕ) (old new : World) → ((other : List ℕ) → bytes_eq given other ≡ false
    → new.parameters other ≡ old.parameters other)
    → new.sheet ≡ old.sheet → new.called ≡ old.called → new.source ≡ old.source → (q : Question NodeRef) → by_parameter given q ≡ false
    → answers old q ≡ answers new q
parameter-unmarked given old new h s c e (question.External name) u = ap Passed (sym (h name u))
parameter-unmarked given old new h s c e (question.Step node axis test) u =
    λ i. truth_by ref_of same_ref (sym c i) (sym s i) old.parameters (entries_of (sym e i)) (question.Step node axis test)
parameter-unmarked given old new h s c e (question.Text node) u =
    λ i. truth_by ref_of same_ref (sym c i) (sym s i) old.parameters (entries_of (sym e i)) (question.Text node)
parameter-unmarked given old new h s c e (question.Name node) u =
    λ i. truth_by ref_of same_ref (sym c i) (sym s i) old.parameters (entries_of (sym e i)) (question.Name node)
parameter-unmarked given old new h s c e (question.Place node) u =
    λ i. truth_by ref_of same_ref (sym c i) (sym s i) old.parameters (entries_of (sym e i)) (question.Place node)
parameter-unmarked given old new h s c e (question.Order nodes) u =
    λ i. truth_by ref_of same_ref (sym c i) (sym s i) old.parameters (entries_of (sym e i)) (question.Order nodes)
parameter-unmarked given old new h s c e (question.Key name value) u =
    λ i. truth_by ref_of same_ref (sym c i) (sym s i) old.parameters (entries_of (sym e i)) (question.Key name value)
parameter-unmarked given old new h s c e (question.Choice node mode candidates) u =
    λ i. truth_by ref_of same_ref (sym c i) (sym s i) old.parameters (entries_of (sym e i)) (question.Choice node mode candidates)
parameter-unmarked given old new h s c e (question.Copy node) u =
    λ i. truth_by ref_of same_ref (sym c i) (sym s i) old.parameters (entries_of (sym e i)) (question.Copy node)
parameter-unmarked given old new h s c e (question.Unit element) u =
    λ i. truth_by ref_of same_ref (sym c i) (sym s i) old.parameters (entries_of (sym e i)) (question.Unit element)

-- with one stylesheet and the same parameters
module _ (sheet : Sheet) (parameters : Parameters) (called : stylesheet.Place → NodeRef) (asking : List (Option Expanded))
    (plain : AreAsking asking sheet.rules.rules) (q : Question NodeRef) where
  abbrev told_in : Document ℕ → Answer NodeRef
  told_in d = truth_by ref_of same_ref called sheet parameters (entries_of d) q

  module _ (rules : List SpaceRule) (edit : Edit) (before : Document ℕ) (sound : IsSound before) (change : Change) where
    abbrev is_unasked : (loose : List ℕ) → Document ℕ → Type 0
    is_unasked loose after = asks (SourceEdited (seen_change change (seen rules before) (seen rules after)) asking loose) q ≡ false

    edited-unmarked : (first : ℕ) (new : Edited ℕ) → IsTrue (list_all (λ n. nat_lt n first) (before.root ∷ labels before.nodes))
        → edited_nodes first edit before ≡ Ok new → change_of edit before (after_edit before new) ≡ Some change
        → (loose : List ℕ) → AreLooseBelow loose change.node (seen rules (after_edit before new)) → is_unasked loose (after_edit before new)
        → told_in (seen rules before) ≡ told_in (seen rules (after_edit before new))
    edited-unmarked first new low e told loose free u =
        let after = after_edit before new in
        let once = once-distinct _ sound.apart in
        let below = below-from first _ low in
        let l = edit-leads-seen rules first edit before new sound.normal once below e (keeps-space first edit before new e sound.valid) in
        let made = seen_change l.change (seen rules before) (seen rules after) in
        let same = some_same change l.change (sym told ∙ l.change_is) in
        let free : AreLooseBelow loose made.node (seen rules after) = subst (λ x. AreLooseBelow loose x.node (seen rules after)) same free in
        let u : ((is_touched made q && touched_but loose made q) && not (spared asking made q)) ≡ false = subst
        (λ x. asks (SourceEdited (seen_change x (seen rules before) (seen rules after)) asking loose) q ≡ false) same u in
        by-either (is_touched made q && touched_but loose made q) (spared asking made q) u
        (λ t. one-of (is_touched made q) (touched_but loose made q) t
        (λ v. unmarked made (seen rules before) (seen rules after) l.leads sheet parameters called q v)
        (λ v. unmarked_but loose made (seen rules before) (seen rules after) l.leads (loose-free-in loose made (seen rules before) (seen rules after) l.leads free)
        sheet parameters called q v))
        (λ s. choice-spared made (seen rules before) (seen rules after) l.leads sheet parameters called
        (seen-apart rules before.root l.change before.nodes new.nodes once (edit_numbers first edit before new e once below).once) asking plain q s)

    edit-unmarked : (after : Document ℕ) → IsEdit edit before after → change_of edit before after ≡ Some change → (loose : List ℕ)
        → AreLooseBelow loose change.node (seen rules after) → is_unasked loose after → told_in (seen rules before) ≡ told_in (seen rules after)
    edit-unmarked after is =
        subst (λ d. change_of edit before d ≡ Some change → (loose : List ℕ) → AreLooseBelow loose change.node (seen rules d) → is_unasked loose d
        → told_in (seen rules before) ≡ told_in (seen rules d)) (sym is.new_is)
        (edited-unmarked is.first is.edited is.below is.edited_is)

  module _ (path other : List ℕ) (before : Document ℕ) (sound : IsSound before) (change : MoveChange)
      (u : marks (SourceMoved change asking) q ≡ false) where
    moved-unmarked : (first : ℕ) (new : Edited ℕ) → IsTrue (list_all (λ n. nat_lt n first) (before.root ∷ labels before.nodes))
        → moved_nodes first path other before ≡ Ok new → move_change path other before (after_move before new) ≡ Some change
        → told_in before ≡ told_in (after_move before new)
    moved-unmarked first new low e told =
        let once = once-distinct _ sound.apart in
        let below = below-from first _ low in
        by-either (move_touched change q) (spared_by_move asking change q) u
        (λ t. move-unmarked first before new sound.normal once below sheet parameters called q path other e change told t)
        (λ s. move-spared first before new sound.normal once below path other e change told sheet parameters called q asking plain s)

    move-kept : (after : Document ℕ) → IsMove path other before after → move_change path other before after ≡ Some change
        → told_in before ≡ told_in after
    move-kept after is =
        subst (λ d. move_change path other before d ≡ Some change → told_in before ≡ told_in d) (sym is.new_is)
        (moved-unmarked is.first is.edited is.below is.edited_is)

but-source : (old new : World) → SameButSource old new → (d : Document ℕ) → new.source ≡ d → (q : Question NodeRef)
    → truth_by ref_of same_ref old.called old.sheet old.parameters (entries_of d) q ≡ answers new q
but-source old new same d e q =
    λ i. truth_by ref_of same_ref (sym same.called i) (sym same.sheet i) (sym same.parameters i) (entries_of (sym e i)) q

-- what need not be asked keeps its answer
pub world-unasked : {change : WorldChange} {old new : World} → ComesTo change old new → (q : Question NodeRef) → asks change q ≡ false
    → answers old q ≡ answers new q
world-unasked (by_edit {old = old} {new = new} {asking = asking} {loose = loose} rules edit before after sound is change told old_is new_is plain free same) q u =
    ap (λ d. truth_by ref_of same_ref old.called old.sheet old.parameters (entries_of d) q) old_is
    ∙ edit-unmarked old.sheet old.parameters old.called asking plain q rules edit before sound change after is told loose free u
    ∙ but-source old new same (seen rules after) new_is q
world-unasked (by_move {old = old} {new = new} {change = change} {asking = asking} path other sound is told plain same) q u =
    move-kept old.sheet old.parameters old.called asking plain q path other old.source sound change u new.source is told
    ∙ but-source old new same new.source refl q
world-unasked (by_modules_alone {units = units} {asking = asking} {old = old} {new = new} e p k c) q u =
    modules-unmarked units asking old new e p k c q u
world-unasked (by_value {name = name} {old = old} {new = new} h s c e) q u = parameter-unmarked name old new h s c e q u
world-unasked by_anything q u = absurd (cc)

-- what is not marked need not be asked
pub asks-less : (change : WorldChange) (q : Question NodeRef) → marks change q ≡ false → asks change q ≡ false
asks-less (SourceEdited change asking loose) q u = less (is_touched change q) (touched_but loose change q) (not (spared asking change q)) u
  where
    less : (a b c : Bool) → (a && c) ≡ false → ((a && b) && c) ≡ false
    less false b c h = refl
    less true false c h = refl
    less true true c h = h
asks-less (SourceMoved change asking) q u = u
asks-less (ModulesChanged units asking) q u = u
asks-less (ParameterGiven name) q u = u
asks-less Anything q u = u

pub all-asks-less : (changes : List WorldChange) (q : Question NodeRef) → any_marks changes q ≡ false → any_asks changes q ≡ false
all-asks-less [] q u = refl
all-asks-less (change ∷ changes) q u =
    (λ i. asks-less change q (neither-first (marks change q) (any_marks changes q) u) i || any_asks changes q)
    ∙ all-asks-less changes q (neither-second (marks change q) (any_marks changes q) u)

pub world-unmarked : {change : WorldChange} {old new : World} → ComesTo change old new → (q : Question NodeRef) → marks change q ≡ false
    → answers old q ≡ answers new q
world-unmarked {change = change} comes q u = world-unasked comes q (asks-less change q u)

pub worlds-unasked : {changes : List WorldChange} {old new : World} → ComeTo changes old new → (q : Question NodeRef)
    → any_asks changes q ≡ false → answers old q ≡ answers new q
worlds-unasked none_more q u = refl
worlds-unasked (one_more {change = change} {changes = changes} comes come) q u =
    world-unasked comes q (neither-first (asks change q) (any_asks changes q) u)
    ∙ worlds-unasked come q (neither-second (asks change q) (any_asks changes q) u)

pub worlds-unmarked : {changes : List WorldChange} {old new : World} → ComeTo changes old new → (q : Question NodeRef)
    → any_marks changes q ≡ false → answers old q ≡ answers new q
worlds-unmarked none_more q u = refl
worlds-unmarked (one_more {change = change} {changes = changes} comes come) q u =
    world-unmarked comes q (neither-first (marks change q) (any_marks changes q) u)
    ∙ worlds-unmarked come q (neither-second (marks change q) (any_marks changes q) u)
