-- Which questions have the answers that they had, after each kind of change.
use Rattle.std.proofs.Common.{◌≡◌, ℕ, Bool, true, false, cond, not, List, [], ◌∷◌, ◌++◌, Option, None, Some, Ok, bytes_eq, if◌then◌else◌, refl, sym, ap, subst, ◌∙◌}
use Rattle.std.specs.Prelude.{◌&&◌, ◌||◌, IsTrue, length, nat_eq, nat_lt}
use Rattle.std.specs.Option.{option_and_then}
use Rattle.std.specs.List.{list_all, IsDistinct}
use Rattle.std.proofs.lemmas.Slice.Eq.{bytes_eq-Decides}
use Rattle.spec_document.specs.Declaration.{declared_all, element_name}
use Rattle.spec_document.specs.Name.{Expanded, qname_of}
use Rattle.spec_document.specs.Forest.{Document, Written, Forest, Empty, Node, Element, Text, Comment, Instruction, IsNormal, labels}
use Rattle.spec_structure.specs.Inside.{value_of, space_name, space_by, is_white}
use Rattle.spec_stylesheet.specs.Place.{Place}
use Rattle.spec_stylesheet.specs.Sheet.{Sheet, SpaceRule}
use Rattle.spec_seen.specs.Seen.{Around, around_in, at_root, seen, seen_among, strips}
use Rattle.spec_meaning.specs.Question.{Question}
use Rattle.spec_run.specs.Documents.{Parameters}
use Rattle.spec_edit.specs.Edit.{Edit, Edited, edited_nodes}
use Rattle.spec_edit.specs.Valid.{IsValid}
use Rattle.spec_edit.proofs.Numbers.{distinct-once, once-from}
use Rattle.spec_change.specs.Change.{Change, IsEdit, change_of}
use Rattle.spec_move.specs.Changed.{MoveChange, IsMove, move_change}
use Rattle.spec_node.specs.declared.node_ref.NodeRef.{NodeRef}
use Rattle.xt_tree.specs.Numbers.{IsNumbered, are_distinct}
use Rattle.xt_tree.proofs.Bools.{not_true, true_false}
use Rattle.spec_touch.specs.Leads.{AreLooseBelow, KeepsSpace, Leads, seen_change}
use Rattle.spec_touch.specs.Marks.{ComesTo, by_edit, by_move, by_modules_alone, by_value, ComeTo, none_more, one_more, SourceEdited, SourceMoved, ModulesChanged, ParameterGiven, Anything}
use Rattle.spec_touch.specs.Marks.{IsSound, KeepsPlain, KeepsUnits, SameButSource, World, WorldChange, answers, any_asks, asks}
use Rattle.spec_touch.specs.Plain.{AreAsking}
use Rattle.spec_touch.proofs.Answering.{neither-first, neither-second}
use Rattle.xt_touch.specs.View.{keep_sheet, keeps_sheet, most_remembered, remembered}
use Rattle.xt_world.specs.ParameterView.{with_value}
use Rattle.xt_held.specs.RunView.{Agrees, Ask, IsFaultless}

-- the laws on which this rests: of worlds, and of edits
abbrev pub Answering : Type 0
Answering =
    (changes : List WorldChange) (old new : World) → ComeTo changes old new → (question : Question NodeRef) → any_asks changes question ≡ false
    → answers old question ≡ answers new question

abbrev after_edit : Document ℕ → Edited ℕ → Document ℕ
after_edit document new = record { root = document.root; nodes = new.nodes }

abbrev pub Leading : Type 0
Leading =
    (rules : List SpaceRule) (first : ℕ) (edit : Edit) (document : Document ℕ) (new : Edited ℕ) → edited_nodes first edit document ≡ Ok new
    → IsNormal document.nodes → IsDistinct nat_eq (document.root ∷ labels document.nodes)
    → IsTrue (list_all (λ n. nat_lt n first) (document.root ∷ labels document.nodes))
    → KeepsSpace edit document (record { root = document.root; nodes = new.nodes })
    → (change : Change) × (change_of edit document (record { root = document.root; nodes = new.nodes }) ≡ Some change)
    × Leads (seen_change change (seen rules document) (seen rules (record { root = document.root; nodes = new.nodes })))
    (seen rules document) (seen rules (record { root = document.root; nodes = new.nodes }))

abbrev pub KeepingSpace : Type 0
KeepingSpace =
    (first : ℕ) (edit : Edit) (document : Document ℕ) (new : Edited ℕ) → edited_nodes first edit document ≡ Ok new
    → IsValid document.nodes → KeepsSpace edit document (record { root = document.root; nodes = new.nodes })

abbrev pub world_of : Sheet → (Place → NodeRef) → Parameters → Document ℕ → World
world_of sheet called parameters source = record { sheet = sheet; called = called; parameters = parameters; source = source }

-- ---- What no rule strips

none_strips : (name : Option Expanded) → strips [] name ≡ false
none_strips None = refl
none_strips (Some name) = refl

not_both : (b : Bool) → (b && false) ≡ false
not_both true = refl
not_both false = refl

not_below : (around : Around) (name : List ℕ) (attributes : List Written) → (around_in [] around name attributes).strips ≡ false
not_below around name attributes =
    let scope = declared_all attributes around.scope in
    let preserves = space_by around.preserves (value_of scope space_name attributes) in
    ap (λ b. not preserves && b) (none_strips (option_and_then (element_name scope) (qname_of name))) ∙ not_both (not preserves)

all_seen : (around : Around) → around.strips ≡ false → (f : Forest ℕ) → seen_among [] around f ≡ f
all_seen around h Empty = refl
all_seen around h (Node label (Text text) children siblings) =
    let rest = seen_among [] around siblings in
    ap (λ (b : Bool). if b && is_white text then rest else Node label (Text text) children rest) h
    ∙ ap (λ (f : Forest ℕ). Node label (Text text) children f) (all_seen around h siblings)
all_seen around h (Node label (Element name attributes) children siblings) =
    let below = all_seen (around_in [] around name attributes) (not_below around name attributes) children in
    let beside = all_seen around h siblings in
    λ i. Node label (Element name attributes) (below i) (beside i)
all_seen around h (Node label (Comment text) children siblings) = ap (λ (f : Forest ℕ). Node label (Comment text) children f) (all_seen around h siblings)
all_seen around h (Node label (Instruction target text) children siblings) =
    ap (λ (f : Forest ℕ). Node label (Instruction target text) children f) (all_seen around h siblings)

pub seen_whole : (rules : List SpaceRule) (document : Document ℕ) → rules ≡ [] → seen rules document ≡ document
seen_whole rules document e =
    ap (λ (rs : List SpaceRule). seen rs document) e ∙ ap (λ (f : Forest ℕ). record { root = document.root; nodes = f }) (all_seen at_root refl document.nodes)

-- ---- An edit of the source, and a move in it

first_of : (a b : Bool) → (a && b) ≡ true → a ≡ true
first_of true b h = refl
first_of false b h = absurd (cc)

some_same : {A : Type 0} (x y : A) → Some x ≡ Some y → x ≡ y
some_same x y e = ap (λ o. elim o [ Some z ↦ z | None ↦ x ]) e

distinct : (document : Document ℕ) → IsNumbered document → IsDistinct nat_eq (document.root ∷ labels document.nodes)
distinct document numbers =
    let all = document.root ∷ labels document.nodes in
    distinct-once all (once-from are_distinct (λ n ns. refl) all (first_of (are_distinct all) _ numbers))

pub sound_of : (document : Document ℕ) → IsNumbered document → IsFaultless document → IsSound document
sound_of document numbers h = record { valid = h.valid; normal = h.normal; apart = distinct document numbers }

-- the change of an edit as it is seen leads from what is seen before to what is seen after
pub leads_so : Leading → KeepingSpace → (rules : List SpaceRule) (edit : Edit) (old new : Document ℕ) → IsEdit edit old new → IsSound old
    → (change : Change) → change_of edit old new ≡ Some change
    → Leads (seen_change change (seen rules old) (seen rules new)) (seen rules old) (seen rules new)
leads_so leading keeping rules edit old new q sound change is =
    let made : Document ℕ = record { root = old.root; nodes = q.edited.nodes } in
    let keeps = keeping q.first edit old q.edited q.edited_is sound.valid in
    let told = leading rules q.first edit old q.edited q.edited_is sound.normal sound.apart q.below keeps in
    let same : told.0 ≡ change = some_same told.0 change (sym told.1 ∙ ap (λ (d : Document ℕ). change_of edit old d) (sym q.new_is) ∙ is) in
    subst (λ (d : Document ℕ). Leads (seen_change change (seen rules old) (seen rules d)) (seen rules old) (seen rules d)) (sym q.new_is)
    (subst (λ (c : Change). Leads (seen_change c (seen rules old) (seen rules made)) (seen rules old) (seen rules made)) same told.2)

same_but_source : (sheet : Sheet) (called : Place → NodeRef) (parameters : Parameters) (old new : Document ℕ)
    → SameButSource (world_of sheet called parameters old) (world_of sheet called parameters new)
same_but_source sheet called parameters old new = record { sheet = refl; called = refl; parameters = refl }

pub edit_comes : (sheet : Sheet) (called : Place → NodeRef) (parameters : Parameters) (rules : List SpaceRule) (asking : List (Option Expanded))
    (edit : Edit) (old new : Document ℕ) → IsSound old → IsEdit edit old new → (change : Change) → change_of edit old new ≡ Some change
    → AreAsking asking sheet.rules.rules → (loose : List ℕ) → AreLooseBelow loose change.node (seen rules new)
    → ComesTo (SourceEdited (seen_change change (seen rules old) (seen rules new)) asking loose) (world_of sheet called parameters (seen rules old))
    (world_of sheet called parameters (seen rules new))
edit_comes sheet called parameters rules asking edit old new sound q change told asks loose free =
    by_edit rules edit old new sound q change told refl refl asks free (same_but_source sheet called parameters (seen rules old) (seen rules new))

pub move_comes : (sheet : Sheet) (called : Place → NodeRef) (parameters : Parameters) (asking : List (Option Expanded))
    (path other : List ℕ) (old new : Document ℕ) → IsSound old → IsMove path other old new → (change : MoveChange)
    → move_change path other old new ≡ Some change → AreAsking asking sheet.rules.rules
    → ComesTo (SourceMoved change asking) (world_of sheet called parameters old) (world_of sheet called parameters new)
move_comes sheet called parameters asking path other old new sound q change told asks =
    by_move path other sound q told asks (same_but_source sheet called parameters old new)

-- ---- Modules and parameters

pub modules_come : (sheet other : Sheet) (called named : Place → NodeRef) (parameters : Parameters) (old new : Document ℕ) → new ≡ old
    → (units : List NodeRef) (asking : Option (List (Option Expanded)))
    → KeepsUnits units (world_of sheet called parameters old) (world_of other named parameters new)
    → KeepsPlain asking (world_of sheet called parameters old) (world_of other named parameters new)
    → ComesTo (ModulesChanged units asking) (world_of sheet called parameters old) (world_of other named parameters new)
modules_come sheet other called named parameters old new e units asking kept plain = by_modules_alone e refl kept plain

other_way : (a b : List ℕ) → bytes_eq a b ≡ false → bytes_eq b a ≡ false
other_way a b h = not_true (bytes_eq b a) (λ e. true_false (sym ((bytes_eq-Decides a b).1 (sym ((bytes_eq-Decides b a).0 e))) ∙ h))

pub value_comes : (sheet : Sheet) (called : Place → NodeRef) (parameters : Parameters) (name value : List ℕ) (source : Document ℕ)
    → ComesTo (ParameterGiven name) (world_of sheet called parameters source) (world_of sheet called (with_value name value parameters) source)
value_comes sheet called parameters name value source =
    by_value (λ other apart. ap (λ (b : Bool). if b then Some value else parameters other) (other_way name other apart)) refl refl refl

-- ---- What is answered as it was

abbrev pub AreAlike : WorldChange → (before after : Ask) → Type 0
AreAlike change before after = (q : Question NodeRef) → asks change q ≡ false → before q ≡ after q

-- two that answer as worlds do of which one comes to the other
pub alike : Answering → (change : WorldChange) (old new : World) → ComesTo change old new → (before after : Ask)
    → ((q : Question NodeRef) → before q ≡ answers old q) → ((q : Question NodeRef) → after q ≡ answers new q) → AreAlike change before after
alike answering change old new comes before after was is = λ q unasked.
    was q ∙ answering (change ∷ []) old new (one_more comes none_more) q (ap (λ b. b || false) unasked) ∙ sym (is q)

-- what must be asked neither before nor after the change need not be asked after all
neither : (q : Question NodeRef) (change : WorldChange) (changes : List WorldChange) → any_asks (changes ++ change ∷ []) q ≡ false
    → (any_asks changes q ≡ false) × (asks change q ≡ false)
neither q change [] h = (refl, neither-first (asks change q) false h)
neither q change (c ∷ cs) h =
    let rest = neither q change cs (neither-second (asks c q) (any_asks (cs ++ change ∷ []) q) h) in
    let first = neither-first (asks c q) (any_asks (cs ++ change ∷ []) q) h in
    (ap (λ b. b || any_asks cs q) first ∙ rest.0, rest.1)

unasked : (q : Question NodeRef) (change : WorldChange) (changes : List WorldChange) → any_asks (remembered changes change) q ≡ false
    → (any_asks changes q ≡ false) × (asks change q ≡ false)
unasked q change changes h = by (nat_lt (length changes) most_remembered) h
  where
    by : (b : Bool) → any_asks (cond b (changes ++ change ∷ []) (Anything ∷ [])) q ≡ false → (any_asks changes q ≡ false) × (asks change q ≡ false)
    by true h = neither q change changes h
    by false h = absurd (true_false h)

-- what answers as it was where it need not be asked after the changes so far does so after one more, where what need not be asked after that has its answers
pub agrees_after : (changes : List WorldChange) (change : WorldChange) (was before after : Ask) → AreAlike change before after → Agrees was before changes
    → Agrees was after (remembered changes change)
agrees_after changes change was before after same h = λ q u.
    let both = unasked q change changes u in
    sym (same q both.1) ∙ h q both.0

-- where anything may be another
pub none_agree : (was ask : Ask) → Agrees was ask (Anything ∷ [])
none_agree was ask = λ q u. absurd (true_false u)

-- ---- Whether the stylesheet is what it was

second_of : (a b : Bool) → (a && b) ≡ true → b ≡ true
second_of true b h = h
second_of false b h = absurd (cc)

-- what keeps it together keeps it so far, and with the change alone
both_keep : (change : WorldChange) (changes : List WorldChange) → keep_sheet (changes ++ change ∷ []) ≡ true
    → (keep_sheet changes ≡ true) × (keeps_sheet change ≡ true)
both_keep change [] h = (refl, first_of (keeps_sheet change) true h)
both_keep change (c ∷ cs) h =
    let rest = both_keep change cs (second_of (keeps_sheet c) (keep_sheet (cs ++ change ∷ [])) h) in
    let first = first_of (keeps_sheet c) (keep_sheet (cs ++ change ∷ [])) h in
    (ap (λ b. b && keep_sheet cs) first ∙ rest.0, rest.1)

sheet_kept : (change : WorldChange) (changes : List WorldChange) → keep_sheet (remembered changes change) ≡ true
    → (keep_sheet changes ≡ true) × (keeps_sheet change ≡ true)
sheet_kept change changes h = by (nat_lt (length changes) most_remembered) h
  where
    by : (b : Bool) → keep_sheet (cond b (changes ++ change ∷ []) (Anything ∷ [])) ≡ true → (keep_sheet changes ≡ true) × (keeps_sheet change ≡ true)
    by true h = both_keep change changes h
    by false h = absurd (true_false (sym h))

-- what is so of it where the changes so far keep it is so where these do that are with one more
pub sheet_stays : (changes next : List WorldChange) (change : WorldChange) (P : Type 0) → next ≡ remembered changes change → (keep_sheet changes ≡ true → P)
    → keep_sheet next ≡ true → P
sheet_stays changes next change P e h keeps =
    h (sheet_kept change changes (subst (λ (cs : List WorldChange). keep_sheet cs ≡ true) e keeps)).0

-- where the modules have changed, nothing is said of it, and where anything has
pub sheet_lost : (changes next : List WorldChange) (change : WorldChange) (P : Type 0) → next ≡ remembered changes change → keeps_sheet change ≡ false
    → keep_sheet next ≡ true → P
sheet_lost changes next change P e lost keeps =
    absurd (true_false (sym (sheet_kept change changes (subst (λ (cs : List WorldChange). keep_sheet cs ≡ true) e keeps)).1 ∙ lost))

pub none_keep : (next : List WorldChange) (P : Type 0) → next ≡ Anything ∷ [] → keep_sheet next ≡ true → P
none_keep next P e keeps = absurd (true_false (sym (subst (λ (cs : List WorldChange). keep_sheet cs ≡ true) e keeps)))
