-- What changes mark is told of them, with one change more.
--     TellsOf       each question that a change marks is marked by what is told of it
--     told_and      one change more, and what is told of it
--     anything_told where anything may be another
--     edit_told, move_told, stylesheet_told, value_told
use Rattle.std.proofs.Common.{◌≡◌, ◌≤◌, ◌⊎◌, ◌+◌, ℕ, inl, inr, Bool, true, false, cond, List, [], ◌∷◌, ◌++◌, Option, None, Some, Result, Ok}
use Rattle.std.proofs.Common.{arith, refl, sym, ap, subst, ◌∙◌}
use Rattle.std.specs.Prelude.{◌&&◌, ◌||◌, length, nat_lt, not}
use Rattle.std.proofs.lemmas.Bool.{and_parts, lt-ltb, ltb-true}
use Rattle.std.proofs.lemmas.List.{length-append}
use Rattle.std.proofs.lemmas.List.Folds.{list_any-append}
use Rattle.spec_document.specs.Forest.{Document, Plain}
use Rattle.spec_document.specs.Name.{Expanded}
use Rattle.spec_edit.specs.Edit as spec
use Rattle.spec_change.specs.Change.{Change, IsEdit, change_of}
use Rattle.spec_move.specs.Changed.{MoveChange, in_order, between}
use Rattle.spec_seen.specs.Seen.{seen}
use Rattle.spec_stylesheet.specs.Sheet as plain
use Rattle.spec_stylesheet.specs.Sheet.{SpaceRule}
use Rattle.spec_stylesheet.specs.declared.method.Method.{Method}
use Rattle.spec_structure.specs.Modules.{Modules}
use Rattle.spec_compile.specs.Sheet.{Refusal}
use Rattle.spec_run.specs.Documents.{main_name}
use Rattle.spec_items.specs.Lifted.{lifted}
use Rattle.spec_items.specs.Liftable.{is_liftable, with_items}
use Rattle.spec_meaning.specs.Question.{Question, Step, Text, Name, Place, Order, Key, Choice, Copy, Unit as UnitOf, External}
use Rattle.spec_node.specs.declared.node_ref.NodeRef.{NodeRef}
use Rattle.spec_cost.specs.Marking as tell
use Rattle.spec_cost.specs.Marking.{AddsStyle, Known, Mark, StyleIs, and_marks, are_marked, edited_so, edit_marks, is_marked, moved_so, move_marks}
use Rattle.spec_touch.specs.Leads.{Leads, seen_change}
use Rattle.spec_touch.specs.Marks as world
use Rattle.spec_touch.specs.Marks.{WorldChange, any_marks, is_unit_among, marks}
use Rattle.spec_touch.specs.Moved.{move_touched, stays_in_move}
use Rattle.spec_touch.specs.Plain.{spared, spared_by_move}
use Rattle.spec_touch.specs.Touched.{is_touched}
use Rattle.xt_touch.specs.View as since
use Rattle.xt_tree.specs.Numbers.{IsNumbered}
use Rattle.xt_tree.proofs.Bools.{or_cases, or_false, true_false}
use Rattle.xt_syntax.specs.SheetView.{space_rules_of}
use Rattle.xt_syntax.specs.declared.space_rules.SpaceRules.{SpaceRules}
use Rattle.xt_compile.specs.declared.fault.StaticRefusal.{StaticRefusal}
use Rattle.xt_world.specs.declared.stylesheet.Stylesheet.{Stylesheet as Held}
use Rattle.xt_record.specs.Asked.{NoUnitIsAsked, UnitIsAsked}
use Rattle.xt_record.specs.declared.pool.Pool.{Pool}
use Rattle.xt_held.specs.Alike.{LeaveOneOut}
use Rattle.xt_held.specs.Marked.{AreHeeded, AreToldBy, MarkAll, MarkAUnit}
use Rattle.xt_held.specs.RunView.{IsFaultless, SeesAll}
use Rattle.xt_held.specs.StylesheetView.{AreCompiled, AreCompiledBy}
use Rattle.xt_held.specs.declared.stylesheet.Compiled.{Compiled}
use Rattle.xt_held.specs.declared.stylesheet.Compiled.TheVariants.{Stylesheet, Refused}
use Rattle.xt_held.proofs.Sparing.{KeepingSpace, Leading, leads_so, sound_of}

-- ---- Marks

-- each question that the change marks is marked by what is told of it
abbrev pub TellsOf : Mark → WorldChange → Type 0
TellsOf mark change = (q : Question NodeRef) → marks change q ≡ true → is_marked mark q ≡ true

-- and each that is asked of the source or of a parameter alone, and that what is told of it marks, is marked by it
abbrev pub HeedsOf : Mark → WorldChange → Type 0
HeedsOf mark change = (q : Question NodeRef) → tell.by_modules q ≡ false → is_marked mark q ≡ true → marks change q ≡ true

-- and where what is told of it marks any unit, it marks one that these records ask for, if they ask for any
abbrev pub HeedsUnits : Pool → Mark → WorldChange → Type 0
HeedsUnits records mark change =
    (element : NodeRef) → is_marked mark (UnitOf element) ≡ true
    → NoUnitIsAsked records.records.items ⊎ ((asked : NodeRef) × UnitIsAsked asked records.records.items × (marks change (UnitOf asked) ≡ true))

true_unless : (b : Bool) → (b ≡ false → ⊥) → b ≡ true
true_unless true h = refl
true_unless false h = absurd (h refl)

room_is : (changes : List WorldChange) (change : WorldChange) → nat_lt (length changes) since.most_remembered ≡ true
    → since.remembered changes change ≡ changes ++ change ∷ []
room_is changes change e = ap (λ (b : Bool). cond b (changes ++ change ∷ []) (world.Anything ∷ [])) e

-- what is marked by one more is marked already, or by that
either_marks : (q : Question NodeRef) (change : WorldChange) (changes : List WorldChange) → any_marks (changes ++ change ∷ []) q ≡ true
    → (any_marks changes q ≡ true) ⊎ (marks change q ≡ true)
either_marks q change changes h =
    by (or_cases (any_marks changes q) (marks change q || false) (sym (list_any-append (λ c. marks c q) changes (change ∷ [])) ∙ h))
  where
    alone : (b : Bool) → (b || false) ≡ true → b ≡ true
    alone true e = refl
    alone false e = e

    by : ((any_marks changes q ≡ true) ⊎ ((marks change q || false) ≡ true)) → (any_marks changes q ≡ true) ⊎ (marks change q ≡ true)
    by (inl e) = inl e
    by (inr e) = inr (alone (marks change q) e)

-- where what is told leaves a question unmarked with one more: there was room, and neither marks it
record Leaves (marks : List Mark) (mark : Mark) (q : Question NodeRef) : Type 0 where
  room : nat_lt (length marks) tell.most_remembered ≡ true
  before : are_marked marks q ≡ false
  alone : is_marked mark q ≡ false

leaves : (ms : List Mark) (mark : Mark) (q : Question NodeRef) → are_marked (tell.remembered ms mark) q ≡ false → Leaves ms mark q
leaves ms mark q h = by (nat_lt (length ms) tell.most_remembered) refl h
  where
    by : (b : Bool) → nat_lt (length ms) tell.most_remembered ≡ b → are_marked (cond b (ms ++ mark ∷ []) (tell.Anything ∷ [])) q ≡ false
        → Leaves ms mark q
    by true e h =
        let both = or_false (are_marked ms q) (is_marked mark q || false) (sym (list_any-append (λ m. is_marked m q) ms (mark ∷ [])) ∙ h) in
        record { room = e; before = both.0; alone = (or_false (is_marked mark q) false both.1).0 }
    by false e h = absurd (true_false h)

told_room : (ms : List Mark) (mark : Mark) → nat_lt (length ms) tell.most_remembered ≡ true → tell.remembered ms mark ≡ ms ++ mark ∷ []
told_room ms mark e = ap (λ (b : Bool). cond b (ms ++ mark ∷ []) (tell.Anything ∷ [])) e

-- ---- One change more

-- there is room for one more change where what is told leaves a question unmarked
has_room : (records : Pool) (ms : List Mark) (changes : List WorldChange) (mark : Mark) (q : Question NodeRef) → AreToldBy records ms changes → Leaves ms mark q
    → nat_lt (length changes) since.most_remembered ≡ true
has_room records ms changes mark q h left =
    let most : length changes ≤ length ms = h.most q left.before in
    let less = ltb-true (length ms) 256 left.room in
    lt-ltb (length changes) 256 (omega (arith, most, less))

-- ---- What is heeded

-- where there is no room, anything may be another
full_is : (changes : List WorldChange) (change : WorldChange) → nat_lt (length changes) since.most_remembered ≡ false
    → since.remembered changes change ≡ world.Anything ∷ []
full_is changes change e = ap (λ (b : Bool). cond b (changes ++ change ∷ []) (world.Anything ∷ [])) e

or_true : (b c : Bool) → b ≡ true → (b || c) ≡ true
or_true true c e = refl
or_true false c e = absurd (cc)

true_or_so : (b c : Bool) → c ≡ true → (b || c) ≡ true
true_or_so true c e = refl
true_or_so false c e = e

all_is : (changes : List WorldChange) → changes ≡ world.Anything ∷ [] → MarkAll changes
all_is changes e = λ q. ap (λ (cs : List WorldChange). any_marks cs q) e

-- more changes mark what these do, and one that is marked by the last is
still_marks : (changes : List WorldChange) (change : WorldChange) (q : Question NodeRef) → any_marks changes q ≡ true
    → any_marks (changes ++ change ∷ []) q ≡ true
still_marks changes change q e =
    list_any-append (λ c. marks c q) changes (change ∷ []) ∙ or_true (any_marks changes q) (marks change q || false) e

last_marks : (changes : List WorldChange) (change : WorldChange) (q : Question NodeRef) → marks change q ≡ true
    → any_marks (changes ++ change ∷ []) q ≡ true
last_marks changes change q e =
    list_any-append (λ c. marks c q) changes (change ∷ [])
    ∙ true_or_so (any_marks changes q) (marks change q || false) (or_true (marks change q) false e)

module _ (records : Pool) (ms : List Mark) (mark : Mark) (changes : List WorldChange) (change : WorldChange) (heeds : HeedsOf mark change)
    (units : HeedsUnits records mark change) where
  abbrev Heeded : Type 0
  Heeded = MarkAll (since.remembered changes change) ⊎ AreHeeded records (tell.remembered ms mark) (since.remembered changes change)

  full : nat_lt (length changes) since.most_remembered ≡ false → Heeded
  full e = inl (all_is (since.remembered changes change) (full_is changes change e))

  more_all : MarkAll changes → Heeded
  more_all h = by (nat_lt (length changes) since.most_remembered) refl
    where
      by : (b : Bool) → nat_lt (length changes) since.most_remembered ≡ b → Heeded
      by true e = inl (subst MarkAll (sym (room_is changes change e)) (λ q. still_marks changes change q (h q)))
      by false e = full e

  either_told : (q : Question NodeRef) → are_marked (ms ++ mark ∷ []) q ≡ true → (are_marked ms q ≡ true) ⊎ (is_marked mark q ≡ true)
  either_told q h =
      by (or_cases (are_marked ms q) (is_marked mark q || false) (sym (list_any-append (λ m. is_marked m q) ms (mark ∷ [])) ∙ h))
    where
      alone : (b : Bool) → (b || false) ≡ true → b ≡ true
      alone true e = refl
      alone false e = e

      by : ((are_marked ms q ≡ true) ⊎ ((is_marked mark q || false) ≡ true)) → (are_marked ms q ≡ true) ⊎ (is_marked mark q ≡ true)
      by (inl e) = inl e
      by (inr e) = inr (alone (is_marked mark q) e)

  in_step : AreHeeded records ms changes → nat_lt (length changes) since.most_remembered ≡ true → nat_lt (length ms) tell.most_remembered ≡ true
  in_step h e = sym (ap (λ (n : ℕ). nat_lt n 256) h.count) ∙ e

  more_heeded : AreHeeded records ms changes → Heeded
  more_heeded h = by (nat_lt (length changes) since.most_remembered) refl
    where
      heeded : AreHeeded records (ms ++ mark ∷ []) (changes ++ change ∷ [])
      heeded = record {
        count = both (length-append changes (change ∷ [])) (length-append ms (mark ∷ [])) h.count;
        marked = λ q alone is. so q alone (either_told q is);
        units = λ element is. a_unit element (either_told (UnitOf element) is);
      }
        where
          both : {a b m n : ℕ} → a ≡ m + 1 → b ≡ n + 1 → m ≡ n → a ≡ b
          both e f k = omega (arith, e, f, k)

          so : (q : Question NodeRef) → tell.by_modules q ≡ false → ((are_marked ms q ≡ true) ⊎ (is_marked mark q ≡ true))
              → any_marks (changes ++ change ∷ []) q ≡ true
          so q alone (inl e) = still_marks changes change q (h.marked q alone e)
          so q alone (inr e) = last_marks changes change q (heeds q alone e)

          still : MarkAUnit records changes → MarkAUnit records (changes ++ change ∷ [])
          still (inl none) = inl none
          still (inr one) = inr (one.0, one.1, still_marks changes change (UnitOf one.0) one.2)

          a_unit : (element : NodeRef) → ((are_marked ms (UnitOf element) ≡ true) ⊎ (is_marked mark (UnitOf element) ≡ true))
              → MarkAUnit records (changes ++ change ∷ [])
          a_unit element (inl e) = still (h.units element e)
          a_unit element (inr e) = by_last (units element e)
            where
              by_last : (NoUnitIsAsked records.records.items
                  ⊎ ((asked : NodeRef) × UnitIsAsked asked records.records.items × (marks change (UnitOf asked) ≡ true)))
                  → MarkAUnit records (changes ++ change ∷ [])
              by_last (inl none) = inl none
              by_last (inr one) = inr (one.0, one.1, last_marks changes change (UnitOf one.0) one.2)

      by : (b : Bool) → nat_lt (length changes) since.most_remembered ≡ b → Heeded
      by true e =
          inr (subst (λ (cs : List WorldChange). AreHeeded records (tell.remembered ms mark) cs) (sym (room_is changes change e))
          (subst (λ (ks : List Mark). AreHeeded records ks (changes ++ change ∷ [])) (sym (told_room ms mark (in_step h e))) heeded))
      by false e = full e

  heeded_and : (MarkAll changes ⊎ AreHeeded records ms changes) → Heeded
  heeded_and (inl h) = more_all h
  heeded_and (inr h) = more_heeded h

pub told_and : (records : Pool) (ms : List Mark) (mark : Mark) (changes : List WorldChange) (change : WorldChange) → TellsOf mark change → HeedsOf mark change
    → HeedsUnits records mark change → AreToldBy records ms changes → AreToldBy records (tell.remembered ms mark) (since.remembered changes change)
told_and records ms mark changes change tells heeds units h = record {
  marked = λ q any. true_unless (are_marked (tell.remembered ms mark) q) (λ u.
      let left = leaves ms mark q u in
      let room = room_is changes change (has_room records ms changes mark q h left) in
      apart q left (either_marks q change changes (subst (λ (cs : List WorldChange). any_marks cs q ≡ true) room any)));
  most = λ q u.
      let left = leaves ms mark q u in
      let room = room_is changes change (has_room records ms changes mark q h left) in
      subst (λ (cs : List WorldChange). length cs ≤ length (tell.remembered ms mark)) (sym room)
      (subst (λ (ks : List Mark). length (changes ++ change ∷ []) ≤ length ks) (sym (told_room ms mark left.room))
      (longer (length-append changes (change ∷ [])) (length-append ms (mark ∷ [])) (h.most q left.before)));
  heeded = heeded_and records ms mark changes change heeds units h.heeded;
}
  where
    apart : (q : Question NodeRef) → Leaves ms mark q → ((any_marks changes q ≡ true) ⊎ (marks change q ≡ true)) → ⊥
    apart q left (inl e) = true_false (sym (h.marked q e) ∙ left.before)
    apart q left (inr e) = true_false (sym (tells q e) ∙ left.alone)

    longer : {a b m n : ℕ} → a ≡ m + 1 → b ≡ n + 1 → m ≤ n → a ≤ b
    longer e f k = omega (arith, e, f, k)

-- where anything may be another, whatever changed
all_marked : (ms : List Mark) (q : Question NodeRef) → are_marked (tell.remembered ms tell.Anything) q ≡ false → ⊥
all_marked ms q u = true_false (leaves ms tell.Anything q u).alone

pub anything_told : (records : Pool) (ms : List Mark) (changes : List WorldChange) → changes ≡ world.Anything ∷ []
    → AreToldBy records (tell.remembered ms tell.Anything) changes
anything_told records ms changes is = record {
  marked = λ q any. true_unless (are_marked (tell.remembered ms tell.Anything) q) (all_marked ms q);
  most = λ q u. absurd (all_marked ms q u);
  heeded = inl (all_is changes is);
}

pub anything_where : (records : Pool) (ms : List Mark) (mark : Mark) (changes : List WorldChange) → changes ≡ world.Anything ∷ [] → mark ≡ tell.Anything
    → AreToldBy records (tell.remembered ms mark) changes
anything_where records ms mark changes is e =
    subst (λ (m : Mark). AreToldBy records (tell.remembered ms m) changes) (sym e) (anything_told records ms changes is)

-- where nothing changes
pub same_told : (records : Pool) (ms : List Mark) (changes next : List WorldChange) → next ≡ changes → AreToldBy records ms changes → AreToldBy records ms next
same_told records ms changes next e h = subst (λ (cs : List WorldChange). AreToldBy records ms cs) (sym e) h

-- ---- An edit of the source, and a move in it

edit_tells : (change : Change) (asking : List (Option Expanded)) (loose : List ℕ) → TellsOf (tell.SourceEdited change) (world.SourceEdited change asking loose)
edit_tells change asking loose q h = (and_parts (is_touched change q) (not (spared asking change q)) h).0

-- no other question is spared than the choice of a rule
unspared : (b c : Bool) → c ≡ false → b ≡ true → (b && not c) ≡ true
unspared b c e h = ap (λ (x : Bool). b && not x) e ∙ by b h
  where
    by : (b : Bool) → b ≡ true → (b && true) ≡ true
    by true h = refl
    by false h = h

spares_choices : (change : Change) (asking : List (Option Expanded)) (q : Question NodeRef) → tell.by_modules q ≡ false → spared asking change q ≡ false
spares_choices change asking (Step node axis test) alone = refl
spares_choices change asking (Text node) alone = refl
spares_choices change asking (Name node) alone = refl
spares_choices change asking (Place node) alone = refl
spares_choices change asking (Order nodes) alone = refl
spares_choices change asking (Key name value) alone = absurd (cc)
spares_choices change asking (Choice node mode candidates) alone = absurd (cc)
spares_choices change asking (Copy node) alone = refl
spares_choices change asking (UnitOf element) alone = absurd (cc)
spares_choices change asking (External name) alone = refl

edit_heeds : (change : Change) (asking : List (Option Expanded)) (loose : List ℕ) → HeedsOf (tell.SourceEdited change) (world.SourceEdited change asking loose)
edit_heeds change asking loose q alone h = unspared (is_touched change q) (spared asking change q) (spares_choices change asking q alone) h

moves_spare_choices : (change : MoveChange) (asking : List (Option Expanded)) (q : Question NodeRef) → tell.by_modules q ≡ false
    → spared_by_move asking change q ≡ false
moves_spare_choices (in_order change) asking q alone = spares_choices change asking q alone
moves_spare_choices (between left entered) asking q alone =
    ap (λ (b : Bool). b && spared asking entered q) (spares_choices left asking q alone)

-- it marks no unit
no_edit_of_units : (change : Change) (element : NodeRef) → is_touched change (UnitOf element) ≡ false
no_edit_of_units change element = by change.of_attributes
  where
    by : (b : Bool) → cond b false false ≡ false
    by true = refl
    by false = refl

edit_units : (records : Pool) (change : Change) (asking : List (Option Expanded)) (loose : List ℕ)
    → HeedsUnits records (tell.SourceEdited change) (world.SourceEdited change asking loose)
edit_units records change asking loose element h = absurd (true_false (sym h ∙ no_edit_of_units change element))

no_move_of_units : (change : MoveChange) (element : NodeRef) → move_touched change (UnitOf element) ≡ false
no_move_of_units (in_order change) element = no_edit_of_units change element
no_move_of_units (between left entered) element =
    ap (λ (b : Bool). (b || is_touched entered (UnitOf element)) && not (stays_in_move left entered (UnitOf element))) (no_edit_of_units left element)
    ∙ ap (λ (b : Bool). b && not (stays_in_move left entered (UnitOf element))) (no_edit_of_units entered element)

move_units : (records : Pool) (change : MoveChange) (asking : List (Option Expanded))
    → HeedsUnits records (tell.SourceMoved change) (world.SourceMoved change asking)
move_units records change asking element h = absurd (true_false (sym h ∙ no_move_of_units change element))

move_heeds : (change : MoveChange) (asking : List (Option Expanded)) → HeedsOf (tell.SourceMoved change) (world.SourceMoved change asking)
move_heeds change asking q alone h = unspared (move_touched change q) (spared_by_move asking change q) (moves_spare_choices change asking q alone) h

move_tells : (change : MoveChange) (asking : List (Option Expanded)) → TellsOf (tell.SourceMoved change) (world.SourceMoved change asking)
move_tells change asking q h = (and_parts (move_touched change q) (not (spared_by_move asking change q)) h).0

-- the change of an edit is told as it is seen
pub edit_told : Leading → KeepingSpace → (records : Pool) (ms : List Mark) (rules : List SpaceRule) (edit : spec.Edit) (old new : Document ℕ) → IsFaultless old
    → IsNumbered old → IsEdit edit old new → (first change : Change) → change_of edit old new ≡ Some first
    → (Leads (seen_change first (seen rules old) (seen rules new)) (seen rules old) (seen rules new)
    → change ≡ seen_change first (seen rules old) (seen rules new))
    → (asking : List (Option Expanded)) (loose : List ℕ) (changes next : List WorldChange)
    → next ≡ since.remembered changes (world.SourceEdited change asking loose)
    → AreToldBy records ms changes → AreToldBy records (tell.remembered ms (edit_marks (Some rules) edit old new)) next
edit_told leading keeping records ms rules edit old new faultless numbers q first change is seen_so asking loose changes next e h =
    let same = seen_so (leads_so leading keeping rules edit old new q (sound_of old numbers faultless) first is) in
    let mark : edit_marks (Some rules) edit old new ≡ tell.SourceEdited change
    = ap (edited_so rules old new) is ∙ ap (λ (c : Change). tell.SourceEdited c) (sym same) in
    subst (λ (cs : List WorldChange). AreToldBy records (tell.remembered ms (edit_marks (Some rules) edit old new)) cs) (sym e)
    (subst (λ (m : Mark). AreToldBy records (tell.remembered ms m) (since.remembered changes (world.SourceEdited change asking loose))) (sym mark)
    (told_and records ms (tell.SourceEdited change) changes (world.SourceEdited change asking loose) (edit_tells change asking loose)
    (edit_heeds change asking loose) (edit_units records change asking loose) h))

pub move_told : (records : Pool) (ms : List Mark) (is : Option MoveChange) (change : MoveChange) → Some change ≡ is
    → (asking : List (Option Expanded)) (changes next : List WorldChange) → next ≡ since.remembered changes (world.SourceMoved change asking)
    → AreToldBy records ms changes → AreToldBy records (tell.remembered ms (moved_so is)) next
move_told records ms is change e asking changes next f h =
    subst (λ (cs : List WorldChange). AreToldBy records (tell.remembered ms (moved_so is)) cs) (sym f)
    (subst (λ (o : Option MoveChange). AreToldBy records (tell.remembered ms (moved_so o)) (since.remembered changes (world.SourceMoved change asking))) e
    (told_and records ms (tell.SourceMoved change) changes (world.SourceMoved change asking) (move_tells change asking) (move_heeds change asking)
    (move_units records change asking) h))

pub no_move_told : (records : Pool) (ms : List Mark) (is : Option MoveChange) (changes : List WorldChange) → changes ≡ world.Anything ∷ [] → None ≡ is
    → AreToldBy records (tell.remembered ms (moved_so is)) changes
no_move_told records ms is changes all e =
    subst (λ (o : Option MoveChange). AreToldBy records (tell.remembered ms (moved_so o)) changes) e (anything_told records ms changes all)

-- where all is seen it is the move that is told of; else anything
pub move_where_all : (rules : SpaceRules) (path other : List ℕ) (old new : Document ℕ) → SeesAll rules
    → move_marks (Some (space_rules_of rules).rules) path other old new ≡ move_marks (Some []) path other old new
move_where_all rules path other old new e = ap (λ (rs : List SpaceRule). move_marks (Some rs) path other old new) e

pub move_where_some : (rules : SpaceRules) (path other : List ℕ) (old new : Document ℕ) → (SeesAll rules → ⊥)
    → move_marks (Some (space_rules_of rules).rules) path other old new ≡ tell.Anything
move_where_some rules path other old new h = by (space_rules_of rules).rules h
  where
    by : (rs : List SpaceRule) → (rs ≡ [] → ⊥) → move_marks (Some rs) path other old new ≡ tell.Anything
    by [] h = absurd (h refl)
    by (r ∷ rs) h = refl

-- ---- A change of modules

style_tells : (units : List NodeRef) (asking : Option (List (Option Expanded))) → TellsOf tell.Restyled (world.ModulesChanged units asking)
style_tells units asking (Step node axis test) h = absurd (cc)
style_tells units asking (Text node) h = absurd (cc)
style_tells units asking (Name node) h = absurd (cc)
style_tells units asking (Place node) h = absurd (cc)
style_tells units asking (Order nodes) h = absurd (cc)
style_tells units asking (Key name value) h = refl
style_tells units asking (Choice node mode candidates) h = refl
style_tells units asking (Copy node) h = absurd (cc)
style_tells units asking (UnitOf element) h = refl
style_tells units asking (External name) h = absurd (cc)

style_heeds : (units : List NodeRef) (asking : Option (List (Option Expanded))) → HeedsOf tell.Restyled (world.ModulesChanged units asking)
style_heeds units asking q alone h = absurd (true_false (sym h ∙ alone))

-- but for the one that is left out
not_among : (b : Bool) → b ≡ false → not b ≡ true
not_among true e = absurd (cc)
not_among false e = refl

style_units : (records : Pool) (units : List NodeRef) (asking : Option (List (Option Expanded))) → LeaveOneOut records units
    → HeedsUnits records tell.Restyled (world.ModulesChanged units asking)
style_units records units asking (inl none) element h = inl none
style_units records units asking (inr one) element h = inr (one.0, one.1, not_among (is_unit_among units one.0) one.2)

pub style_told : (records : Pool) (ms : List Mark) (units : List NodeRef) (asking : Option (List (Option Expanded))) (changes next : List WorldChange)
    → LeaveOneOut records units → next ≡ since.remembered changes (world.ModulesChanged units asking) → AreToldBy records ms changes
    → AreToldBy records (tell.remembered ms tell.Restyled) next
style_told records ms units asking changes next out e h =
    same_told records (tell.remembered ms tell.Restyled) (since.remembered changes (world.ModulesChanged units asking)) next e
    (told_and records ms tell.Restyled changes (world.ModulesChanged units asking) (style_tells units asking) (style_heeds units asking)
    (style_units records units asking out) h)

-- nothing was known
pub style_unknown : (known : Known) (sheet : plain.Sheet) → known ≡ None → StyleIs known (Ok sheet) (tell.Anything ∷ [])
style_unknown known sheet e = subst (λ (k : Known). StyleIs k (Ok sheet) (tell.Anything ∷ [])) (sym e) refl

-- the rules are as they were, or others
pub style_same : (known : Known) (sheet : plain.Sheet) (old new : plain.SpaceRules) → known ≡ Some old.rules → new ≡ old → new ≡ sheet.space_rules
    → StyleIs known (Ok sheet) (tell.Restyled ∷ [])
style_same known sheet old new k same is =
    subst (λ (k : Known). StyleIs k (Ok sheet) (tell.Restyled ∷ [])) (sym k) (inl (ap (λ (rs : plain.SpaceRules). rs.rules) (sym is ∙ same), refl))

pub style_other : (known : Known) (sheet : plain.Sheet) (old new : plain.SpaceRules) → known ≡ Some old.rules → (new ≡ old → ⊥)
    → new ≡ sheet.space_rules → StyleIs known (Ok sheet) (tell.Anything ∷ [])
style_other known sheet old new k other is =
    subst (λ (k : Known). StyleIs k (Ok sheet) (tell.Anything ∷ [])) (sym k)
    (inr (λ same. other (is ∙ ap (λ (rs : List SpaceRule). record { rules = rs }) same), refl))

-- the contents that are lifted bear on no rule for white space
pub rules_with_items : (sheet : plain.Sheet) → (with_items sheet).space_rules ≡ sheet.space_rules
rules_with_items sheet = by (is_liftable sheet)
  where
    by : (b : Bool) → (cond b (lifted sheet) sheet).space_rules ≡ sheet.space_rules
    by true = refl
    by false = refl

-- of modules that are none, and of refused ones, nothing is told
pub none_add : (modules : Modules) (known : Known) (compiled : Option Compiled) → compiled ≡ None → AreCompiled modules compiled
    → AddsStyle modules (modules main_name) known []
none_add modules known compiled e h = by (modules main_name) (subst (λ (c : Option Compiled). AreCompiledBy modules (modules main_name) c) e h.so)
  where
    by : (main : Option Plain) → AreCompiledBy modules main None → AddsStyle modules main known []
    by None h = refl
    by (Some main) h = absurd h

pub refused_add : (modules : Modules) (known : Known) (compiled : Option Compiled) (why : StaticRefusal) → compiled ≡ Some (Refused why)
    → AreCompiled modules compiled → AddsStyle modules (modules main_name) known []
refused_add modules known compiled why e h = by (modules main_name) (subst (λ (c : Option Compiled). AreCompiledBy modules (modules main_name) c) e h.so)
  where
    by : (main : Option Plain) → AreCompiledBy modules main (Some (Refused why)) → AddsStyle modules main known []
    by None h = absurd h
    by (Some main) h = (h.result, h.is, subst (λ (r : Result plain.Sheet Refusal). StyleIs known r []) (sym h.holds) refl)

-- the stylesheet that modules are, with these rules
pub record Styles (modules : Modules) (rules : SpaceRules) : Type 0 where
  pub sheet : plain.Sheet
  pub rules_are : space_rules_of rules ≡ sheet.space_rules
  pub adds : (known : Known) (style : List Mark) → StyleIs known (Ok sheet) style → AddsStyle modules (modules main_name) known style

pub styles : (modules : Modules) (compiled : Option Compiled) (held : Held) (rules : SpaceRules) (method : Option (Method Expanded))
    → compiled ≡ Some (Stylesheet held rules method) → AreCompiled modules compiled → Styles modules rules
styles modules compiled held rules method e h =
    let sheet = by (modules main_name) (subst (λ (c : Option Compiled). AreCompiledBy modules (modules main_name) c) e h.so) in
    record { sheet = sheet.0; rules_are = sheet.1; adds = sheet.2 }
  where
    by : (main : Option Plain) → AreCompiledBy modules main (Some (Stylesheet held rules method))
        → (sheet : plain.Sheet) × (space_rules_of rules ≡ sheet.space_rules)
        × ((known : Known) (style : List Mark) → StyleIs known (Ok sheet) style → AddsStyle modules main known style)
    by None h = absurd h
    by (Some main) h = (
      h.holds.0,
      h.holds.3 ∙ rules_with_items h.holds.0,
      λ known style is. (h.result, h.is, subst (λ (r : Result plain.Sheet Refusal). StyleIs known r style) (sym h.holds.1) is),
    )

-- ---- A parameter

value_tells : (name : List ℕ) → TellsOf (tell.Given name) (world.ParameterGiven name)
value_tells name (Step node axis test) h = absurd (cc)
value_tells name (Text node) h = absurd (cc)
value_tells name (Name node) h = absurd (cc)
value_tells name (Place node) h = absurd (cc)
value_tells name (Order nodes) h = absurd (cc)
value_tells name (Key key value) h = absurd (cc)
value_tells name (Choice node mode candidates) h = absurd (cc)
value_tells name (Copy node) h = absurd (cc)
value_tells name (UnitOf element) h = absurd (cc)
value_tells name (External other) h = h

value_heeds : (name : List ℕ) → HeedsOf (tell.Given name) (world.ParameterGiven name)
value_heeds name (Step node axis test) alone h = absurd (cc)
value_heeds name (Text node) alone h = absurd (cc)
value_heeds name (Name node) alone h = absurd (cc)
value_heeds name (Place node) alone h = absurd (cc)
value_heeds name (Order nodes) alone h = absurd (cc)
value_heeds name (Key key value) alone h = absurd (cc)
value_heeds name (Choice node mode candidates) alone h = absurd (cc)
value_heeds name (Copy node) alone h = absurd (cc)
value_heeds name (UnitOf element) alone h = absurd (cc)
value_heeds name (External other) alone h = h

value_units : (records : Pool) (name : List ℕ) → HeedsUnits records (tell.Given name) (world.ParameterGiven name)
value_units records name element h = absurd (cc)

pub value_told : (records : Pool) (ms : List Mark) (name : List ℕ) (changes next : List WorldChange)
    → next ≡ since.remembered changes (world.ParameterGiven name)
    → AreToldBy records ms changes → AreToldBy records (tell.remembered ms (tell.Given name)) next
value_told records ms name changes next e h =
    same_told records (tell.remembered ms (tell.Given name)) (since.remembered changes (world.ParameterGiven name)) next e
    (told_and records ms (tell.Given name) changes (world.ParameterGiven name) (value_tells name) (value_heeds name) (value_units records name) h)
