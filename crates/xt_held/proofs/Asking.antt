-- What a run asks again, by what is told of the changes since the last run with a result.
use Rattle.std.proofs.Common.{◌≡◌, ◌≤◌, ◌⊎◌, inl, inr, ℕ, ◌+◌, Bool, true, false, List, [], ◌∷◌, map, Option, None, Some}
use Rattle.std.proofs.Common.{Result, Ok, Err, arith, refl, sym, ap, subst, ◌∙◌}
use Rattle.std.specs.Prelude.{IfOk, IfSome, ◌||◌}
use Rattle.std.specs.declared.alloc.Global.{Global}
use Rattle.std.specs.declared.rc.Rc.{Rc}
use Rattle.spec_meaning.specs.Question.{Question, Step, Text, Name, Place, Order, Key, Choice, Copy, Unit as UnitOf, External}
use Rattle.spec_structure.specs.Modules.{Modules}
use Rattle.spec_run.specs.Documents.{main_name}
use Rattle.spec_run.specs.Going.{Event, Asked, Saw, Entered, Held}
use Rattle.spec_node.specs.declared.node_ref.NodeRef.{NodeRef}
use Rattle.spec_cost.specs.Marking as spec
use Rattle.spec_cost.specs.Marking.{AddsStyle, Known, Mark, and_marks, are_marked}
use Rattle.spec_cost.specs.Paying as paying
use Rattle.spec_cost.specs.Paying.{MarksFor}
use Rattle.spec_touch.specs.Marks.{WorldChange, any_marks}
use Rattle.xt_spared.specs.View.{by_own_reads}
use Rattle.xt_text.specs.declared.memory.Memory.{Memory}
use Rattle.xt_touch.specs.View.{since_of}
use Rattle.xt_record.specs.Asked.{AsksUnit, NoneMarked, NoneMarkedAmong, UnitIsAsked, marked_in, marked_among, marked_of, one_if}
use Rattle.xt_record.specs.View.{kept_in}
use Rattle.xt_record.specs.declared.pool.Pool.{Pool}
use Rattle.xt_record.specs.declared.record.Record.{Record}
use Rattle.xt_driver.specs.Counted.{kept_at}
use Rattle.xt_tree.proofs.Bools.{true_false}
use Rattle.xt_held.specs.Marked.{AreHeeded, AreToldBy, AsksLeast, IsAskedBy, IsLeastOf, MarkAll, MarkAUnit, left_of, records_after}
use Rattle.xt_held.specs.OutcomeView.{since_after}
use Rattle.xt_held.specs.declared.counts.Counts.{Counts}
use Rattle.xt_held.specs.declared.last_run.Kept.{Kept}
use Rattle.xt_held.specs.declared.outcome.Came.{Came}

-- ---- No more is asked than is told of

sum_most : (a b c d : ℕ) → a ≤ c → b ≤ d → a + b ≤ c + d
sum_most a b c d h k = omega (arith, h, k)

one_most : (b c : Bool) → (b ≡ true → c ≡ true) → one_if b ≤ spec.one_if c
one_most false false h = omega arith
one_most false true h = omega arith
one_most true true h = omega arith
one_most true false h = absurd (true_is (h refl))
  where
    true_is : false ≡ true → ⊥
    true_is e = absurd (cc)

module _ (records : Pool) (marks : List Mark) (changes : List WorldChange) (told : AreToldBy records marks changes) where
  trace_most : (es : List (Event NodeRef)) → marked_in changes es ≤ spec.marked_in marks es
  trace_most [] = omega arith
  trace_most (Asked question answer ∷ es) =
      sum_most (one_if (any_marks changes question)) (marked_in changes es) (spec.one_if (are_marked marks question)) (spec.marked_in marks es)
      (one_most (any_marks changes question) (are_marked marks question) (told.marked question)) (trace_most es)
  trace_most (Saw wanted depth place supplied ∷ es) = trace_most es
  trace_most (Entered call depth ∷ es) = trace_most es
  trace_most (Held first contents ∷ es) = trace_most es

  among_most : (rs : List (Rc Record Global)) → marked_among changes rs ≤ spec.marked_among marks (map kept_at rs)
  among_most [] = omega arith
  among_most (r ∷ rs) =
      sum_most (marked_in changes (kept_in r.value).trace) (marked_among changes rs) (spec.marked_in marks (kept_in r.value).trace)
      (spec.marked_among marks (map kept_at rs)) (trace_most (kept_in r.value).trace) (among_most rs)

  asked_most : (n : ℕ) → n ≤ marked_of changes records → n ≤ spec.marked_among marks (map kept_at records.records.items)
  asked_most n h = let most = among_most records.records.items in omega (arith, h, most)

  -- ---- Nor less than is told of the source, of parameters and of units

  -- what is no key and no choice
  own_so : (q : Question NodeRef) → spec.by_own_reads q ≡ false → by_own_reads q ≡ false
  own_so (Step node axis test) h = refl
  own_so (Text node) h = refl
  own_so (Name node) h = refl
  own_so (Place node) h = refl
  own_so (Order nodes) h = refl
  own_so (Key name value) h = absurd (cc)
  own_so (Choice node mode candidates) h = absurd (cc)
  own_so (Copy node) h = refl
  own_so (UnitOf element) h = refl
  own_so (External name) h = refl

  not_marked : (b c : Bool) → (c ≡ true → b ≡ true) → b ≡ false → c ≡ false
  not_marked b false h e = refl
  not_marked true true h e = absurd (cc)
  not_marked false true h e = absurd (true_false (sym (h refl)))

  not_so : (b : Bool) → (b ≡ true → ⊥) → b ≡ false
  not_so true h = absurd (h refl)
  not_so false h = refl

  unmarked_so : (q : Question NodeRef) → spec.by_modules q ≡ false → any_marks changes q ≡ false → are_marked marks q ≡ false
  unmarked_so q alone none = by told.heeded
    where
      by : (MarkAll changes ⊎ AreHeeded records marks changes) → are_marked marks q ≡ false
      by (inl all) = absurd (true_false (sym (all q) ∙ none))
      by (inr h) = not_marked (any_marks changes q) (are_marked marks q) (h.marked q alone) none

  -- a unit that was asked for among what was done
  unit_unmarked : (element : NodeRef) (es : List (Event NodeRef)) → NoneMarked changes es → AsksUnit element es → any_marks changes (UnitOf element) ≡ false
  unit_unmarked element [] h asks = absurd asks
  unit_unmarked element (Asked question answer ∷ es) h (inl is) = sym (ap (any_marks changes) is) ∙ h.0 (ap by_own_reads is)
  unit_unmarked element (Asked question answer ∷ es) h (inr asks) = unit_unmarked element es h.1 asks
  unit_unmarked element (Saw wanted depth place supplied ∷ es) h asks = unit_unmarked element es h asks
  unit_unmarked element (Entered call depth ∷ es) h asks = unit_unmarked element es h asks
  unit_unmarked element (Held first contents ∷ es) h asks = unit_unmarked element es h asks

  units_unmarked : (element : NodeRef) (rs : List (Rc Record Global)) → NoneMarkedAmong changes rs → UnitIsAsked element rs
      → any_marks changes (UnitOf element) ≡ false
  units_unmarked element [] h asks = absurd asks
  units_unmarked element (r ∷ rs) h (inl asks) = unit_unmarked element (kept_in r.value).trace h.0 asks
  units_unmarked element (r ∷ rs) h (inr asks) = units_unmarked element rs h.1 asks

  -- where the changes mark none of the questions of the records
  module _ (none : NoneMarkedAmong changes records.records.items) where
    unit_so : (element : NodeRef) → UnitIsAsked element records.records.items → are_marked marks (UnitOf element) ≡ false
    unit_so element asked = by told.heeded
      where
        against : MarkAUnit records changes → ⊥
        against (inl none_asked) = none_asked element asked
        against (inr one) = true_false (sym one.2 ∙ units_unmarked one.0 records.records.items none one.1)

        by : (MarkAll changes ⊎ AreHeeded records marks changes) → are_marked marks (UnitOf element) ≡ false
        by (inl all) = absurd (true_false (sym (all (UnitOf element)) ∙ units_unmarked element records.records.items none asked))
        by (inr h) = not_so (are_marked marks (UnitOf element)) (λ is. against (h.units element is))

    question_so : (q : Question NodeRef) → ((element : NodeRef) → q ≡ UnitOf element → UnitIsAsked element records.records.items)
        → spec.by_own_reads q ≡ false → any_marks changes q ≡ false → are_marked marks q ≡ false
    question_so (Step node axis test) among alone h = unmarked_so (Step node axis test) refl h
    question_so (Text node) among alone h = unmarked_so (Text node) refl h
    question_so (Name node) among alone h = unmarked_so (Name node) refl h
    question_so (Place node) among alone h = unmarked_so (Place node) refl h
    question_so (Order nodes) among alone h = unmarked_so (Order nodes) refl h
    question_so (Key name value) among alone h = absurd (cc)
    question_so (Choice node mode candidates) among alone h = absurd (cc)
    question_so (Copy node) among alone h = unmarked_so (Copy node) refl h
    question_so (UnitOf element) among alone h = unit_so element (among element refl)
    question_so (External name) among alone h = unmarked_so (External name) refl h

    trace_least : (es : List (Event NodeRef)) → ((element : NodeRef) → AsksUnit element es → UnitIsAsked element records.records.items)
        → NoneMarked changes es → paying.NoneMarked marks es
    trace_least [] among h = tt
    trace_least (Asked question answer ∷ es) among h = (
      λ alone. question_so question (λ element is. among element (inl is)) alone (h.0 (own_so question alone)),
      trace_least es (λ element asks. among element (inr asks)) h.1,
    )
    trace_least (Saw wanted depth place supplied ∷ es) among h = trace_least es among h
    trace_least (Entered call depth ∷ es) among h = trace_least es among h
    trace_least (Held first contents ∷ es) among h = trace_least es among h

    among_least : (rs : List (Rc Record Global)) → ((element : NodeRef) → UnitIsAsked element rs → UnitIsAsked element records.records.items)
        → NoneMarkedAmong changes rs → paying.NoneMarkedAmong marks (map kept_at rs)
    among_least [] among h = tt
    among_least (r ∷ rs) among h = (
      trace_least (kept_in r.value).trace (λ element asks. among element (inl asks)) h.0,
      among_least rs (λ element asks. among element (inr asks)) h.1,
    )

  least_so : (counts : Counts) → AsksLeast changes records counts → IsLeastOf marks records counts
  least_so counts h = λ ran asked. let none = h ran asked in among_least none records.records.items (λ element asks. asks) none

  least_where : (new : Option Kept) (counts : Counts) → IfSome new (λ kept. AsksLeast changes records counts)
      → IfSome new (λ kept. IsLeastOf marks records counts)
  least_where None counts h = tt
  least_where (Some kept) counts h = least_so counts h

-- ---- What is told of after a run

pub nothing_told : (records : Pool) → AreToldBy records [] []
nothing_told records = record {
  marked = λ question is. is;
  most = λ question unmarked. omega arith;
  heeded = inr (record { count = refl; marked = λ question alone is. is; units = λ element is. absurd (cc) });
}

left_told : (records : Pool) (marks : List Mark) (changes : List WorldChange) (kept : Option Kept) (since : List WorldChange) → AreToldBy records marks changes
    → since ≡ since_after kept changes → AreToldBy (records_after kept records) (left_of kept marks) since
left_told records marks changes None since told is = subst (λ (cs : List WorldChange). AreToldBy records marks cs) (sym is) told
left_told records marks changes (Some kept) since told is =
    subst (λ (cs : List WorldChange). AreToldBy kept.records [] cs) (sym is) (nothing_told kept.records)

-- where there is a result
abbrev LeastOf : List WorldChange → Pool → Came → Type 0
LeastOf changes records came = IfSome came.kept (λ kept. AsksLeast changes records came.counts)

asked_by : (marks : List Mark) (changes : List WorldChange) (records : Pool) (came : Came) → AreToldBy records marks changes
    → came.counts.asked ≤ marked_of changes records → LeastOf changes records came → since_of came.since ≡ since_after came.kept changes
    → IsAskedBy marks records came
asked_by marks changes records came told asked least since = record {
  again = asked_most records marks changes told came.counts.asked asked;
  least = least_where records marks changes told came.kept came.counts least;
  left = left_told records marks changes came.kept (since_of came.since) told since;
}

pub came_asked : (marks : List Mark) (changes : List WorldChange) (records : Pool) (r : Result Came Memory) → AreToldBy records marks changes
    → IfOk r (λ came. came.counts.asked ≤ marked_of changes records) → IfOk r (LeastOf changes records)
    → IfOk r (λ came. since_of came.since ≡ since_after came.kept changes) → IfOk r (IsAskedBy marks records)
came_asked marks changes records (Err memory) told asked least since = tt
came_asked marks changes records (Ok came) told asked least since = asked_by marks changes records came told asked least since

-- with what the modules are then
pub styled_asked : (modules : Modules) (known : Known) (told : List Mark) (changes : List WorldChange) (records : Pool) (r : Result Came Memory)
    → (style : List Mark) × AddsStyle modules (modules main_name) known style × AreToldBy records (and_marks told style) changes
    → IfOk r (λ came. came.counts.asked ≤ marked_of changes records) → IfOk r (LeastOf changes records)
    → IfOk r (λ came. since_of came.since ≡ since_after came.kept changes)
    → IfOk r (λ came. (style : List Mark) × AddsStyle modules (modules main_name) known style × IsAskedBy (and_marks told style) records came)
styled_asked modules known told changes records (Err memory) styled asked least since = tt
styled_asked modules known told changes records (Ok came) styled asked least since =
    (styled.0, styled.1, asked_by (and_marks told styled.0) changes records came styled.2 asked least since)

-- ---- What a change tells

-- where no module was changed
pub as_told : (b : Bool) (modules : Modules) (known : Known) (told : List Mark) → b ≡ false → MarksFor (b || false) modules known told told
as_told true modules known told e = absurd (cc)
as_told false modules known told e = refl

-- where one was, or is
pub with_style : (b other : Bool) (modules : Modules) (known : Known) (told style : List Mark) → (b || other) ≡ true
    → AddsStyle modules (modules main_name) known style → MarksFor (b || other) modules known told (and_marks told style)
with_style b other modules known told style e adds =
    subst (λ (is : Bool). MarksFor is modules known told (and_marks told style)) (sym e) (style, adds, refl)

pub or_is_true : (b : Bool) → (b || true) ≡ true
or_is_true true = refl
or_is_true false = refl

pub true_or : (b : Bool) → b ≡ true → (b || false) ≡ true
true_or true e = refl
true_or false e = absurd (cc)
