use Rattle.std.proofs.Common.{◌≡◌, ◌==◌, true, false, List, length, sym, ap, ◌∙◌}
use Rattle.spec_meaning.specs.Call.{language_of}
use Rattle.spec_node.specs.declared.node_ref.NodeRef.{NodeRef}
use Rattle.xt_questions.proofs.Steps.{runs_stop, runs_from, goes_on, next_turn, exits}
use Rattle.xp_functions.proofs.Within.{continues_as, runs_as, language_is, language_of_first, no_language, is_some, is_none}
use Rattle.xp_functions.proofs.language.language_of.Goals as goal

pub returns-in_err-attributes-clause-runs : goal.returns-in_err-attributes-clause-runs
returns-in_err-attributes-clause-runs g c supply depth =
    let here = continues_as (language_is c.args.wanted.now _ _) (next_turn (language_of c.args.wanted.now) c.args.elements.now c.loop-element.element-index _ c.loop-element-test.true (c.loop-element.invariant.same supply depth)) in
    exits _ c.from_residual.ensures.1 (runs_from here (runs_stop _ (c.in_err-attributes.ensures.runs supply depth)))

pub returns-then-not-is_empty-clause-runs : goal.returns-then-not-is_empty-clause-runs
returns-then-not-is_empty-clause-runs g c supply depth =
    let here = continues_as (language_is c.args.wanted.now _ _) (next_turn (language_of c.args.wanted.now) c.args.elements.now c.loop-element.element-index _ c.loop-element-test.true (c.loop-element.invariant.same supply depth)) in
    let after = goes_on _ here (c.in_ok-attributes.ensures.runs supply depth) in
    let items = c.in_ok-attributes.attributes.items in
    let e : (length items == 0) ≡ false = sym (ap (λ (l : List NodeRef). length l == 0) c.as_slice.ensures.value) ∙ sym c.is_empty.ensures ∙ c.if-not-is_empty.true in
    let r = rw c.as_slice-then-not-is_empty.ensures.value at (c.language_at.ensures.runs supply depth) in
    runs_from after (runs_as (sym (language_of_first c.args.wanted.now _ items _ (is_some items e))) r)

pub loop-element-preserved : goal.loop-element-preserved
loop-element-preserved g c =
    record {
      same = λ supply depth.
          let here = continues_as (language_is c.args.wanted.now _ _) (next_turn (language_of c.args.wanted.now) c.args.elements.now c.loop-element.element-index _ c.loop-element-test.true (c.loop-element.invariant.same supply depth)) in
          let after = goes_on _ here (c.in_ok-attributes.ensures.runs supply depth) in
          let items = c.in_ok-attributes.attributes.items in
          let e : (length items == 0) ≡ true = sym (ap (λ (l : List NodeRef). length l == 0) c.as_slice.ensures.value) ∙ sym c.is_empty.ensures ∙ c.if-not-is_empty.false in
          continues_as (no_language c.args.wanted.now _ items (is_none items e)) after;
      name = c.lang_attributes.ensures.name ∙ c.loop-element.invariant.name;
    }
