-- The choice among rules with plain patterns is the same over one source in the worlds of two stylesheets with the same rules and elements.
use Rattle.std.proofs.Common.{◌≡◌, ℕ, ◌+◌, Bool, true, false, cond, List, [], ◌∷◌, Option, None, Some, refl, ap, ◌∙◌}
use Rattle.std.specs.Prelude.{◌&&◌, ◌||◌, not, reverse, slice_get}
use Rattle.std.specs.List.{list_all}
use Rattle.spec_document.specs.Name.{Expanded}
use Rattle.spec_document.specs.Forest.{Document}
use Rattle.spec_document.specs.Order.{Entry, entries_of}
use Rattle.spec_document.specs.declared.axis.Axis.TheVariants as axis
use Rattle.spec_expression.specs.declared.NodeType.TheVariants as type
use Rattle.spec_expression.specs.Syntax.{Exprs, no_exprs, expr, Step, OfType}
use Rattle.spec_stylesheet.specs.declared.pattern.Start.{Start}
use Rattle.spec_stylesheet.specs.Pattern.{PatternStep, Alternative}
use Rattle.spec_stylesheet.specs.Sheet.{Rule, Rules}
use Rattle.spec_meaning.specs.Question as question
use Rattle.spec_meaning.specs.Question.{Question, Answer, Candidates, Chosen, ChosenRule, nodes_in}
use Rattle.spec_meaning.specs.Program.{Give, Ask, Said, Gives, Refuses, Lacks, outcome_of, then}
use Rattle.spec_meaning.specs.Context.{Context}
use Rattle.spec_meaning.specs.Truth.{entry_named, told_of}
use Rattle.spec_transform.specs.Match.{keep_alone, holds_of_one, is_given_below, passes, passes_predicates, passes_step, axis_above}
use Rattle.spec_transform.specs.Match.{is_free, holds_above, matches_steps, matches_one}
use Rattle.spec_transform.specs.Position.{read_no_position}
use Rattle.spec_transform.specs.Choice.{same_mode, is_candidate, is_chosen, first_that_matches, chosen, context_for}
use Rattle.spec_transform.specs.Key.{no_globals}
use Rattle.spec_run.specs.Documents.{Parameters}
use Rattle.spec_node.specs.declared.node_ref.NodeRef.{NodeRef}
use Rattle.spec_node.specs.Naming.{ref_of, same_ref}
use Rattle.spec_touch.specs.Plain.{are_none, is_plain_step, is_plain_start, is_plain_alternative, is_plain_in, are_plain_in}
use Rattle.spec_touch.proofs.Choosing.{AreAlike, all-reverse, choice-alike, outcome-same}
use Rattle.spec_touch.proofs.Entries.{first-of, second-of}
use Rattle.xt_syntax.specs.SheetView.{rules_of}
use Rattle.xt_match.specs.Context.{units_in}
use Rattle.xt_world.specs.SourceView.{source_in}
use Rattle.xt_world.specs.View.{chosen_by, chosen_in, rule_held, said_of, truth_in}
use Rattle.xt_world.specs.declared.stylesheet.Stylesheet.{Stylesheet}

-- ---- What a plain pattern asks is the same in any context

module _ {N : Type 0} (same : N → N → Bool) where
  predicates_anyhow : (c d : Context N) (s : Step) → are_none s.predicates ≡ true → (n : N)
      → passes_predicates same c s n ≡ passes_predicates same d s n
  predicates_anyhow c d s plain n = by s.predicates plain
    where
      by : (ps : Exprs) → are_none ps ≡ true
          → cond (read_no_position ps) (keep_alone c n ps)
          (Ask (question.Step n axis.Parent (OfType type.Node)) (λ a. holds_of_one (is_given_below same c s n) (nodes_in a)))
          ≡ cond (read_no_position ps) (keep_alone d n ps)
          (Ask (question.Step n axis.Parent (OfType type.Node)) (λ a. holds_of_one (is_given_below same d s n) (nodes_in a)))
      by no_exprs e = refl
      by (expr p ps) e = absurd (cc)

  step_anyhow : (c d : Context N) (s : Step) → are_none s.predicates ≡ true → (n : N) (called : Answer N)
      → passes_step same c s n called ≡ passes_step same d s n called
  step_anyhow c d s plain n called = λ i. cond (passes s.axis s.test called) (predicates_anyhow c d s plain n i) (Give false)

  steps_anyhow : (c d : Context N) (start : Start (List ℕ) Expanded) (ss : List PatternStep) → list_all is_plain_step ss ≡ true
      → (n : N) (called : Answer N) → matches_steps same c start ss n called ≡ matches_steps same d start ss n called
  steps_anyhow c d start [] plain n called = refl
  steps_anyhow c d start (s ∷ before) plain n called =
      let own = step_anyhow c d s.step (first-of (is_plain_step s) (list_all is_plain_step before) plain) n called in
      let above = steps_anyhow c d start before (second-of (is_plain_step s) (list_all is_plain_step before) plain) in
      λ i. then (own i) (λ b. cond b (holds_above (is_free start before) (λ m named. above m named i) s.separator n) (Give false))

  alternatives_anyhow : (c d : Context N) (alternatives : List Alternative) → list_all is_plain_alternative alternatives ≡ true
      → (n : N) (called : Answer N) → matches_one same c alternatives n called ≡ matches_one same d alternatives n called
  alternatives_anyhow c d [] plain n called = refl
  alternatives_anyhow c d (a ∷ more) plain n called =
      let first = first-of (is_plain_alternative a) (list_all is_plain_alternative more) plain in
      let own = steps_anyhow c d a.start (reverse a.steps)
      (all-reverse is_plain_step a.steps (second-of (is_plain_start a.start) (list_all is_plain_step a.steps) first)) n called in
      let rest = alternatives_anyhow c d more (second-of (is_plain_alternative a) (list_all is_plain_alternative more) plain) n called in
      λ i. then (own i) (λ b. cond b (Give true) (rest i))

  rule_anyhow : (c d : Rule → Context N) (mode : Option Expanded) (candidates : Candidates) (rule : Rule) → is_plain_in mode rule ≡ true
      → (n : N) (called : Answer N) → is_chosen same c mode candidates rule n called ≡ is_chosen same d mode candidates rule n called
  rule_anyhow c d mode candidates rule plain n called = by (same_mode mode rule.mode) (is_candidate candidates rule.precedence) plain
    where
      by : (b may : Bool) → (not b || list_all is_plain_alternative rule.pattern.alternatives) ≡ true
          → cond (b && may) (matches_one same (c rule) rule.pattern.alternatives n called) (Give false)
          ≡ cond (b && may) (matches_one same (d rule) rule.pattern.alternatives n called) (Give false)
      by true may e = λ i. cond may (alternatives_anyhow (c rule) (d rule) rule.pattern.alternatives e n called i) (Give false)
      by false may e = refl

  first_anyhow : (c d : Rule → Context N) (mode : Option Expanded) (candidates : Candidates) (number : ℕ) (rules : List Rule)
      → are_plain_in mode rules ≡ true → (n : N) (called : Answer N)
      → first_that_matches same c mode candidates number rules n called ≡ first_that_matches same d mode candidates number rules n called
  first_anyhow c d mode candidates number [] plain n called = refl
  first_anyhow c d mode candidates number (rule ∷ rules) plain n called =
      let own = rule_anyhow c d mode candidates rule (first-of (is_plain_in mode rule) (are_plain_in mode rules) plain) n called in
      let rest = first_anyhow c d mode candidates (number + 1) rules (second-of (is_plain_in mode rule) (are_plain_in mode rules) plain) n called in
      λ i. then (own i) (λ b. cond b (Give (Some number)) (rest i))

  chosen_anyhow : (c d : Rule → Context N) (mode : Option Expanded) (candidates : Candidates) (rules : List Rule)
      → are_plain_in mode rules ≡ true → (n : N) → chosen same c n mode candidates rules ≡ chosen same d n mode candidates rules
  chosen_anyhow c d mode candidates rules plain n =
      λ i. Ask (question.Name n) (λ called. first_anyhow c d mode candidates 0 rules plain n called i)

-- ---- Two stylesheets

all_stay : (ns : List NodeRef) → list_all (λ (n : NodeRef). true) ns ≡ true
all_stay [] = refl
all_stay (n ∷ ns) = all_stay ns

module _ (one other : Stylesheet) (rules : rules_of one.rules ≡ rules_of other.rules) (elements : one.elements.items ≡ other.elements.items) where
  rule_same : (o : Option Rule) → chosen_by one o ≡ chosen_by other o
  rule_same None = refl
  rule_same (Some rule) = ap (λ (names : List NodeRef). chosen_in rule (slice_get names rule.unit)) elements

  held_same : (said : Said (Option ℕ)) → rule_held one said ≡ rule_held other said
  held_same (Gives None) = refl
  held_same (Gives (Some number)) =
      ap (λ (rs : Rules). Chosen (chosen_by one (slice_get rs.rules number))) rules
      ∙ ap (λ (rule : Option (ChosenRule NodeRef)). Chosen rule) (rule_same (slice_get (rules_of other.rules).rules number))
  held_same (Refuses why) = refl
  held_same (Lacks wanted) = refl

  module _ (document : Document ℕ) where
    abbrev ask : Question NodeRef → Answer NodeRef
    ask = source_in one document []

    abbrev tell : Question NodeRef → Answer NodeRef
    tell = source_in other document []

    alike : AreAlike ask tell (λ n. true)
    alike = record {
      called = λ n h. refl;
      above = λ separator n h. refl;
      stay_above = λ separator n h. all_stay (nodes_in (ask (question.Step n (axis_above separator) (OfType type.Node))));
    }

    said_same : (node : NodeRef) (mode : Option Expanded) (candidates : Candidates) → are_plain_in mode (rules_of one.rules).rules ≡ true
        → said_of ask one node mode candidates ≡ said_of tell other node mode candidates
    said_same node mode candidates plain =
        let c = context_for (units_in one.units.items) node in
        let d = context_for (units_in other.units.items) node in
        ap (outcome_of ask no_globals) (chosen_anyhow same_ref c d mode candidates (rules_of one.rules).rules plain node)
        ∙ outcome-same ask tell no_globals
        (choice-alike ask tell (λ n. true) alike same_ref d mode candidates (rules_of one.rules).rules plain node refl)
        ∙ ap (λ (rs : Rules). outcome_of tell no_globals (chosen same_ref d node mode candidates rs.rules)) rules

    pub choice_same : (parameters : Parameters) (node : NodeRef) (mode : Option Expanded) (candidates : Candidates)
        → are_plain_in mode (rules_of one.rules).rules ≡ true
        → truth_in one parameters document (question.Choice node mode candidates)
        ≡ truth_in other parameters document (question.Choice node mode candidates)
    choice_same parameters node mode candidates plain =
        ap (λ (a : Answer NodeRef). told_of (λ (e : Entry ℕ). a) (entry_named ref_of same_ref (entries_of document) node))
        (ap (rule_held one) (said_same node mode candidates plain) ∙ held_same (said_of tell other node mode candidates))
