use Rattle.std.proofs.Common.{◌≡◌, map, drop}
use Rattle.spec_run.specs.Content.{elements_named}
use Rattle.xt_questions.specs.View.{sets_of}
use Rattle.xt_instructions.proofs.sets.add_elements.Given as goal

-- none of those before, so that nothing is added
abbrev pub invariant-loop-set : goal.invariant-loop-set
invariant-loop-set l =
    record {
      named : elements_named (map sets_of (drop l.set-index l.sets)) l.name ≡ elements_named (map sets_of l.sets) l.name;
      same : l.elements ≡ l.fn.elements;
    }
