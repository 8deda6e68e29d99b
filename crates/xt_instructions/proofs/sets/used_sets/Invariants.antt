use Rattle.std.proofs.Common.{◌≡◌, ◌++◌, map, drop}
use Rattle.std.specs.List.{flat_map}
use Rattle.spec_run.specs.Content.{elements_named}
use Rattle.xt_questions.specs.View.{sets_of}
use Rattle.xt_instructions.proofs.sets.used_sets.Given as goal

-- those of the names before are there
abbrev pub invariant-loop-name : goal.invariant-loop-name
invariant-loop-name l =
    let named = elements_named (map sets_of l.sets) in
    l.elements.items ++ flat_map named (drop l.name-index l.names) ≡ flat_map named l.names
