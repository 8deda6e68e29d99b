use Rattle.std.proofs.Common.{◌≡◌, drop, map}
use Rattle.spec_meaning.specs.Supplies.{found}
use Rattle.xt_questions.specs.View.{known_of}
use Rattle.xp_eval.proofs.find.find_global.Given as goal

abbrev pub invariant-loop-known : goal.invariant-loop-known
invariant-loop-known l = found l.name l.depth (map known_of (drop l.known-index l.globals)) ≡ found l.name l.depth (map known_of l.globals)
