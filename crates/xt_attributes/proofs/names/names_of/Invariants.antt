use Rattle.std.proofs.Common.{◌≡◌, drop}
use Rattle.spec_compile.specs.Value.{each, name_of}
use Rattle.xt_attributes.specs.Gathering.{appended, gathered_in}
use Rattle.xt_attributes.proofs.names.names_of.Given as goal

abbrev pub invariant-loop-word : goal.invariant-loop-word
invariant-loop-word l = appended (gathered_in l.names) (each (name_of l.scope) (drop l.word-index l.words)) ≡ each (name_of l.scope) l.words
