use Rattle.std.proofs.Common.{◌≡◌, drop}
use Rattle.spec_compile.specs.Value.{each, prefix_of}
use Rattle.xt_attributes.specs.Gathering.{appended, gathered_in}
use Rattle.xt_attributes.proofs.names.prefixes_of.Given as goal

abbrev pub invariant-loop-word : goal.invariant-loop-word
invariant-loop-word l = appended (gathered_in l.prefixes) (each (prefix_of l.scope) (drop l.word-index l.words)) ≡ each (prefix_of l.scope) l.words
