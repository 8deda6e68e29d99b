use Rattle.std.proofs.Common.{◌≡◌, drop}
use Rattle.std.specs.List.{list_all}
use Rattle.std.specs.Option.{is_some}
use Rattle.spec_document.specs.Name.{qname_of}
use Rattle.xt_structure.proofs.values.are_qnames.Given as goal

abbrev pub invariant-loop-word : goal.invariant-loop-word
invariant-loop-word l = list_all (λ word. is_some (qname_of word)) (drop l.word-index l.words) ≡ list_all (λ word. is_some (qname_of word)) l.words
