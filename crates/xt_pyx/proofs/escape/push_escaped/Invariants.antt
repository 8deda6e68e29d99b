use Rattle.std.proofs.Common.{◌≡◌, ◌++◌, ℕ, List}
use Rattle.std.specs.Str.{chars, IsUtf8}
use Rattle.std.specs.Str.Iter.{chars_rest}
use Rattle.spec_document.specs.Pyx.{escaped}
use Rattle.xt_pyx.proofs.escape.push_escaped.Given as goal

-- what is written, and what is written of the rest, are all
abbrev pub invariant-loop-character : goal.invariant-loop-character
invariant-loop-character l = record {
  utf8 : IsUtf8 (chars_rest l.character-iterator);
  begun : (added : List ℕ) × (l.line ≡ l.fn.line ++ added);
  so_far : l.line ++ escaped (chars (chars_rest l.character-iterator)) ≡ l.fn.line ++ escaped (chars l.more);
}
