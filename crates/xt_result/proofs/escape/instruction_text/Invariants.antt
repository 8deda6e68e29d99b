use Rattle.std.proofs.Common.{◌≡◌, ◌++◌}
use Rattle.std.specs.Str.{chars, IsUtf8}
use Rattle.std.specs.Str.Iter.{chars_rest}
use Rattle.spec_result.specs.Recovery.{instruction_text}
use Rattle.xt_result.proofs.Escaped.{instruction_rest}
use Rattle.xt_result.proofs.escape.instruction_text.Given as goal

-- what is written, and what is to be written of the rest, are all
abbrev pub invariant-loop-character : goal.invariant-loop-character
invariant-loop-character l = record {
  utf8 : IsUtf8 (chars_rest l.character-iterator);
  so_far : l.parted ++ instruction_rest l.is_behind_mark (chars (chars_rest l.character-iterator)) ≡ instruction_text l.text;
}
