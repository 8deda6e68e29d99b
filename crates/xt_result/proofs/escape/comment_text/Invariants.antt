use Rattle.std.proofs.Common.{◌≡◌, ◌++◌}
use Rattle.std.specs.Str.{chars, IsUtf8}
use Rattle.std.specs.Str.Iter.{chars_rest}
use Rattle.spec_result.specs.Recovery.{comment_text}
use Rattle.xt_result.proofs.Escaped.{comment_rest}
use Rattle.xt_result.proofs.escape.comment_text.Given as goal

-- what is written, and what is to be written of the rest, are all
abbrev pub invariant-loop-character : goal.invariant-loop-character
invariant-loop-character l = record {
  utf8 : IsUtf8 (chars_rest l.character-iterator);
  so_far : l.parted ++ comment_rest l.is_behind_hyphen (chars (chars_rest l.character-iterator)) ≡ comment_text l.text;
}
