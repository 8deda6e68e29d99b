use Rattle.std.proofs.Common.{◌≡◌, ◌++◌, if◌then◌else◌}
use Rattle.std.specs.Str.{chars, IsUtf8}
use Rattle.std.specs.Str.Iter.{chars_rest}
use Rattle.spec_document.specs.Pyx.{unescaped, behind_backslash}
use Rattle.xt_pyx.proofs.escape.unescape.Given as goal

-- what is read, and what is read of the rest, are all
abbrev pub invariant-loop-character : goal.invariant-loop-character
invariant-loop-character l = record {
  utf8 : IsUtf8 (chars_rest l.character-iterator);
  so_far : l.text ++ (if l.is_behind_backslash then behind_backslash (chars (chars_rest l.character-iterator)) else unescaped
      (chars (chars_rest l.character-iterator)))
      ≡ unescaped (chars l.escaped);
}
