use Rattle.std.proofs.Common.{◌≡◌, ◌++◌, sym, ◌∙◌, rules, tests, refl}
use Rattle.std.proofs.lemmas.Str.{chars_past_char, IsUtf8-past_char}
use Rattle.std.proofs.lemmas.Iterator.{YieldsList-from_chars}
use Rattle.std.proofs.lemmas.Iterator.Search.{all_from_yields_List}
use Rattle.spec_document.specs.Character.{is_name_part}
use lib.Utf8.{encode}
use Rattle.xt_names.proofs.name.is_ncname.Goals as goal

pub returns-then-is_name_start : goal.returns-then-is_name_start
returns-then-is_name_start c =
    let whole = c.args.text.now in
    let rest = c.next.new.self.rest.now in
    let first = c.in-Some.first in
    let split : whole ≡ encode first ++ rest = sym c.chars-characters.ensures.rest ∙ c.in-Some.ensures.steps.0 in
    let all = all_from_yields_List is_name_part _ _ c.all.result c.all.ensures.ran
    (YieldsList-from_chars rest (IsUtf8-past_char whole rest first c.utf8.text split) refl) (λ x b q k. search (rules, tests)) in
    rw (chars_past_char whole rest first c.utf8.text split, ← c.is_name_start.ensures, c.if-is_name_start.true) all
