use Rattle.std.proofs.Common.{◌≡◌, Bool, true, false, None, ap, sym, List, ℕ, is_some, MatchBool}
use Rattle.std.specs.Str.{IsUtf8, chars}
use Rattle.std.specs.Str.Pattern.{FindsText, HasMatch}
use Rattle.spec_expression.specs.Strings.{is_within}
use Rattle.xp_text.proofs.Finding.{missing, found}
use Rattle.xp_text.proofs.search.contains.Goals as goal

answer : (r : Bool) (s n : List ℕ) → IsUtf8 s → IsUtf8 n → MatchBool r (HasMatch (FindsText n) s) (FindsText n s None) → r ≡ is_within (chars n) (chars s)
answer true s n us un h = sym (ap is_some (found s n us un h.0 h.1 h.2 h.3 h.4).place)
answer false s n us un h = sym (ap is_some (missing s n us un h))

pub returns : goal.returns
returns c = answer c.contains.result c.args.text.now c.args.part.now c.utf8.text c.utf8.part c.contains.ensures.cases
