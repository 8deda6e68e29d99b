-- The rules that may match, by what a node is called, in a mode.
use Rattle.std.specs.Prelude.{◌≡◌, ℕ, List, Option}
use Rattle.std.specs.Global.{Global}
use Rattle.std.specs.Map.{lookup}
use Rattle.std.specs.Option.{ForSome}
use Rattle.std.specs.declared.vec.Vec.{Vec}
use Rattle.xt_syntax.specs.SheetView.{rules_of}
use Rattle.xt_syntax.specs.declared.rules.Rules.{Rules}
use Rattle.xt_match.specs.CalledIn.{CalledIn, same_called}
use Rattle.xt_match.specs.Fitting.{numbers_from}
use Rattle.xt_match.specs.declared.called.CalledKey.{CalledKey}

abbrev pub called_of : CalledKey → CalledIn
called_of key = record { mode = key.mode; kind = key.kind; name = key.name }

abbrev pub listed : List (CalledKey × Vec ℕ Global) → CalledIn → Option (Vec ℕ Global)
listed entries called = lookup (λ key. same_called called (called_of key)) entries

-- each list has the numbers of the rules that may match, and no others
abbrev pub AreFitting : Rules → List (CalledKey × Vec ℕ Global) → Type 0
AreFitting rules entries =
    (called : CalledIn) → ForSome (listed entries called) (λ numbers. numbers.items ≡ numbers_from called 0 (rules_of rules).rules)
