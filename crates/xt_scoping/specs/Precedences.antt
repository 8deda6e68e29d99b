-- Names with the precedences at which they are declared.
use Rattle.std.specs.Prelude.{ℕ, Bool, List, map, ◌==◌, ◌&&◌}
use Rattle.std.specs.List.{list_any}
use Rattle.spec_document.specs.Name.{Expanded, same_name}
use Rattle.xt_scoping.specs.declared.key.Key.{Key}

abbrev pub declared_at : ℕ × Key → ℕ × Expanded
declared_at key = (key.0, key.1.name.now)

abbrev pub declared_by : List (ℕ × Key) → List (ℕ × Expanded)
declared_by keys = map declared_at keys

abbrev pub is_declared : List (ℕ × Expanded) → ℕ → Expanded → Bool
is_declared names precedence name = list_any (λ d. (precedence == d.0) && same_name name d.1) names
