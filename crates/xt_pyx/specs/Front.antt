-- What stands in a text to which more was to be added, where that was cut short.
use Rattle.std.specs.Prelude.{◌≡◌, ℕ, List, ◌++◌}

-- `now` is `before` with a front of `more`, which may be nothing or all of it
pub record HasFront (before more now : List ℕ) : Type 0 where
  pub added : List ℕ
  pub left : List ℕ
  pub now_is : now ≡ before ++ added
  pub more_is : more ≡ added ++ left
