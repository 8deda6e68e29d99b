-- Where the changes stand.
use Rattle.std.specs.Prelude.{◌≤◌, ◌+◌}
use Rattle.spec_session.specs.Generated as session
use Rattle.xt_demo.specs.declared.change.Place.{Place}

abbrev pub place_of : Place → session.Place
place_of place = record { number = place.number; state = place.draws.state; rows = place.rows }

-- no more changes are left than there are rows, and their numbers and those of rows stay small
pub record IsWithin (place : Place) : Type 0 where
  pub enough : place.left ≤ place.rows
  pub rows : place.rows + place.left ≤ 30000
  pub number : place.number + place.left ≤ 10001
