-- What the types of the program stand for.
use Rattle.std.specs.Prelude.{List, map}
use Rattle.spec_compile.specs.Scoping as spec
use Rattle.xt_syntax.specs.PartView.{place_of}
use Rattle.xt_top_level.specs.View.{top_level_in}
use Rattle.xt_scoping.specs.declared.violation.Ranked.{Ranked}
use Rattle.xt_scoping.specs.declared.violation.Violation.{Violation}

abbrev pub ranked_in : Ranked → spec.Ranked
ranked_in r = record { precedence = r.precedence; imported = r.imported; top_level = top_level_in r.top_level }

abbrev pub violation_in : Violation → spec.Violation
violation_in v = record { code = v.code; place = place_of v.place }

abbrev pub found_in : List Violation → List spec.Violation
found_in violations = map violation_in violations
