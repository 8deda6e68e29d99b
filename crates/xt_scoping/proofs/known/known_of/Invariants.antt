use Rattle.std.proofs.Common.{◌≡◌, [], drop}
use Rattle.std.specs.List.{flat_map}
use Rattle.spec_compile.specs.Scoping.{global_name, template_name}
use Rattle.xt_scoping.specs.Distinct.{with_names}
use Rattle.xt_scoping.specs.Steps.{declared_in, set_name}
use Rattle.xt_scoping.proofs.known.known_of.Given as goal

abbrev pub invariant-loop-element : goal.invariant-loop-element
invariant-loop-element l = record {
  globals : with_names l.known.globals (flat_map global_name (declared_in (drop l.element-index l.ranked))) ≡ with_names [] (flat_map global_name (declared_in l.ranked));
  templates : with_names l.known.templates (flat_map template_name (declared_in (drop l.element-index l.ranked))) ≡ with_names [] (flat_map template_name (declared_in l.ranked));
  sets : with_names l.known.sets (flat_map set_name (declared_in (drop l.element-index l.ranked))) ≡ with_names [] (flat_map set_name (declared_in l.ranked));
}
