use Rattle.std.proofs.Common.{List, ℕ, ap, sym, map, ◌∙◌}
use Rattle.std.specs.List.{list_any}
use Rattle.xt_import.specs.View.{is_name}
use Rattle.xt_scoping.specs.View.{violation_in}
use Rattle.xt_compile.proofs.Faults.{among_characters, none_there}
use Rattle.xt_compile.proofs.between.first_where_faulty.Goals as goal

pub returns-else-contains : goal.returns-else-contains
returns-else-contains c faulty =
    let keys = c.args.faulty.now.keys in
    let text = c.as_str.result.now in
    none_there (map violation_in c.args.violations.now) c.args.name.now keys
    (ap (λ (n : List ℕ). list_any (is_name n) keys) (sym c.as_str.ensures.characters) ∙ sym (among_characters text c.as_str.utf8 keys) ∙ sym c.contains.ensures ∙ c.if-contains.false) faulty
