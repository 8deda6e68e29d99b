use Rattle.std.proofs.Common.{◌≡◌, ◌+◌, [], ◌∷◌, ◌++◌, map, take, drop, bytes_eq, sym, ap, ◌∙◌, arith}
use Rattle.std.specs.Prelude.{◌||◌}
use Rattle.std.specs.List.{list_any}
use Rattle.std.specs.Option.{option_copied}
use Rattle.std.proofs.lemmas.List.{take_more, map-append, at_drop_more}
use Rattle.spec_document.specs.Declaration.{use_of}
use Rattle.spec_document.specs.Name.{same_expanded}
use Rattle.spec_document.specs.Fault.{least}
use Rattle.spec_document.specs.NodeFaults.{attribute_faults, expanded_by, is_wrong_use, is_same_attribute}
use Rattle.xt_names.specs.View.{use_in}
use Rattle.xt_tree.specs.View.{written_of}
use Rattle.xt_build.specs.Least.{merged}
use Rattle.xt_build.specs.Names.{expanded_names}
use Rattle.xt_names.specs.NamesSoFar.{has_written, has_expanded}
use Rattle.xt_build.specs.View.{found_of}
use Rattle.xt_build.proofs.Attributes.{any_behind, double_is, passed}
use Rattle.xt_build.proofs.names.check_attributes.Goals as goal

pub loop-i-preserved : goal.loop-i-preserved
loop-i-preserved c =
    let xs = c.args.attributes.now in
    let i = c.loop-i.i in
    let x = c.index-attributes-i.result in
    let scope = c.args.scope.now in
    let seen = c.loop-i.names in
    let before = map written_of (take i xs) in
    let is = c.as_str-written.ensures.characters in
    let usage : use_in c.use_of-usage.result ≡ use_of x.name = c.use_of-usage.ensures ∙ ap use_of is in
    let name : c.in_ok-name.name ≡ expanded_by scope (use_of x.name) = c.in_ok-name.ensures ∙ ap (expanded_by scope) usage in
    let took : map written_of (take (i + 1) xs) ≡ before ++ written_of x ∷ [] =
    ap (map written_of) (take_more xs i x (omega arith)) ∙ map-append written_of (take i xs) _
    ∙ ap (λ y. before ++ written_of y ∷ []) (sym c.index-attributes-i.is) in
    let left : map written_of (drop i xs) ≡ written_of x ∷ map written_of (drop (i + 1) xs) =
    at_drop_more (map written_of) xs i x (omega arith) ∙ ap (λ y. written_of y ∷ map written_of (drop (i + 1) xs)) (sym c.index-attributes-i.is) in
    let wrong : c.is_wrong-is_wrong.result ≡ is_wrong_use scope (use_of x.name) x.value =
    c.is_wrong-is_wrong.ensures scope (c.as_ref.ensures.value ∙ c.in_ok-name.ensures) ∙ ap (λ u. is_wrong_use scope u x.value) usage in
    let own : option_copied c.as_ref-in-loop-i.result ≡ expanded_by scope (use_of x.name) = c.as_ref-in-loop-i.ensures.value ∙ name in
    let written = list_any (λ b. bytes_eq b.name x.name) before in
    let double : c.in_ok-is_double.is_double ≡ list_any (λ b. is_same_attribute scope b (written_of x)) before =
    c.in_ok-is_double.ensures.before
    ∙ ap (λ n. has_written seen n || has_expanded seen (option_copied c.as_ref-in-loop-i.result)) is
    ∙ ap (λ b. b || has_expanded seen (option_copied c.as_ref-in-loop-i.result)) (c.loop-i.invariant.written x.name)
    ∙ ap (λ n. written || has_expanded seen n) own
    ∙ ap (λ b. written || b) (c.loop-i.invariant.expanded (expanded_by scope (use_of x.name)))
    ∙ sym (double_is scope (written_of x) before) in
    let names : expanded_names scope (map written_of (take (i + 1) xs)) ≡ expanded_names scope before ++ expanded_by scope (use_of x.name) ∷ [] =
    ap (expanded_names scope) took ∙ map-append (λ a. expanded_by scope (use_of a.name)) before (written_of x ∷ []) in
    record {
      told = rw took (passed scope before (map written_of (drop (i + 1) xs)) (written_of x) c.args.lines.now i c.line_at-line.result _ _
          (found_of c.loop-i.found) _ _
          c.line_at-line.ensures wrong double c.keep_if.ensures c.keep_if-in-loop-i.ensures
          ∙ ap (λ ws. merged (found_of c.loop-i.found) (least (attribute_faults scope before (drop i c.args.lines.now) ws))) (sym left)
          ∙ c.loop-i.invariant.told);
      written = λ other. c.in_ok-is_double.ensures.written other ∙ ap (λ n. has_written seen other || bytes_eq n other) is
          ∙ ap (λ b. b || bytes_eq x.name other) (c.loop-i.invariant.written other)
          ∙ sym (ap (list_any (λ b. bytes_eq b.name other)) took ∙ any_behind (λ b. bytes_eq b.name other) before (written_of x));
      expanded = λ other. c.in_ok-is_double.ensures.expanded other
          ∙ ap (λ b. b || same_expanded (option_copied c.as_ref-in-loop-i.result) other) (c.loop-i.invariant.expanded other)
          ∙ ap (λ n. list_any (λ o. same_expanded o other) (expanded_names scope before) || same_expanded n other) own
          ∙ sym (ap (list_any (λ o. same_expanded o other)) names
          ∙ any_behind (λ o. same_expanded o other) (expanded_names scope before) (expanded_by scope (use_of x.name)));
    }
