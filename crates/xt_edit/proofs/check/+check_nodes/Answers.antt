use Rattle.std.proofs.Common.{◌≡◌, ◌+◌, min, drop, sym, ap, ◌∙◌, arith}
use Rattle.std.proofs.lemmas.List.{at_drop_more}
use Rattle.spec_document.specs.Declaration.{within}
use Rattle.spec_document.specs.Forest.{size}
use Rattle.spec_document.specs.Fault.{least}
use Rattle.spec_document.specs.Balance.{alone}
use Rattle.spec_document.specs.NodeFaults.{content_faults, node_faults}
use Rattle.spec_edit.specs.Edit.{without_lines}
use Rattle.xt_tree.specs.View.{forest_of, tree_of}
use Rattle.xt_build.specs.Least.{merged}
use Rattle.xt_build.specs.View.{found_of}
use Rattle.xt_edit.proofs.Faults.{visited}
use Rattle.xt_edit.proofs.check.+check_nodes.Goals as goal

pub loop-sibling-preserved : goal.loop-sibling-preserved
loop-sibling-preserved t c =
    let around = c.args.around.now in
    let depth = c.args.depth in
    let siblings = c.args.siblings.now in
    let i = c.loop-sibling.sibling-index in
    let item = c.sibling-item.result in
    let rest = forest_of (drop (i + 1) siblings) in
    let node = tree_of item.value in
    let before = found_of c.loop-sibling.found in
    let inside = c.in_ok-inside.inside in
    let below = c.saturating_add-below.result in
    let content = c.content-content.ensures ∙ ap (λ n. (tree_of n).content) c.deref.ensures in
    let children = c.children.ensures.forest ∙ ap (λ n. (tree_of n).children) c.deref-in-loop-sibling.ensures in
    let scope : inside ≡ within node.content around = c.in_ok-inside.ensures ∙ ap (λ x. within x around) content in
    let own : found_of c.check_content.new.found ≡ merged before (least (content_faults inside depth (alone 0) node.content)) =
    c.in_ok-check_content.ensures ∙ ap (λ x. merged before (least (content_faults inside depth (alone 0) x))) content in
    let all : found_of c.check_nodes.new.found
    ≡ merged (found_of c.check_content.new.found) (least (node_faults inside below (without_lines node.children))) =
    c.in_ok-more.ensures.faults
    ∙ ap (λ f. merged (found_of c.check_content.new.found) (least (node_faults inside below (without_lines f)))) children in
    let faults = sym (at_drop_more (λ xs. merged before (least (node_faults around depth (without_lines (forest_of xs))))) siblings i item (omega arith))
    ∙ c.loop-sibling.invariant.faults in
    let faults = rw (← c.sibling-item.is) at faults in
    let sizes = at_drop_more (λ xs. size (forest_of xs)) siblings i item (omega arith) in
    let sizes : size (forest_of (drop i siblings)) ≡ 1 + size node.children + size rest = rw (← c.sibling-item.is) at sizes in
    let more : c.in_ok-more.more ≡ min (size node.children) 18446744073709551615 =
    c.in_ok-more.ensures.count ∙ ap (λ f. min (size f) 18446744073709551615) children in
    record {
      fits = omega arith;
      faults = visited around inside depth below node.content (without_lines node.children) (without_lines rest) before
          (found_of c.check_content.new.found) (found_of c.check_nodes.new.found) scope (λ h. omega arith) (λ h. omega arith) own all ∙ faults;
      count = omega arith;
    }
