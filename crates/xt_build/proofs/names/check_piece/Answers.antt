use Rattle.std.proofs.Common.{◌≡◌, ◌+◌, [], ◌∷◌, map, reverse, length, nat_lt, sym, ap, ◌∙◌, arith}
use Rattle.std.proofs.lemmas.List.{length-reverse, reverse-append}
use Rattle.std.proofs.lemmas.Result.{on_ok_weaker}
use Rattle.spec_document.specs.Fault.{least}
use Rattle.spec_document.specs.Forest.{Element}
use Rattle.spec_document.specs.NodeFaults.{greatest_depth, content_faults}
use Rattle.spec_document.specs.Declaration.{declared_all, within}
use Rattle.xt_tree.specs.View.{content_of, written_of}
use Rattle.xt_tree.specs.declared.node.Content.TheVariants as content
use Rattle.xt_build.specs.Least.{merged}
use Rattle.xt_build.specs.Left.{innermost, open_faults}
use Rattle.xt_build.specs.Piece.{piece_before}
use Rattle.xt_build.specs.View.{found_of, piece_of}
use Rattle.xt_build.specs.declared.piece.Piece.TheVariants as code
use Rattle.xt_build.proofs.OpenFaults.{instructed, entered, last_innermost, same_depth}
use Rattle.xt_build.proofs.names.check_piece.Goals as goal

pub returns-in-Instruction : goal.returns-in-Instruction
returns-in-Instruction c =
    let line = c.in-Begins.line in
    let lines = c.in-Begins.attribute_lines in
    let target = c.in-Instruction.target in
    let text = c.in-Instruction.text in
    let outside = c.args.outside.now in
    let scopes = reverse c.args.scopes.now.items in
    let found = found_of c.args.found.now in
    let piece : c.args.piece.now ≡ code.Begins line lines (content.Instruction target text) =
    c.in-Begins.is ∙ ap (code.Begins line lines) c.in-Instruction.is in
    on_ok_weaker c.check_content-in-Instruction.result (λ own behind.
    instructed outside (c.args.depth + 1) scopes (record { first = line; attributes = lines.items }) target text behind found _
    (own ∙ ap (λ x. merged found (least (content_faults outside c.args.depth
    (record { first = line; attributes = c.as_slice-lines-in-Instruction.result.now }) (content_of x)))) c.in-Instruction.is)
    ∙ ap (λ p. merged found (least (open_faults outside (c.args.depth + 1) scopes (piece_before (piece_of p) behind)))) (sym piece))
    c.check_content-in-Instruction.ensures

pub returns-in_ok-push-in-Element : goal.returns-in_ok-push-in-Element
returns-in_ok-push-in-Element c behind =
    let line = c.in-Begins.line in
    let lines = c.in-Begins.attribute_lines in
    let name = c.in-Element.name in
    let attributes = map written_of c.in-Element.attributes.items in
    let piece : c.args.piece.now ≡ code.Begins line lines (content.Element name c.in-Element.attributes) =
    c.in-Begins.is ∙ ap (code.Begins line lines) c.in-Element.is in
    let found = found_of c.args.found.now in
    let items = c.args.scopes.now.items in
    let outside = c.args.outside.now in
    let depth = c.args.depth + 1 in
    let scopes = reverse items in
    let scope = declared_all attributes (innermost outside scopes) in
    let around : c.unwrap_or-around.result.now ≡ innermost outside scopes =
    ap (λ s. s.now) c.unwrap_or-around.ensures
    ∙ last_innermost c.deref.result.now c.last.result c.args.outside (c.last.ensures.item.4 (omega arith) c.args.outside.now)
    ∙ ap (λ xs. innermost outside (reverse xs)) c.deref.ensures.value in
    let inside : c.in_ok-inside-in-Element.inside ≡ scope =
    c.in_ok-inside-in-Element.ensures ∙ ap (λ x. within (content_of x) c.unwrap_or-around.result.now) c.in-Element.is ∙ ap (declared_all attributes) around in
    let deep : nat_lt greatest_depth c.depth_below-depth.result ≡ nat_lt greatest_depth (depth + length scopes) =
    c.depth_below-depth.ensures ∙ ap (λ n. nat_lt greatest_depth (depth + n)) (omega (arith, length-reverse items, c.args.scopes.now.ok.0)) in
    let own : found_of c.check_content.new.found
    ≡ merged found (least (content_faults scope (depth + length scopes) (record { first = line; attributes = lines.items }) (Element name attributes))) =
    c.in_ok-check_content-in-Element.ensures
    ∙ ap (λ s. merged found (least (content_faults s c.depth_below-depth.result
    (record { first = line; attributes = c.as_slice-lines.result.now }) (content_of c.in-Begins.content)))) inside
    ∙ ap (λ x. merged found (least (content_faults scope c.depth_below-depth.result
    (record { first = line; attributes = c.as_slice-lines.result.now }) (content_of x)))) c.in-Element.is
    ∙ ap (λ ls. merged found (least (content_faults scope c.depth_below-depth.result (record { first = line; attributes = ls }) (Element name attributes))))
    c.as_slice-lines.ensures.value
    ∙ ap (λ fs. merged found (least fs)) (same_depth scope _ _ (record { first = line; attributes = lines.items }) (Element name attributes) deep) in
    let more : reverse c.push.new.self.items ≡ scope ∷ scopes =
    ap reverse c.in_ok-push-in-Element.ensures.items ∙ reverse-append items (c.in_ok-inside-in-Element.inside ∷ []) ∙ ap (λ s. s ∷ scopes) inside in
    ap (λ ss. merged (found_of c.check_content.new.found) (least (open_faults outside depth ss behind))) more
    ∙ entered outside depth scopes (record { first = line; attributes = lines.items }) name attributes behind found _ own
    ∙ ap (λ p. merged found (least (open_faults outside depth scopes (piece_before (piece_of p) behind)))) (sym piece)
