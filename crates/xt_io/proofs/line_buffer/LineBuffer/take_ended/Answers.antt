use Rattle.std.proofs.Common.{◌≡◌, ◌++◌, [], ◌∙◌, ap, subst, take, length}
use Rattle.std.specs.Str.Lines.{strip_carriage_return}
use Rattle.xt_io.specs.Steps.{IsNewlineAt}
use Rattle.xt_io.proofs.Newlines.{ends_line}
use Rattle.xt_io.proofs.line_buffer.LineBuffer.take_ended.Goals as goal

pub returns-clause-ended : goal.returns-clause-ended
returns-clause-ended c =
    let buffer = c.args.self.now in
    let at : IsNewlineAt buffer.buffer c.in-Some.at = subst (λ xs. IsNewlineAt xs c.in-Some.at) c.bytes.ensures c.in-Some.ensures in
    let whole : c.replace-line.result.items ≡ buffer.gathered.items ++ take c.in-Some.at buffer.buffer =
    ap (λ v. v.items) c.replace-line.ensures.value ∙ c.in_ok-extend_from_slice-2.ensures.items
    ∙ ap (λ xs. buffer.gathered.items ++ take c.in-Some.at xs) c.bytes-2.ensures in
    let cut : c.from.result ≡ take (length (strip_carriage_return c.replace-line.result.items)) c.replace-line.result.items =
    c.from.ensures ∙ c.truncate.ensures.items
    ∙ ap (λ xs. take (length xs) c.replace-line.result.items) (c.without_return-length.ensures ∙ ap strip_carriage_return c.as_slice.ensures.value) in
    let gone : c.replace-line.new.dest.items ≡ [] = ap (λ v. v.items) c.replace-line.ensures.after ∙ c.new.ensures.items in
    ends_line buffer.gathered.items buffer.buffer c.replace-line.result.items c.from.result _ c.in-Some.at buffer.searched at whole cut
    (ap (λ xs. xs ++ c.skip.new.self) gone ∙ c.skip.ensures)
