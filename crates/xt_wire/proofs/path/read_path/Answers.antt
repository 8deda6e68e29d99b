use Rattle.std.proofs.Common.{◌≡◌, Some, sym, ap, ◌∙◌, lit<}
use Rattle.std.proofs.lemmas.Str.Pattern.{strip_prefix_char}
use Rattle.std.proofs.lemmas.Result.{IfOk-weaker}
use Rattle.std.specs.Str.{chars}
use Rattle.spec_session.specs.Request.{path_of, parts_of}
use Rattle.xt_wire.proofs.Paths.{positions, path_of-chars, no_slash, root_path, longer_path, stripped_none, stripped_some}
use Rattle.xt_wire.proofs.path.read_path.Goals as goal

pub returns-in_default : goal.returns-in_default
returns-in_default c =
    let word = c.args.word.now in
    let stripped = strip_prefix_char 47 word c.strip_prefix.result c.strip_prefix.ensures.cases (lit< tt) in
    sym (path_of-chars word c.utf8.word ∙ no_slash word (stripped_none word c.strip_prefix.result stripped c.in_default.is))

pub returns-then-is_empty : goal.returns-then-is_empty
returns-then-is_empty c =
    let word = c.args.word.now in
    let stripped = strip_prefix_char 47 word c.strip_prefix.result c.strip_prefix.ensures.cases (lit< tt) in
    ap Some c.new.ensures
    ∙ sym (root_path word c.in-Some.rest.now c.is_empty.result c.utf8.word (stripped_some word c.strip_prefix.result c.in-Some.rest stripped c.in-Some.is)
    c.is_empty.ensures c.if-is_empty.true)

pub returns : goal.returns
returns c =
    let word = c.args.word.now in
    let rest = c.in-Some.rest in
    let stripped = strip_prefix_char 47 word c.strip_prefix.result c.strip_prefix.ensures.cases (lit< tt) in
    let all = longer_path word rest.now c.is_empty.result c.utf8.word (stripped_some word c.strip_prefix.result rest stripped c.in-Some.is)
    c.is_empty.ensures c.if-is_empty.false in
    IfOk-weaker c.read_positions.result (λ path. path ≡ positions (parts_of rest.now)) (λ path. path ≡ path_of (chars word))
    (λ path e. e ∙ sym all) c.read_positions.ensures
