use Rattle.std.proofs.Common.{◌≡◌, ◌∙◌, ◌++◌, ◌∷◌, [], replicate, append-nil, append_assoc, arith, ap, sym}
use Rattle.std.proofs.lemmas.List.{replicate_more}
use Rattle.xt_number_format.proofs.texts.push_repeated.Goals as goal

pub loop-init : goal.loop-init
loop-init c = sym (append-nil c.args.text.now)

pub loop-preserved : goal.loop-preserved
loop-preserved c =
    let character = c.args.character in
    c.in_ok-push.ensures.ok ∙ ap (λ t. t ++ character ∷ []) c.loop.invariant
    ∙ append_assoc c.args.text.now (replicate c.loop.counter character) (character ∷ [])
    ∙ ap (λ r. c.args.text.now ++ r) (replicate_more c.loop.counter character)

pub returns : goal.returns
returns c =
    let all : c.loop.counter ≡ c.args.count = omega arith in
    c.loop.invariant ∙ ap (λ n. c.args.text.now ++ replicate n c.args.character) all
