use Rattle.std.proofs.Common.{◌+◌, List, drop, map, sym, ◌∙◌, arith}
use Rattle.std.proofs.lemmas.List.{at_drop_more, at_drop_all}
use Rattle.spec_expression.specs.Token.{is_deep}
use Rattle.xp_parse.specs.View.{token_of}
use Rattle.xp_parse.specs.declared.token.Token.{Token}
use Rattle.xp_parse.proofs.Texts.{deep_on, deep_here, deep_none}
use Rattle.xp_parse.proofs.text.is_deep.Goals as goal

pub returns-then-depth-gt-GREATEST_DEPTH : goal.returns-then-depth-gt-GREATEST_DEPTH
returns-then-depth-gt-GREATEST_DEPTH c =
    let d = c.loop-token.depth in
    let i = c.loop-token.token-index in
    let ts = c.args.tokens.now in
    sym (c.loop-token.invariant.same ∙ at_drop_more (λ (l : List Token). is_deep d (map token_of l)) ts i _ (omega arith)
    ∙ deep_here d c.depth_behind-depth.result _ (map token_of (drop (i + 1) ts)) c.depth_behind-depth.ensures (omega arith))

pub loop-token-preserved : goal.loop-token-preserved
loop-token-preserved c =
    let d = c.loop-token.depth in
    let i = c.loop-token.token-index in
    let ts = c.args.tokens.now in
    record {
      same = c.loop-token.invariant.same ∙ at_drop_more (λ (l : List Token). is_deep d (map token_of l)) ts i _ (omega arith)
          ∙ deep_on d c.depth_behind-depth.result _ (map token_of (drop (i + 1) ts)) c.depth_behind-depth.ensures (omega arith);
      within = omega arith;
    }

pub returns : goal.returns
returns c =
    let d = c.loop-token.depth in
    sym (c.loop-token.invariant.same ∙ at_drop_all (λ (l : List Token). is_deep d (map token_of l)) c.args.tokens.now c.loop-token.token-index (omega arith)
    ∙ deep_none d)
