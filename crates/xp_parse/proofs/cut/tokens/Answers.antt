use Rattle.std.proofs.Common.{◌≡◌, ℕ, ◌∙◌, List, ◌∷◌, [], ◌++◌, map, Bool, Option, Some, ap, sym, subst}
use Rattle.std.specs.Str.{chars}
use Rattle.std.proofs.lemmas.List.{map-append, append-nil}
use Rattle.spec_expression.specs.Token.{Token, ends_operand, piece_at, cut}
use Rattle.xp_parse.specs.declared.cut.Piece.{Piece}
use Rattle.xp_parse.specs.Front.{Cuts}
use Rattle.xp_parse.specs.View.{token_of}
use Rattle.xp_parse.proofs.Fronts.{none_of}
use Rattle.xp_parse.proofs.Pieces.{front_of, front_of-front_of, turn-space, turn-none, turn-piece, cut-end}
use Rattle.xp_parse.proofs.cut.tokens.Goals as goal

pub loop-first-preserved-then-is_space : goal.loop-first-preserved-then-is_space
loop-first-preserved-then-is_space c =
    let b = c.in-Some.ensures {u = tt} in (
      b.utf8,
      c.loop-first.invariant.1 ∙ ap (front_of (map token_of c.loop-first.tokens.items))
          (turn-space c.loop-first.after_operand c.loop-first.rest.now c.in-Some.behind.now c.in-Some.first b (sym c.is_space.ensures ∙ c.if-is_space.true)),
    )

pub returns-in_default-piece_at : goal.returns-in_default-piece_at
returns-in_default-piece_at c =
    let b = c.in-Some.ensures {u = tt} in
    let rest = c.loop-first.rest.now in
    let none = subst (λ (o : Option Piece). Cuts o (piece_at c.loop-first.after_operand c.in-Some.first (chars c.in-Some.behind.now)) (chars rest))
    c.in_default-piece_at.is c.piece_at.ensures in
    sym (c.loop-first.invariant.1 ∙ ap (front_of (map token_of c.loop-first.tokens.items))
    (turn-none c.loop-first.after_operand rest c.in-Some.behind.now c.in-Some.first b (sym c.is_space.ensures ∙ c.if-is_space.false) none))

pub loop-first-preserved : goal.loop-first-preserved
loop-first-preserved c =
    let b = c.in-Some.ensures {u = tt} in
    let rest = c.loop-first.rest.now in
    let p = c.in-Some-piece_at.piece in
    let front = map token_of c.loop-first.tokens.items in
    let all = map token_of c.push.new.self.items in
    let token = token_of p.token in
    let some = subst (λ (o : Option Piece). Cuts o (piece_at c.loop-first.after_operand c.in-Some.first (chars c.in-Some.behind.now)) (chars rest))
    c.in-Some-piece_at.is c.piece_at.ensures in
    let items : all ≡ front ++ token ∷ [] = ap (map token_of) c.in_ok-push.ensures.items ∙ map-append token_of c.loop-first.tokens.items (p.token ∷ []) in
    let turn = turn-piece c.loop-first.after_operand rest c.in-Some.behind.now c.in-Some.first p b (sym c.is_space.ensures ∙ c.if-is_space.false) some in (
      c.behind-rest.utf8,
      c.loop-first.invariant.1 ∙ ap (front_of front) turn ∙ front_of-front_of front (token ∷ []) (cut 0 (ends_operand token) (chars p.rest.now))
          ∙ ap (λ (ts : List Token). front_of ts (cut 0 (ends_operand token) (chars p.rest.now))) (sym items)
          ∙ ap (λ (a : Bool). front_of all (cut 0 a (chars p.rest.now))) (sym c.ends_operand-after_operand.ensures)
          ∙ ap (λ (r : List ℕ). front_of all (cut 0 c.ends_operand-after_operand.result (chars r))) (sym c.behind-rest.ensures),
    )

pub returns : goal.returns
returns c =
    let front = map token_of c.loop-first.tokens.items in
    sym (c.loop-first.invariant.1
    ∙ ap (front_of front) (cut-end c.loop-first.after_operand c.loop-first.rest.now (none_of _ c.first_of.result c.first_of.ensures c.in_default.is))
    ∙ ap Some (append-nil front))
