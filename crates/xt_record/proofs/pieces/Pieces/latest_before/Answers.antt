use Rattle.std.proofs.Common.{◌≡◌, ℕ, ◌+◌, ◌<◌, ◌-◌, ◌∙◌, suc, Some, None, List, take, drop, length, subst, arith}
use Rattle.std.proofs.lemmas.Grind.{get_or_default_zero}
use Rattle.xt_record.specs.Chain.{IsLatest}
use Rattle.xt_record.specs.Listed.{keys_of}
use Rattle.xt_record.specs.Pieced.{flat}
use Rattle.xt_record.specs.declared.entry.Entry.{Entry}
use Rattle.xt_record.proofs.Pieced.{got, pieces_count, placed_in}
use Rattle.xt_record.proofs.Turns.{piece_none, piece_some}
use Rattle.xt_record.proofs.pieces.Pieces.latest_before.Goals as goal

pub index-start-requires : goal.index-start-requires
index-start-requires c =
    omega (
      arith,
      c.loop-place.invariant.count,
      pieces_count c.self.inside.list.items c.self.inside.starts.items c.self.inside.count c.self.invariant,
      c.self.inside.starts.ok.0,
    )

pub returns-in-Some : goal.returns-in-Some
returns-in-Some c =
    let ps = c.self.inside.list.items in
    let turns = c.self.inside.starts.items in
    let place = c.loop-place.place - 1 in
    let p = c.index-piece.result.now in
    let start = c.index-start.result.now in
    let key = c.args.key in
    let turn = c.args.turn in
    let count = pieces_count ps turns c.self.inside.count c.self.invariant in
    let inside : place < length ps = omega (arith, c.loop-place.invariant.count) in
    let at = placed_in ps turns c.self.inside.count place p c.self.invariant (got ps place p inside c.index-piece.ensures) in
    let start_is : start ≡ length at.before =
    c.index-start.ensures ∙ get_or_default_zero turns place start (omega (arith, inside, count)) ∙ at.start ∙ omega arith in
    let None_at : ℕ → Type 0 = λ m. IsLatest (keys_of (flat (drop m ps))) key (turn - length (flat (take m ps))) None in
    let next : c.loop-place.place ≡ suc place = omega arith in
    let none = subst None_at next c.loop-place.invariant.none in
    let of = subst (λ (es : List Entry). IsLatest (keys_of es) key c.saturating_sub.result (Some c.in-Some.at)) c.entries.ensures c.in-Some.ensures.latest in
    let few : c.saturating_sub.result ≡ turn - start = omega (arith, c.saturating_sub.ensures) in
    let there = subst (λ n. IsLatest (keys_of p) key n (Some c.in-Some.at)) few of in
    subst (λ (es : List Entry). IsLatest (keys_of es) key turn (Some (start + c.in-Some.at))) c.self.view_is
    (piece_some ps turns key turn place start p at start_is none c.in-Some.at there)

pub loop-place-preserved : goal.loop-place-preserved
loop-place-preserved c =
    let ps = c.self.inside.list.items in
    let turns = c.self.inside.starts.items in
    let place = c.loop-place.place - 1 in
    let p = c.index-piece.result.now in
    let start = c.index-start.result.now in
    let key = c.args.key in
    let turn = c.args.turn in
    let count = pieces_count ps turns c.self.inside.count c.self.invariant in
    let inside : place < length ps = omega (arith, c.loop-place.invariant.count) in
    let at = placed_in ps turns c.self.inside.count place p c.self.invariant (got ps place p inside c.index-piece.ensures) in
    let start_is : start ≡ length at.before =
    c.index-start.ensures ∙ get_or_default_zero turns place start (omega (arith, inside, count)) ∙ at.start ∙ omega arith in
    let None_at : ℕ → Type 0 = λ m. IsLatest (keys_of (flat (drop m ps))) key (turn - length (flat (take m ps))) None in
    let next : c.loop-place.place ≡ suc place = omega arith in
    let none = subst None_at next c.loop-place.invariant.none in
    let of = subst (λ (es : List Entry). IsLatest (keys_of es) key c.saturating_sub.result None) c.entries.ensures c.in_default.ensures.latest in
    let few : c.saturating_sub.result ≡ turn - start = omega (arith, c.saturating_sub.ensures) in
    let there = subst (λ n. IsLatest (keys_of p) key n None) few of in
    record {
      count = omega (arith, c.loop-place.invariant.count);
      none = piece_none ps turns key turn place start p at start_is none there;
    }
