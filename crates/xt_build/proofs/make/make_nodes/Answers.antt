use Rattle.std.specs.Prelude.{is_some}
use Rattle.std.proofs.Common.{length, ◌≡◌, ◌+◌, [], ◌∷◌, ◌++◌, ◌∙◌, refl, sym, ap, arith}
use Rattle.spec_document.specs.Forest.{Empty, Node, followed}
use Rattle.spec_document.specs.Balance.{LineNumbers}
use Rattle.xt_tree.specs.View.{content_of}
use Rattle.xt_build.specs.Piece.{Begins, open_in, node_before}
use Rattle.xt_build.specs.Left.{kept_open, open_size, open_numbered, is_text}
use Rattle.xt_build.specs.View.{pieces_of}
use Rattle.xt_build.specs.declared.make.Open.{Open}
use Rattle.std.proofs.lemmas.List.{nil_from_length}
use Rattle.xt_build.proofs.Stacks.{open-some, closed-rest, closed-element}
use Rattle.xt_build.proofs.OpenNodes.{whole, coming, level}
use Rattle.xt_build.proofs.Making.{whole-ends, size-ends, whole-leaf, whole-element, open_size-leaf, open_size-element, kept-dropped, text-no_element}
use Rattle.xt_build.proofs.Making.{length-leaf, test-dropped, test-kept, kind-element, whole-end, size-end}
use denote.Enum.Bare.{sameb}
use Rattle.spec_document.specs.contracts.kind.Kind.{the_type}
use Rattle.spec_document.specs.declared.kind.Kind.TheVariants as kind
use Rattle.xt_build.proofs.make.make_nodes.Goals as goal
use Rattle.xt_build.proofs.make.make_nodes.Goals.{then-eq+in_ok-push-in-Begins, else-eq+in_ok-push-in-Begins-2}

pub loop-piece-preserved-in-Continue-1 : goal.loop-piece-preserved-in-Continue-1
loop-piece-preserved-in-Continue-1 c =
    let others = c.args.others in
    let next = c.loop-piece.next in
    let rest = open_in (pieces_of c.next.new.self.rest.items) in
    let step = (c.in-Some.ensures {u = tt}).steps.0 ∙ ap (λ p. p ∷ c.next.new.self.rest.items) c.in-Ends.is in
    let o = c.in-Some-pop.element in
    let made = c.in_ok-push-in-Ends.ensures.ok in
    record {
      goes = (tt, tt);
      made = ap (λ f. whole c.pop.new.self.items f (coming next others rest)) made
          ∙ sym (whole-ends c.pop.new.self.items o c.loop-piece.nodes next others rest)
          ∙ ap (λ os. whole os c.loop-piece.nodes (coming next others (Empty ∷ rest))) (sym c.in-Some-pop.ensures.items)
          ∙ ap (λ ps. whole c.loop-piece.open.items c.loop-piece.nodes (coming next others (open_in (pieces_of ps)))) (sym step)
          ∙ c.loop-piece.invariant.made;
      closed = rw step at c.loop-piece.invariant.closed;
      left = ap (λ n. next + n) (sym (size-ends others rest) ∙ ap (λ ps. open_size (kept_open others (open_in (pieces_of ps)))) (sym step))
          ∙ c.loop-piece.invariant.left;
    }

pub loop-piece-preserved-in_default : goal.loop-piece-preserved-in_default
loop-piece-preserved-in_default c =
    let others = c.args.others in
    let next = c.loop-piece.next in
    let rest = open_in (pieces_of c.next.new.self.rest.items) in
    let step = (c.in-Some.ensures {u = tt}).steps.0 ∙ ap (λ p. p ∷ c.next.new.self.rest.items) c.in-Ends.is in
    let made = ap (λ ps. whole c.loop-piece.open.items c.loop-piece.nodes (coming next others (open_in (pieces_of ps)))) (sym step)
    ∙ c.loop-piece.invariant.made in
    let deep = level c.loop-piece.open.items c.loop-piece.nodes next others (Empty ∷ rest) _ made in
    let none = (c.in_default.ensures {u = tt}).cases in
    let some = open-some (pieces_of c.next.new.self.rest.items) in
    absurd (omega (arith, deep, none.0, some))

pub loop-piece-preserved-then-is_dropped : goal.loop-piece-preserved-then-is_dropped
loop-piece-preserved-then-is_dropped c =
    let others = c.args.others in
    let next = c.loop-piece.next in
    let items = c.next.new.self.rest.items in
    let rest = open_in (pieces_of items) in
    let content = content_of c.in-Begins.content in
    let lines : LineNumbers = record { first = c.in-Begins._line; attributes = c.in-Begins._lines.items } in
    let step = (c.in-Some.ensures {u = tt}).steps.0 ∙ ap (λ p. p ∷ items) c.in-Begins.is in
    let made = ap (λ ps. whole c.loop-piece.open.items c.loop-piece.nodes (coming next others (open_in (pieces_of ps)))) (sym step)
    ∙ c.loop-piece.invariant.made in
    let test = test-dropped (is_text content) (is_some others) c.len.result (sym c.is_dropped.ensures ∙ c.if-is_dropped.true) in
    let deep = level c.loop-piece.open.items c.loop-piece.nodes next others (node_before lines content rest) _ made in
    let long = length-leaf lines content rest (text-no_element content test.text) (open-some (pieces_of items)) in
    let top : length rest ≡ 1 = omega (arith, test.top, c.len.ensures, deep, long) in
    let same = kept-dropped others lines content rest test.text test.root top in
    record {
      goes = (tt, tt);
      made = ap (λ s. whole c.loop-piece.open.items c.loop-piece.nodes (open_numbered next s)) (sym same) ∙ made;
      closed = closed-rest (Begins lines content) (pieces_of items) (Empty ∷ []) (rw step at c.loop-piece.invariant.closed);
      left = ap (λ s. next + open_size s) (sym same) ∙ ap (λ ps. next + open_size (kept_open others (open_in (pieces_of ps)))) (sym step)
          ∙ c.loop-piece.invariant.left;
    }

pub overflow_add-next : goal.overflow_add-next
overflow_add-next c =
    let others = c.args.others in
    let items = c.next.new.self.rest.items in
    let rest = open_in (pieces_of items) in
    let content = content_of c.in-Begins.content in
    let lines : LineNumbers = record { first = c.in-Begins._line; attributes = c.in-Begins._lines.items } in
    let step = (c.in-Some.ensures {u = tt}).steps.0 ∙ ap (λ p. p ∷ items) c.in-Begins.is in
    let made = ap (λ ps. whole c.loop-piece.open.items c.loop-piece.nodes (coming c.loop-piece.next others (open_in (pieces_of ps)))) (sym step)
    ∙ c.loop-piece.invariant.made in
    let kind = sym (kind-element content) ∙ ap (λ k. sameb the_type k kind.Element) (sym c.kind.ensures) ∙ sym c.eq.ensures in
    let left = ap (λ ps. c.loop-piece.next + open_size (kept_open others (open_in (pieces_of ps)))) (sym step) ∙ c.loop-piece.invariant.left in
    elim c.if-eq.branch [
      | then-eq+in_ok-push-in-Begins w ↦
          let closed = closed-element lines content (pieces_of items) _ (kind ∙ w.if-eq.true) (rw step at c.loop-piece.invariant.closed) in
          let size = open_size-element others lines content rest (kind ∙ w.if-eq.true) closed in
          let numbers = c.requires.numbers in
          omega (arith, left, size, numbers)
      | else-eq+in_ok-push-in-Begins-2 w ↦
          let deep = level c.loop-piece.open.items c.loop-piece.nodes c.loop-piece.next others (node_before lines content rest) _ made in
          let some = open-some (pieces_of items) in
          let long = length-leaf lines content rest (kind ∙ w.if-eq.false) some in
          let as_deep : length rest ≡ c.len.result + 1 = omega (arith, c.len.ensures, deep, long) in
          let size = open_size-leaf others lines content rest (kind ∙ w.if-eq.false) some
          (test-kept others content rest c.len.result as_deep (sym c.is_dropped.ensures ∙ c.if-is_dropped.false)) in
          let numbers = c.requires.numbers in
          omega (arith, left, size, numbers)
    ]

pub loop-piece-preserved : goal.loop-piece-preserved
loop-piece-preserved c =
    let others = c.args.others in
    let next = c.loop-piece.next in
    let items = c.next.new.self.rest.items in
    let rest = open_in (pieces_of items) in
    let content = content_of c.in-Begins.content in
    let lines : LineNumbers = record { first = c.in-Begins._line; attributes = c.in-Begins._lines.items } in
    let step = (c.in-Some.ensures {u = tt}).steps.0 ∙ ap (λ p. p ∷ items) c.in-Begins.is in
    let made = ap (λ ps. whole c.loop-piece.open.items c.loop-piece.nodes (coming next others (open_in (pieces_of ps)))) (sym step)
    ∙ c.loop-piece.invariant.made in
    let kind = sym (kind-element content) ∙ ap (λ k. sameb the_type k kind.Element) (sym c.kind.ensures) ∙ sym c.eq.ensures in
    let left = ap (λ ps. next + open_size (kept_open others (open_in (pieces_of ps)))) (sym step) ∙ c.loop-piece.invariant.left in
    elim c.if-eq.branch [
      | then-eq+in_ok-push-in-Begins w ↦
          let closed = closed-element lines content (pieces_of items) _ (kind ∙ w.if-eq.true) (rw step at c.loop-piece.invariant.closed) in
          let size = open_size-element others lines content rest (kind ∙ w.if-eq.true) closed in
          let o : Open = record { number = next; content = c.in-Begins.content; before = c.loop-piece.nodes } in
          let pushed = ap (λ v. v.items) w.open-is ∙ (w.in_ok-push-in-Begins.ensures {u = tt}).items in
          record {
            goes = (tt, tt);
            made = ap (λ os. whole os c.if-eq.nodes (coming (next + 1) others rest)) pushed
                ∙ ap (λ f. whole (c.loop-piece.open.items ++ (o ∷ [])) f (coming (next + 1) others rest)) (w.nodes-is ∙ w.new-nodes-then-eq.ensures)
                ∙ sym (whole-element c.loop-piece.open.items o next others lines content rest (kind ∙ w.if-eq.true) refl refl closed) ∙ made;
            closed = closed-rest (Begins lines content) (pieces_of items) (Empty ∷ []) (rw step at c.loop-piece.invariant.closed);
            left = omega (arith, left, size);
          }
      | else-eq+in_ok-push-in-Begins-2 w ↦
          let deep = level c.loop-piece.open.items c.loop-piece.nodes next others (node_before lines content rest) _ made in
          let some = open-some (pieces_of items) in
          let long = length-leaf lines content rest (kind ∙ w.if-eq.false) some in
          let as_deep : length rest ≡ c.len.result + 1 = omega (arith, c.len.ensures, deep, long) in
          let stays = test-kept others content rest c.len.result as_deep (sym c.is_dropped.ensures ∙ c.if-is_dropped.false) in
          let size = open_size-leaf others lines content rest (kind ∙ w.if-eq.false) some stays in
          let done = w.nodes-is ∙ w.in_ok-push-in-Begins-2.ensures.ok
          ∙ ap (λ f. followed c.loop-piece.nodes (Node next content f Empty)) w.new.ensures in
          record {
            goes = (tt, tt);
            made = ap (λ v. whole v.items c.if-eq.nodes (coming (next + 1) others rest)) w.open-is
                ∙ ap (λ f. whole c.loop-piece.open.items f (coming (next + 1) others rest)) done
                ∙ sym (whole-leaf c.loop-piece.open.items c.loop-piece.nodes next others lines content rest (kind ∙ w.if-eq.false) some stays) ∙ made;
            closed = closed-rest (Begins lines content) (pieces_of items) (Empty ∷ []) (rw step at c.loop-piece.invariant.closed);
            left = omega (arith, left, size);
          }
    ]

pub returns : goal.returns
returns c =
    let others = c.args.others in
    let end : c.loop-piece.piece-iterator.rest.items ≡ [] =
    nil_from_length _ (sym c.loop-piece.piece-iterator.rest.ok.0 ∙ (c.in-None.ensures {u = tt}).steps.0) in
    let made = ap (λ ps. whole c.loop-piece.open.items c.loop-piece.nodes (coming c.loop-piece.next others (open_in (pieces_of ps)))) (sym end)
    ∙ c.loop-piece.invariant.made in
    let left = ap (λ ps. c.loop-piece.next + open_size (kept_open others (open_in (pieces_of ps)))) (sym end) ∙ c.loop-piece.invariant.left in
    let none = size-end others in
    record {
      nodes = whole-end c.loop-piece.open.items c.loop-piece.nodes c.loop-piece.next others _ made;
      next = omega (arith, left, none);
    }
