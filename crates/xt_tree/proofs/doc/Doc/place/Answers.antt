use Rattle.std.proofs.Common.{Result, Ok, Err, IfOk}
use Rattle.xt_tree.proofs.Ways.{place_itself}
use Rattle.xt_tree.proofs.doc.Doc.place.Goals as goal

more_known : {A E : Type 0} (P Q : A → Type 0) (r : Result A E) → ((a : A) → P a → Q a) → IfOk r P → IfOk r Q
more_known P Q (Ok a) h p = h a p
more_known P Q (Err e) h p = p

pub returns-in-Itself : goal.returns-in-Itself
returns-in-Itself c =
    record {
      place = more_known _ _ c.way.result (λ place way. place_itself c.args.self.now c.args.node.now place c.in-Itself.is way) c.way.ensures.way;
      only = more_known _ _ c.way.result (λ place only is path e. only path e) c.way.ensures.only;
    }
