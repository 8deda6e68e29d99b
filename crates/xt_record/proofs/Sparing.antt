-- What is spared of records whose questions had their answers in the last run.
use Rattle.std.proofs.Common.{List, [], ◌∷◌, ◌∙◌}
use Rattle.std.specs.declared.rc.Rc.{Rc}
use Rattle.std.specs.declared.alloc.Global.{Global}
use Rattle.spec_meaning.specs.Question.{Question, Answer}
use Rattle.spec_run.specs.Going.{Event, Asked, Saw, Entered, Held}
use Rattle.spec_node.specs.declared.node_ref.NodeRef.{NodeRef}
use Rattle.xt_spared.specs.View.{Spares}
use Rattle.xt_spared.specs.declared.spared.Spared.{Spared}
use Rattle.xt_record.specs.View.{kept_in, AsksHold}
use Rattle.xt_record.specs.Sure.{AllHold, AllSpared, AsksSpared}
use Rattle.xt_record.specs.declared.record.Record.{Record}

module _ (was ask : Question NodeRef → Answer NodeRef) (spared : Spared) (spares : Spares was ask spared) where
  asks_spared : (es : List (Event NodeRef)) → AsksHold was es → AsksSpared ask spared es
  asks_spared [] h = tt
  asks_spared (Asked question answer ∷ es) h = (λ is. spares question is ∙ h.0, asks_spared es h.1)
  asks_spared (Saw wanted depth place supplied ∷ es) h = asks_spared es h
  asks_spared (Entered call depth ∷ es) h = asks_spared es h
  asks_spared (Held first contents ∷ es) h = asks_spared es h

  pub all_spared : (rs : List (Rc Record Global)) → AllHold was rs → AllSpared ask spared rs
  all_spared [] h = tt
  all_spared (r ∷ rs) h = (asks_spared (kept_in r.value).trace h.0, all_spared rs h.1)
