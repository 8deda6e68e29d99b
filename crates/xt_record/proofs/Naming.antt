-- What is named, and that what is spared among it has its answers.
use Rattle.std.proofs.Common.{List, [], ◌∷◌, ◌++◌, map}
use Rattle.std.specs.declared.rc.Rc.{Rc}
use Rattle.std.specs.declared.alloc.Global.{Global}
use Rattle.spec_meaning.specs.Question.{Question, Answer}
use Rattle.spec_run.specs.Going.{Event, Asked, Saw, Entered, Held}
use Rattle.spec_reuse.specs.Ledger as ledger
use Rattle.spec_trees.specs.Tree.{AllAsksHold}
use Rattle.spec_node.specs.declared.node_ref.NodeRef.{NodeRef}
use Rattle.xt_touch.specs.Named.{Covers, AreCovered}
use Rattle.xt_touch.specs.declared.named.Named.{Named}
use Rattle.xt_spared.specs.View.{IsSparedBy}
use Rattle.xt_spared.specs.declared.spared.Spared.{Spared}
use Rattle.xt_record.specs.View.{kept_in, AsksHold}
use Rattle.xt_record.specs.Grown.{values_of, AllNamed, AsksNamed}
use Rattle.xt_record.specs.Sure.{AllSpared, AsksSpared}
use Rattle.xt_record.specs.declared.record.Record.{Record}
use Rattle.xt_record.proofs.Grown.{HoldAll}

-- ---- More is named

module _ (before after : Named) (more : AreCovered before after) where
  pub named_more : (es : List (Event NodeRef)) → AsksNamed before es → AsksNamed after es
  named_more [] h = tt
  named_more (Asked q a ∷ es) h = (more q h.0, named_more es h.1)
  named_more (Saw w d l x ∷ es) h = named_more es h
  named_more (Entered c d ∷ es) h = named_more es h
  named_more (Held j xs ∷ es) h = named_more es h

  pub all_named_more : (vs : List Record) → AllNamed before vs → AllNamed after vs
  all_named_more [] h = tt
  all_named_more (v ∷ vs) h = (named_more (kept_in v).trace h.0, all_named_more vs h.1)

pub all_named_both : (named : Named) (xs ys : List Record) → AllNamed named xs → AllNamed named ys → AllNamed named (xs ++ ys)
all_named_both named [] ys h k = k
all_named_both named (x ∷ xs) ys h k = (h.0, all_named_both named xs ys h.1 k)

-- ---- What is spared has its answers

module _ (ask : Question NodeRef → Answer NodeRef) (spared : Spared) where
  abbrev pub SpareAll : List Record → Type 0
  SpareAll [] = Unit {0}
  SpareAll (v ∷ vs) = AsksSpared ask spared (kept_in v).trace × SpareAll vs

  pub spare_values : (rs : List (Rc Record Global)) → AllSpared ask spared rs → SpareAll (values_of rs)
  spare_values [] h = tt
  spare_values (r ∷ rs) h = (h.0, spare_values rs h.1)

  pub spare_front : (xs ys : List Record) → SpareAll (xs ++ ys) → SpareAll xs
  spare_front [] ys h = tt
  spare_front (x ∷ xs) ys h = (h.0, spare_front xs ys h.1)

  pub spare_rest : (xs ys : List Record) → SpareAll (xs ++ ys) → SpareAll ys
  spare_rest [] ys h = h
  spare_rest (x ∷ xs) ys h = spare_rest xs ys h.1

  module _ (named : Named) (spares : (question : Question NodeRef) → Covers named question → IsSparedBy spared question) where
    asks_so : (es : List (Event NodeRef)) → AsksSpared ask spared es → AsksNamed named es → AsksHold ask es
    asks_so [] h k = tt
    asks_so (Asked q a ∷ es) h k = (h.0 (spares q k.0), asks_so es h.1 k.1)
    asks_so (Saw w d l x ∷ es) h k = asks_so es h k
    asks_so (Entered c d ∷ es) h k = asks_so es h k
    asks_so (Held j xs ∷ es) h k = asks_so es h k

    pub all_so : (vs : List Record) → SpareAll vs → AllNamed named vs → HoldAll ask vs
    all_so [] h k = tt
    all_so (v ∷ vs) h k = (asks_so (kept_in v).trace h.0 k.0, all_so vs h.1 k.1)

-- the same by the words of what is counted
module _ (ask : Question NodeRef → Answer NodeRef) where
  as_counted : (es : List (Event NodeRef)) → AsksHold ask es → ledger.AsksHold ask es
  as_counted [] h = tt
  as_counted (Asked q a ∷ es) h = (h.0, as_counted es h.1)
  as_counted (Saw w d l x ∷ es) h = as_counted es h
  as_counted (Entered c d ∷ es) h = as_counted es h
  as_counted (Held j xs ∷ es) h = as_counted es h

  pub all_counted : (vs : List Record) → HoldAll ask vs → AllAsksHold ask (map kept_in vs)
  all_counted [] h = tt
  all_counted (v ∷ vs) h = (as_counted (kept_in v).trace h.0, all_counted vs h.1)

  as_asked : (es : List (Event NodeRef)) → ledger.AsksHold ask es → AsksHold ask es
  as_asked [] h = tt
  as_asked (Asked q a ∷ es) h = (h.0, as_asked es h.1)
  as_asked (Saw w d l x ∷ es) h = as_asked es h
  as_asked (Entered c d ∷ es) h = as_asked es h
  as_asked (Held j xs ∷ es) h = as_asked es h

  pub all_asked : (vs : List Record) → AllAsksHold ask (map kept_in vs) → HoldAll ask vs
  all_asked [] h = tt
  all_asked (v ∷ vs) h = (as_asked (kept_in v).trace h.0, all_asked vs h.1)
