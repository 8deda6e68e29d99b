-- What the trees of records say that stand in a list.
--     values_of, part_of     the records of a list of handles, and some that stand side by side
--     AsksNamed, AllNamed    each question among what was done, and of each of these records, is among what is named
--     IsWhole                what is said of a record and of those below it is so
--     IsTreeAt, AreTrees     the trees in a list, each behind those of what it entered
--     IsSaid                 what a tree of the last run says of a call
--     IsTakenOver            that it is kept for the next run
use Rattle.std.specs.Prelude.{◌≡◌, ℕ, suc, ◌+◌, ◌≤◌, List, [], ◌∷◌, ◌++◌, map, take, drop, length, slice_get, Some}
use Rattle.std.specs.declared.rc.Rc.{Rc}
use Rattle.std.specs.declared.alloc.Global.{Global}
use Rattle.spec_meaning.specs.Stream.{filled}
use Rattle.spec_meaning.specs.Question.{Question, Answer}
use Rattle.spec_run.specs.Plan.{Call}
use Rattle.spec_run.specs.Going.{Event, Asked, Saw, Entered, Held}
use Rattle.spec_reuse.specs.Among.{IsIn}
use Rattle.spec_reuse.specs.Serving.{IsOf}
use Rattle.spec_reuse.specs.Record.{Runs, records_in, streams_in}
use Rattle.spec_trees.specs.Tree.{AllAsksHold, SaysAll}
use Rattle.spec_node.specs.declared.node_ref.NodeRef.{NodeRef}
use Rattle.spec_node.specs.Naming.{same_ref}
use Rattle.xt_tree.specs.StreamView.{stream_of}
use Rattle.xt_touch.specs.Named.{Covers}
use Rattle.xt_touch.specs.declared.named.Named.{Named}
use Rattle.xt_record.specs.View.{kept_in}
use Rattle.xt_record.specs.declared.record.Record.{Record}
use Rattle.xt_record.specs.declared.tree.Tree.{Tree}
use Rattle.xt_record.specs.declared.tree.Summary.{Summary}

-- ---- Lists

abbrev pub value_in : Rc Record Global → Record
value_in r = r.value

abbrev pub values_of : List (Rc Record Global) → List Record
values_of rs = map value_in rs

-- so many of these, from this place on
abbrev pub part_of : (first count : ℕ) → List Record → List Record
part_of first count vs = take count (drop first vs)

-- ---- What is named

-- each question among what was done is one of those
abbrev pub AsksNamed : Named → List (Event NodeRef) → Type 0
AsksNamed named [] = Unit {0}
AsksNamed named (Asked question answer ∷ es) = Covers named question × AsksNamed named es
AsksNamed named (Saw wanted depth place supplied ∷ es) = AsksNamed named es
AsksNamed named (Entered call depth ∷ es) = AsksNamed named es
AsksNamed named (Held first contents ∷ es) = AsksNamed named es

-- and of each of these records
abbrev pub AllNamed : Named → List Record → Type 0
AllNamed named [] = Unit {0}
AllNamed named (v ∷ vs) = AsksNamed named (kept_in v).trace × AllNamed named vs

-- ---- Trees

-- with these records below it, a record says all by itself, and so much is said of it: what it writes with them, what they name, and how many levels
-- are enough
pub record IsWhole (w : Summary) (v : Record) (below : List Record) : Type 0 where
  pub runs : Runs NodeRef
  pub records : records_in runs ≡ map kept_in below
  pub content : stream_of w.content.value ≡ filled (kept_in v).content (streams_in runs)
  pub own : AsksNamed w.named (kept_in v).trace
  pub named : AllNamed w.named below
  pub says : SaysAll same_ref (kept_in v) runs w.levels

-- that is said of the record at this turn, with those that stand right before it, so many with its own
pub record IsTreeAt (vs : List Record) (turn size : ℕ) (w : Summary) : Type 0 where
  pub before : List Record
  pub below : List Record
  pub after : List Record
  pub own : Record
  pub parts : vs ≡ before ++ (below ++ own ∷ after)
  pub turn_is : length before + length below ≡ turn
  pub size_is : suc (length below) ≡ size
  pub whole : IsWhole w own below

-- each tree of which something is said is so
abbrev pub AreTrees : List Record → List Tree → Type 0
AreTrees vs ts = (turn : ℕ) (t : Tree) (w : Rc Summary Global) → slice_get ts turn ≡ Some t → t.whole ≡ Some w → IsTreeAt vs turn t.size w.value

-- ---- What is said of a call

-- Of this call, for which so many levels are left, a tree says all whose records are among these, and whose questions all have their answers
pub record IsSaid (ask : Question NodeRef → Answer NodeRef) (last : List Record) (call : Call NodeRef) (levels : ℕ) (w : Summary) (v : Record) : Type 0 where
  pub below : List Record
  pub whole : IsWhole w v below
  pub of_call : IsOf call (kept_in v)
  pub room : suc w.levels ≤ levels
  pub hold : AllAsksHold ask (map kept_in (below ++ v ∷ []))
  pub among : (r : Record) → IsIn r (below ++ v ∷ []) → IsIn r last

-- it is the tree at this turn, with all of its records
pub record IsSaidAt (ask : Question NodeRef → Answer NodeRef) (last : List Record) (trees : List Tree) (turn : ℕ) (call : Call NodeRef) (levels : ℕ)
    (w : Summary) (v : Record) : Type 0 where
  pub tree : Tree
  pub here : slice_get trees turn ≡ Some tree
  pub at : IsTreeAt last turn tree.size w
  pub hold : AllAsksHold ask (map kept_in (at.below ++ at.own ∷ []))
  pub said : IsSaid ask last call levels w v
  pub same : at.below ++ at.own ∷ [] ≡ said.below ++ v ∷ []

-- all of its records are kept for the next run, behind those that were
pub record IsTakenOver (ask : Question NodeRef → Answer NodeRef) (last before after : List Record) (call : Call NodeRef) (levels : ℕ)
    (w : Summary) (v : Record) : Type 0 where
  pub said : IsSaid ask last call levels w v
  pub next : after ≡ before ++ (said.below ++ v ∷ [])
