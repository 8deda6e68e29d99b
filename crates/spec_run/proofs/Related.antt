-- What relates what runs do where nodes are named by an N and by an M: nothing but the names of nodes may differ.
use Rattle.std.specs.Prelude.{ℕ, Bool, List, Option}
use Rattle.spec_document.specs.Name.{Expanded}
use Rattle.spec_stylesheet.specs.Place.{Place}
use Rattle.spec_stylesheet.specs.Sheet.{Alias}
use Rattle.spec_meaning.specs.Stream.{Stream}
use Rattle.spec_meaning.specs.Value.{Value}
use Rattle.spec_meaning.specs.Question.{Question, Answer, NamedTemplate, NamedSets}
use Rattle.spec_meaning.specs.Program.{Wanted, Given}
use Rattle.spec_meaning.specs.Context.{Bound}
use Rattle.spec_meaning.specs.Related.{Each, Templates, Sets, Questions, Answers, Values, Givens, Bindings}
use Rattle.spec_run.specs.Plan as plan
use Rattle.spec_run.specs.Plan.{Refused, Target, Ruling, Call, Wrapping, Plan}
use Rattle.spec_run.specs.Direct as direct
use Rattle.spec_run.specs.Direct.{Supplied, Ending, Outcome}
use Rattle.spec_run.specs.Content.{Here}
use Rattle.spec_run.specs.Meaning.{NamedGlobal, Past}
use Rattle.spec_run.proofs.Chosen.{TellAlike}

pub data Targets {N M : Type 0} (R : N → M → Type 0) : Target N → Target M → Type 0 where
  units_of : {n : N} {m : M} → R n m → Targets R (plan.UnitOf n) (plan.UnitOf m)
  built_in_both : {mode : Option Expanded} → Targets R (plan.BuiltIn mode) (plan.BuiltIn mode)

pub data Calls {N M : Type 0} (R : N → M → Type 0) : Call N → Call M → Type 0 where
  calls : {t : Target N} {u : Target M} {n : N} {m : M} {bs : List (Bound N)} {ds : List (Bound M)} {position size : Option ℕ} {ruling : Ruling} {by : Place}
      → Targets R t u → R n m → Each (Bindings R) bs ds
      → Calls R (record { target = t; node = n; parameters = bs; position = position; size = size; ruling = ruling; by = by })
      (record { target = u; node = m; parameters = ds; position = position; size = size; ruling = ruling; by = by })

-- plans that do the same, whatever related answers they get
pub data Plans {N M : Type 0} (R : N → M → Type 0) : Plan N → Plan M → Type 0 where
  ends : Plans R plan.End plan.End
  yields : {v : Value N} {w : Value M} → Values R v w → Plans R (plan.Yield v) (plan.Yield w)
  stops : {why : Refused} → Plans R (plan.Stop why) (plan.Stop why)
  inquires : {q : Question N} {r : Question M} {k : Answer N → Plan N} {l : Answer M → Plan M}
      → Questions R q r → ((x : Answer N) (y : Answer M) → Answers R x y → Plans R (k x) (l y)) → Plans R (plan.Inquire q k) (plan.Inquire r l)
  uses : {wanted : Wanted} {depth : ℕ} {place : Place} {k : Given N → Plan N} {l : Given M → Plan M}
      → ((x : Given N) (y : Given M) → Givens R x y → Plans R (k x) (l y)) → Plans R (plan.Use wanted depth place k) (plan.Use wanted depth place l)
  puts : {items : Stream} {p : Plan N} {q : Plan M} → Plans R p q → Plans R (plan.Put items p) (plan.Put items q)
  begins : {p : Plan N} {q : Plan M} → Plans R p q → Plans R (plan.Begin p) (plan.Begin q)
  wraps : {how : Wrapping} {p : Plan N} {q : Plan M} → Plans R p q → Plans R (plan.Wrap how p) (plan.Wrap how q)
  takes : {k : Stream → Plan N} {l : Stream → Plan M} → ((s : Stream) → Plans R (k s) (l s)) → Plans R (plan.Take k) (plan.Take l)
  deepens : {depth : ℕ} {place : Place} {p : Plan N} {q : Plan M} → Plans R p q → Plans R (plan.Deep depth place p) (plan.Deep depth place q)
  enters : {c : Call N} {d : Call M} {depth : ℕ} {p : Plan N} {q : Plan M} → Calls R c d → Plans R p q
      → Plans R (plan.Enter c depth p) (plan.Enter d depth q)

pub data Heres {N M : Type 0} (R : N → M → Type 0) : Here N → Here M → Type 0 where
  heres : {n : N} {m : M} {position size : Option ℕ} {bs : List (Bound N)} {ds : List (Bound M)} {depth : ℕ} {ruled : Bool}
      {ts : List (NamedTemplate N)} {us : List (NamedTemplate M)} {ss : List (NamedSets N)} {rs : List (NamedSets M)}
      {aliases : List Alias} {same : N → N → Bool} {like : M → M → Bool}
      → R n m → Each (Bindings R) bs ds → Each (Templates R) ts us → Each (Sets R) ss rs → TellAlike R same like
      → Heres R
      (record { node = n; position = position; size = size; bindings = bs; depth = depth; ruled = ruled; templates = ts; sets = ss; aliases = aliases; same = same })
      (record { node = m; position = position; size = size; bindings = ds; depth = depth; ruled = ruled; templates = us; sets = rs; aliases = aliases; same = like })

pub data Supplies {N M : Type 0} (R : N → M → Type 0) : Supplied N → Supplied M → Type 0 where
  both_know : {x : Given N} {y : Given M} → Givens R x y → Supplies R (direct.Known x) (direct.Known y)
  both_fail : {why : Refused} → Supplies R (direct.Failed why) (direct.Failed why)

pub data Endings {N M : Type 0} (R : N → M → Type 0) : Ending N → Ending M → Type 0 where
  finished : Endings R direct.Finished direct.Finished
  gave : {v : Value N} {w : Value M} → Values R v w → Endings R (direct.Gave v) (direct.Gave w)
  halted : {why : Refused} → Endings R (direct.Halted why) (direct.Halted why)

-- the same content, and related endings
pub data Come {N M : Type 0} (R : N → M → Type 0) : Outcome N → Outcome M → Type 0 where
  come : {content : Stream} {e : Ending N} {f : Ending M} → Endings R e f
      → Come R (record { content = content; ending = e }) (record { content = content; ending = f })

pub data Globals {N M : Type 0} (R : N → M → Type 0) : NamedGlobal N → NamedGlobal M → Type 0 where
  global : {name : Expanded} {n : N} {m : M} → R n m → Globals R (record { name = name; element = n }) (record { name = name; element = m })

pub data Pasts {N M : Type 0} (R : N → M → Type 0) : Past N → Past M → Type 0 where
  pasts : {under : List Expanded} {bs : List (Bound N)} {ds : List (Bound M)} → Each (Bindings R) bs ds
      → Pasts R (record { values = bs; under = under }) (record { values = ds; under = under })
