-- What relates two worlds whose nodes are named by an N and by an M: nothing but the names of nodes may differ.
use Rattle.std.specs.Prelude.{ℕ, Bool, List, [], ◌∷◌, Option, None, Some}
use Rattle.spec_document.specs.declared.axis.Axis.{Axis}
use Rattle.spec_document.specs.declared.kind.Kind.{Kind}
use Rattle.spec_document.specs.Name.{Expanded}
use Rattle.spec_document.specs.Scope.{Scope}
use Rattle.spec_expression.specs.Number.{Number}
use Rattle.spec_expression.specs.Syntax.{Test}
use Rattle.spec_stylesheet.specs.Sheet as sheet
use Rattle.spec_meaning.specs.Stream.{Stream}
use Rattle.spec_meaning.specs.Value as value
use Rattle.spec_meaning.specs.Value.{Value}
use Rattle.spec_meaning.specs.Question as question
use Rattle.spec_meaning.specs.Question.{Question, Answer, Refusal, Candidates, ChosenRule, NamedTemplate, NamedSets, ResolvedUnit}
use Rattle.spec_meaning.specs.Program as program
use Rattle.spec_meaning.specs.Program.{Program, CurrentRule, Wanted, Given, Supply, Read, Said}
use Rattle.spec_meaning.specs.Context.{Context, Bound}

-- lists related element by element
pub data Each {A B : Type 0} (R : A → B → Type 0) : List A → List B → Type 0 where
  none : Each R [] []
  more : {x : A} {y : B} {xs : List A} {ys : List B} → R x y → Each R xs ys → Each R (x ∷ xs) (y ∷ ys)

-- both there and related, or neither there
pub data Both {A B : Type 0} (R : A → B → Type 0) : Option A → Option B → Type 0 where
  neither : Both R None None
  both : {x : A} {y : B} → R x y → Both R (Some x) (Some y)

pub data Templates {N M : Type 0} (R : N → M → Type 0) : NamedTemplate N → NamedTemplate M → Type 0 where
  template : {name : Expanded} {n : N} {m : M} → R n m
      → Templates R (record { name = name; element = n }) (record { name = name; element = m })

pub data Sets {N M : Type 0} (R : N → M → Type 0) : NamedSets N → NamedSets M → Type 0 where
  sets : {name : Expanded} {ns : List N} {ms : List M} → Each R ns ms
      → Sets R (record { name = name; elements = ns }) (record { name = name; elements = ms })

pub data Units {N M : Type 0} (R : N → M → Type 0) : ResolvedUnit N → ResolvedUnit M → Type 0 where
  resolved : {unit : sheet.Unit} {aliases : List sheet.Alias} {counts : Bool} {ts : List (NamedTemplate N)} {us : List (NamedTemplate M)} {ss : List (NamedSets N)} {rs : List (NamedSets M)}
      → Each (Templates R) ts us → Each (Sets R) ss rs
      → Units R (record { unit = unit; templates = ts; sets = ss; aliases = aliases; counts = counts })
      (record { unit = unit; templates = us; sets = rs; aliases = aliases; counts = counts })

pub data Rules {N M : Type 0} (R : N → M → Type 0) : ChosenRule N → ChosenRule M → Type 0 where
  rule : {first last : ℕ} {n : N} {m : M} → R n m
      → Rules R (record { element = n; first = first; last = last }) (record { element = m; first = first; last = last })

pub data Questions {N M : Type 0} (R : N → M → Type 0) : Question N → Question M → Type 0 where
  steps : {n : N} {m : M} {axis : Axis} {test : Test} → R n m → Questions R (question.Step n axis test) (question.Step m axis test)
  texts : {n : N} {m : M} → R n m → Questions R (question.Text n) (question.Text m)
  names : {n : N} {m : M} → R n m → Questions R (question.Name n) (question.Name m)
  places : {n : N} {m : M} → R n m → Questions R (question.Place n) (question.Place m)
  orders : {ns : List N} {ms : List M} → Each R ns ms → Questions R (question.Order ns) (question.Order ms)
  keys : {name : Expanded} {text : List ℕ} → Questions R (question.Key name text) (question.Key name text)
  choices : {n : N} {m : M} {mode : Option Expanded} {candidates : Candidates} → R n m
      → Questions R (question.Choice n mode candidates) (question.Choice m mode candidates)
  copies : {n : N} {m : M} → R n m → Questions R (question.Copy n) (question.Copy m)
  units : {n : N} {m : M} → R n m → Questions R (question.Unit n) (question.Unit m)
  externals : {name : List ℕ} → Questions R (question.External name) (question.External name)

pub data Answers {N M : Type 0} (R : N → M → Type 0) : Answer N → Answer M → Type 0 where
  gone : Answers R question.Gone question.Gone
  refused : {why : Refusal} → Answers R (question.Refused why) (question.Refused why)
  some_nodes : {ns : List N} {ms : List M} → Each R ns ms → Answers R (question.SomeNodes ns) (question.SomeNodes ms)
  some_text : {text : List ℕ} → Answers R (question.SomeText text) (question.SomeText text)
  named : {kind : Kind} {name : Option Expanded} {written : List ℕ} → Answers R (question.Named kind name written) (question.Named kind name written)
  chosen : {r : Option (ChosenRule N)} {s : Option (ChosenRule M)} → Both (Rules R) r s → Answers R (question.Chosen r) (question.Chosen s)
  copied : {stream : Stream} → Answers R (question.Copied stream) (question.Copied stream)
  some_unit : {u : ResolvedUnit N} {v : ResolvedUnit M} → Units R u v → Answers R (question.Resolved u) (question.Resolved v)
  passed : {text : Option (List ℕ)} → Answers R (question.Passed text) (question.Passed text)

pub data Values {N M : Type 0} (R : N → M → Type 0) : Value N → Value M → Type 0 where
  number : {n : Number} → Values R (value.Number n) (value.Number n)
  text : {t : List ℕ} → Values R (value.Text t) (value.Text t)
  boolean : {b : Bool} → Values R (value.Boolean b) (value.Boolean b)
  nodes : {ns : List N} {ms : List M} → Each R ns ms → Values R (value.Nodes ns) (value.Nodes ms)
  fragment : {stream : Stream} → Values R (value.Fragment stream) (value.Fragment stream)

pub data Givens {N M : Type 0} (R : N → M → Type 0) : Given N → Given M → Type 0 where
  counted : {n : ℕ} → Givens R (program.Counted n) (program.Counted n)
  ruled : {rule : Option CurrentRule} → Givens R (program.Ruled rule) (program.Ruled rule)
  valued : {v : Value N} {w : Value M} → Values R v w → Givens R (program.Valued v) (program.Valued w)

pub data Bindings {N M : Type 0} (R : N → M → Type 0) : Bound N → Bound M → Type 0 where
  bound : {name : Expanded} {v : Value N} {w : Value M} → Values R v w
      → Bindings R (record { name = name; value = v }) (record { name = name; value = w })

pub data Contexts {N M : Type 0} (R : N → M → Type 0) : Context N → Context M → Type 0 where
  context : {n current_n : N} {m current_m : M} {position size : Option ℕ} {bs : List (Bound N)} {ds : List (Bound M)} {scope : Scope}
      → R n m → R current_n current_m → Each (Bindings R) bs ds
      → Contexts R (record { node = n; current = current_n; position = position; size = size; bindings = bs; scope = scope })
      (record { node = m; current = current_m; position = position; size = size; bindings = ds; scope = scope })

-- programs that ask and need alike and end alike, whatever related answers they get
pub data Match {N M A B : Type 0} (R : N → M → Type 0) (S : A → B → Type 0) : Program N A → Program M B → Type 0 where
  gives : {a : A} {b : B} → S a b → Match R S (program.Give a) (program.Give b)
  refuses : {why : Refusal} → Match R S (program.Refuse why) (program.Refuse why)
  asks : {q : Question N} {r : Question M} {k : Answer N → Program N A} {l : Answer M → Program M B}
      → Questions R q r → ((x : Answer N) (y : Answer M) → Answers R x y → Match R S (k x) (l y)) → Match R S (program.Ask q k) (program.Ask r l)
  needs : {w : Wanted} {k : Given N → Program N A} {l : Given M → Program M B}
      → ((x : Given N) (y : Given M) → Givens R x y → Match R S (k x) (l y)) → Match R S (program.Need w k) (program.Need w l)

-- related values, the same refusal, or want of the same
pub data Outcomes {A B : Type 0} (S : A → B → Type 0) : Said A → Said B → Type 0 where
  both_give : {a : A} {b : B} → S a b → Outcomes S (program.Gives a) (program.Gives b)
  both_refuse : {why : Refusal} → Outcomes S (program.Refuses why) (program.Refuses why)
  both_lack : {w : Wanted} → Outcomes S (program.Lacks w) (program.Lacks w)

pub data ReadsAlike {N M : Type 0} (R : N → M → Type 0) : Read N → Read M → Type 0 where
  asked_alike : {q : Question N} {r : Question M} {x : Answer N} {y : Answer M} → Questions R q r → Answers R x y
      → ReadsAlike R (program.Asked q x) (program.Asked r y)
  saw_alike : {w : Wanted} {depth : ℕ} {x : Given N} {y : Given M} → Givens R x y
      → ReadsAlike R (program.Saw w depth x) (program.Saw w depth y)

-- worlds that answer related questions alike, and what is at hand in both
abbrev pub Worlds : {N M : Type 0} → (N → M → Type 0) → (Question N → Answer N) → (Question M → Answer M) → Type 0
Worlds {N = N} {M = M} R ask other = (q : Question N) (r : Question M) → Questions R q r → Answers R (ask q) (other r)

abbrev pub SuppliesAlike : {N M : Type 0} → (N → M → Type 0) → Supply N → Supply M → Type 0
SuppliesAlike R supply others = (w : Wanted) → Both (Givens R) (supply w) (others w)
