-- What the clause of a call says of its program, and that calls which read the same say the same.
use Rattle.std.proofs.Common.{◌≡◌, ℕ, List, [], ◌∷◌, ◌++◌, Option, None, Some, Result, Ok, Err, refl, sym, ap, subst, ◌∙◌}
use Rattle.std.specs.Prelude.{IfSome}
use Rattle.std.proofs.lemmas.List.{append_cancel_left}
use Rattle.spec_meaning.specs.Question.{Question, Answer}
use Rattle.spec_meaning.specs.Program.{Given, Program, Give, Refuse, Ask, Need, Read, Saw, State, Said, IsEnded}
use Rattle.spec_meaning.specs.Program.{Ending, Supply, with_reads, if_given, run, outcome_of, reads_of, Hold}
use Rattle.spec_meaning.proofs.Runs as programs
use Rattle.spec_meaning.proofs.Runs.{run_is}
use Rattle.spec_node.specs.declared.node_ref.NodeRef.{NodeRef}
use Rattle.xt_questions.specs.declared.fault.EvalFault.{EvalFault}
use Rattle.xt_questions.specs.declared.fault.EvalFault.TheVariants as faults
use Rattle.xt_questions.specs.Change.{AllStand}
use Rattle.xt_questions.specs.Runs.{Runs}
use Rattle.spec_agreement.specs.Calls.{said_by, Says}

-- a run that ends so, and what it leaves
abbrev pub EndsSo : {A : Type 0} → Supply NodeRef → ℕ → Program NodeRef A → (old new : State NodeRef) → Said A → Type 0
EndsSo supply depth p old new said = run supply depth p old ≡ record { said = said; state = new }

-- so ends the run of a call that says how
pub call_ends : {A X : Type 0} (view : X → A) (supply : Supply NodeRef) (depth : ℕ) (p : Program NodeRef A) (old new : State NodeRef)
    (result : Result X EvalFault)
    → Runs view supply depth p old new result → IfSome (said_by view result) (λ said. EndsSo supply depth p old new said)
call_ends view supply depth p old new (Ok x) r = r.so
call_ends view supply depth p old new (Err (faults.Refused why)) r = r.so
call_ends view supply depth p old new (Err (faults.Wants name)) r = r.so
call_ends view supply depth p old new (Err faults.Memory) r = tt

-- what is told by a run that ends so
pub record Told {A : Type 0} (supply : Supply NodeRef) (depth : ℕ) (p : Program NodeRef A) (old new : State NodeRef) (said : Said A) : Type 0 where
  pub ends : said ≡ outcome_of old.truth supply p
  pub truth : new.truth ≡ old.truth
  pub reads : new.reads ≡ with_reads (reads_of old.truth supply depth p) old.reads

run_tells : {A : Type 0} (supply : Supply NodeRef) (depth : ℕ) (p : Program NodeRef A) (old new : State NodeRef) (said : Said A)
    → EndsSo supply depth p old new said → Told supply depth p old new said
run_tells {A = A} supply depth p old new said e =
    let same = sym e ∙ run_is supply depth p old in
    record {
      ends = ap (λ (x : Ending NodeRef A). x.said) same;
      truth = ap (λ (x : Ending NodeRef A). x.state.truth) same;
      reads = ap (λ (x : Ending NodeRef A). x.state.reads) same;
    }

pub call_leaves_truth : {A X : Type 0} (view : X → A) (supply : Supply NodeRef) (depth : ℕ) (p : Program NodeRef A) (old new : State NodeRef)
    (result : Result X EvalFault)
    → Runs view supply depth p old new result → new.truth ≡ old.truth
call_leaves_truth view supply depth p old new (Ok x) r = (run_tells supply depth p old new _ r.so).truth
call_leaves_truth view supply depth p old new (Err (faults.Refused why)) r = (run_tells supply depth p old new _ r.so).truth
call_leaves_truth view supply depth p old new (Err (faults.Wants name)) r = (run_tells supply depth p old new _ r.so).truth
call_leaves_truth view supply depth p old new (Err faults.Memory) r = r.so

-- what is told of what a call says
told_if : {A : Type 0} (o : Option (Said A)) {P Q : Said A → Type 0} → ((said : Said A) → P said → Q said) → IfSome o P → IfSome o Q
told_if None f h = tt
told_if (Some said) f h = f said h

pub call_says : {A X : Type 0} (view : X → A) (supply : Supply NodeRef) (depth : ℕ) (p : Program NodeRef A) (old new : State NodeRef)
    (result : Result X EvalFault)
    → Runs view supply depth p old new result → Says view result (outcome_of old.truth supply p)
call_says view supply depth p old new result r =
    told_if (said_by view result) (λ said e. (run_tells supply depth p old new said e).ends) (call_ends view supply depth p old new result r)

pub call_reads : {A X : Type 0} (view : X → A) (supply : Supply NodeRef) (depth : ℕ) (p : Program NodeRef A) (old new : State NodeRef)
    (result : Result X EvalFault)
    → Runs view supply depth p old new result
    → IfSome (said_by view result) (λ said. new.reads ≡ with_reads (reads_of old.truth supply depth p) old.reads)
call_reads view supply depth p old new result r =
    told_if (said_by view result) (λ said e. (run_tells supply depth p old new said e).reads) (call_ends view supply depth p old new result r)

-- reads of a run hold with what was at hand there, where they stand
standing_hold : {N A : Type 0} (ask other : Question N → Answer N) (supply : Supply N) (depth : ℕ) (p : Program N A)
    → AllStand other (reads_of ask supply depth p) → Hold other supply (reads_of ask supply depth p)
standing_hold ask other supply depth (Give v) s = tt
standing_hold ask other supply depth (Refuse w) s = tt
standing_hold ask other supply depth (Ask q next) s = (s.0, standing_hold ask other supply depth (next (ask q)) s.1)
standing_hold {N = N} ask other supply depth (Need w next) s = go (supply w) refl (λ g. standing_hold ask other supply depth (next g)) s
  where
    go : (given : Option (Given N)) → supply w ≡ given
        → ((g : Given N) → AllStand other (reads_of ask supply depth (next g)) → Hold other supply (reads_of ask supply depth (next g)))
        → AllStand other (if_given (λ g. Saw w depth g ∷ reads_of ask supply depth (next g)) [] given)
        → Hold other supply (if_given (λ g. Saw w depth g ∷ reads_of ask supply depth (next g)) [] given)
    go None e f k = tt
    go (Some g) e f k = (e, f g k.1)

-- what the first call said, and what it read, which its world keeps
pub record KeptSo {A : Type 0} (supply : Supply NodeRef) (depth : ℕ) (p : Program NodeRef A) (old : State NodeRef) (said : Said A)
    (reads : List (Read NodeRef)) : Type 0 where
  pub ends : said ≡ outcome_of old.truth supply p
  pub all : reads ≡ reads_of old.truth supply depth p

those_kept : {N : Type 0} (before reads more : List (Read N)) (kept : Option (List (Read N))) → kept ≡ Some before
    → Some (before ++ reads) ≡ with_reads more kept → reads ≡ more
those_kept before reads more None e same = absurd (cc)
those_kept before reads more (Some others) e same =
    append_cancel_left before reads more (some_inj same ∙ ap (λ (l : List _). l ++ more) (some_inj e))
  where
    some_inj : {A : Type 0} {x y : A} → Some x ≡ Some y → x ≡ y
    some_inj e = cc

pub first_kept : {A X : Type 0} (view : X → A) (supply : Supply NodeRef) (depth : ℕ) (p : Program NodeRef A) (old new : State NodeRef)
    (first : Result X EvalFault) (said : Said A) (kept reads : List (Read NodeRef))
    → Runs view supply depth p old new first → said_by view first ≡ Some said → old.reads ≡ Some kept → new.reads ≡ Some (kept ++ reads)
    → KeptSo supply depth p old said reads
first_kept {A = A} view supply depth p old new first said kept reads r e o n =
    let If : Option (Said A) → Type 0 = λ x. IfSome x (λ (says : Said A). EndsSo supply depth p old new says) in
    let told = run_tells supply depth p old new said (subst If e (call_ends view supply depth p old new first r)) in
    record { ends = told.ends; all = those_kept kept reads (reads_of old.truth supply depth p) old.reads o (sym n ∙ told.reads) }

-- what holds of the reads, and of the end
agrees : {A : Type 0} (supply others : Supply NodeRef) (depth : ℕ) (p : Program NodeRef A) (old there : State NodeRef) (said : Said A)
    (reads : List (Read NodeRef))
    → KeptSo supply depth p old said reads → IsEnded said → Hold there.truth others reads → programs.Agree old.truth there.truth supply others depth p
agrees {A = A} supply others depth p old there said reads k ended hold =
    let H : List (Read NodeRef) → Type 0 = Hold there.truth others in
    let E : Said A → Type 0 = IsEnded in
    programs.agreement old.truth there.truth supply others depth p (subst H k.all hold) (subst E k.ends ended)

module _ {A X : Type 0} (view : X → A) (supply others : Supply NodeRef) (depth : ℕ) (p : Program NodeRef A) (old new there after : State NodeRef)
    (first second : Result X EvalFault) (said : Said A) (kept reads : List (Read NodeRef))
    (r : Runs view supply depth p old new first) (e : said_by view first ≡ Some said) (ended : IsEnded said)
    (o : old.reads ≡ Some kept) (n : new.reads ≡ Some (kept ++ reads)) where
  pub same_said : (below : ℕ) → Hold there.truth others reads → Runs view others below p there after second → Says view second said
  same_said below hold t =
      let k = first_kept view supply depth p old new first said kept reads r e o n in
      let same = agrees supply others depth p old there said reads k ended hold in
      told_if (said_by view second) (λ says b. b ∙ same.0 ∙ sym k.ends) (call_says view others below p there after second t)

  pub same_reads : Hold there.truth others reads → Runs view others depth p there after second
      → IfSome (said_by view second) (λ (says : Said A). after.reads ≡ with_reads reads there.reads)
  same_reads hold t =
      let k = first_kept view supply depth p old new first said kept reads r e o n in
      let same = agrees supply others depth p old there said reads k ended hold in
      told_if (said_by view second) (λ says b. b ∙ ap (λ (rs : List (Read NodeRef)). with_reads rs there.reads) (same.1 ∙ sym k.all))
      (call_reads view others depth p there after second t)

  -- with the same at hand it is enough that the questions have the same answers
  pub same_standing : (below : ℕ) → AllStand there.truth reads → Runs view supply below p there after second → Says view second said
  same_standing below stand t =
      let k = first_kept view supply depth p old new first said kept reads r e o n in
      let S : List (Read NodeRef) → Type 0 = AllStand there.truth in
      let H : List (Read NodeRef) → Type 0 = Hold there.truth supply in
      let hold = subst H (sym k.all) (standing_hold old.truth there.truth supply depth p (subst S k.all stand)) in
      let same = agrees supply supply depth p old there said reads k ended hold in
      told_if (said_by view second) (λ says b. b ∙ same.0 ∙ sym k.ends) (call_says view supply below p there after second t)
