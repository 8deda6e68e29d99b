-- What expressions come to, before what follows them.
use Rattle.std.proofs.Common.{◌≡◌, ℕ, List, [], ◌++◌, map, Result, Ok, Err, refl, sym, ap, ◌∙◌, subst}
use Rattle.std.proofs.lemmas.List.{append-nil}
use Rattle.spec_document.specs.Name.{Expanded}
use Rattle.spec_stylesheet.specs.Place.{Place, Site}
use Rattle.spec_meaning.specs.Stream.{filled}
use Rattle.spec_meaning.specs.Question.{Question, Answer}
use Rattle.spec_meaning.specs.Program.{Supply, Program, Ending, run}
use Rattle.spec_meaning.specs.Context.{Context}
use Rattle.spec_run.specs.Content.{Here, context_at, asked}
use Rattle.spec_run.specs.Plan.{Plan, lift, Refused}
use Rattle.spec_run.specs.Going.{Going, closed}
use Rattle.spec_run.specs.Passes.{Passes}
use Rattle.spec_node.specs.declared.node_ref.NodeRef.{NodeRef}
use Rattle.xt_questions.specs.declared.read.Read.{Read}
use Rattle.xt_questions.specs.declared.fault.EvalFault.{EvalFault}
use Rattle.xt_questions.specs.declared.fault.EvalFault.TheVariants as faults
use Rattle.xt_questions.specs.View.{read_of}
use Rattle.xt_questions.specs.Runs.{Runs}
use Rattle.xt_engine.specs.Advances.{Stops, Misses}
use Rattle.xt_frames.specs.declared.run.Came.{Came}
use Rattle.xt_frames.specs.declared.run.Came.TheVariants as came
use Rattle.xt_frames.specs.Noted.{noted_in, traced, read_in, Settled, SettledSo}
use Rattle.xt_frames.specs.Left.{Found, FoundSo}
use Rattle.xt_frames.proofs.Passed.{Lifted, lifted}

-- what the run of a program says of the plan that begins with it
lifts : {A : Type 0} (ask : Question NodeRef → Answer NodeRef) (hand : ℕ → Supply NodeRef) (room : ℕ) (k : A → Plan NodeRef) (d : ℕ) (place : Place) (g : Going NodeRef) (p : Program NodeRef A) {none : List Read} {c : Ending NodeRef A}
    → none ≡ [] → run (hand d) d p (noted_in ask none) ≡ c → Lifted ask hand room k d place g.trace g (lift place d p k) g c.said c.state.reads
lifts {A = A} ask hand room k d place g p {none = none} {c = c} e h =
    let start : traced (g.trace ++ []) g ≡ g = ap (λ l. traced l g) (append-nil g.trace) in
    let P : Ending NodeRef A → Type 0 = λ x. Lifted ask hand room k d place g.trace g (lift place d p k) g x.said x.state.reads in
    let Q : Going NodeRef → Type 0 = λ i. let x = run (hand d) d p (noted_in ask []) in Lifted ask hand room k d place g.trace g (lift place d p k) i x.said x.state.reads in
    subst P (ap (λ l. run (hand d) d p (noted_in ask l)) (sym e) ∙ h) (subst Q start (lifted ask hand room k d place g.trace g p []))

-- an evaluation from an empty list of reads, and what it came to
pub found_of : {A X : Type 0} (view : X → A) (ask : Question NodeRef → Answer NodeRef) (hand : ℕ → Supply NodeRef) (room : ℕ) (k : A → Plan NodeRef) (d : ℕ) (place : Place) (old new : Going NodeRef) (p : Program NodeRef A) (t : Question NodeRef → Answer NodeRef) (none reads : List Read) (found : Result X EvalFault) (c : Came X)
    → none ≡ [] → Runs view (hand d) d p (noted_in ask none) (noted_in t reads) found → Settled place old new reads found c → Found view ask hand room (lift place d p k) k d place old new c
found_of {A = A} {X = X} view ask hand room k d place old new p t none reads found c e h s = record { so = go found h c s.so }
  where
    go : (found : Result X EvalFault) → Runs view (hand d) d p (noted_in ask none) (noted_in t reads) found → (c : Came X) → SettledSo place old new reads found c → FoundSo view ask hand room (lift place d p k) k d place old new c
    go (Ok x) h (came.Is y) s =
        let P : X → Type 0 = λ z. Passes ask hand room (lift place d p k) old (k (view z)) new in
        let Q : Going NodeRef → Type 0 = λ i. Passes ask hand room (lift place d p k) old (k (view x)) i in
        subst P (sym s.0) (subst Q (sym s.1) (lifts ask hand room k d place old p e h.so))
    go (Err (faults.Refused why)) h (came.Halts w) s =
        let P : Refused → Type 0 = λ z. Stops ask hand room (lift place d p k) old z (filled (closed old) old.streams) in
        (subst P (sym s.0) (record { last = read_in place (map read_of reads) old; passes = lifts ask hand room k d place old p e h.so; content = refl }), s.1)
    go (Err (faults.Wants name)) h (came.Lacks n) s =
        let l = lifts ask hand room k d place old p e h.so in
        let P : Expanded → Type 0 = λ z. Misses ask hand room (lift place d p k) old z d place in
        (subst P (sym s.0) (record { last = read_in place (map read_of reads) old; next = l.next; passes = l.passes; missing = l.missing; same = refl }), s.1)
    go (Ok x) h (came.Halts w) s = absurd s
    go (Ok x) h (came.Lacks n) s = absurd s
    go (Err (faults.Refused why)) h (came.Is y) s = absurd s
    go (Err (faults.Refused why)) h (came.Lacks n) s = absurd s
    go (Err (faults.Wants name)) h (came.Is y) s = absurd s
    go (Err (faults.Wants name)) h (came.Halts w) s = absurd s
    go (Err faults.Memory) h (came.Is y) s = absurd s
    go (Err faults.Memory) h (came.Halts w) s = absurd s
    go (Err faults.Memory) h (came.Lacks n) s = absurd s

-- the same where an instruction stands, by the context that was made there
pub found_here : {A X : Type 0} (view : X → A) (meant : Context NodeRef → Program NodeRef A) (ask : Question NodeRef → Answer NodeRef) (hand : ℕ → Supply NodeRef) (room : ℕ) (k : A → Plan NodeRef) (h : Here NodeRef) (site : Site) (old new : Going NodeRef) (t : Question NodeRef → Answer NodeRef) (none reads : List Read) (found : Result X EvalFault) (c : Came X) (x : Context NodeRef) (d : ℕ)
    → none ≡ [] → x ≡ context_at h site → d ≡ h.depth → Runs view (hand d) d (meant x) (noted_in ask none) (noted_in t reads) found → Settled site.place old new reads found c → Found view ask hand room (asked site h meant k) k h.depth site.place old new c
found_here {A = A} view meant ask hand room k h site old new t none reads found c x d e is_context is_depth r s =
    let P : Context NodeRef → Type 0 = λ y. Runs view (hand d) d (meant y) (noted_in ask none) (noted_in t reads) found in
    let Q : ℕ → Type 0 = λ n. Runs view (hand n) n (meant (context_at h site)) (noted_in ask none) (noted_in t reads) found in
    found_of view ask hand room k h.depth site.place old new (meant (context_at h site)) t none reads found c e (subst Q is_depth (subst P is_context r)) s
