-- How calls that run programs are put together.
use Rattle.std.proofs.lemmas.List.{at_drop_more, at_drop_all}
use Rattle.std.proofs.Common.{◌≡◌, ℕ, ◌+◌, ◌<◌, ◌≤◌, List, [], ◌∷◌, length, drop, get_or, Result, Ok, Err, Option, Some, None, refl, sym, ap, ◌∙◌, subst}
use Rattle.std.specs.Result.{IsErrAnd}
use Rattle.xt_questions.specs.declared.fault.Refusal.{Refusal}
use Rattle.spec_meaning.specs.Program.{Given, Supply, Saw, Program, Give, Refuse, Ask, Need, then, State, asked, noted, Said, Gives, Refuses, Lacks, Ending, if_given, run}
use Rattle.spec_node.specs.declared.node_ref.NodeRef.{NodeRef}
use Rattle.xt_questions.specs.declared.fault.EvalFault.{EvalFault}
use Rattle.xt_questions.specs.declared.fault.EvalFault.TheVariants.{Memory, Refused, Wants}
use Rattle.xt_questions.specs.View.{refusal_of}
use Rattle.xt_questions.specs.Runs.{Runs, RunsSo, Continues}

-- what follows what was said
abbrev pub follow : {N A B : Type 0} → Supply N → ℕ → (A → Program N B) → Said A → State N → Ending N B
follow supply depth k (Gives v) s = run supply depth (k v) s
follow supply depth k (Refuses w) s = record { said = Refuses w; state = s }
follow supply depth k (Lacks w) s = record { said = Lacks w; state = s }

pub run-then : {N A B : Type 0} (supply : Supply N) (depth : ℕ) (p : Program N A) (k : A → Program N B) (s : State N) → run supply depth (then p k) s ≡ follow supply depth k (run supply depth p s).said (run supply depth p s).state
unfolding then
run-then supply depth (Give v) k s = refl
run-then supply depth (Refuse w) k s = refl
run-then supply depth (Ask q next) k s = run-then supply depth (next (s.truth q)) k (asked q s)
run-then {N = N} supply depth (Need w next) k s = go (supply w) (λ v. run-then supply depth (next v) k (noted (Saw w depth v) s))
  where
    go : (o : Option (Given N)) → ((v : Given N) → run supply depth (then (next v) k) (noted (Saw w depth v) s) ≡ follow supply depth k (run supply depth (next v) (noted (Saw w depth v) s)).said (run supply depth (next v) (noted (Saw w depth v) s)).state)
        → if_given (λ v. run supply depth (then (next v) k) (noted (Saw w depth v) s)) (record { said = Lacks w; state = s }) o
        ≡ follow supply depth k (if_given (λ v. run supply depth (next v) (noted (Saw w depth v) s)) (record { said = Lacks w; state = s }) o).said (if_given (λ v. run supply depth (next v) (noted (Saw w depth v) s)) (record { said = Lacks w; state = s }) o).state
    go None h = refl
    go (Some v) h = h v

pub run_keeps : {N A : Type 0} (supply : Supply N) (depth : ℕ) (p : Program N A) (s : State N) → (run supply depth p s).state.truth ≡ s.truth
run_keeps supply depth (Give v) s = refl
run_keeps supply depth (Refuse w) s = refl
run_keeps supply depth (Ask q next) s = run_keeps supply depth (next (s.truth q)) (asked q s)
run_keeps {N = N} supply depth (Need w next) s = go (supply w) (λ v. run_keeps supply depth (next v) (noted (Saw w depth v) s))
  where
    go : (o : Option (Given N)) → ((v : Given N) → (run supply depth (next v) (noted (Saw w depth v) s)).state.truth ≡ s.truth)
        → (if_given (λ v. run supply depth (next v) (noted (Saw w depth v) s)) (record { said = Lacks w; state = s }) o).state.truth ≡ s.truth
    go None h = refl
    go (Some v) h = h v

pub keeps_at : {N A : Type 0} (supply : Supply N) (depth : ℕ) (p : Program N A) (s : State N) {e : Ending N A} → run supply depth p s ≡ e → e.state.truth ≡ s.truth
keeps_at supply depth p s e = ap (λ (d : Ending _ _). d.state.truth) (sym e) ∙ run_keeps supply depth p s

-- a program goes on from a value
run_on : {N A B : Type 0} (supply : Supply N) (depth : ℕ) (p : Program N A) (k : A → Program N B) (s : State N) {d : Ending N A} → run supply depth p s ≡ d → run supply depth (then p k) s ≡ follow supply depth k d.said d.state
run_on supply depth p k s e = run-then supply depth p k s ∙ ap (λ (d : Ending _ _). follow supply depth k d.said d.state) e

pub runs_keeps : {A X : Type 0} {v : X → A} {supply : Supply NodeRef} {depth : ℕ} {p : Program NodeRef A} {s t : State NodeRef} {r : Result X EvalFault} → Runs v supply depth p s t r → t.truth ≡ s.truth
runs_keeps {X = X} {v = v} {supply = supply} {depth = depth} {p = p} {s = s} {t = t} {r = r} h = go r h.so
  where
    go : (r : Result X EvalFault) → RunsSo v supply depth p s t r → t.truth ≡ s.truth
    go (Ok y) e = keeps_at supply depth p s e
    go (Err (Refused c)) e = keeps_at supply depth p s e
    go (Err (Wants c)) e = keeps_at supply depth p s e
    go (Err Memory) e = e

pub runs_then : {A B X Y : Type 0} {v : X → A} {w : Y → B} {supply : Supply NodeRef} {depth : ℕ} {p : Program NodeRef A} (k : A → Program NodeRef B) {s t u : State NodeRef} {x : X} {r : Result Y EvalFault}
    → Runs v supply depth p s t (Ok x) → Runs w supply depth (k (v x)) t u r → Runs w supply depth (then p k) s u r
runs_then {Y = Y} {v = v} {w = w} {supply = supply} {depth = depth} {p = p} k {s = s} {t = t} {u = u} {x = x} {r = r} h g = record { so = go r g.so }
  where
    go : (r : Result Y EvalFault) → RunsSo w supply depth (k (v x)) t u r → RunsSo w supply depth (then p k) s u r
    go (Ok y) e = run_on supply depth p k s h.so ∙ e
    go (Err (Refused c)) e = run_on supply depth p k s h.so ∙ e
    go (Err (Wants c)) e = run_on supply depth p k s h.so ∙ e
    go (Err Memory) e = e ∙ keeps_at supply depth p s h.so

pub runs_stop : {A B X Y : Type 0} {v : X → A} {w : Y → B} {supply : Supply NodeRef} {depth : ℕ} {p : Program NodeRef A} (k : A → Program NodeRef B) {s t : State NodeRef} {e : EvalFault}
    → Runs v supply depth p s t (Err e) → Runs w supply depth (then p k) s t (Err e)
runs_stop {v = v} {w = w} {supply = supply} {depth = depth} {p = p} k {s = s} {t = t} {e = e} h = record { so = go e h.so }
  where
    go : (e : EvalFault) → RunsSo v supply depth p s t (Err e) → RunsSo w supply depth (then p k) s t (Err e)
    go (Refused c) e = run_on supply depth p k s e
    go (Wants c) e = run_on supply depth p k s e
    go Memory e = e

-- at the end
pub runs_gives : {A X : Type 0} {v : X → A} {supply : Supply NodeRef} {depth : ℕ} {s : State NodeRef} {x : X} {a : A} → v x ≡ a → Runs v supply depth (Give a) s s (Ok x)
runs_gives {A = A} {v = v} {supply = supply} {depth = depth} {s = s} {x = x} h = let P : A → Type 0 = λ b. Runs v supply depth (Give b) s s (Ok x) in subst P h (record { so = refl })

pub runs_refuse : {A X : Type 0} {v : X → A} {supply : Supply NodeRef} {depth : ℕ} {s : State NodeRef} {why : Refusal} → Runs v supply depth (Refuse (refusal_of why)) s s (Err (Refused why))
runs_refuse = record { so = refl }

pub runs_memory : {A X : Type 0} {v : X → A} {supply : Supply NodeRef} {depth : ℕ} {p : Program NodeRef A} {s t : State NodeRef} {e : EvalFault} → e ≡ Memory → t.truth ≡ s.truth → Runs v supply depth p s t (Err e)
runs_memory {v = v} {supply = supply} {depth = depth} {p = p} {s = s} {t = t} h k = record { so = subst (λ m. RunsSo v supply depth p s t (Err m)) (sym h) k }

-- what runs on from here runs on from there
pub runs_from : {A X : Type 0} {v : X → A} {supply : Supply NodeRef} {depth : ℕ} {p q : Program NodeRef A} {s t u : State NodeRef} {r : Result X EvalFault} → Continues supply depth p s q t → Runs v supply depth p s u r → Runs v supply depth q t u r
runs_from {X = X} {v = v} {supply = supply} {depth = depth} {p = p} {q = q} {s = s} {t = t} {u = u} {r = r} e h = record { so = go r h.so }
  where
    go : (r : Result X EvalFault) → RunsSo v supply depth p s u r → RunsSo v supply depth q t u r
    go (Ok y) f = sym e.same ∙ f
    go (Err (Refused c)) f = sym e.same ∙ f
    go (Err (Wants c)) f = sym e.same ∙ f
    go (Err Memory) f = f ∙ sym (run_keeps supply depth p s) ∙ ap (λ (d : Ending _ _). d.state.truth) e.same ∙ run_keeps supply depth q t

-- one call further
pub goes_on : {A B X : Type 0} {v : X → A} {supply : Supply NodeRef} {depth : ℕ} {p : Program NodeRef A} (k : A → Program NodeRef B) {q : Program NodeRef B} {s t u : State NodeRef} {x : X} → Continues supply depth (then p k) s q t → Runs v supply depth p s u (Ok x) → Continues supply depth (k (v x)) u q t
goes_on {supply = supply} {depth = depth} {p = p} k {s = s} e h = record { same = sym (run_on supply depth p k s h.so) ∙ e.same }

-- the next turn of a loop over a list: what is left to do begins with the element at hand
pub next_turn : {A E : Type 0} {supply : Supply NodeRef} {depth : ℕ} (left : List E → Program NodeRef A) (xs : List E) (i : ℕ) (x : E) {q : Program NodeRef A} {s t : State NodeRef} → i < length xs → Continues supply depth (left (drop i xs)) s q t → Continues supply depth (left (get_or xs i x ∷ drop (i + 1) xs)) s q t
next_turn {supply = supply} {depth = depth} left xs i x {s = s} h e = record { same = sym (at_drop_more (λ rest. run supply depth (left rest) s) xs i x h) ∙ e.same }

-- after the last
pub last_turn : {A E : Type 0} {supply : Supply NodeRef} {depth : ℕ} (left : List E → Program NodeRef A) (xs : List E) (i : ℕ) {q : Program NodeRef A} {s t : State NodeRef} → length xs ≤ i → Continues supply depth (left (drop i xs)) s q t → Continues supply depth (left []) s q t
last_turn {supply = supply} {depth = depth} left xs i {s = s} h e = record { same = sym (at_drop_all (λ rest. run supply depth (left rest) s) xs i h) ∙ e.same }

-- at the exit of a `?`, where the error goes on as it is
pub exits : {A X : Type 0} {v : X → A} {supply : Supply NodeRef} {depth : ℕ} {p : Program NodeRef A} {s t : State NodeRef} {e : EvalFault} (r : Result X EvalFault) → IsErrAnd r (λ d. d ≡ e) → Runs v supply depth p s t (Err e) → Runs v supply depth p s t r
exits {v = v} {supply = supply} {depth = depth} {p = p} {s = s} {t = t} (Err d) h k = subst (λ f. Runs v supply depth p s t (Err f)) (sym h) k
exits (Ok x) h k = absurd h

-- for the goals of functions that call one such call after another
pub ruleset runs = (runs_then, runs_stop, runs_gives, runs_refuse, runs_memory)
