-- The steps that a run takes by itself, one after another, and those of an expression.
use Rattle.std.proofs.Common.{◌≡◌, ℕ, List, [], ◌∷◌, ◌++◌, map, Option, Some, None, refl, sym, ap, ◌∙◌, subst, append_assoc}
use Rattle.std.proofs.lemmas.List.{map-append}
use Rattle.spec_stylesheet.specs.Place.{Place}
use Rattle.spec_meaning.specs.Question.{Question, Answer}
use Rattle.spec_meaning.specs.Program as program
use Rattle.spec_meaning.specs.Program.{Wanted, Given, Supply, Program, Give, Refuse, Ask, Need, Read, Said, Gives, Refuses, Lacks, noted, if_given, run}
use Rattle.spec_run.specs.Plan.{Plan, Stop, Use, lift, located}
use Rattle.spec_run.specs.Going.{Event, Going}
use Rattle.spec_run.specs.Passes.{Passes, stays, asks, uses, puts, begins, wraps, takes, goes_deep, is_too_deep}
use Rattle.xt_frames.specs.Noted.{event_at, traced}

pub passes_then : {N : Type 0} {ask : Question N → Answer N} {hand : ℕ → Supply N} {room : ℕ} {p : Plan N} {g : Going N} {q : Plan N} {h : Going N} {r : Plan N} {i : Going N}
    → Passes ask hand room p g q h → Passes ask hand room q h r i → Passes ask hand room p g r i
passes_then stays k = k
passes_then (asks s) k = asks (passes_then s k)
passes_then (uses e s) k = uses e (passes_then s k)
passes_then (puts s) k = puts (passes_then s k)
passes_then (begins s) k = begins (passes_then s k)
passes_then (wraps s) k = wraps (passes_then s k)
passes_then (takes s) k = takes (passes_then s k)
passes_then (goes_deep e s) k = goes_deep e (passes_then s k)
passes_then (is_too_deep e) stays = is_too_deep e

-- what an expression lacks, with what goes on from there
pub record Lacking {N : Type 0} (ask : Question N → Answer N) (hand : ℕ → Supply N) (room : ℕ) (p : Plan N) (g h : Going N) (wanted : Wanted) (depth : ℕ) (place : Place) : Type 0 where
  pub next : Given N → Plan N
  pub passes : Passes ask hand room p g (Use wanted depth place next) h
  pub missing : hand depth wanted ≡ None

-- where a plan that begins with an expression comes to, by what the expression said and what it read
abbrev pub Lifted : {N A : Type 0} → (Question N → Answer N) → (ℕ → Supply N) → ℕ → (A → Plan N) → ℕ → Place → List (Event N) → Going N → Plan N → Going N → Said A → Option (List (Read N)) → Type 0
Lifted ask hand room k d place tr g p h said None = Unit {0}
Lifted ask hand room k d place tr g p h (Gives a) (Some rs) = Passes ask hand room p h (k a) (traced (tr ++ map (event_at place) rs) g)
Lifted ask hand room k d place tr g p h (Refuses w) (Some rs) = Passes ask hand room p h (Stop (located place w)) (traced (tr ++ map (event_at place) rs) g)
Lifted ask hand room k d place tr g p h (Lacks w) (Some rs) = Lacking ask hand room p h (traced (tr ++ map (event_at place) rs) g) w d place

lifted_before : {N A : Type 0} {ask : Question N → Answer N} {hand : ℕ → Supply N} {room : ℕ} (k : A → Plan N) (d : ℕ) (place : Place) (tr : List (Event N)) (g : Going N) {p : Plan N} {h : Going N} {q : Plan N} {i : Going N} (said : Said A) (rs : Option (List (Read N)))
    → ((r : Plan N) (j : Going N) → Passes ask hand room q i r j → Passes ask hand room p h r j) → Lifted ask hand room k d place tr g q i said rs → Lifted ask hand room k d place tr g p h said rs
lifted_before k d place tr g said None f l = tt
lifted_before k d place tr g (Gives a) (Some rs) f l = f _ _ l
lifted_before k d place tr g (Refuses w) (Some rs) f l = f _ _ l
lifted_before k d place tr g (Lacks w) (Some rs) f l = record { next = l.next; passes = f _ _ l.passes; missing = l.missing }

-- one read more
pub read_more : {N : Type 0} (place : Place) (tr : List (Event N)) (rs : List (Read N)) (r : Read N) → (tr ++ map (event_at place) rs) ++ event_at place r ∷ [] ≡ tr ++ map (event_at place) (rs ++ r ∷ [])
read_more place tr rs r = append_assoc tr (map (event_at place) rs) (event_at place r ∷ []) ∙ ap (λ l. tr ++ l) (sym (map-append (event_at place) rs (r ∷ [])))

-- from where one read more is noted
pub after_read : {N : Type 0} {ask : Question N → Answer N} {hand : ℕ → Supply N} {room : ℕ} (place : Place) (tr : List (Event N)) (rs : List (Read N)) (read : Read N) (g : Going N) {p r : Plan N} {j : Going N}
    → Passes ask hand room p (traced (tr ++ map (event_at place) (rs ++ read ∷ [])) g) r j → Passes ask hand room p (traced ((tr ++ map (event_at place) rs) ++ event_at place read ∷ []) g) r j
after_read {N = N} {ask = ask} {hand = hand} {room = room} place tr rs read g {p = p} {r = r} {j = j} s =
    let P : List (Event N) → Type 0 = λ l. Passes ask hand room p (traced l g) r j in
    subst P (sym (read_more place tr rs read)) s

pub lifted : {N A : Type 0} (ask : Question N → Answer N) (hand : ℕ → Supply N) (room : ℕ) (k : A → Plan N) (d : ℕ) (place : Place) (tr : List (Event N)) (g : Going N) (p : Program N A) (rs : List (Read N))
    → let c = run (hand d) d p (record { truth = ask; reads = Some rs }) in Lifted ask hand room k d place tr g (lift place d p k) (traced (tr ++ map (event_at place) rs) g) c.said c.state.reads
unfolding lift
lifted ask hand room k d place tr g (Give a) rs = stays
lifted ask hand room k d place tr g (Refuse w) rs = stays
lifted {N = N} ask hand room k d place tr g (Ask q next) rs =
    let e : Read N = program.Asked q (ask q) in
    let c = run (hand d) d (next (ask q)) (record { truth = ask; reads = Some (rs ++ e ∷ []) }) in
    lifted_before k d place tr g c.said c.state.reads (λ r j s. asks (after_read place tr rs e g s)) (lifted ask hand room k d place tr g (next (ask q)) (rs ++ e ∷ []))
lifted {N = N} {A = A} ask hand room k d place tr g (Need w next) rs = go (hand d w) refl (λ v. lifted ask hand room k d place tr g (next v) (rs ++ program.Saw w d v ∷ []))
  where
    go : (o : Option (Given N)) → hand d w ≡ o → ((v : Given N) → let c = run (hand d) d (next v) (record { truth = ask; reads = Some (rs ++ program.Saw w d v ∷ []) }) in Lifted ask hand room k d place tr g (lift place d (next v) k) (traced (tr ++ map (event_at place) (rs ++ program.Saw w d v ∷ [])) g) c.said c.state.reads)
        → let c = if_given (λ v. run (hand d) d (next v) (noted (program.Saw w d v) (record { truth = ask; reads = Some rs }))) (record { said = Lacks w; state = record { truth = ask; reads = Some rs } }) o in
        Lifted ask hand room k d place tr g (Use w d place (λ v. lift place d (next v) k)) (traced (tr ++ map (event_at place) rs) g) c.said c.state.reads
    go None e h = record { next = λ v. lift place d (next v) k; passes = stays; missing = e }
    go (Some v) e h =
        let c = run (hand d) d (next v) (record { truth = ask; reads = Some (rs ++ program.Saw w d v ∷ []) }) in
        lifted_before k d place tr g c.said c.state.reads (λ r j s. uses e (after_read place tr rs (program.Saw w d v) g s)) (h v)
