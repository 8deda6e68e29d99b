-- How programs run, and that a run depends on what it reads alone.
use Rattle.std.proofs.Common.{◌≡◌, ℕ, List, [], ◌∷◌, Option, None, Some, refl, sym, ap, ◌∙◌, append_assoc}
use Rattle.std.proofs.lemmas.List.{append-nil}
use Rattle.spec_meaning.specs.Question.{Question, Answer}
use Rattle.spec_meaning.specs.Program.{Wanted, Given, Program, Give, Refuse, Ask, Need, Read, Asked, Saw, State, Said, Gives, Refuses, Lacks, IsEnded}
use Rattle.spec_meaning.specs.Program.{Ending, Supply, with_read, with_reads, noted, asked, if_given, run, outcome_of, reads_of, Hold}

-- a program ends alike and reads the same
abbrev pub Agree : {N A : Type 0} → (ask other : Question N → Answer N) → (supply others : Supply N) → (depth : ℕ) → Program N A → Type 0
Agree ask other supply others depth p =
    (outcome_of other others p ≡ outcome_of ask supply p) × (reads_of other others depth p ≡ reads_of ask supply depth p)

-- the same of a need, where this is given
need_agrees : {N A : Type 0} (ask other : Question N → Answer N) (supply others : Supply N) (depth : ℕ) (w : Wanted) (next : Given N → Program N A)
    → ((g : Given N) → Hold other others (reads_of ask supply depth (next g)) → IsEnded (outcome_of ask supply (next g))
    → Agree ask other supply others depth (next g))
    → (given : Option (Given N))
    → Hold other others (if_given (λ g. Saw w depth g ∷ reads_of ask supply depth (next g)) [] given)
    → IsEnded (if_given (λ g. outcome_of ask supply (next g)) (Lacks w) given)
    → (outcome_of other others (Need w next) ≡ if_given (λ g. outcome_of ask supply (next g)) (Lacks w) given)
    × (reads_of other others depth (Need w next) ≡ if_given (λ g. Saw w depth g ∷ reads_of ask supply depth (next g)) [] given)
need_agrees ask other supply others depth w next later None h ended = absurd ended
need_agrees ask other supply others depth w next later (Some g) h ended =
    let rest = later g h.1 ended in rw h.0 (rest.0, ap (λ rs. Saw w depth g ∷ rs) rest.1)

-- where what it read holds, a program that ends reads the same and ends alike
pub agreement : {N A : Type 0} (ask other : Question N → Answer N) (supply others : Supply N) (depth : ℕ) (p : Program N A)
    → Hold other others (reads_of ask supply depth p) → IsEnded (outcome_of ask supply p) → Agree ask other supply others depth p
agreement ask other supply others depth (Give v) h ended = (refl, refl)
agreement ask other supply others depth (Refuse w) h ended = (refl, refl)
agreement ask other supply others depth (Ask q next) h ended =
    let rest = agreement ask other supply others depth (next (ask q)) h.1 ended in (
      ap (λ a. outcome_of other others (next a)) h.0 ∙ rest.0,
      ap (λ a. Asked q a ∷ reads_of other others depth (next a)) h.0 ∙ ap (λ rs. Asked q (ask q) ∷ rs) rest.1,
    )
agreement ask other supply others depth (Need w next) h ended =
    need_agrees ask other supply others depth w next (λ g. agreement ask other supply others depth (next g)) (supply w) h ended

reads_one_more : {N : Type 0} (r : Read N) (rs : List (Read N)) (kept : Option (List (Read N))) → with_reads rs (with_read r kept) ≡ with_reads (r ∷ rs) kept
reads_one_more r rs None = refl
reads_one_more r rs (Some qs) = ap (λ l. Some l) (append_assoc qs (r ∷ []) rs)

no_reads : {N : Type 0} (kept : Option (List (Read N))) → kept ≡ with_reads [] kept
no_reads None = refl
no_reads (Some rs) = ap (λ l. Some l) (sym (append-nil rs))

-- a run's end: what is said, the truth left alone, and the reads added
abbrev pub ended : {N A : Type 0} → Said A → List (Read N) → State N → Ending N A
ended said reads s = record { said = said; state = record { truth = s.truth; reads = with_reads reads s.reads } }

ends_at_once : {N A : Type 0} (said : Said A) (s : State N) → (record { said = said; state = s }) ≡ ended said [] s
ends_at_once said s = ap (λ r. record { said = said; state = record { truth = s.truth; reads = r } }) (no_reads s.reads)

ends_later : {N A : Type 0} (said : Said A) (r : Read N) (rs : List (Read N)) (s : State N) → ended said rs (noted r s) ≡ ended said (r ∷ rs) s
ends_later said r rs s = ap (λ k. record { said = said; state = record { truth = s.truth; reads = k } }) (reads_one_more r rs s.reads)

need_ends : {N A : Type 0} (supply : Supply N) (depth : ℕ) (w : Wanted) (next : Given N → Program N A) (s : State N)
    → ((g : Given N) (t : State N) → run supply depth (next g) t ≡ ended (outcome_of t.truth supply (next g)) (reads_of t.truth supply depth (next g)) t)
    → (given : Option (Given N))
    → if_given (λ g. run supply depth (next g) (noted (Saw w depth g) s)) (record { said = Lacks w; state = s }) given
    ≡ ended (if_given (λ g. outcome_of s.truth supply (next g)) (Lacks w) given)
    (if_given (λ g. Saw w depth g ∷ reads_of s.truth supply depth (next g)) [] given) s
need_ends supply depth w next s later None = ends_at_once (Lacks w) s
need_ends supply depth w next s later (Some g) =
    later g (noted (Saw w depth g) s) ∙ ends_later (outcome_of s.truth supply (next g)) (Saw w depth g) (reads_of s.truth supply depth (next g)) s

-- a run ends so
pub run_is : {N A : Type 0} (supply : Supply N) (depth : ℕ) (p : Program N A) (s : State N)
    → run supply depth p s ≡ ended (outcome_of s.truth supply p) (reads_of s.truth supply depth p) s
run_is supply depth (Give v) s = ends_at_once (Gives v) s
run_is supply depth (Refuse w) s = ends_at_once (Refuses w) s
run_is supply depth (Ask q next) s =
    run_is supply depth (next (s.truth q)) (asked q s)
    ∙ ends_later (outcome_of s.truth supply (next (s.truth q))) (Asked q (s.truth q)) (reads_of s.truth supply depth (next (s.truth q))) s
run_is supply depth (Need w next) s = need_ends supply depth w next s (λ g t. run_is supply depth (next g) t) (supply w)
