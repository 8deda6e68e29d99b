-- The strings of parts, one after another.
use Rattle.std.proofs.Common.{◌≡◌, ◌∙◌, refl, sym, ap, subst, append_assoc, ℕ, ◌+◌, ◌<◌, List, [], ◌∷◌, ◌++◌, length, drop, get_or, map}
use Rattle.std.proofs.lemmas.List.{append-nil}
use Rattle.spec_stylesheet.specs.ValueTemplate as plain
use Rattle.spec_meaning.specs.Program.{Program, Give, Refuse, Ask, Need, then, State, Supply, run}
use Rattle.spec_meaning.specs.Context.{Context}
use Rattle.spec_transform.specs.Expansion.{part_text, joined}
use Rattle.xt_syntax.specs.declared.avt.AvtPart.{AvtPart}
use Rattle.xt_syntax.specs.PartView.{avt_part_of}
use Rattle.spec_node.specs.declared.node_ref.NodeRef.{NodeRef}
use Rattle.xt_questions.specs.declared.fault.EvalFault.{EvalFault}
use Rattle.xt_questions.specs.Runs.{Runs, Continues}
use Rattle.std.specs.Prelude.{Result}
use Rattle.xt_questions.proofs.Steps.{next_turn, runs_from}

then_then : {N A B C : Type 0} (p : Program N A) (f : A → Program N B) (k : B → Program N C) → then (then p f) k ≡ then p (λ x. then (f x) k)
unfolding then
then_then (Give v) f k = refl
then_then (Refuse w) f k = refl
then_then (Ask q next) f k = λ i. Ask q (λ a. then_then (next a) f k i)
then_then (Need w next) f k = λ i. Need w (λ g. then_then (next g) f k i)

then_give : {N A : Type 0} (p : Program N A) → then p (λ x. Give x) ≡ p
unfolding then
then_give (Give v) = refl
then_give (Refuse w) = refl
then_give (Ask q next) = λ i. Ask q (λ a. then_give (next a) i)
then_give (Need w next) = λ i. Need w (λ g. then_give (next g) i)

given_then : {N A B : Type 0} (v : A) (k : A → Program N B) → then (Give v) k ≡ k v
unfolding then
given_then v k = refl

continues_as : {A : Type 0} {supply : Supply NodeRef} {depth : ℕ} {o p q : Program NodeRef A} {s t : State NodeRef} → o ≡ p → Continues supply depth o s q t
    → Continues supply depth p s q t
continues_as {supply = supply} {depth = depth} {s = s} e h = record { same = ap (λ p. run supply depth p s) (sym e) ∙ h.same }

-- the same program under another form
pub runs_as : {A X : Type 0} {v : X → A} {supply : Supply NodeRef} {depth : ℕ} {p q : Program NodeRef A} {s t : State NodeRef} {r : Result X EvalFault} → p ≡ q
    → Runs v supply depth p s t r → Runs v supply depth q s t r
runs_as {supply = supply} {depth = depth} {s = s} e h = runs_from (record { same = ap (λ p. run supply depth p s) e }) h

-- a string that a program gives, behind this one
abbrev pub Behind : {N : Type 0} → List ℕ → Program N (List ℕ) → Program N (List ℕ)
Behind done p = then p (λ rest. Give (done ++ rest))

behind-behind : {N : Type 0} (done text : List ℕ) (p : Program N (List ℕ)) → Behind done (Behind text p) ≡ Behind (done ++ text) p
behind-behind {N = N} done text p =
    let inner : (λ (rest : List ℕ). then {N = N} (Give (text ++ rest)) (λ more. Give (done ++ more))) ≡ (λ (rest : List ℕ). Give ((done ++ text) ++ rest)) =
    λ i rest. one rest i in
    then_then p (λ rest. Give (text ++ rest)) (λ rest. Give (done ++ rest)) ∙ ap (λ (h : List ℕ → Program N (List ℕ)). then p h) inner
  where
    one : (rest : List ℕ) → then {N = N} (Give (text ++ rest)) (λ more. Give (done ++ more)) ≡ Give ((done ++ text) ++ rest)
    one rest = given_then {N = N} (text ++ rest) (λ more. Give (done ++ more)) ∙ ap (λ cs. Give cs) (sym (append_assoc done text rest))

-- what was joined, then the string of this part, and then the rest
joined_turn : {N : Type 0} (done : List ℕ) (p : plain.AvtPart) (ps : List plain.AvtPart) (c : Context N)
    → Behind done (joined (p ∷ ps) c) ≡ then (part_text p c) (λ text. Behind (done ++ text) (joined ps c))
unfolding joined
joined_turn {N = N} done p ps c =
    let inner : (λ (text : List ℕ). Behind done (Behind text (joined ps c))) ≡ (λ (text : List ℕ). Behind (done ++ text) (joined ps c)) =
    λ i text. behind-behind done text (joined ps c) i in
    then_then (part_text p c) (λ text. Behind text (joined ps c)) (λ rest. Give (done ++ rest))
    ∙ ap (λ (h : List ℕ → Program N (List ℕ)). then (part_text p c) h) inner

-- at the start nothing is joined
starts : {N : Type 0} (done : List ℕ) (ps qs : List plain.AvtPart) (c : Context N) → done ≡ [] → ps ≡ qs → joined qs c ≡ Behind done (joined ps c)
starts {N = N} done ps qs c e f =
    ap (λ rs. joined rs c) (sym f) ∙ sym (then_give (joined ps c)) ∙ ap (λ (cs : List ℕ). Behind cs (joined ps c)) (sym e)

pub continues_start : {supply : Supply NodeRef} {depth : ℕ} (done : List ℕ) (ps qs : List plain.AvtPart) (c : Context NodeRef) {s : State NodeRef} → done ≡ []
    → ps ≡ qs → Continues supply depth (Behind done (joined ps c)) s (joined qs c) s
continues_start done ps qs c e f = continues_as (starts done ps qs c e f) (record { same = refl })

-- at the end all is joined
pub ends : {N : Type 0} (done : List ℕ) (c : Context N) → Give done ≡ Behind done (joined [] c)
unfolding joined
ends {N = N} done c = ap (λ cs. Give cs) (sym (append-nil done)) ∙ sym (given_then {N = N} [] (λ rest. Give (done ++ rest)))

-- the next turn of the loop: what is left to join begins with the part at hand
pub next_part : {supply : Supply NodeRef} {depth : ℕ} (done : List ℕ) (c : Context NodeRef) (xs : List AvtPart) (i : ℕ) (x : AvtPart)
    {q : Program NodeRef (List ℕ)} {s t : State NodeRef} → i < length xs → x ≡ get_or xs i x
    → Continues supply depth (Behind done (joined (map avt_part_of (drop i xs)) c)) s q t
    → Continues supply depth (then (part_text (avt_part_of x) c) (λ text. Behind (done ++ text) (joined (map avt_part_of (drop (i + 1) xs)) c))) s q t
next_part {supply = supply} {depth = depth} done c xs i x {q = q} {s = s} {t = t} h is e =
    let rest = map avt_part_of (drop (i + 1) xs) in
    continues_as (joined_turn done (avt_part_of x) rest c)
    (subst (λ y. Continues supply depth (Behind done (joined (avt_part_of y ∷ rest) c)) s q t) (sym is)
    (next_turn (λ ys. Behind done (joined (map avt_part_of ys) c)) xs i x h e))
