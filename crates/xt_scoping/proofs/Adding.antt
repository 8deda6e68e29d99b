-- What is added step by step.
use Rattle.std.proofs.Common.{◌≡◌, List, ◌++◌, ap, ◌∙◌, append_assoc, Result, Ok, Err}
use Rattle.std.specs.Prelude.{OnOk}

pub twice : {A : Type 0} (first second third a b : List A) → second ≡ first ++ a → third ≡ second ++ b → third ≡ first ++ (a ++ b)
twice first second third a b e h = h ∙ ap (λ xs. xs ++ b) e ∙ append_assoc first a b

pub thrice : {A : Type 0} (first second third fourth a b c : List A) → second ≡ first ++ a → third ≡ second ++ b → fourth ≡ third ++ c
    → fourth ≡ first ++ ((a ++ b) ++ c)
thrice first second third fourth a b c e h k = twice first third fourth (a ++ b) c (twice first second third a b e h) k

pub on_ok_always : {T E P : Type 0} (r : Result T E) → P → OnOk r P
on_ok_always (Ok value) p = p
on_ok_always (Err error) p = tt
