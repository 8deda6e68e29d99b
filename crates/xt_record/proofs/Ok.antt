-- What is said of results and options.
use Rattle.std.proofs.Common.{Option, None, Some, Result, Ok, Err}
use Rattle.std.specs.Prelude.{IfOk, IfSome, OnOk}

pub if_ok : {T E : Type 0} {P Q : T → Type 0} (r : Result T E) → IfOk r P → ((x : T) → P x → Q x) → IfOk r Q
if_ok (Ok x) h f = f x h
if_ok (Err e) h f = tt

pub if_some : {T : Type 0} {P Q : T → Type 0} (o : Option T) → IfSome o P → ((x : T) → P x → Q x) → IfSome o Q
if_some None h f = tt
if_some (Some x) h f = f x h

pub on_ok : {T E P Q : Type 0} (r : Result T E) → OnOk r P → (P → Q) → OnOk r Q
on_ok (Ok x) h f = f h
on_ok (Err e) h f = tt

pub on_both : {T E : Type 0} (P Q : Type 0) (r : Result T E) → OnOk r P → OnOk r Q → OnOk r (P × Q)
on_both P Q (Ok x) h k = (h, k)
on_both P Q (Err e) h k = tt

pub if_both : {T E : Type 0} (P Q : T → Type 0) (r : Result T E) → IfOk r P → IfOk r Q → IfOk r (λ x. P x × Q x)
if_both P Q (Ok x) h k = (h, k)
if_both P Q (Err e) h k = tt
