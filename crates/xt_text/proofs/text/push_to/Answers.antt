use Rattle.std.proofs.Common.{◌++◌, ◌∙◌, ap, Result, Ok, Err, OnErr, string_bytes}
use Rattle.std.specs.Str.{chars}
use Rattle.std.proofs.lemmas.Str.{chars-append, IsUtf8-string_bytes}
use Rattle.xt_text.proofs.text.push_to.Goals as goal

-- what holds at any error
on_err : {T E P : Type 0} (r : Result T E) → P → OnErr r P
on_err (Ok x) p = tt
on_err (Err e) p = p

pub returns-in_err-push_str-in-Some-clause-err : goal.returns-in_err-push_str-in-Some-clause-err
returns-in_err-push_str-in-Some-clause-err c =
    on_err c.from_residual.result (ap chars c.in_err-push_str-in-Some.ensures.bytes ∙ ap (λ s. chars (string_bytes s)) c.in-Some.ensures.value)

pub returns-in_ok-push_str-in-Some-clause-ok : goal.returns-in_ok-push_str-in-Some-clause-ok
returns-in_ok-push_str-in-Some-clause-ok c =
    ap chars c.in_ok-push_str-in-Some.ensures.bytes ∙ chars-append _ _ (IsUtf8-string_bytes c.in-Some.own.now)
    ∙ ap (λ s. chars (string_bytes s) ++ chars c.args.more.now) c.in-Some.ensures.value
