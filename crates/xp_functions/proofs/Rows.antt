-- Tables of names.
use Rattle.std.proofs.Common.{◌≡◌, ℕ, ◌<◌, Bool, true, List, length, get_or, drop, map, Option, None, Some, sym, ◌∙◌, bytes_eq, if◌then◌else◌}
use Rattle.std.proofs.lemmas.List.{at_drop_more}
use Rattle.std.specs.Str.{chars}
use Rattle.spec_meaning.specs.declared.function.Function.{Function}
use Rattle.spec_meaning.specs.Function.{found_in, takes}
use Rattle.xp_functions.specs.declared.table.Row.{Row}
use Rattle.xp_functions.specs.Found.{row_of}
use Rattle.xp_functions.proofs.Words.{if_true}

pub found_here : (rows : List Row) (i : ℕ) (d : Row) (name : List ℕ) (n : ℕ) (b : Bool) (r : Option Function) → i < length rows
    → b ≡ bytes_eq name (chars (get_or rows i d).name.now) → b ≡ true
    → r ≡ (if takes (row_of (get_or rows i d)) n then Some (get_or rows i d).function else None)
    → found_in (map row_of (drop i rows)) name n ≡ found_in (map row_of rows) name n → r ≡ found_in (map row_of rows) name n
found_here rows i d name n b r h e t f same =
    f ∙ sym (if_true _ _ _ (sym e ∙ t)) ∙ sym (at_drop_more (λ (rs : List Row). found_in (map row_of rs) name n) rows i d h) ∙ same
