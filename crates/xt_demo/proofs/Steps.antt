-- A row and a change more.
use Rattle.std.proofs.Common.{◌≡◌, ℕ, zero, suc, ◌+◌, ◌-◌, ◌<◌, List, ◌∷◌, ◌++◌, ap, sym, ◌∙◌, arith, append_assoc}
use Rattle.std.specs.Prelude.{decimal}
use Rattle.spec_session.specs.Command.{Command}
use Rattle.spec_session.specs.Generated.{next_state, drawn, value_drawn, row_lines, rows_lines, state_after, Place, change_command, behind, changes}

one_row : (left state : ℕ) → 0 < left → rows_lines left state ≡ row_lines (value_drawn (next_state state)) ++ rows_lines (left - 1) (next_state state)
one_row zero state some = absurd (omega arith)
one_row (suc left) state some =
    let e : suc left - 1 ≡ left = omega arith in
    ap (λ (n : ℕ). row_lines (value_drawn (next_state state)) ++ rows_lines n (next_state state)) (sym e)

-- the lines of one row more are there
pub row_more : (items new all : List (List ℕ)) (left state after value : ℕ) → 0 < left → after ≡ next_state state → value ≡ 100 + drawn after 900
    → new ≡ items ++ row_lines (decimal value) → items ++ rows_lines left state ≡ all → new ++ rows_lines (left - 1) after ≡ all
row_more items new all left state after value some a v n so_far =
    ap (λ (xs : List (List ℕ)). xs ++ rows_lines (left - 1) after) n
    ∙ ap (λ (x : ℕ). (items ++ row_lines (decimal x)) ++ rows_lines (left - 1) after) v
    ∙ ap (λ (s : ℕ). (items ++ row_lines (value_drawn s)) ++ rows_lines (left - 1) s) a
    ∙ append_assoc items (row_lines (value_drawn (next_state state))) (rows_lines (left - 1) (next_state state))
    ∙ ap (λ (xs : List (List ℕ)). items ++ xs) (sym (one_row left state some))
    ∙ so_far

-- one draw more is behind
pub draw_more : (left state after end : ℕ) → 0 < left → after ≡ next_state state → state_after left state ≡ end → state_after (left - 1) after ≡ end
draw_more zero state after end some a so_far = absurd (omega arith)
draw_more (suc left) state after end some a so_far =
    let e : suc left - 1 ≡ left = omega arith in (λ i. state_after (e i) (a i)) ∙ so_far

-- one change more is behind
pub change_more : (left next : ℕ) (place after : Place) (command : Command) (more : List Command) → next + 1 ≡ left → command ≡ change_command place
    → after ≡ behind place → changes left place ++ more ≡ command ∷ (changes next after ++ more)
change_more zero next place after command more e c a = absurd (omega (arith, e))
change_more (suc left) next place after command more e c a =
    let n : left ≡ next = omega (arith, e) in λ i. sym c i ∷ (changes (n i) (sym a i) ++ more)
