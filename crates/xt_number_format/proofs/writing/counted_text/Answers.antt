use Rattle.std.proofs.Common.{◌≡◌, ◌<◌, ◌⊎◌, Bool, true, false, ap, sym, ◌∙◌, subst}
use Rattle.std.specs.Prelude.{bytes_eq}
use Rattle.std.specs.Char.{to_ascii_lowercase}
use Rattle.std.proofs.lemmas.Result.{IfOk-weaker}
use Rattle.std.proofs.Common.{map, length, pos}
use Rattle.spec_expression.specs.Number.{Whole, text_of}
use Rattle.spec_format.specs.Format as spec
use Rattle.xt_number_format.proofs.Written.{by_decimal, by_capital, by_small_letter, by_roman, by_small_roman, by_other, A_is, a_is, I_is, i_is}
use Rattle.xt_number_format.proofs.writing.counted_text.Goals as goal

pub returns-then-is_decimal : goal.returns-then-is_decimal
returns-then-is_decimal c =
    let token = c.args.token.now in
    let decimal = ap spec.is_decimal (sym c.as_str.ensures.characters) ∙ sym c.is_decimal.ensures ∙ c.if-is_decimal.true in
    let width = c.count_characters.ensures ∙ ap length c.as_str-then-is_decimal.ensures.characters in
    IfOk-weaker c.digits.result _ _
    (λ t is. is ∙ ap (λ n. spec.grouped_by c.args.grouping.now (spec.padded n (text_of (Whole (pos c.args.number))))) width
    ∙ sym (by_decimal c.args.grouping.now token c.args.number decimal))
    c.digits.ensures

pub returns-then-is : goal.returns-then-is
returns-then-is c =
    let token = c.args.token.now in
    let other = ap spec.is_decimal (sym c.as_str.ensures.characters) ∙ sym c.is_decimal.ensures ∙ c.if-is_decimal.false in
    let is_A = ap (bytes_eq token) (sym A_is) ∙ sym c.is.ensures ∙ c.if-is.true in
    IfOk-weaker c.letters.result _ _ (λ t is. is ∙ sym (by_capital c.args.grouping.now token c.args.number other is_A)) c.letters.ensures

pub returns-then-is-2 : goal.returns-then-is-2
returns-then-is-2 c =
    let token = c.args.token.now in
    let other = ap spec.is_decimal (sym c.as_str.ensures.characters) ∙ sym c.is_decimal.ensures ∙ c.if-is_decimal.false in
    let not_A = ap (bytes_eq token) (sym A_is) ∙ sym c.is.ensures ∙ c.if-is.false in
    let is_a = ap (bytes_eq token) (sym a_is) ∙ sym c.is-2.ensures ∙ c.if-is-2.true in
    IfOk-weaker c.lowercase.result _ _
    (λ t is. is ∙ ap (map to_ascii_lowercase) (c.as_str-then-is-2.ensures.characters ∙ c.in_ok-letters.ensures)
    ∙ sym (by_small_letter c.args.grouping.now token c.args.number other not_A is_a))
    c.lowercase.ensures

pub returns-then-number-le-GREATEST_ROMAN : goal.returns-then-number-le-GREATEST_ROMAN
returns-then-number-le-GREATEST_ROMAN c =
    let token = c.args.token.now in
    let other = ap spec.is_decimal (sym c.as_str.ensures.characters) ∙ sym c.is_decimal.ensures ∙ c.if-is_decimal.false in
    let not_A = ap (bytes_eq token) (sym A_is) ∙ sym c.is.ensures ∙ c.if-is.false in
    let not_a = ap (bytes_eq token) (sym a_is) ∙ sym c.is-2.ensures ∙ c.if-is-2.false in
    let is_I = ap (bytes_eq token) (sym I_is) ∙ sym c.is-3.ensures ∙ c.if-is-3.true in
    IfOk-weaker c.roman.result _ _
    (λ t is. is ∙ sym (by_roman c.args.grouping.now token c.args.number other not_A not_a is_I c.if-number-le-GREATEST_ROMAN.true))
    c.roman.ensures

pub returns-then-number-le-GREATEST_ROMAN-2 : goal.returns-then-number-le-GREATEST_ROMAN-2
returns-then-number-le-GREATEST_ROMAN-2 c =
    let token = c.args.token.now in
    let other = ap spec.is_decimal (sym c.as_str.ensures.characters) ∙ sym c.is_decimal.ensures ∙ c.if-is_decimal.false in
    let not_A = ap (bytes_eq token) (sym A_is) ∙ sym c.is.ensures ∙ c.if-is.false in
    let not_a = ap (bytes_eq token) (sym a_is) ∙ sym c.is-2.ensures ∙ c.if-is-2.false in
    let Past : Bool → Type 0 = λ b. ((b ≡ true) × (3999 < c.args.number)) ⊎ (b ≡ false) in
    let not_I = subst Past (c.is-3.ensures ∙ ap (bytes_eq token) I_is) c.else-is-3.either in
    let is_i = ap (bytes_eq token) (sym i_is) ∙ sym c.is-4.ensures ∙ c.if-is-4.true in
    IfOk-weaker c.lowercase-then-number-le-GREATEST_ROMAN-2.result _ _
    (λ t is. is ∙ ap (map to_ascii_lowercase) (c.as_str-then-number-le-GREATEST_ROMAN-2.ensures.characters ∙ c.in_ok-roman.ensures)
    ∙ sym (by_small_roman c.args.grouping.now token c.args.number other not_A not_a not_I is_i c.if-number-le-GREATEST_ROMAN-2.true))
    c.lowercase-then-number-le-GREATEST_ROMAN-2.ensures

pub returns : goal.returns
returns c =
    let token = c.args.token.now in
    let other = ap spec.is_decimal (sym c.as_str.ensures.characters) ∙ sym c.is_decimal.ensures ∙ c.if-is_decimal.false in
    let not_A = ap (bytes_eq token) (sym A_is) ∙ sym c.is.ensures ∙ c.if-is.false in
    let not_a = ap (bytes_eq token) (sym a_is) ∙ sym c.is-2.ensures ∙ c.if-is-2.false in
    let Past : Bool → Type 0 = λ b. ((b ≡ true) × (3999 < c.args.number)) ⊎ (b ≡ false) in
    let not_I = subst Past (c.is-3.ensures ∙ ap (bytes_eq token) I_is) c.else-is-3.either in
    let not_i = subst Past (c.is-4.ensures ∙ ap (bytes_eq token) i_is) c.else-is-4.either in
    IfOk-weaker c.decimal.result _ _ (λ t is. is ∙ sym (by_other c.args.grouping.now token c.args.number other not_A not_a not_I not_i))
    c.decimal.ensures
