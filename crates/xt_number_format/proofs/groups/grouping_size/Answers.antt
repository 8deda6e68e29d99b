use Rattle.std.proofs.Common.{◌∙◌, length, arith, sym}
use Rattle.std.proofs.lemmas.Bool.{cond-true, cond-false, lt-ltb, le-ltb}
use Rattle.std.proofs.lemmas.Iterator.{YieldsList-from_chars}
use Rattle.std.proofs.lemmas.Iterator.Consumers.{YieldsList-turn, YieldsList-end}
use Rattle.std.proofs.lemmas.List.{length_push}
use Rattle.std.specs.Str.{chars}
use Rattle.xt_number_format.proofs.Sizes.{starts, space_read, digit_read, nothing_read, all_read, size_fits}
use Rattle.xt_number_format.proofs.groups.grouping_size.Goals as goal

pub loop-character-init : goal.loop-character-init
loop-character-init c = starts (chars c.args.text.now)

pub loop-character-preserved-then-is_space : goal.loop-character-preserved-then-is_space
loop-character-preserved-then-is_space c =
    let turn = YieldsList-turn (YieldsList-from_chars c.args.text.now c.utf8.text cc) c.loop-character.yielded _ c.loop-character.yielded_by _ _
    c.in-Some.character c.in-Some.is c.next.ensures.steps in
    rw (length_push c.loop-character.yielded c.in-Some.character)
    (space_read (chars c.args.text.now) _ c.loop-character.is_ended (length c.loop-character.yielded) c.in-Some.character _ _ turn
    (sym c.is_space.ensures ∙ c.if-is_space.true) c.loop-character.invariant)

pub overflow_mul-size : goal.overflow_mul-size
overflow_mul-size c =
    let fits = size_fits c.loop-character.is_ended c.loop-character.digits c.loop-character.size c.in-Some.character
    (sym c.is_further_digit.ensures ∙ c.if-is_further_digit.true) c.loop-character.invariant.small in
    omega arith

pub overflow_add-size : goal.overflow_add-size
overflow_add-size c =
    let fits = size_fits c.loop-character.is_ended c.loop-character.digits c.loop-character.size c.in-Some.character
    (sym c.is_further_digit.ensures ∙ c.if-is_further_digit.true) c.loop-character.invariant.small in
    omega arith

pub loop-character-preserved : goal.loop-character-preserved
loop-character-preserved c =
    let turn = YieldsList-turn (YieldsList-from_chars c.args.text.now c.utf8.text cc) c.loop-character.yielded _ c.loop-character.yielded_by _ _
    c.in-Some.character c.in-Some.is c.next.ensures.steps in
    rw (length_push c.loop-character.yielded c.in-Some.character)
    (digit_read (chars c.args.text.now) _ c.loop-character.is_ended (length c.loop-character.yielded) c.in-Some.character _ _ turn
    (sym c.is_space.ensures ∙ c.if-is_space.false) (sym c.is_further_digit.ensures ∙ c.if-is_further_digit.true) c.loop-character.invariant)

pub returns-else-is_further_digit : goal.returns-else-is_further_digit
returns-else-is_further_digit c =
    let turn = YieldsList-turn (YieldsList-from_chars c.args.text.now c.utf8.text cc) c.loop-character.yielded _ c.loop-character.yielded_by _ _
    c.in-Some.character c.in-Some.is c.next.ensures.steps in
    nothing_read (chars c.args.text.now) _ c.loop-character.is_ended (length c.loop-character.yielded) c.in-Some.character _ _ turn
    (sym c.is_space.ensures ∙ c.if-is_space.false) (sym c.is_further_digit.ensures ∙ c.if-is_further_digit.false) c.loop-character.invariant

pub returns-then-size-gt0 : goal.returns-then-size-gt0
returns-then-size-gt0 c =
    let end = YieldsList-end (YieldsList-from_chars c.args.text.now c.utf8.text cc) c.loop-character.yielded _ c.loop-character.yielded_by _ _ c.in-None.is
    c.next.ensures.steps in
    sym (cond-true _ _ _ (lt-ltb 0 c.loop-character.size c.if-size-gt0.true))
    ∙ all_read (chars c.args.text.now) _ c.loop-character.is_ended (length c.loop-character.yielded) _ c.loop-character.size end.1 c.loop-character.invariant

pub returns-else-size-gt0 : goal.returns-else-size-gt0
returns-else-size-gt0 c =
    let end = YieldsList-end (YieldsList-from_chars c.args.text.now c.utf8.text cc) c.loop-character.yielded _ c.loop-character.yielded_by _ _ c.in-None.is
    c.next.ensures.steps in
    sym (cond-false _ _ _ (le-ltb 0 c.loop-character.size c.if-size-gt0.false))
    ∙ all_read (chars c.args.text.now) _ c.loop-character.is_ended (length c.loop-character.yielded) _ c.loop-character.size end.1 c.loop-character.invariant
