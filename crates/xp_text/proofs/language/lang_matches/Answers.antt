use Rattle.std.proofs.Common.{◌∙◌, refl}
use Rattle.xp_text.proofs.Languages.{is_language_bytes, shorter, unlike_front, at_end, going_on}
use Rattle.xp_text.proofs.language.lang_matches.Goals as goal

pub returns-then-lang-wanted : goal.returns-then-lang-wanted
returns-then-lang-wanted c =
    shorter c.as_bytes-lang.result.now c.as_bytes-wanted.result.now c.if-lang-wanted.true
    ∙ rw (c.as_bytes-lang.ensures.value, c.as_bytes-wanted.ensures.value) (is_language_bytes c.args.lang.now c.args.wanted.now c.utf8.lang c.utf8.wanted)

pub returns-then-is_empty : goal.returns-then-is_empty
returns-then-is_empty c =
    let same = c.if-eq_ignore_ascii_case.ensures in
    c.if-is_empty.true
    ∙ at_end c.as_bytes-lang.result.now c.as_bytes-wanted.result.now c.split_at.result.0.now c.split_at.result.1.now c.split_at.ensures.front
    c.split_at.ensures.back (same.test.0 refl) c.if-is_empty.ensures
    ∙ rw (c.as_bytes-lang.ensures.value, c.as_bytes-wanted.ensures.value) (is_language_bytes c.args.lang.now c.args.wanted.now c.utf8.lang c.utf8.wanted)

pub returns-else-is_empty : goal.returns-else-is_empty
returns-else-is_empty c =
    let same = c.if-eq_ignore_ascii_case.ensures in
    going_on c.as_bytes-lang.result.now c.as_bytes-wanted.result.now c.split_at.result.0.now c.split_at.result.1.now c.split_at.ensures.front
    c.split_at.ensures.back (same.test.0 refl) c.if-is_empty.ensures
    ∙ rw (c.as_bytes-lang.ensures.value, c.as_bytes-wanted.ensures.value) (is_language_bytes c.args.lang.now c.args.wanted.now c.utf8.lang c.utf8.wanted)

pub returns-else-eq_ignore_ascii_case : goal.returns-else-eq_ignore_ascii_case
returns-else-eq_ignore_ascii_case c =
    let same = c.if-eq_ignore_ascii_case.ensures in
    c.if-eq_ignore_ascii_case.false
    ∙ unlike_front c.as_bytes-lang.result.now c.as_bytes-wanted.result.now c.split_at.result.0.now c.split_at.result.1.now c.split_at.ensures.front
    c.split_at.ensures.back same.test.1
    ∙ rw (c.as_bytes-lang.ensures.value, c.as_bytes-wanted.ensures.value) (is_language_bytes c.args.lang.now c.args.wanted.now c.utf8.lang c.utf8.wanted)
