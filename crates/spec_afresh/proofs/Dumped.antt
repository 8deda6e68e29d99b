-- The bytes that are written for a dump, behind the line of a command, are the lines of its body.
use Rattle.std.proofs.Common.{◌≡◌, ◌≤◌, arith, ℕ, suc, ◌+◌, ◌-◌, ◌/◌, ◌%◌, ◌==◌, ◌||◌, Bool, true, false, not, cond, List, [], ◌∷◌, ◌++◌, map}
use Rattle.std.proofs.Common.{length, take}
use Rattle.std.proofs.Common.{refl, sym, ap, ◌∙◌, append_assoc, append-nil}
use Rattle.std.specs.Prelude.{IsTrue, codes, slice_index, nat_lt}
use Rattle.std.specs.List.{list_all, list_any, flat_map}
use Rattle.std.specs.Str.{encode_utf8_all}
use Rattle.std.specs.Str.Lines.{strip_carriage_return}
use Rattle.std.proofs.Math.Utf8.{encode}
use Rattle.std.proofs.lemmas.Bool.{and_parts, and_from}
use Rattle.std.proofs.lemmas.List.Folds.{list_all-append}
use Rattle.std.proofs.lemmas.Str.{encodes-append}
use Rattle.spec_lines.specs.Lines.{is_newline, HasNoNewline, ended_lines, head_of}
use Rattle.spec_lines.proofs.Reading.{ended_lines-ended}
use Rattle.spec_document.specs.declared.event.Event.{Event}
use Rattle.spec_document.specs.declared.event.Event.TheVariants.{Start, Attribute, Data, Instruction, End, Comment}
use Rattle.spec_document.specs.Pyx.{Line, line_of}
use Rattle.spec_document.specs.Forest.{Plain, written, lines_of}
use Rattle.spec_edit.proofs.Numbers.{unlike}
use Rattle.spec_session.specs.declared.kinds.LineKind.TheVariants.{WithBody}
use Rattle.spec_session.specs.Command.{is_end, after, kind_of, session_of, session_with}
use Rattle.spec_session.specs.Reply.{Shown, reply_bytes, with_newline}
use Rattle.spec_afresh.specs.Afresh.{body_of}
use Rattle.spec_afresh.proofs.Names.{ends_no_line}
use Rattle.spec_afresh.proofs.Writable.{AreWritable}

-- ---- Characters as bytes

high-byte : (b : ℕ) → 128 ≤ b → ends_no_line b ≡ true
high-byte b h = rw (unlike b 0xA (λ e. omega arith), unlike b 0xD (λ e. omega arith)) refl

encode-line : (c : ℕ) → ends_no_line c ≡ true → list_all ends_no_line (encode c) ≡ true
unfolding encode
encode-line c h = by (nat_lt c 128) (nat_lt c 2048) (nat_lt c 65536)
  where
    next : ℕ → ℕ
    next bits = 128 + bits % 64

    last : (b : ℕ) → list_all ends_no_line (next b ∷ []) ≡ true
    last b = and_from (ends_no_line (next b)) true (high-byte (next b) (omega arith)) refl

    by : (one two three : Bool) → list_all ends_no_line (cond one (c ∷ []) (cond two ((192 + c / 64) ∷ next c ∷ [])
        (cond three ((224 + c / 4096) ∷ next (c / 64) ∷ next c ∷ [])
        ((240 + c / 262144) ∷ next (c / 4096) ∷ next (c / 64) ∷ next c ∷ [])))) ≡ true
    by true two three = and_from (ends_no_line c) true h refl
    by false true three =
        and_from (ends_no_line (192 + c / 64)) (list_all ends_no_line (next c ∷ [])) (high-byte (192 + c / 64) (omega arith)) (last c)
    by false false true =
        and_from (ends_no_line (224 + c / 4096)) (list_all ends_no_line (next (c / 64) ∷ next c ∷ [])) (high-byte (224 + c / 4096) (omega arith))
        (and_from (ends_no_line (next (c / 64))) (list_all ends_no_line (next c ∷ [])) (high-byte (next (c / 64)) (omega arith)) (last c))
    by false false false =
        and_from (ends_no_line (240 + c / 262144)) (list_all ends_no_line (next (c / 4096) ∷ next (c / 64) ∷ next c ∷ []))
        (high-byte (240 + c / 262144) (omega arith))
        (and_from (ends_no_line (next (c / 4096))) (list_all ends_no_line (next (c / 64) ∷ next c ∷ [])) (high-byte (next (c / 4096)) (omega arith))
        (and_from (ends_no_line (next (c / 64))) (list_all ends_no_line (next c ∷ [])) (high-byte (next (c / 64)) (omega arith)) (last c)))

encodes-line : (cs : List ℕ) → list_all ends_no_line cs ≡ true → list_all ends_no_line (encode_utf8_all cs) ≡ true
encodes-line [] h = refl
encodes-line (c ∷ cs) h =
    let parts = and_parts (ends_no_line c) (list_all ends_no_line cs) h in
    list_all-append ends_no_line (encode c) (encode_utf8_all cs)
    ∙ and_from (list_all ends_no_line (encode c)) (list_all ends_no_line (encode_utf8_all cs)) (encode-line c parts.0) (encodes-line cs parts.1)

-- ---- Bytes that end no line

no-newline : (bs : List ℕ) → list_all ends_no_line bs ≡ true → HasNoNewline bs
no-newline [] h = refl
no-newline (b ∷ bs) h =
    let parts = and_parts (ends_no_line b) (list_all ends_no_line bs) h in
    by (b == 0xA) (b == 0xD) parts.0 (no-newline bs parts.1)
  where
    by : (lf cr : Bool) → not (lf || cr) ≡ true → not (list_any is_newline bs) ≡ true → not (lf || list_any is_newline bs) ≡ true
    by true cr own more = absurd (cc)
    by false cr own more = more

last-byte : (bs : List ℕ) → list_all ends_no_line bs ≡ true → (slice_index bs (length bs - 1) == 13) ≡ false
last-byte [] h = refl
last-byte (b ∷ []) h = by (b == 0xA) (b == 0xD) refl (and_parts (ends_no_line b) true h).0
  where
    by : (lf cr : Bool) → (b == 0xD) ≡ cr → not (lf || cr) ≡ true → (b == 0xD) ≡ false
    by true cr e own = absurd (cc)
    by false true e own = absurd (cc)
    by false false e own = e
last-byte (b ∷ c ∷ bs) h =
    let one : length (b ∷ c ∷ bs) - 1 ≡ suc (length (c ∷ bs) - 1) = omega arith in
    ap (λ n. slice_index (b ∷ c ∷ bs) n == 13) one
    ∙ last-byte (c ∷ bs) (and_parts (ends_no_line b) (list_all ends_no_line (c ∷ bs)) h).1

no-return : (bs : List ℕ) → list_all ends_no_line bs ≡ true → strip_carriage_return bs ≡ bs
no-return bs h = ap (λ b. cond b (take (length bs - 1) bs) bs) (last-byte bs h)

-- ---- Lines

-- lines with their ends, as bytes
abbrev bytes_of : List Line → List ℕ
bytes_of lines = encode_utf8_all (flat_map with_newline lines)

one-line : (line : Line) (lines : List Line) (rest : List ℕ) → bytes_of (line ∷ lines) ++ rest ≡ encode_utf8_all line ++ 10 ∷ (bytes_of lines ++ rest)
unfolding encode
one-line line lines rest =
    let more = flat_map with_newline lines in
    ap (λ bs. bs ++ rest) (encodes-append (line ++ 0xA ∷ []) more ∙ ap (λ bs. bs ++ encode_utf8_all more) (encodes-append line (0xA ∷ []))
    ∙ append_assoc (encode_utf8_all line) (10 ∷ []) (encode_utf8_all more))
    ∙ append_assoc (encode_utf8_all line) (10 ∷ encode_utf8_all more) rest

AreLines : List Line → Type 0
AreLines [] = Unit {0}
AreLines (line ∷ lines) = IsTrue (list_all ends_no_line line) × AreLines lines

all-lines : (lines : List Line) → AreLines lines → (rest : List ℕ)
    → ended_lines (bytes_of lines ++ rest) ≡ map encode_utf8_all lines ++ ended_lines rest
unfolding AreLines
all-lines [] h rest = refl
all-lines (line ∷ lines) h rest =
    let bytes = encode_utf8_all line in
    let own = encodes-line line h.0 in
    ap ended_lines (one-line line lines rest) ∙ ended_lines-ended bytes (bytes_of lines ++ rest) (no-newline bytes own)
    ∙ λ i. no-return bytes own i ∷ all-lines lines h.1 rest i

written-lines : (events : List (Event (List ℕ))) → AreWritable events → AreLines (map line_of events ++ codes "." ∷ [])
unfolding AreLines
written-lines [] w = (refl, tt)
written-lines (e ∷ events) w = (w.0.one_line, written-lines events w.1)

-- ---- A body

-- no line of an event is the one that ends a body
not-end : (e : Event (List ℕ)) → is_end (encode_utf8_all (line_of e)) ≡ false
unfolding encode
not-end (Start name) = refl
not-end (Attribute name value) = refl
not-end (Data text) = refl
not-end (Instruction target []) = refl
not-end (Instruction target (c ∷ cs)) = refl
not-end (End name) = refl
not-end (Comment text) = refl

whole-body : (line : List ℕ) (body : List (List ℕ)) (events : List (Event (List ℕ))) (lines : List (List ℕ))
    → session_with line body (map encode_utf8_all (map line_of events) ++ codes "." ∷ lines)
    ≡ after (record { line = line; body = body ++ map encode_utf8_all (map line_of events) }) (session_of lines)
whole-body line body [] lines = ap (λ b. after (record { line = line; body = b }) (session_of lines)) (sym (append-nil body))
whole-body line body (e ∷ events) lines =
    let own = encode_utf8_all (line_of e) in
    let more = map encode_utf8_all (map line_of events) in
    rw (not-end e, session_with) (whole-body line (body ++ own ∷ []) events lines
    ∙ ap (λ b. after (record { line = line; body = b }) (session_of lines)) (append_assoc body (own ∷ []) more))

with-end : (lines : List Line) (rest : List (List ℕ))
    → map encode_utf8_all (lines ++ codes "." ∷ []) ++ rest ≡ map encode_utf8_all lines ++ codes "." ∷ rest
unfolding encode
with-end [] rest = refl
with-end (line ∷ lines) rest = ap (λ ls. encode_utf8_all line ∷ ls) (with-end lines rest)

-- a command with a body, by its line
with-body : (line : List ℕ) (lines : List (List ℕ)) → kind_of (head_of line) ≡ WithBody → session_of (line ∷ lines) ≡ session_with line [] lines
with-body line lines kind = rw (kind, session_of) refl

pub dumped : (tree : Plain) → AreWritable (written tree) → (line rest : List ℕ) → HasNoNewline line → strip_carriage_return line ≡ line
    → kind_of (head_of line) ≡ WithBody
    → session_of (ended_lines (line ++ 0xA ∷ (reply_bytes (Shown (lines_of tree)) ++ rest)))
    ≡ after (record { line = line; body = body_of tree }) (session_of (ended_lines rest))
dumped tree w line rest one same kind =
    let events = written tree in
    let lines = lines_of tree ++ codes "." ∷ [] in
    let own : ended_lines (line ++ 0xA ∷ (bytes_of lines ++ rest)) ≡ strip_carriage_return line ∷ ended_lines (bytes_of lines ++ rest) =
    ended_lines-ended line (bytes_of lines ++ rest) one in
    let behind : ended_lines (bytes_of lines ++ rest) ≡ body_of tree ++ codes "." ∷ ended_lines rest =
    all-lines lines (written-lines events w) rest ∙ with-end (lines_of tree) (ended_lines rest) in
    ap session_of (own ∙ λ i. same i ∷ behind i) ∙ with-body line (body_of tree ++ codes "." ∷ ended_lines rest) kind
    ∙ whole-body line [] events (ended_lines rest)
