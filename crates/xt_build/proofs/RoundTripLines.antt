-- The lines that are written for events are UTF-8, and are read as those events.
use Rattle.std.proofs.Common.{◌≡◌, ℕ, ◌+◌, true, false, not, cond, List, [], ◌∷◌, ◌++◌, map, Some, None, refl, ap, ◌∙◌, arith}
use Rattle.std.specs.Option.{option_map}
use Rattle.std.specs.List.{list_all, filter_map, enumerate_from, cons_option}
use Rattle.std.specs.Str.{chars, is_utf8, encode_utf8_all}
use Rattle.std.proofs.Math.Utf8.{scalar, scalars}
use Rattle.std.proofs.lemmas.Bool.{and_parts, and_from}
use Rattle.std.proofs.lemmas.Str.{chars-encodes, is_utf8-from_IsUtf8}
use Rattle.spec_document.specs.declared.event.Event.{Event}
use Rattle.spec_document.specs.Character.{is_char}
use Rattle.spec_document.specs.Pyx.{Line, event_of, event_behind, line_of, IsWritable}
use Rattle.spec_document.specs.Fault.{fault_if}
use Rattle.spec_document.specs.Body.{event_at, is_bad, not_utf8, no_event}
use Rattle.spec_document.proofs.Lines.{event_of-line_of}
use Rattle.xt_build.proofs.RoundTripEvents.{AreWritable}

-- ---- One line

char_scalar : (c : ℕ) → is_char c ≡ true → scalar c ≡ true
unfolding is_char
char_scalar c h = grind arith

chars_scalars : (cs : List ℕ) → list_all is_char cs ≡ true → scalars cs ≡ true
chars_scalars [] h = refl
chars_scalars (c ∷ cs) h =
    let parts = and_parts (is_char c) (list_all is_char cs) h in
    and_from (scalar c) (scalars cs) (char_scalar c parts.0) (chars_scalars cs parts.1)

-- a line that has an event is made of XML Chars
line_chars : (line : Line) (e : Event (List ℕ)) → event_of line ≡ Some e → list_all is_char line ≡ true
line_chars [] e is = absurd (cc)
line_chars (sign ∷ rest) e is =
    elim (list_all is_char (sign ∷ rest)) as (λ b. cond b (event_behind sign rest) None ≡ Some e → b ≡ true) [
      | false ↦ λ none. absurd (cc)
      | true ↦ λ _. refl
    ] is

not_bad : (line : Line) (e : Event (List ℕ)) → event_of line ≡ Some e → is_bad line ≡ false
not_bad [] e is = refl
not_bad (sign ∷ rest) e is = rw is refl

written_scalars : (e : Event (List ℕ)) → IsWritable e → scalars (line_of e) ≡ true
written_scalars e w = chars_scalars (line_of e) (line_chars (line_of e) e (event_of-line_of e w))

written_utf8 : (e : Event (List ℕ)) → IsWritable e → is_utf8 (encode_utf8_all (line_of e)) ≡ true
written_utf8 e w = is_utf8-from_IsUtf8 (encode_utf8_all (line_of e)) (line_of e, (written_scalars e w, refl))

written_chars : (e : Event (List ℕ)) → IsWritable e → chars (encode_utf8_all (line_of e)) ≡ line_of e
written_chars e w = chars-encodes (line_of e) (written_scalars e w)

-- ---- All lines

-- the lines of events as bytes
abbrev pub encoded : List (Event (List ℕ)) → List (List ℕ)
encoded events = map encode_utf8_all (map line_of events)

-- lines with their numbers, as texts
abbrev pub texts : List (ℕ × List ℕ) → List (ℕ × Line)
texts lines = map (λ l. (l.0, chars l.1)) lines

pub encoded_utf8 : (n : ℕ) (events : List (Event (List ℕ))) → AreWritable events → not_utf8 (enumerate_from n (encoded events)) ≡ []
encoded_utf8 n [] w = refl
encoded_utf8 n (e ∷ events) w =
    ap (λ b. fault_if (not b) 2 n ++ not_utf8 (enumerate_from (n + 1) (encoded events))) (written_utf8 e w.0) ∙ encoded_utf8 (n + 1) events w.1

pub encoded_good : (n : ℕ) (events : List (Event (List ℕ))) → AreWritable events → no_event (texts (enumerate_from n (encoded events))) ≡ []
encoded_good n [] w = refl
encoded_good n (e ∷ events) w =
    ap (λ line. fault_if (is_bad line) 8 n ++ no_event (texts (enumerate_from (n + 1) (encoded events)))) (written_chars e w.0)
    ∙ ap (λ b. fault_if b 8 n ++ no_event (texts (enumerate_from (n + 1) (encoded events)))) (not_bad (line_of e) e (event_of-line_of e w.0))
    ∙ encoded_good (n + 1) events w.1

pub encoded_events : (n : ℕ) (events : List (Event (List ℕ))) → AreWritable events
    → map (λ e. e.1) (filter_map event_at (texts (enumerate_from n (encoded events)))) ≡ events
encoded_events n [] w = refl
encoded_events n (e ∷ events) w =
    let more = filter_map event_at (texts (enumerate_from (n + 1) (encoded events))) in
    ap (λ o. map (λ e. e.1) (cons_option (option_map (λ event. (n, event)) o) more)) (ap event_of (written_chars e w.0) ∙ event_of-line_of e w.0)
    ∙ ap (λ es. e ∷ es) (encoded_events (n + 1) events w.1)
