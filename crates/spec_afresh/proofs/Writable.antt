-- The events that are written for a document without faults, of XML Chars, can be read from their lines.
use Rattle.std.proofs.Common.{◌≡◌, ℕ, ◌+◌, Bool, true, false, not, cond, ◌==◌, List, [], ◌∷◌, ◌++◌, map, drop, refl, ap, ◌∙◌, arith}
use Rattle.std.specs.Prelude.{IsTrue, slice_index, nat_lt, Some, None}
use Rattle.std.specs.Option.{option_map}
use Rattle.std.specs.List.{list_all, list_any, filter_map, enumerate_from, cons_option}
use Rattle.std.specs.Str.{chars, is_utf8, encode_utf8_all}
use Rattle.std.proofs.Math.Utf8.{scalar, scalars}
use Rattle.std.proofs.lemmas.Bool.{and_parts, and_from}
use Rattle.std.proofs.lemmas.List.Folds.{list_all-append}
use Rattle.std.proofs.lemmas.Str.{chars-encodes, is_utf8-from_IsUtf8}
use Rattle.spec_document.specs.declared.event.Event.{Event}
use Rattle.spec_document.specs.declared.event.Event.TheVariants.{End, Instruction as InstructionEvent}
use Rattle.spec_document.specs.Character.{is_char}
use Rattle.spec_document.specs.Scope.{Scope}
use Rattle.spec_document.specs.Pyx.{Line, escape, escaped, event_of, event_behind, line_of, IsWritable}
use Rattle.spec_document.specs.Forest.{Written, Element, Text, Comment, Instruction, Forest, Empty, Node, attribute_event, written}
use Rattle.spec_document.specs.Declaration.{use_of, within}
use Rattle.spec_document.specs.Fault.{fault_if}
use Rattle.spec_document.specs.NodeFaults.{greatest_depth, is_wrong_use, is_wrong_element, is_wrong_target, is_same_attribute, attribute_faults}
use Rattle.spec_document.specs.Body.{event_at, is_bad, not_utf8, no_event}
use Rattle.spec_document.proofs.Lines.{event_of-line_of}
use Rattle.spec_edit.proofs.Faultless.{AreFine}
use Rattle.spec_edit.proofs.Shapes.{append_none}
use Rattle.spec_afresh.specs.Characters.{HasChars}
use Rattle.spec_afresh.proofs.Names.{ends_no_line, element-name, attribute-name, target-name}

-- an event whose line has that event, and no end of a line in it
pub record IsLine (e : Event (List ℕ)) : Type 0 where
  pub writable : IsWritable e
  pub one_line : IsTrue (list_all ends_no_line (line_of e))

-- so are all
abbrev pub AreWritable : List (Event (List ℕ)) → Type 0
AreWritable [] = Unit {0}
AreWritable (e ∷ events) = IsLine e × AreWritable events

both-writable : (xs ys : List (Event (List ℕ))) → AreWritable xs → AreWritable ys → AreWritable (xs ++ ys)
both-writable [] ys v w = w
both-writable (x ∷ xs) ys v w = (v.0, both-writable xs ys v.1 w)

-- ---- The ends of lines

escape-line : (c : ℕ) → list_all ends_no_line (escape c) ≡ true
escape-line c = by (c == 0xA) (c == 0x9) (c == 0xD) (c == 0x5C) refl refl
  where
    by : (lf tab cr backslash : Bool) → (c == 0xA) ≡ lf → (c == 0xD) ≡ cr
        → list_all ends_no_line (cond lf (0x5C ∷ 0x6E ∷ []) (cond tab (0x5C ∷ 0x74 ∷ []) (cond cr (0x5C ∷ 0x72 ∷ [])
        (cond backslash (0x5C ∷ 0x5C ∷ []) (c ∷ []))))) ≡ true
    by true tab cr backslash e d = refl
    by false true cr backslash e d = refl
    by false false true backslash e d = refl
    by false false false true e d = refl
    by false false false false e d = rw (e, d) refl

escaped-line : (text : List ℕ) → list_all ends_no_line (escaped text) ≡ true
escaped-line [] = refl
escaped-line (c ∷ cs) =
    list_all-append ends_no_line (escape c) (escaped cs)
    ∙ and_from (list_all ends_no_line (escape c)) (list_all ends_no_line (escaped cs)) (escape-line c) (escaped-line cs)

named-line : (name text : List ℕ) → list_all ends_no_line name ≡ true → list_all ends_no_line (name ++ 0x20 ∷ escaped text) ≡ true
named-line name text h =
    list_all-append ends_no_line name (0x20 ∷ escaped text)
    ∙ and_from (list_all ends_no_line name) (list_all ends_no_line (escaped text)) h (escaped-line text)

target-line : (target text : List ℕ) → list_all ends_no_line target ≡ true → list_all ends_no_line (line_of (InstructionEvent target text)) ≡ true
target-line target [] h = h
target-line target (c ∷ cs) h = named-line target (c ∷ cs) h

-- ---- A forest

unless : (b : Bool) (number line : ℕ) → fault_if b number line ≡ [] → b ≡ false
unless true number line e = absurd (cc)
unless false number line e = refl

attributes-writable : (scope : Scope) (before : List Written) (lines : List ℕ) (attributes : List Written)
    → attribute_faults scope before lines attributes ≡ []
    → list_all (λ a. list_all is_char a.value) attributes ≡ true → AreWritable (map attribute_event attributes)
attributes-writable scope before lines [] e h = tt
attributes-writable scope before lines (a ∷ attributes) e h =
    let l = slice_index lines 0 in
    let wrong = is_wrong_use scope (use_of a.name) a.value in
    let twice = list_any (λ b. is_same_attribute scope b a) before in
    let outer = append_none (fault_if wrong 10 l ++ fault_if twice 14 l) (attribute_faults scope (before ++ a ∷ []) (drop 1 lines) attributes) e in
    let inner = append_none (fault_if wrong 10 l) (fault_if twice 14 l) outer.0 in
    let name = attribute-name scope a.name a.value (unless wrong 10 l inner.0) in
    let parts = and_parts (list_all is_char a.value) (list_all (λ b. list_all is_char b.value) attributes) h in (
      record { writable = (name.chars, parts.0, name.no_blank); one_line = named-line a.name a.value name.one_line },
      attributes-writable scope (before ++ a ∷ []) (drop 1 lines) attributes outer.1 parts.1,
    )

pub forest-writable : {L : Type 0} (scope : Scope) (depth : ℕ) (f : Forest L) → AreFine scope depth f → HasChars f → AreWritable (written f)
forest-writable scope depth Empty a h = tt
forest-writable scope depth (Node l (Element name attributes) f s) a h =
    let inside = within (Element name attributes) scope in
    let wrong = is_wrong_element inside name in
    let deep = nat_lt greatest_depth depth in
    let outer = append_none (fault_if wrong 10 0 ++ fault_if deep 11 0) (attribute_faults inside [] [] attributes) a.0 in
    let inner = append_none (fault_if wrong 10 0) (fault_if deep 11 0) outer.0 in
    let own = element-name inside name (unless wrong 10 0 inner.0) in
    let front = attributes-writable inside [] [] attributes outer.1 h.0 in
    let below = forest-writable inside (depth + 1) f a.1 h.1 in
    let behind = forest-writable scope depth s a.2 h.2 in (
      record { writable = own.chars; one_line = own.one_line },
      both-writable (map attribute_event attributes ++ written f) (End name ∷ written s)
          (both-writable (map attribute_event attributes) (written f) front below) (record { writable = own.chars; one_line = own.one_line }, behind),
    )
forest-writable scope depth (Node l (Text text) f s) a h =
    (record { writable = h.0; one_line = escaped-line text }, forest-writable scope depth s a.2 h.2)
forest-writable scope depth (Node l (Comment text) f s) a h =
    (record { writable = h.0; one_line = escaped-line text }, forest-writable scope depth s a.2 h.2)
forest-writable scope depth (Node l (Instruction target text) f s) a h =
    let own = target-name target (unless (is_wrong_target target) 10 0 a.0) in
    (record { writable = (own.chars, h.0, own.no_blank); one_line = target-line target text own.one_line }, forest-writable scope depth s a.2 h.2)

-- ---- One line

char-scalar : (c : ℕ) → is_char c ≡ true → scalar c ≡ true
unfolding is_char
char-scalar c h = grind arith

pub chars-scalars : (cs : List ℕ) → list_all is_char cs ≡ true → scalars cs ≡ true
chars-scalars [] h = refl
chars-scalars (c ∷ cs) h =
    let parts = and_parts (is_char c) (list_all is_char cs) h in
    and_from (scalar c) (scalars cs) (char-scalar c parts.0) (chars-scalars cs parts.1)

-- a line that has an event is made of XML Chars
line-chars : (line : Line) (e : Event (List ℕ)) → event_of line ≡ Some e → list_all is_char line ≡ true
line-chars [] e is = absurd (cc)
line-chars (sign ∷ rest) e is =
    elim (list_all is_char (sign ∷ rest)) as (λ b. cond b (event_behind sign rest) None ≡ Some e → b ≡ true) [
      | false ↦ λ none. absurd (cc)
      | true ↦ λ _. refl
    ] is

not-bad : (line : Line) (e : Event (List ℕ)) → event_of line ≡ Some e → is_bad line ≡ false
not-bad [] e is = refl
not-bad (sign ∷ rest) e is = rw is refl

pub written-scalars : (e : Event (List ℕ)) → IsWritable e → scalars (line_of e) ≡ true
written-scalars e w = chars-scalars (line_of e) (line-chars (line_of e) e (event_of-line_of e w))

written-utf8 : (e : Event (List ℕ)) → IsWritable e → is_utf8 (encode_utf8_all (line_of e)) ≡ true
written-utf8 e w = is_utf8-from_IsUtf8 (encode_utf8_all (line_of e)) (line_of e, (written-scalars e w, refl))

written-chars : (e : Event (List ℕ)) → IsWritable e → chars (encode_utf8_all (line_of e)) ≡ line_of e
written-chars e w = chars-encodes (line_of e) (written-scalars e w)

-- ---- All lines

-- the lines of events as bytes
abbrev pub encoded : List (Event (List ℕ)) → List (List ℕ)
encoded events = map encode_utf8_all (map line_of events)

-- lines with their numbers, as texts
abbrev pub texts : List (ℕ × List ℕ) → List (ℕ × Line)
texts lines = map (λ l. (l.0, chars l.1)) lines

pub encoded-utf8 : (n : ℕ) (events : List (Event (List ℕ))) → AreWritable events → not_utf8 (enumerate_from n (encoded events)) ≡ []
encoded-utf8 n [] w = refl
encoded-utf8 n (e ∷ events) w =
    ap (λ b. fault_if (not b) 2 n ++ not_utf8 (enumerate_from (n + 1) (encoded events))) (written-utf8 e w.0.writable)
    ∙ encoded-utf8 (n + 1) events w.1

pub encoded-good : (n : ℕ) (events : List (Event (List ℕ))) → AreWritable events → no_event (texts (enumerate_from n (encoded events))) ≡ []
encoded-good n [] w = refl
encoded-good n (e ∷ events) w =
    ap (λ line. fault_if (is_bad line) 8 n ++ no_event (texts (enumerate_from (n + 1) (encoded events)))) (written-chars e w.0.writable)
    ∙ ap (λ b. fault_if b 8 n ++ no_event (texts (enumerate_from (n + 1) (encoded events)))) (not-bad (line_of e) e (event_of-line_of e w.0.writable))
    ∙ encoded-good (n + 1) events w.1

pub encoded-events : (n : ℕ) (events : List (Event (List ℕ))) → AreWritable events
    → map (λ e. e.1) (filter_map event_at (texts (enumerate_from n (encoded events)))) ≡ events
encoded-events n [] w = refl
encoded-events n (e ∷ events) w =
    let more = filter_map event_at (texts (enumerate_from (n + 1) (encoded events))) in
    ap (λ o. map (λ e. e.1) (cons_option (option_map (λ event. (n, event)) o) more))
    (ap event_of (written-chars e w.0.writable) ∙ event_of-line_of e w.0.writable)
    ∙ ap (λ es. e ∷ es) (encoded-events (n + 1) events w.1)
