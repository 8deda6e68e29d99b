-- What lines are read as, one line after another: the faults that are met and the events that are found.
use Rattle.std.proofs.Common.{◌≡◌, ℕ, suc, ◌+◌, ◌<◌, Bool, true, false, List, [], ◌∷◌, ◌++◌, map, length, drop, get_or, add-one}
use Rattle.std.proofs.Common.{drop-cons, append_assoc, Option, None, Some, Ok, refl, sym, ap, ◌∙◌, subst}
use Rattle.std.specs.Prelude.{not, ◌==◌}
use Rattle.std.specs.List.{enumerate_from, filter_map, cons_option}
use Rattle.std.specs.Option.{option_map, is_none}
use Rattle.std.specs.Str.{is_utf8, chars, IsUtf8}
use Rattle.std.proofs.lemmas.Str.{IsUtf8-from_is_utf8, is_utf8-from_IsUtf8, encodes-chars, chars-nil}
use lib.Utf8.{encodes}
use Rattle.spec_document.specs.declared.event.Event.{Event}
use Rattle.spec_document.specs.Pyx.{event_of}
use Rattle.spec_document.specs.Fault.{Fault, least, fault_if}
use Rattle.spec_document.specs.Body.{event_at, not_utf8, is_bad, no_event, line_faults, events_at}
use Rattle.xt_build.specs.declared.fault.Fault.{Fault as Found}
use Rattle.xt_build.specs.declared.read.Located.{Located}
use Rattle.xt_build.specs.declared.read.ReadLine.{ReadLine}
use Rattle.xt_build.specs.Least.{merged}
use Rattle.xt_build.specs.View.{found_of, located_of, IsReadOf}
use Rattle.xt_build.proofs.Least.{merged-none, merged-comm, merged-assoc, least-append}

-- ---- One line

pub is_not_utf8 : (bytes : List ℕ) → (IsUtf8 bytes → ⊥) → is_utf8 bytes ≡ false
is_not_utf8 bytes h = go (is_utf8 bytes) refl
  where
    go : (t : Bool) → is_utf8 bytes ≡ t → is_utf8 bytes ≡ false
    go true e = absurd (h (IsUtf8-from_is_utf8 bytes e))
    go false e = e

some_chars : (b : ℕ) (bytes : List ℕ) → IsUtf8 (b ∷ bytes) → chars (b ∷ bytes) ≡ [] → ⊥
some_chars b bytes h e = let f : encodes [] ≡ b ∷ bytes = ap encodes (sym e) ∙ encodes-chars (b ∷ bytes) h in absurd (cc)

-- a line that is not empty and has no event is bad
pub bad_line : (bytes : List ℕ) → IsUtf8 bytes → (length bytes == 0) ≡ false → event_of (chars bytes) ≡ None → is_bad (chars bytes) ≡ true
bad_line [] u some e = absurd (cc)
bad_line (b ∷ bytes) u some e = go (chars (b ∷ bytes)) refl e
  where
    go : (text : List ℕ) → chars (b ∷ bytes) ≡ text → event_of text ≡ None → is_bad text ≡ true
    go [] nil e = absurd (some_chars b bytes u nil)
    go (c ∷ cs) _ e = rw e refl

-- the same of equal bytes and readings
pub read_as : (bytes line : List ℕ) (reading known : ReadLine) → bytes ≡ line → reading ≡ known → IsReadOf bytes (Ok reading)
    → IsReadOf line (Ok known)
read_as bytes line reading known same is h =
    subst (λ (b : List ℕ). IsReadOf b (Ok known)) same (subst (λ (r : ReadLine). IsReadOf bytes (Ok r)) is h)

-- ---- Lines that are numbered from here on

abbrev pub faults_from : ℕ → List (List ℕ) → List Fault
faults_from n body = not_utf8 (enumerate_from n body) ++ no_event (map (λ l. (l.0, chars l.1)) (enumerate_from n body))

abbrev pub events_from : ℕ → List (List ℕ) → List (ℕ × Event (List ℕ))
events_from n body = filter_map event_at (map (λ l. (l.0, chars l.1)) (enumerate_from n body))

-- the fault that one line has, and its event where it has one
abbrev pub line_fault : ℕ → List ℕ → Option Fault
line_fault n line = merged (least (fault_if (not (is_utf8 line)) 2 n)) (least (fault_if (is_bad (chars line)) 8 n))

abbrev pub line_event : ℕ → List ℕ → List (ℕ × Event (List ℕ))
line_event n line = cons_option (event_at (n, chars line)) []

-- two kinds of faults, each of a line and of those behind it
two_kinds : (a b c d : List Fault) → least ((a ++ b) ++ (c ++ d)) ≡ merged (merged (least a) (least c)) (least (b ++ d))
two_kinds a b c d =
    least-append (a ++ b) (c ++ d) ∙ ap (λ x. merged x (least (c ++ d))) (least-append a b)
    ∙ ap (merged (merged (least a) (least b))) (least-append c d)
    ∙ merged-assoc (least a) (least b) (merged (least c) (least d))
    ∙ ap (merged (least a))
    (sym (merged-assoc (least b) (least c) (least d)) ∙ ap (λ x. merged x (least d)) (merged-comm (least b) (least c))
    ∙ merged-assoc (least c) (least b) (least d))
    ∙ sym (merged-assoc (least a) (least c) (merged (least b) (least d))) ∙ ap (merged (merged (least a) (least c))) (sym (least-append b d))

faults_from-line : (n : ℕ) (line : List ℕ) (rest : List (List ℕ))
    → least (faults_from n (line ∷ rest)) ≡ merged (line_fault n line) (least (faults_from (n + 1) rest))
faults_from-line n line rest =
    two_kinds (fault_if (not (is_utf8 line)) 2 n) (not_utf8 (enumerate_from (n + 1) rest))
    (fault_if (is_bad (chars line)) 8 n) (no_event (map (λ l. (l.0, chars l.1)) (enumerate_from (n + 1) rest)))

events_from-line : (n : ℕ) (line : List ℕ) (rest : List (List ℕ)) → events_from n (line ∷ rest) ≡ line_event n line ++ events_from (n + 1) rest
events_from-line n line rest = go (event_of (chars line)) refl
  where
    go : (o : Option (Event (List ℕ))) → event_of (chars line) ≡ o
        → cons_option (option_map (λ event. (n, event)) o) (events_from (n + 1) rest)
        ≡ cons_option (option_map (λ event. (n, event)) o) [] ++ events_from (n + 1) rest
    go None e = refl
    go (Some event) e = refl

-- ---- What one line adds

pub fault_not_utf8 : (n : ℕ) (line : List ℕ) → is_utf8 line ≡ false → line_fault n line ≡ Some (record { number = 2; line = n })
fault_not_utf8 n line e =
    ap (λ b. merged (least (fault_if (not b) 2 n)) (least (fault_if (is_bad (chars line)) 8 n))) e ∙ absorbed (is_bad (chars line))
  where
    absorbed : (b : Bool) → merged (Some (record { number = 2; line = n })) (least (fault_if b 8 n)) ≡ Some (record { number = 2; line = n })
    absorbed true = refl
    absorbed false = refl

utf8_fault : (n : ℕ) (line : List ℕ) (b : Bool) → is_utf8 line ≡ true → is_bad (chars line) ≡ b → line_fault n line ≡ least (fault_if b 8 n)
utf8_fault n line b e h =
    ap (λ t. merged (least (fault_if (not t) 2 n)) (least (fault_if (is_bad (chars line)) 8 n))) e ∙ ap (λ t. least (fault_if t 8 n)) h

pub fault_bad : (n : ℕ) (line : List ℕ) → is_utf8 line ≡ true → is_bad (chars line) ≡ true
    → line_fault n line ≡ Some (record { number = 8; line = n })
fault_bad n line e h = utf8_fault n line true e h

event_is_good : (text : List ℕ) (event : Event (List ℕ)) → event_of text ≡ Some event → is_bad text ≡ false
event_is_good [] event e = refl
event_is_good (c ∷ cs) event e = ap is_none e

pub no_fault : (n : ℕ) (line : List ℕ) (event : Event (List ℕ)) → is_utf8 line ≡ true → event_of (chars line) ≡ Some event
    → line_fault n line ≡ None
no_fault n line event e h = utf8_fault n line false e (event_is_good (chars line) event h)

pub no_fault-empty : (n : ℕ) → line_fault n [] ≡ None
no_fault-empty n = utf8_fault n [] false (is_utf8-from_IsUtf8 [] ([], (refl, refl))) (ap is_bad chars-nil)

pub no_event-empty : (n : ℕ) → line_event n [] ≡ []
no_event-empty n = ap (λ text. cons_option (event_at (n, text)) []) chars-nil

pub one_event : (n : ℕ) (line : List ℕ) (event : Event (List ℕ)) → event_of (chars line) ≡ Some event → line_event n line ≡ (n, event) ∷ []
one_event n line event h = ap (λ o. cons_option (option_map (λ e. (n, e)) o) []) h

-- ---- What was found and read before a line

pub record SoFar (found : Option Found) (events : List Located) (i : ℕ) (body : List (List ℕ)) : Type 0 where
  pub faults : merged (found_of found) (least (faults_from (i + 1) (drop i body))) ≡ least (line_faults body)
  pub read : found ≡ None → map located_of events ++ events_from (i + 1) (drop i body) ≡ events_at body

line_at : (lines : List (List ℕ)) (i : ℕ) (line : List ℕ) → i < length lines → line ≡ get_or lines i line
    → drop i lines ≡ line ∷ drop (i + 1) lines
line_at lines i line l e = rw (add-one, drop-cons lines i line l) (ap (λ (x : List ℕ). x ∷ drop (suc i) lines) (sym e))

faults_past : (found : Option Found) (i : ℕ) (body : List (List ℕ)) (line : List ℕ) → drop i body ≡ line ∷ drop (i + 1) body
    → merged (found_of found) (least (faults_from (i + 1) (drop i body))) ≡ least (line_faults body)
    → (now : Option Fault) → now ≡ merged (found_of found) (line_fault (i + 1) line)
    → merged now (least (faults_from (i + 1 + 1) (drop (i + 1) body))) ≡ least (line_faults body)
faults_past found i body line at so_far now e =
    ap (λ x. merged x (least (faults_from (i + 1 + 1) (drop (i + 1) body)))) e
    ∙ merged-assoc (found_of found) (line_fault (i + 1) line) (least (faults_from (i + 1 + 1) (drop (i + 1) body)))
    ∙ ap (merged (found_of found)) (sym (faults_from-line (i + 1) line (drop (i + 1) body)) ∙ ap (λ x. least (faults_from (i + 1) x)) (sym at))
    ∙ so_far

-- a line without a fault
pub past_line : (found now : Option Found) (before events : List Located) (i : ℕ) (body : List (List ℕ)) (line : List ℕ) → i < length body
    → line ≡ get_or body i line
    → SoFar found before i body → line_fault (i + 1) line ≡ None → now ≡ found
    → map located_of events ≡ map located_of before ++ line_event (i + 1) line → SoFar now events (i + 1) body
past_line found now before events i body line l e so_far none same adds =
    let at = line_at body i line l e in
    record {
      faults = faults_past found i body line at so_far.faults (found_of now)
          (ap found_of same ∙ sym (ap (merged (found_of found)) none ∙ merged-none (found_of found)));
      read = λ no_fault_yet.
          ap (λ es. es ++ events_from (i + 1 + 1) (drop (i + 1) body)) adds
          ∙ append_assoc (map located_of before) (line_event (i + 1) line) (events_from (i + 1 + 1) (drop (i + 1) body))
          ∙ ap (λ es. map located_of before ++ es) (sym (events_from-line (i + 1) line (drop (i + 1) body)) ∙ ap (events_from (i + 1)) (sym at))
          ∙ so_far.read (sym same ∙ no_fault_yet);
    }

-- a line with one
some_found : (now before : Option Found) (fault : Fault) → found_of now ≡ merged (found_of before) (Some fault) → now ≡ None → ⊥
some_found None None fault e none = cc
some_found None (Some f) fault e none = cc
some_found (Some f) before fault e none = cc

pub past_fault : (found now : Option Found) (before events : List Located) (i : ℕ) (body : List (List ℕ)) (line : List ℕ) (fault : Fault)
    → i < length body → line ≡ get_or body i line
    → SoFar found before i body → line_fault (i + 1) line ≡ Some fault → found_of now ≡ merged (found_of found) (Some fault)
    → SoFar now events (i + 1) body
past_fault found now before events i body line fault l e so_far has keeps = record {
  faults = faults_past found i body line (line_at body i line l e) so_far.faults (found_of now) (keeps ∙ ap (merged (found_of found)) (sym has));
  read = λ none. absurd (some_found now found fault keeps none);
}
