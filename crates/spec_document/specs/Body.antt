-- The lines of a body and their events, each with the number of its line. An empty line is skipped.
use Rattle.std.specs.Prelude.{ℕ, Bool, false, not, List, [], ◌∷◌, ◌++◌, map, Option, is_none}
use Rattle.std.specs.Option.{option_map}
use Rattle.std.specs.List.{filter_map, enumerate_from}
use Rattle.std.specs.Str.{is_utf8, chars}
use Rattle.spec_document.specs.declared.event.Event.{Event}
use Rattle.spec_document.specs.Pyx.{Line, event_of}
use Rattle.spec_document.specs.Fault.{Fault, fault_if}

-- the lines of a body with their numbers, as texts
abbrev pub texts_of : List (List ℕ) → List (ℕ × Line)
texts_of body = map (λ l. (l.0, chars l.1)) (enumerate_from 1 body)

abbrev pub event_at : ℕ × Line → Option (ℕ × Event (List ℕ))
event_at line = option_map (λ event. (line.0, event)) (event_of line.1)

-- the events of lines, each with the number of its line
abbrev pub events_at : List (List ℕ) → List (ℕ × Event (List ℕ))
events_at body = filter_map event_at (texts_of body)

-- 2: a line that is not UTF-8
abbrev pub not_utf8 : List (ℕ × List ℕ) → List Fault
not_utf8 [] = []
not_utf8 (line ∷ lines) = fault_if (not (is_utf8 line.1)) 2 line.0 ++ not_utf8 lines

-- 8: a line that is not empty and has no event
abbrev pub is_bad : Line → Bool
is_bad [] = false
is_bad (c ∷ cs) = is_none (event_of (c ∷ cs))

abbrev pub no_event : List (ℕ × Line) → List Fault
no_event [] = []
no_event (line ∷ lines) = fault_if (is_bad line.1) 8 line.0 ++ no_event lines

abbrev pub line_faults : List (List ℕ) → List Fault
line_faults body = not_utf8 (enumerate_from 1 body) ++ no_event (texts_of body)
