-- Worked examples, as facts that compute.
use Rattle.std.specs.Prelude.{ℕ, ◌≡◌, false, List, [], ◌∷◌, ◌++◌, map, None, Some, refl, codes}
use Rattle.std.proofs.Common.{sym, ap, ◌∙◌}
use Rattle.spec_document.specs.declared.event.Event.{Event}
use Rattle.spec_document.specs.declared.event.Event.TheVariants.{Start, Attribute, Data, Instruction as InstructionEvent, End}
use Rattle.spec_document.specs.Character.{is_char, is_name_start, is_name_part}
use Rattle.spec_document.specs.Name.{is_ncname, qname_of}
use Rattle.spec_document.specs.Pyx.{escaped, unescaped, event_of, line_of}
use Rattle.spec_document.specs.Forest.{Plain, Empty, Node, Element, Text, Written, IsForestOf, is_empty, is_element, is_text, is_comment, is_instruction, attribute_event, events_of}

-- an escape is read as the character that it stands for, and exactly four characters are written escaped
pub line_feed_read : unescaped (codes "a\\nb") ≡ 0x61 ∷ 0xA ∷ 0x62 ∷ []
line_feed_read = refl

pub all_escapes_written : escaped (0x9 ∷ 0xA ∷ 0xD ∷ 0x5C ∷ []) ≡ codes "\\t\\n\\r\\\\"
all_escapes_written = refl

-- a backslash that begins no escape stands for itself, and is written escaped
pub other_backslash_read : unescaped (codes "a\\qb\\") ≡ codes "a\\qb\\"
other_backslash_read = refl

pub other_backslash_written : escaped (codes "a\\qb") ≡ codes "a\\\\qb"
other_backslash_written = refl

-- a doubled backslash hides the n behind it
pub doubled_backslash_read : unescaped (codes "\\\\n") ≡ codes "\\n"
doubled_backslash_read = refl

-- an attribute line without a space has an empty value; the value goes on behind a second space
pub no_value : event_of (codes "Aname") ≡ Some (Attribute (codes "name") [])
unfolding is_char
no_value = refl

pub value_with_a_space : event_of (codes "Aname a b") ≡ Some (Attribute (codes "name") (codes "a b"))
unfolding is_char
value_with_a_space = refl

-- written, an empty value keeps its space, and an empty instruction has none
pub empty_value_written : line_of (Attribute (codes "name") []) ≡ codes "Aname "
empty_value_written = refl

pub lone_target : event_of (codes "?target") ≡ Some (InstructionEvent (codes "target") [])
unfolding is_char
lone_target = refl

pub lone_target_written : line_of (InstructionEvent (codes "target") []) ≡ codes "?target"
lone_target_written = refl

-- no event: another first character, a character that is no XML Char, an empty line
pub bad_first_character : event_of (codes "<a>") ≡ None
unfolding is_char
bad_first_character = refl

pub bad_character : event_of (0x2D ∷ 0x1 ∷ []) ≡ None
unfolding is_char
bad_character = refl

pub no_line : event_of [] ≡ None
no_line = refl

-- adjacent data lines make one text
pub joined_events : events_of (codes "(a" ∷ codes "-x" ∷ [] ∷ codes "-y" ∷ codes ")a" ∷ []) ≡ Some (Start (codes "a") ∷ Data (codes "x") ∷ Data (codes "y") ∷ End (codes "a") ∷ [])
unfolding is_char
joined_events = refl

pub joined : IsForestOf (Start (codes "a") ∷ Data (codes "x") ∷ Data (codes "y") ∷ End (codes "a") ∷ []) (Node tt (Element (codes "a") []) (Node tt (Text (codes "xy")) Empty Empty) Empty)
joined = is_element (codes "a") [] refl (is_text (codes "x") (is_text (codes "y") is_empty refl) refl) is_empty

-- empty data makes no text
pub no_text : IsForestOf (Start (codes "a") ∷ Data [] ∷ End (codes "a") ∷ []) (Node tt (Element (codes "a") []) Empty Empty)
no_text = is_element (codes "a") [] refl (is_text [] is_empty refl) is_empty

-- an attribute line behind a data line, even an empty one, is out of place: there is no forest
no_attribute_first : (inner rest es : List (Event (List ℕ))) (last x v : List ℕ) (f : Plain) → IsForestOf inner f → inner ++ End last ∷ rest ≡ Attribute x v ∷ es → ⊥
no_attribute_first inner rest es last x v f is_empty e = cc
no_attribute_first inner rest es last x v f (is_element {inner = i} {rest = r} name attributes is h k) e =
    let first : Start name ∷ map attribute_event attributes ++ i ++ End name ∷ r ++ End last ∷ rest ≡ Attribute x v ∷ es = ap (λ l. l ++ End last ∷ rest) (sym is) ∙ e in
    absurd (cc)
no_attribute_first inner rest es last x v f (is_text characters h is) e = cc
no_attribute_first inner rest es last x v f (is_comment characters h) e = cc
no_attribute_first inner rest es last x v f (is_instruction target characters h) e = cc

none_inside : (inner rest es : List (Event (List ℕ))) (last d x v : List ℕ) (f : Plain) → IsForestOf inner f → inner ++ End last ∷ rest ≡ Data d ∷ Attribute x v ∷ es → ⊥
none_inside inner rest es last d x v f is_empty e = cc
none_inside inner rest es last d x v f (is_element {inner = i} {rest = r} name attributes is h k) e =
    let first : Start name ∷ map attribute_event attributes ++ i ++ End name ∷ r ++ End last ∷ rest ≡ Data d ∷ Attribute x v ∷ es = ap (λ l. l ++ End last ∷ rest) (sym is) ∙ e in
    absurd (cc)
none_inside inner rest es last d x v f (is_text {rest = r} {siblings = s} characters h is) e =
    let tail : r ++ End last ∷ rest ≡ Attribute x v ∷ es = cc in
    no_attribute_first r rest es last x v s h tail
none_inside inner rest es last d x v f (is_comment characters h) e = cc
none_inside inner rest es last d x v f (is_instruction target characters h) e = cc

none_below : (attributes : List Written) (inner rest es : List (Event (List ℕ))) (last d x v : List ℕ) (f : Plain) → IsForestOf inner f
    → map attribute_event attributes ++ inner ++ End last ∷ rest ≡ Data d ∷ Attribute x v ∷ es → ⊥
none_below [] inner rest es last d x v f h e = none_inside inner rest es last d x v f h e
none_below (a ∷ more) inner rest es last d x v f h e = cc

none_at : (events es : List (Event (List ℕ))) (d x v name : List ℕ) (f : Plain) → IsForestOf events f → events ≡ Start name ∷ Data d ∷ Attribute x v ∷ es → ⊥
none_at events es d x v name f is_empty e = cc
none_at events es d x v name f (is_element {inner = i} {rest = r} {children = c} last attributes is h k) e =
    let behind : map attribute_event attributes ++ i ++ End last ∷ r ≡ Data d ∷ Attribute x v ∷ es = cc in
    none_below attributes i r es last d x v c h behind
none_at events es d x v name f (is_text characters h is) e = cc
none_at events es d x v name f (is_comment characters h) e = cc
none_at events es d x v name f (is_instruction target characters h) e = cc

pub late_attribute : (f : Plain) → IsForestOf (Start (codes "a") ∷ Data [] ∷ Attribute (codes "x") (codes "1") ∷ End (codes "a") ∷ []) f → ⊥
late_attribute f h = none_at _ _ _ _ _ _ f h refl

-- names
pub prefixed : qname_of (codes "p:a") ≡ Some (record { prefix = Some (codes "p"); local = codes "a" })
unfolding is_name_start is_name_part
prefixed = refl

pub two_colons : qname_of (codes "a:b:c") ≡ None
unfolding is_name_start is_name_part
two_colons = refl

pub digit_first : is_ncname (codes "1a") ≡ false
unfolding is_name_start is_name_part
digit_first = refl
