-- The modules of the table by their names.
use Rattle.std.proofs.Common.{◌≡◌, ◌||◌, ℕ, Bool, true, false, cond, List, [], ◌∷◌, ◌++◌, map, is_some, Some, bytes_eq, string_bytes, refl, sym, ap, ◌∙◌}
use Rattle.std.specs.Prelude.{position}
use Rattle.std.proofs.lemmas.List.{map-append}
use Rattle.std.proofs.lemmas.Str.{IsUtf8-string_bytes}
use Rattle.std.specs.Map.{lookup}
use Rattle.std.specs.Str.{chars, IsUtf8}
use Rattle.std.specs.String.{string_eq}
use Rattle.std.specs.declared.alloc.Global.{Global}
use Rattle.std.specs.declared.string.String.{String}
use Rattle.std.specs.declared.vec.Vec.{Vec}
use Rattle.indexmap.specs.IndexMap.{insert_entry}
use Rattle.spec_structure.specs.Modules as spec
use Rattle.spec_structure.specs.Modules.{Modules, is_among}
use Rattle.spec_structure.specs.Structure.{Link}
use Rattle.xt_text.proofs.Chars.{same_chars}
use Rattle.xt_structure.specs.declared.links.Link as sheet
use Rattle.xt_structure.specs.View.{links_in}
use Rattle.xt_import.specs.Table.{Entry, name_of, names_of, lists_of}
use Rattle.xt_import.specs.View.{is_name}
use Rattle.xt_import.proofs.Keys.{by_characters, equal}

-- ---- Which modules were read

pub found_among : (name : List ℕ) (es : List Entry) → is_some (lookup (is_name name) es) ≡ is_among name (names_of es)
found_among name [] = refl
found_among name (e ∷ es) = by (is_name name e.0) (found_among name es)
  where
    by : (b : Bool) → is_some (lookup (is_name name) es) ≡ is_among name (names_of es)
        → is_some (cond b (Some e.1) (lookup (is_name name) es)) ≡ (b || is_among name (names_of es))
    by true h = refl
    by false h = h

pub read_by_text : (text : List ℕ) (es : List Entry) → IsUtf8 text
    → is_some (lookup (λ key. bytes_eq text (string_bytes key)) es) ≡ is_among (chars text) (names_of es)
read_by_text text es u = ap is_some (by_characters text u es) ∙ found_among (chars text) es

-- ---- A module more

first_false : (a b : Bool) → (a || b) ≡ false → a ≡ false
first_false true b h = absurd (cc)
first_false false b h = refl

second_false : (a b : Bool) → (a || b) ≡ false → b ≡ false
second_false true b h = absurd (cc)
second_false false b h = h

put_last : (key : String Global) (links : Vec sheet.Link Global) (es : List Entry) → is_among (chars (string_bytes key)) (names_of es) ≡ false
    → insert_entry string_eq es key links ≡ es ++ (key, links) ∷ []
put_last key links [] h = refl
put_last key links (e ∷ es) h =
    let same : string_eq key e.0 ≡ bytes_eq (chars (string_bytes key)) (chars (string_bytes e.0))
    = same_chars (string_bytes key) (string_bytes e.0) (IsUtf8-string_bytes key) (IsUtf8-string_bytes e.0) in
    ap (λ b. cond b ((e.0, links) ∷ es) (e ∷ insert_entry string_eq es key links)) (same ∙ first_false _ _ h)
    ∙ ap (λ rest. e ∷ rest) (put_last key links es (second_false _ _ h))

pub named_last : (name : List ℕ) (key : String Global) (links : Vec sheet.Link Global) (old new : List Entry) → chars (string_bytes key) ≡ name
    → is_among name (names_of old) ≡ false → new ≡ insert_entry string_eq old key links → names_of new ≡ names_of old ++ name ∷ []
named_last name key links old new k h e =
    ap names_of (e ∙ put_last key links old (ap (λ n. is_among n (names_of old)) k ∙ h)) ∙ map-append name_of old ((key, links) ∷ [])
    ∙ ap (λ n. names_of old ++ n ∷ []) k

pub linked_last : (name : List ℕ) (key : String Global) (links : Vec sheet.Link Global) (old new : List Entry) → chars (string_bytes key) ≡ name
    → is_among name (names_of old) ≡ false → new ≡ insert_entry string_eq old key links → lists_of new ≡ lists_of old ++ links_in links.items ∷ []
linked_last name key links old new k h e =
    ap lists_of (e ∙ put_last key links old (ap (λ n. is_among n (names_of old)) k ∙ h)) ∙ map-append (λ (e : Entry). links_in e.1.items) old ((key, links) ∷ [])

-- its links are those of its module, as those of the others are
pub linked_alike : (modules : Modules) (name : List ℕ) (links : List Link) (old new : List Entry)
    → names_of new ≡ names_of old ++ name ∷ [] → lists_of new ≡ lists_of old ++ links ∷ [] → links ≡ spec.links_in modules name
    → lists_of old ≡ map (spec.links_in modules) (names_of old) → lists_of new ≡ map (spec.links_in modules) (names_of new)
linked_alike modules name links old new n l e h =
    l ∙ ap (λ ls. ls ++ links ∷ []) h ∙ ap (λ x. map (spec.links_in modules) (names_of old) ++ x ∷ []) e
    ∙ sym (map-append (spec.links_in modules) (names_of old) (name ∷ [])) ∙ ap (map (spec.links_in modules)) (sym n)

-- ---- What is found by a name

pub place_by_characters : (text : List ℕ) → IsUtf8 text → (keys : List (String Global))
    → position (λ key. bytes_eq text (string_bytes key)) keys ≡ position (is_name (chars text)) keys
place_by_characters text u keys = λ i. position (λ key. same_chars text (string_bytes key) u (IsUtf8-string_bytes key) i) keys

first_one : {X : Type 0} (a b : X) (xs ys : List X) → a ∷ xs ≡ b ∷ ys → a ≡ b
first_one a b xs ys e = cc

others : {X : Type 0} (a b : X) (xs ys : List X) → a ∷ xs ≡ b ∷ ys → xs ≡ ys
others a b xs ys e = cc

pub its_own : (modules : Modules) (e : Entry) (es : List Entry) → lists_of (e ∷ es) ≡ map (spec.links_in modules) (names_of (e ∷ es))
    → links_in e.1.items ≡ spec.links_in modules (name_of e)
its_own modules e es h = first_one _ _ (lists_of es) (map (spec.links_in modules) (names_of es)) h

pub of_others : (modules : Modules) (e : Entry) (es : List Entry) → lists_of (e ∷ es) ≡ map (spec.links_in modules) (names_of (e ∷ es))
    → lists_of es ≡ map (spec.links_in modules) (names_of es)
of_others modules e es h = others (links_in e.1.items) (spec.links_in modules (name_of e)) _ _ h

some_same : {X : Type 0} (x y : X) → Some x ≡ Some y → x ≡ y
some_same x y e = cc

pub found_links : (modules : Modules) (name : List ℕ) (es : List Entry) (links : Vec sheet.Link Global) → lookup (is_name name) es ≡ Some links
    → lists_of es ≡ map (spec.links_in modules) (names_of es) → links_in links.items ≡ spec.links_in modules name
found_links modules name [] links f h = absurd (cc)
found_links modules name (e ∷ es) links f h = by (is_name name e.0) refl f (λ g. found_links modules name es links g (of_others modules e es h))
  where
    by : (b : Bool) → is_name name e.0 ≡ b → cond b (Some e.1) (lookup (is_name name) es) ≡ Some links
        → (lookup (is_name name) es ≡ Some links → links_in links.items ≡ spec.links_in modules name) → links_in links.items ≡ spec.links_in modules name
    by true k g later =
        ap (λ (v : Vec sheet.Link Global). links_in v.items) (sym (some_same e.1 links g)) ∙ its_own modules e es h
        ∙ ap (spec.links_in modules) (sym (equal name (name_of e) k))
    by false k g later = later g

-- ---- The names

pub names_by_keys : (names : List (List ℕ)) (keys : List (String Global)) (es : List Entry) → names ≡ [] → keys ≡ map (λ e. e.0) es
    → names ++ map (λ key. chars (string_bytes key)) keys ≡ names_of es
names_by_keys names keys es n k = ap (λ ns. ns ++ map (λ key. chars (string_bytes key)) keys) n ∙ ap (map (λ key. chars (string_bytes key))) k ∙ again es
  where
    again : (es : List Entry) → map (λ key. chars (string_bytes key)) (map (λ (e : Entry). e.0) es) ≡ names_of es
    again [] = refl
    again (e ∷ es) = ap (λ ns. name_of e ∷ ns) (again es)
