-- Modules by their names: keys are texts, names are characters.
use Rattle.std.proofs.Common.{◌≡◌, ℕ, Bool, true, false, cond, List, Option, None, Some, bytes_eq, string_bytes, refl, ap}
use Rattle.std.proofs.Common.{◌∙◌}
use Rattle.std.specs.Prelude.{codes}
use Rattle.std.proofs.lemmas.Str.{IsUtf8-from_is_utf8}
use Rattle.std.specs.Map.{lookup}
use Rattle.std.specs.Option.{option_map, option_copied}
use Rattle.std.specs.Str.{chars, is_utf8, IsUtf8}
use lib.Utf8.{encode}
use Rattle.std.specs.String.{string_eq}
use Rattle.std.specs.declared.alloc.Global.{Global}
use Rattle.std.specs.declared.string.String.{String}
use Rattle.indexmap.specs.IndexMap.{insert_entry}
use Rattle.spec_document.specs.Forest.{Document}
use Rattle.spec_cost.specs.Numbers as numbers
use Rattle.xt_import.specs.View.{is_name, modules_in, plain_of}
use Rattle.spec_run.specs.Documents.{main_name}
use Rattle.xt_world.proofs.Keys.{by_characters, lookup-insert}
use Rattle.xt_held.specs.Called.{numbered_modules}
use Rattle.xt_held.specs.OutcomeView.{plain_in}
use Rattle.xt_held.specs.StylesheetView.{with_one}
use denote.Ref.{Bor}

map-cond : {X Y : Type 0} (f : X → Y) (b : Bool) (v : X) (rest : Option X)
    → option_map f (cond b (Some v) rest) ≡ cond b (Some (f v)) (option_map f rest)
map-cond f true v rest = refl
map-cond f false v rest = refl

-- the modules after an insert
pub modules-insert : (key : String Global) (document : Document ℕ) (es : List (String Global × Document ℕ))
    → modules_in (insert_entry string_eq es key document) ≡ with_one (chars (string_bytes key)) (plain_of document) (modules_in es)
modules-insert key document es =
    let at : (name : List ℕ) → modules_in (insert_entry string_eq es key document) name ≡ with_one (chars (string_bytes key)) (plain_of document) (modules_in es) name
    = λ name. ap (option_map plain_of) (lookup-insert name key document es) ∙ map-cond plain_of (is_name name key) document (lookup (is_name name) es) in
    λ i name. at name i

-- the same with the numbers of their nodes
pub numbered-insert : (key : String Global) (document : Document ℕ) (es : List (String Global × Document ℕ))
    → numbered_modules (insert_entry string_eq es key document) ≡ numbers.with_one (chars (string_bytes key)) (Some document) (numbered_modules es)
numbered-insert key document es = λ i name. lookup-insert name key document es i

pub map-copied : {X Y : Type 0} (f : X → Y) (o : Option (Bor X)) → option_map (λ r. f r.now) o ≡ option_map f (option_copied o)
map-copied f None = refl
map-copied f (Some r) = refl

-- the module of these characters, as it is found by its text
pub looked_up : (es : List (String Global × Document ℕ)) (text : List ℕ) → IsUtf8 text → (name : List ℕ) → chars text ≡ name → (found : Option (Bor (Document ℕ)))
    → option_copied found ≡ lookup (λ key. bytes_eq text (string_bytes key)) es → plain_in found ≡ modules_in es name
looked_up es text utf8 name same found e = map-copied plain_of found ∙ ap (option_map plain_of) (e ∙ by_characters text utf8 es) ∙ ap (modules_in es) same

main_is_utf8 : IsUtf8 (codes "main")
unfolding is_utf8 chars encode
main_is_utf8 = IsUtf8-from_is_utf8 (codes "main") refl

-- the module `main`, as it is found by its name
pub is_main : (es : List (String Global × Document ℕ)) (found : Option (Bor (Document ℕ)))
    → option_copied found ≡ lookup (λ key. bytes_eq (codes "main") (string_bytes key)) es → plain_in found ≡ modules_in es main_name
unfolding chars
is_main es found e = looked_up es (codes "main") main_is_utf8 main_name refl found e
