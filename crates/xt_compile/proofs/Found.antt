-- What a look-up by a text finds, by its characters.
use Rattle.std.proofs.Common.{◌≡◌, ℕ, List, Option, None, Some, bytes_eq, string_bytes, is_some, refl, sym, ap, ◌∙◌}
use Rattle.std.specs.Borrow.{Bor}
use Rattle.std.specs.Map.{lookup}
use Rattle.std.specs.Option.{option_map, option_copied}
use Rattle.std.specs.Str.{chars, IsUtf8}
use Rattle.std.specs.declared.alloc.Global.{Global}
use Rattle.std.specs.declared.string.String.{String}
use Rattle.spec_document.specs.Forest.{Document}
use Rattle.xt_import.specs.View.{is_name, modules_in, plain_of}
use Rattle.xt_import.proofs.Keys.{by_characters}

-- what is found by the text's bytes
pub record IsFound {X : Type 0} (entries : List (String Global × X)) (name : List ℕ) (r : Option (Bor X)) : Type 0 where
  pub so : option_copied r ≡ lookup (is_name name) entries

pub found : {X : Type 0} {entries : List (String Global × X)} {name : List ℕ} {r : Option (Bor X)} (text : List ℕ) → IsUtf8 text → chars text ≡ name
    → option_copied r ≡ lookup (λ key. bytes_eq text (string_bytes key)) entries → IsFound entries name r
found {X} {entries} {name} {r} text utf8 e h = record { so = h ∙ by_characters text utf8 entries ∙ ap (λ (n : List ℕ). lookup (is_name n) entries) e }

there_is : {X : Type 0} (r : Option (Bor X)) → is_some r ≡ is_some (option_copied r)
there_is None = refl
there_is (Some x) = refl

pub is_there : {X : Type 0} {entries : List (String Global × X)} {name : List ℕ} {r : Option (Bor X)} → IsFound entries name r
    → is_some r ≡ is_some (lookup (is_name name) entries)
is_there {r = r} f = there_is r ∙ ap is_some f.so

map_there : {X Y : Type 0} (g : X → Y) (o : Option X) → is_some o ≡ is_some (option_map g o)
map_there g None = refl
map_there g (Some x) = refl

pub is_module : {entries : List (String Global × Document ℕ)} {name : List ℕ} {r : Option (Bor (Document ℕ))} → IsFound entries name r
    → is_some r ≡ is_some (modules_in entries name)
is_module {entries} {name} {r} f = is_there f ∙ map_there plain_of (lookup (is_name name) entries)

pub no_module : {entries : List (String Global × Document ℕ)} {name : List ℕ} {r : Option (Bor (Document ℕ))} → IsFound entries name r → r ≡ None
    → modules_in entries name ≡ None
no_module f e = ap (option_map plain_of) (sym f.so ∙ ap option_copied e)

pub its_module : {entries : List (String Global × Document ℕ)} {name : List ℕ} {r : Option (Bor (Document ℕ))} (document : Bor (Document ℕ)) → IsFound entries name r
    → r ≡ Some document → modules_in entries name ≡ Some (plain_of document.now)
its_module document f e = ap (option_map plain_of) (sym f.so ∙ ap option_copied e)
