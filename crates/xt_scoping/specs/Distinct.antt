-- Sets of names, as lists without doubles.
use Rattle.std.specs.Prelude.{◌≡◌, List, [], ◌∷◌, ◌++◌, map, if◌then◌else◌}
use Rattle.spec_document.specs.Name.{Expanded}
use Rattle.spec_compile.specs.Scoping.{is_named}
use Rattle.xt_scoping.specs.declared.key.Key.{Key}

abbrev pub names_of : List Key → List Expanded
names_of keys = map (λ k. k.name.now) keys

-- with a name more, where it is not there
abbrev pub with_name : List Expanded → Expanded → List Expanded
with_name names name = if is_named names name then names else names ++ name ∷ []

-- the names that are not there, each once
abbrev pub with_names : List Expanded → List Expanded → List Expanded
with_names names [] = names
with_names names (name ∷ more) = with_names (with_name names name) more

-- what is added to the names that were seen is added to the new ones: whatever stood before those
abbrev pub AreAdded : (seen new seen_after new_after : List Expanded) → Type 0
AreAdded seen new seen_after new_after = (before : List Expanded) → seen ≡ before ++ new → seen_after ≡ before ++ new_after
