-- The namespaces in scope (Namespaces in XML 1.0, 6): a finite map from prefixes to URIs. The default
-- namespace stands under the empty prefix, and the empty URI there means no namespace.
use Rattle.std.specs.Prelude.{ℕ, List, Option, codes}
use Rattle.std.specs.Ordering.{nat_cmp}
use Rattle.std.specs.Cmp.Lexicographic.{slice_cmp}
use Rattle.std.specs.FinMap.{FinMap, empty, get, insert}

abbrev pub Scope : Type 0
Scope = FinMap (slice_cmp nat_cmp) (List ℕ)

-- the URIs that the standards fix: of the prefixes `xml` and `xmlns`, and of the elements of a stylesheet
abbrev pub xml_uri : List ℕ
xml_uri = codes "http://www.w3.org/XML/1998/namespace"

abbrev pub xmlns_uri : List ℕ
xmlns_uri = codes "http://www.w3.org/2000/xmlns/"

abbrev pub xslt_uri : List ℕ
xslt_uri = codes "http://www.w3.org/1999/XSL/Transform"

-- before any declaration: the prefix xml alone
abbrev pub root_scope : Scope
root_scope = insert empty (codes "xml") xml_uri

-- after a declaration of this prefix
abbrev pub bound : Scope → List ℕ → List ℕ → Scope
bound scope prefix uri = insert scope prefix uri

-- the URI of a prefix, where it is declared
abbrev pub resolved : Scope → List ℕ → Option (List ℕ)
resolved scope prefix = get scope prefix
