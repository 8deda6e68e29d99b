-- The namespace of XSLT as it is compared.
use Rattle.std.proofs.Common.{◌≡◌, refl}
use Rattle.std.specs.Str.{chars}
use Rattle.spec_document.specs.Scope.{xslt_uri}

pub xslt_uri_chars : chars xslt_uri ≡ xslt_uri
unfolding chars
xslt_uri_chars = refl
