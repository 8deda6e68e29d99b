-- The words of an xsl:sort as characters.
use Rattle.std.proofs.Common.{◌≡◌, refl, codes}
use Rattle.std.specs.Str.{chars}

pub text_chars : chars (codes "text") ≡ codes "text"
unfolding chars
text_chars = refl

pub number_chars : chars (codes "number") ≡ codes "number"
unfolding chars
number_chars = refl

pub ascending_chars : chars (codes "ascending") ≡ codes "ascending"
unfolding chars
ascending_chars = refl

pub descending_chars : chars (codes "descending") ≡ codes "descending"
unfolding chars
descending_chars = refl
