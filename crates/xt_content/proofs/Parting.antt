-- Children by what they are, one after another.
use Rattle.std.proofs.Common.{◌≡◌, [], append-nil}
use Rattle.xt_content.specs.Kind.{Parted, parted}
use Rattle.xt_content.specs.View.{added}

pub added_nothing : (p : Parted) → added p (parted []) ≡ p
added_nothing p = λ i. record {
  content = append-nil p.content i;
  parameters = append-nil p.parameters i;
  sort_keys = append-nil p.sort_keys i;
  branches = append-nil p.branches i;
}
