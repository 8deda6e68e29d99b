use Rattle.std.proofs.Common.{refl}
use Rattle.xt_names.proofs.Words.{reserved}
use Rattle.xt_names.proofs.barred.is_reserved_target.Goals as goal

pub returns : goal.returns
returns c = reserved c.args.target.now _ c.eq_ignore_ascii_case.result c.utf8.target refl c.eq_ignore_ascii_case.ensures.test
