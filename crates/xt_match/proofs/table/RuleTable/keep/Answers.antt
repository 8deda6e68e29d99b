use Rattle.std.proofs.Common.{List, sym, subst}
use Rattle.std.specs.Global.{Global}
use Rattle.std.specs.Prelude.{ℕ}
use Rattle.std.specs.declared.vec.Vec.{Vec}
use Rattle.xt_match.specs.Tabled.{AreFitting}
use Rattle.xt_match.specs.declared.called.CalledKey.{CalledKey}
use Rattle.xt_match.proofs.Tables.{either_way, one_listed}
use Rattle.xt_match.proofs.table.RuleTable.keep.Goals as goal

pub invariant_of-self : goal.invariant_of-self
invariant_of-self c =
    let rules = c.args.self.now.rules.now in
    let before = c.args.self.now.fitting in
    record {
      fitting = either_way c.insert.result c.insert.ensures.updates c.insert.ensures.err
          (λ updates. one_listed rules c.args.self.now.lists.entries c.insert.new.self.entries c.args.called c.args.numbers before c.requires (λ q. updates.0 q))
          (λ same. subst (λ (es : List (CalledKey × Vec ℕ Global)). AreFitting rules es) (sym same) before);
    }
