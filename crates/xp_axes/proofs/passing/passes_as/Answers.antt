use Rattle.std.proofs.Common.{ap}
use Rattle.xt_syntax.specs.View.{test_of}
use Rattle.xp_axes.proofs.Tested.{in_namespace}
use Rattle.xp_axes.proofs.passing.passes_as.Goals as goal

pub returns-in_ok-name-in-InNamespace : goal.returns-in_ok-name-in-InNamespace
returns-in_ok-name-in-InNamespace c =
    in_namespace c.args.document.now c.args.axis c.args.node.now (test_of c.args.test.now) _ c.args.kind _ c.is_principal-in-InNamespace.result
    c.is_in_namespace.result (ap test_of c.in-InNamespace.is) c.requires.kind c.is_principal-in-InNamespace.ensures c.if-not-is_principal.false
    c.in_ok-name-in-InNamespace.ensures c.is_in_namespace.ensures
