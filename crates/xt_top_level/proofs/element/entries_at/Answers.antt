use Rattle.std.proofs.Common.{map}
use Rattle.spec_compile.specs.Value.{attributes_of}
use Rattle.xt_tree.specs.View.{written_of}
use Rattle.xt_top_level.proofs.Elements.{stands, refused}
use Rattle.xt_top_level.proofs.element.entries_at.Goals as goal

pub returns-in-Ok : goal.returns-in-Ok
returns-in-Ok c = stands c.args.path.now c.in-Ok.ensures

pub returns-in-Err-Refused : goal.returns-in-Err-Refused
returns-in-Err-Refused c =
    let read = rw c.in-Err-Refused.field-0-is at c.in-Err-Refused.ensures in
    refused (attributes_of c.args.scope.now c.args.element (map written_of c.args.attributes.now)) c.in-Err-Refused.code c.args.path.now _ read.so c.fault.ensures
