-- What is kept of a call.
use Rattle.spec_run.specs.Plan.{Call}
use Rattle.spec_run.specs.Trail.{Kept}
use Rattle.spec_node.specs.declared.node_ref.NodeRef.{NodeRef}
use Rattle.xt_engine.specs.Advances.{Made}

-- where it came to this
abbrev pub kept_with : Call NodeRef → Made NodeRef → Kept NodeRef
kept_with call made = record { call = call; trace = made.trace; content = made.content; height = made.height; ending = made.ending }
