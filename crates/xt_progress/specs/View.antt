-- How far a run has come, as the definitions see it.
use Rattle.std.specs.Prelude.{List, [], ◌∷◌, map}
use Rattle.spec_meaning.specs.Stream.{Stream}
use Rattle.spec_run.specs.Going as plain
use Rattle.xt_tree.specs.declared.items.Items.{Items}
use Rattle.spec_node.specs.declared.node_ref.NodeRef.{NodeRef}
use Rattle.xt_tree.specs.StreamView.{stream_of, streams_of}
use Rattle.xt_engine.specs.View.{event_of}
use Rattle.xt_progress.specs.declared.going.Going.{Going}

-- sinks, the innermost last, in front of those around them
abbrev pub stacked : List Items → List Stream → List Stream
stacked [] around = around
stacked (s ∷ ss) around = stacked ss (stream_of s ∷ around)

abbrev pub going_of : Going → plain.Going NodeRef
going_of g = record {
  top = stream_of g.top;
  outer = stacked g.outer.items [];
  trace = map event_of g.events.items;
  height = g.height;
  streams = streams_of g.streams.items;
}
