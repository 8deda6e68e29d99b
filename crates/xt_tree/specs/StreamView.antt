-- The streams that items stand for.
use Rattle.std.specs.Prelude.{List, map}
use Rattle.std.specs.declared.rc.Rc.{Rc}
use Rattle.std.specs.declared.alloc.Global.{Global}
use Rattle.xt_names.specs.View.{entry_of}
use Rattle.spec_meaning.specs.Stream as stream
use Rattle.xt_tree.specs.declared.items.Items.{Items, Items-F, fold-Items}
use Rattle.xt_tree.specs.declared.items.Item.{Item, Item-F, fold-Item}

-- an item as a stream of its own: a shared part is its items
abbrev pub item_step : Item-F stream.Stream stream.Stream → stream.Stream
item_step (Item-F.Element name uri namespaces content) = stream.Element name uri (map entry_of namespaces.items) content.value stream.Ended
item_step (Item-F.Nameless content) = stream.Nameless content.value stream.Ended
item_step (Item-F.Attribute name uri content) = stream.Attribute name uri content.value stream.Ended
item_step (Item-F.Namespace namespace) = stream.Namespace namespace.prefix namespace.uri stream.Ended
item_step (Item-F.Text text) = stream.Text text stream.Ended
item_step (Item-F.Comment content) = stream.Comment content.value stream.Ended
item_step (Item-F.Instruction target content) = stream.Instruction target content.value stream.Ended
item_step (Item-F.Message content) = stream.Message content.value stream.Ended
item_step (Item-F.Part items) = items.value
item_step Item-F.Hole = stream.Hole stream.Ended

abbrev pub items_step : Items-F stream.Stream stream.Stream → stream.Stream
items_step i = stream.all_followed i.list.items

abbrev pub single_of : Item → stream.Stream
single_of = fold-Item stream.Stream stream.Stream item_step items_step

abbrev pub stream_of : Items → stream.Stream
stream_of = fold-Items stream.Stream stream.Stream item_step items_step

-- streams that are shared
abbrev pub streams_of : List (Rc Items Global) → List stream.Stream
streams_of parts = map (λ p. stream_of p.value) parts
