-- A stream of one part is that part.
use Rattle.std.proofs.Common.{◌≡◌, ◌∙◌, sym, ap, List, [], ◌∷◌, length, map, arith}
use Rattle.std.proofs.Common.{slice_index_or}
use Rattle.std.specs.declared.alloc.Global.{Global}
use Rattle.std.specs.declared.rc.Rc.{Rc}
use Rattle.spec_meaning.specs.Stream.{Stream, all_followed}
use Rattle.xt_tree.specs.StreamView.{single_of, stream_of}
use Rattle.xt_tree.specs.declared.items.Item.{Item}
use Rattle.xt_tree.specs.declared.items.Item.TheVariants.{Part}
use Rattle.xt_tree.specs.declared.items.Items.{Items}
use Rattle.xt_tree.proofs.Streams.{followed-Ended, view-Part}

pub only_so : (list : List Item) (item : Item) (part : Rc Items Global) (s : Stream) → length list ≡ 1 → item ≡ slice_index_or list 0 item
    → item ≡ Part part → all_followed (map single_of list) ≡ s → stream_of part.value ≡ s
only_so [] item part s one is part_is h = absurd (cc)
only_so (x ∷ []) item part s one is part_is h =
    sym (view-Part part) ∙ ap single_of (sym part_is ∙ is) ∙ sym (followed-Ended (single_of x)) ∙ h
only_so (x ∷ y ∷ ys) item part s one is part_is h = absurd (omega (arith, one))
