-- A node of a search tree, opened.
use Rattle.std.proofs.Common.{◌≡◌, ℕ, List, ◌∷◌, ◌++◌, Option, None, Some, Result, Ok, Err, IfOk, ◌<◌, length, length-append}
use Rattle.std.proofs.Common.{◌∙◌, refl, sym, ap, subst, arith}
use Rattle.std.specs.declared.rc.Rc.{Rc}
use Rattle.std.specs.declared.alloc.Global.{Global}
use Rattle.std.specs.Str.{chars}
use Rattle.std.specs.Ordering.{nat_cmp}
use Rattle.std.specs.Cmp.Lexicographic.{slice_cmp, nat_list_cmp_total}
use Rattle.std.specs.declared.cmp.Ordering.{Ordering}
use Rattle.xt_text.specs.declared.memory.Memory.{Memory}
use Rattle.xt_names.specs.declared.namespace.Namespace.{Namespace}
use Rattle.xt_names.specs.declared.search_tree.Node.{Node, out-Node, fold_out-Node}
use Rattle.xt_names.specs.declared.search_tree.Node.TheFolds.{map-Node, fold-roll-Node}
use Rattle.xt_names.specs.declared.search_tree.Node.TheViews.{roll-Node}
use Rattle.xt_names.specs.View.{Entry, entry_of}
use Rattle.std.specs.FinMap.{slice_cmp-IsAntisymmetric, nat_cmp-IsAntisymmetric}
use Rattle.std.specs.FinMap.Entries.{put, find}
use Rattle.std.specs.declared.cmp.Ordering.TheVariants.{Less, Equal, Greater}
use Rattle.xt_names.proofs.Trees.{sorted_front, sorted_back, put-before, put-at, put-after, find-before, find-at, find-after}
use Rattle.xt_names.specs.SearchTree.{node_step, node_entries, link_entries, IsOrdered}

by_links : (own : Rc Namespace Global) (height : ℕ) (before after : Option (Rc Node Global))
    → node_step (map-Node Node (List Entry) node_entries (record { namespace = own; height = height; before = before; after = after }))
    ≡ link_entries before ++ entry_of own.value ∷ link_entries after
by_links own height None None = refl
by_links own height None (Some a) = refl
by_links own height (Some b) None = refl
by_links own height (Some b) (Some a) = refl

pub view-Node : (n : Node)
    → node_entries n ≡ link_entries (out-Node n).before ++ entry_of (out-Node n).namespace.value ∷ link_entries (out-Node n).after
view-Node n = fold_out-Node (List Entry) node_step n ∙ by_links (out-Node n).namespace (out-Node n).height (out-Node n).before (out-Node n).after

pub made-Node : (own : Rc Namespace Global) (height : ℕ) (before after : Option (Rc Node Global))
    → node_entries (roll-Node (record { namespace = own; height = height; before = before; after = after }))
    ≡ link_entries before ++ entry_of own.value ∷ link_entries after
made-Node own height before after =
    fold-roll-Node (List Entry) node_step (record { namespace = own; height = height; before = before; after = after }) ∙ by_links own height before after

-- parts that have what the parts of a node have
pub parted : (n : Node) (before after : Option (Rc Node Global)) (own : Namespace) → link_entries before ≡ link_entries (out-Node n).before
    → own ≡ (out-Node n).namespace.value
    → link_entries after ≡ link_entries (out-Node n).after → node_entries n ≡ link_entries before ++ entry_of own ∷ link_entries after
parted n before after own b o a = rw (b, o, a) (view-Node n)

-- what is said of the entries of a node that a call gave, with others that are the same
pub ok_with : (r : Result (Rc Node Global) Memory) (es fs : List Entry) → es ≡ fs → IfOk r (λ node. node_entries node.value ≡ es)
    → IfOk r (λ node. node_entries node.value ≡ fs)
ok_with (Ok node) es fs e h = h ∙ e
ok_with (Err m) es fs e h = tt

pub opened : (link : Option (Rc Node Global)) (at : Rc Node Global) (n : Node) (own : Namespace) → link ≡ Some at → n ≡ at.value
    → own ≡ (out-Node n).namespace.value
    → link_entries link ≡ link_entries (out-Node n).before ++ entry_of own ∷ link_entries (out-Node n).after
opened link at n own is e o =
    ap link_entries is ∙ ap node_entries (sym e) ∙ view-Node n
    ∙ ap (λ m. link_entries (out-Node n).before ++ entry_of m ∷ link_entries (out-Node n).after) (sym o)

-- the order of a text and a prefix, as their characters are compared
pub asked : (o : Ordering) (q : List ℕ) (n : Namespace) (b : List ℕ) → chars b ≡ n.prefix → o ≡ slice_cmp nat_cmp q (chars b)
    → slice_cmp nat_cmp q n.prefix ≡ o
asked o q n b e h = ap (slice_cmp nat_cmp q) (sym e) ∙ sym h

-- the order of the prefixes, as their characters are compared
pub compared : (o : Ordering) (n m : Namespace) (x y : Namespace) (a b : List ℕ) → x ≡ n → y ≡ m → chars a ≡ x.prefix → chars b ≡ y.prefix
    → o ≡ slice_cmp nat_cmp (chars a) (chars b) → slice_cmp nat_cmp n.prefix m.prefix ≡ o
compared o n m x y a b p q e f h =
    ap (λ z. slice_cmp nat_cmp z m.prefix) (sym (e ∙ ap (λ z. z.prefix) p)) ∙ ap (slice_cmp nat_cmp (chars a)) (sym (f ∙ ap (λ z. z.prefix) q))
    ∙ sym h

pub shorter_before : (es fs : List Entry) (e : Entry) (all : List Entry) → all ≡ es ++ e ∷ fs → length es < length all
shorter_before es fs e all is = omega (arith, ap length is, length-append es (e ∷ fs))

pub shorter_after : (es fs : List Entry) (e : Entry) (all : List Entry) → all ≡ es ++ e ∷ fs → length fs < length all
shorter_after es fs e all is = omega (arith, ap length is, length-append es (e ∷ fs))

-- ---- The two sides of an entry

pub ordered_before : (all es fs : List Entry) (e : Entry) → all ≡ es ++ e ∷ fs → IsOrdered all → IsOrdered es
ordered_before all es fs e is h = record { rises = sorted_front (slice_cmp nat_cmp) nat_list_cmp_total es (e ∷ fs) (subst IsOrdered is h).rises }

pub ordered_after : (all es fs : List Entry) (e : Entry) → all ≡ es ++ e ∷ fs → IsOrdered all → IsOrdered fs
ordered_after all es fs e is h = record { rises = sorted_back (slice_cmp nat_cmp) nat_list_cmp_total es e fs (subst IsOrdered is h).rises }

pub put_before : (all es fs : List Entry) (e : Entry) (k v : List ℕ) → all ≡ es ++ e ∷ fs → slice_cmp nat_cmp k e.0 ≡ Less
    → put (slice_cmp nat_cmp) k v es ++ e ∷ fs ≡ put (slice_cmp nat_cmp) k v all
put_before all es fs e k v is tied = sym (ap (put (slice_cmp nat_cmp) k v) is ∙ put-before (slice_cmp nat_cmp) nat_list_cmp_total k v es e fs tied)

pub put_at : (all es fs : List Entry) (e : Entry) (k v : List ℕ) → all ≡ es ++ e ∷ fs → IsOrdered all → slice_cmp nat_cmp k e.0 ≡ Equal
    → es ++ (k, v) ∷ fs ≡ put (slice_cmp nat_cmp) k v all
put_at all es fs e k v is h tied =
    sym (ap (put (slice_cmp nat_cmp) k v) is
    ∙ put-at (slice_cmp nat_cmp) nat_list_cmp_total (slice_cmp-IsAntisymmetric nat_cmp-IsAntisymmetric) k v es e fs (subst IsOrdered is h).rises tied)

pub put_after : (all es fs : List Entry) (e : Entry) (k v : List ℕ) → all ≡ es ++ e ∷ fs → IsOrdered all → slice_cmp nat_cmp k e.0 ≡ Greater
    → es ++ e ∷ put (slice_cmp nat_cmp) k v fs ≡ put (slice_cmp nat_cmp) k v all
put_after all es fs e k v is h tied =
    sym (ap (put (slice_cmp nat_cmp) k v) is ∙ put-after (slice_cmp nat_cmp) nat_list_cmp_total k v es e fs (subst IsOrdered is h).rises tied)

pub found_before : (all es fs : List Entry) (e : Entry) (q : List ℕ) → all ≡ es ++ e ∷ fs → IsOrdered all → slice_cmp nat_cmp q e.0 ≡ Less
    → find (slice_cmp nat_cmp) q es ≡ find (slice_cmp nat_cmp) q all
found_before all es fs e q is h tied =
    sym (ap (find (slice_cmp nat_cmp) q) is ∙ find-before (slice_cmp nat_cmp) nat_list_cmp_total q es e fs (subst IsOrdered is h).rises tied)

pub found_at : (all es fs : List Entry) (e : Entry) (q : List ℕ) → all ≡ es ++ e ∷ fs → IsOrdered all → slice_cmp nat_cmp q e.0 ≡ Equal
    → Some e.1 ≡ find (slice_cmp nat_cmp) q all
found_at all es fs e q is h tied =
    sym (ap (find (slice_cmp nat_cmp) q) is ∙ find-at (slice_cmp nat_cmp) nat_list_cmp_total q es e fs (subst IsOrdered is h).rises tied)

pub found_after : (all es fs : List Entry) (e : Entry) (q : List ℕ) → all ≡ es ++ e ∷ fs → IsOrdered all → slice_cmp nat_cmp q e.0 ≡ Greater
    → find (slice_cmp nat_cmp) q fs ≡ find (slice_cmp nat_cmp) q all
found_after all es fs e q is h tied =
    sym (ap (find (slice_cmp nat_cmp) q) is ∙ find-after (slice_cmp nat_cmp) nat_list_cmp_total q es e fs (subst IsOrdered is h).rises tied)
