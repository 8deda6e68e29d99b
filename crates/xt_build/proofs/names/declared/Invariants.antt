use Rattle.std.proofs.Common.{◌≡◌, drop, map}
use Rattle.spec_document.specs.Declaration.{declared_all}
use Rattle.xt_tree.specs.View.{written_of}
use Rattle.xt_build.proofs.names.declared.Given as goal

-- the scope so far, with what is still to be declared in it, is the scope inside
abbrev pub invariant-loop-attribute : goal.invariant-loop-attribute
invariant-loop-attribute l =
    declared_all (map written_of (drop l.attribute-index l.attributes)) l.scope
    ≡ declared_all (map written_of l.attributes) l.initial.scope
