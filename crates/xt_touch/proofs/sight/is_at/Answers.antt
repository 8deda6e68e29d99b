use Rattle.std.proofs.Common.{sym, ap, ◌∙◌}
use Rattle.std.proofs.lemmas.Bool.{eqb-true}
use Rattle.spec_change.specs.Change.{is_among}
use Rattle.xt_tree.specs.View.{tree_of}
use Rattle.xt_tree.specs.declared.node.Node.{Node}
use Rattle.std.specs.declared.rc.Rc.{Rc}
use Rattle.std.specs.declared.alloc.Global.{Global}
use Rattle.xt_touch.proofs.Siblings.{one_told}
use Rattle.xt_touch.proofs.sight.is_at.Goals as goal

pub returns-then-index-siblings-clause-told : goal.returns-then-index-siblings-clause-told
returns-then-index-siblings-clause-told c =
    λ numbers told e. ap (is_among numbers) (sym (eqb-true c.id_of.result.number c.args.node.number (sym c.eq.ensures ∙ e)) ∙ c.id_of.ensures
    ∙ ap (λ (x : Rc Node Global). (tree_of x.value).number) c.index-siblings-index.is)
    ∙ one_told numbers c.args.siblings.now c.args.index c.index-siblings-index.result told c.if-index-siblings.true
