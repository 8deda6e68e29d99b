use Rattle.std.proofs.Common.{subst, sym}
use Rattle.spec_run.specs.Documents.{Documents}
use Rattle.xt_held.specs.StylesheetView.{IsThere}
use Rattle.xt_held.proofs.Dropped.{is_held}
use Rattle.xt_held.proofs.held.Held.drop_module.Goals as goal

pub returns-in_ok-drop_ready-in-Some-clause-answer : goal.returns-in_ok-drop_ready-in-Some-clause-answer
returns-in_ok-drop_ready-in-Some-clause-answer c =
    let name = c.args.name.now in
    let there = is_held c.args.self.now name c.as_str.result.now c.as_str.ensures.characters c.module.result c.in-Some.field-0 c.module.ensures c.in-Some.is in (
      subst (λ (documents : Documents). IsThere documents.modules name) (sym c.in_ok-drop_ready-in-Some.ensures.kept.documents) there,
      c.in_ok-drop_ready-in-Some.ensures.ok,
    )
