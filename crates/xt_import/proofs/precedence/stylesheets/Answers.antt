use Rattle.std.proofs.Common.{◌≡◌, ◌++◌, ◌∷◌, [], length, false, ap, reverse, rules}
use Rattle.xt_import.specs.View.{modules_in}
use Rattle.xt_import.proofs.Fitting.{all_fit}
use Rattle.xt_import.proofs.Ordering.{begins, finished, lost}
use Rattle.xt_import.proofs.precedence.stylesheets.Goals as goal

pub loop-task-init : goal.loop-task-init
loop-task-init c =
    begins (modules_in c.args.modules.now.entries) c.args.main.now (length c.args.modules.now.entries) _ c.new-sheets.result.items c.new-tasks.result.items
    c.push.new.self.items c.new-sheets.ensures.items c.new-tasks.ensures.items c.in_ok-push.ensures.items c.in_ok-copy.ensures c.len.ensures.len

pub returns-then-not-branch-clause-none : goal.returns-then-not-branch-clause-none
returns-then-not-branch-clause-none c names order all there =
    let entries = c.args.modules.now.entries in
    let out : c.in_ok-take.field-0 ≡ false = search rules in
    let put : c.loop-task.tasks.items ≡ c.pop.new.self.items ++ c.in-Some.task ∷ [] = search rules in
    absurd (lost (modules_in entries) c.args.main.now (length entries) _ _ c.loop-task.tasks.items _ c.in-Some.task _ c.in_ok-take.field-0 c.loop-task.invariant
    put c.in_ok-take.ensures out (all_fit entries c.args.main.now names order all there))

pub returns-clause-ordered : goal.returns-clause-ordered
returns-clause-ordered c =
    let none : c.loop-task.tasks.items ≡ [] = search rules in
    finished (modules_in c.args.modules.now.entries) c.args.main.now (length c.args.modules.now.entries) _ _ (ap reverse none) c.loop-task.invariant
