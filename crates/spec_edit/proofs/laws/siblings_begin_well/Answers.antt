use Rattle.spec_edit.proofs.Numbers.{read_nodes, read_limit}
use Rattle.spec_edit.proofs.Normal.{read-nodes-normal}
use Rattle.spec_edit.proofs.Depths.{read-fits}
use Rattle.spec_edit.proofs.laws.siblings_begin_well.Goals as goal

pub returns : goal.returns
returns c scope first parent body nodes e =
    let read = read_nodes scope first parent body nodes e in
    let limit = read_limit scope first parent body nodes read in
    let fits = read-fits scope first parent body nodes read in
    (limit.0, limit.1, read-nodes-normal scope first parent body nodes read, fits.elements, fits.levels)
