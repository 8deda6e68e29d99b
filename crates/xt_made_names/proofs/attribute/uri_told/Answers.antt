use Rattle.xt_made_names.proofs.attribute.uri_told.Goals as goal

pub returns-in-None : goal.returns-in-None
returns-in-None c supply depth s = rw c.in-None.is (c.uri_called.ensures supply depth s)
