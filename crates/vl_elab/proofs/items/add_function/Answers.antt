use Rattle.vl_elab.proofs.items.add_function.Goals as goal

pub returns : goal.returns
returns c = c.add_framed.ensures c.in_ok-frame.ensures
