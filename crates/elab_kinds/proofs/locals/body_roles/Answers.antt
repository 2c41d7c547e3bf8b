use Rattle.elab_kinds.proofs.locals.body_roles.Goals as goal

pub returns : goal.returns
returns c = λ i t. record { controls = c.in_ok-controls.ensures i t; strays = c.in_ok-strays.ensures i t }
