use Rattle.vl_parse.proofs.ports.port_grow.Goals as goal

pub returns-in_ok-range-in-Net-clause-shorter : goal.returns-in_ok-range-in-Net-clause-shorter
returns-in_ok-range-in-Net-clause-shorter c = c.in_ok-range-in-Net.ensures.shorter _ (c.pushed-grown.ensures.shorter _ c.identifier.ensures.shorter)

pub returns-in_ok-range-in-Reg-clause-shorter : goal.returns-in_ok-range-in-Reg-clause-shorter
returns-in_ok-range-in-Reg-clause-shorter c = c.in_ok-range-in-Reg.ensures.shorter _ (c.pushed-grown-in-Reg.ensures.shorter _ c.declaration_assignment.ensures.shorter)
