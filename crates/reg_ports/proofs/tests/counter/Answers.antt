use Rattle.std.proofs.Common.{[], ◌∷◌, map, ap, ◌∙◌}
use Rattle.cell_form.specs.declared.bank.Port.{Port}
use Rattle.reg_ports.proofs.Examples.{alone-is}
use Rattle.reg_ports.proofs.tests.counter.Goals as goal

pub returns : goal.returns
returns c =
    alone-is c.from_vec-ports.result c.in_ok-regs.regs.items (map (λ m. m.items) c.new.result.items) c.new-2.result.items
    (c.from_vec-ports.ensures ∙ c.in_ok-from_array.ensures.items ∙ ap (λ (p : Port). p ∷ []) c.variable.ensures) c.in_ok-regs.ensures.items (ap (λ ms. map (λ m. m.items) ms) c.new.ensures.items) c.new-2.ensures.items
