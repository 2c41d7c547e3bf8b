use Rattle.std.proofs.Common.{ℕ, List, [], ◌∷◌, map, ap, ◌∙◌}
use Rattle.cell_form.specs.declared.bank.Port.{Port}
use Rattle.reg_ports.proofs.Examples.{variable, both-is}
use Rattle.reg_ports.proofs.tests.beside_memory.Goals as goal

pub returns-clause-map : goal.returns-clause-map
returns-clause-map c =
    both-is c.from_vec-ports.result c.in_ok-regs.regs.items (map (λ m. m.items) c.in_ok-mems.mems.items) c.new.result.items
    (c.from_vec-ports.ensures ∙ c.in_ok-from_array.ensures.items ∙ ap (λ (p : Port). p ∷ c.memory.result ∷ []) c.variable.ensures ∙ ap (λ (p : Port). variable ∷ p ∷ []) c.memory.ensures) c.in_ok-regs.ensures.items
    (ap (λ ms. map (λ m. m.items) ms) c.in_ok-mems.ensures.items ∙ ap (λ (ws : List ℕ). ws ∷ []) c.in_ok-words.ensures.items) c.new.ensures.items
