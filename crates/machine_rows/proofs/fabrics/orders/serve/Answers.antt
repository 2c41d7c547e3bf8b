use Rattle.std.proofs.Common.{sym, ◌∙◌}
use Rattle.machine_rows.proofs.fabrics.orders.serve.Goals as goal

pub serve-requires : goal.serve-requires
serve-requires c =
    let f = c.requires.fabric in
    let h = c.requires.stands in
    let found = c.who_comes_first_is_found.ensures.waits f.residents c.in-Some.tenant (c.each_number_stays_once.ensures.residents f h.once) (sym (c.next_trap.ensures f h) ∙ c.in-Some.is) in
    (f, found.0, h, found.1, found.2)
