use Rattle.std.proofs.Common.{List, map, length, subst}
use Rattle.vl_design.specs.declared.design.Signal.{Signal}
use Rattle.vl_design.specs.Trees.{flat_of, row_of}
use Rattle.vl_design.specs.Width.{names_of}
use Rattle.machine_rows.specs.Benches.{ArePlaced}
use Rattle.machine_rows.proofs.Placing.{places-there}
use Rattle.machine_rows.proofs.cells.bench.set_up.Goals as goal

pub returns-clause-there : goal.returns-clause-there
returns-clause-there c =
    let names = names_of (flat_of c.args.design.now) in
    let places = c.in_ok-places.places.items in
    let b = c.places.new.bank in
    let F : List Signal → Type 0 = λ ss. ArePlaced (map row_of ss) places (length b.regs.items) (length b.mems.items) in
    places-there names places c.in_ok-time.time c.in_ok-answer.answer b c.register.new.bank c.register-2.new.bank (subst F c.as_slice.ensures c.in_ok-places.ensures)
    c.in_ok-time.ensures.there c.in_ok-time.ensures.extends c.in_ok-answer.ensures.there c.in_ok-answer.ensures.extends
