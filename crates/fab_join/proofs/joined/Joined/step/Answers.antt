use Rattle.std.proofs.Common.{◌<◌, ◌%◌, ◌^◌, List, length, map, ap, ◌∙◌, sym, arith, set, subst}
use Rattle.std.proofs.lemmas.List.{length-map}
use Rattle.std.specs.Prelude.{slice_index}
use Rattle.trap_runtime.specs.cell_form.specs.Data.{BankData}
use Rattle.trap_runtime.specs.cell_form.specs.Sound.{Shape, shape_of}
use Rattle.trap_runtime.specs.cell_form.specs.Views.{table_of, bank_of}
use Rattle.fab_join.specs.Laid.{part_data, IsLaid}
use Rattle.fab_join.specs.Parts.{PartData, part_at, stepped, state_in}
use Rattle.fab_join.proofs.Laid.{is_part, part_may_run, laid_stepped, laid_after_step, state_after_step}
use Rattle.fab_join.proofs.PartCycles.{table_shape}
use Rattle.fab_join.proofs.joined.Joined.step.Goals as goal

pub cycle_present-requires : goal.cycle_present-requires
cycle_present-requires c =
    let ps = c.self.inside.parts.items in
    let b = bank_of c.self.inside.bank in
    let x = c.index.result.now in
    let lt : c.args.part < length ps = omega (arith, sym (length-map ps (part_data b)) ∙ ap length c.self.view_is) in
    part_may_run (shape_of b) x (is_part (shape_of b) ps c.args.part x lt c.index.ensures c.self.invariant.each)

pub invariant_of-self : goal.invariant_of-self
invariant_of-self c =
    let ps = c.self.inside.parts.items in
    let b = bank_of c.self.inside.bank in
    let x = c.index.result.now in
    let lt : c.args.part < length ps = omega (arith, sym (length-map ps (part_data b)) ∙ ap length c.self.view_is) in
    let mine = is_part (shape_of b) ps c.args.part x lt c.index.ensures c.self.invariant.each in
    subst (λ (z : BankData). IsLaid z ps) (sym c.cycle_present.ensures) (laid_after_step b ps x mine c.self.invariant)

pub returns-clause-stepped : goal.returns-clause-stepped
returns-clause-stepped c =
    let ps = c.self.inside.parts.items in
    let b = bank_of c.self.inside.bank in
    let x = c.index.result.now in
    let lt : c.args.part < length ps = omega (arith, sym (length-map ps (part_data b)) ∙ ap length c.self.view_is) in
    ap (λ (z : BankData). map (part_data z) ps) c.cycle_present.ensures
    ∙ laid_stepped b ps c.args.part x lt c.index.ensures c.self.invariant
    ∙ ap (λ (qs : List PartData). set qs c.args.part (stepped (part_at qs c.args.part))) c.self.view_is

pub returns-clause-state : goal.returns-clause-state
returns-clause-state c =
    let ps = c.self.inside.parts.items in
    let b = bank_of c.self.inside.bank in
    let x = c.index.result.now in
    let lt : c.args.part < length ps = omega (arith, sym (length-map ps (part_data b)) ∙ ap length c.self.view_is) in
    c.state_register.ensures
    ∙ ap (λ (z : BankData). slice_index z.regs x.table.state % 2 ^ 32) c.cycle_present.ensures
    ∙ ap (λ n. n % 2 ^ 32) (state_after_step b ps c.args.part x lt c.index.ensures c.self.invariant)
    ∙ ap (λ (qs : List PartData). state_in (stepped (part_at qs c.args.part)) % 2 ^ 32) c.self.view_is

pub state_register-requires : goal.state_register-requires
state_register-requires c =
    let ps = c.self.inside.parts.items in
    let b = bank_of c.self.inside.bank in
    let x = c.index.result.now in
    let lt : c.args.part < length ps = omega (arith, sym (length-map ps (part_data b)) ∙ ap length c.self.view_is) in
    let mine = is_part (shape_of b) ps c.args.part x lt c.index.ensures c.self.invariant.each in
    let run = part_may_run (shape_of b) x mine in
    let long = ap (λ (z : BankData). length z.regs) c.cycle_present.ensures in
    let same = ap (λ (s : Shape). s.regs) (table_shape b (table_of x.table) run) in
    omega (arith, run.state, long, same)
