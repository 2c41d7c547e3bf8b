use Rattle.std.proofs.Common.{◌<◌, length, sym, ap, arith, ◌∙◌, subst}
use Rattle.std.specs.Prelude.{slice_index}
use Rattle.std.proofs.lemmas.List.{get_or_read}
use Rattle.trap_runtime.specs.cell_form.specs.States.{present}
use Rattle.trap_runtime.specs.cell_form.specs.Views.{bank_of}
use Rattle.trap_runtime.specs.cell_form.specs.Views as cells
use Rattle.ten_core.proofs.Cycling.{driven-to, list-there, register-there}
use Rattle.ten_core.specs.Tenants.{tenant_of}
use Rattle.ten_core.specs.declared.origin.Origin.{Origin}
use Rattle.ten_core.proofs.engine.Engine.drive.Goals as goal

pub step-requires-clause-register : goal.step-requires-clause-register
step-requires-clause-register c =
    let r = c.requires.runs in
    let b = bank_of c.args.bank.now in
    subst (λ (x : Origin). x.image.table.state < length b.regs) (sym c.deref.ensures)
    (register-there r.origin r.order (tenant_of c.args.self.now b) r.acts r.stage r.at)

pub step-requires-clause-list : goal.step-requires-clause-list
step-requires-clause-list c s e =
    let r = c.requires.runs in
    let b = bank_of c.args.bank.now in
    list-there r.origin r.order (tenant_of c.args.self.now b) r.acts r.stage r.at c.requires.no_call s
    (ap (λ (x : Origin). present (cells.table_of x.image.table) b) (sym c.deref.ensures) ∙ e)

pub index-requires : goal.index-requires
index-requires c =
    let t = tenant_of c.args.self.now (bank_of c.args.bank.now) in
    let next = driven-to c.a_cycle_of_states_is_one_of_nodes.ensures t c.requires.runs c.requires.no_call c.requires.goes_on c.requires.ticks
    c.deref.result.now.image (bank_of c.step.new.bank) (ap (λ (x : Origin). x.image) c.deref.ensures) c.step.ensures in
    let there = next.there in
    omega (arith, there)

pub overflow_cast-result : goal.overflow_cast-result
overflow_cast-result c =
    let t = tenant_of c.args.self.now (bank_of c.args.bank.now) in
    let next = driven-to c.a_cycle_of_states_is_one_of_nodes.ensures t c.requires.runs c.requires.no_call c.requires.goes_on c.requires.ticks
    c.deref.result.now.image (bank_of c.step.new.bank) (ap (λ (x : Origin). x.image) c.deref.ensures) c.step.ensures in
    let read = get_or_read c.step.new.bank.regs.items _ _ next.there c.index.ensures 0 in
    let is = ap (slice_index c.step.new.bank.regs.items) next.is in
    let few = next.few in
    omega (arith, read, is, few)

pub returns-clause-next : goal.returns-clause-next
returns-clause-next c =
    let t = tenant_of c.args.self.now (bank_of c.args.bank.now) in
    let next = driven-to c.a_cycle_of_states_is_one_of_nodes.ensures t c.requires.runs c.requires.no_call c.requires.goes_on c.requires.ticks
    c.deref.result.now.image (bank_of c.step.new.bank) (ap (λ (x : Origin). x.image) c.deref.ensures) c.step.ensures in
    let read = get_or_read c.step.new.bank.regs.items _ _ next.there c.index.ensures 0 in
    let is = ap (slice_index c.step.new.bank.regs.items) next.is in
    read ∙ is
