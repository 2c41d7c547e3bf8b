use Rattle.std.proofs.Common.{subst, ◌≡◌, ℕ, ◌∙◌, ap, sym}
use Rattle.std.proofs.lemmas.Result.{err_from_is_err_and}
use Rattle.std.specs.Prelude.{IsTrue, ◌↔◌, ◌++◌, slice_set}
use Rattle.trap_runtime.specs.cell_form.specs.Views.{bank_of}
use Rattle.trap_runtime.specs.cell_form.specs.Views as cells
use Rattle.trap_runtime.specs.cell_form.specs.declared.table.Trap.{Trap}
use Rattle.ten_files.specs.Tables.{open_files, IsTableOf}
use Rattle.trap_runtime.specs.Served as s
use Rattle.trap_runtime.specs.declared.served.Served.TheVariants as way
use Rattle.ten_form.specs.Works.{saved}
use Rattle.ten_core.proofs.Serving.{some-call, can-be-served, takes-memory, served-behind, shape-behind}
use Rattle.ten_core.specs.Tenants.{tenant_of}
use Rattle.ten_core.specs.Traps.{IsAtCall}
use Rattle.ten_core.specs.declared.origin.Origin.{Origin}
use Rattle.ten_core.proofs.engine.Engine.serve.Goals as goal

pub next_call-next-requires-clause-call : goal.next_call-next-requires-clause-call
next_call-next-requires-clause-call c =
    let r = c.requires.runs in
    let b = bank_of c.args.bank.now in
    subst (λ (x : Origin). (trap : Trap) × (to : ℕ) × IsAtCall (cells.table_of x.image.table) b trap to) (sym c.deref.ensures)
    (some-call r.origin r.order (tenant_of c.args.self.now b) r.acts r.stage r.at r.tame c.requires.waits)

pub serve-requires-clause-trap : goal.serve-requires-clause-trap
serve-requires-clause-trap c =
    let r = c.requires.runs in
    let b = bank_of c.args.bank.now in
    let call = c.next_call-next.result in
    can-be-served r.origin r.order (tenant_of c.args.self.now b) r.acts r.stage r.at r.tame c.requires.waits call.0.now call.1
    (subst (λ (x : Origin). IsAtCall (cells.table_of x.image.table) b call.0.now call.1) c.deref.ensures c.next_call-next.ensures)

pub returns-in_err-make_room-clause-memory : goal.returns-in_err-make_room-clause-memory
returns-in_err-make_room-clause-memory c = rw (err_from_is_err_and c.from_residual.result c.from_residual.ensures.1).1 (λ o order n i tame at.
    let b = bank_of c.args.bank.now in
    let call = c.next_call-next.result in
    takes-memory o order (tenant_of c.args.self.now b) n i at tame c.requires.waits call.0.now call.1
    (subst (λ (x : Origin). IsAtCall (cells.table_of x.image.table) b call.0.now call.1) c.deref.ensures c.next_call-next.ensures)
    c.in_err-make_room.ensures.memory)

pub returns-in_err-way-clause-memory : goal.returns-in_err-way-clause-memory
returns-in_err-way-clause-memory c = rw (err_from_is_err_and c.from_residual-in_err-way.result c.from_residual-in_err-way.ensures.1).1 (λ o order n i tame at.
    let b = bank_of c.args.bank.now in
    let call = c.next_call-next.result in
    takes-memory o order (tenant_of c.args.self.now b) n i at tame c.requires.waits call.0.now call.1
    (subst (λ (x : Origin). IsAtCall (cells.table_of x.image.table) b call.0.now call.1) c.deref.ensures c.next_call-next.ensures)
    c.in_err-way.ensures.memory)

pub returns-clause-ok : goal.returns-clause-ok
returns-clause-ok c o order n i tame at =
    let b = bank_of c.args.bank.now in
    let t = tenant_of c.args.self.now b in
    let call = c.next_call-next.result in
    let done = c.in_ok-way.ensures in
    let is = subst (λ (x : Origin). IsAtCall (cells.table_of x.image.table) b call.0.now call.1) c.deref.ensures c.next_call-next.ensures in
    served-behind o order t n i at tame c.requires.waits call.0.now call.1 is
    (bank_of c.serve.new.bank) c.serve.new.table c.serve.new.out.items
    (subst (λ (x : Origin). record { bank = bank_of c.serve.new.bank; table = open_files x.files c.serve.new.table; printed = c.serve.new.out.items }
    ≡ s.served x.files call.0.now (record { bank = b; table = open_files x.files t.rows; printed = t.printed })) c.deref-2.ensures done.served)
    (subst (λ (x : Origin). IsTableOf x.files c.serve.new.table) c.deref-2.ensures done.fits) c.is_end-self.result
    (subst (λ w. IsTrue c.is_end-self.result ↔ (w ≡ way.Finish)) done.way c.is_end-self.ensures)
    c.ask.new.asked.items
    (c.ask.ensures ∙ (ap (λ xs. xs ++ saved c.in_ok-way.way) c.make_room.ensures.same ∙ ap (λ w. t.asked ++ saved w) done.way))
    (bank_of c.go_to.new.bank)
    (c.go_to.ensures ∙ ap (λ (x : Origin). record (bank_of c.serve.new.bank) { regs = slice_set (bank_of c.serve.new.bank).regs x.image.table.state call.1 }) c.deref-3.ensures)

pub returns-clause-shape : goal.returns-clause-shape
returns-clause-shape c =
    let r = c.requires.runs in
    let b = bank_of c.args.bank.now in
    let t = tenant_of c.args.self.now b in
    let call = c.next_call-next.result in
    let done = c.in_ok-way.ensures in
    let is = subst (λ (x : Origin). IsAtCall (cells.table_of x.image.table) b call.0.now call.1) c.deref.ensures c.next_call-next.ensures in
    shape-behind r.origin r.order t r.acts r.stage r.at r.tame c.requires.waits call.0.now call.1 is
    (bank_of c.serve.new.bank) c.serve.new.table c.serve.new.out.items
    (subst (λ (x : Origin). record { bank = bank_of c.serve.new.bank; table = open_files x.files c.serve.new.table; printed = c.serve.new.out.items }
    ≡ s.served x.files call.0.now (record { bank = b; table = open_files x.files t.rows; printed = t.printed })) c.deref-2.ensures done.served)
    (bank_of c.go_to.new.bank)
    (c.go_to.ensures ∙ ap (λ (x : Origin). record (bank_of c.serve.new.bank) { regs = slice_set (bank_of c.serve.new.bank).regs x.image.table.state call.1 }) c.deref-3.ensures)
