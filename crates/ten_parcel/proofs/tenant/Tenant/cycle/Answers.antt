use Rattle.std.proofs.Common.{suc, sym, ap, ◌∙◌, subst}
use Rattle.std.specs.Prelude.{if◌then◌else◌, slice_index}
use Rattle.ten_core.specs.cell_form.specs.Views.{bank_of}
use Rattle.ten_form.specs.Registers.{state_register}
use Rattle.ten_core.specs.Runs.{after_cycle}
use Rattle.ten_shell.specs.Shells.{run_of, StandsFor}
use Rattle.ten_parcel.proofs.tenant.Tenant.cycle.Goals as goal

pub returns-clause-point : goal.returns-clause-point
returns-clause-point c n i w may =
    subst (λ b. StandsFor c.stepped.new.self b (if c.stepped.new.self.engine.waits then n else suc n) (after_cycle (run_of c.args.self.now.shell) w.order i))
    (sym c.drive-next.ensures.bank)
    (c.stepped.ensures.point (bank_of c.args.self.now.bank) n i w may
    (c.drive-next.ensures.next ∙ ap (λ b. slice_index b.regs state_register) c.drive-next.ensures.bank))

pub returns-clause-beat : goal.returns-clause-beat
returns-clause-beat c n i w = c.stepped.ensures.beat (bank_of c.drive-next.new.bank) n i w
