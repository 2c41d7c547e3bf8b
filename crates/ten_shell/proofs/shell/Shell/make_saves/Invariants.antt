use Rattle.std.proofs.Common.{◌≡◌, ℕ, length}
use Rattle.ten_core.specs.cell_form.specs.Views.{bank_of}
use Rattle.ten_core.specs.sub_nodes.specs.Cycles.{Stage}
use Rattle.ten_shell.specs.Shells.{left_in, IsSameTenant, StandsFor}
use Rattle.ten_shell.proofs.shell.Shell.make_saves.Given as goal

abbrev pub invariant-saves : goal.invariant-saves
invariant-saves l = record {
  stands : (n : ℕ) (i : Stage) → StandsFor l.fn.self (bank_of l.bank) n i → StandsFor l.self (bank_of l.bank) n i;
  same : IsSameTenant l.fn.self l.self;
  engine : l.self.engine ≡ l.fn.self.engine;
  moved : l.self.moved ≡ l.fn.self.moved;
}

abbrev pub decreases-saves : goal.decreases-saves
decreases-saves l = length (left_in l.self)
