use Rattle.ten_core.proofs.Settling.{still-holds}
use Rattle.ten_core.proofs.hold_laws.settled_nets_change_no_bank.Goals as goal

pub returns : goal.returns
returns c = λ d order files node b s can stage.
    record {
      node = stage.node;
      holds = still-holds d can.alone files order s b stage.holds;
      idle = stage.idle;
    }
