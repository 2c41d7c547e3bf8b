use Rattle.std.proofs.Common.{arith}
use Rattle.cell_eval.specs.declared.masks.TheConstants.{MASKS}
use Rattle.cell_eval.proofs.Table.{mask-at}
use Rattle.cell_eval.proofs.masks.mask.Goals as goal

pub returns : goal.returns
returns c = mask-at MASKS 0 c.args.width c.args.width tt (omega arith) (omega arith)
