-- Facts that every walk asks for.
use Rattle.cell_emit.proofs.Frames.{grows-same, grows-then}
use Rattle.cell_emit.proofs.Staying.{fits-stays}
use Rattle.vl_eval.proofs.Widths.{form-width}

pub ruleset walking = (grows-same, grows-then, fits-stays, form-width)
