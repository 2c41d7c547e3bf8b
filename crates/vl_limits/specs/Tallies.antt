-- What counts, as the definitions of the limits have it.
use Rattle.std.specs.Prelude.{List, [], ◌∷◌, slice_index}
use Rattle.vl_design.specs.declared.design.Target.{Target}
use Rattle.vl_design.specs.Syntax.{Targets, NoTargets, MoreTargets}
use Rattle.vl_design.specs.Trees.{target_of}
use Rattle.vl_loops.specs.Limits.{Counted}
use Rattle.vl_limits.specs.declared.sums.Tally.{Tally}

abbrev pub counted_of : Tally → Counted
counted_of t = record { statement = t.statement; endless = t.endless; node = t.node; body = λ f. slice_index t.bodies.now f }

abbrev pub targets_of : List Target → Targets
targets_of [] = NoTargets
targets_of (t ∷ ts) = MoreTargets (target_of t) (targets_of ts)
