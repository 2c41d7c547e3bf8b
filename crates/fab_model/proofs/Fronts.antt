-- What each tenant has printed is a front of what its run alone prints.
use Rattle.std.proofs.Common.{ℕ, List, [], ◌∷◌}
use Rattle.ten_core.specs.vl_design.specs.Alone.{Origin}
use Rattle.ten_core.specs.sub_nodes.specs.Cycles.{Stage}
use Rattle.ten_core.specs.Fronts.{IsFront}
use Rattle.ten_core.specs.Running.{IsRunning}
use Rattle.fab_model.specs.Points.{Point, run_in, order_in}
use Rattle.fab_model.specs.Several.{AreFronts, AreRuns}

pub fronts : ((o : Origin) (order : List ℕ) (c : ℕ) (i : Stage) → IsRunning o order c i → IsFront o i) → (ps : List Point) → AreRuns ps → AreFronts ps
fronts law [] h = tt
fronts law (p ∷ ps) h = (law (run_in p) (order_in p) p.acts p.stage h.0, fronts law ps h.1)
