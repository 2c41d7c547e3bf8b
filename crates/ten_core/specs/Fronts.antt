-- What a run has printed on its way (own).
use Rattle.std.specs.Prelude.{◌≡◌, ℕ, List, ◌++◌}
use Rattle.vl_design.specs.declared.design.End.{End}
use Rattle.vl_design.specs.Alone.{Origin, Ends}
use Rattle.vl_design.specs.Queue.{Queue}
use Rattle.ten_form.specs.sub_nodes.specs.Cycles.{Stage}

-- what is printed at a stage is a front of what the run alone has printed where it ends
abbrev pub IsFront : Origin → Stage → Type 0
IsFront o i = (k : ℕ) (end : End) (q : Queue) → Ends o k end q → (more : List ℕ) × (q.state.printed ≡ i.state.printed ++ more)
