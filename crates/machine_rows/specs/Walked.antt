-- Cells of statements of a design's processes (own).
use Rattle.std.specs.Prelude.{◌≡◌, ℕ, List, []}
use Rattle.vl_design.specs.Width.{Names}
use Rattle.cell_emit.specs.cell_form.specs.Data.{ListData}
use Rattle.cell_emit.specs.cell_form.specs.Sound.{Shape}
use Rattle.cell_emit.specs.Slots.{Longer}
use Rattle.cell_emit.specs.Envs.{Env, Fits, HasMemories}
use Rattle.cell_emit.specs.Paths.{Keeps}
use Rattle.cell_emit.specs.Reads.{HasPlaces}

-- no cells
abbrev pub none : ListData
none = record { first = 0; cells = []; sets = [] }

-- cells that are well-formed where registers and memories are there, and the slots of signals behind them
pub record Walked (names : Names) (places : List ℕ) (time answer : ℕ) (l : ListData) (at : Env) : Type 0 where
  pub count : ℕ
  pub longer : Longer (HasPlaces names places time answer) count none l
  pub fits : Fits names l at
  pub first : at.first ≡ 0
  pub memories : (s : Shape) → HasPlaces names places time answer s → HasMemories names at s

-- cells more, and the slots of signals before and behind them
pub record Adds (names : Names) (at at' : Env) (old new : ListData) : Type 0 where
  pub count : ℕ
  pub longer : Longer (HasMemories names at) count old new
  pub fits : Fits names new at'
  pub keeps : Keeps names at at'
