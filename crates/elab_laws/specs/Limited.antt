-- What the limits say of the signals of a design (own).
use Rattle.std.specs.Prelude.{◌≤◌, List, length, filter, All}
use Rattle.std.specs.List.{sum_by}
use Rattle.ten_plan.specs.vl_design.specs.declared.design.Signal.{Signal}
use Rattle.ten_plan.specs.vl_design.specs.Placed.{Design}
use Rattle.vl_sound.specs.vl_flat.specs.Outcome.{is_counted, memory_words}

-- the signals that the limits count: neither clocks nor loop variables
abbrev pub counted : List Signal → List Signal
counted signals = filter (λ r. is_counted r.kind) signals

-- the signals are within the limits
pub record IsLimited (d : Design) : Type 0 where
  -- the name of each that is counted has at most 255 bytes
  pub names : All (λ r. length r.name ≤ 255) (counted d.signals)
  pub signals : length (counted d.signals) ≤ 16384
  -- of each memory, and of all together
  pub words : All (λ r. memory_words r ≤ 65536) d.signals
  pub all_words : sum_by memory_words d.signals ≤ 262144
