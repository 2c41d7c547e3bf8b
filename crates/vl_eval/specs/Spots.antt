-- What the program's spots stand for (IEEE 1364-2005, clauses 5.1.14 and 9.2).
use Rattle.vl_design.specs.Targets as targets
use Rattle.vl_design.specs.Width.{Names}
use Rattle.vl_design.specs.Sound.{IsNamed, IsWidth}
use Rattle.vl_eval.specs.declared.spot.Spot.{Spot}
use Rattle.vl_eval.specs.Updates.{low_of}

abbrev pub spot_of : Spot → targets.Spot
spot_of p = record { signal = p.signal; word = p.word; low = low_of p.low; width = p.width }

-- a spot of a signal that is there, of 1 to 128 bits
pub record IsSoundSpot (names : Names) (p : Spot) : Type 0 where
  pub named : IsNamed names p.signal
  pub width : IsWidth p.width
