-- Tenants at the first boundaries of their runs (own).
use Rattle.std.specs.Prelude.{◌≡◌, List, [], ◌∷◌, ⊤}
use Rattle.ten_files.specs.vl_design.specs.Alone.{first_tick}
use Rattle.fab_orders.specs.ten_parcel.specs.Parcels.{origin_in, run_of, ticks_of}
use Rattle.fab_orders.specs.declared.outcomes.Start.{Start}
use Rattle.host_judge.specs.declared.verdict.Ready.{Ready}

-- a tenant at the first boundary of its run, on its fabric
pub record IsBegun (r : Ready) (s : Start) : Type 0 where
  pub fabric : s.fabric ≡ r.fabric
  pub origin : origin_in s.transit.parcel ≡ r.origin
  pub ticks : ticks_of s.transit.parcel ≡ first_tick (run_of s.transit.parcel).resume

-- each tenant is
abbrev pub AreBegun : List Ready → List Start → Type 0
AreBegun [] [] = ⊤
AreBegun (r ∷ rs) (s ∷ ss) = IsBegun r s × AreBegun rs ss
AreBegun _ _ = ⊥
