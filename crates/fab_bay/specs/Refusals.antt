-- Why a tenant can't be put in line (own).
use Rattle.std.specs.Prelude.{◌≡◌, ◌≢◌, ℕ, false, true, List, []}
use Rattle.vl_design.specs.declared.capacity.Cost.{Cost}
use Rattle.fab_core.specs.fab_model.specs.Fabrics.{within}
use Rattle.fab_core.specs.fab_model.specs.declared.note.Note.{Note}
use Rattle.fab_core.specs.fab_model.specs.Deeds.{cost_of}
use Rattle.fab_core.specs.fab_model.specs.Histories.{place_of, replay, Away}
use Rattle.fab_core.specs.fab_model.specs.Tokens.{Token}
use Rattle.fab_bay.specs.declared.leaving.DeskError.{DeskError}
use Rattle.fab_bay.specs.declared.leaving.DeskError.TheVariants.{TooLarge, Doubled, Memory}

-- it isn't on the fabric by the history
abbrev pub IsAway : List Note → ℕ → Type 0
IsAway notes t = place_of t (replay [] notes) ≡ Away

-- it takes more than the fabric has; or else a tenant of its number is there; or else there is no memory
abbrev pub IsRefusal : Cost → List Note → Token → DeskError → Type 0
IsRefusal c notes t (TooLarge cost capacity) = (cost ≡ cost_of t.deed) × (capacity ≡ c) × (within (cost_of t.deed) c ≡ false)
IsRefusal c notes t (Doubled number) = (number ≡ t.tenant) × (within (cost_of t.deed) c ≡ true) × (place_of t.tenant (replay [] notes) ≢ Away)
IsRefusal c notes t Memory = (within (cost_of t.deed) c ≡ true) × IsAway notes t.tenant
