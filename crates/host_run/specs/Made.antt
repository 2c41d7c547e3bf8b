-- Labels and tenants as they are made, each by itself (own).
use Rattle.std.specs.Prelude.{◌≡◌, ℕ, suc, ◌≤◌, false, List, [], ◌∷◌, length, ◌<◌, slice_index_or, Some, None, ⊤}
use Rattle.host_judge.specs.ten_core.specs.declared.origin.Origin.{Origin}
use Rattle.fab_rounds.specs.ten_parcel.specs.Parcels.{IsLoaded}
use Rattle.host_report.specs.fab_model.specs.Origins.{Origins}
use Rattle.fab_rounds.specs.fab_bay.specs.declared.noted.Label.{Label}
use Rattle.fab_rounds.specs.fab_orders.specs.declared.outcomes.Start.{Start}

-- these are named
abbrev pub Names : List Origin → Origins → Type 0
Names os None = ⊥
Names os (Some all) = all.value.items ≡ os

-- the label of fabric i, where tenants start from these
pub record IsLabelOf (os : List Origin) (i : ℕ) (l : Label) : Type 0 where
  pub fabric : l.fabric ≡ i
  pub tenants : length os ≤ l.tenants
  pub some : 1 ≤ l.tenants
  pub any_puts : l.any_puts ≡ false
  pub origins : Names os l.origins

abbrev pub AreLabelsOf : List Origin → List Label → Type 0
AreLabelsOf os labels = (i : ℕ) (d : Label) → i < length labels → IsLabelOf os i (slice_index_or labels i d)

-- tenant n as it is loaded, on fabric g, from this origin
pub record IsLoadedOn (n g : ℕ) (o : Origin) (s : Start) : Type 0 where
  pub fabric : s.fabric ≡ g
  pub loaded : IsLoaded n o s.transit.parcel
  pub stays : s.transit.stays.items ≡ []

-- each tenant from n on, on the fabric and from the origin beside
abbrev pub AreLoadedOn : ℕ → List ℕ → List Origin → List Start → Type 0
AreLoadedOn n [] [] [] = ⊤
AreLoadedOn n (g ∷ gs) (o ∷ os) (s ∷ ss) = IsLoadedOn n g o s × AreLoadedOn (suc n) gs os ss
AreLoadedOn n _ _ _ = ⊥
