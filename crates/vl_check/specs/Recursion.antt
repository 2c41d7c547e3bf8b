-- Functions that call themselves: refused construct 20 (own; IEEE 1364-2005, clause 10.4).
use Rattle.std.specs.Prelude.{◌≡◌, ◌⊎◌, ℕ, List, [], Option, Some, None, slice_get}
use Rattle.vl_design.specs.vl_base.specs.declared.place.Place.{Place}
use Rattle.vl_design.specs.declared.stop.Stop.{Stop}
use Rattle.vl_design.specs.declared.stop.Stop.TheVariants.{Construct}
use Rattle.vl_design.specs.Placed.{Func, Design}
use Rattle.vl_design.specs.First.{In}
use Rattle.vl_sites.specs.Sites.{Site, site, Calls, sites}
use Rattle.cell_level.specs.Cycles.{Leads}

abbrev pub body_sites : Option Func → List Site
body_sites None = []
body_sites (Some f) = sites f.body

-- a call of g stands there in the body of f
abbrev pub IsCallAt : Design → ℕ → Place → ℕ → Type 0
IsCallAt d f at g = In (site at (Calls g)) (body_sites (slice_get d.funcs f))

abbrev pub IsCall : Design → ℕ → ℕ → Type 0
IsCall d f g = (at : Place) × IsCallAt d f at g

-- g is f, or leads to it
abbrev pub Reaches : (ℕ → ℕ → Type 0) → ℕ → ℕ → Type 0
Reaches E g f = (g ≡ f) ⊎ ((others : List ℕ) × Leads E g others f)

-- a call of a function that leads back to the one that it stands in, at the call
abbrev pub IsRecursion : Design → Stop → Type 0
IsRecursion d s = (f : ℕ) × (g : ℕ) × (at : Place) × IsCallAt d f at g × Reaches (IsCall d) g f × (s ≡ Construct at 20)
