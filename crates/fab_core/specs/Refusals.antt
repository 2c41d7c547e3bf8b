-- Why a tenant can't arrive at a fabric (own).
use Rattle.std.specs.Prelude.{◌≡◌, false, true}
use Rattle.fab_model.specs.Points.{cost_of, Point}
use Rattle.fab_model.specs.Fabrics.{Fabric, has, within}
use Rattle.fab_core.specs.declared.cores.CoreError.{CoreError}
use Rattle.fab_core.specs.declared.cores.CoreError.TheVariants.{TooLarge, Doubled, Memory}

-- it takes more than the fabric has; or else a tenant of its number is there; or else there is no memory
abbrev pub IsRefusal : Fabric → Point → CoreError → Type 0
IsRefusal f p (TooLarge cost capacity) = (cost ≡ cost_of p) × (capacity ≡ f.capacity) × (within (cost_of p) f.capacity ≡ false)
IsRefusal f p (Doubled number) = (number ≡ p.number) × (within (cost_of p) f.capacity ≡ true) × (has p.number f ≡ true)
IsRefusal f p Memory = (within (cost_of p) f.capacity ≡ true) × (has p.number f ≡ false)
