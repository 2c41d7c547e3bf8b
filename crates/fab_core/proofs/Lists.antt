-- Lists by places.
use Rattle.std.proofs.Common.{◌≡◌, ℕ, ◌+◌, ◌<◌, List, [], ◌∷◌, ◌++◌, length, get_or, take, drop, arith, refl, ap, suc, zero}
use Rattle.std.specs.List.{All, remove}
use Rattle.fab_join.specs.Parts.{PartData}
use Rattle.fab_model.specs.ten_parcel.specs.declared.tenant.Tenant.{Tenant}
use Rattle.fab_model.specs.Points.{Point}
use Rattle.fab_core.specs.declared.resident.Resident.{Resident}
use Rattle.fab_core.specs.Standing.{AreStanding, AreWaiting, HasPart, IsAtRest, Stands}
pub use Rattle.fab_core.proofs.Residents.{standing-long as standing_many, waiting-long as waiting_many}

-- ---- residents that stand, by their places

pub standing_at : (j : List PartData) (rs : List Resident) (ps : List Point) (k : ℕ) (r : Resident) (p : Point) → AreStanding j rs ps → k < length rs → Stands j (get_or rs k r) (get_or ps k p)
standing_at j [] [] k r p h lt = absurd (omega arith)
standing_at j [] (q ∷ ps) k r p h lt = absurd h
standing_at j (s ∷ rs) [] k r p h lt = absurd h
standing_at j (s ∷ rs) (q ∷ ps) zero r p h lt = h.0
standing_at j (s ∷ rs) (q ∷ ps) (suc k) r p h lt = standing_at j rs ps k r p h.1 (omega arith)

pub standing_from : (j : List PartData) (rs : List Resident) (ps : List Point) → length rs ≡ length ps → ((k : ℕ) (r : Resident) (p : Point) → k < length rs → Stands j (get_or rs k r) (get_or ps k p)) → AreStanding j rs ps
standing_from j [] [] e h = tt
standing_from j [] (p ∷ ps) e h = absurd (omega arith)
standing_from j (r ∷ rs) [] e h = absurd (omega arith)
standing_from j (r ∷ rs) (p ∷ ps) e h = (h 0 r p (omega arith), standing_from j rs ps (omega arith) (λ k s q lt. h (suc k) s q (omega arith)))

-- ---- tenants that wait

pub waiting_at : (ts : List Tenant) (ps : List Point) (k : ℕ) (t : Tenant) (p : Point) → AreWaiting ts ps → k < length ts → IsAtRest (get_or ts k t) (get_or ps k p)
waiting_at [] [] k t p h lt = absurd (omega arith)
waiting_at [] (q ∷ ps) k t p h lt = absurd h
waiting_at (s ∷ ts) [] k t p h lt = absurd h
waiting_at (s ∷ ts) (q ∷ ps) zero t p h lt = h.0
waiting_at (s ∷ ts) (q ∷ ps) (suc k) t p h lt = waiting_at ts ps k t p h.1 (omega arith)

pub waiting_more : (ts : List Tenant) (ps : List Point) (t : Tenant) (p : Point) → AreWaiting ts ps → IsAtRest t p → AreWaiting (ts ++ t ∷ []) (ps ++ p ∷ [])
waiting_more [] [] t p h one = (one, tt)
waiting_more [] (q ∷ ps) t p h one = absurd h
waiting_more (s ∷ ts) [] t p h one = absurd h
waiting_more (s ∷ ts) (q ∷ ps) t p h one = (h.0, waiting_more ts ps t p h.1 one)

pub waiting_drop : (n : ℕ) (ts : List Tenant) (ps : List Point) → AreWaiting ts ps → AreWaiting (drop n ts) (drop n ps)
waiting_drop zero ts ps h = h
waiting_drop (suc n) [] [] h = tt
waiting_drop (suc n) [] (p ∷ ps) h = absurd h
waiting_drop (suc n) (t ∷ ts) [] h = absurd h
waiting_drop (suc n) (t ∷ ts) (p ∷ ps) h = waiting_drop n ts ps h.1

pub waiting_take : (n : ℕ) (ts : List Tenant) (ps : List Point) → AreWaiting ts ps → AreWaiting (take n ts) (take n ps)
waiting_take zero ts ps h = tt
waiting_take (suc n) [] [] h = tt
waiting_take (suc n) [] (p ∷ ps) h = absurd h
waiting_take (suc n) (t ∷ ts) [] h = absurd h
waiting_take (suc n) (t ∷ ts) (p ∷ ps) h = (h.0, waiting_take n ts ps h.1)

pub standing_parts : (j : List PartData) (rs : List Resident) (ps : List Point) → AreStanding j rs ps → All (HasPart j) rs
standing_parts j [] [] h k r lt = absurd (omega arith)
standing_parts j [] (q ∷ ps) h k r lt = absurd h
standing_parts j (s ∷ rs) [] h k r lt = absurd h
standing_parts j (s ∷ rs) (q ∷ ps) h zero r lt = h.0.part
standing_parts j (s ∷ rs) (q ∷ ps) h (suc k) r lt = standing_parts j rs ps h.1 k r (omega arith)

-- some point of a list that isn't empty
pub point_in : (ps : List Point) (k : ℕ) → k < length ps → Point
point_in [] k lt = absurd (omega arith)
point_in (p ∷ ps) k lt = p

pub waiting_remove : (ts : List Tenant) (ps : List Point) (k : ℕ) → AreWaiting ts ps → AreWaiting (remove ts k) (remove ps k)
waiting_remove [] [] zero h = tt
waiting_remove [] [] (suc k) h = tt
waiting_remove [] (p ∷ ps) k h = absurd h
waiting_remove (t ∷ ts) [] k h = absurd h
waiting_remove (t ∷ ts) (p ∷ ps) zero h = h.1
waiting_remove (t ∷ ts) (p ∷ ps) (suc k) h = (h.0, waiting_remove ts ps k h.1)
