-- Rounds one after another.
use Rattle.std.proofs.Common.{◌≡◌, ℕ, ◌+◌, List, [], ◌∷◌, refl, sym, ap, ◌∙◌}
use Rattle.fab_core.specs.fab_model.specs.Fabrics.{Fabric}
use Rattle.fab_core.specs.fab_model.specs.Worlds.{run}
use Rattle.fab_core.specs.fab_model.specs.declared.transit.Transit.{Transit}
use Rattle.fab_bay.specs.declared.berth.Berth.{Berth}
use Rattle.fab_bay.specs.declared.noted.NotedCore.{NotedCore}
use Rattle.fab_bay.specs.Berths.{seats}
use Rattle.fab_bay.specs.Rounds.{IsReady, IsVacant}
use Rattle.fab_bay.specs.Standing.{CanSettle, IsNoted}
use Rattle.fab_bay.specs.Ways.{Goes, IsEmpty}
use Rattle.fab_bay.proofs.Going.{andThen}

-- ---- ready

pub ready-on : (k n : ℕ) (x y : NotedCore) → IsReady x → Goes k n x y [] [] → CanSettle y → IsReady y
ready-on k n x y r g room = record {
  fabric = (run g.events (record { fabric = r.fabric; transit = [] })).fabric;
  noted = (g.leads r.fabric [] r.noted tt).0;
  room = room;
}

pub ready-out : (k n : ℕ) (x y : NotedCore) (out : List Transit) → IsReady x → Goes k n x y [] out → CanSettle y → IsReady y
ready-out k n x y out r g room = record {
  fabric = (run g.events (record { fabric = r.fabric; transit = [] })).fabric;
  noted = (g.leads r.fabric [] r.noted tt).0;
  room = room;
}

-- ways with nobody who comes out, one after another
pub both : (k m n q : ℕ) (x y z : NotedCore) → ((out : List Transit) → Goes k m x y out out) → ((out : List Transit) → Goes k n y z out out) → m + n ≡ q → (out : List Transit) → Goes k q x z out out
both k m n q x y z g h e out = andThen k m n q x y z x.told.items y.told.items z.told.items out out out (g out) (h out) e

pub onward : (k m n q : ℕ) (x y z : NotedCore) (a b c : List Transit) → Goes k m x y a b → Goes k n y z b c → m + n ≡ q → Goes k q x z a c
onward k m n q x y z a b c g h e = andThen k m n q x y z x.told.items y.told.items z.told.items a b c g h e

-- ---- nobody

nobody : (bs ws : List Berth) → seats bs ws ≡ [] → (bs ≡ []) × (ws ≡ [])
nobody [] [] h = (refl, refl)
nobody [] (w ∷ ws) h = let z : ⊥ = cc in absurd z
nobody (b ∷ bs) ws h = let z : ⊥ = cc in absurd z

module _ (x : NotedCore) (f : Fabric) (n : IsNoted x f) where
  pub vacant-empty : IsVacant x → IsEmpty x.notes.items
  vacant-empty v = n.replayed ∙ (ap (λ (bs : List Berth). seats bs x.waiting.items) v.0 ∙ ap (λ (ws : List Berth). seats [] ws) v.1)

  pub empty-vacant : IsEmpty x.notes.items → IsVacant x
  empty-vacant e = nobody x.berths.items x.waiting.items (sym n.replayed ∙ e)
