-- Calls that take a tenant out.
use Rattle.std.proofs.Common.{◌≡◌, ℕ, ◌+◌, ◌≤◌, List, [], ◌∷◌, ◌++◌, refl, subst, arith}
use Rattle.std.specs.List.{AllByRecursion}
use Rattle.fab_core.specs.fab_model.specs.Fabrics.{Fabric}
use Rattle.fab_core.specs.fab_model.specs.declared.note.Note.{Note}
use Rattle.fab_core.specs.fab_model.specs.declared.transit.Transit.{Transit}
use Rattle.fab_core.specs.fab_model.specs.Histories.{IsLegal}
use Rattle.fab_core.specs.ten_parcel.specs.Parcels.{number_of, ticks_of}
use Rattle.fab_bay.specs.declared.leaving.Found.{Found}
use Rattle.fab_bay.specs.declared.leaving.Found.TheVariants.{Here, Absent, Short}
use Rattle.fab_bay.specs.declared.leaving.Taken.{Taken}
use Rattle.fab_bay.specs.declared.noted.NotedCore.{NotedCore}
use Rattle.fab_bay.specs.Nearness.{AreNear, BeginsNone, CameWithin, IsAt, IsWithin}
use Rattle.fab_bay.specs.Refusals.{IsAway}
use Rattle.fab_bay.specs.Rounds.{IsFoundReady}
use Rattle.fab_bay.specs.Standing.{IsNoted}
use Rattle.fab_bay.specs.Taking.{IsFound}
use Rattle.fab_bay.specs.Ways.{Goes, Settles, Took, Way}
use Rattle.fab_bay.specs.Marks.{AreWhole}
use Rattle.fab_bay.proofs.Calls.{all-whole, whole, IsLike}
use Rattle.fab_bay.proofs.Near.{none-same}
use Rattle.fab_bay.proofs.Rises.{left-within, next-at, next_tick}
use Rattle.fab_bay.proofs.Rounds.{onward}
use Rattle.fab_bay.proofs.Flags.{keeps-before, keeps-same}

-- what was done before
pub found-after : (k t n : ℕ) (x y z : NotedCore) → ((out : List Transit) → Goes k n x y out out) → BeginsNone x y → IsLegal y.label.fabric y.label.capacity y.notes.items → (w : Found) → IsFoundReady k t y z w → IsFoundReady k t x z w
found-after k t n x y z g none l (Here out) f =
    (f.0, n + f.1, onward k n f.1 (n + f.1) x y z [] [] (out ∷ []) (g []) f.2 refl, keeps-before k n x y l (g []) out f.3, f.4, λ most w. f.5 most (none most w))
found-after k t n x y z g none l Absent f = absurd f
found-after k t n x y z g none l Short f = (n + f.0, onward k n f.0 (n + f.0) x y z [] [] [] (g []) f.1 refl)

pub found-label : (k t : ℕ) (x y : NotedCore) (w : Found) → IsFoundReady k t x y w → y.label ≡ x.label
found-label k t x y (Here out) f = f.2.label
found-label k t x y Absent f = absurd f
found-label k t x y Short f = f.1.label

module _ (k t : ℕ) (x b m d e : NotedCore) (s : Taken) (begins : IsLike x b) (none : b.told.items ≡ []) (settles : (out : List Transit) → Settles k m d out) (ends : IsLike d e)
    (told : s.entries.items ≡ d.told.items) (there : IsAway x.notes.items t → ⊥)
    (within : IsWithin (next_tick x.notes.items) b) (on : BeginsNone b m) (core : d.core ≡ m.core) (f : Fabric) (noted : IsNoted d f)
    (last : (added : List Note) → d.notes.items ≡ m.notes.items ++ added → AreWhole added) where
  near : (out : List Transit) → AllByRecursion (λ o. (n : ℕ) → IsAt x.notes.items (number_of o.parcel) n → ticks_of o.parcel ≤ n + 1) out → AreNear x.notes.items e.notes.items out
  near out h = record {
    inside = λ u i j before behind.
        let at = next-at x.notes.items u i before in
        let le = left-within d f noted (next_tick x.notes.items) (none-same m d core (next_tick x.notes.items) (on (next_tick x.notes.items) within)) u j
        (subst (λ (ns : List Note). IsAt ns u j) ends.notes behind) in
        omega (arith, at, le);
    out = h;
  }

  came : (out : Transit) → CameWithin b out → (n : ℕ) → IsAt x.notes.items (number_of out.parcel) n → ticks_of out.parcel ≤ n + 1
  came out h n a =
      let at = next-at x.notes.items (number_of out.parcel) n a in
      let le = h (next_tick x.notes.items) within in
      omega (arith, at, le)

  took : (n : ℕ) (out : List Transit) → Goes k n b m [] out → AllByRecursion (λ o. (i : ℕ) → IsAt x.notes.items (number_of o.parcel) i → ticks_of o.parcel ≤ i + 1) out → Took k x e s.entries.items out
  took n out g rise =
      let way : Way k n x e [] s.entries.items [] out = whole k n x b m d e s.entries.items out begins none g (settles out) ends told in
      record { cycles = n; goes = way; told = way.told; near = near out rise; whole = all-whole k n x b m d e s.entries.items out begins ends g (settles out) way last }

  pub found-by : (w : Found) → IsFoundReady k t b m w → IsFound k t x e s w
  found-by (Here out) f = (f.0, took f.1 (out ∷ []) f.2 (came out f.5, tt), keeps-same x b out begins.notes f.3, f.4)
  found-by Absent f = absurd f
  found-by Short f = (there, took f.0 [] f.1 tt)
