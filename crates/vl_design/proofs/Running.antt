-- A run by so many events at a time is the run.
use Rattle.std.proofs.Common.{◌≡◌, ℕ, zero, suc, ◌+◌, List, Option, Some, None, refl, sym, subst, ap, arith}
use Rattle.vl_base.specs.declared.files.File.{File}
use Rattle.vl_design.specs.Syntax.{Flat}
use Rattle.vl_design.specs.Queue.{Queue, next}
use Rattle.vl_design.specs.Alone.{Origin, Settles, Boundary, first_queue, first_tick, risen, settled, settled_by, then_by, later_by, run_by, Shows, shown}

pub some_is : {A : Type 0} {x y : A} → ◌≡◌ {A = Option A} (Some x) (Some y) → x ≡ y
some_is h = cc

settles_at : (d : Flat) (files : List File) (q r : Queue) (go : Queue → Option Queue) → ((s : Queue) → go s ≡ Some r → Settles d files s r) → (o : Option Queue) → next d files q ≡ o → settled_by q go o ≡ Some r → Settles d files q r
settles_at d files q r go f None e k = subst (λ z. Settles d files q z) (some_is k) (Settles.rests e)
settles_at d files q r go f (Some s) e k = Settles.goes e (f s k)

pub settles_by : (d : Flat) (files : List File) (n : ℕ) (q r : Queue) → settled d files n q ≡ Some r → Settles d files q r
settles_by d files zero q r h = let z : ⊥ = cc in absurd z
settles_by d files (suc n) q r h = settles_at d files q r (settled d files n) (λ s. settles_by d files n s r) (next d files q) refl h

ticks_at : (o : Origin) (n k t : ℕ) (b q : Queue) → Boundary o t b → ((r : Queue) → Boundary o (suc t) r → later_by o.flat o.files n k r ≡ Some q → Boundary o (k + suc t) q)
    → (s : Option Queue) → settled o.flat o.files n (risen o.flat b) ≡ s → then_by (later_by o.flat o.files n k) s ≡ Some q → Boundary o (suc k + t) q
ticks_at o n k t b q x f None e h = let z : ⊥ = cc in absurd z
ticks_at o n k t b q x f (Some r) e h =
    let y : Boundary o (suc t) r = Boundary.ticked x (settles_by o.flat o.files n (risen o.flat b) r e) in
    let z : Boundary o (k + suc t) q = f r y h in
    let i : suc k + t ≡ k + suc t = omega arith in
    rw i z

pub runs_by : (o : Origin) (n k t : ℕ) (b q : Queue) → Boundary o t b → later_by o.flat o.files n k b ≡ Some q → Boundary o (k + t) q
runs_by o n zero t b q x h = let e : zero + t ≡ t = omega arith in let y : Boundary o t q = subst (λ z. Boundary o t z) (some_is h) x in rw e y
runs_by o n (suc k) t b q x h = ticks_at o n k t b q x (λ r y. runs_by o n k (suc t) r q y) (settled o.flat o.files n (risen o.flat b)) refl h

shows_at : (o : Origin) (n k t : ℕ) (bytes : List ℕ) (count : ℕ) → first_tick o.resume ≡ t → (s : Option Queue) → settled o.flat o.files n (first_queue o o.resume) ≡ s → (r : Option Queue) → then_by (later_by o.flat o.files n k) s ≡ r → shown r ≡ Some (bytes, count) → Shows o (k + t) bytes count
shows_at o n k t bytes count f s e None i h = let z : ⊥ = cc in absurd z
shows_at o n k t bytes count f None e (Some q) i h = let z : ⊥ = cc in absurd z
shows_at o n k t bytes count f (Some b) e (Some q) i h =
    let y : Boundary o t b = Boundary.begun (sym f) (settles_by o.flat o.files n (first_queue o o.resume) b e) in
    (q, runs_by o n k t b q y i, ap (λ p. p.0) (some_is h), ap (λ p. p.1) (some_is h))

-- a run from nothing shows what it shows by so many events at a time
pub shows_by : (o : Origin) (n k : ℕ) (bytes : List ℕ) (count : ℕ) → first_tick o.resume ≡ 0 → shown (run_by o n k) ≡ Some (bytes, count) → Shows o k bytes count
shows_by o n k bytes count f h =
    let x : Shows o (k + 0) bytes count = shows_at o n k 0 bytes count f (settled o.flat o.files n (first_queue o o.resume)) refl (run_by o n k) refl h in
    let e : k + 0 ≡ k = omega arith in
    rw e at x
