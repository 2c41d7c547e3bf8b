-- A run settles in one state, is in one state at each boundary, and ends once.
use Rattle.std.proofs.Common.{◌≡◌, ℕ, ◌<◌, ◌≤◌, List, Some, refl, sym, subst, arith}
use Rattle.vl_base.specs.declared.files.File.{File}
use Rattle.vl_design.specs.declared.design.End.{End}
use Rattle.vl_design.specs.Syntax.{Flat}
use Rattle.vl_design.specs.Queue.{Queue}
use Rattle.vl_design.specs.Alone.{Origin, Settles, rests, goes, Boundary, begun, ticked, first_tick, risen, Ends, reason_at}

pub settles_once : {d : Flat} {files : List File} {q a b : Queue} → Settles d files q a → Settles d files q b → a ≡ b
settles_once (rests e) (rests f) = refl
settles_once (rests e) (goes f s) = cc
settles_once (goes e r) (rests f) = cc
settles_once {d} {files} {q} {a} {b} (goes {r = x} e r) (goes {r = y} f s) =
    let same : x ≡ y = cc in
    settles_once r (subst (λ z. Settles d files z b) (sym same) s)

-- no boundary comes before the first
pub at_first : {o : Origin} {k : ℕ} {a : Queue} → Boundary o k a → first_tick o.resume ≤ k
at_first (begun e r) = omega (arith, e)
at_first (ticked p r) = omega (arith, at_first p)

pub boundary_once : {o : Origin} {k : ℕ} {a b : Queue} → Boundary o k a → Boundary o k b → a ≡ b
boundary_once (begun e r) (begun f s) = settles_once r s
boundary_once (begun e r) (ticked q s) = absurd (omega (arith, e, at_first q))
boundary_once (ticked p r) (begun f s) = absurd (omega (arith, f, at_first p))
boundary_once {o} {k} {a} {b} (ticked {before = x} p r) (ticked {before = y} q s) =
    let same : x ≡ y = boundary_once p q in
    settles_once r (subst (λ z. Settles o.flat o.files (risen o.flat z) b) (sym same) s)

-- the first of two ends can't come before the second
pub not_before : {o : Origin} {j k : ℕ} {r s : End} {a b : Queue} → Ends o j r a → Ends o k s b → j < k → ⊥
not_before {a = a} e f h = let none = f.first _ a h e.at in let why = e.why in cc

pub ends_once : (o : Origin) (j k : ℕ) (r s : End) (a b : Queue) → Ends o j r a → Ends o k s b → (j ≡ k) × (r ≡ s) × (a ≡ b)
ends_once o j k r s a b e f =
    let left : j < k → ⊥ = not_before e f in
    let right : k < j → ⊥ = not_before f e in
    let same : j ≡ k = omega (arith, left, right) in
    let at : a ≡ b = boundary_once e.at (subst (λ i. Boundary o i b) (sym same) f.at) in
    let why : reason_at o.plan k b ≡ Some r = rw (← same, ← at) e.why in
    (same, cc (why, f.why), at)
