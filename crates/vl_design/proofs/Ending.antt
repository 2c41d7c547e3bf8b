-- Where a run by so many events at a time ends, the run ends.
use Rattle.std.proofs.Common.{◌≡◌, ℕ, zero, suc, ◌+◌, ◌<◌, ◌≤◌, Bool, true, false, Option, Some, None, refl, sym, subst, arith}
use Rattle.std.specs.Prelude.{◌&&◌, is_none, nat_lt}
use Rattle.std.proofs.lemmas.Bool.{ltb-true, ltb-false}
use Rattle.vl_design.specs.declared.design.End.{End}
use Rattle.vl_design.specs.Queue.{Queue}
use Rattle.vl_design.specs.Alone.{Origin, Boundary, begun, first_queue, first_tick, settled, then_by, later_by, run_by, Ends, reason_at}
use Rattle.vl_design.proofs.Running.{settles_by, runs_by}
use Rattle.vl_design.proofs.Settling.{boundary_once}
use Rattle.vl_base.proofs.Booleans.{and_parts as and_true}

boundary_at : (o : Origin) (n k : ℕ) (q : Queue) → first_tick o.resume ≡ 0 → (s : Option Queue) → settled o.flat o.files n (first_queue o o.resume) ≡ s → then_by (later_by o.flat o.files n k) s ≡ Some q → Boundary o k q
boundary_at o n k q f None e h = let z : ⊥ = cc in absurd z
boundary_at o n k q f (Some b) e h =
    let x : Boundary o (k + 0) q = runs_by o n k 0 b q (begun (sym f) (settles_by o.flat o.files n (first_queue o o.resume) b e)) h in
    let z : k + 0 ≡ k = omega arith in
    rw z at x

pub boundary_by : (o : Origin) (n k : ℕ) (q : Queue) → first_tick o.resume ≡ 0 → run_by o n k ≡ Some q → Boundary o k q
boundary_by o n k q f h = boundary_at o n k q f (settled o.flat o.files n (first_queue o o.resume)) refl h

abbrev pub has_no_reason : Origin → ℕ → Option Queue → Bool
has_no_reason o k None = false
has_no_reason o k (Some q) = is_none (reason_at o.plan k q)

-- no boundary before k has a reason to end
abbrev pub none_before : Origin → ℕ → ℕ → Bool
none_before o n zero = true
none_before o n (suc k) = none_before o n k && has_no_reason o k (run_by o n k)

is_none-None : (o : Option End) → is_none o ≡ true → o ≡ None
is_none-None None e = refl
is_none-None (Some r) e = let z : ⊥ = cc in absurd z

here_none : (o : Origin) (n k : ℕ) → first_tick o.resume ≡ 0 → (s : Option Queue) → run_by o n k ≡ s → has_no_reason o k s ≡ true → (b : Queue) → Boundary o k b → reason_at o.plan k b ≡ None
here_none o n k f None e t b x = let z : ⊥ = cc in absurd z
here_none o n k f (Some q) e t b x =
    let same : b ≡ q = boundary_once x (boundary_by o n k q f e) in
    rw same (is_none-None (reason_at o.plan k q) t)

by_place : (o : Origin) (k : ℕ) (t : Bool) (j : ℕ) (b : Queue) → nat_lt j k ≡ t → j < suc k → Boundary o j b → (j < k → reason_at o.plan j b ≡ None) → ((c : Queue) → Boundary o k c → reason_at o.plan k c ≡ None) → reason_at o.plan j b ≡ None
by_place o k true j b e l x earlier here = earlier (ltb-true j k e)
by_place o k false j b e l x earlier here =
    let past : k ≤ j = ltb-false j k e in
    let same : j ≡ k = omega arith in
    rw same (here b (subst (λ i. Boundary o i b) same x))

goes_on_by : (o : Origin) (n k : ℕ) → first_tick o.resume ≡ 0 → none_before o n k ≡ true → (j : ℕ) (b : Queue) → j < k → Boundary o j b → reason_at o.plan j b ≡ None
goes_on_by o n zero f h j b l x = absurd (omega arith)
goes_on_by o n (suc k) f h j b l x =
    let both = and_true (none_before o n k) _ h in
    by_place o k (nat_lt j k) j b refl l x (λ less. goes_on_by o n k f both.0 j b less x) (here_none o n k f (run_by o n k) refl both.1)

-- the run ends at boundary k, where the run by so many events does
pub ends_by : (o : Origin) (n k : ℕ) (reason : End) (q : Queue) → first_tick o.resume ≡ 0 → run_by o n k ≡ Some q → reason_at o.plan k q ≡ Some reason → none_before o n k ≡ true → Ends o k reason q
ends_by o n k reason q f e r h = record { at = boundary_by o n k q f e; why = r; first = goes_on_by o n k f h }
