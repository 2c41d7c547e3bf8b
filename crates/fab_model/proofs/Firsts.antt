-- Where runs begin.
use Rattle.std.proofs.Common.{◌≡◌, ℕ, ◌≤◌, suc, true, [], subst, sym, ◌∙◌, arith}
use Rattle.std.proofs.lemmas.Bool.Decides.{nat_tests}
use Rattle.std.specs.Prelude.{◌==◌}
use Rattle.ten_core.specs.vl_design.specs.declared.design.End.{End}
use Rattle.ten_core.specs.vl_design.specs.Alone as alone
use Rattle.ten_core.specs.vl_design.specs.Alone.{begun, ticked, first_tick, Boundary, Ends}
use Rattle.ten_core.specs.vl_design.specs.Queue.{Queue}
use Rattle.ten_core.specs.declared.origin.Origin.{Origin}
use Rattle.ten_parcel.specs.declared.parcel.Parcel.{Parcel}
use Rattle.ten_parcel.specs.Parcels.{run_of, ticks_of, IsLoaded}
use Rattle.fab_model.specs.Ends.{EndsNotBefore}
use Rattle.fab_model.specs.Stays.{chains}
use Rattle.ten_core.specs.vl_base.proofs.Numbers.{equal_self as itself}

not-before : (o : alone.Origin) (k : ℕ) (q : Queue) → Boundary o k q → first_tick o.resume ≤ k
not-before o k q (begun e s) = omega (arith, e)
not-before o (suc k) q (ticked b s) = let le = not-before o k _ b in omega (arith, le)

same-chain : (s k : ℕ) → k ≡ s → chains s [] k ≡ true
same-chain s k e = subst (λ (n : ℕ). chains s [] n ≡ true) (sym e) (itself s)

-- a run has its end at its first boundary or later
pub begins-before : (n : ℕ) (x : Origin) (p : Parcel) → IsLoaded n x p → EndsNotBefore (run_of p) (ticks_of p)
begins-before n x p l j end q e = let le = not-before (run_of p) j q e.at in let t = l.ticks in omega (arith, le, t)

pub begins-chain : (n : ℕ) (x : Origin) (p : Parcel) → IsLoaded n x p → chains (first_tick (run_of p).resume) [] (ticks_of p) ≡ true
begins-chain n x p l = same-chain (first_tick (run_of p).resume) (ticks_of p) l.ticks
