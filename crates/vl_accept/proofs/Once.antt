-- A design is accepted, or refused for one fault.
use Rattle.std.proofs.Common.{◌≡◌, ℕ, ◌<◌, true, false, List, [], refl, sym, ap, ◌∙◌, subst, arith, inl, inr}
use Rattle.std.specs.Prelude.{Any, Option, Some, None, slice_get}
use Rattle.vl_latch.specs.vl_base.specs.declared.place.Place.{Place}
use Rattle.vl_latch.specs.vl_base.proofs.Orders.{comes_before-place}
use Rattle.vl_check.specs.vl_design.specs.declared.stop.Stop.{Stop}
use Rattle.vl_check.specs.vl_design.specs.declared.stop.Stop.TheVariants.{Construct}
use Rattle.vl_check.specs.vl_design.specs.Placed.{Design, Process}
use Rattle.vl_check.specs.vl_design.specs.Plainly.{flat}
use Rattle.vl_check.specs.vl_design.specs.Stops.{is_before}
use Rattle.vl_check.specs.vl_design.specs.Syntax.{Flat}
use Rattle.vl_unroll.specs.vl_loops.specs.Limits.{first_limit}
use Rattle.vl_unroll.specs.vl_loops.specs.Placed.{unrolled_placed}
use Rattle.vl_check.specs.vl_design.specs.First.{IsFirst}
use Rattle.vl_runs.specs.vl_paths.specs.Graph.{Edge}
use Rattle.vl_check.specs.Uses.{IsUseFault}
use Rattle.vl_latch.specs.Faults.{IsPathFault}
use Rattle.cell_level.specs.Cycles.{IsOnCycle}
use Rattle.vl_accept.specs.declared.fault.Fault.{Fault}
use Rattle.vl_accept.specs.declared.fault.Fault.TheVariants.{Loop}
use Rattle.vl_accept.specs.Stopping.{fault_of}
use Rattle.vl_accept.specs.Accepted.{but_cycle, IsLowest, IsLoop, IsAccepted, IsRefused, misused, outgrown, unassigned, looped}
use Rattle.vl_accept.proofs.Telling.{use-once}

-- ---- paths

-- a fault of paths is construct 19 at its place
path-is : (d : Design) (s : Stop) → IsPathFault d s → (at : Place) × (s ≡ Construct at 19)
path-is d s (inl (i, a, there, e, (kind, partly, is))) = (a.place, is)
path-is d s (inr (i, f, there, e, (partly, is))) = (f.place, is)

path-once : (d : Design) (a b : Stop) → IsFirst (IsPathFault d) (Some a) → IsFirst (IsPathFault d) (Some b) → a ≡ b
path-once d a b h k =
    let x = path-is d a h.0 in
    let y = path-is d b k.0 in
    let place : x.0 ≡ y.0 = comes_before-place x.0 19 y.0 19 (subst (λ z. is_before (Construct x.0 19) z ≡ false) y.1 (subst (λ z. is_before z b ≡ false) x.1 (k.1 a h.0)))
    (subst (λ z. is_before (Construct y.0 19) z ≡ false) x.1 (subst (λ z. is_before z a ≡ false) y.1 (h.1 b k.0))) in
    x.1 ∙ (ap (λ z. Construct z 19) place ∙ sym y.1)

-- ---- loops

lowest-once : (d : Flat) (p q : ℕ) → IsLowest d p → IsLowest d q → p ≡ q
lowest-once d p q h k = omega (arith, λ (l : p < q). k.lowest p l h.cyclic, λ (l : q < p). h.lowest q l k.cyclic)

loop-once : (d : Design) (f g : Fault) → IsLoop d f → IsLoop d g → but_cycle f ≡ but_cycle g
loop-once d f g h k =
    let same : h.number ≡ k.number = lowest-once (flat d) h.number k.number h.lowest k.lowest in
    let there : Some h.process ≡ Some k.process = sym h.there ∙ (ap (slice_get d.processes) same ∙ k.there) in
    let process : h.process ≡ k.process = cc in
    ap but_cycle h.place ∙ (ap (λ (a : Process). Loop a.place []) process ∙ sym (ap but_cycle k.place))

-- ---- answers

no-use : {X : Type 0} (d : Design) (s : Stop) → IsFirst (IsUseFault d) None → IsFirst (IsUseFault d) (Some s) → X
no-use d s h k = absurd (h s k.0)

no-limit : {X : Type 0} (d : Design) (s : Stop) → first_limit d ≡ None → first_limit d ≡ Some s → X
no-limit d s h k = absurd cc

no-path : {X : Type 0} (d : Design) (s : Stop) → IsFirst (IsPathFault d) None → IsFirst (IsPathFault d) (Some s) → X
no-path d s h k = absurd (h s k.0)

pub accepted-or-refused : (d : Design) (f : Fault) → IsAccepted d → IsRefused d f → ⊥
accepted-or-refused d f h (misused {s} u e) = no-use d s h.uses u
accepted-or-refused d f h (outgrown {s} u l e) = no-limit d s h.limits l
accepted-or-refused d f h (unassigned {s} u l p e) = no-path (unrolled_placed d) s h.paths p
accepted-or-refused d f h (looped u l p k) = h.loops k.number k.lowest.cyclic

limit-same : (d : Design) (s t : Stop) → first_limit d ≡ Some s → first_limit d ≡ Some t → s ≡ t
limit-same d s t h k = let e : Some s ≡ Some t = sym h ∙ k in cc

-- for one fault, of which several loops may be shown
pub refused-once : (d : Design) (f g : Fault) → IsRefused d f → IsRefused d g → but_cycle f ≡ but_cycle g
refused-once d f g (misused {s} u e) (misused {s = t} v i) = ap but_cycle (e ∙ (ap fault_of (use-once d s t u v) ∙ sym i))
refused-once d f g (misused {s} u e) (outgrown v m i) = no-use d s v u
refused-once d f g (misused {s} u e) (unassigned v m q i) = no-use d s v u
refused-once d f g (misused {s} u e) (looped v m q i) = no-use d s v u
refused-once d f g (outgrown u l e) (misused {s = t} v i) = no-use d t u v
refused-once d f g (outgrown {s} u l e) (outgrown {s = t} v m i) = ap but_cycle (e ∙ (ap fault_of (limit-same d s t l m) ∙ sym i))
refused-once d f g (outgrown {s} u l e) (unassigned v m q i) = no-limit d s m l
refused-once d f g (outgrown {s} u l e) (looped v m q i) = no-limit d s m l
refused-once d f g (unassigned u l p e) (misused {s = t} v i) = no-use d t u v
refused-once d f g (unassigned u l p e) (outgrown {s = t} v m i) = no-limit d t l m
refused-once d f g (unassigned {s} u l p e) (unassigned {s = t} v m q i) = ap but_cycle (e ∙ (ap fault_of (path-once (unrolled_placed d) s t p q) ∙ sym i))
refused-once d f g (unassigned {s} u l p e) (looped v m q i) = no-path (unrolled_placed d) s q p
refused-once d f g (looped u l p k) (misused {s = t} v i) = no-use d t u v
refused-once d f g (looped u l p k) (outgrown {s = t} v m i) = no-limit d t l m
refused-once d f g (looped u l p k) (unassigned {s = t} v m q i) = no-path (unrolled_placed d) t p q
refused-once d f g (looped u l p k) (looped v m q i) = loop-once (unrolled_placed d) f g k i
