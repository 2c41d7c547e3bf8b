-- What each stage says of the whole.
use Rattle.std.proofs.Common.{◌≡◌, refl, sym, ap, ◌∙◌, subst, inl, inr, Result, Ok, Err}
use Rattle.std.specs.Prelude.{◌⊎◌, Option, Some, None, ⊤}
use Rattle.vl_check.specs.vl_design.specs.declared.design.Design.{Design}
use Rattle.vl_check.specs.vl_design.specs.declared.stop.Stop.{Stop}
use Rattle.vl_check.specs.vl_design.specs.declared.stop.Stop.TheVariants as stop
use Rattle.vl_check.specs.vl_design.specs.Placed as p
use Rattle.vl_check.specs.vl_design.specs.Plainly.{flat}
use Rattle.vl_check.specs.vl_design.specs.Seen.{placed}
use Rattle.vl_unroll.specs.vl_loops.specs.Limits.{first_limit}
use Rattle.vl_unroll.specs.vl_loops.specs.Placed.{unrolled_placed}
use Rattle.vl_check.specs.vl_design.specs.First.{IsFirst}
use Rattle.vl_check.specs.Uses.{IsUseFault}
use Rattle.vl_latch.specs.Faults.{IsPathFault}
use Rattle.vl_unroll.specs.Outcome.{Unrolls}
use Rattle.vl_accept.specs.declared.accept.Accepted.{Accepted}
use Rattle.vl_accept.specs.declared.fault.Fault.{Fault}
use Rattle.vl_accept.specs.declared.fault.Fault.TheVariants.{Construct, Limit, Loop, Memory}
use Rattle.vl_accept.specs.Stopping.{fault_of, Passes, Judges}
use Rattle.vl_accept.specs.Accepted.{HasNoLoop, IsLoop, IsAccepted, IsRefused, misused, outgrown, unassigned, looped, Stands, Accepts}
use Rattle.vl_accept.specs.Orders.{IsUnassigned, Settles}

-- ---- one stage

pub judges : {T : Type 0} (P : Option Stop → Type 0) (found : Option Stop) (r : Result T Fault) → P found → Passes found r → Judges P r
judges P found (Ok v) h e = subst P e h
judges P None (Err f) h e = absurd e
judges P (Some s) (Err Memory) h e = tt
judges P (Some s) (Err (Construct at n)) h e = (s, h, e)
judges P (Some s) (Err (Limit at n)) h e = (s, h, e)
judges P (Some s) (Err (Loop at cycle)) h e = (s, h, e)

-- ---- the whole

pub accepts-uses : (T : Type 0) (d : p.Design) (f : Fault) → Judges {T = T} (IsFirst (IsUseFault d)) (Err f) → Accepts d (Err f)
accepts-uses T d Memory h = tt
accepts-uses T d (Construct at n) h = let (s, first, e) = h in misused first e
accepts-uses T d (Limit at n) h = let (s, first, e) = h in misused first e
accepts-uses T d (Loop at cycle) h = let (s, first, e) = h in misused first e

pub accepts-limit : (d : p.Design) (s : Stop) (f : Fault) → IsFirst (IsUseFault d) None → Unrolls d (Err s) → f ≡ fault_of s → Accepts d (Err f)
accepts-limit d stop.Memory f h k e = subst (λ z. Accepts d (Err z)) (sym e) tt
accepts-limit d (stop.Construct at n) f h k e = subst (λ z. Accepts d (Err z)) (sym e) (outgrown h k refl)
accepts-limit d (stop.Limit at n) f h k e = subst (λ z. Accepts d (Err z)) (sym e) (outgrown h k refl)

module _ (d : p.Design) (uses : IsFirst (IsUseFault d) None) (limits : first_limit d ≡ None) where
  refused : (f : Fault) → (IsUnassigned (unrolled_placed d) f ⊎ (IsFirst (IsPathFault (unrolled_placed d)) None × IsLoop (unrolled_placed d) f)) → IsRefused d f
  refused f (inl (s, first, e)) = unassigned uses limits first e
  refused f (inr (first, loop)) = looped uses limits first loop

  pub accepts-settled : (u : p.Design) (r : Result Accepted Fault) → u ≡ unrolled_placed d → Settles u r → Accepts d r
  accepts-settled u (Ok a) e h =
      let (paths, loops, is, order) = subst (λ z. Settles z (Ok a)) e h in
      record { accepted = record { uses = uses; limits = limits; paths = paths; loops = loops }; design = is; order = order }
  accepts-settled u (Err Memory) e h = tt
  accepts-settled u (Err (Construct at n)) e h = refused (Construct at n) (subst (λ z. Settles z (Err (Construct at n))) e h)
  accepts-settled u (Err (Limit at n)) e h = refused (Limit at n) (subst (λ z. Settles z (Err (Limit at n))) e h)
  accepts-settled u (Err (Loop at cycle)) e h = refused (Loop at cycle) (subst (λ z. Settles z (Err (Loop at cycle))) e h)
