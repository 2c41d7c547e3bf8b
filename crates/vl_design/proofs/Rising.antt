-- What holds between the states before and after each event holds between two boundaries; so the count only rises.
use Rattle.std.proofs.Common.{◌≡◌, ℕ, ◌≤◌, ◌<◌, nat_le, Bool, true, false, List, [], ◌∷◌, Option, Some, None, refl, subst, arith}
use Rattle.std.specs.Prelude.{⊤, All, if◌then◌else◌}
use Rattle.std.proofs.lemmas.List.Elements.{All-nil, All-head, All-tail}
use Rattle.std.proofs.lemmas.Bool.{leb-true, leb-false}
use Rattle.vl_base.specs.declared.files.File.{File}
use Rattle.vl_design.specs.Syntax.{Stm, Proc, Flat}
use Rattle.vl_design.specs.State.{State}
use Rattle.vl_design.specs.Functions.{scope_of}
use Rattle.vl_design.specs.Queue.{Queue, Phase, Wave, Ended, Updated, next_event, next_pending, next_phase, first_pending}
use Rattle.vl_design.specs.Alone.{Origin, Settles, rests, goes, Boundary, begun, ticked, risen}
use Rattle.vl_design.specs.Laws.{Grows}
use Rattle.vl_design.proofs.Running.{some_is}
use Rattle.vl_design.proofs.Settling.{boundary_once, at_first}
use Rattle.vl_design.proofs.Counting.{call_counts, exec_counts}
use Rattle.vl_design.proofs.Acting.{left_of, EventSteps, any_parts, Has, pending_has, evaluated_has, risen_leads, begun_has, events_grow}

module _ (d : Flat) (files : List File) (P : Stm → Type 0) (R : State → State → Type 0) (r : EventSteps d files P R) where
  abbrev Kept : Queue → Type 0
  Kept q = Has d files P R r q

  pub record Leads (q z : Queue) : Type 0 where
    pub leads : R q.state z.state
    pub has : Kept z

  phase_leads : (q z : Queue) (phase : Phase) (ahead : List (List Proc)) → q.ahead ≡ ahead → Kept q → next_phase d files q phase ahead ≡ Some z → Leads q z
  phase_leads q z (Wave ps) ahead a k h = let x : ⊥ = cc in absurd x
  phase_leads q z Ended ahead a k h =
      subst (Leads q) (some_is h) (record { leads = r.next _ _ _ (r.updates q.state) (r.counts _); has = record { left = All-nil (λ (p : Proc). P p.body); ahead = k.ahead } })
  phase_leads q z Updated [] a k h = let x : ⊥ = cc in absurd x
  phase_leads q z Updated (w ∷ ws) a k h =
      let v = subst (All (All (λ (p : Proc). P p.body))) a k.ahead in
      subst (Leads q) (some_is h) (record { leads = r.same q.state; has = record { left = All-head (All (λ (p : Proc). P p.body)) w ws v; ahead = All-tail (All (λ (p : Proc). P p.body)) w ws v } })

  pending_leads : (q z : Queue) (o : Option Proc) → first_pending d.procs q.pending ≡ o → Kept q → next_pending d files q o ≡ Some z → Leads q z
  pending_leads q z None e k h = phase_leads q z q.phase q.ahead refl k h
  pending_leads q z (Some p) e k h =
      subst (Leads q) (some_is h) (record { leads = r.execs p.body (pending_has d files P R r d.procs q.pending p r.procs e) q.state; has = evaluated_has d files P R r q _ refl refl k })

  event_leads : (q z : Queue) (phase : Phase) → q.phase ≡ phase → Kept q → next_event d files q phase ≡ Some z → Leads q z
  event_leads q z (Wave []) e k h = subst (Leads q) (some_is h) (record { leads = r.counts q.state; has = record { left = All-nil (λ (p : Proc). P p.body); ahead = k.ahead } })
  event_leads q z (Wave (p ∷ ps)) e k h =
      let v : All (λ (x : Proc). P x.body) (p ∷ ps) = subst (λ x. All (λ (x : Proc). P x.body) (left_of x)) e k.left in
      subst (Leads q) (some_is h) (record {
        leads = r.execs p.body (All-head (λ (x : Proc). P x.body) p ps v) q.state;
        has = record { left = All-tail (λ (x : Proc). P x.body) p ps v; ahead = k.ahead };
      })
  event_leads q z Ended e k h = pending_leads q z (first_pending d.procs q.pending) refl k h
  event_leads q z Updated e k h = pending_leads q z (first_pending d.procs q.pending) refl k h

  next_leads : (q z : Queue) (f : Bool) → Kept q → (if f then None else next_event d files q q.phase) ≡ Some z → Leads q z
  next_leads q z true k h = let x : ⊥ = cc in absurd x
  next_leads q z false k h = event_leads q z q.phase refl k h

  pub settles_lead : {q z : Queue} → Settles d files q z → Kept q → Leads q z
  settles_lead {q} (rests e) k = record { leads = r.same q.state; has = k }
  settles_lead {q} (goes {r = x} e f) k =
      let y = next_leads q x q.state.finished k e in
      let z = settles_lead f y.has in
      record { leads = r.next _ _ _ y.leads z.leads; has = z.has }

module _ (o : Origin) (P : Stm → Type 0) (R : State → State → Type 0) (r : EventSteps o.flat o.files P R) where
  pub boundary_has : {k : ℕ} {q : Queue} → Boundary o k q → Has o.flat o.files P R r q
  boundary_has (begun e s) = (settles_lead o.flat o.files P R r s (begun_has o P R r o.resume)).has
  boundary_has (ticked {before = b} p s) = (settles_lead o.flat o.files P R r s (risen_leads o.flat o.files P R r b (boundary_has p)).1).has

  same_boundary : {j k : ℕ} {a b : Queue} → j ≡ k → Boundary o j a → Boundary o k b → R a.state b.state
  same_boundary {j} {k} {a} {b} e x y =
      let z : a ≡ b = boundary_once (subst (λ i. Boundary o i a) e x) y in
      subst (λ q. R a.state q.state) z (r.same a.state)

  pub tick_leads : {k : ℕ} {a b : Queue} → Boundary o k a → Settles o.flat o.files (risen o.flat a) b → R a.state b.state
  tick_leads {k} {a} x s =
      let y = risen_leads o.flat o.files P R r a (boundary_has x) in
      r.next _ _ _ y.0 (settles_lead o.flat o.files P R r s y.1).leads

  pub boundaries_lead : {j k : ℕ} {a b : Queue} → Boundary o j a → Boundary o k b → j ≤ k → R a.state b.state
  boundaries_lead x (begun e s) h = same_boundary (omega (arith, e, at_first x)) x (begun e s)
  boundaries_lead {j} {k} {a} {b} x (ticked {k = i} {before = c} p s) h = at (nat_le j i) refl (λ g. boundaries_lead x p g)
    where
      at : (t : Bool) → nat_le j i ≡ t → (j ≤ i → R a.state c.state) → R a.state b.state
      at true e f = r.next _ _ _ (f (leb-true j i e)) (tick_leads p s)
      at false e f = let g : i < j = leb-false j i e in same_boundary (omega arith) x (ticked p s)

events_count : (d : Flat) (files : List File) → EventSteps d files (λ a. ⊤) (λ s t. s.count ≤ t.count)
events_count d files = record {
  kind = any_parts;
  procs = λ i p l. tt;
  same = λ s. omega arith;
  next = λ a b c f g. omega arith;
  execs = λ a h. exec_counts (scope_of d files) a;
  counts = λ s. omega arith;
  calls = λ task h. call_counts (scope_of d files) task;
  updates = λ s. omega arith;
  rises = λ s. omega arith;
}

pub boundaries_count : {o : Origin} {j k : ℕ} {a b : Queue} → Boundary o j a → Boundary o k b → j ≤ k → a.state.count ≤ b.state.count
boundaries_count {o} x y h = boundaries_lead o (λ a. ⊤) (λ s t. s.count ≤ t.count) (events_count o.flat o.files) x y h

-- what is printed at a boundary is printed at each later one
pub boundaries_grow : {o : Origin} {j k : ℕ} {a b : Queue} → Boundary o j a → Boundary o k b → j ≤ k → Grows a.state b.state
boundaries_grow {o} x y h = boundaries_lead o (λ a. ⊤) Grows (events_grow o.flat o.files) x y h
