-- What holds of the states that a run begins with, and stays over each event, holds at each boundary and after each act.
use Rattle.std.proofs.Common.{ℕ, Option, Some, subst}
use Rattle.vl_design.specs.Syntax.{Task, Stm}
use Rattle.vl_design.specs.State.{State}
use Rattle.vl_design.specs.Queue.{Queue}
use Rattle.vl_design.specs.Snapshots.{Snapshot}
use Rattle.vl_design.specs.Alone.{Origin, Boundary, begun, ticked, first_queue}
use Rattle.vl_design.specs.Acts.{Point, state_at, Begins, from_nothing, from_snapshot, After, begins, acts, Before, before}
use Rattle.vl_design.proofs.Acting.{EventSteps, ReachLeads, calms_lead, wave_leads, act_leads, begun_has, after_has}
use Rattle.vl_design.proofs.Rising.{settles_lead, tick_leads}

module _ (o : Origin) (P : Stm → Type 0) (I : State → Type 0) (r : EventSteps o.flat o.files P (λ s t. I s → I t)) (first : I (first_queue o o.resume).state) where
  abbrev Stays : State → State → Type 0
  Stays s t = I s → I t

  pub boundary_lasts : {k : ℕ} {q : Queue} → Boundary o k q → I q.state
  boundary_lasts (begun e s) = (settles_lead o.flat o.files P Stays r s (begun_has o P Stays r o.resume)).leads first
  boundary_lasts (ticked {before = b} x s) = tick_leads o P Stays r x s (boundary_lasts x)

  begins_last : {s : Option Snapshot} {p : Point} → I (first_queue o s).state → Begins o s p → I (state_at p)
  begins_last h from_nothing = h
  begins_last h (from_snapshot {s = s} c) = (calms_lead o.flat o.files P Stays r c (begun_has o P Stays r (Some s))).0 h

  pub after_lasts : {c : ℕ} {p : Point} → After o c p → I (state_at p)
  after_lasts (begins b) = begins_last first b
  after_lasts (acts x f a) = (act_leads o.flat o.files P Stays r a (after_has o P Stays r x)).leads (after_lasts x)

  pub before_lasts : {c : ℕ} {task : Task} {p : Point} → Before o c task p → I (state_at p)
  before_lasts (before {p = p} task q rest from committed x m) =
      let f = wave_leads o.flat o.files P Stays r p m.left m.in_wave (after_has o P Stays r x) in
      let g = subst (ReachLeads o.flat o.files P Stays r (state_at p)) m.next f in
      g.0 (after_lasts x)
