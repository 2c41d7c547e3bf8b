use Rattle.std.proofs.Common.{◌≡◌, ◌+◌, true, false, sym, ap, ◌∙◌, refl, subst}
use Rattle.std.specs.Prelude.{slice_get}
use Rattle.std.specs.Arc.{arc_value}
use Rattle.trap_runtime.specs.cell_form.specs.States.{table_cycled}
use Rattle.ten_core.proofs.Cycling.{counted-more, counted-same, counted_by, stepped-at}
use Rattle.ten_core.specs.Runs.{after_cycle, IsAt}
use Rattle.ten_core.specs.Tenants.{states_of, table_in, tenant_of}
use Rattle.ten_core.specs.Traps.{has_trap}
use Rattle.ten_core.specs.declared.engine.Engine.{Engine}
use Rattle.ten_core.specs.declared.origin.Origin.{Origin}
use Rattle.ten_core.proofs.engine.Engine.stepped.Goals as goal
use Rattle.ten_core.proofs.engine.Engine.stepped.Goals.{then-at_boundary, else-at_boundary}

pub returns-then-not-self-clause-at : goal.returns-then-not-self-clause-at
returns-then-not-self-clause-at c b o order n i is tame at =
    let e = c.args.self.now in
    let t = tenant_of e b in
    let then : Engine → Type 0 = λ s. IsAt o order (tenant_of (record s { cycles = s.cycles + 1; next = c.args.next; waits = c.has_call-self.result }) (table_cycled (table_in e) b))
    (counted_by c.has_call-self.result n) (after_cycle o order i) in
    let law = c.a_cycle_of_states_is_one_of_nodes.ensures in
    let up = c.at_boundary.ensures b o order n i at in
    let waits : (s : Engine) → c.if-at_boundary.self ≡ s → arc_value s.origin ≡ arc_value e.origin → c.has_call-self.result ≡ has_trap (slice_get (states_of t.image) c.args.next) =
    λ s is same.
    c.has_call-self.ensures
    ∙ ap (λ (x : Origin). has_trap (slice_get (states_of x.image) c.args.next)) (c.deref.ensures ∙ (ap (λ (s : Engine). arc_value s.origin) is ∙ same))
    in
    elim c.if-at_boundary.branch [
      | then-at_boundary w ↦
          subst then (sym w.self-is)
          (stepped-at o order t n i at tame c.requires.no_call c.requires.goes_on law c.requires.ticks c.args.next true c.has_call-self.result (t.cycles + 1) (t.ticks + 1) _
          is (sym w.if-at_boundary.true ∙ up) (waits _ w.self-is refl) (counted-more c.has_call-self.result t.cycles c.if-not-self.true) refl (cc))
      | else-at_boundary w ↦
          subst then (sym w.self-is)
          (stepped-at o order t n i at tame c.requires.no_call c.requires.goes_on law c.requires.ticks c.args.next false c.has_call-self.result (t.cycles + 1) t.ticks t.asked
          is (sym w.if-at_boundary.false ∙ up) (waits _ w.self-is refl) (counted-more c.has_call-self.result t.cycles c.if-not-self.true) refl refl)
    ]

pub returns-else-not-self-clause-at : goal.returns-else-not-self-clause-at
returns-else-not-self-clause-at c b o order n i is tame at =
    let e = c.args.self.now in
    let t = tenant_of e b in
    let then : Engine → Type 0 = λ s. IsAt o order (tenant_of (record s { cycles = s.cycles; next = c.args.next; waits = c.has_call-self.result }) (table_cycled (table_in e) b))
    (counted_by c.has_call-self.result n) (after_cycle o order i) in
    let law = c.a_cycle_of_states_is_one_of_nodes.ensures in
    let up = c.at_boundary.ensures b o order n i at in
    let waits : (s : Engine) → c.if-at_boundary.self ≡ s → arc_value s.origin ≡ arc_value e.origin → c.has_call-self.result ≡ has_trap (slice_get (states_of t.image) c.args.next) =
    λ s is same.
    c.has_call-self.ensures
    ∙ ap (λ (x : Origin). has_trap (slice_get (states_of x.image) c.args.next)) (c.deref.ensures ∙ (ap (λ (s : Engine). arc_value s.origin) is ∙ same))
    in
    elim c.if-at_boundary.branch [
      | then-at_boundary w ↦
          subst then (sym w.self-is)
          (stepped-at o order t n i at tame c.requires.no_call c.requires.goes_on law c.requires.ticks c.args.next true c.has_call-self.result t.cycles (t.ticks + 1) _
          is (sym w.if-at_boundary.true ∙ up) (waits _ w.self-is refl) (counted-same c.has_call-self.result t.cycles c.if-not-self.false) refl (cc))
      | else-at_boundary w ↦
          subst then (sym w.self-is)
          (stepped-at o order t n i at tame c.requires.no_call c.requires.goes_on law c.requires.ticks c.args.next false c.has_call-self.result t.cycles t.ticks t.asked
          is (sym w.if-at_boundary.false ∙ up) (waits _ w.self-is refl) (counted-same c.has_call-self.result t.cycles c.if-not-self.false) refl refl)
    ]
