-- A resident after a cycle of its part, and after its part was served.
use Rattle.std.proofs.Common.{◌≡◌, ℕ, suc, ◌<◌, ◌%◌, ◌^◌, Bool, true, false, Option, Some, None, List, [], ◌∷◌, length, map, set, refl, sym, ap, ◌∙◌, arith, subst}
use Rattle.std.specs.Prelude.{◌&&◌, ◌||◌, not, if◌then◌else◌, slice_get, slice_index}
use Rattle.std.specs.Arc.{arc_value}
use Rattle.std.proofs.Math.Nat.{mod-eq_of_lt}
use Rattle.std.proofs.lemmas.List.{get_or-set_same, length-set, set-set}
use Rattle.vl_design.specs.vl_base.specs.Files.{contents}
use Rattle.vl_design.specs.Alone.{Origin}
use Rattle.vl_design.specs.Functions.{scope_of}
use Rattle.vl_design.specs.State.{State}
use Rattle.vl_design.specs.Syntax.{Task, Print, Finish, Save, Fopen, Fread, Fgetc, Feof, Fclose, ReadHex, Row}
use Rattle.vl_design.specs.Tasks.{done, memory_read}
use Rattle.vl_design.specs.Width.{Scope}
use Rattle.ten_core.specs.cell_form.specs.declared.bank.Bank.{Bank}
use Rattle.ten_core.specs.cell_form.specs.Data.{BankData}
use Rattle.ten_core.specs.cell_form.specs.Sound.{shape_of}
use Rattle.ten_core.specs.cell_form.specs.States.{table_cycled}
use Rattle.ten_core.specs.cell_form.specs.Views as cells
use Rattle.ten_core.specs.cell_form.specs.Views.{bank_of}
use Rattle.ten_core.specs.sub_nodes.specs.Code.{table_of}
use Rattle.ten_core.specs.sub_nodes.specs.Cycles.{Stage, rises, served_by}
use Rattle.ten_core.specs.sub_nodes.specs.Nodes.{Node, Run, Trap, Apply}
use Rattle.ten_core.specs.sub_nodes.specs.Stands.{at_trap}
use Rattle.fab_join.specs.Parts.{PartData, no_part, part_at, state_in, stepped, with_bank}
use Rattle.ten_core.specs.declared.origin.Origin as started
use Rattle.ten_core.specs.Runs.{after_call, after_cycle}
use Rattle.ten_core.specs.Tenants.{table_in}
use Rattle.ten_core.specs.ten_form.specs.Registers.{state_register}
use Rattle.ten_core.specs.ten_plan.specs.Held.{free_of}
use Rattle.ten_shell.specs.declared.shell.Shell.{Shell}
use Rattle.ten_shell.specs.Shells.{flat_in, is_at_boundary, is_left, left_at, left_in, run_of, IsSameTenant, IsUnchanged, MayCycle, StandsFor}
use Rattle.fab_model.specs.ten_parcel.specs.declared.tenant.Tenant.{Tenant}
use Rattle.fab_model.specs.Points.{Point, but_first, called, cycled, rests, saved, served, waits, run_in, order_in}
use Rattle.fab_model.specs.Fabrics as fabric
use Rattle.fab_model.specs.Fabrics.{can_step}
use Rattle.fab_core.specs.declared.resident.Resident.{Resident}
use Rattle.fab_core.specs.Standing.{IsPoint, Stands}
use Rattle.fab_core.proofs.Points.{may-cycle, order-is, run-by, trap-is}
use Rattle.fab_core.proofs.Same.{left-is, same-run, still-stands}
use Rattle.fab_core.proofs.Shapes.{cycled-shape}
use Rattle.fab_core.proofs.Tests.{clash, over-there, trap-low}

pub part-after : (j new : List PartData) (k : ℕ) (x : PartData) → k < length j → new ≡ set j k x → part_at new k ≡ x
part-after j new k x lt e = ap (λ ps. part_at ps k) e ∙ get_or-set_same j k x no_part lt

-- ---- a cycle

module _ (j : List PartData) (r : Resident) (holding : Bool) (p : Point) (h : Stands j r p) (can : can_step holding p ≡ true) where
  abbrev s : Shell
  s = r.tenant.shell

  abbrev q : PartData
  q = part_at j r.part

  abbrev bank : BankData
  bank = table_cycled (table_in s.engine) q.bank

  pub may : MayCycle s p.stage
  may = may-cycle p holding can s q.bank h.point

  state-is : state_in (stepped q) ≡ slice_index bank.regs state_register
  state-is = ap (λ x. slice_index (table_cycled x q.bank).regs x.state) h.part.table ∙ ap (slice_index bank.regs) h.point.stands.at.image.register

  -- the number that a step answers is that of the state that is next
  pub next-is : (n : ℕ) → n ≡ state_in (stepped q) % 2 ^ 32 → slice_index bank.regs state_register < 2 ^ 32 → n ≡ slice_index bank.regs state_register
  next-is n e lt = e ∙ ap (λ x. x % 2 ^ 32) state-is ∙ mod-eq_of_lt lt

  module _ (new : List PartData) (t : Shell) (e : new ≡ set j r.part (stepped q)) (same : IsSameTenant s t) where
    here : part_at new r.part ≡ stepped q
    here = part-after j new r.part (stepped q) h.part.there e

    bank-is : (part_at new r.part).bank ≡ bank
    bank-is = ap (λ x. x.bank) here ∙ ap (λ x. table_cycled x q.bank) h.part.table

    run-is : run_of t ≡ (run_in p)
    run-is = same-run s t same ∙ (run-by h.point)

    abbrev behind : Stage
    behind = after_cycle (run_of s) h.point.stands.order p.stage

    abbrev next : Stage
    next = after_cycle (run_in p) (order_in p) p.stage

    stage-is : behind ≡ next
    stage-is = ap (λ o. after_cycle o h.point.stands.order p.stage) (run-by h.point) ∙ ap (λ l. after_cycle (run_in p) l p.stage) (order-is s q.bank p h.point)

    module _ (w : StandsFor t bank (if t.engine.waits then p.acts else suc p.acts) behind)
        (left : is_at_boundary (flat_in s) behind ≡ true → left_in t ≡ left_at (run_of s) behind) (moved : t.moved ≡ false) where
      waits-next : t.engine.waits ≡ at_trap (table_of (run_in p).flat) next
      waits-next = w.at.waits ∙ ap (λ (o : Origin). at_trap (table_of o.flat) behind) run-is ∙ ap (at_trap (table_of (run_in p).flat)) stage-is

      stands-next : StandsFor t (part_at new r.part).bank (cycled p).acts next
      stands-next =
          subst (λ b. StandsFor t b (cycled p).acts next) (sym bank-is)
          (subst (λ x. StandsFor t bank (if x then p.acts else suc p.acts) next) waits-next
          (subst (λ i. StandsFor t bank (if t.engine.waits then p.acts else suc p.acts) i) stage-is w))

      left-next : is_at_boundary (flat_in t) next ≡ true → left_in t ≡ (cycled p).left
      left-next b =
          let there : is_at_boundary (run_in p).flat next ≡ true = ap (λ (o : Origin). is_at_boundary o.flat next) (sym run-is) ∙ b in
          left (ap (λ (o : Origin). is_at_boundary o.flat behind) (run-by h.point) ∙ ap (is_at_boundary (run_in p).flat) stage-is ∙ there)
          ∙ ap (λ (o : Origin). left_at o behind) (run-by h.point) ∙ ap (left_at (run_in p)) stage-is
          ∙ sym (ap (λ x. if x then left_at (run_in p) next else []) there)

      pub cycled-stands : Stands new (record { tenant = record { shell = t; bank = r.tenant.bank }; part = r.part }) (cycled p)
      cycled-stands =
          let size = ap length e ∙ length-set j r.part (stepped q) in
          record {
            part = record {
              there = omega (arith, size, h.part.there);
              table = ap (λ x. x.table) here ∙ h.part.table ∙ sym (ap (λ x. cells.table_of (arc_value {X = started.Origin} x).image.table) same.origin);
              shape = h.part.shape ∙ sym (ap shape_of bank-is ∙ cycled-shape s q.bank p.acts p.stage h.point.stands may.no_call);
            };
            point = record {
              number = same.number ∙ h.point.number;
              origin = ap (λ x. arc_value {X = started.Origin} x) same.origin ∙ h.point.origin;
              stands = stands-next;
              left = left-next;
              free = ap (λ xs. map free_of xs) same.free ∙ h.point.free;
              moved = moved;
              stopped = same.stopped ∙ h.point.stopped;
            };
          }

-- a cycle where it may do one
pub stepped-stands : (j : List PartData) (r : Resident) (holding : Bool) (p : Point) → can_step holding p ≡ true → Stands j r (cycled p) → Stands j r (fabric.stepped holding p)
stepped-stands j r holding p e h = subst (λ x. Stands j r (if x then cycled p else p)) (sym e) h

pub stays-stands : (j : List PartData) (r : Resident) (holding : Bool) (p : Point) → can_step holding p ≡ false → Stands j r p → Stands j r (fabric.stepped holding p)
stays-stands j r holding p e h = subst (λ x. Stands j r (if x then cycled p else p)) (sym e) h

-- ---- where a call is served or a snapshot made

if-true : {X : Type 0} (b : Bool) (x y : X) → b ≡ true → (if b then x else y) ≡ x
if-true true x y e = refl
if-true false x y e = let z : ⊥ = cc in absurd z

if-false : {X : Type 0} (b : Bool) (x y : X) → b ≡ false → (if b then x else y) ≡ y
if-false true x y e = let z : ⊥ = cc in absurd z
if-false false x y e = refl

called-is : (p : Point) → at_trap (table_of (run_in p).flat) p.stage ≡ true → served p ≡ called p
called-is p e = if-true (at_trap (table_of (run_in p).flat) p.stage) (called p) (saved p) e

saved-is : (p : Point) → at_trap (table_of (run_in p).flat) p.stage ≡ false → served p ≡ saved p
saved-is p e = if-false (at_trap (table_of (run_in p).flat) p.stage) (called p) (saved p) e

-- ---- the shell's point

module _ (s t : Shell) (a b : BankData) (p : Point) (h : IsPoint s a p) (same : IsSameTenant s t) (moved : t.moved ≡ s.moved) where
  run-kept : run_of t ≡ (run_in p)
  run-kept = same-run s t same ∙ (run-by h)

  pub called-point : at_trap (table_of (run_in p).flat) p.stage ≡ true → StandsFor t b (suc p.acts) (after_call (run_of s) p.stage)
      → (is_at_boundary (flat_in s) (after_call (run_of s) p.stage) ≡ true → left_in t ≡ left_at (run_of s) (after_call (run_of s) p.stage)) → IsPoint t b (served p)
  called-point trap w left =
      subst (IsPoint t b) (sym (called-is p trap)) (record {
        number = same.number ∙ h.number;
        origin = ap (λ x. arc_value {X = started.Origin} x) same.origin ∙ h.origin;
        stands = subst (λ (o : Origin). StandsFor t b (suc p.acts) (after_call o p.stage)) (run-by h) w;
        left = λ e.
            let there : is_at_boundary (run_in p).flat (after_call (run_in p) p.stage) ≡ true = ap (λ (o : Origin). is_at_boundary o.flat (after_call (run_in p) p.stage)) (sym run-kept) ∙ e in
            left (ap (λ (o : Origin). is_at_boundary o.flat (after_call o p.stage)) (run-by h) ∙ there)
            ∙ ap (λ (o : Origin). left_at o (after_call o p.stage)) (run-by h)
            ∙ sym (if-true (is_at_boundary (run_in p).flat (after_call (run_in p) p.stage)) (left_at (run_in p) (after_call (run_in p) p.stage)) [] there);
        free = ap (λ xs. map free_of xs) same.free ∙ h.free;
        moved = moved ∙ h.moved;
        stopped = same.stopped ∙ h.stopped;
      })

  pub saved-point : at_trap (table_of (run_in p).flat) p.stage ≡ false → StandsFor t b p.acts p.stage → (name : List ℕ) → left_in s ≡ name ∷ left_in t → IsPoint t b (served p)
  saved-point trap w name made =
      subst (IsPoint t b) (sym (saved-is p trap)) (record {
        number = same.number ∙ h.number;
        origin = ap (λ x. arc_value {X = started.Origin} x) same.origin ∙ h.origin;
        stands = w;
        left = λ e.
            let there : is_at_boundary (flat_in s) p.stage ≡ true = ap (λ (o : Origin). is_at_boundary o.flat p.stage) (sym (same-run s t same)) ∙ e in
            ap but_first (sym made ∙ h.left there);
        free = ap (λ xs. map free_of xs) same.free ∙ h.free;
        moved = moved ∙ h.moved;
        stopped = same.stopped ∙ h.stopped;
      })

-- where the call or the snapshot is done
pub served-point : (from t : Shell) (a b : BankData) → IsSameTenant from t → t.moved ≡ from.moved
    → (from.engine.waits ≡ true → (c : ℕ) (i : Stage) → StandsFor from a c i → StandsFor t b (suc c) (after_call (run_of from) i))
    → (from.engine.waits ≡ false → (c : ℕ) (i : Stage) → StandsFor from a c i → StandsFor t b c i)
    → (from.engine.waits ≡ false → (name : List ℕ) × (left_in from ≡ name ∷ left_in t))
    → (from.engine.waits ≡ true → (c : ℕ) (i : Stage) → StandsFor from a c i → is_at_boundary (flat_in from) (after_call (run_of from) i) ≡ true → left_in t ≡ left_at (run_of from) (after_call (run_of from) i))
    → (p : Point) → IsPoint from a p → IsPoint t b (served p)
served-point from t a b same moved call save made left p h = by from.engine.waits refl
  where
    by : (w : Bool) → from.engine.waits ≡ w → IsPoint t b (served p)
    by true e = called-point from t a b p h same moved (sym (trap-is from a p h) ∙ e) (call e p.acts p.stage h.stands) (left e p.acts p.stage h.stands)
    by false e = let m = made e in saved-point from t a b p h same moved (sym (trap-is from a p h) ∙ e) (save e p.acts p.stage h.stands) m.0 m.1

pub kept-point : (from t : Shell) (a b : BankData) (p : Point) → IsPoint from a p → IsUnchanged from t a b → IsPoint t b p
kept-point from t a b p h u = record {
  number = u.same.number ∙ h.number;
  origin = ap (λ x. arc_value {X = started.Origin} x) u.same.origin ∙ h.origin;
  stands = still-stands from t a b u p.acts p.stage h.stands;
  left = λ e. left-is from t a b u ∙ h.left (ap (λ (o : Origin). is_at_boundary o.flat p.stage) (sym (same-run from t u.same)) ∙ e);
  free = ap (λ xs. map free_of xs) u.same.free ∙ h.free;
  moved = u.moved ∙ h.moved;
  stopped = u.same.stopped ∙ h.stopped;
}

-- ---- its part changes places with its own bank, and back

module _ (j one two : List PartData) (r : Resident) (t : Tenant) (last : Bank) (there : r.part < length j)
    (e : one ≡ set j r.part (with_bank (part_at j r.part) (bank_of r.tenant.bank))) (f : two ≡ set one r.part (with_bank (part_at one r.part) (bank_of t.bank)))
    (own : bank_of last ≡ (part_at one r.part).bank) where
  abbrev was : PartData
  was = part_at j r.part

  one-here : part_at one r.part ≡ with_bank was (bank_of r.tenant.bank)
  one-here = part-after j one r.part (with_bank was (bank_of r.tenant.bank)) there e

  two-is : two ≡ set j r.part (with_bank was (bank_of t.bank))
  two-is =
      f ∙ ap (λ x. set one r.part (with_bank x (bank_of t.bank))) one-here
      ∙ ap (λ xs. set xs r.part (with_bank was (bank_of t.bank))) e
      ∙ set-set j r.part (with_bank was (bank_of r.tenant.bank)) (with_bank was (bank_of t.bank))

  two-here : part_at two r.part ≡ with_bank was (bank_of t.bank)
  two-here = part-after j two r.part (with_bank was (bank_of t.bank)) there two-is

  pub others-kept : two ≡ set j r.part (part_at two r.part)
  others-kept = two-is ∙ ap (set j r.part) (sym two-here)

  pub put-stands : (p p' : Point) → Stands j r p → IsSameTenant r.tenant.shell t.shell → shape_of (bank_of t.bank) ≡ shape_of was.bank → IsPoint t.shell (bank_of t.bank) p'
      → Stands two (record { tenant = record { shell = t.shell; bank = last }; part = r.part }) p'
  put-stands p p' h same shape point =
      let size = ap length two-is ∙ length-set j r.part (with_bank was (bank_of t.bank)) in
      record {
        part = record {
          there = omega (arith, size, there);
          table = ap (λ x. x.table) two-here ∙ h.part.table ∙ sym (ap (λ x. cells.table_of (arc_value {X = started.Origin} x).image.table) same.origin);
          shape = ap shape_of (own ∙ ap (λ x. x.bank) one-here) ∙ h.part.shape ∙ sym (ap (λ x. shape_of x.bank) two-here ∙ shape);
        };
        point = subst (λ x. IsPoint t.shell x.bank p') (sym two-here) point;
      }
