-- Orders that are given may be given.
use Rattle.std.proofs.Common.{◌≡◌, ℕ, zero, suc, ◌<◌, ◌≤◌, Bool, true, false, ◌&&◌, List, [], ◌∷◌, length, get_or, refl, sym, ap, ◌∙◌, arith}
use Rattle.std.specs.Prelude.{nat_le}
use Rattle.std.proofs.lemmas.Bool.Decides.{nat_tests}
use Rattle.std.proofs.lemmas.List.{get_or-map}
use Rattle.std.proofs.lemmas.List.Elements.{All-cons, All-nil}
use Rattle.ten_files.specs.vl_design.specs.declared.capacity.Cost as capacity
use Rattle.ten_files.specs.vl_design.specs.Costs.{saturated, saturated_cost}
use Rattle.ten_files.specs.vl_design.specs.Cost.{cost, Cost}
use Rattle.host_judge.specs.host_text.specs.declared.statement.Capacity.{Capacity}
use Rattle.host_judge.specs.host_text.specs.declared.script.FabricLine.{FabricLine}
use Rattle.host_judge.specs.host_text.specs.declared.script.Free.{Free}
use Rattle.host_judge.specs.host_text.specs.declared.script.Free.TheVariants as free
use Rattle.host_judge.specs.ten_core.specs.declared.origin.Origin.{Origin}
use Rattle.host_judge.specs.ten_core.specs.Tenants.{origin_of}
use Rattle.fab_orders.specs.ten_parcel.specs.Parcels.{origin_in, run_of}
use Rattle.host_report.specs.fab_model.specs.Fabrics.{within}
use Rattle.host_report.specs.fab_model.specs.declared.transit.Transit.{Transit}
use Rattle.fab_orders.specs.fab_bay.specs.declared.noted.Label.{Label}
use Rattle.fab_orders.specs.declared.outcomes.Order.{Order}
use Rattle.fab_orders.specs.declared.outcomes.Outcome.{Outcome}
use Rattle.fab_orders.specs.declared.outcomes.Start.{Start}
use Rattle.fab_orders.specs.Orders.{AreOrders, HasPlace, IsOrder}
use Rattle.fab_orders.specs.Outcomes.{IsOutcome}
use Rattle.host_judge.specs.host_form.specs.Origins as form
use Rattle.host_judge.specs.host_form.specs.Origins.{has_room}
use Rattle.host_judge.specs.host_form.specs.Orders.{tenant_of}
use Rattle.host_outcomes.specs.Given.{costs_begun, costs_of, fits, given, is_gone, no_cost, order_for, rank, wanted_by}
use Rattle.host_outcomes.proofs.Ranks.{rank-runs, running}
use Rattle.host_outcomes.proofs.Sorting.{given_by}
use Rattle.ten_files.specs.vl_design.proofs.Shared.{saturated_le}
use Rattle.ten_files.specs.vl_base.proofs.Booleans.{and_three as three}

-- ---- room

abbrev room_of : Capacity → capacity.Cost
room_of c = record { regs = c.registers; cells = c.cells; mem = c.memory }

fits-within : (c : Cost) (room : Capacity) → form.fits c room ≡ true → within (saturated_cost c) (room_of room) ≡ true
fits-within c room e =
    three (nat_le c.regs room.registers) (nat_le c.cells room.cells) (nat_le c.mem room.memory) (nat_le (saturated c.regs) room.registers) (nat_le (saturated c.cells) room.cells) (nat_le (saturated c.mem) room.memory)
    (saturated_le c.regs room.registers) (saturated_le c.cells room.cells) (saturated_le c.mem room.memory) e

-- a fabric that has room is there
room-at : (fabrics : List FabricLine) (c : Cost) (g : ℕ) → has_room fabrics c g ≡ true → (g < length fabrics) × ((d : FabricLine) → form.fits c (get_or fabrics g d).capacity ≡ true)
room-at [] c g h = let w : ⊥ = cc in absurd w
room-at (f ∷ fs) c zero h = (omega arith, λ d. h)
room-at (f ∷ fs) c (suc g) h = let q = room-at fs c g h in let n = q.0 in (omega (arith, n), q.1)

any_fabric : FabricLine
any_fabric = record { name = []; capacity = record { registers = 0; cells = 0; memory = 0 } }

abbrev HaveRooms : List FabricLine → List Label → Type 0
HaveRooms fabrics labels = (g : ℕ) (l : Label) (f : FabricLine) → g < length labels → (get_or labels g l).capacity ≡ room_of (get_or fabrics g f).capacity

module _ (labels : List Label) (starts : List Start) (fabrics : List FabricLine) (refused : List Bool) (count : length starts ≡ running refused)
    (all : length labels ≡ length fabrics) (rooms : HaveRooms fabrics labels) where
  place : (c : Cost) (g : ℕ) → has_room fabrics c g ≡ true → (g < length labels) × ((l : Label) → within (saturated_cost c) (get_or labels g l).capacity ≡ true)
  place c g h =
      let q = room-at fabrics c g h in
      let n = q.0 in
      let there : g < length labels = omega (arith, n, all) in
      (there, λ l. ap (within (saturated_cost c)) (rooms g l any_fabric there) ∙ fits-within c (get_or fabrics g any_fabric).capacity (q.1 any_fabric))

  -- ---- one order

  has-place : (o : Free) (d : Start) → rank refused (tenant_of o) < length starts → fits fabrics refused (costs_begun starts) o ≡ true
      → HasPlace labels (get_or starts (rank refused (tenant_of o)) d) (wanted_by o)
  has-place (free.Move n g) d l f =
      let e = get_or-map (λ (s : Start). cost (run_of s.transit.parcel).flat) starts (rank refused n) d no_cost l in
      place (cost (run_of (get_or starts (rank refused n) d).transit.parcel).flat) g (sym (ap (λ (c : Cost). has_room fabrics c g) e) ∙ f)
  has-place (free.Stop n) d l f = tt
  has-place (free.Save n name) d l f = tt
  has-place (free.Watch n) d l f = tt

  is-order : (o : Free) → is_gone refused o ≡ false → fits fabrics refused (costs_begun starts) o ≡ true → IsOrder labels starts (order_for refused o)
  is-order o e f =
      let r = rank-runs refused (tenant_of o) e in
      let l : rank refused (tenant_of o) < length starts = omega (arith, r, count) in
      record { tenant = l; place = λ d. has-place o d l f }

  -- ---- all

  one-more : (o : Free) (os : List Free) → AreOrders labels starts (given fabrics refused (costs_begun starts) os) → (b c : Bool) → is_gone refused o ≡ b → fits fabrics refused (costs_begun starts) o ≡ c
      → AreOrders labels starts (given_by fabrics refused (costs_begun starts) b c o os)
  one-more o os h true c e f = h
  one-more o os h false false e f = h
  one-more o os h false true e f = All-cons (IsOrder labels starts) (order_for refused o) (given fabrics refused (costs_begun starts) os) (is-order o e f) h

  pub are-orders : (os : List Free) → AreOrders labels starts (given fabrics refused (costs_begun starts) os)
  are-orders [] = All-nil (IsOrder labels starts)
  are-orders (o ∷ os) = one-more o os (are-orders os) (is_gone refused o) (fits fabrics refused (costs_begun starts) o) refl refl

-- ---- costs

same-costs : (es : List Transit) (ss : List Start) → length es ≡ length ss
    → ((t : ℕ) (d : Start) (e : Transit) → t < length ss → origin_in (get_or es t e).parcel ≡ origin_in (get_or ss t d).transit.parcel) → costs_of es ≡ costs_begun ss
same-costs [] [] n h = refl
same-costs [] (s ∷ ss) n h = absurd (omega (arith, n))
same-costs (e ∷ es) [] n h = absurd (omega (arith, n))
same-costs (e ∷ es) (s ∷ ss) n h =
    let a : cost (run_of e.parcel).flat ≡ cost (run_of s.transit.parcel).flat = ap (λ (x : Origin). cost (origin_of x).flat) (h 0 s e (omega arith)) in
    let b = same-costs es ss (omega (arith, n)) (λ t d x l. h (suc t) d x (omega (arith, l))) in
    cc

pub costs-kept : (labels : List Label) (starts : List Start) (orders : List Order) (out : Outcome) → IsOutcome labels starts orders out → costs_of out.ended.items ≡ costs_begun starts
costs-kept labels starts orders out o = same-costs out.ended.items starts o.all_ended (λ t d e l. (o.ended t d e l).origin)
