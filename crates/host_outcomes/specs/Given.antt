-- Which orders of a script are given to tenants while they run, and the replies to all (own).
use Rattle.std.specs.Prelude.{ℕ, Bool, true, not, ◌&&◌, if◌then◌else◌, List, [], ◌∷◌, filter, length, map, slice_index_or, take}
use Rattle.ten_files.specs.vl_design.specs.Cost.{cost, Cost}
use Rattle.host_judge.specs.host_text.specs.declared.script.FabricLine.{FabricLine}
use Rattle.host_judge.specs.host_text.specs.declared.script.Free.{Free}
use Rattle.host_judge.specs.host_text.specs.declared.script.Free.TheVariants as free
use Rattle.host_judge.specs.host_text.specs.declared.block.Reply.{Reply}
use Rattle.host_judge.specs.host_text.specs.declared.block.Reply.TheVariants as reply_is
use Rattle.fab_orders.specs.ten_parcel.specs.Parcels.{run_of}
use Rattle.host_report.specs.fab_model.specs.declared.transit.Transit.{Transit}
use Rattle.fab_orders.specs.declared.outcomes.Answer.{Answer}
use Rattle.fab_orders.specs.declared.outcomes.Order.{Order}
use Rattle.fab_orders.specs.declared.outcomes.Reached.{Reached}
use Rattle.fab_orders.specs.declared.outcomes.Reached.TheVariants as reached
use Rattle.fab_orders.specs.declared.outcomes.Start.{Start}
use Rattle.fab_orders.specs.declared.outcomes.Wanted.{Wanted}
use Rattle.fab_orders.specs.declared.outcomes.Wanted.TheVariants as wanted
use Rattle.host_judge.specs.host_form.specs.Origins.{has_room}
use Rattle.host_judge.specs.host_form.specs.Orders.{tenant_of, Answered}

-- what the tenants that run cost, in the order of their numbers there
abbrev pub costs_of : List Transit → List Cost
costs_of tenants = map (λ t. cost (run_of t.parcel).flat) tenants

abbrev pub costs_begun : List Start → List Cost
costs_begun starts = map (λ s. cost (run_of s.transit.parcel).flat) starts

-- how many before the tenant of number n aren't refused: its number among those that run
abbrev pub rank : List Bool → ℕ → ℕ
rank refused n = length (filter (λ r. not r) (take n refused))

abbrev pub no_cost : Cost
no_cost = record { regs = 0; cells = 0; mem = 0 }

-- it is no move to a fabric that is too small for the tenant
abbrev pub has_place : List FabricLine → Cost → Free → Bool
has_place fabrics c (free.Move n g) = has_room fabrics c g
has_place fabrics c order = true

abbrev pub is_gone : List Bool → Free → Bool
is_gone refused order = slice_index_or refused (tenant_of order) true

abbrev pub fits : List FabricLine → List Bool → List Cost → Free → Bool
fits fabrics refused costs order = has_place fabrics (slice_index_or costs (rank refused (tenant_of order)) no_cost) order

abbrev pub wanted_by : Free → Wanted
wanted_by (free.Move n g) = wanted.Move g
wanted_by (free.Stop n) = wanted.Stop
wanted_by (free.Save n name) = wanted.Save name
wanted_by (free.Watch n) = wanted.Watch

abbrev pub order_for : List Bool → Free → Order
order_for refused order = record { tenant = rank refused (tenant_of order); wanted = wanted_by order }

-- the orders that are given: those to tenants that aren't refused, but for moves to fabrics that are too small
abbrev pub given : List FabricLine → List Bool → List Cost → List Free → List Order
given fabrics refused costs orders = map (order_for refused) (filter (λ o. not (is_gone refused o) && fits fabrics refused costs o) orders)

abbrev pub reply_for : Reached → Reply
reply_for (reached.At k) = reply_is.At k
reply_for (reached.Ended k) = reply_is.Ended k

abbrev pub with_reply : Free → Reply → Answered
with_reply order reply = record { order = order; reply = reply }

-- the orders with their replies: `refused`, `small`, or what the next answer says
abbrev pub answered : List FabricLine → List Bool → List Cost → List Free → List Answer → List Answered
answered fabrics refused costs [] answers = []
answered fabrics refused costs (o ∷ orders) answers =
    if is_gone refused o then with_reply o reply_is.Refused ∷ answered fabrics refused costs orders answers
    else if not (fits fabrics refused costs o) then with_reply o reply_is.Small ∷ answered fabrics refused costs orders answers
    else elim answers [ [] ↦ [] | a ∷ rest ↦ with_reply o (reply_for a.reached) ∷ answered fabrics refused costs orders rest ]
