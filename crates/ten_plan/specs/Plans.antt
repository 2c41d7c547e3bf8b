-- Plans as the run alone knows them (own).
use Rattle.std.specs.Prelude.{◌≡◌, ℕ, ◌≤◌, ◌<◌, Bool, true, false, ◌&&◌, ◌||◌, ◌==◌, nat_lt, List, [], ◌∷◌, map, take, drop, length, if◌then◌else◌, Option, Some, None, ⊤}
use Rattle.std.specs.List.{AllByRecursion}
use Rattle.vl_design.specs.Alone as alone
use Rattle.ten_plan.specs.declared.plan.Due.{Due}
use Rattle.ten_plan.specs.declared.plan.Due.TheVariants as due
use Rattle.ten_plan.specs.declared.plan.Errand.{Errand}
use Rattle.ten_plan.specs.declared.plan.Plan.{Plan}

abbrev pub due_of : Due → alone.Due
due_of (due.Save name) = alone.SaveAs name
due_of (due.Move fabric) = alone.Move fabric
due_of due.Stop = alone.Stop

abbrev pub errand_of : Errand → alone.Errand
errand_of e = record { tick = e.tick; due = due_of e.due }

abbrev pub plan_of : Plan → alone.Plan
plan_of p = record { budget = p.budget; errands = map errand_of p.errands }

-- ---- the order of errands

abbrev pub is_save : alone.Due → Bool
is_save (alone.SaveAs name) = true
is_save due = false

-- an errand may come before another: at an earlier tick, or, a save, at the same one
abbrev pub may_precede : alone.Errand → alone.Errand → Bool
may_precede e f = nat_lt e.tick f.tick || (e.tick == f.tick && is_save e.due)

abbrev pub AreOrdered : List alone.Errand → Type 0
AreOrdered [] = ⊤
AreOrdered (e ∷ es) = AllByRecursion (λ f. may_precede e f ≡ true) es × AreOrdered es

-- by ticks, at one tick saves first and then at most one other; so many ticks can be counted
pub record IsPlan (p : alone.Plan) : Type 0 where
  pub budget : p.budget ≤ 1000000000
  pub ordered : AreOrdered p.errands

-- ---- moves

-- the fabric to which a move goes
abbrev pub move_to : alone.Due → Option ℕ
move_to (alone.Move fabric) = Some fabric
move_to due = None

abbrev pub or_else : Option ℕ → Option ℕ → Option ℕ
or_else None others = others
or_else (Some fabric) others = Some fabric

-- the fabric to which the move goes that stands at tick k
abbrev pub move_at : ℕ → List alone.Errand → Option ℕ
move_at k [] = None
move_at k (e ∷ es) = or_else (if e.tick == k then move_to e.due else None) (move_at k es)

-- ---- how far errands are done

-- an errand is done at boundary k: it is of an earlier tick, or a save of this one
abbrev pub may_be_done : ℕ → alone.Errand → Bool
may_be_done k e = nat_lt e.tick k || (e.tick == k && is_save e.due)

-- the first n errands are done at boundary k, and none of an earlier tick is left
pub record AreDone (errands : List alone.Errand) (k n : ℕ) : Type 0 where
  pub few : n ≤ length errands
  pub done : AllByRecursion (λ e. may_be_done k e ≡ true) (take n errands)
  pub left : AllByRecursion (λ e. k ≤ e.tick) (drop n errands)

-- the first n errands are those of ticks before k
pub record AreBefore (errands : List alone.Errand) (k n : ℕ) : Type 0 where
  pub few : n ≤ length errands
  pub done : AllByRecursion (λ e. e.tick < k) (take n errands)
  pub left : AllByRecursion (λ e. k ≤ e.tick) (drop n errands)
