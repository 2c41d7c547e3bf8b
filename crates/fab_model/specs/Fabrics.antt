-- Fabrics: residents and a line of waiting tenants, and their events (own).
use Rattle.std.specs.Prelude.{◌≡◌, ℕ, suc, ◌+◌, nat_le, nat_lt, ◌==◌, not, ◌&&◌, ◌||◌, Bool, true, false, List, [], ◌∷◌, ◌++◌, map, take, drop, if◌then◌else◌, is_some, Option, Some, None, ⊤}
use Rattle.ten_core.specs.vl_design.specs.declared.capacity.Cost.{Cost}
use Rattle.fab_model.specs.Points.{Point, cost_of, cycled, due, rests, served, waits}

pub record Fabric : Type 0 where
  pub capacity : Cost
  -- the residents in order, and the tenants that wait to join them, first in, first out
  pub residents : List Point
  pub line : List Point
  -- no resident starts another tick
  pub holding : Bool

-- ---- who is where

abbrev pub is_of : ℕ → Point → Bool
is_of t p = p.number == t

-- the first of this number
abbrev pub first_of : ℕ → List Point → Option Point
first_of t [] = None
first_of t (p ∷ ps) = if is_of t p then Some p else first_of t ps

-- the first of this number changed, and all without it
abbrev pub changed : ℕ → (Point → Point) → List Point → List Point
changed t f [] = []
changed t f (p ∷ ps) = if is_of t p then f p ∷ ps else p ∷ changed t f ps

abbrev pub without : ℕ → List Point → List Point
without t [] = []
without t (p ∷ ps) = if is_of t p then ps else p ∷ without t ps

-- is a resident or in line
abbrev pub has : ℕ → Fabric → Bool
has t f = is_some (first_of t f.residents) || is_some (first_of t f.line)

-- no two of them have one number
abbrev pub AreOnce : List Point → Type 0
AreOnce [] = ⊤
AreOnce (p ∷ ps) = (first_of p.number ps ≡ None) × AreOnce ps

-- ---- what fits

abbrev pub nothing : Cost
nothing = record { regs = 0; cells = 0; mem = 0 }

abbrev pub plus : Cost → Cost → Cost
plus a b = record { regs = a.regs + b.regs; cells = a.cells + b.cells; mem = a.mem + b.mem }

abbrev pub within : Cost → Cost → Bool
within a c = nat_le a.regs c.regs && (nat_le a.cells c.cells && nat_le a.mem c.mem)

-- what all take together
abbrev pub total : List Point → Cost
total [] = nothing
total (p ∷ ps) = plus (cost_of p) (total ps)

-- how many of a line join from its head on, until one doesn't fit beside what is used
abbrev pub joiners : (capacity used : Cost) → List Point → ℕ
joiners c used [] = 0
joiners c used (p ∷ ps) = if within (plus used (cost_of p)) c then suc (joiners c (plus used (cost_of p)) ps) else 0

-- ---- what may happen

-- a resident may do a cycle: it doesn't wait, isn't due to leave, and isn't at rest while the fabric holds
abbrev pub can_step : (holding : Bool) → Point → Bool
can_step holding p = not (waits p) && (not (is_some (due p)) && not (holding && rests p))

-- all residents rest
abbrev pub is_still : Fabric → Bool
is_still f = all_rest f.residents
  where
    all_rest : List Point → Bool
    all_rest [] = true
    all_rest (p ∷ ps) = rests p && all_rest ps

-- the first resident that waits, and the first that is due to leave
abbrev pub first_waiting : List Point → Option ℕ
first_waiting [] = None
first_waiting (p ∷ ps) = if waits p then Some p.number else first_waiting ps

abbrev pub first_leaving : List Point → Option ℕ
first_leaving [] = None
first_leaving (p ∷ ps) = if is_some (due p) then Some p.number else first_leaving ps

-- the head of the line fits beside the residents
abbrev pub head_fits : Fabric → Bool
head_fits f = fits f.line
  where
    fits : List Point → Bool
    fits [] = false
    fits (p ∷ ps) = within (plus (total f.residents) (cost_of p)) f.capacity

-- how many residents may do a cycle
abbrev pub steppers : (holding : Bool) → List Point → ℕ
steppers holding [] = 0
steppers holding (p ∷ ps) = if can_step holding p then suc (steppers holding ps) else steppers holding ps

-- some resident may do a cycle
abbrev pub may_cycle : Fabric → Bool
may_cycle f = nat_lt 0 (steppers f.holding f.residents)

-- ---- events

abbrev pub stepped : (holding : Bool) → Point → Point
stepped holding p = if can_step holding p then cycled p else p

-- a tenant is last in the line
abbrev pub arrived : Point → Fabric → Fabric
arrived p f = record f { line = f.line ++ p ∷ [] }

-- each resident that may does a cycle
abbrev pub all_stepped : Fabric → Fabric
all_stepped f = record f { residents = map (stepped f.holding) f.residents }

-- what a resident waits for is done
abbrev pub all_served : ℕ → Fabric → Fabric
all_served t f = record f { residents = changed t served f.residents }

abbrev pub held : Fabric → Fabric
held f = record f { holding = true }

-- how many of the line join the residents
abbrev pub joining : Fabric → ℕ
joining f = joiners f.capacity (total f.residents) f.line

-- the head of the line joins the residents, as far as it fits
abbrev pub rebuilt : Fabric → Fabric
rebuilt f = record f { residents = f.residents ++ take (joining f) f.line; line = drop (joining f) f.line; holding = false }

-- a tenant comes out, from the residents or else from the line
abbrev pub taken : ℕ → Fabric → Fabric
taken t f =
    if is_some (first_of t f.residents) then record f { residents = without t f.residents }
    else record f { line = without t f.line }

-- the tenant that is taken
abbrev pub found : ℕ → Fabric → Option Point
found t f = if is_some (first_of t f.residents) then first_of t f.residents else first_of t f.line

-- a resident that is due to leave comes out
abbrev pub left : ℕ → Fabric → Fabric
left t f = record f { residents = without t f.residents }
