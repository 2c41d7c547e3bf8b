-- A fabric and the tenants in transit, and what an event of the fabric does (own).
use Rattle.std.specs.Prelude.{ℕ, ◌+◌, not, ◌&&◌, Bool, List, [], ◌∷◌, ◌++◌, if◌then◌else◌, is_some, Option, Some, None}
use Rattle.ten_parcel.specs.ten_shell.specs.declared.shell.Why.{Why}
use Rattle.fab_model.specs.Points.{Point, cost_of, departed, due, ended, waits}
use Rattle.fab_model.specs.Fabrics.{Fabric, all_served, all_stepped, arrived, first_of, found, has, held, is_still, left, may_cycle, rebuilt, taken, within, without}

pub record World : Type 0 where
  pub fabric : Fabric
  -- the tenants that are loaded and nowhere, or on their way between fabrics
  pub transit : List Point

pub data Event : Type 0 where
  Arrive : (t : ℕ) → Event
  Cycle : Event
  Serve : (t : ℕ) → Event
  Hold : Event
  Rebuild : Event
  Take : (t : ℕ) → Event
  Leave : (t : ℕ) → Event

-- everyone who is somewhere
abbrev pub everyone : World → List Point
everyone w = w.transit ++ (w.fabric.residents ++ w.fabric.line)

-- all of a list together, each by its weight
abbrev pub weight : (Point → ℕ) → List Point → ℕ
weight m [] = 0
weight m (p ∷ ps) = m p + weight m ps

-- ---- what happens; nothing where an event may not come

-- all residents rest, and the fabric holds
abbrev pub is_at_rest : Fabric → Bool
is_at_rest f = f.holding && is_still f

-- one that hasn't ended and fits alone, whose number isn't there, is last in the line
abbrev pub comes : World → ℕ → Option Point → World
comes w t None = w
comes w t (Some p) =
    if not (is_some (ended p)) && (within (cost_of p) w.fabric.capacity && not (has t w.fabric)) then record { fabric = arrived p w.fabric; transit = without t w.transit } else w

abbrev pub serves : World → ℕ → Option Point → World
serves w t None = w
serves w t (Some p) = if waits p then record w { fabric = all_served t w.fabric } else w

abbrev pub takes : World → ℕ → Option Point → World
takes w t None = w
takes w t (Some p) = if is_at_rest w.fabric then record { fabric = taken t w.fabric; transit = w.transit ++ p ∷ [] } else w

abbrev pub goes : World → ℕ → Point → Option Why → World
goes w t p None = w
goes w t p (Some why) = if is_at_rest w.fabric then record { fabric = left t w.fabric; transit = w.transit ++ departed why p ∷ [] } else w

abbrev pub leaves : World → ℕ → Option Point → World
leaves w t None = w
leaves w t (Some p) = goes w t p (due p)

abbrev pub happens : World → Event → World
happens w (Arrive t) = comes w t (first_of t w.transit)
happens w Cycle = if may_cycle w.fabric then record w { fabric = all_stepped w.fabric } else w
happens w (Serve t) = serves w t (first_of t w.fabric.residents)
happens w Hold = if w.fabric.holding then w else record w { fabric = held w.fabric }
happens w Rebuild = if is_at_rest w.fabric then record w { fabric = rebuilt w.fabric } else w
happens w (Take t) = takes w t (found t w.fabric)
happens w (Leave t) = leaves w t (first_of t w.fabric.residents)

abbrev pub run : List Event → World → World
run [] w = w
run (e ∷ es) w = run es (happens w e)
