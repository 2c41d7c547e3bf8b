-- Tables of nodes: the statements of a block cut at its calls and at the choices of a branch that holds one (own).
use Rattle.std.specs.Prelude.{ℕ, Bool, true, false, List, [], ◌∷◌, ◌++◌}
use Rattle.vl_design.specs.Syntax.{Exp, Exps, Task, Stm}

-- statements that are done at once; before the first ones of a tick the clock rises
pub record Segment : Type 0 where
  pub rises : Bool
  pub statements : List Stm

-- nothing yet; and nothing but the rise
abbrev pub still : Segment
still = record { rises = false; statements = [] }

abbrev pub rising : Segment
rising = record { rises = true; statements = [] }

-- with one more statement behind
abbrev pub and_then : Segment → Stm → Segment
and_then g a = record g { statements = g.statements ++ a ∷ [] }

-- an item of a case: its labels, and the node of its body
pub record Way : Type 0 where
  pub labels : Exps
  pub to : ℕ

-- how a node goes on behind its segment
pub data WayOn : Type 0 where
  -- to the trap of a call
  Go : (to : ℕ) → WayOn
  -- by an `if`, to the first where the condition holds, else to the second
  Branch : (test : Exp) (first second : ℕ) → WayOn
  -- by a case, to the first item with a label that matches, else to the default or behind the case
  Switch : (subject : Exp) (ways : List Way) (otherwise : ℕ) → WayOn
  -- past the end of the wave, to its update
  Commit : (to : ℕ) → WayOn

pub data Node : Type 0 where
  Run : (segment : Segment) (on : WayOn) → Node
  -- a call is done, and then the node `to` is next
  Trap : (task : Task) (to : ℕ) → Node
  -- the update of a wave
  Apply : (to : ℕ) → Node

-- the nodes of a wave: its first one, and its update
pub record Wave : Type 0 where
  pub first : ℕ
  pub update : ℕ

-- nodes by their numbers from 0, and the waves of time zero, of a rise and of a fall; where no block waits for a fall, its
-- wave means nothing
pub record Table : Type 0 where
  pub nodes : List Node
  pub zero : Wave
  pub rise : Wave
  pub fall : Wave
