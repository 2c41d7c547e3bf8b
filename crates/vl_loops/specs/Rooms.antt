-- What headers of loops are read over: names, and the numbers of loop variables (IEEE 1364-2005, clause 9.6).
use Rattle.std.specs.Prelude.{◌≡◌, ℕ, ◌^◌, ◌<◌, true, List, [], ◌∷◌, ◌++◌, map, length, slice_index}
use Rattle.vl_design.specs.Rows.{row_of}
use Rattle.vl_design.specs.Syntax.{Row}
use Rattle.vl_design.specs.Width.{Names, Scope, signal_form}
use Rattle.vl_design.specs.Value.{Sample}
use Rattle.vl_design.specs.State.{State, sample}
use Rattle.vl_design.specs.Functions.{fresh}
use Rattle.vl_design.specs.Plain.{plain_scope}
use Rattle.vl_loops.specs.Unroll.{is_loop}
use Rattle.vl_loops.specs.declared.room.Room.{Room}

abbrev pub rows_of : Room → List Row
rows_of r = map row_of r.signals.now ++ map row_of r.locals.now

-- the scope of these signals, without functions
abbrev pub scope_of : Room → Scope
scope_of r = plain_scope (rows_of r)

abbrev pub names_of : Room → Names
names_of r = (scope_of r).names

-- the state in which signals have these numbers
abbrev pub values_of : List ℕ → List (List ℕ)
values_of numbers = map (λ v. v ∷ []) numbers

abbrev pub state_of : List ℕ → State
state_of numbers = fresh (values_of numbers)

-- a 0 for each signal and each local
abbrev pub zeros_of : Room → List ℕ
zeros_of r = map (λ x. 0) r.signals.now ++ map (λ y. 0) r.locals.now

abbrev pub sample_of : List ℕ → Sample
sample_of numbers = sample (state_of numbers)

-- a number for each signal; that of a loop variable is below 2 to its width
pub record AreNumbers (rows : List Row) (numbers : List ℕ) : Type 0 where
  pub many : length numbers ≡ length rows
  pub fits : (j : ℕ) → is_loop rows j ≡ true → slice_index numbers j < 2 ^ (signal_form rows j).width
