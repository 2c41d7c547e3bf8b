-- What the bodies of functions count, round by round: in each round calls nest one deeper.
use Rattle.std.specs.Prelude.{◌≡◌, ◌≤◌, ℕ, zero, suc, ◌+◌, min, if◌then◌else◌, nat_lt, List, [], ◌++◌, map, slice_index}
use Rattle.vl_design.specs.declared.design.Signal.{Signal}
use Rattle.vl_design.specs.declared.design.Func.{Func}
use Rattle.vl_design.specs.Functions.{scope_of}
use Rattle.vl_design.specs.Placed as p
use Rattle.vl_design.specs.Plain.{plain_scope}
use Rattle.vl_design.specs.Plainly as plain
use Rattle.vl_design.specs.Rows.{row_of}
use Rattle.vl_design.specs.Seen.{stm_of}
use Rattle.vl_design.specs.Syntax.{Row}
use Rattle.vl_loops.specs.Limits.{Counted, statements, nodes, most_statements, most_nodes, stm_count, body_within, process_count}
use Rattle.vl_loops.specs.Rooms.{state_of}

-- a 0 for each signal and each local
abbrev pub zeros_in : List Signal → List Signal → List ℕ
zeros_in signals locals = map (λ x. 0) signals ++ map (λ y. 0) locals

-- the design's signals with a function's locals behind them
abbrev pub func_rows : List Signal → Func → List Row
func_rows signals f = map row_of signals ++ map row_of f.locals

-- what a function's body counts, without the design around it
abbrev pub alone_count : Counted → List Signal → Func → ℕ
alone_count c signals f = stm_count c (plain_scope (func_rows signals f)) (stm_of f.body) (state_of (zeros_in signals f.locals))

-- the statements of a function's body, one more than are allowed at most, from those of the bodies that it calls
abbrev pub next_statements : List Signal → List ℕ → Func → ℕ
next_statements signals bodies f = min (most_statements + 1) (alone_count (statements (λ i. slice_index bodies i)) signals f)

-- its nodes; none where it has too many statements
abbrev pub next_nodes : List Signal → List ℕ → List ℕ → Func → ℕ
next_nodes signals before bodies f =
    if nat_lt most_statements (next_statements signals before f) then 0 else min (most_nodes + 1) (alone_count (nodes (λ i. slice_index bodies i)) signals f)

-- what bodies count where calls nest at most so deep, up to the limits; of a body with too many statements no nodes are said
pub record AreBodies (d : p.Design) (n : ℕ) (few many : List ℕ) : Type 0 where
  pub few_statements : (f : ℕ) → slice_index few f ≡ min (most_statements + 1) (body_within statements (scope_of (plain.flat d) []) d.funcs n f)
  pub few_nodes : (f : ℕ) → body_within statements (scope_of (plain.flat d) []) d.funcs n f ≤ most_statements → slice_index many f ≡ min (most_nodes + 1) (body_within nodes (scope_of (plain.flat d) []) d.funcs n f)

-- sums of statements and of nodes with those of one process more, up to the limits
pub record AreAdded (d : p.Design) (a : p.Process) (m n m' n' : ℕ) : Type 0 where
  pub few_statements : m' ≡ min (most_statements + 1) (m + process_count d statements a)
  pub few_nodes : m + process_count d statements a ≤ most_statements → n' ≡ min (most_nodes + 1) (n + process_count d nodes a)

-- tables of what bodies count, each made of the one before
abbrev pub rounds : (List ℕ → Func → ℕ) → List Func → ℕ → List ℕ
rounds next funcs zero = []
rounds next funcs (suc n) = map (next (rounds next funcs n)) funcs

-- no entry of a table is greater than the other table's
abbrev pub AtMost : List ℕ → List ℕ → Type 0
AtMost a b = (f : ℕ) → slice_index a f ≤ slice_index b f
