-- What a statement reads, with its loops turn by turn: a loop of no turn reads nothing (IEEE 1364-2005, clauses 9.6 and
-- 9.7.5).
use Rattle.std.specs.Prelude.{ℕ, Bool, false, not, ◌||◌, ◌&&◌, ◌==◌}
use Rattle.vl_design.specs.Syntax.{Stm, Nop, Then, If, Case, For, Repeat, Set, Later, Sys, Items, NoItems, Labelled, Default}
use Rattle.vl_design.specs.Width.{Scope}
use Rattle.vl_design.specs.State.{State}
use Rattle.vl_design.specs.Exec.{exec, goes_on, some_turn, most_turns}
use Rattle.vl_design.specs.Reads.{reads, some_reads, target_reads, task_reads}

module _ (scope : Scope) (p : ℕ → Bool) where
  abbrev mutual
    -- s has the values of the loop variables; of a loop its turns are asked, and not its header
    pub turns_read : Stm → State → Bool
    turns_read Nop s = false
    turns_read (Then a b) s = turns_read a s || turns_read b s
    turns_read (If t a b) s = reads p t || (turns_read a s || turns_read b s)
    turns_read (Case e items) s = reads p e || items_turns_read items s
    turns_read (For k start test step a) s = some_turn most_turns (goes_on scope test) (exec scope step) (turns_read a) (exec scope start s)
    turns_read (Repeat n a) s = not (n == 0) && turns_read a s
    turns_read (Set t e) s = target_reads p t || reads p e
    turns_read (Later t e) s = target_reads p t || reads p e
    turns_read (Sys task) s = task_reads p task

    pub items_turns_read : Items → State → Bool
    items_turns_read NoItems s = false
    items_turns_read (Labelled es a others) s = some_reads p es || (turns_read a s || items_turns_read others s)
    items_turns_read (Default a others) s = turns_read a s || items_turns_read others s
