-- Who writes what in the elaboration of a source (IEEE 1364-2005, clauses 6.1, 9.2 and 9.7.5; own).
use Rattle.std.specs.Prelude.{◌≡◌, ℕ, Bool, true, false, not, ◌&&◌, List, slice_get, Option, Some, None, All}
use Rattle.std.specs.List.{list_any}
use Rattle.vl_design.specs.declared.design.Signal.{Signal}
use Rattle.vl_design.specs.declared.design.SigKind.{SigKind}
use Rattle.vl_design.specs.declared.design.SigKind.TheVariants as k
use Rattle.vl_design.specs.Placed.{Process, Design}
use Rattle.vl_design.specs.Queue.{is_comb}
use Rattle.vl_sites.specs.Sites.{sites}
use Rattle.vl_check.specs.Bodies.{kind_is}
use Rattle.vl_check.specs.Rules.{sets}
use Rattle.vl_check.specs.Writers.{writes}

-- a variable that no combinational process computes
abbrev pub is_kept : SigKind → Bool
is_kept k.Var = true
is_kept kind = false

-- a variable that combinational processes compute
abbrev pub is_combined : SigKind → Bool
is_combined k.Comb = true
is_combined kind = false

-- the number is that of no signal, or of a variable that no combinational process computes
abbrev pub is_uncomputed : List Signal → ℕ → Bool
is_uncomputed signals k = by (slice_get signals k)
  where
    by : Option Signal → Bool
    by None = true
    by (Some s) = is_kept s.kind

-- some combinational process writes the signal of this number
abbrev pub is_computed : List Process → ℕ → Bool
is_computed as' k = list_any (λ a. is_comb a.kind && writes k a) as'

-- the variable is said to be computed, and no combinational process writes it
abbrev pub is_orphan : Design → ℕ → Bool
is_orphan d k = kind_is is_combined d.signals k && not (is_computed d.processes k)

pub record IsWritten (d : Design) (a : Process) : Type 0 where
  -- a combinational process assigns only what is computed, memories, loop variables and clocks (of which the checks refuse the rest)
  pub combinational : is_comb a.kind ≡ true → list_any (λ s. sets (is_uncomputed d.signals) s.what) (sites a.body) ≡ false
  -- of the variables that are said to be computed a process assigns only those that combinational processes write
  pub computed : list_any (λ s. sets (is_orphan d) s.what) (sites a.body) ≡ false

-- each process of the design is so
pub record HasWriters (d : Design) : Type 0 where
  pub processes : All (IsWritten d) d.processes
