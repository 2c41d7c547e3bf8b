-- The left sides of an instance in its design, and their faults (IEEE 1364-2005, clauses 6.1 and 9.2).
use Rattle.std.specs.Prelude.{ℕ, ◌+◌, not, List, [], ◌++◌, fold, Option}
use Rattle.vl_design.specs.vl_base.specs.declared.place.Place.{Place}
use Rattle.vl_flat.specs.declared.binding.Binding.{Binding}
use Rattle.vl_design.specs.declared.stop.Stop.{Stop}
use Rattle.vl_flat.specs.Surface.{Selects, Left, Lefts, LeftName, LeftList, NoLefts, MoreLefts, left_place}
use Rattle.vl_design.specs.Placed as p
use Rattle.vl_design.specs.Rows.{has_width}
use Rattle.vl_design.specs.Stops.{construct_if}
use Rattle.vl_flat.specs.Scopes.{Scope, number_of}
use Rattle.vl_flat.specs.Expressions.{Step, Chosen, Picked, Sliced, part_low, steps_of, named_form}
use Rattle.vl_flat.specs.ExpressionFaults.{name_faults}

-- what a step leaves of a target
abbrev pub stepped : Place → p.Target → Step → p.Target
stepped at base (Chosen k a) = p.WordAt at k a
stepped at base (Picked i from w) = p.PickAt at base i from w
stepped at base (Sliced r a b w) = p.SliceAt at base (part_low r b) w

module _ (scope : Scope) where
  -- a name with its selects
  abbrev pub named : Place → Option Binding → Selects → p.Target
  named at b ss = fold (stepped at) (p.Whole at (number_of b)) (steps_of scope b ss)

  abbrev mutual
    pub target : Left → p.Target
    target (LeftName at name ss) = named at (scope.names name) ss
    target (LeftList at ls) = p.Several at (targets ls)

    pub targets : Lefts → p.Targets
    targets NoLefts = p.NoTargets
    targets (MoreLefts l ls) = p.MoreTargets (target l) (targets ls)

  abbrev mutual
    -- how many bits a left side has
    pub left_width : Left → ℕ
    left_width (LeftName at name ss) = (named_form scope (scope.names name) ss).width
    left_width (LeftList at ls) = lefts_width ls

    pub lefts_width : Lefts → ℕ
    lefts_width NoLefts = 0
    lefts_width (MoreLefts l ls) = left_width l + lefts_width ls

  -- a left side that isn't from 1 to 128 bits wide; no text has one of no bits
  abbrev pub width_faults : Left → List Stop
  width_faults l = construct_if (not (has_width (left_width l))) (left_place l) 10

  abbrev mutual
    -- the faults of a left side
    pub target_faults : Left → List Stop
    target_faults (LeftName at name ss) = width_faults (LeftName at name ss) ++ name_faults scope at (scope.names name) ss
    target_faults (LeftList at ls) = width_faults (LeftList at ls) ++ targets_faults ls

    pub targets_faults : Lefts → List Stop
    targets_faults NoLefts = []
    targets_faults (MoreLefts l ls) = target_faults l ++ targets_faults ls
