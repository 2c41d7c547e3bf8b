-- The first construct 19 of a design whose loops are unrolled (own).
use Rattle.std.specs.Prelude.{◌≡◌, ◌⊎◌, List, ◌++◌, map, Any, Option, Some, None, option_map}
use Rattle.vl_base.specs.declared.place.Place.{Place}
use Rattle.vl_base.specs.Places as places
use Rattle.vl_design.specs.declared.design.Design.{Design}
use Rattle.vl_design.specs.declared.design.Signal.{Signal}
use Rattle.vl_design.specs.declared.design.ProcKind.TheVariants.{Comb}
use Rattle.vl_design.specs.declared.stop.Stop.{Stop}
use Rattle.vl_design.specs.declared.stop.Stop.TheVariants.{Construct}
use Rattle.vl_design.specs.Placed as p
use Rattle.vl_design.specs.Plainly as plain
use Rattle.vl_design.specs.Trees.{row_of, flat_of}
use Rattle.vl_design.specs.Width.{Names, names_in, names_of}
use Rattle.vl_latch.specs.Partly.{IsPartly, IsPartlyFun}

-- a combinational process, at its first token
abbrev pub IsProcessFault : Names → p.Process → Stop → Type 0
IsProcessFault names q s = (q.kind ≡ Comb) × IsPartly names (plain.stm q.path q.body) × (s ≡ Construct q.place 19)

-- a function, at its name
abbrev pub IsFunctionFault : Names → p.Func → Stop → Type 0
IsFunctionFault names f s = IsPartlyFun (names_in names (plain.fun f)) (plain.fun f) × (s ≡ Construct f.place 19)

-- one of the design's processes or functions
abbrev pub IsPathFault : p.Design → Stop → Type 0
IsPathFault d s = Any (λ q. IsProcessFault (names_of (plain.flat d)) q s) d.processes ⊎ Any (λ f. IsFunctionFault (names_of (plain.flat d)) f s) d.funcs

-- the names of a design, with these locals behind its signals
abbrev pub names_with : Design → List Signal → Names
names_with d locals = record (names_of (flat_of d)) { rows = map row_of d.signals ++ map row_of locals }

-- ---- places

-- the construct at a place, if there is one
abbrev pub stop_at : Option Place → Option Stop
stop_at at = option_map (λ p. Construct p 19) at

-- the first of two places, either of which may be none
abbrev pub first_of : Option Place → Option Place → Option Place
first_of best None = best
first_of best (Some p) = places.earlier (λ a b. places.comes_before a 19 b 19) best p
