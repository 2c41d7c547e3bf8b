-- What an instance is given, by the program's tables.
use Rattle.std.specs.Prelude.{ℕ, Bool, false, not, ◌&&◌, List, Option, None, is_some, option_map}
use Rattle.std.specs.Option.{option_map_or}
use Rattle.elab_plain.specs.vl_flat.specs.Items as x
use Rattle.elab_plain.specs.vl_design.specs.Placed.{Exp}
use Rattle.elab_plain.specs.vl_flat.specs.Scopes.{plainly}
use Rattle.elab_plain.specs.vl_flat.specs.Expressions.{constant}
use Rattle.elab_plain.specs.vl_flat.specs.Environments.{Counts, Given}
use Rattle.elab_plain.specs.vl_flat.specs.Connections.{expression_of, is_clock_name}
use Rattle.elab_constant.specs.Seen.{look}
use Rattle.elab_kinds.specs.Facts.{Facts, facts}
use Rattle.elab_instance.specs.declared.given.Above.{Above}
use Rattle.elab_instance.specs.declared.given.Above.TheVariants as a
use Rattle.elab_instance.specs.declared.given.Surroundings.{Surroundings}
use Rattle.elab_instance.specs.Tables.{joined}

-- what is connected to a port is just a clock name
abbrev pub takes_clock : Surroundings → List ℕ → Bool
takes_clock s t = option_map_or (is_clock_name (look s.names.now)) (expression_of (joined s.ports.now t)) false

-- something is connected to a port
abbrev pub is_joined : Surroundings → List ℕ → Bool
is_joined s t = is_some (expression_of (joined s.ports.now t))

-- the constant in place of a parameter's default
abbrev pub overrides_of : Above → List ℕ → Option Exp
overrides_of a.Top t = None
overrides_of (a.Item s) t = option_map (constant (plainly (look s.names.now))) (expression_of (joined s.overrides.now t))

-- the inputs that are clocks, where so much is known of each name
abbrev pub clocks_by : (List ℕ → Facts) → Above → List ℕ → Bool
clocks_by told a.Top t = (told t).input
clocks_by told (a.Item s) t = (told t).input && takes_clock s t

-- the outputs that are connected, where so much is known of each name
abbrev pub wired_by : (List ℕ → Facts) → Above → List ℕ → Bool
wired_by told a.Top t = false
wired_by told (a.Item s) t = not (told t).input && is_joined s t

-- what an instance of a module is given that has this path and these first numbers
abbrev pub given_of : x.Module → Above → List ℕ → Counts → Given
given_of m above path base = record { path = path; base = base; overrides = overrides_of above; clocks = clocks_by (facts m) above; wired = wired_by (facts m) above }
