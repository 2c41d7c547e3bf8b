-- Instances: what their ports and parameters are connected to (IEEE 1364-2005, clauses 12.2 and 12.3).
use Rattle.std.specs.Prelude.{ℕ, Bool, true, false, not, ◌&&◌, List, [], ◌∷◌, map, position, find, slice_get, flat_map, Option, Some, is_some, option_map, if◌then◌else◌}
use Rattle.std.specs.Option.{option_map_or, option_and_then}
use Rattle.std.specs.Str.{bytes_eq}
use Rattle.vl_design.specs.vl_base.specs.declared.place.Place.{Place}
use Rattle.vl_tree.specs.declared.tree.Identifier.{Identifier}
use Rattle.vl_design.specs.declared.design.ProcKind.TheVariants.{Assign}
use Rattle.vl_design.specs.declared.design.SigKind.{SigKind}
use Rattle.vl_design.specs.declared.design.SigKind.TheVariants.{Net}
use Rattle.vl_flat.specs.declared.binding.Binding.{Binding}
use Rattle.vl_flat.specs.declared.binding.Binding.TheVariants as b
use Rattle.vl_design.specs.declared.stop.Stop.{Stop}
use Rattle.vl_design.specs.declared.stop.Stop.TheVariants.{Construct}
use Rattle.vl_flat.specs.Items.{Connection, NamedUnit, Instances, Module}
use Rattle.vl_flat.specs.Surface as x
use Rattle.vl_design.specs.Placed as p
use Rattle.vl_flat.specs.Scopes.{Env, plainly, number_of}
use Rattle.vl_flat.specs.Expressions.{exp, is_constant, constant}
use Rattle.vl_flat.specs.ExpressionFaults.{faults}
use Rattle.vl_flat.specs.Targets.{target, target_faults}
use Rattle.vl_flat.specs.Kinds.{is_input}
use Rattle.vl_flat.specs.Environments.{Counts, Given}
use Rattle.vl_flat.specs.Functions.{dotted}
use Rattle.vl_flat.specs.Processes.{Here, process, is_clock, optional_faults}

-- ---- lists of connections

abbrev pub is_for : List ℕ → Connection → Bool
is_for t q = option_map_or (bytes_eq t) q.name false

-- a list is by name where its first connection is
abbrev pub by_name : List Connection → Bool
by_name [] = false
by_name (q ∷ qs) = is_some q.name

-- the connection of the k-th of a list, which has this name
abbrev pub connection_of : List Connection → ℕ → List ℕ → Option Connection
connection_of qs k t = if by_name qs then find (is_for t) qs else slice_get qs k

-- the connection of the name t, which is one of these
abbrev pub named_connection : List (List ℕ) → List Connection → List ℕ → Option Connection
named_connection names qs t = option_and_then (λ k. connection_of qs k t) (position (bytes_eq t) names)

abbrev pub spelled : List Identifier → List (List ℕ)
spelled names = map (λ n. n.name) names

abbrev pub expression_of : Option Connection → Option x.Ex
expression_of = option_and_then (λ q. q.value)

-- ---- what an instance is given by its module's item

abbrev pub is_clock_binding : Option Binding → Bool
is_clock_binding (Some (b.Signal k s)) = is_clock s.kind
is_clock_binding b = false

-- the expression is just a clock name
abbrev pub is_clock_name : Env → x.Ex → Bool
is_clock_name env (x.Named at name x.NoSelects) = is_clock_binding (env name)
is_clock_name env (x.Paren at a) = is_clock_name env a
is_clock_name env e = false

-- the connection of a port
abbrev pub port_connection : Module → NamedUnit → List ℕ → Option Connection
port_connection m u t = named_connection (spelled m.ports) u.connections t

-- the constant in place of a parameter's default
abbrev pub override : Env → Module → Instances → List ℕ → Option p.Exp
override above m a t = option_map (constant (plainly above)) (expression_of (named_connection (spelled m.parameters) a.overrides t))

-- an instance of the module m, whose first signal and function have these numbers
abbrev pub given : Here → Counts → Instances → NamedUnit → Module → Given
given above base a u m = record {
  path = dotted above.path u.name.name;
  base = base;
  overrides = override above.env m a;
  clocks = λ t. is_input m t && option_map_or (is_clock_name above.env) (expression_of (port_connection m u t)) false;
  wired = λ t. not (is_input m t) && is_some (expression_of (port_connection m u t));
}

-- the faults of overrides
abbrev pub override_faults : Env → Instances → List Stop
override_faults above a = flat_map (λ q. optional_faults above q.value) a.overrides

-- ---- inputs: each that is connected is assigned its expression; another is a net that nothing drives, so 0 (clause 12.3.9.2)

abbrev pub place_in : NamedUnit → Option Connection → Place
place_in u q = option_map_or (λ c. c.place) q u.name.place

abbrev pub input_process : Here → Env → Place → List ℕ → x.Ex → p.Process
input_process above env at t e =
    process above at Assign [] (p.Set at (p.Whole at (number_of (env t))) (exp (plainly above.env) e))

abbrev pub input_faults : Env → x.Ex → List Stop
input_faults above e = faults (plainly above) e

-- ---- outputs: each is assigned to nets, their constant selects or concatenations of these (clause 12.3.9.2)

abbrev mutual
  -- an expression as a left side
  pub left_of : x.Ex → x.Left
  left_of (x.Number at n) = x.LeftList at x.NoLefts
  left_of (x.Text at text) = x.LeftList at x.NoLefts
  left_of (x.Named at name ss) = x.LeftName at name ss
  left_of (x.Paren at a) = left_of a
  left_of (x.Unary at op a) = x.LeftList at x.NoLefts
  left_of (x.Binary at op a b) = x.LeftList at x.NoLefts
  left_of (x.Choice at t a b) = x.LeftList at x.NoLefts
  left_of (x.Joined at es) = x.LeftList at (lefts_of es)
  left_of (x.Repeated at n es) = x.LeftList at x.NoLefts
  left_of (x.Called at name es) = x.LeftList at x.NoLefts
  left_of (x.System at name given) = x.LeftList at x.NoLefts

  pub lefts_of : x.Exs → x.Lefts
  lefts_of x.NoExs = x.NoLefts
  lefts_of (x.MoreExs e es) = x.MoreLefts (left_of e) (lefts_of es)

abbrev pub is_net_kind : SigKind → Bool
is_net_kind Net = true
is_net_kind kind = false

abbrev pub is_net : Option Binding → Bool
is_net (Some (b.Signal k s)) = is_net_kind s.kind
is_net b = false

module _ (env : Env) where
  abbrev pub are_constant : x.Selects → Bool
  are_constant x.NoSelects = true
  are_constant (x.Index q i others) = is_constant env i && are_constant others
  are_constant (x.Range q mark l r others) = is_constant env l && (is_constant env r && are_constant others)

  abbrev mutual
    -- nets, their constant selects, and concatenations of these
    pub are_nets : x.Ex → Bool
    are_nets (x.Named at name ss) = is_net (env name) && are_constant ss
    are_nets (x.Paren at a) = are_nets a
    are_nets (x.Joined at es) = all_nets es
    are_nets (x.Number at n) = false
    are_nets (x.Text at text) = false
    are_nets (x.Unary at op a) = false
    are_nets (x.Binary at op a b) = false
    are_nets (x.Choice at t a b) = false
    are_nets (x.Repeated at n es) = false
    are_nets (x.Called at name es) = false
    are_nets (x.System at name given) = false

    pub all_nets : x.Exs → Bool
    all_nets x.NoExs = true
    all_nets (x.MoreExs e es) = are_nets e && all_nets es

abbrev pub output_process : Here → Env → Place → List ℕ → x.Ex → p.Process
output_process above env at t e =
    process above at Assign [] (p.Set at (target (plainly above.env) (left_of e)) (p.Sig at (number_of (env t))))

abbrev pub output_faults : Env → Place → x.Ex → List Stop
output_faults above at e =
    if are_nets above e then target_faults (plainly above) (left_of e) else Construct at 13 ∷ faults (plainly above) e
