-- What an instance is given by the tables is what it is given by the definitions.
use Rattle.std.proofs.Common.{◌≡◌, ℕ, false, not, ◌&&◌, List, is_some, ap, ◌∙◌}
use Rattle.std.specs.Prelude.{option_map}
use Rattle.std.specs.Option.{option_map_or}
use Rattle.elab_plain.specs.vl_flat.specs.Items as x
use Rattle.elab_plain.specs.vl_flat.specs.Scopes.{Env, plainly}
use Rattle.elab_plain.specs.vl_flat.specs.Expressions.{constant}
use Rattle.elab_plain.specs.vl_flat.specs.Kinds.{is_input}
use Rattle.elab_plain.specs.vl_flat.specs.Environments.{Counts, Given}
use Rattle.elab_plain.specs.vl_flat.specs.Processes.{Here}
use Rattle.elab_plain.specs.vl_flat.specs.Connections as c
use Rattle.elab_plain.specs.vl_flat.specs.Functions.{dotted}
use Rattle.elab_constant.specs.Seen.{look}
use Rattle.elab_instance.specs.declared.given.Above.TheVariants as above
use Rattle.elab_instance.specs.declared.given.Surroundings.{Surroundings}
use Rattle.elab_instance.specs.Tables.{Joined, joined}
use Rattle.elab_instance.specs.Given.{given_of}

-- what is given by an environment and two tables
given_by : List ℕ → Counts → x.Module → Env → Joined → Joined → Given
given_by path base m env overrides ports = record {
  path = path;
  base = base;
  overrides = λ t. option_map (constant (plainly env)) (c.expression_of (overrides t));
  clocks = λ t. is_input m t && option_map_or (c.is_clock_name env) (c.expression_of (ports t)) false;
  wired = λ t. not (is_input m t) && is_some (c.expression_of (ports t));
}

pub given-same : (here : Here) (base : Counts) (a : x.Instances) (u : x.NamedUnit) (m : x.Module) (s : Surroundings)
    → look s.names.now ≡ here.env → joined s.overrides.now ≡ c.named_connection (c.spelled m.parameters) a.overrides → joined s.ports.now ≡ c.port_connection m u
    → given_of m (above.Item s) (dotted here.path u.name.name) base ≡ c.given here base a u m
unfolding given_by
given-same here base a u m s e o p =
    ap (λ env. given_by (dotted here.path u.name.name) base m env (joined s.overrides.now) (joined s.ports.now)) e
    ∙ ap (λ t. given_by (dotted here.path u.name.name) base m here.env t (joined s.ports.now)) o
    ∙ ap (λ t. given_by (dotted here.path u.name.name) base m here.env (c.named_connection (c.spelled m.parameters) a.overrides) t) p
