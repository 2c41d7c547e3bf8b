-- What the connections of ports stand for.
use Rattle.std.proofs.Common.{◌≡◌, refl, ℕ, true, false, List, [], ◌∷◌}
use Rattle.std.specs.Prelude.{Some}
use Rattle.elab_plain.specs.vl_flat.specs.Surface.{Ex}
use Rattle.elab_plain.specs.vl_flat.specs.Items.{Module, NamedUnit}
use Rattle.elab_plain.specs.vl_flat.specs.Kinds.{is_input}
use Rattle.elab_plain.specs.vl_flat.specs.Processes.{Here}
use Rattle.elab_plain.specs.vl_flat.specs.Scopes.{Env}
use Rattle.elab_plain.specs.vl_flat.specs.Connections.{is_clock_binding, input_process, input_faults, expression_of, port_connection, place_in, output_process, output_faults}
use Rattle.elab_plain.specs.vl_flat.specs.Flat.{input_part, output_part, connection}
use Rattle.elab_plain.specs.SeenItems.{seen_unit}
use Rattle.elab_kinds.specs.Facts.{facts, facts_of}
use Rattle.elab_instance.specs.Tables.{joined}
use Rattle.vl_elab.specs.declared.ports.Ports.{Ports}
use Rattle.vl_elab.specs.Standing.{IsJoined}

pub an-input : (above : Here) (env : Env) (m : Module) (u : NamedUnit) (t : List ℕ) (e : Ex) → is_input m t ≡ true → is_clock_binding (env t) ≡ false
    → expression_of (port_connection m u t) ≡ Some e
    → input_part above env m u t
    ≡ connection (input_process above env (place_in u (port_connection m u t)) t e ∷ []) (input_faults above.env e) ∷ []
an-input above env m u t e h k l = rw (h, k, l) refl

pub an-output : (above : Here) (env : Env) (m : Module) (u : NamedUnit) (t : List ℕ) (e : Ex) → is_input m t ≡ false → expression_of (port_connection m u t) ≡ Some e
    → output_part above env m u t
    ≡ connection (output_process above env (place_in u (port_connection m u t)) t e ∷ []) (output_faults above.env (place_in u (port_connection m u t)) e) ∷ []
an-output above env m u t e h k = rw (h, k) refl

pub is-joined : {q : Ports} {m : Module} → facts_of q.roles.now ≡ facts m → joined q.connected.now ≡ port_connection m (seen_unit q.unit.now) → IsJoined q m
is-joined r k = record { roles = r; connected = k }
