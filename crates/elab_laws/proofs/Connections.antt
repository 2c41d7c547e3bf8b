-- The parts of a flat design that the connections of an instance stand for.
use Rattle.std.proofs.Common.{◌≡◌, ℕ, Bool, true, false, if◌then◌else◌, List, [], ◌∷◌, map, Option, Some, None, refl, subst}
use Rattle.std.specs.Prelude.{◌&&◌, not, find, position, slice_get, All}
use Rattle.std.specs.Option.{option_map_or, option_and_then}
use Rattle.std.specs.Str.{bytes_eq}
use Rattle.vl_sound.specs.vl_base.specs.declared.place.Place.{Place}
use Rattle.ten_plan.specs.vl_design.specs.declared.stop.Stop.{Stop}
use Rattle.ten_plan.specs.vl_design.specs.declared.stop.Stop.TheVariants.{Construct}
use Rattle.ten_plan.specs.vl_design.specs.Placed as p
use Rattle.vl_sound.specs.vl_flat.specs.Surface as x
use Rattle.vl_sound.specs.vl_flat.specs.Items as i
use Rattle.vl_sound.specs.vl_flat.specs.Scopes.{Env, plainly}
use Rattle.vl_sound.specs.vl_flat.specs.ExpressionFaults as ef
use Rattle.vl_sound.specs.vl_flat.specs.Targets as t
use Rattle.vl_sound.specs.vl_flat.specs.Kinds.{is_input}
use Rattle.vl_sound.specs.vl_flat.specs.Processes.{Here}
use Rattle.vl_sound.specs.vl_flat.specs.Connections as cn
use Rattle.vl_sound.specs.vl_flat.specs.Flat as f
use Rattle.vl_sound.proofs.Lists.{found-holds, at-holds}
use Rattle.elab_laws.proofs.Leaves.{Has, ValueHas, IsPlain}
use Rattle.elab_laws.proofs.Made.{IsMadeUnit}
use Rattle.elab_laws.proofs.Parts.{Done, done-nil, done-cons}

-- what stands in a connection of one of these names
connected-has : (qs : List i.Connection) → All (λ (y : i.Connection). ValueHas (IsPlain false) y.value) qs → (names : List (List ℕ)) (n : List ℕ) (a : x.Ex)
    → cn.expression_of (cn.named_connection names qs n) ≡ Some a → Has (IsPlain false) a
connected-has qs v names n a h = subst (ValueHas (IsPlain false)) h (of (position (bytes_eq n) names))
  where
    one : (b : Bool) (j : ℕ) (y : i.Connection) → (if b then find (cn.is_for n) qs else slice_get qs j) ≡ Some y → ValueHas (IsPlain false) y.value
    one true j y h = found-holds (λ (y : i.Connection). ValueHas (IsPlain false) y.value) (cn.is_for n) qs y v h
    one false j y h = at-holds (λ (y : i.Connection). ValueHas (IsPlain false) y.value) qs j y v h

    value : (o : Option i.Connection) → ((y : i.Connection) → o ≡ Some y → ValueHas (IsPlain false) y.value) → ValueHas (IsPlain false) (cn.expression_of o)
    value None g = tt
    value (Some y) g = g y refl

    of : (o : Option ℕ) → ValueHas (IsPlain false) (cn.expression_of (option_and_then (λ j. cn.connection_of qs j n) o))
    of None = tt
    of (Some j) = value (cn.connection_of qs j n) (one (cn.by_name qs) j)

pub given-has : (of : i.Module) (y : i.NamedUnit) → IsMadeUnit y → (n : List ℕ) (a : x.Ex) → cn.expression_of (cn.port_connection of y n) ≡ Some a → Has (IsPlain false) a
given-has of y v n a is = connected-has y.connections v (map (λ z. z.name) of.ports) n a is

nets-clear : (b : Bool) (at : Place) (xs ys : List Stop) → (if b then xs else Construct at 13 ∷ ys) ≡ [] → b ≡ true
nets-clear true at xs ys h = refl
nets-clear false at xs ys h = let z : ⊥ = cc in absurd z

module _ (G : f.Part → Type 0) where
  connection-done : (make : x.Ex → p.Process) (faults : x.Ex → List Stop) (o : Option x.Ex) → ((a : x.Ex) → o ≡ Some a → faults a ≡ [] → G (f.connection (make a ∷ []) (faults a)))
      → Done G (option_map_or (λ a. f.connection (make a ∷ []) (faults a) ∷ []) o [])
  connection-done make faults None g = done-nil G
  connection-done make faults (Some a) g = done-cons G (f.connection (make a ∷ []) (faults a)) [] (λ h. g a refl h) (done-nil G)

  -- the connection of one port
  module _ (here : Here) (env : Env) (of : i.Module) (y : i.NamedUnit) (n : List ℕ) where
    abbrev place : Place
    place = cn.place_in y (cn.port_connection of y n)

    abbrev given : Option x.Ex
    given = cn.expression_of (cn.port_connection of y n)

    pub input-done : ((a : x.Ex) → given ≡ Some a → is_input of n ≡ true → G (f.connection (cn.input_process here env place n a ∷ []) (cn.input_faults here.env a))) → Done G (f.input_part here env of y n)
    input-done g = by (is_input of n) refl (cn.is_clock_binding (env n))
      where
        by : (b : Bool) → is_input of n ≡ b → (u : Bool)
            → Done G (if b && not u then option_map_or (λ a. f.connection (cn.input_process here env place n a ∷ []) (cn.input_faults here.env a) ∷ []) given [] else [])
        by true is false = connection-done (λ a. cn.input_process here env place n a) (λ a. cn.input_faults here.env a) given (λ a at h. g a at is)
        by true is true = done-nil G
        by false is u = done-nil G

    -- an output's stands for nets
    pub output-done : ((a : x.Ex) → given ≡ Some a → cn.are_nets here.env a ≡ true → G (f.connection (cn.output_process here env place n a ∷ []) (cn.output_faults here.env place a)))
        → Done G (f.output_part here env of y n)
    output-done g = by (is_input of n)
      where
        by : (b : Bool) → Done G (if b then [] else option_map_or (λ a. f.connection (cn.output_process here env place n a ∷ []) (cn.output_faults here.env place a) ∷ []) given [])
        by true = done-nil G
        by false =
            connection-done (λ a. cn.output_process here env place n a) (λ a. cn.output_faults here.env place a) given
            (λ a at h. g a at (nets-clear (cn.are_nets here.env a) place (t.target_faults (plainly here.env) (cn.left_of a)) (ef.faults (plainly here.env) a) h))
