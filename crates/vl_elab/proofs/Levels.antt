-- An instance one level down.
use Rattle.std.proofs.Common.{◌≡◌, refl, ap, sym, ℕ, zero, suc, ◌-◌, ◌++◌, List, [], ◌∷◌, arith}
use Rattle.elab_plain.specs.vl_flat.specs.Items.{Module, Instances, NamedUnit}
use Rattle.elab_plain.specs.vl_flat.specs.Processes.{Here}
use Rattle.elab_plain.specs.vl_flat.specs.Environments.{Counts}
use Rattle.elab_plain.specs.vl_flat.specs.Connections.{given}
use Rattle.elab_plain.specs.vl_flat.specs.Flat.{beginning}
use Rattle.vl_sound.specs.Sized.{Sizes, instance_by}
use Rattle.vl_elab.specs.Insides.{contents}

pub no-level : (sizes : Sizes) (d : ℕ) (ms : List Module) (above : Here) (base : Counts) (us : Instances) (u : NamedUnit) (m : Module) → d ≡ 0 → instance_by sizes d ms above base us u m ≡ []
unfolding instance_by
no-level sizes d ms above base us u m h = ap (λ z. instance_by sizes z ms above base us u m) h

before : (n : ℕ) → suc n - 1 ≡ n
before n = omega arith

pub one-level : (sizes : Sizes) (d : ℕ) (ms : List Module) (above : Here) (base : Counts) (us : Instances) (u : NamedUnit) (m : Module) → (d ≡ 0 → ⊥)
    → instance_by sizes d ms above base us u m ≡ (beginning above.env (given above base us u m) us ∷ []) ++ contents sizes (d - 1) ms above base us u m
unfolding instance_by
one-level sizes zero ms above base us u m h = absurd (h refl)
one-level sizes (suc n) ms above base us u m h =
    sym (ap (λ k. (beginning above.env (given above base us u m) us ∷ []) ++ contents sizes k ms above base us u m) (before n))
