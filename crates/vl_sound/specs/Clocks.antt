-- What an instance is given: only its inputs are clocks (IEEE 1364-2005, clause 12.3).
use Rattle.std.specs.Prelude.{◌≡◌, ℕ, true, List}
use Rattle.vl_flat.specs.Items.{Module}
use Rattle.vl_flat.specs.Kinds.{is_input}
use Rattle.vl_flat.specs.Environments.{Given}

-- each clock of an instance of the module is one of its inputs
abbrev pub ClocksAreInputs : Module → Given → Type 0
ClocksAreInputs m g = (t : List ℕ) → g.clocks t ≡ true → is_input m t ≡ true
