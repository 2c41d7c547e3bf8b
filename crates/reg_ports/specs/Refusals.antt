-- Which words are refused for the ports of a bank (own).
use Rattle.std.specs.Prelude.{◌≡◌, ◌≢◌, ℕ, ◌<◌, ◌≤◌, ◌^◌, List, length, sum, slice_index}
use Rattle.std.specs.List.{AllZip}
use Rattle.cell_form.specs.declared.bank.Port.{Port}
use Rattle.reg_ports.specs.declared.restore.PortError.{PortError}
use Rattle.reg_ports.specs.declared.restore.PortError.TheVariants as errors
use Rattle.reg_ports.specs.Ports.{word_counts, widths}

-- just as many words as the ports have, each of its port's width
abbrev pub AreFit : List Port → List ℕ → Type 0
AreFit ports ws = AllZip (λ w v. v < 2 ^ w) (widths ports) ws

-- of as many words as the ports have, the first that has more bits than its port's width
pub record IsFirstWide (ports : List Port) (ws : List ℕ) (index value : ℕ) : Type 0 where
  pub many : length ws ≡ sum (word_counts ports)
  pub there : index < length ws
  pub is : slice_index ws index ≡ value
  pub wide : 2 ^ slice_index (widths ports) index ≤ value
  pub first : (k : ℕ) → k < index → slice_index ws k < 2 ^ slice_index (widths ports) k

-- why words are refused: they are more or fewer, or else one is too wide
abbrev pub Refuses : List Port → List ℕ → PortError → Type 0
Refuses ports ws (errors.Length given wanted) = (given ≡ length ws) × (wanted ≡ sum (word_counts ports)) × (given ≢ wanted)
Refuses ports ws (errors.Wide index value) = IsFirstWide ports ws index value
Refuses ports ws errors.Memory = ⊥
