-- What the pieces of a display count, argument by argument, whatever the instance's path is.
use Rattle.std.proofs.Common.{◌≡◌, refl, ℕ, ◌*◌, List, [], ◌∷◌}
use Rattle.vl_design.specs.Cost.{exp_cells, pieces_cells}
use Rattle.vl_design.specs.Formats.{Arg, Str, pieces_from}
use Rattle.vl_design.specs.Formats.{items_in}
use Rattle.vl_limits.specs.Displays.{CountsShown}
use Rattle.vl_limits.proofs.Showing.{text-shown, none-shown, any-path}
use Rattle.vl_cost.specs.Displays.{shown_cells}

module _ (body : ℕ → ℕ) where
  counts-shown : CountsShown (exp_cells body) (pieces_cells body)
  counts-shown = record { none = refl; text = λ t ps. refl; item = λ f e ps. refl }

  pub shown-text : (text : List ℕ) (args : List Arg) → shown_cells body 0 (Str text ∷ args) ≡ shown_cells body (items_in text) args
  shown-text text args = text-shown (exp_cells body) (pieces_cells body) counts-shown text args

  pub shown-none : (n : ℕ) → shown_cells body n [] ≡ n * 2
  shown-none n = none-shown (exp_cells body) (pieces_cells body) counts-shown 2 refl n

  pub pieces-free : (path : List ℕ) (n : ℕ) (args : List Arg) → pieces_cells body (pieces_from path n args) ≡ pieces_cells body (pieces_from [] n args)
  pieces-free path n args = any-path (exp_cells body) (pieces_cells body) counts-shown path n args
