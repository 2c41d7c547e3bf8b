-- What a sink has taken more.
use Rattle.std.specs.Prelude.{◌≡◌, ℕ, List, ◌++◌, Option, option_map}

-- the sink has taken these bytes more, where it tells what it has taken
abbrev pub Takes : Option (List ℕ) → Option (List ℕ) → List ℕ → Type 0
Takes old new text = new ≡ option_map (λ taken. taken ++ text) old
