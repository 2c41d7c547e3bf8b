-- What the code keeps of words and addresses that have no bound: a word's lowest bits, and that an address is large
-- (IEEE 1364-2005, clause 17.2.9).
use Rattle.std.specs.Prelude.{◌≡◌, ◌≤◌, ◌%◌, ◌^◌, ℕ, List, [], ◌∷◌, Option, Some, None, ⊤}
use Rattle.vl_design.specs.ReadHex as h
use Rattle.vl_hex.specs.declared.position.Step.{Step}
use Rattle.vl_hex.specs.declared.position.Step.TheVariants as s
use Rattle.vl_hex.specs.declared.position.Position.{Position}
use Rattle.vl_hex.specs.declared.position.Position.TheVariants as p
use Rattle.vl_hex.specs.declared.position.Next.{Next}

abbrev pub steps_of : Step → List h.Step
steps_of s.Nothing = []
steps_of (s.Loads v) = h.Loads v ∷ []
steps_of (s.Goes a) = h.Goes a ∷ []

abbrev pub position_of : Position → h.HexPosition
position_of p.Between = h.BetweenWords
position_of (p.Slash behind) = h.Slash (steps_of behind)
position_of p.Line = h.Line
position_of p.Block = h.Block
position_of p.Star = h.Star
position_of (p.InWord v) = h.InWord v
position_of p.At = h.At
position_of (p.InAddress a) = h.InAddress a

-- addresses are equal, or both so large that no memory has them
pub data IsNear (a b : ℕ) : Type 0 where
  Same : a ≡ b → IsNear a b
  Far : 2 ^ 40 ≤ a → 2 ^ 40 ≤ b → IsNear a b

-- words have equal lowest bits, and addresses are near
abbrev pub IsStepAlike : ℕ → h.Step → h.Step → Type 0
IsStepAlike w (h.Loads v) (h.Loads u) = v % 2 ^ w ≡ u % 2 ^ w
IsStepAlike w (h.Goes a) (h.Goes b) = IsNear a b
IsStepAlike w x y = ⊥

abbrev pub AreAlike : ℕ → List h.Step → List h.Step → Type 0
AreAlike w [] [] = ⊤
AreAlike w (x ∷ xs) (y ∷ ys) = IsStepAlike w x y × AreAlike w xs ys
AreAlike w xs ys = ⊥

abbrev pub IsAlike : ℕ → h.HexPosition → h.HexPosition → Type 0
IsAlike w (h.InWord v) (h.InWord u) = v % 2 ^ w ≡ u % 2 ^ w
IsAlike w (h.InAddress a) (h.InAddress b) = IsNear a b
IsAlike w (h.Slash xs) (h.Slash ys) = AreAlike w xs ys
IsAlike w h.BetweenWords h.BetweenWords = ⊤
IsAlike w h.Line h.Line = ⊤
IsAlike w h.Block h.Block = ⊤
IsAlike w h.Star h.Star = ⊤
IsAlike w h.At h.At = ⊤
IsAlike w r r' = ⊥

-- the code reads at a byte what the definition reads there
abbrev pub IsNextAlike : ℕ → h.Next → Option Next → Type 0
IsNextAlike w None None = ⊤
IsNextAlike w (Some x) (Some n) = AreAlike w x.0 (steps_of n.step) × IsAlike w x.1 (position_of n.position)
IsNextAlike w x n = ⊥

-- likewise at a byte that may end a step, where the code says so; else there is something other
abbrev pub EndsAlike : ℕ → h.Next → h.Next → Option Next → Type 0
EndsAlike w x other None = x ≡ other
EndsAlike w x other (Some n) = IsNextAlike w x (Some n)
