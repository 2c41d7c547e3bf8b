-- What is read at a byte.
use Rattle.std.proofs.Common.{◌≡◌, ◌≤◌, ◌+◌, ◌*◌, ◌%◌, ◌^◌, ◌∙◌, ap, sym, refl, ℕ, List, [], ◌∷◌, Bool, true, false, arith}
use Rattle.std.specs.Prelude.{Option, Some, None, ◌==◌, if◌then◌else◌}
use Rattle.std.proofs.lemmas.Bool.Decides.{nat_tests}
use Rattle.vl_design.specs.ReadHex as h
use Rattle.vl_hex.specs.declared.position.Position.TheVariants as p
use Rattle.vl_hex.specs.declared.position.Step.TheVariants as s
use Rattle.vl_hex.specs.declared.position.Next.{Next}
use Rattle.vl_hex.specs.Alike.{steps_of, position_of, IsNear, Same, Far, AreAlike, IsAlike, IsNextAlike, EndsAlike}
pub use Rattle.vl_base.proofs.Numbers.{unequal_false as not-equal}

-- ---- behind what may end a step

module _ (w c : ℕ) (xs : List h.Step) (other : h.Next) where
  -- the step ends here
  pub ends-here : (x : h.Next) (n : Next) → x ≡ h.end_next xs c other → EndsAlike w (h.end_next xs c other) other (Some n) → IsNextAlike w x (Some n)
  ends-here x n e k = rw e k

  -- it goes on
  pub ends-not : (x : h.Next) (r : Option Next) → x ≡ h.end_next xs c other → EndsAlike w (h.end_next xs c other) other None → IsNextAlike w other r → IsNextAlike w x r
  ends-not x r e k o = rw (e, k) o

-- ---- digits

pub no-digit : (w v c : ℕ) (in_it : ℕ → h.HexPosition) → None ≡ h.hex_digit c → IsNextAlike w (h.digit_next in_it v (h.hex_digit c)) None
no-digit w v c in_it e = rw (← e) tt

pub some-digit : (w v c d : ℕ) (in_it : ℕ → h.HexPosition) (q : _) → Some d ≡ h.hex_digit c → IsAlike w (in_it (16 * v + d)) (position_of q)
    → IsNextAlike w (h.digit_next in_it v (h.hex_digit c)) (Some (record { step = s.Nothing; position = q }))
some-digit w v c d in_it q e k = rw (← e) (tt, k)

-- ---- by where the text is read

module _ (w c : ℕ) (x : Option Next) where
  pub by-word : (r : h.HexPosition) (u : ℕ) → IsAlike w r (h.InWord u) → ((v : ℕ) → v % 2 ^ w ≡ u % 2 ^ w → IsNextAlike w (h.read_next (h.InWord v) c) x) → IsNextAlike w (h.read_next r c) x
  by-word (h.InWord v) u e k = k v e
  by-word h.BetweenWords u e k = absurd e
  by-word (h.Slash b) u e k = absurd e
  by-word h.Line u e k = absurd e
  by-word h.Block u e k = absurd e
  by-word h.Star u e k = absurd e
  by-word h.At u e k = absurd e
  by-word (h.InAddress a) u e k = absurd e

  pub by-address : (r : h.HexPosition) (b : ℕ) → IsAlike w r (h.InAddress b) → ((a : ℕ) → IsNear a b → IsNextAlike w (h.read_next (h.InAddress a) c) x) → IsNextAlike w (h.read_next r c) x
  by-address (h.InAddress a) b e k = k a e
  by-address h.BetweenWords b e k = absurd e
  by-address (h.Slash s) b e k = absurd e
  by-address h.Line b e k = absurd e
  by-address h.Block b e k = absurd e
  by-address h.Star b e k = absurd e
  by-address h.At b e k = absurd e
  by-address (h.InWord v) b e k = absurd e

  pub by-slash : (r : h.HexPosition) (ys : List h.Step) → IsAlike w r (h.Slash ys) → ((xs : List h.Step) → AreAlike w xs ys → IsNextAlike w (h.read_next (h.Slash xs) c) x) → IsNextAlike w (h.read_next r c) x
  by-slash (h.Slash xs) ys e k = k xs e
  by-slash (h.InAddress a) ys e k = absurd e
  by-slash h.BetweenWords ys e k = absurd e
  by-slash h.Line ys e k = absurd e
  by-slash h.Block ys e k = absurd e
  by-slash h.Star ys e k = absurd e
  by-slash h.At ys e k = absurd e
  by-slash (h.InWord v) ys e k = absurd e

-- ---- other positions are themselves

pub is-at : (w : ℕ) (r : h.HexPosition) → IsAlike w r h.At → r ≡ h.At
is-at w h.At e = refl
is-at w h.BetweenWords e = absurd e
is-at w (h.Slash xs) e = absurd e
is-at w h.Line e = absurd e
is-at w h.Block e = absurd e
is-at w h.Star e = absurd e
is-at w (h.InWord v) e = absurd e
is-at w (h.InAddress a) e = absurd e

-- ---- at the end of the text

module _ (w : ℕ) where
  pub last-word : (r : h.HexPosition) (u : ℕ) → IsAlike w r (h.InWord u) → AreAlike w (h.last_steps r) (h.Loads u ∷ [])
  last-word (h.InWord v) u e = (e, tt)
  last-word h.BetweenWords u e = absurd e
  last-word (h.Slash b) u e = absurd e
  last-word h.Line u e = absurd e
  last-word h.Block u e = absurd e
  last-word h.Star u e = absurd e
  last-word h.At u e = absurd e
  last-word (h.InAddress a) u e = absurd e

  pub last-address : (r : h.HexPosition) (b : ℕ) → IsAlike w r (h.InAddress b) → AreAlike w (h.last_steps r) (h.Goes b ∷ [])
  last-address (h.InAddress a) b e = (e, tt)
  last-address h.BetweenWords b e = absurd e
  last-address (h.Slash s) b e = absurd e
  last-address h.Line b e = absurd e
  last-address h.Block b e = absurd e
  last-address h.Star b e = absurd e
  last-address h.At b e = absurd e
  last-address (h.InWord v) b e = absurd e
