-- Words of a memory, step by step.
use Rattle.std.proofs.Common.{◌≡◌, ◌≤◌, ◌<◌, ◌+◌, ◌%◌, ◌^◌, ◌∙◌, ap, sym, refl, ℕ, List, [], ◌∷◌, ◌++◌, append-nil, Bool, true, false, length, get_or, drop, arith}
use Rattle.std.proofs.lemmas.List.{at_drop_more}
use Rattle.std.specs.Prelude.{Option, Some, None, nat_lt, ◌&&◌, if◌then◌else◌, ℤ, pos, ◌-ℤ◌, int_le, slice_set}
use Rattle.std.specs.Int.RustNames.{unsigned_abs}
use Rattle.std.proofs.lemmas.Bool.Decides.{nat_tests}
use Rattle.std.proofs.lemmas.Grind.{common_steps}
use Rattle.vl_design.specs.ReadHex as h
use Rattle.vl_hex.specs.Alike.{steps_of, IsNear, Same, Far, AreAlike, IsNextAlike, IsAlike, position_of}
use Rattle.vl_hex.specs.Loading.{place_at, loaded_from}
use Rattle.vl_hex.specs.declared.position.Next.{Next}
use Rattle.vl_base.proofs.Numbers.{lt_true as below, lt_false as not-below}

module _ (w : ℕ) (lowest : ℤ) (n : ℕ) where
  -- ---- a word
  pub word-there : (i v x : ℕ) (more : List h.Step) (words : List ℕ) → i < n → v % 2 ^ w ≡ x → h.loaded w lowest n i (h.Loads v ∷ more) words ≡ h.loaded w lowest n (i + 1) more (slice_set words i x)
  word-there i v x more words l e = let t = below i n l in rw (t, e) refl

  pub word-past : (i v : ℕ) (more : List h.Step) (words : List ℕ) → n ≤ i → h.loaded w lowest n i (h.Loads v ∷ more) words ≡ words
  word-past i v more words l = let t = not-below i n l in rw t refl

  -- ---- an address
  pub goes : (i a : ℕ) (more : List h.Step) (words : List ℕ) → h.loaded w lowest n i (h.Goes a ∷ more) words ≡ loaded_from w lowest n (place_at lowest n a) more words
  goes i a more words = by (int_le (pos 0) (pos a -ℤ lowest) && nat_lt (unsigned_abs (pos a -ℤ lowest)) n)
    where
      by : (b : Bool) → (if b then h.loaded w lowest n (unsigned_abs (pos a -ℤ lowest)) more words else words)
          ≡ loaded_from w lowest n (if b then Some (unsigned_abs (pos a -ℤ lowest)) else None) more words
      by true = refl
      by false = refl

  -- ---- steps that are alike
  pub nothing : (i : ℕ) (xs more : List h.Step) (words : List ℕ) → AreAlike w xs [] → h.loaded w lowest n i (xs ++ more) words ≡ h.loaded w lowest n i more words
  nothing i [] more words k = refl
  nothing i (x ∷ xs) more words k = absurd k

  pub one-word : (i u : ℕ) (xs more : List h.Step) (r : Option ℕ) (old new : List ℕ) → AreAlike w xs (h.Loads u ∷ [])
      → ((v : ℕ) (ys : List h.Step) → v % 2 ^ w ≡ u % 2 ^ w → h.loaded w lowest n i (h.Loads v ∷ ys) old ≡ loaded_from w lowest n r ys new)
      → h.loaded w lowest n i (xs ++ more) old ≡ loaded_from w lowest n r more new
  one-word i u [] more r old new k f = absurd k
  one-word i u (h.Loads v ∷ []) more r old new k f = f v more k.0
  one-word i u (h.Goes a ∷ []) more r old new k f = absurd k.0
  one-word i u (x ∷ y ∷ ys) more r old new k f = absurd k.1

  pub one-address : (i b : ℕ) (xs more : List h.Step) (r : Option ℕ) (words : List ℕ) → AreAlike w xs (h.Goes b ∷ [])
      → ((a : ℕ) → IsNear a b → place_at lowest n a ≡ r)
      → h.loaded w lowest n i (xs ++ more) words ≡ loaded_from w lowest n r more words
  one-address i b [] more r words k f = absurd k
  one-address i b (h.Goes a ∷ []) more r words k f = goes i a more words ∙ ap (λ z. loaded_from w lowest n z more words) (f a k.0)
  one-address i b (h.Loads v ∷ []) more r words k f = absurd k.0
  one-address i b (x ∷ y ∷ ys) more r words k f = absurd k.1

  -- ---- a byte
  pub next-none : (x : h.Next) → IsNextAlike w x None → x ≡ None
  next-none None k = refl
  next-none (Some y) k = absurd k

  pub next-some : (x : h.Next) (m : Next) → IsNextAlike w x (Some m) → (ys : List h.Step) × (r : h.HexPosition) × (x ≡ Some (ys, r)) × AreAlike w ys (steps_of m.step) × IsAlike w r (position_of m.position)
  next-some None m k = absurd k
  next-some (Some (ys, r)) m k = (ys, r, refl, k.0, k.1)

  pub next-over : (x : h.Next) (r : Option Next) → ((m : Next) → r ≡ Some m → ⊥) → IsNextAlike w x r → x ≡ None
  next-over x None o k = next-none x k
  next-over x (Some m) o k = absurd (o m refl)

  pub stopped : (r : Option ℕ) (more : List h.Step) (words : List ℕ) → ((i : ℕ) → r ≡ Some i → ⊥) → loaded_from w lowest n r more words ≡ words
  stopped None more words o = refl
  stopped (Some i) more words o = absurd (o i refl)

  pub all-done : (r : Option ℕ) (words : List ℕ) → loaded_from w lowest n r [] words ≡ words
  all-done None words = refl
  all-done (Some i) words = refl

-- ---- the rest of a text

module _ (at : h.HexPosition) (text : List ℕ) (i : ℕ) (l : i < length text) where
  pub steps-none : h.read_next at (get_or text i 0) ≡ None → h.steps at (drop i text) ≡ []
  steps-none e = at_drop_more (h.steps at) text i 0 l ∙ ap (h.steps_on (λ next. h.steps next (drop (i + 1) text))) e

  pub steps-some : (ys : List h.Step) (r : h.HexPosition) → h.read_next at (get_or text i 0) ≡ Some (ys, r) → h.steps at (drop i text) ≡ ys ++ h.steps r (drop (i + 1) text)
  steps-some ys r e = at_drop_more (h.steps at) text i 0 l ∙ ap (h.steps_on (λ next. h.steps next (drop (i + 1) text))) e
