-- Values of which those of computed signals are cleared.
use Rattle.std.proofs.Common.{◌≡◌, ℕ, zero, suc, ◌%◌, ◌^◌, ◌<◌, Bool, true, false, List, [], ◌∷◌, length, map, refl, sym, ap, ◌∙◌, subst}
use Rattle.std.specs.Prelude.{All, pos, slice_index, if◌then◌else◌}
use Rattle.std.proofs.Math.Nat.{zero-div}
use Rattle.std.proofs.lemmas.Nat.{pow_pos}
use Rattle.std.proofs.lemmas.List.{length-map}
use Rattle.std.proofs.lemmas.List.Elements.{All-nil, All-cons}
use Rattle.vl_sites.specs.vl_base.specs.Selects.{bit_of}
use Rattle.vl_sites.specs.vl_design.specs.Syntax.{Row}
use Rattle.vl_sites.specs.vl_design.specs.Width.{signal_form}
use Rattle.vl_sites.specs.vl_design.specs.Value.{words_of}
use Rattle.vl_sites.specs.vl_design.specs.Laws.{IsFine}
use Rattle.vl_runs.specs.NetsOfSettle.{Place, bit_at}
use Rattle.sub_runs.specs.Nets.{computed_at, cleared}

pub of_words : (v w : List (List ℕ)) (b : Place) → words_of v b.0.signal ≡ words_of w b.0.signal → bit_at v b ≡ bit_at w b
of_words v w b e = ap (λ ws. bit_of (slice_index ws b.1) (pos b.0.place)) e

abbrev blank : List ℕ → List ℕ
blank ws = map (λ w. 0) ws

either_blank : (b : Bool) → (if b then blank [] else []) ≡ []
either_blank true = refl
either_blank false = refl

pub cleared_words : (rows : List Row) (v : List (List ℕ)) (k : ℕ) → words_of (cleared rows v) k ≡ (if computed_at rows k then blank (words_of v k) else words_of v k)
cleared_words [] v k = refl
cleared_words (r ∷ rs) [] k = sym (either_blank (computed_at (r ∷ rs) k))
cleared_words (r ∷ rs) (ws ∷ wss) zero = refl
cleared_words (r ∷ rs) (ws ∷ wss) (suc k) = cleared_words rs wss k

pub cleared_other : (rows : List Row) (v : List (List ℕ)) (k : ℕ) → computed_at rows k ≡ false → words_of (cleared rows v) k ≡ words_of v k
cleared_other rows v k h = cleared_words rows v k ∙ ap (λ b. if b then blank (words_of v k) else words_of v k) h

blank_index : (ws : List ℕ) (j : ℕ) → slice_index (blank ws) j ≡ 0
blank_index [] j = refl
blank_index (w ∷ ws) zero = refl
blank_index (w ∷ ws) (suc j) = blank_index ws j

no_bit : (i : ℕ) → bit_of 0 (pos i) ≡ 0
no_bit i = ap (λ n. n % 2) (zero-div (2 ^ i))

pub zero_bit : (v : List (List ℕ)) (b : Place) → slice_index (words_of v b.0.signal) b.1 ≡ 0 → bit_at v b ≡ 0
zero_bit v b h = ap (λ n. bit_of n (pos b.0.place)) h ∙ no_bit b.0.place

pub cleared_zero : (rows : List Row) (v : List (List ℕ)) (b : Place) → computed_at rows b.0.signal ≡ true → bit_at (cleared rows v) b ≡ 0
cleared_zero rows v b h =
    let e : words_of (cleared rows v) b.0.signal ≡ blank (words_of v b.0.signal) = cleared_words rows v b.0.signal ∙ ap (λ c. if c then blank (words_of v b.0.signal) else words_of v b.0.signal) h in
    zero_bit (cleared rows v) b (ap (λ ws. slice_index ws b.1) e ∙ blank_index (words_of v b.0.signal) b.1)

-- ---- cleared values are fine

blank_small : (n : ℕ) → 0 < n → (ws : List ℕ) → All (λ v. v < n) (blank ws)
blank_small n h [] = All-nil (λ v. v < n)
blank_small n h (w ∷ ws) = All-cons (λ v. v < n) 0 (blank ws) h (blank_small n h ws)

cleared_many : (rows : List Row) (v : List (List ℕ)) → length (cleared rows v) ≡ length v
cleared_many [] v = refl
cleared_many (r ∷ rs) [] = refl
cleared_many (r ∷ rs) (ws ∷ wss) = ap suc (cleared_many rs wss)

pub cleared_fine : (rows : List Row) (v : List (List ℕ)) → IsFine rows v → IsFine rows (cleared rows v)
cleared_fine rows v f = record {
  range = λ k. subst (λ ws. All (λ x. x < 2 ^ (signal_form rows k).width) ws) (sym (cleared_words rows v k)) (small k (computed_at rows k));
  shape = record { many = cleared_many rows v ∙ f.shape.many; words = λ k. ap length (cleared_words rows v k) ∙ (many k (computed_at rows k) ∙ f.shape.words k) };
}
  where
    small : (k : ℕ) (b : Bool) → All (λ x. x < 2 ^ (signal_form rows k).width) (if b then blank (words_of v k) else words_of v k)
    small k true = blank_small (2 ^ (signal_form rows k).width) (pow_pos (signal_form rows k).width) (words_of v k)
    small k false = f.range k

    many : (k : ℕ) (b : Bool) → length (if b then blank (words_of v k) else words_of v k) ≡ length (words_of v k)
    many k true = length-map (words_of v k) (λ w. 0)
    many k false = refl
