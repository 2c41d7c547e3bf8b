-- The values of a snapshot: words that it keeps are as they were, all others are 0.
use Rattle.std.proofs.Common.{◌≡◌, ℕ, zero, suc, Bool, true, false, List, [], ◌∷◌, ◌++◌, length, take, drop, Option, Some, None, refl, ◌∙◌, subst, arith}
use Rattle.std.specs.Prelude.{replicate, if◌then◌else◌, slice_get}
use Rattle.std.proofs.Math.Seq.{take-append_seam, drop-append_seam}
use Rattle.std.proofs.lemmas.List.{length-replicate}
use Rattle.vl_sites.specs.vl_design.specs.declared.design.SigKind.{SigKind}
use Rattle.vl_sites.specs.vl_design.specs.declared.design.SigKind.TheVariants.{Net, Var, Comb, Loop, Mem, Clock}
use Rattle.vl_sites.specs.vl_design.specs.Syntax.{Row}
use Rattle.vl_sites.specs.vl_design.specs.Value.{words_of}
use Rattle.vl_sites.specs.vl_design.specs.Functions.{zeros}
use Rattle.vl_sites.specs.vl_design.specs.Snapshots.{is_kept, kept_words, kept_values}
use Rattle.vl_sites.specs.vl_design.specs.Laws.{IsFine}
use Rattle.vl_runs.specs.Computed.{is_computed, is_computed_row}
use Rattle.vl_sites.specs.Others.{is_other, is_other_row}
use Rattle.vl_sites.specs.vl_design.proofs.Fine.{less_fine}

-- the signal of a number is kept; one past the last has no words
abbrev pub is_kept_row : Option Row → Bool
is_kept_row None = true
is_kept_row (Some r) = is_kept r.kind

abbrev pub kept_at : List Row → ℕ → Bool
kept_at rows k = is_kept_row (slice_get rows k)

-- ---- kinds

other_kind : (k : SigKind) → is_kept k ≡ false → is_computed k ≡ false → is_other k ≡ true
other_kind Net h g = let z : ⊥ = cc in absurd z
other_kind Comb h g = let z : ⊥ = cc in absurd z
other_kind Var h g = let z : ⊥ = cc in absurd z
other_kind Mem h g = let z : ⊥ = cc in absurd z
other_kind Loop h g = refl
other_kind Clock h g = refl

-- what is neither kept nor computed is a loop variable or a clock
pub is_other_one : (r : Option Row) → is_kept_row r ≡ false → is_computed_row r ≡ false → is_other_row r ≡ true
is_other_one None h g = let z : ⊥ = cc in absurd z
is_other_one (Some r) h g = other_kind r.kind h g

unkept_kind : (k : SigKind) → is_other k ≡ true → is_kept k ≡ false
unkept_kind Net h = refl
unkept_kind Comb h = refl
unkept_kind Var h = let z : ⊥ = cc in absurd z
unkept_kind Mem h = let z : ⊥ = cc in absurd z
unkept_kind Loop h = refl
unkept_kind Clock h = refl

pub other_unkept : (r : Option Row) → is_other_row r ≡ true → is_kept_row r ≡ false
other_unkept None h = let z : ⊥ = cc in absurd z
other_unkept (Some r) h = unkept_kind r.kind h

-- ---- words

-- a signal that isn't kept has zeros
pub unkept_words : (rows : List Row) (words : List ℕ) (k : ℕ) → kept_at rows k ≡ false → words_of (kept_values rows words) k ≡ words_of (zeros rows) k
unkept_words [] words k h = let z : ⊥ = cc in absurd z
unkept_words (r ∷ rs) words zero h = at (is_kept r.kind) h
  where
    at : (b : Bool) → b ≡ false → words_of (if b then take r.words words ∷ kept_values rs (drop r.words words) else replicate r.words 0 ∷ kept_values rs words) 0 ≡ replicate r.words 0
    at true g = let z : ⊥ = cc in absurd z
    at false g = refl
unkept_words (r ∷ rs) words (suc k) h = at (is_kept r.kind) (unkept_words rs (drop r.words words) k h) (unkept_words rs words k h)
  where
    at : (b : Bool) → words_of (kept_values rs (drop r.words words)) k ≡ words_of (zeros rs) k → words_of (kept_values rs words) k ≡ words_of (zeros rs) k
        → words_of (if b then take r.words words ∷ kept_values rs (drop r.words words) else replicate r.words 0 ∷ kept_values rs words) (suc k) ≡ words_of (zeros rs) k
    at true f g = f
    at false f g = g

-- the signal of a snapshot's first row, and the words of the others
both_words : (b : Bool) (r : Row) (rs : List Row) (ws rest : List ℕ) → length ws ≡ r.words →
    (if b then take r.words ((if b then ws else []) ++ rest) ∷ kept_values rs (drop r.words ((if b then ws else []) ++ rest)) else replicate r.words 0 ∷ kept_values rs ((if b then ws else []) ++ rest))
    ≡ (if b then ws else replicate r.words 0) ∷ kept_values rs rest
both_words true r rs ws rest size = subst (λ n. take n (ws ++ rest) ∷ kept_values rs (drop n (ws ++ rest)) ≡ ws ∷ kept_values rs rest) size (rw (take-append_seam ws rest, drop-append_seam ws rest) refl)
both_words false r rs ws rest size = refl

-- a signal that is kept has its words
pub same_words : (rows : List Row) (values : List (List ℕ)) → IsFine rows values → (k : ℕ) → kept_at rows k ≡ true → words_of (kept_values rows (kept_words rows values)) k ≡ words_of values k
same_words [] [] f k h = refl
same_words [] (ws ∷ wss) f k h = let m = f.shape.many in absurd (omega arith)
same_words (r ∷ rs) [] f k h = let m = f.shape.many in absurd (omega arith)
same_words (r ∷ rs) (ws ∷ wss) f k h = rw (both_words (is_kept r.kind) r rs ws (kept_words rs wss) (f.shape.words 0 ∙ length-replicate r.words 0)) (at k h (λ j. same_words rs wss (less_fine r rs ws wss f) j))
  where
    first : (b : Bool) → b ≡ true → (if b then ws else replicate r.words 0) ≡ ws
    first true g = refl
    first false g = let z : ⊥ = cc in absurd z

    at : (k : ℕ) → kept_at (r ∷ rs) k ≡ true → ((j : ℕ) → kept_at rs j ≡ true → words_of (kept_values rs (kept_words rs wss)) j ≡ words_of wss j)
        → words_of ((if is_kept r.kind then ws else replicate r.words 0) ∷ kept_values rs (kept_words rs wss)) k ≡ words_of (ws ∷ wss) k
    at zero g others = first (is_kept r.kind) g
    at (suc k) g others = others k g
