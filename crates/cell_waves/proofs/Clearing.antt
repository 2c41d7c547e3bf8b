-- Values with those of computed signals taken as 0.
use Rattle.std.proofs.Common.{◌≡◌, ℕ, zero, suc, ◌<◌, ◌^◌, Bool, true, false, List, [], ◌∷◌, length, map, inl, inr, refl, sym, ap, ◌∙◌, arith, subst}
use Rattle.std.specs.Prelude.{◌⊎◌, All, if◌then◌else◌, slice_index, slice_index_or}
use Rattle.std.proofs.Math.Pow.{pow_pos}
use Rattle.std.proofs.lemmas.List.{length-map}
use Rattle.ten_form.specs.vl_design.specs.Syntax.{Row}
use Rattle.ten_form.specs.vl_design.specs.Width.{signal_form}
use Rattle.ten_form.specs.vl_design.specs.Value.{words_of, value_of}
use Rattle.ten_form.specs.vl_design.specs.Laws.{IsFine}
use Rattle.ten_form.specs.vl_runs.specs.Computed.{is_computed, computed_at}
use Rattle.ten_form.specs.Nets.{cleared}

-- words that are all 0
abbrev nulled : List ℕ → List ℕ
nulled ws = map (λ x. 0) ws

first-null : (ws : List ℕ) → slice_index (nulled ws) 0 ≡ 0
first-null [] = refl
first-null (w ∷ ws) = refl

null-at : (ws : List ℕ) (i d : ℕ) → i < length (nulled ws) → slice_index_or (nulled ws) i d ≡ 0
null-at [] i d h = absurd (omega arith)
null-at (w ∷ ws) zero d h = refl
null-at (w ∷ ws) (suc i) d h = null-at ws i d (omega arith)

pub cleared-computed : (rows : List Row) (values : List (List ℕ)) (k : ℕ) → computed_at rows k ≡ true → value_of (cleared rows values) k ≡ 0
cleared-computed [] values k e = absurd (cc)
cleared-computed (r ∷ rows) [] k e = refl
cleared-computed (r ∷ rows) (ws ∷ values) zero e = ap (λ t. slice_index (if t then nulled ws else ws) 0) e ∙ first-null ws
cleared-computed (r ∷ rows) (ws ∷ values) (suc k) e = cleared-computed rows values k e

pub cleared-kept : (rows : List Row) (values : List (List ℕ)) (k : ℕ) → k < length rows → computed_at rows k ≡ false → words_of (cleared rows values) k ≡ words_of values k
cleared-kept [] values k lt e = absurd (omega arith)
cleared-kept (r ∷ rows) [] k lt e = refl
cleared-kept (r ∷ rows) (ws ∷ values) zero lt e = ap (λ t. if t then nulled ws else ws) e
cleared-kept (r ∷ rows) (ws ∷ values) (suc k) lt e = cleared-kept rows values k (omega arith) e

cleared-length : (rows : List Row) (values : List (List ℕ)) → length values ≡ length rows → length (cleared rows values) ≡ length values
cleared-length [] [] e = refl
cleared-length [] (ws ∷ values) e = absurd (omega arith)
cleared-length (r ∷ rows) [] e = refl
cleared-length (r ∷ rows) (ws ∷ values) e = ap suc (cleared-length rows values (omega arith))

cleared-words : (rows : List Row) (values : List (List ℕ)) (k : ℕ) → length values ≡ length rows →
    (words_of (cleared rows values) k ≡ words_of values k) ⊎ (words_of (cleared rows values) k ≡ nulled (words_of values k))
cleared-words [] [] k e = inl refl
cleared-words [] (ws ∷ values) k e = absurd (omega arith)
cleared-words (r ∷ rows) [] k e = inl refl
cleared-words (r ∷ rows) (ws ∷ values) zero e = of (is_computed r.kind)
  where
    of : (t : Bool) → ((if t then nulled ws else ws) ≡ ws) ⊎ ((if t then nulled ws else ws) ≡ nulled ws)
    of true = inr refl
    of false = inl refl
cleared-words (r ∷ rows) (ws ∷ values) (suc k) e = cleared-words rows values k (omega arith)

pub cleared-fine : (rows : List Row) (values : List (List ℕ)) → IsFine rows values → IsFine rows (cleared rows values)
cleared-fine rows values fine = record {
  range = λ k. range k (cleared-words rows values k long);
  shape = record { many = cleared-length rows values long ∙ fine.shape.many; words = λ k. same k (cleared-words rows values k long) ∙ fine.shape.words k };
}
  where
    long : length values ≡ length rows
    long = fine.shape.many ∙ length-map rows _

    range : (k : ℕ) → (words_of (cleared rows values) k ≡ words_of values k) ⊎ (words_of (cleared rows values) k ≡ nulled (words_of values k)) →
        All (λ v. v < 2 ^ (signal_form rows k).width) (words_of (cleared rows values) k)
    range k (inl e) = subst (λ ws. All (λ v. v < 2 ^ (signal_form rows k).width) ws) (sym e) (fine.range k)
    range k (inr e) =
        subst (λ ws. All (λ v. v < 2 ^ (signal_form rows k).width) ws) (sym e)
        (λ i d h. subst (λ v. v < 2 ^ (signal_form rows k).width) (sym (null-at (words_of values k) i d h)) (pow_pos (signal_form rows k).width))

    same : (k : ℕ) → (words_of (cleared rows values) k ≡ words_of values k) ⊎ (words_of (cleared rows values) k ≡ nulled (words_of values k)) →
        length (words_of (cleared rows values) k) ≡ length (words_of values k)
    same k (inl e) = ap (λ (ws : List ℕ). length ws) e
    same k (inr e) = ap (λ (ws : List ℕ). length ws) e ∙ length-map (words_of values k) (λ x. 0)
