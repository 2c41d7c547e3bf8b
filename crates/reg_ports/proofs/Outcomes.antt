-- Words are fit or refused, and widths are those of rows.
use Rattle.std.proofs.Common.{◌≡◌, inl, inr, ◌⊎◌, ℕ, zero, suc, ◌<◌, ◌≤◌, ◌^◌, true, false, List, [], ◌∷◌, ◌++◌, length, sum, replicate, refl, sym, ap, ◌∙◌, arith}
use Rattle.std.specs.Prelude.{◌==◌, if◌then◌else◌, slice_index, All}
use Rattle.std.specs.List.{AllZip, flat_map}
use Rattle.std.proofs.lemmas.List.Elements.{All-head, All-tail}
use Rattle.std.proofs.lemmas.Bool.{cases_Bool, cases_eq, cases_lt, cases_order, eq-eqb, ne_eqb}
use Rattle.cell_form.specs.declared.bank.Port.{Port}
use Rattle.reg_ports.specs.declared.restore.PortError.{PortError}
use Rattle.reg_ports.specs.declared.restore.PortError.TheVariants as errors
use Rattle.reg_ports.specs.Ports.{word_count, word_counts, widths}
use Rattle.reg_ports.specs.Refusals.{AreFit, IsFirstWide, Refuses}
use Rattle.reg_ports.proofs.Holding.{count-memory, count-variable, widths-length}
use Rattle.reg_ports.proofs.Restoring.{fit-length}

zip-at : (xs ws : List ℕ) (k : ℕ) → AllZip (λ w v. v < 2 ^ w) xs ws → k < length ws → slice_index ws k < 2 ^ slice_index xs k
zip-at [] [] k h lt = absurd (omega arith)
zip-at [] (v ∷ ws) k h lt = absurd h
zip-at (x ∷ xs) [] k h lt = absurd h
zip-at (x ∷ xs) (v ∷ ws) zero h lt = h.0
zip-at (x ∷ xs) (v ∷ ws) (suc k) h lt = zip-at xs ws k h.1 (omega arith)

-- the first word that is too wide
record Wide (xs ws : List ℕ) (i : ℕ) : Type 0 where
  pub there : i < length ws
  pub wide : 2 ^ slice_index xs i ≤ slice_index ws i
  pub first : (k : ℕ) → k < i → slice_index ws k < 2 ^ slice_index xs k

wide-more : (x v : ℕ) (xs ws : List ℕ) (i : ℕ) → v < 2 ^ x → Wide xs ws i → Wide (x ∷ xs) (v ∷ ws) (suc i)
wide-more x v xs ws i fits h = record { there = let t = h.there in omega arith; wide = h.wide; first = before }
  where
    before : (k : ℕ) → k < suc i → slice_index (v ∷ ws) k < 2 ^ slice_index (x ∷ xs) k
    before zero lt = fits
    before (suc k) lt = h.first k (omega arith)

find-wide : (xs ws : List ℕ) → length ws ≡ length xs → AllZip (λ w v. v < 2 ^ w) xs ws ⊎ ((i : ℕ) × Wide xs ws i)
find-wide [] [] e = inl tt
find-wide [] (v ∷ ws) e = absurd (omega arith)
find-wide (x ∷ xs) [] e = absurd (omega arith)
find-wide (x ∷ xs) (v ∷ ws) e = elim (cases_lt v (2 ^ x)) [
  | inl fits ↦ elim (find-wide xs ws (omega arith)) [
    | inl rest ↦ inl (fits, rest)
    | inr found ↦ inr (suc found.0, wide-more x v xs ws found.0 fits found.1)
  ]
  | inr past ↦ inr (0, record { there = omega arith; wide = past; first = λ k lt. absurd (omega arith) })
]

pub either-outcome : (ports : List Port) (ws : List ℕ) → AreFit ports ws ⊎ ((e : PortError) × Refuses ports ws e)
either-outcome ports ws = elim (cases_eq (length ws) (sum (word_counts ports))) [
  | inl same ↦ elim (find-wide (widths ports) ws (same ∙ sym (widths-length ports))) [
    | inl fit ↦ inl fit
    | inr found ↦ inr (
      errors.Wide found.0 (slice_index ws found.0),
      record { many = same; there = found.1.there; is = refl; wide = found.1.wide; first = found.1.first },
    )
  ]
  | inr other ↦ inr (errors.Length (length ws) (sum (word_counts ports)), (refl, refl, other))
]

pub never-both : (ports : List Port) (ws : List ℕ) (e : PortError) → AreFit ports ws → Refuses ports ws e → ⊥
never-both ports ws (errors.Length given wanted) fit h = h.2 (h.0 ∙ fit-length ports ws fit ∙ widths-length ports ∙ sym h.1)
never-both ports ws (errors.Wide index value) fit h =
    let fits = zip-at (widths ports) ws index fit h.there in
    let wide = h.wide in
    let is = h.is in
    absurd (omega arith)
never-both ports ws errors.Memory fit h = h

-- no word that is too wide stands before the first one
not-before : (ports : List Port) (ws : List ℕ) (i v j w : ℕ) → IsFirstWide ports ws i v → IsFirstWide ports ws j w → i < j → ⊥
not-before ports ws i v j w h k lt =
    let fits = k.first i lt in
    let wide = h.wide in
    let is = h.is in
    omega arith

pub only-refusal : (ports : List Port) (ws : List ℕ) (e f : PortError) → Refuses ports ws e → Refuses ports ws f → e ≡ f
only-refusal ports ws (errors.Length a b) (errors.Length c d) h k = ap (λ n. errors.Length n b) (h.0 ∙ sym k.0) ∙ ap (errors.Length c) (h.1 ∙ sym k.1)
only-refusal ports ws (errors.Length a b) (errors.Wide j w) h k = absurd (h.2 (h.0 ∙ k.many ∙ sym h.1))
only-refusal ports ws (errors.Wide i v) (errors.Length c d) h k = absurd (k.2 (k.0 ∙ h.many ∙ sym k.1))
only-refusal ports ws (errors.Wide i v) (errors.Wide j w) h k = elim (cases_order i j) [
  | inl same ↦ ap (λ n. errors.Wide n v) same ∙ ap (errors.Wide j) (sym h.is ∙ ap (slice_index ws) same ∙ k.is)
  | inr order ↦ elim order [
    | inl below ↦ absurd (not-before ports ws i v j w h k below)
    | inr above ↦ absurd (not-before ports ws j w i v k h above)
  ]
]
only-refusal ports ws errors.Memory f h k = absurd h
only-refusal ports ws e errors.Memory h k = absurd k

-- a port whose words are 0 just where it is a variable
abbrev SaysRow : Port → Type 0
SaysRow p = (p.mem ≡ false → p.words ≡ 0) × (p.mem ≡ true → 1 ≤ p.words)

row-count : (p : Port) → SaysRow p → word_count p ≡ (if p.words == 0 then 1 else p.words)
row-count p h = elim (cases_Bool p.mem) [
  | inl e ↦ (
      let some = h.1 e in
      count-memory p e ∙ sym (ap (λ t. if t then 1 else p.words) (ne_eqb p.words 0 (λ x. absurd (omega arith)))))
  | inr e ↦ count-variable p e ∙ sym (ap (λ t. if t then 1 else p.words) (eq-eqb p.words 0 (h.0 e)))
]

pub row-widths : (ports : List Port) → All SaysRow ports → widths ports ≡ flat_map (λ (p : Port). replicate (if p.words == 0 then 1 else p.words) p.width) ports
row-widths [] h = refl
row-widths (p ∷ ps) h =
    ap (λ n. replicate n p.width ++ widths ps) (row-count p (All-head SaysRow p ps h))
    ∙ ap (λ (xs : List ℕ). replicate (if p.words == 0 then 1 else p.words) p.width ++ xs) (row-widths ps (All-tail SaysRow p ps h))
