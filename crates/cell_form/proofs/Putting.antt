-- Values put into slots.
use Rattle.std.proofs.Common.{◌≡◌, ℕ, ◌+◌, ◌-◌, ◌<◌, ◌≤◌, List, [], ◌∷◌, ◌++◌, length, set, get_or, take, drop, refl, sym, ap, ◌∙◌, arith, append_assoc, length-append, length-drop}
use Rattle.std.specs.Prelude.{slice_index}
use Rattle.std.proofs.lemmas.List.{take-append-drop, length-take-le, get_or-append-add, get_or_append_left, get_or-take, get_or-drop, get_or-append_right, drop_more, set_at, length_push}
use Rattle.cell_form.specs.Cycle.{put_at}

pub put-none : (k : ℕ) (slots : List ℕ) → put_at k [] slots ≡ slots
put-none k slots =
    let e : k + 0 ≡ k = omega arith in
    ap (λ n. take k slots ++ drop n slots) e ∙ take-append-drop k slots

module _ (k : ℕ) (vs slots : List ℕ) (within : k + length vs ≤ length slots) where
  low-length : length (take k slots) ≡ k
  low-length = length-take-le k slots (omega arith)

  pub put-length : length (put_at k vs slots) ≡ length slots
  put-length =
      omega (arith, low-length, length-append (take k slots) (vs ++ drop (k + length vs) slots), length-append vs (drop (k + length vs) slots), length-drop (k + length vs) slots)

  pub put-held : (i : ℕ) → i < length vs → slice_index (put_at k vs slots) (k + i) ≡ slice_index vs i
  put-held i h =
      ap (λ n. get_or (put_at k vs slots) (n + i) 0) (sym low-length)
      ∙ get_or-append-add (take k slots) (vs ++ drop (k + length vs) slots) i 0
      ∙ get_or_append_left vs (drop (k + length vs) slots) 0 i h

  pub put-before : (i : ℕ) → i < k → slice_index (put_at k vs slots) i ≡ slice_index slots i
  put-before i h =
      let low : i < length (take k slots) = omega (arith, low-length) in
      get_or_append_left (take k slots) (vs ++ drop (k + length vs) slots) 0 i low ∙ get_or-take k slots i 0 h

  pub put-behind : (i : ℕ) → k + length vs ≤ i → slice_index (put_at k vs slots) i ≡ slice_index slots i
  put-behind i h =
      let e : (k + length vs) + ((i - k) - length vs) ≡ i = omega arith in
      get_or-append_right (take k slots) (vs ++ drop (k + length vs) slots) k i 0 low-length (omega arith)
      ∙ get_or-append_right vs (drop (k + length vs) slots) (length vs) (i - k) 0 refl (omega arith)
      ∙ get_or-drop (k + length vs) slots ((i - k) - length vs) 0 ∙ ap (λ n. get_or slots n 0) e

-- one value more
pub put-push : (k : ℕ) (vs slots : List ℕ) (v : ℕ) → k + length vs < length slots → set (put_at k vs slots) (k + length vs) v ≡ put_at k (vs ++ v ∷ []) slots
put-push k vs slots v h =
    let low = take k slots in
    let n = k + length vs in
    let d = get_or slots n 0 in
    let ds = drop (n + 1) slots in
    let rest : drop n slots ≡ d ∷ ds = drop_more slots n 0 h in
    let low_length : length low ≡ k = length-take-le k slots (omega arith) in
    let long : length (low ++ vs) ≡ n = omega (arith, low_length, length-append low vs) in
    let up : n + 1 ≡ k + length (vs ++ v ∷ []) = omega (arith, length_push vs v) in
    ap (λ ys. set (low ++ (vs ++ ys)) n v) rest
    ∙ ap (λ ys. set ys n v) (sym (append_assoc low vs (d ∷ ds)))
    ∙ set_at (low ++ vs) d ds v n long
    ∙ append_assoc low vs (v ∷ ds)
    ∙ ap (λ ys. low ++ ys) (sym (append_assoc vs (v ∷ []) ds))
    ∙ ap (λ m. low ++ ((vs ++ v ∷ []) ++ drop m slots)) up
