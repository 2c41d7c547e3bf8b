-- Each copied cell is needed.
use Rattle.std.proofs.Common.{◌≡◌, inl, inr, ℕ, ◌+◌, ◌<◌, Bool, true, false, List, [], ◌∷◌, ◌++◌, length, map, drop, get_or, refl, sym, ap, ◌∙◌, arith, subst}
use Rattle.std.specs.Prelude.{◌⊎◌, slice_index, Any, Contains, if◌then◌else◌}
use Rattle.std.proofs.lemmas.List.{append-nil, length-append, length-map, length_push, get_or_append_left, get_or_default, get_or-map, drop-append-le}
use Rattle.std.proofs.lemmas.List.Quantifiers.{Any-push}
use Rattle.std.proofs.lemmas.Bool.{cases_lt, cases_eq}
use Rattle.cell_emit.specs.cell_form.specs.Data.{CellData}
use Rattle.cell_trim.specs.Marks.{on, Names, args_at, AreMarked}
use Rattle.cell_trim.specs.Moves.{number_of, moved}
use Rattle.cell_trim.specs.Copies.{Shows, IsOperand, IsOwed, AreOwed}
use Rattle.cell_trim.proofs.Marking.{apart}
use Rattle.cell_trim.proofs.Copying.{number-before, number-last}

any-left : {X : Type 0} (P : X → Type 0) (xs ys : List X) → Any P xs → Any P (xs ++ ys)
any-left P xs ys h =
    let lt = h.2 in
    let long : h.0 < length (xs ++ ys) = omega (arith, length-append xs ys) in
    (h.0, h.1, long, get_or_append_left xs ys h.1 h.0 lt ∙ h.3, h.4)

pub contains-map : {X Y : Type 0} (f : X → Y) (xs : List X) (x : X) → Contains xs x → Contains (map f xs) (f x)
contains-map f xs x h =
    let lt = h.1 in
    (h.0, omega (arith, length-map xs f), get_or-map f xs h.0 x (f x) lt ∙ ap f h.2)

operand-stays : (slot i : ℕ) (new : List CellData) (d : CellData) → i < length new → IsOperand slot new i → IsOperand slot (new ++ d ∷ []) i
operand-stays slot i new d lt h =
    let P : CellData → Type 0 = λ c. Contains c.args slot in
    let F : List CellData → Type 0 = λ cs. Any P cs in
    subst F (sym (drop-append-le (i + 1) new (d ∷ []) (omega arith))) (any-left P (drop (i + 1) new) (d ∷ []) h)

operand-last : (slot i : ℕ) (new : List CellData) (d : CellData) → i < length new → Contains d.args slot → IsOperand slot (new ++ d ∷ []) i
operand-last slot i new d lt h =
    let P : CellData → Type 0 = λ c. Contains c.args slot in
    let F : List CellData → Type 0 = λ cs. Any P cs in
    subst F (sym (drop-append-le (i + 1) new (d ∷ []) (omega arith))) (Any-push P (drop (i + 1) new) d h)

-- a slot that names a cell is found under its new number
pub renamed : (first next : ℕ) (numbers slots : List ℕ) (past k : ℕ) → k < length numbers → Names first slots k →
    Contains (map (number_of first numbers past) slots) (slice_index numbers k)
renamed first next numbers slots past k lt m =
    let e : number_of first numbers past m.0 ≡ slice_index numbers k = ap (λ z. get_or numbers z past) m.2 ∙ get_or_default numbers k past 0 lt in
    let F : ℕ → Type 0 = λ z. Contains (map (number_of first numbers past) slots) z in
    subst F e (contains-map (number_of first numbers past) slots m.0 m.1)

-- n cells before come to new ones with these numbers
module _ (first next : ℕ) (slots : List ℕ) (marks : List Bool) (cells : List CellData) (before : List CellData) (numbers : List ℕ) (new : List CellData)
    (h : Shows first next marks before numbers new) (g : AreOwed first next (length before) slots marks cells numbers new) where
  -- what is owed behind a cell, or by it
  owed-cases : (k : ℕ) → IsOwed first (length before) slots marks cells k →
      IsOwed first (length before + 1) slots marks cells k ⊎ ((on marks (length before) ≡ true) × Names first (args_at cells (length before)) k)
  owed-cases k o = elim o [
    | inl m ↦ inl (inl m)
    | inr u ↦ elim (cases_eq u.0 (length before)) [
      | inl same ↦ (
          let F : ℕ → Type 0 = λ z. on marks z ≡ true in
          let G : ℕ → Type 0 = λ z. Names first (args_at cells z) k in
          inr (subst F same u.2, subst G same u.3))
      | inr other ↦ (
          let le = u.1 in
          inl (inr (u.0, omega arith, u.2, u.3)))
    ]
  ]

  -- a cell that isn't marked
  pub owed-over : (x : ℕ) → on marks (length before) ≡ false → AreOwed first next (length before + 1) slots marks cells (numbers ++ x ∷ []) new
  owed-over x off = λ i lt.
      let w = g i lt in
      let below = w.1 in
      let e = number-before first next marks before numbers new h x w.0 w.1 ∙ w.2 in (
        w.0,
        omega arith,
        e,
        elim w.3 [
          | inl op ↦ inl op
          | inr o ↦ elim (owed-cases w.0 o) [
            | inl later ↦ inr later
            | inr now ↦ absurd (apart (on marks (length before)) now.0 off)
          ]
        ],
      )

  -- a cell that is marked
  pub owed-with : (c : CellData) → AreMarked first cells slots marks → args_at cells (length before) ≡ c.args → on marks (length before) ≡ true →
      AreOwed first next (length before + 1) slots marks cells (numbers ++ (next + length new) ∷ [])
      (new ++ moved (number_of first numbers (next + length new)) c ∷ [])
  owed-with c needs args here = λ i lt.
      let x = next + length new in
      let d = moved (number_of first numbers (next + length new)) c in
      elim (cases_lt i (length new)) [
        | inl low ↦ (
            let w = g i low in
            let below = w.1 in
            let e = number-before first next marks before numbers new h x w.0 w.1 ∙ w.2 in (
              w.0,
              omega arith,
              e,
              elim w.3 [
                | inl op ↦ inl (operand-stays (next + i) i new d low op)
                | inr o ↦ elim (owed-cases w.0 o) [
                  | inl later ↦ inr later
                  | inr now ↦ (
                      let F : List ℕ → Type 0 = λ xs. Names first xs w.0 in
                      let G : ℕ → Type 0 = λ z. Contains d.args z in
                      let m = subst F args now.1 in
                      inl (operand-last (next + i) i new d low (subst G w.2 (renamed first next numbers c.args x w.0 (omega (arith, h.long)) m))))
                ]
              ],
            ))
        | inr past ↦ (
            let same : i ≡ length new = omega (arith, length_push new d) in
            let e : x ≡ next + i = omega arith in (
              length before,
              omega arith,
              number-last first next marks before numbers new h x (length before) refl ∙ e,
              inr (elim (needs.only (length before) here) [
                | inl m ↦ inl m
                | inr u ↦ (
                    let lt = u.1 in
                    inr (u.0, omega arith, u.2, u.3))
              ]),
            ))
      ]

  -- a cell more, by its mark
  pub owed-more : (c : CellData) (b : Bool) → AreMarked first cells slots marks → args_at cells (length before) ≡ c.args → on marks (length before) ≡ b →
      AreOwed first next (length before + 1) slots marks cells (numbers ++ (next + length new) ∷ [])
      (new ++ (if b then moved (number_of first numbers (next + length new)) c ∷ [] else []))
  owed-more c true needs args e = owed-with c needs args e
  owed-more c false needs args e =
      let F : List CellData → Type 0 = λ xs. AreOwed first next (length before + 1) slots marks cells (numbers ++ (next + length new) ∷ []) xs in
      subst F (sym (append-nil new)) (owed-over (next + length new) e)
