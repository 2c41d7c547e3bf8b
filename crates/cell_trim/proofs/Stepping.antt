-- One cell more, in the program's lists.
use Rattle.std.proofs.Common.{◌≡◌, ℕ, ◌+◌, ◌<◌, Bool, true, List, [], ◌∷◌, ◌++◌, length, map, take, get_or, sym, ap, ◌∙◌, arith, subst}
use Rattle.std.specs.Prelude.{if◌then◌else◌}
use Rattle.std.proofs.lemmas.List.{length-map, length-take-le, take_more, get_or-map}
use Rattle.cell_emit.specs.cell_form.specs.declared.cell.Cell.{Cell}
use Rattle.cell_emit.specs.cell_form.specs.Data.{CellData}
use Rattle.cell_emit.specs.cell_form.specs.Views.{cell_of}
use Rattle.cell_trim.specs.Marks.{on, Names, args_at, AreClosed, AreMarked}
use Rattle.cell_trim.specs.Moves.{number_of, moved}
use Rattle.cell_trim.specs.Copies.{Shows, AreOwed}
use Rattle.cell_trim.proofs.Copying.{Ready, ready-from, shows-more}
use Rattle.cell_trim.proofs.Owing.{owed-more}

module _ (cells : List Cell) (i : ℕ) (x : Cell) (lt : i < length cells) (here : x ≡ get_or cells i x) where
  within : i < length (map cell_of cells)
  within = omega (arith, length-map cells cell_of)

  cell-here : get_or (map cell_of cells) i (cell_of x) ≡ cell_of x
  cell-here = get_or-map cell_of cells i x (cell_of x) lt ∙ ap cell_of (sym here)

  pub args-here : args_at (map cell_of cells) i ≡ (cell_of x).args
  args-here = get_or-map (λ (c : CellData). c.args) (map cell_of cells) i (cell_of x) [] within ∙ ap (λ (c : CellData). c.args) cell-here

  take-here : take (i + 1) (map cell_of cells) ≡ take i (map cell_of cells) ++ cell_of x ∷ []
  take-here = take_more (map cell_of cells) i (cell_of x) within ∙ ap (λ y. take i (map cell_of cells) ++ y ∷ []) cell-here

  long-here : length (take i (map cell_of cells)) ≡ i
  long-here = let lt' = within in length-take-le i (map cell_of cells) (omega arith)

  module _ (first next : ℕ) (marks : List Bool) (slot : ℕ) (b : Bool) (numbers more : List ℕ) (kept new : List Cell)
      (mark : on marks i ≡ b) (at : slot ≡ next + length kept) (numbered : more ≡ numbers ++ slot ∷ [])
      (put : map cell_of new ≡ map cell_of kept ++ (if b then moved (number_of first numbers slot) (cell_of x) ∷ [] else []))
      (shows : Shows first next marks (take i (map cell_of cells)) numbers (map cell_of kept)) where
    slot-here : next + length (map cell_of kept) ≡ slot
    slot-here = let e = at in omega (arith, length-map kept cell_of)

    mark-here : on marks (length (take i (map cell_of cells))) ≡ b
    mark-here = let F : ℕ → Type 0 = λ z. on marks z ≡ b in subst F (sym long-here) mark

    ready-here : AreClosed first (map cell_of cells) marks → b ≡ true → Ready first marks (length (take i (map cell_of cells))) (cell_of x).args
    ready-here closed t =
        ready-from first marks (length (take i (map cell_of cells))) (cell_of x).args
        (λ k low m.
        let e = long-here in
        let G : List ℕ → Type 0 = λ xs. Names first xs k in
        closed i k (mark ∙ t) (omega arith) (subst G (sym args-here) m))

    pub shows-step : AreClosed first (map cell_of cells) marks → Shows first next marks (take (i + 1) (map cell_of cells)) more (map cell_of new)
    shows-step closed =
        let A : List CellData → Type 0 = λ xs. Shows first next marks xs more (map cell_of new) in
        let B : List ℕ → Type 0 = λ xs. Shows first next marks (take i (map cell_of cells) ++ cell_of x ∷ []) xs (map cell_of new) in
        let C : List CellData → Type 0 = λ xs. Shows first next marks (take i (map cell_of cells) ++ cell_of x ∷ []) (numbers ++ slot ∷ []) xs in
        let D : ℕ → Type 0 = λ z. Shows first next marks (take i (map cell_of cells) ++ cell_of x ∷ []) (numbers ++ z ∷ [])
        (map cell_of kept ++ (if b then moved (number_of first numbers z) (cell_of x) ∷ [] else [])) in
        subst A (sym take-here) (subst B (sym numbered) (subst C (sym put) (subst D slot-here
        (shows-more first next marks (take i (map cell_of cells)) numbers (map cell_of kept) shows (cell_of x) b mark-here (ready-here closed)))))

    pub owed-step : (slots : List ℕ) → AreMarked first (map cell_of cells) slots marks →
        AreOwed first next i slots marks (map cell_of cells) numbers (map cell_of kept) →
        AreOwed first next (i + 1) slots marks (map cell_of cells) more (map cell_of new)
    owed-step slots needs owed =
        let before = take i (map cell_of cells) in
        let O : ℕ → Type 0 = λ n. AreOwed first next n slots marks (map cell_of cells) numbers (map cell_of kept) in
        let B : List ℕ → Type 0 = λ xs. AreOwed first next (i + 1) slots marks (map cell_of cells) xs (map cell_of new) in
        let C : List CellData → Type 0 = λ xs. AreOwed first next (i + 1) slots marks (map cell_of cells) (numbers ++ slot ∷ []) xs in
        let D : ℕ → Type 0 = λ z. AreOwed first next (i + 1) slots marks (map cell_of cells) (numbers ++ z ∷ [])
        (map cell_of kept ++ (if b then moved (number_of first numbers z) (cell_of x) ∷ [] else [])) in
        let E : ℕ → Type 0 = λ n. AreOwed first next (n + 1) slots marks (map cell_of cells) (numbers ++ (next + length (map cell_of kept)) ∷ [])
        (map cell_of kept ++ (if b then moved (number_of first numbers (next + length (map cell_of kept))) (cell_of x) ∷ [] else [])) in
        let G : ℕ → Type 0 = λ z. args_at (map cell_of cells) z ≡ (cell_of x).args in
        subst B (sym numbered) (subst C (sym put) (subst D slot-here (subst E long-here
        (owed-more first next slots marks (map cell_of cells) before numbers (map cell_of kept) shows (subst O (sym long-here) owed)
        (cell_of x) b needs (subst G (sym long-here) args-here) mark-here))))
