-- The bits of registers.
use Rattle.std.proofs.Common.{◌≡◌, Bool, true, false, ℕ, suc, ◌+◌, ◌-◌, ◌*◌, ◌≤◌, List, [], ◌∷◌, ◌++◌, Some, inl, refl, sym, ap, ◌∙◌, arith, subst}
use Rattle.std.specs.Prelude.{if◌then◌else◌, slice_get}
use Rattle.std.specs.List.{sum_by, flat_map}
use Rattle.std.proofs.lemmas.List.Sums.{sum_by-cons}
use Rattle.ten_core.specs.vl_design.specs.declared.design.SigKind.{SigKind}
use Rattle.ten_core.specs.vl_design.specs.declared.design.SigKind.TheVariants as k
use Rattle.ten_core.specs.vl_design.specs.Cost.{row_regs, cost}
use Rattle.ten_core.specs.vl_design.specs.Syntax.{Row, Flat}
use Rattle.ten_core.specs.vl_design.specs.Width.{signal_form}
use Rattle.sub_runs.specs.vl_runs.specs.Computed.{is_computed, is_computed_row}
use Rattle.cell_states.specs.cell_waves.specs.Copies.{has_copy}
use Rattle.cell_states.specs.Widths.{rows_widths, store_widths, register_widths}
use Rattle.ten_core.specs.ten_form.specs.declared.store.Store.{Store}
use Rattle.ten_core.specs.ten_form.specs.Banks.{stores_in}
use Rattle.ten_core.specs.ten_form.specs.Delays.{is_delayed, DelaysVariables}
use Rattle.ten_make.specs.Slack.{store_bits, word_bits, register_slack}

abbrev total : List ℕ → ℕ
total xs = sum_by (λ w. w) xs

total-cons : (x : ℕ) (xs : List ℕ) → total (x ∷ xs) ≡ x + total xs
total-cons x xs = sum_by-cons (λ w. w) x xs

total-both : (xs ys : List ℕ) → total (xs ++ ys) ≡ total xs + total ys
total-both [] ys = (let z : total [] ≡ 0 = refl in let e : total ([] ++ ys) ≡ total ys = refl in omega (arith, z, e))
total-both (x ∷ xs) ys = (let a = total-cons x (xs ++ ys) in let b = total-cons x xs in let r = total-both xs ys in omega (arith, a, b, r))

total-four : (a b c e : ℕ) (xs : List ℕ) → total (a ∷ b ∷ c ∷ e ∷ xs) ≡ a + (b + (c + (e + total xs)))
total-four a b c e xs = (
    let p = total-cons a (b ∷ c ∷ e ∷ xs) in
    let q = total-cons b (c ∷ e ∷ xs) in
    let r = total-cons c (e ∷ xs) in
    let s = total-cons e xs in
    omega (arith, p, q, r, s))

-- ---- signals

-- what is pending of a signal
abbrev pending : Bool → ℕ → SigKind → ℕ → ℕ
pending late copy kind w = if late then (if has_copy copy kind then w else 0) else 0

row-bits : (late : Bool) (kind : SigKind) (w : ℕ) → (is_computed kind ≡ true → late ≡ false) →
    (if has_copy 3 kind then w else 0) + ((if has_copy 4 kind then w else 0) + (pending late 5 kind w + pending late 6 kind w)) ≤ row_regs kind w
row-bits true k.Net w f = (let z = f refl in let no : ⊥ = cc in absurd no)
row-bits true k.Var w f = omega arith
row-bits true k.Comb w f = omega arith
row-bits true k.Loop w f = omega arith
row-bits true k.Mem w f = omega arith
row-bits true k.Clock w f = omega arith
row-bits false k.Net w f = omega arith
row-bits false k.Var w f = omega arith
row-bits false k.Comb w f = omega arith
row-bits false k.Loop w f = omega arith
row-bits false k.Mem w f = omega arith
row-bits false k.Clock w f = omega arith

rows-bits : (d : Flat) (n : ℕ) (rows : List Row) → ((j m : ℕ) (r : Row) → slice_get rows j ≡ Some r → m ≡ n + j → is_computed r.kind ≡ true → is_delayed d m ≡ false) →
    total (rows_widths d n rows) ≤ sum_by (λ (r : Row). row_regs r.kind r.width) rows
rows-bits d n [] f = omega arith
rows-bits d n (r ∷ rs) f = (
    let late = is_delayed d n in
    let t = total-four (if has_copy 3 r.kind then r.width else 0) (if has_copy 4 r.kind then r.width else 0) (pending late 5 r.kind r.width) (pending late 6 r.kind r.width) (rows_widths d (n + 1) rs) in
    let a = sum_by-cons (λ (q : Row). row_regs q.kind q.width) r rs in
    let one = row-bits late r.kind r.width (f 0 n r refl (omega arith)) in
    let more = rows-bits d (n + 1) rs (λ j m q h e. f (suc j) m q h (omega (arith, e))) in
    omega (arith, t, a, one, more))

-- ---- stores

stores-bits : (rows : List Row) (xs : List Store) → total (flat_map (store_widths rows) xs) ≡ sum_by (store_bits rows) xs
stores-bits rows [] = refl
stores-bits rows (x ∷ xs) = (
    let w = (signal_form rows x.memory).width in
    let t = total-four 1 32 w w (flat_map (store_widths rows) xs) in
    let a = sum_by-cons (store_bits rows) x xs in
    let more = stores-bits rows xs in
    omega (arith, t, a, more))

-- ---- a design

pub registers-within : (d : Flat) → DelaysVariables d → total (register_widths d) ≤ (cost d).regs + register_slack d
registers-within d variables = (
    let rows = rows_widths d 0 d.rows in
    let stores = flat_map (store_widths d.rows) (stores_in d) in
    let p = total-cons 32 (32 ∷ 32 ∷ (rows ++ stores)) in
    let q = total-cons 32 (32 ∷ (rows ++ stores)) in
    let r = total-cons 32 (rows ++ stores) in
    let s = total-both rows stores in
    let a = rows-bits d 0 d.rows (λ j m q h e c. (let same : j ≡ m = omega (arith, e) in subst (λ i. is_delayed d i ≡ false) same (variables j (inl (ap is_computed_row h ∙ c))))) in
    let b = stores-bits d.rows (stores_in d) in
    omega (arith, p, q, r, s, a, b))
