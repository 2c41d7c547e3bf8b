-- Ports, rows of snapshots and open files, one more.
use Rattle.std.proofs.Common.{◌≡◌, ℕ, zero, suc, ◌+◌, ◌<◌, ◌≤◌, Bool, true, false, List, [], ◌∷◌, ◌++◌, length, map, take, get_or, Option, Some, None, refl, sym, ap, ◌∙◌, subst, arith}
use Rattle.std.specs.Prelude.{if◌then◌else◌, slice_get}
use Rattle.std.specs.List.{AllByRecursion}
use Rattle.std.proofs.lemmas.List.{map_more, length-map, length-take-le, get_or-map}
use Rattle.std.proofs.lemmas.List.Elements.{All-from_recursion}
use Rattle.std.proofs.lemmas.Option.{same_Some}
use Rattle.vl_design.specs.vl_base.specs.declared.files.File.{File}
use Rattle.vl_design.specs.vl_base.specs.declared.files.OpenFile.{OpenFile}
use Rattle.vl_design.specs.declared.design.Signal.{Signal}
use Rattle.vl_design.specs.Rows as form
use Rattle.vl_design.specs.Snapshots.{is_kept}
use Rattle.vl_design.specs.Syntax.{Row}
use Rattle.trap_runtime.specs.cell_form.specs.declared.bank.Port.{Port}
use Rattle.snap_form.specs.declared.snapshot.SnapRow.{SnapRow}
use Rattle.ten_files.specs.declared.row.Row.{Row as OpenRow}
use Rattle.ten_files.specs.Tables.{name_at, open_from}
use Rattle.ten_plan.specs.Written.{rows_of}
use Rattle.ten_core.specs.Holding.{IsSized}
use Rattle.ten_core.specs.Ports.{port_of, ports_from, snap_row}
use Rattle.ten_core.proofs.Fitting.{rows_of_by}

-- the port of a signal, where it is kept
abbrev pub own_port : ℕ → Row → List Port
own_port k r = if is_kept r.kind then port_of k r ∷ [] else []

abbrev pub own_row : Row → List SnapRow
own_row r = if is_kept r.kind then snap_row r ∷ [] else []

ports-push : (k : ℕ) (rows : List Row) (r : Row) → ports_from k (rows ++ r ∷ []) ≡ ports_from k rows ++ own_port (k + length rows) r
ports-push k [] r = at (is_kept r.kind)
  where
    same : k ≡ k + 0
    same = omega arith

    at : (b : Bool) → (if b then port_of k r ∷ [] else []) ≡ (if b then port_of (k + 0) r ∷ [] else [])
    at b = ap (λ (n : ℕ). if b then port_of n r ∷ [] else []) same
ports-push k (q ∷ rows) r = at (ports-push (k + 1) rows r ∙ ap (λ (n : ℕ). ports_from (k + 1) rows ++ own_port n r) same) (is_kept q.kind)
  where
    same : (k + 1) + length rows ≡ k + suc (length rows)
    same = omega arith

    at : ports_from (k + 1) (rows ++ r ∷ []) ≡ ports_from (k + 1) rows ++ own_port (k + suc (length rows)) r → (b : Bool) → (if b then port_of k q ∷ ports_from (k + 1) (rows ++ r ∷ []) else ports_from (k + 1) (rows ++ r ∷ []))
        ≡ (if b then port_of k q ∷ ports_from (k + 1) rows else ports_from (k + 1) rows) ++ own_port (k + suc (length rows)) r
    at others true = ap (λ (ps : List Port). port_of k q ∷ ps) others
    at others false = others

rows-push : (rows : List Row) (r : Row) → rows_of (rows ++ r ∷ []) ≡ rows_of rows ++ own_row r
rows-push [] r = at (is_kept r.kind)
  where
    at : (b : Bool) → rows_of_by b r [] ≡ (if b then snap_row r ∷ [] else [])
    at true = refl
    at false = refl
rows-push (q ∷ rows) r = at (rows-push rows r) (is_kept q.kind)
  where
    at : rows_of (rows ++ r ∷ []) ≡ rows_of rows ++ own_row r → (b : Bool) → rows_of_by b q (rows ++ r ∷ []) ≡ rows_of_by b q rows ++ own_row r
    at others true = ap (λ (xs : List SnapRow). snap_row q ∷ xs) others
    at others false = others

module _ (signals : List Signal) (n : ℕ) (x : Signal) (lt : n < length signals) (is : x ≡ get_or signals n x) where
  abbrev before : List Row
  before = map form.row_of (take n signals)

  one-more : map form.row_of (take (n + 1) signals) ≡ before ++ form.row_of x ∷ []
  one-more = map_more form.row_of signals n x lt ∙ ap (λ (y : Signal). before ++ form.row_of y ∷ []) (sym is)

  so-many : 0 + length before ≡ n
  so-many = let long = length-map (take n signals) form.row_of ∙ length-take-le n signals (omega arith) in omega (arith, long)

  pub ports-more : ports_from 0 (map form.row_of (take (n + 1) signals)) ≡ ports_from 0 before ++ own_port n (form.row_of x)
  ports-more = ap (ports_from 0) one-more ∙ ports-push 0 before (form.row_of x) ∙ ap (λ (m : ℕ). ports_from 0 before ++ own_port m (form.row_of x)) so-many

  pub rows-more : rows_of (map form.row_of (take (n + 1) signals)) ≡ rows_of before ++ own_row (form.row_of x)
  rows-more = ap rows_of one-more ∙ rows-push before (form.row_of x)

-- a signal of a design
pub sized-at : (items : List Signal) (n : ℕ) (x : Signal) → n < length items → x ≡ get_or items n x → AllByRecursion IsSized (map form.row_of items) → IsSized (form.row_of x)
sized-at items n x lt is h =
    let long = length-map items form.row_of in
    subst IsSized (get_or-map form.row_of items n x (form.row_of x) lt ∙ ap form.row_of (sym is)) (All-from_recursion IsSized (map form.row_of items) h n (form.row_of x) (omega (arith, long, lt)))

pub signals-sized : (signals : List Signal) → AllByRecursion IsSized (map form.row_of signals) → AllByRecursion (λ x. IsSized (form.row_of x)) signals
signals-sized [] h = tt
signals-sized (x ∷ signals) h = (h.0, signals-sized signals h.1)

pub rows-sized : (signals : List Signal) → AllByRecursion (λ x. IsSized (form.row_of x)) signals → AllByRecursion IsSized (map form.row_of signals)
rows-sized [] h = tt
rows-sized (x ∷ signals) h = (h.0, rows-sized signals h.1)

-- ---- open files

open-push : (files : List File) (k : ℕ) (rows : List (Option OpenRow)) (row : Option OpenRow) → open_from files k (rows ++ row ∷ []) ≡ open_from files k rows ++ open_from files (k + length rows) (row ∷ [])
open-push files k [] row = let e : k ≡ k + 0 = omega arith in ap (λ (n : ℕ). open_from files n (row ∷ [])) e
open-push files k (None ∷ rows) row =
    let e : (k + 1) + length rows ≡ k + suc (length rows) = omega arith in
    open-push files (k + 1) rows row ∙ ap (λ (n : ℕ). open_from files (k + 1) rows ++ open_from files n (row ∷ [])) e
open-push files k (Some x ∷ rows) row =
    let e : (k + 1) + length rows ≡ k + suc (length rows) = omega arith in
    ap (λ (fs : List OpenFile). record { slot = k; name = name_at files x.file; place = x.place; ended = x.ended } ∷ fs)
    (open-push files (k + 1) rows row ∙ ap (λ (n : ℕ). open_from files (k + 1) rows ++ open_from files n (row ∷ [])) e)

take-one : (rows : List (Option OpenRow)) (n : ℕ) (row : Option OpenRow) → slice_get rows n ≡ Some row → take (suc n) rows ≡ take n rows ++ row ∷ []
take-one [] n row e = let z : ⊥ = cc in absurd z
take-one (x ∷ rows) zero row e = ap (λ (y : Option OpenRow). y ∷ []) (same_Some x row e)
take-one (x ∷ rows) (suc n) row e = ap (λ (ys : List (Option OpenRow)). x ∷ ys) (take-one rows n row e)

pub open-more : (files : List File) (rows : List (Option OpenRow)) (n : ℕ) (row : Option OpenRow) → n ≤ length rows → slice_get rows n ≡ Some row →
    open_from files 0 (take (n + 1) rows) ≡ open_from files 0 (take n rows) ++ open_from files n (row ∷ [])
open-more files rows n row le e =
    let next : n + 1 ≡ suc n = omega arith in
    let many : 0 + length (take n rows) ≡ n = omega (arith, length-take-le n rows le) in
    ap (λ (m : ℕ). open_from files 0 (take m rows)) next ∙ ap (open_from files 0) (take-one rows n row e) ∙ open-push files 0 (take n rows) row
    ∙ ap (λ (m : ℕ). open_from files 0 (take n rows) ++ open_from files m (row ∷ [])) many
