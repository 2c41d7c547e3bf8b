-- Tables of files of a set.
use Rattle.std.proofs.Common.{◌≡◌, ◌≤◌, ◌+◌, subst, ℕ, List, length, set}
use Rattle.std.specs.Prelude.{Option, Some, None, slice_get}
use Rattle.std.specs.Option.{ForSome}
use Rattle.std.proofs.lemmas.List.Elements.{All-set}
use Rattle.std.proofs.lemmas.Option.{same_Some, none-some, slice_get_within, get_or_from_slice_get}
use Rattle.vl_base.specs.declared.files.File.{File}
use Rattle.ten_files.specs.declared.row.Row.{Row}
use Rattle.ten_files.specs.Tables.{bytes_at, row_after, IsRowOf, IsTableOf}

module _ (files : List File) where
  some-fits : (r : Row) → IsRowOf files r → ForSome (Some r) (IsRowOf files)
  some-fits r h = λ x e. subst (IsRowOf files) (same_Some r x e) h

  none-fits : ForSome None (IsRowOf files)
  none-fits = λ x e. absurd (none-some x e)

  pub fits-set : (rows : List (Option Row)) (i : ℕ) (r : Row) → IsRowOf files r → IsTableOf files rows → IsTableOf files (set rows i (Some r))
  fits-set rows i r h k = All-set (λ row. ForSome row (IsRowOf files)) rows i (Some r) (some-fits r h) k

  pub fits-none : (rows : List (Option Row)) (i : ℕ) → IsTableOf files rows → IsTableOf files (set rows i None)
  fits-none rows i k = All-set (λ row. ForSome row (IsRowOf files)) rows i None none-fits k

  pub fits-get : (rows : List (Option Row)) (i : ℕ) (r : Row) → slice_get rows i ≡ Some (Some r) → IsTableOf files rows → IsRowOf files r
  fits-get rows i r g k =
      k i None (slice_get_within rows i (Some r) g) r (get_or_from_slice_get rows i (Some r) None g)

  -- behind a read of no more bytes than are left
  pub fits-after : (r : Row) (count n : ℕ) → IsRowOf files r → r.place + count ≤ length (bytes_at files r.file) → IsRowOf files (row_after r count n)
  fits-after r count n h l = record { there = h.there; within = l }
