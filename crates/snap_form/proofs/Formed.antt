-- Snapshots of a design and its files are well-formed.
use Rattle.std.proofs.Common.{◌≡◌, ℕ, zero, suc, ◌+◌, ◌-◌, ◌<◌, ◌≤◌, Bool, true, false, cond, Option, Some, None, List, [], ◌∷◌, length, Result, Ok, Err, refl, sym, ap, subst, ◌∙◌, arith, inl, inr, lit<}
use Rattle.std.specs.Prelude.{◌≢◌, ◌⊎◌, is_some, option_map}
use Rattle.std.specs.List.{AllByRecursion, find}
use Rattle.std.specs.Str.{bytes_eq}
use Rattle.std.proofs.lemmas.Bool.{cases_Bool}
use Rattle.std.proofs.lemmas.List.Elements.{recursion_from_All}
use Rattle.std.proofs.lemmas.Slice.Eq.{bytes_eq-Decides}
use Rattle.vl_base.specs.declared.files.File.{File}
use Rattle.vl_base.specs.declared.files.OpenFile.{OpenFile}
use Rattle.vl_base.specs.Files.{contents, IsFileSet}
use Rattle.snap_form.specs.declared.fault.Fault.{Fault}
use Rattle.snap_form.specs.declared.snapshot.SnapError.{SnapError}
use Rattle.snap_form.specs.declared.snapshot.SnapError.TheVariants as snap
use Rattle.snap_form.specs.declared.snapshot.SnapRow.{SnapRow}
use Rattle.snap_form.specs.declared.snapshot.Snapshot.{Snapshot}
use Rattle.snap_form.specs.Reading.{read, snapshot_at, at_offset}
use Rattle.snap_form.specs.Spelling.{spelt, widths, HasWidth, IsRow, IsOpen, IsOpenIn, AreWords, IsSnapshot, IsSnapshotOf}
use Rattle.snap_form.proofs.Numbers.{IsBytes}
use Rattle.snap_form.proofs.Whole.{read_again, snapshot_takes}
use Rattle.vl_base.proofs.Shared.{found_by}

-- a name that a set has is one of its names
short_name : (name : List ℕ) (set : List File) → AllByRecursion (λ f. length f.name ≤ 255) set → is_some (contents set name) ≡ true → length name ≤ 255
short_name name [] h e = absurd cc
short_name name (f ∷ fs) h e =
    elim (found_by (bytes_eq f.name name) f (find (λ g. bytes_eq g.name name) fs) e) [
      | inl q ↦ subst (λ (n : List ℕ). length n ≤ 255) ((bytes_eq-Decides f.name name).0 q) h.0
      | inr q ↦ short_name name fs h.1 q
    ]

all_open : (set : List File) (fs : List OpenFile) → AllByRecursion (λ f. length f.name ≤ 255) set → AllByRecursion (IsOpenIn set) fs → AllByRecursion IsOpen fs
all_open set [] h k = tt
all_open set (f ∷ fs) h k = (record { slot = k.0.slot; name = short_name f.name set h k.0.there }, all_open set fs h k.1)

pub well_formed : (rows : List SnapRow) (set : List File) (s : Snapshot) → AllByRecursion IsRow rows → IsFileSet set → IsSnapshotOf rows set s → IsSnapshot s
well_formed rows set s named is_set h = record {
  rows = subst (λ (d : List SnapRow). AllByRecursion IsRow d) (sym h.rows) named;
  words = subst (λ (d : List SnapRow). AreWords (widths d) s.words) (sym h.rows) h.words;
  files = all_open set s.files (recursion_from_All (λ f. length f.name ≤ 255) set is_set.short) h.files;
  slots = h.slots;
}

pub bytes_are : (bytes : List ℕ) → AllByRecursion (λ b. b < 256) bytes → IsBytes bytes
bytes_are [] h i = lit< tt
bytes_are (b ∷ bytes) h zero = h.0
bytes_are (b ∷ bytes) h (suc i) = bytes_are bytes h.1 i

abbrev Either : List SnapRow → List File → List ℕ → Type 0
Either rows set bytes = ((s : Snapshot) × IsSnapshotOf rows set s × (bytes ≡ spelt s)) ⊎ ((kind : ℕ) × (offset : ℕ) × (read rows set bytes ≡ Err (snap.Bad kind offset)))

either_by : (rows : List SnapRow) (set : List File) (bytes : List ℕ) (q : Result Snapshot Fault) → IsBytes bytes → snapshot_at rows set bytes ≡ q → Either rows set bytes
either_by rows set bytes (Ok s) fits e = let h = snapshot_takes rows set bytes s fits e in inl (s, h.0, h.1)
either_by rows set bytes (Err f) fits e = inr (f.kind, length bytes - f.left, ap (at_offset (length bytes)) e)

pub either : (rows : List SnapRow) (set : List File) (bytes : List ℕ) → AllByRecursion (λ b. b < 256) bytes → Either rows set bytes
either rows set bytes h = either_by rows set bytes (snapshot_at rows set bytes) (bytes_are bytes h) refl

differ : (s : Snapshot) (e : SnapError) (r : Result Snapshot SnapError) → r ≡ Ok s → r ≡ Err e → ⊥
differ s e r h k = absurd cc

pub never_both : (rows : List SnapRow) (set : List File) (s : Snapshot) (kind offset : ℕ) → AllByRecursion HasWidth rows → IsSnapshotOf rows set s → read rows set (spelt s) ≢ Err (snap.Bad kind offset)
never_both rows set s kind offset wide h e = differ s (snap.Bad kind offset) (read rows set (spelt s)) (read_again rows set s wide h) e
