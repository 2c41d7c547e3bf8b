-- Snapshots read from left to right, up to the first fault (own).
use Rattle.std.specs.Prelude.{◌≡◌, ℕ, zero, suc, ◌+◌, ◌-◌, ◌^◌, Bool, ◌&&◌, ◌==◌, nat_lt, nat_le, if◌then◌else◌, List, [], ◌∷◌, ◌++◌, length, take, drop, is_some, unwrap_or, Result, Ok, Err, ⊤}
use Rattle.std.specs.Int.Digits.{number_from_digits}
use Rattle.std.specs.Str.{bytes_eq}
use Rattle.vl_base.specs.declared.files.File.{File}
use Rattle.vl_base.specs.declared.files.OpenFile.{OpenFile}
use Rattle.vl_base.specs.Files.{bytes_of, contents}
use Rattle.snap_form.specs.declared.fault.Fault.{Fault}
use Rattle.snap_form.specs.declared.fault.ReadError.{ReadError}
use Rattle.snap_form.specs.declared.fault.ReadError.TheVariants as errors
use Rattle.snap_form.specs.declared.snapshot.SnapError.{SnapError}
use Rattle.snap_form.specs.declared.snapshot.SnapError.TheVariants as snap
use Rattle.snap_form.specs.declared.snapshot.SnapRow.{SnapRow}
use Rattle.snap_form.specs.declared.snapshot.Snapshot.{Snapshot}
use Rattle.snap_form.specs.Spelling.{magic, widths}

infixl 10 ◌>>=◌
abbrev pub ◌>>=◌ : {A B : Type 0} → Result A Fault → (A → Result B Fault) → Result B Fault
(Ok x) >>= f = f x
(Err e) >>= f = Err e

-- ---- fields: each is a value and the bytes behind it

-- a fault of a kind at the place where these bytes begin
abbrev pub fault : ℕ → List ℕ → Fault
fault kind left = record { kind = kind; left = length left }

-- n bytes; 3: the bytes end inside
abbrev pub field : ℕ → List ℕ → Result (List ℕ × List ℕ) Fault
field n left = if nat_lt (length left) n then Err (fault 3 []) else Ok (take n left, drop n left)

-- a number in n bytes
unfoldable pub number : ℕ → List ℕ → Result (ℕ × List ℕ) Fault
number n left = do
  bytes ← field n left
  Ok (number_from_digits 256 bytes.0, bytes.1)

-- a number that has to pass a test
unfoldable pub number_if : (ℕ → Bool) → ℕ → ℕ → List ℕ → Result (ℕ × List ℕ) Fault
number_if passes kind n left = do
  x ← number n left
  if passes x.0 then Ok x else Err (fault kind left)

-- just this number
unfoldable pub same_number : ℕ → ℕ → ℕ → List ℕ → Result (List ℕ) Fault
same_number value kind n left = do
  x ← number_if (λ n. n == value) kind n left
  Ok x.1

-- just these bytes
unfoldable pub same_bytes : List ℕ → ℕ → List ℕ → Result (List ℕ) Fault
same_bytes value kind left = do
  x ← field (length value) left
  if bytes_eq x.0 value then Ok x.1 else Err (fault kind left)

-- ---- the parts of a snapshot

-- 1: another magic; 2: another version; the tick; 5: the number of rows differs
unfoldable pub heading_at : ℕ → List ℕ → Result (ℕ × List ℕ) Fault
heading_at rows left = do
  version ← same_bytes magic 1 left
  tick ← same_number 1 2 4 version
  count ← number 8 tick
  rest ← same_number rows 5 4 count.1
  Ok (count.0, rest)

-- 5: the length of the name, the name, the width or the words differ
unfoldable pub row_at : SnapRow → List ℕ → Result (List ℕ) Fault
row_at row left = do
  name ← same_number (length row.name) 5 2 left
  width ← same_bytes row.name 5 name
  words ← same_number row.width 5 1 width
  same_number row.words 5 4 words

unfoldable pub rows_at : List SnapRow → List ℕ → Result (List ℕ) Fault
rows_at [] left = Ok left
rows_at (row ∷ rows) left = do
  rest ← row_at row left
  rows_at rows rest

-- a number fits a width
abbrev pub fits : ℕ → ℕ → Bool
fits w v = nat_lt v (2 ^ w)

-- 6: a word has more bits than its width
abbrev pub word_at : ℕ → List ℕ → Result (ℕ × List ℕ) Fault
word_at w left = number_if (fits w) 6 (bytes_of w) left

-- words of these widths, behind those before
unfoldable pub words_at : List ℕ → List ℕ → List ℕ → Result (List ℕ × List ℕ) Fault
words_at [] before left = Ok (before, left)
words_at (w ∷ ws) before left = do
  word ← word_at w left
  words_at ws (before ++ word.0 ∷ []) word.1

-- 7: the slot isn't above the one before it, or is above 15
unfoldable pub slot_at : ℕ → List ℕ → Result (ℕ × List ℕ) Fault
slot_at least left = number_if (λ slot. nat_le least slot && nat_le slot 15) 7 1 left

-- 7: no file of the set has the name
unfoldable pub name_at : List File → List ℕ → Result (List ℕ × List ℕ) Fault
name_at files left = do
  size ← number 2 left
  name ← field size.0 size.1
  if is_some (contents files name.0) then Ok name else Err (fault 7 size.1)

-- how many bytes the file of a name has; 0 where there is none
abbrev pub size_of : List File → List ℕ → ℕ
size_of files name = length (unwrap_or (contents files name) [])

-- 7: the place is past the end of the file
unfoldable pub place_at : List File → List ℕ → List ℕ → Result (ℕ × List ℕ) Fault
place_at files name left = number_if (λ place. nat_le place (size_of files name)) 7 8 left

-- 7: the end flag isn't 0 or 1
unfoldable pub flag_at : List ℕ → Result (ℕ × List ℕ) Fault
flag_at left = number_if (λ flag. nat_le flag 1) 7 1 left

unfoldable pub file_at : List File → ℕ → List ℕ → Result (OpenFile × List ℕ) Fault
file_at files least left = do
  slot ← slot_at least left
  name ← name_at files slot.1
  place ← place_at files name.0 name.1
  flag ← flag_at place.1
  Ok (record { slot = slot.0; name = name.0; place = place.0; ended = flag.0 == 1 }, flag.1)

-- so many open files, behind those before, from a least slot on
unfoldable pub files_at : List File → ℕ → ℕ → List OpenFile → List ℕ → Result (List OpenFile × List ℕ) Fault
files_at files zero least before left = Ok (before, left)
files_at files (suc n) least before left = do
  first ← file_at files least left
  files_at files n (first.0.slot + 1) (before ++ first.0 ∷ []) first.1

-- all open files; 4: bytes follow the snapshot
unfoldable pub last_at : List File → List ℕ → Result (List OpenFile) Fault
last_at files left = do
  count ← number 1 left
  table ← files_at files count.0 0 [] count.1
  if length table.1 == 0 then Ok table.0 else Err (fault 4 table.1)

unfoldable pub snapshot_at : List SnapRow → List File → List ℕ → Result Snapshot Fault
snapshot_at rows files left = do
  tick ← heading_at (length rows) left
  heads ← rows_at rows tick.1
  words ← words_at (widths rows) [] heads
  table ← last_at files words.1
  Ok (record { tick = tick.0; rows = rows; words = words.0; files = table })

-- ---- what is said of the bytes

-- faults at their offset in bytes of a size
abbrev pub at_offset : ℕ → Result Snapshot Fault → Result Snapshot SnapError
at_offset size (Ok s) = Ok s
at_offset size (Err f) = Err (snap.Bad f.kind (size - f.left))

-- the snapshot that the bytes spell, or their first fault
abbrev pub read : List SnapRow → List File → List ℕ → Result Snapshot SnapError
read rows files bytes = at_offset (length bytes) (snapshot_at rows files bytes)

-- a result is this outcome, unless memory ran out
abbrev pub Tells : Result Snapshot SnapError → Result Snapshot SnapError → Type 0
Tells (Err snap.Memory) outcome = ⊤
Tells result outcome = result ≡ outcome

-- ---- what a part of the code gives: seen by view what reading gives, unless memory ran out

abbrev pub Fails : {Y : Type 0} → ReadError → Result Y Fault → Type 0
Fails errors.Memory reading = ⊤
Fails (errors.Fault f) reading = reading ≡ Err f

abbrev pub Gives : {X Y : Type 0} → (X → Y) → Result X ReadError → Result Y Fault → Type 0
Gives view (Ok x) reading = reading ≡ Ok (view x)
Gives view (Err e) reading = Fails e reading
