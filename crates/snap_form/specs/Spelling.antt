-- What a snapshot is, and its one spelling (own). Numbers are big-endian.
use Rattle.std.specs.Prelude.{◌≡◌, ℕ, ◌+◌, ◌<◌, ◌≤◌, ◌^◌, List, [], ◌∷◌, ◌++◌, length, replicate, ◌==◌, if◌then◌else◌, codes, ⊤, is_some, true, unwrap_or}
use Rattle.std.specs.List.{flat_map, AllByRecursion}
use Rattle.vl_base.specs.declared.files.File.{File}
use Rattle.vl_base.specs.declared.files.OpenFile.{OpenFile}
use Rattle.vl_base.specs.Display.{places}
use Rattle.vl_base.specs.Files.{bytes_of, contents}
use Rattle.vl_base.specs.Value.{truth}
use Rattle.snap_form.specs.declared.snapshot.SnapRow.{SnapRow}
use Rattle.snap_form.specs.declared.snapshot.Snapshot.{Snapshot}

-- ---- what a snapshot is

-- how many words a row has: one where it is a variable, of which the row says 0
abbrev pub word_count : SnapRow → ℕ
word_count r = if r.words == 0 then 1 else r.words

-- the width of each word, one row behind the other
abbrev pub widths : List SnapRow → List ℕ
widths rows = flat_map (λ r. replicate (word_count r) r.width) rows

-- a width of 1 to 128
pub record HasWidth (r : SnapRow) : Type 0 where
  pub wide : 1 ≤ r.width
  pub narrow : r.width ≤ 128

pub record IsRow (r : SnapRow) : Type 0 where
  pub name : length r.name ≤ 255
  pub width : HasWidth r

-- just the words of these widths, each fitting its own
abbrev pub AreWords : List ℕ → List ℕ → Type 0
AreWords [] [] = ⊤
AreWords [] (v ∷ vs) = ⊥
AreWords (w ∷ ws) [] = ⊥
AreWords (w ∷ ws) (v ∷ vs) = (v < 2 ^ w) × AreWords ws vs

pub record IsOpen (f : OpenFile) : Type 0 where
  pub slot : f.slot ≤ 15
  pub name : length f.name ≤ 255

-- strictly ascending slots, the first not below `least`
abbrev pub Ascend : ℕ → List OpenFile → Type 0
Ascend least [] = ⊤
Ascend least (f ∷ fs) = (least ≤ f.slot) × Ascend (f.slot + 1) fs

-- a snapshot that is well-formed
pub record IsSnapshot (s : Snapshot) : Type 0 where
  pub rows : AllByRecursion IsRow s.rows
  pub words : AreWords (widths s.rows) s.words
  pub files : AllByRecursion IsOpen s.files
  pub slots : Ascend 0 s.files

-- ---- what its numbers have room for

pub record RowHasRoom (r : SnapRow) : Type 0 where
  pub name : length r.name < 2 ^ 16
  pub words : r.words < 2 ^ 32

pub record FileHasRoom (f : OpenFile) : Type 0 where
  pub name : length f.name < 2 ^ 16
  pub place : f.place < 2 ^ 64

-- the numbers fit their fields
pub record HasRoom (s : Snapshot) : Type 0 where
  pub tick : s.tick < 2 ^ 64
  pub many : length s.rows < 2 ^ 32
  pub rows : AllByRecursion RowHasRoom s.rows
  pub files : AllByRecursion FileHasRoom s.files

-- ---- a snapshot of a design and its files

-- a file of the set, open at a place that isn't past its end
pub record IsOpenIn (files : List File) (f : OpenFile) : Type 0 where
  pub slot : f.slot ≤ 15
  pub there : is_some (contents files f.name) ≡ true
  pub within : f.place ≤ length (unwrap_or (contents files f.name) [])

-- a snapshot of these rows, with open files of the set
pub record IsSnapshotOf (design : List SnapRow) (set : List File) (s : Snapshot) : Type 0 where
  pub rows : s.rows ≡ design
  pub words : AreWords (widths design) s.words
  pub files : AllByRecursion (IsOpenIn set) s.files
  pub slots : Ascend 0 s.files
  pub room : HasRoom s

-- ---- the spelling

-- a number in n bytes, the highest first
abbrev pub big_endian : ℕ → ℕ → List ℕ
big_endian n v = places 256 n v

abbrev pub magic : List ℕ
magic = codes "FABSNAP\n"

-- the length of the name, the name, the width, the words
abbrev pub row : SnapRow → List ℕ
row r = big_endian 2 (length r.name) ++ r.name ++ big_endian 1 r.width ++ big_endian 4 r.words

-- each word in as many bytes as its width wants
abbrev pub words : List ℕ → List ℕ → List ℕ
words [] vs = []
words (w ∷ ws) [] = []
words (w ∷ ws) (v ∷ vs) = big_endian (bytes_of w) v ++ words ws vs

-- the slot, the length of the name, the name, the place, the end flag
abbrev pub file : OpenFile → List ℕ
file f = big_endian 1 f.slot ++ big_endian 2 (length f.name) ++ f.name ++ big_endian 8 f.place ++ big_endian 1 (truth f.ended)

-- the magic, the version, the tick, the number of rows
abbrev pub heading : Snapshot → List ℕ
heading s = magic ++ big_endian 4 1 ++ big_endian 8 s.tick ++ big_endian 4 (length s.rows)

-- all rows, then all words, then the open files
abbrev pub spelt : Snapshot → List ℕ
spelt s = heading s ++ flat_map row s.rows ++ words (widths s.rows) s.words ++ big_endian 1 (length s.files) ++ flat_map file s.files
