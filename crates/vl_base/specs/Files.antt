-- File sets and tables of open files (IEEE 1364-2005, clauses 17.2.1, 17.2.4 and 17.2.8).
use Rattle.std.specs.Prelude.{ℕ, ◌+◌, ◌-◌, ◌*◌, ◌/◌, ◌%◌, ◌^◌, ◌<◌, ◌≤◌, ◌≢◌, Bool, true, false, not, ◌||◌, if◌then◌else◌, ◌==◌, nat_lt, List, [], ◌∷◌, length, map, filter, take, drop, All, AllPairs, Option, Some, None, is_some, unwrap_or, option_map}
use Rattle.std.specs.List.{list_any, find, position}
use Rattle.std.specs.Str.{bytes_eq}
use Rattle.std.specs.Int.Digits.{number_from_digits}
use Rattle.vl_base.specs.declared.files.File.{File}
use Rattle.vl_base.specs.declared.files.OpenFile.{OpenFile}
use Rattle.vl_base.specs.Value.{truth}

-- the bytes of the file of a name, where the set has one
abbrev pub contents : List File → List ℕ → Option (List ℕ)
contents files name = option_map (λ f. f.bytes) (find (λ f. bytes_eq f.name name) files)

-- the place of the file of a name in the set, from 0
abbrev pub number_of : List File → List ℕ → Option ℕ
number_of files name = position (λ f. bytes_eq f.name name) files

-- what holds of each set of files: there are at most 16, of different names of at most 255 bytes
pub record IsFileSet (files : List File) : Type 0 where
  pub few : length files ≤ 16
  pub different : AllPairs (λ f g. f.name ≢ g.name) files
  pub short : All (λ f. length f.name ≤ 255) files
  pub bytes : All (λ f. All (λ b. b < 256) f.bytes) files

-- the descriptor of a slot: 32'h8000_0003 for the first (the three below are never open; own)
abbrev pub descriptor : ℕ → ℕ
descriptor slot = 0x8000_0003 + slot

-- the slots of a table
abbrev pub slots : List ℕ
slots = 0 ∷ 1 ∷ 2 ∷ 3 ∷ 4 ∷ 5 ∷ 6 ∷ 7 ∷ 8 ∷ 9 ∷ 10 ∷ 11 ∷ 12 ∷ 13 ∷ 14 ∷ 15 ∷ []

-- a file has the slot
abbrev pub is_taken : List OpenFile → ℕ → Bool
is_taken table slot = list_any (λ f. f.slot == slot) table

-- the lowest slot that no file has
abbrev pub free_slot : List OpenFile → Option ℕ
free_slot table = find (λ slot. not (is_taken table slot)) slots

-- the open file of a descriptor
abbrev pub open_file : List OpenFile → ℕ → Option OpenFile
open_file table fd = find (λ f. descriptor f.slot == fd) table

-- a table with one more file, in ascending order of slots
abbrev pub with_file : OpenFile → List OpenFile → List OpenFile
with_file file [] = file ∷ []
with_file file (f ∷ fs) = if nat_lt file.slot f.slot then file ∷ f ∷ fs else f ∷ with_file file fs

-- a table with what is known of one of its files replaced
abbrev pub with_row : OpenFile → List OpenFile → List OpenFile
with_row file table = map (λ f. if f.slot == file.slot then file else f) table

-- a table and the answer of a call, of 32 bits
pub record Answer : Type 0 where
  pub table : List OpenFile
  pub answer : ℕ

-- `$fopen` at a free slot, or where there is none
abbrev pub opened_at : List OpenFile → List ℕ → Option ℕ → Answer
opened_at table name None = record { table = table; answer = 0 }
opened_at table name (Some slot) = record {
  table = with_file (record { slot = slot; name = name; place = 0; ended = false }) table;
  answer = descriptor slot;
}

-- `$fopen(name, "r")`: the lowest free descriptor, open at the file's start; 0 where the set has no such file or none
-- is free (clause 17.2.1)
abbrev pub opened : List File → List OpenFile → List ℕ → Answer
opened files table name =
    opened_at table name (if is_some (contents files name) then free_slot table else None)

-- `$fclose(fd)`: the table without that file (clause 17.2.1)
abbrev pub closed : List OpenFile → ℕ → List OpenFile
closed table fd = filter (λ f. not (descriptor f.slot == fd)) table

-- the bytes of an open file from its place on
abbrev pub bytes_left : List File → OpenFile → List ℕ
bytes_left files file = drop file.place (unwrap_or (contents files file.name) [])

-- `$fgetc` on an open file that has these bytes left
abbrev pub character_read : List OpenFile → OpenFile → List ℕ → Answer
character_read table file [] = record {
  table = with_row (record file { ended = true }) table;
  answer = 2 ^ 32 - 1;
}
character_read table file (b ∷ bs) = record {
  table = with_row (record file { place = file.place + 1 }) table;
  answer = b;
}

-- `$fgetc` on a file where it is open
abbrev pub character_of : List File → List OpenFile → Option OpenFile → Answer
character_of files table None = record { table = table; answer = 2 ^ 32 - 1 }
character_of files table (Some file) = character_read table file (bytes_left files file)

-- `$fgetc(fd)`: the next byte, or -1 at the end or where fd isn't open (clause 17.2.4.1)
abbrev pub next_character : List File → List OpenFile → ℕ → Answer
next_character files table fd = character_of files table (open_file table fd)

-- `$feof` on a file where it is open
abbrev pub ended_of : Option OpenFile → ℕ
ended_of None = 1
ended_of (Some file) = truth file.ended

-- `$feof(fd)`: 1 once a read of fd was short or met the end, or where fd isn't open (clause 17.2.8)
abbrev pub at_end : List OpenFile → ℕ → ℕ
at_end table fd = ended_of (open_file table fd)

-- a table, the new value of the variable that `$fread` reads, and its answer: how many bytes were read
pub record Reading : Type 0 where
  pub table : List OpenFile
  pub value : ℕ
  pub count : ℕ

-- how many bytes `$fread` reads to a variable of w bits
abbrev pub bytes_of : ℕ → ℕ
bytes_of w = (w + 7) / 8

-- n bytes of a variable of w bits, of which the first ones are replaced by the bytes read, and the rest keeps its value
-- (own); bits past w are dropped
abbrev pub with_bytes : ℕ → ℕ → List ℕ → ℕ → ℕ
with_bytes w n got v =
    let rest = 2 ^ (8 * (n - length got)) in
    (number_from_digits 256 got * rest + v % rest) % 2 ^ w

-- `$fread` on an open file, of which it reads these bytes of n
abbrev pub bytes_read : List OpenFile → OpenFile → ℕ → ℕ → List ℕ → ℕ → Reading
bytes_read table file w n got v = record {
  table = with_row (record file { place = file.place + length got; ended = file.ended || nat_lt (length got) n }) table;
  value = with_bytes w n got v;
  count = length got;
}

-- `$fread` on a file where it is open
abbrev pub reading_of : List File → List OpenFile → Option OpenFile → ℕ → ℕ → Reading
reading_of files table None w v = record { table = table; value = v; count = 0 }
reading_of files table (Some file) w v =
    bytes_read table file w (bytes_of w) (take (bytes_of w) (bytes_left files file)) v

-- `$fread(v, fd)` to a variable of w bits: as many bytes as the variable has, the first at the top; fewer at the end of
-- the file; none where fd isn't open (clause 17.2.4.4)
abbrev pub read : List File → List OpenFile → ℕ → ℕ → ℕ → Reading
read files table fd w v = reading_of files table (open_file table fd) w v
