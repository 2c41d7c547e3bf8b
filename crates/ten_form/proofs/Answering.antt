-- Answers of calls are below 2 ^ 32.
use Rattle.std.proofs.Common.{arith, ℕ, zero, suc, ◌+◌, ◌^◌, ◌<◌, ◌≤◌, Bool, true, false, List, [], ◌∷◌, drop, Option, Some, None}
use Rattle.std.specs.Prelude.{All, cond, not, is_some, unwrap_or, option_map, if◌then◌else◌}
use Rattle.std.specs.List.{AllByRecursion, find}
use Rattle.std.specs.Str.{bytes_eq}
use Rattle.std.proofs.Math.Nat.{div-le_self}
use Rattle.std.proofs.lemmas.List.{length-take}
use Rattle.std.proofs.lemmas.List.Elements.{recursion_from_All}
use Rattle.vl_design.specs.vl_base.specs.declared.files.File.{File}
use Rattle.vl_design.specs.vl_base.specs.declared.files.OpenFile.{OpenFile}
use Rattle.vl_design.specs.vl_base.specs.Files.{contents, opened, opened_at, free_slot, is_taken, next_character, character_of, character_read, bytes_left, bytes_of, read, reading_of, at_end, ended_of, open_file, slots}
use Rattle.vl_design.specs.vl_base.specs.Value.{truth}
use Rattle.ten_form.specs.Works.{HaveBytes}

-- ---- `$fopen`

found-small : (table : List OpenFile) (name : List ℕ) (p : ℕ → Bool) (xs : List ℕ) → AllByRecursion (λ k. k < 16) xs → (opened_at table name (find p xs)).answer < 2 ^ 32
found-small table name p [] h = omega arith
found-small table name p (x ∷ xs) h = at (p x) (found-small table name p xs h.1)
  where
    at : (q : Bool) → (opened_at table name (find p xs)).answer < 2 ^ 32 → (opened_at table name (cond q (Some x) (find p xs))).answer < 2 ^ 32
    at true g = let l = h.0 in omega (arith, l)
    at false g = g

few : AllByRecursion (λ k. k < 16) slots
few = (omega arith, (omega arith, (omega arith, (omega arith, (omega arith, (omega arith, (omega arith, (omega arith, (omega arith, (omega arith, (omega arith, (omega arith, (omega arith, (omega arith, (omega arith, (omega arith, tt))))))))))))))))

pub opened-small : (files : List File) (table : List OpenFile) (name : List ℕ) → (opened files table name).answer < 2 ^ 32
opened-small files table name = at (is_some (contents files name))
  where
    at : (q : Bool) → (opened_at table name (if q then free_slot table else None)).answer < 2 ^ 32
    at true = found-small table name (λ slot. not (is_taken table slot)) slots few
    at false = omega arith

-- ---- `$fgetc`

bytes-of : (files : List File) (name : List ℕ) → AllByRecursion (λ f. All (λ b. b < 2 ^ 8) f.bytes) files → AllByRecursion (λ b. b < 2 ^ 8) (unwrap_or (contents files name) [])
bytes-of [] name h = tt
bytes-of (f ∷ files) name h = at (bytes_eq f.name name) (bytes-of files name h.1)
  where
    at : (q : Bool) → AllByRecursion (λ b. b < 2 ^ 8) (unwrap_or (contents files name) []) → AllByRecursion (λ b. b < 2 ^ 8) (unwrap_or (option_map (λ f. f.bytes) (cond q (Some f) (find (λ f. bytes_eq f.name name) files))) [])
    at true g = recursion_from_All (λ b. b < 2 ^ 8) f.bytes h.0
    at false g = g

left-of : (xs : List ℕ) (n : ℕ) → AllByRecursion (λ b. b < 2 ^ 8) xs → AllByRecursion (λ b. b < 2 ^ 8) (drop n xs)
left-of xs zero h = h
left-of [] (suc n) h = tt
left-of (x ∷ xs) (suc n) h = left-of xs n h.1

read-small : (table : List OpenFile) (f : OpenFile) (xs : List ℕ) → AllByRecursion (λ b. b < 2 ^ 8) xs → (character_read table f xs).answer < 2 ^ 32
read-small table f [] h = omega arith
read-small table f (x ∷ xs) h = let l = h.0 in omega (arith, l)

pub character-small : (files : List File) (table : List OpenFile) (fd : ℕ) → HaveBytes files → (next_character files table fd).answer < 2 ^ 32
character-small files table fd h = at (open_file table fd)
  where
    at : (o : Option OpenFile) → (character_of files table o).answer < 2 ^ 32
    at None = omega arith
    at (Some f) = read-small table f (bytes_left files f) (left-of (unwrap_or (contents files f.name) []) f.place (bytes-of files f.name (recursion_from_All (λ f. All (λ b. b < 2 ^ 8) f.bytes) files h)))

-- ---- `$fread` and `$feof`

pub count-small : (files : List File) (table : List OpenFile) (fd w v : ℕ) → w ≤ 128 → (read files table fd w v).count < 2 ^ 32
count-small files table fd w v l = at (open_file table fd)
  where
    at : (o : Option OpenFile) → (reading_of files table o w v).count < 2 ^ 32
    at None = omega arith
    at (Some f) =
        let a = length-take (bytes_of w) (bytes_left files f) in
        let b = div-le_self (w + 7) 8 in
        omega (arith, a, b, l)

pub end-small : (table : List OpenFile) (fd : ℕ) → at_end table fd < 2 ^ 32
end-small table fd = at (open_file table fd)
  where
    of : (q : Bool) → truth q < 2 ^ 32
    of true = omega arith
    of false = omega arith

    at : (o : Option OpenFile) → ended_of o < 2 ^ 32
    at None = omega arith
    at (Some f) = of f.ended
