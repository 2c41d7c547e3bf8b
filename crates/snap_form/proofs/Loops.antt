-- The steps of loops over rows, words and files.
use Rattle.std.proofs.Common.{◌≡◌, ℕ, zero, suc, ◌+◌, ◌-◌, ◌<◌, ◌≤◌, ◌^◌, List, [], ◌∷◌, ◌++◌, length, take, drop, get_or, replicate, Result, Ok, Err, refl, sym, ap, subst, ◌∙◌, append_assoc, arith}
use Rattle.std.specs.List.{flat_map, AllByRecursion}
use Rattle.std.proofs.lemmas.List.{drop_more, append-nil, drop_all, length-take-le}
use Rattle.std.proofs.lemmas.List.Elements.{All-from_recursion}
use Rattle.vl_base.specs.declared.files.File.{File}
use Rattle.vl_base.specs.declared.files.OpenFile.{OpenFile}
use Rattle.vl_base.specs.Files.{bytes_of}
use Rattle.snap_form.specs.declared.fault.Fault.{Fault}
use Rattle.snap_form.specs.declared.fault.ReadError.{ReadError}
use Rattle.snap_form.specs.declared.fault.ReadError.TheVariants as errors
use Rattle.snap_form.specs.declared.snapshot.SnapRow.{SnapRow}
use Rattle.snap_form.specs.Reading.{◌>>=◌, Fails, row_at, rows_at, word_at, words_at, file_at, files_at}
use Rattle.snap_form.specs.Spelling.{big_endian, widths, word_count, words, AreWords, HasWidth, IsRow}
use Rattle.vl_base.proofs.Lists.{drop_next as next}

-- what fails at its first step fails
pub fails-then : {A B : Type 0} (e : ReadError) (r : Result A Fault) (f : A → Result B Fault) → Fails e r → Fails e (r >>= f)
fails-then errors.Memory r f h = tt
fails-then (errors.Fault d) r f h = ap (λ x. x >>= f) h

pub bind-same : {A B : Type 0} (r : Result A Fault) (f g : A → Result B Fault) → ((x : A) → f x ≡ g x) → (r >>= f) ≡ (r >>= g)
bind-same (Ok x) f g h = h x
bind-same (Err e) f g h = refl

pub bind-assoc : {A B C : Type 0} (r : Result A Fault) (f : A → Result B Fault) (g : B → Result C Fault) → ((r >>= f) >>= g) ≡ (r >>= λ x. (f x >>= g))
bind-assoc (Ok x) f g = refl
bind-assoc (Err e) f g = refl

-- ---- rows

rows-split : (rows : List SnapRow) (i : ℕ) (r : SnapRow) (left : List ℕ) → i < length rows → r ≡ get_or rows i r → rows_at (drop i rows) left ≡ (row_at r left >>= λ rest. rows_at (drop (i + 1) rows) rest)
unfolding rows_at
rows-split rows i r left lt is = ap (λ rs. rows_at rs left) (next rows i r lt is)

pub rows-next : (rows : List SnapRow) (i : ℕ) (r : SnapRow) (left after : List ℕ) (total : Result (List ℕ) Fault) → i < length rows → r ≡ get_or rows i r → row_at r left ≡ Ok after
    → rows_at (drop i rows) left ≡ total → rows_at (drop (i + 1) rows) after ≡ total
rows-next rows i r left after total lt is h so_far =
    sym (rows-split rows i r left lt is ∙ ap (λ x. x >>= λ rest. rows_at (drop (i + 1) rows) rest) h) ∙ so_far

pub rows-fail : (e : ReadError) (rows : List SnapRow) (i : ℕ) (r : SnapRow) (left : List ℕ) (total : Result (List ℕ) Fault) → i < length rows → r ≡ get_or rows i r → Fails e (row_at r left)
    → rows_at (drop i rows) left ≡ total → Fails e total
rows-fail e rows i r left total lt is h so_far =
    subst (Fails e) (sym (rows-split rows i r left lt is) ∙ so_far) (fails-then e (row_at r left) (λ rest. rows_at (drop (i + 1) rows) rest) h)

pub rows-done : (rows : List SnapRow) (i : ℕ) (left : List ℕ) (total : Result (List ℕ) Fault) → length rows ≤ i → rows_at (drop i rows) left ≡ total → total ≡ Ok left
unfolding rows_at
rows-done rows i left total le so_far = sym so_far ∙ ap (λ rs. rows_at rs left) (drop_all i rows le)

-- ---- words of one width

words-split : (count i w : ℕ) (before left : List ℕ) → i < count → words_at (replicate (count - i) w) before left ≡ (word_at w left >>= λ x. words_at (replicate (count - (i + 1)) w) (before ++ x.0 ∷ []) x.1)
unfolding words_at
words-split count i w before left lt =
    let k : count - i ≡ suc (count - (i + 1)) = omega arith in
    ap (λ n. words_at (replicate n w) before left) k

pub words-next : (count i w : ℕ) (before : List ℕ) (v : ℕ) (left after : List ℕ) (total : Result (List ℕ × List ℕ) Fault) → i < count → word_at w left ≡ Ok (v, after)
    → words_at (replicate (count - i) w) before left ≡ total → words_at (replicate (count - (i + 1)) w) (before ++ v ∷ []) after ≡ total
words-next count i w before v left after total lt h so_far =
    sym (words-split count i w before left lt ∙ ap (λ r. r >>= λ x. words_at (replicate (count - (i + 1)) w) (before ++ x.0 ∷ []) x.1) h) ∙ so_far

pub words-fail : (e : ReadError) (count i w : ℕ) (before left : List ℕ) (total : Result (List ℕ × List ℕ) Fault) → i < count → Fails e (word_at w left)
    → words_at (replicate (count - i) w) before left ≡ total → Fails e total
words-fail e count i w before left total lt h so_far =
    subst (Fails e) (sym (words-split count i w before left lt) ∙ so_far) (fails-then e (word_at w left) (λ x. words_at (replicate (count - (i + 1)) w) (before ++ x.0 ∷ []) x.1) h)

pub words-done : (count i w : ℕ) (before left : List ℕ) (total : Result (List ℕ × List ℕ) Fault) → count ≤ i → words_at (replicate (count - i) w) before left ≡ total → total ≡ Ok (before, left)
unfolding words_at
words-done count i w before left total le so_far =
    let k : count - i ≡ 0 = omega arith in
    sym so_far ∙ ap (λ n. words_at (replicate n w) before left) k

-- ---- words of rows

pub words-append : (xs ys before left : List ℕ) → words_at (xs ++ ys) before left ≡ (words_at xs before left >>= λ x. words_at ys x.0 x.1)
unfolding words_at
words-append [] ys before left = refl
words-append (w ∷ xs) ys before left =
    bind-same (word_at w left) (λ x. words_at (xs ++ ys) (before ++ x.0 ∷ []) x.1) (λ x. words_at xs (before ++ x.0 ∷ []) x.1 >>= λ y. words_at ys y.0 y.1) (λ x. words-append xs ys (before ++ x.0 ∷ []) x.1)
    ∙ sym (bind-assoc (word_at w left) (λ x. words_at xs (before ++ x.0 ∷ []) x.1) (λ y. words_at ys y.0 y.1))

values-split : (rows : List SnapRow) (i : ℕ) (r : SnapRow) (before left : List ℕ) → i < length rows → r ≡ get_or rows i r
    → words_at (widths (drop i rows)) before left ≡ (words_at (replicate (word_count r) r.width) before left >>= λ x. words_at (widths (drop (i + 1) rows)) x.0 x.1)
values-split rows i r before left lt is =
    ap (λ rs. words_at (widths rs) before left) (next rows i r lt is) ∙ words-append (replicate (word_count r) r.width) (widths (drop (i + 1) rows)) before left

pub values-next : (rows : List SnapRow) (i n : ℕ) (r : SnapRow) (before left more after : List ℕ) (total : Result (List ℕ × List ℕ) Fault) → i < length rows → r ≡ get_or rows i r → n ≡ word_count r
    → words_at (replicate n r.width) before left ≡ Ok (more, after) → words_at (widths (drop i rows)) before left ≡ total → words_at (widths (drop (i + 1) rows)) more after ≡ total
values-next rows i n r before left more after total lt is count h so_far =
    let own : words_at (replicate (word_count r) r.width) before left ≡ Ok (more, after) = ap (λ k. words_at (replicate k r.width) before left) (sym count) ∙ h in
    sym (values-split rows i r before left lt is ∙ ap (λ y. y >>= λ x. words_at (widths (drop (i + 1) rows)) x.0 x.1) own) ∙ so_far

pub values-fail : (e : ReadError) (rows : List SnapRow) (i n : ℕ) (r : SnapRow) (before left : List ℕ) (total : Result (List ℕ × List ℕ) Fault) → i < length rows → r ≡ get_or rows i r → n ≡ word_count r
    → Fails e (words_at (replicate n r.width) before left) → words_at (widths (drop i rows)) before left ≡ total → Fails e total
values-fail e rows i n r before left total lt is count h so_far =
    let own : Fails e (words_at (replicate (word_count r) r.width) before left) = subst (λ k. Fails e (words_at (replicate k r.width) before left)) count h in
    subst (Fails e) (sym (values-split rows i r before left lt is) ∙ so_far) (fails-then e (words_at (replicate (word_count r) r.width) before left) (λ x. words_at (widths (drop (i + 1) rows)) x.0 x.1) own)

pub values-done : (rows : List SnapRow) (i : ℕ) (before left : List ℕ) (total : Result (List ℕ × List ℕ) Fault) → length rows ≤ i → words_at (widths (drop i rows)) before left ≡ total → total ≡ Ok (before, left)
unfolding words_at
values-done rows i before left total le so_far = sym so_far ∙ ap (λ rs. words_at (widths rs) before left) (drop_all i rows le)

-- ---- files

files-split : (files : List File) (count i least : ℕ) (before : List OpenFile) (left : List ℕ) → i < count
    → files_at files (count - i) least before left ≡ (file_at files least left >>= λ x. files_at files (count - (i + 1)) (x.0.slot + 1) (before ++ x.0 ∷ []) x.1)
unfolding files_at
files-split files count i least before left lt =
    let k : count - i ≡ suc (count - (i + 1)) = omega arith in
    ap (λ n. files_at files n least before left) k

pub files-next : (files : List File) (count i least : ℕ) (before : List OpenFile) (f : OpenFile) (left after : List ℕ) (total : Result (List OpenFile × List ℕ) Fault) → i < count → file_at files least left ≡ Ok (f, after)
    → files_at files (count - i) least before left ≡ total → files_at files (count - (i + 1)) (f.slot + 1) (before ++ f ∷ []) after ≡ total
files-next files count i least before f left after total lt h so_far =
    sym (files-split files count i least before left lt ∙ ap (λ r. r >>= λ x. files_at files (count - (i + 1)) (x.0.slot + 1) (before ++ x.0 ∷ []) x.1) h) ∙ so_far

pub files-fail : (e : ReadError) (files : List File) (count i least : ℕ) (before : List OpenFile) (left : List ℕ) (total : Result (List OpenFile × List ℕ) Fault) → i < count → Fails e (file_at files least left)
    → files_at files (count - i) least before left ≡ total → Fails e total
files-fail e files count i least before left total lt h so_far =
    subst (Fails e) (sym (files-split files count i least before left lt) ∙ so_far) (fails-then e (file_at files least left) (λ x. files_at files (count - (i + 1)) (x.0.slot + 1) (before ++ x.0 ∷ []) x.1) h)

pub files-done : (files : List File) (count i least : ℕ) (before : List OpenFile) (left : List ℕ) (total : Result (List OpenFile × List ℕ) Fault) → count ≤ i → files_at files (count - i) least before left ≡ total → total ≡ Ok (before, left)
unfolding files_at
files-done files count i least before left total le so_far =
    let k : count - i ≡ 0 = omega arith in
    sym so_far ∙ ap (λ n. files_at files n least before left) k

-- ---- writing words

pub put-next : (w v : ℕ) (vs : List ℕ) (i : ℕ) (out total : List ℕ) → i < length vs → v ≡ get_or vs i 0
    → out ++ words (replicate (length vs - i) w) (drop i vs) ≡ total → (out ++ big_endian (bytes_of w) v) ++ words (replicate (length vs - (i + 1)) w) (drop (i + 1) vs) ≡ total
put-next w v vs i out total lt is so_far =
    let k : length vs - i ≡ suc (length vs - (i + 1)) = omega arith in
    let here : drop i vs ≡ v ∷ drop (i + 1) vs = drop_more vs i 0 lt ∙ ap (λ y. y ∷ drop (i + 1) vs) (sym is) in
    let e : words (replicate (length vs - i) w) (drop i vs) ≡ big_endian (bytes_of w) v ++ words (replicate (length vs - (i + 1)) w) (drop (i + 1) vs) =
    ap (λ n. words (replicate n w) (drop i vs)) k ∙ ap (λ xs. words (replicate (suc (length vs - (i + 1))) w) xs) here in
    append_assoc out (big_endian (bytes_of w) v) (words (replicate (length vs - (i + 1)) w) (drop (i + 1) vs)) ∙ sym (ap (λ xs. out ++ xs) e) ∙ so_far

pub put-done : (w : ℕ) (vs : List ℕ) (i : ℕ) (out total : List ℕ) → length vs ≤ i → out ++ words (replicate (length vs - i) w) (drop i vs) ≡ total → out ≡ total
put-done w vs i out total le so_far =
    let k : length vs - i ≡ 0 = omega arith in
    sym (append-nil out) ∙ sym (ap (λ n. out ++ words (replicate n w) (drop i vs)) k) ∙ so_far

-- the words of one row, and those of the rows behind it
pub record Parts (n w : ℕ) (ws vs : List ℕ) : Type 0 where
  pub long : n ≤ length vs
  pub others : AreWords ws (drop n vs)
  pub spelt : words (replicate n w ++ ws) vs ≡ words (replicate n w) (take n vs) ++ words ws (drop n vs)

pub parts : (n w : ℕ) (ws vs : List ℕ) → AreWords (replicate n w ++ ws) vs → Parts n w ws vs
parts zero w ws vs h = record { long = omega arith; others = h; spelt = refl }
parts (suc n) w ws [] h = absurd h
parts (suc n) w ws (v ∷ vs) h =
    let p = parts n w ws vs h.1 in record {
      long = let l = p.long in omega (arith, l);
      others = p.others;
      spelt = ap (λ xs. big_endian (bytes_of w) v ++ xs) p.spelt ∙ sym (append_assoc (big_endian (bytes_of w) v) (words (replicate n w) (take n vs)) (words ws (drop n vs)));
    }

row-parts : (rows : List SnapRow) (i : ℕ) (r : SnapRow) (vs : List ℕ) → i < length rows → r ≡ get_or rows i r → AreWords (widths (drop i rows)) vs → Parts (word_count r) r.width (widths (drop (i + 1) rows)) vs
row-parts rows i r vs lt is h = parts (word_count r) r.width (widths (drop (i + 1) rows)) vs (subst (λ rs. AreWords (widths rs) vs) (next rows i r lt is) h)

pub row-long : (rows : List SnapRow) (i n : ℕ) (r : SnapRow) (vs : List ℕ) → i < length rows → r ≡ get_or rows i r → n ≡ word_count r → AreWords (widths (drop i rows)) vs → n ≤ length vs
row-long rows i n r vs lt is count h = subst (λ k. k ≤ length vs) (sym count) (row-parts rows i r vs lt is h).long

pub row-others : (rows : List SnapRow) (i n : ℕ) (r : SnapRow) (vs others : List ℕ) → i < length rows → r ≡ get_or rows i r → n ≡ word_count r → others ≡ drop n vs → AreWords (widths (drop i rows)) vs → AreWords (widths (drop (i + 1) rows)) others
row-others rows i n r vs others lt is count rest h =
    subst (λ xs. AreWords (widths (drop (i + 1) rows)) xs) (sym (rest ∙ ap (λ k. drop k vs) count)) (row-parts rows i r vs lt is h).others

pub row-next : (rows : List SnapRow) (i n : ℕ) (r : SnapRow) (own others vs out total : List ℕ) → i < length rows → r ≡ get_or rows i r → n ≡ word_count r → AreWords (widths (drop i rows)) vs → own ≡ take n vs → others ≡ drop n vs
    → out ++ words (widths (drop i rows)) vs ≡ total → (out ++ words (replicate (length own) r.width) own) ++ words (widths (drop (i + 1) rows)) others ≡ total
row-next rows i n r own others vs out total lt is count h mine theirs so_far =
    let p = row-parts rows i r vs lt is h in
    let first : own ≡ take (word_count r) vs = mine ∙ ap (λ k. take k vs) count in
    let second : others ≡ drop (word_count r) vs = theirs ∙ ap (λ k. drop k vs) count in
    let long : length own ≡ word_count r = ap length first ∙ length-take-le (word_count r) vs p.long in
    let here = words (replicate (word_count r) r.width) (take (word_count r) vs) in
    let rest = words (widths (drop (i + 1) rows)) (drop (word_count r) vs) in
    let e : words (replicate (length own) r.width) own ≡ here = ap (λ k. words (replicate k r.width) own) long ∙ ap (λ xs. words (replicate (word_count r) r.width) xs) first in
    let all : words (widths (drop i rows)) vs ≡ here ++ rest = ap (λ rs. words (widths rs) vs) (next rows i r lt is) ∙ p.spelt in
    ap (λ xs. (out ++ xs) ++ words (widths (drop (i + 1) rows)) others) e
    ∙ ap (λ xs. (out ++ here) ++ words (widths (drop (i + 1) rows)) xs) second
    ∙ append_assoc out here rest ∙ sym (ap (λ xs. out ++ xs) all) ∙ so_far

pub row-done : (rows : List SnapRow) (i : ℕ) (vs out total : List ℕ) → length rows ≤ i → AreWords (widths (drop i rows)) vs → out ++ words (widths (drop i rows)) vs ≡ total → out ≡ total
row-done rows i vs out total le h so_far =
    let none : drop i rows ≡ [] = drop_all i rows le in
    sym (append-nil out) ∙ sym (ap (λ rs. out ++ words (widths rs) vs) none) ∙ so_far

-- ---- widths at an index

pub width_at : (rows : List SnapRow) (i : ℕ) (r : SnapRow) → AllByRecursion HasWidth rows → i < length rows → r ≡ get_or rows i r → r.width ≤ 128
width_at rows i r h lt is = (subst HasWidth (sym is) (All-from_recursion HasWidth rows h i r lt)).narrow

pub row_width_at : (rows : List SnapRow) (i : ℕ) (r : SnapRow) → AllByRecursion IsRow rows → i < length rows → r ≡ get_or rows i r → r.width ≤ 128
row_width_at rows i r h lt is = (subst IsRow (sym is) (All-from_recursion IsRow rows h i r lt)).width.narrow
