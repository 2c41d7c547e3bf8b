-- The parts of a snapshot: what is read is spelt so, and what is spelt so is read again.
use Rattle.std.proofs.Common.{◌≡◌, ℕ, zero, suc, ◌+◌, ◌*◌, ◌^◌, ◌<◌, ◌≤◌, Bool, true, false, cond, ltb, leb, eqb, ◌&&◌, List, [], ◌∷◌, ◌++◌, length, Result, Ok, Err, refl, sym, ap, subst, ◌∙◌, append_assoc, arith, lit<}
use Rattle.std.specs.Prelude.{is_some, unwrap_or}
use Rattle.std.specs.List.{flat_map, AllByRecursion}
use Rattle.std.proofs.Math.Pow.{pow_mono}
use Rattle.std.proofs.lemmas.Bool.{ltb-true, lt-ltb, leb-true, le-leb, eqb-true, eq-eqb, and_parts, and_from}
use Rattle.std.proofs.lemmas.List.{append-nil, nil_from_length}
use Rattle.vl_base.specs.declared.files.File.{File}
use Rattle.vl_base.specs.declared.files.OpenFile.{OpenFile}
use Rattle.vl_base.specs.Files.{bytes_of, contents}
use Rattle.vl_base.specs.Value.{truth}
use Rattle.snap_form.specs.declared.fault.Fault.{Fault}
use Rattle.snap_form.specs.declared.snapshot.SnapRow.{SnapRow}
use Rattle.snap_form.specs.declared.snapshot.Snapshot.{Snapshot}
use Rattle.snap_form.specs.Reading.{◌>>=◌, fault, field, number, number_if, same_number, same_bytes, heading_at, row_at, rows_at, fits as fits_width, word_at, words_at, slot_at, name_at, size_of, place_at, flag_at, file_at, files_at, last_at, snapshot_at}
use Rattle.snap_form.specs.Spelling.{big_endian, magic, row, words, file, heading, spelt, widths, HasWidth, AreWords, Ascend, RowHasRoom, FileHasRoom, HasRoom, IsOpenIn, IsSnapshotOf}
use Rattle.snap_form.proofs.Numbers.{IsBytes}
use Rattle.snap_form.proofs.FieldLaws.{bind_ok, passed, ok_is, Takes, Takes-then, Takes-as, field_takes, field_again, number_takes, number_again, number_if_takes, number_if_again, same_number_takes, same_number_again, same_bytes_takes, same_bytes_again}
pub use Rattle.vl_base.proofs.Lists.{append_assoc_four as four}
use Rattle.vl_base.proofs.Lists.{append_assoc_five as five}

-- ---- the heading

pub heading_takes : (count : ℕ) (bytes : List ℕ) (x : ℕ × List ℕ) → IsBytes bytes → heading_at count bytes ≡ Ok x
    → Takes bytes (((magic ++ big_endian 4 1) ++ big_endian 8 x.0) ++ big_endian 4 count) x.1 × (x.0 < 2 ^ 64) × (count < 2 ^ 32)
unfolding heading_at
heading_takes count bytes x fits e =
    let a = bind_ok (same_bytes magic 1 bytes) (λ version. same_number 1 2 4 version >>= λ tick. number 8 tick >>= λ n. same_number count 5 4 n.1 >>= λ rest. Ok (n.0, rest)) x e in
    let b = bind_ok (same_number 1 2 4 a.0) (λ tick. number 8 tick >>= λ n. same_number count 5 4 n.1 >>= λ rest. Ok (n.0, rest)) x a.2 in
    let c = bind_ok (number 8 b.0) (λ n. same_number count 5 4 n.1 >>= λ rest. Ok (n.0, rest)) x b.2 in
    let d = bind_ok (same_number count 5 4 c.0.1) (λ rest. Ok (c.0.0, rest)) x c.2 in
    let t0 = same_bytes_takes magic 1 bytes a.0 fits a.1 in
    let t1 = same_number_takes 1 2 4 a.0 b.0 t0.rest_fits b.1 in
    let t2 = number_takes 8 b.0 c.0 t1.0.rest_fits c.1 in
    let t3 = same_number_takes count 5 4 c.0.1 d.0 t2.0.rest_fits d.1 in
    let u1 = Takes-then bytes magic a.0 (big_endian 4 1) b.0 t0 t1.0 in
    let u2 = Takes-then bytes (magic ++ big_endian 4 1) b.0 (big_endian 8 c.0.0) c.0.1 u1 t2.0 in
    let u3 = Takes-then bytes ((magic ++ big_endian 4 1) ++ big_endian 8 c.0.0) c.0.1 (big_endian 4 count) d.0 u2 t3.0 in
    subst (λ (y : ℕ × List ℕ). Takes bytes (((magic ++ big_endian 4 1) ++ big_endian 8 y.0) ++ big_endian 4 count) y.1 × (y.0 < 2 ^ 64) × (count < 2 ^ 32)) (ok_is (c.0.0, d.0) x d.2) (u3, t2.1, t3.1)

pub heading_again : (count tick : ℕ) (rest : List ℕ) → tick < 2 ^ 64 → count < 2 ^ 32
    → heading_at count ((((magic ++ big_endian 4 1) ++ big_endian 8 tick) ++ big_endian 4 count) ++ rest) ≡ Ok (tick, rest)
unfolding heading_at
heading_again count tick rest small few =
    let d = big_endian 4 count ++ rest in
    let c = big_endian 8 tick ++ d in
    let b = big_endian 4 1 ++ c in
    ap (heading_at count) (four magic (big_endian 4 1) (big_endian 8 tick) (big_endian 4 count) rest)
    ∙ ap (λ r. r >>= λ version. same_number 1 2 4 version >>= λ tick. number 8 tick >>= λ n. same_number count 5 4 n.1 >>= λ rest. Ok (n.0, rest)) (same_bytes_again magic 1 b)
    ∙ ap (λ r. r >>= λ tick. number 8 tick >>= λ n. same_number count 5 4 n.1 >>= λ rest. Ok (n.0, rest)) (same_number_again 1 2 4 c (lit< tt))
    ∙ ap (λ r. r >>= λ n. same_number count 5 4 n.1 >>= λ rest. Ok (n.0, rest)) (number_again 8 tick d small)
    ∙ ap (λ r. r >>= λ rest. Ok (tick, rest)) (same_number_again count 5 4 rest few)

-- ---- rows

row_takes : (r : SnapRow) (bytes rest : List ℕ) → IsBytes bytes → row_at r bytes ≡ Ok rest → Takes bytes (row r) rest × RowHasRoom r
unfolding row_at
row_takes r bytes rest fits e =
    let a = bind_ok (same_number (length r.name) 5 2 bytes) (λ name. same_bytes r.name 5 name >>= λ width. same_number r.width 5 1 width >>= λ ws. same_number r.words 5 4 ws) rest e in
    let b = bind_ok (same_bytes r.name 5 a.0) (λ width. same_number r.width 5 1 width >>= λ ws. same_number r.words 5 4 ws) rest a.2 in
    let c = bind_ok (same_number r.width 5 1 b.0) (λ ws. same_number r.words 5 4 ws) rest b.2 in
    let t0 = same_number_takes (length r.name) 5 2 bytes a.0 fits a.1 in
    let t1 = same_bytes_takes r.name 5 a.0 b.0 t0.0.rest_fits b.1 in
    let t2 = same_number_takes r.width 5 1 b.0 c.0 t1.rest_fits c.1 in
    let t3 = same_number_takes r.words 5 4 c.0 rest t2.0.rest_fits c.2 in
    let n = big_endian 2 (length r.name) in
    let w = big_endian 1 r.width in
    let u1 = Takes-then bytes n a.0 r.name b.0 t0.0 t1 in
    let u2 = Takes-then bytes (n ++ r.name) b.0 w c.0 u1 t2.0 in
    (Takes-then bytes ((n ++ r.name) ++ w) c.0 (big_endian 4 r.words) rest u2 t3.0, record { name = t0.1; words = t3.1 })

byte_wide : (w : ℕ) → w ≤ 128 → w < 2 ^ (8 * 1)
byte_wide w le = let e : 2 ^ (8 * 1) ≡ 256 = refl in omega (arith, e)

row_again : (r : SnapRow) (rest : List ℕ) → RowHasRoom r → HasWidth r → row_at r (row r ++ rest) ≡ Ok rest
unfolding row_at
row_again r rest room wide =
    let d = big_endian 4 r.words ++ rest in
    let c = big_endian 1 r.width ++ d in
    let b = r.name ++ c in
    ap (row_at r) (four (big_endian 2 (length r.name)) r.name (big_endian 1 r.width) (big_endian 4 r.words) rest)
    ∙ ap (λ x. x >>= λ name. same_bytes r.name 5 name >>= λ width. same_number r.width 5 1 width >>= λ ws. same_number r.words 5 4 ws) (same_number_again (length r.name) 5 2 b room.name)
    ∙ ap (λ x. x >>= λ width. same_number r.width 5 1 width >>= λ ws. same_number r.words 5 4 ws) (same_bytes_again r.name 5 c)
    ∙ ap (λ x. x >>= λ ws. same_number r.words 5 4 ws) (same_number_again r.width 5 1 d (byte_wide r.width wide.narrow))
    ∙ same_number_again r.words 5 4 rest room.words

pub rows_take : (rows : List SnapRow) (bytes rest : List ℕ) → IsBytes bytes → rows_at rows bytes ≡ Ok rest → Takes bytes (flat_map row rows) rest × AllByRecursion RowHasRoom rows
unfolding rows_at
rows_take [] bytes rest fits e = (subst (λ (r : List ℕ). Takes bytes [] r) (ok_is bytes rest e) (record { parts = refl; rest_fits = fits }), tt)
rows_take (r ∷ rows) bytes rest fits e =
    let a = bind_ok (row_at r bytes) (λ after. rows_at rows after) rest e in
    let t = row_takes r bytes a.0 fits a.1 in
    let q = rows_take rows a.0 rest t.0.rest_fits a.2 in
    (Takes-then bytes (row r) a.0 (flat_map row rows) rest t.0 q.0, (t.1, q.1))

pub rows_again : (rows : List SnapRow) (rest : List ℕ) → AllByRecursion RowHasRoom rows → AllByRecursion HasWidth rows → rows_at rows (flat_map row rows ++ rest) ≡ Ok rest
unfolding rows_at
rows_again [] rest room wide = refl
rows_again (r ∷ rows) rest room wide =
    ap (rows_at (r ∷ rows)) (append_assoc (row r) (flat_map row rows) rest)
    ∙ ap (λ x. x >>= λ after. rows_at rows after) (row_again r (flat_map row rows ++ rest) room.0 wide.0)
    ∙ rows_again rows rest room.1 wide.1

-- ---- words

-- what words_at read
pub record Words (ws before bytes : List ℕ) (x : List ℕ × List ℕ) : Type 0 where
  pub own : List ℕ
  pub joined : x.0 ≡ before ++ own
  pub fit : AreWords ws own
  pub taken : Takes bytes (words ws own) x.1

pub words_take : (ws before bytes : List ℕ) (x : List ℕ × List ℕ) → IsBytes bytes → words_at ws before bytes ≡ Ok x → Words ws before bytes x
unfolding words_at
words_take [] before bytes x fits e =
    subst (λ (y : List ℕ × List ℕ). Words [] before bytes y) (ok_is (before, bytes) x e) (record { own = []; joined = sym (append-nil before); fit = tt; taken = record { parts = refl; rest_fits = fits } })
words_take (w ∷ ws) before bytes x fits e =
    let a = bind_ok (word_at w bytes) (λ word. words_at ws (before ++ word.0 ∷ []) word.1) x e in
    let t = number_if_takes (fits_width w) 6 (bytes_of w) bytes a.0 fits a.1 in
    let q = words_take ws (before ++ a.0.0 ∷ []) a.0.1 x t.0.rest_fits a.2 in
    record {
      own = a.0.0 ∷ q.own;
      joined = q.joined ∙ append_assoc before (a.0.0 ∷ []) q.own;
      fit = (ltb-true _ _ t.2, q.fit);
      taken = Takes-then bytes (big_endian (bytes_of w) a.0.0) a.0.1 (words ws q.own) x.1 t.0 q.taken;
    }

byte_room : (w v : ℕ) → v < 2 ^ w → v < 2 ^ (8 * bytes_of w)
byte_room w v lt = let le : w ≤ 8 * bytes_of w = omega arith in let m : 2 ^ w ≤ 2 ^ (8 * bytes_of w) = pow_mono le in omega (arith, lt, m)

pub words_again : (ws vs before rest : List ℕ) → AreWords ws vs → words_at ws before (words ws vs ++ rest) ≡ Ok (before ++ vs, rest)
unfolding words_at
words_again [] [] before rest h = ap (λ xs. Ok (xs, rest)) (sym (append-nil before))
words_again [] (v ∷ vs) before rest h = absurd h
words_again (w ∷ ws) [] before rest h = absurd h
words_again (w ∷ ws) (v ∷ vs) before rest h =
    ap (words_at (w ∷ ws) before) (append_assoc (big_endian (bytes_of w) v) (words ws vs) rest)
    ∙ ap (λ x. x >>= λ word. words_at ws (before ++ word.0 ∷ []) word.1) (number_if_again (fits_width w) 6 (bytes_of w) v (words ws vs ++ rest) (byte_room w v h.0) (lt-ltb _ _ h.0))
    ∙ words_again ws vs (before ++ v ∷ []) rest h.1
    ∙ ap (λ xs. Ok (xs, rest)) (append_assoc before (v ∷ []) vs)

-- ---- files

name_takes : (files : List File) (bytes : List ℕ) (x : List ℕ × List ℕ) → IsBytes bytes → name_at files bytes ≡ Ok x
    → Takes bytes (big_endian 2 (length x.0) ++ x.0) x.1 × (length x.0 < 2 ^ 16) × (is_some (contents files x.0) ≡ true)
unfolding name_at
name_takes files bytes x fits e =
    let a = bind_ok (number 2 bytes) (λ size. field size.0 size.1 >>= λ name. cond (is_some (contents files name.0)) (Ok name) (Err (fault 7 size.1))) x e in
    let b = bind_ok (field a.0.0 a.0.1) (λ name. cond (is_some (contents files name.0)) (Ok name) (Err (fault 7 a.0.1))) x a.2 in
    let g = passed (is_some (contents files b.0.0)) (fault 7 a.0.1) b.0 x b.2 in
    let t = number_takes 2 bytes a.0 fits a.1 in
    let u = field_takes a.0.0 a.0.1 b.0 t.0.rest_fits b.1 in
    let both = Takes-then bytes (big_endian 2 a.0.0) a.0.1 b.0.0 b.0.1 t.0 u.0 in
    let whole : Takes bytes (big_endian 2 (length b.0.0) ++ b.0.0) b.0.1 = subst (λ (k : ℕ). Takes bytes (big_endian 2 k ++ b.0.0) b.0.1) (sym u.1) both in
    let short : length b.0.0 < 2 ^ 16 = subst (λ (k : ℕ). k < 2 ^ 16) (sym u.1) t.1 in
    subst (λ (y : List ℕ × List ℕ). Takes bytes (big_endian 2 (length y.0) ++ y.0) y.1 × (length y.0 < 2 ^ 16) × (is_some (contents files y.0) ≡ true)) g.1 (whole, short, g.0)

name_again : (files : List File) (name rest : List ℕ) → length name < 2 ^ 16 → is_some (contents files name) ≡ true → name_at files (big_endian 2 (length name) ++ (name ++ rest)) ≡ Ok (name, rest)
unfolding name_at
name_again files name rest short there =
    ap (λ r. r >>= λ size. field size.0 size.1 >>= λ x. cond (is_some (contents files x.0)) (Ok x) (Err (fault 7 size.1))) (number_again 2 (length name) (name ++ rest) short)
    ∙ ap (λ r. r >>= λ x. cond (is_some (contents files x.0)) (Ok x) (Err (fault 7 (name ++ rest)))) (field_again (length name) name rest refl)
    ∙ ap (λ b. cond b (Ok (name, rest)) (Err (fault 7 (name ++ rest)))) there

flag-back : (n : ℕ) → n ≤ 1 → truth (eqb n 1) ≡ n
flag-back zero le = refl
flag-back (suc zero) le = refl
flag-back (suc (suc n)) le = absurd (omega (arith, le))

flag-small : (b : Bool) → leb (truth b) 1 ≡ true
flag-small true = refl
flag-small false = refl

flag-byte : (b : Bool) → truth b < 2 ^ (8 * 1)
flag-byte true = lit< tt
flag-byte false = lit< tt

flag-again : (b : Bool) → eqb (truth b) 1 ≡ b
flag-again true = refl
flag-again false = refl

-- what file_at read
pub record OneFile (files : List File) (least : ℕ) (bytes : List ℕ) (f : OpenFile) (rest : List ℕ) : Type 0 where
  pub taken : Takes bytes (file f) rest
  pub above : least ≤ f.slot
  pub in_set : IsOpenIn files f
  pub room : FileHasRoom f

slot_takes : (least : ℕ) (bytes : List ℕ) (x : ℕ × List ℕ) → IsBytes bytes → slot_at least bytes ≡ Ok x → Takes bytes (big_endian 1 x.0) x.1 × (least ≤ x.0) × (x.0 ≤ 15)
unfolding slot_at
slot_takes least bytes x fits e =
    let t = number_if_takes (λ s. leb least s && leb s 15) 7 1 bytes x fits e in
    let p = and_parts _ _ t.2 in
    (t.0, leb-true _ _ p.0, leb-true _ _ p.1)

place_takes : (files : List File) (name bytes : List ℕ) (x : ℕ × List ℕ) → IsBytes bytes → place_at files name bytes ≡ Ok x → Takes bytes (big_endian 8 x.0) x.1 × (x.0 < 2 ^ 64) × (x.0 ≤ size_of files name)
unfolding place_at
place_takes files name bytes x fits e =
    let t = number_if_takes (λ p. leb p (size_of files name)) 7 8 bytes x fits e in
    (t.0, t.1, leb-true _ _ t.2)

flag_takes : (bytes : List ℕ) (x : ℕ × List ℕ) → IsBytes bytes → flag_at bytes ≡ Ok x → Takes bytes (big_endian 1 (truth (eqb x.0 1))) x.1
unfolding flag_at
flag_takes bytes x fits e =
    let t = number_if_takes (λ f. leb f 1) 7 1 bytes x fits e in
    Takes-as bytes (big_endian 1 x.0) (big_endian 1 (truth (eqb x.0 1))) x.1 (ap (λ n. big_endian 1 n) (sym (flag-back x.0 (leb-true _ _ t.2)))) t.0

file_takes : (files : List File) (least : ℕ) (bytes : List ℕ) (x : OpenFile × List ℕ) → IsBytes bytes → file_at files least bytes ≡ Ok x → OneFile files least bytes x.0 x.1
unfolding file_at
file_takes files least bytes x fits e =
    let a = bind_ok (slot_at least bytes) (λ slot. name_at files slot.1 >>= λ name. place_at files name.0 name.1 >>= λ place. flag_at place.1 >>= λ flag. Ok (record { slot = slot.0; name = name.0; place = place.0; ended = eqb flag.0 1 }, flag.1)) x e in
    let b = bind_ok (name_at files a.0.1) (λ name. place_at files name.0 name.1 >>= λ place. flag_at place.1 >>= λ flag. Ok (record { slot = a.0.0; name = name.0; place = place.0; ended = eqb flag.0 1 }, flag.1)) x a.2 in
    let c = bind_ok (place_at files b.0.0 b.0.1) (λ place. flag_at place.1 >>= λ flag. Ok (record { slot = a.0.0; name = b.0.0; place = place.0; ended = eqb flag.0 1 }, flag.1)) x b.2 in
    let d = bind_ok (flag_at c.0.1) (λ flag. Ok (record { slot = a.0.0; name = b.0.0; place = c.0.0; ended = eqb flag.0 1 }, flag.1)) x c.2 in
    let t0 = slot_takes least bytes a.0 fits a.1 in
    let t1 = name_takes files a.0.1 b.0 t0.0.rest_fits b.1 in
    let t2 = place_takes files b.0.0 b.0.1 c.0 t1.0.rest_fits c.1 in
    let t3 = flag_takes c.0.1 d.0 t2.0.rest_fits d.1 in
    let s = big_endian 1 a.0.0 in
    let n = big_endian 2 (length b.0.0) in
    let p = big_endian 8 c.0.0 in
    let g = big_endian 1 (truth (eqb d.0.0 1)) in
    let u1 = Takes-as bytes (s ++ (n ++ b.0.0)) ((s ++ n) ++ b.0.0) b.0.1 (sym (append_assoc s n b.0.0)) (Takes-then bytes s a.0.1 (n ++ b.0.0) b.0.1 t0.0 t1.0) in
    let u2 = Takes-then bytes ((s ++ n) ++ b.0.0) b.0.1 p c.0.1 u1 t2.0 in
    let u3 = Takes-then bytes (((s ++ n) ++ b.0.0) ++ p) c.0.1 g d.0.1 u2 t3 in
    let made : OpenFile × List ℕ = (record { slot = a.0.0; name = b.0.0; place = c.0.0; ended = eqb d.0.0 1 }, d.0.1) in
    subst (λ (y : OpenFile × List ℕ). OneFile files least bytes y.0 y.1) (ok_is made x d.2) (record {
      taken = u3;
      above = t0.1;
      in_set = record { slot = t0.2; there = t1.2; within = t2.2 };
      room = record { name = t1.1; place = t2.1 };
    })

slot_byte : (s : ℕ) → s ≤ 15 → s < 2 ^ (8 * 1)
slot_byte s le = let e : 2 ^ (8 * 1) ≡ 256 = refl in omega (arith, e)

slot_again : (least s : ℕ) (rest : List ℕ) → least ≤ s → s ≤ 15 → slot_at least (big_endian 1 s ++ rest) ≡ Ok (s, rest)
unfolding slot_at
slot_again least s rest above small = number_if_again (λ s. leb least s && leb s 15) 7 1 s rest (slot_byte s small) (and_from _ _ (le-leb _ _ above) (le-leb _ _ small))

place_again : (files : List File) (name : List ℕ) (p : ℕ) (rest : List ℕ) → p < 2 ^ 64 → p ≤ size_of files name → place_at files name (big_endian 8 p ++ rest) ≡ Ok (p, rest)
unfolding place_at
place_again files name p rest small within = number_if_again (λ p. leb p (size_of files name)) 7 8 p rest small (le-leb _ _ within)

flag_again : (b : Bool) (rest : List ℕ) → flag_at (big_endian 1 (truth b) ++ rest) ≡ Ok (truth b, rest)
unfolding flag_at
flag_again b rest = number_if_again (λ f. leb f 1) 7 1 (truth b) rest (flag-byte b) (flag-small b)

file_again : (files : List File) (least : ℕ) (f : OpenFile) (rest : List ℕ) → least ≤ f.slot → IsOpenIn files f → FileHasRoom f → file_at files least (file f ++ rest) ≡ Ok (f, rest)
unfolding file_at
file_again files least f rest above set room =
    let d = big_endian 1 (truth f.ended) ++ rest in
    let c = big_endian 8 f.place ++ d in
    let b = big_endian 2 (length f.name) ++ (f.name ++ c) in
    ap (file_at files least) (five (big_endian 1 f.slot) (big_endian 2 (length f.name)) f.name (big_endian 8 f.place) (big_endian 1 (truth f.ended)) rest)
    ∙ ap (λ r. r >>= λ slot. name_at files slot.1 >>= λ name. place_at files name.0 name.1 >>= λ place. flag_at place.1 >>= λ flag. Ok (record { slot = slot.0; name = name.0; place = place.0; ended = eqb flag.0 1 }, flag.1)) (slot_again least f.slot b above set.slot)
    ∙ ap (λ r. r >>= λ name. place_at files name.0 name.1 >>= λ place. flag_at place.1 >>= λ flag. Ok (record { slot = f.slot; name = name.0; place = place.0; ended = eqb flag.0 1 }, flag.1)) (name_again files f.name c room.name set.there)
    ∙ ap (λ r. r >>= λ place. flag_at place.1 >>= λ flag. Ok (record { slot = f.slot; name = f.name; place = place.0; ended = eqb flag.0 1 }, flag.1)) (place_again files f.name f.place d room.place set.within)
    ∙ ap (λ r. r >>= λ flag. Ok (record { slot = f.slot; name = f.name; place = f.place; ended = eqb flag.0 1 }, flag.1)) (flag_again f.ended rest)
    ∙ ap (λ e. Ok (record { slot = f.slot; name = f.name; place = f.place; ended = e }, rest)) (flag-again f.ended)

-- what files_at read
pub record Files (files : List File) (n least : ℕ) (before : List OpenFile) (bytes : List ℕ) (x : List OpenFile × List ℕ) : Type 0 where
  pub own : List OpenFile
  pub joined : x.0 ≡ before ++ own
  pub many : length own ≡ n
  pub slots : Ascend least own
  pub in_set : AllByRecursion (IsOpenIn files) own
  pub room : AllByRecursion FileHasRoom own
  pub taken : Takes bytes (flat_map file own) x.1

pub files_take : (files : List File) (n least : ℕ) (before : List OpenFile) (bytes : List ℕ) (x : List OpenFile × List ℕ) → IsBytes bytes → files_at files n least before bytes ≡ Ok x → Files files n least before bytes x
unfolding files_at
files_take files zero least before bytes x fits e =
    subst (λ (y : List OpenFile × List ℕ). Files files 0 least before bytes y) (ok_is (before, bytes) x e)
    (record { own = []; joined = sym (append-nil before); many = refl; slots = tt; in_set = tt; room = tt; taken = record { parts = refl; rest_fits = fits } })
files_take files (suc n) least before bytes x fits e =
    let a = bind_ok (file_at files least bytes) (λ first. files_at files n (first.0.slot + 1) (before ++ first.0 ∷ []) first.1) x e in
    let t = file_takes files least bytes a.0 fits a.1 in
    let q = files_take files n (a.0.0.slot + 1) (before ++ a.0.0 ∷ []) a.0.1 x t.taken.rest_fits a.2 in
    record {
      own = a.0.0 ∷ q.own;
      joined = q.joined ∙ append_assoc before (a.0.0 ∷ []) q.own;
      many = ap suc q.many;
      slots = (t.above, q.slots);
      in_set = (t.in_set, q.in_set);
      room = (t.room, q.room);
      taken = Takes-then bytes (file a.0.0) a.0.1 (flat_map file q.own) x.1 t.taken q.taken;
    }

pub files_again : (files : List File) (fs : List OpenFile) (least : ℕ) (before : List OpenFile) (rest : List ℕ) → Ascend least fs → AllByRecursion (IsOpenIn files) fs → AllByRecursion FileHasRoom fs
    → files_at files (length fs) least before (flat_map file fs ++ rest) ≡ Ok (before ++ fs, rest)
unfolding files_at
files_again files [] least before rest slots set room = ap (λ xs. Ok (xs, rest)) (sym (append-nil before))
files_again files (f ∷ fs) least before rest slots set room =
    ap (files_at files (suc (length fs)) least before) (append_assoc (file f) (flat_map file fs) rest)
    ∙ ap (λ r. r >>= λ first. files_at files (length fs) (first.0.slot + 1) (before ++ first.0 ∷ []) first.1) (file_again files least f (flat_map file fs ++ rest) slots.0 set.0 room.0)
    ∙ files_again files fs (f.slot + 1) (before ++ f ∷ []) rest slots.1 set.1 room.1
    ∙ ap (λ xs. Ok (xs, rest)) (append_assoc before (f ∷ []) fs)

-- there are 16 slots
few : (files : List File) (least : ℕ) (fs : List OpenFile) → least ≤ 16 → Ascend least fs → AllByRecursion (IsOpenIn files) fs → length fs + least ≤ 16
few files least [] le slots set = omega (arith, le)
few files least (f ∷ fs) le slots set =
    let small = set.0.slot in
    let above = slots.0 in
    let n = few files (f.slot + 1) fs (omega (arith, small)) slots.1 set.1 in
    omega (arith, n, above)

pub few_files : (files : List File) (fs : List OpenFile) → Ascend 0 fs → AllByRecursion (IsOpenIn files) fs → length fs < 2 ^ (8 * 1)
few_files files fs slots set = let n = few files 0 fs (omega arith) slots set in let e : 2 ^ (8 * 1) ≡ 256 = refl in omega (arith, n, e)
