-- Snapshots: what is read is spelt so, and what is spelt so is read again.
use Rattle.std.proofs.Common.{◌≡◌, ℕ, zero, suc, ◌+◌, ◌-◌, ◌^◌, ◌<◌, ◌≤◌, cond, eqb, List, [], ◌∷◌, ◌++◌, length, Result, Ok, Err, refl, sym, ap, subst, ◌∙◌, append_assoc, arith}
use Rattle.std.specs.Prelude.{IfOk}
use Rattle.std.specs.List.{flat_map, AllByRecursion}
use Rattle.std.proofs.lemmas.Bool.{eqb-true}
use Rattle.std.proofs.lemmas.List.{append-nil, nil_from_length}
use Rattle.vl_base.specs.declared.files.File.{File}
use Rattle.vl_base.specs.declared.files.OpenFile.{OpenFile}
use Rattle.vl_base.specs.Files.{contents, IsFileSet}
use Rattle.snap_form.specs.declared.fault.Fault.{Fault}
use Rattle.snap_form.specs.declared.snapshot.SnapError.{SnapError}
use Rattle.snap_form.specs.declared.snapshot.SnapError.TheVariants as snap
use Rattle.snap_form.specs.declared.snapshot.SnapRow.{SnapRow}
use Rattle.snap_form.specs.declared.snapshot.Snapshot.{Snapshot}
use Rattle.snap_form.specs.Reading.{◌>>=◌, fault, number, heading_at, rows_at, words_at, files_at, last_at, snapshot_at, at_offset, read, Tells}
use Rattle.snap_form.specs.Spelling.{big_endian, magic, row, words, file, heading, spelt, widths, HasWidth, AreWords, Ascend, RowHasRoom, FileHasRoom, HasRoom, IsOpenIn, IsSnapshotOf}
use Rattle.snap_form.proofs.Numbers.{IsBytes}
use Rattle.snap_form.proofs.FieldLaws.{bind_ok, passed, ok_is, Takes, Takes-then, number_takes, number_again}
use Rattle.snap_form.proofs.Parts.{four, heading_takes, heading_again, rows_take, rows_again, Words, words_take, words_again, Files, files_take, files_again, few_files}

-- what last_at read
record Last (set : List File) (bytes : List ℕ) (fs : List OpenFile) : Type 0 where
  pub spelling : bytes ≡ big_endian 1 (length fs) ++ flat_map file fs
  pub slots : Ascend 0 fs
  pub in_set : AllByRecursion (IsOpenIn set) fs
  pub room : AllByRecursion FileHasRoom fs

last_take : (set : List File) (bytes : List ℕ) (fs : List OpenFile) → IsBytes bytes → last_at set bytes ≡ Ok fs → Last set bytes fs
unfolding last_at
last_take set bytes fs fits e =
    let a = bind_ok (number 1 bytes) (λ count. files_at set count.0 0 [] count.1 >>= λ table. cond (eqb (length table.1) 0) (Ok table.0) (Err (fault 4 table.1))) fs e in
    let b = bind_ok (files_at set a.0.0 0 [] a.0.1) (λ table. cond (eqb (length table.1) 0) (Ok table.0) (Err (fault 4 table.1))) fs a.2 in
    let g = passed (eqb (length b.0.1) 0) (fault 4 b.0.1) b.0.0 fs b.2 in
    let t = number_takes 1 bytes a.0 fits a.1 in
    let q = files_take set a.0.0 0 [] a.0.1 b.0 t.0.rest_fits b.1 in
    let own : q.own ≡ fs = sym q.joined ∙ g.1 in
    let nothing : b.0.1 ≡ [] = nil_from_length b.0.1 (eqb-true _ _ g.0) in
    let front = big_endian 1 a.0.0 ++ flat_map file q.own in
    let both = (Takes-then bytes (big_endian 1 a.0.0) a.0.1 (flat_map file q.own) b.0.1 t.0 q.taken).parts in
    let whole : bytes ≡ big_endian 1 (length q.own) ++ flat_map file q.own =
    both ∙ ap (λ (r : List ℕ). front ++ r) nothing ∙ append-nil front ∙ ap (λ (k : ℕ). big_endian 1 k ++ flat_map file q.own) (sym q.many) in
    subst (λ (xs : List OpenFile). Last set bytes xs) own (record { spelling = whole; slots = q.slots; in_set = q.in_set; room = q.room })

last_again : (set : List File) (fs : List OpenFile) → Ascend 0 fs → AllByRecursion (IsOpenIn set) fs → AllByRecursion FileHasRoom fs → last_at set (big_endian 1 (length fs) ++ flat_map file fs) ≡ Ok fs
unfolding last_at
last_again set fs slots in_set room =
    let all : files_at set (length fs) 0 [] (flat_map file fs) ≡ Ok (fs, []) =
    ap (files_at set (length fs) 0 []) (sym (append-nil (flat_map file fs))) ∙ files_again set fs 0 [] [] slots in_set room in
    ap (λ r. r >>= λ count. files_at set count.0 0 [] count.1 >>= λ table. cond (eqb (length table.1) 0) (Ok table.0) (Err (fault 4 table.1))) (number_again 1 (length fs) (flat_map file fs) (few_files set fs slots in_set))
    ∙ ap (λ r. r >>= λ table. cond (eqb (length table.1) 0) (Ok table.0) (Err (fault 4 table.1))) all

-- what is read is spelt so
pub snapshot_takes : (rows : List SnapRow) (set : List File) (bytes : List ℕ) (s : Snapshot) → IsBytes bytes → snapshot_at rows set bytes ≡ Ok s → IsSnapshotOf rows set s × (bytes ≡ spelt s)
unfolding snapshot_at
snapshot_takes rows set bytes s fits e =
    let a = bind_ok (heading_at (length rows) bytes) (λ tick. rows_at rows tick.1 >>= λ heads. words_at (widths rows) [] heads >>= λ ws. last_at set ws.1 >>= λ table. Ok (record { tick = tick.0; rows = rows; words = ws.0; files = table })) s e in
    let b = bind_ok (rows_at rows a.0.1) (λ heads. words_at (widths rows) [] heads >>= λ ws. last_at set ws.1 >>= λ table. Ok (record { tick = a.0.0; rows = rows; words = ws.0; files = table })) s a.2 in
    let c = bind_ok (words_at (widths rows) [] b.0) (λ ws. last_at set ws.1 >>= λ table. Ok (record { tick = a.0.0; rows = rows; words = ws.0; files = table })) s b.2 in
    let d = bind_ok (last_at set c.0.1) (λ table. Ok (record { tick = a.0.0; rows = rows; words = c.0.0; files = table })) s c.2 in
    let t0 = heading_takes (length rows) bytes a.0 fits a.1 in
    let t1 = rows_take rows a.0.1 b.0 t0.0.rest_fits b.1 in
    let q = words_take (widths rows) [] b.0 c.0 t1.0.rest_fits c.1 in
    let l = last_take set c.0.1 d.0 q.taken.rest_fits d.1 in
    let made : Snapshot = record { tick = a.0.0; rows = rows; words = c.0.0; files = d.0 } in
    let own : q.own ≡ c.0.0 = sym q.joined in
    let fit : AreWords (widths rows) c.0.0 = subst (λ (vs : List ℕ). AreWords (widths rows) vs) own q.fit in
    let r = flat_map row rows in
    let u1 = Takes-then bytes (heading made) a.0.1 r b.0 t0.0 t1.0 in
    let u2 = Takes-then bytes (heading made ++ r) b.0 (words (widths rows) q.own) c.0.1 u1 q.taken in
    let n = big_endian 1 (length d.0) in
    let f = flat_map file d.0 in
    let whole : bytes ≡ spelt made =
    u2.parts
    ∙ ap (λ (vs : List ℕ). ((heading made ++ r) ++ words (widths rows) vs) ++ c.0.1) own
    ∙ ap (λ (xs : List ℕ). ((heading made ++ r) ++ words (widths rows) c.0.0) ++ xs) l.spelling
    ∙ sym (append_assoc ((heading made ++ r) ++ words (widths rows) c.0.0) n f) in
    let is : IsSnapshotOf rows set made = record {
      rows = refl;
      words = fit;
      files = l.in_set;
      slots = l.slots;
      room = record { tick = t0.1; many = t0.2; rows = t1.1; files = l.room };
    } in
    subst (λ (x : Snapshot). IsSnapshotOf rows set x × (bytes ≡ spelt x)) (ok_is made s d.2) (is, whole)

-- what is spelt so is read
again : (set : List File) (s : Snapshot) → AllByRecursion HasWidth s.rows → IsSnapshotOf s.rows set s → snapshot_at s.rows set (spelt s) ≡ Ok s
unfolding snapshot_at
again set s wide h =
    let n = big_endian 1 (length s.files) in
    let f = flat_map file s.files in
    let w = words (widths s.rows) s.words in
    let r = flat_map row s.rows in
    ap (snapshot_at s.rows set) (four (heading s) r w n f)
    ∙ ap (λ x. x >>= λ tick. rows_at s.rows tick.1 >>= λ heads. words_at (widths s.rows) [] heads >>= λ ws. last_at set ws.1 >>= λ table. Ok (record { tick = tick.0; rows = s.rows; words = ws.0; files = table })) (heading_again (length s.rows) s.tick (r ++ (w ++ (n ++ f))) h.room.tick h.room.many)
    ∙ ap (λ x. x >>= λ heads. words_at (widths s.rows) [] heads >>= λ ws. last_at set ws.1 >>= λ table. Ok (record { tick = s.tick; rows = s.rows; words = ws.0; files = table })) (rows_again s.rows (w ++ (n ++ f)) h.room.rows wide)
    ∙ ap (λ x. x >>= λ ws. last_at set ws.1 >>= λ table. Ok (record { tick = s.tick; rows = s.rows; words = ws.0; files = table })) (words_again (widths s.rows) s.words [] (n ++ f) h.words)
    ∙ ap (λ x. x >>= λ table. Ok (record { tick = s.tick; rows = s.rows; words = s.words; files = table })) (last_again set s.files h.slots h.files h.room.files)

pub snapshot_again : (rows : List SnapRow) (set : List File) (s : Snapshot) → AllByRecursion HasWidth rows → IsSnapshotOf rows set s → snapshot_at rows set (spelt s) ≡ Ok s
snapshot_again rows set s wide h = subst (λ (d : List SnapRow). AllByRecursion HasWidth d → IsSnapshotOf d set s → snapshot_at d set (spelt s) ≡ Ok s) h.rows (again set s) wide h

-- ---- outcomes

abbrev said : Snapshot → Result Snapshot SnapError
said s = Ok s

said_is : (x y : Snapshot) → said x ≡ said y → x ≡ y
said_is x y e = cc

told : (size : ℕ) (q : Result Snapshot Fault) (x : Snapshot) → Ok x ≡ at_offset size q → q ≡ Ok x
told size (Ok s) x e = ap (λ (y : Snapshot). Ok y) (sym (said_is x s e))
told size (Err f) x e = absurd cc

pub is_found : (rows : List SnapRow) (set : List File) (bytes : List ℕ) (r : Result Snapshot SnapError) → IsBytes bytes → Tells r (read rows set bytes) → IfOk r (λ x. IsSnapshotOf rows set x × (bytes ≡ spelt x))
is_found rows set bytes (Ok x) fits h = snapshot_takes rows set bytes x fits (told (length bytes) (snapshot_at rows set bytes) x h)
is_found rows set bytes (Err e) fits h = tt

pub read_again : (rows : List SnapRow) (set : List File) (s : Snapshot) → AllByRecursion HasWidth rows → IsSnapshotOf rows set s → read rows set (spelt s) ≡ Ok s
read_again rows set s wide h = ap (at_offset (length (spelt s))) (snapshot_again rows set s wide h)

pub read_found : (rows : List SnapRow) (set : List File) (bytes : List ℕ) (s : Snapshot) → IsBytes bytes → read rows set bytes ≡ Ok s → IsSnapshotOf rows set s × (bytes ≡ spelt s)
read_found rows set bytes s fits h = snapshot_takes rows set bytes s fits (told (length bytes) (snapshot_at rows set bytes) s (sym h))

pub one_snapshot : (rows : List SnapRow) (set : List File) (s t : Snapshot) → AllByRecursion HasWidth rows → IsSnapshotOf rows set s → IsSnapshotOf rows set t → spelt s ≡ spelt t → s ≡ t
one_snapshot rows set s t wide h k e =
    ok_is s t (sym (snapshot_again rows set s wide h) ∙ ap (snapshot_at rows set) e ∙ snapshot_again rows set t wide k)
