-- Values stay below 2 to their widths.
use Rattle.std.proofs.Common.{◌≡◌, ◌≢◌, ℕ, ◌+◌, ◌%◌, ◌^◌, ◌<◌, ◌≤◌, nat_lt, ℤ, pos, negsuc, ◌-ℤ◌, Bool, true, false, List, [], ◌∷◌, length, Option, Some, None, refl, sym, ap, ◌∙◌, subst, arith, get_or}
use Rattle.std.specs.Prelude.{⊤, All, slice_set, slice_get, nat_eq, replicate, option_map, if◌then◌else◌, ◌&&◌, int_le}
use Rattle.std.specs.Int.RustNames.{unsigned_abs}
use Rattle.std.proofs.Math.Nat.{mod-lt}
use Rattle.std.proofs.lemmas.Nat.{pow_pos}
use Rattle.std.proofs.lemmas.List.{length-set}
use Rattle.std.proofs.lemmas.List.Elements.{All-set, All-replicate}
use Rattle.std.proofs.lemmas.Option.{slice_get-map}
use Rattle.std.proofs.lemmas.Bool.{ltb-true, ltb-false, eqb-true, eq-eqb}
use Rattle.vl_base.specs.declared.files.File.{File}
use Rattle.vl_base.specs.declared.files.OpenFile.{OpenFile}
use Rattle.vl_base.specs.Selects.{placed}
use Rattle.vl_base.specs.Files as file
use Rattle.vl_design.specs.Syntax.{Task, Print, Finish, Save, Fopen, Fread, Fgetc, Feof, Fclose, ReadHex, Stm, Row}
use Rattle.vl_design.specs.Width.{Scope, signal_form}
use Rattle.vl_design.specs.Value.{words_of, value_of}
use Rattle.vl_design.specs.State.{State, Update, sample, with_update, all_updated}
use Rattle.vl_design.specs.Targets.{assignment}
use Rattle.vl_design.specs.ReadHex.{Step, Loads, Goes, loaded, words_read, steps, BetweenWords}
use Rattle.vl_design.specs.Tasks.{called, memory_read, descriptor_of}
use Rattle.vl_design.specs.Exec.{exec}
use Rattle.vl_design.specs.Laws.{InRange}
use Rattle.vl_design.specs.Functions.{zeros}
use Rattle.vl_design.proofs.Kept.{words_set, words_past, words_other}
use Rattle.vl_design.proofs.Leading.{Steps, exec_leads, all_in}
use Rattle.vl_base.proofs.Bounds.{placed-below as placed_below}

pub below : (n w : ℕ) → n % 2 ^ w < 2 ^ w
below n w = mod-lt n (pow_pos w)

-- the words of a signal that were written, where there is such a signal
words_same : (P : ℕ → Type 0) (values : List (List ℕ)) (j : ℕ) (ws : List ℕ) → All P ws → All P (words_of (slice_set values j ws) j)
words_same P values j ws h = at (nat_lt j (length values)) refl
  where
    at : (b : Bool) → nat_lt j (length values) ≡ b → All P (words_of (slice_set values j ws) j)
    at true e = rw (words_set values j ws (ltb-true j (length values) e)) h
    at false e =
        let i : length values ≤ j = ltb-false j (length values) e in
        let n : length (slice_set values j ws) ≤ j = omega (arith, length-set values j ws) in
        rw (words_past (slice_set values j ws) j n) (λ i d l. absurd (omega arith))

-- a signal whose words are in range is written
written_in_range : (rows : List Row) (values : List (List ℕ)) (j : ℕ) (ws : List ℕ) → All (λ v. v < 2 ^ (signal_form rows j).width) ws → InRange rows values → InRange rows (slice_set values j ws)
written_in_range rows values j ws h r k = at (nat_eq k j) refl
  where
    at : (b : Bool) → nat_eq k j ≡ b → All (λ v. v < 2 ^ (signal_form rows k).width) (words_of (slice_set values j ws) k)
    at true e =
        let i : k ≡ j = eqb-true k j e in
        rw i (words_same (λ v. v < 2 ^ (signal_form rows j).width) values j ws h)
    at false e =
        let n : k ≢ j = λ i. (let t = eq-eqb k j i in cc (t, e)) in
        rw (words_other values j k ws n) (r k)

updated_in_range : (rows : List Row) (values : List (List ℕ)) (u : Update) → InRange rows values → InRange rows (with_update rows values u)
updated_in_range rows values u r =
    let w = (signal_form rows u.signal).width in
    written_in_range rows values u.signal _ (All-set (λ v. v < 2 ^ w) (words_of values u.signal) u.word _ (placed_below w _ u.low u.width u.value) (r u.signal)) r

pub updates_in_range : (rows : List Row) (us : List Update) (values : List (List ℕ)) → InRange rows values → InRange rows (all_updated rows values us)
updates_in_range rows [] values r = r
updates_in_range rows (u ∷ us) values r = updates_in_range rows us (with_update rows values u) (updated_in_range rows values u r)

-- what a variable holds is in range
value_in_range : (rows : List Row) (values : List (List ℕ)) (k : ℕ) → InRange rows values → value_of values k < 2 ^ (signal_form rows k).width
value_in_range rows values k r = at (words_of values k) (r k)
  where
    at : (ws : List ℕ) → All (λ v. v < 2 ^ (signal_form rows k).width) ws → get_or ws 0 0 < 2 ^ (signal_form rows k).width
    at [] h = pow_pos (signal_form rows k).width
    at (v ∷ vs) h = h 0 0 (omega arith)

-- ---- `$fread` and `$readmemh`

reading_below : (files : List File) (table : List OpenFile) (o : Option OpenFile) (w v : ℕ) → v < 2 ^ w → (file.reading_of files table o w v).value < 2 ^ w
reading_below files table None w v h = h
reading_below files table (Some f) w v h = below _ w

loaded_below : (w : ℕ) (lowest : ℤ) (n i : ℕ) (xs : List Step) (words : List ℕ) → All (λ v. v < 2 ^ w) words → All (λ v. v < 2 ^ w) (loaded w lowest n i xs words)
loaded_below w lowest n i [] words h = h
loaded_below w lowest n i (Loads v ∷ xs) words h = at (nat_lt i n) (loaded_below w lowest n (i + 1) xs (slice_set words i (v % 2 ^ w)) (All-set (λ x. x < 2 ^ w) words i _ (below v w) h))
  where
    at : (b : Bool) → All (λ x. x < 2 ^ w) (loaded w lowest n (i + 1) xs (slice_set words i (v % 2 ^ w))) → All (λ x. x < 2 ^ w) (if b then loaded w lowest n (i + 1) xs (slice_set words i (v % 2 ^ w)) else words)
    at true g = g
    at false g = h
loaded_below w lowest n i (Goes a ∷ xs) words h = at (int_le (pos 0) z && nat_lt (unsigned_abs z) n) (loaded_below w lowest n (unsigned_abs z) xs words h)
  where
    z : ℤ
    z = pos a -ℤ lowest

    at : (b : Bool) → All (λ x. x < 2 ^ w) (loaded w lowest n (unsigned_abs z) xs words) → All (λ x. x < 2 ^ w) (if b then loaded w lowest n (unsigned_abs z) xs words else words)
    at true g = g
    at false g = h

-- ---- statements

abbrev Ranges : List Row → State → State → Type 0
Ranges rows s t = InRange rows s.values → InRange rows t.values

row_of_form : (rows : List Row) (m : ℕ) (r : Row) → slice_get rows m ≡ Some r → (signal_form rows m).width ≡ r.width
row_of_form rows m r e = rw e refl

memory_in_range : (rows : List Row) (m : ℕ) (o : Option Row) → slice_get rows m ≡ o → (text : Option (List ℕ)) (s : State) → Ranges rows s (memory_read m o text s)
memory_in_range rows m None e text s r = r
memory_in_range rows m (Some x) e None s r = r
memory_in_range rows m (Some x) e (Some text) s r =
    let w : (signal_form rows m).width ≡ x.width = row_of_form rows m x e in
    let g : All (λ v. v < 2 ^ x.width) (words_of s.values m) = subst (λ n. All (λ v. v < 2 ^ n) (words_of s.values m)) w (r m) in
    let h : All (λ v. v < 2 ^ x.width) (words_read x.width x.lowest x.words text (words_of s.values m)) = loaded_below x.width x.lowest x.words 0 (steps BetweenWords text) (words_of s.values m) g in
    written_in_range rows s.values m _ (subst (λ n. All (λ v. v < 2 ^ n) (words_read x.width x.lowest x.words text (words_of s.values m))) (sym w) h) r

pub call_in_range : (scope : Scope) (task : Task) (s : State) → Ranges scope.names.rows s (called scope task s)
call_in_range scope (Print pieces newline) s r = r
call_in_range scope (Finish es) s r = r
call_in_range scope (Save name) s r = r
call_in_range scope (Fopen name) s r = r
call_in_range scope (Fread k fd) s r =
    written_in_range scope.names.rows s.values k _ (All-set (λ v. v < 2 ^ (signal_form scope.names.rows k).width) (words_of s.values k) 0 _ (reading_below scope.files s.table (file.open_file s.table (descriptor_of scope (sample s) fd)) (signal_form scope.names.rows k).width (value_of s.values k) (value_in_range scope.names.rows s.values k r)) (r k)) r
call_in_range scope (Fgetc fd) s r = r
call_in_range scope (Feof fd) s r = r
call_in_range scope (Fclose fd) s r = r
call_in_range scope (ReadHex name m) s r = memory_in_range scope.names.rows m (slice_get scope.names.rows m) refl (file.contents scope.files name) s r

steps_in_range : (scope : Scope) → Steps scope (Ranges scope.names.rows) (λ t. ⊤) (λ t. ⊤) (λ k. ⊤) (λ v. ⊤)
steps_in_range scope = record {
  same = λ s r. r;
  next = λ a b c f g r. g (f r);
  counts = λ s r. r;
  sets = λ t e s h f r. updates_in_range scope.names.rows (assignment scope (sample s) t e) s.values r;
  delays = λ t e s h f r. r;
  calls = λ task s h f. call_in_range scope task s;
  restores = λ k before s h f r. written_in_range scope.names.rows s.values k (words_of before.values k) (r k) (f r);
}

pub exec_in_range : (scope : Scope) (a : Stm) (s : State) → InRange scope.names.rows s.values → InRange scope.names.rows (exec scope a s).values
exec_in_range scope a s = exec_leads scope (Ranges scope.names.rows) _ _ _ _ (steps_in_range scope) a (all_in a) s

pub zeros_in_range : (rows : List Row) → InRange rows (zeros rows)
zeros_in_range rows k = at (slice_get rows k) refl
  where
    at : (o : Option Row) → slice_get rows k ≡ o → All (λ v. v < 2 ^ (signal_form rows k).width) (words_of (zeros rows) k)
    at None e =
        let z : slice_get (zeros rows) k ≡ None = slice_get-map (λ r. replicate r.words 0) rows k ∙ ap (option_map (λ r. replicate r.words 0)) e in
        rw z (λ i d l. absurd (omega arith))
    at (Some r) e =
        let z : slice_get (zeros rows) k ≡ Some (replicate r.words 0) = slice_get-map (λ r. replicate r.words 0) rows k ∙ ap (option_map (λ r. replicate r.words 0)) e in
        rw z (All-replicate (λ v. v < 2 ^ (signal_form rows k).width) r.words 0 (pow_pos (signal_form rows k).width))
