-- A statement leaves as many words of each signal.
use Rattle.std.proofs.Common.{◌≡◌, ◌≢◌, ℕ, ◌+◌, ◌%◌, ◌^◌, ◌≤◌, nat_lt, Bool, true, false, List, [], ◌∷◌, length, Option, Some, None, refl, sym, ap, ◌∙◌, arith}
use Rattle.std.specs.Prelude.{⊤, ℤ, pos, ◌-ℤ◌, int_le, ◌&&◌, nat_eq, slice_set, slice_get, if◌then◌else◌}
use Rattle.std.specs.Int.RustNames.{unsigned_abs}
use Rattle.std.proofs.lemmas.Bool.{ltb-true, ltb-false, eqb-true, eq-eqb}
use Rattle.std.proofs.lemmas.List.{length-set}
use Rattle.vl_base.specs.Files as file
use Rattle.vl_design.specs.Syntax.{Task, Print, Finish, Save, Fopen, Fread, Fgetc, Feof, Fclose, ReadHex, Stm, Row}
use Rattle.vl_design.specs.Width.{Scope}
use Rattle.vl_design.specs.Value.{words_of}
use Rattle.vl_design.specs.State.{State, Update, sample, with_update, all_updated}
use Rattle.vl_design.specs.Targets.{assignment}
use Rattle.vl_design.specs.ReadHex.{Step, Loads, Goes, loaded, steps, BetweenWords}
use Rattle.vl_design.specs.Tasks.{called, memory_read}
use Rattle.vl_design.specs.Exec.{exec}
use Rattle.vl_design.specs.Laws.{SameShape}
use Rattle.vl_design.proofs.Kept.{words_set, words_past, words_other}
use Rattle.vl_design.proofs.Leading.{Steps, exec_leads, all_in}

pub shape_same : (v : List (List ℕ)) → SameShape v v
shape_same v = record { many = refl; words = λ k. refl }

pub shape_on : {u v w : List (List ℕ)} → SameShape u v → SameShape v w → SameShape u w
shape_on f g = record { many = f.many ∙ g.many; words = λ k. f.words k ∙ g.words k }

-- a signal gets as many words as it has
pub set_shape : (v : List (List ℕ)) (k : ℕ) (ws : List ℕ) → length ws ≡ length (words_of v k) → SameShape (slice_set v k ws) v
set_shape v k ws e = record { many = length-set v k ws; words = λ j. at j (nat_eq j k) refl }
  where
    there : (b : Bool) → nat_lt k (length v) ≡ b → length (words_of (slice_set v k ws) k) ≡ length (words_of v k)
    there true l = ap length (words_set v k ws (ltb-true k (length v) l)) ∙ e
    there false l =
        let i : length v ≤ k = ltb-false k (length v) l in
        let j : length (slice_set v k ws) ≤ k = omega (arith, length-set v k ws) in
        ap length (words_past (slice_set v k ws) k j ∙ sym (words_past v k i))

    at : (j : ℕ) (b : Bool) → nat_eq j k ≡ b → length (words_of (slice_set v k ws) j) ≡ length (words_of v j)
    at j true i = rw (eqb-true j k i) (there (nat_lt k (length v)) refl)
    at j false i =
        let n : j ≢ k = λ z. (let y = eq-eqb j k z in cc (y, i)) in
        ap length (words_other v k j ws n)

pub all_shape : (rows : List Row) (us : List Update) (v : List (List ℕ)) → SameShape (all_updated rows v us) v
all_shape rows [] v = shape_same v
all_shape rows (u ∷ us) v = shape_on (all_shape rows us (with_update rows v u)) (set_shape v u.signal _ (length-set (words_of v u.signal) u.word _))

pub loaded_long : (w : ℕ) (lowest : ℤ) (n i : ℕ) (xs : List Step) (words : List ℕ) → length (loaded w lowest n i xs words) ≡ length words
loaded_long w lowest n i [] words = refl
loaded_long w lowest n i (Loads v ∷ xs) words = at (nat_lt i n) (loaded_long w lowest n (i + 1) xs (slice_set words i (v % 2 ^ w)))
  where
    at : (b : Bool) → length (loaded w lowest n (i + 1) xs (slice_set words i (v % 2 ^ w))) ≡ length (slice_set words i (v % 2 ^ w))
        → length (if b then loaded w lowest n (i + 1) xs (slice_set words i (v % 2 ^ w)) else words) ≡ length words
    at true g = g ∙ length-set words i _
    at false g = refl
loaded_long w lowest n i (Goes a ∷ xs) words = at (int_le (pos 0) z && nat_lt (unsigned_abs z) n) (loaded_long w lowest n (unsigned_abs z) xs words)
  where
    z : ℤ
    z = pos a -ℤ lowest

    at : (b : Bool) → length (loaded w lowest n (unsigned_abs z) xs words) ≡ length words → length (if b then loaded w lowest n (unsigned_abs z) xs words else words) ≡ length words
    at true g = g
    at false g = refl

abbrev pub Shapes : State → State → Type 0
Shapes s t = SameShape t.values s.values

memory_shape : (m : ℕ) (r : Option Row) (text : Option (List ℕ)) (s : State) → Shapes s (memory_read m r text s)
memory_shape m None text s = shape_same s.values
memory_shape m (Some r) None s = shape_same s.values
memory_shape m (Some r) (Some text) s = set_shape s.values m _ (loaded_long r.width r.lowest r.words 0 (steps BetweenWords text) (words_of s.values m))

pub call_shape : (scope : Scope) (task : Task) (s : State) → Shapes s (called scope task s)
call_shape scope (Print pieces newline) s = shape_same s.values
call_shape scope (Finish es) s = shape_same s.values
call_shape scope (Save name) s = shape_same s.values
call_shape scope (Fopen name) s = shape_same s.values
call_shape scope (Fread k fd) s = set_shape s.values k _ (length-set (words_of s.values k) 0 _)
call_shape scope (Fgetc fd) s = shape_same s.values
call_shape scope (Feof fd) s = shape_same s.values
call_shape scope (Fclose fd) s = shape_same s.values
call_shape scope (ReadHex name m) s = memory_shape m (slice_get scope.names.rows m) (file.contents scope.files name) s

steps_shape : (scope : Scope) → Steps scope Shapes (λ t. ⊤) (λ t. ⊤) (λ k. ⊤) (λ v. ⊤)
steps_shape scope = record {
  same = λ s. shape_same s.values;
  next = λ a b c f g. shape_on g f;
  counts = λ s. shape_same s.values;
  sets = λ t e s h f. all_shape scope.names.rows (assignment scope (sample s) t e) s.values;
  delays = λ t e s h f. shape_same s.values;
  calls = λ task s h f. call_shape scope task s;
  restores = λ k before s h f. shape_on (set_shape s.values k (words_of before.values k) (sym (f.words k))) f;
}

pub exec_shape : (scope : Scope) (a : Stm) (s : State) → SameShape (exec scope a s).values s.values
exec_shape scope a s = exec_leads scope Shapes _ _ _ _ (steps_shape scope) a (all_in a) s
