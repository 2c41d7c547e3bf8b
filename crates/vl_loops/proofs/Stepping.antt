-- An assignment and a call with the numbers of the loop variables put in do the same.
use Rattle.std.proofs.Common.{◌≡◌, ◌≢◌, ℕ, zero, suc, Bool, true, false, List, [], ◌∷◌, ◌++◌, length, Option, Some, None, refl, sym, ap, ◌∙◌, arith}
use Rattle.std.specs.Prelude.{slice_get, slice_set, ⊤}
use Rattle.std.specs.List.{AllByRecursion}
use Rattle.std.proofs.lemmas.List.{length-set}
use Rattle.vl_base.specs.Files as file
use Rattle.vl_design.specs.declared.design.Form.{Form}
use Rattle.vl_design.specs.Syntax.{Exp, Target, Whole, WordAt, PickAt, SliceAt, Several, Targets, NoTargets, MoreTargets, Piece, Literal, Shown, Task, Print, Finish, Save, Fopen, Fread, Fgetc, Feof, Fclose, ReadHex, Row, Fun, Stm}
use Rattle.vl_design.specs.Width.{Scope, form}
use Rattle.vl_design.specs.Value.{value, words_of}
use Rattle.vl_design.specs.State.{State, Update, sample, counted, with_update, all_updated}
use Rattle.vl_design.specs.Targets.{target_width, targets_width, spots, all_spots, assignment}
use Rattle.vl_design.specs.Tasks.{done, called, piece_text, pieces_text, display_text, descriptor_of, answered, variable_read, memory_read}
use Rattle.vl_design.specs.Exec.{exec}
use Rattle.vl_design.specs.Reads.{task_writes, stm_writes}
use Rattle.vl_design.specs.Sound.{IsSoundExp, IsSoundTarget, AreSoundTargets, IsSoundBase, IsSoundTask, IsSoundPiece}
use Rattle.vl_design.specs.Laws.{DifferIn}
use Rattle.vl_design.proofs.Kept.{words_other, exec_keeps}
use Rattle.vl_design.proofs.Leading.{Steps, all_in, exec_leads}
use Rattle.vl_design.specs.ReadHex.{words_read}
use Rattle.std.proofs.lemmas.List.Elements.{recursion_from_All}
use Rattle.vl_loops.specs.Unroll.{is_loop, put, put_target, put_targets, put_piece, put_pieces, put_task}
use Rattle.vl_loops.specs.Fits.{Same, Holds}
use Rattle.vl_loops.proofs.Funs.{Alike}
use Rattle.vl_loops.proofs.Putting.{other, form_put, value_put}

-- ---- lists of words that agree in some places

set_alike : (xs ys : List (List ℕ)) (i j : ℕ) (ws : List ℕ) → length xs ≡ length ys → words_of xs j ≡ words_of ys j → words_of (slice_set xs i ws) j ≡ words_of (slice_set ys i ws) j
set_alike [] [] i j ws e h = refl
set_alike [] (y ∷ ys) i j ws e h = absurd (omega (arith, e))
set_alike (x ∷ xs) [] i j ws e h = absurd (omega (arith, e))
set_alike (x ∷ xs) (y ∷ ys) zero zero ws e h = refl
set_alike (x ∷ xs) (y ∷ ys) zero (suc j) ws e h = h
set_alike (x ∷ xs) (y ∷ ys) (suc i) zero ws e h = h
set_alike (x ∷ xs) (y ∷ ys) (suc i) (suc j) ws e h = let f : length xs ≡ length ys = omega (arith, e) in set_alike xs ys i j ws f h

set_long : (xs ys : List (List ℕ)) (i : ℕ) (vs ws : List ℕ) → length xs ≡ length ys → length (slice_set xs i vs) ≡ length (slice_set ys i ws)
set_long xs ys i vs ws e = length-set xs i vs ∙ (e ∙ sym (length-set ys i ws))

-- the same words at the places where p is false
pub record Agree (p : ℕ → Bool) (xs ys : List (List ℕ)) : Type 0 where
  pub words : (j : ℕ) → p j ≡ false → words_of xs j ≡ words_of ys j
  pub size : length xs ≡ length ys

-- a place is set to the same words, or one where p is true
pub set_agrees : (p : ℕ → Bool) (xs ys : List (List ℕ)) (i : ℕ) (vs ws : List ℕ) → Agree p xs ys → (p i ≡ false → vs ≡ ws) → Agree p (slice_set xs i vs) (slice_set ys i ws)
set_agrees p xs ys i vs ws a f = record { words = λ j h. at j h (p i) refl; size = set_long xs ys i vs ws a.size }
  where
    at : (j : ℕ) → p j ≡ false → (b : Bool) → p i ≡ b → words_of (slice_set xs i vs) j ≡ words_of (slice_set ys i ws) j
    at j h true e =
        let n : j ≢ i = λ z. let y : p j ≡ p i = ap p z in cc in
        words_other xs i j vs n ∙ (a.words j h ∙ sym (words_other ys i j ws n))
    at j h false e = set_alike xs ys i j vs a.size (a.words j h) ∙ ap (λ w. words_of (slice_set ys i w) j) (f e)

pub updates_agree : (p : ℕ → Bool) (rows : List Row) (us : List Update) (xs ys : List (List ℕ)) → Agree p xs ys → Agree p (all_updated rows xs us) (all_updated rows ys us)
updates_agree p rows [] xs ys a = a
updates_agree p rows (u ∷ us) xs ys a =
    updates_agree p rows us (with_update rows xs u) (with_update rows ys u) (set_agrees p xs ys u.signal _ _ a (λ h. rw (a.words u.signal h) refl))

-- ---- assignments

module _ (scope : Scope) (funs : List Fun) (call : ℕ → List ℕ → ℕ) (al : Alike scope funs call) where
  abbrev bare : State → State
  bare s = record s { values = [] }

  pub differ : (s t : State) → Same scope.names.rows s t → DifferIn (is_loop scope.names.rows) (sample s) (sample t)
  differ s t a = record { values = a.others; time = ap (λ (z : State). z.ticks) (a.all_else); answer = ap (λ (z : State). z.answer) (a.all_else) }

  module _ (at : List (List ℕ)) where
    mutual
      pub target_width_put : (t : Target) → target_width (other scope funs call al at).names (put_target scope.names.rows at t) ≡ target_width scope.names t
      target_width_put (Whole j) = refl
      target_width_put (WordAt m a) = refl
      target_width_put (PickAt b i from w) = refl
      target_width_put (SliceAt b low w) = refl
      target_width_put (Several ts) = targets_width_put ts

      pub targets_width_put : (ts : Targets) → targets_width (other scope funs call al at).names (put_targets scope.names.rows at ts) ≡ targets_width scope.names ts
      targets_width_put NoTargets = refl
      targets_width_put (MoreTargets t ts) = rw (target_width_put t, targets_width_put ts) refl

  module _ (e s t : State) (a : Same scope.names.rows s t) (h : Holds scope.names.rows e s) where
    abbrev scope' : Scope
    scope' = other scope funs call al e.values

    pub put_value : (x : Exp) → IsSoundExp scope.names x → (c : Form) → value scope' (sample t) (put scope.names.rows e.values x) c ≡ value scope (sample s) x c
    put_value x k c = value_put scope funs call al e.values (sample s) (sample t) (differ s t a) h.loops x k c

    pub put_form : (x : Exp) → form scope'.names (put scope.names.rows e.values x) ≡ form scope.names x
    put_form x = form_put scope funs call al e.values x

    base_put : (b : Target) → IsSoundBase scope.names b → spots scope' (sample t) (put_target scope.names.rows e.values b) ≡ spots scope (sample s) b
    base_put (Whole j) k = refl
    base_put (WordAt m i) k = rw (put_form i, put_value i k.1 (form scope.names i)) refl
    base_put (PickAt b i from w) k = absurd k
    base_put (SliceAt b low w) k = absurd k
    base_put (Several ts) k = absurd k

    mutual
      spots_put : (b : Target) → IsSoundTarget scope.names b → spots scope' (sample t) (put_target scope.names.rows e.values b) ≡ spots scope (sample s) b
      spots_put (Whole j) k = refl
      spots_put (WordAt m i) k = rw (put_form i, put_value i k.1 (form scope.names i)) refl
      spots_put (PickAt b i from w) k = rw (put_form i, put_value i k.2 (form scope.names i), base_put b k.1) refl
      spots_put (SliceAt b low w) k = rw (base_put b k.1) refl
      spots_put (Several ts) k = all_spots_put ts k.1

      all_spots_put : (ts : Targets) → AreSoundTargets scope.names ts → all_spots scope' (sample t) (put_targets scope.names.rows e.values ts) ≡ all_spots scope (sample s) ts
      all_spots_put NoTargets k = refl
      all_spots_put (MoreTargets b ts) k = rw (spots_put b k.0, all_spots_put ts k.1) refl

    pub assignment_put : (b : Target) (x : Exp) → IsSoundTarget scope.names b → IsSoundExp scope.names x →
        assignment scope' (sample t) (put_target scope.names.rows e.values b) (put scope.names.rows e.values x) ≡ assignment scope (sample s) b x
    assignment_put b x k l = rw (spots_put b k, put_form x, target_width_put e.values b, put_value x l _) refl

    -- ---- calls

    piece_put : (p : Piece) → IsSoundPiece scope.names p → piece_text scope' (sample t) (put_piece scope.names.rows e.values p) ≡ piece_text scope (sample s) p
    piece_put (Literal text) k = refl
    piece_put (Shown format x) k = rw (put_form x, put_value x k (form scope.names x)) refl

    descriptor_put : (fd : Exp) → IsSoundExp scope.names fd → descriptor_of scope' (sample t) (put scope.names.rows e.values fd) ≡ descriptor_of scope (sample s) fd
    descriptor_put fd k = rw (put_form fd, put_value fd k (form scope.names fd)) refl

    pieces_put : (ps : List Piece) → AllByRecursion (IsSoundPiece scope.names) ps → pieces_text scope' (sample t) (put_pieces scope.names.rows e.values ps) ≡ pieces_text scope (sample s) ps
    pieces_put [] k = refl
    pieces_put (p ∷ ps) k = rw (piece_put p k.0, pieces_put ps k.1) refl

    table_same : t.table ≡ s.table
    table_same = sym (ap (λ (z : State). z.table) (a.all_else))

    -- what leaves the values alone
    same_but : (f : State → State) → ((z : State) → record (f z) { values = [] } ≡ f (bare z)) → ((z : State) → (f z).values ≡ z.values) → Same scope.names.rows (f s) (f t)
    same_but f g v = record {
      others = λ j b. ap (λ vs. words_of vs j) (v s) ∙ (a.others j b ∙ sym (ap (λ vs. words_of vs j) (v t)));
      size = ap length (v s) ∙ (a.size ∙ sym (ap length (v t)));
      all_else = g s ∙ (ap f (a.all_else) ∙ sym (g t));
    }

    answer_same : (m n : ℕ) → n ≡ m → Same scope.names.rows (record s { answer = m }) (record t { answer = n })
    answer_same m n f = rw f (same_but (λ z. record z { answer = m }) (λ z. refl) (λ z. refl))

    answered_same : (r : file.Answer) → Same scope.names.rows (answered s r) (answered t r)
    answered_same r = same_but (λ z. answered z r) (λ z. refl) (λ z. refl)

    read_same : (j : ℕ) (r q : file.Reading) → q ≡ r → Same scope.names.rows (variable_read j s r) (variable_read j t q)
    read_same j r q f =
        let g = set_agrees (is_loop scope.names.rows) s.values t.values j _ _ (record { words = a.others; size = a.size }) (λ b. ap (λ ws. slice_set ws 0 r.value) (a.others j b)) in
        rw f (record { others = g.words; size = g.size; all_else = ap (λ (z : State). record z { table = r.table; answer = r.count }) (a.all_else) })

    memory_same : (m : ℕ) (r : Option Row) (text : Option (List ℕ)) → Same scope.names.rows (memory_read m r text s) (memory_read m r text t)
    memory_same m None text = a
    memory_same m (Some r) None = a
    memory_same m (Some r) (Some text) =
        let g = set_agrees (is_loop scope.names.rows) s.values t.values m _ _ (record { words = a.others; size = a.size }) (λ b. ap (words_read r.width r.lowest r.words text) (a.others m b)) in
        record { others = g.words; size = g.size; all_else = a.all_else }

    pub done_same : (task : Task) → IsSoundTask scope.names task → task_writes (is_loop scope.names.rows) task ≡ false → Same scope.names.rows (done scope task s) (done scope' (put_task scope.names.rows e.values task) t)
    done_same (Print pieces newline) k n =
        let f = pieces_put pieces (recursion_from_All (IsSoundPiece scope.names) pieces k) in
        rw f (same_but (λ z. record z { printed = z.printed ++ display_text scope (sample s) pieces newline }) (λ z. refl) (λ z. refl))
    done_same (Finish es) k n = same_but (λ z. record z { finished = true }) (λ z. refl) (λ z. refl)
    done_same (Save name) k n = same_but (λ z. record z { saves = z.saves ++ name ∷ [] }) (λ z. refl) (λ z. refl)
    done_same (Fopen name) k n = rw table_same (answered_same _)
    done_same (Fread j fd) k n = read_same j _ _ (rw (table_same, descriptor_put fd k.1, sym (a.others j n)) refl)
    done_same (Fgetc fd) k n = rw (table_same, descriptor_put fd k) (answered_same _)
    done_same (Feof fd) k n = answer_same _ _ (rw (table_same, descriptor_put fd k) refl)
    done_same (Fclose fd) k n = rw (table_same, descriptor_put fd k) (same_but (λ z. record z { table = file.closed s.table (descriptor_of scope (sample s) fd) }) (λ z. refl) (λ z. refl))
    done_same (ReadHex name m) k n = memory_same m (slice_get scope.names.rows m) (file.contents scope.files name)

  pub counted_same : (s t : State) → Same scope.names.rows s t → Same scope.names.rows (counted s) (counted t)
  counted_same s t a = record { others = a.others; size = a.size; all_else = ap counted (a.all_else) }

  pub finished_same : (s t : State) → Same scope.names.rows s t → s.finished ≡ t.finished
  finished_same s t a = ap (λ (z : State). z.finished) (a.all_else)

-- ---- a statement keeps how many signals there are

pub updates_long : (rows : List Row) (us : List Update) (xs : List (List ℕ)) → length (all_updated rows xs us) ≡ length xs
updates_long rows [] xs = refl
updates_long rows (u ∷ us) xs = updates_long rows us (with_update rows xs u) ∙ length-set xs u.signal _

steps_long : (scope : Scope) → Steps scope (λ s t. length t.values ≡ length s.values) (λ t. ⊤) (λ t. ⊤) (λ k. ⊤) (λ j. ⊤)
steps_long scope = record {
  same = λ s. refl;
  next = λ a b c f g. g ∙ f;
  counts = λ s. refl;
  sets = λ t e s h f. updates_long scope.names.rows (assignment scope (sample s) t e) s.values;
  delays = λ t e s h f. refl;
  calls = λ task s h f. call_long scope task s;
  restores = λ j before s h f. length-set s.values j _ ∙ f;
}
  where
    memory_long : (m : ℕ) (r : Option Row) (text : Option (List ℕ)) (s : State) → length (memory_read m r text s).values ≡ length s.values
    memory_long m None text s = refl
    memory_long m (Some r) None s = refl
    memory_long m (Some r) (Some text) s = length-set s.values m _

    call_long : (scope : Scope) (task : Task) (s : State) → length (called scope task s).values ≡ length s.values
    call_long scope (Print pieces newline) s = refl
    call_long scope (Finish es) s = refl
    call_long scope (Save name) s = refl
    call_long scope (Fopen name) s = refl
    call_long scope (Fread j fd) s = length-set s.values j _
    call_long scope (Fgetc fd) s = refl
    call_long scope (Feof fd) s = refl
    call_long scope (Fclose fd) s = refl
    call_long scope (ReadHex name m) s = memory_long m (slice_get scope.names.rows m) (file.contents scope.files name) s

pub exec_long : (scope : Scope) (a : Stm) (s : State) → length (exec scope a s).values ≡ length s.values
exec_long scope a s = exec_leads scope _ _ _ _ _ (steps_long scope) a (all_in a) s

-- a statement that writes no loop variable keeps what they hold
pub plain_holds : (scope : Scope) (a : Stm) → stm_writes (is_loop scope.names.rows) a ≡ false → (e s : State) → Holds scope.names.rows e s → Holds scope.names.rows e (exec scope a s)
plain_holds scope a w e s h = record {
  loops = λ j m. sym (exec_keeps (is_loop scope.names.rows) j m scope a w s) ∙ h.loops j m;
  size = exec_long scope a s ∙ h.size;
  alive = h.alive;
}
