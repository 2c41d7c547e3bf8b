-- What statements do that read no signal, and call no function, in which two scopes and states differ.
use Rattle.std.proofs.Common.{◌≡◌, ◌≢◌, ℕ, zero, suc, ◌+◌, ◌<◌, ◌≤◌, nat_lt, arith, Bool, true, false, List, [], ◌∷◌, ◌++◌, length, Option, Some, None, refl, sym, ◌∙◌, ap, subst}
use Rattle.std.specs.Prelude.{◌||◌, ◌&&◌, not, if◌then◌else◌, nat_eq, slice_set, slice_get, codes}
use Rattle.std.proofs.lemmas.List.{length-set}
use Rattle.std.proofs.lemmas.Bool.{ltb-true, ltb-false, eqb-true, eq-eqb}
use Rattle.vl_base.specs.declared.files.File.{File}
use Rattle.vl_base.specs.Files as file
use Rattle.vl_design.specs.declared.design.Form.{Form}
use Rattle.vl_design.specs.Syntax.{Exp, Num, Label, Sig, Word, Pick, Slice, Un, Bin, Cond, Cat, Rep, Cast, Call, Time, LastAnswer, Exps, NoExps, MoreExps, Target, Whole, WordAt, PickAt, SliceAt, Several, Targets, NoTargets, MoreTargets, Piece, Literal, Shown, Task, Print, Finish, Save, Fopen, Fread, Fgetc, Feof, Fclose, ReadHex, Stm, Nop, Then, If, Case, For, Repeat, Set, Later, Sys, Items, NoItems, Labelled, Default, Row}
use Rattle.vl_design.specs.Width.{Names, Scope, form, signal_form, assigned}
use Rattle.vl_design.specs.Value.{Sample, value, side_by_side, arguments, words_of, value_of}
use Rattle.vl_design.specs.State.{State, Update, sample, counted, with_update, all_updated}
use Rattle.vl_design.specs.Targets.{spots, all_spots, assignment, target_width}
use Rattle.vl_design.specs.Tasks.{pieces_text, descriptor_of, called, memory_read}
use Rattle.vl_design.specs.Exec.{exec, exec_items, exec_default, turns, some_turn, times, counted_if, label_matches, some_match, is_true, goes_on, most_turns, holds, items_hold, items_form, asks}
use Rattle.vl_design.specs.Reads.{reads, some_reads, target_reads, targets_read, pieces_read, task_reads, stm_reads, items_read}
use Rattle.vl_design.specs.Nesting.{calls, some_calls, target_calls, targets_call, pieces_call, task_calls, stm_calls, items_call}
use Rattle.vl_design.specs.Laws.{DifferIn, ValuesDifferIn, StatesDifferIn}
use Rattle.vl_design.proofs.Unread.{or_false}
use Rattle.vl_design.proofs.Kept.{words_set, words_past, words_other}
use Rattle.vl_design.proofs.Nothing.{stm_calls_none}

module _ (names : Names) (files : List File) (call other : ℕ → List ℕ → ℕ) (p q : ℕ → Bool) (same : (f : ℕ) → q f ≡ false → (args : List ℕ) → call f args ≡ other f args) where
  abbrev left : Scope
  left = record { names = names; files = files; call = call }

  abbrev right : Scope
  right = record { names = names; files = files; call = other }

  -- ---- expressions

  module _ (s t : Sample) (d : DifferIn p s t) where
    mutual
      value_alike : (e : Exp) → reads p e ≡ false → calls q e ≡ false → (c : Form) → value left s e c ≡ value right t e c
      value_alike (Num v w signed) h i c = refl
      value_alike (Label v care w signed) h i c = refl
      value_alike (Sig k) h i c = rw (d.values k h) refl
      value_alike (Word m a) h i c = let g = or_false (p m) (reads p a) h in rw (value_alike a g.1 i (form names a), d.values m g.0) refl
      value_alike (Pick b x from w) h i c =
          let g = or_false (reads p b) (reads p x) h in
          let f = or_false (calls q b) (calls q x) i in
          rw (value_alike b g.0 f.0 (form names b), value_alike x g.1 f.1 (form names x)) refl
      value_alike (Slice b low w) h i c = rw (value_alike b h i (form names b)) refl
      value_alike (Un op a) h i c = rw (value_alike a h i _) refl
      value_alike (Bin op a b) h i c =
          let g = or_false (reads p a) (reads p b) h in
          let f = or_false (calls q a) (calls q b) i in
          rw (value_alike a g.0 f.0 _, value_alike b g.1 f.1 _) refl
      value_alike (Cond u a b) h i c =
          let g = or_false (reads p u) (reads p a || reads p b) h in
          let g' = or_false (reads p a) (reads p b) g.1 in
          let f = or_false (calls q u) (calls q a || calls q b) i in
          let f' = or_false (calls q a) (calls q b) f.1 in
          rw (value_alike u g.0 f.0 (form names u), value_alike a g'.0 f'.0 c, value_alike b g'.1 f'.1 c) refl
      value_alike (Cat es) h i c = side_alike es h i
      value_alike (Rep n es) h i c = rw (side_alike es h i) refl
      value_alike (Cast signed a) h i c = rw (value_alike a h i (form names a)) refl
      value_alike (Call f es) h i c = let g = or_false (q f) (some_calls q es) i in rw (arguments_alike es h g.1 _, same f g.0 _) refl
      value_alike Time h i c = rw (d.time) refl
      value_alike LastAnswer h i c = rw (d.answer) refl

      side_alike : (es : Exps) → some_reads p es ≡ false → some_calls q es ≡ false → side_by_side left s es ≡ side_by_side right t es
      side_alike NoExps h i = refl
      side_alike (MoreExps e es) h i =
          let g = or_false (reads p e) (some_reads p es) h in
          let f = or_false (calls q e) (some_calls q es) i in
          rw (value_alike e g.0 f.0 (form names e), side_alike es g.1 f.1) refl

      arguments_alike : (es : Exps) → some_reads p es ≡ false → some_calls q es ≡ false → (ws : List ℕ) → arguments left s es ws ≡ arguments right t es ws
      arguments_alike NoExps h i ws = refl
      arguments_alike (MoreExps e es) h i [] = refl
      arguments_alike (MoreExps e es) h i (w ∷ ws) =
          let g = or_false (reads p e) (some_reads p es) h in
          let f = or_false (calls q e) (some_calls q es) i in
          rw (value_alike e g.0 f.0 _, arguments_alike es g.1 f.1 ws) refl

    mutual
      spots_alike : (x : Target) → target_reads p x ≡ false → target_calls q x ≡ false → spots left s x ≡ spots right t x
      spots_alike (Whole k) h i = refl
      spots_alike (WordAt m a) h i = rw (value_alike a h i (form names a)) refl
      spots_alike (PickAt b x from w) h i =
          let g = or_false (target_reads p b) (reads p x) h in
          let f = or_false (target_calls q b) (calls q x) i in
          rw (spots_alike b g.0 f.0, value_alike x g.1 f.1 (form names x)) refl
      spots_alike (SliceAt b low w) h i = rw (spots_alike b h i) refl
      spots_alike (Several ts) h i = all_spots_alike ts h i

      all_spots_alike : (xs : Targets) → targets_read p xs ≡ false → targets_call q xs ≡ false → all_spots left s xs ≡ all_spots right t xs
      all_spots_alike NoTargets h i = refl
      all_spots_alike (MoreTargets x xs) h i =
          let g = or_false (target_reads p x) (targets_read p xs) h in
          let f = or_false (target_calls q x) (targets_call q xs) i in
          rw (spots_alike x g.0 f.0, all_spots_alike xs g.1 f.1) refl

    assignment_alike : (x : Target) (e : Exp) → (target_reads p x || reads p e) ≡ false → (target_calls q x || calls q e) ≡ false → assignment left s x e ≡ assignment right t x e
    assignment_alike x e h i =
        let g = or_false (target_reads p x) (reads p e) h in
        let f = or_false (target_calls q x) (calls q e) i in
        rw (spots_alike x g.0 f.0, value_alike e g.1 f.1 (assigned (target_width names x) (form names e))) refl

    label_alike : (c : Form) (v : ℕ) (e : Exp) → reads p e ≡ false → calls q e ≡ false → label_matches left s c v e ≡ label_matches right t c v e
    label_alike c v (Num a w signed) h i = refl
    label_alike c v (Label l care w signed) h i = refl
    label_alike c v (Sig k) h i = rw (value_alike (Sig k) h i c) refl
    label_alike c v (Word m a) h i = rw (value_alike (Word m a) h i c) refl
    label_alike c v (Pick b x from w) h i = rw (value_alike (Pick b x from w) h i c) refl
    label_alike c v (Slice b low w) h i = rw (value_alike (Slice b low w) h i c) refl
    label_alike c v (Un op a) h i = rw (value_alike (Un op a) h i c) refl
    label_alike c v (Bin op a b) h i = rw (value_alike (Bin op a b) h i c) refl
    label_alike c v (Cond u a b) h i = rw (value_alike (Cond u a b) h i c) refl
    label_alike c v (Cat es) h i = rw (value_alike (Cat es) h i c) refl
    label_alike c v (Rep n es) h i = rw (value_alike (Rep n es) h i c) refl
    label_alike c v (Cast signed a) h i = rw (value_alike (Cast signed a) h i c) refl
    label_alike c v (Call f es) h i = rw (value_alike (Call f es) h i c) refl
    label_alike c v Time h i = rw (value_alike Time h i c) refl
    label_alike c v LastAnswer h i = rw (value_alike LastAnswer h i c) refl

    match_alike : (c : Form) (v : ℕ) (es : Exps) → some_reads p es ≡ false → some_calls q es ≡ false → some_match left s c v es ≡ some_match right t c v es
    match_alike c v NoExps h i = refl
    match_alike c v (MoreExps e es) h i =
        let g = or_false (reads p e) (some_reads p es) h in
        let f = or_false (calls q e) (some_calls q es) i in
        rw (label_alike c v e g.0 f.0, match_alike c v es g.1 f.1) refl

    text_alike : (ps : List Piece) → pieces_read p ps ≡ false → pieces_call q ps ≡ false → pieces_text left s ps ≡ pieces_text right t ps
    text_alike [] h i = refl
    text_alike (Literal x ∷ ps) h i = rw (text_alike ps h i) refl
    text_alike (Shown format e ∷ ps) h i =
        let g = or_false (reads p e) (pieces_read p ps) h in
        let f = or_false (calls q e) (pieces_call q ps) i in
        rw (value_alike e g.0 f.0 (form names e), text_alike ps g.1 f.1) refl

    descriptor_alike : (fd : Exp) → reads p fd ≡ false → calls q fd ≡ false → descriptor_of left s fd ≡ descriptor_of right t fd
    descriptor_alike fd h i = rw (value_alike fd h i (form names fd)) refl

-- ---- values

pub set_alike : (p : ℕ → Bool) (v w : List (List ℕ)) (k : ℕ) (ws xs : List ℕ) → ValuesDifferIn p v w → (p k ≡ false → ws ≡ xs) → ValuesDifferIn p (slice_set v k ws) (slice_set w k xs)
set_alike p v w k ws xs d e = record { many = length-set v k ws ∙ (d.many ∙ sym (length-set w k xs)); words = λ j h. at j h (nat_eq j k) refl }
  where
    there : p k ≡ false → (b : Bool) → nat_lt k (length v) ≡ b → words_of (slice_set v k ws) k ≡ words_of (slice_set w k xs) k
    there h true l =
        let i : k < length v = ltb-true k (length v) l in
        let m = d.many in
        let i' : k < length w = omega arith in
        words_set v k ws i ∙ (e h ∙ sym (words_set w k xs i'))
    there h false l =
        let i : length v ≤ k = ltb-false k (length v) l in
        let m = d.many in
        let j : length (slice_set v k ws) ≤ k = omega (arith, length-set v k ws) in
        let j' : length (slice_set w k xs) ≤ k = omega (arith, length-set w k xs) in
        words_past (slice_set v k ws) k j ∙ sym (words_past (slice_set w k xs) k j')

    at : (j : ℕ) → p j ≡ false → (b : Bool) → nat_eq j k ≡ b → words_of (slice_set v k ws) j ≡ words_of (slice_set w k xs) j
    at j h true i =
        let n : j ≡ k = eqb-true j k i in
        let g : p k ≡ false = ap p (sym n) ∙ h in
        rw n (there g (nat_lt k (length v)) refl)
    at j h false i =
        let n : j ≢ k = λ z. (let y = eq-eqb j k z in cc (y, i)) in
        words_other v k j ws n ∙ (d.words j h ∙ sym (words_other w k j xs n))

update_alike : (p : ℕ → Bool) (rows : List Row) (u : Update) (v w : List (List ℕ)) → ValuesDifferIn p v w → ValuesDifferIn p (with_update rows v u) (with_update rows w u)
update_alike p rows u v w d = set_alike p v w u.signal _ _ d (λ h. rw (d.words u.signal h) refl)

pub updates_alike : (p : ℕ → Bool) (rows : List Row) (us : List Update) (v w : List (List ℕ)) → ValuesDifferIn p v w → ValuesDifferIn p (all_updated rows v us) (all_updated rows w us)
updates_alike p rows [] v w d = d
updates_alike p rows (u ∷ us) v w d = updates_alike p rows us (with_update rows v u) (with_update rows w u) (update_alike p rows u v w d)

-- ---- statements

module _ (p : ℕ → Bool) where
  pub sample_alike : {s t : State} → StatesDifferIn p s t → DifferIn p (sample s) (sample t)
  sample_alike d = record { values = d.values.words; time = ap (λ (z : State). z.ticks) d.others; answer = ap (λ (z : State). z.answer) d.others }

  pub alike_by : (b c : Bool) (s x t y : State) → b ≡ c → StatesDifferIn p s t → StatesDifferIn p x y → StatesDifferIn p (if b then s else x) (if c then t else y)
  alike_by true true s x t y e d f = d
  alike_by false false s x t y e d f = f
  alike_by true false s x t y e d f = let z : ⊥ = cc in absurd z
  alike_by false true s x t y e d f = let z : ⊥ = cc in absurd z

  counted_alike : (b c : Bool) (s t : State) → b ≡ c → StatesDifferIn p s t → StatesDifferIn p (counted_if b s) (counted_if c t)
  counted_alike b c s t e d =
      alike_by (b && not s.finished) (c && not t.finished) (counted s) s (counted t) t (rw (e, ap (λ (z : State). z.finished) d.others) refl)
      (record { values = d.values; others = ap (λ (z : State). record z { count = z.count + 1 }) d.others }) d

  turns_alike : (n : ℕ) (test test' : State → Bool) (turn turn' : State → State) → ((s t : State) → StatesDifferIn p s t → test s ≡ test' t) → ((s t : State) → StatesDifferIn p s t → StatesDifferIn p (turn s) (turn' t))
      → (s t : State) → StatesDifferIn p s t → StatesDifferIn p (turns n test turn s) (turns n test' turn' t)
  turns_alike zero test test' turn turn' f g s t d = d
  turns_alike (suc n) test test' turn turn' f g s t d = at (test s) (test' t) (f s t d) (turns_alike n test test' turn turn' f g (turn s) (turn' t) (g s t d))
    where
      at : (b c : Bool) → b ≡ c → StatesDifferIn p (turns n test turn (turn s)) (turns n test' turn' (turn' t))
          → StatesDifferIn p (elim b [ true ↦ turns n test turn (turn s) | false ↦ s ]) (elim c [ true ↦ turns n test' turn' (turn' t) | false ↦ t ])
      at true true e k = k
      at false false e k = d
      at true false e k = let z : ⊥ = cc in absurd z
      at false true e k = let z : ⊥ = cc in absurd z

  times_alike : (n : ℕ) (turn turn' : State → State) → ((s t : State) → StatesDifferIn p s t → StatesDifferIn p (turn s) (turn' t)) → (s t : State) → StatesDifferIn p s t → StatesDifferIn p (times n turn s) (times n turn' t)
  times_alike zero turn turn' g s t d = d
  times_alike (suc n) turn turn' g s t d = times_alike n turn turn' g (turn s) (turn' t) (g s t d)

  some_turn_alike : (n : ℕ) (test test' : State → Bool) (turn turn' : State → State) (r r' : State → Bool) → ((s t : State) → StatesDifferIn p s t → test s ≡ test' t) → ((s t : State) → StatesDifferIn p s t → StatesDifferIn p (turn s) (turn' t))
      → ((s t : State) → StatesDifferIn p s t → r s ≡ r' t) → (s t : State) → StatesDifferIn p s t → some_turn n test turn r s ≡ some_turn n test' turn' r' t
  some_turn_alike zero test test' turn turn' r r' f g h s t d = refl
  some_turn_alike (suc n) test test' turn turn' r r' f g h s t d = at (test s) (test' t) (f s t d) (h s t d) (some_turn_alike n test test' turn turn' r r' f g h (turn s) (turn' t) (g s t d))
    where
      at : (b c : Bool) → b ≡ c → r s ≡ r' t → some_turn n test turn r (turn s) ≡ some_turn n test' turn' r' (turn' t)
          → ◌≡◌ {A = Bool} (elim b [ true ↦ r s || some_turn n test turn r (turn s) | false ↦ false ]) (elim c [ true ↦ r' t || some_turn n test' turn' r' (turn' t) | false ↦ false ])
      at true true e k l = rw (k, l) refl
      at false false e k l = refl
      at true false e k l = let z : ⊥ = cc in absurd z
      at false true e k l = let z : ⊥ = cc in absurd z

  memory_alike : (m : ℕ) (r : Option Row) (text : Option (List ℕ)) (s t : State) → StatesDifferIn p s t → StatesDifferIn p (counted (memory_read m r text s)) (counted (memory_read m r text t))
  memory_alike m None text s t d = record { values = d.values; others = ap (λ (z : State). record z { count = z.count + 1 }) d.others }
  memory_alike m (Some r) None s t d = record { values = d.values; others = ap (λ (z : State). record z { count = z.count + 1 }) d.others }
  memory_alike m (Some r) (Some text) s t d = record {
    values = set_alike p s.values t.values m _ _ d.values (λ h. rw (d.values.words m h) refl);
    others = ap (λ (z : State). record z { count = z.count + 1 }) d.others;
  }

module _ (names : Names) (files : List File) (call other : ℕ → List ℕ → ℕ) (p q : ℕ → Bool) (same : (f : ℕ) → q f ≡ false → (args : List ℕ) → call f args ≡ other f args) where
  abbrev first : Scope
  first = record { names = names; files = files; call = call }

  abbrev second : Scope
  second = record { names = names; files = files; call = other }

  true_alike : (e : Exp) → reads p e ≡ false → calls q e ≡ false → (s t : State) → StatesDifferIn p s t → is_true first e s ≡ is_true second e t
  true_alike e h i s t d = rw (value_alike names files call other p q same (sample s) (sample t) (sample_alike p d) e h i (form names e)) refl

  goes_alike : (e : Exp) → reads p e ≡ false → calls q e ≡ false → (s t : State) → StatesDifferIn p s t → goes_on first e s ≡ goes_on second e t
  goes_alike e h i s t d = rw (ap (λ (z : State). z.finished) d.others, true_alike e h i s t d) refl

  call_alike : (task : Task) → task_reads p task ≡ false → task_calls q task ≡ false → (s t : State) → StatesDifferIn p s t → StatesDifferIn p (called first task s) (called second task t)
  call_alike (Print pieces newline) h i s t d = record {
    values = d.values;
    others = rw (text_alike names files call other p q same (sample s) (sample t) (sample_alike p d) pieces h i) (ap (λ (z : State). record z { printed = z.printed ++ (pieces_text second (sample t) pieces ++ (if newline then codes "\n" else [])); count = z.count + 1 }) d.others);
  }
  call_alike (Finish es) h i s t d = record { values = d.values; others = ap (λ (z : State). record z { finished = true; count = z.count + 1 }) d.others }
  call_alike (Save name) h i s t d = record { values = d.values; others = ap (λ (z : State). record z { saves = z.saves ++ name ∷ []; count = z.count + 1 }) d.others }
  call_alike (Fopen name) h i s t d = record {
    values = d.values;
    others = ap (λ (z : State). record z { table = (file.opened files z.table name).table; answer = (file.opened files z.table name).answer; count = z.count + 1 }) d.others;
  }
  call_alike (Fread k fd) h i s t d =
      let g = or_false (p k) (reads p fd) h in
      let table : s.table ≡ t.table = ap (λ (z : State). z.table) d.others in
      let e : file.read files s.table (descriptor_of first (sample s) fd) (signal_form names.rows k).width (value_of s.values k) ≡ file.read files t.table (descriptor_of second (sample t) fd) (signal_form names.rows k).width (value_of t.values k) =
      rw (table, d.values.words k g.0, descriptor_alike names files call other p q same (sample s) (sample t) (sample_alike p d) fd g.1 i) refl in
      record {
        values = set_alike p s.values t.values k _ _ d.values (λ z. rw (e, d.values.words k z) refl);
        others = rw e (ap (λ (z : State). record z {
          table = (file.read files t.table (descriptor_of second (sample t) fd) (signal_form names.rows k).width (value_of t.values k)).table;
          answer = (file.read files t.table (descriptor_of second (sample t) fd) (signal_form names.rows k).width (value_of t.values k)).count;
          count = z.count + 1;
        }) d.others);
      }
  call_alike (Fgetc fd) h i s t d = record {
    values = d.values;
    others = rw (descriptor_alike names files call other p q same (sample s) (sample t) (sample_alike p d) fd h i)
        (ap (λ (z : State). record z { table = (file.next_character files z.table (descriptor_of second (sample t) fd)).table; answer = (file.next_character files z.table (descriptor_of second (sample t) fd)).answer; count = z.count + 1 }) d.others);
  }
  call_alike (Feof fd) h i s t d = record {
    values = d.values;
    others = rw (descriptor_alike names files call other p q same (sample s) (sample t) (sample_alike p d) fd h i)
        (ap (λ (z : State). record z { answer = file.at_end z.table (descriptor_of second (sample t) fd); count = z.count + 1 }) d.others);
  }
  call_alike (Fclose fd) h i s t d = record {
    values = d.values;
    others = rw (descriptor_alike names files call other p q same (sample s) (sample t) (sample_alike p d) fd h i)
        (ap (λ (z : State). record z { table = file.closed z.table (descriptor_of second (sample t) fd); count = z.count + 1 }) d.others);
  }
  call_alike (ReadHex name m) h i s t d = memory_alike p m (slice_get names.rows m) (file.contents files name) s t d

  mutual
    holds_alike : (a : Stm) → stm_reads p a ≡ false → stm_calls q a ≡ false → (s t : State) → StatesDifferIn p s t → holds first s a ≡ holds second t a
    holds_alike Nop h i s t d = refl
    holds_alike (Then a b) h i s t d =
        let g = or_false (stm_reads p a) (stm_reads p b) h in
        let f = or_false (stm_calls q a) (stm_calls q b) i in
        rw (holds_alike a g.0 f.0 s t d, holds_alike b g.1 f.1 s t d) refl
    holds_alike (If u a b) h i s t d =
        let g = or_false (stm_reads p a) (stm_reads p b) (or_false (reads p u) (stm_reads p a || stm_reads p b) h).1 in
        let f = or_false (stm_calls q a) (stm_calls q b) (or_false (calls q u) (stm_calls q a || stm_calls q b) i).1 in
        rw (holds_alike a g.0 f.0 s t d, holds_alike b g.1 f.1 s t d) refl
    holds_alike (Case e items) h i s t d = items_hold_alike items (or_false (reads p e) (items_read p items) h).1 (or_false (calls q e) (items_call q items) i).1 s t d
    holds_alike (For k start test step a) h i s t d =
        let g = or_false (stm_reads p start) (reads p test || (stm_reads p step || stm_reads p a)) h in
        let g' = or_false (reads p test) (stm_reads p step || stm_reads p a) g.1 in
        let g'' = or_false (stm_reads p step) (stm_reads p a) g'.1 in
        let f = or_false (stm_calls q start) (calls q test || (stm_calls q step || stm_calls q a)) i in
        let f' = or_false (calls q test) (stm_calls q step || stm_calls q a) f.1 in
        let f'' = or_false (stm_calls q step) (stm_calls q a) f'.1 in
        some_turn_alike p most_turns (goes_on first test) (goes_on second test) (exec first step) (exec second step) (λ x. holds first x a) (λ x. holds second x a)
        (goes_alike test g'.0 f'.0) (exec_alike step g''.0 f''.0) (holds_alike a g''.1 f''.1) (exec first start s) (exec second start t) (exec_alike start g.0 f.0 s t d)
    holds_alike (Repeat n a) h i s t d = rw (holds_alike a h i s t d) refl
    holds_alike (Set x e) h i s t d = refl
    holds_alike (Later x e) h i s t d = refl
    holds_alike (Sys task) h i s t d = refl

    items_hold_alike : (items : Items) → items_read p items ≡ false → items_call q items ≡ false → (s t : State) → StatesDifferIn p s t → items_hold first s items ≡ items_hold second t items
    items_hold_alike NoItems h i s t d = refl
    items_hold_alike (Labelled es a others) h i s t d =
        let g = or_false (stm_reads p a) (items_read p others) (or_false (some_reads p es) (stm_reads p a || items_read p others) h).1 in
        let f = or_false (stm_calls q a) (items_call q others) (or_false (some_calls q es) (stm_calls q a || items_call q others) i).1 in
        rw (holds_alike a g.0 f.0 s t d, items_hold_alike others g.1 f.1 s t d) refl
    items_hold_alike (Default a others) h i s t d =
        let g = or_false (stm_reads p a) (items_read p others) h in
        let f = or_false (stm_calls q a) (items_call q others) i in
        rw (holds_alike a g.0 f.0 s t d, items_hold_alike others g.1 f.1 s t d) refl

    pub exec_alike : (a : Stm) → stm_reads p a ≡ false → stm_calls q a ≡ false → (s t : State) → StatesDifferIn p s t → StatesDifferIn p (exec first a s) (exec second a t)
    exec_alike Nop h i s t d = d
    exec_alike (Then a b) h i s t d =
        let g = or_false (stm_reads p a) (stm_reads p b) h in
        let f = or_false (stm_calls q a) (stm_calls q b) i in
        exec_alike b g.1 f.1 (exec first a s) (exec second a t) (exec_alike a g.0 f.0 s t d)
    exec_alike (If u a b) h i s t d =
        let g = or_false (reads p u) (stm_reads p a || stm_reads p b) h in
        let g' = or_false (stm_reads p a) (stm_reads p b) g.1 in
        let f = or_false (calls q u) (stm_calls q a || stm_calls q b) i in
        let f' = or_false (stm_calls q a) (stm_calls q b) f.1 in
        let held : (asks u || (holds first s a || holds first s b)) ≡ (asks u || (holds second t a || holds second t b)) = rw (holds_alike a g'.0 f'.0 s t d, holds_alike b g'.1 f'.1 s t d) refl in
        let c = counted_alike p _ _ s t held d in
        alike_by p (is_true first u s) (is_true second u t) _ _ _ _ (true_alike u g.0 f.0 s t d) (exec_alike a g'.0 f'.0 _ _ c) (exec_alike b g'.1 f'.1 _ _ c)
    exec_alike (Case e items) h i s t d =
        let g = or_false (reads p e) (items_read p items) h in
        let f = or_false (calls q e) (items_call q items) i in
        let k = items_form names (form names e) items in
        let v = value_alike names files call other p q same (sample s) (sample t) (sample_alike p d) e g.0 f.0 k in
        let c = counted_alike p (items_hold first s items) (items_hold second t items) s t (items_hold_alike items g.1 f.1 s t d) d in
        let x = items_alike items g.1 f.1 (value second (sample t) e k) k _ _ _ _ (default_alike items g.1 f.1 _ _ c) c in
        subst (λ (w : ℕ). StatesDifferIn p (exec_items first w k items (exec_default first items (counted_if (items_hold first s items) s)) (counted_if (items_hold first s items) s)) (exec second (Case e items) t)) (sym v) x
    exec_alike (For k start test step a) h i s t d =
        let g = or_false (stm_reads p start) (reads p test || (stm_reads p step || stm_reads p a)) h in
        let g' = or_false (reads p test) (stm_reads p step || stm_reads p a) g.1 in
        let g'' = or_false (stm_reads p step) (stm_reads p a) g'.1 in
        let f = or_false (stm_calls q start) (calls q test || (stm_calls q step || stm_calls q a)) i in
        let f' = or_false (calls q test) (stm_calls q step || stm_calls q a) f.1 in
        let f'' = or_false (stm_calls q step) (stm_calls q a) f'.1 in
        let x = turns_alike p most_turns (goes_on first test) (goes_on second test) (λ y. exec first step (exec first a y)) (λ y. exec second step (exec second a y))
        (goes_alike test g'.0 f'.0) (λ y z e. exec_alike step g''.0 f''.0 _ _ (exec_alike a g''.1 f''.1 y z e)) (exec first start s) (exec second start t) (exec_alike start g.0 f.0 s t d) in
        record { values = set_alike p _ _ k _ _ x.values (λ n. d.values.words k n); others = x.others }
    exec_alike (Repeat n a) h i s t d = times_alike p n (exec first a) (exec second a) (exec_alike a h i) s t d
    exec_alike (Set x e) h i s t d =
        let us = assignment_alike names files call other p q same (sample s) (sample t) (sample_alike p d) x e h i in
        alike_by p s.finished t.finished s _ t _ (ap (λ (z : State). z.finished) d.others) d
        (record { values = rw us (updates_alike p names.rows (assignment second (sample t) x e) s.values t.values d.values); others = d.others })
    exec_alike (Later x e) h i s t d =
        let us = assignment_alike names files call other p q same (sample s) (sample t) (sample_alike p d) x e h i in
        alike_by p s.finished t.finished s _ t _ (ap (λ (z : State). z.finished) d.others) d
        (record { values = d.values; others = rw us (ap (λ (z : State). record z { later = z.later ++ assignment second (sample t) x e }) d.others) })
    exec_alike (Sys task) h i s t d = alike_by p s.finished t.finished s _ t _ (ap (λ (z : State). z.finished) d.others) d (call_alike task h i s t d)

    items_alike : (items : Items) → items_read p items ≡ false → items_call q items ≡ false → (v : ℕ) (c : Form) (s t x y : State) → StatesDifferIn p x y → StatesDifferIn p s t → StatesDifferIn p (exec_items first v c items x s) (exec_items second v c items y t)
    items_alike NoItems h i v c s t x y o d = o
    items_alike (Labelled es a others) h i v c s t x y o d =
        let g = or_false (some_reads p es) (stm_reads p a || items_read p others) h in
        let g' = or_false (stm_reads p a) (items_read p others) g.1 in
        let f = or_false (some_calls q es) (stm_calls q a || items_call q others) i in
        let f' = or_false (stm_calls q a) (items_call q others) f.1 in
        alike_by p (some_match first (sample s) c v es) (some_match second (sample t) c v es) _ _ _ _ (match_alike names files call other p q same (sample s) (sample t) (sample_alike p d) c v es g.0 f.0)
        (exec_alike a g'.0 f'.0 s t d) (items_alike others g'.1 f'.1 v c s t x y o d)
    items_alike (Default a others) h i v c s t x y o d =
        let g = or_false (stm_reads p a) (items_read p others) h in
        let f = or_false (stm_calls q a) (items_call q others) i in
        items_alike others g.1 f.1 v c s t x y o d

    default_alike : (items : Items) → items_read p items ≡ false → items_call q items ≡ false → (s t : State) → StatesDifferIn p s t → StatesDifferIn p (exec_default first items s) (exec_default second items t)
    default_alike NoItems h i s t d = d
    default_alike (Labelled es a others) h i s t d =
        let g = or_false (stm_reads p a) (items_read p others) (or_false (some_reads p es) (stm_reads p a || items_read p others) h).1 in
        let f = or_false (stm_calls q a) (items_call q others) (or_false (some_calls q es) (stm_calls q a || items_call q others) i).1 in
        default_alike others g.1 f.1 s t d
    default_alike (Default a others) h i s t d =
        let g = or_false (stm_reads p a) (items_read p others) h in
        let f = or_false (stm_calls q a) (items_call q others) i in
        exec_alike a g.0 f.0 s t d

-- states that differ only in signals that the statement doesn't read differ only in these behind it
pub exec_unread : (scope : Scope) (p : ℕ → Bool) (a : Stm) → stm_reads p a ≡ false → (s t : State) → StatesDifferIn p s t → StatesDifferIn p (exec scope a s) (exec scope a t)
exec_unread scope p a h s t d = exec_alike scope.names scope.files scope.call scope.call p (λ f. false) (λ f e args. refl) a h (stm_calls_none (λ f. false) (λ f. refl) a) s t d
