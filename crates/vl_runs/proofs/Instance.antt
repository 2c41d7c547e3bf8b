-- Combinational processes of an accepted design are evaluated by the laws of settling.
use Rattle.std.proofs.Common.{◌≡◌, ◌≢◌, ℕ, ◌≤◌, Bool, true, false, List, [], ◌∷◌, length, refl, sym, ap, ◌∙◌, arith}
use Rattle.std.specs.Prelude.{◌&&◌, ◌⊎◌, not, pos, slice_index, if◌then◌else◌}
use Rattle.std.specs.Str.{bytes_eq}
use Rattle.std.specs.Cmp.Lexicographic.{bytes_decides}
use Rattle.std.proofs.lemmas.Bool.{ltb-false}
use Rattle.std.proofs.lemmas.List.{ext_get_or}
use Rattle.std.proofs.lemmas.Option.{unwrap_or-slice_get}
use Rattle.std.proofs.lemmas.Nat.Bits.{same_from_bits_below}
use mathlib.Core.Logic.{inl, inr}
use Rattle.vl_paths.specs.vl_base.specs.declared.files.File.{File}
use Rattle.vl_paths.specs.vl_base.specs.Selects.{bit_of}
use Rattle.vl_paths.specs.vl_design.specs.Syntax.{Stm, Nop, Then, If, Case, For, Repeat, Set, Later, Sys, Items, NoItems, Labelled, Default, Row, Flat}
use Rattle.vl_paths.specs.vl_design.specs.Width.{Scope, names_of, signal_form}
use Rattle.vl_paths.specs.vl_design.specs.Value.{words_of}
use Rattle.vl_paths.specs.vl_design.specs.State.{State}
use Rattle.vl_paths.specs.vl_design.specs.Exec.{exec}
use Rattle.vl_paths.specs.vl_design.specs.Functions.{scope_of, zeros, fresh}
use Rattle.vl_paths.specs.vl_design.specs.Queue.{changed, proc_at}
use Rattle.vl_paths.specs.vl_design.specs.Reads.{stm_reads, items_read}
use Rattle.vl_paths.specs.vl_design.specs.Turns.{turns_read, items_turns_read}
use Rattle.vl_paths.specs.vl_design.specs.Laws.{IsFine}
use Rattle.vl_paths.specs.vl_design.proofs.Ranging.{exec_in_range}
use Rattle.vl_paths.specs.vl_design.proofs.Shaping.{shape_on, exec_shape}
use Rattle.vl_paths.specs.Bits.{Bit}
use Rattle.vl_paths.specs.Paths.{always, early}
use Rattle.vl_paths.specs.Nets.{Twins, IsNetStm, AreNetItems}
use Rattle.vl_paths.specs.Touched.{touched, Lone}
use Rattle.vl_paths.specs.Graph as graph
use Rattle.vl_paths.specs.Graph.{drives, reads}
use Rattle.vl_paths.proofs.Ways.{and_true, or_right}
use Rattle.vl_paths.proofs.Reading.{word_below}
use Rattle.vl_paths.proofs.Doing.{exec_twins}
use Rattle.vl_paths.proofs.Untouched.{keeps_bit}
use Rattle.vl_paths.proofs.Wakes.{stm_unread, stm_reads_none}
use Rattle.vl_runs.specs.Nets as abstract
use Rattle.vl_runs.specs.NetsOfSettle.{Place, bit_at, is_memory, comb_at, run}
use Rattle.vl_runs.specs.Checked.{IsOrder}
use Rattle.vl_runs.proofs.Steady.{IsAccepted, drives_place, reads_place, wakes, Laws}

-- ---- values

equal_or_not : (b : Bool) (v w : List ℕ) → bytes_eq v w ≡ b → (v ≡ w) ⊎ (v ≢ w)
equal_or_not true v w h = inl ((bytes_decides v w).0 h)
equal_or_not false v w h = inr (λ e. let g : bytes_eq v w ≡ true = (bytes_decides v w).1 e in cc (g, h))

tell_values : (v w : List (List ℕ)) → (v ≡ w) ⊎ (v ≢ w)
tell_values [] [] = inl refl
tell_values [] (y ∷ ys) = inr (λ e. cc)
tell_values (x ∷ xs) [] = inr (λ e. cc)
tell_values (x ∷ xs) (y ∷ ys) = go (equal_or_not (bytes_eq x y) x y refl) (tell_values xs ys)
  where
    go : (x ≡ y) ⊎ (x ≢ y) → (xs ≡ ys) ⊎ (xs ≢ ys) → (x ∷ xs ≡ y ∷ ys) ⊎ (x ∷ xs ≢ y ∷ ys)
    go (inl e) (inl f) = inl (cc (e, f))
    go (inr n) f = inr (λ h. n (cc h))
    go (inl e) (inr n) = inr (λ h. n (cc h))

unchanged : (v w : List (List ℕ)) (k : ℕ) → changed v w k ≡ false → words_of v k ≡ words_of w k
unchanged v w k h = (bytes_decides (words_of v k) (words_of w k)).0 (not_not (bytes_eq (words_of v k) (words_of w k)) h)
  where
    not_not : (b : Bool) → not b ≡ false → b ≡ true
    not_not true h = refl
    not_not false h = let z : ⊥ = cc in absurd z

same_unchanged : (v : List (List ℕ)) (k : ℕ) → changed v v k ≡ false
same_unchanged v k = let e : bytes_eq (words_of v k) (words_of v k) ≡ true = (bytes_decides (words_of v k) (words_of v k)).1 refl in rw e refl

-- fine values are told by their bits
whole : (rows : List Row) (v w : List (List ℕ)) → IsFine rows v → IsFine rows w → ((b : Place) → bit_at v b ≡ bit_at w b) → v ≡ w
whole rows v w f g h = ext_get_or [] v w (f.shape.many ∙ sym g.shape.many) (λ k l. sym (unwrap_or-slice_get v k []) ∙ words k ∙ unwrap_or-slice_get w k [])
  where
    words : (k : ℕ) → words_of v k ≡ words_of w k
    words k = ext_get_or 0 (words_of v k) (words_of w k) (f.shape.words k ∙ sym (g.shape.words k)) (λ j l.
        same_from_bits_below (signal_form rows k).width _ _ (word_below rows v k j f.range) (word_below rows w k j g.range) (λ i m. h (record { signal = k; place = i }, j)))

lone : (rows : List Row) (v : List (List ℕ)) → IsFine rows v → Lone (is_memory rows) v
lone rows v f k m = let e : length (words_of (zeros rows) k) ≤ 1 = ltb-false 1 (length (words_of (zeros rows) k)) m in omega (arith, e, f.shape.words k)

-- ---- what wakes a net: it has no loops, so it's what its statement reads

module _ (is_memory : ℕ → Bool) (scope : Scope) (p : ℕ → Bool) where
  mutual
    turns_same : (a : Stm) → IsNetStm is_memory a → (s : State) → turns_read scope p a s ≡ stm_reads p a
    turns_same Nop n s = refl
    turns_same (Then a b) n s = rw (turns_same a n.0 s, turns_same b n.1 s) refl
    turns_same (If t a b) n s = rw (turns_same a n.0 s, turns_same b n.1 s) refl
    turns_same (Case x items) n s = rw (items_turns_same items n s) refl
    turns_same (Set t x) n s = refl
    turns_same (For j start test step a) n s = absurd n
    turns_same (Repeat m a) n s = absurd n
    turns_same (Later t x) n s = absurd n
    turns_same (Sys task) n s = absurd n

    items_turns_same : (items : Items) → AreNetItems is_memory items → (s : State) → items_turns_read scope p items s ≡ items_read p items
    items_turns_same NoItems n s = refl
    items_turns_same (Labelled es a others) n s = rw (turns_same a n.0 s, items_turns_same others n.1 s) refl
    items_turns_same (Default a others) n s = rw (turns_same a n.0 s, items_turns_same others n.1 s) refl

-- ---- one evaluation

module _ (d : Flat) (files : List File) (acc : IsAccepted d) (base : State) (alive : base.finished ≡ false) where
  abbrev behind : ℕ → List (List ℕ) → List (List ℕ)
  behind i v = (exec (scope_of d files) (proc_at d i).body (record base { values = v })).values

  -- what holds of an evaluation holds of the run of a process, where it holds of nothing being done
  comb_or_not : (P : List (List ℕ) → Type 0) (i : ℕ) (v : List (List ℕ)) → (comb_at d i ≡ true → P (behind i v)) → (comb_at d i ≡ false → P v) → P (run d files base i v)
  comb_or_not P i v f g = go (comb_at d i) refl
    where
      go : (b : Bool) → comb_at d i ≡ b → P (if b then behind i v else v)
      go true e = f e
      go false e = g e

  run_fine : (i : ℕ) (v : List (List ℕ)) → IsFine d.rows v → IsFine d.rows (run d files base i v)
  run_fine i v f = comb_or_not (IsFine d.rows) i v
      (λ e. record {
        range = exec_in_range (scope_of d files) (proc_at d i).body (record base { values = v }) f.range;
        shape = shape_on (exec_shape (scope_of d files) (proc_at d i).body (record base { values = v })) f.shape;
      })
      (λ e. f)

  run_keeps : (i : ℕ) (v : List (List ℕ)) (b : Place) → IsFine d.rows v → drives_place d i b ≡ false → bit_at (run d files base i v) b ≡ bit_at v b
  run_keeps i v b f h = comb_or_not (λ w. bit_at w b ≡ bit_at v b) i v
      (λ e. keeps_bit (is_memory d.rows) (scope_of d files) b.0 (proc_at d i).body (acc.nets i e) (acc.quiet i e) (not_driven (comb_at d i) _ e h) (record base { values = v }) f.range (lone d.rows v f) b.1)
      (λ e. refl)
    where
      not_driven : (x y : Bool) → x ≡ true → (x && y) ≡ false → y ≡ false
      not_driven true y e h = h
      not_driven false y e h = let z : ⊥ = cc in absurd z

  run_depends : (i : ℕ) (v w : List (List ℕ)) → IsFine d.rows v → IsFine d.rows w → ((b : Place) → reads_place d i b ≡ true → bit_at v b ≡ bit_at w b) →
      (b : Place) → drives_place d i b ≡ true → bit_at (run d files base i v) b ≡ bit_at (run d files base i w) b
  run_depends i v w f g same b h =
      let c = and_true (comb_at d i) (touched (names_of d) b.0 (proc_at d i).body) h in
      let at : (u : List (List ℕ)) → run d files base i u ≡ behind i u = λ u. ap (λ x. if x then behind i u else u) c.0 in
      ap (λ x. bit_at x b) (at v)
      ∙ (exec_twins (is_memory d.rows) (scope_of d files) (proc_at d i).body (acc.nets i c.0) (λ b. early (names_of d) b (proc_at d i).body) (λ b. always (names_of d) b (proc_at d i).body)
      (record base { values = v }) (record base { values = w }) (λ b g. g) (λ b g. or_right (early (names_of d) b (proc_at d i).body) _ g) (twins c.0)).values.same.bits b.0 b.1 (acc.total i c.0 b.0 c.1)
      ∙ ap (λ x. bit_at x b) (sym (at w))
    where
      read : comb_at d i ≡ true → (b : Bit) → early (names_of d) b (proc_at d i).body ≡ true → reads d i b ≡ true
      read e b k = rw e k

      twins : comb_at d i ≡ true → Twins (is_memory d.rows) d.rows (λ b. early (names_of d) b (proc_at d i).body) (record base { values = v }) (record base { values = w })
      twins e = record {
        values = record {
          same = record { left = f.range; right = g.range; bits = λ b word k. same (b, word) (read e b k) };
          many = f.shape.many ∙ sym g.shape.many;
          words = λ k. f.shape.words k ∙ sym (g.shape.words k);
          lone = λ k m. lone d.rows v f k m;
        };
        time = refl;
        answer = refl;
        alive = alive;
        too = alive;
      }

  run_asleep : (v w : List (List ℕ)) (i : ℕ) → wakes d files v w i ≡ false → (b : Place) → reads_place d i b ≡ true → bit_at v b ≡ bit_at w b
  run_asleep v w i h b r =
      let c = and_true (comb_at d i) (early (names_of d) b.0 (proc_at d i).body) r in
      let t : turns_read (scope_of d files) (changed v w) (proc_at d i).body (fresh (zeros d.rows)) ≡ false = rw c.0 at h in
      let n : stm_reads (changed v w) (proc_at d i).body ≡ false = sym (turns_same (is_memory d.rows) (scope_of d files) (changed v w) (proc_at d i).body (acc.nets i c.0) (fresh (zeros d.rows))) ∙ t in
      let u : changed v w b.0.signal ≡ false = stm_unread (names_of d) b.0 (changed v w) (proc_at d i).body c.1 n in
      ap (λ ws. bit_of (slice_index ws b.1) (pos b.0.place)) (unchanged v w b.0.signal u)

  run_quiet : (v : List (List ℕ)) (i : ℕ) → wakes d files v v i ≡ false
  run_quiet v i = go (comb_at d i) refl
    where
      go : (b : Bool) → comb_at d i ≡ b → (b && turns_read (scope_of d files) (changed v v) (proc_at d i).body (fresh (zeros d.rows))) ≡ false
      go true e = turns_same (is_memory d.rows) (scope_of d files) (changed v v) (proc_at d i).body (acc.nets i e) (fresh (zeros d.rows))
          ∙ stm_reads_none (names_of d) (record { signal = 0; place = 0 }) (changed v v) (same_unchanged v) (is_memory d.rows) (proc_at d i).body (acc.nets i e)
      go false e = refl

  pub lawful : Laws d files base
  lawful = record {
    whole = λ v w f g h. whole d.rows v w f g h;
    fine = λ p v f. run_fine p v f;
    keeps = λ p v b f h. run_keeps p v b f h;
    depends = λ p v w f g s b h. run_depends p v w f g s b h;
    once = λ p q b i j g h. acc.once p q b.0 g h;
    asleep = λ v w p h b r. run_asleep v w p h b r;
    quiet = λ v p. run_quiet v p;
    tell = λ p v. tell_values (run d files base p v) v;
  }

-- ---- the order, of bits of words

module _ (d : Flat) where
  none_of_places : (ps : List ℕ) (p : ℕ) → graph.NoneDrives d ps p → abstract.NoneDrives {B = Place} (drives_place d) (reads_place d) ps p
  none_of_places [] p h = tt
  none_of_places (q ∷ qs) p h = (λ b g. h.0 b.0 g, none_of_places qs p h.1)

  levelled_places : (ps : List ℕ) → graph.Levelled d ps → abstract.Levelled {B = Place} (drives_place d) (reads_place d) ps
  levelled_places [] h = tt
  levelled_places (p ∷ ps) h = (none_of_places (p ∷ ps) p h.0, levelled_places ps h.1)

  pub placed_order : {order : List ℕ} → IsOrder d order → abstract.IsOrder {B = Place} (drives_place d) (reads_place d) (length d.procs) order
  placed_order {order} o = record { below = o.below; every = o.every; levelled = levelled_places order o.levelled }
