-- What a bank holds behind an update of words.
use Rattle.std.proofs.Common.{◌≡◌, ◌≢◌, ℕ, ◌<◌, ◌^◌, Bool, true, false, List, [], ◌∷◌, ◌++◌, length, map, Option, Some, None, refl, sym, ap, ◌∙◌, arith, subst, inl, inr}
use Rattle.std.specs.Prelude.{◌⊎◌, ◌==◌, not, ◌&&◌, ◌||◌, if◌then◌else◌, nat_eq, slice_index, slice_index_or}
use Rattle.std.specs.List.{AllByRecursion, list_any}
use Rattle.std.proofs.lemmas.Bool.{eqb-true, eqb-false}
use Rattle.std.proofs.lemmas.List.{ext_get_or}
use Rattle.std.proofs.lemmas.List.Elements.{recursion_from_All, All-from_recursion}
use Rattle.ten_form.specs.vl_design.specs.Syntax.{Flat}
use Rattle.ten_form.specs.vl_design.specs.Width.{names_of, signal_form}
use Rattle.ten_form.specs.vl_design.specs.Value.{words_of}
use Rattle.ten_form.specs.vl_design.specs.State.{Update, all_updated}
use Rattle.ten_form.specs.vl_design.specs.Sound.{IsMemory}
use Rattle.ten_form.specs.vl_design.proofs.Shaping.{all_shape}
use Rattle.cell_emit.specs.cell_form.specs.declared.cell.Write.{Write}
use Rattle.cell_emit.specs.cell_form.specs.declared.cell.Write.TheVariants as w
use Rattle.cell_emit.specs.cell_form.specs.Cycle.{masked, wrote, written}
use Rattle.cell_emit.specs.cell_form.specs.Data.{ListData, BankData}
use Rattle.cell_emit.specs.cell_form.specs.Sound.{shape_of}
use Rattle.cell_emit.specs.cell_form.specs.Writes.{sets_register, sets_word, word_of}
use Rattle.cell_emit.specs.cell_form.proofs.Writing.{written-more, written-mems, written-lengths, register-stays, word-stays, word-stands}
use Rattle.cell_emit.specs.Slots.{held}
use Rattle.cell_emit.specs.declared.pending.Site.{Site}
use Rattle.cell_emit.specs.Pendings.{stored}
use Rattle.cell_waves.specs.Lasts.{later_of, last_write, held_after}
use Rattle.cell_waves.proofs.Lasting.{last-more, memories-after}
use Rattle.cell_waves.proofs.Written.{both-true}
use Rattle.ten_form.specs.declared.store.Store.{Store}
use Rattle.ten_form.specs.Holding.{enable_register, word_register, value_register, mask_register, IsStore, IsIdle, HoldsWords}
use Rattle.cell_waves.specs.Reading.{EachHas, HasStore, IsRead}
use Rattle.cell_waves.specs.Keeping.{IsLeft}
use Rattle.cell_waves.specs.Applying.{apply_writes, IsUpdate, behind_update}
use Rattle.cell_waves.proofs.Lasting.{register-behind}
use Rattle.cell_waves.proofs.Behind.{words-behind}
use Rattle.cell_waves.proofs.Listing.{all-with, each-with, each-long}
use Rattle.cell_waves.proofs.Holding.{put, IsOf, by-idle, by-sites}
use Rattle.cell_waves.proofs.Reading.{reads-of}
use Rattle.cell_waves.proofs.Applying.{updates, either, here-of}
use Rattle.cell_emit.specs.vl_base.proofs.Booleans.{not_true_false as not-true}

-- ---- one write of a word

module _ (value : ℕ → ℕ) (now : BankData) (n e k new mask m j : ℕ) where
  abbrev test : Bool
  test = sets_word value m j (w.Mem n e k new mask)

  abbrev next : BankData
  next = wrote value (w.Mem n e k new mask) now

  missed : test ≡ false → word_of next m j ≡ word_of now m j
  missed q = word-stays value (w.Mem n e k new mask ∷ []) m j now (ap (λ t. t || false) q)

  hit : n < length now.mems → j < length (slice_index_or now.mems m []) → test ≡ true → word_of next m j ≡ masked (word_of now m j) (value new) (value mask)
  hit there within q =
      let a = both-true (n == m) (not (value e == 0) && (value k == j)) q in
      let c = both-true (not (value e == 0)) (value k == j) a.1 in
      let en : n ≡ m = eqb-true n m a.0 in
      let ek : value k ≡ j = eqb-true (value k) j c.1 in
      let room : j < length (slice_index_or now.mems n []) = subst (λ i. j < length (slice_index_or now.mems i [])) (sym en) within in
      let inside : value k < length (slice_index_or now.mems n []) = omega (arith, ek, room) in
      let on : value e ≢ 0 = eqb-false (value e) 0 (not-true (value e == 0) c.0) in
      ap (λ i. word_of next i j) (sym en) ∙ ap (word_of next n) (sym ek) ∙ word-stands value [] [] n e k new mask now there inside on refl
      ∙ ap (λ i. masked (word_of now i (value k)) (value new) (value mask)) en ∙ ap (λ i. masked (word_of now m i) (value new) (value mask)) ek

  pub word-put : n < length now.mems → j < length (slice_index_or now.mems m []) → word_of next m j ≡ put n m j (word_of now m j) (value e) (value k) (value new) (value mask)
  word-put there within = of test refl
    where
      of : (t : Bool) → test ≡ t → word_of next m j ≡ (if test then masked (word_of now m j) (value new) (value mask) else word_of now m j)
      of true q = hit there within q ∙ sym (ap (λ t. if t then masked (word_of now m j) (value new) (value mask) else word_of now m j) q)
      of false q = missed q ∙ sym (ap (λ t. if t then masked (word_of now m j) (value new) (value mask) else word_of now m j) q)

-- ---- the writes of stores

-- a memory that a site writes is there
abbrev IsThere : ℕ → Store → Site → Type 0
IsThere n x s = s.memory < n

words-put : (b : BankData) (l : ListData) (here : ℕ) (xs : List Store) (ss : List Site) (now : BankData) (m j : ℕ) → EachHas (IsThere (length now.mems)) xs ss → j < length (slice_index_or now.mems m []) →
    word_of (written (held b l) (updates here xs ss) now) m j ≡ stored b l ss m j (word_of now m j)
words-put b l here [] [] now m j h lt = refl
words-put b l here [] (s ∷ ss) now m j h lt = absurd h
words-put b l here (x ∷ xs) [] now m j h lt = absurd h
words-put b l here (x ∷ xs) (s ∷ ss) now m j h lt =
    let value : ℕ → ℕ = held b l in
    let next = written value (apply_writes here x s) now in
    let many : length next.mems ≡ length now.mems = written-mems value (apply_writes here x s) now in
    let long = words-behind value (apply_writes here x s) now m in
    words-put b l here xs ss next m j (subst (λ n. EachHas (IsThere n) xs ss) (sym many) h.1) (omega (arith, long, lt))
    ∙ ap (stored b l ss m j) (word-put value now s.memory s.enable s.word s.value s.mask m j h.0 lt)

none-set : (here : ℕ) (xs : List Store) (ss : List Site) (r : ℕ) → AllByRecursion (λ x. r ≢ enable_register x) xs → list_any (sets_register r) (updates here xs ss) ≡ false
none-set here [] ss r h = refl
none-set here (x ∷ xs) [] r h = refl
none-set here (x ∷ xs) (s ∷ ss) r h = ap (λ t. t || list_any (sets_register r) (updates here xs ss)) (of (nat_eq x.first r) refl) ∙ none-set here xs ss r h.1
  where
    of : (t : Bool) → nat_eq x.first r ≡ t → nat_eq x.first r ≡ false
    of true e = absurd (h.0 (sym (eqb-true x.first r e)))
    of false e = e

-- ---- an update

module _ (d : Flat) (b : BankData) (l : ListData) (stores : List Store) (sites : List Site) (here : ℕ) (before : List Write) (values : List (List ℕ)) (later : List Update)
    (h : IsUpdate d b l stores sites here before values later) where
  abbrev now : BankData
  now = written (held b l) before b

  abbrev after : BankData
  after = behind_update b l stores sites here before

  are-stores : AllByRecursion (IsStore d b) stores
  are-stores = recursion_from_All (IsStore d b) stores h.holds.each

  sites-of : EachHas (IsOf b l b) stores sites
  sites-of = reads-of d h.shape b l stores sites h.sound h.holds.each h.read

  in-two : after ≡ written (held b l) (updates here stores sites) now
  in-two = written-more (held b l) before (updates here stores sites) b

  mems-same : now.mems ≡ b.mems
  mems-same = memories-after (held b l) before b h.registers

  sites-there : EachHas (IsThere (length now.mems)) stores sites
  sites-there =
      each-with (HasStore (shape_of b)) (IsRead d.rows l) (IsThere (length now.mems))
      (λ x s t k. (let many = ap (λ (ms : List (List ℕ)). length ms) mems-same in let lt = t.1 in let e = k.memory in omega (arith, many, lt, e))) stores sites h.there h.read

  words-now : (m : ℕ) → IsMemory (names_of d) m → slice_index_or now.mems m [] ≡ words_of values m
  words-now m i = ap (λ ms. slice_index_or ms m []) mems-same ∙ h.memories m i

  word-now : (m j : ℕ) → IsMemory (names_of d) m → j < length (words_of values m) → word_of after m j ≡ slice_index (words_of (all_updated d.rows values later) m) j
  word-now m j i lt =
      let long = ap (λ (ws : List ℕ). length ws) (words-now m i) in
      ap (λ (c : BankData). word_of c m j) in-two ∙ words-put b l here stores sites now m j sites-there (omega (arith, long, lt))
      ∙ ap (λ ws. stored b l sites m j (slice_index ws j)) (words-now m i)
      ∙ sym (by-sites b l b stores sites m j (slice_index (words_of values m) j) sites-of) ∙ sym (h.holds.words values m j h.fine i lt)

  long-after : (m : ℕ) → IsMemory (names_of d) m → length (slice_index_or after.mems m []) ≡ length (words_of values m)
  long-after m i =
      ap (λ (c : BankData). length (slice_index_or c.mems m [])) in-two ∙ words-behind (held b l) (updates here stores sites) now m ∙ ap (λ (ws : List ℕ). length ws) (words-now m i)

  -- each memory holds what the pending updates make of its words
  pub update-memories : (m : ℕ) → IsMemory (names_of d) m → slice_index_or after.mems m [] ≡ words_of (all_updated d.rows values later) m
  update-memories m i =
      let long = long-after m i in
      let same = (all_shape d.rows later values).words m in
      ext_get_or 0 (slice_index_or after.mems m []) (words_of (all_updated d.rows values later) m) (long ∙ sym same) (λ j lt. word-now m j i (omega (arith, long, lt)))

  -- ---- registers

  last-after : (r : ℕ) → last_write (before ++ updates here stores sites) r ≡ later_of (last_write before r) (last_write (updates here stores sites) r)
  last-after r = last-more before (updates here stores sites) r

  after-is : (r : ℕ) (o : Option ℕ) → r < length b.regs → last_write (before ++ updates here stores sites) r ≡ o → slice_index after.regs r ≡ held_after (held b l) o (slice_index b.regs r)
  after-is r o lt e = register-behind (held b l) (before ++ updates here stores sites) b r lt ∙ ap (λ p. held_after (held b l) p (slice_index b.regs r)) e

  cleared : (r : ℕ) → r < length b.regs → last_write (updates here stores sites) r ≡ Some here → slice_index after.regs r ≡ 0
  cleared r lt e = after-is r (Some here) lt (last-after r ∙ ap (later_of (last_write before r)) e) ∙ h.zero

  kept : (r : ℕ) → r < length b.regs → last_write before r ≡ None → last_write (updates here stores sites) r ≡ None → slice_index after.regs r ≡ slice_index b.regs r
  kept r lt e f = after-is r None lt (last-after r ∙ ap (later_of (last_write before r)) f ∙ e)

  -- stores write none from then on
  pub update-idle : AllByRecursion (IsIdle after) stores
  update-idle =
      all-with (HasStore (shape_of b)) (λ x. last_write (updates here stores sites) (enable_register x) ≡ Some here) (IsIdle after)
      (λ x t e. (let room = t.0 in cleared (enable_register x) (omega (arith, room)) e)) stores h.there (here-of here stores sites (each-long (IsRead d.rows l) stores sites h.read))

  stays-below : (r n : ℕ) → r < length b.regs → last_write before r ≡ None → slice_index b.regs r < n → slice_index after.regs r < n
  stays-below r n lt e small = of (either here stores sites r)
    where
      of : (last_write (updates here stores sites) r ≡ None) ⊎ (last_write (updates here stores sites) r ≡ Some here) → slice_index after.regs r < n
      of (inl f) = let same = kept r lt e f in omega (arith, same, small)
      of (inr f) = let zero = cleared r lt f in omega (arith, zero, small)

  store-after : (x : Store) → HasStore (shape_of b) x × IsLeft before x → IsStore d b x → IsStore d after x
  store-after x t k =
      let room = t.0.0 in
      let wide = (signal_form d.rows x.memory).width in
      record {
        memory = k.memory;
        enable = stays-below (enable_register x) 2 (omega (arith, room)) (t.1 (enable_register x) (omega arith) (omega arith)) k.enable;
        word = stays-below (word_register x) (2 ^ 32) (omega (arith, room)) (t.1 (word_register x) (omega arith) (omega arith)) k.word;
        value = stays-below (value_register x) (2 ^ wide) (omega (arith, room)) (t.1 (value_register x) (omega arith) (omega arith)) k.value;
        mask = stays-below (mask_register x) (2 ^ wide) (omega (arith, room)) (t.1 (mask_register x) (omega arith) (omega arith)) k.mask;
      }

  stores-after : AllByRecursion (IsStore d after) stores
  stores-after =
      all-with (λ x. HasStore (shape_of b) x × IsLeft before x) (IsStore d b) (IsStore d after) store-after stores
      (all-with (HasStore (shape_of b)) (IsLeft before) (λ x. HasStore (shape_of b) x × IsLeft before x) (λ x s t. (s, t)) stores h.there h.left) are-stores

  -- nothing is pending from then on
  pub update-empty : HoldsWords d after stores []
  update-empty = record {
    each = All-from_recursion (IsStore d after) stores stores-after;
    words = λ base m j fine i lt. sym (by-idle after stores m j (slice_index (words_of base m) j) update-idle);
  }

  -- other registers are as the writes before left them
  pub update-others : (r : ℕ) → AllByRecursion (λ x. r ≢ enable_register x) stores → slice_index after.regs r ≡ slice_index now.regs r
  update-others r k = ap (λ (c : BankData). slice_index c.regs r) in-two ∙ register-stays (held b l) (updates here stores sites) r now (none-set here stores sites r k)

  -- and memories have as many words
  pub update-lengths : map (λ (ws : List ℕ). length ws) after.mems ≡ map (λ (ws : List ℕ). length ws) b.mems
  update-lengths = written-lengths (held b l) (before ++ updates here stores sites) b
