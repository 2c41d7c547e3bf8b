-- The registers of stores in slots.
use Rattle.std.proofs.Common.{◌≡◌, ℕ, ◌+◌, ◌*◌, ◌%◌, ◌^◌, ◌<◌, ◌≤◌, List, [], ◌∷◌, ◌++◌, length, map, take, get_or, Some, refl, sym, ap, ◌∙◌, arith, subst, append_assoc, length-append, mod-eq_of_lt}
use Rattle.std.specs.Prelude.{slice_index, All}
use Rattle.std.specs.List.{AllByRecursion}
use Rattle.std.proofs.lemmas.List.{take_more, take_all, map-append}
use Rattle.std.proofs.lemmas.List.Elements.{recursion_from_All, All-from_recursion}
use Rattle.ten_form.specs.vl_design.specs.Syntax.{Row, Flat}
use Rattle.ten_form.specs.vl_design.specs.Width.{names_of, signal_form}
use Rattle.ten_form.specs.vl_design.specs.Value.{words_of}
use Rattle.ten_form.specs.vl_design.specs.State.{Update, all_updated}
use Rattle.ten_form.specs.vl_design.specs.Sound.{IsMemory}
use Rattle.ten_form.specs.vl_design.specs.Laws.{IsFine}
use Rattle.cell_emit.specs.cell_form.specs.Data.{ListData, BankData}
use Rattle.cell_emit.specs.cell_form.specs.Sound.{Shape}
use Rattle.cell_emit.specs.Slots.{held, AreSound, Grows, Longer, Gives}
use Rattle.cell_emit.proofs.Frames.{grows-then, longer-grows, longer-then, longer-weaken}
use Rattle.cell_emit.specs.Envs.{IsSlot}
use Rattle.cell_emit.specs.Entries.{IsCopy}
use Rattle.cell_emit.proofs.Reading.{copy-gives, copy-stays}
use Rattle.cell_emit.specs.declared.pending.Site.{Site}
use Rattle.cell_emit.specs.Pendings.{memories_of, IsSite, stored}
use Rattle.ten_form.specs.declared.store.Store.{Store}
use Rattle.ten_form.specs.Holding.{enable_register, word_register, value_register, mask_register, IsStore, IsIdle, HoldsWords}
use Rattle.cell_waves.specs.Reading.{EachHas, HasStore, IsRead, Reads}
use Rattle.cell_waves.proofs.Listing.{all-front, all-back, each-push, each-from, each-with, each-site}
use Rattle.cell_waves.proofs.Holding.{IsOf, by-sites, sites-idle}

-- more cells leave a slot what it is
stays : (old new : ListData) (w register r : ℕ) → Grows old new → IsCopy old w register r → IsCopy new w register r
stays old new w register r g h = copy-stays old new w register (Some r) g h

pub read-stays : (rows : List Row) (old new : ListData) (x : Store) (s : Site) → Grows old new → IsRead rows old x s → IsRead rows new x s
read-stays rows old new x s g h = record {
  memory = h.memory;
  enable = stays old new 1 (enable_register x) s.enable g h.enable;
  word = stays old new 32 (word_register x) s.word g h.word;
  value = stays old new (signal_form rows x.memory).width (value_register x) s.value g h.value;
  mask = stays old new (signal_form rows x.memory).width (mask_register x) s.mask g h.mask;
}

-- ---- four cells

-- a bank has this register
abbrev Register : ℕ → Shape → Type 0
Register r z = r < z.regs

-- what it holds, cut to a width
abbrev cut : ℕ → ℕ → BankData → ℕ
cut r w b = slice_index b.regs r % 2 ^ w

module _ (rows : List Row) (x : Store) (w e k v m : ℕ) (l0 l1 l2 l3 l4 : ListData) (is : w ≡ (signal_form rows x.memory).width)
    (g1 : Gives (Register (enable_register x)) 1 l0 l1 e 1 (cut (enable_register x) 1)) (g2 : Gives (Register (word_register x)) 1 l1 l2 k 32 (cut (word_register x) 32))
    (g3 : Gives (Register (value_register x)) 1 l2 l3 v w (cut (value_register x) w)) (g4 : Gives (Register (mask_register x)) 1 l3 l4 m w (cut (mask_register x) w)) where
  abbrev Has : Shape → Type 0
  Has z = HasStore z x

  abbrev to : (register : ℕ) (a b : ListData) → Longer (Register register) 1 a b → Grows a b
  to register a b h = longer-grows (Register register) 1 a b h

  more : (register : ℕ) (a b : ListData) → ((z : Shape) → Has z → Register register z) → Longer (Register register) 1 a b → Longer Has 1 a b
  more register a b f h = longer-weaken (Register register) Has 1 1 a b f (omega arith) h

  pub read-longer : Longer Has 4 l0 l4
  read-longer =
      longer-then Has 1 3 l0 l1 l4 (more (enable_register x) l0 l1 (λ z h. let t = h.0 in omega (arith, t)) g1.longer)
      (longer-then Has 1 2 l1 l2 l4 (more (word_register x) l1 l2 (λ z h. let t = h.0 in omega (arith, t)) g2.longer)
      (longer-then Has 1 1 l2 l3 l4 (more (value_register x) l2 l3 (λ z h. let t = h.0 in omega (arith, t)) g3.longer) (more (mask_register x) l3 l4 (λ z h. h.0) g4.longer)))

  from3 : Grows l3 l4
  from3 = to (mask_register x) l3 l4 g4.longer

  from2 : Grows l2 l4
  from2 = grows-then l2 l3 l4 (to (value_register x) l2 l3 g3.longer) from3

  from1 : Grows l1 l4
  from1 = grows-then l1 l2 l4 (to (word_register x) l1 l2 g2.longer) from2

  pub read-slots : IsRead rows l4 x (record { memory = x.memory; enable = e; word = k; value = v; mask = m })
  read-slots = record {
    memory = refl;
    enable = stays l1 l4 1 (enable_register x) e from1 (copy-gives l0 l1 1 1 (enable_register x) e refl g1);
    word = stays l2 l4 32 (word_register x) k from2 (copy-gives l1 l2 32 32 (word_register x) k refl g2);
    value = stays l3 l4 (signal_form rows x.memory).width (value_register x) v from3 (copy-gives l2 l3 w (signal_form rows x.memory).width (value_register x) v is g3);
    mask = copy-gives l3 l4 w (signal_form rows x.memory).width (mask_register x) m is g4;
  }

-- ---- stores one after the other

module _ (rows : List Row) where
  reads-push : (xs : List Store) (x : Store) (s : Site) (old mid new : ListData) (before between after : List Site) → Reads rows xs old mid before between → IsRead rows new x s → Longer (λ z. HasStore z x) 4 mid new →
      after ≡ between ++ s ∷ [] → Reads rows (xs ++ x ∷ []) old new before after
  reads-push xs x s old mid new before between after h read longer is =
      let Has : Shape → Type 0 = λ z. AllByRecursion (HasStore z) (xs ++ x ∷ []) in
      let many = length-append xs (x ∷ []) in
      let first = longer-weaken (λ z. AllByRecursion (HasStore z) xs) Has (4 * length xs) (4 * length xs) old mid (λ z f. all-front (HasStore z) xs (x ∷ []) f) (omega arith) h.longer in
      let last = longer-weaken (λ z. HasStore z x) Has 4 4 mid new (λ z f. (all-back (HasStore z) xs (x ∷ []) f).0) (omega arith) longer in
      record {
        longer = longer-weaken Has Has (4 * length xs + 4) (4 * length (xs ++ x ∷ [])) old new (λ z f. f) (omega (arith, many)) (longer-then Has (4 * length xs) 4 old mid new first last);
        more = h.more ++ s ∷ [];
        are = is ∙ ap (λ ss. ss ++ s ∷ []) h.are ∙ append_assoc before h.more (s ∷ []);
        read = each-push (IsRead rows new) xs h.more x s
            (each-from (IsRead rows mid) (IsRead rows new) (λ y t k. read-stays rows mid new y t (longer-grows (λ z. HasStore z x) 4 mid new longer) k) xs h.more h.read) read;
      }

  pub reads-step : (stores : List Store) (n : ℕ) (d : Store) (s : Site) (old mid new : ListData) (before between after : List Site) → n < length stores → Reads rows (take n stores) old mid before between →
      IsRead rows new (get_or stores n d) s → Longer (λ z. HasStore z (get_or stores n d)) 4 mid new → after ≡ between ++ s ∷ [] → Reads rows (take (n + 1) stores) old new before after
  reads-step stores n d s old mid new before between after lt h read longer is =
      subst (λ xs. Reads rows xs old new before after) (sym (take_more stores n d lt)) (reads-push (take n stores) (get_or stores n d) s old mid new before between after h read longer is)

  pub reads-all : (stores : List Store) (n : ℕ) (old new : ListData) (before after : List Site) → length stores ≤ n → Reads rows (take n stores) old new before after → Reads rows stores old new before after
  reads-all stores n old new before after le h = subst (λ xs. Reads rows xs old new before after) (take_all n stores le) h

  same-memories : (l : ListData) (xs : List Store) (ss : List Site) → EachHas (IsRead rows l) xs ss → memories_of ss ≡ map (λ (x : Store). x.memory) xs
  same-memories l [] [] h = refl
  same-memories l [] (s ∷ ss) h = absurd h
  same-memories l (x ∷ xs) [] h = absurd h
  same-memories l (x ∷ xs) (s ∷ ss) h = ap (λ n. n ∷ memories_of ss) h.0.memory ∙ ap (λ ns. x.memory ∷ ns) (same-memories l xs ss h.1)

  pub reads-memories : (stores : List Store) (old new : ListData) (before after : List Site) → Reads rows stores old new before after → memories_of after ≡ memories_of before ++ map (λ (x : Store). x.memory) stores
  reads-memories stores old new before after h =
      ap memories_of h.are ∙ map-append (λ (s : Site). s.memory) before h.more ∙ ap (λ ns. memories_of before ++ ns) (same-memories new stores h.more h.read)

-- ---- what they say

copy-held : (z : Shape) (b : BankData) (l : ListData) (w register r : ℕ) → AreSound z l → IsCopy l w register r → slice_index b.regs register < 2 ^ w → slice_index b.regs register ≡ held b l r
copy-held z b l w register r sound h lt = sym (h.value z b sound ∙ mod-eq_of_lt lt)

read-of : (d : Flat) (z : Shape) (b : BankData) (l : ListData) (x : Store) (s : Site) → AreSound z l → IsStore d b x → IsRead d.rows l x s → IsOf b l b x s
read-of d z b l x s sound h k = record {
  memory = sym k.memory;
  enable = copy-held z b l 1 (enable_register x) s.enable sound k.enable h.enable;
  word = copy-held z b l 32 (word_register x) s.word sound k.word h.word;
  value = copy-held z b l (signal_form d.rows x.memory).width (value_register x) s.value sound k.value h.value;
  mask = copy-held z b l (signal_form d.rows x.memory).width (mask_register x) s.mask sound k.mask h.mask;
}

pub reads-of : (d : Flat) (z : Shape) (b : BankData) (l : ListData) (stores : List Store) (sites : List Site) → AreSound z l → All (IsStore d b) stores → EachHas (IsRead d.rows l) stores sites → EachHas (IsOf b l b) stores sites
reads-of d z b l stores sites sound each read =
    each-with (IsStore d b) (IsRead d.rows l) (IsOf b l b) (λ x s i k. read-of d z b l x s sound i k) stores sites (recursion_from_All (IsStore d b) stores each) read

site-of : (d : Flat) (l : ListData) (x : Store) (s : Site) → IsMemory (names_of d) x.memory → IsRead d.rows l x s → IsSite (names_of d) l s
site-of d l x s i k =
    let wide : (signal_form d.rows x.memory).width ≡ (signal_form d.rows s.memory).width = ap (λ n. (signal_form d.rows n).width) (sym k.memory) in
    record {
      memory = subst (IsMemory (names_of d)) (sym k.memory) i;
      enable = k.enable.slot;
      word = k.word.slot;
      value = subst (IsSlot l s.value) wide k.value.slot;
      mask = subst (IsSlot l s.mask) wide k.mask.slot;
    }

pub reads-sites : (d : Flat) (l : ListData) (stores : List Store) (sites : List Site) → AllByRecursion (λ x. IsMemory (names_of d) x.memory) stores → EachHas (IsRead d.rows l) stores sites → All (IsSite (names_of d) l) sites
reads-sites d l stores sites h k =
    All-from_recursion (IsSite (names_of d) l) sites (each-site (λ x. IsMemory (names_of d) x.memory) (IsRead d.rows l) (IsSite (names_of d) l) (site-of d l) stores sites h k)

pub reads-words : (d : Flat) (z : Shape) (b : BankData) (l : ListData) (stores : List Store) (sites : List Site) (later : List Update) → AreSound z l → EachHas (IsRead d.rows l) stores sites → HoldsWords d b stores later →
    (base : List (List ℕ)) (m j : ℕ) → IsFine d.rows base → IsMemory (names_of d) m → j < length (words_of base m) →
    slice_index (words_of (all_updated d.rows base later) m) j ≡ stored b l sites m j (slice_index (words_of base m) j)
reads-words d z b l stores sites later sound read h base m j fine i lt =
    h.words base m j fine i lt ∙ by-sites b l b stores sites m j (slice_index (words_of base m) j) (reads-of d z b l stores sites sound h.each read)

pub reads-idle : (rows : List Row) (z : Shape) (b : BankData) (l : ListData) (stores : List Store) (sites : List Site) → AreSound z l → EachHas (IsRead rows l) stores sites → AllByRecursion (IsIdle b) stores → (m j v : ℕ) →
    stored b l sites m j v ≡ v
reads-idle rows z b l stores sites sound read idle m j v =
    sites-idle b l sites m j v
    (each-site (IsIdle b) (IsRead rows l) (λ s. held b l s.enable ≡ 0) (λ x s i k. k.enable.value z b sound ∙ ap (λ n. n % 2 ^ 1) i) stores sites idle read)
