-- The writes of a segment's stores.
use Rattle.std.proofs.Common.{◌≡◌, ◌≢◌, ℕ, ◌≤◌, List, [], ◌∷◌, ◌++◌, length, map, Option, Some, None, refl, ap, ◌∙◌, arith, inl, inr}
use Rattle.std.specs.List.{AllByRecursion}
use Rattle.std.proofs.lemmas.List.Elements.{recursion_from_All}
use Rattle.ten_form.specs.vl_design.specs.Width.{Names}
use Rattle.cell_emit.specs.cell_form.specs.declared.cell.Write.{Write}
use Rattle.cell_emit.specs.cell_form.specs.declared.cell.Write.TheVariants as w
use Rattle.cell_emit.specs.cell_form.specs.Data.{ListData}
use Rattle.cell_emit.specs.cell_form.specs.Sound.{Shape, IsWrite}
use Rattle.cell_emit.specs.declared.pending.Site.{Site}
use Rattle.cell_emit.specs.Pendings.{IsSite}
use Rattle.cell_waves.specs.Lasts.{later_of, written_from, last_write, IsRegister}
use Rattle.cell_waves.proofs.Lasting.{last-more, last-here, last-other}
use Rattle.ten_form.specs.declared.store.Store.{Store}
use Rattle.ten_form.specs.Holding.{enable_register, word_register, value_register, mask_register}
use Rattle.cell_waves.specs.Reading.{EachHas, HasStore}
use Rattle.cell_waves.specs.Keeping.{each_written, keep_writes, IsKept, Keeps}
use Rattle.ten_form.specs.Stores.{AreApart, AreDisjoint, IsBeside}
use Rattle.cell_waves.proofs.Listing.{all-from, all-both, each-from}
pub use Rattle.cell_waves.proofs.Lasting.{from-here, from-other}

-- ---- one write

-- ---- the writes of one store

-- the slot of the last of four writes
four : Option ℕ → Option ℕ → Option ℕ → Option ℕ → Option ℕ
four a b c d = later_of a (later_of b (later_of c d))

four-same : (a b c d p q r s : Option ℕ) → a ≡ p → b ≡ q → c ≡ r → d ≡ s → four a b c d ≡ four p q r s
four-same a b c d p q r s e f g h = ap (λ o. four o b c d) e ∙ ap (λ o. four p o c d) f ∙ ap (λ o. four p q o d) g ∙ ap (λ o. four p q r o) h

last-four : (x : Store) (s : Site) (r : ℕ) → last_write (keep_writes x s) r
    ≡ four (written_from (w.Reg (enable_register x) s.enable) r) (written_from (w.Reg (word_register x) s.word) r) (written_from (w.Reg (value_register x) s.value) r) (written_from (w.Reg (mask_register x) s.mask) r)
unfolding four
last-four x s r = refl

keeps-enable : (x : Store) (s : Site) → last_write (keep_writes x s) (enable_register x) ≡ Some s.enable
unfolding four
keeps-enable x s =
    last-four x s (enable_register x)
    ∙ four-same _ _ _ _ (Some s.enable) None None None (from-here (enable_register x) s.enable) (from-other (word_register x) (enable_register x) s.word (omega arith))
    (from-other (value_register x) (enable_register x) s.value (omega arith)) (from-other (mask_register x) (enable_register x) s.mask (omega arith))

keeps-word : (x : Store) (s : Site) → last_write (keep_writes x s) (word_register x) ≡ Some s.word
unfolding four
keeps-word x s =
    last-four x s (word_register x)
    ∙ four-same _ _ _ _ None (Some s.word) None None (from-other (enable_register x) (word_register x) s.enable (omega arith)) (from-here (word_register x) s.word)
    (from-other (value_register x) (word_register x) s.value (omega arith)) (from-other (mask_register x) (word_register x) s.mask (omega arith))

keeps-value : (x : Store) (s : Site) → last_write (keep_writes x s) (value_register x) ≡ Some s.value
unfolding four
keeps-value x s =
    last-four x s (value_register x)
    ∙ four-same _ _ _ _ None None (Some s.value) None (from-other (enable_register x) (value_register x) s.enable (omega arith)) (from-other (word_register x) (value_register x) s.word (omega arith))
    (from-here (value_register x) s.value) (from-other (mask_register x) (value_register x) s.mask (omega arith))

keeps-mask : (x : Store) (s : Site) → last_write (keep_writes x s) (mask_register x) ≡ Some s.mask
unfolding four
keeps-mask x s =
    last-four x s (mask_register x)
    ∙ four-same _ _ _ _ None None None (Some s.mask) (from-other (enable_register x) (mask_register x) s.enable (omega arith)) (from-other (word_register x) (mask_register x) s.word (omega arith))
    (from-other (value_register x) (mask_register x) s.value (omega arith)) (from-here (mask_register x) s.mask)

-- a register that is none of the store's
other-register : (x : Store) (r k : ℕ) → IsBeside r x → x.first ≤ k → k ≤ mask_register x → r ≢ k
other-register x r k (inl h) low high = omega arith
other-register x r k (inr h) low high = omega arith

keeps-beside : (x : Store) (s : Site) (r : ℕ) → IsBeside r x → last_write (keep_writes x s) r ≡ None
unfolding four
keeps-beside x s r h =
    last-four x s r
    ∙ four-same _ _ _ _ None None None None (from-other (enable_register x) r s.enable (other-register x r (enable_register x) h (omega arith) (omega arith)))
    (from-other (word_register x) r s.word (other-register x r (word_register x) h (omega arith) (omega arith)))
    (from-other (value_register x) r s.value (other-register x r (value_register x) h (omega arith) (omega arith)))
    (from-other (mask_register x) r s.mask (other-register x r (mask_register x) h (omega arith) (omega arith)))

-- ---- the writes of stores

all-beside : (xs : List Store) (ss : List Site) (r : ℕ) → AllByRecursion (IsBeside r) xs → last_write (each_written keep_writes xs ss) r ≡ None
all-beside [] ss r h = refl
all-beside (x ∷ xs) [] r h = refl
all-beside (x ∷ xs) (s ∷ ss) r h =
    last-more (keep_writes x s) (each_written keep_writes xs ss) r ∙ ap (later_of (last_write (keep_writes x s) r)) (all-beside xs ss r h.1) ∙ keeps-beside x s r h.0

-- behind other writes the last ones are the same
last-behind : (before sets : List Write) (r s : ℕ) → last_write sets r ≡ Some s → last_write (before ++ sets) r ≡ Some s
last-behind before sets r s e = last-more before sets r ∙ ap (later_of (last_write before r)) e

kept-behind : (before sets : List Write) (x : Store) (s : Site) → IsKept sets x s → IsKept (before ++ sets) x s
kept-behind before sets x s h = record {
  memory = h.memory;
  enable = last-behind before sets (enable_register x) s.enable h.enable;
  word = last-behind before sets (word_register x) s.word h.word;
  value = last-behind before sets (value_register x) s.value h.value;
  mask = last-behind before sets (mask_register x) s.mask h.mask;
}

-- a register of a store is none of another's
pub beside-other : (x y : Store) (r : ℕ) → x.first ≤ r → r ≤ mask_register x → AreApart x y → IsBeside r y
beside-other x y r low high (inl h) = inl (omega arith)
beside-other x y r low high (inr h) = inr (omega arith)

last-before : (sets : List Write) (xs : List Store) (ss : List Site) (x : Store) (r s : ℕ) → x.first ≤ r → r ≤ mask_register x → AllByRecursion (AreApart x) xs → last_write sets r ≡ Some s →
    last_write (sets ++ each_written keep_writes xs ss) r ≡ Some s
last-before sets xs ss x r s low high apart e =
    last-more sets (each_written keep_writes xs ss) r
    ∙ ap (later_of (last_write sets r)) (all-beside xs ss r (all-from (AreApart x) (IsBeside r) (λ y h. beside-other x y r low high h) xs apart)) ∙ e

kept-first : (x : Store) (s : Site) (xs : List Store) (ss : List Site) → x.memory ≡ s.memory → AllByRecursion (AreApart x) xs → IsKept (keep_writes x s ++ each_written keep_writes xs ss) x s
kept-first x s xs ss e apart = record {
  memory = e;
  enable = last-before (keep_writes x s) xs ss x (enable_register x) s.enable (omega arith) (omega arith) apart (keeps-enable x s);
  word = last-before (keep_writes x s) xs ss x (word_register x) s.word (omega arith) (omega arith) apart (keeps-word x s);
  value = last-before (keep_writes x s) xs ss x (value_register x) s.value (omega arith) (omega arith) apart (keeps-value x s);
  mask = last-before (keep_writes x s) xs ss x (mask_register x) s.mask (omega arith) (omega arith) apart (keeps-mask x s);
}

each-kept : (xs : List Store) (ss : List Site) → map (λ (x : Store). x.memory) xs ≡ map (λ (s : Site). s.memory) ss → AreDisjoint xs → EachHas (IsKept (each_written keep_writes xs ss)) xs ss
each-kept [] [] e h = tt
each-kept [] (s ∷ ss) e h = absurd (cc)
each-kept (x ∷ xs) [] e h = absurd (cc)
each-kept (x ∷ xs) (s ∷ ss) e h =
    let rest = each_written keep_writes xs ss in
    let here : x.memory ≡ s.memory = cc in
    let more : map (λ (y : Store). y.memory) xs ≡ map (λ (t : Site). t.memory) ss = cc in (
      kept-first x s xs ss here h.0,
      each-from (IsKept rest) (IsKept (keep_writes x s ++ rest)) (λ y t k. kept-behind (keep_writes x s) rest y t k) xs ss (each-kept xs ss more h.1),
    )

all-registers : (xs : List Store) (ss : List Site) → AllByRecursion IsRegister (each_written keep_writes xs ss)
all-registers [] ss = tt
all-registers (x ∷ xs) [] = tt
all-registers (x ∷ xs) (s ∷ ss) = (tt, (tt, (tt, (tt, all-registers xs ss))))

all-writes : (names : Names) (z : Shape) (l : ListData) (xs : List Store) (ss : List Site) → AllByRecursion (HasStore z) xs → AllByRecursion (IsSite names l) ss →
    AllByRecursion (IsWrite z l.first (length l.cells)) (each_written keep_writes xs ss)
all-writes names z l [] ss h k = tt
all-writes names z l (x ∷ xs) [] h k = tt
all-writes names z l (x ∷ xs) (s ∷ ss) h k =
    let room = h.0.0 in (
      (omega arith, k.0.enable.there),
      ((omega arith, k.0.word.there), ((omega arith, k.0.value.there), ((room, k.0.mask.there), all-writes names z l xs ss h.1 k.1))),
    )

pub keeps : (stores : List Store) (sites : List Site) (old new : List Write) → map (λ (x : Store). x.memory) stores ≡ map (λ (s : Site). s.memory) sites → new ≡ old ++ each_written keep_writes stores sites →
    Keeps stores sites old new
keeps stores sites old new e is =
    let sets = each_written keep_writes stores sites in
    record {
      are = is;
      each = λ h. each-from (IsKept sets) (IsKept new) (λ x s k. rw is (kept-behind old sets x s k)) stores sites (each-kept stores sites e h);
      others = λ r h. ap (λ ws. last_write ws r) is ∙ last-more old sets r ∙ ap (later_of (last_write old r)) (all-beside stores sites r h);
      registers = λ h. rw is (all-both IsRegister old sets h (all-registers stores sites));
      sound = λ names z l h k g. rw is (all-both (IsWrite z l.first (length l.cells)) old sets g (all-writes names z l stores sites h (recursion_from_All (IsSite names l) sites k)));
    }
