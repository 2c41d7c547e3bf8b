-- Slots that were there stay when a list gets longer.
use Rattle.std.proofs.Common.{◌≡◌, ℕ, suc, ◌+◌, ◌-◌, ◌^◌, ◌<◌, ◌≤◌, List, [], ◌∷◌, ◌++◌, length, sym, ap, ◌∙◌, arith, subst, append_assoc, length-append, append-nil}
use Rattle.std.specs.Prelude.{slice_index}
use Rattle.std.proofs.lemmas.List.{get_or-take}
use Rattle.cell_form.specs.declared.cell.CellOp.{CellOp}
use Rattle.cell_form.specs.declared.cell.CellOp.TheVariants as o
use Rattle.cell_form.specs.Data.{CellData, ListData, BankData}
use Rattle.cell_form.specs.Values.{Slot, slot_at, slots_of}
use Rattle.cell_form.specs.Sound.{Shape, Names, AreCells, IsFit}
use Rattle.cell_form.proofs.Slots.{slots-length, slots-widths, slots-stay, width-at}
use Rattle.cell_form.proofs.Fitting.{all-at, slots-fit, cells-before}
use Rattle.cell_emit.specs.Slots.{slot, held, width_at, IsIn, AreSound, Grows, Longer, Gives, Nothing}

-- ---- a slot of a list

-- its width is its cell's
pub slot-width : (b : BankData) (l : ListData) (r : ℕ) → (slot b l r).width ≡ width_at l r
unfolding slot
slot-width b l r = width-at (slots_of l.first b.regs b.mems l.cells) (r - l.first) ∙ ap (λ ws. slice_index ws (r - l.first)) (slots-widths l.first b.regs b.mems l.cells)

pub slot-fits : (s : Shape) (b : BankData) (l : ListData) (r : ℕ) → AreSound s l → IsIn l r → IsFit (slot b l r)
unfolding slot
slot-fits s b l r h k =
    let low = k.0 in
    let high = k.1 in
    let there : r - l.first < length (slots_of l.first b.regs b.mems l.cells) = omega (arith, slots-length l.first b.regs b.mems l.cells) in
    all-at IsFit (slots_of l.first b.regs b.mems l.cells) (r - l.first) (record { value = 0; width = 0 }) there (slots-fit s l.first b.regs b.mems l.cells h)

-- its value fits its width
pub held-fits : (s : Shape) (b : BankData) (l : ListData) (r : ℕ) → AreSound s l → IsIn l r → held b l r < 2 ^ width_at l r
held-fits s b l r h k =
    let F : ℕ → Type 0 = λ w. held b l r < 2 ^ w in
    subst F (slot-width b l r) (slot-fits s b l r h k).fits

empty : BankData
empty = record { regs = []; mems = []; slots = [] }

-- from 1 to 128
pub width-fits : (s : Shape) (l : ListData) (r : ℕ) → AreSound s l → IsIn l r → (1 ≤ width_at l r) × (width_at l r ≤ 128)
width-fits s l r h k =
    let fit = slot-fits s empty l r h k in
    let wide = fit.wide in
    let narrow = fit.narrow in
    let e = slot-width empty l r in
    (omega arith, omega arith)

-- ---- a list that grows

pub slot-stays : (b : BankData) (old new : ListData) (r : ℕ) → Grows old new → IsIn old r → slot b new r ≡ slot b old r
unfolding slot
slot-stays b old new r g k =
    let low = k.0 in
    let high = k.1 in
    let there : r - old.first < length old.cells = omega arith in
    ap (λ (l : ListData). slot b l r) g.is
    ∙ sym (get_or-take (length old.cells) (slots_of old.first b.regs b.mems (old.cells ++ g.more)) (r - old.first) (record { value = 0; width = 0 }) there)
    ∙ ap (λ (ys : List Slot). slot_at ys (r - old.first)) (slots-stay old.first b.regs b.mems old.cells g.more)

pub held-stays : (b : BankData) (old new : ListData) (r : ℕ) → Grows old new → IsIn old r → held b new r ≡ held b old r
held-stays b old new r g k = ap (λ (x : Slot). x.value) (slot-stays b old new r g k)

pub width-stays : (old new : ListData) (r : ℕ) → Grows old new → IsIn old r → width_at new r ≡ width_at old r
width-stays old new r g k = sym (slot-width empty new r) ∙ ap (λ (x : Slot). x.width) (slot-stays empty old new r g k) ∙ slot-width empty old r

pub in-stays : (old new : ListData) (r : ℕ) → Grows old new → IsIn old r → IsIn new r
in-stays old new r g k =
    let F : ListData → Type 0 = λ l. IsIn l r in
    let high = k.1 in
    let long = length-append old.cells g.more in
    subst F (sym g.is) (k.0, omega arith)

-- what was there is well-formed where all of it is
pub sound-before : (s : Shape) (old new : ListData) → Grows old new → AreSound s new → AreSound s old
sound-before s old new g h =
    let F : ListData → Type 0 = λ l. AreSound s l in
    (cells-before s old.first [] old.cells g.more (subst F g.is h)).0

with-none : (l : ListData) → l ≡ record l { cells = l.cells ++ [] }
with-none l = ap (λ cs. record l { cells = cs }) (sym (append-nil l.cells))

with-both : (a b c : ListData) (xs ys : List CellData) → b ≡ record a { cells = a.cells ++ xs } → c ≡ record b { cells = b.cells ++ ys } → c ≡ record a { cells = a.cells ++ (xs ++ ys) }
with-both a b c xs ys g h = h ∙ ap (λ (l : ListData). record l { cells = l.cells ++ ys }) g ∙ ap (λ cs. record a { cells = cs }) (append_assoc a.cells xs ys)

pub grows-same : (l : ListData) → Grows l l
grows-same l = record { more = []; is = with-none l }

pub grows-then : (a b c : ListData) → Grows a b → Grows b c → Grows a c
grows-then a b c g h = record { more = g.more ++ h.more; is = with-both a b c g.more h.more g.is h.is }

-- ---- a list that grows by so many cells

module _ (Has : Shape → Type 0) where
  pub longer-grows : (n : ℕ) (old new : ListData) → Longer Has n old new → Grows old new
  longer-grows n old new h = record { more = h.more; is = h.is }

  pub longer-same : (l : ListData) → Longer Has 0 l l
  longer-same l = record { more = []; is = with-none l; few = omega arith; sound = λ s has h. h }

  pub longer-then : (n m : ℕ) (a b c : ListData) → Longer Has n a b → Longer Has m b c → Longer Has (n + m) a c
  longer-then n m a b c g h =
      let few = g.few in
      let also = h.few in
      let long = length-append g.more h.more in
      record {
        more = g.more ++ h.more;
        is = with-both a b c g.more h.more g.is h.is;
        few = omega arith;
        sound = λ s has k. h.sound s has (g.sound s has k);
      }

  pub longer-slot : (n : ℕ) (b : BankData) (old new : ListData) (r : ℕ) → Longer Has n old new → IsIn old r → slot b new r ≡ slot b old r
  longer-slot n b old new r h k = slot-stays b old new r (longer-grows n old new h) k

  pub longer-held : (n : ℕ) (b : BankData) (old new : ListData) (r : ℕ) → Longer Has n old new → IsIn old r → held b new r ≡ held b old r
  longer-held n b old new r h k = held-stays b old new r (longer-grows n old new h) k

  pub longer-width : (n : ℕ) (old new : ListData) (r : ℕ) → Longer Has n old new → IsIn old r → width_at new r ≡ width_at old r
  longer-width n old new r h k = width-stays old new r (longer-grows n old new h) k

  pub longer-in : (n : ℕ) (old new : ListData) (r : ℕ) → Longer Has n old new → IsIn old r → IsIn new r
  longer-in n old new r h k = in-stays old new r (longer-grows n old new h) k

-- at most as many, where the shape has more
pub longer-weaken : (Has More : Shape → Type 0) (n m : ℕ) (old new : ListData) → ((s : Shape) → More s → Has s) → n ≤ m → Longer Has n old new → Longer More m old new
longer-weaken Has More n m old new to le h =
    let few = h.few in
    record { more = h.more; is = h.is; few = omega arith; sound = λ s has k. h.sound s (to s has) k }

-- ---- shapes

names-wider : (s t : Shape) (op : CellOp) → s.regs ≤ t.regs → s.mems ≤ t.mems → Names s op → Names t op
names-wider s t (o.Const n) rs ms h = tt
names-wider s t (o.Reg r) rs ms h = omega arith
names-wider s t (o.Un op) rs ms h = tt
names-wider s t (o.Bin op signed) rs ms h = tt
names-wider s t o.Mux rs ms h = tt
names-wider s t (o.Pick from) rs ms h = tt
names-wider s t (o.PlaceIn from) rs ms h = tt
names-wider s t o.Append rs ms h = tt
names-wider s t (o.Resize signed) rs ms h = tt
names-wider s t (o.MemRead m signed) rs ms h = omega arith

cells-wider : (s t : Shape) (first : ℕ) (ws : List ℕ) (cells : List CellData) → s.regs ≤ t.regs → s.mems ≤ t.mems → AreCells s first ws cells → AreCells t first ws cells
cells-wider s t first ws [] rs ms h = tt
cells-wider s t first ws (c ∷ cs) rs ms h =
    let x = h.0 in (
      record { args = x.args; count = x.count; makes = x.makes; wide = x.wide; narrow = x.narrow; names = names-wider s t c.op rs ms x.names },
      cells-wider s t first (ws ++ c.width ∷ []) cs rs ms h.1,
    )

-- cells that are well-formed for a shape are so for a larger one
pub sound-wider : (s t : Shape) (l : ListData) → s.regs ≤ t.regs → s.mems ≤ t.mems → AreSound s l → AreSound t l
sound-wider s t l rs ms h = cells-wider s t l.first [] l.cells rs ms h

-- some shape has it, however large
pub record Met (Has : Shape → Type 0) : Type 0 where
  pub above : Shape → Shape
  pub regs : (s : Shape) → s.regs ≤ (above s).regs
  pub mems : (s : Shape) → s.mems ≤ (above s).mems
  pub has : (s : Shape) → Has (above s)

pub met-nothing : Met Nothing
met-nothing = record { above = λ s. s; regs = λ s. omega arith; mems = λ s. omega arith; has = λ s. tt }

pub met-memory : (m : ℕ) → Met (λ s. m < s.mems)
met-memory m = record {
  above = λ s. record { regs = s.regs; mems = s.mems + suc m; slots = s.slots };
  regs = λ s. omega arith;
  mems = λ s. omega arith;
  has = λ s. omega arith;
}

-- ---- what a slot gives

-- a slot that is there gives what it holds
pub gives-held : (Has : Shape → Type 0) (n : ℕ) (old new : ListData) (r : ℕ) → Longer Has n old new → IsIn old r → Gives Has n old new r (width_at old r) (λ b. held b old r)
gives-held Has n old new r h k = record {
  longer = h;
  there = longer-in Has n old new r h k;
  width = longer-width Has n old new r h k;
  value = λ s b sound. longer-held Has n b old new r h k;
}

pub gives-weaken : (Has More : Shape → Type 0) (n m : ℕ) (old new : ListData) (r w : ℕ) (f : BankData → ℕ) → ((s : Shape) → More s → Has s) → n ≤ m → Gives Has n old new r w f → Gives More m old new r w f
gives-weaken Has More n m old new r w f to le g = record { longer = longer-weaken Has More n m old new to le g.longer; there = g.there; width = g.width; value = g.value }

-- the same said otherwise
pub gives-as : (Has : Shape → Type 0) (n : ℕ) (old new : ListData) (r w v : ℕ) (f g : BankData → ℕ) → w ≡ v → ((s : Shape) (b : BankData) → AreSound s old → f b ≡ g b) → Gives Has n old new r w f → Gives Has n old new r v g
gives-as Has n old new r w v f g e same h = record { longer = h.longer; there = h.there; width = h.width ∙ e; value = λ s b sound. h.value s b sound ∙ same s b sound }

-- cells behind a slot leave it what it gives
pub gives-then : (Has : Shape → Type 0) (n m : ℕ) (a b c : ListData) (r w : ℕ) (f : BankData → ℕ) → Gives Has n a b r w f → Longer Has m b c → Gives Has (n + m) a c r w f
gives-then Has n m a b c r w f g h = record {
  longer = longer-then Has n m a b c g.longer h;
  there = longer-in Has m b c r h g.there;
  width = longer-width Has m b c r h g.there ∙ g.width;
  value = λ s x sound. longer-held Has m x b c r h g.there ∙ g.value s x sound;
}

-- a slot behind other cells gives the same
pub gives-behind : (Has : Shape → Type 0) (n m : ℕ) (a b c : ListData) (r w : ℕ) (f : BankData → ℕ) → Met Has → Longer Has n a b → Gives Has m b c r w f → Gives Has (n + m) a c r w f
gives-behind Has n m a b c r w f met h g = record {
  longer = longer-then Has n m a b c h g.longer;
  there = g.there;
  width = g.width;
  value = λ s x sound. g.value (met.above s) x (h.sound (met.above s) (met.has s) (sound-wider s (met.above s) a (met.regs s) (met.mems s) sound));
}
