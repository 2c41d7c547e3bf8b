-- Words copied one after another, and memories read from texts.
use Rattle.std.proofs.Common.{◌≡◌, ℕ, zero, suc, ◌+◌, ◌<◌, ◌≤◌, ℤ, Bool, true, false, List, [], ◌∷◌, length, get_or, set, map, refl, sym, ap, ◌∙◌, arith, subst}
use Rattle.std.specs.Prelude.{Some, nat_lt, slice_index_or, if◌then◌else◌}
use Rattle.std.proofs.lemmas.Bool.{ltb-true, ltb-false}
use Rattle.std.proofs.lemmas.List.{length-set, get_or-set_same, get_or-set_other, ext_get_or, map-set, get_or-map}
use Rattle.fmt_text.specs.vl_design.specs.ReadHex.{Step, Loads, Goes, loaded, words_read, steps, BetweenWords}
use Rattle.cell_form.specs.Data.{BankData}
use Rattle.trap_runtime.specs.Served.{memory_at, with_memory}
use Rattle.fmt_text.specs.vl_design.proofs.Shaping.{loaded_long as length-loaded}

-- lists of one length, of which the first n items are the same
pub record Copied (from to : List ℕ) (n : ℕ) : Type 0 where
  pub size : length to ≡ length from
  pub same : (k : ℕ) → k < n → get_or to k 0 ≡ get_or from k 0

pub copied-none : (from to : List ℕ) → length to ≡ length from → Copied from to 0
copied-none from to e = record { size = e; same = λ k h. absurd (omega (arith, h)) }

pub copied-more : (from to : List ℕ) (n v : ℕ) → n < length from → v ≡ get_or from n 0 → Copied from to n → Copied from (set to n v) (n + 1)
copied-more from to n v there e c = record {
  size = length-set to n v ∙ c.size;
  same = λ k h. by-cases k h (nat_lt k n) refl;
}
  where
    by-cases : (k : ℕ) → k < n + 1 → (b : Bool) → nat_lt k n ≡ b → get_or (set to n v) k 0 ≡ get_or from k 0
    by-cases k h true is =
        let below = ltb-true k n is in
        get_or-set_other to n k v 0 (λ z. absurd (omega (arith, below, z))) ∙ c.same k below
    by-cases k h false is =
        let long = c.size in
        let over = ltb-false k n is in
        let at : n ≡ k = omega (arith, h, over) in
        subst (λ z. get_or (set to n v) z 0 ≡ get_or from z 0) at (get_or-set_same to n v 0 (omega (arith, there, long)) ∙ e)

pub copied-all : (from to : List ℕ) (n : ℕ) → length from ≤ n → Copied from to n → to ≡ from
copied-all from to n long c = ext_get_or 0 to from c.size (λ i h. let size = c.size in c.same i (omega (arith, long, h, size)))

-- ---- a memory has as many words behind a read

either : (b : Bool) (n : ℕ) (x y : List ℕ) → length x ≡ n → length y ≡ n → length (if b then x else y) ≡ n
either true n x y h k = h
either false n x y h k = k

pub length-read : (w : ℕ) (lowest : ℤ) (n : ℕ) (text words : List ℕ) → length (words_read w lowest n text words) ≡ length words
length-read w lowest n text words = length-loaded w lowest n 0 (steps BetweenWords text) words

-- ---- a bank with a memory replaced

pub bank-loaded : {V : Type 0} (items : V → List ℕ) (regs slots : List ℕ) (mems : List V) (m : ℕ) (old new : V) (f : List ℕ → List ℕ) → m < length mems → old ≡ get_or mems m old → items new ≡ f (items old) →
    (let b : BankData = record { regs = regs; mems = map items mems; slots = slots } in
    (record { regs = regs; mems = map items (set mems m new); slots = slots }) ≡ with_memory (Some m) (f (memory_at b (Some m))) b)
bank-loaded items regs slots mems m old new f there is e =
    let at : get_or (map items mems) m [] ≡ items old = get_or-map items mems m old [] there ∙ ap items (sym is) in
    let ms : map items (set mems m new) ≡ set (map items mems) m (f (get_or (map items mems) m [])) = map-set items mems m new ∙ ap (set (map items mems) m) (e ∙ ap f (sym at)) in
    let F : List (List ℕ) → BankData = λ z. record { regs = regs; mems = z; slots = slots } in
    ap F ms
