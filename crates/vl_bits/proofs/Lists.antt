-- Lists of parts and masks.
use Rattle.std.proofs.Common.{◌≡◌, ◌≢◌, ℕ, zero, suc, ◌+◌, ◌<◌, ◌≤◌, Bool, true, false, List, [], ◌∷◌, ◌++◌, length, drop, get_or, set, refl, sym, ap, ◌∙◌, arith}
use Rattle.std.specs.Prelude.{◌||◌, ◌&&◌, not, ◌==◌, ◌⊎◌, slice_index, All}
use Rattle.std.proofs.lemmas.Grind.{common_steps}
use Rattle.std.proofs.lemmas.List.{get_or-set_same, get_or-set_other, at_drop_more}
use Rattle.std.proofs.lemmas.List.Elements.{All-push}
use mathlib.Core.Logic.{inl, inr}
use Rattle.vl_paths.specs.Bits.{Bit}
use Rattle.vl_bits.specs.declared.parts.Part.{Part}
use Rattle.vl_bits.specs.Masks.{has, in_masks, in_part, in_parts, AreOf}
use Rattle.vl_bits.proofs.Masking.{has_none}
pub use Rattle.vl_base.proofs.Booleans.{or_false_right as or_none, or_assoc, or_and_false as nothing_met}
use Rattle.vl_base.proofs.Booleans.{and_false_right as and_none}
use Rattle.vl_base.proofs.Numbers.{equal_true as is_same, equal_or_not as same_or_other, apart_false as is_other}

pub joined : (ps qs : List Part) (b : Bit) → in_parts (ps ++ qs) b ≡ (in_parts ps b || in_parts qs b)
joined [] qs b = refl
joined (p ∷ ps) qs b = rw (joined ps qs b) (sym (or_assoc (in_part p b) (in_parts ps b) (in_parts qs b)))

pub pushed : (ps : List Part) (p : Part) (b : Bit) → in_parts (ps ++ p ∷ []) b ≡ (in_parts ps b || in_part p b)
pushed ps p b = joined ps (p ∷ []) b ∙ ap (λ x. in_parts ps b || x) (or_none (in_part p b))

pub pushed_within : (n : ℕ) (ps : List Part) (p : Part) → AreOf n ps → p.signal < n → AreOf n (ps ++ p ∷ [])
pushed_within n ps p h l = All-push (λ x. x.signal < n) ps p h l

-- a part without bits
pub empty : (p : Part) (b : Bit) → p.bits ≡ 0 → in_part p b ≡ false
empty p b e = rw (e, has_none b.place) (and_none (b.signal == p.signal))

pub empty_added : (ps : List Part) (p : Part) (b : Bit) → p.bits ≡ 0 → in_parts ps b ≡ (in_parts ps b || in_part p b)
empty_added ps p b e = rw (empty p b e) (sym (or_none (in_parts ps b)))

-- the rest of a list begins with the next one
pub next : (ps : List Part) (i : ℕ) (d : Part) (b : Bit) → i < length ps → in_parts (drop i ps) b ≡ (in_part (get_or ps i d) b || in_parts (drop (i + 1) ps) b)
next [] i d b l = absurd (omega arith)
next (p ∷ ps) zero d b l = refl
next (p ∷ ps) (suc i) d b l = let e : suc i + 1 ≡ suc (i + 1) = omega arith in rw e (next ps i d b (omega arith))

-- a mask is changed
pub changed : (masks : List ℕ) (k new : ℕ) (b : Bit) (f : Bool → Bool → Bool) (bits : ℕ) → k < length masks →
    ((i : ℕ) → has new i ≡ f (has (get_or masks k 0) i) (has bits i)) → ((x : Bool) → x ≡ f x false) →
    in_masks (set masks k new) b ≡ f (in_masks masks b) ((b.signal == k) && has bits b.place)
changed masks k new b f bits l h n = go (same_or_other b.signal k)
  where
    go : (b.signal ≡ k) ⊎ (b.signal ≢ k) → in_masks (set masks k new) b ≡ f (in_masks masks b) ((b.signal == k) && has bits b.place)
    go (inl e) = rw (e, is_same k k refl, get_or-set_same masks k new 0 l) (h b.place)
    go (inr d) = rw (is_other b.signal k d, get_or-set_other masks k b.signal new 0 d) (n (in_masks masks b))

-- ---- one part after another: k is known, x the next part, r the rest, a what is collected

pub hid : (k x r : Bool) → ((k && not x) && not r) ≡ (k && not (x || r))
hid true true r = refl
hid true false r = refl
hid false x r = refl

pub nothing_hid : (k : Bool) → (k && not false) ≡ k
nothing_hid true = refl
nothing_hid false = refl

pub met_more : (a x k r : Bool) → ((a || (x && k)) || (k && r)) ≡ (a || (k && (x || r)))
met_more true x k r = refl
met_more false true true r = refl
met_more false true false r = refl
met_more false false true r = refl
met_more false false false r = refl

pub known_more : (k x r : Bool) → ((k || (x && not k)) || r) ≡ (k || (x || r))
known_more true x r = refl
known_more false true r = refl
known_more false false r = refl

pub gained_more : (a x k r : Bool) → ((a || (x && not k)) || (not (k || (x && not k)) && r)) ≡ (a || (not k && (x || r)))
gained_more true x k r = refl
gained_more false true true r = refl
gained_more false true false r = refl
gained_more false false true r = refl
gained_more false false false r = refl

-- f is shown and hidden again
pub back : (k f : Bool) → (f ≡ true → k ≡ false) → ((k || f) && not f) ≡ k
back true true h = sym (h refl)
back true false h = refl
back false true h = refl
back false false h = refl

-- meanwhile what of s is there is in f
pub both : (k f s : Bool) → (s ≡ true → k ≡ false) → ((k || f) && s) ≡ (f && s)
both true true s h = refl
both true false true h = let e = h refl in let z : ⊥ = cc in absurd z
both true false false h = refl
both false f s h = refl

pub ruleset parts = (common_steps, pushed, pushed_within, empty_added)
