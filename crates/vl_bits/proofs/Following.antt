-- Parts and processes one after another.
use Rattle.std.proofs.Common.{◌≡◌, ℕ, zero, suc, ◌+◌, ◌<◌, ◌≤◌, Bool, true, false, List, [], ◌∷◌, ◌++◌, map, take, replicate, length, get_or, refl, sym, ap, ◌∙◌, subst}
use Rattle.std.specs.Prelude.{◌||◌, ◌⊎◌, ◌↔◌, flat_map, Option, None}
use Rattle.std.proofs.lemmas.Grind.{flat_map-append}
use Rattle.std.proofs.lemmas.List.{take_all}
use Rattle.std.proofs.lemmas.List.Folds.{list_any-append}
use mathlib.Core.Logic.{inl, inr}
use Rattle.vl_design.specs.declared.design.Design.{Design}
use Rattle.vl_design.specs.declared.design.Process.{Process}
use Rattle.vl_design.specs.declared.design.Signal.{Signal}
use Rattle.vl_design.specs.declared.stop.Stop.{Stop}
use Rattle.vl_design.specs.declared.stop.Stop.TheVariants.{Construct}
use Rattle.vl_design.specs.Placed as p
use Rattle.vl_design.specs.Plainly as plain
use Rattle.vl_design.specs.Seen.{placed, process_of}
use Rattle.vl_design.specs.Stops.{earliest, construct_if}
use Rattle.vl_design.specs.Syntax.{Target}
use Rattle.vl_design.specs.Width.{Names, names_of}
use Rattle.vl_paths.specs.Bits.{Bit, bit_set}
use Rattle.vl_paths.proofs.Ways.{or_true, or_left, or_right}
use Rattle.vl_bits.specs.Masks.{has, in_masks}
use Rattle.vl_bits.proofs.Lists.{or_assoc, or_none}
use Rattle.vl_bits.proofs.Masking.{has_none}
use Rattle.vl_design.specs.First.{IsFirst}
use Rattle.vl_design.proofs.FirstsOfStops.{IsFirst-same}
use Rattle.vl_design.specs.Firsts.{Somewhere}
use Rattle.vl_design.proofs.Both.{first-more}
use Rattle.vl_design.proofs.Places.{nowhere, somewhere-more, somewhere-same, taken-more}
use Rattle.vl_bits.specs.declared.leaves.Leaf.{Leaf}
use Rattle.vl_bits.specs.Drivers.{some_drives, driven_parts, IsAgain, IsSecond, IsDrivenTwice}
use Rattle.vl_bits.specs.SeenOfDrivers.{leaf_of, IsMet, IsAgainIn}
use Rattle.vl_base.proofs.Lists.{zero_at as zero-at}

-- ---- parts

drives-both : (names : Names) (b : Bit) (xs ys : List Target) → some_drives names (xs ++ ys) b ≡ (some_drives names xs b || some_drives names ys b)
drives-both names b xs ys = list_any-append (bit_set names true b) xs ys

-- one more part
pub drives-more : (names : Names) (b : Bit) (ts : List Leaf) (i : ℕ) (y : Leaf) (m n p : Bool) → i < length ts → y ≡ get_or ts i y → n ≡ (m || bit_set names true b (leaf_of y)) →
    m ≡ (p || some_drives names (map leaf_of (take i ts)) b) → n ≡ (p || some_drives names (map leaf_of (take (i + 1) ts)) b)
drives-more names b ts i y m n p l e h k =
    let s = some_drives names (map leaf_of (take i ts)) b in
    let x = bit_set names true b (leaf_of y) in
    h ∙ ap (λ z. z || x) k ∙ or_assoc p s x
    ∙ ap (λ z. p || (s || z)) (sym (or_none x))
    ∙ ap (λ z. p || z) (sym (drives-both names b (map leaf_of (take i ts)) (leaf_of y ∷ [])))
    ∙ ap (λ z. p || some_drives names z b) (sym (taken-more leaf_of ts i y l e))

met-same : (signals : List Signal) (names : Names) (f g : Bit → Bool) (t : Target) → ((b : Bit) → f b ≡ g b) → IsMet signals names f t → IsMet signals names g t
met-same signals names f g t h w = (w.0, w.1, w.2, sym (h w.0) ∙ w.3)

pub again-none : (signals : List Signal) (names : Names) (among : Bit → Bool) → (false ≡ true) ↔ Somewhere (IsAgainIn signals names among) []
again-none signals names among = (λ e. let z : ⊥ = cc in absurd z, λ w. absurd (nowhere (IsAgainIn signals names among) w))

pub again-more : (signals : List Signal) (names : Names) (among : Bit → Bool) (known : List ℕ) (ts : List Leaf) (i : ℕ) (y : Leaf) (again here r : Bool) → i < length ts → y ≡ get_or ts i y →
    ((b : Bit) → in_masks known b ≡ (among b || some_drives names (map leaf_of (take i ts)) b)) →
    ((again ≡ true) ↔ Somewhere (IsAgainIn signals names among) (map leaf_of (take i ts))) → ((here ≡ true) ↔ IsMet signals names (in_masks known) (leaf_of y)) → r ≡ (again || here) →
    (r ≡ true) ↔ Somewhere (IsAgainIn signals names among) (map leaf_of (take (i + 1) ts))
again-more signals names among known ts i y again here r l e told a h k =
    let P = IsAgainIn signals names among in
    let xs = map leaf_of (take i ts) in
    let more = taken-more leaf_of ts i y l e in
    let law = somewhere-more P xs (leaf_of y) in (
      λ is. subst (λ zs. Somewhere P zs) (sym more) (law.1 (elim (or_true again here (sym k ∙ is)) [
        | inl g ↦ inl (a.0 g)
        | inr g ↦ inr (met-same signals names (in_masks known) (λ b. among b || some_drives names xs b) (leaf_of y) told (h.0 g))
      ])),
      λ w. k ∙ elim (law.0 (subst (λ zs. Somewhere P zs) more w)) [
        | inl g ↦ or_left again here (a.1 g)
        | inr g ↦ or_right again here (h.1 (met-same signals names (λ b. among b || some_drives names xs b) (in_masks known) (leaf_of y) (λ b. sym (told b)) g))
      ],
    )

-- ---- processes

-- with the parts of the processes before
again-behind : (signals : List Signal) (names : Names) (among : Bit → Bool) (before left : List Target) (t : Target) → ((b : Bit) → among b ≡ some_drives names before b) →
    IsAgainIn signals names among left t ↔ IsAgain signals names (before ++ left) t
again-behind signals names among before left t told = (
  λ w. (w.0, w.1, w.2, drives-both names w.0 before left ∙ ap (λ z. z || some_drives names left w.0) (sym (told w.0)) ∙ w.3),
  λ w. (w.0, w.1, w.2, ap (λ z. z || some_drives names left w.0) (told w.0) ∙ sym (drives-both names w.0 before left) ∙ w.3),
)

second-tells : (d : p.Design) (known : List ℕ) (before : List p.Process) (a : p.Process) (t : Bool) → ((b : Bit) → in_masks known b ≡ some_drives (names_of (plain.flat d)) (flat_map driven_parts before) b) →
    ((t ≡ true) ↔ Somewhere (IsAgainIn d.signals (names_of (plain.flat d)) (in_masks known)) (driven_parts a)) → (t ≡ true) ↔ IsSecond d before a
second-tells d known before a t told h =
    let names = names_of (plain.flat d) in
    let P = IsAgainIn d.signals names (in_masks known) in
    let Q : List Target → Target → Type 0 = λ left u. IsAgain d.signals names (flat_map driven_parts before ++ left) u in
    let same : (left : List Target) (u : Target) → P left u ↔ Q left u = λ left u. again-behind d.signals names (in_masks known) (flat_map driven_parts before) left u told in (
      λ e. somewhere-same P Q (driven_parts a) same (h.0 e),
      λ w. h.1 (somewhere-same Q P (driven_parts a) (λ left u. ((same left u).1, (same left u).0)) w),
    )

-- the fault of a process with those before it
abbrev pub IsFaultOf : p.Design → Stop → List p.Process → p.Process → Type 0
IsFaultOf d f before a = IsSecond d before a × (f ≡ Construct a.place 14)

pub first-none : (d : p.Design) → IsFirst (λ f. Somewhere (IsFaultOf d f) []) None
first-none d = λ f w. nowhere (IsFaultOf d f) w

-- one more process
pub first-next : (d : Design) (names : Names) (signals : List Signal) (known : List ℕ) (i : ℕ) (y : Process) (t : Bool) (best r : Option Stop) → names ≡ names_of (plain.flat (placed d)) → signals ≡ d.signals →
    i < length d.processes → y ≡ get_or d.processes i y → ((b : Bit) → in_masks known b ≡ some_drives names (flat_map driven_parts (map process_of (take i d.processes))) b) →
    ((t ≡ true) ↔ Somewhere (IsAgainIn signals names (in_masks known)) (driven_parts (process_of y))) → r ≡ earliest best (construct_if t y.place 14) →
    IsFirst (λ f. Somewhere (IsFaultOf (placed d) f) (map process_of (take i d.processes))) best → IsFirst (λ f. Somewhere (IsFaultOf (placed d) f) (map process_of (take (i + 1) d.processes))) r
first-next d names signals known i y t best r n s l e told h is first =
    let before = map process_of (take i d.processes) in
    let a = process_of y in
    let there : (b : Bit) → in_masks known b ≡ some_drives (names_of (plain.flat (placed d))) (flat_map driven_parts before) b =
    λ b. told b ∙ ap (λ (z : Names). some_drives z (flat_map driven_parts before) b) n in
    let tells : (t ≡ true) ↔ Somewhere (IsAgainIn d.signals (names_of (plain.flat (placed d))) (in_masks known)) (driven_parts a) =
    subst (λ (z : Names). (t ≡ true) ↔ Somewhere (IsAgainIn d.signals z (in_masks known)) (driven_parts a)) n
    (subst (λ (z : List Signal). (t ≡ true) ↔ Somewhere (IsAgainIn z names (in_masks known)) (driven_parts a)) s h) in
    let both = first-more (λ f. Somewhere (IsFaultOf (placed d) f) before) (IsSecond (placed d) before a) t y.place 14 best first (second-tells (placed d) known before a t there tells) in
    let joined = IsFirst-same (λ f. Somewhere (IsFaultOf (placed d) f) before ⊎ IsFaultOf (placed d) f before a) (λ f. Somewhere (IsFaultOf (placed d) f) (before ++ (a ∷ [])))
    (λ f. let law = somewhere-more (IsFaultOf (placed d) f) before a in (law.1, law.0)) (earliest best (construct_if t y.place 14)) both in
    subst (λ (o : Option Stop). IsFirst (λ f. Somewhere (IsFaultOf (placed d) f) (map process_of (take (i + 1) d.processes))) o) (sym is)
    (subst (λ zs. IsFirst (λ f. Somewhere (IsFaultOf (placed d) f) zs) (earliest best (construct_if t y.place 14))) (sym (taken-more process_of d.processes i y l e)) joined)

pub first-all : (d : Design) (i : ℕ) (best : Option Stop) → length d.processes ≤ i → IsFirst (λ f. Somewhere (IsFaultOf (placed d) f) (map process_of (take i d.processes))) best → IsFirst (IsDrivenTwice (placed d)) best
first-all d i best l h = subst (λ zs. IsFirst (λ f. Somewhere (IsFaultOf (placed d) f) (map process_of zs)) best) (take_all i d.processes l) h

-- what is driven so far, with one more process
pub driven-next : (names : Names) (b : Bit) (ps : List Process) (i : ℕ) (y : Process) (m n : Bool) → i < length ps → y ≡ get_or ps i y → n ≡ (m || some_drives names (driven_parts (process_of y)) b) →
    m ≡ some_drives names (flat_map driven_parts (map process_of (take i ps))) b → n ≡ some_drives names (flat_map driven_parts (map process_of (take (i + 1) ps))) b
driven-next names b ps i y m n l e h k =
    let before = map process_of (take i ps) in
    let a = process_of y in
    h ∙ ap (λ z. z || some_drives names (driven_parts a) b) k
    ∙ sym (drives-both names b (flat_map driven_parts before) (driven_parts a))
    ∙ ap (λ z. some_drives names (flat_map driven_parts before ++ z) b) (sym (alone (driven_parts a)))
    ∙ ap (λ z. some_drives names z b) (sym (flat_map-append driven_parts before (a ∷ [])))
    ∙ ap (λ z. some_drives names (flat_map driven_parts z) b) (sym (taken-more process_of ps i y l e))
  where
    alone : (xs : List Target) → xs ++ [] ≡ xs
    alone [] = refl
    alone (x ∷ xs) = ap (λ z. x ∷ z) (alone xs)

-- ---- masks without bits

pub clear-zeros : (n : ℕ) (all : List ℕ) → all ≡ replicate n 0 → (b : Bit) → in_masks all b ≡ false
clear-zeros n all e b = ap (λ xs. in_masks xs b) e ∙ ap (λ x. has x b.place) (zero-at n b.signal 0) ∙ has_none b.place
