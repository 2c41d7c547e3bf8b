-- Forms kept within 129 bits.
use Rattle.std.proofs.Common.{◌≡◌, refl, ap, sym, ◌∙◌, ℕ, ◌+◌, ◌-◌, ◌*◌, ◌≤◌, ◌<◌, min, List, [], ◌∷◌, ◌++◌, map, length, get_or, take, drop, Bool, true, false, arith}
use Rattle.std.specs.Prelude.{Option, Some, None, if◌then◌else◌, codes, ℤ, fold}
use Rattle.std.specs.Str.{bytes_eq}
use Rattle.std.proofs.lemmas.Grind.{common_steps}
use Rattle.std.proofs.lemmas.List.{take_all, take_more, map-append}
use Rattle.vl_base.specs.declared.place.Place.{Place}
use Rattle.vl_base.specs.declared.bits.UnOp.{UnOp}
use Rattle.vl_base.specs.declared.bits.UnOp.TheVariants.{Neg, Not}
use Rattle.vl_base.specs.declared.bits.BinOp.{BinOp}
use Rattle.vl_base.specs.declared.bits.BinOp.TheVariants.{Add, Sub, Mul, Div, Rem, And, Or, Xor, Xnor}
use Rattle.vl_design.specs.declared.design.Form.{Form}
use Rattle.vl_design.specs.Width.{unsigned, bit, joined, unary_form, binary_form}
use Rattle.elab_plain.specs.vl_flat.specs.Surface as x
use Rattle.elab_plain.specs.vl_flat.specs.declared.binding.Binding.{Binding}
use Rattle.vl_tree.specs.declared.tree.SelectMark.TheVariants as m
use Rattle.elab_plain.specs.vl_flat.specs.Scopes.{Scope, form_of, range_of, number_of, plainly, none}
use Rattle.elab_plain.specs.vl_flat.specs.Expressions.{form, total_width, named_form, system_form, marked_form, taken, is_memory, step_form, steps}
use Rattle.elab_plain.specs.declared.surface.Ex as e
use Rattle.elab_plain.specs.declared.surface.Select as s
use Rattle.vl_tree.specs.declared.tree.SelectMark.{SelectMark}
use Rattle.elab_plain.specs.Seen.{seen, select, selects_before}
use Rattle.elab_plain.specs.Listed.{of_list}
use Rattle.elab_plain.proofs.Walks.{joined-seen, called-seen, named-seen, system-seen}
use Rattle.elab_constant.specs.Kept.{kept, selects_form}

same-form : (w v : ℕ) (s : Bool) → w ≡ v → (let f : Form = record { width = w; signed = s } in f) ≡ record { width = v; signed = s }
same-form w v s h = ap (λ n. record { width = n; signed = s }) h

pub kept-joined : (f g : Form) → joined (kept f) (kept g) ≡ kept (joined f g)
kept-joined f g = same-form _ _ _ (omega arith)

pub kept-binary : (op : BinOp) (f g : Form) → binary_form op (kept f) (kept g) ≡ kept (binary_form op f g)
kept-binary Add f g = kept-joined f g
kept-binary Sub f g = kept-joined f g
kept-binary Mul f g = kept-joined f g
kept-binary Div f g = kept-joined f g
kept-binary Rem f g = kept-joined f g
kept-binary And f g = kept-joined f g
kept-binary Or f g = kept-joined f g
kept-binary Xor f g = kept-joined f g
kept-binary Xnor f g = kept-joined f g
kept-binary op f g = refl

pub kept-unary : (op : UnOp) (f : Form) → unary_form op (kept f) ≡ kept (unary_form op f)
kept-unary Neg f = refl
kept-unary Not f = refl
kept-unary op f = refl

pub kept-marked : (o : Option UnOp) (f : Form) → marked_form o (kept f) ≡ kept (marked_form o f)
kept-marked None f = refl
kept-marked (Some op) f = kept-unary op f

kept-twice : (f : Form) → kept (kept f) ≡ kept f
kept-twice f = same-form _ _ _ (omega arith)

-- the numbers of a value's bits make no difference to the form of what selects leave of it
numbered : (S : Scope) (f : Form) (r : ℤ × ℤ) (ss : x.Selects) → fold step_form f (steps S None r ss) ≡ selects_form S f ss
numbered S f r x.NoSelects = refl
numbered S f r (x.Index q i others) = refl
numbered S f r (x.Range q m.Range a b others) = refl
numbered S f r (x.Range q m.Up a b others) = refl
numbered S f r (x.Range q m.Down a b others) = refl

index-form : (S : Scope) (f : Form) (q : Place) (i : x.Ex) (others : x.Selects) → selects_form S f (x.Index q i others) ≡ selects_form S (unsigned 1) others
index-form S f q i others = numbered S (unsigned 1) _ others

range-form : (S : Scope) (f : Form) (q : Place) (mark : SelectMark) (a b : x.Ex) (others : x.Selects) → selects_form S f (x.Range q mark a b others) ≡ selects_form S (unsigned (taken S mark a b)) others
range-form S f q m.Range a b others = numbered S (unsigned (taken S m.Range a b)) _ others
range-form S f q m.Up a b others = numbered S (unsigned (taken S m.Up a b)) _ others
range-form S f q m.Down a b others = numbered S (unsigned (taken S m.Down a b)) _ others

-- selects on a kept form
pub kept-selects : (S : Scope) (f : Form) (ss : x.Selects) → kept (selects_form S (kept f) ss) ≡ kept (selects_form S f ss)
kept-selects S f x.NoSelects = kept-twice f
kept-selects S f (x.Index q i others) = refl
kept-selects S f (x.Range q m.Range a b others) = refl
kept-selects S f (x.Range q m.Up a b others) = refl
kept-selects S f (x.Range q m.Down a b others) = refl

go : (b c d : Bool) (f : Form) →
    (if b then (let g : Form = record { width = (kept f).width; signed = true } in g) else if c then record { width = (kept f).width; signed = false } else if d then unsigned 64 else record { width = 32; signed = true })
    ≡ kept (if b then record { width = f.width; signed = true } else if c then record { width = f.width; signed = false } else if d then unsigned 64 else record { width = 32; signed = true })
go true c d f = refl
go false true d f = refl
go false false true f = refl
go false false false f = refl

pub kept-system : (t : List ℕ) (f : Form) → system_form (plainly none) t (kept f) ≡ kept (system_form (plainly none) t f)
kept-system t f = go (bytes_eq t (codes "$signed")) (bytes_eq t (codes "$unsigned")) (bytes_eq t (codes "$time")) f

append-width : (S : Scope) (xs : List x.Ex) (y : x.Ex) → total_width S (of_list (xs ++ y ∷ [])) ≡ total_width S (of_list xs) + (form S y).width
append-width S [] y = omega arith
append-width S (z ∷ zs) y = let h = append-width S zs y in omega (arith, h)

pub total-more : (S : Scope) (es : List e.Ex) (i : ℕ) (y : e.Ex) → i < length es → y ≡ get_or es i y → total_width S (of_list (map seen (take (i + 1) es))) ≡ total_width S (of_list (map seen (take i es))) + (form S (seen y)).width
total-more S es i y h is =
    ap (λ z. total_width S (of_list (map seen z))) (take_more es i y h)
    ∙ (ap (λ z. total_width S (of_list z)) (map-append seen (take i es) (get_or es i y ∷ []))
    ∙ (append-width S (map seen (take i es)) (seen (get_or es i y))
    ∙ ap (λ z. total_width S (of_list (map seen (take i es))) + (form S (seen z)).width) (sym is)))

pub kept-times : (n w : ℕ) → 1 ≤ n → min 129 (n * min 129 w) ≡ min 129 (n * w)
kept-times n w h = grind arith

-- ---- selects one by one

nothing : (S : Scope) (f : Form) (ss : List s.Select) → length ss < 1 → selects_form S f (selects_before ss x.NoSelects) ≡ f
nothing S f [] h = refl
nothing S f (y ∷ ss) h = absurd (omega arith)

pub form-nothing : (S : Scope) (f : Form) (ss : List s.Select) (n : ℕ) → length ss < 1 → n ≡ min f.width 129 → record { width = n; signed = f.signed } ≡ kept (selects_form S f (selects_before ss x.NoSelects))
form-nothing S f ss n h e = same-form n (min 129 f.width) f.signed (omega arith) ∙ sym (ap kept (nothing S f ss h))

-- what is behind the first, as a slice
abbrev pub rest : List s.Select → List s.Select
rest ss = take (length ss - 1) (drop 1 ss)

rest-is : (z : s.Select) (ss : List s.Select) → rest (z ∷ ss) ≡ ss
rest-is z ss = take_all (length (z ∷ ss) - 1) ss (omega arith)

pub first-index : (ss : List s.Select) (y : s.Select) (q : Place) (i : e.Ex) → 1 ≤ length ss → y ≡ get_or ss 0 y → y ≡ s.Index q i → selects_before ss x.NoSelects ≡ x.Index q (seen i) (selects_before (rest ss) x.NoSelects)
first-index [] y q i h is k = absurd (omega arith)
first-index (z ∷ ss) y q i h is k = ap (λ a. select a (selects_before ss x.NoSelects)) (sym is ∙ k) ∙ sym (ap (λ a. x.Index q (seen i) (selects_before a x.NoSelects)) (rest-is z ss))

pub first-range : (ss : List s.Select) (y : s.Select) (q : Place) (m : SelectMark) (l r : e.Ex) → 1 ≤ length ss → y ≡ get_or ss 0 y → y ≡ s.Range q m l r → selects_before ss x.NoSelects ≡ x.Range q m (seen l) (seen r) (selects_before (rest ss) x.NoSelects)
first-range [] y q m l r h is k = absurd (omega arith)
first-range (z ∷ ss) y q m l r h is k = ap (λ a. select a (selects_before ss x.NoSelects)) (sym is ∙ k) ∙ sym (ap (λ a. x.Range q m (seen l) (seen r) (selects_before a x.NoSelects)) (rest-is z ss))

pub form-index : (S : Scope) (f g r : Form) (ss : List s.Select) (y : s.Select) (q : Place) (i : e.Ex) → 1 ≤ length ss → y ≡ get_or ss 0 y → y ≡ s.Index q i
    → r ≡ kept (selects_form S g (selects_before (rest ss) x.NoSelects)) → g ≡ bit → r ≡ kept (selects_form S f (selects_before ss x.NoSelects))
form-index S f g r ss y q i h is k e d =
    e ∙ (ap (λ z. kept (selects_form S z (selects_before (rest ss) x.NoSelects))) d
    ∙ sym (ap (λ z. kept (selects_form S f z)) (first-index ss y q i h is k) ∙ ap kept (index-form S f q (seen i) (selects_before (rest ss) x.NoSelects))))

range-kept : (S : Scope) (g r : Form) (n t : ℕ) (others : x.Selects) → r ≡ kept (selects_form S g others) → g ≡ unsigned n → n ≡ t → r ≡ kept (selects_form S (unsigned t) others)
range-kept S g r n t others e d c =
    e ∙ ap (λ z. kept (selects_form S z others)) (d ∙ ap unsigned c)

pub form-range : (S : Scope) (f g r : Form) (n : ℕ) (ss : List s.Select) (y : s.Select) (q : Place) (m : SelectMark) (a b : e.Ex) → 1 ≤ length ss → y ≡ get_or ss 0 y → y ≡ s.Range q m a b
    → r ≡ kept (selects_form S g (selects_before (rest ss) x.NoSelects)) → g ≡ unsigned n → n ≡ taken S m (seen a) (seen b) → r ≡ kept (selects_form S f (selects_before ss x.NoSelects))
form-range S f g r n ss y q m a b h is k e d c =
    range-kept S g r n (taken S m (seen a) (seen b)) (selects_before (rest ss) x.NoSelects) e d c
    ∙ sym (ap (λ z. kept (selects_form S f z)) (first-range ss y q m a b h is k) ∙ ap kept (range-form S f q m (seen a) (seen b) (selects_before (rest ss) x.NoSelects)))

-- an index and two bounds behind a name, by whether it is a memory's
memory-form : (S : Scope) (b : Bool) (o : Option Binding) (q : Place) (i : x.Ex) (others : x.Selects) → b ≡ true
    → fold step_form (form_of o) (steps S (if b then Some (number_of o) else None) (range_of o) (x.Index q i others)) ≡ selects_form S (form_of o) others
memory-form S b o q i others h = rw h (numbered S (form_of o) (range_of o) others)

bit-form : (S : Scope) (b : Bool) (o : Option Binding) (q : Place) (i : x.Ex) (others : x.Selects) → b ≡ false
    → fold step_form (form_of o) (steps S (if b then Some (number_of o) else None) (range_of o) (x.Index q i others)) ≡ selects_form S (unsigned 1) others
bit-form S b o q i others h = rw h (numbered S (unsigned 1) _ others)

part-form : (S : Scope) (k : Option ℕ) (f : Form) (r : ℤ × ℤ) (q : Place) (mark : SelectMark) (a b : x.Ex) (others : x.Selects) → fold step_form f (steps S k r (x.Range q mark a b others)) ≡ selects_form S (unsigned (taken S mark a b)) others
part-form S None f r q mark a b others = numbered S f r (x.Range q mark a b others) ∙ range-form S f q mark a b others
part-form S (Some k) f r q m.Range a b others = numbered S (unsigned (taken S m.Range a b)) _ others
part-form S (Some k) f r q m.Up a b others = numbered S (unsigned (taken S m.Up a b)) _ others
part-form S (Some k) f r q m.Down a b others = numbered S (unsigned (taken S m.Down a b)) _ others

pub name-word : (S : Scope) (o : Option Binding) (g r : Form) (ss : List s.Select) (y : s.Select) (q : Place) (i : e.Ex) → 1 ≤ length ss → y ≡ get_or ss 0 y → y ≡ s.Index q i → is_memory o ≡ true
    → r ≡ kept (selects_form S g (selects_before (rest ss) x.NoSelects)) → g ≡ kept (form_of o) → r ≡ kept (named_form S o (selects_before ss x.NoSelects))
name-word S o g r ss y q i h is k m e d =
    let others = selects_before (rest ss) x.NoSelects in
    e
    ∙ (ap (λ z. kept (selects_form S z others)) d
    ∙ (kept-selects S (form_of o) others
    ∙ (sym (ap kept (memory-form S (is_memory o) o q (seen i) others m))
    ∙ sym (ap (λ z. kept (named_form S o z)) (first-index ss y q i h is k)))))

pub name-bit : (S : Scope) (o : Option Binding) (g r : Form) (ss : List s.Select) (y : s.Select) (q : Place) (i : e.Ex) → 1 ≤ length ss → y ≡ get_or ss 0 y → y ≡ s.Index q i → is_memory o ≡ false
    → r ≡ kept (selects_form S g (selects_before (rest ss) x.NoSelects)) → g ≡ bit → r ≡ kept (named_form S o (selects_before ss x.NoSelects))
name-bit S o g r ss y q i h is k m e d =
    let others = selects_before (rest ss) x.NoSelects in
    e
    ∙ (ap (λ z. kept (selects_form S z others)) d
    ∙ (sym (ap kept (bit-form S (is_memory o) o q (seen i) others m))
    ∙ sym (ap (λ z. kept (named_form S o z)) (first-index ss y q i h is k))))

pub name-range : (S : Scope) (o : Option Binding) (g r : Form) (n : ℕ) (ss : List s.Select) (y : s.Select) (q : Place) (m : SelectMark) (a b : e.Ex) → 1 ≤ length ss → y ≡ get_or ss 0 y → y ≡ s.Range q m a b
    → r ≡ kept (selects_form S g (selects_before (rest ss) x.NoSelects)) → g ≡ unsigned n → n ≡ taken S m (seen a) (seen b) → r ≡ kept (named_form S o (selects_before ss x.NoSelects))
name-range S o g r n ss y q m a b h is k e d c =
    range-kept S g r n (taken S m (seen a) (seen b)) (selects_before (rest ss) x.NoSelects) e d c
    ∙ sym (ap (λ z. kept (named_form S o z)) (first-range ss y q m a b h is k)
    ∙ ap kept (part-form S (if is_memory o then Some (number_of o) else None) (form_of o) (range_of o) q m (seen a) (seen b) (selects_before (rest ss) x.NoSelects)))

pub ruleset keeps = (common_steps, kept-joined, kept-binary, kept-marked, kept-selects, kept-system, total-more, kept-times, joined-seen, called-seen, named-seen, system-seen)
