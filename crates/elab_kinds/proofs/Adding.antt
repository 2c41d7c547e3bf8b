-- Walks that add names to a set.
use Rattle.std.proofs.Common.{◌≡◌, refl, sym, ap, ◌∙◌, subst, ℕ, ◌+◌, ◌<◌, ◌≤◌, Bool, true, false, cond, List, length, take, get_or, Result}
use Rattle.std.specs.Prelude.{not, ◌&&◌, ◌||◌, OnOk}
use Rattle.std.specs.Borrow.{Bor}
use Rattle.std.specs.List.{list_any}
use Rattle.std.specs.Str.{bytes_eq}
use Rattle.std.proofs.lemmas.Cmp.{nat_list_eq_equiv}
use Rattle.std.proofs.lemmas.List.{take_all}
use Rattle.std.proofs.lemmas.List.Folds.{list_any_more}
use Rattle.std.proofs.lemmas.Slice.Eq.{bytes_eq-Decides}
use Rattle.indexmap.specs.IndexSet.{IndexSet, contains}
use Rattle.indexmap.proofs.MapLemmas.{OnOk-map}
use Rattle.elab_kinds.specs.Names.{has, nothing, Adds}
use Rattle.elab_plain.specs.vl_base.proofs.Booleans.{or_false_right as or-false, and_false_right as and-false}
pub use Rattle.elab_plain.specs.vl_base.proofs.Booleans.{or_assoc_back as or-more}

abbrev pub Names : Type 0 → Type 0
Names S = IndexSet (Bor (List ℕ)) S

-- ---- tests

none : (o h : Bool) → (o || (not h && false)) ≡ o
none true h = refl
none false true = refl
none false false = refl

both : (o h f g : Bool) → ((o || (not h && f)) || (not h && g)) ≡ (o || (not h && (f || g)))
both true h f g = refl
both false true f g = refl
both false false f g = refl

deeper : (o h b f : Bool) → (o || (not (h || b) && f)) ≡ (o || (not h && (not b && f)))
deeper true h b f = refl
deeper false true b f = refl
deeper false false b f = refl

inner : (o h f : Bool) → (o || (not h && f)) ≡ (o || (not false && (not h && f)))
inner o h f = refl

pub head-body : (p q r s u v : Bool) → ((p || (q || (r || (s || u)))) || v) ≡ (p || (q || (r || (s || (u || v)))))
head-body true q r s u v = refl
head-body false true r s u v = refl
head-body false false true s u v = refl
head-body false false false true u v = refl
head-body false false false false u v = refl

-- ---- what is added

pub adds-none : {S : Type 0} (a : Names S) (h f : List ℕ → Bool) → ((t : List ℕ) → f t ≡ false) → Adds a a h f
adds-none a h f e = record { added = λ t. sym (ap (λ b. has a t || (not (h t) && b)) (e t) ∙ none (has a t) (h t)) }

pub adds-as : {S : Type 0} {a b : Names S} {h f g : List ℕ → Bool} → Adds a b h f → ((t : List ℕ) → f t ≡ g t) → Adds a b h g
adds-as {S} {a} {b} {h} {f} {g} p e = record { added = λ t. p.added t ∙ ap (λ z. has a t || (not (h t) && z)) (e t) }

pub adds-then : {S : Type 0} {a b c : Names S} {h f g : List ℕ → Bool} → Adds a b h f → Adds b c h g → Adds a c h (λ t. f t || g t)
adds-then {S} {a} {b} {c} {h} {f} {g} p q = record { added = λ t. q.added t ∙ (ap (λ z. z || (not (h t) && g t)) (p.added t) ∙ both (has a t) (h t) (f t) (g t)) }

-- one more item of a list
pub adds-more : {S X : Type 0} {a b c : Names S} {h : List ℕ → Bool} (test : List ℕ → X → Bool) (xs : List X) (i : ℕ) (y : X) → i < length xs → y ≡ get_or xs i y
    → Adds a b h (λ t. list_any (test t) (take i xs)) → Adds b c h (λ t. test t y) → Adds a c h (λ t. list_any (test t) (take (i + 1) xs))
adds-more test xs i y l is p q = adds-as (adds-then p q) (λ t. sym (list_any_more (test t) xs i y l ∙ ap (λ z. list_any (test t) (take i xs) || test t z) (sym is)))

-- where the same names are hidden
pub adds-under : {S : Type 0} {a b : Names S} {h f : List ℕ → Bool} (k : List ℕ → Bool) → k ≡ h → Adds a b k f → Adds a b h f
adds-under {S} {a} {b} {h} {f} k e p = subst (λ (z : List ℕ → Bool). Adds a b z f) e p

-- where one more name is hidden
pub adds-deeper : {S : Type 0} {a b : Names S} {f : List ℕ → Bool} (k h g : List ℕ → Bool) → k ≡ (λ t. h t || g t) → Adds a b k f → Adds a b h (λ t. not (g t) && f t)
adds-deeper {S} {a} {b} {f} k h g e p =
    record { added = λ t. p.added t ∙ (ap (λ (z : List ℕ → Bool). has a t || (not (z t) && f t)) e ∙ deeper (has a t) (h t) (g t) (f t)) }

-- what is hidden, as a part of the test
pub adds-plainly : {S : Type 0} {a b : Names S} {h f : List ℕ → Bool} → Adds a b h f → Adds a b nothing (λ t. not (h t) && f t)
adds-plainly {S} {a} {b} {h} {f} p = record { added = λ t. p.added t ∙ inner (has a t) (h t) (f t) }

-- ---- one name

-- what a set has after a name is put in
pub has-insert : {S : Type 0} (m n : Names S) (k : Bor (List ℕ)) → ((q : Bor (List ℕ)) → contains (λ x y. bytes_eq x.now y.now) n q ≡ cond (bytes_eq k.now q.now) true (contains (λ x y. bytes_eq x.now y.now) m q))
    → (t : List ℕ) → has n t ≡ (has m t || bytes_eq t k.now)
has-insert m n k u t = u q ∙ (either (bytes_eq k.now t) (has m t) ∙ ap (λ b. has m t || b) (nat_list_eq_equiv.symm k.now t))
  where
    q : Bor (List ℕ)
    q = record { ref_ptr = (0, 0); now = t }

    either : (a b : Bool) → cond a true b ≡ (b || a)
    either true true = refl
    either true false = refl
    either false true = refl
    either false false = refl

-- a name that is hidden
pub hidden-name : (h : List ℕ → Bool) (t name : List ℕ) → h name ≡ true → (not (h t) && bytes_eq t name) ≡ false
hidden-name h t name k = go (bytes_eq t name) refl
  where
    go : (b : Bool) → bytes_eq t name ≡ b → (not (h t) && b) ≡ false
    go true e = ap (λ z. not (h z) && true) ((bytes_eq-Decides t name).0 e) ∙ ap (λ z. not z && true) k
    go false e = and-false (not (h t))

pub shown-name : (h : List ℕ → Bool) (t name : List ℕ) → h name ≡ false → bytes_eq t name ≡ (not (h t) && bytes_eq t name)
shown-name h t name k = go (bytes_eq t name) refl
  where
    go : (b : Bool) → bytes_eq t name ≡ b → b ≡ (not (h t) && b)
    go true e = sym (ap (λ z. not (h z) && true) ((bytes_eq-Decides t name).0 e) ∙ ap (λ z. not z && true) k)
    go false e = sym (and-false (not (h t)))

pub adds-shown : {S : Type 0} {a b : Names S} (h : List ℕ → Bool) (name : List ℕ) → h name ≡ false → Adds a b nothing (λ t. bytes_eq t name) → Adds a b h (λ t. bytes_eq t name)
adds-shown {S} {a} {b} h name k p = record { added = λ t. p.added t ∙ ap (λ z. has a t || z) (shown-name h t name k) }

pub adds-hidden : {S : Type 0} (a : Names S) (h : List ℕ → Bool) (name : List ℕ) → h name ≡ true → Adds a a h (λ t. bytes_eq t name)
adds-hidden a h name k = record { added = λ t. sym (ap (λ z. has a t || z) (hidden-name h t name k) ∙ or-false (has a t)) }

-- ---- hiding a name for a while

not-true : (b : Bool) → true ≡ not b → b ≡ false
not-true true e = e
not-true false e = refl

not-false : (b : Bool) → false ≡ not b → b ≡ true
not-false true e = refl
not-false false e = e

pub shown-again : {S : Type 0} (m n : Names S) (name : List ℕ) (hides : List ℕ → Bool)
    → ((q : Bor (List ℕ)) → contains (λ x y. bytes_eq x.now y.now) n q ≡ cond (bytes_eq name q.now) false (contains (λ x y. bytes_eq x.now y.now) m q))
    → true ≡ not (hides name) → has m ≡ (λ t. hides t || bytes_eq t name) → has n ≡ hides
shown-again m n name hides u k e = λ i t. at t i
  where
    go : (t : List ℕ) (b : Bool) → bytes_eq name t ≡ b → cond b false (hides t || bytes_eq t name) ≡ hides t
    go t true s = sym (ap hides (sym ((bytes_eq-Decides name t).0 s)) ∙ not-true (hides name) k)
    go t false s = ap (λ z. hides t || z) (sym (nat_list_eq_equiv.symm name t) ∙ s) ∙ or-false (hides t)

    at : (t : List ℕ) → has n t ≡ hides t
    at t = u (record { ref_ptr = (0, 0); now = t }) ∙ (ap (λ (z : List ℕ → Bool). cond (bytes_eq name t) false (z t)) e ∙ go t (bytes_eq name t) refl)

pub hidden-still : (had : List ℕ → Bool) (name : List ℕ) (hides : List ℕ → Bool) → false ≡ not (hides name) → had ≡ (λ t. hides t || bytes_eq t name) → had ≡ hides
hidden-still had name hides k e = e ∙ (λ i t. at t i)
  where
    same : (t : List ℕ) → bytes_eq t name ≡ true → hides t ≡ true
    same t s = ap hides ((bytes_eq-Decides t name).0 s) ∙ not-false (hides name) k

    go : (t : List ℕ) (b : Bool) → bytes_eq t name ≡ b → (hides t || b) ≡ hides t
    go t true s = ap (λ z. z || true) (same t s) ∙ sym (same t s)
    go t false s = or-false (hides t)

    at : (t : List ℕ) → (hides t || bytes_eq t name) ≡ hides t
    at t = go t (bytes_eq t name) refl

-- ---- nodes: what is added for their parts

pub as-one : {S X Y : Type 0} {a b : Names S} {h : List ℕ → Bool} (f : List ℕ → X → Bool) (g : List ℕ → Y → Bool) {x x' : X} {y y' : Y} → x ≡ x' → y ≡ y' → ((t : List ℕ) → f t x' ≡ g t y')
    → Adds a b h (λ t. f t x) → Adds a b h (λ t. g t y)
as-one f g e d same p = adds-as p (λ t. ap (f t) e ∙ (same t ∙ sym (ap (g t) d)))

pub as-two : {S X Z Y : Type 0} {a b c : Names S} {h : List ℕ → Bool} (f : List ℕ → X → Bool) (k : List ℕ → Z → Bool) (g : List ℕ → Y → Bool) {x x' : X} {z z' : Z} {y y' : Y}
    → x ≡ x' → z ≡ z' → y ≡ y' → ((t : List ℕ) → (f t x' || k t z') ≡ g t y') → Adds a b h (λ t. f t x) → Adds b c h (λ t. k t z) → Adds a c h (λ t. g t y)
as-two f k g {x} {x'} {z} {z'} e i d same p q =
    adds-as (adds-then p q) (λ t. ap (λ v. v || k t z) (ap (f t) e) ∙ (ap (λ v. f t x' || v) (ap (k t) i) ∙ (same t ∙ sym (ap (g t) d))))

pub as-three : {S X Z W Y : Type 0} {a b c d : Names S} {h : List ℕ → Bool} (f : List ℕ → X → Bool) (k : List ℕ → Z → Bool) (m : List ℕ → W → Bool) (g : List ℕ → Y → Bool)
    {x x' : X} {z z' : Z} {w w' : W} {y y' : Y} → x ≡ x' → z ≡ z' → w ≡ w' → y ≡ y' → ((t : List ℕ) → (f t x' || (k t z' || m t w')) ≡ g t y')
    → Adds a b h (λ t. f t x) → Adds b c h (λ t. k t z) → Adds c d h (λ t. m t w) → Adds a d h (λ t. g t y)
as-three f k m g {x} {x'} {z} {z'} {w} {w'} e i j l same p q r =
    adds-as (adds-then p (adds-then q r)) (λ t.
    ap (λ v. v || (k t z || m t w)) (ap (f t) e)
    ∙ (ap (λ v. f t x' || (v || m t w)) (ap (k t) i)
    ∙ (ap (λ v. f t x' || (k t z' || v)) (ap (m t) j)
    ∙ (same t ∙ sym (ap (g t) l)))))

-- what is added behind a name that is hidden for a while
pub for-made : {S : Type 0} {a b c : Names S} (h k : List ℕ → Bool) (name : List ℕ) (head body whole : List ℕ → Bool) → k ≡ (λ t. h t || bytes_eq t name) → Adds a b k head → Adds b c k body
    → ((t : List ℕ) → (not (bytes_eq t name) && (head t || body t)) ≡ whole t) → Adds a c h whole
for-made h k name head body whole e p q same = adds-as (adds-deeper k h (λ t. bytes_eq t name) e (adds-then p q)) same

-- ---- nodes: what is added where the walk of the last part ended

-- of one part
pub ends-one : {S X Y R E : Type 0} (r : Result R E) (a b : Names S) (h : List ℕ → Bool) (f : List ℕ → X → Bool) (g : List ℕ → Y → Bool) {x x' : X} {y y' : Y} → x ≡ x' → y ≡ y' → ((t : List ℕ) → f t x' ≡ g t y')
    → OnOk r (Adds a b h (λ t. f t x)) → OnOk r (Adds a b h (λ t. g t y))
ends-one r a b h f g {x} {x'} {y} {y'} e d same = OnOk-map r (Adds a b h (λ t. f t x)) (Adds a b h (λ t. g t y)) (as-one f g e d same)

-- of two parts
pub ends-two : {S X Z Y R E : Type 0} (r : Result R E) (a b c : Names S) (h : List ℕ → Bool) (f : List ℕ → X → Bool) (k : List ℕ → Z → Bool) (g : List ℕ → Y → Bool) {x x' : X} {z z' : Z} {y y' : Y}
    → x ≡ x' → z ≡ z' → y ≡ y' → ((t : List ℕ) → (f t x' || k t z') ≡ g t y') → Adds a b h (λ t. f t x) → OnOk r (Adds b c h (λ t. k t z)) → OnOk r (Adds a c h (λ t. g t y))
ends-two r a b c h f k g {x} {x'} {z} {z'} {y} {y'} e i d same p = OnOk-map r (Adds b c h (λ t. k t z)) (Adds a c h (λ t. g t y)) (as-two f k g e i d same p)
