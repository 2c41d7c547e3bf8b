-- Seats apart, one of them in the midst, and what they take.
use Rattle.std.proofs.Common.{◌≡◌, ℕ, eqb, Bool, true, false, List, [], ◌∷◌, ◌++◌, cond, refl, sym, ap, ◌∙◌, subst, eq-eqb, map, arith, Option, Some, None}
use Rattle.std.specs.List.{AllByRecursion}
use Rattle.std.specs.Prelude.{⊤}
use Rattle.std.proofs.lemmas.Bool.{eqb-true, false≢true}
use Rattle.ten_core.specs.vl_design.specs.declared.capacity.Cost.{Cost}
use Rattle.fab_lock.specs.declared.entry.Entry.{Entry}
use Rattle.fab_lock.specs.declared.entry.Kind.{Kind}
use Rattle.fab_lock.specs.declared.entry.Kind.TheVariants.{Line, Came, Ran, Saved, Left}
use Rattle.fab_model.specs.Fabrics.{nothing, plus, within}
use Rattle.fab_model.specs.declared.note.Note.{Note}
use Rattle.fab_model.specs.Deeds.{Deed, cost_of, deed_in}
use Rattle.fab_model.specs.Histories.{Away, Inside, May, Seat, place_of, changed, without, in_line, seated, moved_to, after, fits_alone, is_head, used, HasRoom, replay, IsLegalFrom, IsLegal}
use Rattle.fab_model.proofs.Legality.{not_away, away_for_line, place_behind}
use Rattle.ten_core.specs.vl_design.proofs.Shared.{cost_by}

-- ---- each tenant once

abbrev pub AreApart : List Seat → Type 0
AreApart [] = ⊤
AreApart (s ∷ ss) = (place_of s.tenant ss ≡ Away) × AreApart ss

pub eqb_flip : (a b : ℕ) → eqb a b ≡ false → eqb b a ≡ false
eqb_flip a b e = step (eqb b a) refl
  where
    step : (v : Bool) → eqb b a ≡ v → v ≡ false
    step true h = absurd (false≢true (sym e ∙ eq-eqb a b (sym (eqb-true b a h))))
    step false h = refl

pub away_tail : (t : ℕ) (x : Seat) (xs : List Seat) → place_of t (x ∷ xs) ≡ Away → (eqb x.tenant t ≡ false) × (place_of t xs ≡ Away)
away_tail t x xs a = step (eqb x.tenant t) refl a
  where
    step : (b : Bool) → eqb x.tenant t ≡ b → cond b (Inside x.since x.now x.came x.deed) (place_of t xs) ≡ Away → (eqb x.tenant t ≡ false) × (place_of t xs ≡ Away)
    step true e a = not_away x.since x.now x.came x.deed a
    step false e a = (e, a)

pub away_cons : (t : ℕ) (x : Seat) (xs : List Seat) → eqb x.tenant t ≡ false → place_of t xs ≡ Away → place_of t (x ∷ xs) ≡ Away
away_cons t x xs e a = ap (λ b. cond b (Inside x.since x.now x.came x.deed) (place_of t xs)) e ∙ a

pub away-append : (t : ℕ) (xs ys : List Seat) → place_of t xs ≡ Away → place_of t ys ≡ Away → place_of t (xs ++ ys) ≡ Away
away-append t xs ys a b = place_behind t xs ys a ∙ b

pub away_changed : (k t : ℕ) (f : Seat → Seat) (ss : List Seat) → ((s : Seat) → (f s).tenant ≡ s.tenant) → place_of t ss ≡ Away → place_of t (changed k f ss) ≡ Away
away_changed k t f [] same a = refl
away_changed k t f (x ∷ xs) same a = let h = away_tail t x xs a in step (eqb x.tenant k) h.0 (away_changed k t f xs same h.1)
  where
    step : (b : Bool) → eqb x.tenant t ≡ false → place_of t (changed k f xs) ≡ Away → place_of t (cond b (f x) x ∷ changed k f xs) ≡ Away
    step true e r = away_cons t (f x) (changed k f xs) (ap (λ (m : ℕ). eqb m t) (same x) ∙ e) r
    step false e r = away_cons t x (changed k f xs) e r

pub away_without : (k t : ℕ) (ss : List Seat) → place_of t ss ≡ Away → place_of t (without k ss) ≡ Away
away_without k t [] a = refl
away_without k t (x ∷ xs) a = let h = away_tail t x xs a in step (eqb x.tenant k) h.0 (away_without k t xs h.1)
  where
    step : (b : Bool) → eqb x.tenant t ≡ false → place_of t (without k xs) ≡ Away → place_of t (cond b (without k xs) (x ∷ without k xs)) ≡ Away
    step true e r = r
    step false e r = away_cons t x (without k xs) e r

pub apart-snoc : (s : Seat) (ss : List Seat) → AreApart ss → place_of s.tenant ss ≡ Away → AreApart (ss ++ s ∷ [])
apart-snoc s [] a n = (refl, tt)
apart-snoc s (x ∷ xs) a n =
    let h = away_tail s.tenant x xs n in
    (away-append x.tenant xs (s ∷ []) a.0 (away_cons x.tenant s [] (eqb_flip x.tenant s.tenant h.0) refl), apart-snoc s xs a.1 h.1)

pub apart_line : (e : Entry) (o : Option Deed) (ss : List Seat) → AreApart ss → place_of e.tenant ss ≡ Away → AreApart (ss ++ in_line e o)
apart_line e None ss a n = subst AreApart (sym (append_none ss)) a
  where
    append_none : (zs : List Seat) → zs ++ [] ≡ zs
    append_none [] = refl
    append_none (z ∷ zs) = ap (λ (l : List Seat). z ∷ l) (append_none zs)
apart_line e (Some d) ss a n = apart-snoc (record { tenant = e.tenant; since = e.from; now = e.from; came = false; deed = d }) ss a n

pub apart_changed : (k : ℕ) (f : Seat → Seat) (ss : List Seat) → ((s : Seat) → (f s).tenant ≡ s.tenant) → AreApart ss → AreApart (changed k f ss)
apart_changed k f [] same a = tt
apart_changed k f (x ∷ xs) same a = step (apart_changed k f xs same a.1) (eqb x.tenant k)
  where
    step : AreApart (changed k f xs) → (b : Bool) → AreApart (cond b (f x) x ∷ changed k f xs)
    step r true = (ap (λ (t : ℕ). place_of t (changed k f xs)) (same x) ∙ away_changed k x.tenant f xs same a.0, r)
    step r false = (away_changed k x.tenant f xs same a.0, r)

pub apart_without : (k : ℕ) (ss : List Seat) → AreApart ss → AreApart (without k ss)
apart_without k [] a = tt
apart_without k (x ∷ xs) a = step (apart_without k xs a.1) (eqb x.tenant k)
  where
    step : AreApart (without k xs) → (b : Bool) → AreApart (cond b (without k xs) (x ∷ without k xs))
    step r true = r
    step r false = (away_without k x.tenant xs a.0, r)

pub apart_after : (g : ℕ) (k : Kind) (ss : List Seat) (n : Note) → AreApart ss → May g k (place_of n.entry.tenant ss) n → AreApart (after k ss n)
apart_after g Line ss n a m = apart_line n.entry (deed_in n) ss a (away_for_line g (place_of n.entry.tenant ss) n m)
apart_after g Came ss n a m = apart_changed n.entry.tenant seated ss (λ s. refl) a
apart_after g Ran ss n a m = apart_changed n.entry.tenant (moved_to n.entry.to) ss (λ s. refl) a
apart_after g Saved ss n a m = a
apart_after g Left ss n a m = apart_without n.entry.tenant ss a

pub apart_replay : (g : ℕ) (c : Cost) (ss : List Seat) (ns : List Note) → AreApart ss → IsLegalFrom g c ss ns → AreApart (replay ss ns)
apart_replay g c ss [] a l = a
apart_replay g c ss (n ∷ ns) a l = apart_replay g c (after n.entry.kind ss n) ns (apart_after g n.entry.kind ss n a l.0) l.2

pub apart_legal : (g : ℕ) (c : Cost) (notes : List Note) → IsLegal g c notes → AreApart (replay [] notes)
apart_legal g c notes l = apart_replay g c [] notes tt l

-- ---- one in the midst

not_here : (t : ℕ) (x : Seat) (zs : List Seat) (s : Seat) → place_of x.tenant zs ≡ Away → place_of t zs ≡ Inside s.since s.now s.came s.deed → eqb x.tenant t ≡ false
not_here t x zs s a p = step (eqb x.tenant t) refl
  where
    step : (b : Bool) → eqb x.tenant t ≡ b → b ≡ false
    step true e = not_away s.since s.now s.came s.deed (sym p ∙ ap (λ (k : ℕ). place_of k zs) (sym (eqb-true x.tenant t e)) ∙ a)
    step false e = refl

pub place_mid : (xs ys : List Seat) (s : Seat) → AreApart (xs ++ s ∷ ys) → place_of s.tenant (xs ++ s ∷ ys) ≡ Inside s.since s.now s.came s.deed
place_mid [] ys s a = ap (λ b. cond b (Inside s.since s.now s.came s.deed) (place_of s.tenant ys)) (eq-eqb s.tenant s.tenant refl)
place_mid (x ∷ xs) ys s a =
    let p = place_mid xs ys s a.1 in
    ap (λ b. cond b (Inside x.since x.now x.came x.deed) (place_of s.tenant (xs ++ s ∷ ys))) (not_here s.tenant x (xs ++ s ∷ ys) s a.0 p) ∙ p

pub not_mid : (x : Seat) (xs ys : List Seat) (s : Seat) → AreApart (x ∷ (xs ++ s ∷ ys)) → eqb x.tenant s.tenant ≡ false
not_mid x xs ys s a = not_here s.tenant x (xs ++ s ∷ ys) s a.0 (place_mid xs ys s a.1)

pub changed_away : (t : ℕ) (f : Seat → Seat) (ss : List Seat) → place_of t ss ≡ Away → changed t f ss ≡ ss
changed_away t f [] a = refl
changed_away t f (x ∷ xs) a = let h = away_tail t x xs a in ap (λ b. cond b (f x) x ∷ changed t f xs) h.0 ∙ ap (λ zs. x ∷ zs) (changed_away t f xs h.1)

pub without_away : (t : ℕ) (ss : List Seat) → place_of t ss ≡ Away → without t ss ≡ ss
without_away t [] a = refl
without_away t (x ∷ xs) a = let h = away_tail t x xs a in ap (λ b. cond b (without t xs) (x ∷ without t xs)) h.0 ∙ ap (λ zs. x ∷ zs) (without_away t xs h.1)

pub changed_mid : (f : Seat → Seat) (xs ys : List Seat) (s : Seat) → AreApart (xs ++ s ∷ ys) → changed s.tenant f (xs ++ s ∷ ys) ≡ xs ++ f s ∷ ys
changed_mid f [] ys s a = ap (λ b. cond b (f s) s ∷ changed s.tenant f ys) (eq-eqb s.tenant s.tenant refl) ∙ ap (λ zs. f s ∷ zs) (changed_away s.tenant f ys a.0)
changed_mid f (x ∷ xs) ys s a = ap (λ b. cond b (f x) x ∷ changed s.tenant f (xs ++ s ∷ ys)) (not_mid x xs ys s a) ∙ ap (λ zs. x ∷ zs) (changed_mid f xs ys s a.1)

pub without_mid : (xs ys : List Seat) (s : Seat) → AreApart (xs ++ s ∷ ys) → without s.tenant (xs ++ s ∷ ys) ≡ xs ++ ys
without_mid [] ys s a = ap (λ b. cond b (without s.tenant ys) (s ∷ without s.tenant ys)) (eq-eqb s.tenant s.tenant refl) ∙ without_away s.tenant ys a.0
without_mid (x ∷ xs) ys s a = ap (λ b. cond b (without s.tenant (xs ++ s ∷ ys)) (x ∷ without s.tenant (xs ++ s ∷ ys))) (not_mid x xs ys s a) ∙ ap (λ zs. x ∷ zs) (without_mid xs ys s a.1)

-- ---- residents, and the line

-- each is a resident (true), or each is in line (false)
abbrev pub AllCame : Bool → List Seat → Type 0
AllCame c [] = ⊤
AllCame c (s ∷ ss) = (s.came ≡ c) × AllCame c ss

pub came_map : {A : Type 0} (c : Bool) (f : A → Seat) (xs : List A) → ((x : A) → (f x).came ≡ c) → AllCame c (map f xs)
came_map c f [] h = tt
came_map c f (x ∷ xs) h = (h x, came_map c f xs h)

-- the head of the line behind residents
pub head_behind : (t : ℕ) (xs ys : List Seat) → AllCame true xs → is_head t (xs ++ ys) ≡ is_head t ys
head_behind t [] ys a = refl
head_behind t (x ∷ xs) ys a = ap (λ b. cond b (is_head t (xs ++ ys)) (eqb x.tenant t)) a.0 ∙ head_behind t xs ys a.1

pub head_mid : (xs ys : List Seat) (s : Seat) → AllCame true xs → s.came ≡ false → is_head s.tenant (xs ++ s ∷ ys) ≡ true
head_mid xs ys s a e = head_behind s.tenant xs (s ∷ ys) a ∙ ap (λ b. cond b (is_head s.tenant ys) (eqb s.tenant s.tenant)) e ∙ eq-eqb s.tenant s.tenant refl

pub head_map : {A : Type 0} (f : A → Seat) (xs : List A) (ys : List Seat) (s : Seat) → ((x : A) → (f x).came ≡ true) → s.came ≡ false → is_head s.tenant (map f xs ++ s ∷ ys) ≡ true
head_map f xs ys s h e = head_mid (map f xs) ys s (came_map true f xs h) e

-- ---- what seats take

plus_assoc : (a b c : Cost) → plus (plus a b) c ≡ plus a (plus b c)
plus_assoc a b c = cost_by (plus (plus a b) c) (plus a (plus b c)) (omega arith) (omega arith) (omega arith)

plus_nothing : (a : Cost) → plus a nothing ≡ a
plus_nothing a = cost_by (plus a nothing) a (omega arith) (omega arith) (omega arith)

nothing_plus : (a : Cost) → plus nothing a ≡ a
nothing_plus a = cost_by (plus nothing a) a (omega arith) (omega arith) (omega arith)

-- what one takes
abbrev pub part : (came : Bool) → Deed → Cost
part true d = cost_of d
part false d = nothing

pub used_cons : (s : Seat) (ss : List Seat) → used (s ∷ ss) ≡ plus (part s.came s.deed) (used ss)
used_cons s ss = step s.came
  where
    step : (b : Bool) → cond b (plus (cost_of s.deed) (used ss)) (used ss) ≡ plus (part b s.deed) (used ss)
    step true = refl
    step false = sym (nothing_plus (used ss))

pub used-append : (xs ys : List Seat) → used (xs ++ ys) ≡ plus (used xs) (used ys)
used-append [] ys = sym (nothing_plus (used ys))
used-append (x ∷ xs) ys =
    used_cons x (xs ++ ys)
    ∙ ap (λ (c : Cost). plus (part x.came x.deed) c) (used-append xs ys)
    ∙ sym (plus_assoc (part x.came x.deed) (used xs) (used ys))
    ∙ ap (λ (c : Cost). plus c (used ys)) (sym (used_cons x xs))

-- whoever is in line takes nothing
pub used_line : (ss : List Seat) → AllCame false ss → used ss ≡ nothing
used_line [] a = refl
used_line (s ∷ ss) a = ap (λ b. cond b (plus (cost_of s.deed) (used ss)) (used ss)) a.0 ∙ used_line ss a.1

pub used_before : (xs ys : List Seat) → AllCame false ys → used (xs ++ ys) ≡ used xs
used_before xs ys a = used-append xs ys ∙ ap (λ (c : Cost). plus (used xs) c) (used_line ys a) ∙ plus_nothing (used xs)

-- ---- each fits alone

abbrev pub FitAlone : Cost → List Seat → Type 0
FitAlone c ss = AllByRecursion (λ s. within (cost_of s.deed) c ≡ true) ss

fit-append : (c : Cost) (xs ys : List Seat) → FitAlone c xs → FitAlone c ys → FitAlone c (xs ++ ys)
fit-append c [] ys h k = k
fit-append c (x ∷ xs) ys h k = (h.0, fit-append c xs ys h.1 k)

fit_line : (c : Cost) (e : Entry) (o : Option Deed) → fits_alone c o ≡ true → FitAlone c (in_line e o)
fit_line c e None h = tt
fit_line c e (Some d) h = (h, tt)

fit_changed : (c : Cost) (t : ℕ) (f : Seat → Seat) (ss : List Seat) → ((s : Seat) → (f s).deed ≡ s.deed) → FitAlone c ss → FitAlone c (changed t f ss)
fit_changed c t f [] same h = tt
fit_changed c t f (x ∷ xs) same h = (step (eqb x.tenant t), fit_changed c t f xs same h.1)
  where
    step : (b : Bool) → within (cost_of (cond b (f x) x).deed) c ≡ true
    step true = ap (λ (d : Deed). within (cost_of d) c) (same x) ∙ h.0
    step false = h.0

fit_without : (c : Cost) (t : ℕ) (ss : List Seat) → FitAlone c ss → FitAlone c (without t ss)
fit_without c t [] h = tt
fit_without c t (x ∷ xs) h = step (fit_without c t xs h.1) (eqb x.tenant t)
  where
    step : FitAlone c (without t xs) → (b : Bool) → FitAlone c (cond b (without t xs) (x ∷ without t xs))
    step r true = r
    step r false = (h.0, r)

fit_after : (c : Cost) (k : Kind) (ss : List Seat) (n : Note) → FitAlone c ss → HasRoom c k ss n → FitAlone c (after k ss n)
fit_after c Line ss n h r = fit-append c ss (in_line n.entry (deed_in n)) h (fit_line c n.entry (deed_in n) r)
fit_after c Came ss n h r = fit_changed c n.entry.tenant seated ss (λ s. refl) h
fit_after c Ran ss n h r = fit_changed c n.entry.tenant (moved_to n.entry.to) ss (λ s. refl) h
fit_after c Saved ss n h r = h
fit_after c Left ss n h r = fit_without c n.entry.tenant ss h

fit_replay : (g : ℕ) (c : Cost) (ss : List Seat) (ns : List Note) → FitAlone c ss → IsLegalFrom g c ss ns → FitAlone c (replay ss ns)
fit_replay g c ss [] h l = h
fit_replay g c ss (n ∷ ns) h l = fit_replay g c (after n.entry.kind ss n) ns (fit_after c n.entry.kind ss n h l.1) l.2

-- whoever is inside by a legal history fits alone
pub fit_legal : (g : ℕ) (c : Cost) (notes : List Note) → IsLegal g c notes → FitAlone c (replay [] notes)
fit_legal g c notes l = fit_replay g c [] notes tt l
