-- Histories one note longer, and each tenant's part of one.
use Rattle.std.proofs.Common.{◌≡◌, ℕ, eqb, Bool, true, false, List, [], ◌∷◌, ◌++◌, cond, refl, sym, ap, ◌∙◌, subst, eq-eqb, Option, Some, None}
use Rattle.std.proofs.lemmas.Bool.{eqb-true, false≢true}
use Rattle.ten_core.specs.vl_design.specs.declared.capacity.Cost.{Cost}
use Rattle.fab_lock.specs.declared.entry.Entry.{Entry}
use Rattle.fab_lock.specs.declared.entry.Kind.{Kind}
use Rattle.fab_lock.specs.declared.entry.Kind.TheVariants.{Line, Came, Ran, Saved, Left}
use Rattle.fab_model.specs.declared.note.Note.{Note}
use Rattle.fab_model.specs.Deeds.{Deed, deed_in}
use Rattle.fab_model.specs.Histories.{Place, Away, Inside, put, next, May, IsLawful, of_tenant, Seat, place_of, changed, without, in_line, seated, moved_to, after, HasRoom, replay, IsLegalFrom, IsLegal}

-- ---- one note more

pub replay-snoc : (ss : List Seat) (xs : List Note) (n : Note) → replay ss (xs ++ n ∷ []) ≡ after n.entry.kind (replay ss xs) n
replay-snoc ss [] n = refl
replay-snoc ss (x ∷ xs) n = replay-snoc (after x.entry.kind ss x) xs n

pub legal-snoc : (g : ℕ) (c : Cost) (ss : List Seat) (xs : List Note) (n : Note) → IsLegalFrom g c ss xs → May g n.entry.kind (place_of n.entry.tenant (replay ss xs)) n
    → HasRoom c n.entry.kind (replay ss xs) n → IsLegalFrom g c ss (xs ++ n ∷ [])
legal-snoc g c ss [] n l m r = (m, r, tt)
legal-snoc g c ss (x ∷ xs) n l m r = (l.0, l.1, legal-snoc g c (after x.entry.kind ss x) xs n l.2 m r)

-- a note that may follow where these seats are by the history
pub kept_legal : (g : ℕ) (c : Cost) (notes : List Note) (n : Note) (ss : List Seat) → IsLegal g c notes → replay [] notes ≡ ss → May g n.entry.kind (place_of n.entry.tenant ss) n
    → HasRoom c n.entry.kind ss n → IsLegal g c (notes ++ n ∷ [])
kept_legal g c notes n ss l e m r =
    legal-snoc g c [] notes n l (subst (λ (zs : List Seat). May g n.entry.kind (place_of n.entry.tenant zs) n) (sym e) m) (subst (λ (zs : List Seat). HasRoom c n.entry.kind zs n) (sym e) r)

-- which seats are there behind it
pub kept_replay : (notes : List Note) (n : Note) (ss zs : List Seat) → replay [] notes ≡ ss → after n.entry.kind ss n ≡ zs → replay [] (notes ++ n ∷ []) ≡ zs
kept_replay notes n ss zs e a = replay-snoc [] notes n ∙ ap (λ (xs : List Seat). after n.entry.kind xs n) e ∙ a

-- ---- places

abbrev pub is_inside : Place → Bool
is_inside Away = false
is_inside (Inside a b c d) = true

pub not_away : {X : Type 0} (a b : ℕ) (c : Bool) (d : Deed) → Inside a b c d ≡ Away → X
not_away a b c d e = absurd (false≢true (sym (ap is_inside e)))

-- whoever isn't among the first is where it is among the others, and the other way round
pub place_behind : (t : ℕ) (xs ys : List Seat) → place_of t xs ≡ Away → place_of t (xs ++ ys) ≡ place_of t ys
place_behind t [] ys a = refl
place_behind t (x ∷ xs) ys a = step (eqb x.tenant t) a (λ h. place_behind t xs ys h)
  where
    step : (b : Bool) → cond b (Inside x.since x.now x.came x.deed) (place_of t xs) ≡ Away → (place_of t xs ≡ Away → place_of t (xs ++ ys) ≡ place_of t ys) → cond b (Inside x.since x.now x.came x.deed) (place_of t (xs ++ ys)) ≡ place_of t ys
    step true a r = not_away x.since x.now x.came x.deed a
    step false a r = r a

pub place_before : (t : ℕ) (xs ys : List Seat) → place_of t ys ≡ Away → place_of t (xs ++ ys) ≡ place_of t xs
place_before t [] ys a = a
place_before t (x ∷ xs) ys a = ap (λ p. cond (eqb x.tenant t) (Inside x.since x.now x.came x.deed) p) (place_before t xs ys a)

-- ---- what a note does to its own tenant's place, and to another's

line_is_put : (e : Entry) (o : Option Deed) → place_of e.tenant (in_line e o) ≡ put e o
line_is_put e None = refl
line_is_put e (Some d) = ap (λ b. cond b (Inside e.from e.from false d) Away) (eq-eqb e.tenant e.tenant refl)

line_is_away : (t : ℕ) (e : Entry) (o : Option Deed) → eqb e.tenant t ≡ false → place_of t (in_line e o) ≡ Away
line_is_away t e None h = refl
line_is_away t e (Some d) h = ap (λ b. cond b (Inside e.from e.from false d) Away) h

pub line_here : (e : Entry) (o : Option Deed) (ss : List Seat) → place_of e.tenant ss ≡ Away → place_of e.tenant (ss ++ in_line e o) ≡ put e o
line_here e o ss a = place_behind e.tenant ss (in_line e o) a ∙ line_is_put e o

pub line_other : (t : ℕ) (e : Entry) (o : Option Deed) (ss : List Seat) → eqb e.tenant t ≡ false → place_of t (ss ++ in_line e o) ≡ place_of t ss
line_other t e o ss h = place_before t ss (in_line e o) (line_is_away t e o h)

pub changed_here : (t : ℕ) (f : Seat → Seat) (h : Place → Place) (ss : List Seat) → ((s : Seat) → (f s).tenant ≡ s.tenant) → h Away ≡ Away
    → ((s : Seat) → h (Inside s.since s.now s.came s.deed) ≡ Inside (f s).since (f s).now (f s).came (f s).deed) → place_of t (changed t f ss) ≡ h (place_of t ss)
changed_here t f h [] same none some = sym none
changed_here t f h (x ∷ xs) same none some = step (changed_here t f h xs same none some) (eqb x.tenant t) refl
  where
    step : place_of t (changed t f xs) ≡ h (place_of t xs) → (b : Bool) → eqb x.tenant t ≡ b → place_of t (cond b (f x) x ∷ changed t f xs) ≡ h (cond b (Inside x.since x.now x.came x.deed) (place_of t xs))
    step r true e = ap (λ b. cond b (Inside (f x).since (f x).now (f x).came (f x).deed) (place_of t (changed t f xs))) (ap (λ (m : ℕ). eqb m t) (same x) ∙ e) ∙ sym (some x)
    step r false e = ap (λ b. cond b (Inside x.since x.now x.came x.deed) (place_of t (changed t f xs))) e ∙ r

pub other_too : (x k t : ℕ) → eqb x k ≡ true → eqb k t ≡ false → eqb x t ≡ false
other_too x k t e n = ap (λ (m : ℕ). eqb m t) (eqb-true x k e) ∙ n

pub changed_other : (k t : ℕ) (f : Seat → Seat) (ss : List Seat) → ((s : Seat) → (f s).tenant ≡ s.tenant) → eqb k t ≡ false → place_of t (changed k f ss) ≡ place_of t ss
changed_other k t f [] same n = refl
changed_other k t f (x ∷ xs) same n = step (changed_other k t f xs same n) (eqb x.tenant k) refl
  where
    step : place_of t (changed k f xs) ≡ place_of t xs → (b : Bool) → eqb x.tenant k ≡ b → place_of t (cond b (f x) x ∷ changed k f xs) ≡ place_of t (x ∷ xs)
    step r true e =
        let o = other_too x.tenant k t e n in
        ap (λ b. cond b (Inside (f x).since (f x).now (f x).came (f x).deed) (place_of t (changed k f xs))) (ap (λ (m : ℕ). eqb m t) (same x) ∙ o)
        ∙ r
        ∙ sym (ap (λ b. cond b (Inside x.since x.now x.came x.deed) (place_of t xs)) o)
    step r false e = ap (λ p. cond (eqb x.tenant t) (Inside x.since x.now x.came x.deed) p) r

pub without_here : (t : ℕ) (ss : List Seat) → place_of t (without t ss) ≡ Away
without_here t [] = refl
without_here t (x ∷ xs) = step (without_here t xs) (eqb x.tenant t) refl
  where
    step : place_of t (without t xs) ≡ Away → (b : Bool) → eqb x.tenant t ≡ b → place_of t (cond b (without t xs) (x ∷ without t xs)) ≡ Away
    step r true e = r
    step r false e = ap (λ b. cond b (Inside x.since x.now x.came x.deed) (place_of t (without t xs))) e ∙ r

pub without_other : (k t : ℕ) (ss : List Seat) → eqb k t ≡ false → place_of t (without k ss) ≡ place_of t ss
without_other k t [] n = refl
without_other k t (x ∷ xs) n = step (without_other k t xs n) (eqb x.tenant k) refl
  where
    step : place_of t (without k xs) ≡ place_of t xs → (b : Bool) → eqb x.tenant k ≡ b → place_of t (cond b (without k xs) (x ∷ without k xs)) ≡ place_of t (x ∷ xs)
    step r true e = r ∙ sym (ap (λ b. cond b (Inside x.since x.now x.came x.deed) (place_of t xs)) (other_too x.tenant k t e n))
    step r false e = ap (λ p. cond (eqb x.tenant t) (Inside x.since x.now x.came x.deed) p) r

pub away_for_line : (g : ℕ) (p : Place) (n : Note) → May g Line p n → p ≡ Away
away_for_line g Away n m = refl
away_for_line g (Inside a b c d) n m = absurd m

pub place_here : (g : ℕ) (k : Kind) (ss : List Seat) (n : Note) → May g k (place_of n.entry.tenant ss) n → place_of n.entry.tenant (after k ss n) ≡ next k (place_of n.entry.tenant ss) n
place_here g Line ss n m = line_here n.entry (deed_in n) ss (away_for_line g (place_of n.entry.tenant ss) n m)
place_here g Came ss n m = changed_here n.entry.tenant seated (λ p. next Came p n) ss (λ s. refl) refl (λ s. refl)
place_here g Ran ss n m = changed_here n.entry.tenant (moved_to n.entry.to) (λ p. next Ran p n) ss (λ s. refl) refl (λ s. refl)
place_here g Saved ss n m = refl
place_here g Left ss n m = without_here n.entry.tenant ss

pub place_other : (k : Kind) (t : ℕ) (ss : List Seat) (n : Note) → eqb n.entry.tenant t ≡ false → place_of t (after k ss n) ≡ place_of t ss
place_other Line t ss n e = line_other t n.entry (deed_in n) ss e
place_other Came t ss n e = changed_other n.entry.tenant t seated ss (λ s. refl) e
place_other Ran t ss n e = changed_other n.entry.tenant t (moved_to n.entry.to) ss (λ s. refl) e
place_other Saved t ss n e = refl
place_other Left t ss n e = without_other n.entry.tenant t ss e

-- ---- each tenant's notes

pub lawful_from : (g : ℕ) (c : Cost) (t : ℕ) (ss : List Seat) (ns : List Note) → IsLegalFrom g c ss ns → IsLawful g (place_of t ss) (of_tenant t ns)
lawful_from g c t ss [] l = tt
lawful_from g c t ss (n ∷ ns) l = step (lawful_from g c t (after n.entry.kind ss n) ns l.2) (eqb n.entry.tenant t) refl
  where
    step : IsLawful g (place_of t (after n.entry.kind ss n)) (of_tenant t ns) → (b : Bool) → eqb n.entry.tenant t ≡ b → IsLawful g (place_of t ss) (cond b (n ∷ of_tenant t ns) (of_tenant t ns))
    step r true e =
        let same = eqb-true n.entry.tenant t e in (
          subst (λ (u : ℕ). May g n.entry.kind (place_of u ss) n) same l.0,
          subst (λ (p : Place). IsLawful g p (of_tenant t ns))
              (subst (λ (u : ℕ). place_of u (after n.entry.kind ss n) ≡ next n.entry.kind (place_of u ss) n) same (place_here g n.entry.kind ss n l.0))
              r,
        )
    step r false e = subst (λ (p : Place). IsLawful g p (of_tenant t ns)) (place_other n.entry.kind t ss n e) r

pub each_is_lawful : (g t : ℕ) (c : Cost) (notes : List Note) → IsLegal g c notes → IsLawful g Away (of_tenant t notes)
each_is_lawful g t c notes l = lawful_from g c t [] notes l

pub goes_on : (g : ℕ) (c : Cost) (notes : List Note) (n : Note) → IsLegal g c notes → May g n.entry.kind (place_of n.entry.tenant (replay [] notes)) n → HasRoom c n.entry.kind (replay [] notes) n
    → IsLegal g c (notes ++ n ∷ [])
goes_on g c notes n l m r = legal-snoc g c [] notes n l m r
